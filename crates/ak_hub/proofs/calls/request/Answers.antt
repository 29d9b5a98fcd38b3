use Rattle.std.proofs.Common.{sym, ◌∙◌}
use Rattle.ak_history_laws.proofs.Answering.{served_by}
use Rattle.ak_hub.proofs.calls.request.Goals as goal

pub request-requires-clause-idle : goal.request-requires-clause-idle
request-requires-clause-idle c =
    record {
      exists = c.requires.exists;
      not_ended = sym c.ended.ensures ∙ c.if-ended.false;
      served = served_by c.args.pool.now.history c.args.asker (sym c.waiting.ensures ∙ c.in_default.is);
    }
