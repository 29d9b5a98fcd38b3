use Rattle.std.proofs.Common.{sym, ◌∙◌}
use Rattle.ak_history_laws.proofs.Answering.{served_by}
use Rattle.ak_hub.proofs.Holds.{none_by}
use Rattle.ak_hub.proofs.calls.end_asker.Goals as goal

pub end_asker-requires-clause-idle : goal.end_asker-requires-clause-idle
end_asker-requires-clause-idle c =
    record {
      exists = c.requires.exists;
      not_ended = sym c.ended.ensures ∙ c.if-ended.false;
      served = served_by c.args.pool.now.history c.args.asker (sym c.waiting.ensures ∙ none_by c.waiting.result (sym c.is_some.ensures ∙ c.if-is_some.false));
    }
