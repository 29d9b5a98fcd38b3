use Rattle.std.proofs.Common.{flat_map, ap, ◌++◌, ◌∙◌}
use Rattle.ak_let_text.specs.Words.{head_bytes, statement_bytes}
use Rattle.ak_let_text.proofs.Spaced.{proc_put, on_ok}
use Rattle.ak_let_text.proofs.writer.Writer.proc.Goals as goal

pub returns : goal.returns
returns c =
    on_ok c.put.result
    (proc_put c.args.proc.now c.args.self.now c.head.new.self c.body.new.self c.put.new.self
    (c.in_ok-head.ensures ∙ ap (λ l. c.args.self.now ++ head_bytes c.args.proc.now.name l) c.as_slice.ensures)
    (c.in_ok-body.ensures ∙ ap (λ l. c.head.new.self ++ flat_map statement_bytes l) c.as_slice-2.ensures))
    c.put.ensures
