use Rattle.ak_let_text.proofs.Spaced.{head_put, on_ok}
use Rattle.ak_let_text.proofs.writer.Writer.head.Goals as goal

pub returns : goal.returns
returns c =
    on_ok c.put-2.result
    (head_put c.args.name c.args.params.now c.args.self.now c.put.new.self c.proc_name.new.self c.params.new.self c.put-2.new.self
    c.in_ok-put.ensures c.in_ok-proc_name.ensures c.in_ok-params.ensures)
    c.put-2.ensures
