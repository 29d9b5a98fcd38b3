use Rattle.std.proofs.Common.{◌≡◌, ◌++◌, flat_map, take}
use Rattle.ak_let_text.specs.Words.{statement_bytes}
use Rattle.ak_let_text.proofs.writer.Writer.body.Given as goal

abbrev pub invariant-loop-statement : goal.invariant-loop-statement
invariant-loop-statement l = l.self ≡ l.fn.self ++ flat_map statement_bytes (take l.statement-index l.body)
