use Rattle.ak_let_reader.proofs.Firsts.{Walked}
use Rattle.ak_let_reader.proofs.names.lines.Given as goal

abbrev pub invariant-loop-one : goal.invariant-loop-one
invariant-loop-one l = Walked l.named l.initial.known l.known l.lines l.one-index l.numbered
