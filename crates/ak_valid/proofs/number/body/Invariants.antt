use Rattle.std.proofs.Common.{◌≡◌, take, map}
use Rattle.ak_valid.specs.Numbered.{numbered_statement, param_names, proc_names}
use Rattle.ak_valid.proofs.number.body.Given as goal

abbrev pub invariant-loop-statement : goal.invariant-loop-statement
invariant-loop-statement l = l.numbered.items ≡ map (numbered_statement (proc_names l.procs) (param_names l.locals)) (take l.statement-index l.body)
