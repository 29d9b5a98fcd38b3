use Rattle.std.proofs.Common.{◌++◌}
use Rattle.std.specs.List.{flat_map}
use Rattle.ak_script.specs.declared.script.Statement.{Statement}
use Rattle.ak_script.specs.Statements.{binds}
use Rattle.ak_valid.specs.Faults.{first_fault, body_lines}
use Rattle.ak_valid.proofs.Lines.{Walked}
use Rattle.ak_valid.proofs.check.body.Given as goal

abbrev pub invariant-loop-statement : goal.invariant-loop-statement
invariant-loop-statement l =
    Walked l.procs l.locals l.body l.statement-index (first_fault (body_lines l.procs l.initial.locals l.body))
    (l.initial.locals ++ flat_map (λ (statement : Statement). binds statement.stmt) l.body)
