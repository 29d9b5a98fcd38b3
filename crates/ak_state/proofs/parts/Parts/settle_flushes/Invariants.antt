use Rattle.std.proofs.Common.{◌≡◌, ◌<◌, length}
use Rattle.ak_pipe.specs.Calls.{settlements}
use Rattle.ak_machine.specs.Pipes.{pipe_at, flushes_settled}
use Rattle.ak_state.specs.Fits.{FitsSome}
use Rattle.ak_state.proofs.parts.Parts.settle_flushes.Given as goal

-- those that are left come to what all come to
abbrev pub invariant-loop-settled : goal.invariant-loop-settled
invariant-loop-settled l = record {
  pipe : l.p < length l.self.plain.pipes;
  fits : FitsSome l.self.plain;
  names : l.self.names ≡ l.initial.self.names;
  filled : flushes_settled l.p l.self.plain ≡ flushes_settled l.p l.initial.self.plain;
}

abbrev pub decreases-loop-settled : goal.decreases-loop-settled
decreases-loop-settled l = length (settlements (pipe_at l.p l.self.plain))
