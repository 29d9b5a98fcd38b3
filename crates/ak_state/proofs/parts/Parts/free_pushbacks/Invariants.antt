use Rattle.std.proofs.Common.{◌≡◌, ◌<◌, length}
use Rattle.ak_pipe.specs.Pipe.{freed_pushbacks}
use Rattle.ak_machine.specs.Pipes.{pipe_at, pushbacks_freed}
use Rattle.ak_state.specs.Fits.{FitsSome}
use Rattle.ak_state.proofs.parts.Parts.free_pushbacks.Given as goal

-- those that are left come to what all come to
abbrev pub invariant-loop-i : goal.invariant-loop-i
invariant-loop-i l = record {
  pipe : l.p < length l.self.plain.pipes;
  fits : FitsSome l.self.plain;
  names : l.self.names ≡ l.initial.self.names;
  filled : pushbacks_freed l.p l.self.plain ≡ pushbacks_freed l.p l.initial.self.plain;
}

abbrev pub decreases-loop-i : goal.decreases-loop-i
decreases-loop-i l = length (freed_pushbacks (pipe_at l.p l.self.plain))
