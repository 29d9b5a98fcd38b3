use Rattle.std.proofs.Common.{◌≡◌, ◌<◌, length}
use Rattle.ak_machine.specs.Pipes.{pipe_at, eofs_called}
use Rattle.ak_state.proofs.parts.Parts.call_eofs.Given as goal

-- those that are left come to what all come to
abbrev pub invariant-loop-read : goal.invariant-loop-read
invariant-loop-read l = record {
  pipe : l.p < length l.self.plain.pipes;
  names : l.self.names ≡ l.initial.self.names;
  called : eofs_called l.p l.self.plain ≡ eofs_called l.p l.initial.self.plain;
}

abbrev pub decreases-loop-read : goal.decreases-loop-read
decreases-loop-read l = length (pipe_at l.p l.self.plain).owed
