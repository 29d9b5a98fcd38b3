-- What comes to a pipe, step by step.
use Rattle.std.specs.Prelude.{ℕ, ℤ, Option}
use Rattle.std.specs.Option.{option_map}
use Rattle.ak_pipe.specs.declared.answer.Wrote.{Wrote}
use Rattle.ak_pipe.specs.declared.answer.Got.{Got}
use Rattle.ak_pipe.specs.declared.answer.Got.TheVariants.{Item, Eof, Waits}
use Rattle.ak_pipe.specs.Pipe as pipe
use Rattle.ak_pipe.specs.Calls.{free_given, eof_given}
use Rattle.ak_machine.specs.declared.held.Read.{Read}
use Rattle.ak_machine.specs.State.{State}
use Rattle.ak_machine.specs.Mapped.{read_mapped}
use Rattle.ak_machine.specs.Pipes.{pipe_at, with_pipe_at}

-- a pipe of the state after a step of its own
abbrev pub piped : (pipe.Pipe Read → pipe.Pipe Read) → ℕ → State → State
piped step p s = with_pipe_at p (step (pipe_at p s)) s

-- what comes of a number that was written, with other numbers in place of the ivars'
abbrev pub wrote_mapped : (ℕ → ℕ) → Wrote Read → Wrote Read
wrote_mapped f w = record w { served = option_map (read_mapped f) w.served }

-- what a read got
abbrev pub got_mapped : (ℕ → ℕ) → Got Read → Got Read
got_mapped f (Item v r) = Item v (read_mapped f r)
got_mapped f (Eof r) = Eof (read_mapped f r)
got_mapped f Waits = Waits

-- a flush with what it learns
abbrev pub settlement_mapped : (ℕ → ℕ) → ℕ × ℤ → ℕ × ℤ
settlement_mapped f settled = (f settled.0, settled.1)

-- the oldest pushback of which a pipe is free, the oldest settled flush, and the oldest read that is owed the end, where there
-- is one
abbrev pub first_freed : ℕ → State → Option ℕ
first_freed p s = free_given (pipe_at p s)

abbrev pub first_settled : ℕ → State → Option (ℕ × ℤ)
first_settled p s = pipe.next_settlement (pipe_at p s)

abbrev pub first_owed : ℕ → State → Option Read
first_owed p s = eof_given (pipe_at p s)
