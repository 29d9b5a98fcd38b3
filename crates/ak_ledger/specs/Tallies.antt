-- What a state tells of the numbers of its pipes. Own.
use Rattle.std.specs.Prelude.{ℕ, ℤ, List, map, Bool}
use Rattle.ak_pipe.specs.Pipe.{Pipe}
use Rattle.ak_machine.specs.declared.held.Read.{Read}
use Rattle.ak_machine.specs.State.{State}

-- the procedure to which a read gives its item
abbrev pub proc_of : Read → ℕ
proc_of r = r.item.proc

-- the numbers that were ever written to a pipe, how many were consumed, whether the pipe and its reader are closed, and the
-- procedures of the reads that wait, oldest first
pub record Tally : Type 0 where
  pub written : List ℤ
  pub consumed : ℕ
  pub closed : Bool
  pub reader_closed : Bool
  pub waiting : List ℕ

abbrev pub tally_of : Pipe Read → Tally
tally_of p = record {
  written = p.written;
  consumed = p.consumed;
  closed = p.closed;
  reader_closed = p.reader_closed;
  waiting = map proc_of p.reads;
}

-- of each pipe of a state
abbrev pub tallies_of : State → List Tally
tallies_of s = map tally_of s.pipes
