-- Runs of calls of a pipe, and the numbers that they hand out.
use Rattle.std.specs.Prelude.{ℕ, ℤ, List, [], ◌∷◌, ◌++◌, if◌then◌else◌}
use Rattle.ak_pipe.specs.Pipe.{Pipe, items_of, put, after_write, after_read, after_flushed, after_close, after_close_read, freed_taken, settled_taken, owed_taken}

-- a call that changes a pipe
pub data Call (R : Type 0) : Type 0 where
  Put : (v : ℤ) → Call R
  Write : (v : ℤ) → (i : ℕ) → Call R
  Read : (r : R) → Call R
  Flushed : (i : ℕ) → Call R
  Close : Call R
  CloseRead : Call R
  NextFree : Call R
  NextFlushed : Call R
  NextEof : Call R

-- the pipe after a call: where it is closed, nothing is written
abbrev pub called : {R : Type 0} → Call R → Pipe R → Pipe R
called (Put v) p = if p.closed then p else put v p
called (Write v i) p = if p.closed then p else after_write v i p
called (Read r) p = after_read r p
called (Flushed i) p = after_flushed i p
called Close p = after_close p
called CloseRead p = after_close_read p
called NextFree p = freed_taken p
called NextFlushed p = settled_taken p
called NextEof p = owed_taken p

-- the pipe after calls
abbrev pub after : {R : Type 0} → List (Call R) → Pipe R → Pipe R
after [] p = p
after (call ∷ calls) p = after calls (called call p)

-- a number that is written goes to the oldest of these reads, where one waits
abbrev pub served : {R : Type 0} → List R → ℤ → List ℤ
served [] v = []
served (r ∷ reads) v = v ∷ []

-- the front one of these items
abbrev pub front : List ℤ → List ℤ
front [] = []
front (v ∷ items) = v ∷ []

-- the number that a call hands out, where it hands one out
abbrev pub handed : {R : Type 0} → Call R → Pipe R → List ℤ
handed (Put v) p = if p.closed then [] else served p.reads v
handed (Write v i) p = if p.closed then [] else served p.reads v
handed (Read r) p = front (items_of p)
handed (Flushed i) p = []
handed Close p = []
handed CloseRead p = []
handed NextFree p = []
handed NextFlushed p = []
handed NextEof p = []

-- the numbers that calls hand out, in order
abbrev pub handed_out : {R : Type 0} → List (Call R) → Pipe R → List ℤ
handed_out [] p = []
handed_out (call ∷ calls) p = handed call p ++ handed_out calls (called call p)
