-- How a pipe is kept.
use Rattle.std.specs.Prelude.{ℕ, ℤ, ◌≡◌, ◌<◌, ◌≤◌, List, [], ◌∷◌, Bool, true, false, ◌||◌, nat_le, pos, Option, Some, None, length, drop, if◌then◌else◌}
use Rattle.ak_pipe.specs.declared.flush.Flush.{Flush}
use Rattle.ak_pipe.specs.Pipe.{Pipe}

-- the reads that wait: none where the pipe is closed
abbrev pub waiting_of : {R : Type 0} → Bool → List R → List R
waiting_of true reads = []
waiting_of false reads = reads

-- the reads that are owed the end: where the pipe is closed those that waited
abbrev pub owed_of : {R : Type 0} → Bool → List R → List R
owed_of true reads = reads
owed_of false reads = []

-- the pipe that is kept so
abbrev pub pipe_of : {R : Type 0} → ℕ → List ℤ → ℕ → Bool → Bool → List R → List ℕ → List Flush → Pipe R
pipe_of budget written consumed closed reader_closed reads pushbacks flushes =
    record {
      budget = budget;
      written = written;
      consumed = consumed;
      closed = closed;
      reader_closed = reader_closed;
      reads = waiting_of closed reads;
      pushbacks = pushbacks;
      flushes = flushes;
      owed = owed_of closed reads;
    }

-- flushes in order, from a count on up to another
abbrev pub AreFlushes : ℕ → ℕ → List Flush → Type 0
AreFlushes low high [] = Unit
AreFlushes low high (flush ∷ flushes) = (low ≤ flush.count) × (flush.count ≤ high) × AreFlushes flush.count high flushes

-- what every pipe keeps: the items are what was written and not consumed, none where its reader is closed, and none where a
-- read waits
pub record IsKept {R : Type 0} (written : List ℤ) (count consumed : ℕ) (closed reader_closed : Bool) (items : List ℤ) (reads : List R)
    (flushes : List Flush) : Type 0 where
  pub counted : count ≡ length written
  pub within : consumed ≤ count
  pub left : items ≡ (if reader_closed then [] else drop consumed written)
  pub hungry : closed ≡ false → 0 < length reads → items ≡ []
  pub both : reader_closed ≡ true → closed ≡ true
  pub ordered : AreFlushes 0 count flushes

-- whether a flush is settled, by how many were consumed and whether the reader is closed
abbrev pub is_reached : ℕ → Bool → Flush → Bool
is_reached consumed reader_closed flush = reader_closed || nat_le flush.count consumed

-- what a settled flush learns
abbrev pub learned : ℕ → Flush → ℤ
learned consumed flush = if nat_le flush.count consumed then pos 0 else pos 1

-- the oldest flush, where it is settled
abbrev pub front_settled : ℕ → Bool → List Flush → Option (ℕ × ℤ)
front_settled consumed reader_closed [] = None
front_settled consumed reader_closed (flush ∷ flushes) =
    if is_reached consumed reader_closed flush then Some (flush.ivar, learned consumed flush) else None

-- the flushes without that one
abbrev pub without_settled : ℕ → Bool → List Flush → List Flush
without_settled consumed reader_closed [] = []
without_settled consumed reader_closed (flush ∷ flushes) =
    if is_reached consumed reader_closed flush then flushes else flush ∷ flushes
