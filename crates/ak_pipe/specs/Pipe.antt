-- A pipe: all numbers that were ever written, and how many of them were consumed. From Async's documentation of `Pipe`,
-- which has a size budget, pushback, flushing and closing; the order of the steps is own.
use Rattle.std.specs.Prelude.{ℕ, ℤ, pos, ◌+◌, nat_le, List, [], ◌∷◌, ◌++◌, Bool, true, false, not, ◌||◌, Option, Some, None, length, drop, filter, if◌then◌else◌}
use Rattle.ak_base.specs.Lists.{first_of, rest_of, is_empty_list, without_first}
use Rattle.ak_pipe.specs.declared.flush.Flush.{Flush}
use Rattle.ak_pipe.specs.declared.answer.Wrote.{Wrote}
use Rattle.ak_pipe.specs.declared.answer.PutRefused.{PutRefused}
use Rattle.ak_pipe.specs.declared.answer.PutRefused.TheVariants.{Closed}
use Rattle.ak_pipe.specs.declared.answer.PutRefused.TheVariants as put_refused
use Rattle.ak_pipe.specs.declared.answer.Got.{Got}
use Rattle.ak_pipe.specs.declared.answer.Got.TheVariants.{Item, Eof, Waits}

-- the budget, the numbers ever written, how many were consumed, whether the pipe and its reader are closed, the reads that
-- wait, the pushbacks and the flushes, each oldest first, and the reads that are owed the end, oldest first
pub record Pipe (R : Type 0) : Type 0 where
  pub budget : ℕ
  pub written : List ℤ
  pub consumed : ℕ
  pub closed : Bool
  pub reader_closed : Bool
  pub reads : List R
  pub pushbacks : List ℕ
  pub flushes : List Flush
  pub owed : List R

-- a pipe into which nothing was written
abbrev pub fresh_pipe : {R : Type 0} → ℕ → Pipe R
fresh_pipe budget =
    record {
      budget = budget;
      written = [];
      consumed = 0;
      closed = false;
      reader_closed = false;
      reads = [];
      pushbacks = [];
      flushes = [];
      owed = [];
    }

-- the numbers that were written and not consumed: none where the reader is closed
abbrev pub items_of : {R : Type 0} → Pipe R → List ℤ
items_of p = if p.reader_closed then [] else drop p.consumed p.written

-- whether the length is at most the budget
abbrev pub is_free : {R : Type 0} → Pipe R → Bool
is_free p = nat_le (length (items_of p)) p.budget

-- a number is written before these waiting reads
abbrev pub put_before : {R : Type 0} → List R → ℤ → Pipe R → Pipe R
put_before [] v p = record p { written = p.written ++ v ∷ [] }
put_before (r ∷ reads) v p = record p { written = p.written ++ v ∷ []; consumed = p.consumed + 1; reads = reads }

-- a number is written: the oldest waiting read takes it, where one waits, and else it is the last item
abbrev pub put : {R : Type 0} → ℤ → Pipe R → Pipe R
put v p = put_before p.reads v p

-- the read that takes the next number
abbrev pub taker_of : {R : Type 0} → Pipe R → Option R
taker_of p = first_of p.reads

-- a deferred waits for the pipe to be free
abbrev pub with_pushback : {R : Type 0} → ℕ → Pipe R → Pipe R
with_pushback i p = record p { pushbacks = p.pushbacks ++ i ∷ [] }

-- the front item is consumed
abbrev pub consumed_one : {R : Type 0} → Pipe R → Pipe R
consumed_one p = record p { consumed = p.consumed + 1 }

-- a read waits
abbrev pub with_read : {R : Type 0} → R → Pipe R → Pipe R
with_read r p = record p { reads = p.reads ++ r ∷ [] }

-- the pushbacks of which the pipe is free, oldest first: all of them or none
abbrev pub freed_pushbacks : {R : Type 0} → Pipe R → List ℕ
freed_pushbacks p = if is_free p then p.pushbacks else []

-- the pipe without these
abbrev pub without_freed : {R : Type 0} → Pipe R → Pipe R
without_freed p = if is_free p then record p { pushbacks = [] } else p

-- the pipe without the oldest of these
abbrev pub freed_taken : {R : Type 0} → Pipe R → Pipe R
freed_taken p = if is_free p then record p { pushbacks = rest_of p.pushbacks } else p

-- whether so many consumed numbers reach a flush
abbrev pub is_consumed : ℕ → Flush → Bool
is_consumed consumed flush = nat_le flush.count consumed

-- whether what was written before a flush is consumed, or will never be
abbrev pub is_settled : {R : Type 0} → Pipe R → Flush → Bool
is_settled p flush = p.reader_closed || is_consumed p.consumed flush

-- whether a flush waits on
abbrev pub is_unsettled : {R : Type 0} → Pipe R → Flush → Bool
is_unsettled p flush = not (is_settled p flush)

-- what a settled flush learns: 0 where what was written is consumed, and else 1
abbrev pub flush_number : {R : Type 0} → Pipe R → Flush → ℤ
flush_number p flush = if is_consumed p.consumed flush then pos 0 else pos 1

-- the settled flushes, oldest first
abbrev pub settled_flushes : {R : Type 0} → Pipe R → List Flush
settled_flushes p = filter (is_settled p) p.flushes

-- the pipe without these
abbrev pub without_settled : {R : Type 0} → Pipe R → Pipe R
without_settled p = record p { flushes = filter (is_unsettled p) p.flushes }

-- the pipe without the oldest of these
abbrev pub settled_taken : {R : Type 0} → Pipe R → Pipe R
settled_taken p = record p { flushes = without_first (is_settled p) p.flushes }

-- a deferred waits until all that was written so far is consumed
abbrev pub with_flush : {R : Type 0} → ℕ → Pipe R → Pipe R
with_flush i p = record p { flushes = p.flushes ++ record { ivar = i; count = length p.written } ∷ [] }

-- what a flush of now learns at once: 1 where the reader is closed, and else 0 where no item is left
abbrev pub flushed_at_once : {R : Type 0} → Pipe R → Option ℤ
flushed_at_once p = if p.reader_closed then Some (pos 1) else if is_empty_list (items_of p) then Some (pos 0) else None

-- the reads that wait are owed the end
abbrev pub reads_owed : {R : Type 0} → Pipe R → Pipe R
reads_owed p = record p { reads = []; owed = p.owed ++ p.reads }

-- nothing is written any more; where the pipe was closed before, nothing changes
abbrev pub after_close : {R : Type 0} → Pipe R → Pipe R
after_close p = if p.closed then p else reads_owed (record p { closed = true })

-- nothing is written or read any more, and the items are dropped; where the reader was closed before, nothing changes
abbrev pub after_close_read : {R : Type 0} → Pipe R → Pipe R
after_close_read p = if p.reader_closed then p else reads_owed (record p { closed = true; reader_closed = true })

-- every read that was owed the end learned of it
abbrev pub without_owed : {R : Type 0} → Pipe R → Pipe R
without_owed p = record p { owed = [] }

-- the oldest read that is owed the end is taken
abbrev pub owed_taken : {R : Type 0} → Pipe R → Pipe R
owed_taken p = record p { owed = rest_of p.owed }

-- what a number that is written meets: the read that takes it, and whether the pipe is free then
abbrev pub wrote : {R : Type 0} → ℤ → Pipe R → Wrote R
wrote v p = record { served = taker_of p; free = is_free (put v p) }

-- a number is written, and its deferred waits where the pipe is not free then
abbrev pub after_write : {R : Type 0} → ℤ → ℕ → Pipe R → Pipe R
after_write v i p = if is_free (put v p) then put v p else with_pushback i (put v p)

-- why a number is not written
abbrev pub put_refusal : {R : Type 0} → Pipe R → PutRefused
put_refusal p = if p.closed then Closed else put_refused.NoMemory

-- what a read of these items gets, by whether the pipe is closed
abbrev pub got_from : {R : Type 0} → List ℤ → Bool → R → Got R
got_from (v ∷ items) closed r = Item v r
got_from [] true r = Eof r
got_from [] false r = Waits

-- what a read gets
abbrev pub got : {R : Type 0} → R → Pipe R → Got R
got r p = got_from (items_of p) p.closed r

-- a read of these items
abbrev pub read_from : {R : Type 0} → List ℤ → Bool → R → Pipe R → Pipe R
read_from (v ∷ items) closed r p = consumed_one p
read_from [] true r p = p
read_from [] false r p = with_read r p

-- a read takes the front item, or learns of the end, or waits
abbrev pub after_read : {R : Type 0} → R → Pipe R → Pipe R
after_read r p = read_from (items_of p) p.closed r p

-- a flush waits, where it does not learn its number at once
abbrev pub flush_kept : {R : Type 0} → Option ℤ → ℕ → Pipe R → Pipe R
flush_kept (Some v) i p = p
flush_kept None i p = with_flush i p

-- a flush of now
abbrev pub after_flushed : {R : Type 0} → ℕ → Pipe R → Pipe R
after_flushed i p = flush_kept (flushed_at_once p) i p

-- the deferred of a flush, with what it learns
abbrev pub settlement : {R : Type 0} → Option Flush → Pipe R → Option (ℕ × ℤ)
settlement None p = None
settlement (Some flush) p = Some (flush.ivar, flush_number p flush)

-- what the oldest settled flush learns, where there is one
abbrev pub next_settlement : {R : Type 0} → Pipe R → Option (ℕ × ℤ)
next_settlement p = settlement (first_of (settled_flushes p)) p
