-- A source and a sink in memory, as their callers see them.
use Rattle.std.specs.Prelude.{ℕ, ◌+◌, ◌-◌, ◌^◌, min, List, ◌++◌, drop}

-- one more, in a count that stands still at the end of its type
abbrev pub counted : ℕ → ℕ
counted n = min (n + 1) (2 ^ 64 - 1)

-- a source in memory
pub record MemSourceState : Type 0 where
  -- the bytes that are left
  pub left : List ℕ
  -- how many bytes a call gives at most
  pub piece : ℕ
  -- the number of the next call, and the numbers of the calls that fail
  pub next : ℕ
  pub failing : List ℕ
  -- how many calls failed
  pub faults : ℕ

-- a sink in memory
pub record MemSinkState : Type 0 where
  -- the bytes that were taken
  pub taken : List ℕ
  -- how many bytes there is room for in all
  pub room : ℕ
  -- how many bytes a call takes at most
  pub piece : ℕ
  -- the number of the next call, and the numbers of the calls that fail
  pub next : ℕ
  pub failing : List ℕ
  -- how many calls failed
  pub faults : ℕ

-- after a call that gave so many bytes
abbrev pub source_gave : ℕ → MemSourceState → MemSourceState
source_gave n s = record s { left = drop n s.left; next = counted s.next }

-- after a call that failed
abbrev pub source_failed : MemSourceState → MemSourceState
source_failed s = record s { next = counted s.next; faults = counted s.faults }

-- after a call that took these bytes
abbrev pub sink_took : List ℕ → MemSinkState → MemSinkState
sink_took piece s = record s { taken = s.taken ++ piece; next = counted s.next }

-- after a call that failed
abbrev pub sink_failed : MemSinkState → MemSinkState
sink_failed s = record s { next = counted s.next; faults = counted s.faults }
