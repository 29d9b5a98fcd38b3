-- What the sources and sinks of bytes promise, and what a buffer before a sink does.
use Rattle.std.specs.Prelude.{◌≡◌, ℕ, ◌+◌, ◌-◌, ◌^◌, ◌≤◌, min, List, [], ◌++◌, Option, option_map, OnOk, OnErr}
use Rattle.std.specs.declared.result.Result.{Result}

-- a count of faults rose: it grew by one at least, or it stands at the end of its type
abbrev pub Rose : ℕ → ℕ → Type 0
Rose before now = min (before + 1) (2 ^ 64 - 1) ≤ now

-- what a source told, if it tells, where this piece stood before what it tells is left
abbrev pub with_front : List ℕ → Option (List ℕ) → Option (List ℕ)
with_front piece left = option_map (λ rest. piece ++ rest) left

-- what a sink tells, if it tells, once it took this piece too
abbrev pub grown : Option (List ℕ) → List ℕ → Option (List ℕ)
grown told piece = option_map (λ taken. taken ++ piece) told

-- the sink took a beginning of these bytes, and nothing else
pub record TookBeginning (old new : Option (List ℕ)) (bytes : List ℕ) : Type 0 where
  pub beginning : List ℕ
  pub lost : List ℕ
  pub took : new ≡ grown old beginning
  pub order : beginning ++ lost ≡ bytes

-- These bytes came behind those that waited, and a beginning of all of them went on to the sink: the rest waits now.
pub record Passes (old new : Option (List ℕ)) (waited waits bytes : List ℕ) : Type 0 where
  pub beginning : List ℕ
  pub took : new ≡ grown old beginning
  pub order : beginning ++ waits ≡ waited ++ bytes

-- What a call leaves that writes these bytes to a sink: the sink took them, or a beginning of them after a fault, which comes
-- only where the sink's count of faults rose.
pub record HasWritten {T E : Type 0} (result : Result T E)
    (old new : Option (List ℕ)) (faults faults' : ℕ) (bytes : List ℕ) : Type 0 where
  pub takes : OnOk result (new ≡ grown old bytes)
  pub begins : OnErr result (TookBeginning old new bytes)
  pub never_falls : faults ≤ faults'
  pub cause : OnErr result (Rose faults faults')

-- What a call leaves that puts these bytes behind those that wait for a sink. After a fault, which comes only where the sink's
-- count of faults rose, the sink took a beginning of all of them, and the rest is lost.
pub record HasPut {T E : Type 0} (result : Result T E)
    (old new : Option (List ℕ)) (faults faults' : ℕ) (waited waits bytes : List ℕ) : Type 0 where
  pub passes : OnOk result (Passes old new waited waits bytes)
  pub begins : OnErr result (TookBeginning old new (waited ++ bytes))
  pub lost : OnErr result (waits ≡ [])
  pub never_falls : faults ≤ faults'
  pub cause : OnErr result (Rose faults faults')
