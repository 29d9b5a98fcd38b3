-- Reads of values with surviving names.
use Rattle.std.proofs.Common.{ℕ, zero, suc, ◌<◌, ◌≡◌, List, [], ◌∷◌, length, refl, subst, arith}
use Rattle.std.specs.Prelude.{pos}
use Rattle.std.proofs.lemmas.List.{length-map}
use Rattle.std.proofs.Math.ListN.{get_or-map}
use Rattle.ak_frames.specs.declared.value.Value.{Value}
use Rattle.ak_frames.specs.declared.value.Value.TheVariants.{Num, Ivar, Def, Mon, Pipe, Thr, Event, Helper}
use Rattle.ak_machine.specs.Effect.{local, number_of, name_of}
use Rattle.ak_machine.specs.Mapped.{value_mapped, values_mapped}
use Rattle.ak_state.specs.Reads.{IsNum, IsName, IsDeferred, IsMon, IsMonitor}

pub local_mapped : (f : ℕ → ℕ) (vals : List Value) (k : ℕ) → local (values_mapped f vals) k ≡ value_mapped f (local vals k)
local_mapped f vals k = get_or-map (value_mapped f) vals k (Num (pos 0))

pub IsNum-mapped : (f : ℕ → ℕ) (v : Value) → IsNum (value_mapped f v) → IsNum v
IsNum-mapped f (Num z) h = tt
IsNum-mapped f (Ivar i) h = h
IsNum-mapped f (Def i) h = h
IsNum-mapped f (Mon m) h = h
IsNum-mapped f (Pipe p) h = h
IsNum-mapped f (Thr t) h = h
IsNum-mapped f (Event e) h = h
IsNum-mapped f (Helper x) h = h

pub number_of-mapped : (f : ℕ → ℕ) (v : Value) → number_of (value_mapped f v) ≡ number_of v
number_of-mapped f (Num z) = refl
number_of-mapped f (Ivar i) = refl
number_of-mapped f (Def i) = refl
number_of-mapped f (Mon m) = refl
number_of-mapped f (Pipe p) = refl
number_of-mapped f (Thr t) = refl
number_of-mapped f (Event e) = refl
number_of-mapped f (Helper h) = refl

-- a deferred of surviving names is one
pub record NamedIvar (f : ℕ → ℕ) (n : ℕ) (v : Value) : Type 0 where
  pub is_name : IsName v
  pub name : f (name_of v) ≡ name_of (value_mapped f v)
  pub drawn : f (name_of v) < n

pub IsDeferred-mapped : (f : ℕ → ℕ) (n : ℕ) (v : Value) → IsDeferred n (value_mapped f v) → NamedIvar f n v
IsDeferred-mapped f n (Num z) h = absurd h
IsDeferred-mapped f n (Ivar i) h = record { is_name = tt; name = refl; drawn = h }
IsDeferred-mapped f n (Def i) h = record { is_name = tt; name = refl; drawn = h }
IsDeferred-mapped f n (Mon m) h = absurd h
IsDeferred-mapped f n (Pipe p) h = absurd h
IsDeferred-mapped f n (Thr t) h = absurd h
IsDeferred-mapped f n (Event e) h = absurd h
IsDeferred-mapped f n (Helper x) h = absurd h

pub deferred_named : (f : ℕ → ℕ) (n : ℕ) (vals : List Value) (k : ℕ) → IsDeferred n (local (values_mapped f vals) k) → NamedIvar f n (local vals k)
deferred_named f n vals k h = IsDeferred-mapped f n (local vals k) (subst (IsDeferred n) (local_mapped f vals k) h)

pub deferred_bound : (f : ℕ → ℕ) (n : ℕ) (vals : List Value) (k : ℕ) → IsDeferred n (local (values_mapped f vals) k) → k < length vals
deferred_bound f n [] k h = absurd h
deferred_bound f n (v ∷ vals) zero h = omega arith
deferred_bound f n (v ∷ vals) (suc k) h = let p : k < length vals = deferred_bound f n vals k h in omega (arith, p)

pub named_bound : (f : ℕ → ℕ) (vals : List Value) (k : ℕ) → k < length (values_mapped f vals) → k < length vals
named_bound f vals k h = subst (λ n. k < n) (length-map vals (value_mapped f)) h

-- a monitor keeps its number
pub record IsThatMonitor (f : ℕ → ℕ) (n : ℕ) (v : Value) : Type 0 where
  pub is_mon : IsMon v
  pub name : name_of v ≡ name_of (value_mapped f v)
  pub drawn : name_of v < n

IsMonitor-mapped : (f : ℕ → ℕ) (n : ℕ) (v : Value) → IsMonitor n (value_mapped f v) → IsThatMonitor f n v
IsMonitor-mapped f n (Num z) h = absurd h
IsMonitor-mapped f n (Ivar i) h = absurd h
IsMonitor-mapped f n (Def i) h = absurd h
IsMonitor-mapped f n (Mon m) h = record { is_mon = tt; name = refl; drawn = h }
IsMonitor-mapped f n (Pipe p) h = absurd h
IsMonitor-mapped f n (Thr t) h = absurd h
IsMonitor-mapped f n (Event e) h = absurd h
IsMonitor-mapped f n (Helper x) h = absurd h

pub monitor_named : (f : ℕ → ℕ) (n : ℕ) (vals : List Value) (k : ℕ) → IsMonitor n (local (values_mapped f vals) k) → IsThatMonitor f n (local vals k)
monitor_named f n vals k h = IsMonitor-mapped f n (local vals k) (subst (IsMonitor n) (local_mapped f vals k) h)

pub monitor_bound : (f : ℕ → ℕ) (n : ℕ) (vals : List Value) (k : ℕ) → IsMonitor n (local (values_mapped f vals) k) → k < length vals
monitor_bound f n [] k h = absurd h
monitor_bound f n (v ∷ vals) zero h = omega arith
monitor_bound f n (v ∷ vals) (suc k) h = let p : k < length vals = monitor_bound f n vals k h in omega (arith, p)
