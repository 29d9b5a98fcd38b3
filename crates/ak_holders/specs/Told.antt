-- What a trace so far tells of names: how often each was filled, and which a join took away. Own.
use Rattle.std.specs.Prelude.{ℕ, ℤ, ◌≡◌, ◌<◌, ◌≤◌, List, [], ◌∷◌, Bool, true, false, ◌==◌, Option, Some, None, filter, length, slice_index_or}
use Rattle.std.specs.List.{list_any}
use Rattle.ak_trace.specs.declared.entry.Entry.{Entry}
use Rattle.ak_trace.specs.declared.entry.Entry.TheVariants as entry
use Rattle.ak_holders.specs.Fills.{is_fill_of, is_in_join}

-- whether an entry takes the name away
abbrev pub is_gone : ℕ → Entry → Bool
is_gone i (entry.Join r s) = i == s
is_gone i e = false

-- how often a name was filled
abbrev pub times : ℕ → List Entry → ℕ
times i trace = length (filter (is_fill_of i) trace)

-- not yet, where it is empty, and once at most, where it is full
abbrev pub AtMost : Option ℤ → ℕ → Type 0
AtMost None n = n ≡ 0
AtMost (Some v) n = n ≤ 1

-- no entry behind one that tells a name speaks of it
abbrev pub NoneBehind : (tells speaks : ℕ → Entry → Bool) → List Entry → Type 0
NoneBehind tells speaks [] = Unit {0}
NoneBehind tells speaks (e ∷ es) =
    ((i : ℕ) → tells i e ≡ true → list_any (speaks i) es ≡ false) × NoneBehind tells speaks es

-- an entry that is no fill and no join
abbrev pub IsOther : Entry → Type 0
IsOther (entry.Fill i v) = ⊥
IsOther (entry.Join r s) = ⊥
IsOther e = Unit {0}

-- the names that are known were drawn and are in no join that took them away; and the entries so far fill a name once
pub record Told (known : ℕ → Bool) (ivars : List (Option ℤ)) (trace : List Entry) : Type 0 where
  pub once : (i : ℕ) → AtMost (slice_index_or ivars i None) (times i trace)
  pub drawn : (i : ℕ) → known i ≡ true → i < length ivars
  pub left : (i : ℕ) → known i ≡ true → list_any (is_gone i) trace ≡ false
  pub fresh : (i : ℕ) → length ivars ≤ i → list_any (is_gone i) trace ≡ false
  pub gone_unfilled : NoneBehind is_gone is_fill_of trace
  pub gone_unjoined : NoneBehind is_gone is_in_join trace
  pub filled_unjoined : NoneBehind is_fill_of is_in_join trace
