-- Groups of `all`, `any` and `choose`, and guards of `try`, as the list of them. From Async's documentation of `choose`, of
-- which one choice runs at the most; the parts of an `all` are own.
use Rattle.std.specs.Prelude.{ℕ, ℤ, List, [], ◌∷◌, ◌++◌, Bool, true, false, Option, Some, None, slice_index_or, slice_set, replicate, is_some}
use Rattle.ak_base.specs.Lists.{rest_of}

-- a group: whether it is decided, the registrations that were noted for it, oldest first, and the number of each part
pub record Group : Type 0 where
  pub decided : Bool
  pub notes : List ℕ
  pub parts : List (Option ℤ)

-- a group that does not exist counts as decided
abbrev pub no_group : Group
no_group = record { decided = true; notes = []; parts = [] }

-- the group of a number
abbrev pub group_in : List Group → ℕ → Group
group_in groups g = slice_index_or groups g no_group

-- an undecided group with so many parts without a number
abbrev pub fresh_group : ℕ → Group
fresh_group parts = record { decided = false; notes = []; parts = replicate parts None }

-- one more group, undecided, with so many parts without a number; its own number is how many groups there were
abbrev pub with_group : ℕ → List Group → List Group
with_group parts groups = groups ++ record { decided = false; notes = []; parts = replicate parts None } ∷ []

-- a group is decided
abbrev pub with_decided : ℕ → List Group → List Group
with_decided g groups = slice_set groups g (record (group_in groups g) { decided = true })

-- one more registration is noted for a group, last
abbrev pub with_note : ℕ → ℕ → List Group → List Group
with_note g registration groups =
    slice_set groups g (record (group_in groups g) { notes = (group_in groups g).notes ++ registration ∷ [] })

-- nothing is noted for a group any more
abbrev pub without_notes : ℕ → List Group → List Group
without_notes g groups = slice_set groups g (record (group_in groups g) { notes = [] })

-- the oldest registration that was noted for a group is taken
abbrev pub note_taken : ℕ → List Group → List Group
note_taken g groups = slice_set groups g (record (group_in groups g) { notes = rest_of (group_in groups g).notes })

-- the number of a part of a group, where it has one
abbrev pub part_in : ℕ → ℕ → List Group → Option ℤ
part_in g k groups = slice_index_or (group_in groups g).parts k None

-- a part of a group has its number
abbrev pub part_set : ℕ → ℕ → ℤ → List Group → List Group
part_set g k v groups =
    slice_set groups g (record (group_in groups g) { parts = slice_set (group_in groups g).parts k (Some v) })

-- the numbers of parts: none where a part has no number
abbrev pub all_numbers : List (Option ℤ) → Option (List ℤ)
all_numbers [] = Some []
all_numbers (None ∷ parts) = None
all_numbers (Some v ∷ parts) = elim (all_numbers parts) [ None ↦ None | Some numbers ↦ Some (v ∷ numbers) ]

-- whether every part has a number
abbrev pub has_all : List (Option ℤ) → Bool
has_all parts = is_some (all_numbers parts)
