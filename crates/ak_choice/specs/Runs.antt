-- Runs of calls of the groups: how often they decide a group, and what they note for it and take. Own.
use Rattle.std.specs.Prelude.{ℕ, ℤ, ◌≡◌, ◌+◌, ◌<◌, None, List, [], ◌∷◌, ◌++◌, Bool, true, false, ◌==◌, length, take, if◌then◌else◌}
use Rattle.ak_choice.specs.Groups.{Group, group_in, with_group, with_note, note_taken, with_decided, part_in, part_set}

-- a call that changes the groups
pub data Call : Type 0 where
  Begin : (parts : ℕ) → Call
  Note : (g registration : ℕ) → Call
  NextNote : (g : ℕ) → Call
  Decide : (g : ℕ) → Call
  SetPart : (g k : ℕ) → (v : ℤ) → Call

-- the groups after a call
abbrev pub called : Call → List Group → List Group
called (Begin parts) groups = with_group parts groups
called (Note g registration) groups = with_note g registration groups
called (NextNote g) groups = note_taken g groups
called (Decide g) groups = with_decided g groups
called (SetPart g k v) groups = part_set g k v groups

-- the groups after calls
abbrev pub after : List Call → List Group → List Group
after [] groups = groups
after (call ∷ calls) groups = after calls (called call groups)

-- 1 where a group is undecided, and else 0
abbrev pub decision : Bool → ℕ
decision true = 0
decision false = 1

-- how often a call decides a group that was undecided
abbrev pub decided_by : ℕ → Call → List Group → ℕ
decided_by g (Begin parts) groups = 0
decided_by g (Note h registration) groups = 0
decided_by g (NextNote h) groups = 0
decided_by g (Decide h) groups = if h == g then decision (group_in groups g).decided else 0
decided_by g (SetPart h k v) groups = 0

-- how often calls decide a group that was undecided
abbrev pub decisions : ℕ → List Call → List Group → ℕ
decisions g [] groups = 0
decisions g (call ∷ calls) groups = decided_by g call groups + decisions g calls (called call groups)

-- a part gets its number once
abbrev pub IsAllowed : Call → List Group → Type 0
IsAllowed (Begin parts) groups = Unit
IsAllowed (Note g registration) groups = Unit
IsAllowed (NextNote g) groups = Unit
IsAllowed (Decide g) groups = Unit
IsAllowed (SetPart g k v) groups = part_in g k groups ≡ None

-- each call is allowed where it is made
abbrev pub AreAllowed : List Call → List Group → Type 0
AreAllowed [] groups = Unit
AreAllowed (call ∷ calls) groups = IsAllowed call groups × AreAllowed calls (called call groups)

-- a call names a group that exists
abbrev pub IsOfGroup : Call → List Group → Type 0
IsOfGroup (Begin parts) groups = Unit
IsOfGroup (Note g registration) groups = g < length groups
IsOfGroup (NextNote g) groups = g < length groups
IsOfGroup (Decide g) groups = g < length groups
IsOfGroup (SetPart g k v) groups = g < length groups

-- each call names a group that exists where it is made
abbrev pub AreOfGroups : List Call → List Group → Type 0
AreOfGroups [] groups = Unit
AreOfGroups (call ∷ calls) groups = IsOfGroup call groups × AreOfGroups calls (called call groups)

-- the registration that a call notes for a group
abbrev pub noted_by : ℕ → Call → List ℕ
noted_by g (Begin parts) = []
noted_by g (Note h registration) = if h == g then registration ∷ [] else []
noted_by g (NextNote h) = []
noted_by g (Decide h) = []
noted_by g (SetPart h k v) = []

-- the registrations that calls note for a group, in order
abbrev pub noted : ℕ → List Call → List ℕ
noted g [] = []
noted g (call ∷ calls) = noted_by g call ++ noted g calls

-- the registration that a call takes from a group, where one is left
abbrev pub taken_by : ℕ → Call → List Group → List ℕ
taken_by g (Begin parts) groups = []
taken_by g (Note h registration) groups = []
taken_by g (NextNote h) groups = if h == g then take 1 (group_in groups g).notes else []
taken_by g (Decide h) groups = []
taken_by g (SetPart h k v) groups = []

-- the registrations that calls take from a group, in order
abbrev pub taken : ℕ → List Call → List Group → List ℕ
taken g [] groups = []
taken g (call ∷ calls) groups = taken_by g call groups ++ taken g calls (called call groups)
