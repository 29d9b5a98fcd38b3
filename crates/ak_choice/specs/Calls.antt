-- Calls of `next_note` for a group, made until one finds none: what they give, and the groups that they leave. Own.
use Rattle.std.specs.Prelude.{ℕ, ◌≡◌, List, [], ◌∷◌, Some, None}
use Rattle.ak_base.specs.Lists.{first_of}
use Rattle.ak_choice.specs.Groups.{Group, group_in, note_taken}

-- calls from these groups give these registrations and then none, and leave other groups
abbrev pub NotesGiven : ℕ → List ℕ → List Group → List Group → Type 0
NotesGiven g [] before after = (first_of (group_in before g).notes ≡ None) × (after ≡ before)
NotesGiven g (registration ∷ registrations) before after =
    (first_of (group_in before g).notes ≡ Some registration) × NotesGiven g registrations (note_taken g before) after
