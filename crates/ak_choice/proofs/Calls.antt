-- Calls of `next_note` one at a time give what is taken at once.
use Rattle.std.proofs.Common.{ℕ, ◌<◌, ◌≡◌, List, [], ◌∷◌, length, refl, ap, sym, ◌∙◌, subst, inl, inr}
use Rattle.std.specs.Prelude.{◌↔◌, Some, None, slice_set}
use Rattle.std.proofs.lemmas.Bool.{cases_lt, true≢false}
use Rattle.std.proofs.lemmas.List.{get_or-set_same, set-get_or, set-set, get_or_past}
use Rattle.ak_base.specs.Lists.{first_of, rest_of, is_empty_list}
use Rattle.ak_choice.specs.Groups.{Group, no_group, group_in, note_taken, without_notes}
use Rattle.ak_choice.specs.Calls.{NotesGiven}

none_some : (r : ℕ) → None ≡ Some r → ⊥
none_some r e = cc

same_number : (r q : ℕ) → Some r ≡ Some q → r ≡ q
same_number r q e = cc

-- what calls give is determined
determined : (g : ℕ) (rs qs : List ℕ) (before x y : List Group) → NotesGiven g rs before x → NotesGiven g qs before y → (rs ≡ qs) × (x ≡ y)
determined g [] [] before x y h k = (refl, h.1 ∙ sym k.1)
determined g [] (q ∷ qs) before x y h k = absurd (none_some q (sym h.0 ∙ k.0))
determined g (r ∷ rs) [] before x y h k = absurd (none_some r (sym k.0 ∙ h.0))
determined g (r ∷ rs) (q ∷ qs) before x y h k =
    let rest = determined g rs qs (note_taken g before) x y h.1 k.1
    in (ap (λ n. n ∷ rs) (same_number r q (sym h.0 ∙ k.0)) ∙ ap (λ ns. q ∷ ns) rest.0, rest.1)

-- a group with notes exists
exists_since : (g r : ℕ) (rs : List ℕ) (groups : List Group) → (group_in groups g).notes ≡ r ∷ rs → g < length groups
exists_since g r rs groups e =
    elim (cases_lt g (length groups)) [
      | inl l ↦ l
      | inr m ↦ absurd (true≢false (ap is_empty_list (sym (ap (λ (x : Group). x.notes) (get_or_past groups g no_group m)) ∙ e)))
    ]

-- the group with other notes
abbrev with_notes : Group → List ℕ → Group
with_notes x notes = record { decided = x.decided; notes = notes; parts = x.parts }

taken_in : (g r : ℕ) (rs : List ℕ) (groups : List Group) → (group_in groups g).notes ≡ r ∷ rs
    → group_in (note_taken g groups) g ≡ with_notes (group_in groups g) rs
taken_in g r rs groups e =
    get_or-set_same groups g _ no_group (exists_since g r rs groups e) ∙ ap (λ notes. with_notes (group_in groups g) (rest_of notes)) e

notes_given : (g : ℕ) (notes : List ℕ) (groups : List Group) → (group_in groups g).notes ≡ notes → NotesGiven g notes groups (without_notes g groups)
notes_given g [] groups e =
    (ap first_of e, ap (λ notes. slice_set groups g (with_notes (group_in groups g) notes)) (sym e) ∙ set-get_or groups g no_group)
notes_given g (r ∷ rs) groups e =
    let taken = taken_in g r rs groups e
    in let left : without_notes g (note_taken g groups) ≡ without_notes g groups =
    ap (λ (x : Group). slice_set (note_taken g groups) g (with_notes x [])) taken ∙ set-set groups g _ _
    in (ap first_of e, subst (NotesGiven g rs (note_taken g groups)) left (notes_given g rs (note_taken g groups) (ap (λ (x : Group). x.notes) taken)))

pub notes_exactly : (g : ℕ) (registrations : List ℕ) (groups after : List Group)
    → NotesGiven g registrations groups after ↔ ((registrations ≡ (group_in groups g).notes) × (after ≡ without_notes g groups))
notes_exactly g registrations groups after =
    let given = notes_given g (group_in groups g).notes groups refl
    in (
      λ h. determined g registrations (group_in groups g).notes groups after (without_notes g groups) h given,
      λ e. subst (λ (rs : List ℕ). NotesGiven g rs groups after) (sym e.0) (subst (NotesGiven g (group_in groups g).notes groups) (sym e.1) given),
    )
