-- The notes of a group are taken in their order, and none is lost.
use Rattle.std.proofs.Common.{ℕ, zero, suc, ◌<◌, ◌≡◌, List, [], ◌∷◌, ◌++◌, length, take, refl, ap, sym, ◌∙◌, Bool, true, false, cond, append-nil, append_assoc}
use Rattle.std.specs.Prelude.{◌==◌, slice_set}
use Rattle.std.proofs.lemmas.Grind.{get_or-set_at}
use Rattle.std.proofs.lemmas.Bool.{eqb-true, eq-eqb, true≢false}
use Rattle.std.proofs.lemmas.List.{get_or-set_other}
use Rattle.ak_base.specs.Lists.{rest_of}
use Rattle.ak_choice.specs.Groups.{Group, group_in, with_group, with_note, note_taken}
use Rattle.ak_choice.specs.Runs.{Call, Begin, Note, NextNote, Decide, SetPart, called, after, IsOfGroup, AreOfGroups, noted_by, noted, taken_by, taken}

abbrev notes_of : ℕ → List Group → List ℕ
notes_of g groups = (group_in groups g).notes

-- the group behind the last one has no notes, as one that does not exist has none
begun_same : (g parts : ℕ) (groups : List Group) → notes_of g (with_group parts groups) ≡ notes_of g groups
begun_same g parts [] = of g
  where
    of : (k : ℕ) → notes_of k (with_group parts []) ≡ notes_of k []
    of zero = refl
    of (suc k) = refl
begun_same zero parts (x ∷ groups) = refl
begun_same (suc g) parts (x ∷ groups) = begun_same g parts groups

-- a group in the place of another
put_other : (g h : ℕ) (x : Group) (groups : List Group) → (h == g) ≡ false → notes_of g (slice_set groups h x) ≡ notes_of g groups
put_other g h x groups e = ap (λ (y : Group). y.notes) (get_or-set_other groups h g x _ (λ s. true≢false (sym (eq-eqb h g (sym s)) ∙ e)))

put_same : (g h : ℕ) (x : Group) (groups : List Group) → (h == g) ≡ true → h < length groups → notes_of g (slice_set groups h x) ≡ x.notes
put_same g h x groups e l = ap (λ (y : Group). y.notes) (get_or-set_at groups h g x _ (sym (eqb-true h g e)) l)

-- and with the notes that stood there
put_kept : (t : Bool) (g h : ℕ) (x : Group) (groups : List Group) → (h == g) ≡ t → h < length groups → x.notes ≡ notes_of h groups
    → notes_of g (slice_set groups h x) ≡ notes_of g groups
put_kept true g h x groups e l n = put_same g h x groups e l ∙ n ∙ ap (λ k. notes_of k groups) (eqb-true h g e)
put_kept false g h x groups e l n = put_other g h x groups e

first_and_rest : (xs : List ℕ) → take 1 xs ++ rest_of xs ≡ xs
first_and_rest [] = refl
first_and_rest (x ∷ xs) = refl

note_by : (t : Bool) (g h registration : ℕ) (groups : List Group) → (h == g) ≡ t → h < length groups
    → notes_of g (with_note h registration groups) ≡ notes_of g groups ++ cond t (registration ∷ []) []
note_by true g h registration groups e l = put_same g h _ groups e l ∙ ap (λ k. notes_of k groups ++ registration ∷ []) (eqb-true h g e)
note_by false g h registration groups e l = put_other g h _ groups e ∙ sym (append-nil (notes_of g groups))

take_by : (t : Bool) (g h : ℕ) (groups : List Group) → (h == g) ≡ t → h < length groups
    → cond t (take 1 (notes_of g groups)) [] ++ notes_of g (note_taken h groups) ≡ notes_of g groups
take_by true g h groups e l =
    ap (λ xs. take 1 (notes_of g groups) ++ xs) (put_same g h _ groups e l ∙ ap (λ k. rest_of (notes_of k groups)) (eqb-true h g e))
    ∙ first_and_rest (notes_of g groups)
take_by false g h groups e l = put_other g h _ groups e

-- what a call takes, and what it leaves
one_call : (g : ℕ) (call : Call) (groups : List Group) → IsOfGroup call groups
    → taken_by g call groups ++ notes_of g (called call groups) ≡ notes_of g groups ++ noted_by g call
one_call g (Begin parts) groups l = begun_same g parts groups ∙ sym (append-nil (notes_of g groups))
one_call g (Note h registration) groups l = note_by (h == g) g h registration groups refl l
one_call g (NextNote h) groups l = take_by (h == g) g h groups refl l ∙ sym (append-nil (notes_of g groups))
one_call g (Decide h) groups l = put_kept (h == g) g h _ groups refl l refl ∙ sym (append-nil (notes_of g groups))
one_call g (SetPart h k v) groups l = put_kept (h == g) g h _ groups refl l refl ∙ sym (append-nil (notes_of g groups))

pub kept : (g : ℕ) (calls : List Call) (groups : List Group) → AreOfGroups calls groups
    → taken g calls groups ++ notes_of g (after calls groups) ≡ notes_of g groups ++ noted g calls
kept g [] groups a = sym (append-nil (notes_of g groups))
kept g (call ∷ calls) groups a =
    append_assoc (taken_by g call groups) (taken g calls (called call groups)) _
    ∙ ap (λ xs. taken_by g call groups ++ xs) (kept g calls (called call groups) a.1)
    ∙ sym (append_assoc (taken_by g call groups) (notes_of g (called call groups)) (noted g calls))
    ∙ ap (λ xs. xs ++ noted g calls) (one_call g call groups a.0)
    ∙ append_assoc (notes_of g groups) (noted_by g call) (noted g calls)
