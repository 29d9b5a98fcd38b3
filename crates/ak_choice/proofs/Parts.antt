-- A part that has its number keeps it.
use Rattle.std.proofs.Common.{ℕ, ◌<◌, ◌≡◌, List, [], ◌∷◌, length, get_or, refl, ap, sym, ◌∙◌, subst, inl, inr}
use Rattle.std.specs.Prelude.{ℤ, Some, None, slice_set}
use Rattle.std.proofs.lemmas.Grind.{get_or-set_at}
use Rattle.std.proofs.lemmas.Bool.{cases_eq, cases_lt}
use Rattle.std.proofs.lemmas.List.{get_or-set_other, get_or_past, get_or_append_left}
use Rattle.ak_choice.specs.Groups.{Group, group_in, part_in}
use Rattle.ak_choice.specs.Runs.{Call, Begin, Note, NextNote, Decide, SetPart, called, after, IsAllowed, AreAllowed}

none_some : (v : ℤ) → None ≡ Some v → ⊥
none_some v e = cc

-- a part with a number is of a group that exists
exists_since : (g k : ℕ) (v : ℤ) (groups : List Group) → part_in g k groups ≡ Some v → g < length groups
exists_since g k v groups e =
    elim (cases_lt g (length groups)) [
      | inl l ↦ l
      | inr m ↦ absurd (none_some v (sym (ap (λ (x : Group). get_or x.parts k None) (get_or_past groups g _ m)) ∙ e))
    ]

-- a group that is put in the place of another has the part
put_keeps : (g h k : ℕ) (v : ℤ) (x : Group) (groups : List Group) → (h ≡ g → get_or x.parts k None ≡ Some v) → part_in g k groups ≡ Some v
    → part_in g k (slice_set groups h x) ≡ Some v
put_keeps g h k v x groups f e =
    elim (cases_eq h g) [
      | inl s ↦ ap (λ (y : Group). get_or y.parts k None)
          (get_or-set_at groups h g x _ (sym s) (subst (λ (n : ℕ). n < length groups) (sym s) (exists_since g k v groups e))) ∙ f s
      | inr d ↦ ap (λ (y : Group). get_or y.parts k None) (get_or-set_other groups h g x _ (λ s. d (sym s))) ∙ e
    ]

same_parts : (g h k : ℕ) (v : ℤ) (x : Group) (groups : List Group) → x.parts ≡ (group_in groups h).parts → part_in g k groups ≡ Some v
    → part_in g k (slice_set groups h x) ≡ Some v
same_parts g h k v x groups p e =
    put_keeps g h k v x groups (λ s. ap (λ ps. get_or ps k None) p ∙ ap (λ n. get_or (group_in groups n).parts k None) s ∙ e) e

-- a part that has none gets its number
set_keeps : (g h k j : ℕ) (v w : ℤ) (groups : List Group) → part_in h j groups ≡ None → part_in g k groups ≡ Some v → h ≡ g
    → get_or (slice_set (group_in groups h).parts j (Some w)) k None ≡ Some v
set_keeps g h k j v w groups a e s =
    elim (cases_eq k j) [
      | inl t ↦ absurd (none_some v (sym a ∙ ap (λ n. part_in n j groups) s ∙ ap (λ n. part_in g n groups) (sym t) ∙ e))
      | inr d ↦ get_or-set_other (group_in groups h).parts j k (Some w) None d ∙ ap (λ n. part_in n k groups) s ∙ e
    ]

call_keeps : (g k : ℕ) (v : ℤ) (call : Call) (groups : List Group) → IsAllowed call groups → part_in g k groups ≡ Some v
    → part_in g k (called call groups) ≡ Some v
call_keeps g k v (Begin parts) groups a e =
    let l = exists_since g k v groups e
    in ap (λ (x : Group). get_or x.parts k None) (get_or_append_left groups _ _ g l) ∙ e
call_keeps g k v (Note h registration) groups a e = same_parts g h k v _ groups refl e
call_keeps g k v (NextNote h) groups a e = same_parts g h k v _ groups refl e
call_keeps g k v (Decide h) groups a e = same_parts g h k v _ groups refl e
call_keeps g k v (SetPart h j w) groups a e = put_keeps g h k v _ groups (set_keeps g h k j v w groups a e) e

pub stays : (g k : ℕ) (v : ℤ) (calls : List Call) (groups : List Group) → AreAllowed calls groups → part_in g k groups ≡ Some v
    → part_in g k (after calls groups) ≡ Some v
stays g k v [] groups a e = e
stays g k v (call ∷ calls) groups a e = stays g k v calls (called call groups) a.1 (call_keeps g k v call groups a.0 e)
