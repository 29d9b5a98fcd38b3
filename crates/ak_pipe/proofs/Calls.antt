-- Calls one at a time give what is taken at once.
use Rattle.std.proofs.Common.{ℕ, ◌≡◌, List, [], ◌∷◌, map, refl, ap, sym, ◌∙◌, subst, Bool, true, false, cond}
use Rattle.std.specs.Prelude.{ℤ, ◌↔◌, not, filter, Option, Some, None}
use Rattle.ak_base.specs.Lists.{first_of, rest_of, without_first}
use Rattle.ak_pipe.specs.declared.flush.Flush.{Flush}
use Rattle.ak_pipe.specs.Pipe.{Pipe, is_free, freed_pushbacks, freed_taken, without_freed, is_settled, flush_number, settlement, next_settlement, settled_taken, without_settled, owed_taken, without_owed}
use Rattle.ak_pipe.specs.Calls.{Give, free_given, FreeGiven, settlements, FlushedGiven, eof_given, EofGiven}

-- ---- what calls give is determined
none_some : {X : Type 0} (x : X) → None ≡ Some x → ⊥
none_some x e = cc

same_thing : {X : Type 0} (x y : X) → Some x ≡ Some y → x ≡ y
same_thing x y e = cc

determined : {R X : Type 0} (given : Pipe R → Option X) (taken : Pipe R → Pipe R) (xs ys : List X) (before a b : Pipe R)
    → Give given taken xs before a → Give given taken ys before b → (xs ≡ ys) × (a ≡ b)
determined given taken [] [] before a b g h = (refl, g.1 ∙ sym h.1)
determined given taken [] (y ∷ ys) before a b g h = absurd (none_some y (sym g.0 ∙ h.0))
determined given taken (x ∷ xs) [] before a b g h = absurd (none_some x (sym h.0 ∙ g.0))
determined given taken (x ∷ xs) (y ∷ ys) before a b g h =
    let rest = determined given taken xs ys (taken before) a b g.1 h.1
    in (ap (λ z. z ∷ xs) (same_thing x y (sym g.0 ∙ h.0)) ∙ ap (λ zs. y ∷ zs) rest.0, rest.1)

exactly : {R X : Type 0} (given : Pipe R → Option X) (taken : Pipe R → Pipe R) (xs all : List X) (before after left : Pipe R)
    → Give given taken all before left → Give given taken xs before after ↔ ((xs ≡ all) × (after ≡ left))
exactly given taken xs all before after left g = (
  λ h. determined given taken xs all before after left h g,
  λ e. subst (λ ys. Give given taken ys before after) (sym e.0) (subst (Give given taken all before) (sym e.1) g),
)

-- ---- pushbacks
free_by : {R : Type 0} (ivars : List ℕ) (p : Pipe R) → is_free p ≡ true
    → FreeGiven ivars (record p { pushbacks = ivars }) (record p { pushbacks = [] })
free_by [] p e = (ap (λ b. first_of (cond b [] [])) e, refl)
free_by (i ∷ is) p e = (
  ap (λ b. first_of (cond b (i ∷ is) [])) e,
  subst (λ (x : Pipe _). FreeGiven is x (record p { pushbacks = [] }))
      (ap (λ b. cond b (record p { pushbacks = is }) (record p { pushbacks = i ∷ is })) (sym e)) (free_by is p e),
)

free_are : {R : Type 0} (b : Bool) (p : Pipe R) → is_free p ≡ b
    → FreeGiven (cond b p.pushbacks []) p (cond b (record p { pushbacks = [] }) p)
free_are true p e = free_by p.pushbacks p e
free_are false p e = (ap (λ b. first_of (cond b p.pushbacks [])) e, refl)

pub free_exactly : {R : Type 0} (ivars : List ℕ) (p after : Pipe R)
    → FreeGiven ivars p after ↔ ((ivars ≡ freed_pushbacks p) × (after ≡ without_freed p))
free_exactly ivars p after =
    exactly free_given freed_taken ivars (freed_pushbacks p) p after (without_freed p) (free_are (is_free p) p refl)

-- ---- reads that are owed the end
eofs_are : {R : Type 0} (reads : List R) (p : Pipe R) → EofGiven reads (record p { owed = reads }) (without_owed p)
eofs_are [] p = (refl, refl)
eofs_are (r ∷ rs) p = (refl, eofs_are rs p)

pub eof_exactly : {R : Type 0} (reads : List R) (p after : Pipe R)
    → EofGiven reads p after ↔ ((reads ≡ p.owed) × (after ≡ without_owed p))
eof_exactly reads p after = exactly eof_given owed_taken reads p.owed p after (without_owed p) (eofs_are p.owed p)

-- ---- flushes that are settled
-- the items that pass a test, without the first of them, and those that do not pass
record Parted {A : Type 0} (p : A → Bool) (xs : List A) (y : A) (ys : List A) : Type 0 where
  others : filter p (without_first p xs) ≡ ys
  left : filter (λ x. not (p x)) (without_first p xs) ≡ filter (λ x. not (p x)) xs

parted_by : {A : Type 0} (b : Bool) (p : A → Bool) (x : A) (xs : List A) (y : A) (ys : List A) → p x ≡ b
    → (filter p xs ≡ y ∷ ys → Parted p xs y ys) → cond b (x ∷ filter p xs) (filter p xs) ≡ y ∷ ys → Parted p (x ∷ xs) y ys
parted_by true p x xs y ys e next f = record {
  others = ap (λ b. filter p (cond b xs (x ∷ without_first p xs))) e ∙ ap rest_of f;
  left =
      ap (λ b. filter (λ z. not (p z)) (cond b xs (x ∷ without_first p xs))) e
      ∙ sym (ap (λ b. cond (not b) (x ∷ filter (λ z. not (p z)) xs) (filter (λ z. not (p z)) xs)) e);
}
parted_by false p x xs y ys e next f =
    let h = next f
    in record {
      others =
          ap (λ b. filter p (cond b xs (x ∷ without_first p xs))) e
          ∙ ap (λ b. cond b (x ∷ filter p (without_first p xs)) (filter p (without_first p xs))) e ∙ h.others;
      left =
          ap (λ b. filter (λ z. not (p z)) (cond b xs (x ∷ without_first p xs))) e
          ∙ ap (λ zs. cond (not (p x)) (x ∷ zs) zs) h.left;
    }

parted : {A : Type 0} (p : A → Bool) (xs : List A) (y : A) (ys : List A) → filter p xs ≡ y ∷ ys → Parted p xs y ys
parted p [] y ys f = absurd (cc)
parted p (x ∷ xs) y ys f = parted_by (p x) p x xs y ys refl (parted p xs y ys) f

none_pass_by : {A : Type 0} (b : Bool) (p : A → Bool) (x : A) (xs : List A) → p x ≡ b → (filter p xs ≡ [] → filter (λ z. not (p z)) xs ≡ xs)
    → cond b (x ∷ filter p xs) (filter p xs) ≡ [] → filter (λ z. not (p z)) (x ∷ xs) ≡ x ∷ xs
none_pass_by true p x xs e next f = absurd (cc)
none_pass_by false p x xs e next f =
    ap (λ b. cond (not b) (x ∷ filter (λ z. not (p z)) xs) (filter (λ z. not (p z)) xs)) e ∙ ap (λ zs. x ∷ zs) (next f)

-- where none passes, all are left
none_pass : {A : Type 0} (p : A → Bool) (xs : List A) → filter p xs ≡ [] → filter (λ z. not (p z)) xs ≡ xs
none_pass p [] f = refl
none_pass p (x ∷ xs) f = none_pass_by (p x) p x xs refl (none_pass p xs) f

settled_are : {R : Type 0} (settled flushes : List Flush) (p : Pipe R) → filter (is_settled p) flushes ≡ settled
    → FlushedGiven (map (λ (flush : Flush). (flush.ivar, flush_number p flush)) settled) (record p { flushes = flushes })
    (without_settled (record p { flushes = flushes }))
settled_are [] flushes p f = (
  ap (λ (fs : List Flush). settlement (first_of fs) (record p { flushes = flushes })) f,
  ap (λ fs. record p { flushes = fs }) (none_pass (is_settled p) flushes f),
)
settled_are (x ∷ xs) flushes p f =
    let h = parted (is_settled p) flushes x xs f
    in (
      ap (λ (fs : List Flush). settlement (first_of fs) (record p { flushes = flushes })) f,
      subst (FlushedGiven (map (λ (flush : Flush). (flush.ivar, flush_number p flush)) xs)
          (record p { flushes = without_first (is_settled p) flushes }))
          (ap (λ fs. record p { flushes = fs }) h.left)
          (settled_are xs (without_first (is_settled p) flushes) p h.others),
    )

pub settled_exactly : {R : Type 0} (settled : List (ℕ × ℤ)) (p after : Pipe R)
    → FlushedGiven settled p after ↔ ((settled ≡ settlements p) × (after ≡ without_settled p))
settled_exactly settled p after =
    exactly next_settlement settled_taken settled (settlements p) p after (without_settled p)
    (settled_are (filter (is_settled p) p.flushes) p.flushes p refl)
