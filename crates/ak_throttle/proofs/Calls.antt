-- Calls one at a time give what is taken at once.
use Rattle.std.proofs.Common.{ℕ, ◌≡◌, List, [], ◌∷◌, map, refl, ap, sym, ◌∙◌, subst, Bool, true, false, cond}
use Rattle.std.specs.Prelude.{◌↔◌, not, filter, Option, Some, None}
use Rattle.ak_base.specs.Lists.{first_of, rest_of, without_first}
use Rattle.ak_throttle.specs.declared.stage.Mark.{Mark}
use Rattle.ak_throttle.specs.Throttle.{Throttle, ivar_of, dropped_taken, without_dropped, is_satisfied, satisfied_taken, without_satisfied}
use Rattle.ak_throttle.specs.Calls.{Give, dropped_given, DroppedGiven, done_given, done_ivars, DoneGiven}

-- ---- what calls give is determined
none_some : {X : Type 0} (x : X) → None ≡ Some x → ⊥
none_some x e = cc

same_thing : {X : Type 0} (x y : X) → Some x ≡ Some y → x ≡ y
same_thing x y e = cc

determined : {B X : Type 0} (given : Throttle B → Option X) (taken : Throttle B → Throttle B) (xs ys : List X) (before a b : Throttle B)
    → Give given taken xs before a → Give given taken ys before b → (xs ≡ ys) × (a ≡ b)
determined given taken [] [] before a b g h = (refl, g.1 ∙ sym h.1)
determined given taken [] (y ∷ ys) before a b g h = absurd (none_some y (sym g.0 ∙ h.0))
determined given taken (x ∷ xs) [] before a b g h = absurd (none_some x (sym h.0 ∙ g.0))
determined given taken (x ∷ xs) (y ∷ ys) before a b g h =
    let rest = determined given taken xs ys (taken before) a b g.1 h.1
    in (ap (λ z. z ∷ xs) (same_thing x y (sym g.0 ∙ h.0)) ∙ ap (λ zs. y ∷ zs) rest.0, rest.1)

exactly : {B X : Type 0} (given : Throttle B → Option X) (taken : Throttle B → Throttle B) (xs all : List X) (before after left : Throttle B)
    → Give given taken all before left → Give given taken xs before after ↔ ((xs ≡ all) × (after ≡ left))
exactly given taken xs all before after left g = (
  λ h. determined given taken xs all before after left h g,
  λ e. subst (λ ys. Give given taken ys before after) (sym e.0) (subst (Give given taken all before) (sym e.1) g),
)

-- ---- dropped bodies
dropped_are : {B : Type 0} (bodies : List B) (t : Throttle B) → DroppedGiven bodies (record t { dropped = bodies }) (without_dropped t)
dropped_are [] t = (refl, refl)
dropped_are (b ∷ bs) t = (refl, dropped_are bs t)

pub dropped_exactly : {B : Type 0} (bodies : List B) (t after : Throttle B)
    → DroppedGiven bodies t after ↔ ((bodies ≡ t.dropped) × (after ≡ without_dropped t))
dropped_exactly bodies t after = exactly dropped_given dropped_taken bodies t.dropped t after (without_dropped t) (dropped_are t.dropped t)

-- ---- marks that are satisfied
-- the items that pass a test, without the first of them, and those that do not pass
record Parted {A : Type 0} (p : A → Bool) (xs : List A) (y : A) (ys : List A) : Type 0 where
  others : filter p (without_first p xs) ≡ ys
  left : filter (λ x. not (p x)) (without_first p xs) ≡ filter (λ x. not (p x)) xs

parted_by : {A : Type 0} (b : Bool) (p : A → Bool) (x : A) (xs : List A) (y : A) (ys : List A) → p x ≡ b
    → (filter p xs ≡ y ∷ ys → Parted p xs y ys) → cond b (x ∷ filter p xs) (filter p xs) ≡ y ∷ ys → Parted p (x ∷ xs) y ys
parted_by true p x xs y ys e next f = record {
  others = ap (λ b. filter p (cond b xs (x ∷ without_first p xs))) e ∙ ap rest_of f;
  left =
      ap (λ b. filter (λ z. not (p z)) (cond b xs (x ∷ without_first p xs))) e
      ∙ sym (ap (λ b. cond (not b) (x ∷ filter (λ z. not (p z)) xs) (filter (λ z. not (p z)) xs)) e);
}
parted_by false p x xs y ys e next f =
    let h = next f
    in record {
      others =
          ap (λ b. filter p (cond b xs (x ∷ without_first p xs))) e
          ∙ ap (λ b. cond b (x ∷ filter p (without_first p xs)) (filter p (without_first p xs))) e ∙ h.others;
      left =
          ap (λ b. filter (λ z. not (p z)) (cond b xs (x ∷ without_first p xs))) e
          ∙ ap (λ zs. cond (not (p x)) (x ∷ zs) zs) h.left;
    }

parted : {A : Type 0} (p : A → Bool) (xs : List A) (y : A) (ys : List A) → filter p xs ≡ y ∷ ys → Parted p xs y ys
parted p [] y ys f = absurd (cc)
parted p (x ∷ xs) y ys f = parted_by (p x) p x xs y ys refl (parted p xs y ys) f

none_pass_by : {A : Type 0} (b : Bool) (p : A → Bool) (x : A) (xs : List A) → p x ≡ b → (filter p xs ≡ [] → filter (λ z. not (p z)) xs ≡ xs)
    → cond b (x ∷ filter p xs) (filter p xs) ≡ [] → filter (λ z. not (p z)) (x ∷ xs) ≡ x ∷ xs
none_pass_by true p x xs e next f = absurd (cc)
none_pass_by false p x xs e next f =
    ap (λ b. cond (not b) (x ∷ filter (λ z. not (p z)) xs) (filter (λ z. not (p z)) xs)) e ∙ ap (λ zs. x ∷ zs) (next f)

-- where none passes, all are left
none_pass : {A : Type 0} (p : A → Bool) (xs : List A) → filter p xs ≡ [] → filter (λ z. not (p z)) xs ≡ xs
none_pass p [] f = refl
none_pass p (x ∷ xs) f = none_pass_by (p x) p x xs refl (none_pass p xs) f

marks_are : {B : Type 0} (done marks : List Mark) (t : Throttle B) → filter (is_satisfied t.bodies) marks ≡ done
    → DoneGiven (map (λ (mark : Mark). mark.ivar) done) (record t { marks = marks }) (without_satisfied (record t { marks = marks }))
marks_are [] marks t f = (
  ap (λ (ms : List Mark). ivar_of (first_of ms)) f,
  ap (λ ms. record t { marks = ms }) (none_pass (is_satisfied t.bodies) marks f),
)
marks_are (m ∷ ms) marks t f =
    let h = parted (is_satisfied t.bodies) marks m ms f
    in (
      ap (λ (xs : List Mark). ivar_of (first_of xs)) f,
      subst (DoneGiven (map (λ (mark : Mark). mark.ivar) ms) (record t { marks = without_first (is_satisfied t.bodies) marks }))
          (ap (λ xs. record t { marks = xs }) h.left)
          (marks_are ms (without_first (is_satisfied t.bodies) marks) t h.others),
    )

pub done_exactly : {B : Type 0} (ivars : List ℕ) (t after : Throttle B)
    → DoneGiven ivars t after ↔ ((ivars ≡ done_ivars t) × (after ≡ without_satisfied t))
done_exactly ivars t after =
    exactly done_given satisfied_taken ivars (done_ivars t) t after (without_satisfied t)
    (marks_are (filter (is_satisfied t.bodies) t.marks) t.marks t refl)
