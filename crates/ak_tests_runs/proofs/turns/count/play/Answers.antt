use Rattle.std.proofs.Common.{◌≡◌, ℕ, zero, suc, ◌⊎◌, inl, inr, ⊎_elim, cond, List, [], ◌∷◌, ◌++◌, length, refl, ap, sym, subst, ◌∙◌, eq-eqb, arith}
use Rattle.std.specs.Prelude.{Contains, ⊤}
use Rattle.ak_tests_runs.specs.declared.turns.count.Add.{Add}
use Rattle.ak_turn.specs.Entries.{Each, IsAllowed, IsLog, events, events_by}
use Rattle.ak_turn.specs.Seen.{PassView, Extends, left}
use Rattle.ak_tests_runs.proofs.turns.count.play.Goals as goal

zero_or_one : (n : ℕ) → Contains (0 ∷ 1 ∷ []) n → (0 ≡ n) ⊎ (1 ≡ n)
zero_or_one n (zero, l, e) = inl e
zero_or_one n (suc zero, l, e) = inr e
zero_or_one n (suc (suc k), l, e) = absurd (omega arith)

module _ {E : Type 0} (unit : E) (all : (e : E) → unit ≡ e) where
  abbrev May : ℕ → E → Type 0
  May n e = ⊤

  -- the pass added one event to a log of so many entries
  abbrev Added : ℕ → List ℕ → PassView E → PassView E → Type 0
  Added units numbers p p' = (was : List (ℕ × E)) × (length was ≡ units) × Extends p was × IsLog May numbers was × (p' ≡ left p was (unit ∷ []))

  none : (was : List (ℕ × E)) → length was ≡ 0 → was ≡ []
  none [] e = cc
  none (x ∷ xs) e = absurd (omega arith)

  -- the one entry is of number 0, as it is not of number 1
  one_of_0 : (was : List (ℕ × E)) → length was ≡ 1 → Each (IsAllowed May (0 ∷ 1 ∷ [])) was → events_by 1 was ≡ [] → was ≡ (0, unit) ∷ []
  one_of_0 [] e a b = absurd (omega arith)
  one_of_0 (x ∷ []) e a b = ⊎_elim
      (λ (z : 0 ≡ x.0). λ i. (sym z i, sym (all x.1) i) ∷ [])
      (λ (o : 1 ≡ x.0). let is : events_by 1 (x ∷ []) ≡ x.1 ∷ [] = ap (λ t. events (cond t (x ∷ []) [])) (eq-eqb x.0 1 (sym o)) in cc)
      (zero_or_one x.0 a.0.0)
  one_of_0 (x ∷ y ∷ ys) e a b = absurd (omega arith)

  mine_is : (p p' : PassView E) (was : List (ℕ × E)) → p.mine ≡ [] → p' ≡ left p was (unit ∷ []) → p'.mine ≡ unit ∷ []
  mine_is p p' was bare now = ap (λ q. q.mine) now ∙ ap (λ m. m ++ unit ∷ []) bare

  seen_is : (p p' : PassView E) (was f : List (ℕ × E)) (n : ℕ) → p.number ≡ n → was ≡ f → p' ≡ left p was (unit ∷ []) → p'.seen ≡ f ++ (n, unit) ∷ []
  seen_is p p' was f n number is now = ap (λ q. q.seen) now ∙ (λ i. is i ++ (number i, unit) ∷ [])

  first : (p p' : PassView E) (numbers : List ℕ) → p.number ≡ 0 → p.mine ≡ [] → Added 0 numbers p p' → (p'.seen ≡ (0, unit) ∷ []) × (p'.mine ≡ unit ∷ [])
  first p p' numbers number bare a = (seen_is p p' a.0 [] 0 number (none a.0 a.1) a.4, mine_is p p' a.0 bare a.4)

  second : (p p' : PassView E) (numbers : List ℕ) → numbers ≡ 0 ∷ 1 ∷ [] → p.number ≡ 1 → p.mine ≡ [] → Added 1 numbers p p'
      → (p'.seen ≡ (0, unit) ∷ (1, unit) ∷ []) × (p'.mine ≡ unit ∷ [])
  second p p' numbers two number bare a =
      let own : events_by 1 a.0 ≡ [] = subst (λ n. events_by n a.0 ≡ []) number (a.2.own ∙ bare) in
      let was : a.0 ≡ (0, unit) ∷ [] = one_of_0 a.0 a.1 (subst (λ ns. Each (IsAllowed May ns) a.0) two a.3.0) own in
      (seen_is p p' a.0 ((0, unit) ∷ []) 1 number was a.4, mine_is p p' a.0 bare a.4)

unit : Add
unit = record {}

pub returns-clause-seen : goal.returns-clause-seen
returns-clause-seen g c = λ yes.
    let a = first unit (λ _. refl) c.args.zero.now c.add_at-first.new.pass _ c.requires.zero.0 c.requires.zero.1
    (c.add_at-first.ensures.added c.if-not-first.false) in
    let b = second unit (λ _. refl) c.visit.new.pass c.add_at-second.new.pass _ c.requires.turn.2
    (c.visit.ensures.turn.1 ∙ c.requires.one.0) (c.visit.ensures.mine ∙ c.requires.one.1) (c.add_at-second.ensures.added yes) in
    (a.0, b.0)

pub returns-clause-mine : goal.returns-clause-mine
returns-clause-mine g c = λ yes.
    let a = first unit (λ _. refl) c.args.zero.now c.add_at-first.new.pass _ c.requires.zero.0 c.requires.zero.1
    (c.add_at-first.ensures.added c.if-not-first.false) in
    let b = second unit (λ _. refl) c.visit.new.pass c.add_at-second.new.pass _ c.requires.turn.2
    (c.visit.ensures.turn.1 ∙ c.requires.one.0) (c.visit.ensures.mine ∙ c.requires.one.1) (c.add_at-second.ensures.added yes) in
    (a.1, b.1)
