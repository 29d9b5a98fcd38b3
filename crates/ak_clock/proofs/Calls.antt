-- Calls one at a time give what is taken at once.
use Rattle.std.proofs.Common.{ℕ, ◌≡◌, List, [], ◌∷◌, refl, ap, sym, ◌∙◌, subst, Bool, true, false, cond, arith, inl, inr}
use Rattle.std.specs.Prelude.{ℤ, ◌↔◌, not, ◌==◌, filter, find, map, Option, Some, None, is_some}
use Rattle.std.specs.List.{All}
use Rattle.std.proofs.lemmas.Bool.{eq-eqb, ne_eqb, eqb-true, true≢false}
use Rattle.std.proofs.lemmas.Int.{ints}
use Rattle.std.proofs.lemmas.List.Elements.{All-nil, All-cons, All-head, All-tail, All-filter, All-weaker}
use Rattle.ak_base.specs.Lists.{first_of, is_empty_list}
use Rattle.ak_clock.specs.declared.alarm.Alarm.{Alarm}
use Rattle.ak_clock.specs.Clock.{Clock, is_alarm, is_other_alarm, is_due, is_early, by_time, due_alarms, due_taken, ivar_of}
use Rattle.ak_clock.specs.Clock.{without_this, without_alarm, without_due, without_yields}
use Rattle.ak_clock.specs.Calls.{Give, DueGives, due_given, due_ivars, YieldsGiven, yield_given}
use Rattle.ak_base.specs.Numbers.{AreNumbered}
use Rattle.ak_clock.specs.Order.{number_of, IsBefore, AreByTime}
use Rattle.ak_clock.proofs.Numbered.{IsFound, each_found}
use Rattle.ak_base.proofs.Numbers.{numbered_filtered}
use Rattle.ak_clock.proofs.Due.{all_by_time, due_in_order, filtered, has_due_same}
use Rattle.ak_clock.proofs.Kept.{all_kept}

-- what calls give is determined
none_some : (i : ℕ) → None ≡ Some i → ⊥
none_some i e = cc

same_number : (i j : ℕ) → Some i ≡ Some j → i ≡ j
same_number i j e = cc

determined : (given : Clock → Option ℕ) (taken : Clock → Clock) (is js : List ℕ) (before x y : Clock) → Give given taken is before x
    → Give given taken js before y → (is ≡ js) × (x ≡ y)
determined given taken [] [] before x y g h = (refl, g.1 ∙ sym h.1)
determined given taken [] (j ∷ js) before x y g h = absurd (none_some j (sym g.0 ∙ h.0))
determined given taken (i ∷ is) [] before x y g h = absurd (none_some i (sym h.0 ∙ g.0))
determined given taken (i ∷ is) (j ∷ js) before x y g h =
    let rest = determined given taken is js (taken before) x y g.1 h.1
    in (ap (λ k. k ∷ is) (same_number i j (sym g.0 ∙ h.0)) ∙ ap (λ ks. j ∷ ks) rest.0, rest.1)

exactly : (given : Clock → Option ℕ) (taken : Clock → Clock) (is all : List ℕ) (before after left : Clock) → Give given taken all before left
    → Give given taken is before after ↔ ((is ≡ all) × (after ≡ left))
exactly given taken is all before after left g = (
  λ h. determined given taken is all before after left h g,
  λ e. subst (λ (js : List ℕ). Give given taken js before after) (sym e.0) (subst (Give given taken all before) (sym e.1) g),
)

-- yields
yields_given : (yields : List ℕ) (time : ℤ) (alarms : List Alarm) (next : ℕ)
    → YieldsGiven yields (record { time = time; alarms = alarms; next = next; yields = yields })
    (record { time = time; alarms = alarms; next = next; yields = [] })
yields_given [] time alarms next = (refl, refl)
yields_given (i ∷ yields) time alarms next = (refl, yields_given yields time alarms next)

pub yields_exactly : (ivars : List ℕ) (c after : Clock) → YieldsGiven ivars c after ↔ ((ivars ≡ c.yields) × (after ≡ without_yields c))
yields_exactly ivars c after = exactly yield_given _ ivars c.yields c after (without_yields c) (yields_given c.yields c.time c.alarms c.next)

-- an alarm that is first of those that are due, and those behind it
never_before_itself : (a : Alarm) → IsBefore a a → ⊥
never_before_itself a q =
    elim q [
      | inl l ↦ absurd (omega (arith, ints, l))
      | inr e ↦ absurd (omega (arith, e.1))
    ]

some_same : (a b : Alarm) → Some a ≡ Some b → a ≡ b
some_same a b e = cc

other_behind : (a b : Alarm) (alarms : List Alarm) → IsFound alarms a → IsFound alarms b → IsBefore a b → is_other_alarm a.no b ≡ true
other_behind a b alarms f g q =
    ap not (ne_eqb b.no a.no (λ e. never_before_itself a (subst (IsBefore a) (some_same b a (sym g ∙ ap (λ n. find (is_alarm n) alarms) e ∙ f)) q)))

others_behind : (a : Alarm) (due alarms : List Alarm) → AreByTime (a ∷ due) → All (IsFound alarms) (a ∷ due) → filter (is_other_alarm a.no) (a ∷ due) ≡ due
others_behind a due alarms s each =
    let behind : All (λ (b : Alarm). is_other_alarm a.no b ≡ true) due =
    λ k d l. other_behind a _ alarms (All-head (IsFound alarms) a due each) (All-tail (IsFound alarms) a due each k d l) (s.0 k d l)
    in ap (λ t. cond (not t) (a ∷ filter (is_other_alarm a.no) due) (filter (is_other_alarm a.no) due)) (eq-eqb a.no a.no refl)
    ∙ all_kept (is_other_alarm a.no) due behind

-- two filters in either order
either_order_by : (t u : Bool) (p q : Alarm → Bool) (a : Alarm) (xs : List Alarm) → p a ≡ t → q a ≡ u
    → filter p (filter q xs) ≡ filter q (filter p xs)
    → filter p (cond u (a ∷ filter q xs) (filter q xs)) ≡ filter q (cond t (a ∷ filter p xs) (filter p xs))
either_order_by true true p q a xs e f r =
    ap (λ t. cond t (a ∷ filter p (filter q xs)) (filter p (filter q xs))) e ∙ ap (λ ys. a ∷ ys) r
    ∙ sym (ap (λ t. cond t (a ∷ filter q (filter p xs)) (filter q (filter p xs))) f)
either_order_by true false p q a xs e f r = r ∙ sym (ap (λ t. cond t (a ∷ filter q (filter p xs)) (filter q (filter p xs))) f)
either_order_by false true p q a xs e f r = ap (λ t. cond t (a ∷ filter p (filter q xs)) (filter p (filter q xs))) e ∙ r
either_order_by false false p q a xs e f r = r

either_order : (p q : Alarm → Bool) (xs : List Alarm) → filter p (filter q xs) ≡ filter q (filter p xs)
either_order p q [] = refl
either_order p q (a ∷ xs) = either_order_by (p a) (q a) p q a xs refl refl (either_order p q xs)

-- without the first that is due, the others are due
due_behind : (c : Clock) (high : ℕ) (a : Alarm) (due : List Alarm) → AreNumbered number_of 0 high c.alarms → due_alarms c ≡ a ∷ due
    → due_alarms (without_alarm a.no c) ≡ due
due_behind c high a due n e =
    let found : All (IsFound c.alarms) (due_alarms c) =
    all_by_time (IsFound c.alarms) (filter (is_due c.time) c.alarms)
    (All-filter (is_due c.time) (IsFound c.alarms) c.alarms (each_found 0 high c.alarms n))
    in ap by_time (either_order (is_due c.time) (is_other_alarm a.no) c.alarms)
    ∙ sym (filtered (is_other_alarm a.no) high (filter (is_due c.time) c.alarms) (numbered_filtered number_of (is_due c.time) 0 high c.alarms n))
    ∙ ap (filter (is_other_alarm a.no)) e
    ∙ others_behind a due c.alarms (subst AreByTime e (due_in_order c 0 high n)) (subst (All (IsFound c.alarms)) e found)

-- and the same alarms are early
early_by : (t u : Bool) (now : ℤ) (e : ℕ) (a : Alarm) (xs : List Alarm) → is_due now a ≡ t → is_other_alarm e a ≡ u → (u ≡ false → t ≡ true)
    → filter (is_early now) (filter (is_other_alarm e) xs) ≡ filter (is_early now) xs
    → filter (is_early now) (cond u (a ∷ filter (is_other_alarm e) xs) (filter (is_other_alarm e) xs)) ≡ filter (is_early now) (a ∷ xs)
early_by t true now e a xs d o h r = ap (λ ys. cond (is_early now a) (a ∷ ys) ys) r
early_by t false now e a xs d o h r = r ∙ sym (ap (λ x. cond (not x) (a ∷ filter (is_early now) xs) (filter (is_early now) xs)) (d ∙ h refl))

early_same : (now : ℤ) (e : ℕ) (xs : List Alarm) → All (λ (b : Alarm). is_other_alarm e b ≡ false → is_due now b ≡ true) xs
    → filter (is_early now) (filter (is_other_alarm e) xs) ≡ filter (is_early now) xs
early_same now e [] h = refl
early_same now e (a ∷ xs) h =
    early_by (is_due now a) (is_other_alarm e a) now e a xs refl refl (All-head (λ (b : Alarm). is_other_alarm e b ≡ false → is_due now b ≡ true) a xs h)
    (early_same now e xs (All-tail (λ (b : Alarm). is_other_alarm e b ≡ false → is_due now b ≡ true) a xs h))

pass_by : (t : Bool) (p : Alarm → Bool) (a : Alarm) (xs : List Alarm) → p a ≡ t → All (λ (b : Alarm). p b ≡ true) (filter p xs)
    → All (λ (b : Alarm). p b ≡ true) (cond t (a ∷ filter p xs) (filter p xs))
pass_by true p a xs e h = All-cons (λ (b : Alarm). p b ≡ true) a (filter p xs) e h
pass_by false p a xs e h = h

all_pass : (p : Alarm → Bool) (xs : List Alarm) → All (λ (b : Alarm). p b ≡ true) (filter p xs)
all_pass p [] = All-nil (λ (b : Alarm). p b ≡ true)
all_pass p (a ∷ xs) = pass_by (p a) p a xs refl (all_pass p xs)

-- the alarm of a number that is due
one_due : (now : ℤ) (a b : Alarm) (alarms : List Alarm) → is_due now a ≡ true → IsFound alarms a → IsFound alarms b → is_other_alarm a.no b ≡ false
    → is_due now b ≡ true
one_due now a b alarms d f g o = by (b.no == a.no) refl o
  where
    by : (t : Bool) → (b.no == a.no) ≡ t → not t ≡ false → is_due now b ≡ true
    by true e h = subst (λ (x : Alarm). is_due now x ≡ true) (some_same a b (sym f ∙ ap (λ n. find (is_alarm n) alarms) (sym (eqb-true b.no a.no e)) ∙ g)) d
    by false e h = absurd (true≢false h)

left_same : (c : Clock) (high : ℕ) (a : Alarm) (due : List Alarm) → AreNumbered number_of 0 high c.alarms → due_alarms c ≡ a ∷ due
    → without_due (without_alarm a.no c) ≡ without_due c
left_same c high a due n e =
    let each : All (IsFound c.alarms) c.alarms = each_found 0 high c.alarms n
    in let found : All (IsFound c.alarms) (a ∷ due) =
    subst (All (IsFound c.alarms)) e
    (all_by_time (IsFound c.alarms) (filter (is_due c.time) c.alarms) (All-filter (is_due c.time) (IsFound c.alarms) c.alarms each))
    in let pass : All (λ (b : Alarm). is_due c.time b ≡ true) (a ∷ due) =
    subst (All (λ (b : Alarm). is_due c.time b ≡ true)) e
    (all_by_time (λ (b : Alarm). is_due c.time b ≡ true) (filter (is_due c.time) c.alarms) (all_pass (is_due c.time) c.alarms))
    in let first : IsFound c.alarms a = All-head (IsFound c.alarms) a due found
    in let here : is_due c.time a ≡ true = All-head (λ (b : Alarm). is_due c.time b ≡ true) a due pass
    in ap (λ xs. record { time = c.time; alarms = xs; next = c.next; yields = c.yields })
    (early_same c.time a.no c.alarms
    (All-weaker (IsFound c.alarms) (λ (b : Alarm). is_other_alarm a.no b ≡ false → is_due c.time b ≡ true)
    (λ b g. one_due c.time a b c.alarms here first g) c.alarms each))

-- where none is due, all are early
early_all_by : (t : Bool) (now : ℤ) (a : Alarm) (xs : List Alarm) → is_due now a ≡ t
    → cond t (a ∷ filter (is_due now) xs) (filter (is_due now) xs) ≡ [] → (filter (is_due now) xs ≡ [] → filter (is_early now) xs ≡ xs)
    → cond (not t) (a ∷ filter (is_early now) xs) (filter (is_early now) xs) ≡ a ∷ xs
early_all_by true now a xs d e h = absurd (true≢false (sym (ap is_empty_list e)))
early_all_by false now a xs d e h = ap (λ ys. a ∷ ys) (h e)

early_all : (now : ℤ) (xs : List Alarm) → filter (is_due now) xs ≡ [] → filter (is_early now) xs ≡ xs
early_all now [] e = refl
early_all now (a ∷ xs) e = early_all_by (is_due now a) now a xs refl e (early_all now xs)

no_due : (c : Clock) → due_alarms c ≡ [] → filter (is_due c.time) c.alarms ≡ []
no_due c e = by (filter (is_due c.time) c.alarms) (sym (has_due_same c) ∙ ap (λ (xs : List Alarm). is_some (first_of xs)) e)
  where
    by : (xs : List Alarm) → not (is_empty_list xs) ≡ false → xs ≡ []
    by [] h = refl
    by (x ∷ xs) h = absurd (true≢false h)

due_given_from : (due : List Alarm) (c : Clock) (high : ℕ) → AreNumbered number_of 0 high c.alarms → due_alarms c ≡ due
    → DueGives (map (λ alarm. alarm.ivar) due) c (without_due c)
due_given_from [] c high n e = (
  ap (λ xs. ivar_of (first_of xs)) e,
  ap (λ xs. record { time = c.time; alarms = xs; next = c.next; yields = c.yields }) (early_all c.time c.alarms (no_due c e)),
)
due_given_from (a ∷ due) c high n e =
    let left : Clock = without_alarm a.no c
    in let rest : DueGives (map (λ alarm. alarm.ivar) due) left (without_due left) =
    due_given_from due left high (numbered_filtered number_of (is_other_alarm a.no) 0 high c.alarms n) (due_behind c high a due n e)
    in (
      ap (λ xs. ivar_of (first_of xs)) e,
      subst (λ (x : Clock). DueGives (map (λ alarm. alarm.ivar) due) x (without_due c)) (sym (ap (λ xs. without_this (first_of xs) c) e))
          (subst (DueGives (map (λ alarm. alarm.ivar) due) left) (left_same c high a due n e) rest),
    )

pub due_exactly : (ivars : List ℕ) (c after : Clock) (high : ℕ) → AreNumbered number_of 0 high c.alarms
    → DueGives ivars c after ↔ ((ivars ≡ due_ivars c) × (after ≡ without_due c))
due_exactly ivars c after high n = exactly due_given due_taken ivars (due_ivars c) c after (without_due c) (due_given_from (due_alarms c) c high n refl)
