-- The alarm that comes first in order of time: where it is due, it is the first that is due, and else none is.
use Rattle.std.proofs.Common.{ℕ, ◌<◌, ◌≡◌, List, [], ◌∷◌, length, refl, ap, sym, ◌∙◌, subst, true, false, cond, arith}
use Rattle.std.specs.Prelude.{ℤ, ◌<ℤ◌, ◌≤ℤ◌, filter, find, map, Some, None, is_some, int_le, slice_get}
use Rattle.std.specs.List.{All}
use Rattle.std.proofs.lemmas.Int.{ints}
use Rattle.std.proofs.lemmas.List.Elements.{All-cons, All-head, All-tail, All-weaker}
use Rattle.ak_base.specs.Lists.{first_of}
use Rattle.ak_clock.specs.declared.alarm.Alarm.{Alarm}
use Rattle.ak_clock.specs.Clock.{Clock, is_alarm, is_due, alarm_of, by_time, due_alarms, has_due}
use Rattle.ak_clock.specs.Kept.{place_of}
use Rattle.ak_base.specs.Numbers.{AreNumbered}
use Rattle.ak_clock.specs.Order.{number_of, IsBefore, AreByTime}
use Rattle.ak_clock.proofs.Numbered.{IsFound, each_found}
use Rattle.ak_clock.proofs.Due.{all_by_time, sorted, filtered, has_due_same, is_not_later}

le_true : (a b : ℤ) → a ≤ℤ b → int_le a b ≡ true
le_true a b l = grind (arith, ints)

le_false : (a b : ℤ) → b <ℤ a → int_le a b ≡ false
le_false a b l = grind (arith, ints)

-- none is due where each is later
pub none_due : (now : ℤ) (alarms : List Alarm) → All (λ (a : Alarm). is_due now a ≡ false) alarms → filter (is_due now) alarms ≡ []
none_due now [] h = refl
none_due now (a ∷ alarms) h =
    ap (λ t. cond t (a ∷ filter (is_due now) alarms) (filter (is_due now) alarms)) (All-head (λ (b : Alarm). is_due now b ≡ false) a alarms h)
    ∙ none_due now alarms (All-tail (λ (b : Alarm). is_due now b ≡ false) a alarms h)

all_early : (now : ℤ) (a : Alarm) (alarms : List Alarm) → AreByTime (a ∷ alarms) → now <ℤ a.time → All (λ (b : Alarm). is_due now b ≡ false) (a ∷ alarms)
all_early now a alarms s l =
    All-cons (λ (b : Alarm). is_due now b ≡ false) a alarms (le_false a.time now l)
    (All-weaker (IsBefore a) (λ (b : Alarm). is_due now b ≡ false) (λ b q. le_false b.time now (omega (arith, ints, l, is_not_later a b q))) alarms s.0)

-- the alarms that are due are the first ones in order of time
pub due_first : (c : Clock) (high : ℕ) → AreNumbered number_of 0 high c.alarms → due_alarms c ≡ filter (is_due c.time) (by_time c.alarms)
due_first c high n = sym (filtered (is_due c.time) high c.alarms n)

-- what is said of the first alarm that is due, and of whether any is
abbrev pub NoneDue : Clock → Type 0
NoneDue c = (first_of (due_alarms c) ≡ None) × (false ≡ has_due c)

none_from : (c : Clock) → due_alarms c ≡ [] → NoneDue c
none_from c e = (ap first_of e, sym (ap (λ (alarms : List Alarm). is_some (first_of alarms)) e) ∙ has_due_same c)

abbrev pub IsDueFirst : ℕ → Clock → Type 0
IsDueFirst e c = (alarm_of e c ≡ first_of (due_alarms c)) × (true ≡ has_due c)

same_place : (a : Alarm) (place : ℤ × ℕ) → Some (place_of a) ≡ Some place → place_of a ≡ place
same_place a place e = cc

no_place : (place : ℤ × ℕ) → None ≡ Some place → ⊥
no_place place e = cc

due_by : (alarms : List Alarm) (c : Clock) (high : ℕ) (place : ℤ × ℕ) → by_time c.alarms ≡ alarms → AreNumbered number_of 0 high c.alarms
    → slice_get (map place_of alarms) 0 ≡ Some place → place.0 ≤ℤ c.time → IsDueFirst place.1 c
due_by [] c high place e n g l = absurd (no_place place g)
due_by (a ∷ alarms) c high place e n g l =
    let same : place_of a ≡ place = same_place a place g
    in let due : is_due c.time a ≡ true = le_true a.time c.time (subst (λ (p : ℤ × ℕ). p.0 ≤ℤ c.time) (sym same) l)
    in let front : first_of (due_alarms c) ≡ Some a = ap first_of (due_first c high n ∙ ap (filter (is_due c.time)) e)
    ∙ ap (λ t. first_of (cond t (a ∷ filter (is_due c.time) alarms) (filter (is_due c.time) alarms))) due
    in let found : find (is_alarm a.no) c.alarms ≡ Some a =
    All-head (IsFound c.alarms) a alarms (subst (All (IsFound c.alarms)) e (all_by_time (IsFound c.alarms) c.alarms (each_found 0 high c.alarms n)))
    in (ap (λ (p : ℤ × ℕ). alarm_of p.1 c) (sym same) ∙ found ∙ sym front, sym (ap is_some front) ∙ has_due_same c)

pub first_is_due : (c : Clock) (high : ℕ) (place : ℤ × ℕ) → AreNumbered number_of 0 high c.alarms → slice_get (map place_of (by_time c.alarms)) 0 ≡ Some place
    → place.0 ≤ℤ c.time → IsDueFirst place.1 c
first_is_due c high place = due_by (by_time c.alarms) c high place refl

early_by : (alarms : List Alarm) (c : Clock) (high : ℕ) (place : ℤ × ℕ) → by_time c.alarms ≡ alarms → AreNumbered number_of 0 high c.alarms
    → slice_get (map place_of alarms) 0 ≡ Some place → c.time <ℤ place.0 → NoneDue c
early_by [] c high place e n g l = absurd (no_place place g)
early_by (a ∷ alarms) c high place e n g l =
    let same : place_of a ≡ place = same_place a place g
    in let later : c.time <ℤ a.time = subst (λ (p : ℤ × ℕ). c.time <ℤ p.0) (sym same) l
    in none_from c (due_first c high n ∙ ap (filter (is_due c.time)) e
    ∙ none_due c.time (a ∷ alarms) (all_early c.time a alarms (subst AreByTime e (sorted high c.alarms n)) later))

pub first_is_early : (c : Clock) (high : ℕ) (place : ℤ × ℕ) → AreNumbered number_of 0 high c.alarms
    → slice_get (map place_of (by_time c.alarms)) 0 ≡ Some place → c.time <ℤ place.0 → NoneDue c
first_is_early c high place = early_by (by_time c.alarms) c high place refl

no_first_by : (alarms : List Alarm) (c : Clock) (high : ℕ) → by_time c.alarms ≡ alarms → AreNumbered number_of 0 high c.alarms
    → (0 < length (map place_of alarms) → ⊥) → NoneDue c
no_first_by [] c high e n h = none_from c (due_first c high n ∙ ap (filter (is_due c.time)) e)
no_first_by (a ∷ alarms) c high e n h = absurd (h (omega arith))

pub no_first : (c : Clock) (high : ℕ) → AreNumbered number_of 0 high c.alarms → (0 < length (map place_of (by_time c.alarms)) → ⊥) → NoneDue c
no_first c high = no_first_by (by_time c.alarms) c high refl
