-- The alarm of a number, in a list in order of numbers.
use Rattle.std.proofs.Common.{ℕ, ◌+◌, ◌<◌, ◌≤◌, ◌≡◌, List, [], ◌∷◌, get_or, refl, ap, sym, ◌∙◌, subst, Bool, true, false, cond, arith}
use Rattle.std.specs.Prelude.{not, ◌==◌, filter, find, Some, None}
use Rattle.std.specs.List.{All}
use Rattle.std.proofs.lemmas.Bool.{eq-eqb, ne_eqb, eqb-true}
use Rattle.std.proofs.lemmas.List.Elements.{All-nil, All-cons, All-weaker}
use Rattle.ak_clock.specs.declared.alarm.Alarm.{Alarm}
use Rattle.ak_clock.specs.Clock.{Clock, alarm_of, without_alarm, is_alarm, is_other_alarm}
use Rattle.ak_base.specs.Numbers.{AreNumbered}
use Rattle.ak_clock.specs.Order.{number_of}

some_none : (x : Alarm) → Some x ≡ None → ⊥
some_none x e = cc

-- the bounds of all numbers
pub all_from : (low high : ℕ) (xs : List Alarm) → AreNumbered number_of low high xs → All (λ (x : Alarm). low ≤ x.no) xs
all_from low high [] a = All-nil (λ (x : Alarm). low ≤ x.no)
all_from low high (x ∷ xs) a =
    All-cons (λ (y : Alarm). low ≤ y.no) x xs a.0
    (All-weaker (λ (y : Alarm). x.no + 1 ≤ y.no) (λ (y : Alarm). low ≤ y.no) (λ y l. omega (arith, l, a.0)) xs (all_from (x.no + 1) high xs a.2))

pub all_below : (low high : ℕ) (xs : List Alarm) → AreNumbered number_of low high xs → All (λ (x : Alarm). x.no < high) xs
all_below low high [] a = All-nil (λ (x : Alarm). x.no < high)
all_below low high (x ∷ xs) a = All-cons (λ (y : Alarm). y.no < high) x xs a.1 (all_below (x.no + 1) high xs a.2)

-- each alarm is the one of its number
abbrev pub IsFound : List Alarm → Alarm → Type 0
IsFound xs x = find (is_alarm x.no) xs ≡ Some x

pub each_found : (low high : ℕ) (xs : List Alarm) → AreNumbered number_of low high xs → All (IsFound xs) xs
each_found low high [] a = All-nil (IsFound [])
each_found low high (x ∷ xs) a =
    All-cons (IsFound (x ∷ xs)) x xs
    (ap (λ t. cond t (Some x) (find (is_alarm x.no) xs)) (eq-eqb x.no x.no refl))
    (λ k d l. ap (λ t. cond t (Some x) (find (is_alarm (get_or xs k d).no) xs))
    (ne_eqb x.no (get_or xs k d).no (λ e. omega (arith, e, all_from (x.no + 1) high xs a.2 k d l)))
    ∙ each_found (x.no + 1) high xs a.2 k d l)

-- what is found has the number
some_same : (x y : Alarm) → Some x ≡ Some y → x ≡ y
some_same x y e = cc

found_by : (t : Bool) (e : ℕ) (x y : Alarm) (xs : List Alarm) → (x.no == e) ≡ t → (find (is_alarm e) xs ≡ Some y → y.no ≡ e)
    → cond t (Some x) (find (is_alarm e) xs) ≡ Some y → y.no ≡ e
found_by true e x y xs h r f = subst (λ (z : Alarm). z.no ≡ e) (some_same x y f) (eqb-true x.no e h)
found_by false e x y xs h r f = r f

pub found_has : (e : ℕ) (xs : List Alarm) (y : Alarm) → find (is_alarm e) xs ≡ Some y → y.no ≡ e
found_has e [] y f = cc
found_has e (x ∷ xs) y f = found_by (x.no == e) e x y xs refl (found_has e xs y) f

-- where none of that number is pending, nothing is taken out
none_out_by : (t : Bool) (e : ℕ) (x : Alarm) (xs : List Alarm) → (x.no == e) ≡ t → find (is_alarm e) (x ∷ xs) ≡ None
    → (find (is_alarm e) xs ≡ None → filter (is_other_alarm e) xs ≡ xs) → filter (is_other_alarm e) (x ∷ xs) ≡ x ∷ xs
none_out_by true e x xs h f r = absurd (some_none x (sym (ap (λ t. cond t (Some x) (find (is_alarm e) xs)) h) ∙ f))
none_out_by false e x xs h f r =
    ap (λ t. cond (not t) (x ∷ filter (is_other_alarm e) xs) (filter (is_other_alarm e) xs)) h
    ∙ ap (λ ys. x ∷ ys) (r (sym (ap (λ t. cond t (Some x) (find (is_alarm e) xs)) h) ∙ f))

pub none_out : (e : ℕ) (xs : List Alarm) → find (is_alarm e) xs ≡ None → filter (is_other_alarm e) xs ≡ xs
none_out e [] f = refl
none_out e (x ∷ xs) f = none_out_by (x.no == e) e x xs refl f (none_out e xs)

pub none_pending : (e : ℕ) (c : Clock) → alarm_of e c ≡ None → without_alarm e c ≡ c
none_pending e c f = ap (λ alarms. record { time = c.time; alarms = alarms; next = c.next; yields = c.yields }) (none_out e c.alarms f)
