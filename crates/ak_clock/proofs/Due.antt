-- The alarms that are due, in order of time and then of number.
use Rattle.std.proofs.Common.{ℕ, ◌+◌, ◌<◌, ◌≤◌, ◌≡◌, List, [], ◌∷◌, refl, ap, sym, ◌∙◌, subst, Bool, true, false, cond, arith, inl, inr}
use Rattle.std.specs.Prelude.{ℤ, ◌<ℤ◌, ◌≤ℤ◌, not, filter, Some, is_some, int_lt, fold}
use Rattle.std.specs.List.{All}
use Rattle.std.proofs.lemmas.Int.{ints, by_lt_z}
use Rattle.std.proofs.lemmas.List.Elements.{All-nil, All-cons, All-head, All-tail, All-weaker, All-filter}
use Rattle.ak_base.specs.Lists.{first_of, is_empty_list}
use Rattle.ak_clock.specs.declared.alarm.Alarm.{Alarm}
use Rattle.ak_clock.specs.Clock.{Clock, is_due, insert_alarm, inserted, by_time, due_alarms, has_due}
use Rattle.ak_base.specs.Numbers.{AreNumbered}
use Rattle.ak_clock.specs.Order.{number_of, IsBefore, AreByTime}
use Rattle.ak_base.proofs.Numbers.{numbered_filtered}

first_cond : (t : Bool) (a b : Alarm) (xs ys : List Alarm) → first_of (cond t (a ∷ xs) (b ∷ ys)) ≡ cond t (Some a) (Some b)
first_cond true a b xs ys = refl
first_cond false a b xs ys = refl

some_cond : (t : Bool) (a b : Alarm) → is_some (cond t (Some a) (Some b)) ≡ true
some_cond true a b = refl
some_cond false a b = refl

some_inserted : (a : Alarm) (xs : List Alarm) → is_some (first_of (insert_alarm a xs)) ≡ true
some_inserted a [] = refl
some_inserted a (b ∷ xs) = ap is_some (first_cond (int_lt a.time b.time) a b (b ∷ xs) (insert_alarm a xs)) ∙ some_cond (int_lt a.time b.time) a b

some_from : (acc ys : List Alarm) → is_some (first_of acc) ≡ true → is_some (first_of (fold inserted acc ys)) ≡ true
some_from acc [] h = h
some_from acc (y ∷ ys) h = some_from (insert_alarm y acc) ys (some_inserted y acc)

some_same : (ys : List Alarm) → is_some (first_of (by_time ys)) ≡ not (is_empty_list ys)
some_same [] = refl
some_same (y ∷ ys) = some_from (y ∷ []) ys refl

-- whether an alarm is due
pub has_due_same : (c : Clock) → is_some (first_of (due_alarms c)) ≡ has_due c
has_due_same c = some_same (filter (is_due c.time) c.alarms)

-- each number is below
abbrev AreBelow : ℕ → List Alarm → Type 0
AreBelow n xs = All (λ (a : Alarm). a.no < n) xs

lt_from : (a b : ℤ) → int_lt a b ≡ true → a <ℤ b
lt_from a b e = grind (arith, ints)

not_lt : (a b : ℤ) → int_lt a b ≡ false → b ≤ℤ a
not_lt a b e = grind (arith, ints)

lt_trans : (a b c : ℤ) → a <ℤ b → b <ℤ c → a <ℤ c
lt_trans a b c p q = omega (arith, ints)

same_from : (a b : ℤ) → a ≤ℤ b → b ≤ℤ a → a ≡ b
same_from a b p q = omega (arith, ints)

-- what comes before an alarm by its time comes before all behind that
before_behind : (a b c : Alarm) → a.time <ℤ b.time → IsBefore b c → IsBefore a c
before_behind a b c p q =
    elim q [
      | inl l ↦ inl (lt_trans a.time b.time c.time p l)
      | inr e ↦ inl (subst (λ (t : ℤ). a.time <ℤ t) e.0 p)
    ]

-- what comes before an alarm is not later
pub is_not_later : (a b : Alarm) → IsBefore a b → a.time ≤ℤ b.time
is_not_later a b q =
    elim q [
      | inl l ↦ omega (arith, ints, l)
      | inr e ↦ omega (arith, ints, e.0)
    ]

-- an older alarm that is not later comes before
before_older : (b a : Alarm) → b.time ≤ℤ a.time → b.no < a.no → IsBefore b a
before_older b a p q = by_lt_z b.time a.time (λ l. inl l) (λ g. inr (same_from b.time a.time p g, q))

all_inserted_by : (t : Bool) (P : Alarm → Type 0) (a b : Alarm) (xs : List Alarm) → P a → All P (b ∷ xs) → All P (insert_alarm a xs)
    → All P (cond t (a ∷ b ∷ xs) (b ∷ insert_alarm a xs))
all_inserted_by true P a b xs p h r = All-cons P a (b ∷ xs) p h
all_inserted_by false P a b xs p h r = All-cons P b (insert_alarm a xs) (h 0 b (omega arith)) r

all_inserted : (P : Alarm → Type 0) (a : Alarm) (xs : List Alarm) → P a → All P xs → All P (insert_alarm a xs)
all_inserted P a [] p h = All-cons P a [] p h
all_inserted P a (b ∷ xs) p h = all_inserted_by (int_lt a.time b.time) P a b xs p h (all_inserted P a xs p (All-tail P b xs h))

sorted_by : (t : Bool) (a b : Alarm) (xs : List Alarm) → int_lt a.time b.time ≡ t → AreByTime (b ∷ xs) → AreBelow a.no (b ∷ xs)
    → AreByTime (insert_alarm a xs) → AreByTime (cond t (a ∷ b ∷ xs) (b ∷ insert_alarm a xs))
sorted_by true a b xs e s l r =
    let less : a.time <ℤ b.time = lt_from a.time b.time e
    in (All-cons (IsBefore a) b xs (inl less) (All-weaker (IsBefore b) (IsBefore a) (λ c. before_behind a b c less) xs s.0), s)
sorted_by false a b xs e s l r =
    (all_inserted (IsBefore b) a xs (before_older b a (not_lt a.time b.time e) (l 0 b (omega arith))) s.0, r)

sorted_inserted : (a : Alarm) (xs : List Alarm) → AreByTime xs → AreBelow a.no xs → AreByTime (insert_alarm a xs)
sorted_inserted a [] s l = (λ k d h. absurd (omega (arith, h)), tt)
sorted_inserted a (b ∷ xs) s l =
    sorted_by (int_lt a.time b.time) a b xs refl s l (sorted_inserted a xs s.1 (All-tail (λ (x : Alarm). x.no < a.no) b xs l))

-- one more alarm, newer than all that are in order, is put among them
put_in_order : (low : ℕ) (y : Alarm) (acc : List Alarm) → low ≤ y.no → AreByTime acc → AreBelow low acc
    → AreByTime (insert_alarm y acc) × AreBelow (y.no + 1) (insert_alarm y acc)
put_in_order low y acc n s l = (
  sorted_inserted y acc s (λ k d h. omega (arith, l k d h, n)),
  all_inserted (λ (x : Alarm). x.no < y.no + 1) y acc (omega arith) (λ k d h. omega (arith, l k d h, n)),
)

sorted_from : (low high : ℕ) (acc ys : List Alarm) → AreNumbered number_of low high ys → AreByTime acc → AreBelow low acc → AreByTime (fold inserted acc ys)
sorted_from low high acc [] n s l = s
sorted_from low high acc (y ∷ ys) n s l =
    let put = put_in_order low y acc n.0 s l
    in sorted_from (y.no + 1) high (insert_alarm y acc) ys n.2 put.0 put.1

pub sorted : (high : ℕ) (xs : List Alarm) → AreNumbered number_of 0 high xs → AreByTime (by_time xs)
sorted high xs n = sorted_from 0 high [] xs n tt (All-nil (λ (x : Alarm). x.no < 0))

-- due alarms come in order of time and then of number
pub due_in_order : (c : Clock) (low high : ℕ) → AreNumbered number_of low high c.alarms → AreByTime (due_alarms c)
due_in_order c low high a = sorted_from low high [] (filter (is_due c.time) c.alarms) (numbered_filtered number_of (is_due c.time) low high c.alarms a) tt
    (All-nil (λ (x : Alarm). x.no < low))

-- what holds of all alarms holds of them in order of time
all_from : (P : Alarm → Type 0) (acc ys : List Alarm) → All P acc → All P ys → All P (fold inserted acc ys)
all_from P acc [] h k = h
all_from P acc (y ∷ ys) h k = all_from P (insert_alarm y acc) ys (all_inserted P y acc (All-head P y ys k) h) (All-tail P y ys k)

pub all_by_time : (P : Alarm → Type 0) (xs : List Alarm) → All P xs → All P (by_time xs)
all_by_time P xs k = all_from P [] xs (All-nil P) k

-- to leave alarms out and then put the others in order is to put all in order and then leave those out
lt_true : (a b : ℤ) → a <ℤ b → int_lt a b ≡ true
lt_true a b l = grind (arith, ints)

goes_first : (a : Alarm) (xs : List Alarm) → All (λ (b : Alarm). a.time <ℤ b.time) xs → insert_alarm a xs ≡ a ∷ xs
goes_first a [] h = refl
goes_first a (b ∷ xs) h = ap (λ t. cond t (a ∷ b ∷ xs) (b ∷ insert_alarm a xs)) (lt_true a.time b.time (All-head (λ (b : Alarm). a.time <ℤ b.time) b xs h))

earlier_than : (a b c : Alarm) → a.time <ℤ b.time → IsBefore b c → a.time <ℤ c.time
earlier_than a b c p q =
    elim q [
      | inl l ↦ lt_trans a.time b.time c.time p l
      | inr e ↦ subst (λ (t : ℤ). a.time <ℤ t) e.0 p
    ]

filtered_behind : (u v : Bool) (a b : Alarm) (xs ys : List Alarm) → int_lt a.time b.time ≡ false → ys ≡ cond v (insert_alarm a xs) xs
    → cond u (b ∷ ys) ys ≡ cond v (insert_alarm a (cond u (b ∷ xs) xs)) (cond u (b ∷ xs) xs)
filtered_behind true true a b xs ys e h = ap (λ zs. b ∷ zs) h ∙ sym (ap (λ t. cond t (a ∷ b ∷ xs) (b ∷ insert_alarm a xs)) e)
filtered_behind true false a b xs ys e h = ap (λ zs. b ∷ zs) h
filtered_behind false v a b xs ys e h = h

filtered_by : (t : Bool) (p : Alarm → Bool) (a b : Alarm) (xs : List Alarm) → int_lt a.time b.time ≡ t → AreByTime (b ∷ xs)
    → filter p (insert_alarm a xs) ≡ cond (p a) (insert_alarm a (filter p xs)) (filter p xs)
    → filter p (cond t (a ∷ b ∷ xs) (b ∷ insert_alarm a xs)) ≡ cond (p a) (insert_alarm a (filter p (b ∷ xs))) (filter p (b ∷ xs))
filtered_by true p a b xs e s h =
    let later : Alarm → Type 0 = λ c. a.time <ℤ c.time
    in let less : a.time <ℤ b.time = lt_from a.time b.time e
    in let all : All later (b ∷ xs) = All-cons later b xs less (All-weaker (IsBefore b) later (λ c. earlier_than a b c less) xs s.0)
    in ap (λ zs. cond (p a) zs (filter p (b ∷ xs))) (sym (goes_first a (filter p (b ∷ xs)) (All-filter p later (b ∷ xs) all)))
filtered_by false p a b xs e s h = filtered_behind (p b) (p a) a b (filter p xs) (filter p (insert_alarm a xs)) e h

filtered_inserted : (p : Alarm → Bool) (a : Alarm) (xs : List Alarm) → AreByTime xs
    → filter p (insert_alarm a xs) ≡ cond (p a) (insert_alarm a (filter p xs)) (filter p xs)
filtered_inserted p a [] s = refl
filtered_inserted p a (b ∷ xs) s = filtered_by (int_lt a.time b.time) p a b xs refl s (filtered_inserted p a xs s.1)

put_or_not : (t : Bool) (y : Alarm) (acc ys : List Alarm) → fold inserted (cond t (insert_alarm y acc) acc) ys ≡ fold inserted acc (cond t (y ∷ ys) ys)
put_or_not true y acc ys = refl
put_or_not false y acc ys = refl

filtered_from : (p : Alarm → Bool) (low high : ℕ) (acc ys : List Alarm) → AreNumbered number_of low high ys → AreByTime acc → AreBelow low acc
    → filter p (fold inserted acc ys) ≡ fold inserted (filter p acc) (filter p ys)
filtered_from p low high acc [] n s l = refl
filtered_from p low high acc (y ∷ ys) n s l =
    let put = put_in_order low y acc n.0 s l
    in filtered_from p (y.no + 1) high (insert_alarm y acc) ys n.2 put.0 put.1
    ∙ ap (λ zs. fold inserted zs (filter p ys)) (filtered_inserted p y acc s)
    ∙ put_or_not (p y) y (filter p acc) (filter p ys)

pub filtered : (p : Alarm → Bool) (high : ℕ) (xs : List Alarm) → AreNumbered number_of 0 high xs → filter p (by_time xs) ≡ by_time (filter p xs)
filtered p high xs n = filtered_from p 0 high [] xs n tt (All-nil (λ (x : Alarm). x.no < 0))
