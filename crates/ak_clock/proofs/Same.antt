-- To put alarms in order of time loses none and doubles none.
use Rattle.std.proofs.Common.{ℕ, ◌+◌, ◌≡◌, List, [], ◌∷◌, ap, sym, refl, ◌∙◌, Bool, true, false, cond, arith}
use Rattle.std.specs.Prelude.{filter, fold, int_lt}
use Rattle.std.specs.List.{count_by}
use Rattle.std.proofs.lemmas.List.Sums.{sum_by-cons}
use Rattle.ak_clock.specs.declared.alarm.Alarm.{Alarm}
use Rattle.ak_clock.specs.Clock.{Clock, is_due, insert_alarm, inserted, due_alarms}

to_front : (x y z : ℕ) → y + (x + z) ≡ x + (y + z)
to_front x y z = omega arith

behind : (x y z : ℕ) → x + y + z ≡ y + (x + z)
behind x y z = omega arith

counted : (p : Alarm → Bool) (a : Alarm) (alarms : List Alarm) → count_by p (a ∷ alarms) ≡ cond (p a) 1 0 + count_by p alarms
counted p a alarms = sum_by-cons (λ (x : Alarm). cond (p x) 1 0) a alarms

either_place : (t : Bool) (p : Alarm → Bool) (a b : Alarm) (alarms : List Alarm) → count_by p (insert_alarm a alarms) ≡ count_by p (a ∷ alarms)
    → count_by p (cond t (a ∷ b ∷ alarms) (b ∷ insert_alarm a alarms)) ≡ count_by p (a ∷ b ∷ alarms)
either_place true p a b alarms h = refl
either_place false p a b alarms h =
    counted p b (insert_alarm a alarms) ∙ ap (λ n. cond (p b) 1 0 + n) (h ∙ counted p a alarms)
    ∙ to_front (cond (p a) 1 0) (cond (p b) 1 0) (count_by p alarms)
    ∙ ap (λ n. cond (p a) 1 0 + n) (sym (counted p b alarms)) ∙ sym (counted p a (b ∷ alarms))

one_more : (p : Alarm → Bool) (a : Alarm) (alarms : List Alarm) → count_by p (insert_alarm a alarms) ≡ count_by p (a ∷ alarms)
one_more p a [] = refl
one_more p a (b ∷ alarms) = either_place (int_lt a.time b.time) p a b alarms (one_more p a alarms)

all_put : (p : Alarm → Bool) (there alarms : List Alarm) → count_by p (fold inserted there alarms) ≡ count_by p there + count_by p alarms
all_put p there [] = omega (arith, none p)
  where
    none : (q : Alarm → Bool) → count_by q [] ≡ 0
    none q = refl
all_put p there (a ∷ alarms) =
    all_put p (insert_alarm a there) alarms
    ∙ ap (λ n. n + count_by p alarms) (one_more p a there ∙ counted p a there)
    ∙ behind (cond (p a) 1 0) (count_by p there) (count_by p alarms)
    ∙ ap (λ n. count_by p there + n) (sym (counted p a alarms))

pub same_alarms : (p : Alarm → Bool) (c : Clock) → count_by p (due_alarms c) ≡ count_by p (filter (is_due c.time) c.alarms)
same_alarms p c = all_put p [] (filter (is_due c.time) c.alarms) ∙ nothing (count_by p (filter (is_due c.time) c.alarms))
  where
    nothing : (n : ℕ) → 0 + n ≡ n
    nothing n = omega arith
