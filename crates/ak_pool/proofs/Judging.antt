-- An event is legal exactly where it fits what the pool keeps.
use Rattle.std.proofs.Common.{ℕ, ◌+◌, ◌-◌, ◌<◌, ◌≤◌, ◌≡◌, zero, suc, List, [], ◌∷◌, Bool, true, false, cond, ltb, length, get_or, take, refl, ap, sym, ◌∙◌, arith, inl, inr, add-one}
use Rattle.std.specs.Prelude.{not, ◌&&◌, ◌==◌, filter, find, count_by, Option, Some, None, is_some, is_none, ◌↔◌}
use Rattle.std.specs.List.{list_any, position, position_or_len}
use Rattle.std.specs.Option.{option_or}
use Rattle.std.proofs.lemmas.Bool.{eq-eqb, ne_eqb, ltb-false, lt-ltb, cases_eq, cases_lt}
use Rattle.std.proofs.lemmas.List.{length-map, take_all}
use Rattle.std.proofs.lemmas.List.Sums.{length-filter, fails_before_first, sum_by-cons, sum_by_push, sum_by_more}
use Rattle.std.proofs.lemmas.List.Folds.{find-append}
use Rattle.std.proofs.lemmas.List.Quantifiers.{position-Some}
use Rattle.ak_labor.specs.declared.work.Outcome.{Outcome}
use Rattle.ak_history.specs.Events.{Begun, Reserved, is_general, numbers_below}
use Rattle.ak_pool.specs.declared.task.Task.{Task}
use Rattle.ak_pool.specs.Threads.{ThreadState, idle_thread, is_idle, is_taken, runs_general}
use Rattle.ak_pool.specs.Desks.{DeskState, thread_at, free_of, answer_of}
use Rattle.ak_pool.specs.Facts.{Facts, has_begun, has_finished, over_in, task_of, held_on, running_on, general_in}
use Rattle.ak_pool.specs.Stands.{Stands, reserved_list, begun_list}
use Rattle.ak_pool.proofs.Items.{any_by_filter, any_by_one}
use Rattle.ak_pool.proofs.Works.{one_if}

-- what is at a place that passes
pub position_some : {A : Type 0} (p : A → Bool) (xs : List A) (i : ℕ) (d : A) → i < length xs → p (get_or xs i d) ≡ true → is_some (position p xs) ≡ true
position_some p xs i d lt e =
    ap (λ b. is_some (cond b (Some (position_or_len p xs)) None))
    (lt-ltb (position_or_len p xs) (length xs)
    (elim (cases_lt i (position_or_len p xs)) [ inl k ↦ absurd (cc (e, fails_before_first p xs i d k)) | inr k ↦ omega arith ]))

position_none_at : (b : Bool) (i : ℕ) → cond b (Some i) None ≡ None → b ≡ false
position_none_at true i e = absurd (cc)
position_none_at false i e = refl

pub position_none : {A : Type 0} (p : A → Bool) (xs : List A) (i : ℕ) (d : A) → position p xs ≡ None → i < length xs → p (get_or xs i d) ≡ false
position_none p xs i d e lt =
    let none = position_none_at (ltb (position_or_len p xs) (length xs)) (position_or_len p xs) e in
    fails_before_first p xs i d (omega (arith, ltb-false (position_or_len p xs) (length xs) none))

find_below : (p : ℕ → Bool) (n : ℕ) → ((t : ℕ) → t < n → p t ≡ false) → find p (numbers_below n) ≡ None
find_below p zero h = refl
find_below p (suc n) h =
    find-append p (numbers_below n) (n ∷ [])
    ∙ ap (λ o. option_or o (cond (p n) (Some n) None)) (find_below p n (λ t lt. h t (omega arith)))
    ∙ ap (λ b. cond b (Some n) None) (h n (omega arith))

find_first : (p : ℕ → Bool) (n i : ℕ) → i < n → p i ≡ true → ((t : ℕ) → t < i → p t ≡ false) → find p (numbers_below n) ≡ Some i
find_first p zero i lt e h = absurd (omega arith)
find_first p (suc n) i lt e h =
    elim (cases_eq i n) [
      | inl same ↦
          find-append p (numbers_below n) (n ∷ [])
          ∙ ap (λ o. option_or o (cond (p n) (Some n) None)) (find_below p n (λ t less. h t (omega arith)))
          ∙ ap (λ b. cond b (Some n) None) (ap p (sym same) ∙ e)
          ∙ ap Some (sym same)
      | inr ne ↦
          find-append p (numbers_below n) (n ∷ [])
          ∙ ap (λ o. option_or o (cond (p n) (Some n) None)) (find_first p n i (omega arith) e h)
    ]

find_place_at : {A : Type 0} (p : ℕ → Bool) (q : A → Bool) (xs : List A) (d : A) (o : Option ℕ) → position q xs ≡ o
    → ((t : ℕ) → t < length xs → p t ≡ q (get_or xs t d)) → find p (numbers_below (length xs)) ≡ o
find_place_at p q xs d None e h = find_below p (length xs) (λ t lt. h t lt ∙ position_none q xs t d e lt)
find_place_at p q xs d (Some i) e h =
    let k = position-Some q xs i d e in
    find_first p (length xs) i k.0 (h i k.0 ∙ k.1) (λ t lt. h t (omega (arith, k.0)) ∙ k.2 t lt)

-- the least number that passes is the place of the first item that does
find_place : {A : Type 0} (p : ℕ → Bool) (q : A → Bool) (xs : List A) (d : A) → ((t : ℕ) → t < length xs → p t ≡ q (get_or xs t d))
    → find p (numbers_below (length xs)) ≡ position q xs
find_place p q xs d h = find_place_at p q xs d (position q xs) refl h

count_below : {A : Type 0} (p : ℕ → Bool) (q : A → Bool) (xs : List A) (d : A) (n : ℕ) → n ≤ length xs
    → ((t : ℕ) → t < length xs → p t ≡ q (get_or xs t d)) → count_by p (numbers_below n) ≡ count_by q (take n xs)
count_below p q xs d zero le h = refl
count_below p q xs d (suc n) le h =
    sum_by_push (λ t. one_if (p t)) (numbers_below n) n
    ∙ ap (λ k. k + one_if (p n)) (count_below p q xs d n (omega arith) h)
    ∙ ap (λ b. count_by q (take n xs) + one_if b) (h n (omega arith))
    ∙ sym (sum_by_more (λ x. one_if (q x)) xs n d (omega arith))
    ∙ ap (λ k. count_by q (take k xs)) (add-one n)

count_all : {A : Type 0} (p : ℕ → Bool) (q : A → Bool) (xs : List A) (d : A) → ((t : ℕ) → t < length xs → p t ≡ q (get_or xs t d))
    → count_by p (numbers_below (length xs)) ≡ count_by q xs
count_all p q xs d h =
    count_below p q xs d (length xs) (omega arith) h ∙ ap (count_by q) (take_all (length xs) xs (omega arith))

-- whether a thread runs a work and whether it is reserved, by its row
runs_at : (begun : List Begun) (finished : List (ℕ × Outcome)) (t : ℕ) (o : Option Task) → running_on begun finished t ≡ begun_list t o
    → list_any (λ (b : Begun). b.thread == t && not (has_finished finished b.id)) begun ≡ is_some o
runs_at begun finished t None e = any_by_filter (λ (b : Begun). b.thread == t && not (has_finished finished b.id)) begun e
runs_at begun finished t (Some task) e = any_by_one (λ (b : Begun). b.thread == t && not (has_finished finished b.id)) begun [] _ e

held_at : (f : Facts) (t : ℕ) (o : Option ℕ) → held_on f.reserved f.ended f.finished f.handed t ≡ reserved_list t o
    → list_any (λ (r : Reserved). r.thread == t && not (over_in f.ended f.finished f.handed r.helper)) f.reserved ≡ is_some o
held_at f t None e = any_by_filter (λ (r : Reserved). r.thread == t && not (over_in f.ended f.finished f.handed r.helper)) f.reserved e
held_at f t (Some h) e = any_by_one (λ (r : Reserved). r.thread == t && not (over_in f.ended f.finished f.handed r.helper)) f.reserved [] _ e

abbrev pub runs_on : Facts → ℕ → Bool
runs_on f t = list_any (λ (b : Begun). b.thread == t && not (has_finished f.finished b.id)) f.begun

abbrev pub held_by : Facts → ℕ → Bool
held_by f t = list_any (λ (r : Reserved). r.thread == t && not (over_in f.ended f.finished f.handed r.helper)) f.reserved

pub runs_is : (size : ℕ) (f : Facts) (s : DeskState) (t : ℕ) → Stands size f s → t < size → runs_on f t ≡ is_some (thread_at s t).running
runs_is size f s t st lt = runs_at f.begun f.finished t (thread_at s t).running (st.each_thread t lt).running

pub held_is : (size : ℕ) (f : Facts) (s : DeskState) (t : ℕ) → Stands size f s → t < size → held_by f t ≡ is_some (thread_at s t).helper
held_is size f s t st lt = held_at f t (thread_at s t).helper (st.each_thread t lt).held

not_some : {A B : Type 0} (a : Option A) (b : Option B) → (not (is_some a) && not (is_some b)) ≡ (is_none a && is_none b)
not_some None None = refl
not_some None (Some y) = refl
not_some (Some x) b = refl

-- how many general works wait
waiting_is : (size : ℕ) (f : Facts) (s : DeskState) → Stands size f s → count_by (λ w. is_general w && not (has_begun f.begun w.id)) f.handed ≡ length s.waiting
waiting_is size f s st =
    sym (length-filter (λ w. is_general w && not (has_begun f.begun w.id)) f.handed)
    ∙ sym (length-map (filter (λ w. is_general w && not (has_begun f.begun w.id)) f.handed) task_of) ∙ ap length (sym st.waiting)

-- how many threads a further helper may choose from
pub free_is : (size : ℕ) (f : Facts) (s : DeskState) → Stands size f s
    → (size - count_by (held_by f) (numbers_below size) - general_in f.handed f.begun f.finished
    - count_by (λ w. is_general w && not (has_begun f.begun w.id)) f.handed) ≡ free_of s
free_is size f s st =
    let taken : count_by (held_by f) (numbers_below (length s.threads)) ≡ count_by is_taken s.threads =
    count_all (held_by f) is_taken s.threads idle_thread (λ t k. held_is size f s t st (omega (arith, k, st.size))) in
    ap (λ n. n - count_by (held_by f) (numbers_below n) - general_in f.handed f.begun f.finished
    - count_by (λ w. is_general w && not (has_begun f.begun w.id)) f.handed) (sym st.size)
    ∙ ap (λ n. length s.threads - n - general_in f.handed f.begun f.finished - count_by (λ w. is_general w && not (has_begun f.begun w.id)) f.handed) taken
    ∙ ap (λ n. length s.threads - count_by is_taken s.threads - n - count_by (λ w. is_general w && not (has_begun f.begun w.id)) f.handed) st.general
    ∙ ap (λ n. length s.threads - count_by is_taken s.threads - count_by runs_general s.threads - n) (waiting_is size f s st)

-- the answer to a further helper
pub answer_is : (size : ℕ) (f : Facts) (s : DeskState) → Stands size f s
    → cond ((size - count_by (held_by f) (numbers_below size) - general_in f.handed f.begun f.finished
    - count_by (λ w. is_general w && not (has_begun f.begun w.id)) f.handed) == 0) None
    (find (λ t. not (runs_on f t) && not (held_by f t)) (numbers_below size)) ≡ answer_of s
answer_is size f s st =
    let idle : find (λ t. not (runs_on f t) && not (held_by f t)) (numbers_below (length s.threads)) ≡ position is_idle s.threads =
    find_place (λ t. not (runs_on f t) && not (held_by f t)) is_idle s.threads idle_thread
    (λ t k. ap (λ b. not b && not (held_by f t)) (runs_is size f s t st (omega (arith, k, st.size)))
    ∙ ap (λ b. not (is_some (thread_at s t).running) && not b) (held_is size f s t st (omega (arith, k, st.size)))
    ∙ not_some (thread_at s t).running (thread_at s t).helper) in
    ap (λ n. cond (n == 0) None (find (λ t. not (runs_on f t) && not (held_by f t)) (numbers_below size))) (free_is size f s st)
    ∙ ap (λ n. cond (free_of s == 0) None (find (λ t. not (runs_on f t) && not (held_by f t)) (numbers_below n))) (sym st.size)
    ∙ ap (λ o. cond (free_of s == 0) None o) idle

one_of_three : (a : Option Task) (b : Option ℕ) → 1 ≤ one_if (is_none a && is_none b) + one_if (is_some b) + one_if (is_some a && is_none b)
one_of_three None None = omega arith
one_of_three None (Some h) = omega arith
one_of_three (Some x) None = omega arith
one_of_three (Some x) (Some h) = omega arith

-- each thread is idle, reserved, or runs a general work
all_threads : (xs : List ThreadState) → length xs ≤ count_by is_idle xs + count_by is_taken xs + count_by runs_general xs
all_threads [] = omega arith
all_threads (x ∷ xs) =
    omega (
      arith,
      all_threads xs,
      one_of_three x.running x.helper,
      sum_by-cons (λ y. one_if (is_idle y)) x xs,
      sum_by-cons (λ y. one_if (is_taken y)) x xs,
      sum_by-cons (λ y. one_if (runs_general y)) x xs,
    )

count_none : {A : Type 0} (p : A → Bool) (xs : List A) (d : A) → ((t : ℕ) → t < length xs → p (get_or xs t d) ≡ false) → count_by p xs ≡ 0
count_none p [] d h = refl
count_none p (x ∷ xs) d h =
    omega (arith, sum_by-cons (λ y. one_if (p y)) x xs, ap one_if (h 0 (omega arith)), count_none p xs d (λ t lt. h (suc t) (omega arith)))

refused_some : (n t : ℕ) → cond (n == 0) None (Some t) ≡ None → n ≡ 0
refused_some n t e =
    elim (cases_eq n 0) [ inl k ↦ k | inr ne ↦ absurd (cc (e, ap (λ b. cond b None (Some t)) (ne_eqb n 0 ne))) ]

refused_at : (s : DeskState) (o : Option ℕ) → position is_idle s.threads ≡ o → (cond (free_of s == 0) None o ≡ None) ↔ (free_of s ≡ 0)
refused_at s None e = (
  λ k. let none = count_none is_idle s.threads idle_thread (λ t lt. position_none is_idle s.threads t idle_thread e lt) in
      omega (arith, none, all_threads s.threads),
  λ k. ap (λ b. cond b None None) (eq-eqb (free_of s) 0 k),
)
refused_at s (Some t) e =
    (λ k. refused_some (free_of s) t k, λ k. ap (λ b. cond b None (Some t)) (eq-eqb (free_of s) 0 k))

-- a helper is refused exactly where no thread is free
pub refused_is : (s : DeskState) → (answer_of s ≡ None) ↔ (free_of s ≡ 0)
refused_is s = refused_at s (position is_idle s.threads) refl
