-- What a thread runs, and what an asker has asked, after one more event.
use Rattle.std.proofs.Common.{◌≡◌, ℕ, ℤ, ◌+◌, ◌<◌, Bool, true, false, cond, List, [], ◌∷◌, ◌++◌, length, refl, sym, ap, subst, ◌∙◌, append-nil, arith}
use Rattle.std.specs.Prelude.{◌||◌, ◌&&◌, ◌==◌, not, filter, find, Option, Some, None}
use Rattle.std.specs.Option.{option_map, option_or}
use Rattle.std.specs.List.{list_any}
use Rattle.std.proofs.lemmas.Bool.{eq-eqb, eqb-true, ne_eqb, false_from_ne_true}
use Rattle.std.proofs.lemmas.List.{length-append}
use Rattle.std.proofs.lemmas.List.Elements.{filter_map-append}
use Rattle.std.proofs.lemmas.List.Folds.{find-append}
use Rattle.ak_labor.specs.declared.work.Work.{Work}
use Rattle.ak_labor.specs.declared.work.Outcome.{Outcome}
use Rattle.ak_labor.specs.Waits.{Handed}
use Rattle.ak_history.specs.declared.event.Event.{Event}
use Rattle.ak_history.specs.declared.event.Event.TheVariants as event
use Rattle.ak_history.specs.Events.{Asking, Begun, begun, begun_in, finished, finished_in, handed, handed_in, work_at, is_finished}
use Rattle.ak_history.specs.Legal.{Legal, IsLegalAfter}
use Rattle.ak_pool.specs.declared.task.Task.{Task}
use Rattle.ak_pool.specs.Desks.{thread_at}
use Rattle.ak_pool.specs.Stands.{Each, begun_list}
use Rattle.ak_pool.proofs.Growing.{map_kept, map_last}
use Rattle.ak_pool.proofs.Items.{any_last, any_none, each_map, find_last, find_more, none_any, none_found, unfilter}
use Rattle.ak_history_laws.specs.Asked.{requests_of}
use Rattle.ak_history_laws.specs.Behind.{IsNotByThread}
use Rattle.ak_history_laws.proofs.Legals.{left_by}
use Rattle.ak_history_laws.proofs.Parts.{or_no}
use Rattle.ak_history_laws.proofs.Threads.{was_begun, one_thread}
use Rattle.ak_asker_laws.proofs.Staying.{requests_more}
use Rattle.ak_next.specs.Next.{work_on}
use Rattle.ak_next.proofs.Doing.{work_is}
use Rattle.ak_next.proofs.Lists.{mapped_some}

-- what a thread runs, by what was begun and what was finished
abbrev runs : List Begun → List (ℕ × Outcome) → ℕ → Option ℕ
runs bs fs t = option_map (λ (b : Begun). b.id) (find (λ (b : Begun). b.thread == t && not (list_any (λ (f : ℕ × Outcome). f.0 == b.id) fs)) bs)

-- an event that begins and finishes nothing
kept : (xs : List Event) (e : Event) (t : ℕ) → begun_in e ≡ None → finished_in e ≡ None → work_on (xs ++ e ∷ []) t ≡ work_on xs t
kept xs e t b f = λ i. runs (map_kept begun_in xs e b i) (map_kept finished_in xs e f i) t

or_none : {A : Type 0} (o : Option A) → option_or o None ≡ o
or_none None = refl
or_none (Some x) = refl

-- one more is begun, which does not pass
find_apart : {A : Type 0} (p : A → Bool) (xs : List A) (y : A) → p y ≡ false → find p (xs ++ y ∷ []) ≡ find p xs
find_apart p xs y e =
    find-append p xs (y ∷ []) ∙ (ap (λ b. option_or (find p xs) (cond b (Some y) None)) e ∙ or_none (find p xs))

find_same : {A : Type 0} (p q : A → Bool) (xs : List A) → Each (λ x. p x ≡ q x) xs → find p xs ≡ find q xs
find_same p q [] h = refl
find_same p q (x ∷ xs) h = λ i. cond (h.0 i) (Some x) (find_same p q xs h.1 i)

other_begins : (xs : List Event) (u id t : ℕ) → (u == t) ≡ false → work_on (xs ++ event.Start u id ∷ []) t ≡ work_on xs t
other_begins xs u id t ne =
    let b : Begun = record { thread = u; id = id } in
    (λ i. runs (map_last begun_in xs (event.Start u id) b refl i) (map_kept finished_in xs (event.Start u id) refl i) t)
    ∙ ap (option_map (λ (x : Begun). x.id))
    (find_apart (λ (x : Begun). x.thread == t && not (is_finished xs x.id)) (begun xs) b (ap (λ c. c && not (is_finished xs id)) ne))

-- no work of the thread has this number
none_such : (bs : List Begun) (t id : ℕ) → was_begun t id bs ≡ false → Each (λ (b : Begun). (b.thread == t && b.id == id) ≡ false) bs
none_such bs t id e = any_none (λ (b : Begun). b.thread == t && b.id == id) bs e

same_test : (a b c : Bool) → (a && b) ≡ false → (a && not (c || (b || false))) ≡ (a && not c)
same_test true true c e = absurd (cc e)
same_test true false c e = ap not (or_no c)
same_test false b c e = refl

flipped : (n m : ℕ) → (n == m) ≡ (m == n)
flipped n m = one (n == m) refl
  where
    one : (b : Bool) → (n == m) ≡ b → b ≡ (m == n)
    one true e = sym (eq-eqb m n (sym (eqb-true n m e)))
    one false e = sym (ne_eqb m n (λ k. absurd (cc (e, eq-eqb n m (sym k)))))

other_finishes : (threads askers : ℕ) (xs : List Event) (u id : ℕ) (outcome : Outcome) (t : ℕ) → Legal threads askers xs
    → IsLegalAfter threads askers xs (event.Finish u id outcome) → (u == t) ≡ false → work_on (xs ++ event.Finish u id outcome ∷ []) t ≡ work_on xs t
other_finishes threads askers xs u id outcome t legal is ne =
    let none : was_begun t id (begun xs) ≡ false =
    false_from_ne_true (was_begun t id (begun xs))
    (λ e. absurd (cc (ne, eq-eqb u t (one_thread threads askers xs t u id legal e is.rule.0)))) in
    (λ i. runs (map_kept begun_in xs (event.Finish u id outcome) refl i) (map_last finished_in xs (event.Finish u id outcome) (id, outcome) refl i) t)
    ∙ ap (option_map (λ (b : Begun). b.id))
    (find_same (λ (b : Begun). b.thread == t && not (list_any (λ (f : ℕ × Outcome). f.0 == b.id) (finished xs ++ (id, outcome) ∷ [])))
    (λ (b : Begun). b.thread == t && not (is_finished xs b.id)) (begun xs)
    (each_map (λ (b : Begun). (b.thread == t && b.id == id) ≡ false)
    (λ (b : Begun). (b.thread == t && not (list_any (λ (f : ℕ × Outcome). f.0 == b.id) (finished xs ++ (id, outcome) ∷ [])))
    ≡ (b.thread == t && not (is_finished xs b.id)))
    (λ b k. ap (λ c. b.thread == t && not c) (any_last (λ (f : ℕ × Outcome). f.0 == b.id) (finished xs) (id, outcome))
    ∙ (ap (λ c. b.thread == t && not (is_finished xs b.id || (c || false))) (flipped id b.id)
    ∙ same_test (b.thread == t) (b.id == id) (is_finished xs b.id) k)) (begun xs) (none_such (begun xs) t id none)))

-- LAW. What others do leaves what a thread runs.
pub runs_on : (threads askers : ℕ) (xs : List Event) (e : Event) (t : ℕ) → Legal threads askers xs → IsLegalAfter threads askers xs e
    → IsNotByThread t e → work_on (xs ++ e ∷ []) t ≡ work_on xs t
runs_on threads askers xs (event.Submit id work helper) t legal is other = kept xs (event.Submit id work helper) t refl refl
runs_on threads askers xs (event.Start thread id) t legal is other = other_begins xs thread id t other
runs_on threads askers xs (event.Finish thread id outcome) t legal is other = other_finishes threads askers xs thread id outcome t legal is other
runs_on threads askers xs (event.Request q asker n) t legal is other = kept xs (event.Request q asker n) t refl refl
runs_on threads askers xs (event.AskerEnd asker) t legal is other = kept xs (event.AskerEnd asker) t refl refl
runs_on threads askers xs (event.Drain ids requests) t legal is other = kept xs (event.Drain ids requests) t refl refl
runs_on threads askers xs (event.Answered q v) t legal is other = kept xs (event.Answered q v) t refl refl
runs_on threads askers xs (event.HelperNew h answer) t legal is other = kept xs (event.HelperNew h answer) t refl refl
runs_on threads askers xs (event.HelperEnd h) t legal is other = kept xs (event.HelperEnd h) t refl refl
runs_on threads askers xs event.Close t legal is other = kept xs event.Close t refl refl

none_found_before : (o : Option Begun) → option_map (λ (b : Begun). b.id) o ≡ None → o ≡ None
none_found_before None e = refl
none_found_before (Some b) e = absurd (cc e)

-- LAW. A thread runs what it has begun.
pub runs_begun : (xs : List Event) (t id : ℕ) → work_on xs t ≡ None → is_finished xs id ≡ false → work_on (xs ++ event.Start t id ∷ []) t ≡ Some id
runs_begun xs t id idle open_yet =
    let b : Begun = record { thread = t; id = id } in
    let p = λ (x : Begun). x.thread == t && not (is_finished xs x.id) in
    let passes : p b ≡ true = ap (λ c. c && not (is_finished xs id)) (eq-eqb t t refl) ∙ ap not open_yet in
    (λ i. runs (map_last begun_in xs (event.Start t id) b refl i) (map_kept finished_in xs (event.Start t id) refl i) t)
    ∙ ap (option_map (λ (x : Begun). x.id)) (find_last p (begun xs) b (none_found_before (find p (begun xs)) idle) passes)

task_one : (t id : ℕ) (o : Option Task) → option_map (λ (x : Task). x.id) o ≡ Some id → Each (λ (b : Begun). b.id ≡ id) (begun_list t o)
task_one t id None e = absurd (cc e)
task_one t id (Some task) e = let same : task.id ≡ id = cc e in (same, tt)

ended_test : (a c : Bool) (n id : ℕ) → ((a && not c) ≡ true → n ≡ id) → (a && not (c || ((id == n) || false))) ≡ false
ended_test true true n id only = refl
ended_test true false n id only = ap (λ b. not (b || false)) (eq-eqb id n (sym (only refl)))
ended_test false c n id only = refl

-- LAW. A thread runs nothing once it has finished.
pub runs_none : (threads askers : ℕ) (xs : List Event) (t id : ℕ) (outcome : Outcome) → Legal threads askers xs → t < threads → work_on xs t ≡ Some id
    → work_on (xs ++ event.Finish t id outcome ∷ []) t ≡ None
runs_none threads askers xs t id outcome legal lt is =
    let k = left_by threads askers xs legal in
    let e = event.Finish t id outcome in
    let p = λ (b : Begun). b.thread == t && not (is_finished xs b.id) in
    let q = λ (b : Begun). b.thread == t && not (list_any (λ (f : ℕ × Outcome). f.0 == b.id) (finished xs ++ (id, outcome) ∷ [])) in
    let one : Each (λ (b : Begun). b.id ≡ id) (filter p (begun xs)) =
    subst (Each (λ (b : Begun). b.id ≡ id)) (sym (k.stands.each_thread t lt).running)
    (task_one t id (thread_at k.desk t).running (sym (work_is threads xs k.desk k.stands t lt) ∙ is)) in
    let none : Each (λ (b : Begun). q b ≡ false) (begun xs) =
    each_map (λ (b : Begun). p b ≡ true → b.id ≡ id) (λ (b : Begun). q b ≡ false)
    (λ b only. ap (λ c. b.thread == t && not c) (any_last (λ (f : ℕ × Outcome). f.0 == b.id) (finished xs) (id, outcome))
    ∙ ended_test (b.thread == t) (is_finished xs b.id) b.id id only) (begun xs) (unfilter (λ (b : Begun). b.id ≡ id) p (begun xs) one) in
    (λ i. runs (map_kept begun_in xs e refl i) (map_last finished_in xs e (id, outcome) refl i) t)
    ∙ ap (option_map (λ (b : Begun). b.id)) (none_found q (begun xs) (none_any q (begun xs) none))

-- a work that was handed in stays
pub work_stays : (xs ys : List Event) (id : ℕ) (work : Work) → option_map (λ (w : Handed). w.work) (work_at xs id) ≡ Some work
    → option_map (λ (w : Handed). w.work) (work_at (xs ++ ys) id) ≡ Some work
work_stays xs ys id work e =
    let k = mapped_some (λ (w : Handed). w.work) (work_at xs id) work e in
    ap (λ l. option_map (λ (w : Handed). w.work) (find (λ (w : Handed). w.id == id) l)) (filter_map-append handed_in xs ys)
    ∙ (ap (option_map (λ (w : Handed). w.work)) (find_more (λ (w : Handed). w.id == id) (handed xs) (handed ys) k.0 k.1) ∙ ap Some k.2)

-- ---- how many requests an asker has made
pub made_still : (a : ℕ) (xs : List Event) (e : Event) → requests_of a (e ∷ []) ≡ [] → length (requests_of a (xs ++ e ∷ [])) ≡ length (requests_of a xs)
made_still a xs e none = ap length (requests_more a xs (e ∷ []) ∙ (ap (λ l. requests_of a xs ++ l) none ∙ append-nil (requests_of a xs)))

pub made_more : (a : ℕ) (xs : List Event) (q : ℕ) (n : ℤ)
    → length (requests_of a (xs ++ event.Request q a n ∷ [])) ≡ length (requests_of a xs) + 1
made_more a xs q n =
    let one : length (requests_of a (event.Request q a n ∷ [])) ≡ 1 =
    let r : Asking = record { no = q; asker = a; num = n } in
    ap (λ b. length (cond b (r ∷ []) [])) (eq-eqb a a refl) in
    omega (
      arith,
      ap length (requests_more a xs (event.Request q a n ∷ [])),
      length-append (requests_of a xs) (requests_of a (event.Request q a n ∷ [])),
      one,
    )
