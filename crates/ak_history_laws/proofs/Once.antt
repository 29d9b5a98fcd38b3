-- Each work of a legal history is begun at most once, and each of one in which none is out exactly once.
use Rattle.std.proofs.Common.{◌≡◌, ℕ, ◌≤◌, Bool, true, false, cond, List, [], ◌∷◌, ◌++◌, refl, sym, ap, subst, ◌∙◌, append-nil, arith}
use Rattle.std.specs.Prelude.{◌||◌, not, ◌==◌, count_by, filter, Option, Some, None}
use Rattle.std.specs.List.{AllByRecursion, list_any, flat_map}
use Rattle.std.proofs.lemmas.Bool.{eqb-true}
use Rattle.ak_labor.specs.declared.work.Outcome.{Outcome}
use Rattle.ak_labor.specs.Waits.{Handed, is_out, is_pair_of, pairs_in, outstanding}
use Rattle.ak_trace.specs.declared.entry.Entry.{Entry}
use Rattle.ak_history.specs.declared.event.Event.{Event}
use Rattle.ak_history.specs.declared.event.Event.TheVariants as event
use Rattle.ak_history.specs.Events.{Begun, begun, handed, finished, drained_in, is_among, is_begun, is_finished, work_at}
use Rattle.ak_history.specs.Legal.{Legal, IsLegalAfter, Starts}
use Rattle.ak_history.specs.Scheduler.{asks, replies}
use Rattle.ak_pool.specs.Stands.{Each}
use Rattle.ak_history_laws.proofs.Legals.{legal_keeps, left_by}
use Rattle.ak_trace.specs.declared.entry.Entry.TheVariants as entry
use Rattle.ak_trace.specs.declared.entry.Ending.TheVariants as ending
use Rattle.ak_history_laws.proofs.Threads.{begun_append}
use Rattle.ak_history_laws.specs.Once.{starts_of, StartedOnce, StartOnce}
use Rattle.ak_history_laws.proofs.Arrivals.{handed_alike, brought_is}
use Rattle.ak_history_laws.proofs.Parts.{bit, count_more, count_none, count_some}

not_begun : (threads : ℕ) (before : List Event) (thread id : ℕ) (o : Option Handed) → Starts threads before thread id o → is_begun before id ≡ false
not_begun threads before thread id None h = absurd h
not_begun threads before thread id (Some w) h = h.0

abbrev AtMost : ℕ → List Event → Type 0
AtMost id xs = starts_of xs id ≤ 1

none_more : (id : ℕ) (xs : List Event) (e : Event) → begun (e ∷ []) ≡ [] → AtMost id xs → AtMost id (xs ++ e ∷ [])
none_more id xs e none k =
    subst (λ l. count_by (λ (b : Begun). b.id == id) l ≤ 1) (sym (begun_append xs (e ∷ []) ∙ (ap (λ l. begun xs ++ l) none ∙ append-nil (begun xs)))) k

one_start : (threads askers id : ℕ) (xs : List Event) (e : Event) → AtMost id xs → IsLegalAfter threads askers xs e → AtMost id (xs ++ e ∷ [])
one_start threads askers id xs (event.Submit n work helper) k is = none_more id xs (event.Submit n work helper) refl k
one_start threads askers id xs (event.Start thread n) k is =
    subst (λ l. count_by (λ (b : Begun). b.id == id) l ≤ 1) (sym (begun_append xs (event.Start thread n ∷ []))) (one (n == id) refl)
  where
    fresh : is_begun xs n ≡ false
    fresh = not_begun threads xs thread n (work_at xs n) is.rule

    new : Begun
    new = record { thread = thread; id = n }

    one : (b : Bool) → (n == id) ≡ b → count_by (λ (b : Begun). b.id == id) (begun xs ++ new ∷ []) ≤ 1
    one true is_it =
        let none : list_any (λ (b : Begun). b.id == id) (begun xs) ≡ false = subst (λ m. list_any (λ (b : Begun). b.id == m) (begun xs) ≡ false)
        (eqb-true n id is_it) fresh in
        omega (arith, count_more (λ (b : Begun). b.id == id) (begun xs) new, ap bit is_it, count_none (λ (b : Begun). b.id == id) (begun xs) none)
    one false is_it =
        omega (arith, count_more (λ (b : Begun). b.id == id) (begun xs) new, ap bit is_it, k)
one_start threads askers id xs (event.Finish thread n outcome) k is = none_more id xs (event.Finish thread n outcome) refl k
one_start threads askers id xs (event.Request req asker num) k is = none_more id xs (event.Request req asker num) refl k
one_start threads askers id xs (event.AskerEnd asker) k is = none_more id xs (event.AskerEnd asker) refl k
one_start threads askers id xs (event.Drain ids requests) k is = none_more id xs (event.Drain ids requests) refl k
one_start threads askers id xs (event.Answered req num) k is = none_more id xs (event.Answered req num) refl k
one_start threads askers id xs (event.HelperNew h answer) k is = none_more id xs (event.HelperNew h answer) refl k
one_start threads askers id xs (event.HelperEnd h) k is = none_more id xs (event.HelperEnd h) refl k
one_start threads askers id xs event.Close k is = none_more id xs event.Close refl k

at_most_once : (threads askers : ℕ) (xs : List Event) → Legal threads askers xs → (id : ℕ) → starts_of xs id ≤ 1
at_most_once threads askers xs h id = legal_keeps threads askers (AtMost id) (omega arith) (λ ys e k is. one_start threads askers id ys e k is) xs h

-- an item of a list that holds a number
pub each_among : (P : ℕ → Type 0) (ids : List ℕ) (id : ℕ) → Each P ids → is_among ids id ≡ true → P id
each_among P [] id h some = absurd (cc (some))
each_among P (n ∷ ids) id h some = one (n == id) refl some (λ k. each_among P ids id h.1 k)
  where
    one : (b : Bool) → (n == id) ≡ b → (b || is_among ids id) ≡ true → (is_among ids id ≡ true → P id) → P id
    one true is some later = subst P (eqb-true n id is) h.0
    one false is some later = later some

pub each_finished : (P : ℕ → Type 0) (fs : List (ℕ × Outcome)) (id : ℕ) → Each (λ f. P f.0) fs → list_any (λ (f : ℕ × Outcome). f.0 == id) fs ≡ true → P id
each_finished P [] id h some = absurd (cc (some))
each_finished P (f ∷ fs) id h some = one (f.0 == id) refl some (λ k. each_finished P fs id h.1 k)
  where
    one : (b : Bool) → (f.0 == id) ≡ b → (b || list_any (λ (g : ℕ × Outcome). g.0 == id) fs) ≡ true
        → (list_any (λ (g : ℕ × Outcome). g.0 == id) fs ≡ true → P id) → P id
    one true is some later = subst P (eqb-true f.0 id is) h.0
    one false is some later = later some

pub not_out : (b : Bool) → not b ≡ false → b ≡ true
not_out true e = refl
not_out false e = absurd (cc (e))

none_kept : {A : Type 0} (p : A → Bool) (xs : List A) → filter p xs ≡ [] → AllByRecursion (λ x. p x ≡ false) xs
none_kept p [] e = tt
none_kept {A} p (x ∷ xs) e = one (p x) refl e (λ k. none_kept p xs k)
  where
    one : (b : Bool) → p x ≡ b → cond b (x ∷ filter p xs) (filter p xs) ≡ [] → (filter p xs ≡ [] → AllByRecursion (λ y. p y ≡ false) xs)
        → (p x ≡ false) × AllByRecursion (λ y. p y ≡ false) xs
    one true is e later = absurd (cc (e))
    one false is e later = (is, later e)

all_map : {A : Type 0} (P Q : A → Type 0) → ((x : A) → P x → Q x) → (xs : List A) → AllByRecursion P xs → AllByRecursion Q xs
all_map P Q f [] h = tt
all_map P Q f (x ∷ xs) h = (f x h.0, all_map P Q f xs h.1)

once_begun : (threads askers : ℕ) (xs : List Event) → Legal threads askers xs → (w : Handed) → is_out (replies askers xs) w ≡ false → StartedOnce xs w
once_begun threads askers xs h w came =
    let stands = (left_by threads askers xs h).stands in
    let drained : is_among (flat_map drained_in xs) w.id ≡ true = sym (brought_is threads askers xs w.id h)
    ∙ not_out (list_any (is_pair_of w.id) (flat_map pairs_in (replies askers xs))) came in
    let done : is_finished xs w.id ≡ true = each_among (λ id. is_finished xs id ≡ true) (flat_map drained_in xs) w.id stands.finished_first drained in
    let started : is_begun xs w.id ≡ true = each_finished (λ id. is_begun xs id ≡ true) (finished xs) w.id stands.begun_first done in
    let least : 1 ≤ starts_of xs w.id = count_some (λ (b : Begun). b.id == w.id) (begun xs) started in
    omega (arith, least, at_most_once threads askers xs h w.id)

pub start_once : (threads askers : ℕ) (trace : List Entry) (xs : List Event) → Legal threads askers xs
    → ((before : List Entry) → trace ≡ before ++ entry.End ending.Idle ∷ [] → outstanding (asks xs) (replies askers xs) ≡ []) → StartOnce trace xs
start_once threads askers trace xs h idle = record {
  at_most = at_most_once threads askers xs h;
  exactly = λ before ends.
      all_map (λ w. is_out (replies askers xs) w ≡ false) (StartedOnce xs) (once_begun threads askers xs h) (handed xs)
      (none_kept (is_out (replies askers xs)) (handed xs) (subst (λ l. filter (is_out (replies askers xs)) l ≡ []) (handed_alike xs) (idle before ends)));
}
