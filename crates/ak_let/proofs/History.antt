-- A legal history that a run meets is a pool that does its works.
use Rattle.std.proofs.Common.{ℕ, zero, suc, pos, ◌+◌, ◌<◌, ◌≤◌, ◌≡◌, inl, inr, List, [], ◌∷◌, ◌++◌, length, take, map, find, fold, Bool, true, false, cond, ◌==◌, Option, Some, None, unwrap_or, refl, ap, sym, ◌∙◌, subst, arith, append_assoc, append-nil, length-append}
use Rattle.std.specs.Prelude.{slice_get, count_by}
use Rattle.std.specs.Option.{option_map}
use Rattle.std.specs.List.{AllByRecursion, filter_map, cons_option}
use Rattle.std.proofs.lemmas.Bool.{cases_lt, eq-eqb, ne_eqb}
use Rattle.std.proofs.lemmas.List.Elements.{filter_map-append}
use Rattle.ak_labor.specs.declared.work.Work.{Work}
use Rattle.ak_labor.specs.declared.work.Outcome.{Outcome}
use Rattle.ak_labor.specs.declared.work.Outcome.TheVariants.{Good}
use Rattle.ak_labor.specs.declared.ask.Ask.{Ask}
use Rattle.ak_labor.specs.declared.ask.Ask.TheVariants as ask
use Rattle.ak_labor.specs.Calls.{Reply}
use Rattle.ak_labor.specs.Waits.{Handed}
use Rattle.ak_labor.specs.Value.{value_of}
use Rattle.ak_history.specs.declared.event.Event.{Event}
use Rattle.ak_history.specs.declared.event.Event.TheVariants as event
use Rattle.ak_history.specs.Events.{handed, handed_in, finished, finished_in, asked, asked_in, work_at, is_submit, numbers_below}
use Rattle.ak_history.specs.Legal.{Legal, AreLegalAfter, IsLegalAfter, HasValue}
use Rattle.ak_history.specs.Scheduler.{asks, replies, replies_after, finish_in, request_in}
use Rattle.ak_program.specs.Programs.{NumProgram}
use Rattle.ak_labor.specs.declared.config.Config.{Config}
use Rattle.ak_machine.specs.Run.{Machine, Ran, Wants, ran_to, machine_after, stepped, begun}
use Rattle.ak_meets.specs.Meets.{wanted, wanted_at, Agree}
use Rattle.ak_let.specs.Correct.{AsksFor, Brings, AreTrue}

-- ---- finding
find_append : {X : Type 0} (test : X → Bool) (xs ys : List X) (x : X) → find test xs ≡ Some x → find test (xs ++ ys) ≡ Some x
find_append test [] ys x e = absurd cc
find_append {X} test (y ∷ xs) ys x e = by (test y) e (find_append test xs ys x)
  where
    by : (b : Bool) → cond b (Some y) (find test xs) ≡ Some x → (find test xs ≡ Some x → find test (xs ++ ys) ≡ Some x)
        → cond b (Some y) (find test (xs ++ ys)) ≡ Some x
    by true e ih = e
    by false e ih = ih e

find_behind : {X : Type 0} (test : X → Bool) (xs ys : List X) → find test xs ≡ None → find test (xs ++ ys) ≡ find test ys
find_behind test [] ys e = refl
find_behind {X} test (y ∷ xs) ys e = by (test y) e (find_behind test xs ys)
  where
    by : (b : Bool) → cond b (Some y) (find test xs) ≡ None → (find test xs ≡ None → find test (xs ++ ys) ≡ find test ys)
        → cond b (Some y) (find test (xs ++ ys)) ≡ find test ys
    by true e ih = absurd cc
    by false e ih = ih e

-- ---- the works of a history
-- the value of the work that was submitted under a number
abbrev pub comes_to : List Event → ℕ → Outcome
comes_to history id = unwrap_or (option_map (λ (w : Handed). value_of w.work) (work_at history id)) (Good (pos 0))

comes_by : (history : List Event) (id : ℕ) (w : Handed) → work_at history id ≡ Some w → comes_to history id ≡ value_of w.work
comes_by history id w e = ap (λ o. unwrap_or (option_map (λ (w : Handed). value_of w.work) o) (Good (pos 0))) e

-- no work has a number that was not drawn
abbrev NoneFrom : List Event → Type 0
NoneFrom before = (id : ℕ) → count_by is_submit before ≤ id → work_at before id ≡ None

fold_behind : (xs : List Event) (e : Event) (a : ℕ)
    → fold (λ (n : ℕ) (x : Event). n + cond (is_submit x) 1 0) a (xs ++ e ∷ [])
    ≡ fold (λ (n : ℕ) (x : Event). n + cond (is_submit x) 1 0) a xs + cond (is_submit e) 1 0
fold_behind [] e a = refl
fold_behind (x ∷ xs) e a = fold_behind xs e (a + cond (is_submit x) 1 0)

count_behind : (before : List Event) (e : Event) → count_by is_submit (before ++ e ∷ []) ≡ count_by is_submit before + cond (is_submit e) 1 0
count_behind before e = fold_behind before e 0

abbrev has_id : ℕ → Handed → Bool
has_id id w = w.id == id

other_step : (before : List Event) (e : Event) → filter_map handed_in (e ∷ []) ≡ [] → is_submit e ≡ false → NoneFrom before → NoneFrom (before ++ e ∷ [])
other_step before e h s n id l =
    ap (find (has_id id)) (filter_map-append handed_in before (e ∷ []) ∙ ap (λ ws. handed before ++ ws) h ∙ append-nil (handed before))
    ∙ n id (omega (arith, l, count_behind before e, ap {B = ℕ} (λ b. cond b 1 0) s))

submit_step : (before : List Event) (id : ℕ) (work : Work) (helper : Option ℕ) → id ≡ count_by is_submit before → NoneFrom before
    → NoneFrom (before ++ event.Submit id work helper ∷ [])
submit_step before id work helper e n j l =
    let w : Handed = record { id = id; work = work; helper = helper }
    in ap (find (has_id j)) (filter_map-append handed_in before (event.Submit id work helper ∷ []))
    ∙ find_behind (has_id j) (handed before) (w ∷ []) (n j (omega (arith, l, count_behind before (event.Submit id work helper))))
    ∙ ap (λ b. cond b (Some w) None) (ne_eqb id j (λ k. omega (arith, k, e, l, count_behind before (event.Submit id work helper))))

none_step : (threads askers : ℕ) (before : List Event) (e : Event) → NoneFrom before → IsLegalAfter threads askers before e → NoneFrom (before ++ e ∷ [])
none_step threads askers before (event.Submit id work helper) n l = submit_step before id work helper l.rule.0 n
none_step threads askers before (event.Start thread id) n l = other_step before (event.Start thread id) refl refl n
none_step threads askers before (event.Finish thread id o) n l = other_step before (event.Finish thread id o) refl refl n
none_step threads askers before (event.Request q asker z) n l = other_step before (event.Request q asker z) refl refl n
none_step threads askers before (event.AskerEnd asker) n l = other_step before (event.AskerEnd asker) refl refl n
none_step threads askers before (event.Drain ids requests) n l = other_step before (event.Drain ids requests) refl refl n
none_step threads askers before (event.Answered q v) n l = other_step before (event.Answered q v) refl refl n
none_step threads askers before (event.HelperNew h answer) n l = other_step before (event.HelperNew h answer) refl refl n
none_step threads askers before (event.HelperEnd h) n l = other_step before (event.HelperEnd h) refl refl n
none_step threads askers before event.Close n l = other_step before event.Close refl refl n

-- ---- each event is true of the whole history
abbrev of_id : ℕ → ℕ × Outcome → Bool
of_id id f = f.0 == id

all_map : {X : Type 0} (P Q : X → Type 0) → ((x : X) → P x → Q x) → (xs : List X) → AllByRecursion P xs → AllByRecursion Q xs
all_map P Q h [] a = tt
all_map P Q h (x ∷ xs) a = (h x a.0, all_map P Q h xs a.1)

abbrev IsTrueIn : List Event → Event → Type 0
IsTrueIn history (event.Submit id work helper) = comes_to history id ≡ value_of work
IsTrueIn history (event.Start thread id) = Unit {0}
IsTrueIn history (event.Finish thread id o) = o ≡ comes_to history id
IsTrueIn history (event.Request q asker n) = ⊥
IsTrueIn history (event.AskerEnd asker) = ⊥
IsTrueIn history (event.Drain ids requests) = Unit {0}
IsTrueIn history (event.Answered q v) = Unit {0}
IsTrueIn history (event.HelperNew h answer) = Unit {0}
IsTrueIn history (event.HelperEnd h) = Unit {0}
IsTrueIn history event.Close = Unit {0}

submit_true : (before after : List Event) (id : ℕ) (work : Work) (helper : Option ℕ) → work_at before id ≡ None
    → comes_to (before ++ event.Submit id work helper ∷ after) id ≡ value_of work
submit_true before after id work helper n =
    let w : Handed = record { id = id; work = work; helper = helper }
    in comes_by (before ++ event.Submit id work helper ∷ after) id w
    (ap (find (has_id id)) (filter_map-append handed_in before (event.Submit id work helper ∷ after))
    ∙ find_behind (has_id id) (handed before) (w ∷ handed after) n
    ∙ ap (λ b. cond b (Some w) (find (has_id id) (handed after))) (eq-eqb id id refl))

finish_true : (before after : List Event) (id : ℕ) (o : Outcome) (found : Option Handed) → work_at before id ≡ found → HasValue found o
    → o ≡ comes_to (before ++ after) id
finish_true before after id o None e v = absurd v
finish_true before after id o (Some w) e v =
    v
    ∙ sym
    (comes_by (before ++ after) id w
    (ap (find (has_id id)) (filter_map-append handed_in before after) ∙ find_append (has_id id) (handed before) (handed after) w e))

event_true : (threads : ℕ) (before after : List Event) (e : Event) → NoneFrom before → IsLegalAfter threads 0 before e → IsTrueIn (before ++ e ∷ after) e
event_true threads before after (event.Submit id work helper) n l = submit_true before after id work helper (n id (omega (arith, l.rule.0)))
event_true threads before after (event.Start thread id) n l = tt
event_true threads before after (event.Finish thread id o) n l = finish_true before (event.Finish thread id o ∷ after) id o (work_at before id) refl l.rule.2
event_true threads before after (event.Request q asker z) n l = absurd (omega (arith, l.rule.1.exists))
event_true threads before after (event.AskerEnd asker) n l = absurd (omega (arith, l.rule.exists))
event_true threads before after (event.Drain ids requests) n l = tt
event_true threads before after (event.Answered q v) n l = tt
event_true threads before after (event.HelperNew h answer) n l = tt
event_true threads before after (event.HelperEnd h) n l = tt
event_true threads before after event.Close n l = tt

all_true : (threads : ℕ) (events before : List Event) → NoneFrom before → AreLegalAfter threads 0 before events
    → AllByRecursion (IsTrueIn (before ++ events)) events
all_true threads [] before n l = tt
all_true threads (e ∷ events) before n l = (
  event_true threads before events e n l.0,
  subst (λ (h : List Event). AllByRecursion (IsTrueIn h) events) (append_assoc before (e ∷ []) events)
      (all_true threads events (before ++ e ∷ []) (none_step threads 0 before e n l.0) l.1),
)

-- ---- the replies and the calls
abbrev EndsTrue : List Event → ℕ × Outcome → Type 0
EndsTrue history f = f.1 ≡ comes_to history f.0

finished_true : (history events : List Event) → AllByRecursion (IsTrueIn history) events → AllByRecursion (EndsTrue history) (finished events)
finished_true history [] a = tt
finished_true history (event.Submit id work helper ∷ events) a = finished_true history events a.1
finished_true history (event.Start thread id ∷ events) a = finished_true history events a.1
finished_true history (event.Finish thread id o ∷ events) a = (a.0, finished_true history events a.1)
finished_true history (event.Request q asker n ∷ events) a = absurd a.0
finished_true history (event.AskerEnd asker ∷ events) a = absurd a.0
finished_true history (event.Drain ids requests ∷ events) a = finished_true history events a.1
finished_true history (event.Answered q v ∷ events) a = finished_true history events a.1
finished_true history (event.HelperNew h answer ∷ events) a = finished_true history events a.1
finished_true history (event.HelperEnd h ∷ events) a = finished_true history events a.1
finished_true history (event.Close ∷ events) a = finished_true history events a.1

-- what is found passes the test, and what holds of all holds of it
all_both : {X : Type 0} (P : X → Type 0) (xs ys : List X) → AllByRecursion P xs → AllByRecursion P ys → AllByRecursion P (xs ++ ys)
all_both P [] ys a b = b
all_both P (x ∷ xs) ys a b = (a.0, all_both P xs ys a.1 b)

find_holds : {X : Type 0} (P : X → Type 0) (test : X → Bool) (xs : List X) (x : X) → find test xs ≡ Some x → AllByRecursion P xs → P x × (test x ≡ true)
find_holds P test [] x e a = absurd cc
find_holds {X} P test (y ∷ xs) x e a = by (test y) refl e (λ r. find_holds P test xs x r a.1)
  where
    by : (b : Bool) → test y ≡ b → cond b (Some y) (find test xs) ≡ Some x → (find test xs ≡ Some x → P x × (test x ≡ true)) → P x × (test x ≡ true)
    by true t r ih = let same : y ≡ x = cc in (subst P same a.0, ap test (sym same) ∙ t)
    by false t r ih = ih r

-- the works that a drain brings are true where all that have finished are
works_true : (history before : List Event) → AllByRecursion (EndsTrue history) (finished before) → (ids : List ℕ)
    → AllByRecursion (λ (pair : ℕ × Outcome). pair.1 ≡ comes_to history pair.0) (filter_map (finish_in before) ids)
works_true history before a [] = tt
works_true history before a (id ∷ ids) = by (finish_in before id) refl (works_true history before a ids)
  where
    by : (o : Option (ℕ × Outcome)) → finish_in before id ≡ o
        → AllByRecursion (λ (pair : ℕ × Outcome). pair.1 ≡ comes_to history pair.0) (filter_map (finish_in before) ids)
        → AllByRecursion (λ (pair : ℕ × Outcome). pair.1 ≡ comes_to history pair.0)
        (cons_option o (filter_map (finish_in before) ids))
    by None e r = r
    by (Some pair) e r = ((find_holds (EndsTrue history) (of_id id) (finished before) pair e a).0, r)

-- where nothing was asked nothing is brought
nothing_asked : (before : List Event) → asked before ≡ [] → (requests : List ℕ) → filter_map (request_in before) requests ≡ []
nothing_asked before e [] = refl
nothing_asked before e (q ∷ requests) =
    rw e (nothing_asked before e requests)

finished_more : (history before : List Event) (e : Event) → AllByRecursion (EndsTrue history) (finished before)
    → AllByRecursion (EndsTrue history) (finished (e ∷ [])) → AllByRecursion (EndsTrue history) (finished (before ++ e ∷ []))
finished_more history before e a b =
    subst (AllByRecursion (EndsTrue history)) (sym (filter_map-append finished_in before (e ∷ [])))
    (all_both (EndsTrue history) (finished before) (finished (e ∷ [])) a b)

asked_more : (before : List Event) (e : Event) → asked before ≡ [] → asked (e ∷ []) ≡ [] → asked (before ++ e ∷ []) ≡ []
asked_more before e a b =
    filter_map-append asked_in before (e ∷ []) ∙ ap (λ xs. xs ++ asked (e ∷ [])) a ∙ b

replies_true : (history events before : List Event) → AllByRecursion (EndsTrue history) (finished before) → asked before ≡ []
    → AllByRecursion (IsTrueIn history) events → AllByRecursion (Brings (comes_to history)) (replies_after 0 before events)
replies_true history [] before f q a = tt
replies_true history (event.Submit id work helper ∷ events) before f q a =
    (tt, replies_true history events _ (finished_more history before _ f tt) (asked_more before _ q refl) a.1)
replies_true history (event.Start thread id ∷ events) before f q a =
    replies_true history events _ (finished_more history before _ f tt) (asked_more before _ q refl) a.1
replies_true history (event.Finish thread id o ∷ events) before f q a =
    replies_true history events _ (finished_more history before _ f (a.0, tt)) (asked_more before _ q refl) a.1
replies_true history (event.Request r asker n ∷ events) before f q a = absurd a.0
replies_true history (event.AskerEnd asker ∷ events) before f q a = absurd a.0
replies_true history (event.Drain ids requests ∷ events) before f q a = (
  record { works = works_true history before f ids; requests = nothing_asked before q requests; left = omega arith },
  replies_true history events _ (finished_more history before _ f tt) (asked_more before _ q refl) a.1,
)
replies_true history (event.Answered r v ∷ events) before f q a =
    (tt, replies_true history events _ (finished_more history before _ f tt) (asked_more before _ q refl) a.1)
replies_true history (event.HelperNew h answer ∷ events) before f q a =
    (tt, replies_true history events _ (finished_more history before _ f tt) (asked_more before _ q refl) a.1)
replies_true history (event.HelperEnd h ∷ events) before f q a =
    (tt, replies_true history events _ (finished_more history before _ f tt) (asked_more before _ q refl) a.1)
replies_true history (event.Close ∷ events) before f q a =
    (tt, replies_true history events _ (finished_more history before _ f tt) (asked_more before _ q refl) a.1)

abbrev AskIsTrue : List Event → Ask → Type 0
AskIsTrue history a = (id : ℕ) (work : Work) → a ≡ ask.Submit id work None → comes_to history id ≡ value_of work

submit_is : (history : List Event) (i : ℕ) (v : Work) (helper : Option ℕ) → comes_to history i ≡ value_of v → AskIsTrue history (ask.Submit i v helper)
submit_is history i v helper h id work e =
    let a : i ≡ id = cc
    in let b : v ≡ work = cc
    in ap (comes_to history) (sym a) ∙ h ∙ ap value_of b

asks_true : (history events : List Event) → AllByRecursion (IsTrueIn history) events → AllByRecursion (AskIsTrue history) (asks events)
asks_true history [] a = tt
asks_true history (event.Submit id work helper ∷ events) a = (submit_is history id work helper a.0, asks_true history events a.1)
asks_true history (event.Start thread id ∷ events) a = asks_true history events a.1
asks_true history (event.Finish thread id o ∷ events) a = asks_true history events a.1
asks_true history (event.Request q asker n ∷ events) a = absurd a.0
asks_true history (event.AskerEnd asker ∷ events) a = absurd a.0
asks_true history (event.Drain ids requests ∷ events) a = ((λ id work e. absurd cc), asks_true history events a.1)
asks_true history (event.Answered q v ∷ events) a = ((λ id work e. absurd cc), asks_true history events a.1)
asks_true history (event.HelperNew h answer ∷ events) a = ((λ id work e. absurd cc), asks_true history events a.1)
asks_true history (event.HelperEnd h ∷ events) a = ((λ id work e. absurd cc), asks_true history events a.1)
asks_true history (event.Close ∷ events) a = ((λ id work e. absurd cc), asks_true history events a.1)

-- ---- the calls of the machine are those of the history (as in ak_meets' proof that there is one meeting)
get_front : {X : Type 0} (xs ys : List X) (j : ℕ) → j < length xs → slice_get (xs ++ ys) j ≡ slice_get xs j
get_front [] ys j l = absurd (omega (arith, l))
get_front (x ∷ xs) ys zero l = refl
get_front (x ∷ xs) ys (suc j) l = get_front xs ys j (omega (arith, l))

get_last : {X : Type 0} (xs : List X) (y : X) → slice_get (xs ++ y ∷ []) (length xs) ≡ Some y
get_last [] y = refl
get_last (x ∷ xs) y = get_last xs y

so_many : (n : ℕ) → length (numbers_below n) ≡ n
so_many zero = refl
so_many (suc n) = omega (arith, length-append (numbers_below n) (n ∷ []), so_many n)

number_at : (k j : ℕ) → j < k → slice_get (numbers_below k) j ≡ Some j
number_at zero j l = absurd (omega (arith, l))
number_at (suc n) j l =
    elim (cases_lt j n) [
      | inl m ↦ get_front (numbers_below n) (n ∷ []) j (omega (arith, m, so_many n)) ∙ number_at n j m
      | inr m ↦ let last : j ≡ n = omega (arith, l, m) in
          ap (λ i. slice_get (numbers_below n ++ n ∷ []) i) (last ∙ sym (so_many n)) ∙ get_last (numbers_below n) n ∙ ap Some (sym last)
    ]

get_map : {X Y : Type 0} (f : X → Y) (xs : List X) (j : ℕ) → slice_get (map f xs) j ≡ option_map f (slice_get xs j)
get_map f [] j = refl
get_map f (x ∷ xs) zero = refl
get_map f (x ∷ xs) (suc j) = get_map f xs j

all_at : {X : Type 0} (P : X → Type 0) (k : ℕ) (xs : List X) (j : ℕ) (x : X) → AllByRecursion P xs → slice_get (take k xs) j ≡ Some x → P x
all_at P zero xs j x a e = absurd cc
all_at P (suc k) [] j x a e = absurd cc
all_at P (suc k) (y ∷ xs) zero x a e = let same : y ≡ x = cc in subst P same a.0
all_at P (suc k) (y ∷ xs) (suc j) x a e = all_at P k xs j x a.1 e

-- the call that is made at j, where the machine wants one
call_at : (w : ℕ → Option Ask) (calls : List Ask) (k j : ℕ) → map w (numbers_below k) ≡ map Some (take k calls) → j < k → (a : Ask) → w j ≡ Some a
    → slice_get (take k calls) j ≡ Some a
call_at w calls k j h l a e = by (slice_get (take k calls) j) refl
  where
    both : Some (w j) ≡ option_map Some (slice_get (take k calls) j)
    both =
        ap (option_map w) (sym (number_at k j l)) ∙ sym (get_map w (numbers_below k) j)
        ∙ ap (λ (xs : List (Option Ask)). slice_get xs j) h ∙ get_map Some (take k calls) j

    by : (o : Option Ask) → slice_get (take k calls) j ≡ o → o ≡ Some a
    by None m = let c : Some (w j) ≡ None = both ∙ ap (option_map Some) m in absurd cc
    by (Some b) m = let c : Some (w j) ≡ Some (Some b) = both ∙ ap (option_map Some) m in let d : w j ≡ Some b = cc in sym d ∙ e

take_within : {X : Type 0} (j k : ℕ) (xs : List X) → j ≤ k → take j (take k xs) ≡ take j xs
take_within zero k xs l = refl
take_within (suc j) zero xs l = absurd (omega (arith, l))
take_within (suc j) (suc k) [] l = refl
take_within (suc j) (suc k) (x ∷ xs) l = ap (λ r. x ∷ r) (take_within j k xs (omega (arith, l)))

length_take : {X : Type 0} (k : ℕ) (xs : List X) → length (take k xs) ≤ k
length_take zero xs = omega arith
length_take (suc k) [] = omega arith
length_take (suc k) (x ∷ xs) = omega (arith, length_take k xs)

all_take : {X : Type 0} (P : X → Type 0) (k : ℕ) (xs : List X) → AllByRecursion P xs → AllByRecursion P (take k xs)
all_take P zero xs a = tt
all_take P (suc k) [] a = tt
all_take P (suc k) (x ∷ xs) a = (a.0, all_take P k xs a.1)

wants_is : (r : Ran) (a : Ask) → r ≡ Wants a → wanted r ≡ Some a
wants_is r a e = ap wanted e

are_true : (outcome : ℕ → Outcome) (program : NumProgram) (config : Config) (rs : List Reply) (m : Machine)
    → ((j : ℕ) → j < length rs → AsksFor outcome (fold (stepped program config) m (take j rs))) → AllByRecursion (Brings outcome) rs
    → AreTrue outcome program config m rs
are_true outcome program config [] m a b = tt
are_true outcome program config (r ∷ rs) m a b = (
  a 0 (omega arith),
  b.0,
  are_true outcome program config rs (stepped program config m r) (λ j l. a (suc j) (omega (arith, l))) b.1,
)

pub history_true : (program : NumProgram) (config : Config) (history : List Event) (threads k : ℕ) → config.askers ≡ 0
    → Legal threads config.askers history → Agree program config history k
    → AreTrue (comes_to history) program config (begun program.main config) (take k (replies config.askers history))
history_true program config history threads k none legal agree =
    are_true (comes_to history) program config (take k rs) (begun program.main config)
    (λ j l id work e.
    let below : j < k = omega (arith, l, length_take k rs)
    in let now : wanted_at program config history j ≡ Some (ask.Submit id work None) =
    ap (λ (rs : List Reply). wanted (ran_to (machine_after program config rs).place)) (sym (take_within j k rs (omega (arith, below))))
    ∙ wants_is (ran_to (machine_after program config (take j (take k rs))).place) (ask.Submit id work None) e
    in all_at (AskIsTrue history) k (asks history) j (ask.Submit id work None) (asks_true history history each)
    (call_at (wanted_at program config history) (asks history) k j agree below (ask.Submit id work None) now) id work refl)
    (all_take (Brings (comes_to history)) k rs
    (subst (λ n. AllByRecursion (Brings (comes_to history)) (replies n history)) (sym none) (replies_true history history [] tt refl each)))
  where
    rs : List Reply
    rs = replies config.askers history

    each : AllByRecursion (IsTrueIn history) history
    each = all_true threads history [] (λ id l. refl) (subst (λ n. Legal threads n history) none legal)
