-- What the events of other threads leave as it was for a thread.
use Rattle.std.proofs.Common.{◌≡◌, ℕ, Bool, true, false, List, [], ◌∷◌, ◌++◌, refl, sym, ap, subst, ◌∙◌}
use Rattle.std.specs.Prelude.{◌||◌, ◌&&◌, not, ◌==◌, Option, Some, None, find}
use Rattle.std.specs.List.{list_any, filter_map}
use Rattle.std.specs.Option.{option_map}
use Rattle.std.proofs.lemmas.Bool.{eq-eqb, eqb-true, and_parts, false_from_ne_true}
use Rattle.std.proofs.lemmas.List.Folds.{list_any-append}
use Rattle.std.proofs.lemmas.List.Elements.{filter_map-append}
use Rattle.ak_labor.specs.declared.work.Outcome.{Outcome}
use Rattle.ak_labor.specs.declared.work.Work.{Work}
use Rattle.ak_labor.specs.Value.{value_of}
use Rattle.ak_labor.specs.Waits.{Handed}
use Rattle.ak_history.specs.declared.event.Event.{Event}
use Rattle.ak_history.specs.declared.event.Event.TheVariants as event
use Rattle.ak_history.specs.Events.{Begun, begun, begun_in, finished, finished_in, handed, handed_in, is_begun, is_finished, is_running, is_close, reserved_in, work_at}
use Rattle.ak_history.specs.Legal.{Legal, IsLegalAfter, HasValue, Starts}
use Rattle.ak_pool.specs.Pools.{MayStart}
use Rattle.ak_pool.specs.Stands.{IsBegunOnce}
use Rattle.ak_pool.proofs.Items.{any_more, any_one, find_more, some_same}
use Rattle.ak_pool.proofs.Starts.{unfinished}
use Rattle.std.specs.List.{AllByRecursion as Each}
use Rattle.ak_history_laws.proofs.Legals.{legal_keeps, left_by}
use Rattle.ak_history_laws.specs.Behind.{IsNotByThread, Behind}
use Rattle.ak_history_laws.proofs.Parts.{or_parts, or_both, or_yes, and_no}

pub begun_append : (xs ys : List Event) → begun (xs ++ ys) ≡ begun xs ++ begun ys
begun_append xs ys = filter_map-append begun_in xs ys

pub finished_append : (xs ys : List Event) → finished (xs ++ ys) ≡ finished xs ++ finished ys
finished_append xs ys = filter_map-append finished_in xs ys

-- what is finished stays so
pub finished_more : (xs ys : List Event) (id : ℕ) → is_finished xs id ≡ true → is_finished (xs ++ ys) id ≡ true
finished_more xs ys id h =
    ap (list_any (λ (f : ℕ × Outcome). f.0 == id)) (finished_append xs ys) ∙ any_more (λ (f : ℕ × Outcome). f.0 == id) (finished xs) (finished ys) h

-- a thread that runs none of these works, by what is finished
abbrev pub runs_of : ℕ → (ℕ → Bool) → List Begun → Bool
runs_of t done bs = list_any (λ b. b.thread == t && not (done b.id)) bs

one_less : (a d d' : Bool) → (d ≡ true → d' ≡ true) → (a && not d) ≡ false → (a && not d') ≡ false
one_less true true d' more h = ap not (more refl)
one_less true false d' more h = absurd (cc h)
one_less false d d' more h = refl

-- with more finished, a thread runs no more
runs_less : (t : ℕ) (done done' : ℕ → Bool) → ((id : ℕ) → done id ≡ true → done' id ≡ true) → (bs : List Begun) → runs_of t done bs ≡ false
    → runs_of t done' bs ≡ false
runs_less t done done' more [] h = refl
runs_less t done done' more (b ∷ bs) h =
    let k = or_parts (b.thread == t && not (done b.id)) (runs_of t done bs) h in
    or_both (b.thread == t && not (done' b.id)) (runs_of t done' bs) (one_less (b.thread == t) (done b.id) (done' b.id) (more b.id) k.0)
    (runs_less t done done' more bs k.1)

-- events of other threads run nothing on this one
runs_none : (t : ℕ) (done : ℕ → Bool) (ys : List Event) → Each (IsNotByThread t) ys → runs_of t done (begun ys) ≡ false
runs_none t done [] h = refl
runs_none t done (event.Submit id work helper ∷ ys) h = runs_none t done ys h.1
runs_none t done (event.Start thread id ∷ ys) h = or_both (thread == t && not (done id)) (runs_of t done (begun ys)) (ap (λ b. b && not (done id)) h.0)
    (runs_none t done ys h.1)
runs_none t done (event.Finish thread id outcome ∷ ys) h = runs_none t done ys h.1
runs_none t done (event.Request req asker num ∷ ys) h = runs_none t done ys h.1
runs_none t done (event.AskerEnd asker ∷ ys) h = runs_none t done ys h.1
runs_none t done (event.Drain ids requests ∷ ys) h = runs_none t done ys h.1
runs_none t done (event.Answered req num ∷ ys) h = runs_none t done ys h.1
runs_none t done (event.HelperNew no' answer ∷ ys) h = runs_none t done ys h.1
runs_none t done (event.HelperEnd no' ∷ ys) h = runs_none t done ys h.1
runs_none t done (event.Close ∷ ys) h = runs_none t done ys h.1

runs_append : (t : ℕ) (done : ℕ → Bool) (xs ys : List Event) → runs_of t done (begun xs) ≡ false → runs_of t done (begun ys) ≡ false
    → runs_of t done (begun (xs ++ ys)) ≡ false
runs_append t done xs ys h k =
    ap (runs_of t done) (begun_append xs ys)
    ∙ (list_any-append (λ (b : Begun). b.thread == t && not (done b.id)) (begun xs) (begun ys)
    ∙ or_both (runs_of t done (begun xs)) (runs_of t done (begun ys)) h k)

-- a thread that runs nothing still does so behind events of other threads
pub idle_stays : (xs ys : List Event) (t : ℕ) → Each (IsNotByThread t) ys → is_running xs t ≡ false → is_running (xs ++ ys) t ≡ false
idle_stays xs ys t others h =
    runs_append t (is_finished (xs ++ ys)) xs ys (runs_less t (is_finished xs) (is_finished (xs ++ ys)) (λ id k. finished_more xs ys id k) (begun xs) h)
    (runs_none t (is_finished (xs ++ ys)) ys others)

pub idle_behind : (t : ℕ) (seen whole : List Event) → Behind (IsNotByThread t) seen whole → is_running seen t ≡ false → is_running whole t ≡ false
idle_behind t seen whole b idle = ap (λ l. is_running l t) b.whole_is ∙ idle_stays seen b.rest t b.others idle

one_done : (a d : Bool) → d ≡ true → (a && not d) ≡ false
one_done true d e = ap not e
one_done false d e = refl

-- a work with its thread among those that were begun
abbrev pub was_begun : ℕ → ℕ → List Begun → Bool
was_begun t id bs = list_any (λ b. b.thread == t && b.id == id) bs

-- a finish is of a work that its thread began
abbrev pub IsOfBegun : List Begun → Event → Type 0
IsOfBegun bs (event.Submit id work helper) = Unit {0}
IsOfBegun bs (event.Start thread id) = Unit {0}
IsOfBegun bs (event.Finish thread id outcome) = was_begun thread id bs ≡ true
IsOfBegun bs (event.Request req asker num) = Unit {0}
IsOfBegun bs (event.AskerEnd asker) = Unit {0}
IsOfBegun bs (event.Drain ids requests) = Unit {0}
IsOfBegun bs (event.Answered req num) = Unit {0}
IsOfBegun bs (event.HelperNew h answer) = Unit {0}
IsOfBegun bs (event.HelperEnd h) = Unit {0}
IsOfBegun bs event.Close = Unit {0}

of_more : (bs cs : List Begun) (e : Event) → IsOfBegun bs e → IsOfBegun (bs ++ cs) e
of_more bs cs (event.Submit id work helper) h = tt
of_more bs cs (event.Start thread id) h = tt
of_more bs cs (event.Finish thread id outcome) h = any_more (λ (b : Begun). b.thread == thread && b.id == id) bs cs h
of_more bs cs (event.Request req asker num) h = tt
of_more bs cs (event.AskerEnd asker) h = tt
of_more bs cs (event.Drain ids requests) h = tt
of_more bs cs (event.Answered req num) h = tt
of_more bs cs (event.HelperNew no' answer) h = tt
of_more bs cs (event.HelperEnd no') h = tt
of_more bs cs event.Close h = tt

of_legal : (threads askers : ℕ) (xs : List Event) (e : Event) → IsLegalAfter threads askers xs e → IsOfBegun (begun xs) e
of_legal threads askers xs (event.Submit id work helper) h = tt
of_legal threads askers xs (event.Start thread id) h = tt
of_legal threads askers xs (event.Finish thread id outcome) h = h.rule.0
of_legal threads askers xs (event.Request req asker num) h = tt
of_legal threads askers xs (event.AskerEnd asker) h = tt
of_legal threads askers xs (event.Drain ids requests) h = tt
of_legal threads askers xs (event.Answered req num) h = tt
of_legal threads askers xs (event.HelperNew no' answer) h = tt
of_legal threads askers xs (event.HelperEnd no') h = tt
of_legal threads askers xs event.Close h = tt

each_more : {A : Type 0} (P Q : A → Type 0) → ((x : A) → P x → Q x) → (xs : List A) → Each P xs → Each Q xs
each_more P Q f [] h = tt
each_more P Q f (x ∷ xs) h = (f x h.0, each_more P Q f xs h.1)

each_join : {A : Type 0} (P : A → Type 0) (xs ys : List A) → Each P xs → Each P ys → Each P (xs ++ ys)
each_join P [] ys h k = k
each_join P (x ∷ xs) ys h k = (h.0, each_join P xs ys h.1 k)

pub each_last_part : {A : Type 0} (P : A → Type 0) (xs ys : List A) → Each P (xs ++ ys) → Each P ys
each_last_part P [] ys h = h
each_last_part P (x ∷ xs) ys h = each_last_part P xs ys h.1

-- each finish of a legal history is of a work that its thread began
pub finishes_of : (threads askers : ℕ) (history : List Event) → Legal threads askers history → Each (IsOfBegun (begun history)) history
finishes_of threads askers history h =
    legal_keeps threads askers (λ xs. Each (IsOfBegun (begun xs)) xs) tt
    (λ xs e k is.
    subst (λ bs. Each (IsOfBegun bs) (xs ++ e ∷ [])) (sym (begun_append xs (e ∷ [])))
    (each_join (IsOfBegun (begun xs ++ begun (e ∷ []))) xs (e ∷ [])
    (each_more (IsOfBegun (begun xs)) (IsOfBegun (begun xs ++ begun (e ∷ []))) (λ x. of_more (begun xs) (begun (e ∷ [])) x) xs k)
    (of_more (begun xs) (begun (e ∷ [])) e (of_legal threads askers xs e is), tt)))
    history h

-- a work that a thread began is found with it
found_begun : (threads askers : ℕ) (history : List Event) (t id : ℕ) → Legal threads askers history → was_begun t id (begun history) ≡ true
    → find (λ (b : Begun). b.id == id) (begun history) ≡ Some (record { thread = t; id = id })
found_begun threads askers history t id h k =
    let st = (left_by threads askers history h).stands in
    let one = any_one (IsBegunOnce (handed history) (filter_map reserved_in history) (begun history)) (λ (b : Begun). b.thread == t && b.id == id)
    (begun history) st.begun_once k in
    let b = one.0 in
    let parts = and_parts (b.thread == t) (b.id == id) one.2 in
    let thread : b.thread ≡ t = eqb-true b.thread t parts.0 in
    let no' : b.id ≡ id = eqb-true b.id id parts.1 in
    subst (λ n. find (λ (x : Begun). x.id == n) (begun history) ≡ Some (record { thread = t; id = n })) no'
    (subst (λ n. find (λ (x : Begun). x.id == b.id) (begun history) ≡ Some (record { thread = n; id = b.id })) thread one.1.once)

-- one thread alone began a work
pub one_thread : (threads askers : ℕ) (history : List Event) (t u id : ℕ) → Legal threads askers history → was_begun t id (begun history) ≡ true
    → was_begun u id (begun history) ≡ true → u ≡ t
one_thread threads askers history t u id h k l =
    ap (λ (b : Begun). b.thread) (some_same (record { thread = u; id = id }) (record { thread = t; id = id })
    (sym (found_begun threads askers history u id h l) ∙ found_begun threads askers history t id h k))

-- events of other threads finish no work of this one
none_finished : (bs : List Begun) (t id : ℕ) → ((u : ℕ) → was_begun u id bs ≡ true → u ≡ t) → (ys : List Event) → Each (IsOfBegun bs) ys
    → Each (IsNotByThread t) ys → list_any (λ (f : ℕ × Outcome). f.0 == id) (finished ys) ≡ false
none_finished bs t id only [] of others = refl
none_finished bs t id only (event.Submit n work helper ∷ ys) of others = none_finished bs t id only ys of.1 others.1
none_finished bs t id only (event.Start thread n ∷ ys) of others = none_finished bs t id only ys of.1 others.1
none_finished bs t id only (event.Finish thread n outcome ∷ ys) of others =
    or_both (n == id) (list_any (λ (f : ℕ × Outcome). f.0 == id) (finished ys))
    (false_from_ne_true (n == id) (λ e. let mine : thread ≡ t = only thread (subst (λ m. was_begun thread m bs ≡ true) (eqb-true n id e) of.0) in absurd
    (cc (others.0, eq-eqb thread t mine))))
    (none_finished bs t id only ys of.1 others.1)
none_finished bs t id only (event.Request req asker num ∷ ys) of others = none_finished bs t id only ys of.1 others.1
none_finished bs t id only (event.AskerEnd asker ∷ ys) of others = none_finished bs t id only ys of.1 others.1
none_finished bs t id only (event.Drain ids requests ∷ ys) of others = none_finished bs t id only ys of.1 others.1
none_finished bs t id only (event.Answered req num ∷ ys) of others = none_finished bs t id only ys of.1 others.1
none_finished bs t id only (event.HelperNew no' answer ∷ ys) of others = none_finished bs t id only ys of.1 others.1
none_finished bs t id only (event.HelperEnd no' ∷ ys) of others = none_finished bs t id only ys of.1 others.1
none_finished bs t id only (event.Close ∷ ys) of others = none_finished bs t id only ys of.1 others.1

pub finished_parts : (xs ys : List Event) (id : ℕ) → is_finished xs id ≡ false → list_any (λ (f : ℕ × Outcome). f.0 == id) (finished ys) ≡ false
    → is_finished (xs ++ ys) id ≡ false
finished_parts xs ys id h k =
    ap (list_any (λ (f : ℕ × Outcome). f.0 == id)) (finished_append xs ys)
    ∙ (list_any-append (λ (f : ℕ × Outcome). f.0 == id) (finished xs) (finished ys)
    ∙ or_both (is_finished xs id) (list_any (λ (f : ℕ × Outcome). f.0 == id) (finished ys)) h k)

pub value_more : (xs ys : List Handed) (id : ℕ) (o : Option Handed) (outcome : Outcome) → find (λ (w : Handed). w.id == id) xs ≡ o
    → HasValue o outcome → HasValue (find (λ (w : Handed). w.id == id) (xs ++ ys)) outcome
value_more xs ys id None outcome e h = absurd h
value_more xs ys id (Some w) outcome e h = subst (λ o. HasValue o outcome) (sym (find_more (λ (w : Handed). w.id == id) xs ys w e)) h

-- a finish that is legal stays so behind events of other threads
pub finish_stays : (threads askers : ℕ) (xs ys : List Event) (t id : ℕ) (outcome : Outcome) → Legal threads askers (xs ++ ys)
    → Each (IsNotByThread t) ys → IsLegalAfter threads askers xs (event.Finish t id outcome)
    → IsLegalAfter threads askers (xs ++ ys) (event.Finish t id outcome)
finish_stays threads askers xs ys t id outcome h others is =
    let began : was_begun t id (begun (xs ++ ys)) ≡ true =
    ap (was_begun t id) (begun_append xs ys) ∙ any_more (λ (b : Begun). b.thread == t && b.id == id) (begun xs) (begun ys) is.rule.0 in
    let only : (u : ℕ) → was_begun u id (begun (xs ++ ys)) ≡ true → u ≡ t = λ u k. one_thread threads askers (xs ++ ys) t u id h began k in
    let of = each_last_part (IsOfBegun (begun (xs ++ ys))) xs ys (finishes_of threads askers (xs ++ ys) h) in
    record {
      open_or_late = and_no (list_any is_close (xs ++ ys));
      rule = (
        began,
        finished_parts xs ys id is.rule.1 (none_finished (begun (xs ++ ys)) t id only ys of others),
        subst (λ l. HasValue (find (λ (w : Handed). w.id == id) l) outcome) (sym (filter_map-append handed_in xs ys))
            (value_more (handed xs) (handed ys) id (work_at xs id) outcome refl is.rule.2),
      );
    }

has_value : (o : Option Handed) (work : Work) → option_map (λ (w : Handed). w.work) o ≡ Some work → HasValue o (value_of work)
has_value None work e = absurd (cc e)
has_value (Some w) work e = sym (ap value_of (some_same w.work work e))

started_new : (threads : ℕ) (xs : List Event) (t id : ℕ) (o : Option Handed) → Starts threads xs t id o → is_begun xs id ≡ false
started_new threads xs t id None h = absurd h
started_new threads xs t id (Some w) h = h.0

-- a thread that has just begun a work may finish it with its value
pub may_finish : (threads askers : ℕ) (xs : List Event) (t id : ℕ) (work : Work) → Legal threads askers xs → MayStart threads xs t id
    → option_map (λ (w : Handed). w.work) (work_at xs id) ≡ Some work
    → IsLegalAfter threads askers (xs ++ event.Start t id ∷ []) (event.Finish t id (value_of work))
may_finish threads askers xs t id work h is has =
    let st = (left_by threads askers xs h).stands in
    let new : is_begun xs id ≡ false = started_new threads xs t id (work_at xs id) is.1 in
    let not_yet : is_finished xs id ≡ false = unfinished (begun xs) (finished xs) id st.begun_first new in
    let here : was_begun t id (begun (event.Start t id ∷ [])) ≡ true = ap (λ b. (b && id == id) || false) (eq-eqb t t refl)
    ∙ ap (λ b. b || false) (eq-eqb id id refl) in
    record {
      open_or_late = and_no (list_any is_close (xs ++ event.Start t id ∷ []));
      rule = (
        ap (was_begun t id) (begun_append xs (event.Start t id ∷ []))
            ∙ (list_any-append (λ (b : Begun). b.thread == t && b.id == id) (begun xs) (begun (event.Start t id ∷ []))
            ∙ (ap (λ b. was_begun t id (begun xs) || b) here ∙ or_yes (was_begun t id (begun xs)))),
        finished_parts xs (event.Start t id ∷ []) id not_yet refl,
        subst (λ l. HasValue (find (λ (w : Handed). w.id == id) l) (value_of work)) (sym (filter_map-append handed_in xs (event.Start t id ∷ [])))
            (value_more (handed xs) [] id (work_at xs id) (value_of work) refl (has_value (work_at xs id) work has)),
      );
    }

-- a thread that ends the one work that it began runs nothing
pub idle_again : (xs ys : List Event) (t id : ℕ) (outcome : Outcome) → Each (IsNotByThread t) ys → is_running xs t ≡ false
    → is_running (((xs ++ event.Start t id ∷ []) ++ ys) ++ event.Finish t id outcome ∷ []) t ≡ false
idle_again xs ys t id outcome others h =
    let all = ((xs ++ event.Start t id ∷ []) ++ ys) ++ event.Finish t id outcome ∷ [] in
    let done = is_finished all in
    let now : done id ≡ true =
    ap (list_any (λ (f : ℕ × Outcome). f.0 == id)) (finished_append ((xs ++ event.Start t id ∷ []) ++ ys) (event.Finish t id outcome ∷ []))
    ∙ (list_any-append (λ (f : ℕ × Outcome). f.0 == id) (finished ((xs ++ event.Start t id ∷ []) ++ ys)) ((id, outcome) ∷ [])
    ∙ (ap (λ b. list_any (λ (f : ℕ × Outcome). f.0 == id) (finished ((xs ++ event.Start t id ∷ []) ++ ys)) || (b || false)) (eq-eqb id id refl)
    ∙ or_yes (list_any (λ (f : ℕ × Outcome). f.0 == id) (finished ((xs ++ event.Start t id ∷ []) ++ ys))))) in
    let more : (n : ℕ) → is_finished xs n ≡ true → done n ≡ true =
    λ n k. finished_more ((xs ++ event.Start t id ∷ []) ++ ys) (event.Finish t id outcome ∷ []) n
    (finished_more (xs ++ event.Start t id ∷ []) ys n (finished_more xs (event.Start t id ∷ []) n k)) in
    let first : runs_of t done (begun xs) ≡ false = runs_less t (is_finished xs) done more (begun xs) h in
    let mine : runs_of t done (begun (event.Start t id ∷ [])) ≡ false = or_both (t == t && not (done id)) false (one_done (t == t) (done id) now) refl in
    runs_append t done ((xs ++ event.Start t id ∷ []) ++ ys) (event.Finish t id outcome ∷ [])
    (runs_append t done (xs ++ event.Start t id ∷ []) ys (runs_append t done xs (event.Start t id ∷ []) first mine) (runs_none t done ys others)) refl
