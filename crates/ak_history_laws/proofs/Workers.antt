-- What the events of threads and askers leave as it was for the scheduler.
use Rattle.std.proofs.Common.{◌≡◌, ℕ, ℤ, ◌+◌, false, List, [], ◌∷◌, ◌++◌, refl, ap, ◌∙◌, append-nil, arith}
use Rattle.std.specs.Prelude.{count_by, ◌||◌, ◌&&◌, not, ◌==◌, Option, Some, None}
use Rattle.std.specs.List.{list_any, filter_map, flat_map}
use Rattle.std.proofs.lemmas.List.Folds.{list_any-append}
use Rattle.std.proofs.lemmas.List.Elements.{filter_map-append}
use Rattle.std.proofs.lemmas.Grind.{flat_map-append}
use Rattle.ak_labor.specs.declared.work.Outcome.{Outcome}
use Rattle.ak_history.specs.declared.event.Event.{Event}
use Rattle.ak_history.specs.declared.event.Event.TheVariants as event
use Rattle.ak_history.specs.Events.{handed_in, reserved_in, ended_in, fetched_in, answered_in, answers, is_fetched, is_answered, is_submit, is_helper_new, is_close, is_active, is_among}
use Rattle.ak_history.specs.Legal.{IsServed}
use Rattle.ak_history.specs.Scheduler.{ask_of, asks}
use Rattle.ak_pool.specs.Pools.{IsOpen}
use Rattle.std.specs.List.{AllByRecursion as Each}
use Rattle.ak_history_laws.specs.Behind.{IsNotByScheduler, Behind}
use Rattle.ak_history_laws.proofs.Parts.{or_no, count_append}

-- what holds of no event, and stays with each event of a thread or of an asker, holds of all their events
pub of_others : (Q : List Event → Type 0) → Q [] → ((thread id : ℕ) (ys : List Event) → Q ys → Q (event.Start thread id ∷ ys))
    → ((thread id : ℕ) (outcome : Outcome) (ys : List Event) → Q ys → Q (event.Finish thread id outcome ∷ ys))
    → ((q asker : ℕ) (n : ℤ) (ys : List Event) → Q ys → Q (event.Request q asker n ∷ ys))
    → ((asker : ℕ) (ys : List Event) → Q ys → Q (event.AskerEnd asker ∷ ys))
    → (ys : List Event) → Each IsNotByScheduler ys → Q ys
of_others Q start one two three four [] h = start
of_others Q start one two three four (event.Submit id work helper ∷ ys) h = absurd h.0
of_others Q start one two three four (event.Start thread id ∷ ys) h = one thread id ys (of_others Q start one two three four ys h.1)
of_others Q start one two three four (event.Finish thread id outcome ∷ ys) h = two thread id outcome ys (of_others Q start one two three four ys h.1)
of_others Q start one two three four (event.Request q asker n ∷ ys) h = three q asker n ys (of_others Q start one two three four ys h.1)
of_others Q start one two three four (event.AskerEnd asker ∷ ys) h = four asker ys (of_others Q start one two three four ys h.1)
of_others Q start one two three four (event.Drain ids requests ∷ ys) h = absurd h.0
of_others Q start one two three four (event.Answered q v ∷ ys) h = absurd h.0
of_others Q start one two three four (event.HelperNew no' answer ∷ ys) h = absurd h.0
of_others Q start one two three four (event.HelperEnd no' ∷ ys) h = absurd h.0
of_others Q start one two three four (event.Close ∷ ys) h = absurd h.0

-- whether the pool was closed
pub close_stays : (xs ys : List Event) → Each IsNotByScheduler ys → list_any is_close (xs ++ ys) ≡ list_any is_close xs
close_stays xs ys h =
    list_any-append is_close xs ys
    ∙ (ap (λ b. list_any is_close xs || b) (of_others (λ l. list_any is_close l ≡ false) refl (λ t id l k. k) (λ t id o l k. k) (λ q a n l k. k)
    (λ a l k. k) ys h) ∙ or_no (list_any is_close xs))

pub open_stays : (xs ys : List Event) → Each IsNotByScheduler ys → IsOpen xs → IsOpen (xs ++ ys)
open_stays xs ys h is = close_stays xs ys h ∙ is

-- a pool that is open stays so behind them, and with further events none of which is a close
pub open_behind : (seen whole es : List Event) → Behind IsNotByScheduler seen whole → list_any is_close es ≡ false → IsOpen seen → IsOpen (whole ++ es)
open_behind seen whole es b none is =
    list_any-append is_close whole es
    ∙ (ap (λ c. c || list_any is_close es) (ap (list_any is_close) b.whole_is ∙ open_stays seen b.rest b.others is) ∙ none)

-- how many works were handed in, and how many helpers were asked for
pub submits_stay : (xs ys : List Event) → Each IsNotByScheduler ys → count_by is_submit (xs ++ ys) ≡ count_by is_submit xs
submits_stay xs ys h =
    omega (
      arith,
      count_append is_submit xs ys,
      of_others (λ l. count_by is_submit l ≡ 0) refl (λ t id l k. k) (λ t id o l k. k) (λ q a n l k. k)
          (λ a l k. k) ys h,
    )

pub submits_behind : (seen whole es : List Event) → Behind IsNotByScheduler seen whole
    → count_by is_submit (whole ++ es) ≡ count_by is_submit seen + count_by is_submit es
submits_behind seen whole es b =
    omega (arith, count_append is_submit whole es, ap (count_by is_submit) b.whole_is, submits_stay seen b.rest b.others)

pub helpers_stay : (xs ys : List Event) → Each IsNotByScheduler ys → count_by is_helper_new (xs ++ ys) ≡ count_by is_helper_new xs
helpers_stay xs ys h =
    omega (
      arith,
      count_append is_helper_new xs ys,
      of_others (λ l. count_by is_helper_new l ≡ 0) refl (λ t id l k. k) (λ t id o l k. k) (λ q a n l k. k)
          (λ a l k. k) ys h,
    )

-- a filter that gives nothing of such events
pub map_stays : {B : Type 0} (f : Event → Option B) → ((e : Event) → IsNotByScheduler e → f e ≡ None) → (xs ys : List Event)
    → Each IsNotByScheduler ys → filter_map f (xs ++ ys) ≡ filter_map f xs
map_stays f none xs ys h =
    filter_map-append f xs ys
    ∙ (ap (λ l. filter_map f xs ++ l)
    (of_others (λ l. filter_map f l ≡ []) refl (λ t id l k. rw (none (event.Start t id) tt, k) refl)
    (λ t id o l k. rw (none (event.Finish t id o) tt, k) refl) (λ q a n l k. rw (none (event.Request q a n) tt, k) refl)
    (λ a l k. rw (none (event.AskerEnd a) tt, k) refl) ys h)
    ∙ append-nil (filter_map f xs))

-- what the events of the scheduler alone say
abbrev IsSchedulers : {B : Type 0} → (Event → Option B) → Type 0
IsSchedulers f = (e : Event) → IsNotByScheduler e → f e ≡ None

granted_by : IsSchedulers reserved_in
granted_by (event.Submit id work helper) h = absurd h
granted_by (event.Start thread id) h = refl
granted_by (event.Finish thread id outcome) h = refl
granted_by (event.Request q asker n) h = refl
granted_by (event.AskerEnd asker) h = refl
granted_by (event.Drain ids requests) h = absurd h
granted_by (event.Answered q v) h = absurd h
granted_by (event.HelperNew no' answer) h = absurd h
granted_by (event.HelperEnd no') h = absurd h
granted_by event.Close h = absurd h

ended_by : IsSchedulers ended_in
ended_by (event.Submit id work helper) h = absurd h
ended_by (event.Start thread id) h = refl
ended_by (event.Finish thread id outcome) h = refl
ended_by (event.Request q asker n) h = refl
ended_by (event.AskerEnd asker) h = refl
ended_by (event.Drain ids requests) h = absurd h
ended_by (event.Answered q v) h = absurd h
ended_by (event.HelperNew no' answer) h = absurd h
ended_by (event.HelperEnd no') h = absurd h
ended_by event.Close h = absurd h

calls_by : IsSchedulers ask_of
calls_by (event.Submit id work helper) h = absurd h
calls_by (event.Start thread id) h = refl
calls_by (event.Finish thread id outcome) h = refl
calls_by (event.Request q asker n) h = refl
calls_by (event.AskerEnd asker) h = refl
calls_by (event.Drain ids requests) h = absurd h
calls_by (event.Answered q v) h = absurd h
calls_by (event.HelperNew no' answer) h = absurd h
calls_by (event.HelperEnd no') h = absurd h
calls_by event.Close h = absurd h

handed_by : IsSchedulers handed_in
handed_by (event.Submit id work helper) h = absurd h
handed_by (event.Start thread id) h = refl
handed_by (event.Finish thread id outcome) h = refl
handed_by (event.Request q asker n) h = refl
handed_by (event.AskerEnd asker) h = refl
handed_by (event.Drain ids requests) h = absurd h
handed_by (event.Answered q v) h = absurd h
handed_by (event.HelperNew no' answer) h = absurd h
handed_by (event.HelperEnd no') h = absurd h
handed_by event.Close h = absurd h

answers_by : IsSchedulers answered_in
answers_by (event.Submit id work helper) h = absurd h
answers_by (event.Start thread id) h = refl
answers_by (event.Finish thread id outcome) h = refl
answers_by (event.Request q asker n) h = refl
answers_by (event.AskerEnd asker) h = refl
answers_by (event.Drain ids requests) h = absurd h
answers_by (event.Answered q v) h = absurd h
answers_by (event.HelperNew no' answer) h = absurd h
answers_by (event.HelperEnd no') h = absurd h
answers_by event.Close h = absurd h

pub granted_stay : (xs ys : List Event) → Each IsNotByScheduler ys → filter_map reserved_in (xs ++ ys) ≡ filter_map reserved_in xs
granted_stay xs ys h = map_stays reserved_in granted_by xs ys h

pub ended_stay : (xs ys : List Event) → Each IsNotByScheduler ys → filter_map ended_in (xs ++ ys) ≡ filter_map ended_in xs
ended_stay xs ys h = map_stays ended_in ended_by xs ys h

pub asks_stay : (xs ys : List Event) → Each IsNotByScheduler ys → asks (xs ++ ys) ≡ asks xs
asks_stay xs ys h = map_stays ask_of calls_by xs ys h

pub handed_stay : (xs ys : List Event) → Each IsNotByScheduler ys → filter_map handed_in (xs ++ ys) ≡ filter_map handed_in xs
handed_stay xs ys h = map_stays handed_in handed_by xs ys h

pub answers_stay : (xs ys : List Event) → Each IsNotByScheduler ys → answers (xs ++ ys) ≡ answers xs
answers_stay xs ys h = map_stays answered_in answers_by xs ys h

pub fetched_stay : (xs ys : List Event) → Each IsNotByScheduler ys → flat_map fetched_in (xs ++ ys) ≡ flat_map fetched_in xs
fetched_stay xs ys h =
    flat_map-append fetched_in xs ys
    ∙ (ap (λ l. flat_map fetched_in xs ++ l) (of_others (λ l. flat_map fetched_in l ≡ []) refl (λ t id l k. k) (λ t id o l k. k) (λ q a n l k. k)
    (λ a l k. k) ys h)
    ∙ append-nil (flat_map fetched_in xs))

-- which helpers are granted and not ended
pub active_stays : (xs ys : List Event) (h : ℕ) → Each IsNotByScheduler ys → is_active (xs ++ ys) h ≡ is_active xs h
active_stays xs ys h w =
    ap (λ l. list_any (λ r. r.helper == h) l && not (is_among (filter_map ended_in (xs ++ ys)) h)) (granted_stay xs ys w)
    ∙ ap (λ l. list_any (λ r. r.helper == h) (filter_map reserved_in xs) && not (is_among l h)) (ended_stay xs ys w)

pub served_stays : (xs ys : List Event) (helper : Option ℕ) → Each IsNotByScheduler ys → IsServed xs helper → IsServed (xs ++ ys) helper
served_stays xs ys None w is = tt
served_stays xs ys (Some h) w is = active_stays xs ys h w ∙ is

-- a request that was fetched and is not answered
pub fetched_stays : (xs ys : List Event) (q : ℕ) → Each IsNotByScheduler ys → is_fetched (xs ++ ys) q ≡ is_fetched xs q
fetched_stays xs ys q w = ap (λ l. is_among l q) (fetched_stay xs ys w)

pub unanswered_stays : (xs ys : List Event) (q : ℕ) → Each IsNotByScheduler ys → is_answered (xs ++ ys) q ≡ is_answered xs q
unanswered_stays xs ys q w = ap (list_any (λ (x : ℕ × ℤ). x.0 == q)) (answers_stay xs ys w)
