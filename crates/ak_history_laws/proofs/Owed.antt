-- What the events of threads, askers and the scheduler leave of the calls, of the replies and of what is owed.
use Rattle.std.proofs.Common.{◌≡◌, ◌≢◌, ℕ, Bool, true, false, List, [], ◌∷◌, ◌++◌, refl, sym, ap, ◌∙◌, append-nil}
use Rattle.std.specs.Prelude.{not, ◌||◌, ◌&&◌, map, filter}
use Rattle.std.specs.List.{list_any, flat_map, AllByRecursion as Each}
use Rattle.std.proofs.lemmas.List.{map-append}
use Rattle.std.proofs.lemmas.List.Elements.{filter-append, filter_map-append}
use Rattle.std.proofs.lemmas.List.Folds.{list_any-append}
use Rattle.ak_base.specs.Lists.{is_empty_list}
use Rattle.std.proofs.lemmas.Grind.{flat_map-append}
use Rattle.ak_labor.specs.declared.work.Outcome.{Outcome}
use Rattle.ak_labor.specs.declared.ask.Ask.{Ask}
use Rattle.ak_labor.specs.declared.ask.Ask.TheVariants as ask
use Rattle.ak_labor.specs.Calls.{Drained, IsOpen, is_close as is_close_ask}
use Rattle.ak_history.specs.declared.event.Event.{Event}
use Rattle.ak_history.specs.declared.event.Event.TheVariants as event
use Rattle.ak_history.specs.Events.{Asking, finished, drained_in, asked, asked_in, fetched_in, is_among, is_asker_end, is_close, is_drain, owed, unfetched}
use Rattle.ak_history.specs.Legal.{Legal}
use Rattle.ak_history.specs.Scheduler.{asks, replies_after, replies}
use Rattle.ak_pool.specs.Pools.{owed_pairs, brought, owes, has_untold_end, IsOpen as IsOpenPool}
use Rattle.ak_pool.proofs.Helpers.{map_filter}
use Rattle.ak_history_laws.specs.Behind.{IsNotByScheduler, Behind}
use Rattle.ak_history_laws.proofs.Parts.{or_true, or_no}
use Rattle.ak_history_laws.proofs.Threads.{finished_append}
use Rattle.ak_history_laws.proofs.Workers.{of_others, asks_stay}
use Rattle.ak_history_laws.proofs.Replies.{closed_alike, replies_more, drain_reply}

-- where the calls are open, so is the pool
pub open_history : (askers : ℕ) (xs : List Event) → IsOpen (asks xs) (replies askers xs) → IsOpenPool xs
open_history askers xs h = sym (closed_alike xs) ∙ h.0

no_replies : (askers : ℕ) (before ys : List Event) → Each IsNotByScheduler ys → replies_after askers before ys ≡ []
no_replies askers before [] h = refl
no_replies askers before (event.Submit id work helper ∷ ys) h = absurd h.0
no_replies askers before (event.Start thread id ∷ ys) h = no_replies askers (before ++ event.Start thread id ∷ []) ys h.1
no_replies askers before (event.Finish thread id outcome ∷ ys) h = no_replies askers (before ++ event.Finish thread id outcome ∷ []) ys h.1
no_replies askers before (event.Request q asker n ∷ ys) h = no_replies askers (before ++ event.Request q asker n ∷ []) ys h.1
no_replies askers before (event.AskerEnd asker ∷ ys) h = no_replies askers (before ++ event.AskerEnd asker ∷ []) ys h.1
no_replies askers before (event.Drain ids requests ∷ ys) h = absurd h.0
no_replies askers before (event.Answered q v ∷ ys) h = absurd h.0
no_replies askers before (event.HelperNew no' answer ∷ ys) h = absurd h.0
no_replies askers before (event.HelperEnd no' ∷ ys) h = absurd h.0
no_replies askers before (event.Close ∷ ys) h = absurd h.0

-- behind what the scheduler has seen stand no calls and no replies
pub calls_behind : (askers : ℕ) (seen whole : List Event) → Behind IsNotByScheduler seen whole
    → (asks whole ≡ asks seen) × (replies askers whole ≡ replies askers seen)
calls_behind askers seen whole b = (
  ap asks b.whole_is ∙ asks_stay seen b.rest b.others,
  ap (replies askers) b.whole_is
      ∙ (replies_more askers seen b.rest
      ∙ (ap (λ l. replies askers seen ++ l) (no_replies askers seen b.rest b.others) ∙ append-nil (replies askers seen))),
)

-- where no event is a drain, nothing is fetched
none_drained : (ys : List Event) → list_any is_drain ys ≡ false → (flat_map drained_in ys ≡ []) × (flat_map fetched_in ys ≡ [])
none_drained [] h = (refl, refl)
none_drained (event.Submit id work helper ∷ ys) h = none_drained ys h
none_drained (event.Start thread id ∷ ys) h = none_drained ys h
none_drained (event.Finish thread id outcome ∷ ys) h = none_drained ys h
none_drained (event.Request q asker n ∷ ys) h = none_drained ys h
none_drained (event.AskerEnd asker ∷ ys) h = none_drained ys h
none_drained (event.Drain ids requests ∷ ys) h = absurd (cc h)
none_drained (event.Answered q v ∷ ys) h = none_drained ys h
none_drained (event.HelperNew no' answer ∷ ys) h = none_drained ys h
none_drained (event.HelperEnd no' ∷ ys) h = none_drained ys h
none_drained (event.Close ∷ ys) h = none_drained ys h

-- what stands in front still passes, and what comes behind is passed as well
still_left : {A : Type 0} (f : A → ℕ) (gone gone' : List ℕ) (xs ys : List A) → gone' ≡ gone
    → not (is_empty_list (filter (λ n. not (is_among gone n)) (map f xs))) ≡ true
    → not (is_empty_list (filter (λ n. not (is_among gone' n)) (map f (xs ++ ys)))) ≡ true
still_left f gone gone' xs ys same some =
    let left = λ (n : ℕ). not (is_among gone n) in
    let parts : filter left (map f (xs ++ ys)) ≡ filter left (map f xs) ++ filter left (map f ys) =
    ap (filter left) (map-append f xs ys) ∙ filter-append left (map f xs) (map f ys) in
    ap (λ l. not (is_empty_list (filter (λ n. not (is_among l n)) (map f (xs ++ ys))))) same
    ∙ (ap (λ l. not (is_empty_list l)) parts ∙ front (filter left (map f xs)) (filter left (map f ys)) some)
  where
    front : (ns ms : List ℕ) → not (is_empty_list ns) ≡ true → not (is_empty_list (ns ++ ms)) ≡ true
    front [] ms e = absurd (cc e)
    front (n ∷ ns) ms e = refl

-- an end that is untold stays so where no drain comes
untold_on : (xs ys : List Event) → list_any is_drain ys ≡ false → has_untold_end xs ≡ true → has_untold_end (xs ++ ys) ≡ true
untold_on [] ys none e = absurd (cc e)
untold_on (x ∷ xs) ys none e =
    let same : list_any is_drain (xs ++ ys) ≡ list_any is_drain xs =
    list_any-append is_drain xs ys ∙ (ap (λ b. list_any is_drain xs || b) none ∙ or_no (list_any is_drain xs)) in
    ap (λ b. (is_asker_end x && not b) || has_untold_end (xs ++ ys)) same
    ∙ one (is_asker_end x && not (list_any is_drain xs)) e (untold_on xs ys none)
  where
    one : (b : Bool) → (b || has_untold_end xs) ≡ true → (has_untold_end xs ≡ true → has_untold_end (xs ++ ys) ≡ true)
        → (b || has_untold_end (xs ++ ys)) ≡ true
    one true h later = refl
    one false h later = later h

-- one of three, where each one of three others carries over
one_still : (a b c a' b' c' : Bool) → (a ≡ true → a' ≡ true) → (b ≡ true → b' ≡ true) → (c ≡ true → c' ≡ true) → (a || b || c) ≡ true
    → (a' || b' || c') ≡ true
one_still true b c a' b' c' f g k e = ap (λ d. d || b' || c') (f refl)
one_still false true c true b' c' f g k e = refl
one_still false true c false b' c' f g k e = ap (λ d. false || d || c') (g refl)
one_still false false true true b' c' f g k e = refl
one_still false false true false true c' f g k e = refl
one_still false false true false false c' f g k e = k refl
one_still false false false a' b' c' f g k e = absurd (cc e)

-- LAW. What a drain has to tell it has to tell until one comes.
pub owes_on : (xs ys : List Event) → list_any is_drain ys ≡ false → owes xs ≡ true → owes (xs ++ ys) ≡ true
owes_on xs ys none =
    let gone = none_drained ys none in
    let drained : flat_map drained_in (xs ++ ys) ≡ flat_map drained_in xs =
    flat_map-append drained_in xs ys ∙ (ap (λ l. flat_map drained_in xs ++ l) gone.0 ∙ append-nil (flat_map drained_in xs)) in
    let fetched : flat_map fetched_in (xs ++ ys) ≡ flat_map fetched_in xs =
    flat_map-append fetched_in xs ys ∙ (ap (λ l. flat_map fetched_in xs ++ l) gone.1 ∙ append-nil (flat_map fetched_in xs)) in
    let made = λ (r : Asking). r.no in
    let done = λ (f : ℕ × Outcome). f.0 in
    let works : not (is_empty_list (owed xs)) ≡ true → not (is_empty_list (owed (xs ++ ys))) ≡ true =
    λ e. ap (λ l. not (is_empty_list (filter (λ n. not (is_among (flat_map drained_in (xs ++ ys)) n)) (map done l)))) (finished_append xs ys)
    ∙ still_left done (flat_map drained_in xs) (flat_map drained_in (xs ++ ys)) (finished xs) (finished ys) drained e in
    let requests : not (is_empty_list (unfetched xs)) ≡ true → not (is_empty_list (unfetched (xs ++ ys))) ≡ true =
    λ e. ap (λ l. not (is_empty_list (filter (λ n. not (is_among (flat_map fetched_in (xs ++ ys)) n)) (map made l)))) (filter_map-append asked_in xs ys)
    ∙ still_left made (flat_map fetched_in xs) (flat_map fetched_in (xs ++ ys)) (asked xs) (asked ys) fetched e in
    one_still (not (is_empty_list (owed xs))) (not (is_empty_list (unfetched xs))) (has_untold_end xs) (not (is_empty_list (owed (xs ++ ys))))
    (not (is_empty_list (unfetched (xs ++ ys)))) (has_untold_end (xs ++ ys)) works requests (untold_on xs ys none)

-- threads and askers make no drain
pub owes_behind : (seen whole : List Event) → Behind IsNotByScheduler seen whole → owes seen ≡ true → owes whole ≡ true
owes_behind seen whole b e =
    ap owes b.whole_is
    ∙ owes_on seen b.rest
    (of_others (λ l. list_any is_drain l ≡ false) refl (λ t id l k. k) (λ t id o l k. k) (λ q a n l k. k) (λ a l k. k) b.rest b.others) e

-- where something is owed, a drain brings something
pub some_pairs : (xs : List Event) → owed xs ≢ [] → owed_pairs xs ≢ []
some_pairs xs some =
    λ none. some
    (sym (map_filter (λ id. not (is_among (flat_map drained_in xs) id)) (finished xs)) ∙ ap (map (λ (f : ℕ × Outcome). f.0)) none)

-- the reply to a drain of what is owed and of what was not fetched
pub reply_then : (threads askers : ℕ) (xs : List Event) → Legal threads askers xs
    → replies_after askers xs (event.Drain (owed xs) (unfetched xs) ∷ []) ≡ Drained (brought askers xs) ∷ []
reply_then threads askers xs legal = ap (λ a. Drained a ∷ []) (drain_reply threads askers xs legal)

-- where the last call is the close, a close has happened
pub closed_now : (xs : List Event) (asked : List Ask) → asks xs ≡ asked ++ ask.Close ∷ [] → list_any is_close xs ≡ true
closed_now xs asked now = sym (closed_alike xs) ∙ (ap (list_any is_close_ask) now ∙ closed_last asked)
  where
    closed_last : (asked : List Ask) → list_any is_close_ask (asked ++ ask.Close ∷ []) ≡ true
    closed_last [] = refl
    closed_last (a ∷ asked) = or_true (is_close_ask a) (list_any is_close_ask (asked ++ ask.Close ∷ [])) (closed_last asked)
