-- What the next drain of a legal history brings, event by event.
use Rattle.std.proofs.Common.{◌≡◌, ℕ, ℤ, ◌-◌, List, [], ◌∷◌, ◌++◌, length, refl, sym, ap, ◌∙◌, append-nil, append_assoc, arith, length-append}
use Rattle.std.specs.Prelude.{not, map, filter, fold}
use Rattle.std.specs.List.{filter_map, flat_map}
use Rattle.std.proofs.lemmas.List.{map-append, drop-append-le, drop_all}
use Rattle.std.proofs.lemmas.List.Elements.{filter_map-append}
use Rattle.std.proofs.lemmas.Grind.{flat_map-append}
use Rattle.ak_labor.specs.declared.work.Outcome.{Outcome}
use Rattle.ak_history.specs.declared.event.Event.{Event}
use Rattle.ak_history.specs.declared.event.Event.TheVariants as event
use Rattle.ak_history.specs.Events.{Asking, asked, asked_in, finished, drained_in, fetched_in, left_in, is_among, askers_left}
use Rattle.ak_history.specs.Legal.{Legal, AreLegalAfter, IsLegalAfter}
use Rattle.ak_pool.specs.Askers.{pair_of, next_made, unfetched_of, with_request, all_fetched}
use Rattle.ak_pool.specs.Desks.{DeskState}
use Rattle.ak_pool.specs.Judged.{noted}
use Rattle.ak_pool.specs.Pools.{owed_pairs, request_pairs, brought}
use Rattle.ak_pool.proofs.AskedRules.{next_number, pairs_are, legal_requests}
use Rattle.ak_pool.proofs.Askers.{asked_next}
use Rattle.ak_pool.proofs.Legality.{legal_fits}
use Rattle.ak_pool.proofs.Noting.{stands_next, legal_next}
use Rattle.ak_history_laws.specs.Brought.{brought_then}
use Rattle.ak_history_laws.proofs.Legals.{left_by}
use Rattle.ak_history_laws.proofs.Threads.{finished_append}

works_same : (xs : List Event) (e : Event) → finished (e ∷ []) ≡ [] → flat_map drained_in (e ∷ []) ≡ [] → owed_pairs (xs ++ e ∷ []) ≡ owed_pairs xs
works_same xs e f d =
    λ i. filter (λ (x : ℕ × Outcome). not (is_among (drained i) x.0)) (done i)
  where
    drained : flat_map drained_in (xs ++ e ∷ []) ≡ flat_map drained_in xs
    drained = flat_map-append drained_in xs (e ∷ []) ∙ (ap (λ l. flat_map drained_in xs ++ l) d ∙ append-nil (flat_map drained_in xs))

    done : finished (xs ++ e ∷ []) ≡ finished xs
    done = finished_append xs (e ∷ []) ∙ (ap (λ l. finished xs ++ l) f ∙ append-nil (finished xs))

requests_same : (xs : List Event) (e : Event) → asked (e ∷ []) ≡ [] → flat_map fetched_in (e ∷ []) ≡ [] → request_pairs (xs ++ e ∷ []) ≡ request_pairs xs
requests_same xs e a f =
    λ i. map (λ (r : Asking). (r.no, r.num)) (filter (λ (r : Asking). not (is_among (fetched i) r.no)) (made i))
  where
    fetched : flat_map fetched_in (xs ++ e ∷ []) ≡ flat_map fetched_in xs
    fetched = flat_map-append fetched_in xs (e ∷ []) ∙ (ap (λ l. flat_map fetched_in xs ++ l) f ∙ append-nil (flat_map fetched_in xs))

    made : asked (xs ++ e ∷ []) ≡ asked xs
    made = filter_map-append asked_in xs (e ∷ []) ∙ (ap (λ l. asked xs ++ l) a ∙ append-nil (asked xs))

left_same : (askers : ℕ) (xs : List Event) (e : Event) → filter_map left_in (e ∷ []) ≡ [] → askers_left askers (xs ++ e ∷ []) ≡ askers_left askers xs
left_same askers xs e n =
    ap (λ l. askers - length l) (filter_map-append left_in xs (e ∷ []) ∙ (ap (λ l. filter_map left_in xs ++ l) n ∙ append-nil (filter_map left_in xs)))

-- an event that finishes, asks, fetches and ends nothing
all_same : (askers : ℕ) (xs : List Event) (e : Event) → finished (e ∷ []) ≡ [] → flat_map drained_in (e ∷ []) ≡ [] → asked (e ∷ []) ≡ []
    → flat_map fetched_in (e ∷ []) ≡ [] → filter_map left_in (e ∷ []) ≡ [] → brought askers (xs ++ e ∷ []) ≡ brought askers xs
all_same askers xs e f d a g n =
    λ i. record { works = works_same xs e f d i; requests = requests_same xs e a g i; left = left_same askers xs e n i }

-- what is owed is what the desk keeps
works_then : (threads askers : ℕ) (xs : List Event) (e : Event) → Legal threads askers xs → IsLegalAfter threads askers xs e
    → (works : List (ℕ × Outcome) → List (ℕ × Outcome)) → ((s : DeskState) → (noted e s).owed ≡ works s.owed) → owed_pairs (xs ++ e ∷ []) ≡ works (owed_pairs xs)
works_then threads askers xs e legal is works goes =
    let left = left_by threads askers xs legal in
    let next = stands_next threads xs left.desk e left.stands (legal_fits threads askers xs left.desk e left.stands is) in
    sym next.owed ∙ (goes left.desk ∙ ap works left.stands.owed)

-- what is to be fetched is what the requests keep
asked_then : (threads askers : ℕ) (xs : List Event) (q asker : ℕ) (n : ℤ) → Legal threads askers xs → IsLegalAfter threads askers xs (event.Request q asker n)
    → request_pairs (xs ++ event.Request q asker n ∷ []) ≡ request_pairs xs ++ (q, n) ∷ []
asked_then threads askers xs q asker n legal is =
    let left = left_by threads askers xs legal in
    let r = left.requests in
    let next = asked_next askers xs r (event.Request q asker n) left.asked (legal_requests threads askers xs r (event.Request q asker n) left.asked is) in
    sym (pairs_are askers (xs ++ event.Request q asker n ∷ []) (with_request asker n r) next)
    ∙ (ap (map pair_of) (drop-append-le r.fetched r.made (next_made asker n r ∷ []) left.asked.few)
    ∙ (map-append pair_of (unfetched_of r) (next_made asker n r ∷ [])
    ∙ (λ i. pairs_are askers xs r left.asked i ++ (((next_number askers xs r left.asked ∙ sym is.rule.0) i), n) ∷ [])))

none_then : (threads askers : ℕ) (xs : List Event) (ids requests : List ℕ) → Legal threads askers xs → IsLegalAfter threads askers xs (event.Drain ids requests)
    → request_pairs (xs ++ event.Drain ids requests ∷ []) ≡ []
none_then threads askers xs ids requests legal is =
    let left = left_by threads askers xs legal in
    let r = left.requests in
    let next = asked_next askers xs r (event.Drain ids requests) left.asked (legal_requests threads askers xs r (event.Drain ids requests) left.asked is) in
    sym (pairs_are askers (xs ++ event.Drain ids requests ∷ []) (all_fetched r) next) ∙ ap (map pair_of) (drop_all (length r.made) r.made (omega arith))

-- LAW. What the next drain brings goes on with each event.
pub brought_next : (threads askers : ℕ) (xs : List Event) (e : Event) → Legal threads askers xs → IsLegalAfter threads askers xs e
    → brought askers (xs ++ e ∷ []) ≡ brought_then (brought askers xs) e
brought_next threads askers xs (event.Submit id work helper) legal is = all_same askers xs (event.Submit id work helper) refl refl refl refl refl
brought_next threads askers xs (event.Start thread id) legal is = all_same askers xs (event.Start thread id) refl refl refl refl refl
brought_next threads askers xs (event.Finish thread id outcome) legal is =
    let e = event.Finish thread id outcome in
    let works : owed_pairs (xs ++ e ∷ []) ≡ owed_pairs xs ++ (id, outcome) ∷ [] = works_then threads askers xs e legal is (λ l. l ++ (id, outcome) ∷ []) (λ s. refl) in
    λ i. record { works = works i; requests = requests_same xs e refl refl i; left = left_same askers xs e refl i }
brought_next threads askers xs (event.Request q asker n) legal is =
    let e = event.Request q asker n in
    λ i. record { works = works_same xs e refl refl i; requests = asked_then threads askers xs q asker n legal is i; left = left_same askers xs e refl i }
brought_next threads askers xs (event.AskerEnd asker) legal is =
    let e = event.AskerEnd asker in
    let more : length (filter_map left_in (xs ++ e ∷ [])) ≡ length (filter_map left_in xs ++ asker ∷ []) = ap length (filter_map-append left_in xs (e ∷ [])) in
    let fewer : askers_left askers (xs ++ e ∷ []) ≡ askers_left askers xs - 1 = omega (arith, more, length-append (filter_map left_in xs) (asker ∷ [])) in
    λ i. record { works = works_same xs e refl refl i; requests = requests_same xs e refl refl i; left = fewer i }
brought_next threads askers xs (event.Drain ids requests) legal is =
    let e = event.Drain ids requests in
    let works : owed_pairs (xs ++ e ∷ []) ≡ [] = works_then threads askers xs e legal is (λ l. []) (λ s. refl) in
    λ i. record { works = works i; requests = none_then threads askers xs ids requests legal is i; left = left_same askers xs e refl i }
brought_next threads askers xs (event.Answered q v) legal is = all_same askers xs (event.Answered q v) refl refl refl refl refl
brought_next threads askers xs (event.HelperNew h answer) legal is = all_same askers xs (event.HelperNew h answer) refl refl refl refl refl
brought_next threads askers xs (event.HelperEnd h) legal is = all_same askers xs (event.HelperEnd h) refl refl refl refl refl
brought_next threads askers xs event.Close legal is = all_same askers xs event.Close refl refl refl refl refl

-- LAW. And so with further events.
pub brought_more : (threads askers : ℕ) (before ys : List Event) → Legal threads askers before → AreLegalAfter threads askers before ys
    → brought askers (before ++ ys) ≡ fold brought_then (brought askers before) ys
brought_more threads askers before [] legal h = ap (brought askers) (append-nil before)
brought_more threads askers before (y ∷ ys) legal h =
    ap (brought askers) (sym (append_assoc before (y ∷ []) ys))
    ∙ (brought_more threads askers (before ++ y ∷ []) ys (legal_next threads askers before y legal h.0) h.1
    ∙ ap (λ d. fold brought_then d ys) (brought_next threads askers before y legal h.0))
