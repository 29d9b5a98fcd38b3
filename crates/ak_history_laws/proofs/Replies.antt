-- The calls and replies of a legal history that grows.
use Rattle.std.proofs.Common.{◌≡◌, ℕ, ℤ, ◌<◌, true, false, List, [], ◌∷◌, ◌++◌, length, get_or, refl, sym, ap, subst, ◌∙◌, append-nil, append_assoc, arith}
use Rattle.std.specs.Prelude.{not, ◌==◌, map, filter, find, Option, Some, None}
use Rattle.std.specs.Option.{option_map}
use Rattle.std.specs.List.{list_any, filter_map, flat_map, cons_option}
use Rattle.std.proofs.lemmas.Bool.{eq-eqb, ne_eqb}
use Rattle.std.proofs.lemmas.List.{length-map, get_or-map}
use Rattle.ak_labor.specs.declared.work.Outcome.{Outcome}
use Rattle.ak_labor.specs.Calls.{Reply, is_close as is_close_ask}
use Rattle.ak_history.specs.declared.event.Event.{Event}
use Rattle.ak_history.specs.declared.event.Event.TheVariants as event
use Rattle.ak_history.specs.Events.{Asking, asked, finished, drained_in, is_finished, is_fetched, is_among, is_close, owed, unfetched, askers_left}
use Rattle.ak_history.specs.Legal.{Legal, IsLegalAfter}
use Rattle.ak_history.specs.Scheduler.{asks, finish_in, request_in, arrived_in, reply_in, reply_before, replies_after, replies}
use Rattle.ak_pool.specs.Askers.{RequestsState, asking_of, no_request}
use Rattle.ak_pool.specs.AskersStand.{AskersStand, request_facts}
use Rattle.ak_pool.specs.Pools.{owed_pairs, request_pairs, brought}
use Rattle.ak_pool.specs.Stands.{Each}
use Rattle.ak_pool.proofs.Items.{find_more, find_last, none_found, each_map, each_append, each_filter, any_none}
use Rattle.ak_pool.proofs.Helpers.{map_filter}
use Rattle.ak_pool.proofs.Ranges.{each_at, find_at, filter_mapped}
use Rattle.ak_history_laws.proofs.Legals.{legal_keeps, left_by}
use Rattle.ak_history_laws.proofs.Threads.{finished_append}

-- the scheduler's asks hold a close where the events do
pub closed_alike : (xs : List Event) → list_any is_close_ask (asks xs) ≡ list_any is_close xs
closed_alike [] = refl
closed_alike (event.Submit id work helper ∷ xs) = closed_alike xs
closed_alike (event.Start thread id ∷ xs) = closed_alike xs
closed_alike (event.Finish thread id outcome ∷ xs) = closed_alike xs
closed_alike (event.Request req asker num ∷ xs) = closed_alike xs
closed_alike (event.AskerEnd asker ∷ xs) = closed_alike xs
closed_alike (event.Drain ids requests ∷ xs) = closed_alike xs
closed_alike (event.Answered req num ∷ xs) = closed_alike xs
closed_alike (event.HelperNew h answer ∷ xs) = closed_alike xs
closed_alike (event.HelperEnd h ∷ xs) = closed_alike xs
closed_alike (event.Close ∷ xs) = refl

-- each work that was drained was finished
pub drained_done : (threads askers : ℕ) (xs : List Event) → Legal threads askers xs → Each (λ id. is_finished xs id ≡ true) (flat_map drained_in xs)
drained_done threads askers xs h = (left_by threads askers xs h).stands.finished_first

-- the replies to the calls of some events and of others behind them
pub replies_append : (askers : ℕ) (before xs ys : List Event)
    → replies_after askers before (xs ++ ys) ≡ replies_after askers before xs ++ replies_after askers (before ++ xs) ys
replies_append askers before [] ys = ap (λ l. replies_after askers l ys) (sym (append-nil before))
replies_append askers before (x ∷ xs) ys =
    ap (reply_before (reply_in askers before x)) (replies_append askers (before ++ x ∷ []) xs ys)
    ∙ (front_of (reply_in askers before x)
    ∙ ap (λ l. reply_before (reply_in askers before x) (replies_after askers (before ++ x ∷ []) xs) ++ replies_after askers l ys)
    (append_assoc before (x ∷ []) xs))
  where
    front_of : (o : Option Reply) → reply_before o (replies_after askers (before ++ x ∷ []) xs ++ replies_after askers ((before ++ x ∷ []) ++ xs) ys)
        ≡ reply_before o (replies_after askers (before ++ x ∷ []) xs) ++ replies_after askers ((before ++ x ∷ []) ++ xs) ys
    front_of None = refl
    front_of (Some reply) = refl

-- the replies in a longer history: the same, and those to the further events
pub replies_more : (askers : ℕ) (xs ys : List Event) → replies askers (xs ++ ys) ≡ replies askers xs ++ replies_after askers xs ys
replies_more askers xs ys = replies_append askers [] xs ys

-- each finished work is found with its outcome, and no two have one number
abbrev pub AreFound : List (ℕ × Outcome) → Type 0
AreFound fs = Each (λ f. find (λ g. g.0 == f.0) fs ≡ Some f) fs

abbrev pub AreApart : List (ℕ × Outcome) → Type 0
AreApart [] = Unit {0}
AreApart (f ∷ fs) = Each (λ g. (g.0 == f.0) ≡ false) fs × AreApart fs

other_way : (a b : ℕ) → (a == b) ≡ false → (b == a) ≡ false
other_way a b h = ne_eqb b a (λ e. absurd (cc (h, eq-eqb a b (sym e))))

apart_last : (fs : List (ℕ × Outcome)) (f : ℕ × Outcome) → AreApart fs → Each (λ g. (g.0 == f.0) ≡ false) fs → AreApart (fs ++ f ∷ [])
apart_last [] f h k = (tt, tt)
apart_last (g ∷ fs) f h k =
    (each_append (λ x. (x.0 == g.0) ≡ false) fs (f ∷ []) h.0 (other_way g.0 f.0 k.0, tt), apart_last fs f h.1 k.1)

found_last : (fs : List (ℕ × Outcome)) (f : ℕ × Outcome) → AreFound fs → list_any (λ g. g.0 == f.0) fs ≡ false → AreFound (fs ++ f ∷ [])
found_last fs f h k =
    each_append (λ x. find (λ g. g.0 == x.0) (fs ++ f ∷ []) ≡ Some x) fs (f ∷ [])
    (each_map (λ x. find (λ g. g.0 == x.0) fs ≡ Some x) (λ x. find (λ g. g.0 == x.0) (fs ++ f ∷ []) ≡ Some x)
    (λ x e. find_more (λ g. g.0 == x.0) fs (f ∷ []) x e) fs h)
    (find_last (λ g. g.0 == f.0) fs f (none_found (λ g. g.0 == f.0) fs k) (eq-eqb f.0 f.0 refl), tt)

-- a law of the finished works, kept by each finish
of_finished : (threads askers : ℕ) (P : List (ℕ × Outcome) → Type 0) → P []
    → ((fs : List (ℕ × Outcome)) (f : ℕ × Outcome) → P fs → list_any (λ g. g.0 == f.0) fs ≡ false → P (fs ++ f ∷ [])) → (history : List Event)
    → Legal threads askers history → P (finished history)
of_finished threads askers P start step history h =
    legal_keeps threads askers (λ xs. P (finished xs)) start (λ xs e k is. subst P (sym (finished_append xs (e ∷ []))) (one xs e k is)) history h
  where
    one : (xs : List Event) (e : Event) → P (finished xs) → IsLegalAfter threads askers xs e → P (finished xs ++ finished (e ∷ []))
    one xs (event.Submit id work helper) k is = rw append-nil k
    one xs (event.Start thread id) k is = rw append-nil k
    one xs (event.Finish thread id outcome) k is = step (finished xs) (id, outcome) k is.rule.1
    one xs (event.Request req asker num) k is = rw append-nil k
    one xs (event.AskerEnd asker) k is = rw append-nil k
    one xs (event.Drain ids requests) k is = rw append-nil k
    one xs (event.Answered req num) k is = rw append-nil k
    one xs (event.HelperNew no' answer) k is = rw append-nil k
    one xs (event.HelperEnd no') k is = rw append-nil k
    one xs event.Close k is = rw append-nil k

pub finished_found : (threads askers : ℕ) (xs : List Event) → Legal threads askers xs → AreFound (finished xs)
finished_found threads askers xs h = of_finished threads askers AreFound tt (λ fs f k none. found_last fs f k none) xs h

pub finished_apart : (threads askers : ℕ) (xs : List Event) → Legal threads askers xs → AreApart (finished xs)
finished_apart threads askers xs h =
    of_finished threads askers AreApart tt (λ fs f k none. apart_last fs f k (any_none (λ g. g.0 == f.0) fs none)) xs h

found_again : (fs gs : List (ℕ × Outcome)) → Each (λ f. find (λ g. g.0 == f.0) fs ≡ Some f) gs
    → filter_map (λ id. find (λ (g : ℕ × Outcome). g.0 == id) fs) (map (λ (f : ℕ × Outcome). f.0) gs) ≡ gs
found_again fs [] h = refl
found_again fs (g ∷ gs) h =
    ap (λ o. cons_option o (filter_map (λ id. find (λ (f : ℕ × Outcome). f.0 == id) fs) (map (λ (f : ℕ × Outcome). f.0) gs))) h.0
    ∙ ap (λ l. g ∷ l) (found_again fs gs h.1)

-- what the works come to that a drain fetches
pub works_fetched : (threads askers : ℕ) (xs : List Event) → Legal threads askers xs → filter_map (finish_in xs) (owed xs) ≡ owed_pairs xs
works_fetched threads askers xs h =
    let left = λ (id : ℕ). not (is_among (flat_map drained_in xs) id) in
    ap (filter_map (finish_in xs)) (sym (map_filter left (finished xs)))
    ∙ found_again (finished xs) (owed_pairs xs) (each_filter (λ f. find (λ g. g.0 == f.0) (finished xs) ≡ Some f) (λ (f : ℕ × Outcome). left f.0)
    (finished xs) (finished_found threads askers xs h))

-- ---- requests
abbrev asked_pair : Asking → ℕ × ℤ
asked_pair r = (r.no, r.num)

request_found : (made all : List Asking) → Each (λ r. find (λ (s : Asking). s.no == r.no) all ≡ Some r) made
    → filter_map (λ q. option_map asked_pair (find (λ (r : Asking). r.no == q) all)) (map (λ (r : Asking). r.no) made) ≡ map asked_pair made
request_found [] all h = refl
request_found (r ∷ made) all h =
    ap (λ o. cons_option (option_map asked_pair o) (filter_map (λ q. option_map asked_pair (find (λ (s : Asking). s.no == q) all))
    (map (λ (s : Asking). s.no) made))) h.0
    ∙ ap (λ l. asked_pair r ∷ l) (request_found made all h.1)

-- each request is found under its number
asked_found : (askers : ℕ) (xs : List Event) (s : RequestsState) → AskersStand askers (request_facts xs) s
    → Each (λ r. find (λ (x : Asking). x.no == r.no) (asked xs) ≡ Some r) (asked xs)
asked_found askers xs s st =
    subst (λ l. Each (λ r. find (λ (x : Asking). x.no == r.no) l ≡ Some r) l) (sym st.asked)
    (each_at (λ r. find (λ (x : Asking). x.no == r.no) (map asking_of s.made) ≡ Some r) (map asking_of s.made) (asking_of no_request)
    (λ q lt. here q (omega (arith, lt, length-map s.made asking_of))))
  where
    all : List Asking
    all = map asking_of s.made

    at : ℕ → Asking
    at q = get_or (map asking_of s.made) q (asking_of no_request)

    number : (q : ℕ) → q < length s.made → (at q).no ≡ q
    number q lt = ap (λ (r : Asking). r.no) (get_or-map asking_of s.made q no_request (asking_of no_request) lt) ∙ st.numbered q lt

    here : (q : ℕ) → q < length s.made → find (λ (x : Asking). x.no == (at q).no) (map asking_of s.made) ≡ Some (at q)
    here q lt =
        find_at (λ (x : Asking). x.no == (at q).no) (map asking_of s.made) (asking_of no_request) q (omega (arith, lt, length-map s.made asking_of))
        (eq-eqb (at q).no (at q).no refl)
        (λ j less. ne_eqb (at j).no (at q).no (λ e. absurd (omega (arith, e, number q lt, number j (omega (arith, less, lt)), less))))

-- the requests with their numbers that a drain fetches
pub requests_fetched : (threads askers : ℕ) (xs : List Event) → Legal threads askers xs → filter_map (request_in xs) (unfetched xs) ≡ request_pairs xs
requests_fetched threads askers xs h =
    let left = left_by threads askers xs h in
    let bare = λ (r : Asking). not (is_fetched xs r.no) in
    ap (filter_map (request_in xs)) (filter_mapped (λ q. not (is_fetched xs q)) (λ (r : Asking). r.no) (asked xs))
    ∙ request_found (filter bare (asked xs)) (asked xs) (each_filter (λ r. find (λ (x : Asking). x.no == r.no) (asked xs) ≡ Some r) bare (asked xs)
    (asked_found askers xs left.requests left.asked))

-- LAW. The reply to a drain of a legal history is what the pool brings by it.
pub drain_reply : (threads askers : ℕ) (xs : List Event) → Legal threads askers xs → arrived_in askers xs (owed xs) (unfetched xs) ≡ brought askers xs
drain_reply threads askers xs h =
    λ i. record { works = works_fetched threads askers xs h i; requests = requests_fetched threads askers xs h i; left = askers_left askers xs }
