-- Requests are fetched at most once; and where the outside is quiet each was fetched, and each asker that has not ended waits for its
-- last one.
use Rattle.std.proofs.Common.{◌≡◌, ℕ, ℤ, zero, suc, ◌+◌, ◌-◌, ◌≤◌, ◌<◌, Bool, true, false, cond, List, [], ◌∷◌, ◌++◌, length, get_or, refl, sym, ap, subst, ◌∙◌, append-nil, arith}
use Rattle.std.specs.Prelude.{◌||◌, ◌&&◌, ◌==◌, not, map, filter, find, drop, count_by, Option, Some, None, is_some, is_none}
use Rattle.std.specs.Option.{option_map}
use Rattle.std.specs.List.{AllByRecursion as Each, list_any, list_all, flat_map}
use Rattle.std.proofs.lemmas.Bool.{eqb-true, ne_eqb}
use Rattle.std.proofs.lemmas.Grind.{flat_map-append}
use Rattle.std.proofs.lemmas.List.{length-map, length-append}
use Rattle.std.proofs.lemmas.List.Elements.{filter-append}
use Rattle.std.proofs.lemmas.List.Sums.{length-filter}
use Rattle.ak_labor.specs.Calls.{Drained}
use Rattle.ak_labor.specs.Waits.{came, requests_in, is_unanswered, unanswered}
use Rattle.ak_history.specs.declared.event.Event.{Event}
use Rattle.ak_history.specs.Events.{Asking, asked, answers, fetched_in, has_left, is_among, is_answered, is_fetched, is_of_asker, is_served, numbers_below}
use Rattle.ak_history.specs.Legal.{Legal}
use Rattle.ak_history.specs.Scheduler.{asks, replies}
use Rattle.ak_pool.specs.declared.requests.Asker.{Asker}
use Rattle.ak_pool.specs.declared.requests.Made.{Made}
use Rattle.ak_pool.specs.Askers.{asker_at, made_at, no_asker, no_request, left_of, unfetched_of, pair_of, is_bare, is_waiting}
use Rattle.ak_pool.specs.Pools.{request_pairs, brought, waiting_for}
use Rattle.ak_pool.proofs.Askers.{made_numbers}
use Rattle.ak_pool.proofs.AskedRules.{answered_is, pairs_are, left_is, waiting_is}
use Rattle.ak_pool.proofs.Items.{filter_nil, any_from_find}
use Rattle.ak_history_laws.proofs.Answering.{answered_fetched}
use Rattle.ak_history_laws.proofs.Legals.{left_by}
use Rattle.ak_history_laws.proofs.Parts.{bit, count_cons, count_more, count_some}
use Rattle.ak_history_laws.proofs.Requests.{answers_alike, came_is, serves}
use Rattle.ak_asker_laws.specs.Quiet.{IsQuiet, WaitsForLast, fetches_of, FetchedOnce}
use Rattle.ak_asker_laws.proofs.Waiting.{last_waits}

-- ---- each request is fetched at most once
none_past : (n q : ℕ) → n ≤ q → count_by (λ (m : ℕ). m == q) (numbers_below n) ≡ 0
none_past zero q le = refl
none_past (suc n) q le =
    let other : (n == q) ≡ false = ne_eqb n q (λ e. absurd (omega (arith, e, le))) in
    omega (arith, count_more (λ (m : ℕ). m == q) (numbers_below n) n, ap bit other, none_past n q (omega (arith, le)))

below_once : (n q : ℕ) → count_by (λ (m : ℕ). m == q) (numbers_below n) ≤ 1
below_once zero q = omega arith
below_once (suc n) q = one (n == q) refl (below_once n q)
  where
    one : (b : Bool) → (n == q) ≡ b → count_by (λ (m : ℕ). m == q) (numbers_below n) ≤ 1 → count_by (λ (m : ℕ). m == q) (numbers_below (suc n)) ≤ 1
    one true is later =
        omega (
          arith,
          count_more (λ (m : ℕ). m == q) (numbers_below n) n,
          ap bit is,
          none_past n q (omega (arith, eqb-true n q is)),
        )
    one false is later = omega (arith, count_more (λ (m : ℕ). m == q) (numbers_below n) n, ap bit is, later)

-- LAW. A request is fetched at most once.
pub fetched_at_most_once : (threads askers : ℕ) (xs : List Event) (q : ℕ) → Legal threads askers xs → fetches_of xs q ≤ 1
fetched_at_most_once threads askers xs q legal =
    let k = left_by threads askers xs legal in
    omega (arith, ap (count_by (λ (m : ℕ). m == q)) k.asked.fetched, below_once k.requests.fetched q)

-- ---- counts
count_mapped : {A B : Type 0} (p : B → Bool) (g : A → B) (xs : List A) → count_by p (map g xs) ≡ count_by (λ x. p (g x)) xs
count_mapped p g [] = refl
count_mapped p g (x ∷ xs) =
    omega (arith, count_cons p (g x) (map g xs), count_cons (λ y. p (g y)) x xs, count_mapped p g xs)

count_alike : {A : Type 0} (p q : A → Bool) → ((x : A) → p x ≡ q x) → (xs : List A) → count_by p xs ≡ count_by q xs
count_alike p q h [] = refl
count_alike p q h (x ∷ xs) = omega (arith, count_cons p x xs, count_cons q x xs, ap bit (h x), count_alike p q h xs)

count_same : {A : Type 0} (p q : A → Bool) (xs : List A) (d : A) → ((i : ℕ) → i < length xs → p (get_or xs i d) ≡ q (get_or xs i d))
    → count_by p xs ≡ count_by q xs
count_same p q [] d h = refl
count_same p q (x ∷ xs) d h =
    omega (arith, count_cons p x xs, count_cons q x xs, ap bit (h 0 (omega arith)), count_same p q xs d (λ i lt. h (suc i) (omega arith)))

bit_less : (a b : Bool) → (a ≡ true → b ≡ true) → bit a ≤ bit b
bit_less true b h = omega (arith, ap bit (h refl))
bit_less false true h = omega arith
bit_less false false h = omega arith

count_less : {A : Type 0} (p q : A → Bool) (xs : List A) (d : A) → ((i : ℕ) → i < length xs → p (get_or xs i d) ≡ true → q (get_or xs i d) ≡ true)
    → count_by p xs ≤ count_by q xs
count_less p q [] d h = omega arith
count_less p q (x ∷ xs) d h =
    omega (arith, count_cons p x xs, count_cons q x xs, bit_less (p x) (q x) (h 0 (omega arith)), count_less p q xs d (λ i lt. h (suc i) (omega arith)))

-- where the second passes no more than the first does, what passes the second passes the first
bit_more : (a b : Bool) → bit b ≤ bit a → b ≡ true → a ≡ true
bit_more true b le is = refl
bit_more false true le is = absurd (omega (arith, le))
bit_more false false le is = absurd (cc is)

none_more : {A : Type 0} (p q : A → Bool) (xs : List A) (d : A) → ((i : ℕ) → i < length xs → p (get_or xs i d) ≡ true → q (get_or xs i d) ≡ true)
    → count_by q xs ≤ count_by p xs → (i : ℕ) → i < length xs → q (get_or xs i d) ≡ true → p (get_or xs i d) ≡ true
none_more p q [] d h le i lt is = absurd (omega (arith, lt))
none_more p q (x ∷ xs) d h le zero lt is =
    bit_more (p x) (q x)
    (omega (arith, le, count_cons p x xs, count_cons q x xs, count_less p q xs d (λ i lt. h (suc i) (omega arith)))) is
none_more p q (x ∷ xs) d h le (suc i) lt is =
    none_more p q xs d (λ j less. h (suc j) (omega arith))
    (omega (arith, le, count_cons p x xs, count_cons q x xs, bit_less (p x) (q x) (h 0 (omega arith)))) i (omega (arith, lt)) is

-- whether an asker has all its answers
all_none : {A : Type 0} (p q : A → Bool) (xs : List A) → list_all q (filter p xs) ≡ not (list_any (λ x. p x && not (q x)) xs)
all_none p q [] = refl
all_none {A} p q (x ∷ xs) = of (p x) (q x) refl (all_none p q xs)
  where
    of : (a b : Bool) → q x ≡ b → list_all q (filter p xs) ≡ not (list_any (λ y. p y && not (q y)) xs)
        → list_all q (cond a (x ∷ filter p xs) (filter p xs)) ≡ not ((a && not b) || list_any (λ y. p y && not (q y)) xs)
    of true true is e = (λ i. is i && e i)
    of true false is e = ap (λ b. b && list_all q (filter p xs)) is
    of false b is e = e

some_mapped : {A B : Type 0} (g : A → B) (o : Option A) → is_some (option_map g o) ≡ is_some o
some_mapped g None = refl
some_mapped g (Some x) = refl

-- ---- items of an asker
kept_by : (P : Asking → Type 0) (a : ℕ) (rs : List Asking) → Each P rs → Each P (filter (is_of_asker a) rs)
kept_by P a [] h = tt
kept_by P a (r ∷ rs) h = one (r.asker == a) (kept_by P a rs h.1)
  where
    one : (b : Bool) → Each P (filter (is_of_asker a) rs) → Each P (cond b (r ∷ filter (is_of_asker a) rs) (filter (is_of_asker a) rs))
    one true later = (h.0, later)
    one false later = later

last_by : (P : Asking → Type 0) (before : List Asking) (last : Asking) → Each P (before ++ last ∷ []) → P last
last_by P [] last h = h.0
last_by P (r ∷ before) last h = last_by P before last h.1

-- what stands among numbers stands there once at least
some_among : (ns : List ℕ) (q : ℕ) → is_among ns q ≡ true → 1 ≤ count_by (λ n. n == q) ns
some_among ns q e = count_some (λ n. n == q) ns e

-- ---- which requests have no answer, by the calls
any_first : (q : ℕ) (xs : List (ℕ × ℤ)) → list_any (λ n. n == q) (map (λ (x : ℕ × ℤ). x.0) xs) ≡ list_any (λ (x : ℕ × ℤ). x.0 == q) xs
any_first q [] = refl
any_first q (x ∷ xs) = ap (λ b. (x.0 == q) || b) (any_first q xs)

unanswered_is : (xs : List Event) (r : ℕ × ℤ) → is_unanswered (asks xs) r ≡ not (is_answered xs r.0)
unanswered_is xs r = ap (λ l. not (list_any (λ q. q == r.0) l)) (answers_alike xs) ∙ ap not (any_first r.0 (answers xs))

module _ (threads askers : ℕ) (xs : List Event) (legal : Legal threads askers xs) where
  -- what a drain would bring has no answer
  pair_unanswered : (rs : List Asking) → filter (is_unanswered (asks xs)) (map (λ (r : Asking). (r.no, r.num)) (filter (λ (r : Asking). not (is_fetched xs r.no)) rs))
      ≡ map (λ (r : Asking). (r.no, r.num)) (filter (λ (r : Asking). not (is_fetched xs r.no)) rs)
  pair_unanswered [] = refl
  pair_unanswered (r ∷ rs) = one (is_fetched xs r.no) refl (pair_unanswered rs)
    where
      later : List (ℕ × ℤ)
      later = map (λ (s : Asking). (s.no, s.num)) (filter (λ (s : Asking). not (is_fetched xs s.no)) rs)

      bare : is_fetched xs r.no ≡ false → (b : Bool) → is_answered xs r.no ≡ b → is_unanswered (asks xs) (r.no, r.num) ≡ true
      bare e true said = absurd (cc (e, answered_fetched threads askers xs r.no legal said))
      bare e false said = unanswered_is xs (r.no, r.num) ∙ ap not said

      one : (b : Bool) → is_fetched xs r.no ≡ b → filter (is_unanswered (asks xs)) later ≡ later
          → filter (is_unanswered (asks xs)) (map (λ (s : Asking). (s.no, s.num)) (cond (not b) (r ∷ filter (λ (s : Asking). not (is_fetched xs s.no)) rs)
          (filter (λ (s : Asking). not (is_fetched xs s.no)) rs)))
          ≡ map (λ (s : Asking). (s.no, s.num)) (cond (not b) (r ∷ filter (λ (s : Asking). not (is_fetched xs s.no)) rs)
          (filter (λ (s : Asking). not (is_fetched xs s.no)) rs))
      one true e rest = rest
      one false e rest = λ i. cond (bare e (is_answered xs r.no) refl i) ((r.no, r.num) ∷ rest i) (rest i)

  -- the calls leave no more without an answer than a drain would find
  open_with_drain : length (unanswered (asks xs) (replies askers xs ++ Drained (brought askers xs) ∷ []))
      ≡ length (unanswered (asks xs) (replies askers xs)) + length (request_pairs xs)
  open_with_drain =
      let more : came (replies askers xs ++ Drained (brought askers xs) ∷ []) ≡ came (replies askers xs) ++ request_pairs xs =
      flat_map-append requests_in (replies askers xs) (Drained (brought askers xs) ∷ [])
      ∙ ap (λ l. came (replies askers xs) ++ l) (append-nil (request_pairs xs)) in
      ap (λ l. length (filter (is_unanswered (asks xs)) l)) more
      ∙ (ap length (filter-append (is_unanswered (asks xs)) (came (replies askers xs)) (request_pairs xs))
      ∙ (ap (λ l. length (unanswered (asks xs) (replies askers xs) ++ l)) (pair_unanswered (asked xs))
      ∙ length-append (unanswered (asks xs) (replies askers xs)) (request_pairs xs)))

  module _ (quiet : IsQuiet askers (asks xs) (replies askers xs)) where
    -- nothing is left to be fetched, and as many requests have no answer as askers have not ended
    nothing_new : (length (request_pairs xs) ≡ 0) × (length (unanswered (asks xs) (replies askers xs)) ≡ left_of (left_by threads askers xs legal).requests)
    nothing_new =
        let k = left_by threads askers xs legal in
        let s = serves threads askers xs legal in
        let left = left_is askers xs k.requests k.asked in
        (omega (arith, s.one_each, open_with_drain, quiet, s.fewer), omega (arith, s.one_each, open_with_drain, quiet, s.fewer, left))

    no_pairs : {A B : Type 0} (g : A → B) (l : List A) → length (map g l) ≡ 0 → l ≡ []
    no_pairs g [] e = refl
    no_pairs g (x ∷ l) e = absurd (omega (arith, e))

    each_fetched : Each (λ (r : Asking). is_fetched xs r.no ≡ true) (asked xs)
    each_fetched =
        not_not (asked xs)
        (filter_nil (λ (r : Asking). not (is_fetched xs r.no)) (asked xs)
        (no_pairs (λ (r : Asking). (r.no, r.num)) (filter (λ (r : Asking). not (is_fetched xs r.no)) (asked xs)) nothing_new.0))
      where
        yes_of : (b : Bool) → not b ≡ false → b ≡ true
        yes_of true e = refl
        yes_of false e = absurd (cc e)

        not_not : (rs : List Asking) → Each (λ (r : Asking). not (is_fetched xs r.no) ≡ false) rs → Each (λ (r : Asking). is_fetched xs r.no ≡ true) rs
        not_not [] h = tt
        not_not (r ∷ rs) h = (yes_of (is_fetched xs r.no) h.0, not_not rs h.1)

    -- LAW. Where the outside is quiet each request was fetched, once.
    pub all_fetched_once : Each (FetchedOnce xs) (asked xs)
    all_fetched_once = each (asked xs) each_fetched
      where
        each : (rs : List Asking) → Each (λ (r : Asking). is_fetched xs r.no ≡ true) rs → Each (FetchedOnce xs) rs
        each [] h = tt
        each (r ∷ rs) h = (
          omega (arith, fetched_at_most_once threads askers xs r.no legal, some_among (flat_map fetched_in xs) r.no h.0),
          each rs h.1,
        )

    -- as many requests have no answer as askers wait
    all_wait : count_by (λ (a : Asker). not a.ended) (left_by threads askers xs legal).requests.askers
        ≤ count_by is_waiting (left_by threads askers xs legal).requests.askers
    all_wait =
        let k = left_by threads askers xs legal in
        let s = k.requests in
        let bare = λ (q : ℕ). not (is_answered xs q) in
        let first = λ (r : ℕ × ℤ). r.0 in
        let all : s.fetched ≡ length s.made =
        let size : length (unfetched_of s) ≡ 0 =
        sym (length-map (unfetched_of s) pair_of) ∙ (ap length (pairs_are askers xs s k.asked) ∙ nothing_new.0) in
        omega (arith, size, length_drop s.fetched s.made, k.asked.few) in
        let open_ones : length (unanswered (asks xs) (replies askers xs)) ≡ count_by bare (numbers_below s.fetched) =
        length-filter (is_unanswered (asks xs)) (came (replies askers xs))
        ∙ (count_alike (is_unanswered (asks xs)) (λ r. bare r.0) (unanswered_is xs) (came (replies askers xs))
        ∙ (sym (count_mapped bare first (came (replies askers xs)))
        ∙ (ap (count_by bare) (came_is threads askers xs legal) ∙ ap (count_by bare) k.asked.fetched))) in
        let made : count_by is_bare s.made ≡ count_by bare (numbers_below (length s.made)) =
        sym (count_same (λ (m : Made). bare m.no) is_bare s.made no_request
        (λ i lt. ap bare (k.asked.numbered i lt) ∙ (ap not (answered_is askers xs s i k.asked) ∙ not_some (made_at s i).answer)))
        ∙ (sym (count_mapped bare (λ (m : Made). m.no) s.made) ∙ ap (count_by bare) (made_numbers s k.asked.numbered)) in
        omega (arith, nothing_new.1, open_ones, made, ap (λ n. count_by bare (numbers_below n)) all, k.asked.counted)
      where
        not_some : (o : Option ℤ) → not (is_some o) ≡ is_none o
        not_some None = refl
        not_some (Some v) = refl

        length_drop : {A : Type 0} (n : ℕ) (l : List A) → length (drop n l) ≡ length l - n
        length_drop zero l = omega arith
        length_drop (suc n) [] = omega arith
        length_drop (suc n) (x ∷ l) = omega (arith, length_drop n l)

    -- the last of an asker's requests was fetched
    last_kept : (a : ℕ) (before : List Asking) (last : Asking) (rs : List Asking) → filter (is_of_asker a) rs ≡ before ++ last ∷ []
        → Each (λ (r : Asking). is_fetched xs r.no ≡ true) rs → is_fetched xs last.no ≡ true
    last_kept a before last rs e h =
        last_by (λ (r : Asking). is_fetched xs r.no ≡ true) before last
        (subst (Each (λ (r : Asking). is_fetched xs r.no ≡ true)) e (kept_by (λ (r : Asking). is_fetched xs r.no ≡ true) a rs h))

    -- LAW. Where the outside is quiet an asker that has not ended waits for the answer to its last request, which was fetched.
    pub waits_for_last : (a : ℕ) → a < askers → has_left xs a ≡ false → WaitsForLast xs a
    waits_for_last a lt stays =
        let k = left_by threads askers xs legal in
        let s = k.requests in
        let here : not (asker_at s a).ended ≡ true = ap not (sym (k.asked.ended a) ∙ stays) in
        let waits : is_waiting (asker_at s a) ≡ true =
        none_more is_waiting (λ (x : Asker). not x.ended) s.askers no_asker (λ i less w. ap not (k.asked.lasting i w)) all_wait a (omega (arith, lt, k.asked.size)) here in
        let unserved : is_served xs a ≡ false = served_is ∙ ap not (ap is_some (waiting_is askers xs s a k.asked) ∙ waits) in
        let last = last_waits threads askers a xs legal unserved in
        record {
          before = last.0;
          last = last.1;
          requests = last.2;
          fetched = last_kept a last.0 last.1 (asked xs) last.2 each_fetched;
          unanswered = last.3;
        }
      where
        served_is : is_served xs a ≡ not (is_some (waiting_for xs a))
        served_is =
            all_none (is_of_asker a) (λ (r : Asking). is_answered xs r.no) (asked xs)
            ∙ ap not (sym (any_from_find (λ (r : Asking). r.asker == a && not (is_answered xs r.no)) (asked xs))
            ∙ sym (some_mapped (λ (r : Asking). r.no) (find (λ (r : Asking). r.asker == a && not (is_answered xs r.no)) (asked xs))))
