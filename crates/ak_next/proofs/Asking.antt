-- Where an asker may ask, something happens or a drain has something to tell.
use Rattle.std.proofs.Common.{◌≡◌, ℕ, ℤ, zero, suc, ◌-◌, ◌≤◌, ◌<◌, Bool, true, false, cond, List, [], ◌∷◌, ◌++◌, length, get_or, refl, sym, ap, subst, ◌∙◌, arith}
use Rattle.std.specs.Prelude.{◌||◌, ◌&&◌, ◌==◌, not, map, filter, find, drop, fold, count_by, Option, Some, None, is_some, is_none}
use Rattle.std.specs.List.{list_any, list_all}
use Rattle.std.proofs.lemmas.Grind.{fold-append}
use Rattle.std.proofs.lemmas.List.{length-map}
use Rattle.std.proofs.lemmas.List.Sums.{length-filter}
use Rattle.ak_labor.specs.Waits.{came, is_unanswered, unanswered, left_after, left_by as left_by_reply, CanAsk}
use Rattle.ak_history.specs.declared.event.Event.{Event}
use Rattle.ak_history.specs.declared.event.Event.TheVariants as event
use Rattle.ak_history.specs.Events.{Asking, asked, answers, has_left, is_answered, is_of_asker, is_served, numbers_below, unfetched}
use Rattle.ak_history.specs.Legal.{Legal}
use Rattle.ak_history.specs.Scheduler.{asks, replies, replies_after}
use Rattle.ak_pool.specs.declared.requests.Asker.{Asker}
use Rattle.ak_pool.specs.declared.requests.Made.{Made}
use Rattle.ak_pool.specs.Askers.{RequestsState, asker_at, made_at, no_asker, no_request, left_of, unfetched_of, pair_of, is_bare, is_waiting}
use Rattle.ak_pool.specs.AskersStand.{AskersStand, RequestFacts, request_facts}
use Rattle.ak_pool.specs.Pools.{request_pairs, has_untold_end, waiting_for}
use Rattle.ak_pool.proofs.Askers.{made_numbers, request_added, request_grown}
use Rattle.ak_pool.proofs.AskedRules.{answered_is, pairs_are, waiting_is}
use Rattle.ak_pool.proofs.Items.{any_from_find}
use Rattle.ak_history_laws.specs.Asked.{requests_of}
use Rattle.ak_history_laws.proofs.Legals.{legal_keeps}
use Rattle.ak_history_laws.proofs.Parts.{bit, count_cons}
use Rattle.ak_history_laws.proofs.Replies.{replies_more}
use Rattle.ak_history_laws.proofs.Requests.{answers_alike, came_is, same_numbers}
use Rattle.ak_next.specs.Next.{Crowd, asker_acts, asker_next}
use Rattle.ak_next.proofs.Lists.{is_some_mapped}

-- ---- counts
count_mapped : {A B : Type 0} (p : B → Bool) (g : A → B) (xs : List A) → count_by p (map g xs) ≡ count_by (λ x. p (g x)) xs
count_mapped p g [] = refl
count_mapped p g (x ∷ xs) =
    omega (arith, count_cons p (g x) (map g xs), count_cons (λ y. p (g y)) x xs, count_mapped p g xs)

count_alike : {A : Type 0} (p q : A → Bool) → ((x : A) → p x ≡ q x) → (xs : List A) → count_by p xs ≡ count_by q xs
count_alike p q h [] = refl
count_alike p q h (x ∷ xs) = omega (arith, count_cons p x xs, count_cons q x xs, ap bit (h x), count_alike p q h xs)

count_same : {A : Type 0} (p q : A → Bool) (xs : List A) (d : A) → ((i : ℕ) → i < length xs → p (get_or xs i d) ≡ q (get_or xs i d))
    → count_by p xs ≡ count_by q xs
count_same p q [] d h = refl
count_same p q (x ∷ xs) d h =
    omega (arith, count_cons p x xs, count_cons q x xs, ap bit (h 0 (omega arith)), count_same p q xs d (λ i lt. h (suc i) (omega (arith, lt))))

bit_less : (a b : Bool) → (a ≡ true → b ≡ true) → bit a ≤ bit b
bit_less true b h = omega (arith, ap bit (h refl))
bit_less false true h = omega arith
bit_less false false h = omega arith

count_less : {A : Type 0} (p q : A → Bool) (xs : List A) (d : A) → ((i : ℕ) → i < length xs → p (get_or xs i d) ≡ true → q (get_or xs i d) ≡ true)
    → count_by p xs ≤ count_by q xs
count_less p q [] d h = omega arith
count_less p q (x ∷ xs) d h =
    omega (
      arith,
      count_cons p x xs,
      count_cons q x xs,
      bit_less (p x) (q x) (h 0 (omega arith)),
      count_less p q xs d (λ i lt. h (suc i) (omega (arith, lt))),
    )

-- ---- how many askers are left, where each end was told
said_more : (askers : ℕ) (xs : List Event) (e : Event)
    → left_after askers (replies askers (xs ++ e ∷ [])) ≡ fold left_by_reply (left_after askers (replies askers xs)) (replies_after askers xs (e ∷ []))
said_more askers xs e = ap (fold left_by_reply askers) (replies_more askers xs (e ∷ []))
    ∙ fold-append left_by_reply askers (replies askers xs) (replies_after askers xs (e ∷ []))

abbrev WasTold : ℕ → RequestFacts → ℕ → Type 0
WasTold askers f told = f.untold ≡ false → told ≡ askers - length f.left

one_told : (askers : ℕ) (xs : List Event) (e : Event) (told : ℕ) → WasTold askers (request_facts xs) told
    → WasTold askers (request_added e (request_facts xs)) (fold left_by_reply told (replies_after askers xs (e ∷ [])))
one_told askers xs (event.Submit id work helper) told k = k
one_told askers xs (event.Start thread id) told k = k
one_told askers xs (event.Finish thread id outcome) told k = k
one_told askers xs (event.Request q asker n) told k = k
one_told askers xs (event.AskerEnd asker) told k = λ e. absurd (cc e)
one_told askers xs (event.Drain ids requests) told k = λ e. refl
one_told askers xs (event.Answered q v) told k = k
one_told askers xs (event.HelperNew h answer) told k = k
one_told askers xs (event.HelperEnd h) told k = k
one_told askers xs event.Close told k = k

-- what the last drain said of askers is true now, where no end is untold
was_told : (threads askers : ℕ) (xs : List Event) → Legal threads askers xs → WasTold askers (request_facts xs) (left_after askers (replies askers xs))
was_told threads askers xs h =
    legal_keeps threads askers (λ ys. WasTold askers (request_facts ys) (left_after askers (replies askers ys)))
    (λ e. omega arith)
    (λ ys e k is.
    subst (λ f. WasTold askers f (left_after askers (replies askers (ys ++ e ∷ [])))) (sym (request_grown ys e))
    (subst (WasTold askers (request_added e (request_facts ys))) (sym (said_more askers ys e))
    (one_told askers ys e (left_after askers (replies askers ys)) k))) xs h

-- ---- which requests have no answer
any_first : (q : ℕ) (xs : List (ℕ × ℤ)) → list_any (λ n. n == q) (map (λ (x : ℕ × ℤ). x.0) xs) ≡ list_any (λ (x : ℕ × ℤ). x.0 == q) xs
any_first q [] = refl
any_first q (x ∷ xs) = ap (λ b. (x.0 == q) || b) (any_first q xs)

unanswered_is : (xs : List Event) (r : ℕ × ℤ) → is_unanswered (asks xs) r ≡ not (is_answered xs r.0)
unanswered_is xs r = ap (λ l. not (list_any (λ q. q == r.0) l)) (answers_alike xs) ∙ ap not (any_first r.0 (answers xs))

not_some : (o : Option ℤ) → not (is_some o) ≡ is_none o
not_some None = refl
not_some (Some v) = refl

no_pairs : {A B : Type 0} (g : A → B) (l : List A) → map g l ≡ [] → l ≡ []
no_pairs g [] e = refl
no_pairs g (x ∷ l) e = absurd (cc e)

length_drop : {A : Type 0} (n : ℕ) (l : List A) → length (drop n l) ≡ length l - n
length_drop zero l = omega arith
length_drop (suc n) [] = omega arith
length_drop (suc n) (x ∷ l) = omega (arith, length_drop n l)

-- whether an asker has all its answers
all_none : {A : Type 0} (p q : A → Bool) (xs : List A) → list_all q (filter p xs) ≡ not (list_any (λ x. p x && not (q x)) xs)
all_none p q [] = refl
all_none {A} p q (x ∷ xs) = of (p x) (q x) refl (all_none p q xs)
  where
    of : (a b : Bool) → q x ≡ b → list_all q (filter p xs) ≡ not (list_any (λ y. p y && not (q y)) xs)
        → list_all q (cond a (x ∷ filter p xs) (filter p xs)) ≡ not ((a && not b) || list_any (λ y. p y && not (q y)) xs)
    of true true e later = ap (λ c. c && list_all q (filter p xs)) e ∙ later
    of true false e later = ap (λ c. c && list_all q (filter p xs)) e
    of false b e later = later

module _ (threads askers : ℕ) (xs : List Event) (legal : Legal threads askers xs) (s : RequestsState) (st : AskersStand askers (request_facts xs) s) where
  -- where each request was fetched, those without an answer are those that the calls have not answered
  bare_ones : unfetched xs ≡ [] → length (unanswered (asks xs) (replies askers xs)) ≡ count_by is_bare s.made
  bare_ones none =
      let bare = λ (q : ℕ). not (is_answered xs q) in
      let first = λ (r : ℕ × ℤ). r.0 in
      let nothing : request_pairs xs ≡ [] = no_pairs first (request_pairs xs) (same_numbers threads askers xs legal ∙ none) in
      let size : length (unfetched_of s) ≡ 0 =
      sym (length-map (unfetched_of s) pair_of) ∙ ap length (pairs_are askers xs s st ∙ nothing) in
      let all : s.fetched ≡ length s.made = omega (arith, size, length_drop s.fetched s.made, st.few) in
      let open_ones : length (unanswered (asks xs) (replies askers xs)) ≡ count_by bare (numbers_below s.fetched) =
      length-filter (is_unanswered (asks xs)) (came (replies askers xs))
      ∙ (count_alike (is_unanswered (asks xs)) (λ r. bare r.0) (unanswered_is xs) (came (replies askers xs))
      ∙ (sym (count_mapped bare first (came (replies askers xs)))
      ∙ (ap (count_by bare) (came_is threads askers xs legal) ∙ ap (count_by bare) st.fetched))) in
      let made : count_by is_bare s.made ≡ count_by bare (numbers_below (length s.made)) =
      sym (count_same (λ (m : Made). bare m.no) is_bare s.made no_request
      (λ i lt. ap bare (st.numbered i lt) ∙ (ap not (answered_is askers xs s i st) ∙ not_some (made_at s i).answer)))
      ∙ (sym (count_mapped bare (λ (m : Made). m.no) s.made) ∙ ap (count_by bare) (made_numbers s st.numbered)) in
      open_ones ∙ (ap (λ n. count_by bare (numbers_below n)) all ∙ sym made)

  -- an asker that does nothing next has ended, or waits
  ended_or_waits : (crowd : Crowd) (a : ℕ) → asker_next crowd xs a ≡ None → not (asker_at s a).ended ≡ true → is_waiting (asker_at s a) ≡ true
  ended_or_waits crowd a nothing stays = of (has_left xs a) (st.ended a) (is_some (waiting_for xs a)) refl
      (sym (ap (λ c. cond (has_left xs a || not c) None (Some (asker_acts crowd xs a (length (requests_of a xs))))) served) ∙ nothing)
    where
      served : is_served xs a ≡ not (is_some (waiting_for xs a))
      served =
          all_none (is_of_asker a) (λ (r : Asking). is_answered xs r.no) (asked xs)
          ∙ ap not (sym (any_from_find (λ (r : Asking). r.asker == a && not (is_answered xs r.no)) (asked xs))
          ∙ sym (is_some_mapped (λ (r : Asking). r.no) (find (λ (r : Asking). r.asker == a && not (is_answered xs r.no)) (asked xs))))

      of : (b : Bool) → b ≡ (asker_at s a).ended → (c : Bool) → is_some (waiting_for xs a) ≡ c
          → cond (b || not (not c)) None (Some (asker_acts crowd xs a (length (requests_of a xs)))) ≡ None → is_waiting (asker_at s a) ≡ true
      of true e c k h = absurd (cc (sym stays ∙ ap not (sym e)))
      of false e true k h = sym (ap is_some (waiting_is askers xs s a st)) ∙ k
      of false e false k h = absurd (cc h)

  -- LAW. Where no asker does anything next and a drain has nothing to tell, no asker may ask.
  pub no_asker_asks : (crowd : Crowd) → ((a : ℕ) → a < askers → asker_next crowd xs a ≡ None) → unfetched xs ≡ [] → has_untold_end xs ≡ false
      → CanAsk askers (asks xs) (replies askers xs) → ⊥
  no_asker_asks crowd none fetched told can =
      let most : left_of s ≤ count_by is_waiting s.askers =
      count_less (λ (a : Asker). not a.ended) is_waiting s.askers no_asker
      (λ a lt stays. ended_or_waits crowd a (none a (omega (arith, lt, st.size))) stays) in
      omega (arith, can, bare_ones fetched, st.counted, most, was_told threads askers xs legal told, st.left)
