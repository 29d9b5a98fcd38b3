-- Requests of legal histories: what the events of others leave of them, which replies bring them, and which may be answered.
use Rattle.std.proofs.Common.{◌≡◌, ◌≢◌, ℕ, ℤ, zero, suc, ◌-◌, ◌<◌, ◌≤◌, ◌⊎◌, Bool, true, false, cond, List, [], ◌∷◌, ◌++◌, length, get_or, refl, sym, ap, subst, ◌∙◌, inl, inr, append-nil, arith, length-append}
use Rattle.std.specs.Prelude.{◌||◌, ◌&&◌, not, ◌==◌, pos, map, filter, find, fold, count_by, Option, Some, None, is_some, is_none, Contains}
use Rattle.std.specs.Option.{option_map}
use Rattle.std.specs.List.{list_any, list_all, filter_map, flat_map, range_with_len}
use Rattle.std.proofs.lemmas.Bool.{eq-eqb, eqb-true}
use Rattle.std.proofs.lemmas.Grind.{flat_map-append}
use Rattle.std.proofs.lemmas.List.{map-append, length-map}
use Rattle.std.proofs.lemmas.List.Folds.{list_any-append}
use Rattle.std.proofs.lemmas.List.FromFn.{length-range_with_len}
use Rattle.std.proofs.lemmas.List.Sums.{fold-append, length-filter}
use Rattle.std.proofs.lemmas.List.Elements.{filter_map-append, filter-append}
use Rattle.ak_base.specs.Lists.{is_empty_list}
use Rattle.ak_labor.specs.Calls.{Drained}
use Rattle.ak_labor.specs.Waits.{came, requests_in, left_by as left_by_reply, left_after, answered_by, is_unanswered, unanswered, Serves, HasCome, IsAnswerable}
use Rattle.ak_history.specs.declared.event.Event.{Event}
use Rattle.ak_history.specs.declared.event.Event.TheVariants as event
use Rattle.ak_history.specs.Events.{Asking, asked, asked_in, answers, fetched_in, left_in, is_among, is_answered, is_fetched, is_of_asker, owed, unfetched, numbers_below}
use Rattle.ak_history.specs.Legal.{Legal, IsLegalAfter, IsIdle}
use Rattle.ak_history.specs.Scheduler.{asks, request_in, replies_after, replies}
use Rattle.ak_pool.specs.declared.requests.Asker.{Asker}
use Rattle.ak_pool.specs.declared.requests.Made.{Made}
use Rattle.ak_pool.specs.Askers.{RequestsState, made_at, no_asker, no_request, unfetched_of, left_of, pair_of, is_bare, is_waiting}
use Rattle.ak_pool.specs.AskersStand.{RequestFacts, AskersStand, request_facts}
use Rattle.ak_pool.specs.Pools.{request_pairs, brought, owes, has_untold_end, answer_to}
use Rattle.std.specs.List.{AllByRecursion as Each}
use Rattle.ak_pool.proofs.Askers.{request_added, request_grown, unfetched_range, unfetched_numbers, made_numbers}
use Rattle.ak_pool.proofs.AskedRules.{answered_is, pairs_are, unfetched_is}
use Rattle.ak_pool.proofs.Items.{find_more, any_more}
use Rattle.ak_pool.proofs.Noting.{legal_next}
use Rattle.ak_pool.proofs.Ranges.{below_range, map_mapped}
use Rattle.ak_history_laws.specs.Behind.{IsNotByAsker, Behind}
use Rattle.ak_history_laws.proofs.Legals.{legal_keeps, left_by}
use Rattle.ak_history_laws.proofs.Owed.{some_pairs}
use Rattle.ak_history_laws.proofs.Parts.{bit, count_cons}
use Rattle.ak_history_laws.proofs.Replies.{replies_more, requests_fetched}

-- ---- what the events of others leave
others_left : (a : ℕ) (ys : List Event) → Each (IsNotByAsker a) ys → is_among (filter_map left_in ys) a ≡ false
others_left a [] h = refl
others_left a (event.Submit id work helper ∷ ys) h = others_left a ys h.1
others_left a (event.Start thread id ∷ ys) h = others_left a ys h.1
others_left a (event.Finish thread id outcome ∷ ys) h = others_left a ys h.1
others_left a (event.Request q asker n ∷ ys) h = others_left a ys h.1
others_left a (event.AskerEnd asker ∷ ys) h = ap (λ b. b || is_among (filter_map left_in ys) a) h.0 ∙ others_left a ys h.1
others_left a (event.Drain ids requests ∷ ys) h = others_left a ys h.1
others_left a (event.Answered q v ∷ ys) h = others_left a ys h.1
others_left a (event.HelperNew no' answer ∷ ys) h = others_left a ys h.1
others_left a (event.HelperEnd no' ∷ ys) h = others_left a ys h.1
others_left a (event.Close ∷ ys) h = others_left a ys h.1

others_asked : (a : ℕ) (ys : List Event) → Each (IsNotByAsker a) ys → filter (is_of_asker a) (asked ys) ≡ []
others_asked a [] h = refl
others_asked a (event.Submit id work helper ∷ ys) h = others_asked a ys h.1
others_asked a (event.Start thread id ∷ ys) h = others_asked a ys h.1
others_asked a (event.Finish thread id outcome ∷ ys) h = others_asked a ys h.1
others_asked a (event.Request q asker n ∷ ys) h =
    ap (λ b. cond b (record { no = q; asker = asker; num = n } ∷ filter (is_of_asker a) (asked ys)) (filter (is_of_asker a) (asked ys))) h.0
    ∙ others_asked a ys h.1
others_asked a (event.AskerEnd asker ∷ ys) h = others_asked a ys h.1
others_asked a (event.Drain ids requests ∷ ys) h = others_asked a ys h.1
others_asked a (event.Answered q v ∷ ys) h = others_asked a ys h.1
others_asked a (event.HelperNew no' answer ∷ ys) h = others_asked a ys h.1
others_asked a (event.HelperEnd no' ∷ ys) h = others_asked a ys h.1
others_asked a (event.Close ∷ ys) h = others_asked a ys h.1

pub answered_stays : (xs ys : List Event) (q : ℕ) → is_answered xs q ≡ true → is_answered (xs ++ ys) q ≡ true
answered_stays xs ys q h =
    ap (list_any (λ (x : ℕ × ℤ). x.0 == q)) (filter_map-append _ xs ys) ∙ any_more (λ (x : ℕ × ℤ). x.0 == q) (answers xs) (answers ys) h

all_still : (xs ys : List Event) (rs : List Asking) → list_all (λ (r : Asking). is_answered xs r.no) rs ≡ true
    → list_all (λ (r : Asking). is_answered (xs ++ ys) r.no) rs ≡ true
all_still xs ys [] h = refl
all_still xs ys (r ∷ rs) h = one (is_answered xs r.no) refl h (all_still xs ys rs)
  where
    one : (b : Bool) → is_answered xs r.no ≡ b → (b && list_all (λ (s : Asking). is_answered xs s.no) rs) ≡ true
        → (list_all (λ (s : Asking). is_answered xs s.no) rs ≡ true → list_all (λ (s : Asking). is_answered (xs ++ ys) s.no) rs ≡ true)
        → (is_answered (xs ++ ys) r.no && list_all (λ (s : Asking). is_answered (xs ++ ys) s.no) rs) ≡ true
    one true is h later = λ i. answered_stays xs ys r.no is i && later h i
    one false is h later = absurd (cc h)

-- LAW. An asker that may ask still may, whatever others do.
pub idle_stays : (askers a : ℕ) (seen whole : List Event) → Behind (IsNotByAsker a) seen whole → IsIdle askers seen a → IsIdle askers whole a
idle_stays askers a seen whole b h =
    subst (λ l. IsIdle askers l a) (sym b.whole_is)
    (record {
      exists = h.exists;
      not_ended =
          ap (λ l. is_among l a) (filter_map-append left_in seen b.rest)
          ∙ (list_any-append (λ n. n == a) (filter_map left_in seen) (filter_map left_in b.rest) ∙ (λ i. h.not_ended i || others_left a b.rest b.others i));
      served =
          ap (list_all (λ (r : Asking). is_answered (seen ++ b.rest) r.no))
          (ap (filter (is_of_asker a)) (filter_map-append asked_in seen b.rest)
          ∙ (filter-append (is_of_asker a) (asked seen) (asked b.rest)
          ∙ (ap (λ l. filter (is_of_asker a) (asked seen) ++ l) (others_asked a b.rest b.others) ∙ append-nil (filter (is_of_asker a) (asked seen)))))
          ∙ all_still seen b.rest (filter (is_of_asker a) (asked seen)) h.served;
    })

answer_of : (o : Option (ℕ × ℤ)) (v : ℤ) → option_map (λ (x : ℕ × ℤ). x.1) o ≡ Some v → (x : ℕ × ℤ) × (o ≡ Some x) × (x.1 ≡ v)
answer_of None v e = absurd (cc e)
answer_of (Some x) v e = (x, refl, cc)

-- LAW. An answer stays.
pub answer_stays : (xs ys : List Event) (q : ℕ) (v : ℤ) → answer_to xs q ≡ Some v → answer_to (xs ++ ys) q ≡ Some v
answer_stays xs ys q v e =
    let found = answer_of (find (λ (x : ℕ × ℤ). x.0 == q) (answers xs)) v e in
    ap (λ l. option_map (λ (x : ℕ × ℤ). x.1) (find (λ (x : ℕ × ℤ). x.0 == q) l)) (filter_map-append _ xs ys)
    ∙ (ap (option_map (λ (x : ℕ × ℤ). x.1)) (find_more (λ (x : ℕ × ℤ). x.0 == q) (answers xs) (answers ys) found.0 found.1) ∙ ap Some found.2)

-- ---- which requests replies have brought
pub same_numbers : (threads askers : ℕ) (xs : List Event) → Legal threads askers xs → map (λ (r : ℕ × ℤ). r.0) (request_pairs xs) ≡ unfetched xs
same_numbers threads askers xs h =
    let left = left_by threads askers xs h in
    ap (map (λ (r : ℕ × ℤ). r.0)) (sym (pairs_are askers xs left.requests left.asked))
    ∙ (map_mapped (λ (r : ℕ × ℤ). r.0) (λ (m : Made). (m.no, m.num)) (unfetched_of left.requests) ∙ unfetched_is askers xs left.requests left.asked)

-- the requests that replies have brought, by their numbers
abbrev brought_numbers : ℕ → List Event → List ℕ
brought_numbers askers xs = map (λ (r : ℕ × ℤ). r.0) (came (replies askers xs))

came_more : (askers : ℕ) (xs : List Event) (e : Event)
    → brought_numbers askers (xs ++ e ∷ []) ≡ brought_numbers askers xs ++ map (λ (r : ℕ × ℤ). r.0) (flat_map requests_in (replies_after askers xs (e ∷ [])))
came_more askers xs e =
    ap (λ l. map (λ (r : ℕ × ℤ). r.0) (came l)) (replies_more askers xs (e ∷ []))
    ∙ (ap (map (λ (r : ℕ × ℤ). r.0)) (flat_map-append requests_in (replies askers xs) (replies_after askers xs (e ∷ [])))
    ∙ map-append (λ (r : ℕ × ℤ). r.0) (came (replies askers xs)) (flat_map requests_in (replies_after askers xs (e ∷ []))))

none_came : (askers : ℕ) (xs : List Event) (e : Event)
    → map (λ (r : ℕ × ℤ). r.0) (flat_map requests_in (replies_after askers xs (e ∷ []))) ≡ flat_map fetched_in (e ∷ [])
    → brought_numbers askers xs ≡ flat_map fetched_in xs → brought_numbers askers (xs ++ e ∷ []) ≡ flat_map fetched_in (xs ++ e ∷ [])
none_came askers xs e same k = came_more askers xs e ∙ ((λ i. k i ++ same i) ∙ sym (flat_map-append fetched_in xs (e ∷ [])))

one_came : (threads askers : ℕ) (xs : List Event) (e : Event) → Legal threads askers xs → IsLegalAfter threads askers xs e
    → brought_numbers askers xs ≡ flat_map fetched_in xs
    → brought_numbers askers (xs ++ e ∷ []) ≡ flat_map fetched_in (xs ++ e ∷ [])
one_came threads askers xs (event.Submit id work helper) legal is k = none_came askers xs (event.Submit id work helper) refl k
one_came threads askers xs (event.Start thread id) legal is k = none_came askers xs (event.Start thread id) refl k
one_came threads askers xs (event.Finish thread id outcome) legal is k = none_came askers xs (event.Finish thread id outcome) refl k
one_came threads askers xs (event.Request q asker n) legal is k = none_came askers xs (event.Request q asker n) refl k
one_came threads askers xs (event.AskerEnd asker) legal is k = none_came askers xs (event.AskerEnd asker) refl k
one_came threads askers xs (event.Drain ids requests) legal is k =
    none_came askers xs (event.Drain ids requests)
    (ap (map (λ (r : ℕ × ℤ). r.0)) (append-nil (filter_map (request_in xs) requests)
    ∙ (ap (filter_map (request_in xs)) is.rule.1 ∙ requests_fetched threads askers xs legal))
    ∙ (same_numbers threads askers xs legal ∙ (sym is.rule.1 ∙ sym (append-nil requests))))
    k
one_came threads askers xs (event.Answered q v) legal is k = none_came askers xs (event.Answered q v) refl k
one_came threads askers xs (event.HelperNew h answer) legal is k = none_came askers xs (event.HelperNew h answer) refl k
one_came threads askers xs (event.HelperEnd h) legal is k = none_came askers xs (event.HelperEnd h) refl k
one_came threads askers xs event.Close legal is k = none_came askers xs event.Close refl k

-- LAW. The requests that replies have brought are those that were fetched, in order.
pub came_is : (threads askers : ℕ) (xs : List Event) → Legal threads askers xs → map (λ (r : ℕ × ℤ). r.0) (came (replies askers xs)) ≡ flat_map fetched_in xs
came_is threads askers xs h =
    (legal_keeps threads askers (λ ys. Legal threads askers ys × (brought_numbers askers ys ≡ flat_map fetched_in ys)) (tt, refl)
    (λ ys e k is. (legal_next threads askers ys e k.0 is, one_came threads askers ys e k.0 is k.1)) xs h).1

-- ---- which requests may be answered
pub answers_alike : (xs : List Event) → filter_map answered_by (asks xs) ≡ map (λ (x : ℕ × ℤ). x.0) (answers xs)
answers_alike [] = refl
answers_alike (event.Submit id work helper ∷ xs) = answers_alike xs
answers_alike (event.Start thread id ∷ xs) = answers_alike xs
answers_alike (event.Finish thread id outcome ∷ xs) = answers_alike xs
answers_alike (event.Request q asker n ∷ xs) = answers_alike xs
answers_alike (event.AskerEnd asker ∷ xs) = answers_alike xs
answers_alike (event.Drain ids requests ∷ xs) = answers_alike xs
answers_alike (event.Answered q v ∷ xs) = ap (λ l. q ∷ l) (answers_alike xs)
answers_alike (event.HelperNew h answer ∷ xs) = answers_alike xs
answers_alike (event.HelperEnd h ∷ xs) = answers_alike xs
answers_alike (event.Close ∷ xs) = answers_alike xs

any_first : (q : ℕ) (xs : List (ℕ × ℤ)) → list_any (λ n. n == q) (map (λ (x : ℕ × ℤ). x.0) xs) ≡ list_any (λ (x : ℕ × ℤ). x.0 == q) xs
any_first q [] = refl
any_first q (x ∷ xs) = ap (λ b. (x.0 == q) || b) (any_first q xs)

-- whether no call has answered the request
unanswered_is : (xs : List Event) (r : ℕ × ℤ) → is_unanswered (asks xs) r ≡ not (is_answered xs r.0)
unanswered_is xs r = ap (λ l. not (list_any (λ q. q == r.0) l)) (answers_alike xs) ∙ ap not (any_first r.0 (answers xs))

or_last : (a b : Bool) → b ≡ true → (a || b) ≡ true
or_last true b e = refl
or_last false b e = e

contains_any : (ns : List ℕ) (q : ℕ) → Contains ns q → is_among ns q ≡ true
contains_any [] q h = absurd (omega (arith, h.1))
contains_any (n ∷ ns) q (zero, less, e) = ap (λ b. b || is_among ns q) (eq-eqb n q e)
contains_any (n ∷ ns) q (suc k, less, e) = or_last (n == q) (is_among ns q) (contains_any ns q (k, omega (arith, less), e))

among_left : (p : ℕ × ℤ → Bool) (g : ℕ → Bool) (rs : List (ℕ × ℤ)) (q : ℕ) → ((r : ℕ × ℤ) → p r ≡ not (g r.0))
    → is_among (map (λ (r : ℕ × ℤ). r.0) (filter p rs)) q ≡ true
    → (is_among (map (λ (r : ℕ × ℤ). r.0) rs) q ≡ true) × (g q ≡ false)
among_left p g [] q same h = absurd (cc h)
among_left p g (r ∷ rs) q same h = one (g r.0) refl (r.0 == q) refl h (λ k. among_left p g rs q same k)
  where
    rest : Bool
    rest = is_among (map (λ (x : ℕ × ℤ). x.0) rs) q

    kept : Bool → Bool
    kept d = is_among (map (λ (x : ℕ × ℤ). x.0) (cond d (r ∷ filter p rs) (filter p rs))) q

    one : (b : Bool) → g r.0 ≡ b → (c : Bool) → (r.0 == q) ≡ c → is_among (map (λ (x : ℕ × ℤ). x.0) (cond (p r) (r ∷ filter p rs) (filter p rs))) q ≡ true
        → (is_among (map (λ (x : ℕ × ℤ). x.0) (filter p rs)) q ≡ true → (is_among (map (λ (x : ℕ × ℤ). x.0) rs) q ≡ true) × (g q ≡ false))
        → (((r.0 == q) || is_among (map (λ (x : ℕ × ℤ). x.0) rs) q) ≡ true) × (g q ≡ false)
    one true is c here h later =
        let k = later (sym (ap kept (same r ∙ ap not is)) ∙ h) in (or_last (r.0 == q) rest k.0, k.1)
    one false is true here h later = (ap (λ d. d || rest) here, ap g (sym (eqb-true r.0 q here)) ∙ is)
    one false is false here h later =
        let all : ((r.0 == q) || is_among (map (λ (x : ℕ × ℤ). x.0) (filter p rs)) q) ≡ true = sym (ap kept (same r ∙ ap not is)) ∙ h in
        let k = later (sym (ap (λ d. d || is_among (map (λ (x : ℕ × ℤ). x.0) (filter p rs)) q) here) ∙ all) in
        (or_last (r.0 == q) rest k.0, k.1)

-- LAW. What a port may answer was fetched and is not answered.
pub answerable : (threads askers : ℕ) (xs : List Event) (q : ℕ) → Legal threads askers xs → IsAnswerable (asks xs) (replies askers xs) q
    → (is_fetched xs q ≡ true) × (is_answered xs q ≡ false)
answerable threads askers xs q legal h =
    let k = among_left (is_unanswered (asks xs)) (is_answered xs) (came (replies askers xs)) q (unanswered_is xs)
    (contains_any (map (λ (r : ℕ × ℤ). r.0) (unanswered (asks xs) (replies askers xs))) q h) in
    (sym (ap (λ l. is_among l q) (came_is threads askers xs legal)) ∙ k.0, k.1)

-- ---- how many askers are left
-- what the last drain said of askers is no less than what is true now, and more where an end is untold
record IsTold (askers : ℕ) (f : RequestFacts) (told : ℕ) : Type 0 where
  pub low : askers - length f.left ≤ told
  pub untold : f.untold ≡ true → askers - length f.left < told

said_more : (askers : ℕ) (xs : List Event) (e : Event)
    → left_after askers (replies askers (xs ++ e ∷ [])) ≡ fold left_by_reply (left_after askers (replies askers xs)) (replies_after askers xs (e ∷ []))
said_more askers xs e = ap (fold left_by_reply askers) (replies_more askers xs (e ∷ []))
    ∙ fold-append left_by_reply askers (replies askers xs) (replies_after askers xs (e ∷ []))

one_told : (threads askers : ℕ) (xs : List Event) (e : Event) (told : ℕ) → Legal threads askers xs → IsLegalAfter threads askers xs e
    → IsTold askers (request_facts xs) told
    → IsTold askers (request_added e (request_facts xs)) (fold left_by_reply told (replies_after askers xs (e ∷ [])))
one_told threads askers xs (event.Submit id work helper) told legal is k = k
one_told threads askers xs (event.Start thread id) told legal is k = k
one_told threads askers xs (event.Finish thread id outcome) told legal is k = k
one_told threads askers xs (event.Request q asker n) told legal is k = record { low = k.low; untold = k.untold }
one_told threads askers xs (event.AskerEnd asker) told legal is k =
    let after = (left_by threads askers (xs ++ event.AskerEnd asker ∷ []) (legal_next threads askers xs (event.AskerEnd asker) legal is)).asked.left in
    let grown = ap (λ (f : RequestFacts). length f.left) (request_grown xs (event.AskerEnd asker)) in
    let more = length-append (request_facts xs).left (asker ∷ []) in
    record { low = omega (arith, more, k.low); untold = λ e. omega (arith, more, k.low, after, grown) }
one_told threads askers xs (event.Drain ids requests) told legal is k = record { low = omega arith; untold = λ e. absurd (cc e) }
one_told threads askers xs (event.Answered q v) told legal is k = record { low = k.low; untold = k.untold }
one_told threads askers xs (event.HelperNew h answer) told legal is k = k
one_told threads askers xs (event.HelperEnd h) told legal is k = k
one_told threads askers xs event.Close told legal is k = k

is_told : (threads askers : ℕ) (xs : List Event) → Legal threads askers xs → IsTold askers (request_facts xs) (left_after askers (replies askers xs))
is_told threads askers xs h =
    (legal_keeps threads askers (λ ys. Legal threads askers ys × IsTold askers (request_facts ys) (left_after askers (replies askers ys)))
    (tt, record { low = omega arith; untold = λ e. absurd (cc e) })
    (λ ys e k is. (
      legal_next threads askers ys e k.0 is,
      subst (λ f. IsTold askers f (left_after askers (replies askers (ys ++ e ∷ [])))) (sym (request_grown ys e))
          (subst (IsTold askers (request_added e (request_facts ys))) (sym (said_more askers ys e))
          (one_told threads askers ys e (left_after askers (replies askers ys)) k.0 is k.1)),
    )) xs h).1

-- ---- what comes to a drain
one_of_three : (a b c : Bool) → (a || b || c) ≡ true → (a ≡ true) ⊎ ((b ≡ true) ⊎ (c ≡ true))
one_of_three true b c e = inl refl
one_of_three false true c e = inr (inl refl)
one_of_three false false c e = inr (inr e)

some_if : {A : Type 0} (xs : List A) → not (is_empty_list xs) ≡ true → xs ≢ []
some_if [] e = absurd (cc e)
some_if (x ∷ xs) e = λ k. absurd (cc k)

-- LAW. Where the pool has something to tell, something comes to a drain.
pub comes : (threads askers : ℕ) (xs : List Event) → Legal threads askers xs → owes xs ≡ true → HasCome askers (replies askers xs) (brought askers xs)
comes threads askers xs legal e =
    of (one_of_three (not (is_empty_list (owed xs))) (not (is_empty_list (unfetched xs))) (has_untold_end xs) e)
  where
    of : (not (is_empty_list (owed xs)) ≡ true) ⊎ ((not (is_empty_list (unfetched xs)) ≡ true) ⊎ (has_untold_end xs ≡ true))
        → HasCome askers (replies askers xs) (brought askers xs)
    of (inl works) = inl (some_pairs xs (some_if (owed xs) works))
    of (inr (inl requests)) =
        inr (inl (λ none. some_if (unfetched xs) requests (sym (same_numbers threads askers xs legal) ∙ ap (map (λ (r : ℕ × ℤ). r.0)) none)))
    of (inr (inr untold)) = inr (inr ((is_told threads askers xs legal).untold untold))

-- ---- what a drain brings from outside
length_below : (n : ℕ) → length (numbers_below n) ≡ n
length_below n = ap length (below_range n) ∙ length-range_with_len 0 n

count_mapped : {A B : Type 0} (p : B → Bool) (g : A → B) (xs : List A) → count_by p (map g xs) ≡ count_by (λ x. p (g x)) xs
count_mapped p g [] = refl
count_mapped p g (x ∷ xs) =
    omega (arith, count_cons p (g x) (map g xs), count_cons (λ y. p (g y)) x xs, count_mapped p g xs)

count_same : {A : Type 0} (p q : A → Bool) (xs : List A) (d : A) → ((i : ℕ) → i < length xs → p (get_or xs i d) ≡ q (get_or xs i d))
    → count_by p xs ≡ count_by q xs
count_same p q [] d h = refl
count_same p q (x ∷ xs) d h =
    omega (arith, count_cons p x xs, count_cons q x xs, ap bit (h 0 (omega arith)), count_same p q xs d (λ i lt. h (suc i) (omega arith)))

bit_less : (a b : Bool) → (a ≡ true → b ≡ true) → bit a ≤ bit b
bit_less true b h = omega (arith, ap bit (h refl))
bit_less false true h = omega arith
bit_less false false h = omega arith

count_less : {A : Type 0} (p q : A → Bool) (xs : List A) (d : A) → ((i : ℕ) → i < length xs → p (get_or xs i d) ≡ true → q (get_or xs i d) ≡ true)
    → count_by p xs ≤ count_by q xs
count_less p q [] d h = omega arith
count_less p q (x ∷ xs) d h =
    omega (arith, count_cons p x xs, count_cons q x xs, bit_less (p x) (q x) (h 0 (omega arith)), count_less p q xs d (λ i lt. h (suc i) (omega arith)))

-- the requests without an answer are no more than the askers that are left
few_bare : (askers : ℕ) (f : RequestFacts) (s : RequestsState) → AskersStand askers f s → count_by is_bare s.made ≤ left_of s
few_bare askers f s st =
    omega (arith, st.counted, count_less is_waiting (λ (a : Asker). not a.ended) s.askers no_asker (λ i lt w. ap not (st.lasting i w)))

-- LAW. A drain brings the requests that come next, askers only end, and each asker that is left has at most one request
-- without an answer.
pub serves : (threads askers : ℕ) (xs : List Event) → Legal threads askers xs → Serves askers (asks xs) (replies askers xs) (brought askers xs)
serves threads askers xs legal =
    let left = left_by threads askers xs legal in
    let s = left.requests in
    let st = left.asked in
    let first = λ (r : ℕ × ℤ). r.0 in
    let pairs : length (request_pairs xs) ≡ length (unfetched_of s) = sym (ap length (pairs_are askers xs s st)) ∙ length-map (unfetched_of s) pair_of in
    let so_far : length (came (replies askers xs)) ≡ s.fetched =
    sym (length-map (came (replies askers xs)) first) ∙ (ap length (came_is threads askers xs legal) ∙ (ap length st.fetched ∙ length_below s.fetched)) in
    let numbers : map first (request_pairs xs) ≡ range_with_len s.fetched (length (unfetched_of s)) =
    same_numbers threads askers xs legal ∙ (sym (unfetched_is askers xs s st) ∙ unfetched_range s st.numbered st.few) in
    let all : map first (came (replies askers xs) ++ request_pairs xs) ≡ map (λ (m : Made). m.no) s.made =
    map-append first (came (replies askers xs)) (request_pairs xs)
    ∙ ((λ i. (came_is threads askers xs legal ∙ st.fetched) i ++ (same_numbers threads askers xs legal ∙ sym (unfetched_is askers xs s st)) i)
    ∙ (unfetched_numbers s st.numbered st.few ∙ sym (made_numbers s st.numbered))) in
    let bare = λ (q : ℕ). not (is_answered xs q) in
    let open_ones : length (unanswered (asks xs) (replies askers xs ++ Drained (brought askers xs) ∷ [])) ≡ count_by is_bare s.made =
    ap (λ l. length (filter (is_unanswered (asks xs)) l)) (flat_map-append requests_in (replies askers xs) (Drained (brought askers xs) ∷ [])
    ∙ ap (λ l. came (replies askers xs) ++ l) (append-nil (request_pairs xs)))
    ∙ (length-filter (is_unanswered (asks xs)) (came (replies askers xs) ++ request_pairs xs)
    ∙ (count_same (is_unanswered (asks xs)) (λ r. bare r.0) (came (replies askers xs) ++ request_pairs xs) (0, pos 0)
    (λ i lt. unanswered_is xs (get_or (came (replies askers xs) ++ request_pairs xs) i (0, pos 0)))
    ∙ (sym (count_mapped bare first (came (replies askers xs) ++ request_pairs xs))
    ∙ (ap (count_by bare) all
    ∙ (count_mapped bare (λ (m : Made). m.no) s.made
    ∙ count_same (λ (m : Made). bare m.no) is_bare s.made no_request
    (λ i lt. ap bare (st.numbered i lt) ∙ (ap not (answered_is askers xs s i st) ∙ not_some (made_at s i).answer))))))) in
    record {
      numbered = numbers ∙ (λ i. range_with_len (sym so_far i) (sym pairs i));
      fewer = (is_told threads askers xs legal).low;
      one_each = omega (arith, open_ones, few_bare askers (request_facts xs) s st, st.left);
    }
  where
    not_some : (o : Option ℤ) → not (is_some o) ≡ is_none o
    not_some None = refl
    not_some (Some v) = refl
