-- What an asker asked and what it was told, as a history goes on.
use Rattle.std.proofs.Common.{◌≡◌, ◌⊎◌, inl, inr, ℕ, ℤ, Bool, true, false, cond, List, [], ◌∷◌, ◌++◌, refl, sym, ap, subst, ◌∙◌, append-nil}
use Rattle.std.specs.Prelude.{◌||◌, ◌&&◌, ◌==◌, not, filter, find, Option, Some, None, is_some}
use Rattle.std.specs.List.{list_any, list_all, filter_map, cons_option}
use Rattle.std.proofs.lemmas.List.Folds.{list_any-append}
use Rattle.std.proofs.lemmas.List.Elements.{filter_map-append, filter-append}
use Rattle.ak_history.specs.declared.event.Event.{Event}
use Rattle.ak_history.specs.declared.event.Event.TheVariants as event
use Rattle.ak_history.specs.Events.{Asking, asked, asked_in, answers, answered_in, left_in, is_among, is_answered, is_close, is_of_asker, is_served, has_left}
use Rattle.ak_history.specs.Legal.{Legal, AreLegalAfter, is_late}
use Rattle.ak_pool.specs.Askers.{asker_at}
use Rattle.ak_pool.proofs.AskedRules.{waiting_is}
use Rattle.std.specs.List.{AllByRecursion as Each}
use Rattle.ak_history_laws.specs.Asked.{requests_of, told_to}
use Rattle.ak_history_laws.specs.Behind.{Behind, IsNotByAsker}
use Rattle.ak_history_laws.proofs.Answering.{served_by}
use Rattle.ak_history_laws.proofs.Legals.{left_by, legal_behind}
use Rattle.ak_history_laws.proofs.Parts.{or_no}
use Rattle.ak_history_laws.proofs.Requests.{answered_stays}
use Rattle.ak_history_laws.proofs.Told.{told_in_order}

-- ---- as a history goes on
pub requests_more : (a : ℕ) (xs ys : List Event) → requests_of a (xs ++ ys) ≡ requests_of a xs ++ requests_of a ys
requests_more a xs ys = ap (filter (is_of_asker a)) (filter_map-append asked_in xs ys) ∙ filter-append (is_of_asker a) (asked xs) (asked ys)

pub left_more : (a : ℕ) (xs ys : List Event) → has_left (xs ++ ys) a ≡ (has_left xs a || has_left ys a)
left_more a xs ys =
    ap (λ l. is_among l a) (filter_map-append left_in xs ys) ∙ list_any-append (λ n. n == a) (filter_map left_in xs) (filter_map left_in ys)

-- other askers ask nothing of it, and do not end it
others_ask : (a : ℕ) (ys : List Event) → Each (IsNotByAsker a) ys → (requests_of a ys ≡ []) × (has_left ys a ≡ false)
others_ask a [] h = (refl, refl)
others_ask a (event.Submit id work helper ∷ ys) h = others_ask a ys h.1
others_ask a (event.Start thread id ∷ ys) h = others_ask a ys h.1
others_ask a (event.Finish thread id outcome ∷ ys) h = others_ask a ys h.1
others_ask a (event.Request q asker n ∷ ys) h =
    let k = others_ask a ys h.1 in (
      ap (λ b. cond b (record { no = q; asker = asker; num = n } ∷ requests_of a ys) (requests_of a ys)) h.0 ∙ k.0,
      k.1,
    )
others_ask a (event.AskerEnd asker ∷ ys) h = let k = others_ask a ys h.1 in (k.0, ap (λ b. b || has_left ys a) h.0 ∙ k.1)
others_ask a (event.Drain ids requests ∷ ys) h = others_ask a ys h.1
others_ask a (event.Answered q v ∷ ys) h = others_ask a ys h.1
others_ask a (event.HelperNew no' answer ∷ ys) h = others_ask a ys h.1
others_ask a (event.HelperEnd no' ∷ ys) h = others_ask a ys h.1
others_ask a (event.Close ∷ ys) h = others_ask a ys h.1

-- LAW. What others do leaves an asker's requests and its end as they were.
pub own_stays : (a : ℕ) (seen whole : List Event) → Behind (IsNotByAsker a) seen whole
    → (requests_of a whole ≡ requests_of a seen) × (has_left whole a ≡ has_left seen a)
own_stays a seen whole b =
    let k = others_ask a b.rest b.others in (
      ap (requests_of a) b.whole_is
          ∙ (requests_more a seen b.rest ∙ (ap (λ l. requests_of a seen ++ l) k.0 ∙ append-nil (requests_of a seen))),
      ap (λ l. has_left l a) b.whole_is ∙ (left_more a seen b.rest ∙ (ap (λ c. has_left seen a || c) k.1 ∙ or_no (has_left seen a))),
    )

-- ---- answers
-- the answer to a request
abbrev pub answer_in : List Event → Asking → Option (ℕ × ℤ)
answer_in history r = find (λ (x : ℕ × ℤ). x.0 == r.no) (answers history)

find_on : {A : Type 0} (p : A → Bool) (xs ys : List A) → list_any p xs ≡ true → find p (xs ++ ys) ≡ find p xs
find_on p [] ys h = absurd (cc h)
find_on p (x ∷ xs) ys h = one (p x) h (find_on p xs ys)
  where
    one : (b : Bool) → (b || list_any p xs) ≡ true → (list_any p xs ≡ true → find p (xs ++ ys) ≡ find p xs)
        → cond b (Some x) (find p (xs ++ ys)) ≡ cond b (Some x) (find p xs)
    one true h later = refl
    one false h later = later h

pub and_parts : (a b : Bool) → (a && b) ≡ true → (a ≡ true) × (b ≡ true)
and_parts true b h = (refl, h)
and_parts false b h = absurd (cc h)

-- LAW. Answers stay: those to requests that have them are the same in each later history.
pub answers_on : (xs ys : List Event) (rs : List Asking) → list_all (λ (r : Asking). is_answered xs r.no) rs ≡ true
    → (list_all (λ (r : Asking). is_answered (xs ++ ys) r.no) rs ≡ true) × (filter_map (answer_in (xs ++ ys)) rs ≡ filter_map (answer_in xs) rs)
answers_on xs ys [] h = (refl, refl)
answers_on xs ys (r ∷ rs) h =
    let k = and_parts (is_answered xs r.no) (list_all (λ (s : Asking). is_answered xs s.no) rs) h in
    let later = answers_on xs ys rs k.1 in
    let found : answer_in (xs ++ ys) r ≡ answer_in xs r =
    ap (find (λ (x : ℕ × ℤ). x.0 == r.no)) (filter_map-append answered_in xs ys) ∙ find_on (λ (x : ℕ × ℤ). x.0 == r.no) (answers xs) (answers ys) k.0 in
    (λ i. answered_stays xs ys r.no k.0 i && later.0 i, λ i. cons_option (found i) (later.1 i))

-- ---- an asker that has ended
none_is : {A : Type 0} (o : Option A) → (is_some o ≡ true → ⊥) → o ≡ None
none_is None h = refl
none_is (Some x) h = absurd (h refl)

-- LAW. An asker that has ended has an answer to each of its requests.
pub ended_served : (threads askers a : ℕ) (xs : List Event) → Legal threads askers xs → has_left xs a ≡ true → is_served xs a ≡ true
ended_served threads askers a xs legal left =
    let k = left_by threads askers xs legal in
    let ended : (asker_at k.requests a).ended ≡ true = sym (k.asked.ended a) ∙ left in
    served_by xs a
    (waiting_is askers xs k.requests a k.asked
    ∙ none_is (asker_at k.requests a).waits_for (λ waits. absurd (cc (ended, k.asked.lasting a waits))))

-- ---- a pool that was closed
-- behind a close stand finishes alone, so no answer
late_answers : (threads askers : ℕ) (before ys : List Event) → list_any is_close before ≡ true → AreLegalAfter threads askers before ys → answers ys ≡ []
late_answers threads askers before [] closed h = refl
late_answers threads askers before (e ∷ ys) closed h =
    one e (ap (λ b. b && not (is_late e)) (sym closed) ∙ h.0.open_or_late)
    (late_answers threads askers (before ++ e ∷ []) ys (list_any-append is_close before (e ∷ []) ∙ ap (λ b. b || (is_close e || false)) closed) h.1)
  where
    one : (e : Event) → not (is_late e) ≡ false → answers ys ≡ [] → answers (e ∷ ys) ≡ []
    one (event.Submit id work helper) late none = none
    one (event.Start thread id) late none = none
    one (event.Finish thread id outcome) late none = none
    one (event.Request q asker n) late none = none
    one (event.AskerEnd asker) late none = none
    one (event.Drain ids requests) late none = none
    one (event.Answered q v) late none = absurd (cc late)
    one (event.HelperNew no' answer) late none = none
    one (event.HelperEnd no') late none = none
    one event.Close late none = none

-- LAW. What an asker was told stays, once it has ended or the pool was closed.
pub told_stays : (threads askers a : ℕ) (seen whole : List Event) → Legal threads askers seen → Legal threads askers whole → Behind (IsNotByAsker a) seen whole
    → (has_left seen a ≡ true) ⊎ (list_any is_close seen ≡ true) → told_to a seen ≡ told_to a whole
told_stays threads askers a seen whole legal all b over = sym (by over)
  where
    same : requests_of a whole ≡ requests_of a seen
    same = (own_stays a seen whole b).0

    by : (has_left seen a ≡ true) ⊎ (list_any is_close seen ≡ true) → told_to a whole ≡ told_to a seen
    by (inl left) =
        told_in_order threads askers a whole all
        ∙ ((λ i. filter_map (answer_in (b.whole_is i)) (same i))
        ∙ ((answers_on seen b.rest (requests_of a seen) (ended_served threads askers a seen legal left)).1
        ∙ sym (told_in_order threads askers a seen legal)))
    by (inr closed) =
        let none : answers b.rest ≡ [] = late_answers threads askers seen b.rest closed
        (legal_behind threads askers [] seen b.rest (subst (Legal threads askers) b.whole_is all)) in
        let says : answers whole ≡ answers seen =
        ap answers b.whole_is ∙ (filter_map-append answered_in seen b.rest ∙ (ap (λ l. answers seen ++ l) none ∙ append-nil (answers seen))) in
        λ i. filter (λ (x : ℕ × ℤ). list_any (λ (r : Asking). x.0 == r.no) (same i)) (says i)
