-- The rules of requests, and what is asked of a pool about them, by what is kept of them.
use Rattle.std.proofs.Common.{ℕ, ℤ, ◌-◌, ◌<◌, ◌≡◌, List, [], ◌∷◌, Bool, true, false, cond, ltb, length, get_or, drop, refl, ap, sym, ◌∙◌, arith}
use Rattle.std.specs.Prelude.{◌&&◌, ◌||◌, ◌==◌, not, map, filter, find, Option, Some, None, is_some}
use Rattle.std.specs.Option.{option_map}
use Rattle.std.specs.List.{list_any, list_all}
use Rattle.std.proofs.lemmas.Bool.{eq-eqb, ne_eqb, eqb-true, lt-ltb, ltb-true}
use Rattle.std.proofs.lemmas.List.{length-map, get_or-map}
use Rattle.ak_base.specs.Lists.{is_empty_list}
use Rattle.ak_history.specs.declared.event.Event.{Event}
use Rattle.ak_history.specs.declared.event.Event.TheVariants as event
use Rattle.ak_history.specs.Events.{Asking, asked, answers, is_answered, is_fetched, is_among, is_served, is_of_asker, unfetched, askers_left}
use Rattle.ak_history.specs.Legal.{IsLegalAfter, IsIdle}
use Rattle.ak_pool.specs.declared.requests.Made.{Made}
use Rattle.ak_pool.specs.Askers.{RequestsState, no_request, asker_at, made_at, unfetched_of, left_of, asking_of, pair_of, IsFree, IsUnanswered}
use Rattle.ak_pool.specs.AskersStand.{request_facts, AskersStand}
use Rattle.ak_pool.specs.Judged.{FitsRequests}
use Rattle.ak_pool.specs.Pools.{waiting_for, request_pairs}
use Rattle.ak_pool.proofs.Items.{any_from_find, none_any, none_found, some_same}
use Rattle.ak_pool.proofs.Ranges.{each_at, find_at, among_below, from_number, filter_mapped, map_mapped}

-- ---- answers
some_mapped : {A B : Type 0} (g : A → B) (o : Option A) → is_some (option_map g o) ≡ is_some o
some_mapped g None = refl
some_mapped g (Some x) = refl

-- whether a request is answered
pub answered_is : (askers : ℕ) (history : List Event) (s : RequestsState) (q : ℕ) → AskersStand askers (request_facts history) s
    → is_answered history q ≡ is_some (made_at s q).answer
answered_is askers history s q st =
    sym (any_from_find (λ (x : ℕ × ℤ). x.0 == q) (answers history))
    ∙ (sym (some_mapped (λ (x : ℕ × ℤ). x.1) (find (λ (x : ℕ × ℤ). x.0 == q) (answers history))) ∙ ap is_some (st.answers q))

-- ---- for which request an asker waits
abbrev waits : List Event → ℕ → Asking → Bool
waits history a r = r.asker == a && not (is_answered history r.no)

is_none : {A : Type 0} (o : Option A) → is_some o ≡ false → o ≡ None
is_none None e = refl
is_none (Some x) e = absurd (cc e)

both_true : (a b : Bool) → (a && not b) ≡ true → (a ≡ true) × (b ≡ false)
both_true true false e = (refl, refl)
both_true true true e = absurd (cc e)
both_true false b e = absurd (cc e)

-- a request that stands for an asker's wait is the one for which it waits
waits_for : (askers : ℕ) (history : List Event) (s : RequestsState) (a q : ℕ) → AskersStand askers (request_facts history) s → q < length s.made
    → waits history a (asking_of (made_at s q)) ≡ true
    → (asker_at s a).waits_for ≡ Some q
waits_for askers history s a q st lt e =
    let k = both_true ((made_at s q).asker == a) (is_answered history (made_at s q).no) e in
    let own : (made_at s q).asker ≡ a = eqb-true (made_at s q).asker a k.0 in
    let bare : (made_at s q).answer ≡ None =
    is_none (made_at s q).answer (sym (answered_is askers history s q st) ∙ (ap (is_answered history) (sym (st.numbered q lt)) ∙ k.1)) in
    ap (λ b. (asker_at s b).waits_for) (sym own) ∙ (st.tied.waited_for q lt bare).waits

not_true : (b : Bool) → (b ≡ true → ⊥) → b ≡ false
not_true true h = absurd (h refl)
not_true false h = refl

abbrev asking_at : RequestsState → ℕ → Asking
asking_at s q = get_or (map asking_of s.made) q (asking_of no_request)

asking_is : (s : RequestsState) (q : ℕ) → q < length s.made → asking_at s q ≡ asking_of (made_at s q)
asking_is s q lt = get_or-map asking_of s.made q no_request (asking_of no_request) lt

-- a request for which its asker waits stands for it
waits_at : (askers : ℕ) (history : List Event) (s : RequestsState) (a q : ℕ) → AskersStand askers (request_facts history) s → (asker_at s a).waits_for ≡ Some q
    → (q < length s.made) × (waits history a (asking_of (made_at s q)) ≡ true)
waits_at askers history s a q st e =
    let w = st.tied.waiting a q e in
    let own : ((made_at s q).asker == a) ≡ true = eq-eqb (made_at s q).asker a w.own in
    let bare : is_answered history (made_at s q).no ≡ false =
    ap (is_answered history) (st.numbered q w.made) ∙ (answered_is askers history s q st ∙ ap is_some w.unanswered) in
    (w.made, (λ i. own i && not (bare i)))

pub waiting_is : (askers : ℕ) (history : List Event) (s : RequestsState) (a : ℕ) → AskersStand askers (request_facts history) s
    → waiting_for history a ≡ (asker_at s a).waits_for
waiting_is askers history s a st = of (asker_at s a).waits_for refl
  where
    many : length (map asking_of s.made) ≡ length s.made
    many = length-map s.made asking_of

    of : (o : Option ℕ) → (asker_at s a).waits_for ≡ o → waiting_for history a ≡ (asker_at s a).waits_for
    of None e =
        let none : find (waits history a) (map asking_of s.made) ≡ None =
        none_found (waits history a) (map asking_of s.made)
        (none_any (waits history a) (map asking_of s.made)
        (each_at (λ r. waits history a r ≡ false) (map asking_of s.made) (asking_of no_request)
        (λ q lt. ap (waits history a) (asking_is s q (omega (arith, lt, many)))
        ∙ not_true (waits history a (asking_of (made_at s q))) (λ h. let is =
        waits_for askers history s a q st (omega (arith, lt, many)) h in absurd (cc (e, is)))))) in
        ap (λ l. option_map (λ (r : Asking). r.no) (find (waits history a) l)) st.asked ∙ (ap (option_map (λ (r : Asking). r.no)) none ∙ sym e)
    of (Some q) e =
        let here = waits_at askers history s a q st e in
        let found : find (waits history a) (map asking_of s.made) ≡ Some (asking_at s q) =
        find_at (waits history a) (map asking_of s.made) (asking_of no_request) q (omega (arith, here.0, many))
        (ap (waits history a) (asking_is s q here.0) ∙ here.1)
        (λ j less. ap (waits history a) (asking_is s j (omega (arith, less, here.0)))
        ∙ not_true (waits history a (asking_of (made_at s j)))
        (λ h. let is = waits_for askers history s a j st (omega (arith, less, here.0)) h in
        let same : j ≡ q = some_same j q (sym is ∙ e) in
        absurd (omega (arith, same, less)))) in
        ap (λ l. option_map (λ (r : Asking). r.no) (find (waits history a) l)) st.asked
        ∙ (ap (option_map (λ (r : Asking). r.no)) found
        ∙ (ap (λ (r : Asking). Some r.no) (asking_is s q here.0) ∙ (ap Some (st.numbered q here.0) ∙ sym e)))

-- ---- whether an asker may ask
all_none : {A : Type 0} (p q : A → Bool) (xs : List A) → list_all q (filter p xs) ≡ not (list_any (λ x. p x && not (q x)) xs)
all_none p q [] = refl
all_none {A} p q (x ∷ xs) = of (p x) (q x) refl (all_none p q xs)
  where
    of : (a b : Bool) → q x ≡ b → list_all q (filter p xs) ≡ not (list_any (λ y. p y && not (q y)) xs)
        → list_all q (cond a (x ∷ filter p xs) (filter p xs)) ≡ not ((a && not b) || list_any (λ y. p y && not (q y)) xs)
    of true true is e = (λ i. is i && e i)
    of true false is e = ap (λ b. b && list_all q (filter p xs)) is
    of false b is e = e

served_is : (history : List Event) (a : ℕ) → is_served history a ≡ not (is_some (waiting_for history a))
served_is history a =
    all_none (is_of_asker a) (λ (r : Asking). is_answered history r.no) (asked history)
    ∙ ap not (sym (any_from_find (waits history a) (asked history)) ∙ sym (some_mapped (λ (r : Asking). r.no) (find (waits history a) (asked history))))

none_is : {A : Type 0} (o : Option A) → not (is_some o) ≡ true → o ≡ None
none_is None e = refl
none_is (Some x) e = absurd (cc e)

pub idle_free : (askers : ℕ) (history : List Event) (s : RequestsState) (a : ℕ) → AskersStand askers (request_facts history) s
    → IsIdle askers history a → IsFree s a
idle_free askers history s a st h = (
  omega (arith, h.exists, st.size),
  sym (st.ended a) ∙ h.not_ended,
  sym (waiting_is askers history s a st) ∙ none_is (waiting_for history a) (sym (served_is history a) ∙ h.served),
)

pub free_idle : (askers : ℕ) (history : List Event) (s : RequestsState) (a : ℕ) → AskersStand askers (request_facts history) s → IsFree s a
    → IsIdle askers history a
free_idle askers history s a st h = record {
  exists = omega (arith, h.0, st.size);
  not_ended = st.ended a ∙ h.1;
  served = served_is history a ∙ ap (λ o. not (is_some o)) (waiting_is askers history s a st ∙ h.2);
}

-- ---- what was not fetched
pub fetched_is : (askers : ℕ) (history : List Event) (s : RequestsState) (q : ℕ) → AskersStand askers (request_facts history) s
    → is_fetched history q ≡ ltb q s.fetched
fetched_is askers history s q st = ap (λ l. is_among l q) st.fetched ∙ among_below s.fetched q

made_behind : (askers : ℕ) (history : List Event) (s : RequestsState) → AskersStand askers (request_facts history) s
    → filter (λ (m : Made). not (is_fetched history m.no)) s.made ≡ unfetched_of s
made_behind askers history s st =
    let e : s.fetched - 0 ≡ s.fetched = omega arith in
    ap (λ l. filter (λ (m : Made). not (is_among l m.no)) s.made) st.fetched
    ∙ (from_number (λ (m : Made). m.no) s.made no_request 0 s.fetched (λ q lt. omega (arith, st.numbered q lt)) ∙ ap (λ k. drop k s.made) e)

pub unfetched_is : (askers : ℕ) (history : List Event) (s : RequestsState) → AskersStand askers (request_facts history) s
    → map (λ (m : Made). m.no) (unfetched_of s) ≡ unfetched history
unfetched_is askers history s st =
    let p = λ (q : ℕ). not (is_fetched history q) in
    sym
    (ap (λ l. filter p (map (λ (r : Asking). r.no) l)) st.asked
    ∙ (ap (filter p) (map_mapped (λ (r : Asking). r.no) asking_of s.made)
    ∙ (filter_mapped p (λ (m : Made). m.no) s.made ∙ ap (map (λ (m : Made). m.no)) (made_behind askers history s st))))

pub pairs_are : (askers : ℕ) (history : List Event) (s : RequestsState) → AskersStand askers (request_facts history) s
    → map pair_of (unfetched_of s) ≡ request_pairs history
pairs_are askers history s st =
    let p = λ (r : Asking). not (is_fetched history r.no) in
    sym
    (ap (λ l. map (λ (r : Asking). (r.no, r.num)) (filter p l)) st.asked
    ∙ (ap (map (λ (r : Asking). (r.no, r.num))) (filter_mapped p asking_of s.made)
    ∙ (map_mapped (λ (r : Asking). (r.no, r.num)) asking_of (filter (λ (m : Made). not (is_fetched history m.no)) s.made)
    ∙ ap (map pair_of) (made_behind askers history s st))))

pub left_is : (askers : ℕ) (history : List Event) (s : RequestsState) → AskersStand askers (request_facts history) s → left_of s ≡ askers_left askers history
left_is askers history s st = omega (arith, st.left)

-- ---- the rules
pub unanswered_from : (askers : ℕ) (history : List Event) (s : RequestsState) (q : ℕ) → AskersStand askers (request_facts history) s
    → is_fetched history q ≡ true → is_answered history q ≡ false → IsUnanswered s q
unanswered_from askers history s q st fetched bare = (
  ltb-true q s.fetched (sym (fetched_is askers history s q st) ∙ fetched),
  is_none (made_at s q).answer (sym (answered_is askers history s q st) ∙ bare),
)

-- a legal event fits
pub legal_requests : (size askers : ℕ) (history : List Event) (s : RequestsState) (e : Event) → AskersStand askers (request_facts history) s
    → IsLegalAfter size askers history e → FitsRequests s e
legal_requests size askers history s (event.Submit id work helper) st h = tt
legal_requests size askers history s (event.Start thread id) st h = tt
legal_requests size askers history s (event.Finish thread id outcome) st h = tt
legal_requests size askers history s (event.Request q a n) st h =
    (h.rule.0 ∙ (ap length st.asked ∙ length-map s.made asking_of), idle_free askers history s a st h.rule.1)
legal_requests size askers history s (event.AskerEnd a) st h = idle_free askers history s a st h.rule
legal_requests size askers history s (event.Drain ids requests) st h = h.rule.1 ∙ sym (unfetched_is askers history s st)
legal_requests size askers history s (event.Answered q v) st h = unanswered_from askers history s q st h.rule.0 h.rule.1
legal_requests size askers history s (event.HelperNew asked answer) st h = tt
legal_requests size askers history s (event.HelperEnd helper) st h = tt
legal_requests size askers history s event.Close st h = tt

-- the number of the next request
pub next_number : (askers : ℕ) (history : List Event) (s : RequestsState) → AskersStand askers (request_facts history) s
    → length s.made ≡ length (asked history)
next_number askers history s st = sym (ap length st.asked ∙ length-map s.made asking_of)

pub answer_rule : (askers : ℕ) (history : List Event) (s : RequestsState) (q : ℕ) → AskersStand askers (request_facts history) s → IsUnanswered s q
    → (is_fetched history q ≡ true) × (is_answered history q ≡ false)
answer_rule askers history s q st h = (
  fetched_is askers history s q st ∙ lt-ltb q s.fetched h.0,
  answered_is askers history s q st ∙ ap is_some h.1,
)

-- ---- whether a drain has something to tell
empty_drop : {A B : Type 0} (g : A → B) (xs : List A) → (length xs == 0) ≡ is_empty_list (map g xs)
empty_drop g [] = refl
empty_drop g (x ∷ xs) = ne_eqb (length (x ∷ xs)) 0 (λ e. absurd (omega (arith, e)))

pub none_unfetched : (askers : ℕ) (history : List Event) (s : RequestsState) → AskersStand askers (request_facts history) s
    → (length (unfetched_of s) == 0) ≡ is_empty_list (unfetched history)
none_unfetched askers history s st =
    empty_drop (λ (m : Made). m.no) (unfetched_of s) ∙ ap is_empty_list (unfetched_is askers history s st)
