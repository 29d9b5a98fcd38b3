-- What an asker is told: its requests are answered one after the other.
use Rattle.std.proofs.Common.{◌≡◌, ℕ, ℤ, Bool, true, false, cond, List, [], ◌∷◌, ◌++◌, length, refl, sym, ap, subst, ◌∙◌, append-nil}
use Rattle.std.specs.Prelude.{◌||◌, ◌&&◌, ◌==◌, filter, find, slice_index_or, Option, Some, None, is_some}
use Rattle.std.specs.List.{list_any, list_all, filter_map, cons_option}
use Rattle.std.proofs.lemmas.Bool.{eqb-true}
use Rattle.std.proofs.lemmas.List.{length-map}
use Rattle.std.proofs.lemmas.List.Folds.{list_any-append}
use Rattle.std.proofs.lemmas.List.Elements.{filter_map-append, filter-append}
use Rattle.ak_history.specs.declared.event.Event.{Event}
use Rattle.ak_history.specs.declared.event.Event.TheVariants as event
use Rattle.ak_history.specs.Events.{Asking, asked, asked_in, answers, answered_in, is_answered, is_of_asker, is_served}
use Rattle.ak_history.specs.Legal.{Legal, IsLegalAfter}
use Rattle.ak_history_laws.specs.Asked.{requests_of, answers_one, told_to}
use Rattle.ak_pool.specs.declared.requests.Made.{Made}
use Rattle.ak_pool.specs.Askers.{asking_of, no_request}
use Rattle.ak_pool.proofs.AskedRules.{answered_is}
use Rattle.ak_pool.proofs.Noting.{legal_next}
use Rattle.ak_history_laws.proofs.Legals.{legal_keeps, left_by}
use Rattle.ak_history_laws.proofs.Parts.{or_true, or_no}

-- whether there is an answer to a request, and that answer
abbrev has_answer : List (ℕ × ℤ) → Asking → Bool
has_answer vs r = list_any (λ (x : ℕ × ℤ). x.0 == r.no) vs

abbrev pub answer_among : List (ℕ × ℤ) → Asking → Option (ℕ × ℤ)
answer_among vs r = find (λ (x : ℕ × ℤ). x.0 == r.no) vs

-- all of these requests have answers, or all but the last
data InTurn (rs : List Asking) (vs : List (ℕ × ℤ)) : Type 0 where
  served : list_all (has_answer vs) rs ≡ true → InTurn rs vs
  waits : (front : List Asking) → (r : Asking) → rs ≡ front ++ r ∷ [] → list_all (has_answer vs) front ≡ true → has_answer vs r ≡ false → InTurn rs vs

-- the answers to the requests, in the order of the answers and in the order of the requests
record AreTold (rs : List Asking) (vs : List (ℕ × ℤ)) : Type 0 where
  pub same : filter (answers_one rs) vs ≡ filter_map (answer_among vs) rs
  pub turn : InTurn rs vs

find_none : {A : Type 0} (p : A → Bool) (xs : List A) → list_any p xs ≡ false → find p xs ≡ None
find_none p [] h = refl
find_none p (x ∷ xs) h = one (p x) refl h (find_none p xs)
  where
    one : (b : Bool) → p x ≡ b → (b || list_any p xs) ≡ false → (list_any p xs ≡ false → find p xs ≡ None) → cond (p x) (Some x) (find p xs) ≡ None
    one true is h later = absurd (cc h)
    one false is h later = ap (λ c. cond c (Some x) (find p xs)) is ∙ later h

-- one item more
find_on : {A : Type 0} (p : A → Bool) (xs : List A) (y : A) → list_any p xs ≡ true → find p (xs ++ y ∷ []) ≡ find p xs
find_on p [] y h = absurd (cc h)
find_on p (x ∷ xs) y h = one (p x) h (find_on p xs y)
  where
    one : (b : Bool) → (b || list_any p xs) ≡ true → (list_any p xs ≡ true → find p (xs ++ y ∷ []) ≡ find p xs)
        → cond b (Some x) (find p (xs ++ y ∷ [])) ≡ cond b (Some x) (find p xs)
    one true h later = refl
    one false h later = later h

find_other : {A : Type 0} (p : A → Bool) (xs : List A) (y : A) → p y ≡ false → find p (xs ++ y ∷ []) ≡ find p xs
find_other p [] y h = ap (λ c. cond c (Some y) None) h
find_other p (x ∷ xs) y h = ap (λ o. cond (p x) (Some x) o) (find_other p xs y h)

find_new : {A : Type 0} (p : A → Bool) (xs : List A) (y : A) → list_any p xs ≡ false → p y ≡ true → find p (xs ++ y ∷ []) ≡ Some y
find_new p [] y none is = ap (λ c. cond c (Some y) None) is
find_new p (x ∷ xs) y none is = one (p x) refl none (λ h. find_new p xs y h is)
  where
    one : (b : Bool) → p x ≡ b → (b || list_any p xs) ≡ false → (list_any p xs ≡ false → find p (xs ++ y ∷ []) ≡ Some y)
        → cond (p x) (Some x) (find p (xs ++ y ∷ [])) ≡ Some y
    one true e none later = absurd (cc none)
    one false e none later = ap (λ c. cond c (Some x) (find p (xs ++ y ∷ []))) e ∙ later none

and_parts : (a b : Bool) → (a && b) ≡ true → (a ≡ true) × (b ≡ true)
and_parts true b h = (refl, h)
and_parts false b h = absurd (cc h)

or_parts_no : (a b : Bool) → (a || b) ≡ false → (a ≡ false) × (b ≡ false)
or_parts_no true b h = absurd (cc h)
or_parts_no false b h = (refl, h)

or_one : (a b : Bool) → a ≡ true → (a || b) ≡ true
or_one a b e = ap (λ c. c || b) e

-- ---- a further request, which has no answer, where all before it have one
filter_new : (rs : List Asking) (r : Asking) (vs : List (ℕ × ℤ)) → has_answer vs r ≡ false → filter (answers_one (rs ++ r ∷ [])) vs ≡ filter (answers_one rs) vs
filter_new rs r [] none = refl
filter_new rs r (x ∷ vs) none =
    let k = or_parts_no (x.0 == r.no) (has_answer vs r) none in
    let same : answers_one (rs ++ r ∷ []) x ≡ answers_one rs x =
    list_any-append (λ (s : Asking). x.0 == s.no) rs (r ∷ []) ∙ (ap (λ b. answers_one rs x || (b || false)) k.0 ∙ or_no (answers_one rs x)) in
    λ i. cond (same i) (x ∷ filter_new rs r vs k.1 i) (filter_new rs r vs k.1 i)

asked_once : (rs : List Asking) (r : Asking) (vs : List (ℕ × ℤ)) → AreTold rs vs → list_all (has_answer vs) rs ≡ true → has_answer vs r ≡ false
    → AreTold (rs ++ r ∷ []) vs
asked_once rs r vs t all none =
    record {
      same =
          filter_new rs r vs none
          ∙ (t.same
          ∙ sym (filter_map-append (answer_among vs) rs (r ∷ [])
          ∙ ((λ i. filter_map (answer_among vs) rs ++ cons_option (find_none (λ (x : ℕ × ℤ). x.0 == r.no) vs none i) [])
          ∙ append-nil (filter_map (answer_among vs) rs))));
      turn = waits rs r refl all none;
    }

-- ---- a further answer, to a request that has none
answered_on : (vs : List (ℕ × ℤ)) (y : ℕ × ℤ) (rs : List Asking) → list_all (has_answer vs) rs ≡ true
    → (list_all (has_answer (vs ++ y ∷ [])) rs ≡ true) × (filter_map (answer_among (vs ++ y ∷ [])) rs ≡ filter_map (answer_among vs) rs)
answered_on vs y [] h = (refl, refl)
answered_on vs y (r ∷ rs) h =
    let k = and_parts (has_answer vs r) (list_all (has_answer vs) rs) h in
    let later = answered_on vs y rs k.1 in
    let now : has_answer (vs ++ y ∷ []) r ≡ true =
    list_any-append (λ (x : ℕ × ℤ). x.0 == r.no) vs (y ∷ []) ∙ or_one (has_answer vs r) ((y.0 == r.no) || false) k.0 in
    let found = find_on (λ (x : ℕ × ℤ). x.0 == r.no) vs y k.0 in (
      λ i. now i && later.0 i,
      λ i. cons_option (found i) (later.1 i),
    )

still_none : (vs : List (ℕ × ℤ)) (y : ℕ × ℤ) (r : Asking) → (y.0 == r.no) ≡ false → has_answer (vs ++ y ∷ []) r ≡ has_answer vs r
still_none vs y r other =
    list_any-append (λ (x : ℕ × ℤ). x.0 == r.no) vs (y ∷ [])
    ∙ (ap (λ b. has_answer vs r || (b || false)) other ∙ or_no (has_answer vs r))

others_found : (vs : List (ℕ × ℤ)) (y : ℕ × ℤ) (rs : List Asking) → answers_one rs y ≡ false
    → filter_map (answer_among (vs ++ y ∷ [])) rs ≡ filter_map (answer_among vs) rs
others_found vs y [] h = refl
others_found vs y (r ∷ rs) h =
    let k = or_parts_no (y.0 == r.no) (answers_one rs y) h in
    λ i. cons_option (find_other (λ (x : ℕ × ℤ). x.0 == r.no) vs y k.0 i) (others_found vs y rs k.1 i)

-- whether it answers the last of these, or one before
last_answers : (front : List Asking) (r : Asking) (y : ℕ × ℤ) → answers_one (front ++ r ∷ []) y ≡ (answers_one front y || (y.0 == r.no))
last_answers front r y =
    list_any-append (λ (s : Asking). y.0 == s.no) front (r ∷ []) ∙ ap (λ b. answers_one front y || b) (or_no (y.0 == r.no))

turn_other : (rs : List Asking) (vs : List (ℕ × ℤ)) (y : ℕ × ℤ) → InTurn rs vs → answers_one rs y ≡ false → InTurn rs (vs ++ y ∷ [])
turn_other rs vs y (served all) other = served (answered_on vs y rs all).0
turn_other rs vs y (waits front r e all none) other =
    let k = or_parts_no (answers_one front y) (y.0 == r.no) (sym (ap (λ l. answers_one l y) e ∙ last_answers front r y) ∙ other) in
    waits front r e (answered_on vs y front all).0 (still_none vs y r k.1 ∙ none)

told_other : (rs : List Asking) (vs : List (ℕ × ℤ)) (y : ℕ × ℤ) → AreTold rs vs → answers_one rs y ≡ false → AreTold rs (vs ++ y ∷ [])
told_other rs vs y t other =
    record {
      same =
          filter-append (answers_one rs) vs (y ∷ [])
          ∙ ((λ i. filter (answers_one rs) vs ++ cond (other i) (y ∷ []) [])
          ∙ (append-nil (filter (answers_one rs) vs) ∙ (t.same ∙ sym (others_found vs y rs other))));
      turn = turn_other rs vs y t.turn other;
    }

of_or : (a b : Bool) (P : Type 0) → (a || b) ≡ true → (a ≡ true → P) → (b ≡ true → P) → P
of_or true b P e f g = f refl
of_or false b P e f g = g e

-- what answers one of requests that have answers has been answered
own_answered : (vs : List (ℕ × ℤ)) (y : ℕ × ℤ) (rs : List Asking) → list_all (has_answer vs) rs ≡ true → answers_one rs y ≡ true
    → list_any (λ (x : ℕ × ℤ). x.0 == y.0) vs ≡ true
own_answered vs y [] all own = absurd (cc own)
own_answered vs y (r ∷ rs) all own =
    let k = and_parts (has_answer vs r) (list_all (has_answer vs) rs) all in
    of_or (y.0 == r.no) (answers_one rs y) (list_any (λ (x : ℕ × ℤ). x.0 == y.0) vs ≡ true) own
    (λ e. subst (λ n. list_any (λ (x : ℕ × ℤ). x.0 == n) vs ≡ true) (sym (eqb-true y.0 r.no e)) k.0)
    (λ e. own_answered vs y rs k.1 e)

told_one : (rs : List Asking) (vs : List (ℕ × ℤ)) (y : ℕ × ℤ) → filter (answers_one rs) vs ≡ filter_map (answer_among vs) rs → InTurn rs vs
    → list_any (λ (x : ℕ × ℤ). x.0 == y.0) vs ≡ false → answers_one rs y ≡ true → AreTold rs (vs ++ y ∷ [])
told_one rs vs y same (served all) none own = absurd (cc (own_answered vs y rs all own, none))
told_one rs vs y same (waits front r e all bare) none own =
    of_or (answers_one front y) (y.0 == r.no) (AreTold rs (vs ++ y ∷ [])) (sym (ap (λ l. answers_one l y) e ∙ last_answers front r y) ∙ own)
    (λ early. absurd (cc (own_answered vs y front all early, none)))
    (λ last.
    let before : filter_map (answer_among vs) rs ≡ filter_map (answer_among vs) front =
    ap (filter_map (answer_among vs)) e
    ∙ (filter_map-append (answer_among vs) front (r ∷ [])
    ∙ ((λ i. filter_map (answer_among vs) front ++ cons_option (find_none (λ (x : ℕ × ℤ). x.0 == r.no) vs bare i) [])
    ∙ append-nil (filter_map (answer_among vs) front))) in
    let after : filter_map (answer_among (vs ++ y ∷ [])) rs ≡ filter_map (answer_among vs) front ++ y ∷ [] =
    ap (filter_map (answer_among (vs ++ y ∷ []))) e
    ∙ (filter_map-append (answer_among (vs ++ y ∷ [])) front (r ∷ [])
    ∙ (λ i. (answered_on vs y front all).1 i ++ cons_option (find_new (λ (x : ℕ × ℤ). x.0 == r.no) vs y bare last i) [])) in
    let more : has_answer (vs ++ y ∷ []) r ≡ true =
    list_any-append (λ (x : ℕ × ℤ). x.0 == r.no) vs (y ∷ []) ∙ or_true (has_answer vs r) ((y.0 == r.no) || false) (or_one (y.0 == r.no) false last) in
    record {
      same =
          filter-append (answers_one rs) vs (y ∷ [])
          ∙ ((λ i. (same ∙ before) i ++ cond (own i) (y ∷ []) []) ∙ sym after);
      turn = served (ap (list_all (has_answer (vs ++ y ∷ []))) e ∙ (all_last (has_answer (vs ++ y ∷ [])) front r (answered_on vs y front all).0 more));
    })
  where
    all_last : (p : Asking → Bool) (xs : List Asking) (x : Asking) → list_all p xs ≡ true → p x ≡ true → list_all p (xs ++ x ∷ []) ≡ true
    all_last p [] x all is = ap (λ b. b && true) is
    all_last p (z ∷ xs) x all is = let k = and_parts (p z) (list_all p xs) all in λ i. k.0 i && all_last p xs x k.1 is i

past_end : {A : Type 0} (xs : List A) (d : A) → slice_index_or xs (length xs) d ≡ d
past_end [] d = refl
past_end (x ∷ xs) d = past_end xs d

-- the request that is made next has no answer
not_answered : (threads askers : ℕ) (xs : List Event) (q : ℕ) → Legal threads askers xs → q ≡ length (asked xs) → is_answered xs q ≡ false
not_answered threads askers xs q legal is =
    let left = left_by threads askers xs legal in
    let s = left.requests in
    let size : q ≡ length s.made = is ∙ (ap length left.asked.asked ∙ length-map s.made asking_of) in
    ap (is_answered xs) size
    ∙ (answered_is askers xs s (length s.made) left.asked ∙ ap (λ (m : Made). is_some m.answer) (past_end s.made no_request))

-- ---- event by event
abbrev IsTold : ℕ → List Event → Type 0
IsTold a xs = AreTold (requests_of a xs) (answers xs)

told_grown : (a : ℕ) (xs : List Event) (e : Event) (rs : List Asking) (vs : List (ℕ × ℤ)) → filter (is_of_asker a) (asked (e ∷ [])) ≡ rs
    → answers (e ∷ []) ≡ vs → AreTold (requests_of a xs ++ rs) (answers xs ++ vs) → IsTold a (xs ++ e ∷ [])
told_grown a xs e rs vs r k t =
    let asks : requests_of a (xs ++ e ∷ []) ≡ requests_of a xs ++ rs =
    ap (filter (is_of_asker a)) (filter_map-append asked_in xs (e ∷ []))
    ∙ (filter-append (is_of_asker a) (asked xs) (asked (e ∷ [])) ∙ ap (λ l. requests_of a xs ++ l) r) in
    let says : answers (xs ++ e ∷ []) ≡ answers xs ++ vs = filter_map-append answered_in xs (e ∷ []) ∙ ap (λ l. answers xs ++ l) k in
    subst (λ l. AreTold l (answers (xs ++ e ∷ []))) (sym asks) (subst (AreTold (requests_of a xs ++ rs)) (sym says) t)

told_still : (a : ℕ) (xs : List Event) (e : Event) → filter (is_of_asker a) (asked (e ∷ [])) ≡ [] → answers (e ∷ []) ≡ [] → IsTold a xs
    → IsTold a (xs ++ e ∷ [])
told_still a xs e r k t =
    told_grown a xs e [] [] r k
    (subst (λ l. AreTold l (answers xs ++ [])) (sym (append-nil (requests_of a xs)))
    (subst (AreTold (requests_of a xs)) (sym (append-nil (answers xs))) t))

told_request : (threads askers a : ℕ) (xs : List Event) (q asker : ℕ) (n : ℤ) (b : Bool) → (asker == a) ≡ b → Legal threads askers xs
    → IsLegalAfter threads askers xs (event.Request q asker n) → IsTold a xs → IsTold a (xs ++ event.Request q asker n ∷ [])
told_request threads askers a xs q asker n false other legal is t =
    told_still a xs (event.Request q asker n) (ap (λ c. cond c (record { no = q; asker = asker; num = n } ∷ []) []) other) refl t
told_request threads askers a xs q asker n true own legal is t =
    let r : Asking = record { no = q; asker = asker; num = n } in
    let all : is_served xs a ≡ true = subst (λ m. is_served xs m ≡ true) (eqb-true asker a own) is.rule.1.served in
    told_grown a xs (event.Request q asker n) (r ∷ []) [] (ap (λ c. cond c (r ∷ []) []) own) refl
    (subst (AreTold (requests_of a xs ++ r ∷ [])) (sym (append-nil (answers xs)))
    (asked_once (requests_of a xs) r (answers xs) t all (not_answered threads askers xs q legal is.rule.0)))

told_answer : (threads askers a : ℕ) (xs : List Event) (q : ℕ) (v : ℤ) (b : Bool) → answers_one (requests_of a xs) (q, v) ≡ b
    → IsLegalAfter threads askers xs (event.Answered q v) → IsTold a xs → IsTold a (xs ++ event.Answered q v ∷ [])
told_answer threads askers a xs q v b is legal t =
    told_grown a xs (event.Answered q v) [] ((q, v) ∷ []) refl refl
    (subst (λ l. AreTold l (answers xs ++ (q, v) ∷ [])) (sym (append-nil (requests_of a xs))) (of b is))
  where
    of : (b : Bool) → answers_one (requests_of a xs) (q, v) ≡ b → AreTold (requests_of a xs) (answers xs ++ (q, v) ∷ [])
    of true own = told_one (requests_of a xs) (answers xs) (q, v) t.same t.turn legal.rule.1 own
    of false other = told_other (requests_of a xs) (answers xs) (q, v) t other

one_told : (threads askers a : ℕ) (xs : List Event) (e : Event) → Legal threads askers xs → IsLegalAfter threads askers xs e → IsTold a xs
    → IsTold a (xs ++ e ∷ [])
one_told threads askers a xs (event.Submit id work helper) legal is t = told_still a xs (event.Submit id work helper) refl refl t
one_told threads askers a xs (event.Start thread id) legal is t = told_still a xs (event.Start thread id) refl refl t
one_told threads askers a xs (event.Finish thread id outcome) legal is t = told_still a xs (event.Finish thread id outcome) refl refl t
one_told threads askers a xs (event.Request q asker n) legal is t = told_request threads askers a xs q asker n (asker == a) refl legal is t
one_told threads askers a xs (event.AskerEnd asker) legal is t = told_still a xs (event.AskerEnd asker) refl refl t
one_told threads askers a xs (event.Drain ids requests) legal is t = told_still a xs (event.Drain ids requests) refl refl t
one_told threads askers a xs (event.Answered q v) legal is t =
    told_answer threads askers a xs q v (answers_one (requests_of a xs) (q, v)) refl is t
one_told threads askers a xs (event.HelperNew h answer) legal is t = told_still a xs (event.HelperNew h answer) refl refl t
one_told threads askers a xs (event.HelperEnd h) legal is t = told_still a xs (event.HelperEnd h) refl refl t
one_told threads askers a xs event.Close legal is t = told_still a xs event.Close refl refl t

-- LAW. The answers to an asker's requests come in the order of the requests: what it was told is, request by request, the
-- answer that the history has.
pub told_in_order : (threads askers a : ℕ) (xs : List Event) → Legal threads askers xs
    → told_to a xs ≡ filter_map (answer_among (answers xs)) (requests_of a xs)
told_in_order threads askers a xs h =
    (legal_keeps threads askers (λ ys. Legal threads askers ys × IsTold a ys) (tt, record { same = refl; turn = served refl })
    (λ ys e k is. (legal_next threads askers ys e k.0 is, one_told threads askers a ys e k.0 is k.1)) xs h).1.same
