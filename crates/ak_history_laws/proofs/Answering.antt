-- Which requests of a legal history wait for an answer.
use Rattle.std.proofs.Common.{◌≡◌, ℕ, ℤ, zero, suc, Bool, true, false, cond, List, [], ◌∷◌, ◌++◌, refl, sym, ap, subst, ◌∙◌, append-nil}
use Rattle.std.specs.Prelude.{◌||◌, ◌&&◌, not, ◌==◌, map, filter, find, slice_get, Some, None}
use Rattle.std.specs.Option.{option_map}
use Rattle.std.specs.List.{list_any, list_all, flat_map}
use Rattle.std.proofs.lemmas.Bool.{eq-eqb, eqb-true}
use Rattle.std.proofs.lemmas.Grind.{flat_map-append}
use Rattle.std.proofs.lemmas.List.Folds.{list_any-append}
use Rattle.std.proofs.lemmas.List.Elements.{filter_map-append}
use Rattle.ak_history.specs.declared.event.Event.{Event}
use Rattle.ak_history.specs.declared.event.Event.TheVariants as event
use Rattle.ak_history.specs.Events.{Asking, asked, answers, answered_in, fetched_in, is_among, is_answered, is_fetched, is_of_asker, is_served, owed, unfetched}
use Rattle.ak_history.specs.Legal.{Legal, IsLegalAfter}
use Rattle.ak_pool.specs.Pools.{request_pairs, waiting_for}
use Rattle.ak_pool.proofs.Items.{some_same}
use Rattle.ak_history_laws.proofs.Legals.{legal_keeps}
use Rattle.ak_history_laws.proofs.Parts.{or_true, or_no}
use Rattle.ak_history_laws.proofs.Requests.{same_numbers}

-- no request of the asker among these waits for its answer
none_waits : (xs : List Event) (a : ℕ) (rs : List Asking)
    → option_map (λ (r : Asking). r.no) (find (λ (r : Asking). r.asker == a && not (is_answered xs r.no)) rs) ≡ None
    → list_all (λ (r : Asking). is_answered xs r.no) (filter (is_of_asker a) rs) ≡ true
none_waits xs a [] e = refl
none_waits xs a (r ∷ rs) e = one (r.asker == a) (is_answered xs r.no) refl e (none_waits xs a rs)
  where
    one : (b d : Bool) → is_answered xs r.no ≡ d
        → option_map (λ (s : Asking). s.no) (cond (b && not d) (Some r) (find (λ (s : Asking). s.asker == a && not (is_answered xs s.no)) rs)) ≡ None
        → (option_map (λ (s : Asking). s.no) (find (λ (s : Asking). s.asker == a && not (is_answered xs s.no)) rs) ≡ None
        → list_all (λ (s : Asking). is_answered xs s.no) (filter (is_of_asker a) rs) ≡ true)
        → list_all (λ (s : Asking). is_answered xs s.no) (cond b (r ∷ filter (is_of_asker a) rs) (filter (is_of_asker a) rs)) ≡ true
    one true true is e rest =
        ap (λ c. c && list_all (λ (s : Asking). is_answered xs s.no) (filter (is_of_asker a) rs)) is ∙ rest e
    one true false is e rest = absurd (cc e)
    one false d is e rest = rest e

-- LAW. An asker that waits for no answer has an answer to each of its requests.
pub served_by : (xs : List Event) (a : ℕ) → waiting_for xs a ≡ None → is_served xs a ≡ true
served_by xs a e = none_waits xs a (asked xs) e

-- what is fetched and answered after one more event
fetched_more : (xs : List Event) (e : Event) (q : ℕ) → is_fetched (xs ++ e ∷ []) q ≡ (is_fetched xs q || is_among (fetched_in e) q)
fetched_more xs e q =
    ap (λ l. is_among l q) (flat_map-append fetched_in xs (e ∷ []) ∙ ap (λ l. flat_map fetched_in xs ++ l) (append-nil (fetched_in e)))
    ∙ list_any-append (λ n. n == q) (flat_map fetched_in xs) (fetched_in e)

answered_more : (xs : List Event) (e : Event) (q : ℕ) → is_answered (xs ++ e ∷ []) q ≡ (is_answered xs q || is_answered (e ∷ []) q)
answered_more xs e q =
    ap (list_any (λ (x : ℕ × ℤ). x.0 == q)) (filter_map-append answered_in xs (e ∷ []))
    ∙ list_any-append (λ (x : ℕ × ℤ). x.0 == q) (answers xs) (answers (e ∷ []))

or_one : (a b : Bool) → a ≡ true → (a || b) ≡ true
or_one a b e = ap (λ c. c || b) e

of_or : (a b : Bool) (P : Type 0) → (a || b) ≡ true → (a ≡ true → P) → (b ≡ true → P) → P
of_or true b P e f g = f refl
of_or false b P e f g = g e

-- an event that answers nothing
no_answer : (xs : List Event) (e : Event) (q : ℕ) → is_answered (e ∷ []) q ≡ false → (is_answered xs q ≡ true → is_fetched xs q ≡ true)
    → is_answered (xs ++ e ∷ []) q ≡ true → is_fetched (xs ++ e ∷ []) q ≡ true
no_answer xs e q none k h =
    fetched_more xs e q
    ∙ or_one (is_fetched xs q) (is_among (fetched_in e) q)
    (k (sym (answered_more xs e q ∙ (ap (λ b. is_answered xs q || b) none ∙ or_no (is_answered xs q))) ∙ h))

same_answered : (xs : List Event) (q p : ℕ) (v : ℤ) → is_fetched xs p ≡ true → is_answered (event.Answered p v ∷ []) q ≡ true → is_fetched xs q ≡ true
same_answered xs q p v is h = of_or (p == q) false (is_fetched xs q ≡ true) h (λ e. subst (λ n. is_fetched xs n ≡ true) (eqb-true p q e) is)
    (λ e. absurd (cc e))

one_answered : (threads askers : ℕ) (xs : List Event) (e : Event) (q : ℕ) → IsLegalAfter threads askers xs e
    → (is_answered xs q ≡ true → is_fetched xs q ≡ true) → is_answered (xs ++ e ∷ []) q ≡ true → is_fetched (xs ++ e ∷ []) q ≡ true
one_answered threads askers xs (event.Submit id work helper) q is k = no_answer xs (event.Submit id work helper) q refl k
one_answered threads askers xs (event.Start thread id) q is k = no_answer xs (event.Start thread id) q refl k
one_answered threads askers xs (event.Finish thread id outcome) q is k = no_answer xs (event.Finish thread id outcome) q refl k
one_answered threads askers xs (event.Request p asker n) q is k = no_answer xs (event.Request p asker n) q refl k
one_answered threads askers xs (event.AskerEnd asker) q is k = no_answer xs (event.AskerEnd asker) q refl k
one_answered threads askers xs (event.Drain ids requests) q is k = no_answer xs (event.Drain ids requests) q refl k
one_answered threads askers xs (event.Answered p v) q is k =
    λ h. fetched_more xs (event.Answered p v) q
    ∙ or_one (is_fetched xs q) false
    (of_or (is_answered xs q) (is_answered (event.Answered p v ∷ []) q) (is_fetched xs q ≡ true) (sym (answered_more xs (event.Answered p v) q) ∙ h) k
    (same_answered xs q p v is.rule.0))
one_answered threads askers xs (event.HelperNew h answer) q is k = no_answer xs (event.HelperNew h answer) q refl k
one_answered threads askers xs (event.HelperEnd h) q is k = no_answer xs (event.HelperEnd h) q refl k
one_answered threads askers xs event.Close q is k = no_answer xs event.Close q refl k

-- LAW. What is answered was fetched.
pub answered_fetched : (threads askers : ℕ) (xs : List Event) (q : ℕ) → Legal threads askers xs → is_answered xs q ≡ true → is_fetched xs q ≡ true
answered_fetched threads askers xs q h =
    legal_keeps threads askers (λ ys. is_answered ys q ≡ true → is_fetched ys q ≡ true) (λ e. absurd (cc e))
    (λ ys e k is. one_answered threads askers ys e q is k) xs h

among_at : {A : Type 0} (f : A → ℕ) (xs : List A) (k : ℕ) (x : A) → slice_get xs k ≡ Some x → is_among (map f xs) (f x) ≡ true
among_at f [] k x e = absurd (cc e)
among_at f (y ∷ xs) zero x e = or_one (f y == f x) (is_among (map f xs) (f x)) (eq-eqb (f y) (f x) (ap f (some_same y x e)))
among_at f (y ∷ xs) (suc k) x e = or_true (f y == f x) (is_among (map f xs) (f x)) (among_at f xs k x e)

-- what is among those that passed has passed
among_kept : (p : ℕ → Bool) (ns : List ℕ) (q : ℕ) → is_among (filter p ns) q ≡ true → p q ≡ true
among_kept p [] q h = absurd (cc h)
among_kept p (n ∷ ns) q h = one (p n) refl h (among_kept p ns q)
  where
    one : (b : Bool) → p n ≡ b → is_among (cond b (n ∷ filter p ns) (filter p ns)) q ≡ true → (is_among (filter p ns) q ≡ true → p q ≡ true)
        → p q ≡ true
    one true is k later = of_or (n == q) (is_among (filter p ns) q) (p q ≡ true) k (λ e. subst (λ m. p m ≡ true) (eqb-true n q e) is) later
    one false is k later = later k

not_both : (a b : Bool) → (a ≡ true → b ≡ true) → not b ≡ true → a ≡ false
not_both true b f k = absurd (cc (f refl, k))
not_both false b f k = refl

-- LAW. What a drain brings may be answered: it is fetched then, and not answered.
pub may_answer : (threads askers : ℕ) (xs : List Event) (k : ℕ) (r : ℕ × ℤ) → Legal threads askers xs → slice_get (request_pairs xs) k ≡ Some r
    → (is_fetched (xs ++ event.Drain (owed xs) (unfetched xs) ∷ []) r.0 ≡ true)
    × (is_answered (xs ++ event.Drain (owed xs) (unfetched xs) ∷ []) r.0 ≡ false)
may_answer threads askers xs k r legal e =
    let d = event.Drain (owed xs) (unfetched xs) in
    let among : is_among (unfetched xs) r.0 ≡ true =
    subst (λ l. is_among l r.0 ≡ true) (same_numbers threads askers xs legal) (among_at (λ (x : ℕ × ℤ). x.0) (request_pairs xs) k r e) in
    let left = among_kept (λ q. not (is_among (flat_map fetched_in xs) q)) (map (λ (x : Asking). x.no) (asked xs)) r.0 among in (
      fetched_more xs d r.0 ∙ or_true (is_fetched xs r.0) (is_among (unfetched xs) r.0) among,
      answered_more xs d r.0
          ∙ (or_no (is_answered xs r.0) ∙ not_both (is_answered xs r.0) (is_fetched xs r.0) (answered_fetched threads askers xs r.0 legal) left),
    )
