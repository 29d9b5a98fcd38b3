-- For which of its requests an asker waits: for its last.
use Rattle.std.proofs.Common.{◌≡◌, ◌⊎◌, inl, inr, ℕ, ℤ, Bool, true, false, cond, List, [], ◌∷◌, ◌++◌, length, get_or, refl, sym, ap, subst, ◌∙◌, append-nil}
use Rattle.std.specs.Prelude.{◌||◌, ◌&&◌, ◌==◌, is_some}
use Rattle.std.specs.List.{list_any, list_all}
use Rattle.std.proofs.lemmas.Bool.{eqb-true}
use Rattle.std.proofs.lemmas.List.{length-map}
use Rattle.std.proofs.lemmas.List.Folds.{list_any-append}
use Rattle.std.proofs.lemmas.List.Elements.{filter_map-append}
use Rattle.ak_history.specs.declared.event.Event.{Event}
use Rattle.ak_history.specs.declared.event.Event.TheVariants as event
use Rattle.ak_history.specs.Events.{Asking, asked, answers, answered_in, is_answered, is_served}
use Rattle.ak_history.specs.Legal.{Legal, IsLegalAfter}
use Rattle.ak_pool.specs.declared.requests.Made.{Made}
use Rattle.ak_pool.specs.Askers.{asking_of, no_request}
use Rattle.ak_pool.proofs.AskedRules.{answered_is}
use Rattle.ak_pool.proofs.Noting.{legal_next}
use Rattle.ak_history_laws.specs.Asked.{requests_of}
use Rattle.ak_history_laws.proofs.Legals.{legal_keeps, left_by}
use Rattle.ak_history_laws.proofs.Parts.{or_no, or_true}
use Rattle.ak_asker_laws.proofs.Staying.{requests_more, answers_on, and_parts}

-- all but the last of an asker's requests have answers
record LastWaits (xs : List Event) (rs : List Asking) : Type 0 where
  pub before : List Asking
  pub last : Asking
  pub requests : rs ≡ before ++ last ∷ []
  pub served : list_all (λ (r : Asking). is_answered xs r.no) before ≡ true
  pub unanswered : is_answered xs last.no ≡ false

-- all of them have answers, or all but the last
abbrev InTurn : List Event → List Asking → Type 0
InTurn xs rs = (list_all (λ (r : Asking). is_answered xs r.no) rs ≡ true) ⊎ LastWaits xs rs

past_end : {A : Type 0} (xs : List A) (d : A) → get_or xs (length xs) d ≡ d
past_end [] d = refl
past_end (x ∷ xs) d = past_end xs d

-- the request that is made next has no answer
next_unanswered : (threads askers : ℕ) (xs : List Event) (q : ℕ) → Legal threads askers xs → q ≡ length (asked xs) → is_answered xs q ≡ false
next_unanswered threads askers xs q legal is =
    let k = left_by threads askers xs legal in
    let s = k.requests in
    let size : q ≡ length s.made = is ∙ (ap length k.asked.asked ∙ length-map s.made asking_of) in
    ap (is_answered xs) size
    ∙ (answered_is askers xs s (length s.made) k.asked ∙ ap (λ (m : Made). is_some m.answer) (past_end s.made no_request))

answered_more : (xs : List Event) (e : Event) (q : ℕ) → is_answered (xs ++ e ∷ []) q ≡ (is_answered xs q || is_answered (e ∷ []) q)
answered_more xs e q =
    ap (list_any (λ (x : ℕ × ℤ). x.0 == q)) (filter_map-append answered_in xs (e ∷ []))
    ∙ list_any-append (λ (x : ℕ × ℤ). x.0 == q) (answers xs) (answers (e ∷ []))

-- an event that answers none of them
turn_still : (xs : List Event) (e : Event) (rs : List Asking) → answers (e ∷ []) ≡ [] → InTurn xs rs → InTurn (xs ++ e ∷ []) rs
turn_still xs e rs none (inl all) = inl (answers_on xs (e ∷ []) rs all).0
turn_still xs e rs none (inr w) =
    inr (record {
      before = w.before;
      last = w.last;
      requests = w.requests;
      served = (answers_on xs (e ∷ []) w.before w.served).0;
      unanswered =
          answered_more xs e w.last.no
          ∙ ((λ i. w.unanswered i || list_any (λ (x : ℕ × ℤ). x.0 == w.last.no) (none i)));
    })

all_last : (p : Asking → Bool) (xs : List Asking) (x : Asking) → list_all p xs ≡ true → p x ≡ true → list_all p (xs ++ x ∷ []) ≡ true
all_last p [] x all is = ap (λ b. b && true) is
all_last p (z ∷ xs) x all is = let k = and_parts (p z) (list_all p xs) all in λ i. k.0 i && all_last p xs x k.1 is i

-- an answer to the last of them, or to another request
turn_answered : (xs : List Event) (q : ℕ) (v : ℤ) (rs : List Asking) → InTurn xs rs → InTurn (xs ++ event.Answered q v ∷ []) rs
turn_answered xs q v rs (inl all) = inl (answers_on xs (event.Answered q v ∷ []) rs all).0
turn_answered xs q v rs (inr w) = one (q == w.last.no) refl
  where
    front : list_all (λ (r : Asking). is_answered (xs ++ event.Answered q v ∷ []) r.no) w.before ≡ true
    front = (answers_on xs (event.Answered q v ∷ []) w.before w.served).0

    one : (b : Bool) → (q == w.last.no) ≡ b → InTurn (xs ++ event.Answered q v ∷ []) rs
    one true is =
        inl (ap (list_all (λ (r : Asking). is_answered (xs ++ event.Answered q v ∷ []) r.no)) w.requests
        ∙ all_last (λ (r : Asking). is_answered (xs ++ event.Answered q v ∷ []) r.no) w.before w.last front
        (answered_more xs (event.Answered q v) w.last.no
        ∙ or_true (is_answered xs w.last.no) ((q == w.last.no) || false) (ap (λ c. c || false) is)))
    one false is =
        inr (record {
          before = w.before;
          last = w.last;
          requests = w.requests;
          served = front;
          unanswered = answered_more xs (event.Answered q v) w.last.no ∙ (λ i. w.unanswered i || (is i || false));
        })

abbrev IsInTurn : ℕ → List Event → Type 0
IsInTurn a xs = InTurn xs (requests_of a xs)

-- an event that is no request of the asker leaves its requests
same_requests : (a : ℕ) (xs : List Event) (e : Event) → requests_of a (e ∷ []) ≡ [] → requests_of a (xs ++ e ∷ []) ≡ requests_of a xs
same_requests a xs e none = requests_more a xs (e ∷ []) ∙ (ap (λ l. requests_of a xs ++ l) none ∙ append-nil (requests_of a xs))

other_event : (a : ℕ) (xs : List Event) (e : Event) → requests_of a (e ∷ []) ≡ [] → answers (e ∷ []) ≡ [] → IsInTurn a xs → IsInTurn a (xs ++ e ∷ [])
other_event a xs e none unsaid t =
    subst (InTurn (xs ++ e ∷ [])) (sym (same_requests a xs e none)) (turn_still xs e (requests_of a xs) unsaid t)

turn_request : (threads askers a : ℕ) (xs : List Event) (q asker : ℕ) (n : ℤ) (b : Bool) → (asker == a) ≡ b → Legal threads askers xs
    → IsLegalAfter threads askers xs (event.Request q asker n) → IsInTurn a xs → IsInTurn a (xs ++ event.Request q asker n ∷ [])
turn_request threads askers a xs q asker n false other legal is t =
    other_event a xs (event.Request q asker n) (ap (λ c. cond c (record { no = q; asker = asker; num = n } ∷ []) []) other) refl t
turn_request threads askers a xs q asker n true own legal is t =
    let r : Asking = record { no = q; asker = asker; num = n } in
    let all : is_served xs a ≡ true = subst (λ m. is_served xs m ≡ true) (eqb-true asker a own) is.rule.1.served in
    inr (record {
      before = requests_of a xs;
      last = r;
      requests =
          requests_more a xs (event.Request q asker n ∷ [])
          ∙ ap (λ c. requests_of a xs ++ cond c (r ∷ []) []) own;
      served = (answers_on xs (event.Request q asker n ∷ []) (requests_of a xs) all).0;
      unanswered =
          answered_more xs (event.Request q asker n) q
          ∙ (or_no (is_answered xs q) ∙ next_unanswered threads askers xs q legal is.rule.0);
    })

one_event : (threads askers a : ℕ) (xs : List Event) (e : Event) → Legal threads askers xs → IsLegalAfter threads askers xs e → IsInTurn a xs
    → IsInTurn a (xs ++ e ∷ [])
one_event threads askers a xs (event.Submit id work helper) legal is t = other_event a xs (event.Submit id work helper) refl refl t
one_event threads askers a xs (event.Start thread id) legal is t = other_event a xs (event.Start thread id) refl refl t
one_event threads askers a xs (event.Finish thread id outcome) legal is t = other_event a xs (event.Finish thread id outcome) refl refl t
one_event threads askers a xs (event.Request q asker n) legal is t = turn_request threads askers a xs q asker n (asker == a) refl legal is t
one_event threads askers a xs (event.AskerEnd asker) legal is t = other_event a xs (event.AskerEnd asker) refl refl t
one_event threads askers a xs (event.Drain ids requests) legal is t = other_event a xs (event.Drain ids requests) refl refl t
one_event threads askers a xs (event.Answered q v) legal is t =
    subst (InTurn (xs ++ event.Answered q v ∷ [])) (sym (same_requests a xs (event.Answered q v) refl)) (turn_answered xs q v (requests_of a xs) t)
one_event threads askers a xs (event.HelperNew h answer) legal is t = other_event a xs (event.HelperNew h answer) refl refl t
one_event threads askers a xs (event.HelperEnd h) legal is t = other_event a xs (event.HelperEnd h) refl refl t
one_event threads askers a xs event.Close legal is t = other_event a xs event.Close refl refl t

in_turn : (threads askers a : ℕ) (xs : List Event) → Legal threads askers xs → IsInTurn a xs
in_turn threads askers a xs h =
    (legal_keeps threads askers (λ ys. Legal threads askers ys × IsInTurn a ys) (tt, inl refl)
    (λ ys e k is. (legal_next threads askers ys e k.0 is, one_event threads askers a ys e k.0 is k.1)) xs h).1

-- LAW. Of an asker that has a request without an answer it is the last.
pub last_waits : (threads askers a : ℕ) (xs : List Event) → Legal threads askers xs → is_served xs a ≡ false
    → (before : List Asking) × (last : Asking) × (requests_of a xs ≡ before ++ last ∷ []) × (is_answered xs last.no ≡ false)
last_waits threads askers a xs legal some = by (in_turn threads askers a xs legal)
  where
    by : IsInTurn a xs → (before : List Asking) × (last : Asking) × (requests_of a xs ≡ before ++ last ∷ []) × (is_answered xs last.no ≡ false)
    by (inl all) = absurd (cc (all, some))
    by (inr w) = (w.before, w.last, w.requests, w.unanswered)
