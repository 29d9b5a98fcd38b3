-- What a drain brings from outside leaves a state in step: each request that arrives has the next number and no answer.
use Rattle.std.proofs.Common.{ℕ, ℤ, ◌+◌, ◌≤◌, ◌<◌, ◌≡◌, List, [], ◌∷◌, ◌++◌, length, map, filter, Bool, true, false, ◌||◌, cond, Option, Some, None}
use Rattle.std.proofs.Common.{refl, sym, subst, ◌∙◌, ap, arith, append-nil, append_assoc}
use Rattle.std.specs.Prelude.{not, ◌==◌}
use Rattle.std.specs.List.{AllByRecursion, list_any, filter_map, flat_map, range_with_len}
use Rattle.std.proofs.lemmas.Bool.{eqb-true, eq-eqb}
use Rattle.std.proofs.lemmas.List.{length-append, length-map, map-append}
use Rattle.std.proofs.lemmas.List.Elements.{filter-append}
use Rattle.std.proofs.lemmas.List.Sums.{fold-append}
use Rattle.std.proofs.lemmas.Grind.{flat_map-append}
use Rattle.ak_base.proofs.Lists.{all_append}
use Rattle.ak_labor.specs.declared.work.Outcome.{Outcome}
use Rattle.ak_labor.specs.declared.ask.Ask.{Ask}
use Rattle.ak_labor.specs.declared.ask.Ask.TheVariants as ask
use Rattle.ak_labor.specs.Arrived.{Arrived}
use Rattle.ak_labor.specs.Calls.{Reply, Drained}
use Rattle.ak_labor.specs.Waits.{handed_by, pairs_in, requests_in, outstanding, helper_in, answered_by, left_by, came, is_unanswered, unanswered}
use Rattle.ak_frames.specs.declared.frame.Frame.TheVariants.{AnswerOut}
use Rattle.ak_trace.specs.declared.entry.Entry.TheVariants as entry
use Rattle.ak_machine.specs.declared.flow.Flow.TheVariants as flow
use Rattle.ak_machine.specs.State.{State}
use Rattle.ak_machine.specs.Deferred.{noting, with_ivar, number_at, register_at}
use Rattle.ak_machine.specs.Errors.{After}
use Rattle.ak_machine.specs.Works.{with_request}
use Rattle.ak_machine.specs.Cycle.{at_root, request_arrived, arrive_requests, arrive_all, requests_served, with_left}
use Rattle.ak_ledger.specs.Outside.{work_kept, work_handed, request_kept, waits_for_answer, AreOut, Outside, outside_of, IsSaid, IsInStep}
use Rattle.ak_ledger.specs.Answers.{AnswersAreOwed}
use Rattle.ak_ledger.proofs.Calls.{none_more, none_longer, filter_same, active_next}
use Rattle.ak_ledger.proofs.Drains.{all_arrived, left_out, without_all, left_out_is, drained_out, left_below, pairs_below}
use Rattle.ak_ledger.proofs.Owed.{request_owed}
use Rattle.ak_ledger.proofs.Answering.{number_of}

-- ---- one request
-- a request that has come, as the pool's calls know it
abbrev pub new_kept : ℕ × ℤ → ℕ × Bool
new_kept request = (request.0, false)

abbrev pub with_requests : List (ℕ × ℤ) → Outside → Outside
with_requests requests o = record o { requests = o.requests ++ map new_kept requests }

register_at_outside : (o : Option ℤ) (i : ℕ) (q : ℕ) (s : State) → outside_of (register_at o i at_root (AnswerOut q) s) ≡ outside_of s
register_at_outside (Some v) i q s = refl
register_at_outside None i q s = refl

pub request_outside : (ask q : ℕ) (n : ℤ) (s : State) → outside_of (request_arrived ask q n s) ≡ with_requests ((q, n) ∷ []) (outside_of s)
request_outside ask q n s =
    let r : ℕ = length s.cells.ivars
    in let noted : State = noting (entry.Request q n r) (with_request q r (with_ivar s))
    in register_at_outside (number_at r noted) r q noted
    ∙ ap (λ (rs : List (ℕ × Bool)). record (outside_of s) { requests = rs })
    (map-append request_kept s.requests (record { number = q; to = r; answered = false } ∷ []))

-- ---- all of a drain
no_more : (o : Outside) → with_requests [] o ≡ o
no_more o = ap (λ (rs : List (ℕ × Bool)). record o { requests = rs }) (append-nil o.requests)

one_more : (request : ℕ × ℤ) (requests : List (ℕ × ℤ)) (o : Outside)
    → with_requests requests (with_requests (request ∷ []) o) ≡ with_requests (request ∷ requests) o
one_more request requests o =
    ap (λ (rs : List (ℕ × Bool)). record o { requests = rs }) (append_assoc o.requests (new_kept request ∷ []) (map new_kept requests))

state_is : (s t : State) → Some s ≡ Some t → s ≡ t
state_is s t e = cc

-- the requests of a drain have come, the first of them under a number
pub record RequestsCame (first : ℕ) (requests : List (ℕ × ℤ)) (s t : State) : Type 0 where
  pub outside : outside_of t ≡ with_requests requests (outside_of s)
  pub later : AllByRecursion (λ request. first ≤ request.0) requests
  pub owed : AnswersAreOwed [] s → AnswersAreOwed [] t

later_all : (n m : ℕ) → n ≤ m → (requests : List (ℕ × ℤ)) → AllByRecursion (λ request. m ≤ request.0) requests
    → AllByRecursion (λ request. n ≤ request.0) requests
later_all n m l [] h = tt
later_all n m l (request ∷ requests) h = (omega (arith, l, h.0), later_all n m l requests h.1)

pub request_many : (ask q : ℕ) (n : ℤ) (s : State) → length (request_arrived ask q n s).requests ≡ length s.requests + 1
request_many ask q n s =
    sym (length-map (request_arrived ask q n s).requests request_kept)
    ∙ ap (λ (o : Outside). length o.requests) (request_outside ask q n s)
    ∙ length-append (map request_kept s.requests) ((q, false) ∷ [])
    ∙ ap (λ k. k + 1) (length-map s.requests request_kept)

pub requests_came : (ask : ℕ) (requests : List (ℕ × ℤ)) (s t : State) → arrive_requests ask requests s ≡ Some t
    → RequestsCame (length s.requests) requests s t
requests_came ask [] s t e =
    let same : s ≡ t = state_is s t e
    in subst (RequestsCame (length s.requests) [] s) same (record { outside = sym (no_more (outside_of s)); later = tt; owed = λ h. h })
requests_came ask (request ∷ requests) s t e =
    by (request.0 == length s.requests) refl e (λ u g. requests_came ask requests u t g)
  where
    by : (b : Bool) → (request.0 == length s.requests) ≡ b
        → (elim (cond b (Some (request_arrived ask request.0 request.1 s)) None) [ None ↦ None | Some u ↦ arrive_requests ask requests u ]) ≡ Some t
        → ((u : State) → arrive_requests ask requests u ≡ Some t → RequestsCame (length u.requests) requests u t)
        → RequestsCame (length s.requests) (request ∷ requests) s t
    by true f g r =
        let u : State = request_arrived ask request.0 request.1 s
        in let here : request.0 ≡ length s.requests = eqb-true request.0 (length s.requests) f
        in let rest : RequestsCame (length u.requests) requests u t = r u g
        in let many : length u.requests ≡ length s.requests + 1 = request_many ask request.0 request.1 s
        in record {
          outside = rest.outside ∙ ap (with_requests requests) (request_outside ask request.0 request.1 s) ∙ one_more request requests (outside_of s);
          later = (omega (arith, here), later_all (length s.requests) (length u.requests) (omega (arith, many)) requests rest.later);
          owed = λ h. rest.owed (request_owed ask request.0 request.1 s here h);
        }
    by false f g r = absurd (cc)

pub served_came : (ask : Option ℕ) (requests : List (ℕ × ℤ)) (s t : State) → requests_served ask requests s ≡ Some t
    → RequestsCame (length s.requests) requests s t
served_came (Some ask) requests s t e = requests_came ask requests s t e
served_came None [] s t e =
    let same : s ≡ t = state_is s t e
    in subst (RequestsCame (length s.requests) [] s) same (record { outside = sym (no_more (outside_of s)); later = tt; owed = λ h. h })
served_came None (request ∷ requests) s t e = absurd (cc)

-- requests that are numbered on do come
pub do_come : (ask : ℕ) (requests : List (ℕ × ℤ)) (s : State) → map number_of requests ≡ range_with_len (length s.requests) (length requests)
    → (t : State) × (arrive_requests ask requests s ≡ Some t)
do_come ask [] s e = (s, refl)
do_come ask (request ∷ requests) s e =
    let u : State = request_arrived ask request.0 request.1 s
    in let here : request.0 ≡ length s.requests = cc
    in let many : length u.requests ≡ length s.requests + 1 = request_many ask request.0 request.1 s
    in let rest : map number_of requests ≡ range_with_len (length s.requests + 1) (length requests) = cc
    in let there : (t : State) × (arrive_requests ask requests u ≡ Some t) =
    do_come ask requests u (rest ∙ ap (λ n. range_with_len n (length requests)) (sym many))
    in (
      there.0,
      ap (λ b. elim (cond b (Some u) None) [ None ↦ None | Some v ↦ arrive_requests ask requests v ]) (eq-eqb request.0 (length s.requests) here) ∙ there.1,
    )

-- ---- the calls and the replies say the same
none_answers : (n : ℕ) (qs : List ℕ) → AllByRecursion (λ q. q < n) qs → (m : ℕ) → n ≤ m → list_any (λ q. q == m) qs ≡ false
none_answers n [] h m l = refl
none_answers n (q ∷ qs) h m l = ap (λ b. b || list_any (λ p. p == m) qs) (other (q == m) refl) ∙ none_answers n qs h.1 m l
  where
    other : (b : Bool) → (q == m) ≡ b → b ≡ false
    other true e = let same : q ≡ m = eqb-true q m e in absurd (omega (arith, same, h.0, l))
    other false e = refl

new_unanswered : (asked : List Ask) (n : ℕ) → AllByRecursion (λ q. q < n) (filter_map answered_by asked)
    → (requests : List (ℕ × ℤ)) → AllByRecursion (λ request. n ≤ request.0) requests → filter (is_unanswered asked) requests ≡ requests
new_unanswered asked n h [] l = refl
new_unanswered asked n h (request ∷ requests) l =
    ap (λ b. cond (not b) (request ∷ filter (is_unanswered asked) requests) (filter (is_unanswered asked) requests))
    (none_answers n (filter_map answered_by asked) h request.0 l.0)
    ∙ ap (λ rs. request ∷ rs) (new_unanswered asked n h requests l.1)

new_wait : (requests : List (ℕ × ℤ)) → map (λ request. request.0) (filter waits_for_answer (map new_kept requests)) ≡ map number_of requests
new_wait [] = refl
new_wait (request ∷ requests) = ap (λ l. request.0 ∷ l) (new_wait requests)

came_more : (replies : List Reply) (arrived : Arrived) → came (replies ++ Drained arrived ∷ []) ≡ came replies ++ arrived.requests
came_more replies arrived =
    flat_map-append requests_in replies (Drained arrived ∷ []) ∙ ap (λ l. flat_map requests_in replies ++ l) (append-nil arrived.requests)

pub unanswered_now : (asked : List Ask) (replies : List Reply) (arrived : Arrived) (n : ℕ) → AllByRecursion (λ q. q < n) (filter_map answered_by asked)
    → AllByRecursion (λ request. n ≤ request.0) arrived.requests
    → unanswered asked (replies ++ Drained arrived ∷ []) ≡ unanswered asked replies ++ arrived.requests
unanswered_now asked replies arrived n h l =
    ap (filter (is_unanswered asked)) (came_more replies arrived) ∙ filter-append (is_unanswered asked) (came replies) arrived.requests
    ∙ ap (λ rs. unanswered asked replies ++ rs) (new_unanswered asked n h arrived.requests l)

-- a drain answers none
pub unanswered_drained : (asked : List Ask) (replies : List Reply) → unanswered (asked ++ ask.Drain ∷ []) replies ≡ unanswered asked replies
unanswered_drained asked replies =
    filter_same (is_unanswered (asked ++ ask.Drain ∷ [])) (is_unanswered asked)
    (λ request. ap (λ (qs : List ℕ). not (list_any (λ q. q == request.0) qs)) (none_more answered_by asked ask.Drain refl)) (came replies)

unanswered_more : (asked : List Ask) (replies : List Reply) (arrived : Arrived) (n : ℕ) → AllByRecursion (λ q. q < n) (filter_map answered_by asked)
    → AllByRecursion (λ request. n ≤ request.0) arrived.requests
    → unanswered (asked ++ ask.Drain ∷ []) (replies ++ Drained arrived ∷ []) ≡ unanswered asked replies ++ arrived.requests
unanswered_more asked replies arrived n h l =
    unanswered_drained asked (replies ++ Drained arrived ∷ []) ∙ unanswered_now asked replies arrived n h l

-- requests that are numbered on come later
pub numbered_later : (n : ℕ) (requests : List (ℕ × ℤ)) → map number_of requests ≡ range_with_len n (length requests)
    → AllByRecursion (λ request. n ≤ request.0) requests
numbered_later n [] e = tt
numbered_later n (request ∷ requests) e =
    let here : request.0 ≡ n = cc
    in let rest : map number_of requests ≡ range_with_len (n + 1) (length requests) = cc
    in (omega (arith, here), later_all n (n + 1) (omega arith) requests (numbered_later (n + 1) requests rest))

still_below : (n m : ℕ) → n ≤ m → (qs : List ℕ) → AllByRecursion (λ q. q < n) qs → AllByRecursion (λ q. q < m) qs
still_below n m l [] h = tt
still_below n m l (q ∷ qs) h = (omega (arith, l, h.0), still_below n m l qs h.1)

-- the state behind a drain, with its requests
pub all_drained : (askers : ℕ) (asked : List Ask) (replies : List Reply) (s : State) (after : After) (t : State) (arrived : Arrived)
    → length replies ≡ length asked → IsInStep askers asked replies s → AreOut (map work_kept s.works) arrived.works
    → arrive_all arrived.works s ≡ Some after → after.flow ≡ flow.On → RequestsCame (length after.state.requests) arrived.requests after.state t
    → IsInStep askers (asked ++ ask.Drain ∷ []) (replies ++ Drained arrived ∷ []) (with_left arrived.left t)
all_drained askers asked replies s after t arrived even p out e f came_in =
    let o : Outside = outside_of s
    in let a : Ask = ask.Drain
    in let r : Reply = Drained arrived
    in let before : outside_of after.state ≡ without_all arrived.works o = all_arrived arrived.works s after e f
    in let is : outside_of (with_left arrived.left t) ≡ record (with_requests arrived.requests (without_all arrived.works o)) { left = arrived.left } =
    ap (λ (x : Outside). record x { left = arrived.left }) (came_in.outside ∙ ap (with_requests arrived.requests) before)
    in let same : length after.state.requests ≡ length o.requests =
    sym (length-map after.state.requests request_kept) ∙ ap (λ (x : Outside). length x.requests) before
    in let later : AllByRecursion (λ request. length o.requests ≤ request.0) arrived.requests =
    subst (λ n. AllByRecursion (λ request. n ≤ request.0) arrived.requests) same came_in.later
    in let many : length (o.requests ++ map new_kept arrived.requests) ≡ length o.requests + length arrived.requests =
    length-append o.requests (map new_kept arrived.requests) ∙ ap (λ k. length o.requests + k) (length-map arrived.requests new_kept)
    in subst (IsSaid askers (asked ++ a ∷ []) (replies ++ r ∷ [])) (sym is)
    (record {
      works =
          ap (left_out arrived.works) p.works ∙ left_out_is arrived.works (outstanding asked replies)
          ∙ ap (map work_handed) (sym (drained_out asked replies arrived));
      next_work = p.next_work ∙ sym (none_longer handed_by asked a refl);
      below = left_below s.next_work arrived.works (map work_kept s.works) p.below;
      brought =
          subst (AllByRecursion (λ (pair : ℕ × Outcome). pair.0 < s.next_work))
          (sym (flat_map-append pairs_in replies (r ∷ []) ∙ ap (λ l. flat_map pairs_in replies ++ l) (append-nil arrived.works)))
          (all_append (λ (pair : ℕ × Outcome). pair.0 < s.next_work) (flat_map pairs_in replies) arrived.works p.brought
          (pairs_below s.next_work arrived.works (map work_kept s.works) out p.below));
      helpers = p.helpers ∙ sym (none_longer helper_in asked a refl);
      active = p.active ∙ sym (active_next asked replies a r even);
      requests =
          many ∙ ap (λ k. k + length arrived.requests) p.requests
          ∙ sym (ap length (came_more replies arrived) ∙ length-append (came replies) arrived.requests);
      unanswered =
          ap (map (λ (x : ℕ × Bool). x.0)) (filter-append waits_for_answer o.requests (map new_kept arrived.requests))
          ∙ map-append (λ (x : ℕ × Bool). x.0) (filter waits_for_answer o.requests) (filter waits_for_answer (map new_kept arrived.requests))
          ∙ ap (λ l. l ++ map (λ (x : ℕ × Bool). x.0) (filter waits_for_answer (map new_kept arrived.requests))) p.unanswered
          ∙ ap (λ l. map number_of (unanswered asked replies) ++ l) (new_wait arrived.requests)
          ∙ sym (ap (map number_of) (unanswered_more asked replies arrived (length o.requests) p.answered later)
          ∙ map-append number_of (unanswered asked replies) arrived.requests);
      answered =
          subst (AllByRecursion (λ q. q < length (o.requests ++ map new_kept arrived.requests))) (sym (none_more answered_by asked a refl))
          (still_below (length o.requests) (length (o.requests ++ map new_kept arrived.requests)) (omega (arith, many))
          (filter_map answered_by asked) p.answered);
      left = sym (fold-append left_by askers replies (r ∷ []));
    })
