-- The requests of a drain, one after another, in a run over a port.
use Rattle.std.proofs.Common.{◌≡◌, ◌⊎◌, inl, inr, ℕ, ℤ, ◌+◌, ◌≤◌, List, [], ◌∷◌, ◌++◌, length, map, drop, Bool, true, false, cond, refl, ap, sym, subst, ◌∙◌, arith, Option, Some, None}
use Rattle.std.specs.Prelude.{IsSome, nat_lt, ◌==◌}
use Rattle.std.specs.List.{AllByRecursion, range_with_len}
use Rattle.std.proofs.lemmas.Bool.Decides.{nat_tests}
use Rattle.std.proofs.lemmas.List.{length-append, length-map}
use Rattle.ak_labor.specs.declared.ask.Ask.{Ask}
use Rattle.ak_labor.specs.Arrived.{Arrived}
use Rattle.ak_labor.specs.Calls.{Reply, Drained}
use Rattle.ak_labor.specs.Waits.{came, unanswered, left_after, Serves}
use Rattle.ak_machine.specs.State.{State}
use Rattle.ak_machine.specs.Cycle.{request_arrived, arrive_request, arrive_requests, served_by, requests_served}
use Rattle.ak_program.specs.Programs.{NumProgram}
use Rattle.ak_ledger.specs.Outside.{request_kept, IsInStep}
use Rattle.ak_ledger.proofs.Answering.{number_of}
use Rattle.ak_ledger.proofs.Requests.{do_come, unanswered_now, numbered_later, request_many}
use Rattle.ak_exec.specs.Worlds.{ServesAskers}
use Rattle.ak_cycle.specs.Turns.{MayBeServed, AreNext}

-- ---- one of them
-- those behind it
behind_it : (ask : Option ℕ) (request : ℕ × ℤ) (requests : List (ℕ × ℤ)) (s t : State) → requests_served ask (request ∷ []) s ≡ Some t
    → requests_served ask (request ∷ requests) s ≡ requests_served ask requests t
behind_it None request requests s t e = absurd (cc)
behind_it (Some ask) request requests s t e = by (arrive_request ask request s) e
  where
    by : (o : Option State) → (elim o [ None ↦ None | Some u ↦ Some u ]) ≡ Some t
        → (elim o [ None ↦ None | Some u ↦ arrive_requests ask requests u ]) ≡ arrive_requests ask requests t
    by None h = absurd (cc)
    by (Some u) h = let same : u ≡ t = cc in ap (arrive_requests ask requests) same

-- one more has come
one_more_came : (ask : Option ℕ) (request : ℕ × ℤ) (s t : State) → requests_served ask (request ∷ []) s ≡ Some t
    → length t.requests ≡ length s.requests + 1
one_more_came None request s t e = absurd (cc)
one_more_came (Some ask) request s t e = by (request.0 == length s.requests) e
  where
    by : (b : Bool) → (elim (cond b (Some (request_arrived ask request.0 request.1 s)) None) [ None ↦ None | Some u ↦ Some u ]) ≡ Some t
        → length t.requests ≡ length s.requests + 1
    by true h =
        let same : request_arrived ask request.0 request.1 s ≡ t = cc
        in sym (ap (λ (u : State). length u.requests) same) ∙ request_many ask request.0 request.1 s
    by false h = absurd (cc)

-- the others are next then
next_behind : (request : ℕ × ℤ) (requests : List (ℕ × ℤ)) (s t : State) → AreNext (request ∷ requests) s → length t.requests ≡ length s.requests + 1
    → AreNext requests t
next_behind request requests s t h e =
    let rest : map number_of requests ≡ range_with_len (length s.requests + 1) (length requests) = cc
    in rest ∙ ap (λ n. range_with_len n (length requests)) (sym e)

module _ (all : List (ℕ × ℤ)) (k : ℕ) (request : ℕ × ℤ) (ask : Option ℕ) (s t : State) (there : drop k all ≡ request ∷ drop (k + 1) all) where
  pub request_arrives : requests_served ask (request ∷ []) s ≡ Some t → requests_served ask (drop k all) s ≡ requests_served ask (drop (k + 1) all) t
  request_arrives e = ap (λ rs. requests_served ask rs s) there ∙ behind_it ask request (drop (k + 1) all) s t e

  pub request_is_next : AreNext (drop k all) s → request.0 ≡ length s.requests
  request_is_next h = first (subst (λ rs. AreNext rs s) there h)
    where
      first : AreNext (request ∷ drop (k + 1) all) s → request.0 ≡ length s.requests
      first g = cc

  pub others_are_next : requests_served ask (request ∷ []) s ≡ Some t → AreNext (drop k all) s → AreNext (drop (k + 1) all) t
  others_are_next e h = next_behind request (drop (k + 1) all) s t (subst (λ rs. AreNext rs s) there h) (one_more_came ask request s t e)

  pub is_served : MayBeServed ask (drop k all) → IsSome ask
  is_served h = subst (MayBeServed ask) there h

  pub others_are_served : MayBeServed ask (drop k all) → MayBeServed ask (drop (k + 1) all)
  others_are_served h = by (drop (k + 1) all)
    where
      by : (rs : List (ℕ × ℤ)) → MayBeServed ask rs
      by [] = tt
      by (r ∷ rs) = is_served h

-- ---- all of a drain
-- where there are no askers nothing comes, and so it is the same who serves
pub served_as : (ask : Option ℕ) (askers : ℕ) (requests : List (ℕ × ℤ)) (s : State) → (askers ≡ 0 → requests ≡ [])
    → requests_served (served_by ask askers) requests s ≡ requests_served ask requests s
served_as ask askers requests s none = by (nat_lt 0 askers) refl
  where
    nothing : (o : Option ℕ) → requests_served None [] s ≡ requests_served o [] s
    nothing None = refl
    nothing (Some n) = refl

    by : (b : Bool) → nat_lt 0 askers ≡ b → requests_served (cond b ask None) requests s ≡ requests_served ask requests s
    by true e = refl
    by false e =
        let zero : askers ≡ 0 = grind (arith, nat_tests)
        in subst (λ rs. requests_served None rs s ≡ requests_served ask rs s) (sym (none zero)) (nothing ask)

-- requests that are next do come, where they may be served
pub all_come : (ask : Option ℕ) (requests : List (ℕ × ℤ)) (s : State) → MayBeServed ask requests → AreNext requests s
    → (t : State) × (requests_served ask requests s ≡ Some t)
all_come (Some ask) requests s m h = do_come ask requests s h
all_come None [] s m h = (s, refl)
all_come None (request ∷ requests) s m h = absurd (cc)

module _ (askers : ℕ) (asked : List Ask) (replies : List Reply) (arrived : Arrived) (s : State) (p : IsInStep askers asked replies s)
    (serves : Serves askers asked replies arrived) where
  -- as many wait as before and those that came
  pub waits_more : length (unanswered asked (replies ++ Drained arrived ∷ [])) ≡ length (unanswered asked replies) + length arrived.requests
  waits_more =
      let bound : length (map request_kept s.requests) ≡ length (came replies) = p.requests
      in ap length (unanswered_now asked replies arrived (length (map request_kept s.requests)) p.answered
      (subst (λ n. AllByRecursion (λ request. n ≤ request.0) arrived.requests) (sym bound)
      (numbered_later (length (came replies)) arrived.requests serves.numbered)))
      ∙ length-append (unanswered asked replies) arrived.requests

  none_of : (rs : List (ℕ × ℤ)) → length rs ≤ 0 → rs ≡ []
  none_of [] l = refl
  none_of (r ∷ rs) l = absurd (omega (arith, l))

  pub none_come : left_after askers replies ≤ askers → askers ≡ 0 → arrived.requests ≡ []
  none_come l e = none_of arrived.requests (omega (arith, l, e, serves.one_each, serves.fewer, waits_more))

  pub may_be_served : (program : NumProgram) → ServesAskers program askers → left_after askers replies ≤ askers → MayBeServed program.ask arrived.requests
  may_be_served program served l = by served.served arrived.requests refl
    where
      by : (askers ≡ 0) ⊎ IsSome program.ask → (rs : List (ℕ × ℤ)) → arrived.requests ≡ rs → MayBeServed program.ask rs
      by x [] e = tt
      by (inl none) (r ∷ rs) e = let nothing : [] ≡ r ∷ rs = sym (none_come l none) ∙ e in absurd (cc)
      by (inr some) (r ∷ rs) e = some

  -- they are next in the state behind the works
  pub are_next : (t : State) → length t.requests ≡ length s.requests → AreNext arrived.requests t
  are_next t e =
      let bound : length (came replies) ≡ length t.requests = sym p.requests ∙ length-map s.requests request_kept ∙ sym e
      in serves.numbered ∙ ap (λ n. range_with_len n (length arrived.requests)) bound
