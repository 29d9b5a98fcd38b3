-- Whether the outside is quiet, by the calls and their replies.
use Rattle.std.proofs.Common.{ℕ, ◌+◌, ◌≤◌, ◌<◌, ◌≡◌, List, [], ◌∷◌, length, Bool, true, false, cond, refl, sym, ◌∙◌, ap, arith}
use Rattle.std.specs.Prelude.{not, count_by}
use Rattle.std.proofs.lemmas.Bool.{eq-eqb, true≢false}
use Rattle.std.proofs.lemmas.List.{length-map}
use Rattle.std.proofs.lemmas.List.Sums.{sum_by-cons}
use Rattle.ak_labor.specs.declared.ask.Ask.{Ask}
use Rattle.ak_labor.specs.Calls.{Reply}
use Rattle.ak_labor.specs.Waits.{unanswered, left_after, CanAsk}
use Rattle.ak_machine.specs.declared.held.Requested.{Requested}
use Rattle.ak_machine.specs.State.{State}
use Rattle.ak_machine.specs.Works.{is_unanswered}
use Rattle.ak_machine.specs.Cycle.{is_quiet}
use Rattle.ak_ledger.specs.Outside.{IsInStep}
use Rattle.ak_ledger.proofs.Answering.{number_of, numbers_waiting, numbers_by}

pub many_wait : (requests : List Requested) → count_by is_unanswered requests ≡ length (numbers_waiting requests)
many_wait [] = refl
many_wait (request ∷ requests) =
    sum_by-cons (λ (x : Requested). cond (is_unanswered x) 1 0) request requests ∙ by request.answered (many_wait requests)
  where
    by : (b : Bool) → count_by is_unanswered requests ≡ length (numbers_waiting requests)
        → cond (not b) 1 0 + count_by is_unanswered requests
        ≡ length (numbers_by b request requests)
    by true e = omega (arith, e)
    by false e = omega (arith, e)

-- as many requests wait as no call has answered
pub as_many_wait : (askers : ℕ) (asked : List Ask) (replies : List Reply) (s : State) → IsInStep askers asked replies s
    → count_by is_unanswered s.requests ≡ length (unanswered asked replies)
as_many_wait askers asked replies s p =
    many_wait s.requests ∙ ap length p.unanswered ∙ length-map (unanswered asked replies) number_of

-- where the outside is not quiet a request may come
pub can_ask : (askers : ℕ) (asked : List Ask) (replies : List Reply) (s : State) → IsInStep askers asked replies s
    → length (unanswered asked replies) ≤ left_after askers replies → is_quiet s ≡ false → CanAsk askers asked replies
can_ask askers asked replies s p l e =
    fewer (length (unanswered asked replies)) (left_after askers replies) l differs
  where
    differs : length (unanswered asked replies) ≡ left_after askers replies → ⊥
    differs same =
        true≢false (sym (eq-eqb (count_by is_unanswered s.requests) s.left (as_many_wait askers asked replies s p ∙ same ∙ sym p.left)) ∙ e)

    fewer : (n m : ℕ) → n ≤ m → (n ≡ m → ⊥) → n < m
    fewer n m h d = omega (arith, h, d)
