-- A history that is judged event by event.
use Rattle.std.proofs.Common.{ℕ, ◌+◌, ◌<◌, ◌≡◌, zero, suc, List, [], ◌∷◌, ◌++◌, take, length, get_or, Some, ap, sym, ◌∙◌, arith}
use Rattle.std.specs.Prelude.{slice_get}
use Rattle.std.proofs.lemmas.List.{take_more, length-take-le}
use Rattle.std.proofs.lemmas.List.Sums.{count_by-le-length}
use Rattle.ak_history.specs.declared.event.Event.{Event}
use Rattle.ak_history.specs.Events.{is_submit, is_helper_new}
use Rattle.ak_history.specs.Legal.{Legal}
use Rattle.ak_pool.specs.Desks.{DeskState}
use Rattle.ak_pool.specs.Askers.{RequestsState}
use Rattle.ak_pool.specs.AskersStand.{AskersStand, request_facts}
use Rattle.ak_pool.specs.Judged.{Fits, FitsRequests, noted, requests_noted}
use Rattle.ak_pool.specs.Facts.{facts_of}
use Rattle.ak_pool.specs.Pools.{IsFirstIllegal}
use Rattle.ak_pool.specs.Stands.{Stands}
use Rattle.ak_pool.proofs.AskedRules.{legal_requests}
use Rattle.ak_pool.proofs.Legality.{legal_fits}
use Rattle.ak_pool.proofs.Pools.{legal_kept, stands_kept, asked_kept}

got : {A : Type 0} (xs : List A) (k : ℕ) (x : A) → k < length xs → x ≡ get_or xs k x → slice_get xs k ≡ Some x
got [] k x lt e = absurd (omega arith)
got (y ∷ ys) zero x lt e = ap Some (sym e)
got (y ∷ ys) (suc k) x lt e = got ys k x (omega arith) e

-- the first event that does not fit
pub first_illegal : (size askers : ℕ) (xs : List Event) (k : ℕ) (e : Event) (s : DeskState) (r : RequestsState) → k < length xs → e ≡ get_or xs k e
    → Legal size askers (take k xs) → Stands size (facts_of (take k xs)) s
    → AskersStand askers (request_facts (take k xs)) r → (Fits s e × FitsRequests r e → ⊥) → IsFirstIllegal size askers xs k
first_illegal size askers xs k e s r lt is legal st asked misfit =
    (legal, (e, got xs k e lt is, λ h. misfit (legal_fits size askers (take k xs) s e st h, legal_requests size askers (take k xs) r e asked h)))

pub submits_below : (size : ℕ) (xs : List Event) (k : ℕ) (s : DeskState) → k < length xs → Stands size (facts_of (take k xs)) s → s.submits < length xs
submits_below size xs k s lt st =
    omega (arith, st.submits, count_by-le-length is_submit (take k xs), length-take-le k xs (omega arith))

pub helpers_below : (size : ℕ) (xs : List Event) (k : ℕ) (s : DeskState) → k < length xs → Stands size (facts_of (take k xs)) s → s.helpers < length xs
helpers_below size xs k s lt st =
    omega (arith, st.helpers, count_by-le-length is_helper_new (take k xs), length-take-le k xs (omega arith))

-- what a check knows of the events that it has judged
pub record AreJudged (size askers : ℕ) (xs : List Event) (s : DeskState) (r : RequestsState) : Type 0 where
  pub legal : Legal size askers xs
  pub stands : Stands size (facts_of xs) s
  pub asked : AskersStand askers (request_facts xs) r

-- one more event that fits
pub judged : (size askers : ℕ) (xs : List Event) (k : ℕ) (e : Event) (s s' : DeskState) (r r' : RequestsState) → k < length xs → e ≡ get_or xs k e
    → AreJudged size askers (take k xs) s r
    → Fits s e → FitsRequests r e → s' ≡ noted e s → r' ≡ requests_noted e r → AreJudged size askers (take (k + 1) xs) s' r'
judged size askers xs k e s s' r r' lt is so_far fits fits_too now now_too =
    let more : take (k + 1) xs ≡ take k xs ++ e ∷ [] = take_more xs k e lt ∙ ap (λ x. take k xs ++ x ∷ []) (sym is) in
    record {
      legal = legal_kept size askers (take k xs) (take (k + 1) xs) s r e so_far.legal so_far.stands so_far.asked fits fits_too more;
      stands = stands_kept size (take k xs) (take (k + 1) xs) s s' e so_far.stands fits more now;
      asked = asked_kept askers (take k xs) (take (k + 1) xs) r r' e so_far.asked fits_too more now_too;
    }
