-- Hands and passes as threads begin with them, and passes as they end.
use Rattle.std.proofs.Common.{◌≡◌, ℕ, zero, suc, ◌≤◌, List, [], ◌∷◌, ◌++◌, length, refl, sym, ap, subst, arith}
use Rattle.std.specs.List.{AllByRecursion}
use Rattle.ak_history.specs.declared.event.Event.{Event}
use Rattle.ak_turn.specs.Seen.{TurnView, PassView, IsIdleOf}
use Rattle.ak_hub.specs.Hubs.{HubState}
use Rattle.ak_crew.specs.Crews.{new_passes}
use Rattle.ak_crew.specs.Workers.{AreAtRest}

pub length_new : (v : TurnView) (n k : ℕ) → length (new_passes v n k) ≡ k
length_new v n zero = refl
length_new v n (suc k) = ap suc (length_new v (suc n) k)

module _ {L : Type 0} (carried : L → ℕ) (h : HubState) where
  -- hands that have carried nothing, with new passes
  pub fresh_rest : (t k : ℕ) (xs : List L) → k ≤ length xs → AllByRecursion (λ x. carried x ≡ 0) xs → AreAtRest carried h t xs (new_passes h.turn (suc t) k)
  fresh_rest t zero [] le none = tt
  fresh_rest t (suc k) [] le none = absurd (omega (arith, le))
  fresh_rest t zero (x ∷ xs) le none = (none.0, fresh_rest (suc t) zero xs (omega arith) none.1)
  fresh_rest t (suc k) (x ∷ xs) le none =
      (record { pass = (((refl, refl), refl), refl); spare = refl; idle = refl; counted = none.0 }, fresh_rest (suc t) k xs (omega (arith, le)) none.1)

  all_idle : (t : ℕ) (xs : List L) (ps : List (PassView Event)) → AreAtRest carried h t xs ps → AllByRecursion (IsIdleOf h.turn) ps
  all_idle t [] [] rest = tt
  all_idle t [] (p ∷ ps) rest = absurd rest
  all_idle t (x ∷ xs) [] rest = tt
  all_idle t (x ∷ xs) (p ∷ ps) rest = (rest.0.pass.0, all_idle (suc t) xs ps rest.1)

  -- all passes are idle, with one more that is
  pub all_idle_more : (xs : List L) (ps qs : List (PassView Event)) (p : PassView Event) → qs ≡ ps ++ p ∷ [] → AreAtRest carried h 0 xs ps
      → IsIdleOf h.turn p → AllByRecursion (IsIdleOf h.turn) qs
  all_idle_more xs ps qs p now rest one = subst (AllByRecursion (IsIdleOf h.turn)) (sym now) (more ps (all_idle 0 xs ps rest))
    where
      more : (ps : List (PassView Event)) → AllByRecursion (IsIdleOf h.turn) ps → AllByRecursion (IsIdleOf h.turn) (ps ++ p ∷ [])
      more [] h = (one, tt)
      more (q ∷ ps) h = (h.0, more ps h.1)
