-- What a drain can bring.
use Rattle.std.proofs.Common.{◌≡◌, ℕ, List, [], ◌∷◌, refl, subst, arith}
use Rattle.ak_labor.specs.declared.work.Outcome.{Outcome}
use Rattle.ak_labor.specs.Waits.{Handed, Arrive}

arrive_of_none : (pairs : List (ℕ × Outcome)) → Arrive [] pairs → pairs ≡ []
arrive_of_none [] arrive = refl
arrive_of_none (pair ∷ pairs) arrive = absurd (omega (arith, arrive.0.2.1))

-- nothing comes where no work is out
pub Arrive-none : (works : List Handed) (pairs : List (ℕ × Outcome)) → works ≡ [] → Arrive works pairs → pairs ≡ []
Arrive-none works pairs none arrive =
    arrive_of_none pairs (subst (λ (ws : List Handed). Arrive ws pairs) none arrive)
