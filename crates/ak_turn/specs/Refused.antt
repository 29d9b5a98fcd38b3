-- What `dissolve` hands back.
use Rattle.std.specs.Prelude.{◌≡◌, ℕ, List}
use Rattle.ak_turn.specs.Seen.{TurnView, PassView}
use Rattle.ak_turn.specs.declared.lock.DissolveRefused.{DissolveRefused}
use Rattle.ak_turn.specs.declared.lock.DissolveRefused.TheVariants.{Missing, NoMemory}

module _ {G E : Type 0} where
  -- the turn and the passes, as they were
  abbrev pub HandsBack : TurnView → List (PassView E) → DissolveRefused G E → Type 0
  HandsBack t ps (Missing turn passes given made) = (turn ≡ t) × (passes.items ≡ ps)
  HandsBack t ps (NoMemory turn passes) = (turn ≡ t) × (passes.items ≡ ps)

  -- it says how many numbers were given and how many were made; want of memory is no answer
  abbrev pub IsMissing : ℕ → ℕ → DissolveRefused G E → Type 0
  IsMissing g m (Missing turn passes given made) = (given ≡ g) × (made ≡ m)
  IsMissing g m (NoMemory turn passes) = ⊥
