-- Calls that take one thing each, made until one finds none: what they give, and the throttle that they leave. Own.
use Rattle.std.specs.Prelude.{ℕ, ◌≡◌, List, [], ◌∷◌, Option, Some, None, map}
use Rattle.ak_base.specs.Lists.{first_of}
use Rattle.ak_throttle.specs.Throttle.{Throttle, ivar_of, dropped_taken, satisfied_marks, next_satisfied, satisfied_taken}

-- calls from one throttle give these things and then none, and leave another throttle
abbrev pub Give : {B X : Type 0} → (Throttle B → Option X) → (Throttle B → Throttle B) → List X → Throttle B → Throttle B → Type 0
Give given taken [] before after = (given before ≡ None) × (after ≡ before)
Give given taken (x ∷ xs) before after = (given before ≡ Some x) × Give given taken xs (taken before) after

-- the body that a call of `next_dropped` gives
abbrev pub dropped_given : {B : Type 0} → Throttle B → Option B
dropped_given t = first_of t.dropped

-- calls of `next_dropped`
abbrev pub DroppedGiven : {B : Type 0} → List B → Throttle B → Throttle B → Type 0
DroppedGiven bodies before after = Give dropped_given dropped_taken bodies before after

-- the deferred that a call of `next_done` gives
abbrev pub done_given : {B : Type 0} → Throttle B → Option ℕ
done_given t = ivar_of (next_satisfied t)

-- the deferreds before which every body is over, oldest first
abbrev pub done_ivars : {B : Type 0} → Throttle B → List ℕ
done_ivars t = map (λ mark. mark.ivar) (satisfied_marks t)

-- calls of `next_done`
abbrev pub DoneGiven : {B : Type 0} → List ℕ → Throttle B → Throttle B → Type 0
DoneGiven ivars before after = Give done_given satisfied_taken ivars before after
