-- Legal histories that grow.
use Rattle.std.proofs.Common.{ℕ, List, [], ◌∷◌, ◌++◌, append-nil, append_assoc}
use Rattle.ak_history.specs.declared.event.Event.{Event}
use Rattle.ak_history.specs.Legal.{AreLegalAfter, IsLegalAfter}

-- one more event that is legal after all the events before it
pub AreLegalAfter-append : (threads askers : ℕ) (before events : List Event) (e : Event) → AreLegalAfter threads askers before events
    → IsLegalAfter threads askers (before ++ events) e
    → AreLegalAfter threads askers before (events ++ e ∷ [])
AreLegalAfter-append threads askers before [] e legal is = (rw append-nil at is, tt)
AreLegalAfter-append threads askers before (x ∷ events) e legal is =
    (legal.0, AreLegalAfter-append threads askers (before ++ x ∷ []) events e legal.1 (rw (append_assoc before (x ∷ []) events) is))
