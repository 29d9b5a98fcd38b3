-- What an asker is answered, by the history that its call finds. Own; after Async's `Thread_safe`.
use Rattle.std.specs.Prelude.{ℕ, ℤ, ◌≡◌, ◌⊎◌, ◌==◌, Bool, true, false, List, Option, Some, None, is_some}
use Rattle.std.specs.List.{list_any}
use Rattle.ak_history.specs.declared.event.Event.{Event}
use Rattle.ak_history.specs.Events.{asked, has_left, is_close}
use Rattle.ak_pool.specs.Pools.{IsOpen, answer_to, waiting_for}
use Rattle.ak_hub.specs.declared.asking.RequestRefused.{RequestRefused}
use Rattle.ak_hub.specs.declared.asking.RequestRefused.TheVariants.{Closed, Ended, Waiting, NoMemory}

-- the request was made
abbrev pub is_made : List Event → ℕ → Bool
is_made history q = list_any (λ r. r.no == q) (asked history)

-- Why the asker makes no request: the pool was closed; else the asker has ended; else its request has no answer; else, for want
-- of memory, nothing of these holds.
abbrev pub Refuses : ℕ → List Event → RequestRefused → Type 0
Refuses asker history Closed = list_any is_close history ≡ true
Refuses asker history Ended = IsOpen history × (has_left history asker ≡ true)
Refuses asker history (Waiting q) =
    IsOpen history × (has_left history asker ≡ false) × (waiting_for history asker ≡ Some q)
Refuses asker history NoMemory =
    IsOpen history × (has_left history asker ≡ false) × (waiting_for history asker ≡ None)

-- the asker cannot end: the pool was closed, or the asker has ended, or a request of it has no answer
abbrev pub CannotEnd : ℕ → List Event → Type 0
CannotEnd asker history =
    (list_any is_close history ≡ true) ⊎ (has_left history asker ≡ true) ⊎ (is_some (waiting_for history asker) ≡ true)

-- the answer to the request; or none, after a close, where it has none
abbrev pub Tells : List Event → ℕ → Option ℤ → Type 0
Tells history q (Some v) = answer_to history q ≡ Some v
Tells history q None = (list_any is_close history ≡ true) × (answer_to history q ≡ None)
