-- What a thread is given that asks for a work, by the history. Own.
use Rattle.std.specs.Prelude.{ℕ, List, [], ◌∷◌, ◌++◌, ◌≡◌, true, Some}
use Rattle.std.specs.List.{list_any}
use Rattle.std.specs.Option.{option_map}
use Rattle.ak_labor.specs.Waits.{Handed}
use Rattle.ak_history.specs.declared.event.Event.{Event}
use Rattle.ak_history.specs.declared.event.Event.TheVariants as event
use Rattle.ak_history.specs.Events.{is_close, work_at}
use Rattle.ak_pool.specs.Pools.{IsOpen, MayStart, StartsNone}
use Rattle.ak_pool.specs.declared.pool.Taken.{Taken}
use Rattle.ak_pool.specs.declared.pool.Taken.TheVariants.{Got, NotYet, Closed}

-- a work that the thread may start, with its start; or none, where it may start none; or none, after a close
abbrev pub Takes : ℕ → List Event → ℕ → Taken → List Event → Type 0
Takes threads history thread (Got id work) after =
    MayStart threads history thread id
    × (option_map (λ (w : Handed). w.work) (work_at history id) ≡ Some work)
    × (after ≡ history ++ event.Start thread id ∷ [])
Takes threads history thread NotYet after =
    IsOpen history × StartsNone threads history thread × (after ≡ history)
Takes threads history thread Closed after = (list_any is_close history ≡ true) × (after ≡ history)
