-- How each event changes what the next drain brings. Own.
use Rattle.std.specs.Prelude.{◌-◌, [], ◌∷◌, ◌++◌}
use Rattle.ak_labor.specs.Arrived.{Arrived}
use Rattle.ak_history.specs.declared.event.Event.{Event}
use Rattle.ak_history.specs.declared.event.Event.TheVariants as event

-- a finished work and a request are brought, an asker that ends is not left, and a drain leaves nothing to bring
abbrev pub brought_then : Arrived → Event → Arrived
brought_then d (event.Finish thread id outcome) = record d { works = d.works ++ (id, outcome) ∷ [] }
brought_then d (event.Request q asker n) = record d { requests = d.requests ++ (q, n) ∷ [] }
brought_then d (event.AskerEnd asker) = record d { left = d.left - 1 }
brought_then d (event.Drain ids requests) = record { works = []; requests = []; left = d.left }
brought_then d e = d
