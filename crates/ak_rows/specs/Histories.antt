-- Histories of a pool, worked by hand.
use Rattle.std.specs.Prelude.{pos, List, [], ◌∷◌, true, false, Some, None}
use Rattle.ak_labor.specs.declared.work.WorkKind.TheVariants.{Square}
use Rattle.ak_labor.specs.declared.work.Outcome.TheVariants.{Good}
use Rattle.ak_labor.specs.declared.ask.Ask.{Ask}
use Rattle.ak_labor.specs.declared.ask.Ask.TheVariants as ask
use Rattle.ak_labor.specs.Calls.{Reply, Granted, Done}
use Rattle.ak_history.specs.declared.event.Event.{Event}
use Rattle.ak_history.specs.declared.event.Event.TheVariants as event
use Rattle.ak_rows.specs.Row.{brings, work}

-- on one thread: a helper is granted and another refused, and the helper's work is done before the general one
abbrev pub helper_history : List Event
helper_history =
    event.Drain [] [] ∷ event.HelperNew 0 (Some 0) ∷ event.HelperNew 1 None
    ∷ event.Submit 0 (work Square (pos 3)) None ∷ event.Submit 1 (work Square (pos 4)) (Some 0) ∷ event.HelperEnd 0
    ∷ event.Drain [] [] ∷ event.Drain [] [] ∷ event.Start 0 1 ∷ event.Finish 0 1 (Good (pos 16)) ∷ event.Start 0 0
    ∷ event.Finish 0 0 (Good (pos 9)) ∷ event.Drain (1 ∷ 0 ∷ []) [] ∷ event.Drain [] [] ∷ event.Close ∷ []

-- what the scheduler asked there, and what it was told
abbrev pub helper_asks : List Ask
helper_asks =
    ask.Drain ∷ ask.HelperNew 0 ∷ ask.HelperNew 1 ∷ ask.Submit 0 (work Square (pos 3)) None
    ∷ ask.Submit 1 (work Square (pos 4)) (Some 0) ∷ ask.HelperEnd 0 ∷ ask.Drain ∷ ask.Drain ∷ ask.Drain ∷ ask.Drain
    ∷ ask.Close ∷ []

abbrev pub helper_replies : List Reply
helper_replies =
    brings [] ∷ Granted true ∷ Granted false ∷ Done ∷ Done ∷ Done ∷ brings [] ∷ brings []
    ∷ brings ((1, Good (pos 16)) ∷ (0, Good (pos 9)) ∷ []) ∷ brings [] ∷ Done ∷ []
