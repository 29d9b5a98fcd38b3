-- What each call of a hub leaves, by the pass before it and after it. Own; after Async's thread pool.
use Rattle.std.specs.Prelude.{ℕ, ℤ, ◌<◌, ◌≡◌, ◌≢◌, ◌⊎◌, Bool, true, false, List, [], ◌∷◌, length, count_by, is_some, Option}
use Rattle.ak_labor.specs.Arrived.{Arrived}
use Rattle.ak_labor.specs.Waits.{outstanding, left_after}
use Rattle.ak_history.specs.declared.event.Event.{Event}
use Rattle.ak_history.specs.declared.event.Event.TheVariants as event
use Rattle.ak_history.specs.Events.{is_helper_new, helper_answer, owed, asked, unfetched}
use Rattle.ak_history.specs.Scheduler.{asks, replies}
use Rattle.ak_pool.specs.declared.pool.Taken.{Taken}
use Rattle.ak_pool.specs.declared.pool.Taken.TheVariants.{Got, NotYet, Closed}
use Rattle.ak_pool.specs.Pools.{brought, owes}
use Rattle.ak_pool.specs.Takes.{Takes}
use Rattle.ak_turn.specs.Entries.{events}
use Rattle.ak_turn.specs.Seen.{PassView}
use Rattle.ak_hub.specs.declared.asking.RequestRefused.{RequestRefused}
use Rattle.ak_hub.specs.Askings.{Refuses, CannotEnd, Tells}
use Rattle.ak_hub.specs.Hubs.{HubState, Gave, seen_by}

-- some work is outstanding: it was handed in, and no drain has brought it
abbrev pub SomeOutstanding : ℕ → List Event → Type 0
SomeOutstanding askers history = outstanding (asks history) (replies askers history) ≢ []

-- some of so many askers had not ended when the last drain came; where none came yet, there is some asker
abbrev pub SomeLeft : ℕ → List Event → Type 0
SomeLeft askers history = 0 < left_after askers (replies askers history)

-- there may be something to wait for: a work, or a request or the end of an asker
abbrev pub MayOwe : ℕ → List Event → Type 0
MayOwe askers history = SomeOutstanding askers history ⊎ SomeLeft askers history

-- in one hold the pass gave this event
abbrev pub Gives : HubState → PassView Event → Event → PassView Event → Type 0
Gives h p e q = (was : List (ℕ × Event)) × Gave h p was (e ∷ []) q

-- in one hold the pass gave nothing
abbrev pub GivesNothing : HubState → PassView Event → PassView Event → Type 0
GivesNothing h p q = (was : List (ℕ × Event)) × Gave h p was [] q

-- in one hold the pass fetched the finished works and the requests that were not fetched
abbrev pub Fetches : HubState → PassView Event → Arrived → PassView Event → Type 0
Fetches h p into q =
    (was : List (ℕ × Event))
    × Gave h p was (event.Drain (owed (events was)) (unfetched (events was)) ∷ []) q
    × (into ≡ brought h.askers (events was))

-- in one hold the pass asked for a helper, and was answered by the history that the hold began with
abbrev pub AsksHelper : HubState → PassView Event → Bool → PassView Event → Type 0
AsksHelper h p granted q =
    (was : List (ℕ × Event))
    × Gave h p was (event.HelperNew (count_by is_helper_new (seen_by p)) (helper_answer h.threads (events was)) ∷ []) q
    × (granted ≡ is_some (helper_answer h.threads (events was)))

-- in one hold the pass gave nothing and saw that a drain has something to tell
abbrev pub SeesOwed : HubState → PassView Event → PassView Event → Type 0
SeesOwed h p q = (was : List (ℕ × Event)) × Gave h p was [] q × (owes (events was) ≡ true)

-- the event of an answer to a thread that asks for a work
abbrev pub starts : ℕ → Taken → List Event
starts thread (Got id work) = event.Start thread id ∷ []
starts thread NotYet = []
starts thread Closed = []

-- in one hold, which began with this log, the thread was given what the pool gives by it
abbrev pub Took : HubState → PassView Event → List (ℕ × Event) → ℕ → Taken → PassView Event → Type 0
Took h p was thread taken q =
    Gave h p was (starts thread taken) q × Takes h.threads (events was) thread taken (seen_by q)

-- in one hold the thread was given what the pool gives by the history that the hold began with
abbrev pub IsAnswered : HubState → PassView Event → ℕ → Taken → PassView Event → Type 0
IsAnswered h p thread taken q = (was : List (ℕ × Event)) × Took h p was thread taken q

-- in one hold the asker made a request, under the number of how many were made before
abbrev pub Requests : HubState → PassView Event → ℕ → ℤ → ℕ → PassView Event → Type 0
Requests h p asker num q p' =
    (was : List (ℕ × Event)) × Gave h p was (event.Request q asker num ∷ []) p' × (q ≡ length (asked (events was)))

-- in one hold no request was made, for this reason
abbrev pub RequestsNone : HubState → PassView Event → ℕ → RequestRefused → PassView Event → Type 0
RequestsNone h p asker why p' = (was : List (ℕ × Event)) × Gave h p was [] p' × Refuses asker (events was) why

-- in one hold the asker ended, or did not where it cannot
abbrev pub EndsAsker : HubState → PassView Event → ℕ → Bool → PassView Event → Type 0
EndsAsker h p asker true p' = Gives h p (event.AskerEnd asker) p'
EndsAsker h p asker false p' = (was : List (ℕ × Event)) × Gave h p was [] p' × CannotEnd asker (events was)

-- in one hold the pass gave nothing, and was told the answer to a request, or that none comes
abbrev pub IsTold : HubState → PassView Event → ℕ → Option ℤ → PassView Event → Type 0
IsTold h p q answer p' = (was : List (ℕ × Event)) × Gave h p was [] p' × Tells (events was) q answer

-- the pass has gone through holds in which it gave nothing
abbrev pub HasOnlySeen : HubState → PassView Event → PassView Event → Type 0
HasOnlySeen h p q = (q ≡ p) ⊎ GivesNothing h p q
