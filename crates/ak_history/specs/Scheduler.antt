-- The scheduler's part of a history: its calls and their replies. Own.
use Rattle.std.specs.Prelude.{ℕ, ℤ, List, [], ◌∷◌, ◌++◌, find, ◌==◌, Option, Some, None, is_some}
use Rattle.std.specs.Option.{option_map}
use Rattle.std.specs.List.{filter_map}
use Rattle.ak_labor.specs.declared.work.Outcome.{Outcome}
use Rattle.ak_labor.specs.declared.ask.Ask.{Ask}
use Rattle.ak_labor.specs.declared.ask.Ask.TheVariants as ask
use Rattle.ak_labor.specs.Arrived.{Arrived}
use Rattle.ak_labor.specs.Calls.{Reply, Drained, Granted, Done}
use Rattle.ak_history.specs.declared.event.Event.{Event}
use Rattle.ak_history.specs.declared.event.Event.TheVariants as event
use Rattle.ak_history.specs.Events.{finished, asked, askers_left}

-- the call that an event of the scheduler stands for; the events of workers and askers stand for none
abbrev pub ask_of : Event → Option Ask
ask_of (event.Submit id work helper) = Some (ask.Submit id work helper)
ask_of (event.Start thread id) = None
ask_of (event.Finish thread id outcome) = None
ask_of (event.Request q asker n) = None
ask_of (event.AskerEnd asker) = None
ask_of (event.Drain ids requests) = Some ask.Drain
ask_of (event.Answered q v) = Some (ask.Answer q v)
ask_of (event.HelperNew h answer) = Some (ask.HelperNew h)
ask_of (event.HelperEnd h) = Some (ask.HelperEnd h)
ask_of event.Close = Some ask.Close

-- what a finished work came to
abbrev pub finish_in : List Event → ℕ → Option (ℕ × Outcome)
finish_in history id = find (λ f. f.0 == id) (finished history)

-- a request that was made, with the number that it asks with
abbrev pub request_in : List Event → ℕ → Option (ℕ × ℤ)
request_in history q = option_map (λ r. (r.no, r.num)) (find (λ r. r.no == q) (asked history))

-- what a drain behind these events brings: its works with what they came to, its requests with their numbers, and how many
-- of so many askers have not ended
abbrev pub arrived_in : ℕ → List Event → List ℕ → List ℕ → Arrived
arrived_in askers before ids requests =
    record {
      works = filter_map (finish_in before) ids;
      requests = filter_map (request_in before) requests;
      left = askers_left askers before;
    }

-- the reply to the call of an event behind others: what a drain brings, whether a helper's answer is a thread
abbrev pub reply_in : ℕ → List Event → Event → Option Reply
reply_in askers before (event.Submit id work helper) = Some Done
reply_in askers before (event.Start thread id) = None
reply_in askers before (event.Finish thread id outcome) = None
reply_in askers before (event.Request q asker n) = None
reply_in askers before (event.AskerEnd asker) = None
reply_in askers before (event.Drain ids requests) = Some (Drained (arrived_in askers before ids requests))
reply_in askers before (event.Answered q v) = Some Done
reply_in askers before (event.HelperNew h answer) = Some (Granted (is_some answer))
reply_in askers before (event.HelperEnd h) = Some Done
reply_in askers before event.Close = Some Done

-- a reply in front of others, where there is one
abbrev pub reply_before : Option Reply → List Reply → List Reply
reply_before None replies = replies
reply_before (Some reply) replies = reply ∷ replies

-- the replies to the calls of events behind others
abbrev pub replies_after : ℕ → List Event → List Event → List Reply
replies_after askers before [] = []
replies_after askers before (e ∷ events) =
    reply_before (reply_in askers before e) (replies_after askers (before ++ e ∷ []) events)

-- the scheduler's calls, in order
abbrev pub asks : List Event → List Ask
asks history = filter_map ask_of history

-- the replies to them, in order, where there are so many askers
abbrev pub replies : ℕ → List Event → List Reply
replies askers history = replies_after askers [] history
