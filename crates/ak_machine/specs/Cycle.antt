-- The begin of a cycle, arrivals, and what is left to do. From Async's scheduler in outline; the order of a cycle, requests from
-- outside and the end called stuck are own.
use Rattle.std.specs.Prelude.{ℕ, ℤ, List, [], ◌∷◌, Bool, false, not, ◌||◌, ◌&&◌, ◌==◌, nat_le, nat_lt, Option, Some, None, is_none, length, filter, find, count_by, if◌then◌else◌}
use Rattle.std.specs.List.{list_all}
use Rattle.ak_base.specs.Lists.{is_empty_list}
use Rattle.ak_labor.specs.declared.work.Outcome.{Outcome}
use Rattle.ak_labor.specs.declared.work.Outcome.TheVariants.{Good, Bad}
use Rattle.ak_base.specs.declared.number.Ctx.{Ctx}
use Rattle.ak_frames.specs.declared.value.Value.TheVariants.{Num}
use Rattle.ak_frames.specs.declared.frame.Ret.TheVariants.{To}
use Rattle.ak_frames.specs.declared.frame.Frame.TheVariants.{AnswerOut}
use Rattle.ak_trace.specs.declared.entry.Entry.TheVariants as entry
use Rattle.ak_rings.specs.Queues.{recounted, has_no_job}
use Rattle.ak_clock.specs.Clock.{has_yield, has_due}
use Rattle.ak_machine.specs.declared.flow.Flow.TheVariants as flow
use Rattle.ak_machine.specs.declared.held.Outstanding.{Outstanding}
use Rattle.ak_machine.specs.State.{State, next_ivar}
use Rattle.ak_machine.specs.Deferred.{noting, called, with_ivar, fill, register}
use Rattle.ak_machine.specs.Alarms.{yields_filled, alarms_filled}
use Rattle.ak_machine.specs.Errors.{After, going_on, send}
use Rattle.ak_machine.specs.Works.{is_active, with_request, is_unanswered}

-- a cycle begins: none of its jobs ran, all pending yields are filled, and then all alarms that are due
abbrev pub cycle_begun : State → State
cycle_begun s = alarms_filled (yields_filled (noting entry.Cycle (record s { queues = recounted s.queues })))

-- whether a job waits, a yield is pending or an alarm is due
abbrev pub has_more : State → Bool
has_more s = not (has_no_job s.queues) || has_yield s.clock || has_due s.clock

-- whether a work is for no helper
abbrev pub is_general : Outstanding → Bool
is_general work = is_none work.helper

-- whether some work is outstanding, every outstanding work is general, and at least as many helpers as there are threads are
-- granted and not ended
abbrev pub is_stuck : ℕ → State → Bool
is_stuck threads s =
    not (is_empty_list s.works) && list_all is_general s.works && nat_le threads (count_by is_active s.helpers)

-- whether a work has the number
abbrev pub is_work : ℕ → Outstanding → Bool
is_work w work = work.number == w

-- whether it has another
abbrev pub is_other_work : ℕ → Outstanding → Bool
is_other_work w work = not (work.number == w)

-- a value fills the result of the work; an error is sent to the monitor of the context that submitted it
abbrev pub outcome_given : Outcome → Outstanding → State → After
outcome_given (Good v) work s = going_on (fill work.to v s)
outcome_given (Bad e) work s = send work.ctx.mon e s

-- the outcome of an outstanding work arrives
abbrev pub arrival_of : Option Outstanding → ℕ → Outcome → State → Option After
arrival_of None w outcome s = None
arrival_of (Some work) w outcome s =
    Some (outcome_given outcome work (noting (entry.Arrive w outcome) (record s { works = filter (is_other_work w) s.works })))

-- a work arrives, and is outstanding no longer: none where it was not outstanding
abbrev pub arrive : ℕ → Outcome → State → Option After
arrive w outcome s = arrival_of (find (is_work w) s.works) w outcome s

-- the works of a drain arrive in order, until one ends the run; those behind it are not looked at
abbrev pub arrive_all : List (ℕ × Outcome) → State → Option After
arrive_all [] s = Some (going_on s)
arrive_all (pair ∷ pairs) s =
    elim (arrive pair.0 pair.1 s) [
      | None ↦ None
      | Some after ↦ elim after.flow [
        | flow.On ↦ arrive_all pairs after.state
        | flow.Stopped ↦ Some after
        | flow.Unhandled e ↦ Some after
      ]
    ]

-- the root monitor, at normal priority
abbrev pub at_root : Ctx
at_root = record { mon = 0; low = false }

-- a request arrives with its number: its answer goes out from a fresh deferred, to which the call of `ask` returns
abbrev pub request_arrived : ℕ → ℕ → ℤ → State → State
request_arrived ask q n s =
    let r : ℕ = next_ivar s
    in called at_root ask (Num n ∷ []) (To r)
    (register r at_root (AnswerOut q) (noting (entry.Request q n r) (with_request q r (with_ivar s))))

-- a request of the next number arrives: none where it has another number
abbrev pub arrive_request : ℕ → ℕ × ℤ → State → Option State
arrive_request ask request s =
    if request.0 == length s.requests then Some (request_arrived ask request.0 request.1 s) else None

-- the requests of a drain arrive in order
abbrev pub arrive_requests : ℕ → List (ℕ × ℤ) → State → Option State
arrive_requests ask [] s = Some s
arrive_requests ask (request ∷ requests) s =
    elim (arrive_request ask request s) [ None ↦ None | Some s' ↦ arrive_requests ask requests s' ]

-- the procedure that serves requests, where there are askers
abbrev pub served_by : Option ℕ → ℕ → Option ℕ
served_by ask askers = if nat_lt 0 askers then ask else None

-- the requests of a drain arrive where a procedure serves them, and there are none where none does
abbrev pub requests_served : Option ℕ → List (ℕ × ℤ) → State → Option State
requests_served (Some ask) requests s = arrive_requests ask requests s
requests_served None [] s = Some s
requests_served None (request ∷ requests) s = None

-- so many askers are left
abbrev pub with_left : ℕ → State → State
with_left left s = record s { left = left }

-- whether every asker that is left waits for an answer
abbrev pub is_quiet : State → Bool
is_quiet s = count_by is_unanswered s.requests == s.left
