-- Pins of legal histories: each has one event more than is legal, about one rule, as another implementation judges them.
use Rattle.std.specs.Prelude.{pos, List, [], ◌∷◌, Some, None}
use Rattle.ak_labor.specs.declared.work.Outcome.TheVariants as outcome
use Rattle.ak_labor.specs.declared.work.WorkKind.TheVariants as kind
use Rattle.ak_history.specs.declared.event.Event.{Event}
use Rattle.ak_history.specs.declared.event.Event.TheVariants as event
use Rattle.ak_rows.specs.Row.{work}

-- a drain is not empty where a work has finished
abbrev pub drain_nothing_before : List Event
drain_nothing_before = (event.Drain [] [] ∷ event.Submit 0 (work kind.Square (pos 3)) None ∷ event.Start 0 0 ∷
    event.Finish 0 0 (outcome.Good (pos 9)) ∷ [])

abbrev pub drain_nothing_event : Event
drain_nothing_event = event.Drain [] []

-- a helper ends once
abbrev pub end_of_a_helper_twice_before : List Event
end_of_a_helper_twice_before = (event.Drain [] [] ∷ event.HelperNew 0 (Some 0) ∷ event.HelperEnd 0 ∷ [])

abbrev pub end_of_a_helper_twice_event : Event
end_of_a_helper_twice_event = event.HelperEnd 0

-- an ended helper was granted
abbrev pub end_of_no_helper_before : List Event
end_of_no_helper_before = (event.Drain [] [] ∷ [])

abbrev pub end_of_no_helper_event : Event
end_of_no_helper_event = event.HelperEnd 0

-- a work may finish after the close, and then nothing else comes
abbrev pub finish_after_close_before : List Event
finish_after_close_before = (event.Drain [] [] ∷ event.Submit 0 (work kind.Square (pos 3)) None ∷ event.Start 0 0 ∷
    event.Close ∷ event.Finish 0 0 (outcome.Good (pos 9)) ∷ [])

abbrev pub finish_after_close_event : Event
finish_after_close_event = event.Close

-- a work finishes after its start
abbrev pub finish_of_a_work_not_started_before : List Event
finish_of_a_work_not_started_before = (event.Drain [] [] ∷ event.Submit 0 (work kind.Square (pos 3)) None ∷ [])

abbrev pub finish_of_a_work_not_started_event : Event
finish_of_a_work_not_started_event = event.Finish 0 0 (outcome.Good (pos 9))

-- a work finishes once
abbrev pub finish_twice_before : List Event
finish_twice_before = (event.Drain [] [] ∷ event.Submit 0 (work kind.Square (pos 3)) None ∷ event.Start 0 0 ∷
    event.Finish 0 0 (outcome.Good (pos 9)) ∷ [])

abbrev pub finish_twice_event : Event
finish_twice_event = event.Finish 0 0 (outcome.Good (pos 9))

-- a general work that runs takes one, too
abbrev pub helper_granted_though_one_runs_before : List Event
helper_granted_though_one_runs_before = (event.Drain [] [] ∷ event.Submit 0 (work kind.Square (pos 3)) None ∷ event.Submit 1 (work kind.Square (pos 4)) None ∷
    event.Start 0 0 ∷ [])

abbrev pub helper_granted_though_one_runs_event : Event
helper_granted_though_one_runs_event = event.HelperNew 0 (Some 1)

-- helpers count from 0, the refused ones too
abbrev pub helper_numbers_in_history_before : List Event
helper_numbers_in_history_before = (event.Drain [] [] ∷ event.HelperNew 0 (Some 0) ∷ event.HelperNew 1 None ∷ [])

abbrev pub helper_numbers_in_history_event : Event
helper_numbers_in_history_event = event.HelperNew 1 None

-- a finished work takes none
abbrev pub helper_refused_after_the_works_before : List Event
helper_refused_after_the_works_before = (event.Drain [] [] ∷ event.Submit 0 (work kind.Square (pos 3)) None ∷ event.Start 0 0 ∷
    event.Finish 0 0 (outcome.Good (pos 9)) ∷ [])

abbrev pub helper_refused_after_the_works_event : Event
helper_refused_after_the_works_event = event.HelperNew 0 None

-- a work of a helper takes no thread beside the reserved one
abbrev pub helpers_running_work_takes_no_second_before : List Event
helpers_running_work_takes_no_second_before = (event.Drain [] [] ∷ event.HelperNew 0 (Some 0) ∷ event.Submit 0 (work kind.Square (pos 3)) (Some 0) ∷
    event.Start 0 0 ∷ [])

abbrev pub helpers_running_work_takes_no_second_event : Event
helpers_running_work_takes_no_second_event = event.HelperNew 1 None

-- a work of a helper does not start while its thread runs
abbrev pub helpers_thread_runs_one_before : List Event
helpers_thread_runs_one_before = (event.Drain [] [] ∷ event.HelperNew 0 (Some 0) ∷ event.Submit 0 (work kind.Square (pos 3)) (Some 0) ∷
    event.Submit 1 (work kind.Square (pos 4)) (Some 0) ∷ event.Start 0 0 ∷ [])

abbrev pub helpers_thread_runs_one_event : Event
helpers_thread_runs_one_event = event.Start 0 1

-- a work of a helper starts once
abbrev pub helpers_work_once_before : List Event
helpers_work_once_before = (event.Drain [] [] ∷ event.HelperNew 0 (Some 0) ∷ event.Submit 0 (work kind.Square (pos 3)) (Some 0) ∷
    event.Start 0 0 ∷ event.Finish 0 0 (outcome.Good (pos 9)) ∷ [])

abbrev pub helpers_work_once_event : Event
helpers_work_once_event = event.Start 0 0

-- a work of a helper starts on the thread that the helper got
abbrev pub helpers_work_where_it_got_its_thread_before : List Event
helpers_work_where_it_got_its_thread_before = (event.Drain [] [] ∷ event.Submit 0 (work kind.Square (pos 5)) None ∷ event.Start 0 0 ∷
    event.HelperNew 0 (Some 1) ∷ event.Submit 1 (work kind.Square (pos 3)) (Some 0) ∷
    event.Finish 0 0 (outcome.Good (pos 25)) ∷ [])

abbrev pub helpers_work_where_it_got_its_thread_event : Event
helpers_work_where_it_got_its_thread_event = event.Start 0 1

-- a work of a helper waits for those before it
abbrev pub helpers_works_one_after_another_before : List Event
helpers_works_one_after_another_before = (event.Drain [] [] ∷ event.HelperNew 0 (Some 0) ∷ event.Submit 0 (work kind.Square (pos 3)) (Some 0) ∷
    event.Submit 1 (work kind.Square (pos 4)) (Some 0) ∷ [])

abbrev pub helpers_works_one_after_another_event : Event
helpers_works_one_after_another_event = event.Start 0 1

-- free never falls below 0
abbrev pub more_works_than_threads_before : List Event
more_works_than_threads_before = (event.Drain [] [] ∷ event.HelperNew 0 (Some 0) ∷ event.Submit 0 (work kind.Square (pos 1)) None ∷
    event.Submit 1 (work kind.Square (pos 1)) None ∷ event.Submit 2 (work kind.Square (pos 1)) None ∷
    [])

abbrev pub more_works_than_threads_event : Event
more_works_than_threads_event = event.HelperNew 1 (Some 1)

-- a helper that is over frees its thread for general works
abbrev pub over_helper_frees_its_thread_before : List Event
over_helper_frees_its_thread_before = (event.Drain [] [] ∷ event.HelperNew 0 (Some 0) ∷ event.Submit 0 (work kind.Square (pos 3)) (Some 0) ∷
    event.Submit 1 (work kind.Square (pos 5)) None ∷ event.HelperEnd 0 ∷ event.Start 0 0 ∷
    event.Finish 0 0 (outcome.Good (pos 9)) ∷ event.Start 0 1 ∷ [])

abbrev pub over_helper_frees_its_thread_event : Event
over_helper_frees_its_thread_event = event.Finish 0 1 (outcome.Good (pos 9))

-- a helper that is not ended reserves its thread also when its works are finished
abbrev pub reserved_after_its_works_before : List Event
reserved_after_its_works_before = (event.Drain [] [] ∷ event.HelperNew 0 (Some 0) ∷ event.Submit 0 (work kind.Square (pos 3)) (Some 0) ∷
    event.Start 0 0 ∷ event.Finish 0 0 (outcome.Good (pos 9)) ∷ event.Submit 1 (work kind.Square (pos 4)) None ∷
    [])

abbrev pub reserved_after_its_works_event : Event
reserved_after_its_works_event = event.Start 0 1

-- a start names a thread
abbrev pub start_beyond_the_threads_before : List Event
start_beyond_the_threads_before = (event.Drain [] [] ∷ event.Submit 0 (work kind.Square (pos 3)) None ∷ event.Drain [] [] ∷
    [])

abbrev pub start_beyond_the_threads_event : Event
start_beyond_the_threads_event = event.Start 1 0

-- a thread runs one work
abbrev pub start_on_a_running_thread_before : List Event
start_on_a_running_thread_before = (event.Drain [] [] ∷ event.Submit 0 (work kind.Square (pos 3)) None ∷ event.Submit 1 (work kind.Square (pos 4)) None ∷
    event.Start 0 0 ∷ [])

abbrev pub start_on_a_running_thread_event : Event
start_on_a_running_thread_event = event.Start 0 1

-- general works start in order
abbrev pub start_out_of_order_before : List Event
start_out_of_order_before = (event.Drain [] [] ∷ event.Submit 0 (work kind.Square (pos 3)) None ∷ event.Submit 1 (work kind.Square (pos 4)) None ∷
    [])

abbrev pub start_out_of_order_event : Event
start_out_of_order_event = event.Start 0 1

-- no submit after the close
abbrev pub submit_after_close_before : List Event
submit_after_close_before = (event.Drain [] [] ∷ event.Drain [] [] ∷ event.Close ∷ [])

abbrev pub submit_after_close_event : Event
submit_after_close_event = event.Submit 0 (work kind.Square (pos 3)) None

-- submits count from 0
abbrev pub submit_numbers_before : List Event
submit_numbers_before = (event.Drain [] [] ∷ [])

abbrev pub submit_numbers_event : Event
submit_numbers_event = event.Submit 1 (work kind.Square (pos 3)) None

-- a named helper is granted
abbrev pub submit_to_a_refused_helper_before : List Event
submit_to_a_refused_helper_before = (event.Drain [] [] ∷ event.HelperNew 0 (Some 0) ∷ event.HelperNew 1 None ∷ [])

abbrev pub submit_to_a_refused_helper_event : Event
submit_to_a_refused_helper_event = event.Submit 0 (work kind.Square (pos 3)) (Some 1)

-- a named helper is not ended
abbrev pub submit_to_an_ended_helper_before : List Event
submit_to_an_ended_helper_before = (event.Drain [] [] ∷ event.HelperNew 0 (Some 0) ∷ event.HelperEnd 0 ∷ [])

abbrev pub submit_to_an_ended_helper_event : Event
submit_to_an_ended_helper_event = event.Submit 0 (work kind.Square (pos 3)) (Some 0)

-- a helper reserves the thread that it got, whatever its number
abbrev pub thread_of_its_helper_before : List Event
thread_of_its_helper_before = (event.Drain [] [] ∷ event.Submit 0 (work kind.Square (pos 3)) None ∷ event.Start 0 0 ∷
    event.HelperNew 0 (Some 1) ∷ event.Finish 0 0 (outcome.Good (pos 9)) ∷ event.Submit 1 (work kind.Square (pos 4)) None ∷
    [])

abbrev pub thread_of_its_helper_event : Event
thread_of_its_helper_event = event.Start 1 1

-- a general work that waits takes one thread from the free ones, not two
abbrev pub waiting_work_takes_one_thread_before : List Event
waiting_work_takes_one_thread_before = (event.Drain [] [] ∷ event.Submit 0 (work kind.Square (pos 3)) None ∷ [])

abbrev pub waiting_work_takes_one_thread_event : Event
waiting_work_takes_one_thread_event = event.HelperNew 0 None
