-- Pins of legal histories with askers: each has one event more than is legal, about one rule, as another implementation judges
-- them.
use Rattle.std.specs.Prelude.{pos, List, [], ◌∷◌}
use Rattle.ak_history.specs.declared.event.Event.{Event}
use Rattle.ak_history.specs.declared.event.Event.TheVariants as event

-- a request is answered after its drain
abbrev pub answer_before_its_drain_before : List Event
answer_before_its_drain_before = (event.Drain [] [] ∷ event.Drain [] [] ∷ event.Request 0 0 (pos 5) ∷ [])

abbrev pub answer_before_its_drain_event : Event
answer_before_its_drain_event = event.Answered 0 (pos 6)

-- a request is answered once
abbrev pub answer_twice_before : List Event
answer_twice_before = (event.Drain [] [] ∷ event.Drain [] [] ∷ event.Request 0 0 (pos 5) ∷ event.Drain [] (0 ∷ []) ∷
    event.Drain [] [] ∷ event.Answered 0 (pos 6) ∷ [])

abbrev pub answer_twice_event : Event
answer_twice_event = event.Answered 0 (pos 6)

-- an asker ends once
abbrev pub asker_ends_twice_before : List Event
asker_ends_twice_before = (event.Drain [] [] ∷ event.Drain [] [] ∷ event.AskerEnd 0 ∷ [])

abbrev pub asker_ends_twice_event : Event
asker_ends_twice_event = event.AskerEnd 0

-- an asker does not end while its request waits
abbrev pub asker_ends_while_it_waits_before : List Event
asker_ends_while_it_waits_before = (event.Drain [] [] ∷ event.Drain [] [] ∷ event.Request 0 0 (pos 5) ∷ [])

abbrev pub asker_ends_while_it_waits_event : Event
asker_ends_while_it_waits_event = event.AskerEnd 0

-- a drain has all requests
abbrev pub drain_without_its_request_before : List Event
drain_without_its_request_before = (event.Drain [] [] ∷ event.Drain [] [] ∷ event.Request 0 0 (pos 5) ∷ [])

abbrev pub drain_without_its_request_event : Event
drain_without_its_request_event = event.Drain [] []

-- an asker that ends is one
abbrev pub no_such_asker_ends_before : List Event
no_such_asker_ends_before = (event.Drain [] [] ∷ event.Drain [] [] ∷ [])

abbrev pub no_such_asker_ends_event : Event
no_such_asker_ends_event = event.AskerEnd 1

-- an answer ends the waiting of its asker alone
abbrev pub request_again_after_the_answer_before : List Event
request_again_after_the_answer_before = (event.Drain [] [] ∷ event.Drain [] [] ∷ event.Request 0 1 (pos 5) ∷ event.Request 1 0 (pos 6) ∷
    event.Drain [] (0 ∷ 1 ∷ []) ∷ event.Drain [] [] ∷ event.Answered 1 (pos 7) ∷ event.Request 2 0 (pos 8) ∷
    [])

abbrev pub request_again_after_the_answer_event : Event
request_again_after_the_answer_event = event.Request 3 1 (pos 9)

-- requests count from 0
abbrev pub request_numbers_before : List Event
request_numbers_before = (event.Drain [] [] ∷ event.Drain [] [] ∷ [])

abbrev pub request_numbers_event : Event
request_numbers_event = event.Request 1 0 (pos 5)

-- an asker that has ended makes no request, another one may
abbrev pub request_of_the_asker_that_ended_before : List Event
request_of_the_asker_that_ended_before = (event.Drain [] [] ∷ event.Drain [] [] ∷ event.AskerEnd 2 ∷ event.Request 0 0 (pos 5) ∷ [])

abbrev pub request_of_the_asker_that_ended_event : Event
request_of_the_asker_that_ended_event = event.Request 1 2 (pos 6)

-- no request without askers
abbrev pub request_without_askers_before : List Event
request_without_askers_before = (event.Drain [] [] ∷ event.Drain [] [] ∷ [])

abbrev pub request_without_askers_event : Event
request_without_askers_event = event.Request 0 0 (pos 5)
