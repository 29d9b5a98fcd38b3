-- The text of a history: a line for each event, but one for each run of drains that bring nothing.
use Rattle.std.specs.Prelude.{ℕ, zero, suc, ◌+◌, List, [], ◌∷◌, ◌++◌, map, flat_map, codes, decimal, Option, Some, None}
use Rattle.ak_text.specs.Decimal.{decimal_of}
use Rattle.ak_print.specs.Line.{line_text}
use Rattle.ak_print.specs.Work.{kind_word, outcome_words}
use Rattle.ak_history.specs.declared.event.Event.{Event}
use Rattle.ak_history.specs.declared.event.Event.TheVariants as event
use Rattle.ak_history.specs.declared.line.HistoryLine.{HistoryLine}
use Rattle.ak_history.specs.declared.line.HistoryLine.TheVariants.{Idle, Of}

-- The lines with an event in front: an empty drain joins the run that follows it.
abbrev pub with_event : Event → List HistoryLine → List HistoryLine
with_event (event.Drain [] []) (Idle n ∷ lines) = Idle (n + 1) ∷ lines
with_event (event.Drain [] []) lines = Idle 1 ∷ lines
with_event e lines = Of e ∷ lines

-- the lines of a history
abbrev pub history_lines : List Event → List HistoryLine
history_lines [] = []
history_lines (e ∷ events) = with_event e (history_lines events)

-- for whom a work is: any thread, or the thread of a helper
abbrev pub submit_words : Option ℕ → List (List ℕ) → List (List ℕ)
submit_words None words = codes "general" ∷ words
submit_words (Some helper) words = codes "helper" ∷ decimal helper ∷ words

-- the answer to a helper: its thread, if one was free
abbrev pub answer_words : Option ℕ → List (List ℕ)
answer_words None = codes "refused" ∷ []
answer_words (Some thread) = codes "granted" ∷ decimal thread ∷ []

-- the requests of a drain behind its works, if there are any
abbrev pub request_words : List ℕ → List (List ℕ)
request_words [] = []
request_words (q ∷ requests) = codes "requests" ∷ map decimal (q ∷ requests)

-- the words of an event's line
abbrev pub event_words : Event → List (List ℕ)
event_words (event.Submit id work helper) =
    codes "submit" ∷ decimal id ∷ submit_words helper (kind_word work.kind ∷ decimal_of work.num ∷ [])
event_words (event.Start thread id) = codes "start" ∷ decimal thread ∷ decimal id ∷ []
event_words (event.Finish thread id outcome) = codes "finish" ∷ decimal thread ∷ decimal id ∷ outcome_words outcome
event_words (event.Request q asker n) = codes "request" ∷ decimal q ∷ decimal asker ∷ decimal_of n ∷ []
event_words (event.AskerEnd asker) = codes "askerend" ∷ decimal asker ∷ []
event_words (event.Drain ids requests) = codes "drain" ∷ map decimal ids ++ request_words requests
event_words (event.Answered q n) = codes "answered" ∷ decimal q ∷ decimal_of n ∷ []
event_words (event.HelperNew helper answer) = codes "helper" ∷ decimal helper ∷ answer_words answer
event_words (event.HelperEnd helper) = codes "helperend" ∷ decimal helper ∷ []
event_words event.Close = codes "close" ∷ []

-- an event's line
abbrev pub event_text : Event → List ℕ
event_text e = line_text (event_words e)

-- the line of a run of empty drains, if there are any
abbrev pub idle_text : ℕ → List ℕ
idle_text zero = []
idle_text (suc n) = line_text (codes "idle" ∷ decimal (suc n) ∷ [])

-- a line
abbrev pub history_line_text : HistoryLine → List ℕ
history_line_text (Idle n) = idle_text n
history_line_text (Of e) = event_text e

-- the text of a history
abbrev pub history_text : List Event → List ℕ
history_text events = flat_map history_line_text (history_lines events)

-- a number of a list and the space in front of it
abbrev pub id_text : ℕ → List ℕ
id_text id = 32 ∷ decimal id

-- the requests of a drain, with the space in front of them, if there are any
abbrev pub requests_text : List ℕ → List ℕ
requests_text [] = []
requests_text (q ∷ requests) = codes " requests" ++ flat_map id_text (q ∷ requests)
