-- A text as it is read: which history it is, and its first bad line. It takes more spellings than the writer makes:
-- lines and words as in scripts, numbers with leading zeros, and runs of empty drains in more lines than one.
use Rattle.std.specs.Prelude.{◌≡◌, ℕ, ◌+◌, ◌<◌, ◌≤◌, Option, Some, None, List, [], ◌∷◌, ◌++◌, map, filter, flat_map, length, replicate, codes}
use Rattle.std.specs.List.{AllZip, AllByRecursion, zip}
use Rattle.ak_text.specs.Lines.{TextLine, numbered, lines_of, counts}
use Rattle.ak_print.specs.Work.{kind_word}
use Rattle.ak_row.specs.Places.{Place, Exactly, Thing, LongNumber, Signed, Counted, IsRow, outcome_places}
use Rattle.ak_row.specs.Plain.{IsPlain}
use Rattle.ak_history.specs.declared.event.Event.{Event}
use Rattle.ak_history.specs.declared.event.Event.TheVariants as event
use Rattle.ak_history.specs.declared.line.HistoryLine.{HistoryLine}
use Rattle.ak_history.specs.declared.line.HistoryLine.TheVariants.{Idle, Of}
use Rattle.ak_history.specs.Text.{history_lines}

-- for whom a work is, in front of the work
abbrev pub submit_places : Option ℕ → List Place → List Place
submit_places None places = Exactly (codes "general") ∷ places
submit_places (Some helper) places = Exactly (codes "helper") ∷ Thing helper ∷ places

-- what a helper is answered
abbrev pub answer_places : Option ℕ → List Place
answer_places None = Exactly (codes "refused") ∷ []
answer_places (Some thread) = Exactly (codes "granted") ∷ Thing thread ∷ []

-- the requests of a drain behind its works, if there are any
abbrev pub request_places : List ℕ → List Place
request_places [] = []
request_places (q ∷ requests) = Exactly (codes "requests") ∷ map LongNumber (q ∷ requests)

-- the words of an event's line
abbrev pub event_row : Event → List Place
event_row (event.Submit id work helper) =
    Exactly (codes "submit") ∷ Thing id ∷ submit_places helper (Exactly (kind_word work.kind) ∷ Signed work.num ∷ [])
event_row (event.Start thread id) = Exactly (codes "start") ∷ Thing thread ∷ Thing id ∷ []
event_row (event.Finish thread id outcome) = Exactly (codes "finish") ∷ Thing thread ∷ Thing id ∷ outcome_places outcome
event_row (event.Request q asker n) = Exactly (codes "request") ∷ LongNumber q ∷ Thing asker ∷ Signed n ∷ []
event_row (event.AskerEnd asker) = Exactly (codes "askerend") ∷ Thing asker ∷ []
event_row (event.Drain ids requests) = Exactly (codes "drain") ∷ map Thing ids ++ request_places requests
event_row (event.Answered q n) = Exactly (codes "answered") ∷ LongNumber q ∷ Signed n ∷ []
event_row (event.HelperNew helper answer) = Exactly (codes "helper") ∷ Thing helper ∷ answer_places answer
event_row (event.HelperEnd helper) = Exactly (codes "helperend") ∷ Thing helper ∷ []
event_row event.Close = Exactly (codes "close") ∷ []

-- the words of a line
abbrev pub line_row : HistoryLine → List Place
line_row (Idle n) = Exactly (codes "idle") ∷ Counted n ∷ []
line_row (Of e) = event_row e

-- a drain with a line of its own brings a work or a request
abbrev pub BringsSome : HistoryLine → Type 0
BringsSome (Of (event.Drain ids requests)) = 1 ≤ length ids + length requests
BringsSome _ = Unit {0}

-- the line of the text is that line of a history
pub record IsHistoryLine (row : HistoryLine) (line : TextLine) : Type 0 where
  pub words : IsRow (line_row row) line
  pub brings : BringsSome row

-- the events of a line: so many drains that bring nothing, or one event
abbrev pub line_events : HistoryLine → List Event
line_events (Idle n) = replicate n (event.Drain [] [])
line_events (Of e) = e ∷ []

-- the events of lines, one behind the other
abbrev pub rows_events : List HistoryLine → List Event
rows_events rows = flat_map line_events rows

-- the number of the text's line for each event
abbrev pub rows_numbers : List HistoryLine → List TextLine → List ℕ
rows_numbers rows lines = flat_map (λ p. replicate (length (line_events p.0)) p.1.number) (zip rows lines)

-- the lines of a text that are not skipped, where its first line has that number
abbrev pub lines_from : ℕ → List ℕ → List TextLine
lines_from first bytes = filter counts (numbered first (lines_of bytes))

-- the most events of a text
abbrev pub most_events : ℕ
most_events = 16000000

-- The text, whose first line has the number `first`, is that history: its lines are lines of a history, whose events are
-- those, at most 16,000,000; and the events come from the lines of those numbers.
pub record HistoryReads (bytes : List ℕ) (first : ℕ) (events : List Event) (lines : List ℕ) : Type 0 where
  pub rows : List HistoryLine
  pub each : AllZip IsHistoryLine rows (lines_from first bytes)
  pub events_are : events ≡ rows_events rows
  pub lines_are : lines ≡ rows_numbers rows (lines_from first bytes)
  pub few : length events ≤ most_events

-- the line is no line of a history, or its events are too many behind so many
abbrev pub IsBadBehind : ℕ → TextLine → Type 0
IsBadBehind count line = (row : HistoryLine) → IsHistoryLine row line → most_events < count + length (line_events row)

-- The first bad line of the text has that number: those before it are lines of a history with few enough events.
pub record IsFirstBad (bytes : List ℕ) (first : ℕ) (number : ℕ) : Type 0 where
  pub before : List TextLine
  pub line : TextLine
  pub after : List TextLine
  pub rows : List HistoryLine
  pub cut : lines_from first bytes ≡ before ++ line ∷ after
  pub each : AllZip IsHistoryLine rows before
  pub few : length (rows_events rows) ≤ most_events
  pub bad : IsBadBehind (length (rows_events rows)) line
  pub number_is : number ≡ line.number

-- ---- what is read back
-- numbers of things are below 2 ^ 32, those of requests below 2 ^ 64, and other numbers are of 64 bits with a sign
abbrev pub IsInRange : Event → Type 0
IsInRange e = AllByRecursion IsPlain (event_row e)

-- a run of at most 1,000,000 empty drains
abbrev pub IsShortRun : HistoryLine → Type 0
IsShortRun (Idle n) = n ≤ 1000000
IsShortRun (Of e) = Unit {0}

-- the numbers lie in their ranges, no run of empty drains is longer than 1,000,000, and the events are not too many
pub record IsReadable (events : List Event) : Type 0 where
  pub in_range : AllByRecursion IsInRange events
  pub short_runs : AllByRecursion IsShortRun (history_lines events)
  pub few : length events ≤ most_events
