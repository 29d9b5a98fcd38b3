-- The history in a record: it is legal, or has a first line at fault. Own.
use Rattle.std.specs.Prelude.{ℕ, ◌≤◌, ◌≡◌, List, [], ◌∷◌, ◌++◌, length, Result, Ok, Err}
use Rattle.std.specs.List.{AllZip}
use Rattle.ak_text.specs.Lines.{TextLine}
use Rattle.ak_history.specs.declared.event.Event.{Event}
use Rattle.ak_history.specs.declared.line.HistoryLine.{HistoryLine}
use Rattle.ak_history.specs.Legal.{Legal}
use Rattle.ak_history.specs.Reading.{HistoryReads, IsHistoryLine, rows_events, lines_from, most_events}
use Rattle.ak_record.specs.declared.record.RecordRefused.{RecordRefused}
use Rattle.ak_record.specs.declared.record.RecordRefused.TheVariants.{BadHistory, NoMemory}

-- the bytes are a history, and it is legal for a pool of so many threads and askers
pub record IsRecord (threads askers : ℕ) (bytes : List ℕ) (first : ℕ) (history : List Event) : Type 0 where
  pub numbers : List ℕ
  pub reads : HistoryReads bytes first history numbers
  pub legal : Legal threads askers history

-- the lines are a legal history
pub record AreLegal (threads askers : ℕ) (lines : List TextLine) : Type 0 where
  pub rows : List HistoryLine
  pub each : AllZip IsHistoryLine rows lines
  pub few : length (rows_events rows) ≤ most_events
  pub legal : Legal threads askers (rows_events rows)

-- The line of this number is the first at fault: the lines before it are a legal history, and with it they are none.
pub record IsFault (threads askers : ℕ) (bytes : List ℕ) (first number : ℕ) : Type 0 where
  pub before : List TextLine
  pub line : TextLine
  pub after : List TextLine
  pub cut : lines_from first bytes ≡ before ++ line ∷ after
  pub right : AreLegal threads askers before
  pub wrong : AreLegal threads askers (before ++ line ∷ []) → ⊥
  pub number_is : number ≡ line.number

-- the answer is right: the history that the bytes are, or the first line at fault
abbrev pub IsRight : ℕ → ℕ → List ℕ → ℕ → Result (List Event) RecordRefused → Type 0
IsRight threads askers bytes first (Ok history) = IsRecord threads askers bytes first history
IsRight threads askers bytes first (Err (BadHistory line)) = IsFault threads askers bytes first line
IsRight threads askers bytes first (Err NoMemory) = Unit {0}

-- the answer is that history, or want of memory
abbrev pub IsHistory : Result (List Event) RecordRefused → List Event → Type 0
IsHistory (Ok history) events = history ≡ events
IsHistory (Err (BadHistory line)) events = ⊥
IsHistory (Err NoMemory) events = Unit {0}

-- the answer is that line, or want of memory
abbrev pub IsLine : Result (List Event) RecordRefused → ℕ → Type 0
IsLine (Ok history) number = ⊥
IsLine (Err (BadHistory line)) number = line ≡ number
IsLine (Err NoMemory) number = Unit {0}
