-- What `read_history` answers.
use Rattle.std.specs.Prelude.{◌≡◌, ℕ, Result, Ok, Err, List}
use Rattle.ak_history.specs.declared.event.Event.{Event}
use Rattle.ak_history.specs.declared.reading.Recorded.{Recorded}
use Rattle.ak_history.specs.declared.refusal.HistoryRefused.{HistoryRefused}
use Rattle.ak_history.specs.declared.refusal.HistoryRefused.TheVariants.{BadLine, NoMemory}
use Rattle.ak_history.specs.Reading.{HistoryReads, IsFirstBad}

-- the answer is right: the history that the text is, or its first bad line
abbrev pub IsRight : List ℕ → ℕ → Result Recorded HistoryRefused → Type 0
IsRight bytes first (Ok recorded) = HistoryReads bytes first recorded.history recorded.lines
IsRight bytes first (Err (BadLine line)) = IsFirstBad bytes first line
IsRight bytes first (Err NoMemory) = Unit {0}

-- the answer is that history with those lines, or want of memory
abbrev pub IsHistory : Result Recorded HistoryRefused → List Event → List ℕ → Type 0
IsHistory (Ok recorded) events lines = (recorded.history ≡ events) × (recorded.lines ≡ lines)
IsHistory (Err (BadLine line)) events lines = ⊥
IsHistory (Err NoMemory) events lines = Unit {0}

-- the answer is that line, or want of memory
abbrev pub IsBadLine : Result Recorded HistoryRefused → ℕ → Type 0
IsBadLine (Ok recorded) number = ⊥
IsBadLine (Err (BadLine line)) number = line ≡ number
IsBadLine (Err NoMemory) number = Unit {0}
