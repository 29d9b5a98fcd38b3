-- How the reader takes the lines of a text, one after the other: what it makes of the words of a line, and of a line
-- behind others. Of no concern to a caller: laws connect these with the texts of a history.
use Rattle.std.specs.Prelude.{◌≡◌, ℕ, ◌+◌, nat_le, if◌then◌else◌, Option, Some, None, Result, Ok, Err, List, [], ◌∷◌, ◌++◌, length, replicate, codes}
use Rattle.std.specs.List.{find}
use Rattle.std.specs.Str.{bytes_eq}
use Rattle.ak_text.specs.Lines.{TextLine, counts}
use Rattle.ak_labor.specs.declared.work.Work.{Work}
use Rattle.ak_row.specs.Parts.{◌>>=◌, Part, both, mapped, word_at, end_at, thing_of, thing_at, long_of, long_at, count_at, signed_at, kind_at, outcome_at, whole, row_words}
use Rattle.ak_history.specs.declared.event.Event.{Event}
use Rattle.ak_history.specs.declared.event.Event.TheVariants as event
use Rattle.ak_history.specs.declared.line.HistoryLine.{HistoryLine}
use Rattle.ak_history.specs.declared.line.HistoryLine.TheVariants.{Idle, Of}
use Rattle.ak_history.specs.declared.line.FirstWord.{FirstWord}
use Rattle.ak_history.specs.declared.line.FirstWord.TheVariants as first
use Rattle.ak_history.specs.declared.reading.Recorded.{Recorded}
use Rattle.ak_history.specs.declared.refusal.HistoryRefused.{HistoryRefused}
use Rattle.ak_history.specs.declared.refusal.HistoryRefused.TheVariants.{BadLine, NoMemory}
use Rattle.ak_history.specs.Reading.{line_events, most_events}

-- ---- the words of a line
abbrev pub first_word : FirstWord → List ℕ
first_word first.Submit = codes "submit"
first_word first.Start = codes "start"
first_word first.Finish = codes "finish"
first_word first.Request = codes "request"
first_word first.AskerEnd = codes "askerend"
first_word first.Drain = codes "drain"
first_word first.Answered = codes "answered"
first_word first.Idle = codes "idle"
first_word first.Helper = codes "helper"
first_word first.HelperEnd = codes "helperend"
first_word first.Close = codes "close"

abbrev pub all_first_words : List FirstWord
all_first_words =
    first.Submit ∷ first.Start ∷ first.Finish ∷ first.Request ∷ first.AskerEnd ∷ first.Drain ∷ first.Answered ∷ first.Idle ∷ first.Helper
    ∷ first.HelperEnd ∷ first.Close ∷ []

unfoldable pub first_named : List ℕ → Option FirstWord
first_named word = find (λ one. bytes_eq (first_word one) word) all_first_words

-- for whom a work is
abbrev pub for_whom_from : List ℕ → Part (Option ℕ)
for_whom_from word = if bytes_eq word (codes "general") then (λ words. Some (None, words)) else
    (if bytes_eq word (codes "helper") then mapped Some thing_at else (λ words. None))

unfoldable pub for_whom_at : Part (Option ℕ)
for_whom_at words = word_at words >>= λ w. for_whom_from w.0 w.1

-- what a helper is answered
abbrev pub answer_from : List ℕ → Part (Option ℕ)
answer_from word = if bytes_eq word (codes "granted") then mapped Some thing_at else
    (if bytes_eq word (codes "refused") then (λ words. Some (None, words)) else (λ words. None))

unfoldable pub answer_at : Part (Option ℕ)
answer_at words = word_at words >>= λ w. answer_from w.0 w.1

unfoldable pub work_at : Part Work
work_at = mapped (λ t. record { kind = t.0; num = t.1 }) (both kind_at signed_at)

-- the numbers of requests that all words are
unfoldable pub longs_of : List (List ℕ) → Option (List ℕ)
longs_of [] = Some []
longs_of (word ∷ words) = long_of word >>= λ q. longs_of words >>= λ requests. Some (q ∷ requests)

-- one request at least
abbrev pub some_requests : List ℕ → Option (List ℕ)
some_requests [] = None
some_requests (q ∷ requests) = Some (q ∷ requests)

unfoldable pub requests_of : List (List ℕ) → Option (List ℕ)
requests_of words = longs_of words >>= some_requests

-- what stands behind the word `requests`
abbrev pub requests_alone : List (List ℕ) → Option (List ℕ × List ℕ)
requests_alone words = requests_of words >>= λ requests. Some ([], requests)

abbrev pub with_work : ℕ → Option (List ℕ × List ℕ) → Option (List ℕ × List ℕ)
with_work id brought = brought >>= λ b. Some (id ∷ b.0, b.1)

-- the works and the requests of a drain
unfoldable pub brought_of : List (List ℕ) → Option (List ℕ × List ℕ)
brought_of [] = Some ([], [])
brought_of (word ∷ words) =
    if bytes_eq word (codes "requests") then requests_alone words else (thing_of word >>= λ id. with_work id (brought_of words))

-- the event or the run of drains of each first word, by the words behind it
unfoldable pub submit_of : List (List ℕ) → Option Event
submit_of words = whole (both thing_at (both for_whom_at work_at)) words >>= λ t. Some (event.Submit t.0 t.1.1 t.1.0)

unfoldable pub start_of : List (List ℕ) → Option Event
start_of words = whole (both thing_at thing_at) words >>= λ t. Some (event.Start t.0 t.1)

unfoldable pub finish_of : List (List ℕ) → Option Event
finish_of words = whole (both thing_at (both thing_at outcome_at)) words >>= λ t. Some (event.Finish t.0 t.1.0 t.1.1)

unfoldable pub request_of : List (List ℕ) → Option Event
request_of words = whole (both long_at (both thing_at signed_at)) words >>= λ t. Some (event.Request t.0 t.1.0 t.1.1)

unfoldable pub asker_end_of : List (List ℕ) → Option Event
asker_end_of words = whole thing_at words >>= λ asker. Some (event.AskerEnd asker)

-- a drain that brings something
abbrev pub some_drain : List ℕ × List ℕ → Option Event
some_drain ([], []) = None
some_drain ([], q ∷ requests) = Some (event.Drain [] (q ∷ requests))
some_drain (id ∷ ids, requests) = Some (event.Drain (id ∷ ids) requests)

unfoldable pub drain_of : List (List ℕ) → Option Event
drain_of words = brought_of words >>= some_drain

unfoldable pub answered_of : List (List ℕ) → Option Event
answered_of words = whole (both long_at signed_at) words >>= λ t. Some (event.Answered t.0 t.1)

unfoldable pub helper_of : List (List ℕ) → Option Event
helper_of words = whole (both thing_at answer_at) words >>= λ t. Some (event.HelperNew t.0 t.1)

unfoldable pub helper_end_of : List (List ℕ) → Option Event
helper_end_of words = whole thing_at words >>= λ helper. Some (event.HelperEnd helper)

unfoldable pub close_of : List (List ℕ) → Option Event
close_of words = end_at words >>= λ over. Some event.Close

unfoldable pub idle_of : List (List ℕ) → Option HistoryLine
idle_of words = whole count_at words >>= λ n. Some (Idle n)

abbrev pub of_event : Option Event → Option HistoryLine
of_event found = found >>= λ e. Some (Of e)

abbrev pub line_by : FirstWord → List (List ℕ) → Option HistoryLine
line_by first.Submit words = of_event (submit_of words)
line_by first.Start words = of_event (start_of words)
line_by first.Finish words = of_event (finish_of words)
line_by first.Request words = of_event (request_of words)
line_by first.AskerEnd words = of_event (asker_end_of words)
line_by first.Drain words = of_event (drain_of words)
line_by first.Answered words = of_event (answered_of words)
line_by first.Idle words = idle_of words
line_by first.Helper words = of_event (helper_of words)
line_by first.HelperEnd words = of_event (helper_end_of words)
line_by first.Close words = of_event (close_of words)

-- the line of a history that has these words
unfoldable pub line_of : List (List ℕ) → Option HistoryLine
line_of words = word_at words >>= λ w. first_named w.0 >>= λ one. line_by one w.1

-- ---- lines
-- how many events a line has
abbrev pub count_of_events : HistoryLine → ℕ
count_of_events (Idle n) = n
count_of_events (Of e) = 1

-- the events of a line behind those that were read
abbrev pub with_line : Recorded → ℕ → HistoryLine → Recorded
with_line recorded number row = record {
  history = recorded.history ++ line_events row;
  lines = recorded.lines ++ replicate (count_of_events row) number;
}

-- the same, where they are not too many
unfoldable pub line_added : Recorded → ℕ → HistoryLine → Option Recorded
line_added recorded number row =
    if nat_le (length recorded.history + count_of_events row) most_events then Some (with_line recorded number row) else None

-- the line of a history that a line of the text is
unfoldable pub line_found : TextLine → Option HistoryLine
line_found line = row_words line >>= line_of

-- a line of the text that is not skipped
unfoldable pub line_taken : Recorded → ℕ → TextLine → Option Recorded
line_taken recorded number line = line_found line >>= line_added recorded number

-- all lines of a text, or the number of the one at which the reader stops
abbrev pub walked_next : ℕ → Option Recorded → (Recorded → Result Recorded ℕ) → Result Recorded ℕ
walked_next number (Some next) rest = rest next
walked_next number None rest = Err number

unfoldable pub walked : Recorded → List TextLine → Result Recorded ℕ
walked recorded [] = Ok recorded
walked recorded (line ∷ lines) =
    if counts line then walked_next line.number (line_taken recorded line.number line) (λ next. walked next lines) else walked recorded lines

abbrev pub nothing_read : Recorded
nothing_read = record { history = []; lines = [] }

-- ---- answers of the code
-- the answer is what all lines give, or there was no memory
abbrev pub Tells : Result Recorded HistoryRefused → Result Recorded ℕ → Type 0
Tells (Ok recorded) whole = whole ≡ Ok recorded
Tells (Err (BadLine line)) whole = whole ≡ Err line
Tells (Err NoMemory) whole = Unit {0}

-- the line is taken so, or there was no memory
abbrev pub Takes : {X : Type 0} → Result X HistoryRefused → ℕ → Recorded → Option Recorded → Type 0
Takes (Ok done) number now found = found ≡ Some now
Takes (Err (BadLine line)) number now found = (line ≡ number) × (found ≡ None)
Takes (Err NoMemory) number now found = Unit {0}
