-- What the writer writes is read back.
use Rattle.std.proofs.Common.{◌≡◌, ◌≢◌, ℕ, zero, suc, ◌≤◌, Option, Some, None, List, [], ◌∷◌, ◌++◌, map, filter, flat_map, refl, sym, ap, ◌∙◌, subst, codes, arith}
use Rattle.std.specs.Fmt.{decimal}
use Rattle.std.specs.List.{AllZip, AllByRecursion}
use Rattle.ak_labor.specs.declared.work.Outcome.{Outcome}
use Rattle.ak_labor.specs.declared.work.Outcome.TheVariants.{Good, Bad}
use Rattle.ak_text.specs.Lines.{TextLine, numbered, lines_of, counts}
use Rattle.ak_print.specs.Line.{line_text}
use Rattle.ak_print.specs.Work.{outcome_words}
use Rattle.ak_row.specs.Places.{Place, Thing, LongNumber, IsRow, outcome_places}
use Rattle.ak_row.specs.Plain.{place_word, row_text, IsPlainRow}
use Rattle.ak_row.proofs.ReadBack.{rows_from, row_counts}
use Rattle.ak_history.specs.declared.event.Event.{Event}
use Rattle.ak_history.specs.declared.event.Event.TheVariants as event
use Rattle.ak_history.specs.declared.line.HistoryLine.{HistoryLine}
use Rattle.ak_history.specs.declared.line.HistoryLine.TheVariants.{Idle, Of}
use Rattle.ak_history.specs.Reading.{submit_places, answer_places, request_places, event_row, line_row, BringsSome, IsHistoryLine, rows_numbers, lines_from, HistoryReads, IsInRange, IsShortRun, IsReadable}
use Rattle.ak_history.specs.Text.{with_event, history_lines, event_words, submit_words, answer_words, request_words, idle_text, history_line_text, history_text}
use Rattle.ak_history.proofs.Lines.{lines-stand_for}

-- ---- the words of a row
submit_are : (helper : Option ℕ) (places : List Place) (words : List (List ℕ)) → map place_word places ≡ words
    → map place_word (submit_places helper places) ≡ submit_words helper words
submit_are None places words h = ap (λ (ws : List (List ℕ)). codes "general" ∷ ws) h
submit_are (Some helper) places words h = ap (λ (ws : List (List ℕ)). codes "helper" ∷ decimal helper ∷ ws) h

outcome_are : (outcome : Outcome) → map place_word (outcome_places outcome) ≡ outcome_words outcome
outcome_are (Good num) = refl
outcome_are (Bad num) = refl

answer_are : (answer : Option ℕ) → map place_word (answer_places answer) ≡ answer_words answer
answer_are None = refl
answer_are (Some thread) = refl

longs_are : (requests : List ℕ) → map place_word (map LongNumber requests) ≡ map decimal requests
longs_are [] = refl
longs_are (q ∷ requests) = ap (λ (ws : List (List ℕ)). decimal q ∷ ws) (longs_are requests)

requests_are : (requests : List ℕ) → map place_word (request_places requests) ≡ request_words requests
requests_are [] = refl
requests_are (q ∷ requests) = ap (λ (ws : List (List ℕ)). codes "requests" ∷ ws) (longs_are (q ∷ requests))

brought_are : (ids requests : List ℕ) → map place_word (map Thing ids ++ request_places requests) ≡ map decimal ids ++ request_words requests
brought_are [] requests = requests_are requests
brought_are (id ∷ ids) requests = ap (λ (ws : List (List ℕ)). decimal id ∷ ws) (brought_are ids requests)

event_are : (e : Event) → map place_word (event_row e) ≡ event_words e
event_are (event.Submit id work helper) = ap (λ (ws : List (List ℕ)). codes "submit" ∷ decimal id ∷ ws) (submit_are helper _ _ refl)
event_are (event.Start thread id) = refl
event_are (event.Finish thread id outcome) = ap (λ (ws : List (List ℕ)). codes "finish" ∷ decimal thread ∷ decimal id ∷ ws) (outcome_are outcome)
event_are (event.Request q asker n) = refl
event_are (event.AskerEnd asker) = refl
event_are (event.Drain ids requests) = ap (λ (ws : List (List ℕ)). codes "drain" ∷ ws) (brought_are ids requests)
event_are (event.Answered q n) = refl
event_are (event.HelperNew helper answer) = ap (λ (ws : List (List ℕ)). codes "helper" ∷ decimal helper ∷ ws) (answer_are answer)
event_are (event.HelperEnd helper) = refl
event_are event.Close = refl

-- ---- the lines of a history
-- a line that is written: a run of one drain at least, or another event
abbrev pub IsWritten : HistoryLine → Type 0
IsWritten (Idle n) = 1 ≤ n
IsWritten (Of e) = BringsSome (Of e)

written_front : (e : Event) (lines : List HistoryLine) → AllByRecursion IsWritten lines → AllByRecursion IsWritten (with_event e lines)
written_front (event.Submit id work helper) lines h = (tt, h)
written_front (event.Start thread id) lines h = (tt, h)
written_front (event.Finish thread id outcome) lines h = (tt, h)
written_front (event.Request q asker n) lines h = (tt, h)
written_front (event.AskerEnd asker) lines h = (tt, h)
written_front (event.Drain [] []) [] h = (omega arith, tt)
written_front (event.Drain [] []) (Idle n ∷ lines) h = (omega arith, h.1)
written_front (event.Drain [] []) (Of e ∷ lines) h = (omega arith, h)
written_front (event.Drain [] (q ∷ requests)) lines h = (omega arith, h)
written_front (event.Drain (id ∷ ids) requests) lines h = (omega arith, h)
written_front (event.Answered q n) lines h = (tt, h)
written_front (event.HelperNew helper answer) lines h = (tt, h)
written_front (event.HelperEnd helper) lines h = (tt, h)
written_front event.Close lines h = (tt, h)

all_written : (events : List Event) → AllByRecursion IsWritten (history_lines events)
all_written [] = tt
all_written (e ∷ events) = written_front e (history_lines events) (all_written events)

-- the events of lines are in their ranges
abbrev LineInRange : HistoryLine → Type 0
LineInRange (Idle n) = Unit {0}
LineInRange (Of e) = IsInRange e

range_front : (e : Event) (lines : List HistoryLine) → IsInRange e → AllByRecursion LineInRange lines → AllByRecursion LineInRange (with_event e lines)
range_front (event.Submit id work helper) lines r h = (r, h)
range_front (event.Start thread id) lines r h = (r, h)
range_front (event.Finish thread id outcome) lines r h = (r, h)
range_front (event.Request q asker n) lines r h = (r, h)
range_front (event.AskerEnd asker) lines r h = (r, h)
range_front (event.Drain [] []) [] r h = (tt, tt)
range_front (event.Drain [] []) (Idle n ∷ lines) r h = (tt, h.1)
range_front (event.Drain [] []) (Of e ∷ lines) r h = (tt, h)
range_front (event.Drain [] (q ∷ requests)) lines r h = (r, h)
range_front (event.Drain (id ∷ ids) requests) lines r h = (r, h)
range_front (event.Answered q n) lines r h = (r, h)
range_front (event.HelperNew helper answer) lines r h = (r, h)
range_front (event.HelperEnd helper) lines r h = (r, h)
range_front event.Close lines r h = (r, h)

all_in_range : (events : List Event) → AllByRecursion IsInRange events → AllByRecursion LineInRange (history_lines events)
all_in_range [] h = tt
all_in_range (e ∷ events) h = range_front e (history_lines events) h.0 (all_in_range events h.1)

-- ---- their rows
row_some : (row : HistoryLine) → line_row row ≢ []
row_some (Idle n) = λ e. cc
row_some (Of (event.Submit id work helper)) = λ e. cc
row_some (Of (event.Start thread id)) = λ e. cc
row_some (Of (event.Finish thread id outcome)) = λ e. cc
row_some (Of (event.Request q asker n)) = λ e. cc
row_some (Of (event.AskerEnd asker)) = λ e. cc
row_some (Of (event.Drain ids requests)) = λ e. cc
row_some (Of (event.Answered q n)) = λ e. cc
row_some (Of (event.HelperNew helper answer)) = λ e. cc
row_some (Of (event.HelperEnd helper)) = λ e. cc
row_some (Of event.Close) = λ e. cc

row_plain : (row : HistoryLine) → IsWritten row → LineInRange row → IsShortRun row → IsPlainRow (line_row row)
row_plain (Idle n) written in_range short = (row_some (Idle n), (refl, ((written, short), tt)))
row_plain (Of e) written in_range short = (row_some (Of e), in_range)

rows_plain : (rows : List HistoryLine) → AllByRecursion IsWritten rows → AllByRecursion LineInRange rows → AllByRecursion IsShortRun rows
    → AllByRecursion IsPlainRow (map line_row rows)
rows_plain [] written in_range short = tt
rows_plain (row ∷ rows) written in_range short = (row_plain row written.0 in_range.0 short.0, rows_plain rows written.1 in_range.1 short.1)

-- ---- their text
run_is : (n : ℕ) → 1 ≤ n → idle_text n ≡ row_text (line_row (Idle n))
run_is zero h = absurd (omega arith)
run_is (suc n) h = refl

line_is : (row : HistoryLine) → IsWritten row → history_line_text row ≡ row_text (line_row row)
line_is (Idle n) h = run_is n h
line_is (Of e) h = ap line_text (sym (event_are e))

text_is : (rows : List HistoryLine) → AllByRecursion IsWritten rows → flat_map history_line_text rows ≡ flat_map row_text (map line_row rows)
text_is [] h = refl
text_is (row ∷ rows) h =
    ap (λ (bytes : List ℕ). bytes ++ flat_map history_line_text rows) (line_is row h.0)
    ∙ ap (λ (bytes : List ℕ). row_text (line_row row) ++ bytes) (text_is rows h.1)

-- ---- they are read
brings_of : (row : HistoryLine) → IsWritten row → BringsSome row
brings_of (Idle n) h = tt
brings_of (Of e) h = h

are_lines : (rows : List HistoryLine) (lines : List TextLine) → AllByRecursion IsWritten rows → AllZip IsRow (map line_row rows) lines
    → AllZip IsHistoryLine rows lines
are_lines [] [] written h = tt
are_lines [] (line ∷ lines) written h = absurd h
are_lines (row ∷ rows) [] written h = absurd h
are_lines (row ∷ rows) (line ∷ lines) written h = (record { words = h.0; brings = brings_of row written.0 }, are_lines rows lines written.1 h.1)

-- none of the lines is skipped
none_skipped : (rows : List HistoryLine) (lines : List TextLine) → AllZip IsRow (map line_row rows) lines → filter counts lines ≡ lines
none_skipped [] [] h = refl
none_skipped [] (line ∷ lines) h = absurd h
none_skipped (row ∷ rows) [] h = absurd h
none_skipped (row ∷ rows) (line ∷ lines) h =
    rw (row_counts (line_row row) line (row_some row) h.0) (ap (λ (ls : List TextLine). line ∷ ls) (none_skipped rows lines h.1))

-- the lines of the text, numbered from the first
abbrev text_from : ℕ → List Event → List TextLine
text_from first events = numbered first (lines_of (history_text events))

rows_read : (first : ℕ) (events : List Event) → AllByRecursion IsPlainRow (map line_row (history_lines events))
    → AllZip IsRow (map line_row (history_lines events)) (text_from first events)
rows_read first events plain =
    subst (λ (bytes : List ℕ). AllZip IsRow (map line_row (history_lines events)) (numbered first (lines_of bytes)))
    (sym (text_is (history_lines events) (all_written events)))
    (rows_from first (map line_row (history_lines events)) plain)

pub history_reads_back : (events : List Event) (first : ℕ) → IsReadable events → (lines : List ℕ) × HistoryReads (history_text events) first events lines
history_reads_back events first h =
    let plain = rows_plain (history_lines events) (all_written events) (all_in_range events h.in_range) h.short_runs in
    let read = rows_read first events plain in
    let kept : lines_from first (history_text events) ≡ text_from first events = none_skipped (history_lines events) (text_from first events) read in
    let each : AllZip IsHistoryLine (history_lines events) (text_from first events) =
    are_lines (history_lines events) (text_from first events) (all_written events) read in (
      rows_numbers (history_lines events) (lines_from first (history_text events)),
      record {
        rows = history_lines events;
        each = subst (λ (ls : List TextLine). AllZip IsHistoryLine (history_lines events) ls) (sym kept) each;
        events_are = sym (lines-stand_for events);
        lines_are = refl;
        few = h.few;
      },
    )
