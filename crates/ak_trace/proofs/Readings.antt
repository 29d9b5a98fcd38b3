-- What the reader of traces answers, and that a trace that was written is read back.
use Rattle.std.proofs.Common.{◌≡◌, ◌≢◌, ℕ, List, [], ◌∷◌, ◌++◌, map, flat_map, Result, Ok, Err, Option, Some, None, ◌⊎◌, inl, inr, refl, sym, ap, ◌∙◌, subst}
use Rattle.std.specs.List.{AllZip, AllByRecursion}
use Rattle.ak_text.specs.Lines.{TextLine, counting_lines}
use Rattle.ak_labor.specs.declared.work.Outcome.{Outcome}
use Rattle.ak_labor.specs.declared.work.Outcome.TheVariants.{Good, Bad}
use Rattle.ak_print.specs.Work.{outcome_words}
use Rattle.ak_print.specs.Line.{line_text}
use Rattle.ak_row.specs.Places.{IsRow, outcome_places}
use Rattle.ak_row.specs.Plain.{place_word, row_text, IsPlainRow}
use Rattle.ak_row.proofs.Fitting.{one_list, none_bad, one_first_bad, by_rows, read_or_bad}
use Rattle.ak_row.proofs.ReadBack.{reads_back}
use Rattle.ak_trace.specs.declared.entry.Entry.{Entry}
use Rattle.ak_trace.specs.declared.entry.Entry.TheVariants as entry
use Rattle.ak_trace.specs.declared.refusal.TraceRefused.{TraceRefused}
use Rattle.ak_trace.specs.declared.refusal.TraceRefused.TheVariants.{BadLine, NoMemory}
use Rattle.ak_trace.specs.Text.{entry_words, trace_text}
use Rattle.ak_trace.specs.Reading.{entry_row, IsEntry, TraceReads, HasBadLine, IsInRange, IsRight, IsTrace, IsBad}
use Rattle.ak_trace.specs.Taken.{entry_of}
use Rattle.ak_trace.proofs.TakenRows.{one_entry, entry_reads, no_entry_of}

-- ---- answers
pub one_trace : (bytes : List ℕ) (a b : List Entry) → TraceReads bytes a → TraceReads bytes b → a ≡ b
one_trace bytes a b h k = one_list IsEntry one_entry a b (counting_lines bytes) h k

pub no_bad_in_a_trace : (bytes : List ℕ) (entries : List Entry) (line : ℕ) → TraceReads bytes entries → HasBadLine bytes line → ⊥
no_bad_in_a_trace bytes entries line h b = none_bad IsEntry entries (counting_lines bytes) line h b

pub one_bad_line : (bytes : List ℕ) (l m : ℕ) → HasBadLine bytes l → HasBadLine bytes m → l ≡ m
one_bad_line bytes l m a b = one_first_bad IsEntry (counting_lines bytes) l m a b

pub right_trace : (bytes : List ℕ) (answer : Result (List Entry) TraceRefused) → IsRight bytes answer → (entries : List Entry)
    → TraceReads bytes entries → IsTrace answer entries
right_trace bytes (Ok entries) right wanted h = one_trace bytes entries wanted right h
right_trace bytes (Err (BadLine line)) right wanted h = no_bad_in_a_trace bytes wanted line h right
right_trace bytes (Err NoMemory) right wanted h = tt

pub right_bad : (bytes : List ℕ) (answer : Result (List Entry) TraceRefused) → IsRight bytes answer → (line : ℕ) → HasBadLine bytes line → IsBad answer line
right_bad bytes (Ok entries) right line b = no_bad_in_a_trace bytes entries line right b
right_bad bytes (Err (BadLine number)) right line b = one_bad_line bytes number line right b
right_bad bytes (Err NoMemory) right line b = tt

-- ---- a trace that was written
outcome_row_words : (o : Outcome) → map place_word (outcome_places o) ≡ outcome_words o
outcome_row_words (Good num) = refl
outcome_row_words (Bad num) = refl

-- the words that are written for an entry are those of its row
row_words_written : (e : Entry) → map place_word (entry_row e) ≡ entry_words e
row_words_written entry.Cycle = refl
row_words_written (entry.Enq job low) = refl
row_words_written (entry.Job job) = refl
row_words_written (entry.Fill ivar num) = refl
row_words_written (entry.Join result right) = refl
row_words_written (entry.Print num) = refl
row_words_written (entry.Monitor mon parent) = refl
row_words_written (entry.Detach mon) = refl
row_words_written (entry.Attach mon) = refl
row_words_written (entry.Error num mon) = refl
row_words_written (entry.Caught mon) = refl
row_words_written (entry.Rest num) = refl
row_words_written (entry.Unhandled num) = refl
row_words_written (entry.Submit work kind num) = refl
row_words_written (entry.Helper helper granted) = refl
row_words_written (entry.Arrive work (Good num)) = refl
row_words_written (entry.Arrive work (Bad num)) = refl
row_words_written (entry.Request request num result) = refl
row_words_written (entry.Answer request num) = refl
row_words_written (entry.End why) = refl

text_by_rows : (entries : List Entry) → trace_text entries ≡ flat_map row_text (map entry_row entries)
text_by_rows [] = refl
text_by_rows (e ∷ entries) =
    ap (λ (words : List (List ℕ)). line_text words ++ trace_text entries) (sym (row_words_written e))
    ∙ ap (λ (text : List ℕ). row_text (entry_row e) ++ text) (text_by_rows entries)

has_words : (e : Entry) → entry_row e ≢ []
has_words entry.Cycle h = cc
has_words (entry.Enq job low) h = cc
has_words (entry.Job job) h = cc
has_words (entry.Fill ivar num) h = cc
has_words (entry.Join result right) h = cc
has_words (entry.Print num) h = cc
has_words (entry.Monitor mon parent) h = cc
has_words (entry.Detach mon) h = cc
has_words (entry.Attach mon) h = cc
has_words (entry.Error num mon) h = cc
has_words (entry.Caught mon) h = cc
has_words (entry.Rest num) h = cc
has_words (entry.Unhandled num) h = cc
has_words (entry.Submit work kind num) h = cc
has_words (entry.Helper helper granted) h = cc
has_words (entry.Arrive work outcome) h = cc
has_words (entry.Request request num result) h = cc
has_words (entry.Answer request num) h = cc
has_words (entry.End why) h = cc

plain_rows : (entries : List Entry) → AllByRecursion IsInRange entries → AllByRecursion IsPlainRow (map entry_row entries)
plain_rows [] h = tt
plain_rows (e ∷ entries) h = ((has_words e, h.0), plain_rows entries h.1)

pub trace_reads_back : (entries : List Entry) → AllByRecursion IsInRange entries → TraceReads (trace_text entries) entries
trace_reads_back entries h =
    by_rows entry_row IsRow entries (counting_lines (trace_text entries))
    (subst (λ (text : List ℕ). AllZip IsRow (map entry_row entries) (counting_lines text)) (sym (text_by_rows entries))
    (reads_back (map entry_row entries) (plain_rows entries h)))

-- ---- one or the other
entry_or_none : (line : TextLine) → ((e : Entry) × IsEntry e line) ⊎ ((e : Entry) → IsEntry e line → ⊥)
entry_or_none line = of (entry_of line) refl
  where
    of : (o : Option Entry) → entry_of line ≡ o → ((e : Entry) × IsEntry e line) ⊎ ((e : Entry) → IsEntry e line → ⊥)
    of (Some e) h = inl (e, entry_reads line e h)
    of None h = inr (no_entry_of line h)

pub trace_or_bad : (bytes : List ℕ) → ((entries : List Entry) × TraceReads bytes entries) ⊎ ((line : ℕ) × HasBadLine bytes line)
trace_or_bad bytes = read_or_bad IsEntry entry_or_none (counting_lines bytes)
