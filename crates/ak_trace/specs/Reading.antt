-- The trace that a text is: a relation that takes more spellings than the writer makes.
use Rattle.std.specs.Prelude.{◌≡◌, ℕ, Result, Ok, Err, List, [], ◌∷◌, codes}
use Rattle.std.specs.List.{AllZip, AllByRecursion}
use Rattle.ak_text.specs.Lines.{TextLine, counting_lines}
use Rattle.ak_print.specs.Work.{kind_word}
use Rattle.ak_row.specs.Faults.{IsFirstBad}
use Rattle.ak_row.specs.Places.{Place, Exactly, Thing, LongNumber, Signed, outcome_places, IsRow}
use Rattle.ak_row.specs.Plain.{IsPlain}
use Rattle.ak_trace.specs.declared.entry.Entry.{Entry}
use Rattle.ak_trace.specs.declared.entry.Entry.TheVariants as entry
use Rattle.ak_trace.specs.declared.refusal.TraceRefused.{TraceRefused}
use Rattle.ak_trace.specs.declared.refusal.TraceRefused.TheVariants.{BadLine, NoMemory}
use Rattle.ak_trace.specs.Text.{priority_word, answer_word, ending_word}

-- what the words of an entry's line stand for
abbrev pub entry_row : Entry → List Place
entry_row entry.Cycle = Exactly (codes "cycle") ∷ []
entry_row (entry.Enq job low) = Exactly (codes "enq") ∷ LongNumber job ∷ Exactly (priority_word low) ∷ []
entry_row (entry.Job job) = Exactly (codes "job") ∷ LongNumber job ∷ []
entry_row (entry.Fill ivar num) = Exactly (codes "fill") ∷ Thing ivar ∷ Signed num ∷ []
entry_row (entry.Join result right) = Exactly (codes "join") ∷ Thing result ∷ Thing right ∷ []
entry_row (entry.Print num) = Exactly (codes "print") ∷ Signed num ∷ []
entry_row (entry.Monitor mon parent) = Exactly (codes "monitor") ∷ Thing mon ∷ Thing parent ∷ []
entry_row (entry.Detach mon) = Exactly (codes "detach") ∷ Thing mon ∷ []
entry_row (entry.Attach mon) = Exactly (codes "attach") ∷ Thing mon ∷ []
entry_row (entry.Error num mon) = Exactly (codes "error") ∷ Signed num ∷ Thing mon ∷ []
entry_row (entry.Caught mon) = Exactly (codes "caught") ∷ Thing mon ∷ []
entry_row (entry.Rest num) = Exactly (codes "rest") ∷ Signed num ∷ []
entry_row (entry.Unhandled num) = Exactly (codes "unhandled") ∷ Signed num ∷ []
entry_row (entry.Submit work kind num) = Exactly (codes "submit") ∷ Thing work ∷ Exactly (kind_word kind) ∷ Signed num ∷ []
entry_row (entry.Helper helper granted) = Exactly (codes "helper") ∷ Thing helper ∷ Exactly (answer_word granted) ∷ []
entry_row (entry.Arrive work outcome) = Exactly (codes "arrive") ∷ Thing work ∷ outcome_places outcome
entry_row (entry.Request request num result) =
    Exactly (codes "request") ∷ LongNumber request ∷ Signed num ∷ Thing result ∷ []
entry_row (entry.Answer request num) = Exactly (codes "answer") ∷ LongNumber request ∷ Signed num ∷ []
entry_row (entry.End why) = Exactly (codes "end") ∷ Exactly (ending_word why) ∷ []

-- the line is the entry's
abbrev pub IsEntry : Entry → TextLine → Type 0
IsEntry e line = IsRow (entry_row e) line

-- the lines that aren't skipped are the entries, one for one
abbrev pub TraceReads : List ℕ → List Entry → Type 0
TraceReads bytes entries = AllZip IsEntry entries (counting_lines bytes)

-- the first line that is no entry has the number
abbrev pub HasBadLine : List ℕ → ℕ → Type 0
HasBadLine bytes number = IsFirstBad IsEntry (counting_lines bytes) number

-- numbers of jobs are below 2 ^ 64, those of other things below 2 ^ 32, and other numbers are of 64 bits with a sign
abbrev pub IsInRange : Entry → Type 0
IsInRange e = AllByRecursion IsPlain (entry_row e)

-- ---- what `read_trace` answers, want of memory aside
-- the answer is right: the trace that the bytes are, or their first bad line
abbrev pub IsRight : List ℕ → Result (List Entry) TraceRefused → Type 0
IsRight bytes (Ok entries) = TraceReads bytes entries
IsRight bytes (Err (BadLine line)) = HasBadLine bytes line
IsRight bytes (Err NoMemory) = Unit {0}

-- the answer is the trace, or want of memory
abbrev pub IsTrace : Result (List Entry) TraceRefused → List Entry → Type 0
IsTrace (Ok entries) wanted = entries ≡ wanted
IsTrace (Err (BadLine line)) wanted = ⊥
IsTrace (Err NoMemory) wanted = Unit {0}

-- the answer is the bad line, or want of memory
abbrev pub IsBad : Result (List Entry) TraceRefused → ℕ → Type 0
IsBad (Ok entries) number = ⊥
IsBad (Err (BadLine line)) number = line ≡ number
IsBad (Err NoMemory) number = Unit {0}
