-- The text of a trace: a line for each entry.
use Rattle.std.specs.Prelude.{ℕ, Bool, true, false, List, [], ◌∷◌, flat_map, codes, decimal}
use Rattle.ak_text.specs.Decimal.{decimal_of}
use Rattle.ak_print.specs.Line.{line_text}
use Rattle.ak_print.specs.Work.{kind_word, outcome_words}
use Rattle.ak_trace.specs.declared.entry.Ending.{Ending}
use Rattle.ak_trace.specs.declared.entry.Ending.TheVariants as ending
use Rattle.ak_trace.specs.declared.entry.Entry.{Entry}
use Rattle.ak_trace.specs.declared.entry.Entry.TheVariants as entry

-- the priority of a job: whether it is low
abbrev pub priority_word : Bool → List ℕ
priority_word true = codes "low"
priority_word false = codes "normal"

-- the answer to a helper: whether it is granted
abbrev pub answer_word : Bool → List ℕ
answer_word true = codes "granted"
answer_word false = codes "refused"

-- why a run ended
abbrev pub ending_word : Ending → List ℕ
ending_word ending.Idle = codes "idle"
ending_word ending.Stopped = codes "stopped"
ending_word ending.Unhandled = codes "unhandled"
ending_word ending.Jobs = codes "jobs"
ending_word ending.Stuck = codes "stuck"

-- the words of an entry's line: numbers of things count from 0, other numbers have a sign
abbrev pub entry_words : Entry → List (List ℕ)
entry_words entry.Cycle = codes "cycle" ∷ []
entry_words (entry.Enq job low) = codes "enq" ∷ decimal job ∷ priority_word low ∷ []
entry_words (entry.Job job) = codes "job" ∷ decimal job ∷ []
entry_words (entry.Fill ivar num) = codes "fill" ∷ decimal ivar ∷ decimal_of num ∷ []
entry_words (entry.Join result right) = codes "join" ∷ decimal result ∷ decimal right ∷ []
entry_words (entry.Print num) = codes "print" ∷ decimal_of num ∷ []
entry_words (entry.Monitor mon parent) = codes "monitor" ∷ decimal mon ∷ decimal parent ∷ []
entry_words (entry.Detach mon) = codes "detach" ∷ decimal mon ∷ []
entry_words (entry.Attach mon) = codes "attach" ∷ decimal mon ∷ []
entry_words (entry.Error num mon) = codes "error" ∷ decimal_of num ∷ decimal mon ∷ []
entry_words (entry.Caught mon) = codes "caught" ∷ decimal mon ∷ []
entry_words (entry.Rest num) = codes "rest" ∷ decimal_of num ∷ []
entry_words (entry.Unhandled num) = codes "unhandled" ∷ decimal_of num ∷ []
entry_words (entry.Submit work kind num) = codes "submit" ∷ decimal work ∷ kind_word kind ∷ decimal_of num ∷ []
entry_words (entry.Helper helper granted) = codes "helper" ∷ decimal helper ∷ answer_word granted ∷ []
entry_words (entry.Arrive work outcome) = codes "arrive" ∷ decimal work ∷ outcome_words outcome
entry_words (entry.Request request num result) = codes "request" ∷ decimal request ∷ decimal_of num ∷ decimal result ∷ []
entry_words (entry.Answer request num) = codes "answer" ∷ decimal request ∷ decimal_of num ∷ []
entry_words (entry.End why) = codes "end" ∷ ending_word why ∷ []

-- an entry's line
abbrev pub entry_text : Entry → List ℕ
entry_text e = line_text (entry_words e)

-- the text of a trace
abbrev pub trace_text : List Entry → List ℕ
trace_text entries = flat_map entry_text entries
