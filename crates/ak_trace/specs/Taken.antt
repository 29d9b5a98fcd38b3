-- How the reader takes the words of an entry's line. The laws of `proofs/TakenRows` connect it with the rows.
use Rattle.std.specs.Prelude.{ℕ, Bool, true, false, Option, Some, None, List, [], ◌∷◌, codes}
use Rattle.std.specs.List.{find}
use Rattle.std.specs.Str.{bytes_eq}
use Rattle.ak_text.specs.Lines.{TextLine}
use Rattle.ak_row.specs.Parts.{Part, ◌>>=◌, both, mapped, word_at, found_at, thing_at, long_at, signed_at, kind_at, outcome_at, whole, row_words}
use Rattle.ak_trace.specs.declared.entry.Ending.{Ending}
use Rattle.ak_trace.specs.declared.entry.Ending.TheVariants as ending
use Rattle.ak_trace.specs.declared.entry.Entry.{Entry}
use Rattle.ak_trace.specs.declared.entry.Entry.TheVariants as entry
use Rattle.ak_trace.specs.declared.keyword.JobWord.{JobWord}
use Rattle.ak_trace.specs.declared.keyword.JobWord.TheVariants as job
use Rattle.ak_trace.specs.declared.keyword.ErrorWord.{ErrorWord}
use Rattle.ak_trace.specs.declared.keyword.ErrorWord.TheVariants as error
use Rattle.ak_trace.specs.declared.keyword.PoolWord.{PoolWord}
use Rattle.ak_trace.specs.declared.keyword.PoolWord.TheVariants as pool
use Rattle.ak_trace.specs.Text.{priority_word, answer_word, ending_word}

-- ---- first words, by groups
abbrev pub job_word : JobWord → List ℕ
job_word job.Cycle = codes "cycle"
job_word job.Enq = codes "enq"
job_word job.Job = codes "job"
job_word job.Fill = codes "fill"
job_word job.Join = codes "join"
job_word job.Print = codes "print"

abbrev pub all_job_words : List JobWord
all_job_words = job.Cycle ∷ job.Enq ∷ job.Job ∷ job.Fill ∷ job.Join ∷ job.Print ∷ []

unfoldable pub job_named : List ℕ → Option JobWord
job_named word = find (λ first. bytes_eq (job_word first) word) all_job_words

abbrev pub error_word : ErrorWord → List ℕ
error_word error.Monitor = codes "monitor"
error_word error.Detach = codes "detach"
error_word error.Attach = codes "attach"
error_word error.Error = codes "error"
error_word error.Caught = codes "caught"
error_word error.Rest = codes "rest"
error_word error.Unhandled = codes "unhandled"

abbrev pub all_error_words : List ErrorWord
all_error_words = error.Monitor ∷ error.Detach ∷ error.Attach ∷ error.Error ∷ error.Caught ∷ error.Rest ∷ error.Unhandled ∷ []

unfoldable pub error_named : List ℕ → Option ErrorWord
error_named word = find (λ first. bytes_eq (error_word first) word) all_error_words

abbrev pub pool_word : PoolWord → List ℕ
pool_word pool.Submit = codes "submit"
pool_word pool.Helper = codes "helper"
pool_word pool.Arrive = codes "arrive"
pool_word pool.Request = codes "request"
pool_word pool.Answer = codes "answer"
pool_word pool.End = codes "end"

abbrev pub all_pool_words : List PoolWord
all_pool_words = pool.Submit ∷ pool.Helper ∷ pool.Arrive ∷ pool.Request ∷ pool.Answer ∷ pool.End ∷ []

unfoldable pub pool_named : List ℕ → Option PoolWord
pool_named word = find (λ first. bytes_eq (pool_word first) word) all_pool_words

-- ---- single words
abbrev pub both_truths : List Bool
both_truths = true ∷ false ∷ []

unfoldable pub priority_of : List ℕ → Option Bool
priority_of word = find (λ low. bytes_eq (priority_word low) word) both_truths

unfoldable pub answer_of : List ℕ → Option Bool
answer_of word = find (λ granted. bytes_eq (answer_word granted) word) both_truths

abbrev pub all_endings : List Ending
all_endings = ending.Idle ∷ ending.Stopped ∷ ending.Unhandled ∷ ending.Jobs ∷ ending.Stuck ∷ []

unfoldable pub ending_of : List ℕ → Option Ending
ending_of word = find (λ why. bytes_eq (ending_word why) word) all_endings

unfoldable pub priority_at : Part Bool
priority_at = found_at priority_of

unfoldable pub answer_at : Part Bool
answer_at = found_at answer_of

unfoldable pub ending_at : Part Ending
ending_at = found_at ending_of

-- ---- what stands behind the first word
abbrev pub nothing_at : Part (Unit {0})
nothing_at words = Some (tt, words)

unfoldable pub job_entry : JobWord → Part Entry
job_entry job.Cycle = mapped (λ t. entry.Cycle) nothing_at
job_entry job.Enq = mapped (λ t. entry.Enq t.0 t.1) (both long_at priority_at)
job_entry job.Job = mapped (λ t. entry.Job t) long_at
job_entry job.Fill = mapped (λ t. entry.Fill t.0 t.1) (both thing_at signed_at)
job_entry job.Join = mapped (λ t. entry.Join t.0 t.1) (both thing_at thing_at)
job_entry job.Print = mapped (λ t. entry.Print t) signed_at

unfoldable pub error_entry : ErrorWord → Part Entry
error_entry error.Monitor = mapped (λ t. entry.Monitor t.0 t.1) (both thing_at thing_at)
error_entry error.Detach = mapped (λ t. entry.Detach t) thing_at
error_entry error.Attach = mapped (λ t. entry.Attach t) thing_at
error_entry error.Error = mapped (λ t. entry.Error t.0 t.1) (both signed_at thing_at)
error_entry error.Caught = mapped (λ t. entry.Caught t) thing_at
error_entry error.Rest = mapped (λ t. entry.Rest t) signed_at
error_entry error.Unhandled = mapped (λ t. entry.Unhandled t) signed_at

unfoldable pub pool_entry : PoolWord → Part Entry
pool_entry pool.Submit = mapped (λ t. entry.Submit t.0 t.1.0 t.1.1) (both thing_at (both kind_at signed_at))
pool_entry pool.Helper = mapped (λ t. entry.Helper t.0 t.1) (both thing_at answer_at)
pool_entry pool.Arrive = mapped (λ t. entry.Arrive t.0 t.1) (both thing_at outcome_at)
pool_entry pool.Request = mapped (λ t. entry.Request t.0 t.1.0 t.1.1) (both long_at (both signed_at thing_at))
pool_entry pool.Answer = mapped (λ t. entry.Answer t.0 t.1) (both long_at signed_at)
pool_entry pool.End = mapped (λ t. entry.End t) ending_at

-- what the first word begins, where it is one of the group
abbrev pub begun_or : {K : Type 0} → Option K → (K → Part Entry) → Part Entry → Part Entry
begun_or (Some first) begun other = begun first
begun_or None begun other = other

abbrev pub no_entry : Part Entry
no_entry words = None

unfoldable pub entry_behind : List ℕ → Part Entry
entry_behind word = begun_or (job_named word) job_entry (begun_or (error_named word) error_entry (begun_or (pool_named word) pool_entry no_entry))

unfoldable pub entry_at : Part Entry
entry_at words = word_at words >>= λ w. entry_behind w.0 w.1

-- the entry of a line
unfoldable pub entry_of : TextLine → Option Entry
entry_of line = row_words line >>= whole entry_at
