-- An entry that is taken has the words of its row, and the words of a row are taken as their entry.
use Rattle.std.proofs.Common.{◌≡◌, ℕ, Bool, true, false, Option, Some, None, List, [], ◌∷◌, ◌++◌, refl, sym, ap, ◌∙◌, subst, cond}
use Rattle.std.specs.Prelude.{codes}
use Rattle.std.specs.List.{AllZip, find}
use Rattle.std.specs.Str.{bytes_eq}
use Rattle.ak_text.specs.Lines.{TextLine, words_of, has_bad_byte}
use Rattle.ak_row.specs.Places.{Place, Exactly, Stands}
use Rattle.ak_row.specs.Parts.{Part, ◌>>=◌, mapped, whole, row_words}
use Rattle.ak_row.proofs.Parts.{IsPart, item_part, both_part, mapped_sound, mapped_complete, table_reads, table_item, thing_part, long_part, signed_part, kind_part, outcome_part, whole_sound, whole_complete}
use Rattle.ak_trace.specs.declared.entry.Ending.{Ending}
use Rattle.ak_trace.specs.declared.entry.Ending.TheVariants as ending
use Rattle.ak_trace.specs.declared.entry.Entry.{Entry}
use Rattle.ak_trace.specs.declared.entry.Entry.TheVariants as entry
use Rattle.ak_trace.specs.declared.keyword.JobWord.{JobWord}
use Rattle.ak_trace.specs.declared.keyword.JobWord.TheVariants as job
use Rattle.ak_trace.specs.declared.keyword.ErrorWord.{ErrorWord}
use Rattle.ak_trace.specs.declared.keyword.ErrorWord.TheVariants as error
use Rattle.ak_trace.specs.declared.keyword.PoolWord.{PoolWord}
use Rattle.ak_trace.specs.declared.keyword.PoolWord.TheVariants as pool
use Rattle.ak_trace.specs.Text.{priority_word, answer_word, ending_word}
use Rattle.ak_trace.specs.Reading.{entry_row, IsEntry}
use Rattle.ak_trace.specs.Taken.{job_word, all_job_words, job_named, error_word, all_error_words, error_named, pool_word, all_pool_words, pool_named, both_truths, all_endings, priority_of, answer_of, ending_of, priority_at, answer_at, ending_at, nothing_at, job_entry, error_entry, pool_entry, begun_or, no_entry, entry_behind, entry_at, entry_of}

-- ---- words of entries alone
priority_there : (low : Bool) → find (λ y. bytes_eq (priority_word y) (priority_word low)) both_truths ≡ Some low
priority_there true = refl
priority_there false = refl

priority_part : IsPart (λ low. Exactly (priority_word low) ∷ []) priority_at
unfolding priority_at priority_of
priority_part = item_part (λ low. Exactly (priority_word low)) priority_of (table_item priority_word both_truths priority_there)

answer_there : (granted : Bool) → find (λ y. bytes_eq (answer_word y) (answer_word granted)) both_truths ≡ Some granted
answer_there true = refl
answer_there false = refl

answer_part : IsPart (λ granted. Exactly (answer_word granted) ∷ []) answer_at
unfolding answer_at answer_of
answer_part = item_part (λ granted. Exactly (answer_word granted)) answer_of (table_item answer_word both_truths answer_there)

ending_there : (why : Ending) → find (λ y. bytes_eq (ending_word y) (ending_word why)) all_endings ≡ Some why
ending_there ending.Idle = refl
ending_there ending.Stopped = refl
ending_there ending.Unhandled = refl
ending_there ending.Jobs = refl
ending_there ending.Stuck = refl

ending_part : IsPart (λ why. Exactly (ending_word why) ∷ []) ending_at
unfolding ending_at ending_of
ending_part = item_part (λ why. Exactly (ending_word why)) ending_of (table_item ending_word all_endings ending_there)

nothing_part : IsPart (λ (u : Unit {0}). []) nothing_at
nothing_part = record {
  sound = λ words left x h places rest. subst (λ (ws : List (List ℕ)). AllZip Stands places ws) (sym (left_is words left x h)) rest;
  complete = λ words x places h. (words, refl, h);
}
  where
    left_is : (words left : List (List ℕ)) (x : Unit {0}) → nothing_at words ≡ Some (x, left) → words ≡ left
    left_is words left x h = ap (λ (o : Option (Unit {0} × List (List ℕ))). last o) h
      where
        last : Option (Unit {0} × List (List ℕ)) → List (List ℕ)
        last (Some p) = p.1
        last None = []

-- ---- what is taken
-- the words of the row of what the word begins
abbrev BeginsRow : List ℕ → List (List ℕ) → List (List ℕ) → Entry → Type 0
BeginsRow word words left e = (places : List Place) → AllZip Stands places left → AllZip Stands (entry_row e ++ places) (word ∷ words)

job_entry_sound : (first : JobWord) (words left : List (List ℕ)) (e : Entry) → job_entry first words ≡ Some (e, left) → BeginsRow (job_word first) words left e
unfolding job_entry
job_entry_sound job.Cycle words left e = mapped_sound (λ t. entry.Cycle) (codes "cycle") entry_row nothing_part (λ t. refl) words left e
job_entry_sound job.Enq words left e =
    mapped_sound (λ t. entry.Enq t.0 t.1) (codes "enq") entry_row (both_part long_part priority_part) (λ t. refl) words left e
job_entry_sound job.Job words left e = mapped_sound (λ t. entry.Job t) (codes "job") entry_row long_part (λ t. refl) words left e
job_entry_sound job.Fill words left e =
    mapped_sound (λ t. entry.Fill t.0 t.1) (codes "fill") entry_row (both_part thing_part signed_part) (λ t. refl) words left e
job_entry_sound job.Join words left e =
    mapped_sound (λ t. entry.Join t.0 t.1) (codes "join") entry_row (both_part thing_part thing_part) (λ t. refl) words left e
job_entry_sound job.Print words left e = mapped_sound (λ t. entry.Print t) (codes "print") entry_row signed_part (λ t. refl) words left e

error_entry_sound : (first : ErrorWord) (words left : List (List ℕ)) (e : Entry) → error_entry first words ≡ Some (e, left)
    → BeginsRow (error_word first) words left e
unfolding error_entry
error_entry_sound error.Monitor words left e =
    mapped_sound (λ t. entry.Monitor t.0 t.1) (codes "monitor") entry_row (both_part thing_part thing_part) (λ t. refl) words left e
error_entry_sound error.Detach words left e = mapped_sound (λ t. entry.Detach t) (codes "detach") entry_row thing_part (λ t. refl) words left e
error_entry_sound error.Attach words left e = mapped_sound (λ t. entry.Attach t) (codes "attach") entry_row thing_part (λ t. refl) words left e
error_entry_sound error.Error words left e =
    mapped_sound (λ t. entry.Error t.0 t.1) (codes "error") entry_row (both_part signed_part thing_part) (λ t. refl) words left e
error_entry_sound error.Caught words left e = mapped_sound (λ t. entry.Caught t) (codes "caught") entry_row thing_part (λ t. refl) words left e
error_entry_sound error.Rest words left e = mapped_sound (λ t. entry.Rest t) (codes "rest") entry_row signed_part (λ t. refl) words left e
error_entry_sound error.Unhandled words left e = mapped_sound (λ t. entry.Unhandled t) (codes "unhandled") entry_row signed_part (λ t. refl) words left e

pool_entry_sound : (first : PoolWord) (words left : List (List ℕ)) (e : Entry) → pool_entry first words ≡ Some (e, left)
    → BeginsRow (pool_word first) words left e
unfolding pool_entry
pool_entry_sound pool.Submit words left e =
    mapped_sound (λ t. entry.Submit t.0 t.1.0 t.1.1) (codes "submit") entry_row (both_part thing_part (both_part kind_part signed_part))
    (λ t. refl) words left e
pool_entry_sound pool.Helper words left e =
    mapped_sound (λ t. entry.Helper t.0 t.1) (codes "helper") entry_row (both_part thing_part answer_part) (λ t. refl) words left e
pool_entry_sound pool.Arrive words left e =
    mapped_sound (λ t. entry.Arrive t.0 t.1) (codes "arrive") entry_row (both_part thing_part outcome_part) (λ t. refl) words left e
pool_entry_sound pool.Request words left e =
    mapped_sound (λ t. entry.Request t.0 t.1.0 t.1.1) (codes "request") entry_row (both_part long_part (both_part signed_part thing_part)) (λ t. refl)
    words left e
pool_entry_sound pool.Answer words left e =
    mapped_sound (λ t. entry.Answer t.0 t.1) (codes "answer") entry_row (both_part long_part signed_part) (λ t. refl) words left e
pool_entry_sound pool.End words left e = mapped_sound (λ t. entry.End t) (codes "end") entry_row ending_part (λ t. refl) words left e

begun_or_sound : {K : Type 0} (text : K → List ℕ) (table : List K) (word : List ℕ) (begun : K → Part Entry) (other : Part Entry)
    (words left : List (List ℕ)) (e : Entry)
    → begun_or (find (λ k. bytes_eq (text k) word) table) begun other words ≡ Some (e, left)
    → ((k : K) → begun k words ≡ Some (e, left) → BeginsRow (text k) words left e)
    → (other words ≡ Some (e, left) → BeginsRow word words left e) → BeginsRow word words left e
begun_or_sound {K} text table word begun other words left e h each others = of (find (λ k. bytes_eq (text k) word) table) refl h
  where
    of : (o : Option K) → find (λ k. bytes_eq (text k) word) table ≡ o → begun_or o begun other words ≡ Some (e, left) → BeginsRow word words left e
    of (Some k) f h = subst (λ (w : List ℕ). BeginsRow w words left e) (sym (table_reads text table word k f)) (each k h)
    of None f h = others h

no_entry_found : (word : List ℕ) (words left : List (List ℕ)) (e : Entry) → no_entry words ≡ Some (e, left) → BeginsRow word words left e
no_entry_found word words left e h = cc

entry_behind_sound : (word : List ℕ) (words left : List (List ℕ)) (e : Entry) → entry_behind word words ≡ Some (e, left) → BeginsRow word words left e
unfolding entry_behind job_named error_named pool_named
entry_behind_sound word words left e h =
    begun_or_sound job_word all_job_words word job_entry
    (begun_or (error_named word) error_entry (begun_or (pool_named word) pool_entry no_entry)) words left e h
    (λ k. job_entry_sound k words left e)
    (λ h1. begun_or_sound error_word all_error_words word error_entry (begun_or (pool_named word) pool_entry no_entry) words left e h1
    (λ k. error_entry_sound k words left e)
    (λ h2. begun_or_sound pool_word all_pool_words word pool_entry no_entry words left e h2 (λ k. pool_entry_sound k words left e)
    (λ h3. no_entry_found word words left e h3)))

entry_at_sound : (words left : List (List ℕ)) (e : Entry) → entry_at words ≡ Some (e, left) → (places : List Place)
    → AllZip Stands places left → AllZip Stands (entry_row e ++ places) words
unfolding entry_at
entry_at_sound [] left e h places rest = cc
entry_at_sound (word ∷ words) left e h places rest = entry_behind_sound word words left e h places rest

-- ---- all is taken
abbrev Takes : List (List ℕ) → Entry → List Place → Type 0
Takes words e places = (left : List (List ℕ)) × (entry_at words ≡ Some (e, left)) × AllZip Stands places left

row_complete : {T : Type 0} (f : T → Entry) (first : List ℕ) {row : T → List Place} {part : Part T} → IsPart row part
    → ((words : List (List ℕ)) → entry_behind first words ≡ mapped f part words)
    → (x : T) (words : List (List ℕ)) (places : List Place) → AllZip Stands ((Exactly first ∷ row x) ++ places) words → Takes words (f x) places
unfolding entry_at
row_complete f first p begins x [] places h = absurd h
row_complete f first p begins x (word ∷ words) places h =
    let y = mapped_complete f p words x places h.1 in
    (y.0, subst (λ (w : List ℕ). entry_behind w words ≡ Some (f x, y.0)) (sym h.0) (begins words ∙ y.1), y.2)

entry_at_complete : (words : List (List ℕ)) (e : Entry) (places : List Place) → AllZip Stands (entry_row e ++ places) words → Takes words e places
unfolding entry_behind job_named job_entry error_named error_entry pool_named pool_entry
entry_at_complete words entry.Cycle places h = row_complete (λ t. entry.Cycle) (codes "cycle") nothing_part (λ ws. refl) tt words places h
entry_at_complete words (entry.Enq job low) places h =
    row_complete (λ t. entry.Enq t.0 t.1) (codes "enq") (both_part long_part priority_part) (λ ws. refl) (job, low) words places h
entry_at_complete words (entry.Job job) places h = row_complete (λ t. entry.Job t) (codes "job") long_part (λ ws. refl) job words places h
entry_at_complete words (entry.Fill ivar num) places h =
    row_complete (λ t. entry.Fill t.0 t.1) (codes "fill") (both_part thing_part signed_part) (λ ws. refl) (ivar, num) words places h
entry_at_complete words (entry.Join result right) places h =
    row_complete (λ t. entry.Join t.0 t.1) (codes "join") (both_part thing_part thing_part) (λ ws. refl) (result, right) words places h
entry_at_complete words (entry.Print num) places h = row_complete (λ t. entry.Print t) (codes "print") signed_part (λ ws. refl) num words places h
entry_at_complete words (entry.Monitor mon parent) places h =
    row_complete (λ t. entry.Monitor t.0 t.1) (codes "monitor") (both_part thing_part thing_part) (λ ws. refl) (mon, parent) words places h
entry_at_complete words (entry.Detach mon) places h = row_complete (λ t. entry.Detach t) (codes "detach") thing_part (λ ws. refl) mon words places h
entry_at_complete words (entry.Attach mon) places h = row_complete (λ t. entry.Attach t) (codes "attach") thing_part (λ ws. refl) mon words places h
entry_at_complete words (entry.Error num mon) places h =
    row_complete (λ t. entry.Error t.0 t.1) (codes "error") (both_part signed_part thing_part) (λ ws. refl) (num, mon) words places h
entry_at_complete words (entry.Caught mon) places h = row_complete (λ t. entry.Caught t) (codes "caught") thing_part (λ ws. refl) mon words places h
entry_at_complete words (entry.Rest num) places h = row_complete (λ t. entry.Rest t) (codes "rest") signed_part (λ ws. refl) num words places h
entry_at_complete words (entry.Unhandled num) places h = row_complete (λ t. entry.Unhandled t) (codes "unhandled") signed_part (λ ws. refl) num words places h
entry_at_complete words (entry.Submit work kind num) places h =
    row_complete (λ t. entry.Submit t.0 t.1.0 t.1.1) (codes "submit") (both_part thing_part (both_part kind_part signed_part))
    (λ ws. refl) (work, (kind, num)) words places h
entry_at_complete words (entry.Helper helper granted) places h =
    row_complete (λ t. entry.Helper t.0 t.1) (codes "helper") (both_part thing_part answer_part) (λ ws. refl)
    (helper, granted) words places h
entry_at_complete words (entry.Arrive work outcome) places h =
    row_complete (λ t. entry.Arrive t.0 t.1) (codes "arrive") (both_part thing_part outcome_part) (λ ws. refl)
    (work, outcome) words places h
entry_at_complete words (entry.Request request num result) places h =
    row_complete (λ t. entry.Request t.0 t.1.0 t.1.1) (codes "request") (both_part long_part (both_part signed_part thing_part)) (λ ws. refl)
    (request, (num, result)) words places h
entry_at_complete words (entry.Answer request num) places h =
    row_complete (λ t. entry.Answer t.0 t.1) (codes "answer") (both_part long_part signed_part) (λ ws. refl) (request, num) words places h
entry_at_complete words (entry.End why) places h = row_complete (λ t. entry.End t) (codes "end") ending_part (λ ws. refl) why words places h

entry_part : IsPart entry_row entry_at
entry_part = record { sound = entry_at_sound; complete = entry_at_complete }

-- ---- lines
pub entry_reads : (line : TextLine) (e : Entry) → entry_of line ≡ Some e → IsEntry e line
unfolding entry_of row_words
entry_reads line e h = of (has_bad_byte line.text) refl h
  where
    of : (b : Bool) → has_bad_byte line.text ≡ b → (cond b None (Some (words_of line.text)) >>= whole entry_at) ≡ Some e → IsEntry e line
    of true bad h = cc
    of false bad h = record { good = bad; words = whole_sound entry_row entry_at entry_part (words_of line.text) e h }

pub entry_found : (e : Entry) (line : TextLine) → IsEntry e line → entry_of line ≡ Some e
unfolding entry_of row_words
entry_found e line h = rw (h.good) (whole_complete entry_row entry_at entry_part (words_of line.text) e h.words)

-- no line is two entries
pub one_entry : (a b : Entry) (line : TextLine) → IsEntry a line → IsEntry b line → a ≡ b
one_entry a b line h k = let found = sym (entry_found a line h) ∙ entry_found b line k in cc

pub no_entry_of : (line : TextLine) → entry_of line ≡ None → (e : Entry) → IsEntry e line → ⊥
no_entry_of line none e h = let found = entry_found e line h in cc
