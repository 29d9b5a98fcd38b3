-- What the reader makes of a text is the history that it is, or its first bad line.
use Rattle.std.proofs.Common.{◌≡◌, ℕ, ◌≤◌, Result, Ok, Err, List, [], ◌∷◌, length, refl, sym, ap, ◌∙◌, subst, ◌⊎◌, inl, inr, arith}
use Rattle.std.proofs.lemmas.List.{append-nil}
use Rattle.ak_text.specs.Lines.{numbered, lines_of}
use Rattle.ak_history.specs.declared.event.Event.{Event}
use Rattle.ak_history.specs.declared.reading.Recorded.{Recorded}
use Rattle.ak_history.specs.declared.refusal.HistoryRefused.{HistoryRefused}
use Rattle.ak_history.specs.declared.refusal.HistoryRefused.TheVariants.{BadLine, NoMemory}
use Rattle.ak_history.specs.Answers.{IsRight, IsHistory, IsBadLine}
use Rattle.ak_history.specs.Reading.{HistoryReads, IsFirstBad, lines_from, rows_events, rows_numbers, most_events}
use Rattle.ak_history.specs.Taking.{Tells, walked, nothing_read}
use Rattle.ak_history.proofs.Walks.{with_lines, walk, walked_walk, walk_ok, walk_err, walk_rows, walk_bad}

-- what the reader makes of all lines
abbrev pub found : List ℕ → ℕ → Result Recorded ℕ
found bytes first = walked nothing_read (numbered first (lines_of bytes))

abbrev pub recorded : List Event → List ℕ → Recorded
recorded events lines = record { history = events; lines = lines }

by_walk : (bytes : List ℕ) (first : ℕ) → found bytes first ≡ walk nothing_read (lines_from first bytes)
by_walk bytes first = walked_walk (numbered first (lines_of bytes)) nothing_read

pub found_reads : (bytes : List ℕ) (first : ℕ) (r : Recorded) → found bytes first ≡ Ok r → HistoryReads bytes first r.history r.lines
found_reads bytes first r h =
    let all = walk_ok (lines_from first bytes) nothing_read r (omega arith) (sym (by_walk bytes first) ∙ h) in
    record {
      rows = all.rows;
      each = all.each;
      events_are = ap (λ (x : Recorded). x.history) all.last_is;
      lines_are = ap (λ (x : Recorded). x.lines) all.last_is;
      few = all.few;
    }

pub reads_found : (bytes : List ℕ) (first : ℕ) (events : List Event) (lines : List ℕ) → HistoryReads bytes first events lines
    → found bytes first ≡ Ok (recorded events lines)
reads_found bytes first events lines h =
    let few : length (rows_events h.rows) ≤ most_events = subst (λ (es : List Event). length es ≤ most_events) h.events_are h.few in
    let all = lines_from first bytes in
    by_walk bytes first
    ∙ ap (walk nothing_read) (sym (append-nil (lines_from first bytes)))
    ∙ walk_rows h.rows (lines_from first bytes) [] nothing_read h.each (omega (arith, few))
    ∙ ap (λ (es : List Event). Ok (recorded es (rows_numbers h.rows (lines_from first bytes)))) (sym h.events_are)
    ∙ ap (λ (ls : List ℕ). Ok (recorded events ls)) (sym h.lines_are)

pub found_bad : (bytes : List ℕ) (first number : ℕ) → found bytes first ≡ Err number → IsFirstBad bytes first number
found_bad bytes first number h =
    let bad = walk_err (lines_from first bytes) nothing_read number (omega arith) (sym (by_walk bytes first) ∙ h) in
    record {
      before = bad.before;
      line = bad.line;
      after = bad.after;
      rows = bad.rows;
      cut = bad.cut;
      each = bad.each;
      few = bad.few;
      bad = bad.bad;
      number_is = bad.number_is;
    }

pub bad_found : (bytes : List ℕ) (first number : ℕ) → IsFirstBad bytes first number → found bytes first ≡ Err number
bad_found bytes first number h =
    by_walk bytes first
    ∙ ap (walk nothing_read) h.cut
    ∙ walk_rows h.rows h.before (h.line ∷ h.after) nothing_read h.each (omega (arith, h.few))
    ∙ walk_bad (with_lines nothing_read h.rows h.before) h.line h.after h.bad
    ∙ ap (λ (n : ℕ). Err n) (sym h.number_is)

-- ---- laws
abbrev ok : Recorded → Result Recorded ℕ
ok r = Ok r

ok_is : {a b : Recorded} → ok a ≡ ok b → a ≡ b
ok_is e = cc

err_is : {a b : ℕ} → (let r : Result Recorded ℕ = Err a in r ≡ Err b) → a ≡ b
err_is e = cc

mixed_up : (r : Recorded) (n : ℕ) → ok r ≡ Err n → ⊥
mixed_up r n e = cc

pub one_history : (bytes : List ℕ) (first : ℕ) (a b : List Event) (l m : List ℕ) → HistoryReads bytes first a l → HistoryReads bytes first b m
    → (a ≡ b) × (l ≡ m)
one_history bytes first a b l m h k =
    let same = ok_is (sym (reads_found bytes first a l h) ∙ reads_found bytes first b m k) in
    (ap (λ (x : Recorded). x.history) same, ap (λ (x : Recorded). x.lines) same)

pub one_bad_line : (bytes : List ℕ) (first l m : ℕ) → IsFirstBad bytes first l → IsFirstBad bytes first m → l ≡ m
one_bad_line bytes first l m h k = err_is (sym (bad_found bytes first l h) ∙ bad_found bytes first m k)

pub never_both : (bytes : List ℕ) (first : ℕ) (events : List Event) (lines : List ℕ) (number : ℕ) → HistoryReads bytes first events lines
    → IsFirstBad bytes first number → ⊥
never_both bytes first events lines number h k =
    mixed_up (recorded events lines) number (sym (reads_found bytes first events lines h) ∙ bad_found bytes first number k)

pub either : (bytes : List ℕ) (first : ℕ)
    → ((events : List Event) × (lines : List ℕ) × HistoryReads bytes first events lines) ⊎ ((number : ℕ) × IsFirstBad bytes first number)
either bytes first = of (found bytes first) refl
  where
    of : (r : Result Recorded ℕ) → found bytes first ≡ r
        → ((events : List Event) × (lines : List ℕ) × HistoryReads bytes first events lines) ⊎ ((number : ℕ) × IsFirstBad bytes first number)
    of (Ok r) e = inl (r.history, r.lines, found_reads bytes first r e)
    of (Err number) e = inr (number, found_bad bytes first number e)

-- ---- answers
pub tells_right : (bytes : List ℕ) (first : ℕ) (answer : Result Recorded HistoryRefused) → Tells answer (found bytes first) → IsRight bytes first answer
tells_right bytes first (Ok r) h = found_reads bytes first r h
tells_right bytes first (Err (BadLine line)) h = found_bad bytes first line h
tells_right bytes first (Err NoMemory) h = tt

pub tells_history : (bytes : List ℕ) (first : ℕ) (events : List Event) (lines : List ℕ) (answer : Result Recorded HistoryRefused)
    → Tells answer (found bytes first) → HistoryReads bytes first events lines → IsHistory answer events lines
tells_history bytes first events lines (Ok r) h k =
    let same = ok_is (sym h ∙ reads_found bytes first events lines k) in
    (ap (λ (x : Recorded). x.history) same, ap (λ (x : Recorded). x.lines) same)
tells_history bytes first events lines (Err (BadLine line)) h k = mixed_up (recorded events lines) line (sym (reads_found bytes first events lines k) ∙ h)
tells_history bytes first events lines (Err NoMemory) h k = tt

pub tells_bad : (bytes : List ℕ) (first number : ℕ) (answer : Result Recorded HistoryRefused) → Tells answer (found bytes first)
    → IsFirstBad bytes first number → IsBadLine answer number
tells_bad bytes first number (Ok r) h k = mixed_up r number (sym h ∙ bad_found bytes first number k)
tells_bad bytes first number (Err (BadLine line)) h k = err_is (sym h ∙ bad_found bytes first number k)
tells_bad bytes first number (Err NoMemory) h k = tt
