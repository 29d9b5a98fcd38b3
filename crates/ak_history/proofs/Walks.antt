-- All lines of a text, one behind the other: what the reader makes of them is the history that they are, or the first
-- bad one among them.
use Rattle.std.proofs.Common.{◌≡◌, ℕ, zero, suc, ◌+◌, ◌<◌, ◌≤◌, Bool, true, false, nat_le, cond, Option, Some, None, Result, Ok, Err, List, [], ◌∷◌, ◌++◌, length, filter, replicate, refl, sym, ap, ◌∙◌, subst, arith, append_assoc, length-append}
use Rattle.std.proofs.lemmas.List.{append-nil}
use Rattle.std.specs.List.{AllZip}
use Rattle.ak_text.specs.Lines.{TextLine, words_of, has_bad_byte, counts}
use Rattle.ak_row.specs.Places.{Stands}
use Rattle.ak_row.specs.Parts.{◌>>=◌, row_words}
use Rattle.ak_row.proofs.Parts.{some_is, bind_some, bind_is}
use Rattle.ak_history.specs.declared.event.Event.{Event}
use Rattle.ak_history.specs.declared.event.Event.TheVariants as event
use Rattle.ak_history.specs.declared.line.HistoryLine.{HistoryLine}
use Rattle.ak_history.specs.declared.line.HistoryLine.TheVariants.{Idle, Of}
use Rattle.ak_history.specs.declared.reading.Recorded.{Recorded}
use Rattle.ak_history.specs.Reading.{line_row, IsHistoryLine, line_events, rows_events, rows_numbers, most_events, IsBadBehind}
use Rattle.ak_history.specs.Taking.{count_of_events, with_line, line_added, line_of, line_found, line_taken, walked_next, walked}
use Rattle.ak_history.proofs.Rows.{line_sound, line_complete}

-- ---- one line
words_found : (b : Bool) (words words_are : List (List ℕ)) → cond b None (Some words_are) ≡ Some words → (b ≡ false) × (words_are ≡ words)
words_found true words words_are h = cc
words_found false words words_are h = (refl, some_is h)

-- what is found of a line is the line
pub found_reads : (line : TextLine) (row : HistoryLine) → line_found line ≡ Some row → IsHistoryLine row line
unfolding line_found row_words
found_reads line row h =
    let w = bind_some (row_words line) line_of row h in
    let is = words_found (has_bad_byte line.text) w.0 (words_of line.text) w.1 in
    let found = line_sound w.0 row w.2 in
    record {
      words = record { good = is.0; words = subst (λ (ws : List (List ℕ)). AllZip Stands (line_row row) ws) (sym is.1) found.row };
      brings = found.brings;
    }

-- a line is found
pub found_is : (line : TextLine) (row : HistoryLine) → IsHistoryLine row line → line_found line ≡ Some row
unfolding line_found row_words
found_is line row h = rw (h.words.good) (line_complete row (words_of line.text) (record { row = h.words.words; brings = h.brings }))

-- one line of a text is one line of a history
pub one_line : (line : TextLine) (a b : HistoryLine) → IsHistoryLine a line → IsHistoryLine b line → a ≡ b
one_line line a b h k = some_is (sym (found_is line a h) ∙ found_is line b k)

-- ---- counting
replicated : {A : Type 0} (n : ℕ) (x : A) → length (replicate n x) ≡ n
replicated zero x = refl
replicated (suc n) x = ap suc (replicated n x)

pub count_is : (row : HistoryLine) → length (line_events row) ≡ count_of_events row
count_is (Idle n) = replicated n (event.Drain [] [])
count_is (Of e) = refl

-- the events of lines behind those that were read
abbrev pub with_lines : Recorded → List HistoryLine → List TextLine → Recorded
with_lines r rows lines = record { history = r.history ++ rows_events rows; lines = r.lines ++ rows_numbers rows lines }

abbrev recorded : List Event → List ℕ → Recorded
recorded history lines = record { history = history; lines = lines }

recorded_is : (a b : Recorded) → a.history ≡ b.history → a.lines ≡ b.lines → a ≡ b
recorded_is a b h k = ap (λ (x : List Event). recorded x a.lines) h ∙ ap (λ (y : List ℕ). recorded b.history y) k

pub one_then : (r : Recorded) (row : HistoryLine) (line : TextLine) (rows : List HistoryLine) (lines : List TextLine)
    → with_lines (with_line r line.number row) rows lines ≡ with_lines r (row ∷ rows) (line ∷ lines)
one_then r row line rows lines =
    let numbers : (r.lines ++ replicate (count_of_events row) line.number) ++ rows_numbers rows lines ≡ r.lines
    ++ (replicate (length (line_events row)) line.number ++ rows_numbers rows lines) =
    append_assoc r.lines (replicate (count_of_events row) line.number) (rows_numbers rows lines)
    ∙ ap (λ (k : ℕ). r.lines ++ (replicate k line.number ++ rows_numbers rows lines)) (sym (count_is row)) in
    recorded_is (with_lines (with_line r line.number row) rows lines) (with_lines r (row ∷ rows) (line ∷ lines))
    (append_assoc r.history (line_events row) (rows_events rows)) numbers

pub no_lines : (r : Recorded) (lines : List TextLine) → with_lines r [] lines ≡ r
no_lines r lines = recorded_is (with_lines r [] lines) r (append-nil r.history) (append-nil r.lines)

grown_by : (r : Recorded) (number : ℕ) (row : HistoryLine) → length (with_line r number row).history ≡ length r.history + count_of_events row
grown_by r number row = length-append r.history (line_events row) ∙ ap (λ (k : ℕ). length r.history + k) (count_is row)

-- ---- room
pub added_is : (r next : Recorded) (number : ℕ) (row : HistoryLine) → line_added r number row ≡ Some next
    → (next ≡ with_line r number row) × (length next.history ≤ most_events)
unfolding line_added
added_is r next number row h = of (nat_le (length r.history + count_of_events row) most_events) refl h
  where
    of : (b : Bool) → nat_le (length r.history + count_of_events row) most_events ≡ b → cond b (Some (with_line r number row)) None ≡ Some next
        → (next ≡ with_line r number row) × (length next.history ≤ most_events)
    of true e h =
        let same : next ≡ with_line r number row = sym (some_is h) in
        let room : length r.history + count_of_events row ≤ most_events = grind arith in
        let grown = grown_by r number row in
        (same, rw same (omega (arith, grown, room)))
    of false e h = cc

pub added_some : (r : Recorded) (number : ℕ) (row : HistoryLine) → length r.history + length (line_events row) ≤ most_events
    → line_added r number row ≡ Some (with_line r number row)
unfolding line_added
added_some r number row h =
    let count = count_is row in
    let fits : nat_le (length r.history + count_of_events row) most_events ≡ true = grind arith in
    rw fits refl

pub added_none : (r : Recorded) (number : ℕ) (row : HistoryLine) → most_events < length r.history + length (line_events row) → line_added r number row ≡ None
unfolding line_added
added_none r number row h =
    let count = count_is row in
    let over : nat_le (length r.history + count_of_events row) most_events ≡ false = grind arith in
    rw over refl

none_added : (r : Recorded) (number : ℕ) (row : HistoryLine) → line_added r number row ≡ None → most_events < length r.history + length (line_events row)
unfolding line_added
none_added r number row h = of (nat_le (length r.history + count_of_events row) most_events) refl h
  where
    of : (b : Bool) → nat_le (length r.history + count_of_events row) most_events ≡ b → cond b (Some (with_line r number row)) None ≡ None
        → most_events < length r.history + length (line_events row)
    of true e h = cc
    of false e h = let count = count_is row in grind arith

-- ---- a line behind others
pub taken_reads : (r next : Recorded) (number : ℕ) (line : TextLine) → line_taken r number line ≡ Some next
    → (row : HistoryLine) × IsHistoryLine row line × (next ≡ with_line r number row) × (length next.history ≤ most_events)
unfolding line_taken
taken_reads r next number line h =
    let row = bind_some (line_found line) (line_added r number) next h in
    let added = added_is r next number row.0 row.2 in
    (row.0, found_reads line row.0 row.1, added.0, added.1)

pub taken_some : (r : Recorded) (number : ℕ) (line : TextLine) (row : HistoryLine) → IsHistoryLine row line
    → length r.history + length (line_events row) ≤ most_events → line_taken r number line ≡ Some (with_line r number row)
unfolding line_taken
taken_some r number line row h room = bind_is (line_found line) (line_added r number) row (found_is line row h) ∙ added_some r number row room

pub taken_none : (r : Recorded) (number : ℕ) (line : TextLine) → IsBadBehind (length r.history) line → line_taken r number line ≡ None
unfolding line_taken
taken_none r number line bad = of (line_found line) refl
  where
    of : (o : Option HistoryLine) → line_found line ≡ o → (o >>= line_added r number) ≡ None
    of None e = refl
    of (Some row) e = added_none r number row (bad row (found_reads line row e))

pub none_taken : (r : Recorded) (number : ℕ) (line : TextLine) → line_taken r number line ≡ None → IsBadBehind (length r.history) line
unfolding line_taken
none_taken r number line h = λ row is.
    none_added r number row (sym (bind_is (line_found line) (line_added r number) row (found_is line row is)) ∙ h)

-- ---- all lines that are not skipped
abbrev pub walk : Recorded → List TextLine → Result Recorded ℕ
walk r [] = Ok r
walk r (line ∷ lines) = walked_next line.number (line_taken r line.number line) (λ next. walk next lines)

then_same : (number : ℕ) (o : Option Recorded) (f g : Recorded → Result Recorded ℕ) → ((next : Recorded) → f next ≡ g next)
    → walked_next number o f ≡ walked_next number o g
then_same number (Some next) f g h = h next
then_same number None f g h = refl

one_kept : (b : Bool) (line : TextLine) (lines : List TextLine) (r : Recorded) → counts line ≡ b
    → ((next : Recorded) → walked next lines ≡ walk next (filter counts lines))
    → cond b (walked_next line.number (line_taken r line.number line) (λ next. walked next lines)) (walked r lines) ≡ walk r (filter counts (line ∷ lines))
one_kept true line lines r e ih =
    rw e (then_same line.number (line_taken r line.number line) (λ next. walked next lines) (λ next. walk next (filter counts lines)) ih)
one_kept false line lines r e ih = rw e (ih r)

pub walked_walk : (lines : List TextLine) (r : Recorded) → walked r lines ≡ walk r (filter counts lines)
unfolding walked
walked_walk [] r = refl
walked_walk (line ∷ lines) r = one_kept (counts line) line lines r refl (λ next. walked_walk lines next)

-- ---- what was walked
ok_is : {a b : Recorded} → (let r : Result Recorded ℕ = Ok a in r ≡ Ok b) → a ≡ b
ok_is e = cc

err_is : {a b : ℕ} → (let r : Result Recorded ℕ = Err a in r ≡ Err b) → a ≡ b
err_is e = cc

not_both : (a : ℕ) (b : Recorded) → (let r : Result Recorded ℕ = Err a in r ≡ Ok b) → ⊥
not_both a b e = cc

pub step : (r next : Recorded) (line : TextLine) (lines : List TextLine) → line_taken r line.number line ≡ Some next → walk r (line ∷ lines) ≡ walk next lines
step r next line lines h = ap (λ (o : Option Recorded). walked_next line.number o (λ n. walk n lines)) h

stop : (r : Recorded) (line : TextLine) (lines : List TextLine) → line_taken r line.number line ≡ None → walk r (line ∷ lines) ≡ Err line.number
stop r line lines h = ap (λ (o : Option Recorded). walked_next line.number o (λ n. walk n lines)) h

-- the lines are these, behind what was read
pub record AreRows (r last : Recorded) (lines : List TextLine) : Type 0 where
  pub rows : List HistoryLine
  pub each : AllZip IsHistoryLine rows lines
  pub last_is : last ≡ with_lines r rows lines
  pub few : length last.history ≤ most_events

one_ok : (line : TextLine) (lines : List TextLine) (r last : Recorded) (o : Option Recorded) → line_taken r line.number line ≡ o
    → walk r (line ∷ lines) ≡ Ok last
    → ((next : Recorded) → length next.history ≤ most_events → walk next lines ≡ Ok last → AreRows next last lines) → AreRows r last (line ∷ lines)
one_ok line lines r last (Some next) is h ih =
    let row = taken_reads r next line.number line is in
    let rest = ih next row.3 (sym (step r next line lines is) ∙ h) in
    record {
      rows = row.0 ∷ rest.rows;
      each = (row.1, rest.each);
      last_is = rest.last_is ∙ ap (λ (n : Recorded). with_lines n rest.rows lines) row.2 ∙ one_then r row.0 line rest.rows lines;
      few = rest.few;
    }
one_ok line lines r last None is h ih = absurd (not_both line.number last (sym (stop r line lines is) ∙ h))

pub walk_ok : (lines : List TextLine) (r last : Recorded) → length r.history ≤ most_events → walk r lines ≡ Ok last → AreRows r last lines
walk_ok [] r last few h = record {
  rows = [];
  each = tt;
  last_is = sym (ok_is h) ∙ sym (no_lines r []);
  few =
      subst (λ (x : Recorded). length x.history ≤ most_events) (ok_is h) few;
}
walk_ok (line ∷ lines) r last few h = one_ok line lines r last (line_taken r line.number line) refl h (λ next. walk_ok lines next last)

-- the first bad line, behind what was read
pub record AreBad (r : Recorded) (lines : List TextLine) (number : ℕ) : Type 0 where
  pub before : List TextLine
  pub line : TextLine
  pub after : List TextLine
  pub rows : List HistoryLine
  pub cut : lines ≡ before ++ line ∷ after
  pub each : AllZip IsHistoryLine rows before
  pub few : length (with_lines r rows before).history ≤ most_events
  pub bad : IsBadBehind (length (with_lines r rows before).history) line
  pub number_is : number ≡ line.number

one_err : (line : TextLine) (lines : List TextLine) (r : Recorded) (number : ℕ) (o : Option Recorded) → line_taken r line.number line ≡ o
    → length r.history ≤ most_events → walk r (line ∷ lines) ≡ Err number
    → ((next : Recorded) → length next.history ≤ most_events → walk next lines ≡ Err number → AreBad next lines number) → AreBad r (line ∷ lines) number
one_err line lines r number (Some next) is few h ih =
    let row = taken_reads r next line.number line is in
    let rest = ih next row.3 (sym (step r next line lines is) ∙ h) in
    let same : with_lines next rest.rows rest.before ≡ with_lines r (row.0 ∷ rest.rows) (line ∷ rest.before) =
    ap (λ (n : Recorded). with_lines n rest.rows rest.before) row.2 ∙ one_then r row.0 line rest.rows rest.before in
    record {
      before = line ∷ rest.before;
      line = rest.line;
      after = rest.after;
      rows = row.0 ∷ rest.rows;
      cut = ap (λ (ls : List TextLine). line ∷ ls) rest.cut;
      each = (row.1, rest.each);
      few = subst (λ (x : Recorded). length x.history ≤ most_events) same rest.few;
      bad = subst (λ (x : Recorded). IsBadBehind (length x.history) rest.line) same rest.bad;
      number_is = rest.number_is;
    }
one_err line lines r number None is few h ih =
    record {
      before = [];
      line = line;
      after = lines;
      rows = [];
      cut = refl;
      each = tt;
      few = subst (λ (x : Recorded). length x.history ≤ most_events) (sym (no_lines r [])) few;
      bad = subst (λ (x : Recorded). IsBadBehind (length x.history) line) (sym (no_lines r [])) (none_taken r line.number line is);
      number_is = err_is (sym h ∙ stop r line lines is);
    }

pub walk_err : (lines : List TextLine) (r : Recorded) (number : ℕ) → length r.history ≤ most_events → walk r lines ≡ Err number → AreBad r lines number
walk_err [] r number few h = absurd (not_both number r (sym h))
walk_err (line ∷ lines) r number few h = one_err line lines r number (line_taken r line.number line) refl few h (λ next. walk_err lines next number)

-- ---- what is to be walked
pub walk_rows : (rows : List HistoryLine) (lines rest : List TextLine) (r : Recorded) → AllZip IsHistoryLine rows lines
    → length r.history + length (rows_events rows) ≤ most_events
    → walk r (lines ++ rest) ≡ walk (with_lines r rows lines) rest
walk_rows [] [] rest r h few = ap (λ (x : Recorded). walk x rest) (sym (no_lines r []))
walk_rows [] (line ∷ lines) rest r h few = absurd h
walk_rows (row ∷ rows) [] rest r h few = absurd h
walk_rows (row ∷ rows) (line ∷ lines) rest r h few =
    let all = length-append (line_events row) (rows_events rows) in
    let count = count_is row in
    let grown = grown_by r line.number row in
    let taken = taken_some r line.number line row h.0 (omega (arith, all, few)) in
    step r (with_line r line.number row) line (lines ++ rest) taken
    ∙ walk_rows rows lines rest (with_line r line.number row) h.1 (omega (arith, all, few, grown, count))
    ∙ ap (λ (x : Recorded). walk x rest) (one_then r row line rows lines)

pub walk_bad : (r : Recorded) (line : TextLine) (lines : List TextLine) → IsBadBehind (length r.history) line → walk r (line ∷ lines) ≡ Err line.number
walk_bad r line lines bad = stop r line lines (taken_none r line.number line bad)
