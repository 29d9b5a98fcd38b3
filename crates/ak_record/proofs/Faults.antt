-- Which line of a history is the first at fault.
use Rattle.std.proofs.Common.{◌≡◌, ℕ, zero, suc, ◌+◌, ◌-◌, ◌<◌, ◌≤◌, Bool, true, false, ◌⊎◌, inl, inr, Option, Some, None, Result, Ok, Err, List, [], ◌∷◌, ◌++◌, length, take, drop, filter, flat_map, replicate, get_or, refl, sym, ap, ◌∙◌, subst, append-nil, append_assoc, length-append, arith}
use Rattle.std.specs.Prelude.{slice_get}
use Rattle.std.specs.List.{AllZip, zip, before_first}
use Rattle.std.proofs.lemmas.List.{take-append-le, take_all, take-append-drop}
use Rattle.std.proofs.lemmas.Grind.{flat_map-append}
use Rattle.std.proofs.lemmas.Option.{slice_get_within}
use Rattle.ak_text.specs.Lines.{TextLine, numbered, lines_of, counts, begins_comment}
use Rattle.ak_history.specs.declared.event.Event.{Event}
use Rattle.ak_history.specs.declared.line.HistoryLine.{HistoryLine}
use Rattle.ak_history.specs.Legal.{Legal, IsLegalAfter}
use Rattle.ak_history.specs.Reading.{HistoryReads, IsFirstBad, IsHistoryLine, lines_from, line_events, rows_events, rows_numbers, most_events}
use Rattle.ak_history_laws.proofs.Legals.{legal_front, legal_behind}
use Rattle.ak_pool.specs.Pools.{IsFirstIllegal}
use Rattle.ak_record.specs.declared.record.RecordRefused.{RecordRefused}
use Rattle.ak_record.specs.declared.record.RecordRefused.TheVariants.{BadHistory, NoMemory}
use Rattle.ak_record.specs.Records.{IsRecord, AreLegal, IsFault, IsRight, IsHistory, IsLine}

-- a line is one line of a history at the most
abbrev pub OneLine : Type 0
OneLine = (line : TextLine) (a b : HistoryLine) → IsHistoryLine a line → IsHistoryLine b line → a ≡ b

-- ---- rows and lines, side by side
pub record Front (rows : List HistoryLine) (xs ys : List TextLine) : Type 0 where
  pub first : List HistoryLine
  pub rest : List HistoryLine
  pub rows_are : rows ≡ first ++ rest
  pub each : AllZip IsHistoryLine first xs
  pub others : AllZip IsHistoryLine rest ys

front_of : (rows : List HistoryLine) (xs ys : List TextLine) → AllZip IsHistoryLine rows (xs ++ ys) → Front rows xs ys
front_of rows [] ys h = record { first = []; rest = rows; rows_are = refl; each = tt; others = h }
front_of [] (x ∷ xs) ys h = absurd h
front_of (row ∷ rows) (x ∷ xs) ys h =
    let more = front_of rows xs ys h.1 in
    record {
      first = row ∷ more.first;
      rest = more.rest;
      rows_are = ap (λ (rs : List HistoryLine). row ∷ rs) more.rows_are;
      each = (h.0, more.each);
      others = more.others;
    }

one_rows : OneLine → (a b : List HistoryLine) (lines : List TextLine) → AllZip IsHistoryLine a lines → AllZip IsHistoryLine b lines → a ≡ b
one_rows one [] [] [] h k = refl
one_rows one [] [] (line ∷ lines) h k = absurd h
one_rows one [] (y ∷ b) [] h k = absurd k
one_rows one [] (y ∷ b) (line ∷ lines) h k = absurd h
one_rows one (x ∷ a) b [] h k = absurd h
one_rows one (x ∷ a) [] (line ∷ lines) h k = absurd k
one_rows one (x ∷ a) (y ∷ b) (line ∷ lines) h k =
    ap (λ (r : HistoryLine). r ∷ a) (one line x y h.0 k.0) ∙ ap (λ (rs : List HistoryLine). y ∷ rs) (one_rows one a b lines h.1 k.1)

one_more : (rows : List HistoryLine) (lines : List TextLine) (row : HistoryLine) (line : TextLine) → AllZip IsHistoryLine rows lines → IsHistoryLine row line
    → AllZip IsHistoryLine (rows ++ row ∷ []) (lines ++ line ∷ [])
one_more [] [] row line h k = (k, tt)
one_more [] (l ∷ lines) row line h k = absurd h
one_more (r ∷ rows) [] row line h k = absurd h
one_more (r ∷ rows) (l ∷ lines) row line h k = (h.0, one_more rows lines row line h.1 k)

events_of : (a b : List HistoryLine) → rows_events (a ++ b) ≡ rows_events a ++ rows_events b
events_of a b = flat_map-append line_events a b

-- ---- legal lines
-- the front of legal lines is legal
pub legal_lines : (threads askers : ℕ) (xs ys : List TextLine) → AreLegal threads askers (xs ++ ys) → AreLegal threads askers xs
legal_lines threads askers xs ys h =
    let front = front_of h.rows xs ys h.each in
    let events : rows_events h.rows ≡ rows_events front.first ++ rows_events front.rest = ap rows_events front.rows_are ∙ events_of front.first front.rest in
    record {
      rows = front.first;
      each = front.each;
      few = omega (arith, h.few, ap length events, length-append (rows_events front.first) (rows_events front.rest));
      legal = legal_front threads askers [] (rows_events front.first) (rows_events front.rest) (subst (Legal threads askers) events h.legal);
    }

-- ---- the line of an event
pub record At (rows : List HistoryLine) (lines : List TextLine) (place : ℕ) : Type 0 where
  pub first : List HistoryLine
  pub row : HistoryLine
  pub rest : List HistoryLine
  pub before : List TextLine
  pub line : TextLine
  pub after : List TextLine
  pub rows_are : rows ≡ first ++ row ∷ rest
  pub lines_are : lines ≡ before ++ line ∷ after
  pub each : AllZip IsHistoryLine first before
  pub here : IsHistoryLine row line
  pub low : length (rows_events first) ≤ place
  pub high : place < length (rows_events first) + length (line_events row)
  pub number : get_or (rows_numbers rows lines) place 0 ≡ line.number

in_front : (n : ℕ) (x : ℕ) (more : List ℕ) (place : ℕ) → place < n → get_or (replicate n x ++ more) place 0 ≡ x
in_front zero x more place h = absurd (omega arith)
in_front (suc n) x more zero h = refl
in_front (suc n) x more (suc place) h = in_front n x more place (omega arith)

behind_them : (n : ℕ) (x : ℕ) (more : List ℕ) (place : ℕ) → get_or (replicate n x ++ more) (n + place) 0 ≡ get_or more place 0
behind_them zero x more place = let none : 0 + place ≡ place = omega arith in ap (λ (k : ℕ). get_or more k 0) none
behind_them (suc n) x more place =
    let next : suc n + place ≡ suc (n + place) = omega arith in
    ap (λ (k : ℕ). get_or (replicate (suc n) x ++ more) k 0) next ∙ behind_them n x more place

at_of : (row : HistoryLine) (rows : List HistoryLine) (line : TextLine) (lines : List TextLine) (place : ℕ) → IsHistoryLine row line
    → ((rest : ℕ) → rest < length (rows_events rows) → At rows lines rest) → place < length (rows_events (row ∷ rows))
    → (place < length (line_events row)) ⊎ ((rest : ℕ) × (place ≡ length (line_events row) + rest))
    → At (row ∷ rows) (line ∷ lines) place
at_of row rows line lines place is ih h (inl a) = record {
  first = [];
  row = row;
  rest = rows;
  before = [];
  line = line;
  after = lines;
  rows_are = refl;
  lines_are = refl;
  each = tt;
  here = is;
  low = omega arith;
  high = omega (arith, a);
  number = in_front (length (line_events row)) line.number (rows_numbers rows lines) place a;
}
at_of row rows line lines place is ih h (inr b) =
    let n = length (line_events row) in
    let events : length (rows_events (row ∷ rows)) ≡ n + length (rows_events rows) = length-append (line_events row) (rows_events rows) in
    let more = ih b.0 (omega (arith, b.1, events)) in
    let first_events : length (rows_events (row ∷ more.first)) ≡ n + length (rows_events more.first) = length-append (line_events row) (rows_events more.first) in
    record {
      first = row ∷ more.first;
      row = more.row;
      rest = more.rest;
      before = line ∷ more.before;
      line = more.line;
      after = more.after;
      rows_are = ap (λ (rs : List HistoryLine). row ∷ rs) more.rows_are;
      lines_are = ap (λ (ls : List TextLine). line ∷ ls) more.lines_are;
      each = (is, more.each);
      here = more.here;
      low = omega (arith, first_events, more.low, b.1);
      high = omega (arith, first_events, more.high, b.1);
      number = ap (λ (k : ℕ). get_or (rows_numbers (row ∷ rows) (line ∷ lines)) k 0) b.1
          ∙ behind_them n line.number (rows_numbers rows lines) b.0
          ∙ more.number;
    }

within_or_behind : (n place : ℕ) → (place < n) ⊎ ((rest : ℕ) × (place ≡ n + rest))
within_or_behind zero place = inr (place, omega arith)
within_or_behind (suc n) zero = inl (omega arith)
within_or_behind (suc n) (suc place) = of (within_or_behind n place)
  where
    of : (place < n) ⊎ ((rest : ℕ) × (place ≡ n + rest)) → (suc place < suc n) ⊎ ((rest : ℕ) × (suc place ≡ suc n + rest))
    of (inl a) = inl (omega arith)
    of (inr b) = inr (b.0, omega (arith, b.1))

pub at_event : (rows : List HistoryLine) (lines : List TextLine) (place : ℕ) → AllZip IsHistoryLine rows lines → place < length (rows_events rows)
    → At rows lines place
at_event [] lines place h k = absurd (omega arith)
at_event (row ∷ rows) [] place h k = absurd h
at_event (row ∷ rows) (line ∷ lines) place h k =
    at_of row rows line lines place h.0 (λ rest below. at_event rows lines rest h.1 below) k (within_or_behind (length (line_events row)) place)

one_taken : (xs : List Event) (place : ℕ) (e : Event) → slice_get xs place ≡ Some e → take (suc place) xs ≡ take place xs ++ e ∷ []
one_taken [] place e h = cc
one_taken (x ∷ xs) zero e h = cc
one_taken (x ∷ xs) (suc place) e h = ap (λ (rest : List Event). x ∷ rest) (one_taken xs place e h)

taken_behind : (front rest : List Event) (place : ℕ) → length front ≤ place → take place (front ++ rest) ≡ front ++ take (place - length front) rest
taken_behind [] rest place h = let all : place ≡ place - 0 = omega arith in ap (λ (k : ℕ). take k rest) all
taken_behind (x ∷ front) rest zero h = absurd (omega arith)
taken_behind (x ∷ front) rest (suc place) h =
    let less : place - length front ≡ suc place - length (x ∷ front) = omega arith in
    ap (λ (more : List Event). x ∷ more)
    (taken_behind front rest place (omega arith) ∙ ap (λ (k : ℕ). front ++ take k rest) less)

-- the line of the first event that is not legal is the first at fault
pub fault_at_event : OneLine → (threads askers : ℕ) (bytes : List ℕ) (first : ℕ) (history : List Event) (numbers : List ℕ) (place : ℕ)
    → HistoryReads bytes first history numbers → IsFirstIllegal threads askers history place
    → IsFault threads askers bytes first (get_or numbers place 0)
fault_at_event one threads askers bytes first history numbers place reads illegal =
    let lines = lines_from first bytes in
    let e = illegal.1.0 in
    let within : place < length (rows_events reads.rows) =
    omega (arith, slice_get_within history place e illegal.1.1, ap length reads.events_are) in
    let at = at_event reads.rows lines place reads.each within in
    let front = rows_events at.first in
    let own = line_events at.row in
    let events : history ≡ (front ++ own) ++ rows_events at.rest =
    reads.events_are ∙ ap rows_events at.rows_are ∙ events_of at.first (at.row ∷ at.rest) ∙ sym (append_assoc front own (rows_events at.rest)) in
    let behind : take place history ≡ front ++ take (place - length front) (own ++ rows_events at.rest) =
    ap (take place) (events ∙ append_assoc front own (rows_events at.rest)) ∙ taken_behind front (own ++ rows_events at.rest) place at.low in
    let to_event : take (suc place) (front ++ own) ≡ take place history ++ e ∷ [] =
    sym (take-append-le (suc place) (front ++ own) (rows_events at.rest) (omega (arith, at.high, length-append front own)))
    ∙ ap (take (suc place)) (sym events)
    ∙ one_taken history place e illegal.1.1 in
    record {
      before = at.before;
      line = at.line;
      after = at.after;
      cut = at.lines_are;
      right = record {
        rows = at.first;
        each = at.each;
        few = omega (arith, reads.few, ap length events, length-append (front ++ own) (rows_events at.rest), length-append front own);
        legal = legal_front threads askers [] front (take (place - length front) (own ++ rows_events at.rest)) (subst (Legal threads askers) behind illegal.0);
      };
      wrong = λ all.
          let rows : all.rows ≡ at.first ++ at.row ∷ [] =
          one_rows one all.rows (at.first ++ at.row ∷ []) (at.before ++ at.line ∷ []) all.each (one_more at.first at.before at.row at.line at.each at.here) in
          let all_events : rows_events all.rows ≡ front ++ own =
          ap rows_events rows ∙ events_of at.first (at.row ∷ []) ∙ ap (λ (more : List Event). front ++ more) (append-nil own) in
          let legal : Legal threads askers (front ++ own) = subst (Legal threads askers) all_events all.legal in
          let cut : front ++ own ≡ take (suc place) (front ++ own) ++ drop (suc place) (front ++ own) = sym (take-append-drop (suc place) (front ++ own)) in
          let now : Legal threads askers (take place history ++ e ∷ []) =
          subst (Legal threads askers) to_event
          (legal_front threads askers [] (take (suc place) (front ++ own)) (drop (suc place) (front ++ own)) (subst (Legal threads askers) cut legal)) in
          illegal.1.2 ((legal_behind threads askers [] (take place history) (e ∷ []) now).0);
      number_is = ap (λ (ns : List ℕ). get_or ns place 0) reads.lines_are ∙ at.number;
    }

-- a bad line behind legal ones is the first at fault
pub fault_at_bad : OneLine → (threads askers : ℕ) (bytes : List ℕ) (first number : ℕ) (bad : IsFirstBad bytes first number)
    → Legal threads askers (rows_events bad.rows) → IsFault threads askers bytes first number
fault_at_bad one threads askers bytes first number bad legal = record {
  before = bad.before;
  line = bad.line;
  after = bad.after;
  cut = bad.cut;
  right = record { rows = bad.rows; each = bad.each; few = bad.few; legal = legal };
  wrong = λ all.
      let front = front_of all.rows bad.before (bad.line ∷ []) all.each in
      let same : front.first ≡ bad.rows = one_rows one front.first bad.rows bad.before front.each bad.each in
      let events : rows_events all.rows ≡ rows_events front.first ++ rows_events front.rest = ap rows_events front.rows_are ∙ events_of front.first front.rest in
      too_many front.rest front.others
      (omega (arith, all.few, ap length events, length-append (rows_events front.first) (rows_events front.rest), ap (λ (rs : List HistoryLine). length (rows_events rs)) same));
  number_is = bad.number_is;
}
  where
    too_many : (rest : List HistoryLine) → AllZip IsHistoryLine rest (bad.line ∷ []) → length (rows_events bad.rows) + length (rows_events rest) ≤ most_events → ⊥
    too_many [] h few = absurd h
    too_many (row ∷ rest) h few =
        let over = bad.bad row h.0 in
        omega (arith, over, few, length-append (line_events row) (rows_events rest))

-- a fault in the first lines is one of all lines
pub fault_in_front : (threads askers : ℕ) (bytes front : List ℕ) (first number : ℕ) (rest : List TextLine)
    → lines_from first bytes ≡ lines_from first front ++ rest → IsFault threads askers front first number → IsFault threads askers bytes first number
fault_in_front threads askers bytes front first number rest lines fault = record {
  before = fault.before;
  line = fault.line;
  after = fault.after ++ rest;
  cut = lines ∙ ap (λ (ls : List TextLine). ls ++ rest) fault.cut ∙ append_assoc fault.before (fault.line ∷ fault.after) rest;
  right = fault.right;
  wrong = fault.wrong;
  number_is = fault.number_is;
}

-- ---- one answer
-- of two cuts of a list one is in the other's front, or both are at one element
compared : (a b : List TextLine) (x y : TextLine) (c d : List TextLine) → a ++ x ∷ c ≡ b ++ y ∷ d
    → ((more : List TextLine) × (b ≡ a ++ x ∷ more)) ⊎ (((more : List TextLine) × (a ≡ b ++ y ∷ more)) ⊎ (x ≡ y))
compared [] [] x y c d h = inr (inr cc)
compared [] (b ∷ qs) x y c d h = inl (qs, ap (λ (z : TextLine). z ∷ qs) (let e : b ≡ x = cc in e))
compared (a ∷ ps) [] x y c d h = inr (inl (ps, ap (λ (z : TextLine). z ∷ ps) (let e : a ≡ y = cc in e)))
compared (a ∷ ps) (b ∷ qs) x y c d h = of (compared ps qs x y c d cc)
  where
    same : a ≡ b
    same = cc

    of : ((more : List TextLine) × (qs ≡ ps ++ x ∷ more)) ⊎ (((more : List TextLine) × (ps ≡ qs ++ y ∷ more)) ⊎ (x ≡ y))
        → ((more : List TextLine) × (b ∷ qs ≡ a ∷ (ps ++ x ∷ more))) ⊎ (((more : List TextLine) × (a ∷ ps ≡ b ∷ (qs ++ y ∷ more))) ⊎ (x ≡ y))
    of (inl m) = inl (m.0, cc)
    of (inr (inl m)) = inr (inl (m.0, cc))
    of (inr (inr e)) = inr (inr e)

-- legal lines have no line at fault in their front
no_fault : (threads askers : ℕ) (before : List TextLine) (line : TextLine) (more lines : List TextLine) → lines ≡ before ++ line ∷ more
    → AreLegal threads askers lines → (AreLegal threads askers (before ++ line ∷ []) → ⊥) → ⊥
no_fault threads askers before line more lines e right wrong =
    wrong (legal_lines threads askers (before ++ line ∷ []) more (subst (AreLegal threads askers) (e ∙ sym (append_assoc before (line ∷ []) more)) right))

one_fault : (threads askers : ℕ) (bytes : List ℕ) (first n m : ℕ) → IsFault threads askers bytes first n → IsFault threads askers bytes first m → n ≡ m
one_fault threads askers bytes first n m a b = of (compared a.before b.before a.line b.line a.after b.after (sym a.cut ∙ b.cut))
  where
    of : ((more : List TextLine) × (b.before ≡ a.before ++ a.line ∷ more))
        ⊎ (((more : List TextLine) × (a.before ≡ b.before ++ b.line ∷ more)) ⊎ (a.line ≡ b.line)) → n ≡ m
    of (inl k) = absurd (no_fault threads askers a.before a.line k.0 b.before k.1 b.right a.wrong)
    of (inr (inl k)) = absurd (no_fault threads askers b.before b.line k.0 a.before k.1 a.right b.wrong)
    of (inr (inr e)) = a.number_is ∙ ap (λ (l : TextLine). l.number) e ∙ sym b.number_is

not_both : (threads askers : ℕ) (bytes : List ℕ) (first : ℕ) (history : List Event) (number : ℕ) → IsRecord threads askers bytes first history
    → IsFault threads askers bytes first number → ⊥
not_both threads askers bytes first history number is fault =
    no_fault threads askers fault.before fault.line fault.after (lines_from first bytes) fault.cut (record {
      rows = is.reads.rows;
      each = is.reads.each;
      few = subst (λ (es : List Event). length es ≤ most_events) is.reads.events_are is.reads.few;
      legal = subst (Legal threads askers) is.reads.events_are is.legal;
    })
    fault.wrong

-- two readings of a text are one
abbrev pub OneHistory : Type 0
OneHistory = (bytes : List ℕ) (first : ℕ) (a b : List Event) (l m : List ℕ) → HistoryReads bytes first a l → HistoryReads bytes first b m → (a ≡ b) × (l ≡ m)

pub answers_history : OneHistory → (threads askers : ℕ) (bytes : List ℕ) (first : ℕ) (answer : Result (List Event) RecordRefused)
    → IsRight threads askers bytes first answer → (events : List Event) → IsRecord threads askers bytes first events → IsHistory answer events
answers_history one threads askers bytes first (Ok history) right events is = (one bytes first history events right.numbers is.numbers right.reads is.reads).0
answers_history one threads askers bytes first (Err (BadHistory line)) right events is = not_both threads askers bytes first events line is right
answers_history one threads askers bytes first (Err NoMemory) right events is = tt

pub answers_fault : (threads askers : ℕ) (bytes : List ℕ) (first : ℕ) (answer : Result (List Event) RecordRefused)
    → IsRight threads askers bytes first answer → (number : ℕ) → IsFault threads askers bytes first number → IsLine answer number
answers_fault threads askers bytes first (Ok history) right number fault = not_both threads askers bytes first history number right fault
answers_fault threads askers bytes first (Err (BadHistory line)) right number fault = one_fault threads askers bytes first line number right fault
answers_fault threads askers bytes first (Err NoMemory) right number fault = tt

-- ---- the lines before a bad one
pub record Cut (lines : List (List ℕ)) (first number : ℕ) (before : List TextLine) : Type 0 where
  pub count : ℕ
  pub number_is : number ≡ first + count
  pub before_are : filter counts (numbered first (take count lines)) ≡ before

-- a line without its comment
abbrev bare : ℕ → List ℕ → TextLine
bare number bytes = record { number = number; text = before_first begins_comment bytes }

heads : {a b : TextLine} {c d : List TextLine} → a ∷ c ≡ b ∷ d → a ≡ b
heads e = cc

tails : {a b : TextLine} {c d : List TextLine} → a ∷ c ≡ b ∷ d → c ≡ d
tails e = cc

cut_step : (l : List ℕ) (lines : List (List ℕ)) (first : ℕ) (b : Bool) → counts (bare first l) ≡ b
    → ((before : List TextLine) (line : TextLine) (after : List TextLine) → filter counts (numbered (first + 1) lines) ≡ before ++ line ∷ after
    → Cut lines (first + 1) line.number before) → (before : List TextLine) (line : TextLine) (after : List TextLine)
    → filter counts (numbered first (l ∷ lines)) ≡ before ++ line ∷ after → Cut (l ∷ lines) first line.number before
cut_step l lines first false e ih before line after h =
    let more = ih before line after (rw e at h) in
    record { count = suc more.count; number_is = omega (arith, more.number_is); before_are = rw e more.before_are }
cut_step l lines first true e ih [] line after h =
    let here : bare first l ≡ line = heads (rw e at h) in
    record { count = 0; number_is = sym (ap (λ (x : TextLine). x.number) here) ∙ omega arith; before_are = refl }
cut_step l lines first true e ih (x ∷ before) line after h =
    let more = ih before line after (tails (rw e at h)) in
    let here : bare first l ≡ x = heads (rw e at h) in
    record {
      count = suc more.count;
      number_is = omega (arith, more.number_is);
      before_are = rw e (ap (λ (rest : List TextLine). bare first l ∷ rest) more.before_are ∙ ap (λ (y : TextLine). y ∷ before) here);
    }

pub cut_of : (lines : List (List ℕ)) (first : ℕ) (before : List TextLine) (line : TextLine) (after : List TextLine)
    → filter counts (numbered first lines) ≡ before ++ line ∷ after → Cut lines first line.number before
cut_of [] first [] line after h = absurd cc
cut_of [] first (b ∷ before) line after h = absurd cc
cut_of (l ∷ lines) first before line after h = cut_step l lines first (counts (bare first l)) refl (cut_of lines (first + 1)) before line after h

-- as many numbers of lines as events
numbers_many : (rows : List HistoryLine) (lines : List TextLine) → AllZip IsHistoryLine rows lines → length (rows_numbers rows lines) ≡ length (rows_events rows)
numbers_many [] [] h = refl
numbers_many [] (line ∷ lines) h = absurd h
numbers_many (row ∷ rows) [] h = absurd h
numbers_many (row ∷ rows) (line ∷ lines) h =
    let own : length (replicate (length (line_events row)) line.number) ≡ length (line_events row) = replicated (length (line_events row)) line.number in
    omega (
      arith,
      own,
      numbers_many rows lines h.1,
      length-append (replicate (length (line_events row)) line.number) (rows_numbers rows lines),
      length-append (line_events row) (rows_events rows),
    )
  where
    replicated : (n x : ℕ) → length (replicate n x) ≡ n
    replicated zero x = refl
    replicated (suc n) x = ap suc (replicated n x)

pub reads_many : (bytes : List ℕ) (first : ℕ) (history : List Event) (numbers : List ℕ) → HistoryReads bytes first history numbers → length numbers ≡ length history
reads_many bytes first history numbers h =
    ap length h.lines_are ∙ (numbers_many h.rows (lines_from first bytes) h.each ∙ sym (ap length h.events_are))

-- ---- bytes with a bad line, and those before it
pub after_first : (bytes : List ℕ) (first number : ℕ) → IsFirstBad bytes first number → first ≤ number
after_first bytes first number bad =
    let cut = cut_of (lines_of bytes) first bad.before bad.line bad.after bad.cut in
    omega (arith, bad.number_is, cut.number_is)

front_lines : (bytes front : List ℕ) (first number : ℕ) (bad : IsFirstBad bytes first number) → lines_of front ≡ take (number - first) (lines_of bytes)
    → lines_from first front ≡ bad.before
front_lines bytes front first number bad lines =
    let cut = cut_of (lines_of bytes) first bad.before bad.line bad.after bad.cut in
    let count : number - first ≡ cut.count = omega (arith, bad.number_is, cut.number_is) in
    ap (λ (ls : List (List ℕ)). filter counts (numbered first ls)) (lines ∙ ap (λ (k : ℕ). take k (lines_of bytes)) count) ∙ cut.before_are

-- the bytes before a bad line are a history
pub front_reads : (bytes front : List ℕ) (first number : ℕ) (bad : IsFirstBad bytes first number) → lines_of front ≡ take (number - first) (lines_of bytes)
    → HistoryReads front first (rows_events bad.rows) (rows_numbers bad.rows (lines_from first front))
front_reads bytes front first number bad lines = record {
  rows = bad.rows;
  each = subst (AllZip IsHistoryLine bad.rows) (sym (front_lines bytes front first number bad lines)) bad.each;
  events_are = refl;
  lines_are = refl;
  few = bad.few;
}

-- where that is legal, the bad line is the first at fault
pub fault_behind : OneLine → OneHistory → (threads askers : ℕ) (bytes front : List ℕ) (first number : ℕ) (history : List Event)
    → IsFirstBad bytes first number → lines_of front ≡ take (number - first) (lines_of bytes) → IsRecord threads askers front first history
    → IsFault threads askers bytes first number
fault_behind one history_is threads askers bytes front first number history bad lines is =
    let same =
    history_is front first history (rows_events bad.rows) is.numbers (rows_numbers bad.rows (lines_from first front)) is.reads
    (front_reads bytes front first number bad lines) in
    fault_at_bad one threads askers bytes first number bad (subst (Legal threads askers) same.0 is.legal)

-- and else its own fault is
pub fault_before : (threads askers : ℕ) (bytes front : List ℕ) (first number : ℕ) (refused : RecordRefused) → IsFirstBad bytes first number
    → lines_of front ≡ take (number - first) (lines_of bytes) → IsRight threads askers front first (Err refused)
    → IsRight threads askers bytes first (Err refused)
fault_before threads askers bytes front first number (BadHistory line) bad lines right =
    fault_in_front threads askers bytes front first line (bad.line ∷ bad.after)
    (bad.cut ∙ ap (λ (ls : List TextLine). ls ++ bad.line ∷ bad.after) (sym (front_lines bytes front first number bad lines))) right
fault_before threads askers bytes front first number NoMemory bad lines right = tt
