-- How the reader goes along the lines.
use Rattle.std.proofs.Common.{◌≡◌, ℕ, suc, ◌+◌, ◌≤◌, Bool, true, false, cond, Option, Some, Result, Ok, Err, List, [], ◌∷◌, length, refl, sym, ap, ◌∙◌, subst, arith}
use Rattle.std.proofs.lemmas.List.{length-map}
use Rattle.std.specs.List.{before_first, onto_first}
use Rattle.ak_text.specs.Lines.{TextLine, numbered, lines_of, text_lines, begins_comment, pieces, is_line_feed, counts}
use Rattle.ak_row.specs.Parts.{row_words}
use Rattle.ak_history.specs.declared.reading.Recorded.{Recorded}
use Rattle.ak_history.specs.declared.refusal.HistoryRefused.{HistoryRefused}
use Rattle.ak_history.specs.declared.refusal.HistoryRefused.TheVariants.{BadLine, NoMemory}
use Rattle.ak_history.specs.Taking.{Takes, Tells, line_found, line_taken, walked, walked_next, nothing_read}

-- the lines that are left, numbered from here on, give behind what was read what all lines give
pub record IsOn (left : List TextLine) (number : ℕ) (r : Recorded) (whole : Result Recorded ℕ) (most : ℕ) : Type 0 where
  pub at : ℕ
  pub texts : List (List ℕ)
  pub left_is : left ≡ numbered at texts
  pub whole_is : walked r (numbered number texts) ≡ whole
  pub few : number + length texts ≤ most

few_with : (b : Bool) (byte : ℕ) (rest : List (List ℕ)) (n : ℕ) → length rest ≤ n → length (cond b ([] ∷ rest) (onto_first byte rest)) ≤ suc n
few_with true byte rest n h = omega arith
few_with false byte [] n h = omega arith
few_with false byte (x ∷ rest) n h = omega arith

few_pieces : (ends : ℕ → Bool) (bytes : List ℕ) → length (pieces ends bytes) ≤ length bytes
few_pieces ends [] = omega arith
few_pieces ends (byte ∷ bytes) = few_with (ends byte) byte (pieces ends bytes) (length bytes) (few_pieces ends bytes)

-- before the first line
pub starts : (bytes : List ℕ) (first : ℕ) (r : Recorded) → r ≡ nothing_read
    → IsOn (text_lines bytes) first r (walked nothing_read (numbered first (lines_of bytes))) (first + length bytes)
starts bytes first r h = record {
  at = 1;
  texts = lines_of bytes;
  left_is = refl;
  whole_is = ap (λ (x : Recorded). walked x (numbered first (lines_of bytes))) h;
  few = omega (arith, few_pieces is_line_feed bytes, length-map {A = List ℕ} {B = List ℕ});
}

head_is : {a b : TextLine} {xs ys : List TextLine} → a ∷ xs ≡ b ∷ ys → a ≡ b
head_is e = cc

tail_is : {a b : TextLine} {xs ys : List TextLine} → a ∷ xs ≡ b ∷ ys → xs ≡ ys
tail_is e = cc

abbrev placed : ℕ → List ℕ → TextLine
placed number text = record { number = number; text = text }

-- the next line
pub record IsNext (line : TextLine) (rest : List TextLine) (number : ℕ) (r : Recorded) (whole : Result Recorded ℕ) (most : ℕ) : Type 0 where
  pub at : ℕ
  pub texts : List (List ℕ)
  pub rest_is : rest ≡ numbered at texts
  pub whole_is : walked r (placed number line.text ∷ numbered (number + 1) texts) ≡ whole
  pub few : number + 1 + length texts ≤ most

pub next_line : (left rest : List TextLine) (line : TextLine) (number : ℕ) (r : Recorded) (whole : Result Recorded ℕ) (most : ℕ)
    → IsOn left number r whole most → left ≡ line ∷ rest → IsNext line rest number r whole most
next_line left rest line number r whole most h is = of h.texts (sym is ∙ h.left_is) h.whole_is h.few
  where
    of : (texts : List (List ℕ)) → line ∷ rest ≡ numbered h.at texts → walked r (numbered number texts) ≡ whole → number + length texts ≤ most
        → IsNext line rest number r whole most
    of [] e whole_is few = cc
    of (text ∷ texts) e whole_is few =
        let first : line.text ≡ before_first begins_comment text = ap (λ (l : TextLine). l.text) (head_is e) in
        record {
          at = h.at + 1;
          texts = texts;
          rest_is = tail_is e;
          whole_is = subst (λ (t : List ℕ). walked r (placed number t ∷ numbered (number + 1) texts) ≡ whole) (sym first) whole_is;
          few = omega (arith, few);
        }

skipped : (r : Recorded) (number : ℕ) (line : TextLine) (lines : List TextLine) → counts line ≡ false
    → walked r (placed number line.text ∷ lines) ≡ walked r lines
unfolding walked
skipped r number line lines h = rw h refl

taken : (r : Recorded) (number : ℕ) (line : TextLine) (lines : List TextLine) → counts line ≡ true
    → walked r (placed number line.text ∷ lines) ≡ walked_next number (line_taken r number line) (λ next. walked next lines)
unfolding walked line_taken line_found row_words
taken r number line lines h = rw h refl

-- behind a line that is skipped
pub goes_past : (left rest : List TextLine) (line : TextLine) (number : ℕ) (r : Recorded) (whole : Result Recorded ℕ) (most : ℕ)
    → IsOn left number r whole most → left ≡ line ∷ rest → counts line ≡ false → IsOn rest (number + 1) r whole most
goes_past left rest line number r whole most h is skip =
    let n = next_line left rest line number r whole most h is in
    record {
      at = n.at;
      texts = n.texts;
      left_is = n.rest_is;
      whole_is = sym (skipped r number line (numbered (number + 1) n.texts) skip)
          ∙ n.whole_is;
      few = n.few;
    }

-- behind a line that was taken
pub goes_on : (left rest : List TextLine) (line : TextLine) (number : ℕ) (r now : Recorded) (whole : Result Recorded ℕ) (most : ℕ)
    → IsOn left number r whole most → left ≡ line ∷ rest → counts line ≡ true
    → line_taken r number line ≡ Some now → IsOn rest (number + 1) now whole most
goes_on left rest line number r now whole most h is kept next =
    let n = next_line left rest line number r whole most h is in
    let lines = numbered (number + 1) n.texts in
    record {
      at = n.at;
      texts = n.texts;
      left_is = n.rest_is;
      whole_is = sym (ap (λ (o : Option Recorded). walked_next number o (λ x. walked x (numbered (number + 1) n.texts))) next)
          ∙ sym (taken r number line (numbered (number + 1) n.texts) kept) ∙ n.whole_is;
      few = n.few;
    }

-- at a line that is refused
pub stops : (X : Type 0) (left rest : List TextLine) (line : TextLine) (number : ℕ) (r now : Recorded) (whole : Result Recorded ℕ)
    (most : ℕ) (e : HistoryRefused)
    → IsOn left number r whole most → left ≡ line ∷ rest → counts line ≡ true
    → Takes {X = X} (Err e) number now (line_taken r number line) → Tells (Err e) whole
stops X left rest line number r now whole most (BadLine at) h is kept refused =
    let n = next_line left rest line number r whole most h is in
    sym n.whole_is ∙ taken r number line (numbered (number + 1) n.texts) kept
    ∙ ap (λ (o : Option Recorded). walked_next number o (λ x. walked x (numbered (number + 1) n.texts))) refused.1
    ∙ ap (λ (k : ℕ). Err k) (sym refused.0)
stops X left rest line number r now whole most NoMemory h is kept refused = tt

-- behind the last
pub ends : (left : List TextLine) (number : ℕ) (r : Recorded) (whole : Result Recorded ℕ) (most : ℕ) → IsOn left number r whole most → left ≡ [] → whole ≡ Ok r
unfolding walked
ends left number r whole most h none = of h.texts (sym none ∙ h.left_is) h.whole_is
  where
    of : (texts : List (List ℕ)) → [] ≡ numbered h.at texts → walked r (numbered number texts) ≡ whole → whole ≡ Ok r
    of [] e is = sym is
    of (text ∷ texts) e is = cc

-- there is room for the next number
pub small : (left rest : List TextLine) (line : TextLine) (number : ℕ) (r : Recorded) (whole : Result Recorded ℕ) (most : ℕ)
    → IsOn left number r whole most → left ≡ line ∷ rest → number + 1 ≤ most
small left rest line number r whole most h is = let n = next_line left rest line number r whole most h is in omega (arith, n.few)
