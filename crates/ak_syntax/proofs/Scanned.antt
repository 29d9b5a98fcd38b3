-- How a reader goes along the lines of a text: they are numbered one after the other.
use Rattle.std.proofs.Common.{◌≡◌, ℕ, suc, ◌+◌, ◌≤◌, Bool, true, false, List, [], ◌∷◌, length, refl, sym, ap, ◌∙◌, arith}
use Rattle.std.proofs.Common.{cond}
use Rattle.std.proofs.lemmas.List.{length-map}
use Rattle.std.specs.List.{onto_first}
use Rattle.ak_text.specs.Lines.{TextLine, numbered, lines_of, text_lines, pieces, is_line_feed}

-- the lines that are left are numbered behind the last, and there are no more than bytes
abbrev pub AreNumbered : ℕ → List TextLine → List ℕ → Type 0
AreNumbered last left bytes = (lines : List (List ℕ)) × (left ≡ numbered (last + 1) lines) × (last + length lines ≤ length bytes)

few_with : (b : Bool) (byte : ℕ) (rest : List (List ℕ)) (n : ℕ) → length rest ≤ n → length (cond b ([] ∷ rest) (onto_first byte rest)) ≤ suc n
few_with true byte rest n h = omega arith
few_with false byte [] n h = omega arith
few_with false byte (x ∷ rest) n h = omega arith

few_pieces : (ends : ℕ → Bool) (bytes : List ℕ) → length (pieces ends bytes) ≤ length bytes
few_pieces ends [] = omega arith
few_pieces ends (byte ∷ bytes) = few_with (ends byte) byte (pieces ends bytes) (length bytes) (few_pieces ends bytes)

pub numbered_first : (bytes : List ℕ) → AreNumbered 0 (text_lines bytes) bytes
numbered_first bytes = (lines_of bytes, refl, omega (arith, few_pieces is_line_feed bytes, length-map {A = List ℕ} {B = List ℕ}))

head_is : {a b : TextLine} {xs ys : List TextLine} → a ∷ xs ≡ b ∷ ys → a ≡ b
head_is e = cc

tail_is : {a b : TextLine} {xs ys : List TextLine} → a ∷ xs ≡ b ∷ ys → xs ≡ ys
tail_is e = cc

pub numbered_next : (last : ℕ) (left rest : List TextLine) (line : TextLine) (bytes : List ℕ) → AreNumbered last left bytes
    → left ≡ line ∷ rest → AreNumbered line.number rest bytes × (line.number ≡ last + 1)
numbered_next last left rest line bytes h is = of h.0 (sym is ∙ h.1) h.2
  where
    of : (lines : List (List ℕ)) → line ∷ rest ≡ numbered (last + 1) lines → last + length lines ≤ length bytes
        → AreNumbered line.number rest bytes × (line.number ≡ last + 1)
    of [] e few = cc
    of (text ∷ lines) e few =
        let first : line ≡ _ = head_is e in
        let number : line.number ≡ last + 1 = ap (λ (l : TextLine). l.number) first in
        ((lines, rw number (tail_is e), rw number (omega arith)), number)
