-- The last line of a script is given an end.
use Rattle.std.proofs.Common.{◌≡◌, ℕ, ◌≤◌, Bool, true, false, ◌==◌, if◌then◌else◌, List, [], ◌∷◌, ◌++◌, length, map, filter, refl, sym, ap, subst}
use Rattle.std.specs.List.{AllZip}
use Rattle.std.specs.Str.Lines.{strip_carriage_return}
use Rattle.ak_text.specs.Lines.{TextLine, pieces, piece_with, is_line_feed, numbered, text_lines, counts}
use Rattle.ak_script.specs.declared.script.Proc.{Proc}
use Rattle.ak_syntax.specs.Grammar.{IsLine, Reads, version_forms, forms}
use Rattle.ak_record.specs.Walks.{ends_line}
use Rattle.ak_again.specs.Ends.{with_line_end}

pieces_one : (byte : ℕ) (b : Bool) → (byte == 10) ≡ b → b ≡ false → pieces is_line_feed (byte ∷ 10 ∷ []) ≡ pieces is_line_feed (byte ∷ [])
pieces_one byte true e is_not = absurd (cc is_not)
pieces_one byte false e is_not = rw e refl

pieces_ended : (bytes : List ℕ) → ends_line bytes ≡ false → pieces is_line_feed (bytes ++ 10 ∷ []) ≡ pieces is_line_feed bytes
pieces_ended [] is_not = absurd (cc is_not)
pieces_ended (byte ∷ []) is_not = pieces_one byte (byte == 10) refl is_not
pieces_ended (byte ∷ next ∷ bytes) is_not = ap (piece_with is_line_feed byte) (pieces_ended (next ∷ bytes) is_not)

same_by : (bytes : List ℕ) (b : Bool) → ends_line bytes ≡ b → text_lines (if b then bytes else (bytes ++ 10 ∷ [])) ≡ text_lines bytes
same_by bytes true e = refl
same_by bytes false e = ap (λ (p : List (List ℕ)). numbered 1 (map strip_carriage_return p)) (pieces_ended bytes e)

-- the lines are as they were
pub same_lines : (bytes : List ℕ) → text_lines (with_line_end bytes) ≡ text_lines bytes
same_lines bytes = same_by bytes (ends_line bytes) refl

pub reads_ended : (bytes : List ℕ) (script : List Proc) → Reads bytes script → length (with_line_end bytes) ≤ 1048576
    → Reads (with_line_end bytes) script
reads_ended bytes script reads short = record {
  size = short;
  of_version = reads.of_version;
  lines = subst (λ (ls : List TextLine). AllZip IsLine (version_forms reads.of_version ++ forms script) (filter counts ls))
      (sym (same_lines bytes)) reads.lines;
  procs = reads.procs;
  each = reads.each;
}

ended : (bytes : List ℕ) → ends_line (bytes ++ 10 ∷ []) ≡ true
ended [] = refl
ended (byte ∷ []) = refl
ended (byte ∷ next ∷ bytes) = ended (next ∷ bytes)

ends_by : (bytes : List ℕ) (b : Bool) → ends_line bytes ≡ b → ends_line (if b then bytes else (bytes ++ 10 ∷ [])) ≡ true
ends_by bytes true e = e
ends_by bytes false e = ended bytes

pub ends : (bytes : List ℕ) → ends_line (with_line_end bytes) ≡ true
ends bytes = ends_by bytes (ends_line bytes) refl
