-- Texts and their lines, each with its line end.
use Rattle.std.proofs.Common.{◌≡◌, ℕ, zero, suc, ◌+◌, ◌-◌, ◌<◌, ◌≤◌, Bool, true, false, not, Some, None, ◌==◌, if◌then◌else◌, List, [], ◌∷◌, ◌++◌, length, take, drop, map, refl, sym, ap, ◌∙◌, subst, arith, length-append, length-drop, append_assoc, ◌⊎◌, inl, inr}
use Rattle.std.proofs.lemmas.Grind.{common_steps}
use Rattle.std.proofs.lemmas.List.Sums.{prefix_len-le-length}
use Rattle.std.specs.List.{position, position_or_len, concat, onto_first, before_first}
use Rattle.std.specs.Str.Lines.{strip_carriage_return}
use Rattle.std.proofs.lemmas.List.{map-append, take_all, drop_all, take-append-le, drop-drop, length-map}
use Rattle.ak_text.specs.Lines.{is_line_feed, lines_of, pieces}
use Rattle.ak_record.specs.Cuts.{whole_lines}
use Rattle.ak_record.specs.Walks.{ends_line, IsFirstLine, IsWalked}

-- ---- the lines together are the text
onto : (byte : ℕ) (lines : List (List ℕ)) (bytes : List ℕ) → concat lines ≡ bytes → concat (onto_first byte lines) ≡ byte ∷ bytes
onto byte [] bytes h = ap (λ (rest : List ℕ). byte ∷ rest) h
onto byte (line ∷ lines) bytes h = ap (λ (rest : List ℕ). byte ∷ rest) h

joined : (byte : ℕ) (bytes : List ℕ) (b : Bool) → (byte == 10) ≡ b → concat (whole_lines bytes) ≡ bytes
    → concat (whole_lines (byte ∷ bytes)) ≡ byte ∷ bytes
joined byte bytes true e ih = rw e (ap (λ (rest : List ℕ). byte ∷ rest) ih)
joined byte bytes false e ih = rw e (onto byte (whole_lines bytes) bytes ih)

pub lines_join : (bytes : List ℕ) → concat (whole_lines bytes) ≡ bytes
lines_join [] = refl
lines_join (byte ∷ bytes) = joined byte bytes (byte == 10) refl (lines_join bytes)

-- ---- one text behind another
some_of : (byte : ℕ) (bytes : List ℕ) (b : Bool) → (byte == 10) ≡ b → 0 < length (whole_lines (byte ∷ bytes))
some_of byte bytes true e = rw e (omega arith)
some_of byte bytes false e = rw e (is_some (whole_lines bytes))
  where
    is_some : (lines : List (List ℕ)) → 0 < length (onto_first byte lines)
    is_some [] = omega arith
    is_some (line ∷ lines) = omega arith

onto_front : (byte : ℕ) (lines more : List (List ℕ)) → 0 < length lines → onto_first byte (lines ++ more) ≡ onto_first byte lines ++ more
onto_front byte [] more h = absurd (omega arith)
onto_front byte (line ∷ lines) more h = refl

behind_one : (byte next : ℕ) (bytes more : List ℕ) (b : Bool) → (byte == 10) ≡ b
    → whole_lines (next ∷ (bytes ++ more)) ≡ whole_lines (next ∷ bytes) ++ whole_lines more
    → whole_lines (byte ∷ next ∷ (bytes ++ more)) ≡ whole_lines (byte ∷ next ∷ bytes) ++ whole_lines more
behind_one byte next bytes more true e ih = rw e (ap (λ (rest : List (List ℕ)). (byte ∷ []) ∷ rest) ih)
behind_one byte next bytes more false e ih =
    rw e (ap (onto_first byte) ih ∙ onto_front byte (whole_lines (next ∷ bytes)) (whole_lines more) (some_of next bytes (next == 10) refl))

pub lines_append : (bytes more : List ℕ) → ends_line bytes ≡ true → whole_lines (bytes ++ more) ≡ whole_lines bytes ++ whole_lines more
lines_append [] more h = refl
lines_append (byte ∷ []) more h = rw h refl
lines_append (byte ∷ next ∷ bytes) more h = behind_one byte next bytes more (byte == 10) refl (lines_append (next ∷ bytes) more h)

-- ---- the first line
one_later : (byte : ℕ) (bytes : List ℕ) → (byte == 10) ≡ false
    → position_or_len is_line_feed (byte ∷ bytes) ≡ suc (position_or_len is_line_feed bytes)
one_later byte bytes e = rw e (omega arith)

-- the line end of a text stands there
abbrev pub end_of : List ℕ → ℕ
end_of bytes = position_or_len is_line_feed bytes

first_of : (byte : ℕ) (bytes : List ℕ) (b : Bool) → (byte == 10) ≡ b
    → (end_of bytes < length bytes → IsFirstLine bytes (suc (end_of bytes)))
    → end_of (byte ∷ bytes) < length (byte ∷ bytes) → IsFirstLine (byte ∷ bytes) (suc (end_of (byte ∷ bytes)))
first_of byte bytes true e ih h =
    let at : end_of (byte ∷ bytes) ≡ 0 = rw e refl in
    rw at (record {
      some = omega arith;
      within = omega arith;
      line = rw e refl;
      alone = rw e refl;
      ends = inl e;
    })
first_of byte [] false e ih h = absurd (omega (arith, one_later byte [] e))
first_of byte (next ∷ bytes) false e ih h =
    let here = ih (omega (arith, one_later byte (next ∷ bytes) e)) in
    let n = end_of (next ∷ bytes) in
    rw (one_later byte (next ∷ bytes) e) (record {
      some = omega arith;
      within = omega (arith, here.within);
      line = rw e (ap (onto_first byte) here.line);
      alone = rw e (ap (onto_first byte) here.alone);
      ends = of here.ends;
    })
  where
    of : (ends_line (take (suc (end_of (next ∷ bytes))) (next ∷ bytes)) ≡ true) ⊎ (suc (end_of (next ∷ bytes)) ≡ length (next ∷ bytes))
        → (ends_line (take (suc (suc (end_of (next ∷ bytes)))) (byte ∷ next ∷ bytes)) ≡ true)
        ⊎ (suc (suc (end_of (next ∷ bytes))) ≡ length (byte ∷ next ∷ bytes))
    of (inl a) = inl a
    of (inr b) = inr (ap suc b)

pub first_line : (bytes : List ℕ) → end_of bytes < length bytes → IsFirstLine bytes (suc (end_of bytes))
first_line [] h = absurd (omega arith)
first_line (byte ∷ bytes) h = first_of byte bytes (byte == 10) refl (first_line bytes) h

last_of : (byte : ℕ) (bytes : List ℕ) (b : Bool) → (byte == 10) ≡ b
    → (0 < length bytes → end_of bytes ≡ length bytes → whole_lines bytes ≡ bytes ∷ [])
    → end_of (byte ∷ bytes) ≡ length (byte ∷ bytes) → whole_lines (byte ∷ bytes) ≡ (byte ∷ bytes) ∷ []
last_of byte bytes true e ih h = absurd (omega (arith, rw e at h))
last_of byte [] false e ih h = rw e refl
last_of byte (next ∷ bytes) false e ih h =
    rw e (ap (onto_first byte) (ih (omega arith) (omega (arith, one_later byte (next ∷ bytes) e))))

only_line : (bytes : List ℕ) → 0 < length bytes → end_of bytes ≡ length bytes → whole_lines bytes ≡ bytes ∷ []
only_line [] l h = absurd (omega arith)
only_line (byte ∷ bytes) l h = last_of byte bytes (byte == 10) refl (only_line bytes) h

pub last_line : (bytes : List ℕ) → 0 < length bytes → end_of bytes ≡ length bytes → IsFirstLine bytes (length bytes)
last_line bytes l h =
    let all : take (length bytes) bytes ≡ bytes = take_all (length bytes) bytes (omega arith) in
    let none : drop (length bytes) bytes ≡ [] = drop_all (length bytes) bytes (omega arith) in
    record {
      some = l;
      within = omega arith;
      line = rw (all, none) (only_line bytes l h);
      alone = rw all (only_line bytes l h);
      ends = inr refl;
    }

-- ---- the same lines without their ends
before_later : (byte : ℕ) (bytes : List ℕ) → (byte == 10) ≡ false → before_first is_line_feed (byte ∷ bytes) ≡ byte ∷ before_first is_line_feed bytes
before_later byte bytes e = rw (one_later byte bytes e) refl

pieces_of : (byte : ℕ) (bytes : List ℕ) (b : Bool) → (byte == 10) ≡ b
    → pieces is_line_feed bytes ≡ map (before_first is_line_feed) (whole_lines bytes)
    → pieces is_line_feed (byte ∷ bytes) ≡ map (before_first is_line_feed) (whole_lines (byte ∷ bytes))
pieces_of byte bytes true e ih =
    let at : end_of (byte ∷ []) ≡ 0 = rw e refl in
    let none : before_first is_line_feed (byte ∷ []) ≡ [] = rw at refl in
    rw e (rw none (ap (λ (rest : List (List ℕ)). [] ∷ rest) ih))
pieces_of byte bytes false e ih = rw e (ap (onto_first byte) ih ∙ within (whole_lines bytes))
  where
    within : (lines : List (List ℕ)) → onto_first byte (map (before_first is_line_feed) lines) ≡ map (before_first is_line_feed) (onto_first byte lines)
    within [] = ap (λ (line : List ℕ). line ∷ []) (sym (before_later byte [] e))
    within (line ∷ lines) = ap (λ (first : List ℕ). first ∷ map (before_first is_line_feed) lines) (sym (before_later byte line e))

pieces_are : (bytes : List ℕ) → pieces is_line_feed bytes ≡ map (before_first is_line_feed) (whole_lines bytes)
pieces_are [] = refl
pieces_are (byte ∷ bytes) = pieces_of byte bytes (byte == 10) refl (pieces_are bytes)

-- a line without its line end
abbrev pub bare : List ℕ → List ℕ
bare whole = strip_carriage_return (before_first is_line_feed whole)

pub bare_lines : (bytes : List ℕ) → lines_of bytes ≡ map bare (whole_lines bytes)
bare_lines bytes = ap (map strip_carriage_return) (pieces_are bytes) ∙ twice (whole_lines bytes)
  where
    twice : (lines : List (List ℕ)) → map strip_carriage_return (map (before_first is_line_feed) lines) ≡ map bare lines
    twice [] = refl
    twice (line ∷ lines) = ap (λ (rest : List (List ℕ)). bare line ∷ rest) (twice lines)

ends_behind : (bytes more : List ℕ) → ends_line bytes ≡ true → ends_line more ≡ true → ends_line (bytes ++ more) ≡ true
ends_behind [] more h k = k
ends_behind (byte ∷ []) [] h k = h
ends_behind (byte ∷ []) (next ∷ more) h k = k
ends_behind (byte ∷ next ∷ bytes) more h k = ends_behind (next ∷ bytes) more h k

take_front : {A : Type 0} (xs ys : List A) (n : ℕ) → n ≡ length xs → take n (xs ++ ys) ≡ xs
take_front xs ys n h = take-append-le n xs ys (omega arith) ∙ take_all n xs (omega arith)

take_none : {A : Type 0} (n : ℕ) → take {A = A} n [] ≡ []
take_none zero = refl
take_none (suc n) = refl

take_plus : {A : Type 0} (i n : ℕ) (xs : List A) → take (i + n) xs ≡ take i xs ++ take n (drop i xs)
take_plus zero n xs = let none : 0 + n ≡ n = omega arith in ap (λ (k : ℕ). take k xs) none
take_plus {A = A} (suc i) n [] = take_none (suc i + n) ∙ sym (take_none n)
take_plus {A = A} (suc i) n (x ∷ xs) =
    let next : suc i + n ≡ suc (i + n) = omega arith in
    ap (λ (k : ℕ). take k (x ∷ xs)) next ∙ ap (λ (rest : List A). x ∷ rest) (take_plus i n xs)

-- ---- walks
pub walks_begin : (bytes : List ℕ) → IsWalked bytes 0 []
walks_begin bytes = record { within = omega arith; lines = refl; walked = refl; few = omega arith; ends = inl refl }

pub walks_on : (bytes : List ℕ) (end n : ℕ) (before : List (List ℕ)) → IsWalked bytes end before → end < length bytes
    → IsFirstLine (drop end bytes) n → IsWalked bytes (end + n) (before ++ take n (drop end bytes) ∷ [])
walks_on bytes end n before w below l =
    let long : length (drop end bytes) + end ≡ length bytes = omega (arith, length-drop end bytes) in
    let next : drop n (drop end bytes) ≡ drop (end + n) bytes = drop-drop n end bytes in
    let both : take (end + n) bytes ≡ take end bytes ++ take n (drop end bytes) = take_plus end n bytes in
    record {
      within = omega (arith, l.within);
      lines = w.lines
          ∙ ap (λ (rest : List (List ℕ)). before ++ rest)
          (l.line ∙ ap (λ (rest : List ℕ). take n (drop end bytes) ∷ whole_lines rest) next)
          ∙ sym (append_assoc before (take n (drop end bytes) ∷ []) (whole_lines (drop (end + n) bytes)));
      walked = rw both (lines_append (take end bytes) (take n (drop end bytes)) ended
          ∙ ap (λ (front : List (List ℕ)). front ++ whole_lines (take n (drop end bytes))) w.walked
          ∙ ap (λ (rest : List (List ℕ)). before ++ rest) l.alone);
      few = omega (arith, w.few, l.some, length-append before (take n (drop end bytes) ∷ []));
      ends = of l.ends;
    }
  where
    ended : ends_line (take end bytes) ≡ true
    ended = now w.ends
      where
        now : (ends_line (take end bytes) ≡ true) ⊎ (end ≡ length bytes) → ends_line (take end bytes) ≡ true
        now (inl a) = a
        now (inr b) = absurd (omega arith)

    of : (ends_line (take n (drop end bytes)) ≡ true) ⊎ (n ≡ length (drop end bytes))
        → (ends_line (take (end + n) bytes) ≡ true) ⊎ (end + n ≡ length bytes)
    of (inl a) = inl (rw (take_plus end n bytes) (ends_behind (take end bytes) (take n (drop end bytes)) ended a))
    of (inr b) = inr (omega (arith, length-drop end bytes))

-- the lines that were walked are the text's first
pub walked_lines : (bytes : List ℕ) (end : ℕ) (before : List (List ℕ)) → IsWalked bytes end before
    → lines_of (take end bytes) ≡ take (length before) (lines_of bytes)
walked_lines bytes end before w =
    bare_lines (take end bytes)
    ∙ ap (map bare) w.walked
    ∙ sym (take_front (map bare before) (map bare (whole_lines (drop end bytes))) (length before) (sym (length-map before bare)))
    ∙ ap (take (length before)) (sym (map-append bare before (whole_lines (drop end bytes))) ∙ ap (map bare) (sym w.lines) ∙ sym (bare_lines bytes))

pub walked_all : (bytes : List ℕ) (end count : ℕ) (before : List (List ℕ)) → IsWalked bytes end before → end ≡ length bytes → length before ≤ count
    → lines_of (take end bytes) ≡ take count (lines_of bytes)
walked_all bytes end count before w whole few =
    let all : take end bytes ≡ bytes = take_all end bytes (omega arith) in
    let lines : whole_lines bytes ≡ before = rw all at w.walked in
    rw all (sym (take_all count (lines_of bytes) (omega (arith, ap length (bare_lines bytes), length-map (whole_lines bytes) bare, ap length lines))))

-- ---- where the first line ends
pub found : (bytes : List ℕ) (n : ℕ) → Some n ≡ position is_line_feed bytes → IsFirstLine bytes (n + 1)
found bytes n e =
    let at : (n ≡ end_of bytes) × (end_of bytes < length bytes) = grind (arith, common_steps) in
    let next : n + 1 ≡ suc (end_of bytes) = omega (arith, at.0) in
    rw next (first_line bytes at.1)

pub not_found : (bytes : List ℕ) → 0 < length bytes → None ≡ position is_line_feed bytes → IsFirstLine bytes (length bytes)
not_found bytes h e =
    last_line bytes h (grind (arith, common_steps, prefix_len-le-length (λ x. not (is_line_feed x)) bytes))

-- ---- slices
-- what stands from a place on, and a piece of it
pub from_place : (bytes : List ℕ) (at : ℕ) → take (length bytes - at) (drop at bytes) ≡ drop at bytes
from_place bytes at = take_all (length bytes - at) (drop at bytes) (omega (arith, length-drop at bytes))

pub piece_at : (bytes : List ℕ) (at n : ℕ) → take ((at + n) - at) (drop at bytes) ≡ take n (drop at bytes)
piece_at bytes at n = let same : (at + n) - at ≡ n = omega arith in ap (λ (k : ℕ). take k (drop at bytes)) same
