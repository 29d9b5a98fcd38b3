-- A source is cut at its first line `%pool`.
use Rattle.std.proofs.Common.{◌≡◌, ℕ, suc, ◌+◌, ◌<◌, ◌≤◌, List, [], ◌∷◌, ◌++◌, length, take, drop, refl, sym, ap, ◌∙◌, subst, arith, append-nil, length-append}
use Rattle.std.specs.Prelude.{Result, Ok, Err}
use Rattle.std.specs.List.{AllByRecursion, concat}
use Rattle.std.proofs.lemmas.List.{drop-drop, drop_all}
use Rattle.ak_record.specs.declared.cut.Cut.{Cut}
use Rattle.ak_record.specs.Cuts.{whole_lines, IsPool, IsCut, IsUncut}
use Rattle.ak_record.specs.Walks.{IsFirstLine, IsWalked}
use Rattle.ak_record.proofs.Lines.{lines_join, walks_on}

-- no line is `%pool`
abbrev pub None : List (List ℕ) → Type 0
None lines = AllByRecursion (λ line. IsPool line → ⊥) lines

none_append : (xs ys : List (List ℕ)) → None xs → None ys → None (xs ++ ys)
none_append [] ys h k = k
none_append (x ∷ xs) ys h k = (h.0, none_append xs ys h.1 k)

none_at : (xs : List (List ℕ)) (y : List ℕ) (ys : List (List ℕ)) → None (xs ++ y ∷ ys) → IsPool y → ⊥
none_at [] y ys h is = h.0 is
none_at (x ∷ xs) y ys h is = none_at xs y ys h.1 is

-- the walk comes to the line
pub cut_here : (source : List ℕ) (start n number : ℕ) (before : List (List ℕ)) → IsWalked source start before → None before
    → number ≡ length before + 1 → IsFirstLine (drop start source) n → IsPool (take n (drop start source))
    → IsCut source (take start source) number (drop (start + n) source)
cut_here source start n number before w none number_is l is = record {
  before = before;
  pool = take n (drop start source);
  after = whole_lines (drop (start + n) source);
  lines_are = w.lines
      ∙ ap (λ (rest : List (List ℕ)). before ++ rest)
      (l.line ∙ ap (λ (rest : List ℕ). take n (drop start source) ∷ whole_lines rest) (drop-drop n start source));
  first = none;
  is_pool = is;
  script_is = sym (lines_join (take start source)) ∙ ap concat w.walked;
  number_is = number_is;
  history_is = sym (lines_join (drop (start + n) source));
}

-- the walk goes past another line
pub record Goes (source : List ℕ) (end number : ℕ) : Type 0 where
  pub before : List (List ℕ)
  pub walked : IsWalked source end before
  pub none : None before
  pub number_is : number ≡ length before + 1

pub goes_on : (source : List ℕ) (start n number : ℕ) (before : List (List ℕ)) → IsWalked source start before → None before
    → number ≡ length before + 1 → start < length source → IsFirstLine (drop start source) n → (IsPool (take n (drop start source)) → ⊥)
    → Goes source (start + n) (number + 1)
goes_on source start n number before w none number_is below l is_not =
    let line = take n (drop start source) in
    record {
      before = before ++ line ∷ [];
      walked = walks_on source start n before w below l;
      none = none_append before (line ∷ []) none (is_not, tt);
      number_is = omega (arith, number_is, length-append before (line ∷ []));
    }

-- the walk comes to the end
pub uncut_here : (source : List ℕ) (end number : ℕ) (before : List (List ℕ)) → IsWalked source end before → None before
    → number ≡ length before + 1 → length source ≤ end → IsUncut source number
uncut_here source end number before w none number_is over =
    let empty : drop end source ≡ [] = drop_all end source over in
    let all : whole_lines source ≡ before =
    w.lines ∙ ap (λ (rest : List ℕ). before ++ whole_lines rest) empty ∙ append-nil before in
    record { none = subst None (sym all) none; number_is = number_is ∙ sym (ap (λ (l : List (List ℕ)). length l + 1) all) }

-- ---- there is one cut
pub record Same (source s t : List ℕ) (n m : ℕ) (h k : List ℕ) : Type 0 where
  pub script : s ≡ t
  pub number : n ≡ m
  pub history : h ≡ k

pub record SameLines (a b c d : List (List ℕ)) : Type 0 where
  pub before : a ≡ b
  pub after : c ≡ d

heads : {x y : List ℕ} {a b : List (List ℕ)} → x ∷ a ≡ y ∷ b → x ≡ y
heads e = cc

tails : {x y : List ℕ} {a b : List (List ℕ)} → x ∷ a ≡ y ∷ b → a ≡ b
tails e = cc

same_lines : (a b : List (List ℕ)) (x y : List ℕ) (c d : List (List ℕ)) → a ++ x ∷ c ≡ b ++ y ∷ d → None a → None b → IsPool x → IsPool y
    → SameLines a b c d
same_lines [] [] x y c d e h k p q = record { before = refl; after = tails e }
same_lines [] (z ∷ b) x y c d e h k p q = absurd (k.0 (subst IsPool (heads e) p))
same_lines (z ∷ a) [] x y c d e h k p q = absurd (h.0 (subst IsPool (sym (heads e)) q))
same_lines (z ∷ a) (w ∷ b) x y c d e h k p q =
    let more = same_lines a b x y c d (tails e) h.1 k.1 p q in
    record { before = ap (λ (v : List ℕ). v ∷ a) (heads e) ∙ ap (λ (l : List (List ℕ)). w ∷ l) more.before; after = more.after }

pub one_cut : (source s t : List ℕ) (n m : ℕ) (h k : List ℕ) → IsCut source s n h → IsCut source t m k → Same source s t n m h k
one_cut source s t n m h k a b =
    let same = same_lines a.before b.before a.pool b.pool a.after b.after (sym a.lines_are ∙ b.lines_are) a.first b.first a.is_pool b.is_pool in
    record {
      script = a.script_is ∙ ap concat same.before ∙ sym b.script_is;
      number = a.number_is ∙ ap (λ (l : List (List ℕ)). length l + 1) same.before ∙ sym b.number_is;
      history = a.history_is ∙ ap concat same.after ∙ sym b.history_is;
    }

pub not_uncut : (source s : List ℕ) (n m : ℕ) (h : List ℕ) → IsCut source s n h → IsUncut source m → ⊥
not_uncut source s n m h a u = none_at a.before a.pool a.after (subst None a.lines_are u.none) a.is_pool
