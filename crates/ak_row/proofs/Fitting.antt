-- Lines that fit things one for one, and the first bad line.
use Rattle.std.proofs.Common.{◌≡◌, ℕ, true, false, List, [], ◌∷◌, ◌++◌, map, refl, sym, ap, ◌∙◌, subst, append_assoc, ◌⊎◌, inl, inr}
use Rattle.std.specs.List.{AllZip, filter}
use Rattle.ak_text.specs.Lines.{TextLine, counts}
use Rattle.ak_row.specs.Faults.{IsFirstBad}

-- a line fits one thing at the most
abbrev pub FitsOne : {A : Type 0} → (A → TextLine → Type 0) → Type 0
FitsOne {A} Fits = (a b : A) (line : TextLine) → Fits a line → Fits b line → a ≡ b

pub one_list : {A : Type 0} (Fits : A → TextLine → Type 0) → FitsOne Fits → (xs ys : List A) (lines : List TextLine)
    → AllZip Fits xs lines → AllZip Fits ys lines → xs ≡ ys
one_list Fits one [] [] lines h k = refl
one_list Fits one [] (y ∷ ys) [] h k = absurd k
one_list Fits one [] (y ∷ ys) (line ∷ lines) h k = absurd h
one_list Fits one (x ∷ xs) ys [] h k = absurd h
one_list Fits one (x ∷ xs) [] (line ∷ lines) h k = absurd k
one_list {A} Fits one (x ∷ xs) (y ∷ ys) (line ∷ lines) h k =
    let first : x ≡ y = one x y line h.0 k.0 in
    let rest : xs ≡ ys = one_list Fits one xs ys lines h.1 k.1 in
    ap (λ (z : A). z ∷ xs) first ∙ ap (λ (zs : List A). y ∷ zs) rest

-- a list for the lines and for one more
pub one_more : {A : Type 0} (Fits : A → TextLine → Type 0) (xs : List A) (lines : List TextLine) (x : A) (line : TextLine)
    → AllZip Fits xs lines → Fits x line → AllZip Fits (xs ++ x ∷ []) (lines ++ line ∷ [])
one_more Fits [] [] x line h k = (k, tt)
one_more Fits [] (other ∷ lines) x line h k = absurd h
one_more Fits (y ∷ xs) [] x line h k = absurd h
one_more Fits (y ∷ xs) (other ∷ lines) x line h k = (h.0, one_more Fits xs lines x line h.1 k)

-- what fits all lines fits each
pub fits_at : {A : Type 0} (Fits : A → TextLine → Type 0) (xs : List A) (before after : List TextLine) (line : TextLine)
    → AllZip Fits xs (before ++ line ∷ after) → (x : A) × Fits x line
fits_at Fits [] [] after line h = absurd h
fits_at Fits [] (other ∷ before) after line h = absurd h
fits_at Fits (x ∷ xs) [] after line h = (x, h.0)
fits_at Fits (x ∷ xs) (other ∷ before) after line h = fits_at Fits xs before after line h.1

-- lines that all fit have no bad one
pub none_bad : {A : Type 0} (Fits : A → TextLine → Type 0) (xs : List A) (lines : List TextLine) (number : ℕ) → AllZip Fits xs lines
    → IsFirstBad Fits lines number → ⊥
none_bad Fits xs lines number h b =
    let x = fits_at Fits xs b.before b.after b.line (subst (λ (ls : List TextLine). AllZip Fits xs ls) b.split h) in
    b.bad x.0 x.1

head_is : {a b : TextLine} {xs ys : List TextLine} → a ∷ xs ≡ b ∷ ys → a ≡ b
head_is e = cc

tail_is : {a b : TextLine} {xs ys : List TextLine} → a ∷ xs ≡ b ∷ ys → xs ≡ ys
tail_is e = cc

same_line : {A : Type 0} (Fits : A → TextLine → Type 0) (xs ys : List A) (before other : List TextLine) (line next : TextLine) (after rest : List TextLine)
    → before ++ line ∷ after ≡ other ++ next ∷ rest → AllZip Fits xs before → AllZip Fits ys other → ((x : A) → Fits x line → ⊥)
    → ((x : A) → Fits x next → ⊥) → line ≡ next
same_line Fits xs ys [] [] line next after rest e h k bad worse = head_is e
same_line {A} Fits xs ys [] (o ∷ other) line next after rest e h k bad worse =
    let x = fits_at Fits ys [] other o k in absurd (bad x.0 (subst (λ (l : TextLine). Fits x.0 l) (sym (head_is e)) x.1))
same_line {A} Fits xs ys (b ∷ before) [] line next after rest e h k bad worse =
    let x = fits_at Fits xs [] before b h in absurd (worse x.0 (subst (λ (l : TextLine). Fits x.0 l) (head_is e) x.1))
same_line Fits [] ys (b ∷ before) (o ∷ other) line next after rest e h k bad worse = absurd h
same_line Fits (x ∷ xs) [] (b ∷ before) (o ∷ other) line next after rest e h k bad worse = absurd k
same_line Fits (x ∷ xs) (y ∷ ys) (b ∷ before) (o ∷ other) line next after rest e h k bad worse =
    same_line Fits xs ys before other line next after rest (tail_is e) h.1 k.1 bad worse

-- there is one first bad line at the most
pub one_first_bad : {A : Type 0} (Fits : A → TextLine → Type 0) (lines : List TextLine) (m n : ℕ) → IsFirstBad Fits lines m → IsFirstBad Fits lines n → m ≡ n
one_first_bad Fits lines m n a b =
    let same = same_line Fits a.fitting b.fitting a.before b.before a.line b.line a.after b.after (sym a.split ∙ b.split) a.fit b.fit a.bad b.bad in
    a.at ∙ ap (λ (l : TextLine). l.number) same ∙ sym b.at

-- ---- things by their rows
pub by_rows : {A B : Type 0} (of : A → B) (Fits : B → TextLine → Type 0) (xs : List A) (lines : List TextLine)
    → AllZip Fits (map of xs) lines → AllZip (λ x line. Fits (of x) line) xs lines
by_rows of Fits [] [] h = tt
by_rows of Fits [] (line ∷ lines) h = absurd h
by_rows of Fits (x ∷ xs) [] h = absurd h
by_rows of Fits (x ∷ xs) (line ∷ lines) h = (h.0, by_rows of Fits xs lines h.1)

-- ---- how far a reader has come
-- the lines before those that are left, where none is skipped, fit the things so far
pub record AreRead {A : Type 0} (Fits : A → TextLine → Type 0) (xs : List A) (left all : List TextLine) : Type 0 where
  pub before : List TextLine
  pub fit : AllZip Fits xs before
  pub split : filter counts all ≡ before ++ filter counts left

pub read_none : {A : Type 0} (Fits : A → TextLine → Type 0) (all : List TextLine) → AreRead Fits [] all all
read_none Fits all = record { before = []; fit = tt; split = refl }

kept : (line : TextLine) (rest : List TextLine) → counts line ≡ true → filter counts (line ∷ rest) ≡ line ∷ filter counts rest
kept line rest h = rw h refl

skipped : (line : TextLine) (rest : List TextLine) → counts line ≡ false → filter counts (line ∷ rest) ≡ filter counts rest
skipped line rest h = rw h refl

pub read_skip : {A : Type 0} (Fits : A → TextLine → Type 0) (xs : List A) (left rest all : List TextLine) (line : TextLine)
    → AreRead Fits xs left all → left ≡ line ∷ rest → counts line ≡ false → AreRead Fits xs rest all
read_skip Fits xs left rest all line r is h = record {
  before = r.before;
  fit = r.fit;
  split = r.split ∙ ap (λ (ls : List TextLine). r.before ++ filter counts ls) is ∙ ap (λ (ls : List TextLine). r.before ++ ls) (skipped line rest h);
}

split_at : {A : Type 0} (Fits : A → TextLine → Type 0) (xs : List A) (left rest all : List TextLine) (line : TextLine)
    → (r : AreRead Fits xs left all) → left ≡ line ∷ rest → counts line ≡ true → filter counts all ≡ r.before ++ line ∷ filter counts rest
split_at Fits xs left rest all line r is h =
    r.split ∙ ap (λ (ls : List TextLine). r.before ++ filter counts ls) is ∙ ap (λ (ls : List TextLine). r.before ++ ls) (kept line rest h)

pub read_more : {A : Type 0} (Fits : A → TextLine → Type 0) (xs : List A) (left rest all : List TextLine) (line : TextLine) (x : A)
    → AreRead Fits xs left all → left ≡ line ∷ rest → counts line ≡ true → Fits x line → AreRead Fits (xs ++ x ∷ []) rest all
read_more Fits xs left rest all line x r is h k = record {
  before = r.before ++ line ∷ [];
  fit = one_more Fits xs r.before x line r.fit k;
  split = split_at Fits xs left rest all line r is h ∙ sym (append_assoc r.before (line ∷ []) (filter counts rest));
}

append_nothing : (lines : List TextLine) → lines ++ [] ≡ lines
append_nothing [] = refl
append_nothing (line ∷ lines) = ap (λ (ls : List TextLine). line ∷ ls) (append_nothing lines)

pub read_all : {A : Type 0} (Fits : A → TextLine → Type 0) (xs : List A) (left all : List TextLine) → AreRead Fits xs left all → left ≡ []
    → AllZip Fits xs (filter counts all)
read_all Fits xs left all r is =
    let whole : filter counts all ≡ r.before = r.split ∙ ap (λ (ls : List TextLine). r.before ++ filter counts ls) is ∙ append_nothing r.before in
    subst (λ (ls : List TextLine). AllZip Fits xs ls) (sym whole) r.fit

pub read_bad : {A : Type 0} (Fits : A → TextLine → Type 0) (xs : List A) (left rest all : List TextLine) (line : TextLine)
    → AreRead Fits xs left all → left ≡ line ∷ rest → counts line ≡ true → ((x : A) → Fits x line → ⊥)
    → IsFirstBad Fits (filter counts all) line.number
read_bad Fits xs left rest all line r is h bad = record {
  fitting = xs;
  before = r.before;
  line = line;
  after = filter counts rest;
  split = split_at Fits xs left rest all line r is h;
  fit = r.fit;
  bad = bad;
  at = refl;
}

-- ---- one or the other
abbrev IsReadable : {A : Type 0} → (A → TextLine → Type 0) → List TextLine → Type 0
IsReadable {A} Fits lines = ((xs : List A) × AllZip Fits xs lines) ⊎ ((number : ℕ) × IsFirstBad Fits lines number)

-- where each line fits something or nothing, all lines fit a list, or there is a first bad one
pub read_or_bad : {A : Type 0} (Fits : A → TextLine → Type 0)
    → ((line : TextLine) → ((x : A) × Fits x line) ⊎ ((x : A) → Fits x line → ⊥)) → (lines : List TextLine)
    → ((xs : List A) × AllZip Fits xs lines) ⊎ ((number : ℕ) × IsFirstBad Fits lines number)
read_or_bad Fits decide [] = inl ([], tt)
read_or_bad {A} Fits decide (line ∷ lines) = of (decide line) (read_or_bad Fits decide lines)
  where
    of : ((x : A) × Fits x line) ⊎ ((x : A) → Fits x line → ⊥) → IsReadable Fits lines → IsReadable Fits (line ∷ lines)
    of (inl x) (inl xs) = inl (x.0 ∷ xs.0, (x.1, xs.1))
    of (inl x) (inr b) = inr (
      b.0,
      record {
        fitting = x.0 ∷ b.1.fitting;
        before = line ∷ b.1.before;
        line = b.1.line;
        after = b.1.after;
        split = ap (λ (ls : List TextLine). line ∷ ls) b.1.split;
        fit = (x.1, b.1.fit);
        bad = b.1.bad;
        at = b.1.at;
      },
    )
    of (inr bad) rest = inr (
      line.number,
      record {
        fitting = [];
        before = [];
        line = line;
        after = lines;
        split = refl;
        fit = tt;
        bad = bad;
        at = refl;
      },
    )
