-- A language of lines, and what is wrong with a text that isn't of it: the first line with a fault, and the least kind of its
-- faults. Own.
use Rattle.std.specs.Prelude.{◌≡◌, ℕ, ◌+◌, Bool, true, false, ◌⊎◌, List, [], ◌∷◌, ◌++◌, filter, length, ℤ, pos}
use Rattle.std.specs.List.{AllZip}
use Rattle.ak_text.specs.Lines.{TextLine, text_lines, words_of, has_bad_byte, counts}
use Rattle.ak_script.specs.declared.statement.Atom.TheVariants.{Literal}
use Rattle.ak_syntax.specs.Names.{is_number_word}
use Rattle.ak_syntax.specs.Table.{Place, Valued, Counted, Stands}

-- ---- a word at its place, whatever number it is
-- a number is wanted and begun there, and no number of the place's range is written
abbrev pub IsFaulty : Place → List ℕ → Type 0
IsFaulty (Valued (Literal number)) word = (is_number_word word ≡ true) × ((other : ℤ) → Stands (Valued (Literal other)) word → ⊥)
IsFaulty (Counted least number) word = (is_number_word word ≡ true) × ((other : ℕ) → Stands (Counted least other) word → ⊥)
IsFaulty _ word = ⊥

-- the place has 0 for its number
abbrev pub HasZero : Place → Type 0
HasZero (Valued (Literal number)) = number ≡ pos 0
HasZero (Counted least number) = number ≡ 0
HasZero _ = Unit {0}

-- the word is what the place wants, but for its number: 0 stands for a faulty one
abbrev pub Fits : Place → List ℕ → Type 0
Fits place word = Stands place word ⊎ (IsFaulty place word × HasZero place)

-- at some place
abbrev pub SomeZip : {A B : Type 0} → (A → B → Type 0) → List A → List B → Type 0
SomeZip R [] ys = ⊥
SomeZip R (x ∷ xs) [] = ⊥
SomeZip R (x ∷ xs) (y ∷ ys) = R x y ⊎ SomeZip R xs ys

-- ---- a language
-- the forms of lines, what may come behind the first lines of a text, and the kinds of faults
pub record Rules (Front Form Kind : Type 0) : Type 1 where
  -- the words of a form
  pub places : Form → List Place
  -- the number of the line is the one that the form has
  pub HasNumber : Form → ℕ → Type 0
  -- what the words of a form don't show
  pub IsShaped : Form → Type 0
  -- these are the first lines, and all is right so far
  pub IsFront : Front → List TextLine → Type 0
  -- something has begun whose end has not come
  pub is_open : Front → Bool
  -- the form may come next
  pub MayFollow : Front → Form → Type 0
  -- with the line a count is over its limit
  pub Exceeds : Front → Form → Type 0
  pub bad_line : Kind
  pub too_many : Kind
  pub bad_number : Kind

-- ---- the shape of a line: its form, whatever numbers it has
-- the line has the shape of the form, of any numbers and lists of any lengths
pub record HasShape {Front Form Kind : Type 0} (r : Rules Front Form Kind) (form : Form) (line : TextLine) : Type 0 where
  pub good : has_bad_byte line.text ≡ false
  pub number : r.HasNumber form line.number
  pub words : AllZip Fits (r.places form) (words_of line.text)
  pub shaped : r.IsShaped form

-- a word of the line that is to be a number is none in its range
abbrev pub HasFaultyNumber : {Front Form Kind : Type 0} → Rules Front Form Kind → Form → TextLine → Type 0
HasFaultyNumber r form line = SomeZip IsFaulty (r.places form) (words_of line.text)

-- ---- faults
-- a line behind right ones has a fault, and the kind is the least of its faults
pub data LineFault {Front Form Kind : Type 0} (r : Rules Front Form Kind) (front : Front) (line : TextLine) (kind : Kind) : Type 0 where
  is_bad : kind ≡ r.bad_line → ((form : Form) → HasShape r form line → r.MayFollow front form → ⊥)
      → LineFault r front line kind
  is_many : kind ≡ r.too_many → (form : Form) → HasShape r form line → r.MayFollow front form → r.Exceeds front form
      → LineFault r front line kind
  is_wide : kind ≡ r.bad_number → (form : Form) → HasShape r form line → r.MayFollow front form → (r.Exceeds front form → ⊥)
      → HasFaultyNumber r form line → LineFault r front line kind

-- the first line with a fault comes behind right ones
pub record HasFaultAt {Front Form Kind : Type 0} (r : Rules Front Form Kind) (bytes : List ℕ) (number : ℕ) (kind : Kind) : Type 0 where
  pub front : Front
  pub before : List TextLine
  pub line : TextLine
  pub after : List TextLine
  pub lines : filter counts (text_lines bytes) ≡ before ++ line ∷ after
  pub right : r.IsFront front before
  pub fault : LineFault r front line kind
  pub at : number ≡ line.number

-- all lines are right, and the text ends inside of what has begun: a fault of the line behind the last
pub record EndsInside {Front Form Kind : Type 0} (r : Rules Front Form Kind) (bytes : List ℕ) (number : ℕ) (kind : Kind) : Type 0 where
  pub front : Front
  pub inside : r.is_open front ≡ true
  pub right : r.IsFront front (filter counts (text_lines bytes))
  pub at : number ≡ length (text_lines bytes) + 1
  pub is_bad : kind ≡ r.bad_line

-- the fault of a text: where, and of what kind
abbrev pub FirstFault : {Front Form Kind : Type 0} → Rules Front Form Kind → List ℕ → ℕ → Kind → Type 0
FirstFault r bytes number kind = HasFaultAt r bytes number kind ⊎ EndsInside r bytes number kind
