-- What is wrong with a text that isn't functions by name: the first line with a fault, and the least kind of its faults. Own.
use Rattle.std.specs.Prelude.{◌≡◌, ℕ, ◌+◌, ◌<◌, ◌≤◌, false, ◌⊎◌, Option, Some, None, is_some, IsSomeAnd, List, [], ◌∷◌, ◌++◌, map, length}
use Rattle.std.specs.List.{AllZip, AllByRecursion}
use Rattle.ak_text.specs.Lines.{TextLine}
use Rattle.ak_let_syntax.specs.declared.named.NamedFun.{NamedFun}
use Rattle.ak_let_syntax.specs.declared.named.Form.{Form}
use Rattle.ak_let_syntax.specs.declared.named.Form.TheVariants.{Head, Body, End}
use Rattle.ak_let_syntax.specs.declared.refusal.LetFault.{LetFault}
use Rattle.ak_let_syntax.specs.declared.refusal.LetFault.TheVariants.{BadLine, NoMain, TwiceNamed, UnknownName, WrongCount, TooMany, BadNumber}
use Rattle.ak_let_syntax.specs.Grammar.{places, HasNumber, names_work, IsLine, forms, binds, locals, IsWithin}
use Rattle.ak_syntax.specs.Rules.{Rules, FirstFault}

-- the number of a kind
abbrev pub kind_number : LetFault → ℕ
kind_number BadLine = 31
kind_number NoMain = 32
kind_number TwiceNamed = 33
kind_number UnknownName = 34
kind_number WrongCount = 35
kind_number TooMany = 36
kind_number BadNumber = 37

-- ---- the lines before
-- the first lines of a source: those of whole functions, and of one whose `end` has not come
pub record Front : Type 0 where
  pub funs : List NamedFun
  pub begun : Option NamedFun

abbrev pub begun_forms : Option NamedFun → List Form
begun_forms None = []
begun_forms (Some fun) = Head fun.name fun.number fun.params ∷ map Body fun.lines

abbrev pub begun_funs : Option NamedFun → List NamedFun
begun_funs None = []
begun_funs (Some fun) = fun ∷ []

-- the functions, the last of which may have no `end` yet
abbrev pub all_funs : Front → List NamedFun
all_funs front = front.funs ++ begun_funs front.begun

-- the lines are those first lines, and all is right so far
pub record IsFront (front : Front) (before : List TextLine) : Type 0 where
  pub lines : AllZip IsLine (forms front.funs ++ begun_forms front.begun) before
  pub funs : length (all_funs front) ≤ 128
  pub each : AllByRecursion IsWithin (all_funs front)

-- ---- a line behind right ones
-- `fun` comes outside of a function, a line of its own and `end` inside
abbrev pub MayFollow : Option NamedFun → Form → Type 0
MayFollow None (Head name number params) = Unit {0}
MayFollow (Some fun) (Body line) = Unit {0}
MayFollow (Some fun) End = Unit {0}
MayFollow begun form = ⊥

-- with the line the function has too many lines or locals
abbrev pub LineExceeds : Form → NamedFun → Type 0
LineExceeds (Body line) fun =
    (15 < length fun.lines + 1) ⊎ (7 < length (locals fun) + length (binds line.stmt))
LineExceeds form fun = ⊥

-- with the line a count is over its limit
abbrev pub Exceeds : Front → Form → Type 0
Exceeds front (Head name number params) = (7 < length params) ⊎ (128 < length front.funs + 1)
Exceeds front form = IsSomeAnd front.begun (LineExceeds form)

-- ---- the first line with a fault
abbrev pub rules : Rules Front Form LetFault
rules =
    record {
      places = places;
      HasNumber = HasNumber;
      IsShaped = λ form. names_work form ≡ false;
      IsFront = IsFront;
      is_open = λ front. is_some front.begun;
      MayFollow = λ front. MayFollow front.begun;
      Exceeds = Exceeds;
      bad_line = BadLine;
      too_many = TooMany;
      bad_number = BadNumber;
    }

-- the fault of bytes that aren't functions by name: where, and of what kind
abbrev pub GrammarFault : List ℕ → ℕ → LetFault → Type 0
GrammarFault bytes number kind = FirstFault rules bytes number kind
