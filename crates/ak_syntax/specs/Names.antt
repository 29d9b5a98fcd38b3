-- Names, and the words that stand for kinds, operators and works.
use Rattle.std.specs.Prelude.{ℕ, Bool, ◌&&◌, ◌||◌, not, ◌==◌, nat_le, List, [], ◌∷◌, length, slice_index, codes}
use Rattle.std.specs.List.{list_all, list_any}
use Rattle.std.specs.Str.{bytes_eq}
use Rattle.ak_text.specs.Numbers.{is_digit, has_minus}
use Rattle.ak_script.specs.declared.script.Kind.{Kind}
use Rattle.ak_script.specs.declared.script.Kind.TheVariants as of_kind
use Rattle.ak_script.specs.declared.statement.Operator.{Operator}
use Rattle.ak_script.specs.declared.statement.Operator.TheVariants.{Add, Sub, Mul, Div, Rem, Less, LessEq, Equal, NotEqual}
use Rattle.ak_script.specs.declared.statement.WorkWord.{WorkWord}
use Rattle.ak_script.specs.declared.statement.WorkWord.TheVariants.{Square, Mix, Fail}

-- a letter of ASCII, or `_`
abbrev pub is_letter : ℕ → Bool
is_letter byte = (nat_le 65 byte && nat_le byte 90) || (nat_le 97 byte && nat_le byte 122) || (byte == 95)

-- a byte that may stand in a name
abbrev pub is_name_byte : ℕ → Bool
is_name_byte byte = is_letter byte || (nat_le 48 byte && nat_le byte 57)

-- the words that are no names
abbrev pub reserved : List (List ℕ)
reserved = codes "then" ∷ codes "with" ∷ codes "else" ∷ codes "rest" ∷ []

-- a letter and then letters and digits, at most 32 bytes, and no reserved word
abbrev pub is_name : List ℕ → Bool
is_name word = is_letter (slice_index word 0) && list_all is_name_byte word && nat_le (length word) 32 && not (list_any (bytes_eq word) reserved)

-- the word of a kind
abbrev pub kind_word : Kind → List ℕ
kind_word of_kind.Num = codes "num"
kind_word of_kind.Ivar = codes "ivar"
kind_word of_kind.Def = codes "def"
kind_word of_kind.Mon = codes "mon"
kind_word of_kind.Pipe = codes "pipe"
kind_word of_kind.Thr = codes "thr"
kind_word of_kind.Event = codes "event"
kind_word of_kind.Helper = codes "helper"

-- the kinds
abbrev pub all_kinds : List Kind
all_kinds = of_kind.Num ∷ of_kind.Ivar ∷ of_kind.Def ∷ of_kind.Mon ∷ of_kind.Pipe ∷ of_kind.Thr ∷ of_kind.Event ∷ of_kind.Helper ∷ []

abbrev pub is_colon : ℕ → Bool
is_colon byte = byte == 58

-- the word of an operator
abbrev pub operator_word : Operator → List ℕ
operator_word Add = codes "+"
operator_word Sub = codes "-"
operator_word Mul = codes "*"
operator_word Div = codes "/"
operator_word Rem = codes "%"
operator_word Less = codes "<"
operator_word LessEq = codes "<="
operator_word Equal = codes "="
operator_word NotEqual = codes "!="

-- the operators
abbrev pub all_operators : List Operator
all_operators = Add ∷ Sub ∷ Mul ∷ Div ∷ Rem ∷ Less ∷ LessEq ∷ Equal ∷ NotEqual ∷ []

-- the word of a work
abbrev pub work_word : WorkWord → List ℕ
work_word Square = codes "square"
work_word Mix = codes "mix"
work_word Fail = codes "fail"

-- the works
abbrev pub all_works : List WorkWord
all_works = Square ∷ Mix ∷ Fail ∷ []

-- whether a word is to be a number where one may stand: it begins with a digit or a minus
abbrev pub is_number_word : List ℕ → Bool
is_number_word word = is_digit (slice_index word 0) || has_minus word
