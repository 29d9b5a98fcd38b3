-- How the reader takes the words of a line, one after the other. Each function gives what it finds and the words that
-- are left, or what is wrong.
use Rattle.std.specs.Prelude.{◌≡◌, ℕ, ◌-◌, ◌+◌, ◌^◌, Bool, true, false, ◌&&◌, ◌||◌, nat_le, nat_lt, Option, Some, None, Result, Ok, Err, List, [], ◌∷◌, length, take, drop, position, ℤ, pos, negsuc, codes, if◌then◌else◌}
use Rattle.std.specs.List.{list_all, find}
use Rattle.std.specs.Str.{bytes_eq}
use Rattle.ak_text.specs.Numbers.{has_minus, is_digit, without_minus, digits_value, signed_value}
use Rattle.ak_script.specs.declared.script.Kind.{Kind}
use Rattle.ak_script.specs.declared.script.Param.{Param}
use Rattle.ak_script.specs.declared.statement.Atom.{Atom}
use Rattle.ak_script.specs.declared.statement.Atom.TheVariants.{Literal, Local}
use Rattle.ak_script.specs.declared.statement.Choice.{Choice}
use Rattle.ak_script.specs.declared.statement.GuardMode.{GuardMode}
use Rattle.ak_script.specs.declared.statement.GuardMode.TheVariants as guard
use Rattle.ak_script.specs.declared.statement.Operator.{Operator}
use Rattle.ak_script.specs.declared.statement.WorkWord.{WorkWord}
use Rattle.ak_syntax.specs.declared.cursor.Cursor.{Cursor}
use Rattle.ak_syntax.specs.declared.cursor.Until.{Until}
use Rattle.ak_syntax.specs.declared.cursor.Until.TheVariants.{LineEnd, Then, With, Else}
use Rattle.ak_syntax.specs.declared.refusal.Fault.{Fault}
use Rattle.ak_syntax.specs.declared.refusal.Fault.TheVariants.{Grammar, NoMemory}
use Rattle.ak_syntax.specs.declared.refusal.GrammarKind.TheVariants.{BadLine}
use Rattle.ak_syntax.specs.Names.{is_name, is_number_word, is_colon, kind_word, all_kinds, operator_word, all_operators, work_word, all_works}

-- what is wrong with a part of a line: it has no form of the grammar
pub data Bad : Type 0 where
  bad : Bad

infixl 10 ◌>>=◌
abbrev pub ◌>>=◌ : {A B : Type 0} → Result A Bad → (A → Result B Bad) → Result B Bad
(Ok x) >>= f = f x
(Err e) >>= f = Err e

-- a refusal for that reason, or want of memory
abbrev pub Refuses : {Y : Type 0} → Fault → Result Y Bad → Type 0
Refuses (Grammar kind) found = (kind ≡ BadLine) × (found ≡ Err bad)
Refuses NoMemory found = Unit {0}

-- the answer, seen by view, is what is found
abbrev pub Gives : {X Y : Type 0} → (X → Y) → Result X Fault → Result Y Bad → Type 0
Gives view (Ok x) found = found ≡ Ok (view x)
Gives view (Err e) found = Refuses e found

-- the same, with the words that are left
abbrev pub Leaves : {X Y : Type 0} → (X → Y) → Result X Fault → Cursor → Result (Y × Cursor) Bad → Type 0
Leaves view (Ok x) left found = found ≡ Ok (view x, left)
Leaves view (Err e) left found = Refuses e found

-- what stands at the front of the words
abbrev pub Part : Type 0 → Type 0
Part T = Cursor → Result (T × Cursor) Bad

abbrev pub both : {A B : Type 0} → Part A → Part B → Part (A × B)
both first second c = first c >>= λ a. second a.1 >>= λ b. Ok ((a.0, b.0), b.1)

abbrev pub mapped : {A B : Type 0} → (A → B) → Part A → Part B
mapped f part c = part c >>= λ a. Ok (f a.0, a.1)

-- ---- one word
abbrev pub word_from : List (List ℕ) → Bool → Result (List ℕ × Cursor) Bad
word_from [] faulty = Err bad
word_from (word ∷ words) faulty = Ok (word, record { words = words; faulty = faulty })

unfoldable pub word_at : Part (List ℕ)
word_at c = word_from c.words c.faulty

abbrev pub end_from : List (List ℕ) → Bool → Result (Unit {0} × Cursor) Bad
end_from [] faulty = Ok (tt, record { words = []; faulty = faulty })
end_from (word ∷ words) faulty = Err bad

unfoldable pub end_at : Part (Unit {0})
end_at c = end_from c.words c.faulty

abbrev pub name_found : List ℕ → Result (List ℕ) Bad
name_found word = if is_name word then Ok word else Err bad

-- this very word
abbrev pub exactly_found : List ℕ → List ℕ → Result (Unit {0}) Bad
exactly_found bytes word = if bytes_eq word bytes then Ok tt else Err bad

unfoldable pub exactly_at : List ℕ → Part (Unit {0})
exactly_at bytes c = word_at c >>= λ w. exactly_found bytes w.0 >>= λ u. Ok (u, w.1)

unfoldable pub name_at : Part (List ℕ)
name_at c = word_at c >>= λ w. name_found w.0 >>= λ n. Ok (n, w.1)

-- ---- numbers
-- the number lies in the range of an `i64`
abbrev pub fits_i64 : List ℕ → Bool
fits_i64 word = nat_le (digits_value (without_minus word)) (if has_minus word then 2 ^ 63 else 2 ^ 63 - 1)

unfoldable pub number_of : List ℕ → Option ℤ
number_of word = if list_all is_digit (without_minus word) && nat_lt 0 (length (without_minus word)) && fits_i64 word then Some (signed_value word) else None

-- an atom, and whether its word is a number out of range, for which 0 stands
abbrev pub literal_found : Option ℤ → Atom × Bool
literal_found (Some number) = (Literal number, false)
literal_found None = (Literal (pos 0), true)

unfoldable pub atom_found : List ℕ → Result (Atom × Bool) Bad
atom_found word = if is_number_word word then Ok (literal_found (number_of word)) else (name_found word >>= λ n. Ok (Local n, false))

-- the words that are left, after a word that may be a number out of range
abbrev pub marked : Bool → Cursor → Cursor
marked faulty c = record c { faulty = faulty || c.faulty }

unfoldable pub atom_at : Part Atom
atom_at c = word_at c >>= λ w. atom_found w.0 >>= λ a. Ok (a.0, marked a.1 w.1)

-- a number from the least one to 1,000,000
abbrev pub count_in : ℕ → Option ℤ → Option ℕ
count_in least (Some (pos number)) = if nat_le least number && nat_le number 1000000 then Some number else None
count_in least (Some (negsuc number)) = None
count_in least None = None

abbrev pub count_or_zero : Option ℕ → ℕ × Bool
count_or_zero (Some number) = (number, false)
count_or_zero None = (0, true)

abbrev pub count_found : ℕ → List ℕ → Result (ℕ × Bool) Bad
count_found least word = if is_number_word word then Ok (count_or_zero (count_in least (number_of word))) else Err bad

unfoldable pub count_at : ℕ → Part ℕ
count_at least c = word_at c >>= λ w. count_found least w.0 >>= λ a. Ok (a.0, marked a.1 w.1)

-- ---- words that stand for something
abbrev pub some_found : {T : Type 0} → Option T → Result T Bad
some_found (Some x) = Ok x
some_found None = Err bad

unfoldable pub operator_named : List ℕ → Option Operator
operator_named word = find (λ operator. bytes_eq (operator_word operator) word) all_operators

unfoldable pub operator_at : Part Operator
operator_at c = word_at c >>= λ w. some_found (operator_named w.0) >>= λ x. Ok (x, w.1)

unfoldable pub work_named : List ℕ → Option WorkWord
work_named word = find (λ work. bytes_eq (work_word work) word) all_works

unfoldable pub work_at : Part WorkWord
work_at c = word_at c >>= λ w. some_found (work_named w.0) >>= λ x. Ok (x, w.1)

unfoldable pub mode_named : List ℕ → Option Bool
mode_named word = if bytes_eq word (codes "stop") then Some true else (if bytes_eq word (codes "go") then Some false else None)

unfoldable pub mode_at : Part Bool
mode_at c = word_at c >>= λ w. some_found (mode_named w.0) >>= λ x. Ok (x, w.1)

unfoldable pub kind_named : List ℕ → Option Kind
kind_named word = find (λ kind. bytes_eq (kind_word kind) word) all_kinds

-- a parameter is cut at its first colon
abbrev pub param_cut : List ℕ → Option ℕ → Result Param Bad
param_cut word (Some colon) = name_found (take colon word) >>= λ name. some_found (kind_named (drop (colon + 1) word)) >>= λ kind. Ok
    (record { name = name; kind = kind })
param_cut word None = Err bad

unfoldable pub param_found : List ℕ → Result Param Bad
param_found word = param_cut word (position is_colon word)

-- ---- lists
-- the word behind a list
abbrev pub ends_list : Until → List ℕ → Bool
ends_list LineEnd word = false
ends_list Then word = bytes_eq word (codes "then")
ends_list With word = bytes_eq word (codes "with")
ends_list Else word = bytes_eq word (codes "else")

abbrev pub is_line_end : Until → Bool
is_line_end LineEnd = true
is_line_end _ = false

-- the next word of a list, none where the list is over
abbrev pub listed_from : Until → List (List ℕ) → Bool → Result (Option (List ℕ) × Cursor) Bad
listed_from until [] faulty = if is_line_end until then Ok (None, record { words = []; faulty = faulty }) else Err bad
listed_from until (word ∷ words) faulty = Ok (if ends_list until word then None else Some word, record { words = words; faulty = faulty })

unfoldable pub listed_at : Until → Part (Option (List ℕ))
listed_at until c = listed_from until c.words c.faulty

-- a list of items of one word each
unfoldable pub list_from : {T : Type 0} → (List ℕ → Result (T × Bool) Bad) → Until → List (List ℕ) → Bool → Result (List T × Cursor) Bad
list_from {T} item until [] faulty = if is_line_end until then Ok ([], record { words = []; faulty = faulty }) else Err bad
list_from {T} item until (word ∷ words) faulty = if ends_list until word then Ok ([], record { words = words; faulty = faulty }) else
    (item word >>= λ x. list_from item until words (x.1 || faulty) >>= λ rest. Ok (x.0 ∷ rest.0, rest.1))

abbrev pub list_at : {T : Type 0} → (List ℕ → Result (T × Bool) Bad) → Until → Part (List T)
list_at item until c = list_from item until c.words c.faulty

-- an item that is no number
abbrev pub plain : {T : Type 0} → (List ℕ → Result T Bad) → List ℕ → Result (T × Bool) Bad
plain item word = item word >>= λ x. Ok (x, false)

abbrev pub args_at : Until → Part (List Atom)
args_at until = list_at atom_found until

abbrev pub names_at : Until → Part (List (List ℕ))
names_at until = list_at (plain name_found) until

abbrev pub params_at : Part (List Param)
params_at = list_at (plain param_found) LineEnd

-- the end of a line behind `rest`
unfoldable pub raise_at : Part (Unit {0})
raise_at = mapped (λ t. tt) (both (exactly_at (codes "raise")) end_at)

-- arguments to the end of the line, or to `rest raise` there
unfoldable pub guard_args_from : List (List ℕ) → Bool → Result ((List Atom × GuardMode) × Cursor) Bad
guard_args_from [] faulty = Ok (([], guard.Drop), record { words = []; faulty = faulty })
guard_args_from (word ∷ words) faulty =
    if bytes_eq word (codes "rest") then (raise_at (record { words = words; faulty = faulty }) >>= λ u. Ok (([], guard.Raise), u.1))
    else (atom_found word >>= λ x. guard_args_from words (x.1 || faulty) >>= λ rest. Ok ((x.0 ∷ rest.0.0, rest.0.1), rest.1))

abbrev pub guard_args_at : Part (List Atom × GuardMode)
guard_args_at c = guard_args_from c.words c.faulty

-- not the empty list
abbrev pub some_of : {T : Type 0} → List T → Result (List T) Bad
some_of [] = Err bad
some_of (x ∷ xs) = Ok (x ∷ xs)

abbrev pub some_names_at : Until → Part (List (List ℕ))
some_names_at until c = names_at until c >>= λ names. some_of names.0 >>= λ some. Ok (some, names.1)

-- deferreds of a `choose` and their procedures, up to `with`
unfoldable pub choices_from : List (List ℕ) → Bool → Result (List Choice × Cursor) Bad
choices_from [] faulty = Err bad
choices_from (word ∷ []) faulty = if ends_list With word then Ok ([], record { words = []; faulty = faulty }) else Err bad
choices_from (word ∷ next ∷ words) faulty = if ends_list With word then Ok ([], record { words = next ∷ words; faulty = faulty }) else
    (name_found word >>= λ d. name_found next >>= λ proc. choices_from words faulty >>= λ rest. Ok
    (record { d = d; proc = proc } ∷ rest.0, rest.1))

abbrev pub choices_at : Part (List Choice)
choices_at c = choices_from c.words c.faulty

abbrev pub some_choices_at : Part (List Choice)
some_choices_at c = choices_at c >>= λ choices. some_of choices.0 >>= λ some. Ok (some, choices.1)
