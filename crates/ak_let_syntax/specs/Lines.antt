-- How the reader takes the lines of a source, one after the other.
use Rattle.std.specs.Prelude.{◌≡◌, ℕ, ◌+◌, ◌≤◌, Bool, true, ◌||◌, nat_le, nat_lt, Option, Some, None, is_some, Result, Ok, Err, List, [], ◌∷◌, ◌++◌, length, codes, if◌then◌else◌}
use Rattle.std.specs.Result.{is_ok}
use Rattle.std.specs.Str.{bytes_eq}
use Rattle.ak_text.specs.Lines.{TextLine}
use Rattle.ak_script.specs.declared.statement.Atom.{Atom}
use Rattle.ak_script.specs.declared.statement.Operator.{Operator}
use Rattle.ak_syntax.specs.declared.cursor.Until.TheVariants.{LineEnd, Else}
use Rattle.ak_syntax.specs.declared.refusal.Fault.{Fault}
use Rattle.ak_syntax.specs.declared.refusal.Fault.TheVariants as fault
use Rattle.ak_syntax.specs.Rows.{one_name_at, one_atom_at, work_atom_at}
use Rattle.ak_syntax.specs.Words.{Bad, bad, ◌>>=◌, Part, both, mapped, word_at, end_at, exactly_at, name_found, name_at, atom_at, some_found, operator_named, args_at, names_at, listed_at}
use Rattle.ak_let_syntax.specs.declared.named.NamedStmt.{NamedStmt}
use Rattle.ak_let_syntax.specs.declared.named.NamedStmt.TheVariants.{Let, Compute, Print, Raise, Return, Await, AwaitWork, Try}
use Rattle.ak_let_syntax.specs.declared.named.NamedLine.{NamedLine}
use Rattle.ak_let_syntax.specs.declared.named.NamedFun.{NamedFun}
use Rattle.ak_let_syntax.specs.declared.named.Form.{Form}
use Rattle.ak_let_syntax.specs.declared.named.Form.TheVariants.{Head, Body, End}
use Rattle.ak_let_syntax.specs.declared.refusal.LetFault.{LetFault}
use Rattle.ak_let_syntax.specs.declared.refusal.LetFault.TheVariants.{BadLine, TooMany, BadNumber}
use Rattle.ak_let_syntax.specs.declared.refusal.LetRefused.{LetRefused}
use Rattle.ak_let_syntax.specs.declared.refusal.LetRefused.TheVariants as let_refused
use Rattle.ak_let_syntax.specs.declared.refusal.LineRefused.{LineRefused}
use Rattle.ak_let_syntax.specs.declared.refusal.LineRefused.TheVariants as refused
use Rattle.ak_let_syntax.specs.Faults.{Front, kind_number}
use Rattle.ak_let_syntax.specs.Grammar.{binds, locals, is_work, names_work}
use Rattle.ak_syntax.specs.Takings.{Taking, line_taken, scanned}

-- ---- the lines of a function
-- the local that a line binds, and its `=`
unfoldable pub bound_at : Part (List ℕ)
bound_at c = name_at c >>= λ x. exactly_at (codes "=") x.1 >>= λ u. Ok (x.0, u.1)

-- behind an atom: an operator and another atom, or the end of the line
abbrev pub operation_from : Option (List ℕ) → Part (Option (Operator × Atom))
operation_from None c = Ok (None, c)
operation_from (Some word) c = some_found (operator_named word) >>= λ op. one_atom_at c >>= λ a. Ok (Some (op, a.0), a.1)

unfoldable pub operation_at : Part (Option (Operator × Atom))
operation_at c = listed_at LineEnd c >>= λ w. operation_from w.0 w.1

abbrev pub let_of : List ℕ → Atom → Option (Operator × Atom) → NamedStmt
let_of x a None = Let x a
let_of x a (Some t) = Compute x a t.0 t.1

unfoldable pub let_at : Part NamedStmt
let_at = mapped (λ t. let_of t.0 t.1.0 t.1.1) (both bound_at (both atom_at operation_at))

-- behind `await x =`: a work, or a function and its arguments
unfoldable pub awaited_from : List ℕ → List ℕ → Part NamedStmt
awaited_from x word c =
    if is_work word then (work_atom_at c >>= λ t. Ok (AwaitWork x t.0.0 t.0.1, t.1))
    else (name_found word >>= λ f. args_at LineEnd c >>= λ args. Ok (Await x f args.0, args.1))

unfoldable pub await_at : Part NamedStmt
await_at c = bound_at c >>= λ x. word_at x.1 >>= λ w. awaited_from x.0 w.0 w.1

unfoldable pub try_at : Part NamedStmt
try_at = mapped (λ t. Try t.0 t.1.0 t.1.1.0 t.1.1.1) (both bound_at (both name_at (both (args_at Else) one_name_at)))

-- what may stand behind a condition, by its first word
unfoldable pub action_from : Option Atom → List ℕ → Part NamedStmt
action_from when word =
    if bytes_eq word (codes "print") then mapped (λ a. Print when a) one_atom_at
    else if bytes_eq word (codes "raise") then mapped (λ a. Raise when a) one_atom_at
    else if bytes_eq word (codes "return") then mapped (λ a. Return when a) one_atom_at
    else (λ c. Err bad)

unfoldable pub when_at : Part NamedStmt
when_at c = atom_at c >>= λ a. word_at a.1 >>= λ w. action_from (Some a.0) w.0 w.1

-- the line that begins with the word
unfoldable pub stmt_from : List ℕ → Part NamedStmt
stmt_from word =
    if bytes_eq word (codes "let") then let_at
    else if bytes_eq word (codes "await") then await_at
    else if bytes_eq word (codes "try") then try_at
    else if bytes_eq word (codes "when") then when_at
    else action_from None word

-- ---- one line
unfoldable pub head_at : ℕ → Part Form
head_at number = mapped (λ t. Head t.0 number t.1) (both name_at (names_at LineEnd))

unfoldable pub end_form_at : Part Form
end_form_at = mapped (λ t. End) end_at

unfoldable pub body_from : ℕ → List ℕ → Part Form
body_from number word = mapped (λ s. Body (record { number = number; stmt = s })) (stmt_from word)

-- the form that begins with the word, whatever its names
unfoldable pub any_form_from : ℕ → List ℕ → Part Form
any_form_from number word =
    if bytes_eq word (codes "fun") then head_at number
    else if bytes_eq word (codes "end") then end_form_at
    else body_from number word

unfoldable pub form_from : ℕ → List ℕ → Part Form
form_from number word c = any_form_from number word c >>= λ f. if names_work f.0 then Err bad else Ok f

-- ---- a line behind others
abbrev pub head_added : Front → NamedFun → Result Front LetFault
head_added front fun =
    if nat_lt 7 (length fun.params) || nat_le 128 (length front.funs) then Err TooMany
    else Ok (record front { begun = Some fun })

abbrev pub line_exceeds : NamedFun → NamedLine → Bool
line_exceeds fun line = nat_le 15 (length fun.lines) || nat_lt 7 (length (locals fun) + length (binds line.stmt))

-- the function with one more line
abbrev pub grown : NamedFun → NamedLine → NamedFun
grown fun line = record fun { lines = fun.lines ++ line ∷ [] }

abbrev pub line_added : Front → NamedFun → NamedLine → Bool → Result Front LetFault
line_added front fun line faulty =
    if line_exceeds fun line then Err TooMany
    else (if faulty then Err BadNumber else Ok (record front { begun = Some (grown fun line) }))

abbrev pub end_added : Front → NamedFun → Result Front LetFault
end_added front fun = Ok (record { funs = front.funs ++ fun ∷ []; begun = None })

-- `fun` comes outside of a function, a line of its own and `end` inside
abbrev pub begun_head : Option NamedFun → Front → NamedFun → Result Front LetFault
begun_head None front fun = head_added front fun
begun_head (Some begun) front fun = Err BadLine

abbrev pub begun_line : Option NamedFun → Front → NamedLine → Bool → Result Front LetFault
begun_line None front line faulty = Err BadLine
begun_line (Some fun) front line faulty = line_added front fun line faulty

abbrev pub begun_end : Option NamedFun → Front → Result Front LetFault
begun_end None front = Err BadLine
begun_end (Some fun) front = end_added front fun

abbrev pub form_added : Front → Form → Bool → Result Front LetFault
form_added front (Head name number params) faulty =
    begun_head front.begun front (record { name = name; number = number; params = params; lines = [] })
form_added front (Body line) faulty = begun_line front.begun front line faulty
form_added front End faulty = begun_end front.begun front

unfoldable pub added : Front → Form → Bool → Result Front LetFault
added front form faulty = form_added front form faulty

-- ---- all lines
abbrev pub taking : Taking Front Form LetFault
taking = record { form_from = form_from; added = added; is_open = λ front. is_some front.begun; bad_line = BadLine }

unfoldable pub taken : Front → TextLine → Result Front LetFault
taken front line = line_taken taking front line

abbrev pub no_lines : Front
no_lines = record { funs = []; begun = None }

-- ---- answers
-- what ak_syntax answers of a part of a line, as an answer of a line
abbrev pub line_refused : Fault → LineRefused
line_refused (fault.Grammar kind) = refused.Line BadLine
line_refused fault.NoMemory = refused.NoMemory

-- a refusal for that reason, or want of memory
abbrev pub Refuses : {Y : Type 0} → LineRefused → Result Y LetFault → Type 0
Refuses (refused.Line kind) found = found ≡ Err kind
Refuses refused.NoMemory found = Unit {0}

-- what was answered is what the front has become
abbrev pub Becomes : Result (Unit {0}) LineRefused → Front → Result Front LetFault → Type 0
Becomes (Ok done) now found = found ≡ Ok now
Becomes (Err e) now found = Refuses e found

-- the number of locals with the line, and that it may come next
abbrev pub IsRoom : ℕ → Result Front LetFault → Option NamedFun → NamedStmt → Type 0
IsRoom count next None stmt = ⊥
IsRoom count next (Some fun) stmt =
    (count ≡ length (locals fun) + length (binds stmt)) × (count ≤ 7) × (is_ok next ≡ true)

abbrev pub HasRoom : Result ℕ LineRefused → Result Front LetFault → Option NamedFun → NamedStmt → Type 0
HasRoom (Ok count) next begun stmt = IsRoom count next begun stmt
HasRoom (Err e) next begun stmt = Refuses e next

-- the refusal of a line
abbrev pub refused_at : ℕ → LineRefused → LetRefused
refused_at line (refused.Line kind) = let_refused.At line (kind_number kind)
refused_at line refused.NoMemory = let_refused.NoMemory

-- the answer is what was scanned, or want of memory
abbrev pub Tells : Result (List NamedFun) LetRefused → Result Front (ℕ × LetFault) → Type 0
Tells (Ok funs) found = found ≡ Ok (record { funs = funs; begun = None })
Tells (Err (let_refused.At line number)) found = (kind : LetFault) × (number ≡ kind_number kind) × (found ≡ Err (line, kind))
Tells (Err let_refused.NoMemory) found = Unit {0}
