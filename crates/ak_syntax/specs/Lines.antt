-- How the reader takes the lines of a script, one after the other.
use Rattle.std.specs.Prelude.{◌≡◌, ℕ, ◌+◌, ◌≤◌, Bool, true, ◌||◌, ◌==◌, nat_le, nat_lt, Option, Some, None, is_some, Result, Ok, Err, List, [], ◌∷◌, ◌++◌, length, codes, if◌then◌else◌}
use Rattle.std.specs.Result.{is_ok}
use Rattle.std.specs.Str.{bytes_eq}
use Rattle.ak_text.specs.Lines.{TextLine}
use Rattle.ak_script.specs.declared.script.Prefix.{Prefix}
use Rattle.ak_script.specs.declared.script.Prefix.TheVariants.{If, Unless}
use Rattle.ak_script.specs.declared.script.Statement.{Statement}
use Rattle.ak_script.specs.declared.script.Proc.{Proc}
use Rattle.ak_script.specs.declared.statement.Stmt.{Stmt}
use Rattle.ak_syntax.specs.declared.line_form.Form.{Form}
use Rattle.ak_syntax.specs.declared.line_form.Form.TheVariants.{Async, Head, Body, End}
use Rattle.ak_syntax.specs.declared.refusal.Fault.{Fault}
use Rattle.ak_syntax.specs.declared.refusal.Fault.TheVariants.{Grammar, NoMemory}
use Rattle.ak_syntax.specs.declared.refusal.GrammarKind.{GrammarKind}
use Rattle.ak_syntax.specs.declared.refusal.GrammarKind.TheVariants.{BadLine, TooMany, BadNumber}
use Rattle.ak_syntax.specs.declared.refusal.ParseRefused.{ParseRefused}
use Rattle.ak_syntax.specs.declared.refusal.ParseRefused.TheVariants as parse
use Rattle.ak_syntax.specs.declared.version.Version.{Version}
use Rattle.ak_syntax.specs.declared.version.Version.TheVariants as version
use Rattle.ak_script.specs.Statements.{binds}
use Rattle.ak_syntax.specs.Table.{longest_list, is_in}
use Rattle.ak_syntax.specs.Grammar.{locals}
use Rattle.ak_syntax.specs.Faults.{Front, kind_number}
use Rattle.ak_syntax.specs.Rows.{statement_at}
use Rattle.ak_syntax.specs.Takings.{Taking, line_taken}
use Rattle.ak_syntax.specs.Words.{bad, ◌>>=◌, Part, both, mapped, end_at, word_at, exactly_at, name_at, atom_at, params_at}

-- ---- one line
unfoldable pub head_at : ℕ → Part Form
head_at number = mapped (λ t. Head t.0 number t.1) (both name_at params_at)

unfoldable pub async_at : Part Form
async_at = mapped (λ t. Async) (both (exactly_at (codes "2")) end_at)

unfoldable pub end_form_at : Part Form
end_form_at = mapped (λ t. End) end_at

-- a statement that binds no name
unfoldable pub conditional_at : ℕ → Prefix → Part Form
conditional_at number prefix c = word_at c >>= λ w. statement_at w.0 w.1 >>= λ s. if length (binds s.0)
    == 0 then Ok (Body (record { line = number; prefix = Some prefix; stmt = s.0 }), s.1) else Err bad

unfoldable pub if_at : ℕ → Part Form
if_at number c = atom_at c >>= λ a. conditional_at number (If a.0) a.1

unfoldable pub unless_at : ℕ → Part Form
unless_at number c = atom_at c >>= λ a. conditional_at number (Unless a.0) a.1

unfoldable pub plain_at : ℕ → List ℕ → Part Form
plain_at number word c = statement_at word c >>= λ s. Ok (Body (record { line = number; prefix = None; stmt = s.0 }), s.1)

-- the form that begins with the word
unfoldable pub form_from : ℕ → List ℕ → Part Form
form_from number word =
    if bytes_eq word (codes "proc") then head_at number
    else if bytes_eq word (codes "end") then end_form_at
    else if bytes_eq word (codes "if") then if_at number
    else if bytes_eq word (codes "unless") then unless_at number
    else if bytes_eq word (codes "async") then async_at
    else plain_at number word

-- ---- a line behind others
abbrev pub head_added : Front → Proc → Result Front GrammarKind
head_added front proc = if nat_lt 8 (length proc.params) || nat_le 4096 (length front.procs) then Err TooMany else Ok (record front { begun = Some proc })

abbrev pub statement_exceeds : Proc → Statement → Bool
statement_exceeds proc statement =
    nat_lt 8 (longest_list statement.stmt)
    || (nat_le 64 (length proc.body) || nat_lt 64 (length (locals proc) + length (binds statement.stmt)))

-- the procedure with one more statement
abbrev pub grown : Proc → Statement → Proc
grown proc statement = record proc { body = proc.body ++ statement ∷ [] }

abbrev pub statement_added : Front → Proc → Statement → Bool → Result Front GrammarKind
statement_added front proc statement faulty =
    if statement_exceeds proc statement then Err TooMany else
    (if faulty then Err BadNumber else Ok (record front { begun = Some (grown proc statement) }))

abbrev pub end_added : Front → Proc → Result Front GrammarKind
end_added front proc = Ok (record front { procs = front.procs ++ proc ∷ []; begun = None })

-- the line of the version comes first
abbrev pub async_added : Version → List Proc → Option Proc → Result Front GrammarKind
async_added version.One [] None = Ok (record { of_version = version.Two; procs = []; begun = None })
async_added v procs begun = Err BadLine

-- `proc` comes outside of a procedure, a statement and `end` inside
abbrev pub begun_head : Option Proc → Front → Proc → Result Front GrammarKind
begun_head None front proc = head_added front proc
begun_head (Some begun) front proc = Err BadLine

abbrev pub begun_statement : Option Proc → Front → Statement → Bool → Result Front GrammarKind
begun_statement None front statement faulty = Err BadLine
begun_statement (Some proc) front statement faulty = if is_in front.of_version statement.stmt then statement_added front proc statement faulty else Err BadLine

abbrev pub begun_end : Option Proc → Front → Result Front GrammarKind
begun_end None front = Err BadLine
begun_end (Some proc) front = end_added front proc

abbrev pub form_added : Front → Form → Bool → Result Front GrammarKind
form_added front Async faulty = async_added front.of_version front.procs front.begun
form_added front (Head name line params) faulty = begun_head front.begun front (record { name = name; line = line; params = params; body = [] })
form_added front (Body statement) faulty = begun_statement front.begun front statement faulty
form_added front End faulty = begun_end front.begun front

unfoldable pub added : Front → Form → Bool → Result Front GrammarKind
added front form faulty = form_added front form faulty

-- ---- all lines
abbrev pub taking : Taking Front Form GrammarKind
taking = record { form_from = form_from; added = added; is_open = λ front. is_some front.begun; bad_line = BadLine }

unfoldable pub taken : Front → TextLine → Result Front GrammarKind
taken front line = line_taken taking front line

abbrev pub no_lines : Front
no_lines = record { of_version = version.One; procs = []; begun = None }

-- ---- answers
-- a refusal for that reason, or want of memory
abbrev pub Refuses : {Y : Type 0} → Fault → Result Y GrammarKind → Type 0
Refuses (Grammar kind) found = found ≡ Err kind
Refuses NoMemory found = Unit {0}

-- what was answered is what the front has become
abbrev pub Becomes : Result (Unit {0}) Fault → Front → Result Front GrammarKind → Type 0
Becomes (Ok done) now found = found ≡ Ok now
Becomes (Err e) now found = Refuses e found

-- the number of locals with the statement, and that it may come next
abbrev pub IsRoom : ℕ → Result Front GrammarKind → Option Proc → Stmt → Type 0
IsRoom count next None stmt = ⊥
IsRoom count next (Some proc) stmt = (count ≡ length (locals proc) + length (binds stmt)) × (count ≤ 64) × (is_ok next ≡ true)

abbrev pub HasRoom : Result ℕ Fault → Result Front GrammarKind → Option Proc → Stmt → Type 0
HasRoom (Ok count) next begun stmt = IsRoom count next begun stmt
HasRoom (Err e) next begun stmt = Refuses e next

-- the refusal of a line
abbrev pub refused_of : ℕ → Fault → ParseRefused
refused_of line (Grammar kind) = parse.At line (kind_number kind)
refused_of line NoMemory = parse.NoMemory

-- the answer is what was scanned, or want of memory
abbrev pub Tells : Result (List Proc) ParseRefused → Result Front (ℕ × GrammarKind) → Type 0
Tells (Ok script) found = (v : Version) × (found ≡ Ok (record { of_version = v; procs = script; begun = None }))
Tells (Err (parse.At line kind)) found = (k : GrammarKind) × (kind ≡ kind_number k) × (found ≡ Err (line, k))
Tells (Err parse.NoMemory) found = Unit {0}
