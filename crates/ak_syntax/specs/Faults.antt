-- What is wrong with a text that is no script: the first line with a fault, and the least kind of its faults.
use Rattle.std.specs.Prelude.{◌≡◌, ℕ, ◌+◌, ◌<◌, ◌≤◌, true, ◌⊎◌, Option, Some, None, is_some, IsSomeAnd, List, [], ◌∷◌, ◌++◌, map, length}
use Rattle.std.specs.List.{AllZip, AllByRecursion}
use Rattle.ak_text.specs.Lines.{TextLine}
use Rattle.ak_script.specs.declared.script.Proc.{Proc}
use Rattle.ak_syntax.specs.declared.line_form.Form.{Form}
use Rattle.ak_syntax.specs.declared.line_form.Form.TheVariants.{Async, Head, Body, End}
use Rattle.ak_syntax.specs.declared.refusal.GrammarKind.{GrammarKind}
use Rattle.ak_syntax.specs.declared.refusal.GrammarKind.TheVariants.{BadLine, TooLong, TooMany, BadNumber}
use Rattle.ak_syntax.specs.declared.version.Version.{Version}
use Rattle.ak_syntax.specs.declared.version.Version.TheVariants as version
use Rattle.ak_script.specs.Statements.{binds, MayHavePrefix}
use Rattle.ak_syntax.specs.Rules.{Rules, FirstFault}
use Rattle.ak_syntax.specs.Table.{HasDeferreds, longest_list, is_in}
use Rattle.ak_syntax.specs.Grammar.{places, HasNumber, IsLine, version_forms, forms, ProcIsWithin, locals}

-- the number of a kind
abbrev pub kind_number : GrammarKind → ℕ
kind_number BadLine = 1
kind_number TooLong = 2
kind_number TooMany = 3
kind_number BadNumber = 4

-- ---- the shape of a line
-- a prefix stands before no statement that binds, and no list of deferreds is empty
abbrev pub IsShaped : Form → Type 0
IsShaped (Body statement) = MayHavePrefix statement.prefix statement.stmt × HasDeferreds statement.stmt
IsShaped _ = Unit {0}

-- ---- the lines before
-- the first lines of a script: that of its version, whole procedures, and those of one whose `end` has not come
pub record Front : Type 0 where
  pub of_version : Version
  pub procs : List Proc
  pub begun : Option Proc

abbrev pub begun_forms : Option Proc → List Form
begun_forms None = []
begun_forms (Some proc) = Head proc.name proc.line proc.params ∷ map Body proc.body

abbrev pub front_forms : Front → List Form
front_forms front = version_forms front.of_version ++ (forms front.procs ++ begun_forms front.begun)

abbrev pub begun_procs : Option Proc → List Proc
begun_procs None = []
begun_procs (Some proc) = proc ∷ []

-- the procedures, the last of which may have no `end` yet
abbrev pub all_procs : Front → List Proc
all_procs front = front.procs ++ begun_procs front.begun

-- the lines are those first lines, and all is right so far
pub record IsFront (front : Front) (before : List TextLine) : Type 0 where
  pub lines : AllZip IsLine (front_forms front) before
  pub procs : length (all_procs front) ≤ 4096
  pub each : AllByRecursion (ProcIsWithin front.of_version) (all_procs front)

-- ---- the fault of a line behind right ones
-- no line stands before
abbrev pub IsEmpty : Version → List Proc → Option Proc → Type 0
IsEmpty version.One [] None = Unit {0}
IsEmpty v procs begun = ⊥

-- `proc` comes outside of a procedure, a statement that the version has and `end` inside
abbrev pub MayStand : Version → Option Proc → Form → Type 0
MayStand v None (Head name line params) = Unit {0}
MayStand v (Some proc) (Body statement) = is_in v statement.stmt ≡ true
MayStand v (Some proc) End = Unit {0}
MayStand v begun form = ⊥

-- the line of the version comes first
abbrev pub MayFollow : Front → Form → Type 0
MayFollow front Async = IsEmpty front.of_version front.procs front.begun
MayFollow front form = MayStand front.of_version front.begun form

-- a list of a statement, or what the procedure has with it, is over its limit
abbrev pub StatementExceeds : Proc → Form → Type 0
StatementExceeds proc (Body statement) =
    (8 < longest_list statement.stmt) ⊎ ((64 < length proc.body + 1) ⊎ (64 < length (locals proc) + length (binds statement.stmt)))
StatementExceeds proc _ = ⊥

-- with the line a count is over its limit
abbrev pub Exceeds : Front → Form → Type 0
Exceeds front (Head name line params) = (8 < length params) ⊎ (4096 < length front.procs + 1)
Exceeds front form = IsSomeAnd front.begun (λ proc. StatementExceeds proc form)

-- ---- the first line with a fault
abbrev pub rules : Rules Front Form GrammarKind
rules =
    record {
      places = places;
      HasNumber = HasNumber;
      IsShaped = IsShaped;
      IsFront = IsFront;
      is_open = λ front. is_some front.begun;
      MayFollow = MayFollow;
      Exceeds = Exceeds;
      bad_line = BadLine;
      too_many = TooMany;
      bad_number = BadNumber;
    }

-- the text has too many bytes, which comes before all else
pub record IsTooLong (bytes : List ℕ) (number : ℕ) (kind : GrammarKind) : Type 0 where
  pub size : 1048576 < length bytes
  pub at : number ≡ 0
  pub is_long : kind ≡ TooLong

-- the fault of the bytes: where, and of what kind
abbrev pub GrammarFault : List ℕ → ℕ → GrammarKind → Type 0
GrammarFault bytes number kind = IsTooLong bytes number kind ⊎ ((length bytes ≤ 1048576) × FirstFault rules bytes number kind)
