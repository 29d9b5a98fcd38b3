-- The table of statements: the words of each, its lists, and the versions that have it.
use Rattle.std.specs.Prelude.{◌≡◌, ℕ, ◌≤◌, max, Bool, true, false, List, [], ◌∷◌, ◌++◌, map, length, pos, codes, FitsSigned, if◌then◌else◌}
use Rattle.std.specs.Int.{w64}
use Rattle.std.specs.List.{flat_map}
use Rattle.ak_text.specs.Numbers.{Writes}
use Rattle.ak_script.specs.declared.script.Param.{Param}
use Rattle.ak_script.specs.declared.statement.Atom.{Atom}
use Rattle.ak_script.specs.declared.statement.Atom.TheVariants.{Literal, Local}
use Rattle.ak_script.specs.declared.statement.Choice.{Choice}
use Rattle.ak_script.specs.declared.statement.GuardMode.{GuardMode}
use Rattle.ak_script.specs.declared.statement.GuardMode.TheVariants as guard
use Rattle.ak_script.specs.declared.statement.Stmt.{Stmt}
use Rattle.ak_script.specs.declared.statement.Stmt.TheVariants.{Set, Print, Ivar, Fill, Offer, Upon, Bind, All, Any, Choose, Sched, Low, Yield, Never, After, Event, Abort, Tick, Monitor, Within, Detach, OnError, NextError, Raise, Send, Try, Throttle, Enqueue, ThrottleDone, Pipe, Write, Put, Read, Close, CloseRead, Flushed, Work, Helper, HelperWork, HelperDone, Stop, Ret}
use Rattle.ak_syntax.specs.declared.version.Version.{Version}
use Rattle.ak_syntax.specs.declared.version.Version.TheVariants as version
use Rattle.ak_syntax.specs.Names.{is_name, kind_word, operator_word, work_word}

-- what one word of a line stands for
pub data Place : Type 0 where
  -- these very bytes
  Exactly : List ℕ → Place
  -- a name
  Named : List ℕ → Place
  -- a number, or the name of a local
  Valued : Atom → Place
  -- a number that is no value, from the least one to 1,000,000
  Counted : ℕ → ℕ → Place
  -- a name, a colon and a kind
  Typed : Param → Place

-- the word stands for that
abbrev pub Stands : Place → List ℕ → Type 0
Stands (Exactly bytes) word = word ≡ bytes
Stands (Named name) word = (word ≡ name) × (is_name name ≡ true)
Stands (Valued (Literal number)) word = FitsSigned w64 number × Writes word number
Stands (Valued (Local name)) word = (word ≡ name) × (is_name name ≡ true)
Stands (Counted least number) word = (least ≤ number) × (number ≤ 1000000) × Writes word (pos number)
Stands (Typed param) word = (word ≡ param.name ++ 58 ∷ kind_word param.kind) × (is_name param.name ≡ true)

-- a deferred of a `choose` and its procedure
abbrev pub choice_places : Choice → List Place
choice_places choice = Named choice.d ∷ Named choice.proc ∷ []

-- the last words of a `try`, by what becomes of its later errors
abbrev pub mode_places : GuardMode → List Place
mode_places guard.Drop = []
mode_places guard.Raise = Exactly (codes "rest") ∷ Exactly (codes "raise") ∷ []

-- the words of a statement
abbrev pub row : Stmt → List Place
row (Set x a op b) = Exactly (codes "set") ∷ Named x ∷ Valued a ∷ Exactly (operator_word op) ∷ Valued b ∷ []
row (Print a) = Exactly (codes "print") ∷ Valued a ∷ []
row (Ivar i) = Exactly (codes "ivar") ∷ Named i ∷ []
row (Fill i a) = Exactly (codes "fill") ∷ Named i ∷ Valued a ∷ []
row (Offer i a) = Exactly (codes "offer") ∷ Named i ∷ Valued a ∷ []
row (Upon d proc args) = Exactly (codes "upon") ∷ Named d ∷ Named proc ∷ map Valued args
row (Bind r d proc args) = Exactly (codes "bind") ∷ Named r ∷ Named d ∷ Named proc ∷ map Valued args
row (All r deferreds proc args) = Exactly (codes "all") ∷ Named r ∷ (map Named deferreds ++ Exactly (codes "then") ∷ Named proc ∷ map Valued args)
row (Any r deferreds) = Exactly (codes "any") ∷ Named r ∷ map Named deferreds
row (Choose r choices args) = Exactly (codes "choose") ∷ Named r ∷ (flat_map choice_places choices ++ Exactly (codes "with") ∷ map Valued args)
row (Sched proc args) = Exactly (codes "sched") ∷ Named proc ∷ map Valued args
row (Low proc args) = Exactly (codes "low") ∷ Named proc ∷ map Valued args
row (Yield r) = Exactly (codes "yield") ∷ Named r ∷ []
row (Never r) = Exactly (codes "never") ∷ Named r ∷ []
row (After r n) = Exactly (codes "after") ∷ Named r ∷ Valued n ∷ []
row (Event e r n) = Exactly (codes "event") ∷ Named e ∷ Named r ∷ Valued n ∷ []
row (Abort e) = Exactly (codes "abort") ∷ Named e ∷ []
row (Tick n) = Exactly (codes "tick") ∷ Valued n ∷ []
row (Monitor m) = Exactly (codes "monitor") ∷ Named m ∷ []
row (Within m proc args) = Exactly (codes "within") ∷ Named m ∷ Named proc ∷ map Valued args
row (Detach m) = Exactly (codes "detach") ∷ Named m ∷ []
row (OnError m proc args) = Exactly (codes "onerror") ∷ Named m ∷ Named proc ∷ map Valued args
row (NextError r m) = Exactly (codes "nexterr") ∷ Named r ∷ Named m ∷ []
row (Raise a) = Exactly (codes "raise") ∷ Valued a ∷ []
row (Send m a) = Exactly (codes "send") ∷ Named m ∷ Valued a ∷ []
row (Try r proc args catch catch_args mode) =
    Exactly (codes "try") ∷ Named r ∷ Named proc
    ∷ (map Valued args ++ Exactly (codes "else") ∷ Named catch ∷ (map Valued catch_args ++ mode_places mode))
row (Throttle t k stop) = Exactly (codes "throttle") ∷ Named t ∷ Counted 1 k ∷ Exactly (if stop then codes "stop" else codes "go") ∷ []
row (Enqueue r t proc args) = Exactly (codes "enqueue") ∷ Named r ∷ Named t ∷ Named proc ∷ map Valued args
row (ThrottleDone r t) = Exactly (codes "tdone") ∷ Named r ∷ Named t ∷ []
row (Pipe p b) = Exactly (codes "pipe") ∷ Named p ∷ Counted 0 b ∷ []
row (Write r p a) = Exactly (codes "write") ∷ Named r ∷ Named p ∷ Valued a ∷ []
row (Put p a) = Exactly (codes "put") ∷ Named p ∷ Valued a ∷ []
row (Read r p proc args eof eof_args) =
    Exactly (codes "rd") ∷ Named r ∷ Named p ∷ Named proc ∷ (map Valued args ++ Exactly (codes "else") ∷ Named eof ∷ map Valued eof_args)
row (Close p) = Exactly (codes "close") ∷ Named p ∷ []
row (CloseRead p) = Exactly (codes "closeread") ∷ Named p ∷ []
row (Flushed r p) = Exactly (codes "flushed") ∷ Named r ∷ Named p ∷ []
row (Work r kind a) = Exactly (codes "work") ∷ Named r ∷ Exactly (work_word kind) ∷ Valued a ∷ []
row (Helper h x) = Exactly (codes "helper") ∷ Named h ∷ Named x ∷ []
row (HelperWork r h kind a) = Exactly (codes "hwork") ∷ Named r ∷ Named h ∷ Exactly (work_word kind) ∷ Valued a ∷ []
row (HelperDone h) = Exactly (codes "hdone") ∷ Named h ∷ []
row Stop = Exactly (codes "stop") ∷ []
row (Ret a) = Exactly (codes "ret") ∷ Valued a ∷ []

-- the lists of deferreds, of which none is empty
abbrev pub HasDeferreds : Stmt → Type 0
HasDeferreds (All r deferreds proc args) = 1 ≤ length deferreds
HasDeferreds (Any r deferreds) = 1 ≤ length deferreds
HasDeferreds (Choose r choices args) = 1 ≤ length choices
HasDeferreds _ = Unit {0}

-- the length of the longest list of a statement
abbrev pub longest_list : Stmt → ℕ
longest_list (Upon d proc args) = length args
longest_list (Bind r d proc args) = length args
longest_list (All r deferreds proc args) = max (length deferreds) (length args)
longest_list (Any r deferreds) = length deferreds
longest_list (Choose r choices args) = max (length choices) (length args)
longest_list (Sched proc args) = length args
longest_list (Low proc args) = length args
longest_list (Within m proc args) = length args
longest_list (OnError m proc args) = length args
longest_list (Try r proc args catch catch_args mode) = max (length args) (length catch_args)
longest_list (Enqueue r t proc args) = length args
longest_list (Read r p proc args eof eof_args) = max (length args) (length eof_args)
longest_list _ = 0

-- only version 2 has a `try` whose later errors go up
abbrev pub has_mode : Version → GuardMode → Bool
has_mode version.One guard.Raise = false
has_mode v mode = true

-- whether a version of the language has a statement
abbrev pub is_in : Version → Stmt → Bool
is_in v (Try r proc args catch catch_args mode) = has_mode v mode
is_in v _ = true
