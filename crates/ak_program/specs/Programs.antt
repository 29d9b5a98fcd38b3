-- Valid programs: each local is below the number of locals so far, of a kind that serves, and each call fits. What the grammar
-- says holds too: no prefix stands before a statement that binds, and lists and numbers lie in their ranges.
use Rattle.std.specs.Prelude.{◌≡◌, ℕ, ◌≤◌, Option, Some, None, List, [], ◌∷◌, ◌++◌, map, length, take, drop, slice_get, MatchOption}
use Rattle.std.specs.List.{AllByRecursion, AllZip, Any as AnyOf, range_with_len}
use Rattle.ak_script.specs.Kinds.{Serves}
use Rattle.ak_script.specs.Statements.{IsOneToEight, IsThrottleBound, IsPipeBound}
use Rattle.ak_script.specs.declared.script.Kind.{Kind}
use Rattle.ak_script.specs.declared.script.Kind.TheVariants as of_kind
use Rattle.ak_program.specs.declared.program.NumPrefix.{NumPrefix}
use Rattle.ak_program.specs.declared.program.NumPrefix.TheVariants.{If, Unless}
use Rattle.ak_program.specs.declared.program.NumParam.{NumParam}
use Rattle.ak_program.specs.declared.program.NumStatement.{NumStatement}
use Rattle.ak_program.specs.declared.program.NumProc.{NumProc}
use Rattle.ak_program.specs.declared.statement.NumAtom.{NumAtom}
use Rattle.ak_program.specs.declared.statement.NumAtom.TheVariants.{Literal, Local}
use Rattle.ak_program.specs.declared.statement.NumStmt.{NumStmt}
use Rattle.ak_program.specs.declared.statement.NumStmt.TheVariants.{Set, Print, Ivar, Fill, Offer, Upon, Bind, All, Any, Choose, Sched, Low, Yield, Never, After, Event, Abort, Tick, Monitor, Within, Detach, OnError, NextError, Raise, Send, Try, Throttle, Enqueue, ThrottleDone, Pipe, Write, Put, Read, Close, CloseRead, Flushed, Work, Helper, HelperWork, HelperDone, Ret}

-- a program: its procedures, the place of `main`, and that of `ask` where it serves requests
pub record NumProgram : Type 0 where
  pub procs : List NumProc
  pub main : ℕ
  pub ask : Option ℕ

-- a local that is used, and the kinds that serve there
pub record NumUse : Type 0 where
  pub place : ℕ
  pub wanted : List Kind

-- a procedure that is called, with so many numbers in front of the arguments
pub record NumCallee : Type 0 where
  pub place : ℕ
  pub front : ℕ
  pub args : List NumAtom

-- a local of one kind
abbrev pub local : ℕ → Kind → NumUse
local place kind = record { place = place; wanted = kind ∷ [] }

-- a number
abbrev pub number : NumAtom → List NumUse
number (Literal n) = []
number (Local place) = local place of_kind.Num ∷ []

-- what a procedure may return
abbrev pub returned : NumAtom → List NumUse
returned (Literal n) = []
returned (Local place) = record { place = place; wanted = of_kind.Num ∷ of_kind.Def ∷ [] } ∷ []

-- the locals that a statement uses, but for the arguments of its calls
abbrev pub num_uses : NumStmt → List NumUse
num_uses (Set x a op b) = number a ++ number b
num_uses (Print a) = number a
num_uses (Fill i a) = local i of_kind.Ivar ∷ number a
num_uses (Offer i a) = local i of_kind.Ivar ∷ number a
num_uses (Upon d proc args) = local d of_kind.Def ∷ []
num_uses (Bind r d proc args) = local d of_kind.Def ∷ []
num_uses (All r deferreds proc args) = map (λ d. local d of_kind.Def) deferreds
num_uses (Any r deferreds) = map (λ d. local d of_kind.Def) deferreds
num_uses (Choose r choices args) = map (λ choice. local choice.d of_kind.Def) choices
num_uses (After r n) = number n
num_uses (Event e r n) = number n
num_uses (Abort e) = local e of_kind.Event ∷ []
num_uses (Tick n) = number n
num_uses (Within m proc args) = local m of_kind.Mon ∷ []
num_uses (Detach m) = local m of_kind.Mon ∷ []
num_uses (OnError m proc args) = local m of_kind.Mon ∷ []
num_uses (NextError r m) = local m of_kind.Mon ∷ []
num_uses (Raise a) = number a
num_uses (Send m a) = local m of_kind.Mon ∷ number a
num_uses (Enqueue r t proc args) = local t of_kind.Thr ∷ []
num_uses (ThrottleDone r t) = local t of_kind.Thr ∷ []
num_uses (Write r p a) = local p of_kind.Pipe ∷ number a
num_uses (Put p a) = local p of_kind.Pipe ∷ number a
num_uses (Read r p proc args eof eof_args) = local p of_kind.Pipe ∷ []
num_uses (Close p) = local p of_kind.Pipe ∷ []
num_uses (CloseRead p) = local p of_kind.Pipe ∷ []
num_uses (Flushed r p) = local p of_kind.Pipe ∷ []
num_uses (Work r kind a) = number a
num_uses (HelperWork r h kind a) = local h of_kind.Helper ∷ number a
num_uses (HelperDone h) = local h of_kind.Helper ∷ []
num_uses (Ret a) = returned a
num_uses _ = []

-- the procedures that a statement calls
abbrev pub num_callees : NumStmt → List NumCallee
num_callees (Upon d proc args) = record { place = proc; front = 1; args = args } ∷ []
num_callees (Bind r d proc args) = record { place = proc; front = 1; args = args } ∷ []
num_callees (All r deferreds proc args) = record { place = proc; front = length deferreds; args = args } ∷ []
num_callees (Choose r choices args) = map (λ choice. record { place = choice.proc; front = 1; args = args }) choices
num_callees (Sched proc args) = record { place = proc; front = 0; args = args } ∷ []
num_callees (Low proc args) = record { place = proc; front = 0; args = args } ∷ []
num_callees (Within m proc args) = record { place = proc; front = 0; args = args } ∷ []
num_callees (OnError m proc args) = record { place = proc; front = 1; args = args } ∷ []
num_callees (Try r proc args catch catch_args mode) =
    record { place = proc; front = 0; args = args } ∷ record { place = catch; front = 1; args = catch_args } ∷ []
num_callees (Enqueue r t proc args) = record { place = proc; front = 0; args = args } ∷ []
num_callees (Read r p proc args eof eof_args) = record { place = proc; front = 1; args = args } ∷ record { place = eof; front = 0; args = eof_args } ∷ []
num_callees _ = []

-- a local that a statement binds
abbrev pub bound : ℕ → Kind → NumParam
bound place kind = record { name = place; kind = kind }

-- the locals that a statement binds
abbrev pub num_binds : NumStmt → List NumParam
num_binds (Set x a op b) = bound x of_kind.Num ∷ []
num_binds (Ivar i) = bound i of_kind.Ivar ∷ []
num_binds (Bind r d proc args) = bound r of_kind.Def ∷ []
num_binds (All r deferreds proc args) = bound r of_kind.Def ∷ []
num_binds (Any r deferreds) = bound r of_kind.Def ∷ []
num_binds (Choose r choices args) = bound r of_kind.Def ∷ []
num_binds (Yield r) = bound r of_kind.Def ∷ []
num_binds (Never r) = bound r of_kind.Def ∷ []
num_binds (After r n) = bound r of_kind.Def ∷ []
num_binds (Event e r n) = bound e of_kind.Event ∷ bound r of_kind.Def ∷ []
num_binds (Monitor m) = bound m of_kind.Mon ∷ []
num_binds (NextError r m) = bound r of_kind.Def ∷ []
num_binds (Try r proc args catch catch_args mode) = bound r of_kind.Def ∷ []
num_binds (Throttle t k stop) = bound t of_kind.Thr ∷ []
num_binds (Enqueue r t proc args) = bound r of_kind.Def ∷ []
num_binds (ThrottleDone r t) = bound r of_kind.Def ∷ []
num_binds (Pipe p b) = bound p of_kind.Pipe ∷ []
num_binds (Write r p a) = bound r of_kind.Def ∷ []
num_binds (Read r p proc args eof eof_args) = bound r of_kind.Def ∷ []
num_binds (Flushed r p) = bound r of_kind.Def ∷ []
num_binds (Work r kind a) = bound r of_kind.Def ∷ []
num_binds (Helper h x) = bound h of_kind.Helper ∷ bound x of_kind.Num ∷ []
num_binds (HelperWork r h kind a) = bound r of_kind.Def ∷ []
num_binds _ = []

-- a place of a local that is there, of a kind that serves
abbrev pub IsKnown : List Kind → NumUse → Type 0
IsKnown kinds used = MatchOption (slice_get kinds used.place) ⊥ (λ kind. AnyOf (Serves kind) used.wanted)

-- an argument is a number or a local, as the parameter wants it
abbrev pub IsPassed : List Kind → NumAtom → NumParam → Type 0
IsPassed kinds (Literal n) param = param.kind ≡ of_kind.Num
IsPassed kinds (Local place) param = IsKnown kinds (local place param.kind)

-- the parameters take the numbers in front and then the arguments, and no more
pub record Takes (kinds : List Kind) (params : List NumParam) (callee : NumCallee) : Type 0 where
  pub front : AllByRecursion (λ param. param.kind ≡ of_kind.Num) (take callee.front params)
  pub enough : callee.front ≤ length params
  pub args : AllZip (IsPassed kinds) callee.args (drop callee.front params)

-- a place of a procedure that is there, and takes what the call passes
abbrev pub IsCallable : List NumProc → List Kind → NumCallee → Type 0
IsCallable procs kinds callee = MatchOption (slice_get procs callee.place) ⊥ (λ proc. Takes kinds proc.params callee)

-- the locals that a prefix uses
abbrev pub prefix_uses : Option NumPrefix → List NumUse
prefix_uses None = []
prefix_uses (Some (If a)) = number a
prefix_uses (Some (Unless a)) = number a

-- a statement may stand behind a prefix where it binds no local
abbrev pub MayHavePrefix : Option NumPrefix → NumStmt → Type 0
MayHavePrefix None stmt = Unit {0}
MayHavePrefix (Some prefix) stmt = num_binds stmt ≡ []

-- one to 8 deferreds stand in a list of deferreds, and the numbers lie in their ranges
abbrev pub IsWithin : NumStmt → Type 0
IsWithin (All r deferreds proc args) = IsOneToEight (length deferreds)
IsWithin (Any r deferreds) = IsOneToEight (length deferreds)
IsWithin (Choose r choices args) = IsOneToEight (length choices)
IsWithin (Throttle t k stop) = IsThrottleBound k
IsWithin (Pipe p b) = IsPipeBound b
IsWithin _ = Unit {0}

-- at most 8 arguments stand in a call
abbrev pub HasFewArgs : NumCallee → Type 0
HasFewArgs callee = length callee.args ≤ 8

-- the locals are those at the next places
abbrev pub AreNext : ℕ → List NumParam → Type 0
AreNext next params = map (λ param. param.name) params ≡ range_with_len next (length params)

-- a statement behind the lines that bind locals of these kinds
pub record StatementIsSound (procs : List NumProc) (kinds : List Kind) (statement : NumStatement) : Type 0 where
  pub prefix : AllByRecursion (IsKnown kinds) (prefix_uses statement.prefix)
  pub uses : AllByRecursion (IsKnown kinds) (num_uses statement.stmt)
  pub calls : AllByRecursion (IsCallable procs kinds) (num_callees statement.stmt)
  pub binds : AreNext (length kinds) (num_binds statement.stmt)
  pub alone : MayHavePrefix statement.prefix statement.stmt
  pub within : IsWithin statement.stmt
  pub few : AllByRecursion HasFewArgs (num_callees statement.stmt)

-- each line uses what the lines before it bind
abbrev pub LinesAreSound : List NumProc → List Kind → List NumStatement → Type 0
LinesAreSound procs kinds [] = Unit {0}
LinesAreSound procs kinds (statement ∷ rest) = StatementIsSound procs kinds statement
    × LinesAreSound procs (kinds ++ map (λ param. param.kind) (num_binds statement.stmt)) rest

-- a procedure among those of the program
pub record ProcIsSound (procs : List NumProc) (proc : NumProc) : Type 0 where
  pub params : AreNext 0 proc.params
  pub lines : LinesAreSound procs (map (λ param. param.kind) proc.params) proc.body

-- a procedure has one parameter, which is a number
abbrev pub TakesOneNumber : NumProc → Type 0
TakesOneNumber proc = map (λ param. param.kind) proc.params ≡ of_kind.Num ∷ []

-- where `ask` has a place, it is there and takes one number
abbrev pub IsAsk : List NumProc → Option ℕ → Type 0
IsAsk procs None = Unit {0}
IsAsk procs (Some ask) = MatchOption (slice_get procs ask) ⊥ TakesOneNumber

-- `main` is there and has no parameters, `ask` takes one number where it is there, each procedure stands at its own place, and
-- all their lines are sound
pub record ProgramIsSound (procs : List NumProc) (main : ℕ) (ask : Option ℕ) : Type 0 where
  pub begins : MatchOption (slice_get procs main) ⊥ (λ proc. proc.params ≡ [])
  pub serves : IsAsk procs ask
  pub places : map (λ proc. proc.name) procs ≡ range_with_len 0 (length procs)
  pub each : AllByRecursion (ProcIsSound procs) procs
