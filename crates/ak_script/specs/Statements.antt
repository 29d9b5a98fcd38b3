-- What the grammar says of a statement, whatever words it is written in: the names that it binds, where a prefix may stand, and
-- the ranges of its lists and numbers.
use Rattle.std.specs.Prelude.{◌≡◌, ℕ, ◌≤◌, Option, Some, None, List, [], ◌∷◌, length}
use Rattle.std.specs.List.{AllByRecursion}
use Rattle.ak_script.specs.declared.script.Kind.{Kind}
use Rattle.ak_script.specs.declared.script.Kind.TheVariants as of_kind
use Rattle.ak_script.specs.declared.script.Param.{Param}
use Rattle.ak_script.specs.declared.script.Prefix.{Prefix}
use Rattle.ak_script.specs.declared.script.Statement.{Statement}
use Rattle.ak_script.specs.declared.script.Proc.{Proc}
use Rattle.ak_script.specs.declared.statement.Stmt.{Stmt}
use Rattle.ak_script.specs.declared.statement.Stmt.TheVariants.{Set, Ivar, Upon, Bind, All, Any, Choose, Sched, Low, Yield, Never, After, Event, Monitor, Within, OnError, NextError, Try, Throttle, Enqueue, ThrottleDone, Pipe, Write, Read, Flushed, Work, Helper, HelperWork}

-- a name that a statement binds, with its kind
abbrev pub bound : List ℕ → Kind → Param
bound name kind = record { name = name; kind = kind }

-- the names that a statement binds, in the order of its words
abbrev pub binds : Stmt → List Param
binds (Set x a op b) = bound x of_kind.Num ∷ []
binds (Ivar i) = bound i of_kind.Ivar ∷ []
binds (Bind r d proc args) = bound r of_kind.Def ∷ []
binds (All r deferreds proc args) = bound r of_kind.Def ∷ []
binds (Any r deferreds) = bound r of_kind.Def ∷ []
binds (Choose r choices args) = bound r of_kind.Def ∷ []
binds (Yield r) = bound r of_kind.Def ∷ []
binds (Never r) = bound r of_kind.Def ∷ []
binds (After r n) = bound r of_kind.Def ∷ []
binds (Event e r n) = bound e of_kind.Event ∷ bound r of_kind.Def ∷ []
binds (Monitor m) = bound m of_kind.Mon ∷ []
binds (NextError r m) = bound r of_kind.Def ∷ []
binds (Try r proc args catch catch_args mode) = bound r of_kind.Def ∷ []
binds (Throttle t k stop) = bound t of_kind.Thr ∷ []
binds (Enqueue r t proc args) = bound r of_kind.Def ∷ []
binds (ThrottleDone r t) = bound r of_kind.Def ∷ []
binds (Pipe p b) = bound p of_kind.Pipe ∷ []
binds (Write r p a) = bound r of_kind.Def ∷ []
binds (Read r p proc args eof eof_args) = bound r of_kind.Def ∷ []
binds (Flushed r p) = bound r of_kind.Def ∷ []
binds (Work r kind a) = bound r of_kind.Def ∷ []
binds (Helper h x) = bound h of_kind.Helper ∷ bound x of_kind.Num ∷ []
binds (HelperWork r h kind a) = bound r of_kind.Def ∷ []
binds _ = []

-- a statement may stand behind a prefix where it binds no name
abbrev pub MayHavePrefix : Option Prefix → Stmt → Type 0
MayHavePrefix None stmt = Unit {0}
MayHavePrefix (Some prefix) stmt = binds stmt ≡ []

-- one to eight
abbrev pub IsOneToEight : ℕ → Type 0
IsOneToEight count = (1 ≤ count) × (count ≤ 8)

-- how many bodies of a throttle may run at once
abbrev pub IsThrottleBound : ℕ → Type 0
IsThrottleBound k = (1 ≤ k) × (k ≤ 1000000)

-- for how many numbers a pipe may have room
abbrev pub IsPipeBound : ℕ → Type 0
IsPipeBound b = b ≤ 1000000

-- at most 8 atoms stand in a list of arguments, one to 8 deferreds in one of deferreds, and the numbers lie in their ranges
abbrev pub IsWithin : Stmt → Type 0
IsWithin (Upon d proc args) = length args ≤ 8
IsWithin (Bind r d proc args) = length args ≤ 8
IsWithin (All r deferreds proc args) = IsOneToEight (length deferreds) × (length args ≤ 8)
IsWithin (Any r deferreds) = IsOneToEight (length deferreds)
IsWithin (Choose r choices args) = IsOneToEight (length choices) × (length args ≤ 8)
IsWithin (Sched proc args) = length args ≤ 8
IsWithin (Low proc args) = length args ≤ 8
IsWithin (Within m proc args) = length args ≤ 8
IsWithin (OnError m proc args) = length args ≤ 8
IsWithin (Try r proc args catch catch_args mode) = (length args ≤ 8) × (length catch_args ≤ 8)
IsWithin (Throttle t k stop) = IsThrottleBound k
IsWithin (Enqueue r t proc args) = length args ≤ 8
IsWithin (Pipe p b) = IsPipeBound b
IsWithin (Read r p proc args eof eof_args) = (length args ≤ 8) × (length eof_args ≤ 8)
IsWithin _ = Unit {0}

-- a statement has the form of the grammar
abbrev pub IsFormed : Statement → Type 0
IsFormed statement = MayHavePrefix statement.prefix statement.stmt × IsWithin statement.stmt

-- each statement of a procedure has it
abbrev pub ProcIsFormed : Proc → Type 0
ProcIsFormed proc = AllByRecursion IsFormed proc.body
