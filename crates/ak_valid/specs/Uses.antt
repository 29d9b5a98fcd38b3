-- What each statement wants of its locals and of the procedures that it calls.
use Rattle.std.specs.Prelude.{ℕ, List, [], ◌∷◌, ◌++◌, map, length}
use Rattle.ak_script.specs.declared.script.Kind.{Kind}
use Rattle.ak_script.specs.declared.script.Kind.TheVariants as of_kind
use Rattle.ak_script.specs.declared.statement.Atom.{Atom}
use Rattle.ak_script.specs.declared.statement.Atom.TheVariants.{Literal, Local}
use Rattle.ak_script.specs.declared.statement.Stmt.{Stmt}
use Rattle.ak_script.specs.declared.statement.Stmt.TheVariants.{Set, Print, Fill, Offer, Upon, Bind, All, Any, Choose, Sched, Low, After, Event, Abort, Tick, Within, Detach, OnError, NextError, Raise, Send, Try, Enqueue, ThrottleDone, Write, Put, Read, Close, CloseRead, Flushed, Work, HelperWork, HelperDone, Ret}

-- a local that is used, and the kinds that serve there
pub record Use : Type 0 where
  pub name : List ℕ
  pub wanted : List Kind

-- a procedure that is called, with so many numbers in front of the arguments
pub record Callee : Type 0 where
  pub name : List ℕ
  pub front : ℕ
  pub args : List Atom

-- a local of one kind
abbrev pub local : List ℕ → Kind → Use
local name kind = record { name = name; wanted = kind ∷ [] }

-- a number
abbrev pub number : Atom → List Use
number (Literal n) = []
number (Local name) = local name of_kind.Num ∷ []

-- what a procedure may return: a number or a deferred
abbrev pub returned : Atom → List Use
returned (Literal n) = []
returned (Local name) = record { name = name; wanted = of_kind.Num ∷ of_kind.Def ∷ [] } ∷ []

-- the locals that a statement uses, but for the arguments of its calls
abbrev pub uses : Stmt → List Use
uses (Set x a op b) = number a ++ number b
uses (Print a) = number a
uses (Fill i a) = local i of_kind.Ivar ∷ number a
uses (Offer i a) = local i of_kind.Ivar ∷ number a
uses (Upon d proc args) = local d of_kind.Def ∷ []
uses (Bind r d proc args) = local d of_kind.Def ∷ []
uses (All r deferreds proc args) = map (λ d. local d of_kind.Def) deferreds
uses (Any r deferreds) = map (λ d. local d of_kind.Def) deferreds
uses (Choose r choices args) = map (λ choice. local choice.d of_kind.Def) choices
uses (After r n) = number n
uses (Event e r n) = number n
uses (Abort e) = local e of_kind.Event ∷ []
uses (Tick n) = number n
uses (Within m proc args) = local m of_kind.Mon ∷ []
uses (Detach m) = local m of_kind.Mon ∷ []
uses (OnError m proc args) = local m of_kind.Mon ∷ []
uses (NextError r m) = local m of_kind.Mon ∷ []
uses (Raise a) = number a
uses (Send m a) = local m of_kind.Mon ∷ number a
uses (Enqueue r t proc args) = local t of_kind.Thr ∷ []
uses (ThrottleDone r t) = local t of_kind.Thr ∷ []
uses (Write r p a) = local p of_kind.Pipe ∷ number a
uses (Put p a) = local p of_kind.Pipe ∷ number a
uses (Read r p proc args eof eof_args) = local p of_kind.Pipe ∷ []
uses (Close p) = local p of_kind.Pipe ∷ []
uses (CloseRead p) = local p of_kind.Pipe ∷ []
uses (Flushed r p) = local p of_kind.Pipe ∷ []
uses (Work r kind a) = number a
uses (HelperWork r h kind a) = local h of_kind.Helper ∷ number a
uses (HelperDone h) = local h of_kind.Helper ∷ []
uses (Ret a) = returned a
uses _ = []

-- the procedures that a statement calls: with the value of a deferred, the values of several, an error, an item, or no number in front
abbrev pub callees : Stmt → List Callee
callees (Upon d proc args) = record { name = proc; front = 1; args = args } ∷ []
callees (Bind r d proc args) = record { name = proc; front = 1; args = args } ∷ []
callees (All r deferreds proc args) = record { name = proc; front = length deferreds; args = args } ∷ []
callees (Choose r choices args) = map (λ choice. record { name = choice.proc; front = 1; args = args }) choices
callees (Sched proc args) = record { name = proc; front = 0; args = args } ∷ []
callees (Low proc args) = record { name = proc; front = 0; args = args } ∷ []
callees (Within m proc args) = record { name = proc; front = 0; args = args } ∷ []
callees (OnError m proc args) = record { name = proc; front = 1; args = args } ∷ []
callees (Try r proc args catch catch_args mode) = record { name = proc; front = 0; args = args } ∷ record { name = catch; front = 1; args = catch_args } ∷ []
callees (Enqueue r t proc args) = record { name = proc; front = 0; args = args } ∷ []
callees (Read r p proc args eof eof_args) = record { name = proc; front = 1; args = args } ∷ record { name = eof; front = 0; args = eof_args } ∷ []
callees _ = []
