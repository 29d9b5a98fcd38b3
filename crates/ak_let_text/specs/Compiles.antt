-- The sources that compile: those within all limits, whose calls, locals and numbers are right. Own.
use Rattle.std.specs.Prelude.{◌≡◌, ◌≤◌, Option, Some, None, FitsSigned, List, length}
use Rattle.std.specs.Int.{w64}
use Rattle.std.specs.List.{AllByRecursion}
use Rattle.ak_script.specs.declared.script.Proc.{Proc}
use Rattle.ak_program.specs.Programs.{NumProgram}
use Rattle.ak_valid.specs.Numbered.{numbered, main_of, ask_of}
use Rattle.ak_let.specs.declared.source.Atom.{Atom}
use Rattle.ak_let.specs.declared.source.Atom.TheVariants.{Given, Known}
use Rattle.ak_let.specs.declared.source.Line.{Line}
use Rattle.ak_let.specs.declared.source.Line.TheVariants.{Let, Compute, Print, Raise, Return, Await, AwaitWork, Try}
use Rattle.ak_let.specs.declared.source.Fun.{Fun}
use Rattle.ak_let.specs.declared.source.Source.{Source}
use Rattle.ak_let.specs.Correct.{IsSound, FunIsScoped, FunIsWithin}

-- a number has 64 bits
abbrev pub AtomIsShort : Atom → Type 0
AtomIsShort (Given z) = FitsSigned w64 z
AtomIsShort (Known k) = Unit {0}

abbrev pub WhenIsShort : Option Atom → Type 0
WhenIsShort None = Unit {0}
WhenIsShort (Some a) = AtomIsShort a

abbrev pub LineIsShort : Line → Type 0
LineIsShort (Let a) = AtomIsShort a
LineIsShort (Compute a op b) = AtomIsShort a × AtomIsShort b
LineIsShort (Print when a) = WhenIsShort when × AtomIsShort a
LineIsShort (Raise when a) = WhenIsShort when × AtomIsShort a
LineIsShort (Return when a) = WhenIsShort when × AtomIsShort a
LineIsShort (Await f args) = AllByRecursion AtomIsShort args
LineIsShort (AwaitWork kind a) = AtomIsShort a
LineIsShort (Try f args g) = AllByRecursion AtomIsShort args

abbrev pub FunIsShort : Fun → Type 0
FunIsShort fun = AllByRecursion LineIsShort fun.lines

-- at most 128 functions, each within its limits and with its locals bound before they are used; calls that fit; numbers of 64 bits
pub record Compiles (p : Source) : Type 0 where
  pub few : length p.funs ≤ 128
  pub sound : IsSound p
  pub scoped : AllByRecursion FunIsScoped p.funs
  pub within : AllByRecursion FunIsWithin p.funs
  pub short : AllByRecursion FunIsShort p.funs

-- the script's program, by its places
pub record IsNumberedTo (script : List Proc) (program : NumProgram) : Type 0 where
  pub procs : numbered script ≡ program.procs
  pub main : main_of script ≡ program.main
  pub ask : ask_of script ≡ program.ask
