-- What the test of a script answers where it refuses.
use Rattle.std.specs.Prelude.{◌≡◌, ℕ, Option, Some, List}
use Rattle.ak_script.specs.declared.script.Proc.{Proc}
use Rattle.ak_valid.specs.declared.refusal.ValidRefused.{ValidRefused}
use Rattle.ak_valid.specs.declared.refusal.ValidRefused.TheVariants.{At, NoMemory}
use Rattle.ak_valid.specs.Faults.{ValidFault}

-- the refusal of this fault, or want of memory
abbrev pub Refuses : Option (ℕ × ℕ) → ValidRefused → Type 0
Refuses fault (At line kind) = fault ≡ Some (line, kind)
Refuses fault NoMemory = Unit {0}

-- the refusal of a script by its fault, or want of memory
abbrev pub IsRefusal : List Proc → ValidRefused → Type 0
IsRefusal script (At line kind) = ValidFault script line kind
IsRefusal script NoMemory = Unit {0}
