-- Of each name the first procedure.
use Rattle.std.specs.Prelude.{◌≡◌, ℕ, List}
use Rattle.ak_script.specs.declared.script.Proc.{Proc}
use Rattle.ak_valid.specs.Numbered.{proc_names}
use Rattle.ak_valid.specs.Valid.{AreDistinct, proc_named}

-- a name leads to the same procedure in both lists, which are one where no name stands twice
pub record AreFirsts (firsts procs : List Proc) : Type 0 where
  pub named : (name : List ℕ) → proc_named firsts name ≡ proc_named procs name
  pub places : AreDistinct (proc_names procs) → firsts ≡ procs
