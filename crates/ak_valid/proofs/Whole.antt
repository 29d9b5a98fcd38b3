-- The parts of the test make the whole.
use Rattle.std.proofs.Common.{◌≡◌, ℕ, List, [], ◌∷◌, map, Option, None, sym, ap, ◌∙◌}
use Rattle.ak_script.specs.declared.script.Proc.{Proc}
use Rattle.ak_program.specs.declared.program.NumProc.{NumProc}
use Rattle.ak_valid.specs.declared.refusal.ValidRefused.{ValidRefused}
use Rattle.ak_valid.specs.declared.refusal.ValidRefused.TheVariants.{At, NoMemory}
use Rattle.ak_valid.specs.Faults.{Line, line_zero, procs_lines, script_lines, first_fault}
use Rattle.ak_valid.specs.Firsts.{AreFirsts}
use Rattle.ak_valid.specs.Numbered.{main_of, numbered, numbered_proc, proc_names}
use Rattle.ak_valid.specs.Refusals.{Refuses, IsRefusal}
use Rattle.ak_valid.specs.Valid.{Valid}
use Rattle.ak_valid.proofs.Exact.{exact}
use Rattle.ak_valid.proofs.Firsts.{same_procs, same_zero}
use Rattle.ak_valid.proofs.Lines.{first_append}

refusal_of : (script : List Proc) (fault : Option (ℕ × ℕ)) (e : ValidRefused) → fault ≡ first_fault (script_lines script) → Refuses fault e → IsRefusal script e
refusal_of script fault (At line kind) is h = sym is ∙ h
refusal_of script fault NoMemory is h = tt

-- the fault of a script is that of its lines, where `main` is there
later_fault : (script firsts : List Proc) → AreFirsts firsts script → first_fault (line_zero firsts ∷ []) ≡ None
    → first_fault (procs_lines firsts [] script) ≡ first_fault (script_lines script)
later_fault script firsts same none =
    let zero : first_fault (line_zero script ∷ []) ≡ None = ap (λ (line : Line). first_fault (line ∷ [])) (sym (same_zero firsts script same.named)) ∙ none in
    ap first_fault (same_procs firsts script same.named [] script) ∙ sym (first_append (line_zero script ∷ []) (procs_lines script [] script) zero)

pub refused_later : (script firsts : List Proc) (given e : ValidRefused) → AreFirsts firsts script
    → first_fault (line_zero firsts ∷ []) ≡ None → e ≡ given → Refuses (first_fault (procs_lines firsts [] script)) given
    → IsRefusal script e
refused_later script firsts given e same none is h =
    rw is (refusal_of script (first_fault (procs_lines firsts [] script)) given (later_fault script firsts same none) h)

-- the program of a script without a fault
pub record Made (script : List Proc) (place : ℕ) (given : List NumProc) : Type 0 where
  pub valid : Valid script
  pub procs : given ≡ numbered script
  pub main : place ≡ main_of script

pub made : (script firsts : List Proc) (main : ℕ) (given : List NumProc) → AreFirsts firsts script
    → (first_fault (line_zero firsts ∷ []) ≡ None) × (main ≡ main_of firsts)
    → (first_fault (procs_lines firsts [] script) ≡ None) × (given ≡ map (numbered_proc (proc_names firsts)) script) → Made script main given
made script firsts main given same first later =
    let valid = (exact script).0 (sym (later_fault script firsts same first.0) ∙ later.0) in
    let whole : firsts ≡ script = same.places valid.procs in
    record {
      valid = valid;
      procs = later.1 ∙ ap (λ (ps : List Proc). map (numbered_proc (proc_names ps)) script) whole;
      main = first.1 ∙ ap main_of whole;
    }
