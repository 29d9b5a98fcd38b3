use Rattle.std.proofs.Common.{◌≡◌, ◌⊎◌, inl, inr, Option, Some, None, ℕ, List, refl, sym, ap, ◌∙◌}
use Rattle.ak_script.specs.declared.script.Proc.{Proc}
use Rattle.ak_valid.specs.Valid.{Valid}
use Rattle.ak_valid.specs.Faults.{ValidFault, first_fault, script_lines}
use Rattle.ak_valid.proofs.Exact.{exact, fault_range}
use Rattle.ak_valid.proofs.FirstFault.{first_is, is_first}
use Rattle.ak_valid.proofs.verdict.one_verdict.Goals as goal

verdict_of : (script : List Proc) (fault : Option (ℕ × ℕ)) → first_fault (script_lines script) ≡ fault
    → Valid script ⊎ ((line : ℕ) × (kind : ℕ) × ValidFault script line kind)
verdict_of script None is = inl ((exact script).0 is)
verdict_of script (Some fault) is = inr (fault.0, fault.1, is)

some_same : (a b : ℕ × ℕ) → Some a ≡ Some b → a ≡ b
some_same a b h = cc

pub returns : goal.returns
returns c = record {
  either = λ script. verdict_of script (first_fault (script_lines script)) refl;
  not_both = λ script line kind valid fault. let none : first_fault (script_lines script) ≡ None = (exact script).1 valid in
      let some : first_fault (script_lines script) ≡ Some (line, kind) = fault in cc;
  kinds = λ script line kind fault. fault_range (script_lines script) line kind fault;
  one_fault = λ script line kind other_line other_kind one other.
      let same = some_same (line, kind) (other_line, other_kind) (sym one ∙ other) in
      (ap (λ (fault : ℕ × ℕ). fault.0) same, ap (λ (fault : ℕ × ℕ). fault.1) same);
  first_and_least = λ script line kind fault. first_is (script_lines script) line kind fault;
  no_other_is = λ script line kind first. is_first (script_lines script) line kind first;
}
