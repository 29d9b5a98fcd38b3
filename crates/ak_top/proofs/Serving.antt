-- What comes of loading a script that is to serve askers.
use Rattle.std.proofs.Common.{◌≡◌, ◌⊎◌, inl, inr, ℕ, ◌≤◌, List, refl, sym, ap, ◌∙◌, subst, arith}
use Rattle.std.specs.Prelude.{Option, Some, None, IsSome}
use Rattle.ak_script.specs.declared.script.Proc.{Proc}
use Rattle.ak_valid.specs.Numbered.{ask_of}
use Rattle.ak_program.specs.Programs.{NumProgram}
use Rattle.ak_exec.specs.Worlds.{ServesAskers}
use Rattle.ak_top.specs.declared.stop.Stop.{Stop}
use Rattle.ak_top.specs.declared.stop.Stop.TheVariants as stop
use Rattle.ak_top.specs.Headline.{IsScript, program_of}
use Rattle.ak_top.specs.Refusals.{ScriptFault, LacksAsk, FaultWith}
use Rattle.ak_top.specs.Replays.{IsServing}
use Rattle.ak_top.specs.Stops.{IsNoProgram, IsNoProgramWith, IsProgramOf, IsTheRefusal, IsNoRefusal}

-- a program with the procedure serves so many askers, and so does any where there are none
pub some_serves : (program : NumProgram) (askers ask : ℕ) → askers ≤ 16 → program.ask ≡ Some ask → ServesAskers program askers
some_serves program askers ask few there = record { few = few; served = inr (subst (λ (o : Option ℕ). IsSome o) (sym there) refl) }

pub none_serves : (program : NumProgram) (askers : ℕ) → (1 ≤ askers → ⊥) → ServesAskers program askers
none_serves program askers none = let zero : askers ≡ 0 = omega (arith, none) in record { few = omega (arith, zero); served = inl zero }

-- ---- where the script is refused
pub no_program_with : (askers : ℕ) (bytes : List ℕ) (s : Stop) → IsNoProgram bytes s → IsNoProgramWith askers bytes s
no_program_with askers bytes stop.ReadFault h = h
no_program_with askers bytes (stop.Refused line kind) h = inl h
no_program_with askers bytes stop.NoMemory h = tt

valid_is_taken : (line kind : ℕ) (s : Stop) → IsNoRefusal s → IsTheRefusal line kind s
valid_is_taken line kind stop.ReadFault h = tt
valid_is_taken line kind (stop.Refused at number) h = absurd h
valid_is_taken line kind stop.NoMemory h = tt

pub refused_with : (askers : ℕ) (bytes : List ℕ) (s : Stop) → ((line kind : ℕ) → ScriptFault bytes line kind → IsTheRefusal line kind s)
    → ((script : List Proc) → IsScript bytes script → IsNoRefusal s) → (line kind : ℕ) → FaultWith askers bytes line kind → IsTheRefusal line kind s
refused_with askers bytes s refuses accepts line kind (inl f) = refuses line kind f
refused_with askers bytes s refuses accepts line kind (inr f) = valid_is_taken line kind s (accepts f.script f.is_script)

-- ---- where it has a program
-- one that lacks the procedure does not serve
lacks_and_serves : (program : NumProgram) (askers : ℕ) → 1 ≤ askers → program.ask ≡ None → ServesAskers program askers → ⊥
lacks_and_serves program askers some none serves = by serves.served
  where
    by : (askers ≡ 0) ⊎ IsSome program.ask → ⊥
    by (inl zero) = omega (arith, some, zero)
    by (inr there) =
        let wrong : IsSome {T = ℕ} None = subst (λ (o : Option ℕ). IsSome o) none there
        in absurd (cc)

-- the program of the script has its procedure
its_ask : (bytes : List ℕ) (program : NumProgram) (script : List Proc) → IsProgramOf bytes program → IsScript bytes script
    → program ≡ program_of script
its_ask bytes program script is is_script = is.program_is ∙ ap program_of (is.only script is_script.reads)

pub serving_has_no_fault : (askers : ℕ) (bytes : List ℕ) (program : NumProgram) → IsProgramOf bytes program → ServesAskers program askers
    → ((line kind : ℕ) → ScriptFault bytes line kind → ⊥) → (line kind : ℕ) → FaultWith askers bytes line kind → ⊥
serving_has_no_fault askers bytes program is serves none line kind (inl f) = none line kind f
serving_has_no_fault askers bytes program is serves none line kind (inr f) =
    lacks_and_serves program askers f.some (ap (λ (p : NumProgram). p.ask) (its_ask bytes program f.script is f.is_script) ∙ f.none) serves

-- and is refused where it lacks it
pub lacking : (askers : ℕ) (bytes : List ℕ) (program : NumProgram) → IsProgramOf bytes program → 1 ≤ askers → program.ask ≡ None
    → FaultWith askers bytes 0 11
lacking askers bytes program is some none =
    inr (record {
      script = is.script;
      is_script = is.is_script;
      some = some;
      none = sym (ap (λ (p : NumProgram). p.ask) is.program_is) ∙ none;
      line_is = refl;
      kind_is = refl;
    })

pub lacking_refuses : (askers : ℕ) (bytes : List ℕ) → ((line kind : ℕ) → ScriptFault bytes line kind → ⊥)
    → (line kind : ℕ) → FaultWith askers bytes line kind → IsTheRefusal line kind (stop.Refused 0 11)
lacking_refuses askers bytes none line kind (inl f) = absurd (none line kind f)
lacking_refuses askers bytes none line kind (inr f) = (sym f.line_is, sym f.kind_is)

pub lacking_serves_none : (askers : ℕ) (bytes : List ℕ) (program : NumProgram) → IsProgramOf bytes program → 1 ≤ askers → program.ask ≡ None
    → IsServing askers bytes → ⊥
lacking_serves_none askers bytes program is some none s =
    lacks_and_serves program askers some none
    (subst (λ (p : NumProgram). ServesAskers p askers) (sym (its_ask bytes program s.script is s.is_script)) s.serves)
