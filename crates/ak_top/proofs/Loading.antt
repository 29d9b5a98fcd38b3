-- What comes of reading and testing the script in some bytes.
use Rattle.std.proofs.Common.{◌≡◌, ◌⊎◌, inl, inr, ℕ, List, sym, ap, ◌∙◌, subst}
use Rattle.std.specs.Prelude.{Option, Some, None, Ok, Err}
use Rattle.ak_script.specs.declared.script.Proc.{Proc}
use Rattle.ak_syntax.specs.declared.refusal.GrammarKind.{GrammarKind}
use Rattle.ak_syntax.specs.declared.refusal.ParseRefused.{ParseRefused}
use Rattle.ak_syntax.specs.declared.refusal.ParseRefused.TheVariants as parse
use Rattle.ak_syntax.specs.Answers.{IsRight, IsScript as Reads_as, IsFault}
use Rattle.ak_syntax.specs.Faults.{GrammarFault, kind_number}
use Rattle.ak_syntax.specs.Grammar.{Reads}
use Rattle.ak_valid.specs.declared.refusal.ValidRefused.{ValidRefused}
use Rattle.ak_valid.specs.declared.refusal.ValidRefused.TheVariants as valid
use Rattle.ak_valid.specs.Faults.{ValidFault, script_lines, first_fault}
use Rattle.ak_valid.specs.Refusals.{IsRefusal}
use Rattle.ak_valid.specs.Valid.{Valid}
use Rattle.ak_valid.proofs.Exact.{exact}
use Rattle.ak_top.specs.Headline.{IsScript}
use Rattle.ak_top.specs.Refusals.{ScriptFault}
use Rattle.ak_top.specs.Stops.{stop_by_parse, stop_by_validity, IsNoProgram, IsTheRefusal, IsNoRefusal}

-- ---- the grammar refuses
pub parse_stops : (bytes : List ℕ) (e : ParseRefused) → IsRight bytes (Err e) → IsNoProgram bytes (stop_by_parse e)
parse_stops bytes (parse.At line number) right = inl right
parse_stops bytes parse.NoMemory right = tt

pub parse_refuses : (bytes : List ℕ) (e : ParseRefused) → ((s : List Proc) → Reads bytes s → Reads_as (Err e) s)
    → ((line : ℕ) (kind : GrammarKind) → GrammarFault bytes line kind → IsFault (Err e) line kind)
    → (line kind : ℕ) → ScriptFault bytes line kind → IsTheRefusal line kind (stop_by_parse e)
parse_refuses bytes (parse.At at number) script fault line kind (inl f) = let same = fault line f.0 f.2 in (same.0, same.1 ∙ sym f.1)
parse_refuses bytes (parse.At at number) script fault line kind (inr f) = absurd (script f.0 f.1)
parse_refuses bytes parse.NoMemory script fault line kind f = tt

pub parse_accepts : (bytes : List ℕ) (e : ParseRefused) → ((s : List Proc) → Reads bytes s → Reads_as (Err e) s) → (s : List Proc)
    → IsScript bytes s → IsNoRefusal (stop_by_parse e)
parse_accepts bytes (parse.At at number) script s is = script s is.reads
parse_accepts bytes parse.NoMemory script s is = tt

-- ---- a valid script has no fault
no_fault : (script : List Proc) (line kind : ℕ) → Valid script → ValidFault script line kind → ⊥
no_fault script line kind v f = let none = (exact script).1 v in absurd (cc (none, f))

one_fault : (script : List Proc) (at number line kind : ℕ) → ValidFault script at number → ValidFault script line kind → (at ≡ line) × (number ≡ kind)
one_fault script at number line kind f g =
    let e : Some (at, number) ≡ Some (line, kind) = sym f ∙ g in
    let p : (at, number) ≡ (line, kind) = cc (e) in (ap (λ (q : ℕ × ℕ). q.0) p, ap (λ (q : ℕ × ℕ). q.1) p)

-- ---- the test of validity refuses
pub valid_stops : (bytes : List ℕ) (script : List Proc) (e : ValidRefused) → Reads bytes script → IsRefusal script e → IsNoProgram bytes (stop_by_validity e)
valid_stops bytes script (valid.At line number) reads refusal = inr (script, reads, refusal)
valid_stops bytes script valid.NoMemory reads refusal = tt

pub valid_refuses : (bytes : List ℕ) (script : List Proc) (e : ValidRefused) → ((s : List Proc) → Reads bytes s → script ≡ s)
    → ((line : ℕ) (kind : GrammarKind) → GrammarFault bytes line kind → ⊥) → IsRefusal script e
    → (line kind : ℕ) → ScriptFault bytes line kind → IsTheRefusal line kind (stop_by_validity e)
valid_refuses bytes script (valid.At at number) only none refusal line kind (inl f) = absurd (none line f.0 f.2)
valid_refuses bytes script (valid.At at number) only none refusal line kind (inr f) =
    one_fault script at number line kind refusal (subst (λ s. ValidFault s line kind) (sym (only f.0 f.1)) f.2)
valid_refuses bytes script valid.NoMemory only none refusal line kind f = tt

pub valid_accepts : (bytes : List ℕ) (script : List Proc) (e : ValidRefused) → ((s : List Proc) → Reads bytes s → script ≡ s)
    → IsRefusal script e → (s : List Proc) → IsScript bytes s → IsNoRefusal (stop_by_validity e)
valid_accepts bytes script (valid.At at number) only refusal s is = no_fault script at number (subst Valid (sym (only s is.reads)) is.valid) refusal
valid_accepts bytes script valid.NoMemory only refusal s is = tt

-- ---- a script is taken
pub taken_has_no_fault : (bytes : List ℕ) (script : List Proc) → ((s : List Proc) → Reads bytes s → script ≡ s)
    → ((line : ℕ) (kind : GrammarKind) → GrammarFault bytes line kind → ⊥) → Valid script → (line kind : ℕ) → ScriptFault bytes line kind
    → ⊥
taken_has_no_fault bytes script only none v line kind (inl f) = none line f.0 f.2
taken_has_no_fault bytes script only none v line kind (inr f) = no_fault script line kind v (subst (λ s. ValidFault s line kind) (sym (only f.0 f.1)) f.2)
