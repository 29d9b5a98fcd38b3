-- From the bytes that were read to what a source tells.
use Rattle.std.proofs.Common.{◌≡◌, inl, inr, ℕ, ◌≤◌, List, length, sym, subst, arith}
use Rattle.std.specs.Prelude.{Option, Some, Err}
use Rattle.std.specs.declared.result.Result.{Result}
use Rattle.ak_let.specs.declared.source.Source.{Source}
use Rattle.ak_let_syntax.specs.declared.refusal.LetFault.{LetFault}
use Rattle.ak_let_syntax.specs.declared.refusal.LetRefused.{LetRefused}
use Rattle.ak_let_syntax.specs.declared.refusal.LetRefused.TheVariants as let_refused
use Rattle.ak_let_syntax.specs.Answers.{Refuses as LetRefuses}
use Rattle.ak_let_syntax.specs.Faults.{kind_number}
use Rattle.ak_let_reader.specs.Answers.{HasFault, IsSource}
use Rattle.ak_reading.specs.Reading.{Had}
use Rattle.ak_tools.specs.declared.status.ToolStatus.{ToolStatus}
use Rattle.ak_tools.specs.Compiling.{IsFault, IsNoRefusal, IsRefusal, TellsFault, TellsSource, source_limit}
use Rattle.ak_tools.specs.Status.{status_by_refusal}
use Rattle.ak_tools.specs.Stops.{Accepts, Refuses}

same_bytes : (told : Option (List ℕ)) (bytes all : List ℕ) → Had told bytes → told ≡ Some all → all ≡ bytes
same_bytes told bytes all had tells = subst (λ (o : Option (List ℕ)). Had o bytes) tells had

text_refuses : {T : Type 0} (bytes : List ℕ) (result : Result T ToolStatus) → length bytes ≤ source_limit
    → ((line : ℕ) (fault : LetFault) → HasFault bytes line fault → Refuses line (kind_number fault) result)
    → (line kind : ℕ) → IsFault bytes line kind → Refuses line kind result
text_refuses bytes result few h line kind (inl f) = absurd (omega (arith, f.0, few))
text_refuses bytes result few h line kind (inr f) = subst (λ (k : ℕ). Refuses line k result) (sym f.2) (h line f.1 f.3)

pub source_refuses : {T : Type 0} (told : Option (List ℕ)) (bytes : List ℕ) (result : Result T ToolStatus) → Had told bytes
    → length bytes ≤ source_limit
    → ((line : ℕ) (fault : LetFault) → HasFault bytes line fault → Refuses line (kind_number fault) result)
    → (line kind : ℕ) → TellsFault told line kind → Refuses line kind result
source_refuses told bytes result had few h line kind t =
    text_refuses bytes result few h line kind
    (subst (λ (b : List ℕ). IsFault b line kind) (same_bytes told bytes t.bytes had t.tells) t.fault)

pub source_accepts : {T : Type 0} (told : Option (List ℕ)) (bytes : List ℕ) (result : Result T ToolStatus) → Had told bytes
    → ((source : Source) → IsSource bytes source → Accepts result) → TellsSource told → Accepts result
source_accepts told bytes result had h t =
    h t.source (subst (λ (b : List ℕ). IsSource b t.source) (same_bytes told bytes t.bytes had t.tells) t.is)

-- ---- what the compiler refuses
pub refused_so : {T : Type 0} (result : Result T LetRefused) (e : LetRefused) (line : ℕ) (fault : LetFault) → result ≡ Err e
    → LetRefuses result line fault → IsRefusal line (kind_number fault) (status_by_refusal e)
refused_so {T} result e line fault is h = of e (subst (λ (r : Result T LetRefused). LetRefuses r line fault) is h)
  where
    of : (e : LetRefused) → LetRefuses {T = T} (Err e) line fault → IsRefusal line (kind_number fault) (status_by_refusal e)
    of (let_refused.At at number) h = h
    of let_refused.NoMemory h = tt

pub only_memory : (e : LetRefused) → e ≡ let_refused.NoMemory → IsNoRefusal (status_by_refusal e)
only_memory e is = subst (λ (r : LetRefused). IsNoRefusal (status_by_refusal r)) (sym is) tt
