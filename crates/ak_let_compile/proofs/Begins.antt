-- The locals and parameters that a piece begins with, put one by one.
use Rattle.std.proofs.Common.{ℕ, suc, ◌+◌, ◌≤◌, ◌≡◌, List, [], ◌∷◌, ◌++◌, append_assoc, ap, ◌∙◌, arith}
use Rattle.ak_script.specs.declared.script.Kind.TheVariants as of_kind
use Rattle.ak_program.specs.declared.program.NumParam.{NumParam}
use Rattle.ak_program.specs.declared.statement.NumAtom.{NumAtom}
use Rattle.ak_program.specs.declared.statement.NumAtom.TheVariants.{Local}
use Rattle.ak_let.specs.Compile.{locals_from, params_from}

-- what is put so far, with what is left, is the whole
pub record IsPut {X : Type 0} (from : ℕ → ℕ → List X) (next count : ℕ) (put : List X) : Type 0 where
  pub whole : (left : ℕ) → next + left ≡ count → put ++ from next left ≡ from 0 count

pub none_put : {X : Type 0} (from : ℕ → ℕ → List X) (count : ℕ) → IsPut from 0 count []
none_put from count = record { whole = λ left e. let same : left ≡ count = omega (arith, e) in ap (from 0) same }

pub local_put : (next count : ℕ) (put : List NumAtom) → IsPut locals_from next count put → IsPut locals_from (next + 1) count (put ++ Local next ∷ [])
local_put next count put h =
    record {
      whole = λ left e.
          append_assoc put (Local next ∷ []) (locals_from (next + 1) left)
          ∙ ap (λ k. put ++ Local next ∷ locals_from k left) (one_more next)
          ∙ h.whole (suc left) (omega (arith, e));
    }
  where
    one_more : (n : ℕ) → n + 1 ≡ suc n
    one_more n = omega arith

pub param_put : (next count : ℕ) (put : List NumParam) → IsPut params_from next count put
    → IsPut params_from (next + 1) count (put ++ record { name = next; kind = of_kind.Num } ∷ [])
param_put next count put h =
    record {
      whole = λ left e.
          append_assoc put (record { name = next; kind = of_kind.Num } ∷ []) (params_from (next + 1) left)
          ∙ ap (λ k. put ++ record { name = next; kind = of_kind.Num } ∷ params_from k left) (one_more next)
          ∙ h.whole (suc left) (omega (arith, e));
    }
  where
    one_more : (n : ℕ) → n + 1 ≡ suc n
    one_more n = omega arith

pub all_put : {X : Type 0} (from : ℕ → ℕ → List X) (next count : ℕ) (put : List X) → count ≤ next → next ≤ count → IsPut from next count put
    → put ++ from count 0 ≡ from 0 count
all_put from next count put a b h =
    let same : count ≡ next = omega (arith, a, b)
    in ap (λ k. put ++ from k 0) same ∙ h.whole 0 (omega (arith, same))
