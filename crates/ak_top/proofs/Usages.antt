-- A status that tells the place of a usage fault tells no other place.
use Rattle.std.proofs.Common.{◌≡◌, ℕ, List, ap, sym, ◌∙◌, subst}
use Rattle.ak_words.specs.Words.{IsUsageFault}
use Rattle.ak_words.proofs.Usages.{IsUsageFault-unique}
use Rattle.ak_top.specs.declared.status.Status.{Status}
use Rattle.ak_top.specs.declared.status.Status.TheVariants.{Usage}

pub usage_told : (words : List (List ℕ)) (at place : ℕ) (status : Status) → status ≡ Usage at → IsUsageFault words at
    → (status ≡ Usage place → IsUsageFault words place) × (IsUsageFault words place → status ≡ Usage place)
usage_told words at place status told fault = (
  (λ is. let same : at ≡ place = cc (told, is) in subst (λ (p : ℕ). IsUsageFault words p) same fault),
  (λ other. told ∙ ap Usage (sym (IsUsageFault-unique words at place fault other))),
)
