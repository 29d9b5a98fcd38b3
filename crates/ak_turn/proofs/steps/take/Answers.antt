use Rattle.std.proofs.Common.{rules, ap, ◌∙◌, sym, ◌∷◌, Some}
use Rattle.atomic_table.specs.Table.{rest}
use Rattle.ak_turn.proofs.steps.take.Goals as goal

pub exchange-requires : goal.exchange-requires
exchange-requires g c = let v = c.requires.value in (search rules, (Some v.0, v.1 ∙ ap (λ l. (0, Some v.0) ∷ l) (sym (ap rest v.1))))
