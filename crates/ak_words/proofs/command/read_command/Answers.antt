use Rattle.std.proofs.Common.{◌≡◌, subst, sym, rules}
use Rattle.ak_words.specs.Words.{IsUsageFault}
use Rattle.ak_words.proofs.Places.{list_none, list_first, other_fault, none_fault}
use Rattle.ak_words.proofs.command.read_command.Goals as goal

pub returns-in-empty-clause-usage : goal.returns-in-empty-clause-usage
returns-in-empty-clause-usage c = subst (λ ws. IsUsageFault ws 0) (sym (list_none c.args.words.now c.in-empty.len_below)) none_fault

pub returns-in-None-clause-usage : goal.returns-in-None-clause-usage
returns-in-None-clause-usage c =
    let e = list_first c.args.words.now c.first-item.result c.in-len1-up.len_at_least c.first-item.is in
    subst (λ ws. IsUsageFault ws 0) (sym e) (other_fault c.first-item.result _ (rw c.in-None.is at c.named.ensures))
