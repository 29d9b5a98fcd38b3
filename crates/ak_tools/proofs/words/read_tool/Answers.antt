use Rattle.std.proofs.Common.{ℕ, List, subst, sym}
use Rattle.ak_tools.specs.Words.{IsUsageFault}
use Rattle.ak_tools.proofs.Usages.{empty_fault, none_first, other_fault, with_first}
use Rattle.ak_tools.proofs.words.read_tool.Goals as goal

pub returns-in-empty-clause-usage : goal.returns-in-empty-clause-usage
returns-in-empty-clause-usage c =
    subst (λ (ws : List (List ℕ)). IsUsageFault ws 0) (sym (none_first c.args.words.now c.in-empty.len_below)) empty_fault

pub returns-in-None-clause-usage : goal.returns-in-None-clause-usage
returns-in-None-clause-usage c =
    let split = with_first c.args.words.now c.first-item.result c.in-len1-up.len_at_least c.first-item.is in
    subst (λ (ws : List (List ℕ)). IsUsageFault ws 0) (sym split.1)
    (other_fault c.first-item.result split.0 (rw c.in-None.is at c.named.ensures))
