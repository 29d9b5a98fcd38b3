use Rattle.std.proofs.Common.{rules, ◌≡◌, ◌≤◌, ◌-◌, ◌++◌, ◌∙◌, ap, sym, replicate}
use Rattle.std.specs.Prelude.{true, false, Some, slice_get, slice_set}
use Rattle.ak_throttle.proofs.Overs.{set_behind, is_behind}
use Rattle.ak_throttle.proofs.progress.Progress.end.Goals as goal

pub returns-clause-overs : goal.returns-clause-overs
returns-clause-overs c =
    let p = c.self.inside
    in let runs : slice_get (replicate p.over_first true ++ p.others.items) c.args.no ≡ Some false = search rules
    in let behind : p.over_first ≤ c.args.no = is_behind p.over_first c.args.no p.others.items runs
    in let same = set_behind p.over_first (c.number.result - p.over_first) c.args.no p.others.items behind (ap (λ n. n - p.over_first) c.number.ensures)
    in let now : slice_set (replicate p.over_first true ++ p.others.items) c.args.no true ≡ slice_set c.args.self.now.overs c.args.no true = search rules
    in c.count_front-self-inside.ensures.overs ∙ ap (λ xs. replicate p.over_first true ++ xs) c.mark_over.ensures.items ∙ sym same ∙ now
