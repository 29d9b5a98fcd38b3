use Rattle.std.proofs.Common.{◌∙◌, ap}
use Rattle.std.specs.Prelude.{◌==◌}
use Rattle.std.specs.List.{list_all}
use Rattle.ak_machine.specs.Cycle.{is_general}
use Rattle.ak_state.specs.Works.{WorksOut}
use Rattle.std.specs.Map.{values_of}
use Rattle.ak_state.proofs.Kept.{all_general}
use Rattle.ak_state.proofs.outstanding.Works.all_general.Goals as goal

pub returns : goal.returns
returns c =
    let p = c.self.inside
    in ap (λ n. n == 0) c.self.invariant.counted ∙ all_general (values_of p.out.entries) ∙ ap (λ (s : WorksOut). list_all is_general s.out) c.self.view_is
