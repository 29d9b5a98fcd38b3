use Rattle.std.proofs.Common.{◌≡◌, ◌∙◌, ap, sym}
use Rattle.std.specs.Prelude.{false}
use Rattle.std.specs.List.{prefix_len, list_all}
use Rattle.ak_throttle.specs.Throttle as plain
use Rattle.ak_throttle.specs.Seen.{bodies_of}
use Rattle.ak_throttle.proofs.Done.{prefix_all, prefix_same}
use Rattle.ak_throttle.proofs.throttle.Throttle.over_front.Goals as goal

pub returns-then-is_done : goal.returns-then-is_done
returns-then-is_done g c = c.count.ensures ∙ sym (prefix_all plain.is_over c.args.self.now.bodies (sym c.if-is_done.ensures))

pub returns-else-is_done : goal.returns-else-is_done
returns-else-is_done g c =
    let p = c.self.inside
    in let not_all : list_all plain.is_over (bodies_of p.dead p.progress.overs p.lost p.bodies.items) ≡ false =
    ap plain.is_done c.self.view_is ∙ sym c.if-is_done.ensures
    in c.over_first.ensures ∙ sym (prefix_same p.dead p.progress.overs p.lost p.bodies.items not_all)
    ∙ ap (λ t. prefix_len plain.is_over t.bodies) c.self.view_is
