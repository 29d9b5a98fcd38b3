use Rattle.std.proofs.Common.{rules, arith, ◌≡◌, ◌≤◌, ◌∙◌, ap, sym}
use Rattle.std.specs.Prelude.{false}
use Rattle.std.proofs.lemmas.Bool.{le-ltb}
use Rattle.ak_throttle.specs.Throttle as plain
use Rattle.ak_throttle.proofs.Bodies.{running_same, room_same}
use Rattle.ak_throttle.proofs.throttle.Throttle.enqueue.Goals as goal

pub returns-then-self-clause-most : goal.returns-then-self-clause-most
returns-then-self-clause-most g c =
    let p = c.self.inside
    in let few : plain.running_count c.args.self.now ≤ p.most =
    omega (
      arith,
      c.self.invariant.few,
      running_same p.dead p.progress.overs p.lost p.bodies.items,
      ap (λ t. plain.running_count t) c.self.view_is,
    )
    in search rules

pub returns-else-running-self-clause-placed : goal.returns-else-running-self-clause-placed
returns-else-running-self-clause-placed g c =
    let p = c.self.inside
    in let full : plain.has_room c.args.self.now ≡ false =
    sym (ap (λ t. plain.has_room t) c.self.view_is) ∙ room_same p.most p.stop p.dead p.progress.overs p.lost p.bodies.items
    p.marks.items ∙ le-ltb _ _ (omega (arith, c.if-running-self.false, c.running.ensures))
    in rw full (search rules)
