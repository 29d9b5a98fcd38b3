use Rattle.std.proofs.Common.{rules, ◌≡◌, ◌++◌, ◌∷◌, [], length}
use Rattle.ak_throttle.specs.declared.stage.Mark.{Mark}
use Rattle.ak_throttle.specs.Seen.{bodies_of}
use Rattle.ak_throttle.proofs.Kept.{kept_marked}
use Rattle.ak_throttle.proofs.throttle.Throttle.done_when.Goals as goal

pub invariant_of-self-2 : goal.invariant_of-self-2
invariant_of-self-2 g c =
    let p = c.self.inside
    in let mark : Mark = record { ivar = c.args.i; count = length (bodies_of p.dead p.progress.overs p.lost p.bodies.items) }
    in let more : c.push_back.new.self.items ≡ p.marks.items ++ mark ∷ [] = search rules
    in kept_marked p.most p.dead p.progress p.lost p.bodies.items p.marks.items c.push_back.new.self.items c.args.i c.self.invariant more
