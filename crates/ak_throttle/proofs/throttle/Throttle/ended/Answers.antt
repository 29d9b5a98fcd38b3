use Rattle.std.proofs.Common.{rules, arith, ◌≡◌, ◌∙◌, ap, sym, length}
use Rattle.std.specs.Prelude.{true, slice_set}
use Rattle.std.specs.VecDeque.{deque_len}
use Rattle.std.proofs.lemmas.List.{length-set}
use Rattle.ak_throttle.specs.Throttle as plain
use Rattle.ak_throttle.specs.Seen.{throttle_of, front_started, overs_after, IsKept}
use Rattle.ak_throttle.proofs.Bodies.{runs_in, started_same, after_same, running_same}
use Rattle.ak_throttle.proofs.Kept.{kept_ended}
use Rattle.ak_throttle.proofs.throttle.Throttle.ended.Goals as goal

pub end-requires : goal.end-requires
end-requires g c =
    let p = c.self.inside
    in runs_in p.dead p.progress.overs p.lost p.bodies.items c.args.no (ap (λ t. plain.stage_in c.args.no t) c.self.view_is ∙ c.requires)

kept : (g : _) (c : goal.After-start_front g)
    → IsKept {B = g.row.B.Denot} c.self.inside.most c.self.inside.dead c.start_front.new.progress c.self.inside.lost
    c.start_front.new.bodies.items c.self.inside.marks.items
kept g c =
    let p = c.self.inside
    in let same : deque_len c.start_front.new.bodies ≡ length c.start_front.new.bodies.items = search rules
    in kept_ended p.most p.dead p.progress c.end.new.self c.start_front.new.progress p.lost p.bodies.items c.start_front.new.bodies.items
    p.marks.items c.self.invariant c.end.ensures.running
    (ap length c.end.ensures.overs ∙ length-set p.progress.overs c.args.no true) c.start_front.ensures.overs c.start_front.ensures.waiting
    (λ e. omega (arith, c.start_front.ensures.room e, same))

pub invariant_of-self : goal.invariant_of-self
invariant_of-self g c = kept g c

pub returns-clause-started : goal.returns-clause-started
returns-clause-started g c =
    let p = c.self.inside
    in let runs = runs_in p.dead p.progress.overs p.lost p.bodies.items c.args.no (ap (λ t. plain.stage_in c.args.no t) c.self.view_is ∙ c.requires)
    in c.start_front.ensures.front ∙ ap (λ overs. front_started p.dead (length overs) p.bodies.items) c.end.ensures.overs
    ∙ sym (started_same p.most p.stop p.dead p.progress.overs p.lost p.bodies.items p.marks.items c.args.no runs)
    ∙ ap (λ t. plain.started_by_end c.args.no t) c.self.view_is

pub returns-clause-bodies : goal.returns-clause-bodies
returns-clause-bodies g c =
    let p = c.self.inside
    in let runs = runs_in p.dead p.progress.overs p.lost p.bodies.items c.args.no (ap (λ t. plain.stage_in c.args.no t) c.self.view_is ∙ c.requires)
    in ap (λ overs. throttle_of p.most p.stop p.dead overs p.lost c.start_front.new.bodies.items p.marks.items)
    (c.start_front.ensures.overs ∙ ap (λ overs. overs_after p.dead overs p.bodies.items) c.end.ensures.overs)
    ∙ ap (λ bodies. throttle_of p.most p.stop p.dead (overs_after p.dead (slice_set p.progress.overs c.args.no true) p.bodies.items)
    p.lost bodies p.marks.items) c.start_front.ensures.waiting
    ∙ sym (after_same p.most p.stop p.dead p.progress.overs p.lost p.bodies.items p.marks.items c.args.no runs)
    ∙ ap (λ t. plain.after_end c.args.no t) c.self.view_is

pub returns-clause-most : goal.returns-clause-most
returns-clause-most g c =
    omega (
      arith,
      (kept g c).few,
      running_same c.self.inside.dead c.start_front.new.progress.overs c.self.inside.lost
          c.start_front.new.bodies.items,
    )
