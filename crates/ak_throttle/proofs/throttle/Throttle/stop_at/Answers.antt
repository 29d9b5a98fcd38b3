use Rattle.std.proofs.Common.{rules, arith, ◌≡◌, ◌<◌, ◌+◌, ◌^◌, ◌∙◌, ap, sym, length}
use Rattle.std.specs.Prelude.{true, slice_set}
use Rattle.std.specs.VecDeque.{deque_len}
use Rattle.ak_throttle.specs.Throttle as plain
use Rattle.ak_throttle.specs.Seen.{throttle_of}
use Rattle.ak_throttle.proofs.Bodies.{runs_in, stopped_same, running_same}
use Rattle.ak_throttle.proofs.Kept.{small_alive}
use Rattle.ak_throttle.proofs.throttle.Throttle.stop_at.Goals as goal

pub end-requires : goal.end-requires
end-requires g c =
    let p = c.self.inside
    in runs_in p.dead p.progress.overs p.lost p.bodies.items c.args.no (ap (λ t. plain.stage_in c.args.no t) c.self.view_is ∙ c.requires)

pub lost-self-inside-requires : goal.lost-self-inside-requires
lost-self-inside-requires g c =
    let p = c.self.inside
    in λ alive.
    let small : length p.progress.overs + length p.bodies.items < 2 ^ 32 =
    small_alive p.most p.dead p.progress p.lost p.bodies.items p.marks.items c.self.invariant alive
    in let same : length p.bodies.items ≡ deque_len p.bodies = search rules
    in omega (arith, small, same)

pub returns-clause-bodies : goal.returns-clause-bodies
returns-clause-bodies g c =
    let p = c.self.inside
    in let runs = runs_in p.dead p.progress.overs p.lost p.bodies.items c.args.no (ap (λ t. plain.stage_in c.args.no t) c.self.view_is ∙ c.requires)
    in ap (λ overs. throttle_of p.most p.stop true overs c.lost-self-inside.result p.bodies.items p.marks.items) c.end.ensures.overs
    ∙ ap (λ lost. throttle_of p.most p.stop true (slice_set p.progress.overs c.args.no true) lost p.bodies.items p.marks.items) c.lost-self-inside.ensures
    ∙ sym (stopped_same p.most p.stop p.dead p.progress.overs p.lost p.bodies.items p.marks.items c.args.no runs)
    ∙ ap (λ t. plain.killed (plain.body_over c.args.no t)) c.self.view_is

pub returns-clause-most : goal.returns-clause-most
returns-clause-most g c =
    omega (
      arith,
      c.self.invariant.few,
      c.end.ensures.running,
      running_same true c.end.new.self.overs c.lost-self-inside.result c.self.inside.bodies.items,
    )
