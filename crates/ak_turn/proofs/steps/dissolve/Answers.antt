use Rattle.std.proofs.Common.{subst}
use Rattle.ak_turn.proofs.Ends.{ends, same_value, no_value}
use Rattle.ak_turn.specs.Steps.{IsAll}
use Rattle.ak_turn.proofs.steps.dissolve.Goals as goal

pub returns : goal.returns
returns g c = let k = ends _ _ _ _ _ _ _ _ c.close_with-closed.ensures.values.2 c.requires.all.0 c.requires.all.1.1 _ c.take-value.ensures.value in
    subst (IsAll g.G.Guarded.log g.G.Guarded.may g.G.Guarded.fits c.args.desk.shared.key.items c.args.seat.me.0.passes) (same_value _ _ _ k.1 c.in-Some.is) k.2

pub unreachable-requires : goal.unreachable-requires
unreachable-requires g c = let k =
    ends _ _ _ _ _ _ _ _ c.close_with-closed.ensures.values.2 c.requires.all.0 c.requires.all.1.1 _ c.take-value.ensures.value in
    no_value _ _ k.1 c.in-None.is
