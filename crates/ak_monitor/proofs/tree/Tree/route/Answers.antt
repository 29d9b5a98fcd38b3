use Rattle.std.proofs.Common.{rules, arith, ap, sym, ◌≡◌, ◌+◌, ◌<◌, ◌^◌, ◌∙◌, length, subst}
use Rattle.std.specs.Prelude.{false}
use Rattle.ak_monitor.specs.declared.route.Route.{Route}
use Rattle.ak_monitor.specs.Monitors as plain
use Rattle.ak_monitor.specs.Ways.{IsWay, is_detached}
use Rattle.ak_monitor.proofs.Paths.{route_above, route_found, is_way}
use Rattle.ak_monitor.proofs.tree.Tree.route.Goals as goal

pub overflow_add-passed : goal.overflow_add-passed
overflow_add-passed g c =
    let few : length c.args.self.now < 2 ^ 32 = search rules
    in let small : c.loop-at.passed + 1 < 2 ^ 32 = omega (arith, few, c.requires, c.loop-at.invariant.small, c.above-at.ensures.older)
    in search rules

pub loop-at-preserved : goal.loop-at-preserved
loop-at-preserved g c =
    let inv = c.loop-at.invariant
    in let undetached : is_detached c.args.self.now c.loop-at.at ≡ false = search rules
    in let e = route_above _ _ _ c.above-at.ensures.path undetached
    in record {
      exists = omega (arith, c.above-at.ensures.older, inv.exists);
      small = omega (arith, c.above-at.ensures.older, inv.small);
      caught = inv.caught ∙ ap (λ w. w.caught) e;
      passed = omega (arith, inv.passed, ap (λ w. w.passed) e);
    }

-- what was found is the way from m
found : (g : _) (c : goal.After-route_at g) → c.route_at.result ≡ plain.route c.args.self.now c.args.m
found g c =
    let inv = c.loop-at.invariant
    in c.route_at.ensures ∙ route_found c.args.self.now c.args.m c.loop-at.at c.loop-at.passed inv.exists (sym c.loop-at-test.ensures) inv.caught inv.passed

pub returns-clause-route : goal.returns-clause-route
returns-clause-route g c = found g c

pub returns-clause-way : goal.returns-clause-way
returns-clause-way g c =
    subst (λ (w : Route). IsWay c.args.self.now (plain.path c.args.self.now c.args.m) w) (sym (found g c)) (is_way _ (plain.path c.args.self.now c.args.m))
