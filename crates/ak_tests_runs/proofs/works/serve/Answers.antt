use Rattle.std.proofs.Common.{sym, ap, subst, ◌∙◌, length, arith}
use Rattle.ak_crew.specs.Workers.{AreAtRest}
use Rattle.ak_tests_runs.proofs.Resting.{length_new, fresh_rest, all_idle_more}
use Rattle.ak_tests_runs.proofs.works.serve.Goals as goal

pub serve_all-hands-requires-clause-count : goal.serve_all-hands-requires-clause-count
serve_all-hands-requires-clause-count g c κs within =
    let hub = c.in_ok-hub.hub in
    let size = ap length c.in_ok-passes.ensures.passes ∙ length_new hub.turn 1 c.args.threads in
    let same = c.in_ok-hub.ensures.hub.0 in
    (omega (arith, size, same), omega (arith, same, c.requires.threads.1))

pub serve_all-hands-requires-clause-rest : goal.serve_all-hands-requires-clause-rest
serve_all-hands-requires-clause-rest g c κs within =
    let hub = c.in_ok-hub.hub in
    subst (λ l. AreAtRest g.L.Labor.carried hub 0 c.args.hands.items l) (sym c.in_ok-passes.ensures.passes)
    (fresh_rest g.L.Labor.carried hub 0 c.args.threads c.args.hands.items c.requires.hands.0 c.requires.hands.1)

pub dissolve-requires : goal.dissolve-requires
dissolve-requires g c =
    let hub = c.in_ok-hub.hub in
    let r = c.serve_all-hands.result in
    all_idle_more g.L.Labor.carried hub r.0.0.items r.0.1.items c.push.new.self.items r.1.1 c.in_ok-push.ensures.items
    c.serve_all-hands.ensures.rest c.serve_all-hands.ensures.zero.0
