use Rattle.std.proofs.Common.{◌≡◌, true, arith, rules}
use Rattle.ak_machine.specs.declared.held.Fate.TheVariants.{Over}
use Rattle.ak_machine.specs.Throttles.{with_fate, started_at}
use Rattle.ak_state.specs.Bodies.{is_failing}
use Rattle.ak_state.proofs.Bodies.{throttles_paired, over_grows}
use Rattle.ak_state.proofs.Errors.{some_grown}
use Rattle.ak_state.proofs.Ends.{failing_is, failing_stage}
use Rattle.ak_state.proofs.parts.Parts.fail_body.Goals as goal

pub lose_body-requires-clause-runs : goal.lose_body-requires-clause-runs
lose_body-requires-clause-runs c =
    let b = c.args.b.now
    in let s = c.args.self.now
    in let failing : is_failing (started_at b s.plain).fate ≡ true = search rules
    in rw c.set_fate.ensures (failing_stage c.requires.program b s.plain c.requires.fits (failing_is b s.plain failing).fate)

pub lose_body-requires-clause-throttle : goal.lose_body-requires-clause-throttle
lose_body-requires-clause-throttle c =
    let b = c.args.b.now
    in let s = c.args.self.now
    in let failing : is_failing (started_at b s.plain).fate ≡ true = search rules
    in rw c.set_fate.ensures
    (omega (arith, (failing_is b s.plain failing).there.throttle, throttles_paired c.requires.program s.plain c.requires.fits))

pub lose_body-requires-clause-fits : goal.lose_body-requires-clause-fits
lose_body-requires-clause-fits c =
    let b = c.args.b.now
    in let s = c.args.self.now
    in rw c.set_fate.ensures
    (some_grown s.plain (with_fate Over b s.plain) c.requires (over_grows c.requires.program b s.plain c.requires.fits))
