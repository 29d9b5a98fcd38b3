use Rattle.std.proofs.Common.{arith}
use Rattle.ak_state.proofs.Bodies.{throttle_fits, throttles_paired}
use Rattle.ak_state.proofs.parts.Parts.begin_body.Goals as goal

pub enqueue_body-requires-clause-few : goal.enqueue_body-requires-clause-few
enqueue_body-requires-clause-few c =
    let f = c.requires.fits
    in rw c.in_ok-to.ensures.fresh (omega (arith, c.in_ok-to.ensures.few, (throttle_fits f.program c.args.t c.args.self.now.plain f.fits).few))

pub enqueue_body-requires-clause-paired : goal.enqueue_body-requires-clause-paired
enqueue_body-requires-clause-paired c =
    let f = c.requires.fits
    in rw c.in_ok-to.ensures.fresh (omega (arith, c.requires.throttle, throttles_paired f.program c.args.self.now.plain f.fits))
