use Rattle.ak_state.proofs.Works.{arriving_to, arriving_in, arriving_fits}
use Rattle.ak_state.proofs.parts.Parts.arrive.Goals as goal

pub fill-requires : goal.fill-requires
fill-requires c =
    c.check_drawn.ensures
    (arriving_to c.args.self.now c.take_work.new.self c.note.new.self c.args.no c.args.outcome c.in-Some.work c.requires.fits c.in-Some.ensures.work
    c.take_work.ensures.rest c.in_ok-note.ensures.ok)

pub send-requires-clause-monitor : goal.send-requires-clause-monitor
send-requires-clause-monitor c =
    arriving_in c.args.self.now c.take_work.new.self c.note.new.self c.args.no c.args.outcome c.in-Some.work c.requires.fits c.in-Some.ensures.work
    c.take_work.ensures.rest c.in_ok-note.ensures.ok

pub send-requires-clause-fits : goal.send-requires-clause-fits
send-requires-clause-fits c =
    arriving_fits c.args.self.now c.take_work.new.self c.note.new.self c.args.no c.args.outcome c.requires.fits c.take_work.ensures.rest
    c.in_ok-note.ensures.ok
