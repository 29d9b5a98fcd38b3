use Rattle.ak_rerun.proofs.Meeting.{tells}
use Rattle.ak_rerun.proofs.rerun.rerun.Goals as goal

pub returns-clause-exact : goal.returns-clause-exact
returns-clause-exact c =
    tells c.args.program c.args.config c.args.history c.run_on.result
    (c.one_meeting.ensures c.args.program c.args.config c.args.history) c.run_on.ensures.ran c.run_on.ensures.departs
