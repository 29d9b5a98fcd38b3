use Rattle.ak_meets.proofs.SomeMeeting.{some_meeting}
use Rattle.ak_meets.proofs.law.some_meeting.Goals as goal

pub returns : goal.returns
returns c = some_meeting
