use Rattle.std.proofs.Common.{◌≡◌, length, refl, rules}
use Rattle.ak_replay.specs.Replays.{asked_of}
use Rattle.ak_replay.proofs.Ways.{calls_made, seen}
use Rattle.ak_replay.proofs.port.ReplayPortPort.wait.Goals as goal

pub returns-clause-ok : goal.returns-clause-ok
returns-clause-ok g c =
    let opened = rw (← c.self.view_is) at c.requires.open in
    let made : c.self.inside.at.calls ≡ length (asked_of c.args.self.now) =
    rw (← c.self.view_is) (calls_made (seen c.self.inside) c.self.inside.at c.self.inside.due c.self.invariant.kept refl opened) in
    search (rules, made)
