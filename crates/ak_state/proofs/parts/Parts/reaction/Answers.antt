use Rattle.std.proofs.Common.{◌≡◌, w64, to_z, of_z}
use Rattle.std.proofs.lemmas.Int.{to_z-of_z}
use Rattle.ak_cells.specs.Names.{name_in}
use Rattle.ak_machine.specs.Mapped.{handled_mapped}
use Rattle.ak_state.proofs.Errors.{calls_as, tells_as, tells_body_as, calls_or_tells}
use Rattle.ak_state.proofs.parts.Parts.reaction.Goals as goal

pub returns-in_ok-vals-in-OnError-clause-acts : goal.returns-in_ok-vals-in-OnError-clause-acts
returns-in_ok-vals-in-OnError-clause-acts c =
    let z : to_z w64 (of_z w64 c.args.num) ≡ c.args.num = to_z-of_z w64 c.args.num c.ranges.num
    in calls_as (name_in c.args.self.now.names) c.args.num c.handler-handler.result.now c.in-OnError.proc c.in-OnError.vals c.in_ok-vals-in-OnError.vals _
    c.handler-handler.ensures c.in-OnError.is (rw z at c.in_ok-vals-in-OnError.ensures)

pub returns-in-OfGuard-clause-acts : goal.returns-in-OfGuard-clause-acts
returns-in-OfGuard-clause-acts c =
    tells_as (name_in c.args.self.now.names) c.args.num c.handler-handler.result.now c.in-OfGuard.guard _ c.handler-handler.ensures c.in-OfGuard.is

pub returns-in-OfGuard-clause-guard : goal.returns-in-OfGuard-clause-guard
returns-in-OfGuard-clause-guard c =
    let h = handled_mapped (name_in c.args.self.now.names) c.handler-handler.result.now
    in rw c.in-OfGuard.is at (calls_or_tells c.args.c c.args.k h c.args.self.now.plain c.requires.fits c.handler-handler.ensures).act

pub returns-in-OfBody-clause-acts : goal.returns-in-OfBody-clause-acts
returns-in-OfBody-clause-acts c =
    tells_body_as (name_in c.args.self.now.names) c.args.num c.handler-handler.result.now c.in-OfBody.body _ c.handler-handler.ensures c.in-OfBody.is
