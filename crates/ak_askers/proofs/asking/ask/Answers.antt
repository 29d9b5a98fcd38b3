use Rattle.std.proofs.Common.{◌≡◌, [], ◌∷◌, ◌++◌, rules, ap, subst, ◌∙◌, append_assoc, false}
use Rattle.std.specs.Int.{w64}
use Rattle.std.proofs.lemmas.Int.{to_z-of_z}
use Rattle.ak_history.specs.declared.event.Event.TheVariants as event
use Rattle.ak_hub.specs.Askings.{is_made}
use Rattle.ak_hub.specs.Hubs.{Gave}
use Rattle.ak_turn.specs.Entries.{events}
use Rattle.ak_askers.proofs.Holding.{asking_stays, asking_more, stops_closed, stops_untold, not_left, not_waiting, made_then}
use Rattle.ak_askers.proofs.asking.ask.Goals as goal

pub answer_or_wait-requires-clause-made : goal.answer_or_wait-requires-clause-made
answer_or_wait-requires-clause-made g c =
    let made = c.in-Ok.ensures.ok in
    ap (λ l. is_made l c.in-Ok.no) made.1.seen ∙ made_then (events made.0) c.args.asker c.in-Ok.no _

pub unreachable-requires : goal.unreachable-requires
unreachable-requires g c =
    let at = c.requires.asking in
    let none = c.in-Err-Ended.ensures.err in
    let left = rw c.in-Err-Ended.field-0-is at none.2 in
    not_left c.args.hub.now c.args.asker at.0 at.1 c.args.pass.now c.args.told.now.items none.0 at.2 none.1.hold left.1

pub unreachable-requires-in-Err-Waiting : goal.unreachable-requires-in-Err-Waiting
unreachable-requires-in-Err-Waiting g c =
    let at = c.requires.asking in
    let none = c.in-Err-Waiting.ensures.err in
    let waits = rw c.in-Err-Waiting.field-0-is at none.2 in
    absurd (cc (waits.2, not_waiting c.args.hub.now c.args.asker at.0 at.1 c.args.pass.now c.args.told.now.items none.0 at.2 none.1.hold))

pub returns-in-Some-clause-step : goal.returns-in-Some-clause-step
returns-in-Some-clause-step g c = λ nums p is.
    let made = c.in-Ok.ensures.ok in
    let gave = subst (λ z. Gave c.args.hub.now c.args.pass.now made.0 (event.Request c.in-Ok.no c.args.asker z ∷ []) c.request.new.pass)
    (to_z-of_z w64 c.args.num c.ranges.num) made.1 in
    let told = c.in-Some.ensures.told in
    let back = c.answer_or_wait.ensures.pass in
    let now : c.push_reserved.new.self.items ≡ c.args.told.now.items ++ (c.in-Ok.no, c.in-Some.answer) ∷ [] = search rules in
    asking_more c.args.hub.now c.args.asker nums p c.args.pass.now c.args.told.now.items is c.request.new.pass c.answer_or_wait.new.pass made.0 told.0
    c.in-Ok.no c.args.num c.request.ensures.pass gave ((back.0.0, back.0.1 ∙ c.request.ensures.pass.0.1), back.1) told.1
    c.in-Some.answer c.push_reserved.new.self.items told.2 now

pub returns-in-None-clause-step : goal.returns-in-None-clause-step
returns-in-None-clause-step g c = λ nums p is plan on.
    let made = c.in-Ok.ensures.ok in
    let gave = subst (λ z. Gave c.args.hub.now c.args.pass.now made.0 (event.Request c.in-Ok.no c.args.asker z ∷ []) c.request.new.pass)
    (to_z-of_z w64 c.args.num c.ranges.num) made.1 in
    let told = c.in-None.ensures.told in
    let back = c.answer_or_wait.ensures.pass in
    stops_untold c.args.hub.now c.args.asker nums p c.args.pass.now c.args.told.now.items is c.request.new.pass c.answer_or_wait.new.pass made.0 told.0
    c.in-Ok.no c.args.num c.request.ensures.pass gave ((back.0.0, back.0.1 ∙ c.request.ensures.pass.0.1), back.1) told.1
    plan false told.2.0 told.2.1 on

pub returns-in-Err-NoMemory-clause-step : goal.returns-in-Err-NoMemory-clause-step
returns-in-Err-NoMemory-clause-step g c = λ nums p is.
    let none = c.in-Err-NoMemory.ensures.err in
    asking_stays c.args.hub.now c.args.asker nums p c.args.pass.now c.args.told.now.items is c.request.new.pass none.0 c.request.ensures.pass none.1

pub returns-in-Err-Closed-clause-step : goal.returns-in-Err-Closed-clause-step
returns-in-Err-Closed-clause-step g c = λ nums p is plan on.
    let none = c.in-Err-Closed.ensures.err in
    stops_closed c.args.hub.now c.args.asker nums p c.args.pass.now c.args.told.now.items is plan false c.request.new.pass none.0 c.request.ensures.pass none.1
    (rw c.in-Err-Closed.field-0-is at none.2) (c.args.num ∷ on.0, on.1 ∙ append_assoc nums (c.args.num ∷ []) on.0)
