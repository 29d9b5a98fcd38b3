use Rattle.std.proofs.Common.{◌≡◌, ◌++◌, ◌∷◌, [], ◌∙◌, length, sym, ap, subst, arith, rules}
use Rattle.std.specs.Prelude.{IfErr}
use Rattle.std.specs.List.{filter_map}
use Rattle.ak_labor.specs.declared.ask.Ask.TheVariants as ask
use Rattle.ak_labor.specs.Waits.{handed_by}
use Rattle.ak_replay.specs.Replays.{asked_of, HasFailed}
use Rattle.ak_replay.proofs.Ways.{submits_made}
use Rattle.ak_replay.proofs.port.ReplayPortPort.submit.Goals as goal

pub expect-requires-clause-room : goal.expect-requires-clause-room
expect-requires-clause-room g c =
    let p = c.self.inside in
    let opened = rw (← c.self.view_is) at c.requires.open in
    let many = rw (← c.self.view_is) at c.requires.numbers in
    rw (← c.self.view_is) (omega (arith, many, sym c.self.invariant.kept.submits ∙ submits_made p c.self.invariant.kept opened))

pub returns-in_err-expect-clause-asked : goal.returns-in_err-expect-clause-asked
returns-in_err-expect-clause-asked g c =
    let p = c.self.inside in
    let opened = rw (← c.self.view_is) at c.requires.open in
    let made : p.at.submits ≡ length (filter_map handed_by (asked_of c.args.self.now)) =
    rw (← c.self.view_is) (submits_made p c.self.invariant.kept opened) in
    let failed =
    subst (λ n. IfErr c.expect.result (λ e. HasFailed (ask.Submit n c.args.work c.args.helper) e c.args.self.now c.expect.new.self))
    (c.new-id.ensures ∙ made) c.expect.ensures.failed in
    search rules

pub returns-clause-number : goal.returns-clause-number
returns-clause-number g c =
    let p = c.self.inside in
    let opened = rw (← c.self.view_is) at c.requires.open in
    c.new-id.ensures ∙ rw (← c.self.view_is) (submits_made p c.self.invariant.kept opened)

pub returns-clause-asked : goal.returns-clause-asked
returns-clause-asked g c =
    let p = c.self.inside in
    let opened = rw (← c.self.view_is) at c.requires.open in
    let made : p.at.submits ≡ length (filter_map handed_by (asked_of c.args.self.now)) =
    rw (← c.self.view_is) (submits_made p c.self.invariant.kept opened) in
    let passed = c.in_ok-expect.ensures.ok.1 in
    (passed.asked ∙ ap (λ n. asked_of c.args.self.now ++ ask.Submit n c.args.work c.args.helper ∷ []) (c.new-id.ensures ∙ made), passed.replied)
