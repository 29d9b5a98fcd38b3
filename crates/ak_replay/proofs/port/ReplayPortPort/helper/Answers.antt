use Rattle.std.proofs.Common.{◌≡◌, ◌++◌, ◌∷◌, [], ◌∙◌, length, sym, ap, subst, arith, rules}
use Rattle.std.specs.Prelude.{IfErr}
use Rattle.std.specs.List.{filter_map}
use Rattle.ak_labor.specs.declared.ask.Ask.TheVariants as ask
use Rattle.ak_labor.specs.Calls.{Granted}
use Rattle.ak_labor.specs.Waits.{helper_in}
use Rattle.ak_replay.specs.Passing.{is_grant}
use Rattle.ak_replay.specs.Replays.{asked_of, replied_of, HasFailed}
use Rattle.ak_replay.proofs.Ways.{helpers_made}
use Rattle.ak_replay.proofs.port.ReplayPortPort.helper.Goals as goal

pub expect-requires-clause-room : goal.expect-requires-clause-room
expect-requires-clause-room g c =
    let p = c.self.inside in
    let opened = rw (← c.self.view_is) at c.requires.open in
    let many = rw (← c.self.view_is) at c.requires.numbers in
    rw (← c.self.view_is) (omega (arith, many, sym c.self.invariant.kept.helpers ∙ helpers_made p c.self.invariant.kept opened))

pub returns-in_err-expect-clause-asked : goal.returns-in_err-expect-clause-asked
returns-in_err-expect-clause-asked g c =
    let p = c.self.inside in
    let opened = rw (← c.self.view_is) at c.requires.open in
    let made : p.at.helpers ≡ length (filter_map helper_in (asked_of c.args.self.now)) =
    rw (← c.self.view_is) (helpers_made p c.self.invariant.kept opened) in
    let failed =
    subst (λ n. IfErr c.expect.result (λ e. HasFailed (ask.HelperNew n) e c.args.self.now c.expect.new.self))
    (c.new-no.ensures ∙ made) c.expect.ensures.failed in
    search rules

pub returns-clause-asked : goal.returns-clause-asked
returns-clause-asked g c =
    let p = c.self.inside in
    let opened = rw (← c.self.view_is) at c.requires.open in
    let made : p.at.helpers ≡ length (filter_map helper_in (asked_of c.args.self.now)) =
    rw (← c.self.view_is) (helpers_made p c.self.invariant.kept opened) in
    let passed = c.in_ok-expect.ensures.ok.1 in
    let last = rw (← c.self-2.view_is) at passed.last in
    let granted : is_grant c.in_ok-expect.ensures.ok.0 ≡ c.is_some_and.result = search rules in (
      passed.asked ∙ ap (λ n. asked_of c.args.self.now ++ ask.HelperNew n ∷ []) (c.new-no.ensures ∙ made),
      passed.replied ∙ ap (λ b. replied_of c.args.self.now ++ Granted b ∷ []) granted,
    )
