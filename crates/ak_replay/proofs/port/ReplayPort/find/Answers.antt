use Rattle.std.proofs.Common.{◌≡◌, Some, slice_get, subst, refl, rules}
use Rattle.std.specs.Option.{option_copied}
use Rattle.ak_replay.specs.Passing.{IsCall}
use Rattle.ak_replay.specs.Replays.{asked_of, replied_of}
use Rattle.ak_replay.proofs.Ways.{keeps_passed, none_lost, none_yet, other_call, seen, walked_to, call_missed, call_not_made}
use Rattle.ak_replay.proofs.port.ReplayPort.find.Goals as goal

pub invariant_of-self : goal.invariant_of-self
invariant_of-self g c =
    let p = c.self.inside in
    let none = none_yet p c.self.invariant.kept (rw (← c.self.view_is) at c.requires) in
    record {
      named = c.self.invariant.named;
      kept = keeps_passed p c.pass.new.passed c.pass.new.due p.missed c.self.invariant.kept c.pass.ensures.passed (none_lost _ p.missed none);
    }

pub returns-in_err-pass-clause-failed : goal.returns-in_err-pass-clause-failed
returns-in_err-pass-clause-failed g c =
    let p = c.self.inside in
    let none = none_yet p c.self.invariant.kept (rw (← c.self.view_is) at c.requires) in
    let s = record (seen p) { passed = c.pass.new.passed } in
    let both = call_not_made (seen p) s (walked_to p.due c.pass.new.due (seen p) s c.pass.ensures.passed refl) refl none none in
    let a : asked_of s ≡ asked_of c.args.self.now = rw (← c.self.view_is) both.0 in
    let r : replied_of s ≡ replied_of c.args.self.now = rw (← c.self.view_is) both.1 in
    search rules

pub invariant_of-self-then-is_call : goal.invariant_of-self-then-is_call
invariant_of-self-then-is_call g c =
    let p = c.self.inside in
    let none = none_yet p c.self.invariant.kept (rw (← c.self.view_is) at c.requires) in
    record {
      named = c.self.invariant.named;
      kept = keeps_passed p c.pass.new.passed c.pass.new.due p.missed c.self.invariant.kept c.pass.ensures.passed (none_lost _ p.missed none);
    }

pub invariant_of-self-2 : goal.invariant_of-self-2
invariant_of-self-2 g c =
    let p = c.self.inside in
    let next : option_copied c.get.result ≡ slice_get p.history c.pass.new.passed = search rules in
    let other = other_call (slice_get p.history c.pass.new.passed) c.args.ask c.in_ok-pass.ensures.stops
    (subst (λ o. IsCall c.args.ask o → ⊥) next c.if-is_call.ensures) in
    record {
      named = c.self.invariant.named;
      kept = keeps_passed p c.pass.new.passed c.pass.new.due (Some c.args.ask) c.self.invariant.kept c.pass.ensures.passed other;
    }

pub returns-clause-failed : goal.returns-clause-failed
returns-clause-failed g c =
    let p = c.self.inside in
    let none = none_yet p c.self.invariant.kept (rw (← c.self.view_is) at c.requires) in
    let s = record (seen p) { passed = c.pass.new.passed; missed = Some c.args.ask } in
    rw (← c.self.view_is) (call_missed (seen p) s c.args.ask (walked_to p.due c.pass.new.due (seen p) s c.pass.ensures.passed refl) refl none refl)

pub returns-then-is_call-clause-found : goal.returns-then-is_call-clause-found
returns-then-is_call-clause-found g c =
    let p = c.self.inside in
    let none = none_yet p c.self.invariant.kept (rw (← c.self.view_is) at c.requires) in
    let next : option_copied c.get.result ≡ slice_get p.history c.pass.new.passed = search rules in
    (subst (IsCall c.args.ask) next c.if-is_call.ensures, none)
