use Rattle.std.proofs.Common.{◌≡◌, true, slice_get, Some, subst, arith, rules}
use Rattle.std.proofs.lemmas.Option.{slice_get_within}
use Rattle.ak_replay.specs.Passing.{IsNoted}
use Rattle.ak_replay.proofs.Ways.{passed_next}
use Rattle.ak_replay.proofs.passing.pass.Goals as goal

pub overflow_add-passed : goal.overflow_add-passed
overflow_add-passed c =
    let there : slice_get c.args.history.now c.loop-event.passed ≡ Some c.in-Some.event.now = search rules in
    let lt = slice_get_within c.args.history.now c.loop-event.passed c.in-Some.event.now there in
    search (rules, lt)

pub loop-event-smaller : goal.loop-event-smaller
loop-event-smaller c =
    let there : slice_get c.args.history.now c.loop-event.passed ≡ Some c.in-Some.event.now = search rules in
    omega (arith, slice_get_within c.args.history.now c.loop-event.passed c.in-Some.event.now there)

pub loop-event-preserved : goal.loop-event-preserved
loop-event-preserved c =
    let there : slice_get c.args.history.now c.loop-event.passed ≡ Some c.in-Some.event.now = search rules in
    let yes : c.in_ok-note.field-0 ≡ true = search rules in
    let noted = subst (λ b. IsNoted b c.in-Some.event.now c.loop-event.due c.note.new.due) yes c.in_ok-note.ensures.noted in
    passed_next c.args.history.now c.args.passed.now c.loop-event.passed c.args.due.now c.loop-event.due c.note.new.due c.in-Some.event.now
    c.loop-event.invariant there noted.0 noted.1
