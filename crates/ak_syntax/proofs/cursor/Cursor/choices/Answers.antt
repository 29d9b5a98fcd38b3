use Rattle.std.proofs.Common.{◌≡◌, Some, None, Ok}
use Rattle.std.proofs.lemmas.Result.{err_from_is_err_and}
use Rattle.ak_syntax.specs.declared.cursor.Until.TheVariants.{With}
use Rattle.ak_syntax.specs.Words.{choices_at, listed_at, name_found, name_at}
use Rattle.ak_syntax.proofs.Lists.{choice_goes_on, choices_end, choices_stop, choice_stops_at, choice_stops_second, refused_as, fewer_choices, is_none}
use Rattle.ak_syntax.proofs.cursor.Cursor.choices.Goals as goal

pub returns-in_err-word : goal.returns-in_err-word
returns-in_err-word c =
    let p = err_from_is_err_and c.from_residual.result c.from_residual.ensures.1 in
    rw (p.1, p.2) (refused_as c.in_err-word.field-0.0 (listed_at With c.loop-choices.self) (choices_at c.args.self.now) c.in_err-word.ensures
    (λ kind h. choices_stop c.loop-choices.self c.loop-choices.choices _ kind c.loop-choices.invariant h))

pub returns-in_err-d : goal.returns-in_err-d
returns-in_err-d c =
    let p = err_from_is_err_and c.from_residual-in_err-d.result c.from_residual-in_err-d.ensures.1 in
    let next : listed_at With c.loop-choices.self ≡ Ok (Some c.in-Some.word.now, c.listed.new.self) = rw (c.in-Some.is) at c.in_ok-word.ensures in
    rw (p.1, p.2) (refused_as c.in_err-d.field-0.0 (name_found c.in-Some.word.now) (choices_at c.args.self.now) c.in_err-d.ensures
    (λ kind h. choice_stops_at c.loop-choices.self c.listed.new.self c.loop-choices.choices c.in-Some.word.now _ kind c.loop-choices.invariant next h))

pub returns-in_err-proc : goal.returns-in_err-proc
returns-in_err-proc c =
    let p = err_from_is_err_and c.from_residual-in_err-proc.result c.from_residual-in_err-proc.ensures.1 in
    let next : listed_at With c.loop-choices.self ≡ Ok (Some c.in-Some.word.now, c.listed.new.self) = rw (c.in-Some.is) at c.in_ok-word.ensures in
    rw (p.1, p.2) (refused_as c.in_err-proc.field-0.0 (name_at c.listed.new.self) (choices_at c.args.self.now) c.in_err-proc.ensures
    (λ kind h. choice_stops_second c.loop-choices.self c.listed.new.self c.loop-choices.choices c.in-Some.word.now c.in_ok-d.d _ kind
    c.loop-choices.invariant next c.in_ok-d.ensures h))

pub loop-choices-smaller : goal.loop-choices-smaller
loop-choices-smaller c =
    let next : listed_at With c.loop-choices.self ≡ Ok (Some c.in-Some.word.now, c.listed.new.self) = rw (c.in-Some.is) at c.in_ok-word.ensures in
    fewer_choices c.loop-choices.self c.listed.new.self c.name-in-Some.new.self c.in-Some.word.now c.in_ok-proc.proc next c.in_ok-proc.ensures

pub loop-choices-preserved : goal.loop-choices-preserved
loop-choices-preserved c =
    let next : listed_at With c.loop-choices.self ≡ Ok (Some c.in-Some.word.now, c.listed.new.self) = rw (c.in-Some.is) at c.in_ok-word.ensures in
    choice_goes_on c.loop-choices.self c.listed.new.self c.name-in-Some.new.self c.loop-choices.choices c.push.new.self c.in-Some.word.now
    c.in_ok-d.d c.in_ok-proc.proc _
    c.loop-choices.invariant next c.in_ok-d.ensures c.in_ok-proc.ensures c.in_ok-push.ensures.ok

pub returns : goal.returns
returns c =
    let over : listed_at With c.loop-choices.self ≡ Ok (None, c.listed.new.self) =
    rw (is_none c.in_ok-word.field-0 c.in_default.not-Some) at c.in_ok-word.ensures in
    choices_end c.loop-choices.self c.listed.new.self c.loop-choices.choices _ c.loop-choices.invariant over
