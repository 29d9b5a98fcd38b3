use Rattle.std.proofs.Common.{◌≡◌, Some, None, Ok, ap}
use Rattle.std.proofs.lemmas.Result.{err_from_is_err_and}
use Rattle.ak_syntax.specs.Words.{args_at, atom_found, listed_at}
use Rattle.ak_syntax.proofs.Lists.{goes_on, ends, stops, stops_at, refused_as, fewer_words, is_none}
use Rattle.ak_syntax.proofs.cursor.Cursor.args.Goals as goal

pub returns-in_err-word : goal.returns-in_err-word
returns-in_err-word c =
    let p = err_from_is_err_and c.from_residual.result c.from_residual.ensures.1 in
    rw (p.1, p.2) (refused_as c.in_err-word.field-0.0 (listed_at c.args.until c.loop-args.self) (args_at c.args.until c.args.self.now) c.in_err-word.ensures
    (λ kind h. stops atom_found c.args.until c.loop-args.self c.loop-args.args _ kind c.loop-args.invariant h))

pub returns-in_err-arg : goal.returns-in_err-arg
returns-in_err-arg c =
    let p = err_from_is_err_and c.from_residual-in_err-arg.result c.from_residual-in_err-arg.ensures.1 in
    let next : listed_at c.args.until c.loop-args.self ≡ Ok (Some c.in-Some.word.now, c.listed.new.self) = rw (c.in-Some.is) at c.in_ok-word.ensures in
    rw (p.1, p.2) (refused_as c.in_err-arg.field-0.0 (atom_found c.in-Some.word.now) (args_at c.args.until c.args.self.now) c.in_err-arg.ensures
    (λ kind h. stops_at atom_found c.args.until c.loop-args.self c.listed.new.self c.loop-args.args c.in-Some.word.now _ kind c.loop-args.invariant next h))

pub loop-args-smaller : goal.loop-args-smaller
loop-args-smaller c =
    let next : listed_at c.args.until c.loop-args.self ≡ Ok (Some c.in-Some.word.now, c.listed.new.self) = rw (c.in-Some.is) at c.in_ok-word.ensures in
    rw (c.mark.ensures) (fewer_words c.args.until c.loop-args.self c.listed.new.self c.in-Some.word.now next)

pub loop-args-preserved : goal.loop-args-preserved
loop-args-preserved c =
    let next : listed_at c.args.until c.loop-args.self ≡ Ok (Some c.in-Some.word.now, c.listed.new.self) = rw (c.in-Some.is) at c.in_ok-word.ensures in
    goes_on atom_found c.args.until c.loop-args.self c.listed.new.self c.mark.new.self c.loop-args.args c.push.new.self c.in-Some.word.now
    c.in_ok-arg.arg c.in_ok-arg.faulty _
    c.loop-args.invariant next c.in_ok-arg.ensures c.in_ok-push.ensures.ok (ap (λ w. w.words) c.mark.ensures) (ap (λ w. w.faulty) c.mark.ensures)

pub returns : goal.returns
returns c =
    let over : listed_at c.args.until c.loop-args.self ≡ Ok (None, c.listed.new.self) =
    rw (is_none c.in_ok-word.field-0 c.in_default.not-Some) at c.in_ok-word.ensures in
    ends atom_found c.args.until c.loop-args.self c.listed.new.self c.loop-args.args _ c.loop-args.invariant over
