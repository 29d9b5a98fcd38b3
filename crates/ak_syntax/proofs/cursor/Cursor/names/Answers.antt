use Rattle.std.proofs.Common.{false, ◌≡◌, Some, None, Ok, refl}
use Rattle.std.proofs.lemmas.Result.{err_from_is_err_and}
use Rattle.ak_syntax.specs.Words.{names_at, plain, name_found, listed_at}
use Rattle.ak_syntax.proofs.Lists.{goes_on, ends, stops, stops_at, refused_as, fewer_words, is_none, plain_ok, plain_err}
use Rattle.ak_syntax.proofs.cursor.Cursor.names.Goals as goal

pub returns-in_err-word : goal.returns-in_err-word
returns-in_err-word c =
    let p = err_from_is_err_and c.from_residual.result c.from_residual.ensures.1 in
    rw (p.1, p.2) (refused_as c.in_err-word.field-0.0 (listed_at c.args.until c.loop-names.self) (names_at c.args.until c.args.self.now) c.in_err-word.ensures
    (λ kind h. stops (plain name_found) c.args.until c.loop-names.self c.loop-names.names _ kind c.loop-names.invariant h))

pub returns-in_err-name : goal.returns-in_err-name
returns-in_err-name c =
    let p = err_from_is_err_and c.from_residual-in_err-name.result c.from_residual-in_err-name.ensures.1 in
    let next : listed_at c.args.until c.loop-names.self ≡ Ok (Some c.in-Some.word.now, c.listed.new.self) = rw (c.in-Some.is) at c.in_ok-word.ensures in
    rw (p.1, p.2) (refused_as c.in_err-name.field-0.0 (name_found c.in-Some.word.now) (names_at c.args.until c.args.self.now) c.in_err-name.ensures
    (λ kind h. stops_at (plain name_found) c.args.until c.loop-names.self c.listed.new.self c.loop-names.names c.in-Some.word.now _ kind
    c.loop-names.invariant next (plain_err name_found c.in-Some.word.now kind h)))

pub loop-names-smaller : goal.loop-names-smaller
loop-names-smaller c =
    let next : listed_at c.args.until c.loop-names.self ≡ Ok (Some c.in-Some.word.now, c.listed.new.self) = rw (c.in-Some.is) at c.in_ok-word.ensures in
    fewer_words c.args.until c.loop-names.self c.listed.new.self c.in-Some.word.now next

pub loop-names-preserved : goal.loop-names-preserved
loop-names-preserved c =
    let next : listed_at c.args.until c.loop-names.self ≡ Ok (Some c.in-Some.word.now, c.listed.new.self) = rw (c.in-Some.is) at c.in_ok-word.ensures in
    goes_on (plain name_found) c.args.until c.loop-names.self c.listed.new.self c.listed.new.self c.loop-names.names c.push.new.self
    c.in-Some.word.now c.in_ok-name.field-0 false _
    c.loop-names.invariant next (plain_ok name_found c.in-Some.word.now c.in_ok-name.field-0 c.in_ok-name.ensures) c.in_ok-push.ensures.ok refl refl

pub returns : goal.returns
returns c =
    let over : listed_at c.args.until c.loop-names.self ≡ Ok (None, c.listed.new.self) =
    rw (is_none c.in_ok-word.field-0 c.in_default.not-Some) at c.in_ok-word.ensures in
    ends (plain name_found) c.args.until c.loop-names.self c.listed.new.self c.loop-names.names _ c.loop-names.invariant over
