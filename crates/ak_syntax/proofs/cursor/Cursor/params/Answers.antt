use Rattle.std.proofs.Common.{false, ◌≡◌, Some, None, Ok, refl}
use Rattle.std.proofs.lemmas.Result.{err_from_is_err_and}
use Rattle.ak_syntax.specs.declared.cursor.Until.TheVariants.{LineEnd}
use Rattle.ak_syntax.specs.Words.{params_at, plain, param_found, listed_at}
use Rattle.ak_syntax.proofs.Lists.{goes_on, ends, stops, stops_at, refused_as, fewer_words, is_none, plain_ok, plain_err}
use Rattle.ak_syntax.proofs.cursor.Cursor.params.Goals as goal

pub returns-in_err-word : goal.returns-in_err-word
returns-in_err-word c =
    let p = err_from_is_err_and c.from_residual.result c.from_residual.ensures.1 in
    rw (p.1, p.2) (refused_as c.in_err-word.field-0.0 (listed_at LineEnd c.loop-params.self) (params_at c.args.self.now) c.in_err-word.ensures
    (λ kind h. stops (plain param_found) LineEnd c.loop-params.self c.loop-params.params _ kind c.loop-params.invariant h))

pub returns-in_err-param : goal.returns-in_err-param
returns-in_err-param c =
    let p = err_from_is_err_and c.from_residual-in_err-param.result c.from_residual-in_err-param.ensures.1 in
    let next : listed_at LineEnd c.loop-params.self ≡ Ok (Some c.in-Some.word.now, c.listed.new.self) = rw (c.in-Some.is) at c.in_ok-word.ensures in
    rw (p.1, p.2) (refused_as c.in_err-param.field-0.0 (param_found c.in-Some.word.now) (params_at c.args.self.now) c.in_err-param.ensures
    (λ kind h. stops_at (plain param_found) LineEnd c.loop-params.self c.listed.new.self c.loop-params.params c.in-Some.word.now _ kind
    c.loop-params.invariant next (plain_err param_found c.in-Some.word.now kind h)))

pub loop-params-smaller : goal.loop-params-smaller
loop-params-smaller c =
    let next : listed_at LineEnd c.loop-params.self ≡ Ok (Some c.in-Some.word.now, c.listed.new.self) = rw (c.in-Some.is) at c.in_ok-word.ensures in
    fewer_words LineEnd c.loop-params.self c.listed.new.self c.in-Some.word.now next

pub loop-params-preserved : goal.loop-params-preserved
loop-params-preserved c =
    let next : listed_at LineEnd c.loop-params.self ≡ Ok (Some c.in-Some.word.now, c.listed.new.self) = rw (c.in-Some.is) at c.in_ok-word.ensures in
    goes_on (plain param_found) LineEnd c.loop-params.self c.listed.new.self c.listed.new.self c.loop-params.params c.push.new.self
    c.in-Some.word.now c.in_ok-param.field-0 false _
    c.loop-params.invariant next (plain_ok param_found c.in-Some.word.now c.in_ok-param.field-0 c.in_ok-param.ensures) c.in_ok-push.ensures.ok refl refl

pub returns : goal.returns
returns c =
    let over : listed_at LineEnd c.loop-params.self ≡ Ok (None, c.listed.new.self) =
    rw (is_none c.in_ok-word.field-0 c.in_default.not-Some) at c.in_ok-word.ensures in
    ends (plain param_found) LineEnd c.loop-params.self c.listed.new.self c.loop-params.params _ c.loop-params.invariant over
