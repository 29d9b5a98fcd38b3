use Rattle.std.proofs.Common.{◌≡◌, ℕ, None, ◌++◌, ◌∷◌, [], sym, ap, ◌∙◌, arith}
use Rattle.ak_row.specs.Parts.{◌>>=◌, word_at}
use Rattle.ak_history.specs.Taking.{longs_of, some_requests, requests_of}
use Rattle.ak_history.proofs.Things.{no_front, no_request, one_request_more, all_requests, are_some, are_none}
use Rattle.ak_history.proofs.form.requests.Goals as goal

pub loop-word-init : goal.loop-word-init
loop-word-init c = rw (c.make-requests.ensures) (no_front (longs_of c.args.row.now))

pub returns-in_default-long : goal.returns-in_default-long
unfolding requests_of
returns-in_default-long c =
    no_request c.loop-word.requests c.loop-word.row c.word.new.self c.in-Some.word.now
    (longs_of c.args.row.now) c.loop-word.invariant c.in-Some.ensures (sym c.long.ensures ∙ c.in_default-long.is)

pub loop-word-preserved : goal.loop-word-preserved
loop-word-preserved c =
    one_request_more c.loop-word.requests c.push.new.self c.loop-word.row c.word.new.self c.in-Some.word.now c.in-Some-long.no
    (longs_of c.args.row.now) c.loop-word.invariant c.in-Some.ensures (sym c.in-Some-long.ensures)
    (c.in_ok-push.ensures.ok ∙ ap (λ (q : ℕ). c.loop-word.requests ++ q ∷ []) c.new.ensures)

pub returns-then-len-eq0 : goal.returns-then-len-eq0
unfolding requests_of
returns-then-len-eq0 c =
    let over : word_at c.loop-word.row ≡ None = c.in_default.ensures in
    let all = all_requests c.loop-word.requests c.loop-word.row (longs_of c.args.row.now) c.loop-word.invariant over in
    let none : some_requests c.loop-word.requests ≡ None = are_none c.loop-word.requests (omega arith) in
    sym (ap (λ o. o >>= some_requests) all ∙ none)

pub returns : goal.returns
unfolding requests_of
returns c =
    let over : word_at c.loop-word.row ≡ None = c.in_default.ensures in
    let all = all_requests c.loop-word.requests c.loop-word.row (longs_of c.args.row.now) c.loop-word.invariant over in
    sym (ap (λ o. o >>= some_requests) all ∙ are_some c.loop-word.requests (λ e. absurd (omega arith)))
