use Rattle.std.proofs.Common.{◌≡◌, ℕ, Bool, true, false, None, List, ◌++◌, ◌∷◌, [], sym, ap, ◌∙◌, codes, arith}
use Rattle.std.specs.Str.{bytes_eq}
use Rattle.ak_row.specs.Parts.{◌>>=◌, word_at}
use Rattle.ak_history.specs.Taking.{drain_of, brought_of, some_drain}
use Rattle.ak_history.proofs.Things.{no_works, no_drain, one_work_more, no_requests, with_requests, all_works, drained, not_drained}
use Rattle.ak_history.proofs.form.drain.Goals as goal

-- whether the word is `requests`
word_is : (word slice : List ℕ) (b c : Bool) → slice ≡ codes "requests" → b ≡ bytes_eq word slice → b ≡ c → bytes_eq word (codes "requests") ≡ c
word_is word slice b c same e is = ap (bytes_eq word) (sym same) ∙ (sym e ∙ is)

pub loop-word-init : goal.loop-word-init
loop-word-init c = rw (c.make-ids.ensures) (no_works (brought_of c.args.row.now))

pub returns-in_default-2 : goal.returns-in_default-2
unfolding drain_of
returns-in_default-2 c =
    no_requests c.loop-word.ids c.loop-word.row c.word.new.self c.in-Some.word.now (brought_of c.args.row.now) c.loop-word.invariant c.in-Some.ensures
    (word_is c.in-Some.word.now c.as_slice.result.now c.eq.result true c.as_slice.ensures c.eq.ensures c.if-eq.true)
    (sym c.in_default-2.is ∙ c.in_ok-requests.ensures)

pub returns-then-eq : goal.returns-then-eq
unfolding drain_of
returns-then-eq c =
    with_requests c.loop-word.ids c.loop-word.row c.word.new.self c.in-Some.word.now
    (brought_of c.args.row.now) c.in-Some-2.requests c.loop-word.invariant c.in-Some.ensures
    (word_is c.in-Some.word.now c.as_slice.result.now c.eq.result true c.as_slice.ensures c.eq.ensures c.if-eq.true)
    (sym c.in-Some-2.is ∙ c.in_ok-requests.ensures)

pub returns-in_default-thing : goal.returns-in_default-thing
unfolding drain_of
returns-in_default-thing c =
    no_drain c.loop-word.ids c.loop-word.row c.word.new.self c.in-Some.word.now (brought_of c.args.row.now) c.loop-word.invariant c.in-Some.ensures
    (word_is c.in-Some.word.now c.as_slice.result.now c.eq.result false c.as_slice.ensures c.eq.ensures c.if-eq.false)
    (sym c.thing.ensures ∙ c.in_default-thing.is)

pub loop-word-preserved : goal.loop-word-preserved
loop-word-preserved c =
    one_work_more c.loop-word.ids c.push.new.self c.loop-word.row c.word.new.self c.in-Some.word.now c.in-Some-thing.id
    (brought_of c.args.row.now) c.loop-word.invariant c.in-Some.ensures
    (word_is c.in-Some.word.now c.as_slice.result.now c.eq.result false c.as_slice.ensures c.eq.ensures c.if-eq.false)
    (sym c.in-Some-thing.ensures)
    (c.in_ok-push.ensures.ok ∙ ap (λ (id : ℕ). c.loop-word.ids ++ id ∷ []) c.new.ensures)

pub returns-then-len-eq0 : goal.returns-then-len-eq0
unfolding drain_of
returns-then-len-eq0 c =
    let over : word_at c.loop-word.row ≡ None = c.in_default.ensures in
    let all = all_works c.loop-word.ids c.loop-word.row (brought_of c.args.row.now) c.loop-word.invariant over in
    sym (ap (λ o. o >>= some_drain) all ∙ not_drained c.loop-word.ids (omega arith))

pub returns : goal.returns
unfolding drain_of
returns c =
    let over : word_at c.loop-word.row ≡ None = c.in_default.ensures in
    let all = all_works c.loop-word.ids c.loop-word.row (brought_of c.args.row.now) c.loop-word.invariant over in
    rw (c.make-requests.ensures) (sym (ap (λ o. o >>= some_drain) all ∙ drained c.loop-word.ids (λ e. absurd (omega arith))))
