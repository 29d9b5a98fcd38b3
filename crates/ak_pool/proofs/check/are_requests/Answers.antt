use Rattle.std.proofs.Common.{ℕ, ◌<◌, List, map, length, sym, ◌∙◌, arith}
use Rattle.std.proofs.lemmas.List.{take_all, take_more_same, get_or-map, get_or_read, length-map}
use Rattle.ak_pool.specs.declared.requests.Made.{Made}
use Rattle.ak_pool.proofs.check.are_requests.Goals as goal

pub loop-k-preserved : goal.loop-k-preserved
loop-k-preserved c =
    let ids : List ℕ = c.args.ids.now in
    let made : List Made = c.args.made.now in
    let k = c.loop-k.k in
    let f = λ (m : Made). m.no in
    let below : k < length made = omega (arith, c.if-ids-made.false, c.loop-k-test.true) in
    take_more_same ids (map f made) k 0 c.loop-k-test.true (omega (arith, below, length-map made f)) c.loop-k.invariant
    (sym (get_or_read ids k c.index-ids-k.result c.loop-k-test.true c.index-ids-k.is 0)
    ∙ sym c.number.ensures ∙ c.if-number.false ∙ c.number-in-loop-k.ensures
    ∙ sym (get_or-map f made k c.index-made-k.result 0 below))

pub returns : goal.returns
returns c =
    let ids : List ℕ = c.args.ids.now in
    let made : List Made = c.args.made.now in
    let k = c.loop-k.k in
    let f = λ (m : Made). m.no in
    sym (take_all k ids c.loop-k-test.false) ∙ c.loop-k.invariant
    ∙ take_all k (map f made) (omega (arith, length-map made f, c.if-ids-made.false, c.loop-k-test.false))
