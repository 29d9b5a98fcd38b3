use Rattle.std.proofs.Common.{◌≡◌, ap, ◌∙◌}
use Rattle.std.proofs.lemmas.Slice.Zip.{Zip-more, either_empty_from_Zip}
use Rattle.ak_valid.specs.Faults.{args_faults, least}
use Rattle.ak_valid.proofs.LeastKinds.{args_next, args_end}
use Rattle.ak_valid.proofs.calls.all_passed.Goals as goal

pub loop-a-init : goal.loop-a-init
loop-a-init c =
    let first : c.into_iter-a-iterator.result.a.rest.now ≡ c.args.args.now =
    ap (λ it. it.a.rest.now) c.into_iter-a-iterator.ensures.into_iter_gives ∙ ap (λ it. it.rest.now) c.zip-a-items.ensures.first
    ∙ c.iter.ensures.rest in
    let taken : c.zip-a-items.result.b.rest.now ≡ c.args.params.now = c.zip-a-items.ensures.second.0 in
    let second : c.into_iter-a-iterator.result.b.rest.now ≡ c.args.params.now =
    ap (λ it. it.b.rest.now) c.into_iter-a-iterator.ensures.into_iter_gives ∙ taken in
    λ i. least (args_faults c.args.locals.now (first i) (second i))

pub loop-a-preserved : goal.loop-a-preserved
loop-a-preserved c =
    let more = Zip-more c.loop-a.a-iterator c.next.new.self c.next.result (c.in-Some.a, c.in-Some.param) c.in-Some.is c.next.ensures.steps in
    args_next c.args.locals.now c.loop-a.a-iterator.a.rest.now c.next.new.self.a.rest.now c.loop-a.a-iterator.b.rest.now
    c.next.new.self.b.rest.now c.in-Some.a.now c.in-Some.param.now _ c.loop-a.fault c.lesser-fault.result c.passed.result
    more.0 more.1 c.loop-a.invariant c.passed.ensures c.lesser-fault.ensures

pub returns : goal.returns
returns c = args_end c.args.locals.now c.loop-a.a-iterator.a.rest.now c.loop-a.a-iterator.b.rest.now _ c.loop-a.fault
    (either_empty_from_Zip c.loop-a.a-iterator c.next.new.self c.next.result c.in-None.is c.next.ensures.steps) c.loop-a.invariant
