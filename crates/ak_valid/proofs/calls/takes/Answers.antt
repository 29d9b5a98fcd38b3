use Rattle.std.proofs.Common.{◌≡◌, take, drop, ◌++◌, sym, ap, ◌∙◌}
use Rattle.std.specs.List.{flat_map}
use Rattle.ak_valid.specs.Uses.{Callee}
use Rattle.ak_valid.specs.Faults.{front_faults, args_faults, count_faults}
use Rattle.ak_valid.proofs.LeastKinds.{least_two, take_min, drop_min}
use Rattle.ak_valid.proofs.calls.takes.Goals as goal

pub returns : goal.returns
returns c called =
    let numbers : c.split_at.result.0.now ≡ take c.args.in_front c.args.params.now =
    c.split_at.ensures.front ∙ ap (λ n. take n c.args.params.now) c.min.ensures ∙ take_min c.args.params.now c.args.in_front in
    let rest : c.split_at.result.1.now ≡ drop c.args.in_front c.args.params.now =
    c.split_at.ensures.back ∙ ap (λ n. drop n c.args.params.now) c.min.ensures ∙ drop_min c.args.params.now c.args.in_front in
    let callee : Callee = record { name = called; front = c.args.in_front; args = c.args.args.now } in
    rw (sym numbers, sym rest)
    (least_two (flat_map front_faults c.split_at.result.0.now ++ args_faults c.args.locals.now c.args.args.now
    c.split_at.result.1.now) (count_faults c.args.params.now callee) c.lesser-kinds.result c.count.result c.lesser.result
    (least_two (flat_map front_faults c.split_at.result.0.now) (args_faults c.args.locals.now c.args.args.now c.split_at.result.1.now)
    c.front.result c.all_passed.result c.lesser-kinds.result c.front.ensures c.all_passed.ensures c.lesser-kinds.ensures)
    c.count.ensures c.lesser.ensures)
