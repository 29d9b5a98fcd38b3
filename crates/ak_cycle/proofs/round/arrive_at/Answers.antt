use Rattle.std.proofs.Common.{◌≡◌, ◌+◌, drop, map, Some, None, rules}
use Rattle.std.specs.List.{slice_get}
use Rattle.std.proofs.lemmas.Result.{IfOk-weaker}
use Rattle.ak_machine.specs.declared.flow.Flow.TheVariants as flow
use Rattle.ak_machine.specs.Cycle.{arrive, arrive_all}
use Rattle.ak_state.specs.Errors.{after_is}
use Rattle.ak_ledger.specs.Outside.{AreOut, work_kept}
use Rattle.ak_cycle.specs.Turns.{arrived_to}
use Rattle.ak_cycle.proofs.Rounds.{slice_is_there, one_arrives, one_is_out, others_are_out}
use Rattle.ak_cycle.proofs.round.arrive_at.Goals as goal

pub arrive-requires-clause-out : goal.arrive-requires-clause-out
arrive-requires-clause-out c =
    let here : slice_get c.args.arrivals.now.works c.args.k ≡ Some c.in-Some.field-0.now = search rules
    in one_is_out c.args.arrivals.now.works c.args.k c.in-Some.field-0.now c.args.world.now.plain here c.requires.out

pub unreachable-requires : goal.unreachable-requires
unreachable-requires c =
    let none : slice_get c.args.arrivals.now.works c.args.k ≡ None = search rules
    in slice_is_there c.args.arrivals.now.works c.args.k c.requires.some none

pub returns-clause-arrived : goal.returns-clause-arrived
returns-clause-arrived c =
    let all = c.args.arrivals.now.works
    in let pair = c.in-Some.field-0.now
    in let s = c.args.world.now.plain
    in let t = c.arrive.new.world.plain
    in let here : slice_get all c.args.k ≡ Some pair = search rules
    in IfOk-weaker c.arrive.result (λ f. arrive pair.0 pair.1 s ≡ Some (after_is f t))
    (λ f. arrive_all (drop c.args.k all) s ≡ arrived_to f (drop (c.args.k + 1) all) t)
    (λ f h. one_arrives all c.args.k pair s t f here h) c.arrive.ensures.arrived

pub returns-clause-out : goal.returns-clause-out
returns-clause-out c =
    let all = c.args.arrivals.now.works
    in let pair = c.in-Some.field-0.now
    in let s = c.args.world.now.plain
    in let t = c.arrive.new.world.plain
    in let here : slice_get all c.args.k ≡ Some pair = search rules
    in IfOk-weaker c.arrive.result (λ f. arrive pair.0 pair.1 s ≡ Some (after_is f t))
    (λ f. f ≡ flow.On → AreOut (map work_kept t.works) (drop (c.args.k + 1) all))
    (λ f h on. others_are_out all c.args.k pair s t f here c.requires.out h on) c.arrive.ensures.arrived
