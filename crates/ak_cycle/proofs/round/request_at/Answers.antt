use Rattle.std.proofs.Common.{◌≡◌, ◌+◌, [], ◌∷◌, ◌∙◌, drop, sym, ap, subst, Some, None, rules, w64, SFits}
use Rattle.std.proofs.lemmas.Int.{to_z-of_z}
use Rattle.std.specs.List.{slice_get}
use Rattle.ak_machine.specs.Cycle.{requests_served}
use Rattle.ak_exec.specs.Worlds.{Worldly}
use Rattle.ak_cycle.specs.Turns.{MayBeServed}
use Rattle.ak_cycle.proofs.Rounds.{slice_is_there, drop_there}
use Rattle.ak_cycle.proofs.Asked.{request_arrives, request_is_next, others_are_next, is_served, others_are_served}
use Rattle.ak_cycle.proofs.round.request_at.Goals as goal

pub unreachable-requires : goal.unreachable-requires
unreachable-requires c =
    let none : slice_get c.args.arrivals.now.requests c.args.k ≡ None = search rules
    in slice_is_there c.args.arrivals.now.requests c.args.k c.requires.some none

pub arrive_request-requires-clause-served : goal.arrive_request-requires-clause-served
arrive_request-requires-clause-served c =
    let all = c.args.arrivals.now.requests
    in let request = c.in-Some.field-0.now
    in let s = c.args.world.now.plain
    in let here : slice_get all c.args.k ≡ Some request = search rules
    in is_served all c.args.k request c.args.world.now.program.ask s s (drop_there all c.args.k request here) c.requires.served

pub arrive_request-requires-clause-next : goal.arrive_request-requires-clause-next
arrive_request-requires-clause-next c =
    let all = c.args.arrivals.now.requests
    in let request = c.in-Some.field-0.now
    in let s = c.args.world.now.plain
    in let here : slice_get all c.args.k ≡ Some request = search rules
    in request_is_next all c.args.k request c.args.world.now.program.ask s s (drop_there all c.args.k request here) c.requires.next

pub returns-clause-arrived : goal.returns-clause-arrived
returns-clause-arrived c =
    let all = c.args.arrivals.now.requests
    in let request = c.in-Some.field-0.now
    in let s = c.args.world.now.plain
    in let t = c.arrive_request.new.world.plain
    in let here : slice_get all c.args.k ≡ Some request = search rules
    in let fits : SFits w64 request.1 = search rules
    in let come : requests_served c.args.world.now.program.ask (request ∷ []) s ≡ Some t =
    subst (λ z. requests_served c.args.world.now.program.ask ((request.0, z) ∷ []) s ≡ Some t) (to_z-of_z w64 request.1 fits)
    c.in_ok-arrive_request.ensures.arrived
    in request_arrives all c.args.k request c.args.world.now.program.ask s t (drop_there all c.args.k request here) come
    ∙ ap (λ (w : Worldly). requests_served w.program.ask (drop (c.args.k + 1) all) t) (sym c.in_ok-arrive_request.ensures.world)

pub returns-clause-served : goal.returns-clause-served
returns-clause-served c =
    let all = c.args.arrivals.now.requests
    in let request = c.in-Some.field-0.now
    in let s = c.args.world.now.plain
    in let here : slice_get all c.args.k ≡ Some request = search rules
    in subst (λ (w : Worldly). MayBeServed w.program.ask (drop (c.args.k + 1) all)) (sym c.in_ok-arrive_request.ensures.world)
    (others_are_served all c.args.k request c.args.world.now.program.ask s s (drop_there all c.args.k request here) c.requires.served)

pub returns-clause-next : goal.returns-clause-next
returns-clause-next c =
    let all = c.args.arrivals.now.requests
    in let request = c.in-Some.field-0.now
    in let s = c.args.world.now.plain
    in let t = c.arrive_request.new.world.plain
    in let here : slice_get all c.args.k ≡ Some request = search rules
    in let fits : SFits w64 request.1 = search rules
    in let come : requests_served c.args.world.now.program.ask (request ∷ []) s ≡ Some t =
    subst (λ z. requests_served c.args.world.now.program.ask ((request.0, z) ∷ []) s ≡ Some t) (to_z-of_z w64 request.1 fits)
    c.in_ok-arrive_request.ensures.arrived
    in others_are_next all c.args.k request c.args.world.now.program.ask s t (drop_there all c.args.k request here) come c.requires.next
