use Rattle.std.proofs.Common.{◌≡◌, ◌∙◌, Some, ap, sym, subst, refl}
use Rattle.ak_machine.specs.declared.flow.Flow.{Flow}
use Rattle.ak_machine.specs.declared.flow.Flow.TheVariants as flow
use Rattle.ak_machine.specs.Cycle.{arrive_all, requests_served, with_left}
use Rattle.ak_state.specs.Errors.{after_is}
use Rattle.ak_exec.specs.Worlds.{Worldly, with_state}
use Rattle.ak_cycle.proofs.Rounds.{works_out, drain_may, next_behind, fetched_on, fetched_off, fetch_stops, gained}
use Rattle.ak_cycle.specs.Turns.{MayBeServed}
use Rattle.ak_cycle.proofs.round.fetch.Goals as goal

pub arrive_all-requires-clause-out : goal.arrive_all-requires-clause-out
arrive_all-requires-clause-out g c = works_out _ _ _ _ _ _ c.drain.new.into c.requires.at c.in_ok-drain.ensures.arrive

pub returns-in_err-arrive_all-clause-memory : goal.returns-in_err-arrive_all-clause-memory
returns-in_err-arrive_all-clause-memory g c short =
    fetch_stops _ _ _ c.arrive_all.new.world _ _ _ _ _ _ c.drain.new.into c.requires.at c.in_ok-drain.ensures.asked.0 c.in_ok-drain.ensures.asked.1
    c.in_ok-drain.ensures.waits c.in_ok-drain.ensures.arrive _ c.requires.askers c.in_ok-drain.ensures.serves

pub arrive_requests-requires-clause-served : goal.arrive_requests-requires-clause-served
arrive_requests-requires-clause-served g c =
    let may : MayBeServed c.args.world.now.program.ask c.drain.new.into.requests =
    drain_may _ _ c.args.world.now c.arrive_all.new.world _ _ _ _ _ _ c.drain.new.into c.requires.at c.in_ok-drain.ensures.asked.0
    c.in_ok-drain.ensures.asked.1 c.in_ok-drain.ensures.waits c.in_ok-drain.ensures.arrive _ c.requires.askers c.in_ok-drain.ensures.serves
    in subst (λ (w : Worldly). MayBeServed w.program.ask c.drain.new.into.requests) (sym c.in_ok-arrive_all.ensures.world) may

pub arrive_requests-requires-clause-next : goal.arrive_requests-requires-clause-next
arrive_requests-requires-clause-next g c =
    let s = c.arrive_all.new.world.plain
    in let on : arrive_all c.drain.new.into.works c.args.world.now.plain ≡ Some (after_is flow.On s) =
    c.in_ok-arrive_all.ensures.arrived ∙ ap (λ (f : Flow). Some (after_is f s)) c.in-On.is
    in next_behind _ _ c.args.world.now c.arrive_all.new.world _ _ _ _ _ _ c.drain.new.into c.requires.at c.in_ok-drain.ensures.asked.0
    c.in_ok-drain.ensures.asked.1 c.in_ok-drain.ensures.waits c.in_ok-drain.ensures.arrive _ c.requires.askers c.in_ok-drain.ensures.serves
    (after_is flow.On s) on refl

pub returns-in_err-arrive_requests-in-On-clause-memory : goal.returns-in_err-arrive_requests-in-On-clause-memory
returns-in_err-arrive_requests-in-On-clause-memory g c short =
    fetch_stops _ _ _ c.arrive_requests.new.world _ _ _ _ _ _ c.drain.new.into c.requires.at c.in_ok-drain.ensures.asked.0 c.in_ok-drain.ensures.asked.1
    c.in_ok-drain.ensures.waits c.in_ok-drain.ensures.arrive _ c.requires.askers c.in_ok-drain.ensures.serves

pub returns-in_ok-arrive_requests-in-On-clause-brought : goal.returns-in_ok-arrive_requests-in-On-clause-brought
returns-in_ok-arrive_requests-in-On-clause-brought g c =
    let s = c.arrive_all.new.world.plain
    in let t = c.arrive_requests.new.world.plain
    in let on : arrive_all c.drain.new.into.works c.args.world.now.plain ≡ Some (after_is flow.On s) =
    c.in_ok-arrive_all.ensures.arrived ∙ ap (λ (f : Flow). Some (after_is f s)) c.in-On.is
    in let come : requests_served c.args.world.now.program.ask c.drain.new.into.requests s ≡ Some t =
    subst (λ (w : Worldly). requests_served w.program.ask c.drain.new.into.requests s ≡ Some t) c.in_ok-arrive_all.ensures.world
    c.in_ok-arrive_requests-in-On.ensures.arrived
    in let is : c.set_left.new.world ≡ with_state (with_left c.drain.new.into.left t) c.args.world.now =
    c.set_left.ensures ∙ ap (λ n. with_state (with_left n t) c.arrive_requests.new.world) c.left.ensures
    ∙ ap (λ (w : Worldly). with_state (with_left c.drain.new.into.left t) w) c.in_ok-arrive_requests-in-On.ensures.world
    ∙ ap (λ (w : Worldly). with_state (with_left c.drain.new.into.left t) w) c.in_ok-arrive_all.ensures.world
    in fetched_on _ _ _ c.set_left.new.world _ _ _ _ _ _ c.drain.new.into c.requires.at c.in_ok-drain.ensures.asked.0 c.in_ok-drain.ensures.asked.1
    c.in_ok-drain.ensures.waits c.in_ok-drain.ensures.arrive _ c.requires.askers c.in_ok-drain.ensures.serves s t on come is

pub returns-in_ok-arrive_requests-in-On-clause-gained : goal.returns-in_ok-arrive_requests-in-On-clause-gained
returns-in_ok-arrive_requests-in-On-clause-gained g c goes =
    let s = c.arrive_all.new.world.plain
    in let t = c.arrive_requests.new.world.plain
    in let on : arrive_all c.drain.new.into.works c.args.world.now.plain ≡ Some (after_is flow.On s) =
    c.in_ok-arrive_all.ensures.arrived ∙ ap (λ (f : Flow). Some (after_is f s)) c.in-On.is
    in let come : requests_served c.args.world.now.program.ask c.drain.new.into.requests s ≡ Some t =
    subst (λ (w : Worldly). requests_served w.program.ask c.drain.new.into.requests s ≡ Some t) c.in_ok-arrive_all.ensures.world
    c.in_ok-arrive_requests-in-On.ensures.arrived
    in let is : c.set_left.new.world ≡ with_state (with_left c.drain.new.into.left t) c.args.world.now =
    c.set_left.ensures ∙ ap (λ n. with_state (with_left n t) c.arrive_requests.new.world) c.left.ensures
    ∙ ap (λ (w : Worldly). with_state (with_left c.drain.new.into.left t) w) c.in_ok-arrive_requests-in-On.ensures.world
    ∙ ap (λ (w : Worldly). with_state (with_left c.drain.new.into.left t) w) c.in_ok-arrive_all.ensures.world
    in gained _ _ _ c.set_left.new.world _ _ _ _ _ _ c.drain.new.into c.requires.at c.in_ok-drain.ensures.asked.0 c.in_ok-drain.ensures.asked.1
    c.in_ok-drain.ensures.waits c.in_ok-drain.ensures.arrive _ c.requires.askers c.in_ok-drain.ensures.serves s t _ _ on come is
    c.in_ok-drain.ensures.woken

pub returns-in_default-clause-brought : goal.returns-in_default-clause-brought
returns-in_default-clause-brought g c =
    fetched_off _ _ _ c.arrive_all.new.world _ _ _ _ _ _ c.drain.new.into c.requires.at c.in_ok-drain.ensures.asked.0 c.in_ok-drain.ensures.asked.1
    c.in_ok-drain.ensures.waits c.in_ok-drain.ensures.arrive _ c.requires.askers c.in_ok-drain.ensures.serves c.in_ok-arrive_all.field-0
    c.arrive_all.new.world.plain c.in_ok-arrive_all.ensures.arrived c.in_default.not-On c.in_ok-arrive_all.ensures.told c.in_ok-arrive_all.ensures.world
