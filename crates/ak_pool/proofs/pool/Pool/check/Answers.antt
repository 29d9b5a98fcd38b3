use Rattle.std.proofs.Common.{List, [], length, ap, sym, ◌∙◌, subst, arith}
use Rattle.std.proofs.lemmas.List.{take_all}
use Rattle.ak_history.specs.declared.event.Event.{Event}
use Rattle.ak_history.specs.Legal.{Legal}
use Rattle.ak_pool.specs.AskersStand.{AskersStand, request_facts}
use Rattle.ak_pool.specs.Facts.{facts_of}
use Rattle.ak_pool.specs.Pools.{IsFirstIllegal}
use Rattle.ak_pool.specs.Stands.{Stands}
use Rattle.ak_pool.proofs.Askers.{asked_first}
use Rattle.ak_pool.proofs.Helpers.{stands_first}
use Rattle.ak_pool.proofs.Checks.{first_illegal, submits_below, helpers_below, judged}
use Rattle.ak_pool.proofs.pool.Pool.check.Goals as goal

pub returns-then-not-fits-clause-refused : goal.returns-then-not-fits-clause-refused
returns-then-not-fits-clause-refused c =
    let xs : List Event = c.as_slice-event-items.result.now in
    let so_far = c.loop-place.invariant in
    subst (λ ys. IsFirstIllegal c.args.threads c.args.askers ys c.loop-place.place) c.as_slice-event-items.ensures
    (first_illegal c.args.threads c.args.askers xs c.loop-place.place c.event-item.result c.loop-place.desk c.loop-place.requests
    c.loop-place-test.true c.event-item.is so_far.legal so_far.stands so_far.asked c.if-not-fits.ensures)

pub note-requires-clause-submits : goal.note-requires-clause-submits
note-requires-clause-submits c =
    omega (
      arith,
      submits_below c.args.threads c.as_slice-event-items.result.now c.loop-place.place c.loop-place.desk
          c.loop-place-test.true c.loop-place.invariant.stands,
      ap length c.as_slice-event-items.ensures,
    )

pub note-requires-clause-helpers : goal.note-requires-clause-helpers
note-requires-clause-helpers c =
    omega (
      arith,
      helpers_below c.args.threads c.as_slice-event-items.result.now c.loop-place.place c.loop-place.desk
          c.loop-place-test.true c.loop-place.invariant.stands,
      ap length c.as_slice-event-items.ensures,
    )

pub loop-place-init : goal.loop-place-init
loop-place-init c = record {
  legal = tt;
  stands = subst (λ d. Stands c.args.threads (facts_of []) d) (sym c.in_ok-desk.ensures) (stands_first c.args.threads);
  asked = subst (λ r. AskersStand c.args.askers (request_facts []) r) (sym c.in_ok-requests.ensures) (asked_first c.args.askers);
}

pub loop-place-preserved : goal.loop-place-preserved
loop-place-preserved c =
    judged c.args.threads c.args.askers c.as_slice-event-items.result.now c.loop-place.place c.event-item.result c.loop-place.desk
    c.note.new.desk c.loop-place.requests c.note_request.new.requests
    c.loop-place-test.true c.event-item.is c.loop-place.invariant c.if-not-fits.ensures.0 c.if-not-fits.ensures.1 c.in_ok-note.ensures
    c.in_ok-note_request.ensures

pub returns-clause-legal : goal.returns-clause-legal
returns-clause-legal c =
    let xs : List Event = c.as_slice-event-items.result.now in
    subst (Legal c.args.threads c.args.askers) (take_all c.loop-place.place xs c.loop-place-test.false ∙ c.as_slice-event-items.ensures)
    c.loop-place.invariant.legal
