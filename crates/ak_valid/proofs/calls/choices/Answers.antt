use Rattle.std.proofs.Common.{◌≡◌, take, sym, ap, ◌∙◌, arith}
use Rattle.std.proofs.lemmas.List.{take_all}
use Rattle.std.proofs.lemmas.List.Folds.{flat_map-map}
use Rattle.ak_script.specs.declared.statement.Choice.{Choice}
use Rattle.ak_valid.specs.Uses.{Callee}
use Rattle.ak_valid.specs.Faults.{least, callee_faults}
use Rattle.ak_valid.proofs.LeastKinds.{least_next}
use Rattle.ak_valid.proofs.calls.choices.Goals as goal

pub loop-choice-preserved : goal.loop-choice-preserved
loop-choice-preserved c = least_next
    (λ (choice : Choice). callee_faults c.args.procs.now c.args.locals.now (record {
      name = choice.proc;
      front = 1;
      args =
          c.args.args.now;
    })) c.args.choices.now c.loop-choice.choice-index c.choice-item.result c.loop-choice.fault _ c.call.result
    (omega arith) c.choice-item.is c.loop-choice.invariant c.call.ensures c.lesser-fault.ensures

pub returns : goal.returns
returns c =
    let whole : take c.loop-choice.choice-index c.args.choices.now ≡ c.args.choices.now =
    take_all c.loop-choice.choice-index c.args.choices.now (omega arith) in
    (rw whole at c.loop-choice.invariant)
    ∙ ap least (sym (flat_map-map (callee_faults c.args.procs.now c.args.locals.now)
    (λ (choice : Choice). let r : Callee = record { name = choice.proc; front = 1; args = c.args.args.now } in r) c.args.choices.now))
