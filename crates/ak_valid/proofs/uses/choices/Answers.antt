use Rattle.std.proofs.Common.{◌≡◌, take, sym, ap, ◌∙◌, arith}
use Rattle.std.proofs.lemmas.List.{take_all}
use Rattle.std.proofs.lemmas.List.Folds.{flat_map-map}
use Rattle.ak_script.specs.declared.script.Kind.TheVariants.{Def}
use Rattle.ak_script.specs.declared.statement.Choice.{Choice}
use Rattle.ak_valid.specs.Uses.{local}
use Rattle.ak_valid.specs.Faults.{use_faults, least}
use Rattle.ak_valid.proofs.LeastKinds.{least_next}
use Rattle.ak_valid.proofs.uses.choices.Goals as goal

pub loop-choice-preserved : goal.loop-choice-preserved
loop-choice-preserved c =
    least_next (λ (choice : Choice). use_faults c.args.locals.now (local choice.d Def)) c.args.choices.now c.loop-choice.choice-index
    c.choice-item.result c.loop-choice.fault _ c.local.result (omega arith) c.choice-item.is c.loop-choice.invariant c.local.ensures
    c.lesser-fault.ensures

pub returns : goal.returns
returns c =
    let whole : take c.loop-choice.choice-index c.args.choices.now ≡ c.args.choices.now =
    take_all c.loop-choice.choice-index c.args.choices.now (omega arith) in
    (rw whole at c.loop-choice.invariant)
    ∙ ap least (sym (flat_map-map (use_faults c.args.locals.now) (λ (choice : Choice). local choice.d Def) c.args.choices.now))
