use Rattle.std.proofs.Common.{◌≡◌, List, ℕ, take, sym, ap, ◌∙◌, arith}
use Rattle.std.proofs.lemmas.List.{take_all}
use Rattle.std.proofs.lemmas.List.Folds.{flat_map-map}
use Rattle.ak_script.specs.declared.script.Kind.TheVariants.{Def}
use Rattle.ak_valid.specs.Uses.{local}
use Rattle.ak_valid.specs.Faults.{use_faults, least}
use Rattle.ak_valid.proofs.LeastKinds.{least_next}
use Rattle.ak_valid.proofs.uses.deferreds.Goals as goal

pub loop-name-preserved : goal.loop-name-preserved
loop-name-preserved c =
    least_next (λ (d : List ℕ). use_faults c.args.locals.now (local d Def)) c.args.names.now c.loop-name.name-index c.name-item.result
    c.loop-name.fault _ c.local.result (omega arith) c.name-item.is c.loop-name.invariant c.local.ensures c.lesser-fault.ensures

pub returns : goal.returns
returns c =
    let whole : take c.loop-name.name-index c.args.names.now ≡ c.args.names.now = take_all c.loop-name.name-index c.args.names.now (omega arith) in
    (rw whole at c.loop-name.invariant) ∙ ap least (sym (flat_map-map (use_faults c.args.locals.now) (λ (d : List ℕ). local d Def) c.args.names.now))
