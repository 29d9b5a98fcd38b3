use Rattle.std.proofs.Common.{◌≡◌, take, ◌∙◌, arith}
use Rattle.std.proofs.lemmas.List.{take_all}
use Rattle.ak_valid.specs.Numbered.{numbered_choice, param_names, proc_names}
use Rattle.ak_valid.proofs.Mapping.{mapped_next}
use Rattle.ak_valid.proofs.places.choices.Goals as goal

pub loop-item-preserved : goal.loop-item-preserved
loop-item-preserved c =
    mapped_next (numbered_choice (proc_names c.args.procs.now) (param_names c.args.locals.now)) c.args.choices.now c.loop-item.item-index
    c.item-item.result c.loop-item.numbered.items _ _ (omega arith) c.item-item.is c.loop-item.invariant c.in_ok-push.ensures.items
    c.choice.ensures

pub returns : goal.returns
returns c =
    let whole : take c.loop-item.item-index c.args.choices.now ≡ c.args.choices.now = take_all c.loop-item.item-index c.args.choices.now (omega arith) in
    c.from_vec.ensures ∙ (rw whole at c.loop-item.invariant)
