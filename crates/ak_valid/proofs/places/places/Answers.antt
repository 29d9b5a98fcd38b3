use Rattle.std.proofs.Common.{◌≡◌, take, ap, ◌∙◌, arith}
use Rattle.std.proofs.lemmas.List.{take_all}
use Rattle.ak_valid.specs.Numbered.{at, param_names}
use Rattle.ak_valid.proofs.Mapping.{mapped_next}
use Rattle.ak_valid.proofs.places.places.Goals as goal

pub loop-name-preserved : goal.loop-name-preserved
loop-name-preserved c =
    mapped_next (at (param_names c.args.locals.now)) c.args.names.now c.loop-name.name-index c.name-item.result c.loop-name.numbered.items
    _ _ (omega arith) c.name-item.is c.loop-name.invariant c.in_ok-push.ensures.items
    (c.place.ensures ∙ ap (at (param_names c.args.locals.now)) c.as_slice.ensures)

pub returns : goal.returns
returns c =
    let whole : take c.loop-name.name-index c.args.names.now ≡ c.args.names.now = take_all c.loop-name.name-index c.args.names.now (omega arith) in
    c.from_vec.ensures ∙ (rw whole at c.loop-name.invariant)
