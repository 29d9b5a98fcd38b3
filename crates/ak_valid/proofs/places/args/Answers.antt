use Rattle.std.proofs.Common.{◌≡◌, take, ◌∙◌, arith}
use Rattle.std.proofs.lemmas.List.{take_all}
use Rattle.ak_valid.specs.Numbered.{numbered_atom, param_names}
use Rattle.ak_valid.proofs.Mapping.{mapped_next}
use Rattle.ak_valid.proofs.places.args.Goals as goal

pub loop-a-preserved : goal.loop-a-preserved
loop-a-preserved c = mapped_next (numbered_atom (param_names c.args.locals.now)) c.args.args.now c.loop-a.a-index c.a-item.result
    c.loop-a.numbered.items _ _ (omega arith) c.a-item.is c.loop-a.invariant c.in_ok-push.ensures.items c.atom.ensures

pub returns : goal.returns
returns c =
    let whole : take c.loop-a.a-index c.args.args.now ≡ c.args.args.now = take_all c.loop-a.a-index c.args.args.now (omega arith) in
    c.from_vec.ensures ∙ (rw whole at c.loop-a.invariant)
