use Rattle.std.proofs.Common.{sym, ◌∙◌}
use Rattle.std.specs.List.{flat_map}
use Rattle.ak_valid.specs.Uses.{local, number}
use Rattle.ak_valid.specs.Faults.{use_faults}
use Rattle.ak_valid.proofs.LeastKinds.{least_append}
use Rattle.ak_valid.proofs.uses.local_and_number.Goals as goal

pub returns : goal.returns
returns c = c.lesser.ensures
    ∙ rw (c.local.ensures, c.number.ensures)
    (sym (least_append (use_faults c.args.locals.now (local c.args.name.now c.args.wanted))
    (flat_map (use_faults c.args.locals.now) (number c.args.a.now))))
