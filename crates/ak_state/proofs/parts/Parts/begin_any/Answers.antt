use Rattle.ak_cells.specs.Names.{name_in}
use Rattle.ak_machine.specs.declared.held.Purpose.TheVariants.{ForAny}
use Rattle.ak_state.proofs.Choices.{choice_seen}
use Rattle.ak_state.proofs.parts.Parts.begin_any.Goals as goal

pub returns : goal.returns
returns c =
    let items = c.as_slice-i-items.ensures
    in choice_seen c.args.ctx.now c.in_ok-group.group name_in c.args.deferreds c.loop-i.i-index (ForAny c.args.deferreds c.args.to) c.args.self.now
    c.begin_group.new.self c.loop-i.self c.keep_purpose.new.self c.in_ok-group.ensures.fresh c.in_ok-group.ensures.number c.loop-i.invariant.names
    (rw items at c.loop-i-test.false) (rw items at c.loop-i.invariant.registered) c.in_ok-keep_purpose.ensures
