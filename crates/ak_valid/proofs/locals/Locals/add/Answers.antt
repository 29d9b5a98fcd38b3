use Rattle.std.proofs.Common.{sym, ◌∙◌, refl}
use Rattle.ak_valid.proofs.Tables.{local_twice, local_added}
use Rattle.ak_valid.proofs.locals.Locals.add.Goals as goal

pub returns-then-contains_key : goal.returns-then-contains_key
returns-then-contains_key c = (
  local_twice c.self.inside.kinds.entries c.args.name.now c.args.self.now c.self.view_is
      (sym c.contains_key.ensures ∙ c.if-contains_key.true),
  refl,
)

pub returns : goal.returns
returns c = local_added c.self.inside.kinds.entries c.insert.new.self.entries c.args.name c.args.kind c.args.self.now c.self.view_is
    (sym c.contains_key.ensures ∙ c.if-contains_key.false) c.in_ok-insert.ensures.entries
