use Rattle.std.proofs.Common.{List, option_map, ap, ◌∙◌}
use Rattle.ak_script.specs.declared.script.Param.{Param}
use Rattle.ak_valid.specs.Valid.{local_named}
use Rattle.ak_valid.proofs.Tables.{kind_looked}
use Rattle.ak_valid.proofs.locals.Locals.kind.Goals as goal

pub returns : goal.returns
returns c = c.copied.ensures ∙ c.get.ensures.value ∙ kind_looked c.self.inside.kinds.entries c.args.name.now
    ∙ ap (λ (known : List Param). option_map (λ (param : Param). param.kind) (local_named known c.args.name.now)) c.self.view_is
