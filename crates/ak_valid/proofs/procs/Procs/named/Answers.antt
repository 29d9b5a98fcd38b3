use Rattle.std.proofs.Common.{List, ◌∙◌, ap}
use Rattle.std.specs.Option.{option_copied}
use Rattle.ak_script.specs.declared.script.Proc.{Proc}
use Rattle.ak_valid.specs.Valid.{proc_named}
use Rattle.ak_valid.proofs.Tables.{proc_looked}
use Rattle.ak_valid.proofs.procs.Procs.named.Goals as goal

pub returns : goal.returns
returns c = ap option_copied (c.copied.ensures ∙ c.get.ensures.value) ∙ proc_looked c.self.inside.procs.entries c.args.name.now
    c.self.invariant ∙ ap (λ (procs : List Proc). proc_named procs c.args.name.now) c.self.view_is
