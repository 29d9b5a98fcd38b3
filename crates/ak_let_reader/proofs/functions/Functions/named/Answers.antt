use Rattle.std.proofs.Common.{List, ap, ◌∙◌}
use Rattle.std.specs.List.{slice_get}
use Rattle.ak_let_syntax.specs.declared.named.NamedFun.{NamedFun}
use Rattle.ak_let_reader.proofs.Positions.{named_told}
use Rattle.ak_let_reader.proofs.functions.Functions.named.Goals as goal

pub returns : goal.returns
returns c =
    c.at_place.ensures ∙ ap (λ (funs : List NamedFun). slice_get funs c.place.result) c.self.view_is
    ∙ ap (slice_get c.args.self.now) c.place.ensures ∙ named_told c.args.self.now c.args.name.now
