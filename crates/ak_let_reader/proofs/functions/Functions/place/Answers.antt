use Rattle.std.proofs.Common.{◌≡◌, ℕ, List, Option, refl, sym, ap, subst, ◌∙◌}
use Rattle.ak_valid.specs.Numbered.{at}
use Rattle.ak_let_syntax.specs.declared.named.NamedFun.{NamedFun}
use Rattle.ak_let_reader.specs.Numbered.{fun_names}
use Rattle.ak_let_reader.proofs.Positions.{place_told}
use Rattle.ak_let_reader.proofs.functions.Functions.place.Goals as goal

pub returns : goal.returns
returns c =
    c.unwrap_or.ensures
    ∙ place_told c.self.inside.places.entries c.self.inside.funs.now c.args.name.now c.copied.result _ c.self.invariant
    (c.copied.ensures ∙ c.get.ensures.value) refl
    ∙ ap (λ (funs : List NamedFun). at (fun_names funs) c.args.name.now) c.self.view_is
