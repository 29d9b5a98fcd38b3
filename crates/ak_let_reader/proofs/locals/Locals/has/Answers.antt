use Rattle.std.proofs.Common.{◌≡◌, ℕ, List, Bor, sym, ap, ◌∙◌}
use Rattle.std.specs.List.{list_any}
use Rattle.std.specs.Str.{bytes_eq}
use Rattle.ak_syntax.proofs.Lists.{any_mapped}
use Rattle.ak_let_reader.proofs.locals.Locals.has.Goals as goal

pub returns : goal.returns
returns c =
    c.stands.ensures ∙ ap (list_any (λ (known : Bor (List ℕ)). bytes_eq c.args.name.now known.now)) c.as_slice.ensures.value
    ∙ sym (any_mapped (bytes_eq c.args.name.now) (λ (known : Bor (List ℕ)). known.now) c.self.inside.names.items)
    ∙ ap (list_any (bytes_eq c.args.name.now)) c.self.view_is
