use Rattle.std.proofs.Common.{◌≡◌, ℕ, List, Bor, sym, ap, ◌∙◌}
use Rattle.std.specs.List.{position_or_len}
use Rattle.std.specs.Str.{bytes_eq}
use Rattle.ak_valid.proofs.Naming.{place_mapped}
use Rattle.ak_let_reader.proofs.locals.Locals.place.Goals as goal

pub returns : goal.returns
returns c =
    c.place.ensures ∙ ap (position_or_len (λ (known : Bor (List ℕ)). bytes_eq c.args.name.now known.now)) c.as_slice.ensures.value
    ∙ sym (place_mapped (bytes_eq c.args.name.now) (λ (known : Bor (List ℕ)). known.now) c.self.inside.names.items)
    ∙ ap (position_or_len (bytes_eq c.args.name.now)) c.self.view_is
