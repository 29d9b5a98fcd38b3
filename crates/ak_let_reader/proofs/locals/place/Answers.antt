use Rattle.std.proofs.Common.{◌≡◌, ℕ, List, Option, Bor, length, unwrap_or, ap, ◌∙◌}
use Rattle.std.specs.Str.{bytes_eq}
use Rattle.ak_valid.proofs.Tables.{place_or}
use Rattle.ak_let_reader.proofs.locals.place.Goals as goal

pub returns : goal.returns
returns c =
    c.unwrap_or.ensures ∙ ap (λ (o : Option ℕ). unwrap_or o (length c.args.names.now)) c.position.ensures
    ∙ place_or (λ (known : Bor (List ℕ)). bytes_eq c.args.name.now known.now) c.args.names.now
