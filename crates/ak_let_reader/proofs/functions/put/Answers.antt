use Rattle.std.proofs.Common.{sym, ◌∙◌}
use Rattle.ak_let_reader.proofs.Positions.{places_added, places_kept}
use Rattle.ak_let_reader.proofs.functions.put.Goals as goal

pub returns-then-contains_key : goal.returns-then-contains_key
returns-then-contains_key c = λ names place h.
    places_kept c.args.places.now.entries names c.args.name.now h (sym c.contains_key.ensures ∙ c.if-contains_key.true)

pub returns : goal.returns
returns c = λ names place h.
    places_added c.args.places.now.entries c.insert.new.self.entries names c.args.name c.args.place h place
    (sym c.contains_key.ensures ∙ c.if-contains_key.false) c.in_ok-insert.ensures.entries
