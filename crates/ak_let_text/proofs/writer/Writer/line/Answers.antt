use Rattle.std.proofs.Common.{map, ap, ◌++◌, ◌∙◌}
use Rattle.ak_syntax.specs.Table.{Valued}
use Rattle.ak_let_text.specs.Named.{named_atom}
use Rattle.ak_let_text.specs.Words.{word_place}
use Rattle.ak_let_text.proofs.Spaced.{line_put, on_ok}
use Rattle.ak_let_text.proofs.writer.Writer.line.Goals as goal

pub returns : goal.returns
returns c =
    on_ok c.put-2.result
    (line_put c.args.prefix c.args.first.now (map word_place c.args.words.now) (map Valued (map named_atom c.args.args.now)) c.args.self.now
    c.prefix.new.self c.put.new.self c.words.new.self c.args-2.new.self c.put-2.new.self
    c.in_ok-prefix.ensures
    (c.in_ok-put.ensures ∙ ap (λ l. c.prefix.new.self ++ l) c.as_bytes.ensures.value)
    c.in_ok-words.ensures c.in_ok-args.ensures)
    c.put-2.ensures
