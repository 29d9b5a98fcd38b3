use Rattle.std.proofs.Common.{◌++◌, ap, sym, ◌∙◌, arith}
use Rattle.std.proofs.lemmas.Simd.{map-map}
use Rattle.ak_syntax.specs.Table.{Typed}
use Rattle.ak_let_text.specs.Named.{named_param}
use Rattle.ak_let_text.specs.Words.{spaced}
use Rattle.ak_let_text.proofs.Spaced.{all_put}
use Rattle.ak_let_text.proofs.writer.Writer.params.Goals as goal

pub returns : goal.returns
returns c =
    all_put (λ p. Typed (named_param p)) c.args.params.now c.args.self.now c.loop-param.self c.loop-param.param-index (omega arith)
    c.loop-param.invariant
    ∙ ap (λ l. c.args.self.now ++ spaced l) (sym (map-map Typed named_param c.args.params.now))
