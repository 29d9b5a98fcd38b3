use Rattle.std.proofs.Common.{◌++◌, ap, sym, ◌∙◌, arith}
use Rattle.std.proofs.lemmas.Simd.{map-map}
use Rattle.ak_syntax.specs.Table.{Valued}
use Rattle.ak_let_text.specs.Named.{named_atom}
use Rattle.ak_let_text.specs.Words.{spaced}
use Rattle.ak_let_text.proofs.Spaced.{all_put}
use Rattle.ak_let_text.proofs.writer.Writer.args.Goals as goal

pub returns : goal.returns
returns c =
    all_put (λ a. Valued (named_atom a)) c.args.args.now c.args.self.now c.loop-arg.self c.loop-arg.arg-index (omega arith) c.loop-arg.invariant
    ∙ ap (λ l. c.args.self.now ++ spaced l) (sym (map-map Valued named_atom c.args.args.now))
