use Rattle.ak_let_text.specs.declared.word.ScriptWord.TheVariants.{Param}
use Rattle.ak_let_text.specs.Words.{word_place}
use Rattle.ak_let_text.proofs.Spaced.{ArePut}
use Rattle.ak_let_text.proofs.writer.Writer.params.Given as goal

abbrev pub invariant-loop-param : goal.invariant-loop-param
invariant-loop-param l = ArePut (λ p. word_place (Param p)) l.params l.fn.self l.self l.param-index
