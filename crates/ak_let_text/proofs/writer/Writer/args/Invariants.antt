use Rattle.ak_let_text.specs.declared.word.ScriptWord.TheVariants.{Atom}
use Rattle.ak_let_text.specs.Words.{word_place}
use Rattle.ak_let_text.proofs.Spaced.{ArePut}
use Rattle.ak_let_text.proofs.writer.Writer.args.Given as goal

abbrev pub invariant-loop-arg : goal.invariant-loop-arg
invariant-loop-arg l = ArePut (λ a. word_place (Atom a)) l.args l.fn.self l.self l.arg-index
