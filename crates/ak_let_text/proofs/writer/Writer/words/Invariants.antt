use Rattle.ak_let_text.specs.Words.{word_place}
use Rattle.ak_let_text.proofs.Spaced.{ArePut}
use Rattle.ak_let_text.proofs.writer.Writer.words.Given as goal

abbrev pub invariant-loop-word : goal.invariant-loop-word
invariant-loop-word l = ArePut word_place l.words l.fn.self l.self l.word-index
