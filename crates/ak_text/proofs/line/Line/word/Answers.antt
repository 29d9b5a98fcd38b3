use Rattle.std.proofs.lemmas.Iterator.Consumers.{nth_from_yields_List, YieldsList-from_first}
use Rattle.ak_text.specs.Lines.{words_of}
use Rattle.ak_text.proofs.line.Line.word.Goals as goal

pub returns : goal.returns
returns c = nth_from_yields_List c.nth.result c.nth.new.self c.args.k c.nth.ensures.ran
    (YieldsList-from_first (λ x. x.now) (λ s. s) (words_of c.args.self.now.text) c.words.ensures)
