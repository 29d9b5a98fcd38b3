use Rattle.std.proofs.Common.{◌≡◌, length}
use Rattle.ak_syntax.specs.Words.{choices_from}
use Rattle.ak_syntax.proofs.Lists.{with_front}
use Rattle.ak_syntax.proofs.cursor.Cursor.choices.Given as goal

-- the items so far and those of the words that are left are all items
abbrev pub invariant-loop-choices : goal.invariant-loop-choices
invariant-loop-choices l = with_front l.choices (choices_from l.self.words l.self.faulty) ≡ choices_from l.fn.self.words l.fn.self.faulty

abbrev pub decreases-loop-choices : goal.decreases-loop-choices
decreases-loop-choices l = length l.self.words
