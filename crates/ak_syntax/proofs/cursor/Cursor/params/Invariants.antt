use Rattle.std.proofs.Common.{◌≡◌, length}
use Rattle.ak_syntax.specs.declared.cursor.Until.TheVariants.{LineEnd}
use Rattle.ak_syntax.specs.Words.{list_from, plain, param_found}
use Rattle.ak_syntax.proofs.Lists.{with_front}
use Rattle.ak_syntax.proofs.cursor.Cursor.params.Given as goal

-- the items so far and those of the words that are left are all items
abbrev pub invariant-loop-params : goal.invariant-loop-params
invariant-loop-params l =
    with_front l.params (list_from (plain param_found) LineEnd l.self.words l.self.faulty)
    ≡ list_from (plain param_found) LineEnd l.fn.self.words l.fn.self.faulty

abbrev pub decreases-loop-params : goal.decreases-loop-params
decreases-loop-params l = length l.self.words
