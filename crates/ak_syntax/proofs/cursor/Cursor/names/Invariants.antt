use Rattle.std.proofs.Common.{◌≡◌, length}
use Rattle.ak_syntax.specs.Words.{list_from, plain, name_found}
use Rattle.ak_syntax.proofs.Lists.{with_front}
use Rattle.ak_syntax.proofs.cursor.Cursor.names.Given as goal

-- the items so far and those of the words that are left are all items
abbrev pub invariant-loop-names : goal.invariant-loop-names
invariant-loop-names l =
    with_front l.names (list_from (plain name_found) l.until l.self.words l.self.faulty)
    ≡ list_from (plain name_found) l.until l.fn.self.words l.fn.self.faulty

abbrev pub decreases-loop-names : goal.decreases-loop-names
decreases-loop-names l = length l.self.words
