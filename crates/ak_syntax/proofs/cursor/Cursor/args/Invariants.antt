use Rattle.std.proofs.Common.{◌≡◌, length}
use Rattle.ak_syntax.specs.Words.{list_from, atom_found}
use Rattle.ak_syntax.proofs.Lists.{with_front}
use Rattle.ak_syntax.proofs.cursor.Cursor.args.Given as goal

-- the items so far and those of the words that are left are all items
abbrev pub invariant-loop-args : goal.invariant-loop-args
invariant-loop-args l =
    with_front l.args (list_from atom_found l.until l.self.words l.self.faulty)
    ≡ list_from atom_found l.until l.fn.self.words l.fn.self.faulty

abbrev pub decreases-loop-args : goal.decreases-loop-args
decreases-loop-args l = length l.self.words
