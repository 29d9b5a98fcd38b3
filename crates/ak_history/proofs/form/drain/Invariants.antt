use Rattle.std.proofs.Common.{◌≡◌, length}
use Rattle.ak_history.specs.Taking.{brought_of}
use Rattle.ak_history.proofs.Things.{with_works}
use Rattle.ak_history.proofs.form.drain.Given as goal

-- the works so far and what is brought by the words that are left are all that is brought
abbrev pub invariant-loop-word : goal.invariant-loop-word
invariant-loop-word l = with_works l.ids (brought_of l.row) ≡ brought_of l.fn.row

abbrev pub decreases-loop-word : goal.decreases-loop-word
decreases-loop-word l = length l.row
