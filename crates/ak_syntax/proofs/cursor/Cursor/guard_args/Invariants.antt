use Rattle.std.proofs.Common.{◌≡◌, length}
use Rattle.ak_syntax.specs.Words.{guard_args_from}
use Rattle.ak_syntax.proofs.Lists.{guarded_front}
use Rattle.ak_syntax.proofs.cursor.Cursor.guard_args.Given as goal

-- the arguments so far and those of the words that are left are all of them
abbrev pub invariant-loop-args : goal.invariant-loop-args
invariant-loop-args l = guarded_front l.args (guard_args_from l.self.words l.self.faulty) ≡ guard_args_from l.fn.self.words l.fn.self.faulty

abbrev pub decreases-loop-args : goal.decreases-loop-args
decreases-loop-args l = length l.self.words
