use Rattle.std.proofs.Common.{◌≡◌, ◌+◌, ◌*◌, ◌≤◌, ◌++◌, drop}
use Rattle.ak_let_compile.proofs.Places.{places_from, behind_from}
use Rattle.ak_let_compile.proofs.entries.Entries.of.Given as goal

abbrev pub invariant-loop-fun : goal.invariant-loop-fun
invariant-loop-fun l =
    record {
      places : l.places.items ++ places_from l.behind (drop l.fun-index l.funs) ≡ places_from 1 l.funs;
      behind : behind_from l.behind (drop l.fun-index l.funs) ≡ behind_from 1 l.funs;
      few : l.behind ≤ 1 + 16 * l.fun-index;
    }
