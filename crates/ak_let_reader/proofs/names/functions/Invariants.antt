use Rattle.std.proofs.Common.{◌≡◌, map, take}
use Rattle.ak_let_reader.specs.Numbered.{fun_names, numbered_fun}
use Rattle.ak_let_reader.proofs.Firsts.{Gone}
use Rattle.ak_let_reader.proofs.names.functions.Given as goal

abbrev pub invariant-loop-place : goal.invariant-loop-place
invariant-loop-place l = record {
  gone : Gone l.funs l.place;
  done : l.numbered ≡ map (numbered_fun (fun_names l.funs)) (take l.place l.funs);
}
