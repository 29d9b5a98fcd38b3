use Rattle.std.proofs.Common.{◌≡◌, ◌≤◌}
use Rattle.std.specs.Vec.{vec_len, vec_capacity}
use Rattle.ak_askers.specs.Plans.{planned, IsAsking}
use Rattle.ak_askers.proofs.repeat.RepeatOutside.act.Given as goal

-- the asker has asked with the first numbers of its plan, and was told each answer
abbrev pub invariant-loop-place : goal.invariant-loop-place
invariant-loop-place g l =
    record {
      asking : IsAsking l.hub l.asker (planned l.asker l.place) l.initial.pass l.pass l.told.items;
      few : vec_len l.told ≤ l.place;
      room : vec_capacity l.told ≡ l.self.each;
    }
