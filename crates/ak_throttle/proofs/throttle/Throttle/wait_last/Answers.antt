use Rattle.std.proofs.Common.{rules, arith, ◌≡◌, ◌<◌, ◌≤◌, ◌+◌, ◌-◌, ◌^◌, ◌++◌, ◌∷◌, [], ◌∙◌, ap, sym, length}
use Rattle.std.specs.Prelude.{false, not, count_by}
use Rattle.std.proofs.lemmas.Bool.{lt-ltb, true≢false}
use Rattle.ak_throttle.specs.Throttle as plain
use Rattle.ak_throttle.proofs.Bodies.{running_same, room_same}
use Rattle.ak_throttle.proofs.Kept.{kept_waits, all_alive}
use Rattle.ak_throttle.proofs.throttle.Throttle.wait_last.Goals as goal

pub returns-then-is_err-clause-most : goal.returns-then-is_err-clause-most
returns-then-is_err-clause-most g c =
    let p = c.self.inside
    in let same : c.reserve.new.self.overs ≡ p.progress.overs = search rules
    in omega (arith, c.self.invariant.few, running_same p.dead c.reserve.new.self.overs p.lost p.bodies.items, ap (count_by not) same)

pub returns-then-is_err-2-clause-most : goal.returns-then-is_err-2-clause-most
returns-then-is_err-2-clause-most g c =
    let p = c.self.inside
    in let same : c.reserve.new.self.overs ≡ p.progress.overs = search rules
    in omega (arith, c.self.invariant.few, running_same p.dead c.reserve.new.self.overs p.lost c.reserve-2.new.self.items, ap (count_by not) same)

pub invariant_of-self-3 : goal.invariant_of-self-3
invariant_of-self-3 g c =
    let p = c.self.inside
    in let alive : p.dead ≡ false = ap (λ t. t.dead) c.self.view_is ∙ c.requires.alive
    in let full = sym (room_same p.most p.stop p.dead p.progress.overs p.lost p.bodies.items p.marks.items)
    ∙ ap (λ t. plain.has_room t) c.self.view_is ∙ c.requires.room
    in let small : length p.progress.overs + length p.bodies.items < 2 ^ 32 - 1 =
    omega (
      arith,
      c.requires.numbers,
      ap (λ t. length t.bodies) c.self.view_is,
      all_alive p.dead p.progress.overs p.lost p.bodies.items alive,
    )
    in let same : c.reserve.new.self.overs ≡ p.progress.overs = search rules
    in let room : length p.bodies.items + 1 ≤ c.reserve.new.self.spare = search rules
    in let more : c.push_back_reserved.new.self.items ≡ p.bodies.items ++ c.args.body ∷ [] = search rules
    in kept_waits p.most p.dead p.progress c.reserve.new.self p.lost p.bodies.items c.push_back_reserved.new.self.items c.args.body
    p.marks.items c.self.invariant alive (λ l. true≢false (sym (lt-ltb _ _ l) ∙ full)) small same room more

pub returns-clause-most : goal.returns-clause-most
returns-clause-most g c =
    let p = c.self.inside
    in let same : c.reserve.new.self.overs ≡ p.progress.overs = search rules
    in omega (arith, c.self.invariant.few, running_same p.dead c.reserve.new.self.overs p.lost c.push_back_reserved.new.self.items, ap (count_by not) same)
