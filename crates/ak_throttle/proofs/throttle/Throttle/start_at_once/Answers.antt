use Rattle.std.proofs.Common.{rules, arith, ◌≡◌, ◌<◌, ◌+◌, ◌-◌, ◌^◌, ◌++◌, ◌∷◌, [], ◌∙◌, ap, sym, length}
use Rattle.std.specs.Prelude.{false, not, count_by}
use Rattle.std.proofs.lemmas.Bool.{ltb-true}
use Rattle.ak_throttle.specs.declared.answer.Enqueued.TheVariants.{Start}
use Rattle.ak_throttle.specs.Throttle as plain
use Rattle.ak_throttle.proofs.Bodies.{room_same}
use Rattle.ak_throttle.proofs.Kept.{kept_started, none_waits, all_alive}
use Rattle.ak_throttle.proofs.throttle.Throttle.start_at_once.Goals as goal

pub invariant_of-self-2 : goal.invariant_of-self-2
invariant_of-self-2 g c =
    let p = c.self.inside
    in let alive : p.dead ≡ false = ap (λ t. t.dead) c.self.view_is ∙ c.requires.alive
    in let few : count_by not p.progress.overs < p.most =
    ltb-true _ _ (sym (room_same p.most p.stop p.dead p.progress.overs p.lost p.bodies.items p.marks.items)
    ∙ ap (λ t. plain.has_room t) c.self.view_is ∙ c.requires.room)
    in let small : length p.progress.overs + length p.bodies.items < 2 ^ 32 - 1 =
    omega (
      arith,
      c.requires.numbers,
      ap (λ t. length t.bodies) c.self.view_is,
      all_alive p.dead p.progress.overs p.lost p.bodies.items alive,
    )
    in let same : c.reserve.new.self.overs ≡ p.progress.overs = search rules
    in kept_started p.most p.dead p.progress c.start.new.self p.lost p.bodies.items p.marks.items c.self.invariant alive few small
    (c.start.ensures.overs ∙ ap (λ overs. overs ++ false ∷ []) same)

pub returns-clause-placed : goal.returns-clause-placed
returns-clause-placed g c =
    let p = c.self.inside
    in let alive : p.dead ≡ false = ap (λ t. t.dead) c.self.view_is ∙ c.requires.alive
    in let few : count_by not p.progress.overs < p.most =
    ltb-true _ _ (sym (room_same p.most p.stop p.dead p.progress.overs p.lost p.bodies.items p.marks.items)
    ∙ ap (λ t. plain.has_room t) c.self.view_is ∙ c.requires.room)
    in let none : length p.bodies.items ≡ 0 = none_waits p.most p.dead p.progress p.lost p.bodies.items p.marks.items c.self.invariant alive few
    in let same : c.reserve.new.self.overs ≡ p.progress.overs = search rules
    in let first : c.new-no.result ≡ length c.args.self.now.bodies =
    omega (
      arith,
      none,
      ap length same,
      c.new-no.ensures,
      c.count.ensures,
      ap (λ t. length t.bodies) c.self.view_is,
      all_alive p.dead p.progress.overs p.lost p.bodies.items alive,
    )
    in ap (λ n. Start n c.args.body) first
