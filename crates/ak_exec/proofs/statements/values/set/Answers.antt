use Rattle.std.proofs.Common.{◌≡◌, ◌++◌, ◌∷◌, [], rules, refl}
use Rattle.std.proofs.lemmas.List.{map-append}
use Rattle.ak_frames.specs.declared.value.Value.TheVariants.{Num}
use Rattle.ak_machine.specs.Number.{Gives, computed}
use Rattle.ak_machine.specs.Effect.{number_in}
use Rattle.ak_state.specs.Reads.{named}
use Rattle.ak_exec.proofs.statements.values.set.Goals as goal

pub returns-in_ok-push-in-Num : goal.returns-in_ok-push-in-Num
returns-in_ok-push-in-Num c =
    let e : computed c.args.op (number_in (named c.args.parts.now c.args.vals.now) c.args.a)
    (number_in (named c.args.parts.now c.args.vals.now) c.args.b) ≡ Gives c.in-Num.num = search rules
    in let p : c.push.new.self ≡ c.args.vals.now ++ Num c.in-Num.num ∷ [] = search rules
    in (rw (e, p, map-append) refl, refl)
