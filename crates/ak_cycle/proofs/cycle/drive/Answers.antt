use Rattle.std.proofs.Common.{◌≡◌, ◌∙◌, ℕ, List, [], ◌∷◌, ◌++◌, length, false, ap, sym, subst, refl}
use Rattle.ak_labor.specs.declared.ask.Ask.{Ask}
use Rattle.ak_labor.specs.declared.ask.Ask.TheVariants as ask
use Rattle.ak_labor.specs.Calls.{Reply, Done}
use Rattle.ak_labor.specs.Waits.{outstanding, unanswered, left_after}
use Rattle.ak_ledger.proofs.Calls.{outstanding_same, unanswered_same, left_same}
use Rattle.ak_cycle.specs.Turns.{GoesOn, IsOver}
use Rattle.ak_cycle.proofs.cycle.drive.Goals as goal

pub returns-clause-idle : goal.returns-clause-idle
returns-clause-idle g c idle =
    let asked : List Ask = g.P.Port.asked c.loop-on.port
    in let replies : List Reply = g.P.Port.replies c.loop-on.port
    in let off : c.loop-on.on ≡ false = c.loop-on-test.false
    in let over : IsOver c.args.world.now.program c.args.world.now.config c.loop-on.world asked replies (g.P.Port.waits c.loop-on.port) =
    subst (λ b. GoesOn b c.args.world.now.program c.args.world.now.config c.loop-on.world asked replies (g.P.Port.waits c.loop-on.port)) off
    c.loop-on.invariant.goes
    in ap (λ (all : List Ask). outstanding all (g.P.Port.replies c.close.new.self)) c.in_ok-close.ensures.asked.0
    ∙ ap (λ (rs : List Reply). outstanding (asked ++ ask.Close ∷ []) rs) c.in_ok-close.ensures.asked.1
    ∙ outstanding_same asked replies ask.Close Done refl refl ∙ over.idle idle

pub returns-clause-quiet : goal.returns-clause-quiet
returns-clause-quiet g c idle =
    let asked : List Ask = g.P.Port.asked c.loop-on.port
    in let replies : List Reply = g.P.Port.replies c.loop-on.port
    in let askers : ℕ = c.args.world.now.config.askers
    in let off : c.loop-on.on ≡ false = c.loop-on-test.false
    in let over : IsOver c.args.world.now.program c.args.world.now.config c.loop-on.world asked replies (g.P.Port.waits c.loop-on.port) =
    subst (λ b. GoesOn b c.args.world.now.program c.args.world.now.config c.loop-on.world asked replies (g.P.Port.waits c.loop-on.port)) off
    c.loop-on.invariant.goes
    in let one : unanswered (g.P.Port.asked c.close.new.self) (g.P.Port.replies c.close.new.self) ≡ unanswered asked replies =
    ap (λ (all : List Ask). unanswered all (g.P.Port.replies c.close.new.self)) c.in_ok-close.ensures.asked.0
    ∙ ap (λ (rs : List Reply). unanswered (asked ++ ask.Close ∷ []) rs) c.in_ok-close.ensures.asked.1
    ∙ unanswered_same asked replies ask.Close Done refl refl
    in let two : left_after askers (g.P.Port.replies c.close.new.self) ≡ left_after askers replies =
    ap (left_after askers) c.in_ok-close.ensures.asked.1 ∙ left_same askers replies Done (λ n. refl)
    in ap length one ∙ over.quiet idle ∙ sym two
