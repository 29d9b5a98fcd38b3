use Rattle.std.proofs.Common.{◌≡◌, ◌∙◌, false, ap, sym, subst, rules}
use Rattle.std.specs.Prelude.{nat_le, None}
use Rattle.ak_labor.specs.Calls.{IsFault}
use Rattle.ak_exec.specs.Asks.{IsNoMemory, IsQuietSince, IsInStepAfter}
use Rattle.ak_exec.specs.Worlds.{Worldly, JobLeads, JobFaults, JobStops}
use Rattle.ak_cycle.proofs.Jobs.{job_faults, job_stops, job_goes_on, job_ends}
use Rattle.ak_cycle.proofs.turn.run_next.Goals as goal

pub returns-in_err-run_frame-clause-fault : goal.returns-in_err-run_frame-clause-fault
returns-in_err-run_frame-clause-fault g c fault =
    let failed : IsFault c.run_frame.result = search rules
    in let unspent : nat_le c.args.world.now.config.jobs c.args.world.now.ran ≡ false = sym c.spent.ensures ∙ c.if-spent.false
    in let asked = g.P.Port.asked c.args.port.now
    in let asked' = g.P.Port.asked c.run_frame.new.port
    in let replies = g.P.Port.replies c.args.port.now
    in let replies' = g.P.Port.replies c.run_frame.new.port
    in job_faults _ _ c.args.world.now asked replies _ c.requires.served.run c.requires.pick unspent asked' replies' _
    (subst (λ (w : Worldly). JobFaults w asked asked' replies replies') c.pick-no.ensures.world (c.run_frame.ensures.fault failed))
    c.run_frame.ensures.waits

pub returns-in_err-run_frame-clause-memory : goal.returns-in_err-run_frame-clause-memory
returns-in_err-run_frame-clause-memory g c short =
    let failed : IsNoMemory c.run_frame.result = search rules
    in let unspent : nat_le c.args.world.now.config.jobs c.args.world.now.ran ≡ false = sym c.spent.ensures ∙ c.if-spent.false
    in let asked = g.P.Port.asked c.args.port.now
    in let asked' = g.P.Port.asked c.run_frame.new.port
    in let replies = g.P.Port.replies c.args.port.now
    in let replies' = g.P.Port.replies c.run_frame.new.port
    in job_stops _ _ c.args.world.now asked replies _ c.requires.served.run c.requires.pick unspent asked' replies' _
    (subst (λ (w : Worldly). JobStops w asked asked' replies replies') c.pick-no.ensures.world (c.run_frame.ensures.memory failed))
    c.run_frame.ensures.waits

pub returns-in-On-clause-on : goal.returns-in-On-clause-on
returns-in-On-clause-on g c =
    let unspent : nat_le c.args.world.now.config.jobs c.args.world.now.ran ≡ false = sym c.spent.ensures ∙ c.if-spent.false
    in let asked = g.P.Port.asked c.args.port.now
    in let asked' = g.P.Port.asked c.run_frame.new.port
    in let replies = g.P.Port.replies c.args.port.now
    in let replies' = g.P.Port.replies c.run_frame.new.port
    in let s = c.run_frame.new.world.plain
    in let f = c.in_ok-run_frame.field-0
    in job_goes_on _ _ c.args.world.now asked replies _ c.requires.served.run c.requires.pick unspent c.run_frame.new.world f asked' replies' _
    (subst (λ (w : Worldly). JobLeads w f s asked asked' replies replies') c.pick-no.ensures.world c.in_ok-run_frame.ensures.runs)
    (c.in_ok-run_frame.ensures.world ∙ ap (λ (w : Worldly). record w { plain = s; picked = None }) c.pick-no.ensures.world)
    c.in_ok-run_frame.ensures.open
    (subst (λ n. IsQuietSince n replies replies') (sym c.requires.askers) c.in_ok-run_frame.ensures.quiet)
    c.run_frame.ensures.waits c.in-On.is
    (subst (λ n. IsInStepAfter n asked' replies' f s) (c.run_frame.ensures.askers ∙ sym c.requires.askers) c.in_ok-run_frame.ensures.in_step)

pub returns-in_default-clause-on : goal.returns-in_default-clause-on
returns-in_default-clause-on g c =
    let unspent : nat_le c.args.world.now.config.jobs c.args.world.now.ran ≡ false = sym c.spent.ensures ∙ c.if-spent.false
    in let asked = g.P.Port.asked c.args.port.now
    in let asked' = g.P.Port.asked c.run_frame.new.port
    in let replies = g.P.Port.replies c.args.port.now
    in let replies' = g.P.Port.replies c.run_frame.new.port
    in let s = c.run_frame.new.world.plain
    in let f = c.in_ok-run_frame.field-0
    in job_ends _ _ c.args.world.now asked replies _ c.requires.served.run c.requires.pick unspent c.run_frame.new.world f asked' replies' _
    (subst (λ (w : Worldly). JobLeads w f s asked asked' replies replies') c.pick-no.ensures.world c.in_ok-run_frame.ensures.runs)
    (c.in_ok-run_frame.ensures.world ∙ ap (λ (w : Worldly). record w { plain = s; picked = None }) c.pick-no.ensures.world)
    c.in_ok-run_frame.ensures.open
    (subst (λ n. IsQuietSince n replies replies') (sym c.requires.askers) c.in_ok-run_frame.ensures.quiet)
    c.run_frame.ensures.waits c.in_default.not-On c.in_ok-run_frame.ensures.told
