-- A job of a run over a port, and the end of a run at its limit of jobs.
use Rattle.std.proofs.Common.{◌≡◌, ℕ, ◌+◌, ◌<◌, List, true, false, refl, ap, sym, subst, ◌∙◌, arith}
use Rattle.std.specs.Prelude.{Option, Some, None, IfSome, nat_le}
use Rattle.ak_labor.specs.declared.ask.Ask.{Ask}
use Rattle.ak_labor.specs.declared.config.Config.{Config}
use Rattle.ak_labor.specs.Calls.{Reply, IsOpen}
use Rattle.ak_frames.specs.declared.frame.Task.{Task}
use Rattle.ak_rings.specs.declared.job.Job.{Job}
use Rattle.ak_rings.specs.Queues.{pick_of, has_pick}
use Rattle.ak_trace.specs.declared.entry.Entry.TheVariants as entry
use Rattle.ak_trace.specs.declared.entry.Ending.TheVariants as ending
use Rattle.ak_program.specs.Programs.{NumProgram}
use Rattle.ak_machine.specs.declared.flow.Flow.{Flow}
use Rattle.ak_machine.specs.declared.flow.Flow.TheVariants as flow
use Rattle.ak_machine.specs.State.{State}
use Rattle.ak_machine.specs.Deferred.{noting}
use Rattle.ak_machine.specs.Job.{Progress, Over, Asking, run_job}
use Rattle.ak_machine.specs.Run.{Machine, progressed, machine_after, run_of}
use Rattle.ak_state.specs.Seen.{without_pick}
use Rattle.ak_state.specs.Errors.{after_is, Ends}
use Rattle.ak_exec.specs.Asks.{Leads, FaultsFrom, StopsFrom, IsInStepAfter, IsQuietSince}
use Rattle.ak_exec.specs.Worlds.{Worldly, with_state, with_pick, ran_with, JobLeads, JobFaults, JobStops}
use Rattle.ak_machine.specs.Status.{status_of}
use Rattle.ak_cycle.specs.Runs.{WantsLast, WantsNext, EndsIdle}
use Rattle.ak_cycle.specs.Turns.{at_drain, at_close, served_with, IsUnderWay, IsAt, IsServed, IsOver, IsFinished, jobs_left}
use Rattle.ak_cycle.proofs.Turns.{with_job_of, there_is, job_begins, went_on, went_off, limit_closes, jobs_finished, not_idle, flow_finished, flow_not_idle, progress_asks}
use Rattle.ak_cycle.proofs.Under.{wants_last, wants_next, under_way}

-- ---- the machine with the job that was picked
module _ (program : NumProgram) (config : Config) (w : Worldly) (asked : List Ask) (replies : List Reply) (waits : List ℕ)
    (u : IsUnderWay program config w asked replies (served_with w asked waits)) (e : has_pick w.plain.queues ≡ true)
    (unspent : nat_le w.config.jobs w.ran ≡ false) where
  abbrev job : Job Task
  job = (there_is (pick_of w.plain.queues) e).0

  picked : pick_of w.plain.queues ≡ Some job
  picked = (there_is (pick_of w.plain.queues) e).1

  -- what a job that runs came to, and the machine there
  came : (p : Progress) (asked' : List Ask) (replies' : List Reply)
      → Leads w.program asked replies (run_job w.program.procs job (without_pick w.plain)) asked' replies' p
      → machine_after program config replies' ≡ progressed p (record (with_job_of (with_pick w) waits) { asks = asked' })
  came p asked' replies' leads =
      let here : machine_after w.program config replies ≡ progressed (run_job w.program.procs job (without_pick w.plain))
      (record (with_job_of (with_pick w) waits) { asks = asked }) =
      ap (λ (q : NumProgram). machine_after q config replies) u.program_is ∙ u.machine ∙ job_begins w job asked waits picked unspent
      in ap (λ (q : NumProgram). machine_after q config replies') (sym u.program_is) ∙ leads config (with_job_of (with_pick w) waits) here

  leads_of : (f : Flow) (s : State) (asked' : List Ask) (replies' : List Reply) → JobLeads (with_pick w) f s asked asked' replies replies'
      → Leads w.program asked replies (run_job w.program.procs job (without_pick w.plain)) asked' replies' (Over (after_is f s))
  leads_of f s asked' replies' l =
      subst
      (λ (o : Option (Job Task)). IfSome o
      (λ (j : Job Task). Leads w.program asked replies (run_job w.program.procs j (without_pick w.plain)) asked' replies' (Over (after_is f s))))
      picked l

  pub job_faults : (asked' : List Ask) (replies' : List Reply) (waits' : List ℕ) → JobFaults (with_pick w) asked asked' replies replies' → waits' ≡ waits
      → WantsLast (run_of program config replies') asked' replies' waits'
  job_faults asked' replies' waits' l ew =
      let f : FaultsFrom w.program asked replies (run_job w.program.procs job (without_pick w.plain)) asked' replies' =
      subst
      (λ (o : Option (Job Task)). IfSome o
      (λ (j : Job Task). FaultsFrom w.program asked replies (run_job w.program.procs j (without_pick w.plain)) asked' replies'))
      picked l
      in wants_last program config (progressed (Asking f.ask f.state f.rest) (record (with_job_of (with_pick w) waits) { asks = f.before })) f.ask
      f.before asked' replies' replies' waits waits' (came (Asking f.ask f.state f.rest) f.before replies' f.leads) f.opened refl refl refl f.last refl ew

  pub job_stops : (asked' : List Ask) (replies' : List Reply) (waits' : List ℕ) → JobStops (with_pick w) asked asked' replies replies' → waits' ≡ waits
      → WantsNext (run_of program config replies') asked' replies' waits'
  job_stops asked' replies' waits' l ew =
      let f : StopsFrom w.program asked replies (run_job w.program.procs job (without_pick w.plain)) asked' replies' =
      subst
      (λ (o : Option (Job Task)). IfSome o
      (λ (j : Job Task). StopsFrom w.program asked replies (run_job w.program.procs j (without_pick w.plain)) asked' replies'))
      picked l
      in wants_next program config (progressed f.came (record (with_job_of (with_pick w) waits) { asks = asked' })) asked' asked' replies' replies' waits waits'
      (came f.came asked' replies' f.leads) f.opened (progress_asks f.came (record (with_job_of (with_pick w) waits) { asks = asked' })) refl refl ew

  -- the job is over
  module _ (w' : Worldly) (f : Flow) (asked' : List Ask) (replies' : List Reply) (waits' : List ℕ)
      (leads : JobLeads (with_pick w) f w'.plain asked asked' replies replies') (is : w' ≡ record (with_pick w) { plain = w'.plain; picked = None })
      (o : IsOpen asked' replies') (q : IsQuietSince config.askers replies replies') (ew : waits' ≡ waits) where
    over_under : (m : Machine) → machine_after program config replies' ≡ m → IsUnderWay program config w' asked' replies' m
    over_under m k =
        under_way program config w w' asked asked' replies replies' (served_with w asked waits) m u
        (ap (λ (x : Worldly). x.program) is) (ap (λ (x : Worldly). x.config) is) (ap (λ (x : Worldly). x.picked) is) k o (omega (arith, q.left))

    pub job_goes_on : f ≡ flow.On → IsInStepAfter config.askers asked' replies' f w'.plain → IsAt program config w' asked' replies' waits'
    job_goes_on on h = record {
      run =
          over_under (at_drain w' asked' waits')
          (came (Over (after_is f w'.plain)) asked' replies' (leads_of f w'.plain asked' replies' leads)
          ∙ ap (λ (x : Flow). progressed (Over (after_is x w'.plain)) (record (with_job_of (with_pick w) waits) { asks = asked' })) on
          ∙ went_on (with_pick w) w'.plain asked' waits
          ∙ ap (λ (x : Worldly). at_drain x asked' waits) (sym is)
          ∙ ap (λ ws. at_drain w' asked' ws) (sym ew));
      in_step = subst (λ (x : Flow). IsInStepAfter config.askers asked' replies' x w'.plain) on h;
    }

    pub job_ends : (f ≡ flow.On → ⊥) → Ends f w'.plain.trace → IsOver program config w' asked' replies' waits'
    job_ends off told = record {
      run =
          over_under (at_close w' asked' waits')
          (came (Over (after_is f w'.plain)) asked' replies' (leads_of f w'.plain asked' replies' leads)
          ∙ went_off f (with_pick w) w'.plain asked' waits off
          ∙ ap (λ (x : Worldly). at_close x asked' waits) (sym is)
          ∙ ap (λ ws. at_close w' asked' ws) (sym ew));
      finished = flow_finished f w'.plain.trace off told;
      idle = λ h. absurd (flow_not_idle f w'.plain.trace off told h);
      quiet = λ h. absurd (flow_not_idle f w'.plain.trace off told h);
    }

  -- one job fewer is left
  pub fewer_jobs : (w' : Worldly) → w' ≡ record (with_pick w) { plain = w'.plain; picked = None } → w.ran < w.config.jobs → jobs_left w' < jobs_left w
  fewer_jobs w' is below =
      let r : w'.ran ≡ w.ran + 1 = ap (λ (x : Worldly). x.ran) is ∙ ap (λ o. ran_with o w.ran) picked
      in let j : w'.config.jobs ≡ w.config.jobs = ap (λ (x : Worldly). x.config.jobs) is
      in omega (arith, r, j, below)

-- ---- the limit of jobs
pub limit_over : (program : NumProgram) (config : Config) (w w' : Worldly) (asked : List Ask) (replies : List Reply) (waits : List ℕ)
    → IsServed program config w asked replies waits → has_pick w.plain.queues ≡ true → nat_le w.config.jobs w.ran ≡ true
    → w' ≡ with_state (noting (entry.End ending.Jobs) w.plain) w → IsOver program config w' asked replies waits
limit_over program config w w' asked replies waits s e spent is = record {
  run =
      under_way program config w w' asked asked replies replies (served_with w asked waits) (at_close w' asked waits) s.run
      (ap (λ (x : Worldly). x.program) is) (ap (λ (x : Worldly). x.config) is) (ap (λ (x : Worldly). x.picked) is ∙ s.run.free)
      (s.run.machine ∙ limit_closes w asked waits e spent ∙ ap (λ (x : Worldly). at_close x asked waits) (sym is)) s.run.opened (omega arith);
  finished = subst (λ (x : Worldly). IsFinished (status_of x.plain.trace)) (sym is) (jobs_finished w.plain.trace);
  idle =
      λ h. absurd (not_idle ending.Jobs w.plain.trace (λ k. absurd (cc)) (subst (λ (x : Worldly). EndsIdle x.plain.trace) is h));
  quiet =
      λ h. absurd (not_idle ending.Jobs w.plain.trace (λ k. absurd (cc)) (subst (λ (x : Worldly). EndsIdle x.plain.trace) is h));
}
