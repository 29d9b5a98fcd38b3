use Rattle.std.proofs.Common.{◌∙◌, refl, subst, arith, rules}
use Rattle.ak_labor.specs.Calls.{IsFault}
use Rattle.ak_machine.specs.Job.{Progress, run_job}
use Rattle.ak_state.specs.Reads.{job_named}
use Rattle.ak_holders.proofs.Carry.{ProgressIs, waits_returns, waits_comes}
use Rattle.ak_ledger.specs.Outside.{IsInStep, IsAskable}
use Rattle.ak_ledger.proofs.Lines.{ProgressHas}
use Rattle.ak_ledger.proofs.Owing.{Owed, OwedAsking, job_owed}
use Rattle.ak_exec.specs.Asks.{IsNoMemory}
use Rattle.ak_exec.specs.Steps.{progress_is}
use Rattle.ak_exec.proofs.Asking.{job_in_step, leads_same, leads_far, leads_on, faults_behind, stops_here, stops_after, quiet_same, quiet_on, over_owed}
use Rattle.ak_exec.specs.declared.job.Progress.TheVariants as far
use Rattle.ak_exec.proofs.asks.run_through.Goals as goal

pub run_job-requires-clause-returns : goal.run_job-requires-clause-returns
run_job-requires-clause-returns g c =
    waits_returns c.args.program.now.procs c.main-main.ensures.sound.each (job_named c.args.parts.now c.args.job) c.args.parts.now.plain c.requires.waits

pub returns-in_err-progress-clause-memory : goal.returns-in_err-progress-clause-memory
returns-in_err-progress-clause-memory g c short =
    stops_here c.args.program.now (g.P.Port.asked c.args.port.now) (g.P.Port.asked c.args.port.now) (g.P.Port.replies c.args.port.now)
    (g.P.Port.replies c.args.port.now) _ c.requires.open refl refl

pub loop-progress-init : goal.loop-progress-init
loop-progress-init g c =
    let procs = c.args.program.now.procs
    in let job = job_named c.args.parts.now c.args.job
    in let s = c.args.parts.now.plain
    in let askers = g.P.Port.askers c.args.port.now
    in let asked = g.P.Port.asked c.args.port.now
    in let replies = g.P.Port.replies c.args.port.now
    in record {
      running = record {
        fits = c.in_ok-progress.ensures.fits;
        told = c.in_ok-progress.ensures.told;
        held =
            subst (ProgressIs procs) c.in_ok-progress.ensures.runs
            (waits_comes procs c.main-main.ensures.sound.each job s c.requires.waits);
        owed = subst (ProgressHas Owed OwedAsking) c.in_ok-progress.ensures.runs (job_owed procs job s c.requires.owed);
        opened = c.requires.open;
        in_step =
            subst (λ (p : Progress). ProgressHas (IsInStep askers asked replies) (IsAskable askers asked replies) p) c.in_ok-progress.ensures.runs
            (job_in_step askers asked replies c.requires.open.1 procs job s c.requires.owed c.requires.in_step);
      };
      leads =
          leads_same c.args.program.now asked asked replies replies (run_job procs job s) (progress_is c.run_job.new.parts c.in_ok-progress.progress)
          c.in_ok-progress.ensures.runs refl refl;
      quiet = quiet_same askers replies replies refl;
      threads = refl;
      askers = refl;
      turns = omega arith;
      waits = refl;
    }

pub returns-in-Over-clause-owed : goal.returns-in-Over-clause-owed
returns-in-Over-clause-owed g c =
    over_owed c.loop-progress.parts c.loop-progress.progress c.in-Over.flow c.in-Over.is c.loop-progress.invariant.running.owed

pub returns-in-Over-clause-runs : goal.returns-in-Over-clause-runs
returns-in-Over-clause-runs g c =
    leads_far c.args.program.now (g.P.Port.asked c.args.port.now) (g.P.Port.asked c.loop-progress.port) (g.P.Port.replies c.args.port.now)
    (g.P.Port.replies c.loop-progress.port) (run_job c.args.program.now.procs (job_named c.args.parts.now c.args.job) c.args.parts.now.plain)
    c.loop-progress.parts c.loop-progress.progress (far.Over c.in-Over.flow) c.in-Over.is c.loop-progress.invariant.leads

pub returns-in_err-progress-in-Asking-clause-fault : goal.returns-in_err-progress-in-Asking-clause-fault
returns-in_err-progress-in-Asking-clause-fault g c fault =
    let failed : IsFault c.go_on.result = search rules
    in faults_behind c.args.program.now (g.P.Port.asked c.args.port.now) (g.P.Port.asked c.loop-progress.port) (g.P.Port.asked c.go_on.new.port)
    (g.P.Port.replies c.args.port.now) (g.P.Port.replies c.loop-progress.port) (g.P.Port.replies c.go_on.new.port)
    (run_job c.args.program.now.procs (job_named c.args.parts.now c.args.job) c.args.parts.now.plain)
    (progress_is c.loop-progress.parts (far.Asking c.in-Asking.ask c.in-Asking.rest))
    (leads_far c.args.program.now (g.P.Port.asked c.args.port.now) (g.P.Port.asked c.loop-progress.port) (g.P.Port.replies c.args.port.now)
    (g.P.Port.replies c.loop-progress.port) (run_job c.args.program.now.procs (job_named c.args.parts.now c.args.job) c.args.parts.now.plain)
    c.loop-progress.parts c.loop-progress.progress (far.Asking c.in-Asking.ask c.in-Asking.rest) c.in-Asking.is c.loop-progress.invariant.leads)
    (c.go_on.ensures.fault failed)

pub returns-in_err-progress-in-Asking-clause-memory : goal.returns-in_err-progress-in-Asking-clause-memory
returns-in_err-progress-in-Asking-clause-memory g c short =
    let failed : IsNoMemory c.go_on.result = search rules
    in stops_after c.args.program.now (g.P.Port.asked c.args.port.now) (g.P.Port.asked c.loop-progress.port) (g.P.Port.asked c.go_on.new.port)
    (g.P.Port.replies c.args.port.now) (g.P.Port.replies c.loop-progress.port) (g.P.Port.replies c.go_on.new.port)
    (run_job c.args.program.now.procs (job_named c.args.parts.now c.args.job) c.args.parts.now.plain)
    (progress_is c.loop-progress.parts (far.Asking c.in-Asking.ask c.in-Asking.rest))
    (leads_far c.args.program.now (g.P.Port.asked c.args.port.now) (g.P.Port.asked c.loop-progress.port) (g.P.Port.replies c.args.port.now)
    (g.P.Port.replies c.loop-progress.port) (run_job c.args.program.now.procs (job_named c.args.parts.now c.args.job) c.args.parts.now.plain)
    c.loop-progress.parts c.loop-progress.progress (far.Asking c.in-Asking.ask c.in-Asking.rest) c.in-Asking.is c.loop-progress.invariant.leads)
    (c.go_on.ensures.memory failed)

pub loop-progress-preserved : goal.loop-progress-preserved
loop-progress-preserved g c =
    record {
      running = c.in_ok-progress-in-Asking.ensures.running;
      leads =
          leads_on c.args.program.now (g.P.Port.asked c.args.port.now) (g.P.Port.asked c.loop-progress.port) (g.P.Port.asked c.go_on.new.port)
          (g.P.Port.replies c.args.port.now) (g.P.Port.replies c.loop-progress.port) (g.P.Port.replies c.go_on.new.port)
          (run_job c.args.program.now.procs (job_named c.args.parts.now c.args.job) c.args.parts.now.plain)
          (progress_is c.loop-progress.parts (far.Asking c.in-Asking.ask c.in-Asking.rest))
          (progress_is c.go_on.new.parts c.in_ok-progress-in-Asking.progress)
          (leads_far c.args.program.now (g.P.Port.asked c.args.port.now) (g.P.Port.asked c.loop-progress.port) (g.P.Port.replies c.args.port.now)
          (g.P.Port.replies c.loop-progress.port) (run_job c.args.program.now.procs (job_named c.args.parts.now c.args.job) c.args.parts.now.plain)
          c.loop-progress.parts c.loop-progress.progress (far.Asking c.in-Asking.ask c.in-Asking.rest) c.in-Asking.is c.loop-progress.invariant.leads)
          c.in_ok-progress-in-Asking.ensures.leads;
      quiet =
          quiet_on (g.P.Port.askers c.args.port.now) (g.P.Port.askers c.loop-progress.port) (g.P.Port.replies c.args.port.now)
          (g.P.Port.replies c.loop-progress.port) (g.P.Port.replies c.go_on.new.port) c.loop-progress.invariant.askers c.loop-progress.invariant.quiet
          c.in_ok-progress-in-Asking.ensures.quiet;
      threads = c.go_on.ensures.threads ∙ c.loop-progress.invariant.threads;
      askers = c.go_on.ensures.askers ∙ c.loop-progress.invariant.askers;
      turns = omega (arith, c.go_on.ensures.turns, c.loop-progress.invariant.turns);
      waits = c.go_on.ensures.waits ∙ c.loop-progress.invariant.waits;
    }
