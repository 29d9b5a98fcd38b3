-- The end stands once and last.
use Rattle.std.proofs.Common.{ℕ, ◌≡◌, List, refl, sym, subst, ap}
use Rattle.std.specs.List.{AllByRecursion}
use Rattle.ak_base.proofs.Lists.{all_push}
use Rattle.ak_labor.specs.Calls.{Reply}
use Rattle.ak_trace.specs.declared.entry.Entry.{Entry}
use Rattle.ak_trace.specs.declared.entry.Entry.TheVariants as entry
use Rattle.ak_program.specs.Programs.{NumProgram}
use Rattle.ak_labor.specs.declared.config.Config.{Config}
use Rattle.ak_machine.specs.State.{State}
use Rattle.ak_machine.specs.Run.{Place, AtDrain, AtJob, AtClose, Ended as HasClosed, Wrong, Machine, Ran, HasEnded, Wants, IsWrong, ran_to, run_of}
use Rattle.ak_machine.specs.Run.{machine_after}
use Rattle.ak_laws.specs.Ends.{IsNoEnd, EndsOnce}
use Rattle.ak_ledger.proofs.Still.{Ended}
use Rattle.ak_laws.proofs.Loose.{IsAside, by_runs}
use Rattle.ak_laws.proofs.KeptRun.{PlaceHas, KeptByRuns, run_keeps, anything, brings_anything}

-- no entry of the state's trace is an end
abbrev pub HasNoEnd : State → Type 0
HasNoEnd s = AllByRecursion IsNoEnd s.trace

aside_is_no_end : (e : Entry) → IsAside e → IsNoEnd e
aside_is_no_end (entry.End why) q = q
aside_is_no_end e q = tt

no_end_kept : (limit : ℕ) → KeptByRuns anything limit HasNoEnd
no_end_kept limit =
    by_runs limit HasNoEnd
    (record {
      loose = record {
        note = λ e s q p. all_push IsNoEnd s.trace e p (aside_is_no_end e q);
        enq = λ ctx task s p. all_push IsNoEnd s.trace (entry.Enq s.queues.next ctx.low) p tt;
        rename = λ from to s p. p;
        change = λ s u q t p. subst (AllByRecursion IsNoEnd) (sym t) p;
      };
      cycle = λ s p. all_push IsNoEnd s.trace entry.Cycle p tt;
      pick = λ job s e p. all_push IsNoEnd s.trace (entry.Job job.no) p tt;
      first = λ askers. tt;
    })

abbrev pub IsOver : Ran → Type 0
IsOver HasEnded = Unit {0}
IsOver (Wants a) = ⊥
IsOver IsWrong = ⊥

pub is_over : (r : Ran) → r ≡ HasEnded → IsOver r
is_over r e = subst IsOver (sym e) tt

-- at the end of a run the end is behind the trace
pub at_end : (P : State → Type 0) (m : Machine) → PlaceHas P m.place m.state → ran_to m.place ≡ HasEnded → Ended P m.state
at_end P m p e = by m.place p e
  where
    by : (place : Place) → PlaceHas P place m.state → ran_to place ≡ HasEnded → Ended P m.state
    by AtDrain q e = absurd (is_over _ e)
    by (AtJob a rest) q e = absurd (is_over _ e)
    by AtClose q e = q
    by HasClosed q e = q
    by Wrong q e = absurd (is_over _ e)

pub ends_once : (program : NumProgram) (config : Config) (replies : List Reply) → (run_of program config replies).outcome ≡ HasEnded
    → EndsOnce (run_of program config replies).trace
ends_once program config replies e =
    let x : Ended HasNoEnd (machine_after program config replies).state =
    at_end HasNoEnd (machine_after program config replies)
    (run_keeps anything HasNoEnd config.limit (no_end_kept config.limit) program config refl replies (brings_anything replies)) e
    in record { before = x.before.trace; why = x.why; last = ap (λ (s : State). s.trace) x.last; once = x.has }
