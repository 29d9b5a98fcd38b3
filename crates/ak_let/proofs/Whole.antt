-- A run that has ended has ended as its source does.
use Rattle.std.proofs.Common.{ℕ, ℤ, ◌+◌, ◌*◌, ◌≤◌, ◌≡◌, inl, inr, List, ap, sym, ◌∙◌, subst, arith, take}
use Rattle.ak_labor.specs.declared.work.Outcome.{Outcome}
use Rattle.ak_labor.specs.Calls.{Reply}
use Rattle.ak_labor.specs.declared.config.Config.{Config}
use Rattle.ak_machine.specs.Run.{Place, AtDrain, AtJob, AtClose, Ended, Wrong, Machine, Ran, HasEnded, Wants, IsWrong, ran_to, run_of, machine_after, begun as machine_begun}
use Rattle.ak_let.specs.declared.source.Source.{Source}
use Rattle.ak_let.specs.Eval as source
use Rattle.ak_let.specs.Eval.{Walked, begun, eval}
use Rattle.ak_let.specs.Compile.{program_of}
use Rattle.ak_let.proofs.Placed.{target_of, compiled_is_target}
use Rattle.ak_history.specs.Scheduler.{replies}
use Rattle.ak_let.proofs.History.{comes_to, history_true}
use Rattle.ak_let.specs.Correct.{IsSound, IsCorrect, Told, IsOver, IsPrefix, EndsAs, AreTrue}
use Rattle.ak_let.proofs.Related.{Target, whole, IsTarget}
use Rattle.ak_let.proofs.Counts.{eval_is, eval_stays, eval_prefix, steps_few}
use Rattle.ak_let.proofs.Turns.{EndsBy, ByIdle, ByError, ByJobs, Closes, SimAt, all_sim, begun_sim}

over_is : (w : Walked) → w.walk ≡ source.Over → IsOver w.walk
over_is w e = subst IsOver (sym e) tt

raised_is : (w : Walked) (x : ℤ) → w.walk ≡ source.Raised x → IsOver w.walk
raised_is w x e = subst IsOver (sym e) tt

closed_ends : (t : Target) (config : Config) (m : Machine) → Closes t config m → EndsAs t.source config.jobs m.state.trace
closed_ends t config m x = by x.ends
  where
    within : x.counted.count ≤ 64 * config.jobs
    within = omega (arith, x.counted.few, x.counted.within)

    there : eval t.source x.counted.count ≡ x.w
    there = eval_is t.source x.counted.count x.w x.counted.steps

    by : EndsBy t config m.ran m.state x.w x.n → EndsAs t.source config.jobs m.state.trace
    by (ByIdle before last walk told) =
        let e : eval t.source (64 * config.jobs) ≡ x.w = eval_stays t.source x.counted.count (64 * config.jobs) x.w within there (over_is x.w walk)
        in inl (record {
          before = before;
          last = last;
          told = subst (λ (z : Walked). Told m.state.trace z.prints z.works) (sym e) told;
          walk = ap (λ (z : Walked). z.walk) e ∙ walk;
        })
    by (ByError k failed) =
        let e : eval t.source (64 * config.jobs) ≡ x.w = eval_stays t.source x.counted.count (64 * config.jobs) x.w within there (raised_is x.w k failed.walk)
        in inr (inl (record {
          before = failed.before;
          error = k;
          last = failed.last;
          told = subst (λ (z : Walked). Told m.state.trace z.prints z.works) (sym e) failed.told;
          walk = ap (λ (z : Walked). z.walk) e ∙ failed.walk;
        }))
    by (ByJobs before last full paid told) =
        let e = eval_prefix t.source x.counted.count (64 * config.jobs) x.w within there
        in inr (inr (record {
          before = before;
          last = last;
          prints = subst (λ l. IsPrefix l (eval t.source (64 * config.jobs)).prints) (sym told.prints_are) e.0;
          works = subst (λ l. IsPrefix l (eval t.source (64 * config.jobs)).works) (sym told.works_are) e.1;
          not_sooner = λ k small over. absurd (too_many k small full paid x.counted.bound (steps_few t.source x.counted.count k x.w x.counted.steps over));
        }))
      where
        too_many : (k : ℕ) → 8 * k + 8 ≤ config.jobs → config.jobs ≤ m.ran → 1 ≤ x.n → m.ran + x.n ≤ 2 + 3 * x.counted.count → x.counted.count ≤ k → ⊥
        too_many k a b c d e = omega (arith, a, b, c, d, e)

abbrev IsEnd : Ran → Type 0
IsEnd HasEnded = Unit {0}
IsEnd (Wants a) = ⊥
IsEnd IsWrong = ⊥

ended_closes : (t : Target) (config : Config) (place : Place) (m : Machine) → SimAt t config place m → IsEnd (ran_to place) → Closes t config m
ended_closes t config AtDrain m x e = absurd e
ended_closes t config (AtJob a rest) m x e = absurd e
ended_closes t config AtClose m x e = absurd e
ended_closes t config Ended m x e = x
ended_closes t config Wrong m x e = absurd e

-- the theorem, over a list of replies that tell the truth
pub target_correct : (t : Target) → IsTarget t → (config : Config) → 1 ≤ config.threads → config.askers ≡ 0 → (replies : List Reply)
    → AreTrue t.outcome (whole t) config (machine_begun 0 config) replies → (run_of (whole t) config replies).outcome ≡ HasEnded
    → EndsAs t.source config.jobs (run_of (whole t) config replies).trace
target_correct t is config h none replies truth e =
    let m : Machine = machine_after (whole t) config replies
    in closed_ends t config m (ended_closes t config m.place m
    (all_sim t is config h replies (machine_begun 0 config) (begun_sim t config none) truth) (subst IsEnd (sym e) tt))

-- the same for the compiled program
pub let_correct : (p : Source) → IsSound p → (config : Config) → 1 ≤ config.threads → config.askers ≡ 0 → (outcome : ℕ → Outcome)
    (replies : List Reply) → AreTrue outcome (program_of p) config (machine_begun 0 config) replies
    → (run_of (program_of p) config replies).outcome ≡ HasEnded → EndsAs p config.jobs (run_of (program_of p) config replies).trace
let_correct p s config h none outcome = target_correct (target_of outcome p) (compiled_is_target outcome p s) config h none

-- the theorem over histories
pub compiled_is_correct : (p : Source) → IsSound p → IsCorrect p (program_of p)
compiled_is_correct p s config history h none legal met =
    let_correct p s config h none (comes_to history) (take met.0 (replies config.askers history))
    (history_true (program_of p) config history config.threads met.0 none legal met.1.agree)
    met.1.ended
