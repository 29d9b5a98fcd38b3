-- A job over a port: from one call to the next, and to its end.
use Rattle.std.proofs.Common.{◌≡◌, ℕ, ◌+◌, ◌<◌, List, [], ◌∷◌, ◌++◌, length, refl, sym, subst, ap, ◌∙◌, arith, Bool, Ok, Err}
use Rattle.std.specs.Prelude.{◌||◌, false}
use Rattle.std.specs.declared.result.Result.{Result}
use Rattle.std.specs.List.{list_any}
use Rattle.std.proofs.lemmas.List.{length-append}
use Rattle.std.proofs.lemmas.List.Folds.{list_any-append}
use Rattle.std.proofs.lemmas.List.Sums.{fold-append}
use Rattle.ak_base.specs.declared.number.Ctx.{Ctx}
use Rattle.ak_labor.specs.declared.ask.Ask.{Ask}
use Rattle.ak_labor.specs.declared.ask.Ask.TheVariants as ask
use Rattle.ak_labor.specs.declared.config.Config.{Config}
use Rattle.ak_labor.specs.declared.port.PortError.{PortError}
use Rattle.ak_labor.specs.declared.port.PortError.TheVariants.{Fault, NoMemory}
use Rattle.ak_labor.specs.Calls.{Reply, is_close, IsOpen, IsAsked, IsFault}
use Rattle.ak_labor.specs.Waits.{came as came_with, left_after}
use Rattle.ak_labor.proofs.Faults.{IsAsked-fault}
use Rattle.ak_frames.specs.declared.frame.Task.{Task}
use Rattle.ak_frames.specs.declared.frame.Ret.{Ret}
use Rattle.ak_frames.specs.declared.value.Value.{Value}
use Rattle.ak_trace.specs.declared.entry.Entry.TheVariants as entry
use Rattle.ak_rings.specs.declared.job.Job.{Job}
use Rattle.ak_program.specs.declared.program.NumProc.{NumProc}
use Rattle.ak_program.specs.declared.program.NumStatement.{NumStatement}
use Rattle.ak_program.specs.Programs.{NumProgram}
use Rattle.ak_machine.specs.declared.flow.Flow.{Flow}
use Rattle.ak_machine.specs.declared.flow.Flow.TheVariants as flow
use Rattle.ak_machine.specs.State.{State}
use Rattle.ak_machine.specs.Number.{truth}
use Rattle.ak_machine.specs.Deferred.{noting}
use Rattle.ak_machine.specs.Errors.{going_on, send, stopped}
use Rattle.ak_machine.specs.Works.{with_helper}
use Rattle.ak_machine.specs.Effect.{Effect, Goes, Raises, Returns, Stops, Ends, Asks}
use Rattle.ak_machine.specs.Statement.{line_effect}
use Rattle.ak_machine.specs.Mapped.{value_mapped, values_mapped}
use Rattle.ak_machine.specs.Job.{Rest, Progress, Over, Asking, returned, run_lines, run_job, value_or_zero}
use Rattle.ak_machine.specs.Run.{Machine, Place, AtJob, asking, progressed, went, stepped, machine_after, begun}
use Rattle.ak_holders.proofs.Carry.{Waits, ProgressIs, rest_returns, asked_on, helper_on}
use Rattle.ak_ledger.specs.Outside.{IsInStep, IsAskable}
use Rattle.ak_ledger.proofs.Still.{AfterHas}
use Rattle.ak_ledger.proofs.Lines.{ProgressHas, lines_keep, frame_keeps}
use Rattle.ak_ledger.proofs.Calls.{came_same, left_same}
use Rattle.ak_ledger.proofs.InStep.{step_still, asks_well}
use Rattle.ak_ledger.specs.Answers.{AnswersAreOwed}
use Rattle.ak_ledger.proofs.Answering.{answer_asked}
use Rattle.ak_ledger.proofs.Owing.{Owed, OwedAsking, noted_owed, lines_owed, helper_owed, after_owed}
use Rattle.ak_frames.specs.declared.frame.Frame.{Frame}
use Rattle.ak_state.specs.Seen.{Seen}
use Rattle.ak_state.specs.Drawn.{drawn}
use Rattle.ak_state.specs.Errors.{after_is}
use Rattle.ak_state.specs.Fits.{ValsFit}
use Rattle.ak_exec.specs.Asks.{PoolTakes, Answers, reply_is, resumed, bound_to, ResumesWay, ResumesReturn, IsRunning, lines_left, Leads, FaultsFrom, StopsFrom, IsInStepAfter, IsQuietSince, IsNoMemory}
use Rattle.ak_exec.specs.Steps.{IsNumbered, ProgressTells, rest_is, progress_is}
use Rattle.ak_exec.specs.Typed.{IsPaused, ProgressFits}
use Rattle.ak_exec.specs.declared.asks.Answer.{Answer}
use Rattle.ak_exec.specs.declared.asks.Answer.TheVariants as answer
use Rattle.ak_exec.specs.declared.job.Rest.{Rest as LeftOver}
use Rattle.ak_exec.specs.declared.job.Progress.{Progress as Came}
use Rattle.ak_exec.specs.declared.job.Progress.TheVariants as came

-- ---- the pool takes the call
pub pool_takes : (askers : ℕ) (asked : List Ask) (replies : List Reply) (a : Ask) (s : State) → IsAskable askers asked replies a s → IsNumbered a s
    → PoolTakes asked replies a
pool_takes askers asked replies (ask.Submit id work helper) s h n = (h.0, n, h.1)
pool_takes askers asked replies (ask.HelperNew x) s h n = (h.0, n.1)
pool_takes askers asked replies (ask.HelperEnd x) s h n = h.0
pool_takes askers asked replies (ask.Answer q v) s h n = h.0
pool_takes askers asked replies ask.Drain s h n = h
pool_takes askers asked replies ask.Close s h n = h

-- ---- the job goes on with the answer
pub paused_way : (program : List NumProc) (a : Ask) (x : Answer) (rest : Rest) (s : State) → Answers a x → IsPaused program s a rest
    → ResumesWay program x rest s
paused_way program (ask.Submit id work helper) answer.Done rest s e p = record {
  monitor = p.monitor;
  typed = record { kinds = p.kinds; vals_fit = p.vals_fit; sound = p.sound };
  ret_fits = p.ret_fits;
  fits = p.fits;
}
paused_way program (ask.HelperEnd h) answer.Done rest s e p = record {
  monitor = p.monitor;
  typed = record { kinds = p.kinds; vals_fit = p.vals_fit; sound = p.sound };
  ret_fits = p.ret_fits;
  fits = p.fits;
}
paused_way program (ask.Answer q v) answer.Done rest s e p = record {
  monitor = p.monitor;
  typed = record { kinds = p.kinds; vals_fit = p.vals_fit; sound = p.sound };
  ret_fits = p.ret_fits;
  fits = p.fits;
}
paused_way program (ask.HelperNew h) (answer.Helper which granted) rest s e p = (
  e ∙ p.numbered.0,
  record {
    monitor = p.monitor;
    typed = record {
      kinds = p.kinds;
      vals_fit = subst (λ n. ValsFit (drawn s) p.kinds (bound_to n granted rest.vals)) (sym e) (p.vals_fit (truth granted));
      sound = p.sound;
    };
    ret_fits = p.ret_fits;
    fits = p.fits;
  },
)
paused_way program (ask.HelperNew h) answer.Done rest s e p = absurd e
paused_way program (ask.Submit id work helper) (answer.Helper which granted) rest s e p = absurd e
paused_way program (ask.HelperEnd h) (answer.Helper which granted) rest s e p = absurd e
paused_way program (ask.Answer q v) (answer.Helper which granted) rest s e p = absurd e
paused_way program ask.Drain x rest s e p = absurd e
paused_way program ask.Close x rest s e p = absurd e

pub paused_returns : (program : List NumProc) (a : Ask) (x : Answer) (rest : Rest) (s : State) → Answers a x → Waits program a s rest
    → ResumesReturn x rest s
paused_returns program (ask.Submit id work helper) answer.Done rest s e w = rest_returns program (ask.Submit id work helper) (reply_is answer.Done) rest s w
paused_returns program (ask.HelperEnd h) answer.Done rest s e w = rest_returns program (ask.HelperEnd h) (reply_is answer.Done) rest s w
paused_returns program (ask.Answer q v) answer.Done rest s e w = rest_returns program (ask.Answer q v) (reply_is answer.Done) rest s w
paused_returns program (ask.HelperNew h) (answer.Helper which granted) rest s e w =
    subst (λ n. ResumesReturn (answer.Helper n granted) rest s) (sym e)
    (rest_returns program (ask.HelperNew h) (reply_is (answer.Helper h granted)) rest s w)
paused_returns program (ask.HelperNew h) answer.Done rest s e w = absurd e
paused_returns program (ask.Submit id work helper) (answer.Helper which granted) rest s e w = absurd e
paused_returns program (ask.HelperEnd h) (answer.Helper which granted) rest s e w = absurd e
paused_returns program (ask.Answer q v) (answer.Helper which granted) rest s e w = absurd e
paused_returns program ask.Drain x rest s e w = absurd e
paused_returns program ask.Close x rest s e w = absurd e

paused_held : (program : List NumProc) (a : Ask) (x : Answer) (rest : Rest) (s : State) → Answers a x → Waits program a s rest
    → ProgressIs program (resumed x rest s)
paused_held program (ask.Submit id work helper) answer.Done rest s e w = asked_on program (ask.Submit id work helper) rest s w refl
paused_held program (ask.HelperEnd h) answer.Done rest s e w = asked_on program (ask.HelperEnd h) rest s w refl
paused_held program (ask.Answer q v) answer.Done rest s e w = asked_on program (ask.Answer q v) rest s w refl
paused_held program (ask.HelperNew h) (answer.Helper which granted) rest s e w =
    subst (λ n. ProgressIs program (resumed (answer.Helper n granted) rest s)) (sym e) (helper_on program h granted rest s w)
paused_held program (ask.HelperNew h) answer.Done rest s e w = absurd e
paused_held program (ask.Submit id work helper) (answer.Helper which granted) rest s e w = absurd e
paused_held program (ask.HelperEnd h) (answer.Helper which granted) rest s e w = absurd e
paused_held program (ask.Answer q v) (answer.Helper which granted) rest s e w = absurd e
paused_held program ask.Drain x rest s e w = absurd e
paused_held program ask.Close x rest s e w = absurd e

-- the names of what it binds beside the helper
pub helper_bound : (f : ℕ → ℕ) (which : ℕ) (granted : Bool) (vals : List Value)
    → values_mapped f (bound_to which granted vals) ≡ bound_to which granted (values_mapped f vals)
helper_bound f which granted [] = refl
helper_bound f which granted (v ∷ vals) = ap (λ vs. value_mapped f v ∷ vs) (helper_bound f which granted vals)

-- ---- one call more
pub open_more : (asked asked' : List Ask) (replies replies' : List Reply) (a : Ask) (r : Reply) → is_close a ≡ false → IsOpen asked replies
    → asked' ≡ asked ++ a ∷ [] → replies' ≡ replies ++ r ∷ [] → IsOpen asked' replies'
open_more asked asked' replies replies' a r c o ea er = (
  ap (list_any is_close) ea ∙ list_any-append is_close asked (a ∷ []) ∙ ap (λ b. b || (is_close a || false)) o.0 ∙ ap (λ b. b || false) c,
  ap length er ∙ length-append replies (r ∷ []) ∙ ap (λ n. n + 1) o.1 ∙ sym (length-append asked (a ∷ [])) ∙ ap length (sym ea),
)

no_close : (a : Ask) (x : Answer) → Answers a x → is_close a ≡ false
no_close (ask.Submit id work helper) x e = refl
no_close (ask.HelperNew h) x e = refl
no_close (ask.HelperEnd h) x e = refl
no_close (ask.Answer q v) x e = refl
no_close ask.Drain x e = refl
no_close ask.Close x e = absurd e

module _ (askers : ℕ) (asked : List Ask) (replies : List Reply) (even : length replies ≡ length asked) where
  lines_in_step : (ctx : Ctx) (ret : Ret) (lines : List NumStatement) (s : State) (vals : List Value) → IsInStep askers asked replies s
      → ProgressHas (IsInStep askers asked replies) (IsAskable askers asked replies) (run_lines ctx ret lines s vals)
  lines_in_step ctx ret lines s vals h =
      lines_keep (IsInStep askers asked replies) (IsAskable askers asked replies) (step_still askers asked replies) (asks_well askers asked replies even)
      ctx ret lines s vals h

  pub job_in_step : (program : List NumProc) (job : Job Task) (s : State) → AnswersAreOwed (job.frame.frame ∷ []) s → IsInStep askers asked replies s
      → ProgressHas (IsInStep askers asked replies) (IsAskable askers asked replies) (run_job program job s)
  job_in_step program job s o h =
      let t : State = noting (entry.Job job.no) s
      in frame_keeps (IsInStep askers asked replies) (IsAskable askers asked replies) (step_still askers asked replies) (asks_well askers asked replies even)
      program job.ctx job.frame.frame (value_or_zero job.frame.value) t h
      (λ q e. answer_asked askers asked replies even [] q (value_or_zero job.frame.value) t
      (subst (λ (f : Frame). AnswersAreOwed (f ∷ []) t) e (noted_owed (job.frame.frame ∷ []) (entry.Job job.no) s o)) h)

-- a state in step behind the call
resumed_in_step : (askers : ℕ) (asked : List Ask) (replies : List Reply) (a : Ask) (x : Answer) (rest : Rest) (s : State) → Answers a x
    → length replies ≡ length asked → IsAskable askers asked replies a s
    → ProgressHas (IsInStep askers (asked ++ a ∷ []) (replies ++ reply_is x ∷ [])) (IsAskable askers (asked ++ a ∷ []) (replies ++ reply_is x ∷ []))
    (resumed x rest s)
resumed_in_step askers asked replies a x rest s e even h =
    by a x e h (length-append replies (reply_is x ∷ []) ∙ ap (λ n. n + 1) even ∙ sym (length-append asked (a ∷ [])))
  where
    by : (b : Ask) (y : Answer) → Answers b y → IsAskable askers asked replies b s
        → length (replies ++ reply_is y ∷ []) ≡ length (asked ++ b ∷ [])
        → ProgressHas (IsInStep askers (asked ++ b ∷ []) (replies ++ reply_is y ∷ [])) (IsAskable askers (asked ++ b ∷ []) (replies ++ reply_is y ∷ []))
        (resumed y rest s)
    by (ask.Submit id work helper) answer.Done k g n = lines_in_step askers _ _ n rest.ctx rest.ret rest.lines s rest.vals g.2
    by (ask.HelperEnd i) answer.Done k g n = lines_in_step askers _ _ n rest.ctx rest.ret rest.lines s rest.vals g.1
    by (ask.Answer q v) answer.Done k g n = lines_in_step askers _ _ n rest.ctx rest.ret rest.lines s rest.vals g.1
    by (ask.HelperNew i) (answer.Helper which granted) k g n =
        lines_in_step askers _ _ n rest.ctx rest.ret rest.lines (with_helper granted s) (bound_to which granted rest.vals) (g.1 granted)
    by (ask.HelperNew i) answer.Done k g n = absurd k
    by (ask.Submit id work helper) (answer.Helper which granted) k g n = absurd k
    by (ask.HelperEnd i) (answer.Helper which granted) k g n = absurd k
    by (ask.Answer q v) (answer.Helper which granted) k g n = absurd k
    by ask.Drain y k g n = absurd k
    by ask.Close y k g n = absurd k

-- so many answers are to come behind it
resumed_owed : (a : Ask) (x : Answer) (rest : Rest) (s : State) → Answers a x → Owed s → ProgressHas Owed OwedAsking (resumed x rest s)
resumed_owed a answer.Done rest s e h = lines_owed rest.ctx rest.ret rest.lines s rest.vals h
resumed_owed a (answer.Helper which granted) rest s e h =
    lines_owed rest.ctx rest.ret rest.lines (with_helper granted s) (bound_to which granted rest.vals) (helper_owed granted s h)

-- and when it is over
pub over_owed : (s : Seen) (far : Came) (f : Flow) → far ≡ came.Over f → ProgressHas Owed OwedAsking (progress_is s far) → Owed s.plain
over_owed s far f e h = after_owed f s.plain (subst (λ (x : Came). ProgressHas Owed OwedAsking (progress_is s x)) e h)

-- ---- a job behind one call more
pub resumed_running : (program : List NumProc) (askers askers' : ℕ) (old new : Seen) (a : Ask) (x : Answer) (rest : LeftOver) (far : Came)
    (asked asked' : List Ask) (replies replies' : List Reply) → IsRunning program askers old (came.Asking a rest) asked replies → Answers a x
    → asked' ≡ asked ++ a ∷ [] → replies' ≡ replies ++ reply_is x ∷ [] → askers' ≡ askers → ProgressFits program new far → ProgressTells far new.plain.trace
    → resumed x (rest_is old rest) old.plain ≡ progress_is new far → IsRunning program askers' new far asked' replies'
resumed_running program askers askers' old new a x rest far asked asked' replies replies' run e ea er ek fits told runs = record {
  fits = fits;
  told = told;
  held = subst (ProgressIs program) runs (paused_held program a x (rest_is old rest) old.plain e run.held);
  owed = subst (ProgressHas Owed OwedAsking) runs (resumed_owed a x (rest_is old rest) old.plain e run.owed);
  opened = open_more asked asked' replies replies' a (reply_is x) (no_close a x e) run.opened ea er;
  in_step =
      subst (λ (p : Progress). ProgressHas (IsInStep askers' asked' replies') (IsAskable askers' asked' replies') p) runs
      (subst (λ n. ProgressHas (IsInStep n asked' replies') (IsAskable n asked' replies') (resumed x (rest_is old rest) old.plain)) (sym ek)
      (subst (λ rs. ProgressHas (IsInStep askers asked' rs) (IsAskable askers asked' rs) (resumed x (rest_is old rest) old.plain)) (sym er)
      (subst (λ (all : List Ask). ProgressHas (IsInStep askers all (replies ++ reply_is x ∷ [])) (IsAskable askers all (replies ++ reply_is x ∷ []))
      (resumed x (rest_is old rest) old.plain)) (sym ea)
      (resumed_in_step askers asked replies a x (rest_is old rest) old.plain e run.opened.1 run.in_step))));
}

-- ---- the machine with the job
went_from : (f : Flow) (t s : State) (place : Place) (m : Machine) → went (after_is f t) (record m { state = s; place = place }) ≡ went (after_is f t) m
went_from flow.On t s place m = refl
went_from flow.Stopped t s place m = refl
went_from (flow.Unhandled e) t s place m = refl

-- what a job does next overwrites where the machine stands
pub progressed_from : (p : Progress) (s : State) (place : Place) (m : Machine) → progressed p (record m { state = s; place = place }) ≡ progressed p m
progressed_from (Over after) s place m = went_from after.flow after.state s place m
progressed_from (Asking a t rest) s place m = refl

answered_by : (program : NumProgram) (config : Config) (a : Ask) (x : Answer) (rest : Rest) (s : State) (m : Machine) → Answers a x
    → stepped program config (progressed (Asking a s rest) m) (reply_is x) ≡ progressed (resumed x rest s) (asking a (AtJob a rest) s m)
answered_by program config (ask.Submit id work helper) answer.Done rest s m e = refl
answered_by program config (ask.HelperEnd h) answer.Done rest s m e = refl
answered_by program config (ask.Answer q v) answer.Done rest s m e = refl
answered_by program config (ask.HelperNew h) (answer.Helper which granted) rest s m e =
    ap (λ n. progressed (resumed (answer.Helper n granted) rest s) (asking (ask.HelperNew h) (AtJob (ask.HelperNew h) rest) s m)) (sym e)
answered_by program config (ask.HelperNew h) answer.Done rest s m e = absurd e
answered_by program config (ask.Submit id work helper) (answer.Helper which granted) rest s m e = absurd e
answered_by program config (ask.HelperEnd h) (answer.Helper which granted) rest s m e = absurd e
answered_by program config (ask.Answer q v) (answer.Helper which granted) rest s m e = absurd e
answered_by program config ask.Drain x rest s m e = absurd e
answered_by program config ask.Close x rest s m e = absurd e

-- one call leads from where it is made to where the job goes on
pub call_leads : (program : NumProgram) (asked asked' : List Ask) (replies replies' : List Reply) (a : Ask) (x : Answer) (rest : Rest) (s : State)
    → Answers a x → asked' ≡ asked ++ a ∷ [] → replies' ≡ replies ++ reply_is x ∷ []
    → Leads program asked replies (Asking a s rest) asked' replies' (resumed x rest s)
call_leads program asked asked' replies replies' a x rest s e ea er config m h =
    ap (machine_after program config) er
    ∙ fold-append (stepped program config) (begun program.main config) replies (reply_is x ∷ [])
    ∙ ap (λ (y : Machine). stepped program config y (reply_is x)) h
    ∙ answered_by program config a x rest s (record m { asks = asked }) e
    ∙ progressed_from (resumed x rest s) s (AtJob a rest) (record m { asks = asked ++ a ∷ [] })
    ∙ ap (λ (all : List Ask). progressed (resumed x rest s) (record m { asks = all })) (sym ea)

pub leads_same : (program : NumProgram) (asked asked' : List Ask) (replies replies' : List Reply) (p p' : Progress) → p ≡ p' → asked' ≡ asked
    → replies' ≡ replies
    → Leads program asked replies p asked' replies' p'
leads_same program asked asked' replies replies' p p' e ea er config m h =
    ap (machine_after program config) er ∙ h ∙ ap (λ (x : Progress). progressed x (record m { asks = asked })) e
    ∙ ap (λ (all : List Ask). progressed p' (record m { asks = all })) (sym ea)

pub leads_to : (program : NumProgram) (asked asked' : List Ask) (replies replies' : List Reply) (p q q' : Progress) → q ≡ q'
    → Leads program asked replies p asked' replies' q → Leads program asked replies p asked' replies' q'
leads_to program asked asked' replies replies' p q q' e f config m h = f config m h ∙ ap (λ (x : Progress). progressed x (record m { asks = asked' })) e

-- how far the code's job came
pub leads_far : (program : NumProgram) (asked asked' : List Ask) (replies replies' : List Reply) (p : Progress) (s : Seen) (far far' : Came) → far ≡ far'
    → Leads program asked replies p asked' replies' (progress_is s far) → Leads program asked replies p asked' replies' (progress_is s far')
leads_far program asked asked' replies replies' p s far far' e f =
    leads_to program asked asked' replies replies' p (progress_is s far) (progress_is s far') (ap (progress_is s) e) f

pub leads_on : (program : NumProgram) (xs ys zs : List Ask) (rs ss ts : List Reply) (p q r : Progress) → Leads program xs rs p ys ss q
    → Leads program ys ss q zs ts r → Leads program xs rs p zs ts r
leads_on program xs ys zs rs ss ts p q r f g config m h = g config m (f config m h)

-- ---- a call that failed, and one that was not made
pub call_faults : {T F : Type 0} (program : NumProgram) (asked asked' : List Ask) (replies replies' : List Reply) (a : Ask) (rest : Rest) (s : State)
    (reply_of : T → Reply) (result : Result T (PortError F)) → IsAsked a reply_of asked asked' replies replies' result → IsFault result → IsOpen asked replies
    → FaultsFrom program asked replies (Asking a s rest) asked' replies'
call_faults program asked asked' replies replies' a rest s reply_of result is fault o =
    let call = IsAsked-fault a reply_of asked asked' replies replies' result is fault
    in record {
      ask = a;
      state = s;
      rest = rest;
      before = asked;
      leads = leads_same program asked asked replies replies' (Asking a s rest) (Asking a s rest) refl refl call.1;
      last = call.0;
      opened = (o.0, ap length call.1 ∙ o.1);
    }

pub unmade : {T F : Type 0} (a : Ask) (reply_of : T → Reply) (asked asked' : List Ask) (replies replies' : List Reply)
    (result : Result T (PortError F)) → IsAsked a reply_of asked asked' replies replies' result → IsNoMemory result → (asked' ≡ asked) × (replies' ≡ replies)
unmade a reply_of asked asked' replies replies' (Ok v) is short = absurd short
unmade a reply_of asked asked' replies replies' (Err (Fault f)) is short = absurd short
unmade a reply_of asked asked' replies replies' (Err NoMemory) is short = is

pub open_same : (asked asked' : List Ask) (replies replies' : List Reply) → IsOpen asked replies → asked' ≡ asked → replies' ≡ replies → IsOpen asked' replies'
open_same asked asked' replies replies' o ea er = (ap (list_any is_close) ea ∙ o.0, ap length er ∙ o.1 ∙ ap length (sym ea))

pub stops_here : (program : NumProgram) (asked asked' : List Ask) (replies replies' : List Reply) (p : Progress) → IsOpen asked replies → asked' ≡ asked
    → replies' ≡ replies → StopsFrom program asked replies p asked' replies'
stops_here program asked asked' replies replies' p o ea er = record {
  came = p;
  leads = leads_same program asked asked' replies replies' p p refl ea er;
  opened = open_same asked asked' replies replies' o ea er;
}

pub stops_behind : (program : NumProgram) (asked asked' : List Ask) (replies replies' : List Reply) (a : Ask) (x : Answer) (rest : Rest) (s : State)
    → Answers a x → IsOpen asked replies → asked' ≡ asked ++ a ∷ [] → replies' ≡ replies ++ reply_is x ∷ []
    → StopsFrom program asked replies (Asking a s rest) asked' replies'
stops_behind program asked asked' replies replies' a x rest s e o ea er = record {
  came = resumed x rest s;
  leads = call_leads program asked asked' replies replies' a x rest s e ea er;
  opened = open_more asked asked' replies replies' a (reply_is x) (no_close a x e) o ea er;
}

-- behind what led there
pub faults_behind : (program : NumProgram) (xs ys zs : List Ask) (rs ss ts : List Reply) (p q : Progress) → Leads program xs rs p ys ss q
    → FaultsFrom program ys ss q zs ts → FaultsFrom program xs rs p zs ts
faults_behind program xs ys zs rs ss ts p q f g = record {
  ask = g.ask;
  state = g.state;
  rest = g.rest;
  before = g.before;
  leads = leads_on program xs ys g.before rs ss ts p q (Asking g.ask g.state g.rest) f g.leads;
  last = g.last;
  opened = g.opened;
}

pub stops_after : (program : NumProgram) (xs ys zs : List Ask) (rs ss ts : List Reply) (p q : Progress) → Leads program xs rs p ys ss q
    → StopsFrom program ys ss q zs ts → StopsFrom program xs rs p zs ts
stops_after program xs ys zs rs ss ts p q f g =
    record { came = g.came; leads = leads_on program xs ys zs rs ss ts p q g.came f g.leads; opened = g.opened }

-- ---- fewer lines are left
lines_fewer_by : (ctx : Ctx) (ret : Ret) (lines : List NumStatement) (s t : State) (a : Ask) (rest : Rest)
    → ((u : State) (vals : List Value) → run_lines ctx ret lines u vals ≡ Asking a t rest → length rest.lines < 1 + length lines) → (x : Effect) → (elim x [
      | Goes s' vals' ↦ run_lines ctx ret lines s' vals'
      | Raises e ↦ Over (send ctx.mon e s)
      | Returns v ↦ Over (going_on (returned ret v s))
      | Stops ↦ Over (stopped s)
      | Ends after ↦ Over after
      | Asks b s' vals' ↦ Asking b s' (record { ctx = ctx; ret = ret; vals = vals'; lines = lines })
    ]) ≡ Asking a t rest → length rest.lines < 1 + length lines
lines_fewer_by ctx ret lines s t a rest more (Goes s' vals') e = more s' vals' e
lines_fewer_by ctx ret lines s t a rest more (Raises z) e = absurd (cc)
lines_fewer_by ctx ret lines s t a rest more (Returns v) e = absurd (cc)
lines_fewer_by ctx ret lines s t a rest more Stops e = absurd (cc)
lines_fewer_by ctx ret lines s t a rest more (Ends after) e = absurd (cc)
lines_fewer_by ctx ret lines s t a rest more (Asks b s' vals') e =
    let same : rest ≡ record { ctx = ctx; ret = ret; vals = vals'; lines = lines } = cc
    in let n : length rest.lines ≡ length lines = ap (λ (r : Rest). length r.lines) same
    in omega (arith, n)

lines_fewer : (ctx : Ctx) (ret : Ret) (lines : List NumStatement) (s : State) (vals : List Value) (a : Ask) (t : State) (rest : Rest)
    → run_lines ctx ret lines s vals ≡ Asking a t rest → length rest.lines < length lines
lines_fewer ctx ret [] s vals a t rest e = absurd (cc)
lines_fewer ctx ret (line ∷ lines) s vals a t rest e =
    let n = lines_fewer_by ctx ret lines s t a rest
    (λ u vs f. let k = lines_fewer ctx ret lines u vs a t rest f in omega (arith, k)) (line_effect ctx line s vals) e
    in omega (arith, n)

resumed_fewer : (x : Answer) (rest : Rest) (s : State) (a : Ask) (t : State) (rest' : Rest) → resumed x rest s ≡ Asking a t rest'
    → length rest'.lines < length rest.lines
resumed_fewer answer.Done rest s a t rest' e = lines_fewer rest.ctx rest.ret rest.lines s rest.vals a t rest' e
resumed_fewer (answer.Helper which granted) rest s a t rest' e =
    lines_fewer rest.ctx rest.ret rest.lines (with_helper granted s) (bound_to which granted rest.vals) a t rest' e

pub left_fewer : (x : Answer) (rest : Rest) (old : State) (new : Seen) (far : Came) → resumed x rest old ≡ progress_is new far
    → lines_left far < 1 + length rest.lines
left_fewer x rest old new (came.Over f) e = omega arith
left_fewer x rest old new (came.Asking a r) e =
    let n = resumed_fewer x rest old a new.plain (rest_is new r) e in omega (arith, n)

-- ---- the end of a job
pub over_in_step : (askers : ℕ) (asked : List Ask) (replies : List Reply) (f : Flow) (s : State)
    → AfterHas (IsInStep askers asked replies) f s → IsInStepAfter askers asked replies f s
over_in_step askers asked replies flow.On s h = h
over_in_step askers asked replies flow.Stopped s h = tt
over_in_step askers asked replies (flow.Unhandled e) s h = tt

-- ---- nothing comes from outside with the replies to a job
pub quiet_same : (askers : ℕ) (replies replies' : List Reply) → replies' ≡ replies → IsQuietSince askers replies replies'
quiet_same askers replies replies' e = record { none_came = ap came_with e; left = ap (left_after askers) e }

pub quiet_more : (askers : ℕ) (replies replies' : List Reply) (x : Answer) → replies' ≡ replies ++ reply_is x ∷ [] → IsQuietSince askers replies replies'
quiet_more askers replies replies' answer.Done e = record {
  none_came = ap came_with e ∙ came_same replies (reply_is answer.Done) refl;
  left = ap (left_after askers) e ∙ left_same askers replies (reply_is answer.Done) (λ n. refl);
}
quiet_more askers replies replies' (answer.Helper which granted) e = record {
  none_came = ap came_with e ∙ came_same replies (reply_is (answer.Helper which granted)) refl;
  left = ap (left_after askers) e ∙ left_same askers replies (reply_is (answer.Helper which granted)) (λ n. refl);
}

pub quiet_on : (askers askers' : ℕ) (rs ss ts : List Reply) → askers' ≡ askers → IsQuietSince askers rs ss → IsQuietSince askers' ss ts
    → IsQuietSince askers rs ts
quiet_on askers askers' rs ss ts e f g =
    let h : IsQuietSince askers ss ts = subst (λ n. IsQuietSince n ss ts) e g
    in record { none_came = h.none_came ∙ f.none_came; left = h.left ∙ f.left }
