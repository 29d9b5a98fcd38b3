-- What was written to a pipe and what its reads got, by the tally of the pipe: each reply keeps it, and so a whole run.
use Rattle.std.proofs.Common.{ℕ, ℤ, ◌+◌, ◌≤◌, ◌≡◌, List, [], ◌∷◌, ◌++◌, length, map, take, drop, Bool, true, false, cond, Option, Some, None, refl, sym, subst, ap, ◌∙◌, arith, fold}
use Rattle.std.specs.Prelude.{nat_le, not, if◌then◌else◌}
use Rattle.std.specs.List.{AllByRecursion}
use Rattle.std.proofs.lemmas.List.{length-map, length-take-le, take_at, take-append-drop}
use Rattle.ak_base.specs.declared.number.Ctx.{Ctx}
use Rattle.ak_base.specs.Lists.{is_empty_list}
use Rattle.ak_labor.specs.declared.ask.Ask.{Ask}
use Rattle.ak_labor.specs.declared.ask.Ask.TheVariants as ask
use Rattle.ak_labor.specs.declared.config.Config.{Config}
use Rattle.ak_labor.specs.Arrived.{Arrived}
use Rattle.ak_labor.specs.Calls.{Reply, Drained, Granted, Done}
use Rattle.ak_rings.specs.declared.job.Job.{Job}
use Rattle.ak_rings.specs.Queues.{pick_of, picked_from}
use Rattle.ak_frames.specs.declared.value.Value.{Value}
use Rattle.ak_frames.specs.declared.frame.Ret.TheVariants.{Drop}
use Rattle.ak_frames.specs.declared.frame.Frame.{Frame}
use Rattle.ak_frames.specs.declared.frame.Frame.TheVariants.{AnswerOut}
use Rattle.ak_frames.specs.declared.frame.Task.{Task}
use Rattle.ak_trace.specs.declared.entry.Entry.TheVariants as entry
use Rattle.ak_program.specs.Programs.{NumProgram}
use Rattle.ak_trace.specs.declared.entry.Ending.TheVariants as ending
use Rattle.ak_pipe.specs.Pipe as pipe
use Rattle.ak_machine.specs.declared.held.Read.{Read}
use Rattle.ak_machine.specs.declared.flow.Flow.{Flow}
use Rattle.ak_machine.specs.declared.flow.Flow.TheVariants as flow
use Rattle.ak_machine.specs.State.{State, initial_state, next_ivar}
use Rattle.ak_machine.specs.Deferred.{noting, called, with_ivar, number_at, register_at}
use Rattle.ak_machine.specs.Pipes.{pipe_at}
use Rattle.ak_machine.specs.Errors.{After}
use Rattle.ak_machine.specs.Works.{with_helper, with_request}
use Rattle.ak_machine.specs.Job.{Rest, Progress, Over, Asking, run_lines, run_job, value_or_zero}
use Rattle.ak_machine.specs.Cycle.{cycle_begun, has_more, is_stuck, is_quiet, arrive_all, at_root, request_arrived, requests_served, served_by, with_left}
use Rattle.ak_machine.specs.Run.{Place, AtDrain, AtJob, AtClose, Ended as HasClosed, Wrong, Machine, went, progressed, ending_by, cycle_ended, picked, served}
use Rattle.ak_machine.specs.Run.{drained, gone_on, job_answered, stepped_at, stepped, begun, machine_after}
use Rattle.ak_ledger.specs.Tallies.{proc_of, Tally, tallies_of}
use Rattle.ak_ledger.proofs.Still.{AfterHas}
use Rattle.ak_ledger.proofs.Waiting.{cycle_still}
use Rattle.ak_laws.specs.Executed.{Executed, picked_executed, served_executed, drained_executed, rest_executed, answered_executed, reply_executed, executed_from, executed}
use Rattle.ak_laws.specs.Executed.{job_executed}
use Rattle.ak_laws.specs.Reads.{written_to, reads_of, got_from, AreCalled, ReadsGetWhatWasWritten}
use Rattle.ak_laws.proofs.Kept.{Arriving}
use Rattle.ak_laws.proofs.KeptRun.{ArrivedHas, RequestsHave, arrive_all_keeps, requests_keep, anything, pairs_bring}
use Rattle.ak_laws.proofs.Calling.{statement_called}
use Rattle.ak_laws.proofs.Walking.{all_executed_have}
use Rattle.ak_laws.proofs.Told.{Gets, procs_in, numbers_in, Told, none_told, tally_at}
use Rattle.ak_laws.proofs.Reading.{HasTallies, tallies_still, after_tallies, told_by, Grown, none_grown, then_grown, reached, lines_grown, frame_grown}

-- ---- what a drain brings, and a cycle's begin, leave the tallies
module _ (ts : List Tally) where
  registered_tallies : (o : Option ℤ) (i : ℕ) (ctx : Ctx) (frame : Frame) (s : State) → HasTallies ts s → HasTallies ts (register_at o i ctx frame s)
  registered_tallies (Some v) i ctx frame s h = h
  registered_tallies None i ctx frame s h = h

  request_tallies : (ask q : ℕ) (n : ℤ) (s : State) → HasTallies ts s → HasTallies ts (request_arrived ask q n s)
  request_tallies ask q n s h =
      let noted : State = noting (entry.Request q n (next_ivar s)) (with_request q (next_ivar s) (with_ivar s))
      in registered_tallies (number_at (next_ivar s) noted) (next_ivar s) at_root (AnswerOut q) noted h

  tallies_arriving : Arriving anything (HasTallies ts)
  tallies_arriving = record {
    still = tallies_still ts;
    arrive = λ w outcome work s b e h. h;
    request = λ ask q n s e h. request_tallies ask q n s h;
  }

  if_machine : (b : Bool) (x y : Machine) → HasTallies ts x.state → HasTallies ts y.state → HasTallies ts (if b then x else y).state
  if_machine true x y p q = p
  if_machine false x y p q = q

  cycle_tallies : (s : State) → HasTallies ts s → HasTallies ts (cycle_begun s)
  cycle_tallies s h = cycle_still (HasTallies ts) (tallies_still ts) s h

  cycle_ended_tallies : (config : Config) (s : State) (m : Machine) → HasTallies ts s → HasTallies ts (cycle_ended config s m).state
  cycle_ended_tallies config s m h =
      if_machine (has_more s) _ _ (cycle_tallies s h)
      (if_machine (not (is_quiet s)) _ _ (cycle_tallies s h)
      (if_machine (is_empty_list s.works) _ _ h
      (if_machine (is_stuck config.threads s) _ _ h (cycle_tallies s h))))

-- ---- a machine
went_state : (after : After) (m : Machine) → (went after m).state ≡ after.state
went_state after m = by after.flow
  where
    by : (f : Flow) → (went (record { state = after.state; flow = f }) m).state ≡ after.state
    by flow.On = refl
    by flow.Stopped = refl
    by (flow.Unhandled e) = refl

progressed_state : (x : Progress) (m : Machine) → reached x ≡ (progressed x m).state
progressed_state (Over after) m = sym (went_state after m)
progressed_state (Asking a s rest) m = refl

module _ (p : ℕ) (program : NumProgram) (config : Config) where
  picked_grown : (o : Option (Job Task)) (s : State) (m : Machine) (w : List ℤ) (rs : List ℕ) (g : List Gets) → Told w rs g (tally_at p s)
      → Grown p w rs g (picked_executed program config o s m.ran) (picked program config o s m).state
  picked_grown None s m w rs g h =
      none_grown p w rs g s (cycle_ended config s m).state (cycle_ended_tallies (tallies_of s) config s m refl) h
  picked_grown (Some job) s m w rs g h = by (nat_le config.jobs m.ran)
    where
      by : (b : Bool) → Grown p w rs g (if b then [] else job_executed program.procs job (record s { queues = picked_from s.queues }))
          (if b then ending_by ending.Jobs s m
          else progressed (run_job program.procs job (record s { queues = picked_from s.queues })) (record m { ran = m.ran + 1 })).state
      by true = none_told w rs g (tally_at p s) h
      by false =
          let noted : State = noting (entry.Job job.no) (record s { queues = picked_from s.queues })
          in let x : Progress = run_job program.procs job (record s { queues = picked_from s.queues })
          in subst (Grown p w rs g (job_executed program.procs job (record s { queues = picked_from s.queues })))
          (progressed_state x (record m { ran = m.ran + 1 }))
          (frame_grown p program.procs job.ctx job.frame.frame (value_or_zero job.frame.value) noted w rs g h)

  served_grown : (o : Option State) (left : ℕ) (m : Machine) (w : List ℤ) (rs : List ℕ) (g : List Gets) → Told w rs g (tally_at p m.state)
      → RequestsHave (HasTallies (tallies_of m.state)) o → Grown p w rs g (served_executed program config o left m.ran) (served program config o left m).state
  served_grown None left m w rs g h q = none_told w rs g (tally_at p m.state) h
  served_grown (Some s) left m w rs g h q =
      picked_grown (pick_of s.queues) (with_left left s) m w rs g (told_by p w rs g m.state (with_left left s) q h)

  drained_grown : (arrived : Arrived) (o : Option After) (m : Machine) (w : List ℤ) (rs : List ℕ) (g : List Gets) → Told w rs g (tally_at p m.state)
      → ArrivedHas (HasTallies (tallies_of m.state)) o
      → Grown p w rs g (drained_executed program config arrived o m.ran) (drained program config arrived o m).state
  drained_grown arrived None m w rs g h q = none_told w rs g (tally_at p m.state) h
  drained_grown arrived (Some after) m w rs g h q = by after.flow q
    where
      by : (f : Flow) → AfterHas (HasTallies (tallies_of m.state)) f after.state
          → Grown p w rs g (drained_executed program config arrived (Some (record { state = after.state; flow = f })) m.ran)
          (drained program config arrived (Some (record { state = after.state; flow = f })) m).state
      by flow.On k =
          let ask : Option ℕ = served_by program.ask config.askers
          in served_grown (requests_served ask arrived.requests after.state) arrived.left m w rs g h
          (requests_keep anything (HasTallies (tallies_of m.state)) (tallies_arriving (tallies_of m.state)) ask arrived.requests after.state k)
      by flow.Stopped k = none_grown p w rs g m.state after.state (after_tallies (tallies_of m.state) flow.Stopped after.state k) h
      by (flow.Unhandled e) k = none_grown p w rs g m.state after.state (after_tallies (tallies_of m.state) (flow.Unhandled e) after.state k) h

  rest_grown : (rest : Rest) (s : State) (vals : List Value) (m : Machine) (w : List ℤ) (rs : List ℕ) (g : List Gets) → Told w rs g (tally_at p s)
      → Grown p w rs g (rest_executed rest s vals) (gone_on rest s vals m).state
  rest_grown rest s vals m w rs g h =
      subst (Grown p w rs g (rest_executed rest s vals)) (progressed_state (run_lines rest.ctx rest.ret rest.lines s vals) m)
      (lines_grown p rest.ctx rest.ret rest.lines s vals w rs g h)

  answered_grown : (a : Ask) (reply : Reply) (rest : Rest) (m : Machine) (w : List ℤ) (rs : List ℕ) (g : List Gets) → Told w rs g (tally_at p m.state)
      → Grown p w rs g (answered_executed a reply rest m.state) (job_answered a reply rest m).state
  answered_grown (ask.Submit id work helper) Done rest m w rs g h = rest_grown rest m.state rest.vals m w rs g h
  answered_grown (ask.HelperEnd n) Done rest m w rs g h = rest_grown rest m.state rest.vals m w rs g h
  answered_grown (ask.Answer q v) Done rest m w rs g h = rest_grown rest m.state rest.vals m w rs g h
  answered_grown (ask.HelperNew n) (Granted b) rest m w rs g h = rest_grown rest (with_helper b m.state) _ m w rs g h
  answered_grown a reply rest m w rs g h = none_told w rs g (tally_at p m.state) h

  reply_grown : (place : Place) (reply : Reply) (m : Machine) (w : List ℤ) (rs : List ℕ) (g : List Gets) → Told w rs g (tally_at p m.state)
      → Grown p w rs g (reply_executed program config place reply m) (stepped_at program config place reply m).state
  reply_grown AtDrain (Drained arrived) m w rs g h =
      let ts : List Tally = tallies_of m.state
      in drained_grown arrived (arrive_all arrived.works m.state) m w rs g h
      (arrive_all_keeps anything (HasTallies ts) (tallies_arriving ts) arrived.works m.state (pairs_bring arrived.works) refl)
  reply_grown (AtJob a rest) reply m w rs g h = answered_grown a reply rest m w rs g h
  reply_grown AtDrain (Granted b) m w rs g h = none_told w rs g (tally_at p m.state) h
  reply_grown AtDrain Done m w rs g h = none_told w rs g (tally_at p m.state) h
  reply_grown AtClose (Drained arrived) m w rs g h = none_told w rs g (tally_at p m.state) h
  reply_grown AtClose (Granted b) m w rs g h = none_told w rs g (tally_at p m.state) h
  reply_grown AtClose Done m w rs g h = none_told w rs g (tally_at p m.state) h
  reply_grown HasClosed reply m w rs g h = none_told w rs g (tally_at p m.state) h
  reply_grown Wrong reply m w rs g h = none_told w rs g (tally_at p m.state) h

  run_grown : (replies : List Reply) (m : Machine) (w : List ℤ) (rs : List ℕ) (g : List Gets) → Told w rs g (tally_at p m.state)
      → Grown p w rs g (executed_from program config m replies) (fold (stepped program config) m replies).state
  run_grown [] m w rs g h = none_told w rs g (tally_at p m.state) h
  run_grown (reply ∷ replies) m w rs g h =
      let next : Machine = stepped program config m reply
      in then_grown p w rs g (reply_executed program config m.place reply m) (executed_from program config next replies)
      (fold (stepped program config) next replies).state
      (run_grown replies next _ _ _ (reply_grown m.place reply m w rs g h))

  begun_told : Told [] [] [] (tally_at p (begun program.main config).state)
  begun_told =
      let first : State = initial_state config.limit config.askers
      in told_by p [] [] [] first (begun program.main config).state
      (cycle_tallies [] (called at_root program.main [] Drop first) refl)
      (record {
        written = refl;
        got = refl;
        within = omega arith;
        hungry = λ l. absurd (omega (arith, l));
        both = λ e. e;
        ended = [];
        made = refl;
        over = λ l. absurd (omega (arith, l));
      })

-- ---- the law
law_of : (p : ℕ) (xs : List Executed) (s : State) → Told (written_to p xs) (reads_of p xs) (got_from p xs) (tally_at p s)
    → AllByRecursion (AreCalled p) xs → ReadsGetWhatWasWritten p xs s
law_of p xs s h called =
    let w : List ℤ = written_to p xs
    in let g : List Gets = got_from p xs
    in let x : pipe.Pipe Read = pipe_at p s
    in let got : take x.consumed w ≡ numbers_in g = subst (λ l. take x.consumed l ≡ numbers_in g) h.written h.got
    in let within : x.consumed ≤ length w = subst (λ l. x.consumed ≤ length l) h.written h.within
    in let count : x.consumed ≡ length g =
    sym (length-take-le x.consumed w within) ∙ ap length got ∙ length-map g (λ (y : Gets). y.1)
    in record {
      numbers = subst (λ n. take n w ≡ numbers_in g) count got;
      readers =
          ap (take (length g)) h.made ∙ take_at (procs_in g) (map proc_of x.reads ++ h.ended) (length g) (length-map g (λ (y : Gets). y.0));
      others = λ e.
          ap (λ b. numbers_in g ++ cond b [] (drop x.consumed x.written)) e
          ∙ ap (λ l. l ++ drop x.consumed x.written) (sym h.got)
          ∙ take-append-drop x.consumed x.written ∙ h.written;
      called = called;
    }

pub reads_get_what_was_written : (program : NumProgram) (config : Config) (replies : List Reply) (p : ℕ)
    → ReadsGetWhatWasWritten p (executed program config replies) (machine_after program config replies).state
reads_get_what_was_written program config replies p =
    law_of p (executed program config replies) (machine_after program config replies).state
    (run_grown p program config replies (begun program.main config) [] [] [] (begun_told p program config))
    (all_executed_have (AreCalled p) (statement_called p) program config replies)
