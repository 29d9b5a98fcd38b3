-- Errors go up in the trace of every run that has ended.
use Rattle.std.proofs.Common.{ℕ, ℤ, ◌<◌, ◌≤◌, ◌≡◌, List, [], ◌∷◌, ◌++◌, length, map, filter, Bool, true, false, cond, Option, Some, None, refl, sym, subst}
use Rattle.std.proofs.Common.{◌∙◌, ap, arith, fold}
use Rattle.std.specs.Prelude.{find, nat_le, not, is_some, ◌==◌}
use Rattle.std.specs.List.{AllByRecursion}
use Rattle.std.proofs.Math.ListN.{length-set}
use Rattle.ak_base.specs.Lists.{rest_of, is_empty_list}
use Rattle.ak_base.specs.declared.number.Ctx.{Ctx}
use Rattle.ak_labor.specs.declared.ask.Ask.{Ask}
use Rattle.ak_labor.specs.declared.ask.Ask.TheVariants as ask
use Rattle.ak_labor.specs.declared.config.Config.{Config}
use Rattle.ak_labor.specs.declared.work.Outcome.{Outcome}
use Rattle.ak_labor.specs.declared.work.Outcome.TheVariants.{Good, Bad}
use Rattle.ak_labor.specs.Arrived.{Arrived}
use Rattle.ak_labor.specs.Calls.{Reply, Drained, Granted, Done}
use Rattle.ak_rings.specs.declared.job.Job.{Job}
use Rattle.ak_rings.specs.Queues.{first_under, pick_or, pick_of, picked_by, picked_from, recounted}
use Rattle.ak_choice.specs.Groups.{Group, all_numbers, has_all}
use Rattle.ak_frames.specs.declared.value.Value.{Value}
use Rattle.ak_frames.specs.declared.value.Value.TheVariants as value
use Rattle.ak_frames.specs.declared.frame.Ret.{Ret}
use Rattle.ak_frames.specs.declared.frame.Ret.TheVariants.{Drop, To}
use Rattle.ak_frames.specs.declared.frame.Frame.{Frame}
use Rattle.ak_frames.specs.declared.frame.Frame.TheVariants.{Call, OnValue, AllPart, ChoicePart, TryDone, BodyDone, BodyFailed, Raise, AnswerOut}
use Rattle.ak_frames.specs.declared.frame.Task.{Task}
use Rattle.ak_trace.specs.declared.entry.Entry.TheVariants as entry
use Rattle.ak_trace.specs.declared.entry.Ending.{Ending}
use Rattle.ak_trace.specs.declared.entry.Ending.TheVariants as ending
use Rattle.ak_program.specs.declared.program.NumProc.{NumProc}
use Rattle.ak_program.specs.Programs.{NumProgram, ProgramIsSound}
use Rattle.ak_machine.specs.declared.flow.Flow.{Flow}
use Rattle.ak_machine.specs.declared.flow.Flow.TheVariants as flow
use Rattle.ak_machine.specs.declared.held.Callback.{Callback}
use Rattle.ak_machine.specs.declared.held.Choosable.{Choosable}
use Rattle.ak_machine.specs.declared.held.Outstanding.{Outstanding}
use Rattle.ak_machine.specs.declared.held.Purpose.{Purpose}
use Rattle.ak_machine.specs.declared.held.Purpose.TheVariants.{ForAll, ForAny, ForChoice, ForGuard}
use Rattle.ak_machine.specs.State.{State, initial_state}
use Rattle.ak_machine.specs.Number.{truth}
use Rattle.ak_machine.specs.Deferred.{noting, called, number_at, with_ivar, register}
use Rattle.ak_machine.specs.Groups.{group_at, purpose_at, part_at, part_set, with_numbers, choice_decided, first_number, first_call}
use Rattle.ak_machine.specs.Throttles.{body_failed}
use Rattle.ak_machine.specs.Errors.{After, going_on, send}
use Rattle.ak_machine.specs.Works.{with_request, with_helper, answered}
use Rattle.ak_machine.specs.Job.{Rest, Progress, Over, Asking, filled_if, lines_of, run_lines, run_call, run_call_if, run_all_part, run_part, run_choice}
use Rattle.ak_machine.specs.Job.{run_frame, run_job, value_or_zero}
use Rattle.ak_machine.specs.Cycle.{cycle_begun, has_more, is_stuck, is_quiet, is_work, is_other_work, outcome_given, arrival_of, arrive, arrive_all}
use Rattle.ak_machine.specs.Cycle.{at_root, request_arrived, arrive_request, arrive_requests, served_by, requests_served, with_left}
use Rattle.ak_machine.specs.Run.{Place, AtDrain, AtJob, AtClose, Ended as HasClosed, Wrong, Machine, went, progressed, cycle_ended, picked, served}
use Rattle.ak_machine.specs.Run.{drained, gone_on, job_answered, stepped_at, stepped, begun, machine_after, HasEnded, ran_to, run_of}
use Rattle.ak_machine.specs.IvarsNamed.{in_ret}
use Rattle.ak_holders.specs.Typed.{Names, ProcsAreSound, CallFits, ValsHave, FrameIs, CallbackIs, ChoosableIs, PurposeIs}
use Rattle.ak_holders.specs.Held.{Held, HeldBy, JobWaits, HeldBeside, JobHolds, frame_names}
use Rattle.ak_holders.proofs.Carry.{all_filter, with_helper_held, first_is, Lines, call_lines, call_with, nums_have, Waits, purpose_is}
use Rattle.ak_holders.proofs.Carry.{choice_decided_held, IsOpenChoice}
use Rattle.ak_holders.proofs.Carry.{result_of, group_with_part, part_of_all, part_numbers, call_of_all, ArrivedHeld, arrive_all_held, RequestsHeld}
use Rattle.ak_holders.proofs.Carry.{requests_held, left_held, PlaceIs, stepped_held, run_held, pair_have, pick_beside, beside_noted}
use Rattle.ak_laws.specs.Errors.{ErrorsGoUp}
use Rattle.ak_laws.proofs.Ends.{is_over}
use Rattle.ak_laws.proofs.Routes.{root_told, IsNoError, other_goes}
use Rattle.ak_laws.proofs.Scopes.{ValsIn, CtxIn, FrameIn, JobIn, PurposeIn, WorkIn, StateIn, nums_in}
use Rattle.ak_laws.proofs.Routing.{Routed, Later, now, changed, noted, root_in, call_routed, fill_routed, register_routed, yields_routed}
use Rattle.ak_laws.proofs.Routing.{alarms_routed, with_helper_routed}
use Rattle.ak_laws.proofs.RoutingParts.{purpose_in, choice_decided_routed, try_done_routed, AfterGoes, send_routed, body_ended_routed, body_failed_routed}
use Rattle.ak_laws.proofs.RoutingLines.{OverGoes, Asked, ProgressGoes, any_later, over_goes, lines_go}

-- ---- jobs
module _ (program : List NumProc) (sound : ProcsAreSound program) where
  -- a call runs
  call_goes : (p : Names) (ctx : Ctx) (ret : Ret) (front proc : ℕ) (nums : List ℤ) (vals : List Value) (s : State) (n : ℕ) → length nums ≡ front
      → CallFits program front proc vals → ValsHave p vals → Held program p (in_ret ret) s → CtxIn n ctx → ValsIn n vals → Routed n s
      → ProgressGoes (run_lines ctx ret (lines_of program proc) s (map value.Num nums ++ vals))
  call_goes p ctx ret front proc nums vals s n e f g x c v h =
      let lines : Lines program (lines_of program proc) (map value.Num nums ++ vals) = call_lines program sound front proc vals nums e f
      in lines_go program p lines.kinds ctx ret (lines_of program proc) s (map value.Num nums ++ vals) n lines.sound
      (record { held = x; have = nums_have p nums vals g; fit = lines.fit }) c (nums_in n nums vals v) h

  callback_goes : (p : Names) (ctx : Ctx) (c : Callback) (s : State) (n : ℕ) → CallFits program 0 c.proc c.vals → ValsHave p c.vals
      → Held program p (c.to ∷ []) s → CtxIn n ctx → ValsIn n c.vals → Routed n s → ProgressGoes (run_call program ctx c s)
  callback_goes p ctx c s n f g x i v h = call_goes p ctx (To c.to) 0 c.proc [] c.vals s n refl f g x i v h

  -- ---- a part of an `all`
  all_goes : (p : Names) (ctx : Ctx) (c : Callback) (k : ℕ) (parts : List (Option ℤ)) (o : Option (List ℤ)) (s : State) (n : ℕ) → length parts ≡ k
      → all_numbers parts ≡ o → CallbackIs program p k c → Held program p (cond (has_all parts) (c.to ∷ []) []) s → CtxIn n ctx → ValsIn n c.vals
      → Routed n s → ProgressGoes (run_call_if program ctx (with_numbers c o) s)
  all_goes p ctx c k parts None s n e t f x i v h = any_later n s (now n s h)
  all_goes p ctx c k parts (Some numbers) s n e t f x i v h =
      callback_goes p ctx (record c { vals = map value.Num numbers ++ c.vals }) s n (call_of_all program p c parts k numbers e t f)
      (nums_have p numbers c.vals f.1) (with_result x) i (nums_in n numbers c.vals v) h
    where
      with_result : Held program p (cond (has_all parts) (c.to ∷ []) []) s → Held program p (c.to ∷ []) s
      with_result y = subst (λ (o : Option (List ℤ)). Held program p (cond (is_some o) (c.to ∷ []) []) s) t y

  all_part_goes : (p : Names) (ctx : Ctx) (q : Purpose) (g k : ℕ) (z : ℤ) (s : State) (n : ℕ) → purpose_at g s ≡ q → k < length (group_at g s).parts
      → part_at g k s ≡ None → Held program p [] s → CtxIn n ctx → PurposeIn n q → Routed n s → Routed n (part_set g k z s)
      → ProgressGoes (run_all_part program ctx q g (part_set g k z s))
  all_part_goes p ctx (ForAll c) g k z s n eq l none x i f h after =
      let y : Group = group_with_part g k z s
      in let fc : CallbackIs program p (length (group_at g s).parts) c = subst (PurposeIs program p (group_at g s)) eq (purpose_is program p g s x.typed)
      in subst (λ (y : Group). ProgressGoes (run_call_if program ctx (with_numbers c (all_numbers y.parts)) (part_set g k z s))) (sym (part_numbers g k z s l))
      (all_goes p ctx c (length (group_at g s).parts) y.parts (all_numbers y.parts) (part_set g k z s) n (length-set (group_at g s).parts k (Some z)) refl
      fc (part_of_all program p [] c g k z s eq l none x) i f after)
  all_part_goes p ctx (ForAny ds r) g k z s n eq l none x i f h after = any_later n (part_set g k z s) (now n (part_set g k z s) after)
  all_part_goes p ctx (ForChoice choices vals r) g k z s n eq l none x i f h after = any_later n (part_set g k z s) (now n (part_set g k z s) after)
  all_part_goes p ctx (ForGuard ctx' m mode c) g k z s n eq l none x i f h after = any_later n (part_set g k z s) (now n (part_set g k z s) after)

  part_goes : (p : Names) (ctx : Ctx) (o : Option ℤ) (g k : ℕ) (z : ℤ) (s : State) (n : ℕ) → part_at g k s ≡ o → k < length (group_at g s).parts
      → Held program p [] s → CtxIn n ctx → Routed n s → ProgressGoes (run_part program ctx o g k z s)
  part_goes p ctx (Some w) g k z s n e l x i h = any_later n s (now n s h)
  part_goes p ctx None g k z s n e l x i h =
      all_part_goes p ctx (purpose_at g s) g k z s n refl l e x i (purpose_in n g s h) h (changed n s (part_set g k z s) refl refl h.keeps h)

  -- ---- a choice
  filled_if_routed : (n r : ℕ) (o : Option ℤ) (s : State) → Routed n s → Routed n (filled_if r o s)
  filled_if_routed n r None s h = h
  filled_if_routed n r (Some v) s h = fill_routed n r v s h

  first_call_goes : (p : Names) (ctx : Ctx) (choices : List Choosable) (vals : List Value) (r : ℕ) (s t : State) (n : ℕ)
      → AllByRecursion (ChoosableIs program vals) choices → ValsHave p vals → Held program p (r ∷ []) t → CtxIn n ctx → ValsIn n vals → Routed n t
      → ProgressGoes (run_call_if program ctx (first_call choices vals r s) t)
  first_call_goes p ctx [] vals r s t n f g x i v h = any_later n t (now n t h)
  first_call_goes p ctx (choice ∷ choices) vals r s t n f g x i v h =
      by (number_at choice.deferred s) (first_call_goes p ctx choices vals r s t n f.1 g x i v h)
    where
      by : (o : Option ℤ) → ProgressGoes (run_call_if program ctx (first_call choices vals r s) t) → ProgressGoes (run_call_if program ctx (elim o [
        | None ↦ first_call choices vals r s
        | Some z ↦ Some (record { proc = choice.proc; vals = value.Num z ∷ vals; to = r })
      ]) t)
      by None rec = rec
      by (Some z) rec =
          callback_goes p ctx (record { proc = choice.proc; vals = value.Num z ∷ vals; to = r }) t n (call_with program choice.proc vals z f.0) (tt, g) x i
          (tt, v) h

  choice_goes : (p : Names) (ctx : Ctx) (q : Purpose) (g : ℕ) (s : State) (n : ℕ) → purpose_at g s ≡ q → (group_at g s).decided ≡ false
      → Held program p [] s → CtxIn n ctx → PurposeIn n q → Routed n (choice_decided g s) → ProgressGoes (run_choice program ctx q (choice_decided g s))
  choice_goes p ctx (ForAny ds r) g s n eq e x i f h =
      let t : State = filled_if r (first_number ds (choice_decided g s)) (choice_decided g s)
      in any_later n t (now n t (filled_if_routed n r (first_number ds (choice_decided g s)) (choice_decided g s) h))
  choice_goes p ctx (ForChoice choices vals r) g s n eq e x i f h =
      let t : State = choice_decided g s
      in let typed : PurposeIs program p (group_at g s) (ForChoice choices vals r) =
      subst (PurposeIs program p (group_at g s)) eq (purpose_is program p g s x.typed)
      in first_call_goes p ctx choices vals r t t n typed.0 typed.1
      (subst (λ y. Held program p (result_of y ∷ []) t) eq (choice_decided_held program p [] g s (subst IsOpenChoice (sym eq) tt) e x)) i f h
  choice_goes p ctx (ForAll c) g s n eq e x i f h = any_later n (choice_decided g s) (now n (choice_decided g s) h)
  choice_goes p ctx (ForGuard ctx' m mode c) g s n eq e x i f h = any_later n (choice_decided g s) (now n (choice_decided g s) h)

  -- ---- each kind of frame
  frame_goes : (p : Names) (ctx : Ctx) (f : Frame) (z : ℤ) (s : State) (n : ℕ) → FrameIs program p s.groups f → Held program p (frame_names f) s
      → CtxIn n ctx → FrameIn n f → Routed n s → ProgressGoes (run_frame program ctx f z s)
  frame_goes p ctx (Call proc vals ret) z s n f x c v h = call_goes p ctx ret 0 proc [] vals s n refl f.0 f.1 x c v h
  frame_goes p ctx (OnValue proc vals ret) z s n f x c v h = call_goes p ctx ret 1 proc (z ∷ []) vals s n refl f.0 f.1 x c v h
  frame_goes p ctx (AllPart g k) z s n f x c v h = part_goes p ctx (part_at g k s) g k z s n refl f x c h
  frame_goes p ctx (ChoicePart g) z s n f x c v h = by (group_at g s).decided refl
    where
      by : (b : Bool) → (group_at g s).decided ≡ b
          → ProgressGoes (cond b (Over (going_on s)) (run_choice program ctx (purpose_at g s) (choice_decided g s)))
      by true e = any_later n s (now n s h)
      by false e = choice_goes p ctx (purpose_at g s) g s n refl e x c (purpose_in n g s h) (choice_decided_routed n g s h)
  frame_goes p ctx (TryDone g) z s n f x c v h = any_later n _ (now n _ (try_done_routed n g z s h))
  frame_goes p ctx (BodyDone b) z s n f x c v h = any_later n _ (body_ended_routed n b z s h)
  frame_goes p ctx (BodyFailed b e) z s n f x c v h =
      let y : Later n (body_failed b s) = body_failed_routed n b s h
      in let more : n ≤ y.most = y.more
      in over_goes y.most (send ctx.mon e (body_failed b s)).flow (send ctx.mon e (body_failed b s)).state
      (send_routed y.most ctx.mon e (body_failed b s) (omega (arith, c, more)) y.routed)
  frame_goes p ctx (Raise e) z s n f x c v h = over_goes n (send ctx.mon e s).flow (send ctx.mon e s).state (send_routed n ctx.mon e s c h)
  frame_goes p ctx (AnswerOut q) z s n f x c v h =
      let told : State = record s { requests = (answered q z s).requests }
      in record {
        most = n;
        routed = noted n (entry.Answer q z) told (tt, tt) (changed n s told refl refl h.keeps h);
        ctx = c;
        vals = tt;
      }

-- ---- works and requests
outcome_goes : (n : ℕ) (o : Outcome) (work : Outstanding) (s : State) → WorkIn n work → Routed n s
    → AfterGoes n (outcome_given o work s).flow (outcome_given o work s).state
outcome_goes n (Good v) work s f h = fill_routed n work.to v s h
outcome_goes n (Bad e) work s f h = send_routed n work.ctx.mon e s f h

abbrev ArrivedGoes : ℕ → Option After → Type 0
ArrivedGoes n None = Unit {0}
ArrivedGoes n (Some after) = AfterGoes n after.flow after.state

found_in : (n w : ℕ) (works : List Outstanding) (work : Outstanding) → AllByRecursion (WorkIn n) works → find (is_work w) works ≡ Some work → WorkIn n work
found_in n w [] work f e = absurd (cc)
found_in n w (x ∷ works) work f e = by (is_work w x) (λ t. found_in n w works work f.1 t) e
  where
    by : (b : Bool) → (find (is_work w) works ≡ Some work → WorkIn n work) → cond b (Some x) (find (is_work w) works) ≡ Some work → WorkIn n work
    by true r t = let same : x ≡ work = cc in subst (WorkIn n) same f.0
    by false r t = r t

fewer_in : (n w : ℕ) (works : List Outstanding) → AllByRecursion (WorkIn n) works → AllByRecursion (WorkIn n) (filter (is_other_work w) works)
fewer_in n w works f = all_filter (WorkIn n) (is_other_work w) works f

arrival_goes : (n : ℕ) (o : Option Outstanding) (w : ℕ) (outcome : Outcome) (s : State) → find (is_work w) s.works ≡ o → Routed n s
    → ArrivedGoes n (arrival_of o w outcome s)
arrival_goes n None w outcome s e h = tt
arrival_goes n (Some work) w outcome s e h =
    let k : StateIn n s = h.keeps
    in let fewer : State = record s { works = filter (is_other_work w) s.works }
    in outcome_goes n outcome work (noting (entry.Arrive w outcome) fewer) (found_in n w s.works work k.8 e)
    (noted n (entry.Arrive w outcome) fewer (tt, tt)
    (changed n s fewer refl refl (k.0, k.1, k.2, k.3, k.4, k.5, k.6, k.7, fewer_in n w s.works k.8) h))

all_arrive : (n : ℕ) (pairs : List (ℕ × Outcome)) (s : State) → Routed n s → ArrivedGoes n (arrive_all pairs s)
all_arrive n [] s h = h
all_arrive n (pair ∷ pairs) s h =
    by (arrive pair.0 pair.1 s) (arrival_goes n (find (is_work pair.0) s.works) pair.0 pair.1 s refl h) (λ t g. all_arrive n pairs t g)
  where
    on : (after : After) (f : Flow) → AfterGoes n f after.state → ((t : State) → Routed n t → ArrivedGoes n (arrive_all pairs t)) → after.flow ≡ f
        → ArrivedGoes n (elim f [
          | flow.On ↦ arrive_all pairs after.state
          | flow.Stopped ↦ Some after
          | flow.Unhandled e ↦ Some after
        ])
    on after flow.On g r e = r after.state g
    on after flow.Stopped g r e = subst (λ f. AfterGoes n f after.state) (sym e) g
    on after (flow.Unhandled z) g r e = subst (λ f. AfterGoes n f after.state) (sym e) g

    by : (o : Option After) → ArrivedGoes n o → ((t : State) → Routed n t → ArrivedGoes n (arrive_all pairs t)) → ArrivedGoes n (elim o [
      | None ↦ None
      | Some after ↦ elim after.flow [
        | flow.On ↦ arrive_all pairs after.state
        | flow.Stopped ↦ Some after
        | flow.Unhandled e ↦ Some after
      ]
    ])
    by None g r = tt
    by (Some after) g r = on after after.flow g r refl

request_routed : (n ask q : ℕ) (z : ℤ) (s : State) → Routed n s → Routed n (request_arrived ask q z s)
request_routed n ask q z s h =
    let r : ℕ = length s.cells.ivars
    in let kept : State = with_request q r (with_ivar s)
    in let told : State = noting (entry.Request q z r) kept
    in let root : 0 < n = root_in n s h
    in call_routed n at_root ask (value.Num z ∷ []) (To r) (register r at_root (AnswerOut q) told) root (tt, tt)
    (register_routed n r at_root (AnswerOut q) told root tt (noted n (entry.Request q z r) kept (tt, tt) (changed n s kept refl refl h.keeps h)))

abbrev RequestsGo : ℕ → Option State → Type 0
RequestsGo n None = Unit {0}
RequestsGo n (Some s) = Routed n s

all_requests : (n ask : ℕ) (requests : List (ℕ × ℤ)) (s : State) → Routed n s → RequestsGo n (arrive_requests ask requests s)
all_requests n ask [] s h = h
all_requests n ask (request ∷ requests) s h =
    more (arrive_request ask request s) (next (request.0 == length s.requests)) (λ t g. all_requests n ask requests t g)
  where
    next : (b : Bool) → RequestsGo n (cond b (Some (request_arrived ask request.0 request.1 s)) None)
    next true = request_routed n ask request.0 request.1 s h
    next false = tt

    more : (o : Option State) → RequestsGo n o → ((t : State) → Routed n t → RequestsGo n (arrive_requests ask requests t))
        → RequestsGo n (elim o [ None ↦ None | Some t ↦ arrive_requests ask requests t ])
    more None g r = tt
    more (Some t) g r = r t g

requests_go : (n : ℕ) (ask : Option ℕ) (requests : List (ℕ × ℤ)) (s : State) → Routed n s → RequestsGo n (requests_served ask requests s)
requests_go n (Some ask) requests s h = all_requests n ask requests s h
requests_go n None [] s h = h
requests_go n None (request ∷ requests) s h = tt

-- ---- a machine
abbrev PlaceGoes : Place → State → Type 0
PlaceGoes (AtJob a rest) s = Asked s rest
PlaceGoes AtDrain s = Later 0 s
PlaceGoes AtClose s = ErrorsGoUp s.trace
PlaceGoes HasClosed s = ErrorsGoUp s.trace
PlaceGoes Wrong s = Unit {0}

abbrev MachineGoes : Machine → Type 0
MachineGoes m = PlaceGoes m.place m.state

went_goes : (after : After) (m : Machine) → OverGoes after.flow after.state → MachineGoes (went after m)
went_goes after m h = by after.flow h
  where
    by : (f : Flow) → OverGoes f after.state → MachineGoes (went (record { state = after.state; flow = f }) m)
    by flow.On g = g
    by flow.Stopped g = g
    by (flow.Unhandled e) g = g

progressed_goes : (x : Progress) (m : Machine) → ProgressGoes x → MachineGoes (progressed x m)
progressed_goes (Over after) m h = went_goes after m h
progressed_goes (Asking a s rest) m h = h

if_machine : (b : Bool) (x y : Machine) → MachineGoes x → MachineGoes y → MachineGoes (cond b x y)
if_machine true x y f g = f
if_machine false x y f g = g

cycle_goes : (s : State) → Later 0 s → Later 0 (cycle_begun s)
cycle_goes s x =
    let n : ℕ = x.most
    in let counted : State = record s { queues = recounted s.queues }
    in let noted' : State = noting entry.Cycle counted
    in let h : Routed n s = x.routed
    in record {
      most = n;
      more = omega arith;
      routed = alarms_routed n _ (yields_routed n noted' (noted n entry.Cycle counted (tt, tt) (changed n s counted refl refl h.keeps h)));
    }

ended_goes : (why : Ending) (s : State) → IsNoError (entry.End why) → Later 0 s → ErrorsGoUp (noting (entry.End why) s).trace
ended_goes why s q x = other_goes s.trace (entry.End why) q x.routed.goes

cycle_ended_goes : (config : Config) (s : State) (m : Machine) → Later 0 s → MachineGoes (cycle_ended config s m)
cycle_ended_goes config s m x =
    if_machine (has_more s) _ _ (cycle_goes s x)
    (if_machine (not (is_quiet s)) _ _ (cycle_goes s x)
    (if_machine (is_empty_list s.works) _ _ (ended_goes ending.Idle s tt x)
    (if_machine (is_stuck config.threads s) _ _ (ended_goes ending.Stuck s tt x) (cycle_goes s x))))

-- the job that is picked, and the state without it
record Picked (n : ℕ) (job : Job Task) (s : State) : Type 0 where
  job_in : JobIn n job
  routed : Routed n s

picked_by_goes : (n : ℕ) (a b : Option (Job Task)) (job : Job Task) (s : State) → first_under s.queues.normal_ran s.queues.limit s.queues.normal ≡ a
    → first_under s.queues.low_ran s.queues.limit s.queues.low ≡ b → pick_or a b ≡ Some job → Routed n s
    → Picked n job (record s { queues = picked_by a b s.queues })
picked_by_goes n (Some x) b job s ea eb e h =
    let same : x ≡ job = cc
    in let front : s.queues.normal ≡ job ∷ rest_of s.queues.normal =
    first_is s.queues.normal_ran s.queues.limit s.queues.normal job (ea ∙ ap (λ y. Some y) same)
    in let k : StateIn n s = h.keeps
    in let split : AllByRecursion (JobIn n) (job ∷ rest_of s.queues.normal) = subst (AllByRecursion (JobIn n)) front k.1
    in record {
      job_in = split.0;
      routed = changed n s (record s { queues = picked_by (Some x) b s.queues }) refl refl (k.0, split.1, k.2, k.3, k.4, k.5, k.6, k.7, k.8) h;
    }
picked_by_goes n None (Some x) job s ea eb e h =
    let same : x ≡ job = cc
    in let front : s.queues.low ≡ job ∷ rest_of s.queues.low = first_is s.queues.low_ran s.queues.limit s.queues.low job (eb ∙ ap (λ y. Some y) same)
    in let k : StateIn n s = h.keeps
    in let split : AllByRecursion (JobIn n) (job ∷ rest_of s.queues.low) = subst (AllByRecursion (JobIn n)) front k.2
    in record {
      job_in = split.0;
      routed = changed n s (record s { queues = picked_by None (Some x) s.queues }) refl refl (k.0, k.1, split.1, k.3, k.4, k.5, k.6, k.7, k.8) h;
    }
picked_by_goes n None None job s ea eb e h = absurd (cc)

job_goes : (program : List NumProc) → ProcsAreSound program → (job : Job Task) (s : State) (n : ℕ) → pick_of s.queues ≡ Some job → HeldBy program [] s
    → Routed n s → ProgressGoes (run_job program job (record s { queues = picked_from s.queues }))
job_goes program sound job s n e f h =
    let t : State = record s { queues = picked_from s.queues }
    in let x : Picked n job t =
    picked_by_goes n (first_under s.queues.normal_ran s.queues.limit s.queues.normal) (first_under s.queues.low_ran s.queues.limit s.queues.low) job s
    refl refl e h
    in let waits : HeldBeside program (Some job) t = subst (λ o. HeldBeside program o t) e (pick_beside program s f)
    in let there : JobWaits program job (noting (entry.Job job.no) t) = beside_noted program (Some job) (entry.Job job.no) t tt waits
    in let c : JobIn n job = x.job_in
    in frame_goes program sound there.names job.ctx job.frame.frame (value_or_zero job.frame.value) (noting (entry.Job job.no) t) n there.job_is there.held
    c.0 c.1 (noted n (entry.Job job.no) t (tt, tt) x.routed)

picked_goes : (program : NumProgram) → ProcsAreSound program.procs → (config : Config) (o : Option (Job Task)) (s : State) (m : Machine)
    → pick_of s.queues ≡ o → HeldBy program.procs [] s → Later 0 s → MachineGoes (picked program config o s m)
picked_goes program sound config None s m e f x = cycle_ended_goes config s m x
picked_goes program sound config (Some job) s m e f x =
    if_machine (nat_le config.jobs m.ran) _ _ (ended_goes ending.Jobs s tt x)
    (progressed_goes _ _ (job_goes program.procs sound job s x.most e f x.routed))

served_goes : (program : NumProgram) → ProcsAreSound program.procs → (config : Config) (o : Option State) (left : ℕ) (m : Machine) (n : ℕ)
    → RequestsHeld program.procs [] o → RequestsGo n o → MachineGoes (served program config o left m)
served_goes program sound config None left m n f x = tt
served_goes program sound config (Some s) left m n f x =
    let t : State = with_left left s
    in picked_goes program sound config (pick_of s.queues) t m refl (record { names = f.names; held = left_held program.procs f.names [] left s f.held })
    (any_later n t (now n t (changed n s t refl refl x.keeps x)))

drained_goes : (program : NumProgram) → ProgramIsSound program.procs program.main program.ask → (config : Config) (arrived : Arrived) (o : Option After)
    (m : Machine) (p : Names) (n : ℕ) → ArrivedHeld program.procs p [] o → ArrivedGoes n o → MachineGoes (drained program config arrived o m)
drained_goes program sound config arrived None m p n f x = tt
drained_goes program sound config arrived (Some after) m p n f x = by after.flow x
  where
    by : (flow' : Flow) → AfterGoes n flow' after.state
        → MachineGoes (drained program config arrived (Some (record { state = after.state; flow = flow' })) m)
    by flow.On g =
        served_goes program sound.each config (requests_served (served_by program.ask config.askers) arrived.requests after.state) arrived.left m n
        (requests_held program.procs [] program.ask config.askers arrived.requests after.state sound.serves (record { names = p; held = f }))
        (requests_go n (served_by program.ask config.askers) arrived.requests after.state g)
    by flow.Stopped g = g
    by (flow.Unhandled e) g = g

gone_on_goes : (program : List NumProc) (p : Names) (rest : Rest) (s : State) (vals : List Value) (m : Machine) (a : Ask) (t : State) (n : ℕ)
    → (w : Waits program a t rest) → JobHolds program p (in_ret rest.ret) w.kinds s vals → CtxIn n rest.ctx → ValsIn n vals → Routed n s
    → MachineGoes (gone_on rest s vals m)
gone_on_goes program p rest s vals m a t n w j c v h =
    progressed_goes _ m (lines_go program p w.kinds rest.ctx rest.ret rest.lines s vals n w.sound j c v h)

pair_in : (n : ℕ) (vals : List Value) (h : ℕ) (z : ℤ) → ValsIn n vals → ValsIn n (vals ++ value.Helper h ∷ value.Num z ∷ [])
pair_in n [] h z v = (tt, (tt, tt))
pair_in n (x ∷ vals) h z v = (v.0, pair_in n vals h z v.1)

answered_goes : (program : List NumProc) (a : Ask) (reply : Reply) (rest : Rest) (m : Machine) → Waits program a m.state rest → Asked m.state rest
    → MachineGoes (job_answered a reply rest m)
answered_goes program (ask.Submit id work helper) Done rest m w x =
    gone_on_goes program w.asks.names rest m.state rest.vals m (ask.Submit id work helper) m.state x.most w
    (record { held = w.asks.held; have = w.asks.have; fit = w.asks.fit }) x.ctx x.vals x.routed
answered_goes program (ask.Answer q v) Done rest m w x =
    gone_on_goes program w.asks.names rest m.state rest.vals m (ask.Answer q v) m.state x.most w
    (record { held = w.asks.held; have = w.asks.have; fit = w.asks.fit }) x.ctx x.vals x.routed
answered_goes program (ask.HelperEnd h) Done rest m w x =
    gone_on_goes program w.asks.names rest m.state rest.vals m (ask.HelperEnd h) m.state x.most w
    (record { held = w.asks.held; have = w.asks.have; fit = w.asks.fit }) x.ctx x.vals x.routed
answered_goes program (ask.HelperNew h) (Granted b) rest m w x =
    gone_on_goes program w.asks.names rest (with_helper b m.state) _ m (ask.HelperNew h) m.state x.most w
    (record {
      held = with_helper_held program w.asks.names (in_ret rest.ret) b m.state w.asks.held;
      have = pair_have w.asks.names rest.vals h (truth b) w.asks.have;
      fit = w.asks.fit (truth b);
    }) x.ctx (pair_in x.most rest.vals h (truth b) x.vals) (with_helper_routed x.most b m.state x.routed)
answered_goes program (ask.Answer q v) (Drained arrived) rest m w x = tt
answered_goes program (ask.Answer q v) (Granted b) rest m w x = tt
answered_goes program (ask.Submit id work helper) (Drained arrived) rest m w x = tt
answered_goes program (ask.Submit id work helper) (Granted b) rest m w x = tt
answered_goes program (ask.HelperEnd h) (Drained arrived) rest m w x = tt
answered_goes program (ask.HelperEnd h) (Granted b) rest m w x = tt
answered_goes program (ask.HelperNew h) (Drained arrived) rest m w x = tt
answered_goes program (ask.HelperNew h) Done rest m w x = tt
answered_goes program ask.Drain reply rest m w x = tt
answered_goes program ask.Close reply rest m w x = tt

stepped_goes : (program : NumProgram) → ProgramIsSound program.procs program.main program.ask → (config : Config) (place : Place) (reply : Reply)
    (m : Machine) → PlaceIs program.procs place m.state → PlaceGoes place m.state → MachineGoes (stepped_at program config place reply m)
stepped_goes program sound config AtDrain (Drained arrived) m f x =
    drained_goes program sound config arrived (arrive_all arrived.works m.state) m f.names x.most
    (arrive_all_held program.procs f.names [] arrived.works m.state f.held) (all_arrive x.most arrived.works m.state x.routed)
stepped_goes program sound config AtDrain (Granted b) m f x = tt
stepped_goes program sound config AtDrain Done m f x = tt
stepped_goes program sound config (AtJob a rest) reply m f x = answered_goes program.procs a reply rest m f x
stepped_goes program sound config AtClose Done m f x = x
stepped_goes program sound config AtClose (Drained arrived) m f x = tt
stepped_goes program sound config AtClose (Granted b) m f x = tt
stepped_goes program sound config HasClosed reply m f x = tt
stepped_goes program sound config Wrong reply m f x = tt

replies_go : (program : NumProgram) → ProgramIsSound program.procs program.main program.ask → (config : Config) (replies : List Reply) (m : Machine)
    → PlaceIs program.procs m.place m.state → MachineGoes m → MachineGoes (fold (stepped program config) m replies)
replies_go program sound config [] m f x = x
replies_go program sound config (reply ∷ replies) m f x =
    replies_go program sound config replies (stepped program config m reply)
    (stepped_held program sound.each sound.serves config m.place reply m f) (stepped_goes program sound config m.place reply m f x)

-- ---- a run
start_routed : (limit askers : ℕ) → Routed 1 (initial_state limit askers)
start_routed limit askers = record { count = refl; told = root_told; goes = tt; keeps = (tt, tt, tt, (tt, tt), tt, tt, tt, tt, tt) }

run_goes : (program : NumProgram) → ProgramIsSound program.procs program.main program.ask → (config : Config) (replies : List Reply)
    → MachineGoes (machine_after program config replies)
run_goes program sound config replies =
    let start : State = initial_state config.limit config.askers
    in let first : State = called at_root program.main [] Drop start
    in replies_go program sound config replies (begun program.main config) (run_held program sound config [])
    (cycle_goes first (any_later 1 first (now 1 first (call_routed 1 at_root program.main [] Drop start (omega arith) tt
    (start_routed config.limit config.askers)))))

pub errors_go_up : (program : NumProgram) → ProgramIsSound program.procs program.main program.ask → (config : Config) (replies : List Reply)
    → (run_of program config replies).outcome ≡ HasEnded → ErrorsGoUp (run_of program config replies).trace
errors_go_up program sound config replies e =
    by (machine_after program config replies).place (run_goes program sound config replies) e
  where
    by : (place : Place) → PlaceGoes place (machine_after program config replies).state → ran_to place ≡ HasEnded
        → ErrorsGoUp (machine_after program config replies).state.trace
    by AtDrain x q = absurd (is_over _ q)
    by (AtJob a rest) x q = absurd (is_over _ q)
    by AtClose x q = absurd (is_over _ q)
    by HasClosed x q = x
    by Wrong x q = absurd (is_over _ q)
