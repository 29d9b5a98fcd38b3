-- What the small changes of a state keep, a whole run keeps.
use Rattle.std.proofs.Common.{ℕ, ℤ, ◌≡◌, List, [], ◌∷◌, Bool, true, false, Option, Some, None, refl, sym, subst, fold}
use Rattle.std.specs.Prelude.{filter, find, length, nat_le, not, ◌==◌, if◌then◌else◌}
use Rattle.std.specs.List.{AllByRecursion}
use Rattle.ak_base.specs.Lists.{is_empty_list}
use Rattle.ak_labor.specs.declared.ask.Ask.{Ask}
use Rattle.ak_labor.specs.declared.ask.Ask.TheVariants as ask
use Rattle.ak_labor.specs.declared.work.Outcome.{Outcome}
use Rattle.ak_labor.specs.Arrived.{Arrived}
use Rattle.ak_labor.specs.Waits.{pairs_in}
use Rattle.ak_labor.specs.Calls.{Reply, Drained, Granted, Done}
use Rattle.ak_rings.specs.declared.job.Job.{Job}
use Rattle.ak_rings.specs.Queues.{pick_of, picked_from, recounted}
use Rattle.ak_frames.specs.declared.value.Value.{Value}
use Rattle.ak_frames.specs.declared.frame.Ret.TheVariants.{Drop}
use Rattle.ak_frames.specs.declared.frame.Frame.TheVariants as frame
use Rattle.ak_frames.specs.declared.frame.Task.{Task}
use Rattle.ak_trace.specs.declared.entry.Entry.TheVariants as entry
use Rattle.ak_trace.specs.declared.entry.Ending.{Ending}
use Rattle.ak_trace.specs.declared.entry.Ending.TheVariants as ending
use Rattle.ak_program.specs.Programs.{NumProgram}
use Rattle.ak_labor.specs.declared.config.Config.{Config}
use Rattle.ak_machine.specs.declared.flow.Flow.{Flow}
use Rattle.ak_machine.specs.declared.flow.Flow.TheVariants as flow
use Rattle.ak_machine.specs.declared.held.Outstanding.{Outstanding}
use Rattle.ak_machine.specs.State.{State, initial_state}
use Rattle.ak_machine.specs.Deferred.{noting}
use Rattle.ak_machine.specs.Errors.{After}
use Rattle.ak_machine.specs.Works.{with_helper, answered}
use Rattle.ak_machine.specs.Job.{Rest, Progress, Over, Asking}
use Rattle.ak_machine.specs.Job.{value_or_zero}
use Rattle.ak_machine.specs.Cycle.{cycle_begun, has_more, is_stuck, is_quiet, request_arrived, arrive_request, arrive_requests, requests_served}
use Rattle.ak_machine.specs.Cycle.{served_by, with_left, arrival_of, arrive, arrive_all, is_work, is_other_work}
use Rattle.ak_machine.specs.Run.{Place, AtDrain, AtJob, AtClose, Ended as HasClosed, Wrong, Machine, went, progressed, cycle_ended, picked, served}
use Rattle.ak_machine.specs.Run.{drained, gone_on, job_answered, stepped_at, stepped, begun, machine_after}
use Rattle.ak_ledger.proofs.Still.{Ended, AfterHas, called_keeps}
use Rattle.ak_ledger.proofs.Lines.{ProgressHas, lines_keep, frame_keeps, outcome_keeps}
use Rattle.ak_ledger.proofs.Waiting.{cycle_still}
use Rattle.ak_laws.proofs.Kept.{Kept, Arriving, Each, still_of, arriving_of, asks_of, with_helper_keeps}

-- the works of a drain, where each was outstanding
abbrev pub ArrivedHas : (P : State → Type 0) → Option After → Type 0
ArrivedHas P None = Unit {0}
ArrivedHas P (Some after) = AfterHas P after.flow after.state

-- the requests of a drain, where each has its number
abbrev pub RequestsHave : (P : State → Type 0) → Option State → Type 0
RequestsHave P None = Unit {0}
RequestsHave P (Some s) = P s

-- a work that a reply brings, with its outcome
abbrev pub IsBrought : (ℕ → Outcome → Type 0) → ℕ × Outcome → Type 0
IsBrought B pair = B pair.0 pair.1

-- so each that it brings
abbrev pub Brings : (ℕ → Outcome → Type 0) → Reply → Type 0
Brings B reply = AllByRecursion (IsBrought B) (pairs_in reply)

-- a machine: the end is behind the trace once the close was asked
abbrev pub PlaceHas : (P : State → Type 0) → Place → State → Type 0
PlaceHas P AtDrain s = P s
PlaceHas P (AtJob a rest) s = P s
PlaceHas P AtClose s = Ended P s
PlaceHas P HasClosed s = Ended P s
PlaceHas P Wrong s = Unit {0}

abbrev pub MachineHas : (P : State → Type 0) → Machine → Type 0
MachineHas P m = PlaceHas P m.place m.state

-- what is left when a job is picked, with its entry
abbrev pub left_by : Job Task → State → State
left_by job s = noting (entry.Job job.no) (record s { queues = picked_from s.queues })

-- kept by a cycle's begin, by a pick and by the job that answers a request, too, and there before the run begins
pub record KeptByRuns (B : ℕ → Outcome → Type 0) (limit : ℕ) (P : State → Type 0) : Type 0 where
  pub kept : Kept B P
  pub cycle : (s : State) → P s → P (noting entry.Cycle (record s { queues = recounted s.queues }))
  pub pick : (job : Job Task) (s : State) → pick_of s.queues ≡ Some job → P s → P (left_by job s)
  pub answer : (job : Job Task) (q : ℕ) (s : State) → pick_of s.queues ≡ Some job → job.frame.frame ≡ frame.AnswerOut q → P s
      → P (answered q (value_or_zero job.frame.value) (left_by job s))
  pub first : (askers : ℕ) → P (initial_state limit askers)

module _ (B : ℕ → Outcome → Type 0) (P : State → Type 0) (k : Arriving B P) where
  arrival_keeps : (found : Option Outstanding) (w : ℕ) (o : Outcome) (s : State) → B w o → find (is_work w) s.works ≡ found → P s
      → ArrivedHas P (arrival_of found w o s)
  arrival_keeps None w o s b e p = tt
  arrival_keeps (Some work) w o s b e p =
      outcome_keeps P (Each P) k.still o work (noting (entry.Arrive w o) (record s { works = filter (is_other_work w) s.works }))
      (k.arrive w o work s b e p)

  -- what comes of the works behind one, given that they keep
  flow_goes_on : (pairs : List (ℕ × Outcome)) → ((s : State) → P s → ArrivedHas P (arrive_all pairs s)) → (after : After) (f : Flow) → after.flow ≡ f
      → AfterHas P after.flow after.state → ArrivedHas P (elim f [
        | flow.On ↦ arrive_all pairs after.state
        | flow.Stopped ↦ Some after
        | flow.Unhandled e ↦ Some after
      ])
  flow_goes_on pairs h after flow.On e q = h after.state (subst (λ f. AfterHas P f after.state) e q)
  flow_goes_on pairs h after flow.Stopped e q = q
  flow_goes_on pairs h after (flow.Unhandled z) e q = q

  arrival_goes_on : (pairs : List (ℕ × Outcome)) → ((s : State) → P s → ArrivedHas P (arrive_all pairs s)) → (o : Option After) → ArrivedHas P o
      → ArrivedHas P (elim o [
        | None ↦ None
        | Some after ↦ elim after.flow [
          | flow.On ↦ arrive_all pairs after.state
          | flow.Stopped ↦ Some after
          | flow.Unhandled e ↦ Some after
        ]
      ])
  arrival_goes_on pairs h None q = tt
  arrival_goes_on pairs h (Some after) q = flow_goes_on pairs h after after.flow refl q

  pub arrive_all_keeps : (pairs : List (ℕ × Outcome)) (s : State) → AllByRecursion (IsBrought B) pairs → P s → ArrivedHas P (arrive_all pairs s)
  arrive_all_keeps [] s b p = p
  arrive_all_keeps (pair ∷ pairs) s b p =
      arrival_goes_on pairs (λ t q. arrive_all_keeps pairs t b.1 q) (arrive pair.0 pair.1 s)
      (arrival_keeps (find (is_work pair.0) s.works) pair.0 pair.1 s b.0 refl p)

  if_request : (b : Bool) (ask q : ℕ) (n : ℤ) (s : State) → (q == length s.requests) ≡ b → P s
      → RequestsHave P (if b then Some (request_arrived ask q n s) else None)
  if_request true ask q n s e p = k.request ask q n s e p
  if_request false ask q n s e p = tt

  more_requests : (ask : ℕ) (requests : List (ℕ × ℤ)) → ((s : State) → P s → RequestsHave P (arrive_requests ask requests s)) → (o : Option State)
      → RequestsHave P o → RequestsHave P (elim o [ None ↦ None | Some s' ↦ arrive_requests ask requests s' ])
  more_requests ask requests h None q = tt
  more_requests ask requests h (Some s) q = h s q

  arrive_requests_keep : (ask : ℕ) (requests : List (ℕ × ℤ)) (s : State) → P s → RequestsHave P (arrive_requests ask requests s)
  arrive_requests_keep ask [] s p = p
  arrive_requests_keep ask (request ∷ requests) s p =
      more_requests ask requests (λ t q. arrive_requests_keep ask requests t q) (arrive_request ask request s)
      (if_request (request.0 == length s.requests) ask request.0 request.1 s refl p)

  pub requests_keep : (ask : Option ℕ) (requests : List (ℕ × ℤ)) (s : State) → P s → RequestsHave P (requests_served ask requests s)
  requests_keep (Some ask) requests s p = arrive_requests_keep ask requests s p
  requests_keep None [] s p = p
  requests_keep None (request ∷ requests) s p = tt

module _ (B : ℕ → Outcome → Type 0) (P : State → Type 0) (limit : ℕ) (k : KeptByRuns B limit P) where
  cycle_keeps : (s : State) → P s → P (cycle_begun s)
  cycle_keeps s p = cycle_still P (still_of B P k.kept) s (k.cycle s p)

  went_keeps : (after : After) (m : Machine) → AfterHas P after.flow after.state → MachineHas P (went after m)
  went_keeps after m p = by after.flow p
    where
      by : (f : Flow) → AfterHas P f after.state → MachineHas P (went (record { state = after.state; flow = f }) m)
      by flow.On q = q
      by flow.Stopped q = q
      by (flow.Unhandled e) q = q

  progressed_keeps : (x : Progress) (m : Machine) → ProgressHas P (Each P) x → MachineHas P (progressed x m)
  progressed_keeps (Over after) m p = went_keeps after m p
  progressed_keeps (Asking a s rest) m p = p

  if_machine : (b : Bool) (x y : Machine) → MachineHas P x → MachineHas P y → MachineHas P (if b then x else y)
  if_machine true x y p q = p
  if_machine false x y p q = q

  ended_by : (why : Ending) (s : State) → P s → Ended P (noting (entry.End why) s)
  ended_by why s p = record { before = s; why = why; last = refl; has = p }

  cycle_ended_keeps : (config : Config) (s : State) (m : Machine) → P s → MachineHas P (cycle_ended config s m)
  cycle_ended_keeps config s m p =
      if_machine (has_more s) _ _ (cycle_keeps s p)
      (if_machine (not (is_quiet s)) _ _ (cycle_keeps s p)
      (if_machine (is_empty_list s.works) _ _ (ended_by ending.Idle s p)
      (if_machine (is_stuck config.threads s) _ _ (ended_by ending.Stuck s p) (cycle_keeps s p))))

  picked_keeps : (program : NumProgram) (config : Config) (o : Option (Job Task)) (s : State) (m : Machine) → pick_of s.queues ≡ o → P s
      → MachineHas P (picked program config o s m)
  picked_keeps program config None s m e p = cycle_ended_keeps config s m p
  picked_keeps program config (Some job) s m e p =
      if_machine (nat_le config.jobs m.ran) _ _ (ended_by ending.Jobs s p)
      (progressed_keeps _ _
      (frame_keeps P (Each P) (still_of B P k.kept) (asks_of B P k.kept) program.procs job.ctx job.frame.frame (value_or_zero job.frame.value)
      (left_by job s)
      (k.pick job s e p) (λ q f. k.answer job q s e f p)))

  served_keeps : (program : NumProgram) (config : Config) (o : Option State) (left : ℕ) (m : Machine) → RequestsHave P o
      → MachineHas P (served program config o left m)
  served_keeps program config None left m p = tt
  served_keeps program config (Some s) left m p =
      picked_keeps program config (pick_of s.queues) (with_left left s) m refl (k.kept.change s (with_left left s) refl p)

  drained_keeps : (program : NumProgram) (config : Config) (arrived : Arrived) (o : Option After) (m : Machine) → ArrivedHas P o
      → MachineHas P (drained program config arrived o m)
  drained_keeps program config arrived None m p = tt
  drained_keeps program config arrived (Some after) m p = by after.flow p
    where
      by : (f : Flow) → AfterHas P f after.state → MachineHas P (drained program config arrived (Some (record { state = after.state; flow = f })) m)
      by flow.On q =
          served_keeps program config _ arrived.left m
          (requests_keep B P (arriving_of B P k.kept) (served_by program.ask config.askers) arrived.requests after.state q)
      by flow.Stopped q = q
      by (flow.Unhandled e) q = q

  gone_on_keeps : (rest : Rest) (s : State) (vals : List Value) (m : Machine) → P s → MachineHas P (gone_on rest s vals m)
  gone_on_keeps rest s vals m p = progressed_keeps _ m (lines_keep P (Each P) (still_of B P k.kept) (asks_of B P k.kept) rest.ctx rest.ret rest.lines s vals p)

  reply_keeps : (a : Ask) (reply : Reply) (rest : Rest) (m : Machine) → P m.state → MachineHas P (job_answered a reply rest m)
  reply_keeps (ask.Answer q v) Done rest m p = gone_on_keeps rest m.state rest.vals m p
  reply_keeps (ask.Answer q v) (Drained arrived) rest m p = tt
  reply_keeps (ask.Answer q v) (Granted b) rest m p = tt
  reply_keeps (ask.Submit id work helper) Done rest m p = gone_on_keeps rest m.state rest.vals m p
  reply_keeps (ask.HelperEnd h) Done rest m p = gone_on_keeps rest m.state rest.vals m p
  reply_keeps (ask.HelperNew h) (Granted b) rest m p =
      gone_on_keeps rest (with_helper b m.state) _ m (with_helper_keeps B P k.kept b m.state p)
  reply_keeps (ask.Submit id work helper) (Drained arrived) rest m p = tt
  reply_keeps (ask.Submit id work helper) (Granted b) rest m p = tt
  reply_keeps (ask.HelperEnd h) (Drained arrived) rest m p = tt
  reply_keeps (ask.HelperEnd h) (Granted b) rest m p = tt
  reply_keeps (ask.HelperNew h) (Drained arrived) rest m p = tt
  reply_keeps (ask.HelperNew h) Done rest m p = tt
  reply_keeps a reply rest m p = tt

  stepped_keeps : (program : NumProgram) (config : Config) (place : Place) (reply : Reply) (m : Machine) → Brings B reply → PlaceHas P place m.state
      → MachineHas P (stepped_at program config place reply m)
  stepped_keeps program config AtDrain (Drained arrived) m b p =
      drained_keeps program config arrived _ m (arrive_all_keeps B P (arriving_of B P k.kept) arrived.works m.state b p)
  stepped_keeps program config AtDrain (Granted g) m b p = tt
  stepped_keeps program config AtDrain Done m b p = tt
  stepped_keeps program config (AtJob a rest) reply m b p = reply_keeps a reply rest m p
  stepped_keeps program config AtClose Done m b p = p
  stepped_keeps program config AtClose (Drained arrived) m b p = tt
  stepped_keeps program config AtClose (Granted g) m b p = tt
  stepped_keeps program config HasClosed reply m b p = tt
  stepped_keeps program config Wrong reply m b p = tt

  replies_keep : (program : NumProgram) (config : Config) (replies : List Reply) (m : Machine) → AllByRecursion (Brings B) replies → MachineHas P m
      → MachineHas P (fold (stepped program config) m replies)
  replies_keep program config [] m b p = p
  replies_keep program config (reply ∷ replies) m b p =
      replies_keep program config replies (stepped program config m reply) b.1 (stepped_keeps program config m.place reply m b.0 p)

  pub run_keeps : (program : NumProgram) (config : Config) → config.limit ≡ limit → (replies : List Reply) → AllByRecursion (Brings B) replies
      → MachineHas P (machine_after program config replies)
  run_keeps program config e replies b =
      replies_keep program config replies (begun program.main config) b
      (cycle_keeps _
      (called_keeps P (still_of B P k.kept) _ program.main [] Drop _ (subst (λ n. P (initial_state n config.askers)) (sym e) (k.first config.askers))))

-- ---- where nothing is said of outcomes
abbrev pub anything : ℕ → Outcome → Type 0
anything w outcome = Unit {0}

pub pairs_bring : (pairs : List (ℕ × Outcome)) → AllByRecursion (IsBrought anything) pairs
pairs_bring [] = tt
pairs_bring (pair ∷ pairs) = (tt, pairs_bring pairs)

pub brings_anything : (replies : List Reply) → AllByRecursion (Brings anything) replies
brings_anything [] = tt
brings_anything (reply ∷ replies) = (pairs_bring (pairs_in reply), brings_anything replies)
