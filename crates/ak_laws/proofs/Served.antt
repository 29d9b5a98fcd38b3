-- The trace of every run that has ended answers each request once, with the number of its deferred.
use Rattle.std.proofs.Common.{ℕ, ℤ, ◌+◌, ◌≡◌, List, [], ◌∷◌, ◌++◌, length, map, true, false, Option, Some, None}
use Rattle.std.proofs.Common.{refl, sym, subst, ◌∙◌}
use Rattle.std.proofs.Common.{ap, arith, fold}
use Rattle.std.specs.Prelude.{slice_index_or}
use Rattle.std.specs.List.{AllByRecursion}
use Rattle.std.proofs.lemmas.Bool.{eqb-true}
use Rattle.std.proofs.lemmas.List.{length-append, length-map}
use Rattle.std.proofs.Math.ListN.{length-set}
use Rattle.ak_base.specs.Lists.{rest_of}
use Rattle.ak_base.specs.declared.number.Ctx.{Ctx}
use Rattle.ak_labor.specs.Calls.{Reply}
use Rattle.ak_labor.specs.declared.config.Config.{Config}
use Rattle.ak_cells.specs.declared.registration.Registration.{Registration}
use Rattle.ak_cells.specs.Cells.{is_other, waiting_on, filled, unregistered}
use Rattle.ak_cells.specs.Names.{renamed}
use Rattle.ak_rings.specs.declared.job.Job.{Job}
use Rattle.ak_rings.specs.Queues.{first_under, pick_or, pick_of, picked_by, picked_from, recounted}
use Rattle.ak_frames.specs.declared.value.Value.TheVariants.{Num}
use Rattle.ak_frames.specs.declared.frame.Ret.TheVariants.{To}
use Rattle.ak_frames.specs.declared.frame.Frame.{Frame}
use Rattle.ak_frames.specs.declared.frame.Frame.TheVariants.{Call, AnswerOut}
use Rattle.ak_frames.specs.declared.frame.Task.{Task}
use Rattle.ak_trace.specs.declared.entry.Entry.{Entry}
use Rattle.ak_trace.specs.declared.entry.Entry.TheVariants as entry
use Rattle.ak_program.specs.Programs.{NumProgram}
use Rattle.ak_machine.specs.declared.held.Outstanding.{Outstanding}
use Rattle.ak_machine.specs.State.{State}
use Rattle.ak_machine.specs.Mapped.{requested_mapped, state_renamed}
use Rattle.ak_machine.specs.Deferred.{noting, plain_task, enqueue, with_ivar, number_at, woken_by, register_at}
use Rattle.ak_machine.specs.Works.{with_request, request_at, answered}
use Rattle.ak_machine.specs.Job.{value_or_zero}
use Rattle.ak_machine.specs.Cycle.{at_root, request_arrived}
use Rattle.ak_machine.specs.Run.{HasEnded, run_of, machine_after}
use Rattle.ak_holders.specs.Holders.{total}
use Rattle.ak_holders.proofs.Carry.{first_is}
use Rattle.ak_laws.specs.Requests.{RequestsAreServed}
use Rattle.ak_ledger.proofs.Still.{IsQuiet, Ended}
use Rattle.ak_laws.proofs.Kept.{Parts, parts_of, Kept}
use Rattle.ak_laws.proofs.KeptRun.{left_by, KeptByRuns, run_keeps, anything, brings_anything}
use Rattle.ak_laws.proofs.Ends.{at_end}
use Rattle.ak_laws.proofs.Serving.{job_answers, JobKnows, Serving, IsSilent, entry_served, taken_served, dropped_served, queued_served}
use Rattle.ak_laws.proofs.Serving.{waiting_served, fewer_served, woken, filled_served, joined_served, asked_served, answered_served}

abbrev IsServing : State → Type 0
IsServing s = Serving [] (parts_of s)

quiet_is_silent : (e : Entry) → IsQuiet e → IsSilent e
quiet_is_silent (entry.Request q n r) h = h
quiet_is_silent (entry.Answer q v) h = h
quiet_is_silent (entry.Join r i) h = h
quiet_is_silent e h = tt

-- works don't matter
other_works : (works : List Outstanding) (next : ℕ) (p : Parts) → Serving [] p → Serving [] (record p { works = works; next_work = next })
other_works works next p h = record {
  count = h.count;
  once = h.once;
  past = h.past;
  unasked = h.unasked;
  in_hand = h.in_hand;
  handlers_know = h.handlers_know;
  normal_know = h.normal_know;
  low_know = h.low_know;
  rules = h.rules;
}

-- as many requests, in other words
as_many : (n m : ℕ) (p : Parts) → n ≡ m → Serving [] (record p { requests = n }) → Serving [] (record p { requests = m })
as_many n m p e h = subst (λ k. Serving [] (record p { requests = k })) e h

-- a task from the hand is enqueued
hand_enqueued : (hand : List Task) (ctx : Ctx) (task : Task) (s : State) → Serving (task ∷ hand) (parts_of s) → Serving hand (parts_of (enqueue ctx task s))
hand_enqueued hand ctx task s h =
    let job : Job Task = record { no = s.queues.next; ctx = ctx; frame = task }
    in entry_served hand _ (entry.Enq s.queues.next ctx.low) tt (queued_served hand ctx.low job s.queues (parts_of s) h)

all_woken : (v : ℤ) (gs : List (Registration Frame)) (s : State) → Serving (map (woken v) gs) (parts_of s) → IsServing (fold (woken_by v) s gs)
all_woken v [] s h = h
all_woken v (g ∷ gs) s h = all_woken v gs (woken_by v s g) (hand_enqueued (map (woken v) gs) g.ctx (woken v g) s h)

forgotten : (notes : List ℕ) (s : State) → IsServing s → IsServing (record s { cells = fold unregistered s.cells notes })
forgotten [] s h = h
forgotten (n ∷ notes) s h = forgotten notes (record s { cells = unregistered s.cells n }) (fewer_served [] (is_other n) (parts_of s) h)

-- a fresh deferred is empty
fresh_is_empty : (xs : List (Option ℤ)) → slice_index_or (xs ++ None ∷ []) (length xs) None ≡ None
fresh_is_empty [] = refl
fresh_is_empty (x ∷ xs) = fresh_is_empty xs

request_serves : (ask q : ℕ) (n : ℤ) (s : State) → q ≡ length s.requests → IsServing s → IsServing (request_arrived ask q n s)
request_serves ask q n s e h =
    let r : ℕ = length s.cells.ivars
    in let kept : State = with_request q r (with_ivar s)
    in let noted : State = noting (entry.Request q n r) kept
    in let there : IsServing (register_at None r at_root (AnswerOut q) noted) =
    as_many (length s.requests + 1) (length kept.requests) (parts_of (register_at None r at_root (AnswerOut q) noted))
    (sym (length-append s.requests (record { number = q; to = r; answered = false } ∷ [])))
    (subst (λ k. Serving [] (record (parts_of s) {
      handlers = s.cells.registrations ++ record { number = s.cells.next; ivar = r; ctx = at_root; frame = AnswerOut k } ∷ [];
      requests = length s.requests + 1;
      trace = s.trace ++ entry.Request k n r ∷ [];
    })) (sym e) (asked_served n r s.cells.next at_root (parts_of s) h))
    in hand_enqueued [] at_root (plain_task (Call ask (Num n ∷ []) (To r))) (register_at (number_at r noted) r at_root (AnswerOut q) noted)
    (taken_served [] (plain_task (Call ask (Num n ∷ []) (To r))) _ tt
    (subst (λ o. IsServing (register_at o r at_root (AnswerOut q) noted)) (sym (fresh_is_empty s.cells.ivars)) there))

serving_kept : Kept anything IsServing
serving_kept = record {
  note = λ e s q h. entry_served [] (parts_of s) e (quiet_is_silent e q) h;
  enq = λ ctx task s n h. hand_enqueued [] ctx task s (taken_served [] task (parts_of s) n h);
  wait = λ i ctx frame s n h.
      waiting_served [] (record { number = s.cells.next; ivar = i; ctx = ctx; frame = frame }) (parts_of s) n h;
  forget = forgotten;
  fill = λ i v s h.
      all_woken v (waiting_on i s.cells) (noting (entry.Fill i v) (record s { cells = filled i v s.cells })) (filled_served i v (parts_of s) h);
  join = λ result right s e h.
      as_many (length s.requests) (length (map (requested_mapped (renamed right result)) s.requests))
      (parts_of (state_renamed right result (noting (entry.Join result right) s)))
      (sym (length-map s.requests (requested_mapped (renamed right result))))
      (other_works (state_renamed right result s).works s.next_work _ (joined_served result right (parts_of s) h));
  submit = λ ctx to work helper s h.
      let x : Outstanding = record { number = s.next_work; to = to; ctx = ctx; helper = helper }
      in entry_served [] _ (entry.Submit s.next_work work.kind work.num) tt (other_works (s.works ++ x ∷ []) (s.next_work + 1) (parts_of s) h);
  arrive = λ w outcome work s b e h. entry_served [] _ (entry.Arrive w outcome) tt (other_works _ s.next_work (parts_of s) h);
  request = λ ask q n s e h. request_serves ask q n s (eqb-true q (length s.requests) e) h;
  change = λ s u e h. subst (Serving []) (sym e) h;
}

-- ---- a pick: the job is in hand
picked_total : (q : ℕ) (jobs : List (Job Task)) (job : Job Task) → jobs ≡ job ∷ rest_of jobs
    → job_answers q job + total (job_answers q) (rest_of jobs) ≡ total (job_answers q) jobs
picked_total q jobs job e = sym (ap (total (job_answers q)) e)

picked_serves : (a b : Option (Job Task)) (job : Job Task) (s : State) → first_under s.queues.normal_ran s.queues.limit s.queues.normal ≡ a
    → first_under s.queues.low_ran s.queues.limit s.queues.low ≡ b → pick_or a b ≡ Some job → IsServing s
    → Serving (job.frame ∷ []) (parts_of (record s { queues = picked_by a b s.queues }))
picked_serves (Some x) b job s ea eb e h =
    let same : x ≡ job = cc
    in let front : s.queues.normal ≡ job ∷ rest_of s.queues.normal =
    first_is s.queues.normal_ran s.queues.limit s.queues.normal job (ea ∙ ap (λ y. Some y) same)
    in let split : AllByRecursion (JobKnows s.trace) (job ∷ rest_of s.queues.normal) = subst (AllByRecursion (JobKnows s.trace)) front h.normal_know
    in record {
      count = h.count;
      once = λ q. omega (arith, h.once q, picked_total q s.queues.normal job front);
      past = λ q l. omega (arith, h.past q l, picked_total q s.queues.normal job front);
      unasked = h.unasked;
      in_hand = (split.0, tt);
      handlers_know = h.handlers_know;
      normal_know = split.1;
      low_know = h.low_know;
      rules = h.rules;
    }
picked_serves None (Some x) job s ea eb e h =
    let same : x ≡ job = cc
    in let front : s.queues.low ≡ job ∷ rest_of s.queues.low = first_is s.queues.low_ran s.queues.limit s.queues.low job (eb ∙ ap (λ y. Some y) same)
    in let split : AllByRecursion (JobKnows s.trace) (job ∷ rest_of s.queues.low) = subst (AllByRecursion (JobKnows s.trace)) front h.low_know
    in record {
      count = h.count;
      once = λ q. omega (arith, h.once q, picked_total q s.queues.low job front);
      past = λ q l. omega (arith, h.past q l, picked_total q s.queues.low job front);
      unasked = h.unasked;
      in_hand = (split.0, tt);
      handlers_know = h.handlers_know;
      normal_know = h.normal_know;
      low_know = split.1;
      rules = h.rules;
    }
picked_serves None None job s ea eb e h = absurd (cc)

-- with its entry
left_serves : (job : Job Task) (s : State) → pick_of s.queues ≡ Some job → IsServing s → Serving (job.frame ∷ []) (parts_of (left_by job s))
left_serves job s e h =
    entry_served (job.frame ∷ []) (parts_of (record s { queues = picked_from s.queues })) (entry.Job job.no) tt
    (picked_serves (first_under s.queues.normal_ran s.queues.limit s.queues.normal) (first_under s.queues.low_ran s.queues.limit s.queues.low)
    job s refl refl e h)

answer_serves : (job : Job Task) (q : ℕ) (s : State) → pick_of s.queues ≡ Some job → job.frame.frame ≡ AnswerOut q → IsServing s
    → IsServing (answered q (value_or_zero job.frame.value) (left_by job s))
answer_serves job q s e f h =
    let t : State = left_by job s
    in let v : ℤ = value_or_zero job.frame.value
    in let in_hand : Serving (record { frame = AnswerOut q; value = job.frame.value } ∷ []) (parts_of t) =
    subst (λ (x : Frame). Serving (record { frame = x; value = job.frame.value } ∷ []) (parts_of t)) f (left_serves job s e h)
    in as_many (length s.requests) (length (answered q v t).requests) (parts_of (answered q v t))
    (sym (length-set s.requests q (record (request_at q t) { answered = true })))
    (answered_served q job.frame.value (parts_of t) in_hand)

serving_by_runs : (limit : ℕ) → KeptByRuns anything limit IsServing
serving_by_runs limit = record {
  kept = serving_kept;
  cycle = λ s h.
      entry_served [] (parts_of (record s { queues = recounted s.queues })) entry.Cycle tt
      (record {
        count = h.count;
        once = h.once;
        past = h.past;
        unasked = h.unasked;
        in_hand = h.in_hand;
        handlers_know = h.handlers_know;
        normal_know = h.normal_know;
        low_know = h.low_know;
        rules = h.rules;
      });
  pick = λ job s e h. dropped_served [] job.frame (parts_of (left_by job s)) (left_serves job s e h);
  answer = answer_serves;
  first = λ askers. record {
    count = refl;
    once = λ q. omega arith;
    past = λ q l. refl;
    unasked = λ q l. refl;
    in_hand = tt;
    handlers_know = tt;
    normal_know = tt;
    low_know = tt;
    rules = tt;
  };
}

pub requests_are_served : (program : NumProgram) (config : Config) (replies : List Reply) → (run_of program config replies).outcome ≡ HasEnded
    → RequestsAreServed (run_of program config replies).trace
requests_are_served program config replies e =
    let x : Ended IsServing (machine_after program config replies).state =
    at_end IsServing (machine_after program config replies)
    (run_keeps anything IsServing config.limit (serving_by_runs config.limit) program config refl replies (brings_anything replies)) e
    in let ended : Serving [] (record (parts_of x.before) { trace = x.before.trace ++ entry.End x.why ∷ [] }) =
    entry_served [] (parts_of x.before) (entry.End x.why) tt x.has
    in subst RequestsAreServed (sym (ap (λ (s : State). s.trace) x.last)) ended.rules
