-- A run asks one call more with each reply.
use Rattle.std.proofs.Common.{◌≡◌, ℕ, zero, suc, ◌+◌, ◌<◌, ◌≤◌, ◌⊎◌, Bool, true, false, cond, List, [], ◌∷◌, ◌++◌, length, take, get_or, refl, sym, ap, subst, ◌∙◌, inl, inr, arith, length-append}
use Rattle.std.specs.Prelude.{nat_le, not, Option, Some, None}
use Rattle.std.proofs.lemmas.List.{take_more, map-append}
use Rattle.std.proofs.lemmas.List.Sums.{fold-append}
use Rattle.ak_base.specs.Lists.{is_empty_list}
use Rattle.ak_labor.specs.declared.ask.Ask.{Ask}
use Rattle.ak_labor.specs.declared.ask.Ask.TheVariants as ask
use Rattle.ak_labor.specs.Arrived.{Arrived}
use Rattle.ak_labor.specs.Calls.{Reply, Drained, Granted, Done}
use Rattle.ak_frames.specs.declared.frame.Task.{Task}
use Rattle.ak_history.specs.Events.{numbers_below}
use Rattle.ak_program.specs.Programs.{NumProgram}
use Rattle.ak_rings.specs.declared.job.Job.{Job}
use Rattle.ak_rings.specs.Queues.{pick_of, picked_from}
use Rattle.ak_labor.specs.declared.config.Config.{Config}
use Rattle.ak_machine.specs.declared.flow.Flow.{Flow}
use Rattle.ak_machine.specs.declared.flow.Flow.TheVariants as flow
use Rattle.ak_machine.specs.State.{State}
use Rattle.ak_machine.specs.Errors.{After}
use Rattle.ak_machine.specs.Job.{Rest, Progress, Over, Asking, run_job}
use Rattle.ak_machine.specs.Cycle.{has_more, is_stuck, arrive_all, served_by, requests_served, is_quiet, with_left}
use Rattle.ak_machine.specs.Run.{Machine, Place, AtDrain, AtJob, AtClose, Ended, Wrong, HasEnded, Wants, IsWrong, ran_to, went, progressed, cycle_ended, picked, served, drained, job_answered, stepped_at, stepped, begun, machine_after, run_of}
use Rattle.ak_meets.specs.Meets.{wanted}
use Rattle.ak_meets.specs.Calls.{WantsBehind, EndsWith, wanted_by, HasCalled}

-- behind these calls the machine waits for the reply to one more
record AsksOne (asked : List Ask) (m : Machine) : Type 0 where
  next : Ask
  wants : ran_to m.place ≡ Wants next
  asks : m.asks ≡ asked ++ next ∷ []

-- or it has ended, or a reply did not fit
abbrev Goes : List Ask → Machine → Type 0
Goes asked m = AsksOne asked m ⊎ (((ran_to m.place ≡ HasEnded) × (m.asks ≡ asked)) ⊎ (ran_to m.place ≡ IsWrong))

one : (a : Ask) (asked : List Ask) (m : Machine) → ran_to m.place ≡ Wants a → m.asks ≡ asked ++ a ∷ [] → Goes asked m
one a asked m wants asks = inl (record { next = a; wants = wants; asks = asks })

went_goes : (f : Flow) (after : After) (m : Machine) → after.flow ≡ f → Goes m.asks (went after m)
went_goes flow.On after m is = rw is (one ask.Drain m.asks _ refl refl)
went_goes flow.Stopped after m is = rw is (one ask.Close m.asks _ refl refl)
went_goes (flow.Unhandled e) after m is = rw is (one ask.Close m.asks _ refl refl)

progressed_goes : (p : Progress) (m : Machine) → Goes m.asks (progressed p m)
progressed_goes (Over after) m = went_goes after.flow after m refl
progressed_goes (Asking a s rest) m = one a m.asks _ refl refl

-- what every branch does, a choice does
chosen : (b : Bool) (asked : List Ask) (m n : Machine) → Goes asked m → Goes asked n → Goes asked (cond b m n)
chosen true asked m n h k = h
chosen false asked m n h k = k

ended_goes : (config : Config) (s : State) (m : Machine) → Goes m.asks (cycle_ended config s m)
ended_goes config s m =
    chosen (has_more s) m.asks _ _ (one ask.Drain m.asks _ refl refl)
    (chosen (not (is_quiet s)) m.asks _ _ (one ask.Drain m.asks _ refl refl)
    (chosen (is_empty_list s.works) m.asks _ _ (one ask.Close m.asks _ refl refl)
    (chosen (is_stuck config.threads s) m.asks _ _ (one ask.Close m.asks _ refl refl) (one ask.Drain m.asks _ refl refl))))

picked_goes : (program : NumProgram) (config : Config) (o : Option (Job Task)) (s : State) (m : Machine) → Goes m.asks (picked program config o s m)
picked_goes program config None s m = ended_goes config s m
picked_goes program config (Some job) s m =
    chosen (nat_le config.jobs m.ran) m.asks _ _ (one ask.Close m.asks _ refl refl)
    (progressed_goes (run_job program.procs job (record s { queues = picked_from s.queues })) (record m { ran = m.ran + 1 }))

served_goes : (program : NumProgram) (config : Config) (o : Option State) (left : ℕ) (m : Machine) → Goes m.asks (served program config o left m)
served_goes program config None left m = inr (inr refl)
served_goes program config (Some s) left m = picked_goes program config (pick_of s.queues) (with_left left s) m

drained_goes : (program : NumProgram) (config : Config) (arrived : Arrived) (f : Flow) (o : Option After) (m : Machine)
    → ((after : After) → o ≡ Some after → after.flow ≡ f) → Goes m.asks (drained program config arrived o m)
drained_goes program config arrived f None m is = inr (inr refl)
drained_goes program config arrived flow.On (Some after) m is =
    rw (is after refl) (served_goes program config (requests_served (served_by program.ask config.askers) arrived.requests after.state) arrived.left m)
drained_goes program config arrived flow.Stopped (Some after) m is = rw (is after refl) (one ask.Close m.asks _ refl refl)
drained_goes program config arrived (flow.Unhandled e) (Some after) m is = rw (is after refl) (one ask.Close m.asks _ refl refl)

abbrev flow_of : Option After → Flow
flow_of None = flow.On
flow_of (Some after) = after.flow

flow_is : (o : Option After) (after : After) → o ≡ Some after → after.flow ≡ flow_of o
flow_is o after is = sym (ap flow_of is)

answered_goes : (a : Ask) (reply : Reply) (rest : Rest) (m : Machine) → Goes m.asks (job_answered a reply rest m)
answered_goes (ask.Submit id work helper) Done rest m = progressed_goes _ m
answered_goes (ask.HelperEnd h) Done rest m = progressed_goes _ m
answered_goes (ask.Answer q v) Done rest m = progressed_goes _ m
answered_goes (ask.HelperNew h) (Granted b) rest m = progressed_goes _ m
answered_goes (ask.Submit id work helper) (Drained d) rest m = inr (inr refl)
answered_goes (ask.Submit id work helper) (Granted b) rest m = inr (inr refl)
answered_goes (ask.HelperEnd h) (Drained d) rest m = inr (inr refl)
answered_goes (ask.HelperEnd h) (Granted b) rest m = inr (inr refl)
answered_goes (ask.Answer q v) (Drained d) rest m = inr (inr refl)
answered_goes (ask.Answer q v) (Granted b) rest m = inr (inr refl)
answered_goes (ask.HelperNew h) (Drained d) rest m = inr (inr refl)
answered_goes (ask.HelperNew h) Done rest m = inr (inr refl)
answered_goes ask.Drain reply rest m = inr (inr refl)
answered_goes ask.Close reply rest m = inr (inr refl)

stepped_goes : (program : NumProgram) (config : Config) (p : Place) (r : Reply) (m : Machine) → Goes m.asks (stepped_at program config p r m)
stepped_goes program config AtDrain (Drained d) m =
    let o = arrive_all d.works m.state in drained_goes program config d (flow_of o) o m (flow_is o)
stepped_goes program config AtDrain (Granted b) m = inr (inr refl)
stepped_goes program config AtDrain Done m = inr (inr refl)
stepped_goes program config (AtJob a rest) r m = answered_goes a r rest m
stepped_goes program config AtClose Done m = inr (inl (refl, refl))
stepped_goes program config AtClose (Drained d) m = inr (inr refl)
stepped_goes program config AtClose (Granted b) m = inr (inr refl)
stepped_goes program config Ended r m = inr (inr refl)
stepped_goes program config Wrong r m = inr (inr refl)

-- a run that has ended takes no reply more
no_more : (program : NumProgram) (config : Config) (p : Place) (r : Reply) (m : Machine) → ran_to p ≡ HasEnded
    → ran_to (stepped_at program config p r m).place ≡ IsWrong
no_more program config AtDrain r m e = absurd (cc e)
no_more program config (AtJob a rest) r m e = absurd (cc e)
no_more program config AtClose r m e = absurd (cc e)
no_more program config Ended r m e = refl
no_more program config Wrong r m e = refl

still_wrong : (program : NumProgram) (config : Config) (p : Place) (r : Reply) (m : Machine) → ran_to p ≡ IsWrong
    → ran_to (stepped_at program config p r m).place ≡ IsWrong
still_wrong program config AtDrain r m e = absurd (cc e)
still_wrong program config (AtJob a rest) r m e = absurd (cc e)
still_wrong program config AtClose r m e = absurd (cc e)
still_wrong program config Ended r m e = absurd (cc e)
still_wrong program config Wrong r m e = refl

-- a run that is not wrong wants a reply or has ended
abbrev Behind : NumProgram → Config → List Reply → ℕ → List Ask → Type 0
Behind program config rs n calls = WantsBehind (run_of program config (take n rs)) calls ⊎ EndsWith (run_of program config (take n rs)) calls

behind_by : (program : NumProgram) (config : Config) (rs : List Reply) (n : ℕ) (calls : List Ask)
    → ((run_of program config (take n rs)).outcome ≡ IsWrong → ⊥) → Goes calls (machine_after program config (take n rs)) → Behind program config rs n calls
behind_by program config rs n calls right (inl k) = inl (record { next = k.next; wants = k.wants; asks = k.asks })
behind_by program config rs n calls right (inr (inl k)) = inr (record { ended = k.0; asks = k.1 })
behind_by program config rs n calls right (inr (inr k)) = absurd (right k)

machine_next : (program : NumProgram) (config : Config) (rs : List Reply) (n : ℕ) (d : Reply) → n < length rs
    → machine_after program config (take (suc n) rs) ≡ stepped program config (machine_after program config (take n rs)) (get_or rs n d)
machine_next program config rs n d lt =
    let one : suc n ≡ n + 1 = omega arith in
    ap (machine_after program config) (ap (λ k. take k rs) one ∙ take_more rs n d lt)
    ∙ fold-append (stepped program config) (begun program.main config) (take n rs) (get_or rs n d ∷ [])

one_more : (program : NumProgram) (config : Config) (rs : List Reply) (n : ℕ) → n < length rs
    → ((run_of program config (take (suc n) rs)).outcome ≡ IsWrong → ⊥) → HasCalled program config rs n → HasCalled program config rs (suc n)
one_more program config rs n lt right so_far = of so_far.behind
  where
    m : Machine
    m = machine_after program config (take n rs)

    r : Reply
    r = get_or rs n Done

    next : machine_after program config (take (suc n) rs) ≡ stepped program config m r
    next = machine_next program config rs n Done lt

    of : Behind program config rs n so_far.calls → HasCalled program config rs (suc n)
    of (inr ended) = absurd (right (ap (λ (x : Machine). ran_to x.place) next ∙ no_more program config m.place r m ended.ended))
    of (inl wants) =
        let calls = so_far.calls ++ wants.next ∷ [] in
        record {
          calls = calls;
          many = omega (arith, so_far.many, length-append so_far.calls (wants.next ∷ []));
          agree =
              map-append (wanted_by program config rs) (numbers_below n) (n ∷ [])
              ∙ ((λ i. so_far.agree i ++ wanted (wants.wants i) ∷ []) ∙ sym (map-append Some so_far.calls (wants.next ∷ [])));
          behind =
              behind_by program config rs (suc n) calls right
              (subst (λ x. Goes calls x) (sym next) (subst (λ l. Goes l (stepped program config m r)) wants.asks (stepped_goes program config m.place r m)));
        }

-- LAW. The calls of a run are those that it wanted, one after another.
pub has_called : (program : NumProgram) (config : Config) (rs : List Reply) (n : ℕ) → n ≤ length rs
    → ((run_of program config (take n rs)).outcome ≡ IsWrong → ⊥) → HasCalled program config rs n
has_called program config rs zero le right =
    record { calls = []; many = refl; agree = refl; behind = inl (record { next = ask.Drain; wants = refl; asks = refl }) }
has_called program config rs (suc n) le right =
    one_more program config rs n (omega (arith, le)) right
    (has_called program config rs n (omega (arith, le))
    (λ was. right
    (ap (λ (x : Machine). ran_to x.place) (machine_next program config rs n Done (omega (arith, le)))
    ∙ still_wrong program config (machine_after program config (take n rs)).place (get_or rs n Done) (machine_after program config (take n rs)) was)))
