-- A world that is whole stays so.
use Rattle.std.proofs.Common.{◌≡◌, ℕ, ℤ, List, [], ◌∷◌, length, inl, cond, refl, sym, subst, ap, ◌∙◌, arith}
use Rattle.std.proofs.lemmas.Bool.{eq-eqb}
use Rattle.std.specs.Prelude.{Option, Some, None, IfSome, find}
use Rattle.std.specs.Option.{option_map}
use Rattle.ak_cells.specs.Names.{name_in}
use Rattle.ak_frames.specs.declared.frame.Task.{Task}
use Rattle.ak_rings.specs.declared.job.Job.{Job}
use Rattle.ak_program.specs.Programs.{NumProgram, IsAsk, ProgramIsSound}
use Rattle.ak_labor.specs.declared.config.Config.{Config}
use Rattle.ak_labor.specs.declared.work.Outcome.{Outcome}
use Rattle.ak_program.specs.declared.program.NumProc.{NumProc}
use Rattle.ak_trace.specs.declared.entry.Entry.{Entry}
use Rattle.ak_trace.specs.declared.entry.Entry.TheVariants as entry
use Rattle.ak_rings.specs.Queues.{pick_of}
use Rattle.ak_machine.specs.State.{State, initial_state}
use Rattle.ak_machine.specs.Errors.{After}
use Rattle.ak_machine.specs.declared.flow.Flow.{Flow}
use Rattle.ak_machine.specs.declared.held.Outstanding.{Outstanding}
use Rattle.ak_machine.specs.Deferred.{noting}
use Rattle.ak_machine.specs.Cycle.{cycle_begun, is_work, arrival_of, outcome_given, arrive, request_arrived, requests_served}
use Rattle.ak_machine.specs.Mapped.{job_mapped}
use Rattle.ak_state.specs.Seen.{Seen, doing, without_pick}
use Rattle.ak_state.specs.Drawn.{drawn}
use Rattle.ak_state.specs.Fits.{JobFits, Fits}
use Rattle.ak_state.specs.Errors.{after_is}
use Rattle.ak_state.specs.Arrivals.{without_work}
use Rattle.ak_state.proofs.Works.{arrival_grows}
use Rattle.ak_holders.specs.Told.{IsOther}
use Rattle.ak_holders.specs.Held.{HeldBy, HeldBeside}
use Rattle.ak_holders.proofs.Carry.{none_held, beside_noted, beside_cycle, pick_beside, ArrivedHeld, arrival_held, RequestsHeld, requests_held}
use Rattle.ak_ledger.specs.Answers.{AnswersAreOwed, hand_of}
use Rattle.ak_ledger.proofs.Owed.{request_owed, picked_owed, unpicked_owed}
use Rattle.ak_ledger.proofs.Owing.{noted_owed, after_owed, arrive_owed, cycle_owed, nothing_owed}
use Rattle.ak_state.proofs.Served.{request_grows}
use Rattle.ak_exec.specs.Worlds.{ServesAskers, IsWhole, world_of}
use Rattle.ak_state.proofs.Fitting.{Grows, cycle_grows, noted_grows}
use Rattle.ak_exec.proofs.Picks.{picked_grows, left_fits, pick_fits}

-- the parts are others, which hold as many ivars or more
grown_whole : (program : NumProgram) (config : Config) (picked : Option (Job Task)) (ran : ℕ) (s s' : Seen) → s'.names ≡ s.names
    → Grows program.procs s.plain s'.plain →
    (HeldBeside program.procs (option_map (job_mapped (name_in s.names)) picked) s.plain → HeldBeside program.procs
    (option_map (job_mapped (name_in s.names)) picked) s'.plain)
    → (AnswersAreOwed (hand_of (option_map (job_mapped (name_in s.names)) picked)) s.plain
    → AnswersAreOwed (hand_of (option_map (job_mapped (name_in s.names)) picked)) s'.plain)
    → IsWhole (world_of program config s picked ran) → IsWhole (world_of program config s' picked ran)
grown_whole program config picked ran s s' e g k o h = record {
  limit = h.limit;
  askers = h.askers;
  fits = g.fits;
  picked = subst (λ ns. IfSome (option_map (job_mapped (name_in ns)) picked) (JobFits program.procs (drawn s'.plain))) (sym e)
      (picked_grows program.procs (drawn s.plain) (drawn s'.plain) g.more
      (option_map (job_mapped (name_in s.names)) picked) h.picked);
  held = subst (λ ns. HeldBeside program.procs (option_map (job_mapped (name_in ns)) picked) s'.plain) (sym e) (k h.held);
  owed = subst (λ ns. AnswersAreOwed (hand_of (option_map (job_mapped (name_in ns)) picked)) s'.plain) (sym e) (o h.owed);
}

pub cycle_whole : (program : NumProgram) (config : Config) (picked : Option (Job Task)) (ran : ℕ) (s s' : Seen) → s' ≡ doing cycle_begun s
    → IsWhole (world_of program config s picked ran) → IsWhole (world_of program config s' picked ran)
cycle_whole program config picked ran s s' e h =
    subst (λ (x : Seen). IsWhole (world_of program config x picked ran)) (sym e)
    (grown_whole program config picked ran s (doing cycle_begun s) refl (cycle_grows program.procs s.plain h.fits)
    (beside_cycle program.procs (option_map (job_mapped (name_in s.names)) picked) s.plain)
    (cycle_owed (hand_of (option_map (job_mapped (name_in s.names)) picked)) s.plain) h)

pub noted_whole : (program : NumProgram) (config : Config) (picked : Option (Job Task)) (ran : ℕ) (s s' : Seen) (one : Entry) → IsOther one
    → s' ≡ doing (noting one) s → IsWhole (world_of program config s picked ran) → IsWhole (world_of program config s' picked ran)
noted_whole program config picked ran s s' one q e h =
    subst (λ (x : Seen). IsWhole (world_of program config x picked ran)) (sym e)
    (grown_whole program config picked ran s (doing (noting one) s) refl (noted_grows program.procs one s.plain h.fits)
    (beside_noted program.procs (option_map (job_mapped (name_in s.names)) picked) one s.plain q)
    (noted_owed (hand_of (option_map (job_mapped (name_in s.names)) picked)) one s.plain) h)

-- the frame of the pick is in hand
pick_owed : (s : State) → AnswersAreOwed [] s → AnswersAreOwed (hand_of (pick_of s.queues)) (without_pick s)
pick_owed s h = by (pick_of s.queues) refl
  where
    by : (o : Option (Job Task)) → pick_of s.queues ≡ o → AnswersAreOwed (hand_of o) (without_pick s)
    by (Some job) e = picked_owed job s e h
    by None e = unpicked_owed s e h

-- a job was picked
pub picked_whole : (program : NumProgram) (config : Config) (picked : Option (Job Task)) (ran ran' : ℕ) (s s' : Seen) → s' ≡ doing without_pick s
    → option_map (job_mapped (name_in s.names)) picked ≡ pick_of s.plain.queues → IsWhole (world_of program config s None ran)
    → IsWhole (world_of program config s' picked ran')
picked_whole program config picked ran ran' s s' e p h =
    subst (λ (x : Seen). IsWhole (world_of program config x picked ran')) (sym e)
    (record {
      limit = h.limit;
      askers = h.askers;
      fits = left_fits program.procs s.plain h.fits;
      picked =
          subst (λ (o : Option (Job Task)). IfSome o (JobFits program.procs (drawn s.plain))) (sym p)
          (pick_fits program.procs (drawn s.plain) s.plain h.fits);
      held = subst (λ (o : Option (Job Task)). HeldBeside program.procs o (without_pick s.plain)) (sym p) (pick_beside program.procs s.plain h.held);
      owed = subst (λ (o : Option (Job Task)). AnswersAreOwed (hand_of o) (without_pick s.plain)) (sym p) (pick_owed s.plain h.owed);
    })

-- nothing is left in it
pub emptied_whole : (program : NumProgram) (config : Config) (picked : Option (Job Task)) (ran : ℕ) (s s' : Seen)
    → s'.plain ≡ initial_state config.limit config.askers → IsWhole (world_of program config s picked ran) → IsWhole (world_of program config s' None ran)
emptied_whole program config picked ran s s' e h = record {
  limit = h.limit;
  askers = h.askers;
  fits =
      subst (Fits program.procs) (sym e)
      (record {
        root = omega arith;
        handlers = tt;
        normal = tt;
        low = tt;
        monitors = (record { next_errors = tt; actors = tt }, tt);
        purposes = tt;
        clock = record { yields = tt; alarms = tt; numbered = tt; few = omega arith };
        throttles = tt;
        pipes = tt;
        works = tt;
      });
  picked = tt;
  held = subst (HeldBy program.procs []) (sym e) (none_held program.procs config.limit config.askers);
  owed = subst (AnswersAreOwed []) (sym e) (nothing_owed config.limit config.askers);
}

-- none was picked
pub without_whole : (program : NumProgram) (config : Config) (picked : Option (Job Task)) (ran : ℕ) (s : Seen)
    → option_map (job_mapped (name_in s.names)) picked ≡ None → IsWhole (world_of program config s picked ran) → IsWhole (world_of program config s None ran)
without_whole program config picked ran s e h = record {
  limit = h.limit;
  askers = h.askers;
  fits = h.fits;
  picked = tt;
  held = subst (λ (o : Option (Job Task)). HeldBeside program.procs o s.plain) e h.held;
  owed = subst (λ (o : Option (Job Task)). AnswersAreOwed (hand_of o) s.plain) e h.owed;
}

-- ---- a work arrives
arrived_grows : (program : List NumProc) (w : ℕ) (outcome : Outcome) (s t : State) (f : Flow) → Fits program s
    → arrive w outcome s ≡ Some (after_is f t) → Grows program s t
arrived_grows program w outcome s t f fits e = by (find (is_work w) s.works) e
  where
    by : (o : Option Outstanding) → arrival_of o w outcome s ≡ Some (after_is f t) → Grows program s t
    by None k = absurd (cc)
    by (Some work) k =
        let same : outcome_given outcome work (noting (entry.Arrive w outcome) (without_work w s)) ≡ after_is f t = cc
        in subst (λ (a : After). Grows program s a.state) same (arrival_grows program w outcome work s fits)

arrived_held : (program : List NumProc) (w : ℕ) (outcome : Outcome) (s t : State) (f : Flow) → arrive w outcome s ≡ Some (after_is f t)
    → HeldBy program [] s → HeldBy program [] t
arrived_held program w outcome s t f e h = record {
  names = h.names;
  held =
      subst (ArrivedHeld program h.names []) e
      (arrival_held program h.names [] (find (is_work w) s.works) w outcome s refl h.held);
}

pub arrived_whole : (program : NumProgram) (config : Config) (picked : Option (Job Task)) (ran : ℕ) (s s' : Seen) (w : ℕ) (outcome : Outcome) (f : Flow)
    → option_map (job_mapped (name_in s.names)) picked ≡ None → s'.names ≡ s.names → arrive w outcome s.plain ≡ Some (after_is f s'.plain)
    → IsWhole (world_of program config s picked ran) → IsWhole (world_of program config s' picked ran)
arrived_whole program config picked ran s s' w outcome f free names e h =
    grown_whole program config picked ran s s' names (arrived_grows program.procs w outcome s.plain s'.plain f h.fits e)
    (λ k. subst (λ (o : Option (Job Task)). HeldBeside program.procs o s'.plain) (sym free)
    (arrived_held program.procs w outcome s.plain s'.plain f e (subst (λ (o : Option (Job Task)). HeldBeside program.procs o s.plain) free k)))
    (λ k. subst (λ (o : Option (Job Task)). AnswersAreOwed (hand_of o) s'.plain) (sym free)
    (after_owed f s'.plain
    (arrive_owed w outcome s.plain (after_is f s'.plain) (subst (λ (o : Option (Job Task)). AnswersAreOwed (hand_of o) s.plain) free k) e))) h

-- ---- askers
-- where there are none, nobody has to serve them
pub none_served : (program : NumProgram) (askers : ℕ) → askers ≡ 0 → ServesAskers program askers
none_served program askers none = record { few = omega (arith, none); served = inl none }

-- ---- a request arrives
-- the machine lets it come
pub request_comes : (ask number : ℕ) (num : ℤ) (o : Option ℕ) (s : State) → o ≡ Some ask → number ≡ length s.requests
    → requests_served o ((number, num) ∷ []) s ≡ Some (request_arrived ask number num s)
request_comes ask number num o s there next =
    ap (λ p. requests_served p ((number, num) ∷ []) s) there
    ∙ ap (λ b. elim (cond b (Some (request_arrived ask number num s)) None) [ None ↦ None | Some t ↦ Some t ]) (eq-eqb number (length s.requests) next)

request_beside : (program : List NumProc) (ask number : ℕ) (num : ℤ) (s : State) → number ≡ length s.requests → IsAsk program (Some ask) → HeldBy program [] s
    → HeldBy program [] (request_arrived ask number num s)
request_beside program ask number num s next serves h =
    subst (RequestsHeld program []) (request_comes ask number num (Some ask) s refl next) (requests_held program [] (Some ask) 1 ((number, num) ∷ []) s serves h)

pub request_whole : (program : NumProgram) (config : Config) (picked : Option (Job Task)) (ran : ℕ) (s s' : Seen) (ask number : ℕ) (num : ℤ)
    → ProgramIsSound program.procs program.main program.ask → program.ask ≡ Some ask → number ≡ length s.plain.requests
    → option_map (job_mapped (name_in s.names)) picked ≡ None → s' ≡ doing (request_arrived ask number num) s
    → IsWhole (world_of program config s picked ran) → IsWhole (world_of program config s' picked ran)
request_whole program config picked ran s s' ask number num sound there next free e h =
    let serves : IsAsk program.procs (Some ask) = subst (IsAsk program.procs) there sound.serves
    in subst (λ (x : Seen). IsWhole (world_of program config x picked ran)) (sym e)
    (grown_whole program config picked ran s (doing (request_arrived ask number num) s) refl (request_grows program.procs ask number num s.plain serves h.fits)
    (λ k. subst (λ (o : Option (Job Task)). HeldBeside program.procs o (request_arrived ask number num s.plain)) (sym free)
    (request_beside program.procs ask number num s.plain next serves (subst (λ (o : Option (Job Task)). HeldBeside program.procs o s.plain) free k)))
    (λ k. subst (λ (o : Option (Job Task)). AnswersAreOwed (hand_of o) (request_arrived ask number num s.plain)) (sym free)
    (request_owed ask number num s.plain next (subst (λ (o : Option (Job Task)). AnswersAreOwed (hand_of o) s.plain) free k))) h)

-- a job that shows as none is none
pub none_picked : (ns : List ℕ) (picked : Option (Job Task)) → option_map (job_mapped (name_in ns)) picked ≡ None → picked ≡ None
none_picked ns None e = refl
none_picked ns (Some job) e = absurd (cc)
