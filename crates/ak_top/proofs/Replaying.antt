-- What comes of a source of `replay`.
use Rattle.std.proofs.Common.{◌≡◌, ◌⊎◌, inl, inr, ℕ, ◌+◌, ◌<◌, ◌≤◌, ◌^◌, List, [], ◌++◌, Bool, true, false, length, length-append, refl, sym, ap, ◌∙◌, subst, arith}
use Rattle.std.specs.Prelude.{Option, Some, None, Result, Ok, Err, IfErr, slice_get}
use Rattle.std.proofs.lemmas.Option.{slice_get_within}
use Rattle.ak_trace.specs.declared.entry.Entry.{Entry}
use Rattle.ak_history.specs.declared.event.Event.{Event}
use Rattle.ak_labor.specs.declared.ask.Ask.{Ask}
use Rattle.ak_history.specs.Legal.{Legal}
use Rattle.ak_history.specs.Scheduler.{replies}
use Rattle.ak_script.specs.declared.script.Proc.{Proc}
use Rattle.ak_program.specs.Programs.{NumProgram}
use Rattle.ak_labor.specs.declared.config.Config.{Config}
use Rattle.ak_machine.specs.Run.{run_of}
use Rattle.ak_machine.specs.Status.{Stat, Well, ByError, AtJobLimit, Unfinished, status_of}
use Rattle.ak_machine.specs.Status as stat
use Rattle.ak_laws.proofs.ReadingRun.{reads_get_what_was_written}
use Rattle.ak_meets.specs.Meets.{Meeting, Yes, Meets}
use Rattle.ak_meets.specs.Meets as meeting
use Rattle.ak_record.specs.declared.cut.Cut.{Cut}
use Rattle.ak_record.specs.declared.record.RecordRefused.{RecordRefused}
use Rattle.ak_record.specs.declared.record.RecordRefused.TheVariants as refused
use Rattle.ak_record.specs.Cuts.{IsCut, IsUncut, IsThisCut, IsAfter}
use Rattle.ak_record.specs.Records.{IsRecord, IsFault, IsHistory, IsLine}
use Rattle.ak_replay.specs.declared.port.Departure.{Departure}
use Rattle.ak_replay.specs.declared.port.Departure.TheVariants as departure
use Rattle.ak_rerun.specs.declared.rerun.Replayed.{Replayed}
use Rattle.ak_rerun.specs.declared.rerun.RerunRefused.{RerunRefused}
use Rattle.ak_rerun.specs.declared.rerun.RerunRefused.TheVariants as rerun
use Rattle.ak_rerun.specs.Reruns.{IsRerun, DepartsFrom, Tells as TellsMeeting, meeting_of}
use Rattle.ak_top.specs.declared.running.Ran.{Ran}
use Rattle.ak_top.specs.declared.status.Status.{Status}
use Rattle.ak_top.specs.declared.status.Status.TheVariants as status
use Rattle.ak_top.specs.declared.status.Report.{Report}
use Rattle.ak_top.specs.declared.stop.Stop.{Stop}
use Rattle.ak_top.specs.declared.stop.Stop.TheVariants as stop
use Rattle.ak_top.specs.Headline.{IsScript, RunsTo, program_of}
use Rattle.ak_reading.specs.Reading.{Had, Began, WasReadTo}
use Rattle.ak_exec.specs.Worlds.{ServesAskers}
use Rattle.ak_top.specs.Refusals.{FaultWith}
use Rattle.ak_top.specs.Replays.{source_limit, Outcome, Refuses, Spoils, Goes, IsSpoilt, DoMeet, GivesCut, GivesUncut, IsServing, IsTooLong, FromCut, FromUncut, Gives, GivesFrom, GivesTold, RunsOver, ReplaysTo, IsReplay, HasCause, Tells, ReportsReplay, IsStop, AnswerTells, IsPlaced, status_departed}
use Rattle.ak_top.specs.Reports.{is_carried_out, Shows, EndsWell}
use Rattle.ak_top.specs.Status.{IsStatusOf}
use Rattle.ak_top.specs.Stops.{status_at, IsNoProgramWith, IsProgramOf, Refuses as StopRefuses, Accepts, IsTheRefusal, IsNoRefusal}
use Rattle.ak_top.proofs.Reporting.{carried, shown, bare_report}

-- ---- a script that is refused
-- what P says of an outcome is that the script has that fault, or that it is valid and serves the askers
pub record SpeaksOf (askers : ℕ) (bytes : List ℕ) (P : Outcome → Type 0) : Type 0 where
  pub refuses : (line kind : ℕ) → P (Refuses line kind) → FaultWith askers bytes line kind
  pub spoils : (line : ℕ) → P (Spoils line) → IsServing askers bytes
  pub goes : (m : Meeting) → P (Goes m) → IsServing askers bytes

pub cut_speaks : (config : Config) (bytes record_bytes : List ℕ) (first : ℕ) → SpeaksOf config.askers bytes (GivesCut config bytes record_bytes first)
cut_speaks config bytes record_bytes first = record {
  refuses = λ line kind h. h;
  spoils = λ line h. h.serving;
  goes = λ m h. h.serving;
}

pub uncut_speaks : (config : Config) (bytes : List ℕ) (after : ℕ) → SpeaksOf config.askers bytes (GivesUncut config bytes after)
uncut_speaks config bytes after = record { refuses = λ line kind h. h; spoils = λ line h. h.0; goes = λ m h. absurd h }

pub stop_caused : (askers : ℕ) (bytes : List ℕ) (P : Outcome → Type 0) (s : Stop)
    → ((line kind : ℕ) → FaultWith askers bytes line kind → P (Refuses line kind)) → IsNoProgramWith askers bytes s
    → HasCause P (status_at s)
stop_caused askers bytes P stop.ReadFault made h = absurd h
stop_caused askers bytes P (stop.Refused line kind) made h = made line kind h
stop_caused askers bytes P stop.NoMemory made h = tt

pub stop_stops : (askers : ℕ) (bytes : List ℕ) (s : Stop) → IsNoProgramWith askers bytes s → IsStop (status_at s)
stop_stops askers bytes stop.ReadFault h = absurd h
stop_stops askers bytes (stop.Refused line kind) h = tt
stop_stops askers bytes stop.NoMemory h = tt

refusal_is : (at number line kind : ℕ) → at ≡ line → number ≡ kind → Refuses line kind ≡ Refuses at number
refusal_is at number line kind e d = ap (λ l. Refuses l kind) (sym e) ∙ ap (λ k. Refuses at k) (sym d)

pub stop_tells : (askers : ℕ) (bytes : List ℕ) (P : Outcome → Type 0) (s : Stop) → SpeaksOf askers bytes P → IsNoProgramWith askers bytes s
    → ((line kind : ℕ) → FaultWith askers bytes line kind → IsTheRefusal line kind s)
    → (IsServing askers bytes → IsNoRefusal s) → (outcome : Outcome) → P outcome → Tells (status_at s) outcome
stop_tells askers bytes P stop.ReadFault speaks h refuses accepts outcome p = tt
stop_tells askers bytes P stop.NoMemory speaks h refuses accepts outcome p = tt
stop_tells askers bytes P (stop.Refused at number) speaks h refuses accepts (Refuses line kind) p =
    let is = refuses line kind (speaks.refuses line kind p) in refusal_is at number line kind is.0 is.1
stop_tells askers bytes P (stop.Refused at number) speaks h refuses accepts (Spoils line) p =
    absurd (accepts (speaks.spoils line p))
stop_tells askers bytes P (stop.Refused at number) speaks h refuses accepts (Goes m) p =
    absurd (accepts (speaks.goes m p))

-- ---- a script that is run
-- a line of the history is at fault
pub fault_tells : (config : Config) (bytes record_bytes : List ℕ) (first line : ℕ)
    → ((l k : ℕ) → FaultWith config.askers bytes l k → ⊥)
    → ((events : List Event) → IsRecord config.threads config.askers record_bytes first events → IsHistory (Err (refused.BadHistory line)) events)
    → ((number : ℕ) → IsFault config.threads config.askers record_bytes first number → IsLine (Err (refused.BadHistory line)) number)
    → (outcome : Outcome) → GivesCut config bytes record_bytes first outcome → outcome ≡ Spoils line
fault_tells config bytes record_bytes first line none history fault (Refuses l k) p = absurd (none l k p)
fault_tells config bytes record_bytes first line none history fault (Spoils l) p = ap Spoils (sym (fault l p.fault))
fault_tells config bytes record_bytes first line none history fault (Goes m) p = absurd (history p.history p.recorded)

-- what the script and the history meet in is what is told
same_meeting : (config : Config) (bytes : List ℕ) (program : NumProgram) (history other : List Event) (script : List Proc) (m : Meeting)
    → (is : IsProgramOf bytes program) → IsScript bytes script → history ≡ other → Meets (program_of script) config other m
    → Meets program config history m
same_meeting config bytes program history other script m is is_script same meets =
    let scripts : is.script ≡ script = is.only script is_script.reads in
    let programs : program_of script ≡ program = ap program_of (sym scripts) ∙ sym is.program_is in
    subst (λ (h : List Event). Meets program config h m) (sym same) (subst (λ (p : NumProgram). Meets p config other m) programs meets)

pub meeting_tells : (config : Config) (bytes record_bytes : List ℕ) (first : ℕ) (program : NumProgram) (history : List Event) (told : Meeting)
    → IsProgramOf bytes program → ((l k : ℕ) → FaultWith config.askers bytes l k → ⊥)
    → ((events : List Event) → IsRecord config.threads config.askers record_bytes first events → IsHistory (Ok history) events)
    → ((number : ℕ) → IsFault config.threads config.askers record_bytes first number → IsLine (Ok history) number)
    → ((m : Meeting) → Meets program config history m → m ≡ told)
    → (outcome : Outcome) → GivesCut config bytes record_bytes first outcome → outcome ≡ Goes told
meeting_tells config bytes record_bytes first program history told is none records fault exact (Refuses l k) p = absurd (none l k p)
meeting_tells config bytes record_bytes first program history told is none records fault exact (Spoils l) p = absurd (fault l p.fault)
meeting_tells config bytes record_bytes first program history told is none records fault exact (Goes m) p =
    ap Goes (exact m (same_meeting config bytes program history p.history p.serving.script m is p.serving.is_script (records p.history p.recorded) p.meets))

-- the same of a departure, by its status
pub departure_tells : (d : Departure) (outcome : Outcome) → outcome ≡ Goes (meeting_of d) → Tells (status_departed d) outcome
departure_tells (departure.Stray place asked kept) outcome e = e
departure_tells (departure.Short asked) outcome e = e

pub departure_caused : (config : Config) (bytes record_bytes : List ℕ) (first : ℕ) (d : Departure) → DoMeet config bytes record_bytes first (meeting_of d)
    → HasCause (GivesCut config bytes record_bytes first) (status_departed d)
departure_caused config bytes record_bytes first (departure.Stray place asked kept) h = h
departure_caused config bytes record_bytes first (departure.Short asked) h = h

pub departure_stops : (d : Departure) → IsStop (status_departed d)
departure_stops (departure.Stray place asked kept) = tt
departure_stops (departure.Short asked) = tt

pub departs_placed : (program : NumProgram) (config : Config) (record_bytes : List ℕ) (first : ℕ) (history : List Event) (d : Departure)
    → IsRecord config.threads config.askers record_bytes first history → Meets program config history (meeting_of d) → IsPlaced d
departs_placed program config record_bytes first history (departure.Stray place asked kept) is meets =
    omega (arith, slice_get_within history place kept meets.1.there, is.reads.few)
departs_placed program config record_bytes first history (departure.Short asked) is meets = tt

-- the script of a program that serves the askers
abbrev pub is_serving : (askers : ℕ) (bytes : List ℕ) (program : NumProgram) → IsProgramOf bytes program → ServesAskers program askers
    → IsServing askers bytes
is_serving askers bytes program is serves = record {
  script = is.script;
  is_script = is.is_script;
  serves = subst (λ (p : NumProgram). ServesAskers p askers) is.program_is serves;
}

pub do_meet : (config : Config) (bytes record_bytes : List ℕ) (first : ℕ) (program : NumProgram) (history : List Event) (m : Meeting)
    → IsProgramOf bytes program → ServesAskers program config.askers → IsRecord config.threads config.askers record_bytes first history
    → Meets program config history m → DoMeet config bytes record_bytes first m
do_meet config bytes record_bytes first program history m is serves recorded meets = record {
  serving = is_serving config.askers bytes program is serves;
  history = history;
  recorded = recorded;
  meets = subst (λ (p : NumProgram). Meets p config history m) is.program_is meets;
}

pub runs_over : (config : Config) (bytes record_bytes : List ℕ) (first : ℕ) (program : NumProgram) (trace : List Entry) (history : List Event)
    → IsProgramOf bytes program → ServesAskers program config.askers → IsRecord config.threads config.askers record_bytes first history
    → IsRerun program config history trace
    → RunsOver config bytes record_bytes first trace history
runs_over config bytes record_bytes first program trace history is serves recorded again =
    let same : IsRerun (program_of is.script) config history trace =
    subst (λ (p : NumProgram). IsRerun p config history trace) is.program_is again in
    record {
      recorded = recorded;
      run = record {
        script = is.script;
        is_script = is.is_script;
        serves = subst (λ (p : NumProgram). ServesAskers p config.askers) is.program_is serves;
        legal = recorded.legal;
        ended = same.ended;
        trace_is = same.trace_is;
        asks_are = same.asks_are;
        once = same.once;
        laws = same.laws;
        reads = λ p. reads_get_what_was_written (program_of is.script) config (replies config.askers history) p;
      };
    }

-- ---- a source in parts
-- what holds of more outcomes has a cause too
pub cause_maps : (P Q : Outcome → Type 0) → ((outcome : Outcome) → P outcome → Q outcome) → (s : Status) → HasCause P s → HasCause Q s
cause_maps P Q f (status.Refused line kind) h = f (Refuses line kind) h
cause_maps P Q f (status.BadHistory line) h = f (Spoils line) h
cause_maps P Q f (status.Stray place asked kept) h = f (Goes (meeting.Stray place asked kept)) h
cause_maps P Q f (status.Short asked) h = f (Goes (meeting.Short asked)) h
cause_maps P Q f (status.Usage place) h = absurd h
cause_maps P Q f status.Done h = tt
cause_maps P Q f (status.Unhandled num) h = tt
cause_maps P Q f status.ReadFault h = tt
cause_maps P Q f status.WriteFault h = tt
cause_maps P Q f status.Jobs h = tt
cause_maps P Q f status.NoMemory h = tt
cause_maps P Q f status.Stuck h = tt

pub from_cut : (config : Config) (source bytes record_bytes : List ℕ) (number : ℕ) → length source ≤ source_limit
    → IsCut source bytes number record_bytes → (outcome : Outcome) → GivesCut config bytes record_bytes (number + 1) outcome
    → Gives config source outcome
from_cut config source bytes record_bytes number short cut outcome p =
    inr (short, inl (record { bytes = bytes; number = number; record_bytes = record_bytes; cut = cut; gives = p }))

pub from_uncut : (config : Config) (source : List ℕ) (after : ℕ) → length source ≤ source_limit → IsUncut source after → (outcome : Outcome)
    → GivesUncut config source after outcome → Gives config source outcome
from_uncut config source after short uncut outcome p = inr (short, inr (record { after = after; uncut = uncut; gives = p }))

-- a source with a line `%pool` gives what its parts give
pub to_cut : (config : Config) (source bytes record_bytes : List ℕ) (number : ℕ) → length source ≤ source_limit
    → ((script history : List ℕ) (n : ℕ) → IsCut source script n history → (bytes ≡ script) × (number ≡ n) × (record_bytes ≡ history))
    → ((n : ℕ) → IsUncut source n → ⊥) → (outcome : Outcome) → Gives config source outcome → GivesCut config bytes record_bytes (number + 1) outcome
to_cut config source bytes record_bytes number short one none outcome (inl h) = absurd (omega (arith, short, h.long))
to_cut config source bytes record_bytes number short one none outcome (inr (s, inl h)) =
    let same = one h.bytes h.record_bytes h.number h.cut in
    subst (λ (b : List ℕ). GivesCut config b record_bytes (number + 1) outcome) (sym same.0)
    (subst (λ (r : List ℕ). GivesCut config h.bytes r (number + 1) outcome) (sym same.2)
    (subst (λ (n : ℕ). GivesCut config h.bytes h.record_bytes (n + 1) outcome) (sym same.1) h.gives))
to_cut config source bytes record_bytes number short one none outcome (inr (s, inr h)) = absurd (none h.after h.uncut)

-- and one without gives what its script alone gives
pub to_uncut : (config : Config) (source : List ℕ) (after : ℕ) → length source ≤ source_limit
    → ((script history : List ℕ) (n : ℕ) → IsCut source script n history → ⊥) → ((n : ℕ) → IsUncut source n → after ≡ n)
    → (outcome : Outcome) → Gives config source outcome → GivesUncut config source after outcome
to_uncut config source after short none one outcome (inl h) = absurd (omega (arith, short, h.long))
to_uncut config source after short none one outcome (inr (s, inl h)) = absurd (none h.bytes h.record_bytes h.number h.cut)
to_uncut config source after short none one outcome (inr (s, inr h)) =
    subst (λ (n : ℕ). GivesUncut config source n outcome) (sym (one h.after h.uncut)) h.gives

-- the line after the last is told
pub after_tells : (config : Config) (bytes : List ℕ) (after : ℕ) → ((l k : ℕ) → FaultWith config.askers bytes l k → ⊥)
    → (outcome : Outcome) → GivesUncut config bytes after outcome → outcome ≡ Spoils after
after_tells config bytes after none (Refuses l k) p = absurd (none l k p)
after_tells config bytes after none (Spoils l) p = ap Spoils p.1
after_tells config bytes after none (Goes m) p = absurd p

-- ---- what was read
-- what a source tells is what was read
pub told_source : (config : Config) (told : Option (List ℕ)) (source : List ℕ) → Had told source → (outcome : Outcome)
    → GivesTold config told outcome → Gives config source outcome
told_source config told source had outcome g =
    let same : g.source ≡ source = subst (λ (t : Option (List ℕ)). Had t source) g.tells had in
    subst (λ (b : List ℕ). Gives config b outcome) same g.gives

pub read_source : (config : Config) (told : Option (List ℕ)) (source : List ℕ) → Had told source → length source ≤ source_limit
    → (outcome : Outcome) → Gives config source outcome → GivesFrom config told outcome
read_source config told source had short outcome g = record { source = source; read = inl (had, short); gives = g }

-- more than was to be read
pub long_tells : (config : Config) (told : Option (List ℕ)) (bytes : List ℕ) → Began told bytes → source_limit < length bytes
    → (outcome : Outcome) → GivesTold config told outcome → outcome ≡ Refuses 0 2
long_tells config told bytes began long outcome g =
    let more : (rest : List ℕ) × (g.source ≡ bytes ++ rest) = subst (λ (t : Option (List ℕ)). Began t bytes) g.tells began in
    of g.gives (omega (arith, ap length more.1, length-append bytes more.0, long))
  where
    of : Gives config g.source outcome → source_limit < length g.source → outcome ≡ Refuses 0 2
    of (inl h) over = h.outcome_is
    of (inr h) over = absurd (omega (arith, h.0, over))

pub long_from : (config : Config) (told : Option (List ℕ)) (bytes : List ℕ) → Began told bytes → source_limit < length bytes
    → GivesFrom config told (Refuses 0 2)
long_from config told bytes began long = record {
  source = bytes;
  read = inr (began, long);
  gives = inl (record { long = long; outcome_is = refl });
}

-- ---- reports
stop_bare : (s : Status) → IsStop s → is_carried_out s ≡ false
stop_bare (status.Refused line kind) h = refl
stop_bare (status.BadHistory line) h = refl
stop_bare (status.Stray place asked kept) h = refl
stop_bare (status.Short asked) h = refl
stop_bare status.NoMemory h = refl
stop_bare (status.Usage place) h = absurd h
stop_bare status.Done h = absurd h
stop_bare (status.Unhandled num) h = absurd h
stop_bare status.ReadFault h = absurd h
stop_bare status.WriteFault h = absurd h
stop_bare status.Jobs h = absurd h
stop_bare status.Stuck h = absurd h

pub stops_bare : {T : Type 0} (r : Result T Status) → IfErr r IsStop → IfErr r (λ s. is_carried_out s ≡ false)
stops_bare (Ok v) h = h
stops_bare (Err s) h = stop_bare s h

stop_no_read : (s : Status) → IsStop s → s ≡ status.ReadFault → ⊥
stop_no_read s h e = subst IsStop e h

pub stops_no_read : {T : Type 0} (r : Result T Status) (R : Type 0) → IfErr r IsStop → IfErr r (λ s. s ≡ status.ReadFault → R)
stops_no_read (Ok v) R h = h
stops_no_read (Err s) R h = λ e. absurd (stop_no_read s h e)

pub causes_map : {T : Type 0} (r : Result T Status) (P Q : Outcome → Type 0) → ((outcome : Outcome) → P outcome → Q outcome)
    → IfErr r (HasCause P) → IfErr r (HasCause Q)
causes_map (Ok v) P Q f h = h
causes_map (Err s) P Q f h = cause_maps P Q f s h

-- the report of a run over a history
ended_tells : (s : Status) (t : Stat) → IsStatusOf t s ⊎ (s ≡ status.WriteFault) → (outcome : Outcome) → outcome ≡ Goes Yes → Tells s outcome
ended_tells s t (inr e) outcome h = subst (λ (x : Status). Tells x outcome) (sym e) h
ended_tells s Well (inl e) outcome h = subst (λ (x : Status). Tells x outcome) (sym e) h
ended_tells s (ByError num) (inl e) outcome h = subst (λ (x : Status). Tells x outcome) (sym e) h
ended_tells s AtJobLimit (inl e) outcome h = subst (λ (x : Status). Tells x outcome) (sym e) h
ended_tells s stat.Stuck (inl e) outcome h = subst (λ (x : Status). Tells x outcome) (sym e) h
ended_tells s Unfinished (inl e) outcome h = absurd e

ended_caused : (P : Outcome → Type 0) (s : Status) (t : Stat) → IsStatusOf t s ⊎ (s ≡ status.WriteFault) → HasCause P s
ended_caused P s t (inr e) = subst (HasCause P) (sym e) tt
ended_caused P s Well (inl e) = subst (HasCause P) (sym e) tt
ended_caused P s (ByError num) (inl e) = subst (HasCause P) (sym e) tt
ended_caused P s AtJobLimit (inl e) = subst (HasCause P) (sym e) tt
ended_caused P s stat.Stuck (inl e) = subst (HasCause P) (sym e) tt
ended_caused P s Unfinished (inl e) = absurd e

not_both : (s : Status) → is_carried_out s ≡ true → is_carried_out s ≡ false → ⊥
not_both s c d = cc (c, d)

pub replay_reports : (config : Config) (told : Option (List ℕ)) (r : Report) (trace : List Entry) (history : List Event) → r.trace ≡ trace
    → r.history ≡ history → IsStatusOf (status_of trace) r.status ⊎ (r.status ≡ status.WriteFault) → IsReplay config told trace history
    → ((outcome : Outcome) → GivesTold config told outcome → outcome ≡ Goes Yes) → ReportsReplay config told r
replay_reports config told r trace history t h s is tells = record {
  run = λ e. subst (λ (x : List Entry). IsReplay config told x r.history) (sym t) (subst (λ (x : List Event). IsReplay config told trace x) (sym h) is);
  shows = subst (λ (x : List Entry). Shows r.status (status_of x)) (sym t) (shown r.status (status_of trace) s);
  bare = λ e. absurd (not_both r.status (carried r.status (status_of trace) s) e);
  caused = ended_caused (GivesFrom config told) r.status (status_of trace) s;
  tells = λ outcome g. ended_tells r.status (status_of trace) s outcome (tells outcome g);
}

bare_shows : (s : Status) (t : Stat) → is_carried_out s ≡ false → Shows s t
bare_shows (status.Refused line kind) t c = tt
bare_shows (status.BadHistory line) t c = tt
bare_shows (status.Stray place asked kept) t c = tt
bare_shows (status.Short asked) t c = tt
bare_shows status.NoMemory t c = tt
bare_shows (status.Usage place) t c = tt
bare_shows status.ReadFault t c = tt
bare_shows status.WriteFault t c = tt
bare_shows status.Done t c = absurd (cc c)
bare_shows (status.Unhandled num) t c = absurd (cc c)
bare_shows status.Jobs t c = absurd (cc c)
bare_shows status.Stuck t c = absurd (cc c)

bare_reports : (config : Config) (told : Option (List ℕ)) (s : Status) → is_carried_out s ≡ false → HasCause (GivesFrom config told) s
    → ((outcome : Outcome) → GivesTold config told outcome → Tells s outcome) → ReportsReplay config told (bare_report s)
bare_reports config told s bare caused tells = record {
  run = λ e. absurd (not_both s e bare);
  shows = bare_shows s (status_of []) bare;
  bare = λ e. (refl, refl);
  caused = caused;
  tells = tells;
}

pub stop_reports_replay : (config : Config) (told : Option (List ℕ)) (s : Status) (r : Report) → r ≡ bare_report s → is_carried_out s ≡ false
    → HasCause (GivesFrom config told) s → ((outcome : Outcome) → GivesTold config told outcome → Tells s outcome) → ReportsReplay config told r
stop_reports_replay config told s r e bare caused tells = subst (ReportsReplay config told) (sym e) (bare_reports config told s bare caused tells)

-- a replay of a script and a history that go together ends well where no count of faults rose
pub replay_ends_well : (config : Config) (told : Option (List ℕ)) (r : Report) → ReportsReplay config told r → GivesTold config told (Goes Yes)
    → (r.status ≡ status.ReadFault → ⊥) → (r.status ≡ status.WriteFault → ⊥) → EndsWell r.status
replay_ends_well config told r reports given reads writes = of r.status reads writes (reports.tells (Goes Yes) given)
  where
    of : (s : Status) → (s ≡ status.ReadFault → ⊥) → (s ≡ status.WriteFault → ⊥) → Tells s (Goes Yes) → EndsWell s
    of status.Done a b h = tt
    of (status.Unhandled num) a b h = tt
    of (status.Usage place) a b h = absurd h
    of (status.Refused line kind) a b h = absurd (cc h)
    of status.ReadFault a b h = absurd (a refl)
    of status.WriteFault a b h = absurd (b refl)
    of status.Jobs a b h = tt
    of status.NoMemory a b h = tt
    of (status.BadHistory line) a b h = absurd (cc h)
    of (status.Stray place asked kept) a b h = absurd (stray place asked kept h)
      where
        stray : (place : ℕ) (asked : Ask) (kept : Event) → (let o : Outcome = Goes Yes in o ≡ Goes (meeting.Stray place asked kept)) → ⊥
        stray place asked kept e = cc
    of (status.Short asked) a b h = absurd (short asked h)
      where
        short : (asked : Ask) → (let o : Outcome = Goes Yes in o ≡ Goes (meeting.Short asked)) → ⊥
        short asked e = cc
    of status.Stuck a b h = tt
