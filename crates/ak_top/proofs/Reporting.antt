-- Reports of commands that were carried out, and of those that were not.
use Rattle.std.proofs.Common.{◌≡◌, ◌⊎◌, inl, inr, ℕ, List, [], Bool, true, false, refl, sym, ap, ◌∙◌, subst}
use Rattle.std.specs.Prelude.{Option}
use Rattle.ak_trace.specs.declared.entry.Entry.{Entry}
use Rattle.ak_history.specs.declared.event.Event.{Event}
use Rattle.ak_labor.specs.declared.config.Config.{Config}
use Rattle.ak_machine.specs.Status.{Stat, Well, ByError, AtJobLimit, Unfinished, status_of}
use Rattle.ak_machine.specs.Status as stat
use Rattle.ak_top.specs.declared.status.Status.{Status}
use Rattle.ak_top.specs.declared.status.Status.TheVariants.{Done, Unhandled, Usage, Refused, ReadFault, WriteFault, Jobs, NoMemory, BadHistory, Stray, Short, Stuck}
use Rattle.ak_top.specs.declared.status.Report.{Report}
use Rattle.ak_top.specs.declared.stop.Stop.{Stop}
use Rattle.ak_top.specs.declared.stop.Stop.TheVariants as stop
use Rattle.ak_top.specs.Headline.{IsRun, IsValidSource}
use Rattle.ak_top.specs.Refusals.{IsRefused, TellsFault, TellsScript}
use Rattle.ak_top.specs.Reports.{is_carried_out, Shows, IsRefusal, IsNoRefusal, IsOfRun, IsVerdict, ReportsRun, ReportsCheck}
use Rattle.ak_top.specs.Status.{IsStatusOf}
use Rattle.ak_top.specs.Stops.{status_at, IsStop, IsTheRefusal, IsNoRefusal as IsNoStop}

-- ---- statuses
shows_by : (t : Stat) (s : Status) → IsStatusOf t s → Shows s t
shows_by Well s e = subst (λ x. Shows x Well) (sym e) refl
shows_by (ByError num) s e = subst (λ x. Shows x (ByError num)) (sym e) refl
shows_by AtJobLimit s e = subst (λ x. Shows x AtJobLimit) (sym e) refl
shows_by stat.Stuck s e = subst (λ x. Shows x stat.Stuck) (sym e) refl
shows_by Unfinished s e = absurd e

carried_by : (t : Stat) (s : Status) → IsStatusOf t s → is_carried_out s ≡ true
carried_by Well s e = ap is_carried_out e
carried_by (ByError num) s e = ap is_carried_out e
carried_by AtJobLimit s e = ap is_carried_out e
carried_by stat.Stuck s e = ap is_carried_out e
carried_by Unfinished s e = absurd e

no_refusal : (s : Status) → is_carried_out s ≡ true → IsNoRefusal s
no_refusal Done c = tt
no_refusal (Unhandled num) c = tt
no_refusal (Usage place) c = absurd (cc (c))
no_refusal (Refused line kind) c = absurd (cc (c))
no_refusal ReadFault c = tt
no_refusal WriteFault c = tt
no_refusal Jobs c = tt
no_refusal NoMemory c = tt
no_refusal (BadHistory line) c = absurd (cc (c))
no_refusal (Stray place asked kept) c = absurd (cc (c))
no_refusal (Short asked) c = absurd (cc (c))
no_refusal Stuck c = tt

not_refused : (s : Status) (line kind : ℕ) → is_carried_out s ≡ true → s ≡ Refused line kind → ⊥
not_refused s line kind c e = let f : is_carried_out s ≡ false = ap is_carried_out e in cc (c, f)

not_both : (s : Status) → is_carried_out s ≡ true → is_carried_out s ≡ false → ⊥
not_both s c d = cc (c, d)

-- ---- a run
pub carried : (s : Status) (t : Stat) → IsStatusOf t s ⊎ (s ≡ WriteFault) → is_carried_out s ≡ true
carried s t (inl e) = carried_by t s e
carried s t (inr e) = ap is_carried_out e

pub shown : (s : Status) (t : Stat) → IsStatusOf t s ⊎ (s ≡ WriteFault) → Shows s t
shown s t (inl e) = shows_by t s e
shown s t (inr e) = subst (λ x. Shows x t) (sym e) tt

of_run : (s : Status) → is_carried_out s ≡ true → IsOfRun s
of_run Done c = tt
of_run (Unhandled num) c = tt
of_run (Usage place) c = tt
of_run (Refused line kind) c = tt
of_run ReadFault c = tt
of_run WriteFault c = tt
of_run Jobs c = tt
of_run NoMemory c = tt
of_run (BadHistory line) c = absurd (cc (c))
of_run (Stray place asked kept) c = absurd (cc (c))
of_run (Short asked) c = absurd (cc (c))
of_run Stuck c = tt

pub run_reports : (config : Config) (told : Option (List ℕ)) (r : Report) (trace : List Entry) (history : List Event) → r.trace ≡ trace → r.history ≡ history
    → IsStatusOf (status_of trace) r.status ⊎ (r.status ≡ WriteFault)
    → IsRun config told trace history → ((line kind : ℕ) → TellsFault told line kind → ⊥) → ReportsRun config told r
run_reports config told r trace history t h s is none =
    let c = carried r.status (status_of trace) s
    in record {
      of_run = of_run r.status c;
      run = λ e. subst (λ x. IsRun config told x r.history) (sym t) (subst (λ x. IsRun config told trace x) (sym h) is);
      shows = subst (λ x. Shows r.status (status_of x)) (sym t) (shown r.status (status_of trace) s);
      bare = λ e. absurd (not_both r.status c e);
      refused = λ line kind e. absurd (not_refused r.status line kind c e);
      refuses = λ line kind x. absurd (none line kind x);
      completes = λ x. no_refusal r.status c;
    }

abbrev pub bare_report : Status → Report
bare_report s = record { status = s; trace = []; history = [] }

the_refusal : (told : Option (List ℕ)) (line kind l k : ℕ) → IsRefused told line kind
    → Refused line kind ≡ Refused l k → IsRefused told l k
the_refusal told line kind l k is e =
    let a : line ≡ l = cc (e) in let b : kind ≡ k = cc (e) in subst (λ x. IsRefused told l x) b (subst (λ x. IsRefused told x kind) a is)

run_stops : (config : Config) (told : Option (List ℕ)) (before now : ℕ) (s : Stop) → IsStop told before now s
    → ((line kind : ℕ) → TellsFault told line kind → IsTheRefusal line kind s) → (TellsScript told → IsNoStop s)
    → ReportsRun config told (bare_report (status_at s))
run_stops config told before now stop.ReadFault is refuses accepts = record {
  of_run = tt;
  run = λ e. absurd (cc (e));
  shows = tt;
  bare = λ e. (refl, refl);
  refused = λ l k e. absurd (cc (e));
  refuses = λ l k x. tt;
  completes = λ x. tt;
}
run_stops config told before now (stop.Refused line kind) is refuses accepts = record {
  of_run = tt;
  run = λ e. absurd (cc (e));
  shows = tt;
  bare = λ e. (refl, refl);
  refused = λ l k e. the_refusal told line kind l k is e;
  refuses = λ l k x. refuses l k x;
  completes = λ x. accepts x;
}
run_stops config told before now stop.NoMemory is refuses accepts = record {
  of_run = tt;
  run = λ e. absurd (cc (e));
  shows = tt;
  bare = λ e. (refl, refl);
  refused = λ l k e. absurd (cc (e));
  refuses = λ l k x. tt;
  completes = λ x. tt;
}

pub stop_reports_run : (config : Config) (told : Option (List ℕ)) (before now : ℕ) (s : Stop) (status : Status) (r : Report)
    → r ≡ bare_report status → status ≡ status_at s → IsStop told before now s
    → ((line kind : ℕ) → TellsFault told line kind → IsTheRefusal line kind s) → (TellsScript told → IsNoStop s)
    → ReportsRun config told r
stop_reports_run config told before now s status r e d is refuses accepts =
    subst (ReportsRun config told) (sym (e ∙ ap bare_report d)) (run_stops config told before now s is refuses accepts)

-- ---- a test of a script
check_done : (told : Option (List ℕ)) (s : Status) → is_carried_out s ≡ true → IsVerdict s → IsValidSource told
    → ((line kind : ℕ) → TellsFault told line kind → ⊥) → ReportsCheck told (bare_report s)
check_done told s c v is none = record {
  verdict = v;
  valid = λ e. is;
  bare = (refl, refl);
  refused = λ line kind e. absurd (not_refused s line kind c e);
  refuses = λ line kind x. absurd (none line kind x);
  completes = λ x. no_refusal s c;
}

pub check_reports : (told : Option (List ℕ)) (s : Status) (r : Report) → r ≡ bare_report s → is_carried_out s ≡ true → IsVerdict s
    → IsValidSource told → ((line kind : ℕ) → TellsFault told line kind → ⊥) → ReportsCheck told r
check_reports told s r e c v is none = subst (ReportsCheck told) (sym e) (check_done told s c v is none)

check_stops : (told : Option (List ℕ)) (before now : ℕ) (s : Stop) → IsStop told before now s
    → ((line kind : ℕ) → TellsFault told line kind → IsTheRefusal line kind s) → (TellsScript told → IsNoStop s)
    → ReportsCheck told (bare_report (status_at s))
check_stops told before now stop.ReadFault is refuses accepts = record {
  verdict = tt;
  valid = λ e. absurd (cc (e));
  bare = (refl, refl);
  refused = λ l k e. absurd (cc (e));
  refuses = λ l k x. tt;
  completes = λ x. tt;
}
check_stops told before now (stop.Refused line kind) is refuses accepts = record {
  verdict = tt;
  valid = λ e. absurd (cc (e));
  bare = (refl, refl);
  refused = λ l k e. the_refusal told line kind l k is e;
  refuses = λ l k x. refuses l k x;
  completes =
      λ x. accepts x;
}
check_stops told before now stop.NoMemory is refuses accepts = record {
  verdict = tt;
  valid = λ e. absurd (cc (e));
  bare = (refl, refl);
  refused = λ l k e. absurd (cc (e));
  refuses = λ l k x. tt;
  completes = λ x. tt;
}

pub stop_reports_check : (told : Option (List ℕ)) (before now : ℕ) (s : Stop) (status : Status) (r : Report) → r ≡ bare_report status
    → status ≡ status_at s → IsStop told before now s
    → ((line kind : ℕ) → TellsFault told line kind → IsTheRefusal line kind s) → (TellsScript told → IsNoStop s)
    → ReportsCheck told r
stop_reports_check told before now s status r e d is refuses accepts =
    subst (ReportsCheck told) (sym (e ∙ ap bare_report d)) (check_stops told before now s is refuses accepts)
