-- The hands after a run, by its status.
use Rattle.std.proofs.Common.{◌≡◌, ◌⊎◌, ℕ, List, [], true, sym, ap, subst, ◌∙◌}
use Rattle.ak_trace.specs.declared.entry.Entry.{Entry}
use Rattle.ak_history.specs.declared.event.Event.{Event}
use Rattle.ak_machine.specs.Status.{Stat, status_of}
use Rattle.ak_words.specs.declared.command.Command.{Command}
use Rattle.ak_top.specs.declared.status.Status.{Status}
use Rattle.ak_top.specs.declared.status.Status.TheVariants.{Done, Unhandled, Usage, Refused, ReadFault, WriteFault, Jobs, NoMemory, BadHistory, Stray, Short, Stuck}
use Rattle.ak_top.specs.declared.status.Report.{Report}
use Rattle.ak_top.specs.declared.stop.Stop.{Stop}
use Rattle.ak_top.specs.declared.stop.Stop.TheVariants as stop
use Rattle.ak_top.specs.Hands.{HaveCarried, AreKept, AreAfterRun, AreAfter}
use Rattle.ak_top.specs.Reports.{is_carried_out}
use Rattle.ak_top.specs.Status.{IsStatusOf}
use Rattle.ak_top.specs.Stops.{status_at}
use Rattle.ak_top.proofs.Reporting.{carried as is_carried, bare_report}

module _ {L : Type 0} (carried : L → ℕ) (old new : List L) where
  after_carried : (history : List Event) (s : Status) → is_carried_out s ≡ true → HaveCarried carried old new history → AreAfterRun carried old new history s
  after_carried history Done c h = h
  after_carried history (Unhandled num) c h = h
  after_carried history (Usage place) c h = absurd (cc (c))
  after_carried history (Refused line kind) c h = absurd (cc (c))
  after_carried history ReadFault c h = absurd (cc (c))
  after_carried history WriteFault c h = h
  after_carried history Jobs c h = h
  after_carried history NoMemory c h = absurd (cc (c))
  after_carried history (BadHistory line) c h = absurd (cc (c))
  after_carried history (Stray place asked kept) c h = absurd (cc (c))
  after_carried history (Short asked) c h = absurd (cc (c))
  after_carried history Stuck c h = h

  pub after_run : (r : Report) (trace : List Entry) (history : List Event) → r.history ≡ history
      → IsStatusOf (status_of trace) r.status ⊎ (r.status ≡ WriteFault) → HaveCarried carried old new history
      → AreAfterRun carried old new r.history r.status
  after_run r trace history e s h =
      after_carried r.history r.status (is_carried r.status (status_of trace) s) (subst (HaveCarried carried old new) (sym e) h)

  kept_at : (history : List Event) (s : Stop) → AreKept old new s → AreAfterRun carried old new history (status_at s)
  kept_at history stop.ReadFault h = h
  kept_at history (stop.Refused line kind) h = h
  kept_at history stop.NoMemory h = tt

  pub after_stop : (s : Stop) (status : Status) (r : Report) → r ≡ bare_report status → status ≡ status_at s → AreKept old new s
      → AreAfterRun carried old new r.history r.status
  after_stop s status r e d h =
      subst (λ (x : Report). AreAfterRun carried old new x.history x.status) (sym (e ∙ ap bare_report d)) (kept_at [] s h)

  pub after_command : (c d : Command) (r : Report) → c ≡ d → AreAfter carried old new c r → AreAfter carried old new d r
  after_command c d r e h = subst (λ x. AreAfter carried old new x r) e h
