-- What a run leaves is replayed to its trace and its history.
use Rattle.std.proofs.Common.{◌≡◌, ◌⊎◌, inl, inr, ℕ, ◌+◌, ◌≤◌, true, List, ◌++◌, refl, sym, ap, ◌∙◌, subst}
use Rattle.std.specs.Prelude.{Some}
use Rattle.ak_trace.specs.declared.entry.Entry.{Entry}
use Rattle.ak_history.specs.declared.event.Event.{Event}
use Rattle.ak_history.specs.Reading.{HistoryReads}
use Rattle.ak_history.specs.Text.{history_text}
use Rattle.ak_history.proofs.Readings.{one_history}
use Rattle.ak_script.specs.declared.script.Proc.{Proc}
use Rattle.ak_syntax.specs.Grammar.{Reads}
use Rattle.ak_syntax.proofs.Parsed.{one_script}
use Rattle.ak_labor.specs.declared.config.Config.{Config}
use Rattle.ak_meets.specs.Meets.{Meets, Yes}
use Rattle.ak_record.specs.Cuts.{IsCut}
use Rattle.ak_record.specs.Records.{IsRecord}
use Rattle.ak_record.proofs.Cutting.{one_cut}
use Rattle.ak_again.specs.Ends.{with_line_end}
use Rattle.ak_top.specs.declared.status.Report.{Report}
use Rattle.ak_top.specs.Again.{source_of, CanReplay, ReplaysAs}
use Rattle.ak_top.specs.Headline.{RunsTo, program_of, run_on}
use Rattle.ak_top.specs.Replays.{Goes, Gives, GivesTold, ReplaysTo, ReportsReplay}
use Rattle.ak_top.specs.Reports.{is_carried_out}

module _ (config : Config) (script : List ℕ) (trace : List Entry) (history : List Event) (ran : RunsTo config script trace history)
    (can : CanReplay script history) (reads : Reads (with_line_end script) ran.script)
    (cut : (number : ℕ) × IsCut (source_of script history) (with_line_end script) number (history_text history))
    (recorded : (first : ℕ) → IsRecord config.threads config.askers (history_text history) first history)
    (meets : Meets (program_of ran.script) config history Yes) where
  gives : Gives config (source_of script history) (Goes Yes)
  gives = inr (
    can.short,
    inl (record {
      bytes = with_line_end script;
      number = cut.0;
      record_bytes = history_text history;
      cut = cut.1;
      gives = record {
        serving = record { script = ran.script; is_script = record { reads = reads; valid = ran.is_script.valid }; serves = ran.serves };
        history = history;
        recorded = recorded (cut.0 + 1);
        meets = meets;
      };
    }),
  )

  -- whatever this source is replayed to
  same : (t : List Entry) (h : List Event) → ReplaysTo config (source_of script history) t h → (t ≡ trace) × (h ≡ history)
  same t h r =
      let again = r.runs.run in
      let one = one_cut (source_of script history) (with_line_end script) r.bytes cut.0 r.number (history_text history) r.record_bytes cut.1 r.cut in
      let read : HistoryReads (history_text history) (r.number + 1) h r.runs.recorded.numbers =
      subst (λ (b : List ℕ). HistoryReads b (r.number + 1) h r.runs.recorded.numbers) (sym one.history) r.runs.recorded.reads in
      let own = recorded (r.number + 1) in
      let histories : history ≡ h =
      (one_history (history_text history) (r.number + 1) history h own.numbers r.runs.recorded.numbers own.reads read).0 in
      let scripts : ran.script ≡ again.script = one_script (with_line_end script) ran.script again.script reads
      (subst (λ (b : List ℕ). Reads b again.script) (sym one.script) again.is_script.reads) in
      let traces : (run_on again.script config h).trace ≡ (run_on ran.script config history).trace =
      ap (λ (s : List Proc). (run_on s config h).trace) (sym scripts) ∙ ap (λ (e : List Event). (run_on ran.script config e).trace) (sym histories) in
      (sym again.trace_is ∙ (traces ∙ ran.trace_is), sym histories)

  pub replays_as : ReplaysAs config (source_of script history) trace history
  replays_as = record {
    goes = record { source = source_of script history; tells = refl; gives = gives };
    same = λ report reports out.
        let r = reports.run out in
        same report.trace report.history (subst (λ (s : List ℕ). ReplaysTo config s report.trace report.history) (sym r.had) r.replays);
  }
