use Rattle.std.proofs.Common.{List, sym, subst}
use Rattle.ak_history.specs.declared.event.Event.{Event}
use Rattle.ak_top.specs.Replays.{GivesCut, RunsOver}
use Rattle.ak_meets.specs.Meets.{Yes}
use Rattle.ak_rerun.specs.Reruns.{meeting_of}
use Rattle.ak_top.proofs.Replaying.{cut_speaks, stop_caused, stop_stops, stop_tells, fault_tells, meeting_tells, departure_tells, departure_caused, departs_placed, do_meet, runs_over}
use Rattle.ak_top.proofs.replay.replay_cut.Goals as goal

pub returns-in-Err-clause-caused : goal.returns-in-Err-clause-caused
returns-in-Err-clause-caused c =
    rw c.status.ensures (stop_caused c.args.config.askers c.args.script.now (GivesCut c.args.config c.args.script.now c.args.record_bytes.now c.args.first)
    c.in-Err.stop (λ line kind f. f) c.in-Err.ensures.stop)

pub returns-in-Err-clause-stops : goal.returns-in-Err-clause-stops
returns-in-Err-clause-stops c = rw c.status.ensures (stop_stops c.args.config.askers c.args.script.now c.in-Err.stop c.in-Err.ensures.stop)

pub returns-in-Err-clause-tells : goal.returns-in-Err-clause-tells
returns-in-Err-clause-tells c =
    rw c.status.ensures (stop_tells c.args.config.askers c.args.script.now (GivesCut c.args.config c.args.script.now c.args.record_bytes.now c.args.first)
    c.in-Err.stop (cut_speaks c.args.config c.args.script.now c.args.record_bytes.now c.args.first) c.in-Err.ensures.stop
    c.in-Err.ensures.refuses c.in-Err.ensures.accepts)

pub departed-requires : goal.departed-requires
departed-requires c =
    departs_placed c.in-Ok.program c.args.config c.args.record_bytes.now c.args.first c.in-Ok-read_record.history c.in-Err-Departs.departure
    c.in-Ok-read_record.ensures.right (rw c.in-Err-Departs.field-0-is at c.in-Err-Departs.ensures.departs)

pub returns-in-Ok-rerun-clause-ran : goal.returns-in-Ok-rerun-clause-ran
returns-in-Ok-rerun-clause-ran c =
    let ran = c.in-Ok-rerun.ensures.ran
    in subst (λ (h : List Event). RunsOver c.args.config c.args.script.now c.args.record_bytes.now c.args.first c.in-Ok-rerun.again.trace h) (sym ran.1)
    (runs_over c.args.config c.args.script.now c.args.record_bytes.now c.args.first c.in-Ok.program c.in-Ok-rerun.again.trace c.in-Ok-read_record.history
    c.in-Ok.ensures.program c.in-Ok.ensures.serves c.in-Ok-read_record.ensures.right ran.0)

pub returns-in-Err-Departs-clause-caused : goal.returns-in-Err-Departs-clause-caused
returns-in-Err-Departs-clause-caused c =
    rw c.departed.ensures (departure_caused c.args.config c.args.script.now c.args.record_bytes.now c.args.first c.in-Err-Departs.departure
    (do_meet c.args.config c.args.script.now c.args.record_bytes.now c.args.first c.in-Ok.program c.in-Ok-read_record.history
    (meeting_of c.in-Err-Departs.departure) c.in-Ok.ensures.program c.in-Ok.ensures.serves c.in-Ok-read_record.ensures.right
    (rw c.in-Err-Departs.field-0-is at c.in-Err-Departs.ensures.departs)))

pub returns-in-Ok-rerun-clause-tells : goal.returns-in-Ok-rerun-clause-tells
returns-in-Ok-rerun-clause-tells c =
    meeting_tells c.args.config c.args.script.now c.args.record_bytes.now c.args.first c.in-Ok.program c.in-Ok-read_record.history Yes
    c.in-Ok.ensures.program c.in-Ok.ensures.refuses c.in-Ok-read_record.ensures.history
    c.in-Ok-read_record.ensures.fault c.in-Ok-rerun.ensures.exact

pub returns-in-Err-Departs-clause-tells : goal.returns-in-Err-Departs-clause-tells
returns-in-Err-Departs-clause-tells c = λ outcome p.
    rw c.departed.ensures (departure_tells c.in-Err-Departs.departure outcome
    (meeting_tells c.args.config c.args.script.now c.args.record_bytes.now c.args.first c.in-Ok.program c.in-Ok-read_record.history
    (meeting_of c.in-Err-Departs.departure) c.in-Ok.ensures.program c.in-Ok.ensures.refuses
    c.in-Ok-read_record.ensures.history c.in-Ok-read_record.ensures.fault
    (rw c.in-Err-Departs.field-0-is at c.in-Err-Departs.ensures.exact) outcome p))

pub returns-in-Err-BadHistory-clause-tells : goal.returns-in-Err-BadHistory-clause-tells
returns-in-Err-BadHistory-clause-tells c = λ outcome p.
    rw c.in-Err-BadHistory.field-0-is
    (fault_tells c.args.config c.args.script.now c.args.record_bytes.now c.args.first c.in-Err-BadHistory.line
    c.in-Ok.ensures.refuses
    (rw c.in-Err-BadHistory.field-0-is at c.in-Err-BadHistory.ensures.history)
    (rw c.in-Err-BadHistory.field-0-is at c.in-Err-BadHistory.ensures.fault) outcome p)
