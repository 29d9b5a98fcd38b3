use Rattle.std.proofs.Common.{◌≡◌, ◌∙◌, List, ap}
use Rattle.ak_trace.specs.declared.entry.Entry.{Entry}
use Rattle.ak_history.specs.Scheduler.{replies}
use Rattle.ak_replay.specs.Replays.{Recording, recording_of}
use Rattle.ak_rerun.proofs.Meeting.{CallsOver, recorded, ends_together, departs, fault_is, some_missed}
use Rattle.ak_rerun.proofs.rerun.run_on.Goals as goal

pub unreachable-requires : goal.unreachable-requires
unreachable-requires g c =
    let named : recording_of c.run.new.port ≡ recorded c.args.config c.args.history = c.departure.ensures.named ∙ c.requires.named in
    let wants = c.in-Err-Fault.ensures.fault (fault_is (List Entry) c.in-Err-Fault.field-0 c.in-Err-Fault.field-0-0 c.in-Err-Fault.field-0-is) in
    some_missed c.args.program c.args.config c.args.history c.run.new.port _ c.run.new.port.waits c.requires.legal named wants
    c.in-None.ensures.departs

pub returns-in-Ok-clause-ran : goal.returns-in-Ok-clause-ran
returns-in-Ok-clause-ran g c =
    let named : recording_of c.run.new.port ≡ recorded c.args.config c.args.history = c.history.ensures.named ∙ c.requires.named in
    let law : CallsOver c.args.program c.args.config c.args.history =
    c.has_called.ensures c.args.program c.args.config (replies c.args.config.askers c.args.history) in
    let all =
    ends_together c.args.program c.args.config c.args.history c.run.new.port c.in-Ok.trace c.run.new.port.waits law c.requires.legal
    named c.in-Ok.ensures.ended c.in-Ok.ensures.closed c.in-Ok.ensures.idle in (
      record {
        meets = all.meets;
        ended = all.ended;
        trace_is = all.trace_is;
        asks_are = all.asks_are;
        once = all.once;
        finished = c.in-Ok.ensures.finished;
        laws = c.in-Ok.ensures.laws;
      },
      c.history.ensures.history ∙ ap (λ (r : Recording). r.history) named,
    )

pub returns-in-Some-clause-departs : goal.returns-in-Some-clause-departs
returns-in-Some-clause-departs g c =
    let named : recording_of c.run.new.port ≡ recorded c.args.config c.args.history = c.departure.ensures.named ∙ c.requires.named in
    let law : CallsOver c.args.program c.args.config c.args.history =
    c.has_called.ensures c.args.program c.args.config (replies c.args.config.askers c.args.history) in
    let wants = c.in-Err-Fault.ensures.fault (fault_is (List Entry) c.in-Err-Fault.field-0 c.in-Err-Fault.field-0-0 c.in-Err-Fault.field-0-is) in
    departs c.args.program c.args.config c.args.history c.run.new.port c.run.new.port.waits c.in-Some.departure law c.requires.legal
    named wants c.in-Some.ensures.departs
