use Rattle.std.proofs.Common.{◌≡◌, ◌+◌, ◌<◌, ap, sym, subst, length, drop, ◌∙◌, rules, w64, to_z, of_z, SFits}
use Rattle.std.proofs.lemmas.Int.{to_z-of_z}
use Rattle.ak_cells.specs.Names.{name_in}
use Rattle.ak_machine.specs.Mapped.{ret_mapped, value_mapped}
use Rattle.ak_machine.specs.declared.flow.Flow.TheVariants as flow
use Rattle.ak_machine.specs.Errors.{After, going_on, stopped, send}
use Rattle.ak_machine.specs.Job.{Over, returned}
use Rattle.ak_state.specs.Reads.{named}
use Rattle.ak_state.specs.Seen.{Seen}
use Rattle.ak_state.specs.Drawn.{drawn}
use Rattle.ak_state.specs.Fits.{RetFits, Fits}
use Rattle.ak_state.specs.Errors.{after_is}
use Rattle.ak_state.proofs.Errors.{send_grows}
use Rattle.ak_exec.specs.Typed.{IsReturned}
use Rattle.ak_exec.proofs.Lists.{cons_at}
use Rattle.ak_exec.proofs.Typed.{head_told, head_ready, head_returned, head_ended, way_goes, way_asks}
use Rattle.ak_exec.proofs.Way.{line_goes, line_raises, line_returns, line_stops, line_asks, line_ends, goes_returns}
use Rattle.ak_exec.proofs.Returned.{returned_grows}
use Rattle.ak_holders.specs.Returns.{IsEmptyResult}
use Rattle.ak_holders.proofs.Carry.{returns_here}
use Rattle.ak_exec.proofs.job.advance.Goals as goal

pub run_line-requires-clause-told : goal.run_line-requires-clause-told
run_line-requires-clause-told c =
    let e = cons_at c.args.lines.now c.args.k c.index-lines-k.result c.requires.some c.index-lines-k.is
    in head_told c.args.program.now.procs _ _ _ _ (rw e at c.requires.way.typed)

pub run_line-requires-clause-ready : goal.run_line-requires-clause-ready
run_line-requires-clause-ready c =
    let e = cons_at c.args.lines.now c.args.k c.index-lines-k.result c.requires.some c.index-lines-k.is
    in head_ready c.args.program.now.procs c.args.parts.now.plain _ _ _ (rw e at c.requires.way.typed)

pub run_line-requires-clause-monitor : goal.run_line-requires-clause-monitor
run_line-requires-clause-monitor c = c.requires.way.monitor

pub run_line-requires-clause-fits : goal.run_line-requires-clause-fits
run_line-requires-clause-fits c = record { program = c.args.program.now.procs; fits = c.requires.way.fits }

pub returns-in-Goes-clause-way : goal.returns-in-Goes-clause-way
returns-in-Goes-clause-way c =
    let e = cons_at c.args.lines.now c.args.k c.index-lines-k.result c.requires.some c.index-lines-k.is
    in let takes = rw c.in-Goes.is at c.in_ok-step.ensures
    in way_goes c.args.program.now.procs c.args.parts.now.plain c.run_line.new.parts.plain (named c.args.parts.now c.args.vals.now)
    (named c.run_line.new.parts c.run_line.new.vals) c.args.job.now.ctx _ _ c.index-lines-k.result _ (rw e at c.requires.way)
    (ap (λ ns. ret_mapped (name_in ns) c.args.job.now.ret) takes.1) takes.0

pub returns-in-Goes-clause-runs : goal.returns-in-Goes-clause-runs
returns-in-Goes-clause-runs c =
    let e = cons_at c.args.lines.now c.args.k c.index-lines-k.result c.requires.some c.index-lines-k.is
    in let takes = rw c.in-Goes.is at c.in_ok-step.ensures
    in line_goes c.args.job.now.ctx _ _ _ c.index-lines-k.result _ c.args.parts.now.plain c.run_line.new.parts.plain
    (named c.args.parts.now c.args.vals.now) (named c.run_line.new.parts c.run_line.new.vals) e
    (ap (λ ns. ret_mapped (name_in ns) c.args.job.now.ret) takes.1) takes.0

pub returns-in-Goes-clause-returns : goal.returns-in-Goes-clause-returns
returns-in-Goes-clause-returns c =
    let e = cons_at c.args.lines.now c.args.k c.index-lines-k.result c.requires.some c.index-lines-k.is
    in let takes = rw c.in-Goes.is at c.in_ok-step.ensures
    in goes_returns c.args.job.now.ctx _ _ c.index-lines-k.result (drop (c.args.k + 1) c.args.lines.now) c.args.parts.now.plain
    c.run_line.new.parts.plain (named c.args.parts.now c.args.vals.now) (named c.run_line.new.parts c.run_line.new.vals)
    (rw e at c.requires.returns) (ap (λ ns. ret_mapped (name_in ns) c.args.job.now.ret) takes.1) takes.0

-- ---- a line that raises
pub send-requires-clause-monitor : goal.send-requires-clause-monitor
send-requires-clause-monitor c =
    let takes = rw c.in-Raises.is at c.in_ok-step.ensures
    in subst (λ (x : Seen). c.args.job.now.ctx.mon < length x.plain.monitors) (sym takes.1) c.requires.way.monitor

pub send-requires-clause-fits : goal.send-requires-clause-fits
send-requires-clause-fits c =
    let takes = rw c.in-Raises.is at c.in_ok-step.ensures
    in record {
      program = c.args.program.now.procs;
      fits = subst (λ (x : Seen). Fits c.args.program.now.procs x.plain) (sym takes.1) c.requires.way.fits;
    }

pub returns-in_ok-flow-in-Raises-clause-fits : goal.returns-in_ok-flow-in-Raises-clause-fits
returns-in_ok-flow-in-Raises-clause-fits c =
    let e = to_z w64 (of_z w64 c.in-Raises.num)
    in let takes = rw c.in-Raises.is at c.in_ok-step.ensures
    in let fits = subst (λ (x : Seen). Fits c.args.program.now.procs x.plain) (sym takes.1) c.requires.way.fits
    in subst (λ (a : After). Fits c.args.program.now.procs a.state) c.in_ok-flow-in-Raises.ensures.sent
    (send_grows c.args.program.now.procs c.args.job.now.ctx.mon e c.run_line.new.parts.plain fits).fits

pub returns-in_ok-flow-in-Raises-clause-runs : goal.returns-in_ok-flow-in-Raises-clause-runs
returns-in_ok-flow-in-Raises-clause-runs c =
    let e = cons_at c.args.lines.now c.args.k c.index-lines-k.result c.requires.some c.index-lines-k.is
    in let takes = rw c.in-Raises.is at c.in_ok-step.ensures
    in let fits : SFits w64 c.in-Raises.num = search rules
    in let z : to_z w64 (of_z w64 c.in-Raises.num) ≡ c.in-Raises.num = to_z-of_z w64 c.in-Raises.num fits
    in line_raises c.args.job.now.ctx _ _ c.index-lines-k.result _ c.args.parts.now.plain (named c.args.parts.now c.args.vals.now) c.in-Raises.num e takes.0
    ∙ ap (λ (x : Seen). Over (send c.args.job.now.ctx.mon c.in-Raises.num x.plain)) (sym takes.1)
    ∙ ap (λ n. Over (send c.args.job.now.ctx.mon n c.run_line.new.parts.plain)) (sym z)
    ∙ ap Over c.in_ok-flow-in-Raises.ensures.sent

-- ---- a line that returns
pub returned-requires : goal.returned-requires
returned-requires c =
    let e = cons_at c.args.lines.now c.args.k c.index-lines-k.result c.requires.some c.index-lines-k.is
    in let takes = rw c.in-Returns.is at c.in_ok-step.ensures
    in let v = value_mapped (name_in c.run_line.new.parts.names) c.in-Returns.value
    in record {
      ret =
          subst (λ (x : Seen). RetFits (drawn x.plain) (ret_mapped (name_in x.names) c.args.job.now.ret)) (sym takes.1) c.requires.way.ret_fits;
      value =
          subst (λ (x : Seen). IsReturned (drawn x.plain) v) (sym takes.1)
          (head_returned c.args.program.now.procs c.args.job.now.ctx _ c.args.parts.now.plain (named c.args.parts.now c.args.vals.now) v
          c.index-lines-k.result _
          (rw e at c.requires.way) takes.0);
      empty =
          subst (λ (x : Seen). IsEmptyResult (ret_mapped (name_in x.names) c.args.job.now.ret) x.plain) (sym takes.1)
          (returns_here c.args.job.now.ctx _ c.index-lines-k.result (drop (c.args.k + 1) c.args.lines.now) c.args.parts.now.plain
          (named c.args.parts.now c.args.vals.now) v (rw e at c.requires.returns) takes.0);
      fits =
          record {
            program = c.args.program.now.procs;
            fits = subst (λ (x : Seen). Fits c.args.program.now.procs x.plain) (sym takes.1) c.requires.way.fits;
          };
    }

pub returns-in_ok-returned-in-Returns-clause-fits : goal.returns-in_ok-returned-in-Returns-clause-fits
returns-in_ok-returned-in-Returns-clause-fits c =
    let takes = rw c.in-Returns.is at c.in_ok-step.ensures
    in let ret =
    subst (λ (x : Seen). RetFits (drawn x.plain) (ret_mapped (name_in x.names) c.args.job.now.ret)) (sym takes.1) c.requires.way.ret_fits
    in let fits = subst (λ (x : Seen). Fits c.args.program.now.procs x.plain) (sym takes.1) c.requires.way.fits
    in rw c.in_ok-returned-in-Returns.ensures
    (returned_grows c.args.program.now.procs (ret_mapped (name_in c.run_line.new.parts.names) c.args.job.now.ret)
    (value_mapped (name_in c.run_line.new.parts.names) c.in-Returns.value) c.run_line.new.parts.plain ret fits).fits

pub returns-in_ok-returned-in-Returns-clause-runs : goal.returns-in_ok-returned-in-Returns-clause-runs
returns-in_ok-returned-in-Returns-clause-runs c =
    let e = cons_at c.args.lines.now c.args.k c.index-lines-k.result c.requires.some c.index-lines-k.is
    in let takes = rw c.in-Returns.is at c.in_ok-step.ensures
    in let v = value_mapped (name_in c.run_line.new.parts.names) c.in-Returns.value
    in line_returns c.args.job.now.ctx _ _ c.index-lines-k.result _ c.args.parts.now.plain (named c.args.parts.now c.args.vals.now) v e takes.0
    ∙ ap (λ (x : Seen). Over (going_on (returned (ret_mapped (name_in x.names) c.args.job.now.ret) v x.plain))) (sym takes.1)
    ∙ ap (λ s. Over (going_on s)) (sym c.in_ok-returned-in-Returns.ensures)

-- ---- a line that ends the run
pub returns-in-Ends-clause-fits : goal.returns-in-Ends-clause-fits
returns-in-Ends-clause-fits c =
    let e = cons_at c.args.lines.now c.args.k c.index-lines-k.result c.requires.some c.index-lines-k.is
    in let takes = rw c.in-Ends.is at c.in_ok-step.ensures
    in head_ended c.args.program.now.procs c.args.job.now.ctx _ c.args.parts.now.plain (named c.args.parts.now c.args.vals.now)
    (after_is c.in-Ends.flow c.run_line.new.parts.plain) c.index-lines-k.result _ (rw e at c.requires.way) takes.0

pub returns-in-Ends-clause-told : goal.returns-in-Ends-clause-told
returns-in-Ends-clause-told c = let takes = rw c.in-Ends.is at c.in_ok-step.ensures in takes.1

pub returns-in-Ends-clause-runs : goal.returns-in-Ends-clause-runs
returns-in-Ends-clause-runs c =
    let e = cons_at c.args.lines.now c.args.k c.index-lines-k.result c.requires.some c.index-lines-k.is
    in let takes = rw c.in-Ends.is at c.in_ok-step.ensures
    in line_ends c.args.job.now.ctx _ _ c.index-lines-k.result _ c.args.parts.now.plain (named c.args.parts.now c.args.vals.now)
    (after_is c.in-Ends.flow c.run_line.new.parts.plain) e takes.0

-- ---- a line that stops the run
pub returns-in_ok-note-in-Stops-clause-fits : goal.returns-in_ok-note-in-Stops-clause-fits
returns-in_ok-note-in-Stops-clause-fits c =
    let takes = rw c.in-Stops.is at c.in_ok-step.ensures
    in let fits = subst (λ (x : Seen). Fits c.args.program.now.procs x.plain) (sym takes.1) c.requires.way.fits
    in rw c.in_ok-note-in-Stops.ensures.ok fits

pub returns-in_ok-note-in-Stops-clause-runs : goal.returns-in_ok-note-in-Stops-clause-runs
returns-in_ok-note-in-Stops-clause-runs c =
    let e = cons_at c.args.lines.now c.args.k c.index-lines-k.result c.requires.some c.index-lines-k.is
    in let takes = rw c.in-Stops.is at c.in_ok-step.ensures
    in line_stops c.args.job.now.ctx _ _ c.index-lines-k.result _ c.args.parts.now.plain (named c.args.parts.now c.args.vals.now) e takes.0
    ∙ ap (λ (x : Seen). Over (stopped x.plain)) (sym takes.1)
    ∙ ap (λ (x : Seen). Over (after_is flow.Stopped x.plain)) (sym c.in_ok-note-in-Stops.ensures.ok)

-- ---- a line that asks
pub returns-in-Asks-clause-fits : goal.returns-in-Asks-clause-fits
returns-in-Asks-clause-fits c =
    let e = cons_at c.args.lines.now c.args.k c.index-lines-k.result c.requires.some c.index-lines-k.is
    in let takes = rw c.in-Asks.is at c.in_ok-step.ensures
    in way_asks c.args.program.now.procs c.args.parts.now.plain c.run_line.new.parts.plain (named c.args.parts.now c.args.vals.now)
    (named c.run_line.new.parts c.run_line.new.vals) c.args.job.now.ctx _ _ c.in-Asks.ask c.index-lines-k.result _ (rw e at c.requires.way)
    (ap (λ ns. ret_mapped (name_in ns) c.args.job.now.ret) takes.1) takes.0 takes.2

pub returns-in-Asks-clause-runs : goal.returns-in-Asks-clause-runs
returns-in-Asks-clause-runs c =
    let e = cons_at c.args.lines.now c.args.k c.index-lines-k.result c.requires.some c.index-lines-k.is
    in let takes = rw c.in-Asks.is at c.in_ok-step.ensures
    in line_asks c.args.job.now.ctx _ _ _ c.index-lines-k.result _ c.args.parts.now.plain c.run_line.new.parts.plain
    (named c.args.parts.now c.args.vals.now) (named c.run_line.new.parts c.run_line.new.vals) c.in-Asks.ask e
    (ap (λ ns. ret_mapped (name_in ns) c.args.job.now.ret) takes.1) takes.0
