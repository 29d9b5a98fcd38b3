use Rattle.std.proofs.Common.{◌∙◌, ◌+◌, ◌<◌, ◌≤◌, length, drop, fold, arith, ap, w64, to_z, of_z}
use Rattle.std.specs.Prelude.{slice_get}
use Rattle.ak_machine.specs.Errors.{handler_acts}
use Rattle.ak_state.specs.Errors.{handlers_of, acted_by, acted_at}
use Rattle.ak_state.proofs.Errors.{act_next, acted_handlers, acted_grows, some_grown}
use Rattle.ak_state.proofs.parts.Parts.handle.Goals as goal

pub loop-k-preserved : goal.loop-k-preserved
loop-k-preserved c =
    let e = to_z w64 (of_z w64 c.args.num)
    in let inv = c.loop-k.invariant
    in let s = c.loop-k.self.plain
    in let k = c.loop-k.k
    in let hs = handlers_of c.args.c c.args.self.now.plain
    in let lt : k < length hs = omega (arith, c.loop-k-test.true, c.handler_count-count.ensures)
    in let g = acted_grows inv.fits.program e c.args.c k s inv.fits.fits
    in let more : length s.monitors ≤ length (acted_at c.args.c k e s).monitors = g.more.monitors
    in rw c.in_ok-act.ensures (record {
      monitor = omega (arith, inv.monitor, more);
      fits = some_grown s (acted_at c.args.c k e s) inv.fits g;
      names = inv.names;
      same = acted_handlers e c.args.c k s inv.fits ∙ inv.same;
      acted = ap (λ xs. fold (handler_acts e) (acted_by e (slice_get xs k) s) (drop (k + 1) hs)) inv.same ∙ act_next e hs k s lt
          ∙ inv.acted;
    })
