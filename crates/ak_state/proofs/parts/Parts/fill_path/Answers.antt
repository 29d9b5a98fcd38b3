use Rattle.std.proofs.Common.{◌≡◌, ◌≢◌, ◌∙◌, length, arith, ap, sym, rules, w64, to_z, of_z}
use Rattle.std.proofs.lemmas.Int.{to_z-of_z}
use Rattle.ak_machine.specs.Errors.{next_errors_filled}
use Rattle.ak_state.specs.Errors.{path_filled}
use Rattle.ak_state.proofs.Errors.{next_errors_grow, walk_on, walk_ends, catcher_on, monitors_on, some_grown, seen_is}
use Rattle.ak_state.proofs.parts.Parts.fill_path.Goals as goal

pub loop-at-preserved : goal.loop-at-preserved
loop-at-preserved c =
    let e = to_z w64 (of_z w64 c.args.num)
    in let inv = c.loop-at.invariant
    in let s = c.loop-at.self.plain
    in let at = c.loop-at.at
    in let other : at ≢ c.args.c = search rules
    in let same : length (next_errors_filled e s at).monitors ≡ length s.monitors = monitors_on e s at
    in rw c.in_ok-fill_next_errors.ensures (record {
      monitor = omega (arith, same, inv.monitor, c.above-above.ensures.older);
      above = omega (arith, same, inv.above);
      caught = catcher_on e s at c.above-above.result ∙ c.above-above.ensures.caught;
      fits = some_grown s (next_errors_filled e s at) inv.fits (next_errors_grow inv.fits.program e s at inv.fits.fits);
      names = inv.names;
      filled = walk_on e s c.args.c at c.above-above.result other c.above-above.ensures.path ∙ inv.filled;
    })

pub returns : goal.returns
returns c =
    let e = to_z w64 (of_z w64 c.args.num)
    in let z : to_z w64 (of_z w64 c.args.num) ≡ c.args.num = to_z-of_z w64 c.args.num c.ranges.num
    in let inv = c.loop-at.invariant
    in let s = c.loop-at.self.plain
    in let end : c.loop-at.at ≡ c.args.c = search rules
    in let filled = ap (λ k. path_filled k c.args.c e s) (sym end) ∙ inv.filled
    in rw c.in_ok-fill_next_errors-2.ensures
    (seen_is _ _ (walk_ends e s c.args.c inv.above ∙ filled ∙ ap (λ n. path_filled c.args.mon c.args.c n c.args.self.now.plain) z) inv.names)
