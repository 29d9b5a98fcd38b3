use Rattle.std.proofs.Common.{◌∙◌, ap, sym, subst}
use Rattle.ak_trace.specs.declared.entry.Entry.TheVariants as entry
use Rattle.ak_machine.specs.Deferred.{noting}
use Rattle.ak_machine.specs.Alarms.{yields_filled, alarms_filled}
use Rattle.ak_state.specs.Seen.{Seen, doing}
use Rattle.ak_state.specs.Fits.{Fits}
use Rattle.ak_state.specs.Alarms.{with_recount}
use Rattle.ak_state.proofs.Stands.{seen_as}
use Rattle.ak_state.proofs.Fitting.{yields_filled_grow}
use Rattle.ak_state.proofs.Alarms.{recount_last, more_begun}
use Rattle.ak_state.proofs.parts.Parts.begin_cycle.Goals as goal

pub fill_alarms-requires : goal.fill_alarms-requires
fill_alarms-requires c =
    let yielded = c.in_ok-fill_yields.ensures ∙ ap (doing yields_filled) c.in_ok-note.ensures.ok
    in let f = c.requires.fits
    in record {
      program = f.program;
      fits =
          subst (λ (x : Seen). Fits f.program x.plain) (sym yielded)
          (yields_filled_grow f.program (noting entry.Cycle c.args.self.now.plain) f.fits).fits;
    }

pub returns-clause-begun : goal.returns-clause-begun
returns-clause-begun c =
    let yielded = c.in_ok-fill_yields.ensures ∙ ap (doing yields_filled) c.in_ok-note.ensures.ok
    in c.recount.ensures.recount
    ∙ ap (doing with_recount) (c.in_ok-fill_alarms.ensures ∙ ap (doing alarms_filled) yielded)
    ∙ ap (seen_as c.args.self.now.names) (recount_last c.args.self.now.plain)

pub returns-clause-picks : goal.returns-clause-picks
returns-clause-picks c =
    let yielded = c.in_ok-fill_yields.ensures ∙ ap (doing yields_filled) c.in_ok-note.ensures.ok
    in let begun = c.recount.ensures.recount ∙ ap (doing with_recount) (c.in_ok-fill_alarms.ensures ∙ ap (doing alarms_filled) yielded)
    in c.recount.ensures.picks ∙ more_begun c.args.self.now.plain c.recount.new.self.plain (ap (λ (x : Seen). x.plain) begun)
