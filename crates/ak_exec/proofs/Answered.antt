-- A job that answers a request, and has nothing left then.
use Rattle.std.proofs.Common.{◌≡◌, ◌<◌, ℕ, ℤ, List, [], length, sym, subst}
use Rattle.ak_base.specs.declared.number.Ctx.{Ctx}
use Rattle.ak_labor.specs.declared.ask.Ask.TheVariants as ask
use Rattle.ak_program.specs.declared.program.NumProc.{NumProc}
use Rattle.ak_machine.specs.Works.{answered}
use Rattle.ak_machine.specs.Job.{Rest, nothing_left}
use Rattle.ak_state.specs.Seen.{Seen, doing}
use Rattle.ak_state.specs.Fits.{Fits}
use Rattle.ak_state.proofs.Served.{request_answered_grows}
use Rattle.ak_exec.specs.Typed.{IsPaused}

pub answering_fits : (program : List NumProc) (ctx : Ctx) (q : ℕ) (v : ℤ) (old new : Seen) (rest : Rest) → ctx.mon < length old.plain.monitors
    → Fits program old.plain → new ≡ doing (answered q v) old → rest ≡ nothing_left ctx → IsPaused program new.plain (ask.Answer q v) rest
answering_fits program ctx q v old new rest monitor fits is left =
    subst (λ (r : Rest). IsPaused program new.plain (ask.Answer q v) r) (sym left)
    (subst (λ (x : Seen). IsPaused program x.plain (ask.Answer q v) (nothing_left ctx)) (sym is) paused)
  where
    paused : IsPaused program (answered q v old.plain) (ask.Answer q v) (nothing_left ctx)
    paused = record {
      monitor = monitor;
      kinds = [];
      vals_fit = tt;
      sound = tt;
      ret_fits = tt;
      fits = (request_answered_grows program q v old.plain fits).fits;
      numbered = tt;
    }
