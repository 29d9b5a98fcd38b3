-- What a return leaves fits.
use Rattle.std.proofs.Common.{ℕ, List}
use Rattle.std.specs.Prelude.{ℤ}
use Rattle.ak_frames.specs.declared.value.Value.{Value}
use Rattle.ak_frames.specs.declared.value.Value.TheVariants as value
use Rattle.ak_frames.specs.declared.frame.Ret.{Ret}
use Rattle.ak_frames.specs.declared.frame.Ret.TheVariants.{Drop, To, TryBody, ThrottleBody}
use Rattle.ak_program.specs.declared.program.NumProc.{NumProc}
use Rattle.ak_machine.specs.State.{State}
use Rattle.ak_machine.specs.Job.{returned, number_returned, deferred_returned}
use Rattle.ak_state.specs.Drawn.{drawn}
use Rattle.ak_state.specs.Fits.{RetFits, Fits}
use Rattle.ak_state.proofs.Fitting.{Grows, kept_grows, fill_grows, connect_grows}
use Rattle.ak_state.proofs.Groups.{try_done_grows, try_waits_grows}
use Rattle.ak_state.proofs.Ends.{body_ended_grows, body_waits_grows}

number_grows : (program : List NumProc) (ret : Ret) (z : ℤ) (s : State) → RetFits (drawn s) ret → Fits program s
    → Grows program s (number_returned ret z s)
number_grows program Drop z s r f = kept_grows program s f
number_grows program (To x) z s r f = fill_grows program x z s f
number_grows program (TryBody g) z s r f = try_done_grows program g z s f
number_grows program (ThrottleBody b) z s r f = body_ended_grows program b z s f

deferred_grows : (program : List NumProc) (ret : Ret) (i : ℕ) (s : State) → RetFits (drawn s) ret → Fits program s
    → Grows program s (deferred_returned ret i s)
deferred_grows program Drop i s r f = kept_grows program s f
deferred_grows program (To x) i s r f = connect_grows program x i s r f
deferred_grows program (TryBody g) i s r f = try_waits_grows program g i s f r
deferred_grows program (ThrottleBody b) i s r f = body_waits_grows program b i s f

pub returned_grows : (program : List NumProc) (ret : Ret) (v : Value) (s : State) → RetFits (drawn s) ret → Fits program s
    → Grows program s (returned ret v s)
returned_grows program ret (value.Num z) s r f = number_grows program ret z s r f
returned_grows program ret (value.Ivar i) s r f = deferred_grows program ret i s r f
returned_grows program ret (value.Def i) s r f = deferred_grows program ret i s r f
returned_grows program ret (value.Mon m) s r f = kept_grows program s f
returned_grows program ret (value.Pipe p) s r f = kept_grows program s f
returned_grows program ret (value.Thr t) s r f = kept_grows program s f
returned_grows program ret (value.Event e) s r f = kept_grows program s f
returned_grows program ret (value.Helper h) s r f = kept_grows program s f
