use Rattle.std.proofs.Common.{◌≡◌, ◌<◌, length, drop, fold}
use Rattle.ak_machine.specs.Errors.{handler_acts, handled}
use Rattle.ak_state.specs.Fits.{FitsSome}
use Rattle.ak_state.specs.Errors.{handlers_of}
use Rattle.ak_state.proofs.parts.Parts.handle.Given as goal

-- those that are left come to what all come to, and no handler is another
abbrev pub invariant-loop-k : goal.invariant-loop-k
invariant-loop-k l = record {
  monitor : l.c < length l.self.plain.monitors;
  fits : FitsSome l.self.plain;
  names : l.self.names ≡ l.initial.self.names;
  same : handlers_of l.c l.self.plain ≡ handlers_of l.c l.initial.self.plain;
  acted : fold (handler_acts l.fn.num) l.self.plain (drop l.k (handlers_of l.c l.initial.self.plain)) ≡ handled l.c l.fn.num l.initial.self.plain;
}
