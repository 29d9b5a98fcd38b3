-- Small traces for the law of errors.
use Rattle.std.specs.Prelude.{ℕ, ℤ, pos, List, [], ◌∷◌, ◌++◌, false}
use Rattle.ak_trace.specs.declared.entry.Entry.{Entry}
use Rattle.ak_trace.specs.declared.entry.Entry.TheVariants as entry
use Rattle.ak_trace.specs.declared.entry.Ending.TheVariants as ending
use Rattle.ak_laws.specs.Errors.{ErrorsGoUp}

-- monitor 1 below the root, which is detached, monitor 2 below monitor 1, and monitor 3 below monitor 2
abbrev pub one_detached : List Entry
one_detached = entry.Monitor 1 0 ∷ entry.Detach 1 ∷ entry.Monitor 2 1 ∷ entry.Monitor 3 2 ∷ []

-- monitor 2 is detached, too
abbrev pub both_detached : List Entry
both_detached = one_detached ++ entry.Detach 2 ∷ []

-- and attached again
abbrev pub one_attached : List Entry
one_attached = both_detached ++ entry.Attach 2 ∷ []

-- an error is caught, or it is not and the trace ends
abbrev pub caught : ℕ → List Entry
caught m = entry.Caught m ∷ []

abbrev pub unhandled : ℤ → List Entry
unhandled e = entry.Unhandled e ∷ entry.End ending.Unhandled ∷ []

-- a next error is filled with it, or it is dropped
abbrev pub filled : ℤ → List Entry
filled e = entry.Fill 4 e ∷ entry.Enq 7 false ∷ []

abbrev pub dropped : ℤ → List Entry
dropped e = entry.Rest e ∷ []

-- caught, with a next error that wakes a handler, a guard that attaches its monitor and calls, and another that drops it
abbrev pub handled : List Entry
handled = caught 1 ++ filled (pos 5) ++ entry.Attach 1 ∷ entry.Enq 8 false ∷ dropped (pos 5)

-- the error 5 is raised in a monitor, with entries before it and behind it: they obey the law, or they break it
abbrev pub Obeys : List Entry → ℕ → List Entry → Type 0
Obeys before m after = ErrorsGoUp (before ++ entry.Error (pos 5) m ∷ after)

abbrev pub Breaks : List Entry → ℕ → List Entry → Type 0
Breaks before m after = Obeys before m after → ⊥
