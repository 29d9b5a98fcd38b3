-- Calls that take one thing each, made until one finds none: what they give, and the clock that they leave. Own.
use Rattle.std.specs.Prelude.{ℕ, ◌≡◌, List, [], ◌∷◌, Option, Some, None, map}
use Rattle.ak_base.specs.Lists.{first_of}
use Rattle.ak_clock.specs.Clock.{Clock, ivar_of, due_alarms, due_taken, yield_taken}

-- calls from one clock give these deferreds and then none, and leave another clock
abbrev pub Give : (Clock → Option ℕ) → (Clock → Clock) → List ℕ → Clock → Clock → Type 0
Give given taken [] before after = (given before ≡ None) × (after ≡ before)
Give given taken (i ∷ ivars) before after = (given before ≡ Some i) × Give given taken ivars (taken before) after

-- the deferred that a call of `due` gives
abbrev pub due_given : Clock → Option ℕ
due_given c = ivar_of (first_of (due_alarms c))

-- calls of `due`
abbrev pub DueGives : List ℕ → Clock → Clock → Type 0
DueGives = Give due_given due_taken

-- the deferreds of the alarms that are due, in order of time and then of number
abbrev pub due_ivars : Clock → List ℕ
due_ivars c = map (λ alarm. alarm.ivar) (due_alarms c)

-- the deferred that a call of `next_yield` gives
abbrev pub yield_given : Clock → Option ℕ
yield_given c = first_of c.yields

-- calls of `next_yield`
abbrev pub YieldsGiven : List ℕ → Clock → Clock → Type 0
YieldsGiven = Give yield_given yield_taken
