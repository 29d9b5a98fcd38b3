-- What a statement may do, and the values that it reads. Own.
use Rattle.std.specs.Prelude.{ℕ, ℤ, pos, negsuc, List, [], ◌∷◌, ◌++◌, map, Bool, true, not, Option, Some, None, slice_index_or}
use Rattle.ak_labor.specs.declared.ask.Ask.{Ask}
use Rattle.ak_frames.specs.declared.value.Value.{Value}
use Rattle.ak_frames.specs.declared.value.Value.TheVariants.{Num, Ivar, Def, Mon, Pipe, Thr, Event, Helper}
use Rattle.ak_program.specs.declared.statement.NumAtom.{NumAtom}
use Rattle.ak_program.specs.declared.statement.NumAtom.TheVariants.{Literal, Local}
use Rattle.ak_program.specs.declared.program.NumPrefix.{NumPrefix}
use Rattle.ak_program.specs.declared.program.NumPrefix.TheVariants.{If, Unless}
use Rattle.ak_machine.specs.declared.held.Callback.{Callback}
use Rattle.ak_machine.specs.State.{State, next_ivar}
use Rattle.ak_machine.specs.Number.{is_zero}
use Rattle.ak_machine.specs.Errors.{After}

-- what a statement does to the state and the job's values
pub data Effect : Type 0 where
  -- it goes on
  Goes : State → List Value → Effect
  -- it raises an error, and changes nothing else
  Raises : ℤ → Effect
  -- the procedure returns
  Returns : Value → Effect
  -- the run stops
  Stops : Effect
  -- an error that nobody caught ends the run
  Ends : After → Effect
  -- it asks the pool, and goes on with the reply
  Asks : Ask → State → List Value → Effect

-- the numbers of the errors that statements raise by themselves: a number beyond 64 bits
abbrev pub overflow : ℤ
overflow = negsuc 0

-- a division by zero
abbrev pub zero_divisor : ℤ
zero_divisor = negsuc 1

-- a fill of a full ivar
abbrev pub full_ivar : ℤ
full_ivar = negsuc 2

-- a number for a closed pipe
abbrev pub closed_pipe : ℤ
closed_pipe = negsuc 3

-- a body for a dead throttle
abbrev pub dead_throttle : ℤ
dead_throttle = negsuc 4

-- a work for a helper that was refused or has ended
abbrev pub no_helper : ℤ
no_helper = negsuc 6

-- a clock that would go back
abbrev pub negative_tick : ℤ
negative_tick = negsuc 8

-- the value of a local
abbrev pub local : List Value → ℕ → Value
local vals k = slice_index_or vals k (Num (pos 0))

-- the value of an atom
abbrev pub value_of : List Value → NumAtom → Value
value_of vals (Literal z) = Num z
value_of vals (Local k) = local vals k

-- the number of a value; a thing counts as 0
abbrev pub number_of : Value → ℤ
number_of (Num z) = z
number_of (Ivar i) = pos 0
number_of (Def i) = pos 0
number_of (Mon m) = pos 0
number_of (Pipe p) = pos 0
number_of (Thr t) = pos 0
number_of (Event e) = pos 0
number_of (Helper h) = pos 0

-- the number of the thing that a value names; a number counts as the name 0
abbrev pub name_of : Value → ℕ
name_of (Num z) = 0
name_of (Ivar i) = i
name_of (Def i) = i
name_of (Mon m) = m
name_of (Pipe p) = p
name_of (Thr t) = t
name_of (Event e) = e
name_of (Helper h) = h

-- the number of an atom
abbrev pub number_in : List Value → NumAtom → ℤ
number_in vals a = number_of (value_of vals a)

-- the thing that a local names
abbrev pub name_in : List Value → ℕ → ℕ
name_in vals k = name_of (local vals k)

-- the values of arguments
abbrev pub args_of : List Value → List NumAtom → List Value
args_of vals args = map (value_of vals) args

-- one more local
abbrev pub bound : List Value → Value → List Value
bound vals v = vals ++ v ∷ []

-- one more local, which is the next ivar, to be waited for
abbrev pub result_bound : State → List Value → List Value
result_bound s vals = bound vals (Def (next_ivar s))

-- a call whose return goes to the next ivar
abbrev pub call_to_fresh : State → ℕ → List Value → Callback
call_to_fresh s proc vals = record { proc = proc; vals = vals; to = next_ivar s }

-- whether a statement is run
abbrev pub holds : Option NumPrefix → List Value → Bool
holds None vals = true
holds (Some (If a)) vals = not (is_zero (number_in vals a))
holds (Some (Unless a)) vals = is_zero (number_in vals a)
