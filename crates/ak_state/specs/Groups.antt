-- What comes of a group, step by step: how it is begun, and what its jobs leave and call.
use Rattle.std.specs.Prelude.{ℕ, ℤ, ◌<◌, List, [], ◌∷◌, ◌++◌, length, fold, All, Option, Some, None, if◌then◌else◌}
use Rattle.ak_cells.specs.Cells.{unregistered}
use Rattle.ak_cells.specs.Rooms.{NamedCells, number_of}
use Rattle.ak_frames.specs.declared.value.Value.{Value}
use Rattle.ak_frames.specs.declared.value.Value.TheVariants.{Num}
use Rattle.ak_frames.specs.declared.frame.Frame.{Frame}
use Rattle.ak_choice.specs.Groups as groups
use Rattle.ak_machine.specs.declared.held.Callback.{Callback}
use Rattle.ak_machine.specs.declared.held.Choosable.{Choosable}
use Rattle.ak_machine.specs.declared.held.Purpose.{Purpose}
use Rattle.ak_machine.specs.declared.held.Purpose.TheVariants.{ForAll, ForAny, ForChoice}
use Rattle.ak_machine.specs.State.{State}
use Rattle.ak_machine.specs.Mapped.{callback_mapped}
use Rattle.ak_machine.specs.Deferred.{fill}
use Rattle.ak_machine.specs.Groups.{group_at, purpose_at, part_set, all_call, choice_decided, first_number, first_call}
use Rattle.ak_machine.specs.Job.{filled_if}
use Rattle.ak_state.specs.declared.parts.groups.Taken.{Taken}
use Rattle.ak_state.specs.declared.parts.groups.Taken.TheVariants.{Fills, Calls, Nothing}

-- one more group, whose purpose is still to come
abbrev pub with_fresh_group : ℕ → State → State
with_fresh_group parts s = record s { groups = groups.with_group parts s.groups }

-- the purpose of the last group
abbrev pub with_purpose : Purpose → State → State
with_purpose purpose s = record s { purposes = s.purposes ++ purpose ∷ [] }

-- the number under which a handler waits for an ivar that is full with a number, or empty
abbrev pub waits_under : Option ℤ → State → Option ℕ
waits_under (Some v) s = None
waits_under None s = Some s.cells.next

-- one more handler is noted for a group
abbrev pub with_note : ℕ → ℕ → State → State
with_note g registration s = record s { groups = groups.with_note g registration s.groups }

-- ---- the job of a part of an `all`
-- the state after it, by the number that the part had
abbrev pub part_ended : Option ℤ → ℕ → ℕ → ℤ → State → State
part_ended (Some w) g k v s = s
part_ended None g k v s = part_set g k v s

-- the call of an `all` whose parts all have numbers
abbrev pub call_of_all : Purpose → ℕ → State → Option Callback
call_of_all (ForAll c) g s = all_call g c s
call_of_all other g s = None

-- what it calls, by the number that the part had
abbrev pub part_call : Option ℤ → ℕ → ℕ → ℤ → State → Option Callback
part_call (Some w) g k v s = None
part_call None g k v s = call_of_all (purpose_at g s) g (part_set g k v s)

-- ---- the job of a choice
-- what is filled: the result of an `any`, with the number of its first full deferred
abbrev pub filled_by : Purpose → State → State
filled_by (ForAny ds r) s = filled_if r (first_number ds s) s
filled_by other s = s

-- what is called: the procedure of the first full deferred of a `choose`
abbrev pub called_by : Purpose → State → Option Callback
called_by (ForChoice choices vals r) s = first_call choices vals r s
called_by other s = None

-- the state after it: nothing happens where the group was decided
abbrev pub choice_ended : ℕ → State → State
choice_ended g s = if (group_at g s).decided then s else filled_by (purpose_at g s) (choice_decided g s)

-- what it calls
abbrev pub choice_call : ℕ → State → Option Callback
choice_call g s = if (group_at g s).decided then None else called_by (purpose_at g s) (choice_decided g s)

-- ---- what a choice takes, as the code says it; f gives the surviving names
abbrev pub taken_fills : (ℕ → ℕ) → Taken → State → State
taken_fills f (Fills to num) s = fill (f to) num s
taken_fills f (Calls call) s = s
taken_fills f Nothing s = s

abbrev pub taken_calls : (ℕ → ℕ) → Taken → Option Callback
taken_calls f (Fills to num) = None
taken_calls f (Calls call) = Some (callback_mapped f call)
taken_calls f Nothing = None

-- a deferred that it fills was drawn
abbrev pub TakesDrawn : Taken → State → Type 0
TakesDrawn (Fills to num) s = to < length s.cells.ivars
TakesDrawn (Calls call) s = Unit {0}
TakesDrawn Nothing s = Unit {0}

-- ---- in the cells
-- the first of these ivars that is full gives its number to a deferred
abbrev pub any_takes : List ℕ → ℕ → NamedCells Frame → Taken
any_takes [] to cells = Nothing
any_takes (d ∷ ds) to cells = elim (number_of d cells) [ None ↦ any_takes ds to cells | Some v ↦ Fills to v ]

-- the first of these choices whose deferred is full has its procedure called
abbrev pub choice_takes : List Choosable → List Value → ℕ → NamedCells Frame → Taken
choice_takes [] vals to cells = Nothing
choice_takes (choice ∷ choices) vals to cells =
    elim (number_of choice.deferred cells) [
      | None ↦ choice_takes choices vals to cells
      | Some v ↦ Calls (record { proc = choice.proc; vals = Num v ∷ vals; to = to })
    ]

-- what a group of a purpose takes
abbrev pub takes : Purpose → NamedCells Frame → Taken
takes (ForAny ds to) cells = any_takes ds to cells
takes (ForChoice choices vals to) cells = choice_takes choices vals to cells
takes other cells = Nothing

-- what it looks at and fills was drawn
abbrev pub LooksDrawn : ℕ → Purpose → Type 0
LooksDrawn n (ForAny ds to) = All (λ i. i < n) ds × (to < n)
LooksDrawn n (ForChoice choices vals to) = All (λ (choice : Choosable). choice.deferred < n) choices
LooksDrawn n other = Unit {0}

-- the handlers of these numbers wait no longer
abbrev pub without_handlers : List ℕ → NamedCells Frame → NamedCells Frame
without_handlers registrations cells = record cells { cells = fold unregistered cells.cells registrations }
