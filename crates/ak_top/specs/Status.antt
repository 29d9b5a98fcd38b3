-- Exit statuses and messages. Own.
use Rattle.std.specs.Prelude.{ℕ, ◌≡◌, List, [], ◌∷◌, ◌++◌, codes, decimal, slice_index_or}
use Rattle.ak_text.specs.Decimal.{decimal_of}
use Rattle.ak_machine.specs.Status.{Stat, Well, ByError, AtJobLimit, Unfinished}
use Rattle.ak_machine.specs.Status as stat
use Rattle.ak_top.specs.declared.status.Status.{Status}
use Rattle.ak_top.specs.declared.status.Status.TheVariants.{Done, Unhandled, Usage, Refused, ReadFault, WriteFault, Jobs, NoMemory, BadHistory, Stray, Short, Stuck}

-- the exit status of the program
abbrev pub number_of : Status → ℕ
number_of Done = 0
number_of (Unhandled num) = 1
number_of (Usage place) = 2
number_of (Refused line kind) = 3
number_of ReadFault = 4
number_of WriteFault = 5
number_of Jobs = 6
number_of NoMemory = 7
number_of (BadHistory line) = 8
number_of (Stray place asked kept) = 9
number_of (Short asked) = 9
number_of Stuck = 10

-- the names of the kinds of faults of a script, from kind 1 on; there is no kind 10
abbrev pub kind_names : List (List ℕ)
kind_names =
    codes "BadLine" ∷ codes "TooLong" ∷ codes "TooMany" ∷ codes "BadNumber" ∷ codes "NoMain" ∷ codes "TwiceNamed"
    ∷ codes "UnknownName" ∷ codes "WrongKind" ∷ codes "WrongCount" ∷ [] ∷ codes "NoAsk" ∷ []

abbrev pub name_of_kind : ℕ → List ℕ
name_of_kind kind = slice_index_or ([] ∷ kind_names) kind []

-- the line on standard error
abbrev pub message_of : Status → List ℕ
message_of Done = []
message_of (Unhandled num) = codes "unhandled error " ++ decimal_of num
message_of (Usage place) = codes "usage: word " ++ decimal place
message_of (Refused line kind) = codes "line " ++ decimal line ++ codes ": " ++ name_of_kind kind
message_of ReadFault = codes "read fault"
message_of WriteFault = codes "write fault"
message_of Jobs = codes "job limit reached"
message_of NoMemory = codes "no memory"
message_of (BadHistory line) = codes "history line " ++ decimal line
message_of (Stray place asked kept) = codes "history differs at event " ++ decimal place
message_of (Short asked) = codes "history ends too soon"
message_of Stuck = codes "stuck: all threads are reserved"

-- the status is that of a run that ended so; one that has not ended has none
abbrev pub IsStatusOf : Stat → Status → Type 0
IsStatusOf Well status = status ≡ Done
IsStatusOf (ByError num) status = status ≡ Unhandled num
IsStatusOf AtJobLimit status = status ≡ Jobs
IsStatusOf stat.Stuck status = status ≡ Stuck
IsStatusOf Unfinished status = ⊥
