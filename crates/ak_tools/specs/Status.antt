-- Exit statuses of the tools, and what a refusal becomes. Own.
use Rattle.std.specs.Prelude.{ℕ}
use Rattle.ak_let_syntax.specs.declared.refusal.LetRefused.{LetRefused}
use Rattle.ak_let_syntax.specs.declared.refusal.LetRefused.TheVariants as let_refused
use Rattle.ak_reading.specs.declared.reading.ReadError.{ReadError}
use Rattle.ak_reading.specs.declared.reading.ReadError.TheVariants as read
use Rattle.ak_tools.specs.declared.status.ToolStatus.{ToolStatus}
use Rattle.ak_tools.specs.declared.status.ToolStatus.TheVariants.{Done, Usage, Refused, ReadFault, WriteFault, NoMemory}

-- the exit status of the program
abbrev pub number_of : ToolStatus → ℕ
number_of Done = 0
number_of (Usage place) = 2
number_of (Refused line kind) = 3
number_of ReadFault = 4
number_of WriteFault = 5
number_of NoMemory = 7

-- the status of a source that was not read
abbrev pub status_by_read : ReadError → ToolStatus
status_by_read read.Failed = ReadFault
status_by_read read.NoMemory = NoMemory

-- the status of a text that is no source of the let dialect
abbrev pub status_by_refusal : LetRefused → ToolStatus
status_by_refusal (let_refused.At line kind) = Refused line kind
status_by_refusal let_refused.NoMemory = NoMemory
