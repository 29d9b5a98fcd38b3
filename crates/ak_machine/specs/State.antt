-- The state of the plain machine: the parts' own records, and beside them what the machine keeps for each. Own.
use Rattle.std.specs.Prelude.{ℕ, List, [], length}
use Rattle.ak_cells.specs.Cells.{Cells, no_cells}
use Rattle.ak_rings.specs.Queues.{Queues, no_jobs}
use Rattle.ak_monitor.specs.Monitors.{Monitor, root_alone}
use Rattle.ak_choice.specs.Groups.{Group}
use Rattle.ak_clock.specs.Clock.{Clock, clock_at_zero}
use Rattle.ak_throttle.specs.Throttle.{Throttle}
use Rattle.ak_pipe.specs.Pipe.{Pipe}
use Rattle.ak_frames.specs.declared.frame.Frame.{Frame}
use Rattle.ak_frames.specs.declared.frame.Task.{Task}
use Rattle.ak_trace.specs.declared.entry.Entry.{Entry}
use Rattle.ak_machine.specs.declared.held.Handler.{Handler}
use Rattle.ak_machine.specs.declared.held.Purpose.{Purpose}
use Rattle.ak_machine.specs.declared.held.Body.{Body}
use Rattle.ak_machine.specs.declared.held.Started.{Started}
use Rattle.ak_machine.specs.declared.held.Read.{Read}
use Rattle.ak_machine.specs.declared.held.HelperState.{HelperState}
use Rattle.ak_machine.specs.declared.held.Outstanding.{Outstanding}
use Rattle.ak_machine.specs.declared.held.Requested.{Requested}

-- everything but what is asked of the pool
pub record State : Type 0 where
  -- ivars and the handlers that wait for them
  pub cells : Cells Frame
  -- the jobs that wait
  pub queues : Queues Task
  pub monitors : List (Monitor Handler)
  -- groups and guards, and what each is for
  pub groups : List Group
  pub purposes : List Purpose
  -- throttles, and of each the bodies that have started, in order of their numbers
  pub throttles : List (Throttle Body)
  pub started : List (List Started)
  pub pipes : List (Pipe Read)
  -- the time, alarms and pending yields
  pub clock : Clock
  pub helpers : List HelperState
  -- the works that have not arrived, oldest first, and the number of the next one
  pub works : List Outstanding
  pub next_work : ℕ
  -- the requests from outside, in order of their numbers, and how many askers are left by the last reply
  pub requests : List Requested
  pub left : ℕ
  pub trace : List Entry

-- nothing but the root monitor, with a limit of jobs in a cycle and so many askers
abbrev pub initial_state : ℕ → ℕ → State
initial_state limit askers =
    record {
      cells = no_cells;
      queues = no_jobs limit;
      monitors = root_alone;
      groups = [];
      purposes = [];
      throttles = [];
      started = [];
      pipes = [];
      clock = clock_at_zero;
      helpers = [];
      works = [];
      next_work = 0;
      requests = [];
      left = askers;
      trace = [];
    }

-- the number of the ivar that is drawn next
abbrev pub next_ivar : State → ℕ
next_ivar s = length s.cells.ivars
