-- What the parts of the scheduler stand for: the plain state, with the surviving name in place of each ivar's number.
use Rattle.std.specs.Prelude.{ℕ, ◌≡◌, List, [], length}
use Rattle.ak_rings.specs.Queues.{Queues, picked_from}
use Rattle.ak_cells.specs.declared.registration.Woken.{Woken}
use Rattle.ak_cells.specs.Names.{name_in, trimmed}
use Rattle.ak_cells.specs.Rooms.{NamedCells}
use Rattle.ak_frames.specs.declared.frame.Frame.{Frame}
use Rattle.ak_frames.specs.declared.frame.Task.{Task}
use Rattle.ak_trace.specs.declared.entry.Entry.{Entry}
use Rattle.ak_monitor.specs.Monitors.{root_alone}
use Rattle.ak_clock.specs.Clock.{clock_at_zero}
use Rattle.ak_streams.specs.Throttles.{no_throttling}
use Rattle.ak_machine.specs.State.{State, initial_state}
use Rattle.ak_machine.specs.Deferred.{enqueue, woken_task}
use Rattle.ak_machine.specs.Mapped.{state_named}
use Rattle.ak_state.specs.Works.{no_works}
use Rattle.ak_state.specs.declared.lists.Lists.{Lists}

-- the state, and the surviving name of each number
pub record Seen : Type 0 where
  pub plain : State
  pub names : List ℕ

-- the root monitor alone, the clock at 0, and so many askers
abbrev pub no_lists : ℕ → Lists
no_lists askers =
    record {
      monitors = root_alone;
      groups = [];
      purposes = [];
      throttles = no_throttling;
      pipes = [];
      clock = clock_at_zero;
      works = no_works;
      helpers = [];
      requests = [];
      left = askers;
    }

-- the machine's other lists
abbrev pub other_lists : Lists → State
other_lists lists =
    record (initial_state 0 lists.left) {
      monitors = lists.monitors;
      groups = lists.groups;
      purposes = lists.purposes;
      throttles = lists.throttles.throttles;
      started = lists.throttles.started;
      pipes = lists.pipes;
      clock = lists.clock;
      works = lists.works.out;
      next_work = lists.works.next;
      helpers = lists.helpers;
      requests = lists.requests;
    }

-- the parts, with the numbers that they were given, beside the other lists
abbrev pub raw_state : NamedCells Frame → Queues Task → List Entry → State → State
raw_state cells queues trace lists = record lists { cells = cells.cells; queues = queues; trace = trace }

abbrev pub seen : NamedCells Frame → Queues Task → List Entry → State → Seen
seen cells queues trace lists =
    record {
      plain = state_named (name_in (trimmed cells.names)) (raw_state cells queues trace lists);
      names = trimmed cells.names;
    }

-- each ivar has a name, and no handler is woken
pub record IsKept (cells : NamedCells Frame) : Type 0 where
  pub named : length cells.names ≡ length cells.cells.ivars
  pub unwoken : cells.woken ≡ []

-- a change of the state alone
abbrev pub doing : (State → State) → Seen → Seen
doing f s = record s { plain = f s.plain }

-- a woken handler is enqueued
abbrev pub enqueued_for : State → Woken Frame → State
enqueued_for s w = enqueue w.ctx (woken_task w.frame w.num) s

-- the state with these jobs and this trace
abbrev pub with_jobs : Queues Task → List Entry → State → State
with_jobs queues trace s = record s { queues = queues; trace = trace }

-- the next job has left its queue
abbrev pub without_pick : State → State
without_pick s = record s { queues = picked_from s.queues }
