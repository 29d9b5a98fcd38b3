-- What the rules of a legal history read of the events before, list by list.
use Rattle.std.specs.Prelude.{ℕ, List, filter, find, map, count_by, Bool, not, ◌&&◌, ◌==◌, Option, Some, None}
use Rattle.std.specs.Option.{option_map}
use Rattle.std.specs.List.{filter_map, flat_map, list_any, list_all}
use Rattle.ak_labor.specs.declared.work.Outcome.{Outcome}
use Rattle.ak_labor.specs.Waits.{Handed}
use Rattle.ak_history.specs.declared.event.Event.{Event}
use Rattle.ak_history.specs.Events.{Begun, Reserved, handed, begun, finished, drained_in, reserved_in, ended_in, is_submit, is_helper_new, is_close, is_among, is_general, is_for}
use Rattle.ak_pool.specs.declared.task.Task.{Task}

pub record Facts : Type 0 where
  pub handed : List Handed
  pub begun : List Begun
  pub finished : List (ℕ × Outcome)
  pub drained : List ℕ
  pub reserved : List Reserved
  pub ended : List ℕ
  pub submits : ℕ
  pub helpers : ℕ
  pub closed : Bool

abbrev pub facts_of : List Event → Facts
facts_of history =
    record {
      handed = handed history;
      begun = begun history;
      finished = finished history;
      drained = flat_map drained_in history;
      reserved = filter_map reserved_in history;
      ended = filter_map ended_in history;
      submits = count_by is_submit history;
      helpers = count_by is_helper_new history;
      closed = list_any is_close history;
    }

abbrev pub has_begun : List Begun → ℕ → Bool
has_begun begun id = list_any (λ b. b.id == id) begun

abbrev pub has_finished : List (ℕ × Outcome) → ℕ → Bool
has_finished finished id = list_any (λ f. f.0 == id) finished

abbrev pub work_in : List Handed → ℕ → Option Handed
work_in handed id = find (λ w. w.id == id) handed

abbrev pub thread_in : List Reserved → ℕ → Option ℕ
thread_in reserved helper = option_map (λ r. r.thread) (find (λ r. r.helper == helper) reserved)

-- whether a helper is ended and its works are finished
abbrev pub over_in : List ℕ → List (ℕ × Outcome) → List Handed → ℕ → Bool
over_in ended finished handed helper =
    is_among ended helper && list_all (λ w. has_finished finished w.id) (filter (is_for helper) handed)

-- whether a work is for the helper, or general where none is named
abbrev pub is_of : Option ℕ → Handed → Bool
is_of None w = is_general w
is_of (Some helper) w = is_for helper w

abbrev pub task_of : Handed → Task
task_of w = record { id = w.id; work = w.work }

-- the works for the helper, or the general ones, that are not begun
abbrev pub unbegun : List Handed → List Begun → Option ℕ → List Task
unbegun handed begun helper = map task_of (filter (λ w. is_of helper w && not (has_begun begun w.id)) handed)

-- what runs on the thread
abbrev pub running_on : List Begun → List (ℕ × Outcome) → ℕ → List Begun
running_on begun finished t = filter (λ b. b.thread == t && not (has_finished finished b.id)) begun

-- for whom the thread is reserved
abbrev pub held_on : List Reserved → List ℕ → List (ℕ × Outcome) → List Handed → ℕ → List Reserved
held_on reserved ended finished handed t =
    filter (λ r. r.thread == t && not (over_in ended finished handed r.helper)) reserved

-- how many general works run
abbrev pub general_in : List Handed → List Begun → List (ℕ × Outcome) → ℕ
general_in handed begun finished =
    count_by (λ w. is_general w && has_begun begun w.id && not (has_finished finished w.id)) handed
