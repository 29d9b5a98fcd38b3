-- What the reads of a pipe get in a run, and what was written to the pipe. From Async's documentation of `Pipe`. A read is told by the
-- procedure to which it gives its item.
use Rattle.std.specs.Prelude.{ℕ, ℤ, ◌≡◌, ◌≤◌, List, [], ◌∷◌, ◌++◌, length, map, take, Bool, false, not, ◌&&◌, ◌==◌, nat_lt, if◌then◌else◌}
use Rattle.std.specs.List.{flat_map, Contains, AllByRecursion}
use Rattle.ak_frames.specs.declared.value.Value.{Value}
use Rattle.ak_frames.specs.declared.value.Value.TheVariants.{Num}
use Rattle.ak_frames.specs.declared.frame.Ret.{Ret}
use Rattle.ak_frames.specs.declared.frame.Frame.TheVariants.{Call}
use Rattle.ak_frames.specs.declared.frame.Task.{Task}
use Rattle.ak_program.specs.declared.statement.NumStmt.{NumStmt}
use Rattle.ak_program.specs.declared.statement.NumStmt.TheVariants as stmt
use Rattle.ak_rings.specs.declared.job.Job.{Job}
use Rattle.ak_pipe.specs.Pipe.{items_of}
use Rattle.ak_machine.specs.declared.held.Read.{Read}
use Rattle.ak_machine.specs.State.{State}
use Rattle.ak_machine.specs.Deferred.{plain_task}
use Rattle.ak_machine.specs.Pipes.{pipe_at}
use Rattle.ak_machine.specs.Effect.{name_in, number_in}
use Rattle.ak_ledger.specs.Tallies.{proc_of}
use Rattle.ak_laws.specs.Executed.{Executed}

-- whether pipe q is pipe p, and is there
abbrev pub is_meant : ℕ → ℕ → State → Bool
is_meant p q s = (q == p) && nat_lt p (length s.pipes)

-- whether it takes numbers, too
abbrev pub is_open : ℕ → ℕ → State → Bool
is_open p q s = is_meant p q s && not (pipe_at p s).closed

-- a number goes to the oldest of these reads, where one waits
abbrev pub served : List Read → ℤ → List (ℕ × ℤ)
served [] v = []
served (r ∷ reads) v = (proc_of r, v) ∷ []

-- a read takes the front one of these items, where there is one
abbrev pub front_taken : ℕ → List ℤ → List (ℕ × ℤ)
front_taken proc [] = []
front_taken proc (v ∷ items) = (proc, v) ∷ []

-- a number for pipe q is written to pipe p
abbrev pub written : ℕ → ℕ → ℤ → State → List ℤ
written p q v s = if is_open p q s then v ∷ [] else []

-- and taken by a read that waits there
abbrev pub taken : ℕ → ℕ → ℤ → State → List (ℕ × ℤ)
taken p q v s = if is_open p q s then served (pipe_at p s).reads v else []

-- the number that a statement writes to pipe p
abbrev pub writes : ℕ → NumStmt → List Value → State → List ℤ
writes p (stmt.Write r q a) vals s = written p (name_in vals q) (number_in vals a) s
writes p (stmt.Put q a) vals s = written p (name_in vals q) (number_in vals a) s
writes p st vals s = []

-- the read of pipe p that a statement makes
abbrev pub reads : ℕ → NumStmt → List Value → State → List ℕ
reads p (stmt.Read r q proc args eof eof_args) vals s = if is_meant p (name_in vals q) s then proc ∷ [] else []
reads p st vals s = []

-- the read of pipe p that gets a number by a statement, with the number: one that waited for it, or one that finds an item
abbrev pub gets : ℕ → NumStmt → List Value → State → List (ℕ × ℤ)
gets p (stmt.Write r q a) vals s = taken p (name_in vals q) (number_in vals a) s
gets p (stmt.Put q a) vals s = taken p (name_in vals q) (number_in vals a) s
gets p (stmt.Read r q proc args eof eof_args) vals s =
    if is_meant p (name_in vals q) s then front_taken proc (items_of (pipe_at p s)) else []
gets p st vals s = []

-- what was written to a pipe, in order
abbrev pub written_to : ℕ → List Executed → List ℤ
written_to p executed = flat_map (λ x. writes p x.stmt x.vals x.state) executed

-- the reads of it that were made, in order
abbrev pub reads_of : ℕ → List Executed → List ℕ
reads_of p executed = flat_map (λ x. reads p x.stmt x.vals x.state) executed

-- those that got a number, with the number, in order
abbrev pub got_from : ℕ → List Executed → List (ℕ × ℤ)
got_from p executed = flat_map (λ x. gets p x.stmt x.vals x.state) executed

-- a read that gets a number is called with it: of the jobs that are new after a statement one calls the procedure of the read, with
-- the number put first
pub record IsCalled (before after : State) (got : ℕ × ℤ) : Type 0 where
  pub job : Job Task
  pub vals : List Value
  pub ret : Ret
  pub waits : Contains (after.queues.normal ++ after.queues.low) job
  pub is_new : before.queues.next ≤ job.no
  pub calls : job.frame ≡ plain_task (Call got.0 (Num got.1 ∷ vals) ret)

-- the reads that get a number by a statement are called by it
abbrev pub AreCalled : ℕ → Executed → Type 0
AreCalled p x = AllByRecursion (IsCalled x.state x.after) (gets p x.stmt x.vals x.state)

-- the numbers that reads of a pipe got are the first ones that were written to it, in order, each once; the reads are the first that
-- were made, in order, each once; what they did not get are the items of the pipe, while its reader is open; and each read is called
-- with the number that it gets
pub record ReadsGetWhatWasWritten (p : ℕ) (executed : List Executed) (s : State) : Type 0 where
  pub numbers : take (length (got_from p executed)) (written_to p executed) ≡ map (λ got. got.1) (got_from p executed)
  pub readers : take (length (got_from p executed)) (reads_of p executed) ≡ map (λ got. got.0) (got_from p executed)
  pub others : (pipe_at p s).reader_closed ≡ false
      → map (λ got. got.1) (got_from p executed) ++ items_of (pipe_at p s) ≡ written_to p executed
  pub called : AllByRecursion (AreCalled p) executed
