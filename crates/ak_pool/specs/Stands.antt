-- That what a pool keeps beside its history is what the history leaves.
use Rattle.std.specs.Prelude.{ℕ, suc, ◌<◌, ◌≡◌, List, [], ◌∷◌, filter, find, length, count_by, true, false, not, ◌==◌, Option, Some, None}
use Rattle.ak_labor.specs.declared.work.Outcome.{Outcome}
use Rattle.ak_labor.specs.Waits.{Handed}
use Rattle.ak_history.specs.Events.{Begun, Reserved, is_among}
use Rattle.ak_pool.specs.declared.task.Task.{Task}
use Rattle.ak_pool.specs.Threads.{ThreadState, runs_general}
use Rattle.ak_pool.specs.Desks.{DeskState, thread_at}
use Rattle.ak_pool.specs.Facts.{Facts, has_begun, has_finished, work_in, thread_in, unbegun, running_on, held_on, general_in}

-- each item of a list
abbrev pub Each : {A : Type 0} → (A → Type 0) → List A → Type 0
Each P [] = Unit {0}
Each P (x ∷ xs) = P x × Each P xs

-- works are numbered one after another
abbrev pub AreNumbered : ℕ → List Handed → Type 0
AreNumbered n [] = Unit {0}
AreNumbered n (w ∷ ws) = (w.id ≡ n) × AreNumbered (suc n) ws

abbrev pub begun_list : ℕ → Option Task → List Begun
begun_list t None = []
begun_list t (Some task) = record { thread = t; id = task.id } ∷ []

abbrev pub reserved_list : ℕ → Option ℕ → List Reserved
reserved_list t None = []
reserved_list t (Some helper) = record { helper = helper; thread = t } ∷ []

-- what a thread runs was handed in, for the helper that has the thread
abbrev pub IsTaskFor : List Handed → Option ℕ → Option Task → Type 0
IsTaskFor handed helper None = Unit {0}
IsTaskFor handed helper (Some task) =
    work_in handed task.id ≡ Some (record { id = task.id; work = task.work; helper = helper })

-- a thread that is reserved has its helper's works that are not begun, and knows whether the helper is ended
abbrev pub IsQueueFor : List Handed → List Begun → List ℕ → Option ℕ → ThreadState → Type 0
IsQueueFor handed begun ended None t = (t.queue ≡ []) × (t.ended ≡ false)
IsQueueFor handed begun ended (Some helper) t =
    (t.queue ≡ unbegun handed begun (Some helper)) × (t.ended ≡ is_among ended helper)

pub record ThreadStands (handed : List Handed) (begun : List Begun) (finished : List (ℕ × Outcome)) (reserved : List Reserved)
    (ended : List ℕ) (place : ℕ) (t : ThreadState) : Type 0 where
  pub running : running_on begun finished place ≡ begun_list place t.running
  pub task : IsTaskFor handed t.helper t.running
  pub held : held_on reserved ended finished handed place ≡ reserved_list place t.helper
  pub queue : IsQueueFor handed begun ended t.helper t

-- a helper's work runs on the helper's thread
abbrev pub IsOn : List Reserved → ℕ → Option ℕ → Type 0
IsOn reserved thread None = Unit {0}
IsOn reserved thread (Some helper) = thread_in reserved helper ≡ Some thread

-- a work that is begun was handed in, and is begun once
pub record IsBegunOnce (handed : List Handed) (reserved : List Reserved) (begun : List Begun) (b : Begun) : Type 0 where
  pub work : Handed
  pub is : work_in handed b.id ≡ Some work
  pub on : IsOn reserved b.thread work.helper
  pub once : find (λ (x : Begun). x.id == b.id) begun ≡ Some b

-- a helper that is granted has a number below the next one, and one thread
pub record IsGrantedOnce (size : ℕ) (helpers : ℕ) (reserved : List Reserved) (r : Reserved) : Type 0 where
  pub known : r.helper < helpers
  pub exists : r.thread < size
  pub once : thread_in reserved r.helper ≡ Some r.thread

abbrev pub IsKnown : ℕ → Option ℕ → Type 0
IsKnown helpers None = Unit {0}
IsKnown helpers (Some helper) = helper < helpers

pub record Stands (threads : ℕ) (f : Facts) (s : DeskState) : Type 0 where
  pub size : length s.threads ≡ threads
  pub submits : s.submits ≡ f.submits
  pub helpers : s.helpers ≡ f.helpers
  pub closed : s.closed ≡ f.closed
  pub handed_all : f.submits ≡ length f.handed
  pub numbered : AreNumbered 0 f.handed
  pub for_known : Each (λ w. IsKnown f.helpers w.helper) f.handed
  pub begun_once : Each (IsBegunOnce f.handed f.reserved f.begun) f.begun
  pub begun_exists : Each (λ b. b.thread < threads) f.begun
  pub begun_first : Each (λ x. has_begun f.begun x.0 ≡ true) f.finished
  pub finished_first : Each (λ id. has_finished f.finished id ≡ true) f.drained
  pub granted_once : Each (IsGrantedOnce threads f.helpers f.reserved) f.reserved
  pub ended_known : Each (λ h. h < f.helpers) f.ended
  pub waiting : s.waiting ≡ unbegun f.handed f.begun None
  pub owed : s.owed ≡ filter (λ x. not (is_among f.drained x.0)) f.finished
  pub each_thread : (t : ℕ) → t < threads → ThreadStands f.handed f.begun f.finished f.reserved f.ended t (thread_at s t)
  pub general : general_in f.handed f.begun f.finished ≡ count_by runs_general s.threads
