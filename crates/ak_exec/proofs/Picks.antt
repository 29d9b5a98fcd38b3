-- Picks of jobs that fit.
use Rattle.std.proofs.Common.{ℕ, List, [], ◌∷◌, Bool, true, false, cond, nat_lt}
use Rattle.std.specs.Prelude.{Option, Some, None, IfSome}
use Rattle.std.specs.List.{AllByRecursion}
use Rattle.ak_base.specs.Lists.{rest_of}
use Rattle.ak_rings.specs.declared.job.Job.{Job}
use Rattle.ak_rings.specs.Queues.{first_under, pick_or, pick_of, picked_by}
use Rattle.ak_frames.specs.declared.frame.Task.{Task}
use Rattle.ak_program.specs.declared.program.NumProc.{NumProc}
use Rattle.ak_machine.specs.State.{State}
use Rattle.ak_state.specs.Seen.{without_pick}
use Rattle.ak_state.specs.Drawn.{Drawn, drawn, More}
use Rattle.ak_state.specs.Fits.{JobFits, StateFits, Fits}
use Rattle.ak_state.proofs.Fitting.{held_grows}

-- ---- jobs that fit
under_fits : (program : List NumProc) (n : Drawn) (ran limit : ℕ) (jobs : List (Job Task)) → AllByRecursion (JobFits program n) jobs
    → IfSome (first_under ran limit jobs) (JobFits program n)
under_fits program n ran limit [] h = tt
under_fits program n ran limit (job ∷ jobs) h = by (nat_lt ran limit)
  where
    by : (b : Bool) → IfSome (cond b (Some job) None) (JobFits program n)
    by true = h.0
    by false = tt

or_fits : (program : List NumProc) (n : Drawn) (a b : Option (Job Task)) → IfSome a (JobFits program n) → IfSome b (JobFits program n)
    → IfSome (pick_or a b) (JobFits program n)
or_fits program n (Some job) b p q = p
or_fits program n None b p q = q

pub pick_fits : (program : List NumProc) (n : Drawn) (s : State) → StateFits program n s → IfSome (pick_of s.queues) (JobFits program n)
pick_fits program n s f =
    or_fits program n (first_under s.queues.normal_ran s.queues.limit s.queues.normal) (first_under s.queues.low_ran s.queues.limit s.queues.low)
    (under_fits program n s.queues.normal_ran s.queues.limit s.queues.normal f.normal) (under_fits program n s.queues.low_ran s.queues.limit s.queues.low f.low)

rest_fits : {A : Type 0} (P : A → Type 0) (xs : List A) → AllByRecursion P xs → AllByRecursion P (rest_of xs)
rest_fits P [] h = tt
rest_fits P (x ∷ xs) h = h.1

by_fits : (program : List NumProc) (n : Drawn) (a b : Option (Job Task)) (s : State) → StateFits program n s
    → StateFits program n (record s { queues = picked_by a b s.queues })
by_fits program n (Some job) b s f = record {
  root = f.root;
  handlers = f.handlers;
  normal = rest_fits (JobFits program n) s.queues.normal f.normal;
  low = f.low;
  monitors = f.monitors;
  purposes = f.purposes;
  clock = f.clock;
  throttles = f.throttles;
  pipes = f.pipes;
  works = f.works;
}
by_fits program n None (Some job) s f = record {
  root = f.root;
  handlers = f.handlers;
  normal = f.normal;
  low = rest_fits (JobFits program n) s.queues.low f.low;
  monitors = f.monitors;
  purposes = f.purposes;
  clock = f.clock;
  throttles = f.throttles;
  pipes = f.pipes;
  works = f.works;
}
by_fits program n None None s f = record {
  root = f.root;
  handlers = f.handlers;
  normal = f.normal;
  low = f.low;
  monitors = f.monitors;
  purposes = f.purposes;
  clock = f.clock;
  throttles = f.throttles;
  pipes = f.pipes;
  works = f.works;
}

pub left_fits : (program : List NumProc) (s : State) → Fits program s → Fits program (without_pick s)
left_fits program s f =
    by_fits program (drawn s) (first_under s.queues.normal_ran s.queues.limit s.queues.normal)
    (first_under s.queues.low_ran s.queues.limit s.queues.low) s f

-- the picked job still fits
pub picked_grows : (program : List NumProc) (n n' : Drawn) → More n n' → (o : Option (Job Task)) → IfSome o (JobFits program n) → IfSome o (JobFits program n')
picked_grows program n n' h None f = tt
picked_grows program n n' h (Some job) f = held_grows program n n' h job.ctx job.frame.frame f
