-- Picks of jobs whose names are mapped.
use Rattle.std.proofs.Common.{◌≡◌, ℕ, List, [], ◌∷◌, map, refl, ap, ◌∙◌, Bool, true, false, cond, nat_lt}
use Rattle.std.specs.Prelude.{Option, Some, None}
use Rattle.std.specs.Option.{option_map}
use Rattle.ak_base.specs.Lists.{rest_of, is_empty_list}
use Rattle.ak_rings.specs.declared.job.Job.{Job}
use Rattle.ak_rings.specs.Queues.{Queues, first_under, pick_or, pick_of, picked_by, picked_from, is_some_job, has_pick, has_no_job}
use Rattle.ak_frames.specs.declared.frame.Task.{Task}
use Rattle.ak_machine.specs.Mapped.{job_mapped, queues_mapped}

under_mapped : (f : ℕ → ℕ) (ran limit : ℕ) (jobs : List (Job Task))
    → first_under ran limit (map (job_mapped f) jobs) ≡ option_map (job_mapped f) (first_under ran limit jobs)
under_mapped f ran limit [] = refl
under_mapped f ran limit (job ∷ jobs) = by (nat_lt ran limit)
  where
    by : (b : Bool) → cond b (Some (job_mapped f job)) None ≡ option_map (job_mapped f) (cond b (Some job) None)
    by true = refl
    by false = refl

or_mapped : (f : ℕ → ℕ) (a b : Option (Job Task))
    → pick_or (option_map (job_mapped f) a) (option_map (job_mapped f) b) ≡ option_map (job_mapped f) (pick_or a b)
or_mapped f (Some job) b = refl
or_mapped f None b = refl

pub pick_mapped : (f : ℕ → ℕ) (q : Queues Task) → pick_of (queues_mapped f q) ≡ option_map (job_mapped f) (pick_of q)
pick_mapped f q =
    ap (λ a. pick_or a (first_under q.low_ran q.limit (map (job_mapped f) q.low))) (under_mapped f q.normal_ran q.limit q.normal)
    ∙ ap (λ b. pick_or (option_map (job_mapped f) (first_under q.normal_ran q.limit q.normal)) b) (under_mapped f q.low_ran q.limit q.low)
    ∙ or_mapped f (first_under q.normal_ran q.limit q.normal) (first_under q.low_ran q.limit q.low)

some_mapped : (f : ℕ → ℕ) (o : Option (Job Task)) → is_some_job (option_map (job_mapped f) o) ≡ is_some_job o
some_mapped f (Some job) = refl
some_mapped f None = refl

pub has_pick_mapped : (f : ℕ → ℕ) (q : Queues Task) → has_pick (queues_mapped f q) ≡ has_pick q
has_pick_mapped f q = ap is_some_job (pick_mapped f q) ∙ some_mapped f (pick_of q)

empty_mapped : (f : ℕ → ℕ) (jobs : List (Job Task)) → is_empty_list (map (job_mapped f) jobs) ≡ is_empty_list jobs
empty_mapped f [] = refl
empty_mapped f (job ∷ jobs) = refl

pub no_job_mapped : (f : ℕ → ℕ) (q : Queues Task) → has_no_job (queues_mapped f q) ≡ has_no_job q
no_job_mapped f q = rw (empty_mapped f q.normal, empty_mapped f q.low) refl

rest_mapped : (f : ℕ → ℕ) (jobs : List (Job Task)) → rest_of (map (job_mapped f) jobs) ≡ map (job_mapped f) (rest_of jobs)
rest_mapped f [] = refl
rest_mapped f (job ∷ jobs) = refl

by_mapped : (f : ℕ → ℕ) (a b : Option (Job Task)) (q : Queues Task)
    → picked_by (option_map (job_mapped f) a) (option_map (job_mapped f) b) (queues_mapped f q) ≡ queues_mapped f (picked_by a b q)
by_mapped f (Some job) b q = rw (rest_mapped f q.normal) refl
by_mapped f None (Some job) q = rw (rest_mapped f q.low) refl
by_mapped f None None q = refl

pub picked_mapped : (f : ℕ → ℕ) (q : Queues Task) → picked_from (queues_mapped f q) ≡ queues_mapped f (picked_from q)
picked_mapped f q =
    ap (λ a. picked_by a (first_under q.low_ran q.limit (map (job_mapped f) q.low)) (queues_mapped f q)) (under_mapped f q.normal_ran q.limit q.normal)
    ∙ ap (λ b. picked_by (option_map (job_mapped f) (first_under q.normal_ran q.limit q.normal)) b (queues_mapped f q)) (under_mapped f q.low_ran q.limit q.low)
    ∙ by_mapped f (first_under q.normal_ran q.limit q.normal) (first_under q.low_ran q.limit q.low) q
