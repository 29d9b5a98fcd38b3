-- The steps of a throttle, on its bodies as they are kept.
use Rattle.std.proofs.Common.{ℕ, zero, suc, ◌+◌, ◌≡◌, List, [], ◌∷◌, ◌++◌, map, length, refl, ap, ◌∙◌, Bool, true, false, cond, arith}
use Rattle.std.specs.Prelude.{not, nat_lt, count_by, Some, None, slice_get, slice_set}
use Rattle.std.proofs.lemmas.List.{append-nil}
use Rattle.std.proofs.lemmas.List.Sums.{sum_by-cons}
use Rattle.ak_throttle.specs.declared.stage.Stage.{Stage}
use Rattle.ak_throttle.specs.declared.stage.Stage.TheVariants.{Waiting, Running, Over}
use Rattle.ak_throttle.specs.declared.stage.Mark.{Mark}
use Rattle.ak_throttle.specs.Throttle.{has_room, is_running, front_waiting, started_at, started_by_end, after_end, body_over, never_started, waiting_bodies, killed}
use Rattle.ak_throttle.specs.Seen.{stage_of, waits, behind, bodies_of, dropped_of, throttle_of, front_started, overs_after, waiting_after, lost_after}

-- 1 for a body that runs
abbrev one : {B : Type 0} → Stage B → ℕ
one stage = cond (is_running stage) 1 0

abbrev one_not_over : Bool → ℕ
one_not_over over = cond (not over) 1 0

same_one : (B : Type 0) (over : Bool) → one (stage_of {B = B} over) ≡ one_not_over over
same_one B true = refl
same_one B false = refl

running_started : {B : Type 0} (overs : List Bool) (rest : List (Stage B)) → count_by is_running (map stage_of overs ++ rest)
    ≡ count_by not overs + count_by is_running rest
running_started [] rest = omega arith
running_started {B} (o ∷ os) rest =
    omega (arith, sum_by-cons one (stage_of o) (map stage_of os ++ rest), sum_by-cons one_not_over o os, same_one B o, running_started os rest)

running_behind : {B : Type 0} (dead : Bool) (lost : ℕ) (bodies : List B) → count_by is_running (behind dead lost bodies) ≡ 0
running_behind false lost [] = refl
running_behind false lost (b ∷ bs) = running_behind false lost bs
running_behind true zero bodies = refl
running_behind true (suc lost) bodies = running_behind true lost bodies

-- those that run have started
pub running_same : {B : Type 0} (dead : Bool) (overs : List Bool) (lost : ℕ) (bodies : List B)
    → count_by is_running (bodies_of dead overs lost bodies) ≡ count_by not overs
running_same dead overs lost bodies = omega (arith, running_started overs (behind dead lost bodies), running_behind dead lost bodies)

-- the body of a number runs where it started and is not over
runs_started : {B : Type 0} (overs : List Bool) (rest : List (Stage B)) (n : ℕ) → ((k : ℕ) → slice_get rest k ≡ Some Running → ⊥)
    → slice_get (map stage_of overs ++ rest) n ≡ Some Running → slice_get overs n ≡ Some false
runs_started [] rest n none e = absurd (none n e)
runs_started (true ∷ os) rest zero none e = cc
runs_started (false ∷ os) rest zero none e = refl
runs_started (o ∷ os) rest (suc n) none e = runs_started os rest n none e

runs_not_behind : {B : Type 0} (dead : Bool) (lost : ℕ) (bodies : List B) (k : ℕ) → slice_get (behind dead lost bodies) k ≡ Some Running → ⊥
runs_not_behind false lost [] k e = cc
runs_not_behind false lost (b ∷ bs) zero e = cc
runs_not_behind false lost (b ∷ bs) (suc k) e = runs_not_behind false lost bs k e
runs_not_behind true zero bodies k e = cc
runs_not_behind true (suc lost) bodies zero e = cc
runs_not_behind true (suc lost) bodies (suc k) e = runs_not_behind true lost bodies k e

pub runs_in : {B : Type 0} (dead : Bool) (overs : List Bool) (lost : ℕ) (bodies : List B) (n : ℕ)
    → slice_get (bodies_of dead overs lost bodies) n ≡ Some Running → slice_get overs n ≡ Some false
runs_in dead overs lost bodies n e = runs_started overs (behind dead lost bodies) n (runs_not_behind dead lost bodies) e

-- one that started is over
over_started : {B : Type 0} (overs : List Bool) (rest : List (Stage B)) (n : ℕ) → slice_get overs n ≡ Some false
    → slice_set (map stage_of overs ++ rest) n Over ≡ map stage_of (slice_set overs n true) ++ rest
over_started [] rest n e = cc
over_started (o ∷ os) rest zero e = refl
over_started (o ∷ os) rest (suc n) e = ap (λ r. stage_of o ∷ r) (over_started os rest n e)

-- the first that waits is behind those that started
front_behind : {B : Type 0} (k : ℕ) (overs : List Bool) (rest : List (Stage B))
    → front_waiting k (map stage_of overs ++ rest) ≡ front_waiting (k + length overs) rest
front_behind k [] rest = ap (λ n. front_waiting n rest) (omega arith)
front_behind k (true ∷ os) rest = front_behind (k + 1) os rest ∙ ap (λ n. front_waiting n rest) (omega arith)
front_behind k (false ∷ os) rest = front_behind (k + 1) os rest ∙ ap (λ n. front_waiting n rest) (omega arith)

-- it starts
front_runs : {B : Type 0} (overs : List Bool) (b : B) (rest : List (Stage B))
    → slice_set (map stage_of overs ++ (Waiting b ∷ rest)) (length overs) Running ≡ map stage_of (overs ++ false ∷ []) ++ rest
front_runs [] b rest = refl
front_runs (o ∷ os) b rest = ap (λ r. stage_of o ∷ r) (front_runs os b rest)

no_front_lost : {B : Type 0} (k lost : ℕ) (bodies : List B) → front_waiting k (behind true lost bodies) ≡ None
no_front_lost k zero bodies = refl
no_front_lost k (suc lost) bodies = no_front_lost (k + 1) lost bodies

front_of_behind : {B : Type 0} (dead : Bool) (n lost : ℕ) (bodies : List B) → front_waiting n (behind dead lost bodies) ≡ front_started dead n bodies
front_of_behind false n lost [] = refl
front_of_behind false n lost (b ∷ bs) = refl
front_of_behind true n lost bodies = no_front_lost n lost bodies

-- the first that waits, when some that started are over
front_same : {B : Type 0} (dead : Bool) (overs : List Bool) (lost : ℕ) (bodies : List B)
    → front_waiting 0 (bodies_of dead overs lost bodies) ≡ front_started dead (length overs) bodies
front_same dead overs lost bodies =
    front_behind 0 overs (behind dead lost bodies)
    ∙ ap (λ n. front_waiting n (behind dead lost bodies)) (omega arith)
    ∙ front_of_behind dead (length overs) lost bodies

pub started_same : {B : Type 0} (most : ℕ) (stop dead : Bool) (overs : List Bool) (lost : ℕ) (bodies : List B) (marks : List Mark) (n : ℕ)
    → slice_get overs n ≡ Some false → started_by_end n (throttle_of most stop dead overs lost bodies marks)
    ≡ front_started dead (length (slice_set overs n true)) bodies
started_same most stop dead overs lost bodies marks n e =
    ap (front_waiting 0) (over_started overs (behind dead lost bodies) n e) ∙ front_same dead (slice_set overs n true) lost bodies

-- a body that runs is over
pub over_same : {B : Type 0} (most : ℕ) (stop dead : Bool) (overs : List Bool) (lost : ℕ) (bodies : List B) (marks : List Mark) (n : ℕ)
    → slice_get overs n ≡ Some false → body_over n (throttle_of most stop dead overs lost bodies marks)
    ≡ throttle_of most stop dead (slice_set overs n true) lost bodies marks
over_same most stop dead overs lost bodies marks n e =
    ap (λ stages. record { most = most; stop = stop; dead = dead; bodies = stages; dropped = dropped_of dead bodies; marks = marks })
    (over_started overs (behind dead lost bodies) n e)

start_same : {B : Type 0} (most : ℕ) (stop dead : Bool) (overs : List Bool) (lost : ℕ) (bodies : List B) (marks : List Mark)
    → started_at (front_started dead (length overs) bodies) (throttle_of most stop dead overs lost bodies marks)
    ≡ throttle_of most stop dead (overs_after dead overs bodies) lost (waiting_after dead bodies) marks
start_same most stop true overs lost bodies marks = refl
start_same most stop false overs lost [] marks = refl
start_same most stop false overs lost (b ∷ bs) marks =
    ap (λ stages. record { most = most; stop = stop; dead = false; bodies = stages; dropped = []; marks = marks }) (front_runs overs b (map waits bs))

-- a body that runs ends
pub after_same : {B : Type 0} (most : ℕ) (stop dead : Bool) (overs : List Bool) (lost : ℕ) (bodies : List B) (marks : List Mark) (n : ℕ)
    → slice_get overs n ≡ Some false → after_end n (throttle_of most stop dead overs lost bodies marks)
    ≡ throttle_of most stop dead (overs_after dead (slice_set overs n true) bodies) lost (waiting_after dead bodies) marks
after_same most stop dead overs lost bodies marks n e =
    ap (λ front. started_at front (body_over n (throttle_of most stop dead overs lost bodies marks))) (started_same most stop dead overs lost bodies marks n e)
    ∙ ap (started_at (front_started dead (length (slice_set overs n true)) bodies)) (over_same most stop dead overs lost bodies marks n e)
    ∙ start_same most stop dead (slice_set overs n true) lost bodies marks

never_behind : {B : Type 0} (dead : Bool) (lost : ℕ) (bodies : List B) → map never_started (behind dead lost bodies)
    ≡ behind true (lost_after dead lost bodies) bodies
never_behind false lost [] = refl
never_behind false lost (b ∷ bs) = ap (λ r. Over ∷ r) (never_behind false lost bs)
never_behind true zero bodies = refl
never_behind true (suc lost) bodies = ap (λ r. Over ∷ r) (never_behind true lost bodies)

never_started_same : {B : Type 0} (overs : List Bool) (rest : List (Stage B)) → map never_started (map stage_of overs ++ rest)
    ≡ map stage_of overs ++ map never_started rest
never_started_same [] rest = refl
never_started_same (true ∷ os) rest = ap (λ r. Over ∷ r) (never_started_same os rest)
never_started_same (false ∷ os) rest = ap (λ r. Running ∷ r) (never_started_same os rest)

waiting_started : {B : Type 0} (overs : List Bool) (rest : List (Stage B)) → waiting_bodies (map stage_of overs ++ rest) ≡ waiting_bodies rest
waiting_started [] rest = refl
waiting_started (true ∷ os) rest = waiting_started os rest
waiting_started (false ∷ os) rest = waiting_started os rest

waiting_behind : {B : Type 0} (dead : Bool) (lost : ℕ) (bodies : List B) → dropped_of dead bodies ++ waiting_bodies (behind dead lost bodies) ≡ bodies
waiting_behind false lost [] = refl
waiting_behind false lost (b ∷ bs) = ap (λ r. b ∷ r) (waiting_behind false lost bs)
waiting_behind true zero bodies = append-nil bodies
waiting_behind true (suc lost) bodies = waiting_behind true lost bodies

-- the throttle is dead
killed_same : {B : Type 0} (most : ℕ) (stop dead : Bool) (overs : List Bool) (lost : ℕ) (bodies : List B) (marks : List Mark)
    → killed (throttle_of most stop dead overs lost bodies marks) ≡ throttle_of most stop true overs
    (lost_after dead lost bodies) bodies marks
killed_same most stop dead overs lost bodies marks =
    ap (λ stages. record {
      most = most;
      stop = stop;
      dead = true;
      bodies = stages;
      dropped = dropped_of dead bodies ++ waiting_bodies (map stage_of overs ++ behind dead lost bodies);
      marks = marks;
    })
    (never_started_same overs (behind dead lost bodies) ∙ ap (λ r. map stage_of overs ++ r) (never_behind dead lost bodies))
    ∙ ap (λ dropped. record {
      most = most;
      stop = stop;
      dead = true;
      bodies = bodies_of true overs (lost_after dead lost bodies) bodies;
      dropped = dropped;
      marks = marks;
    })
    (ap (λ r. dropped_of dead bodies ++ r) (waiting_started overs (behind dead lost bodies)) ∙ waiting_behind dead lost bodies)

-- a body that runs fails and stops the throttle
pub stopped_same : {B : Type 0} (most : ℕ) (stop dead : Bool) (overs : List Bool) (lost : ℕ) (bodies : List B) (marks : List Mark) (n : ℕ)
    → slice_get overs n ≡ Some false → killed (body_over n (throttle_of most stop dead overs lost bodies marks))
    ≡ throttle_of most stop true (slice_set overs n true) (lost_after dead lost bodies) bodies marks
stopped_same most stop dead overs lost bodies marks n e =
    ap killed (over_same most stop dead overs lost bodies marks n e) ∙ killed_same most stop dead (slice_set overs n true) lost bodies marks

-- whether fewer bodies run than may
pub room_same : {B : Type 0} (most : ℕ) (stop dead : Bool) (overs : List Bool) (lost : ℕ) (bodies : List B) (marks : List Mark)
    → has_room (throttle_of most stop dead overs lost bodies marks) ≡ nat_lt (count_by not overs) most
room_same most stop dead overs lost bodies marks = ap (λ n. nat_lt n most) (running_same dead overs lost bodies)
