-- How the bodies of a throttle are kept: those that started, by whether they are over, and those that did not, which wait or
-- were dropped.
use Rattle.std.specs.Prelude.{ℕ, ◌<◌, ◌≤◌, ◌^◌, ◌≡◌, List, [], ◌∷◌, ◌++◌, map, replicate, Bool, true, false, not, nat_le, Option, Some, None, length, count_by, if◌then◌else◌}
use Rattle.ak_base.specs.Lists.{rest_of}
use Rattle.ak_throttle.specs.declared.stage.Stage.{Stage}
use Rattle.ak_throttle.specs.declared.stage.Stage.TheVariants.{Waiting, Running, Over}
use Rattle.ak_throttle.specs.declared.stage.Mark.{Mark}
use Rattle.ak_throttle.specs.Started.{Started}
use Rattle.ak_throttle.specs.Throttle.{Throttle}

-- how far a body that started came, by whether it is over
abbrev pub stage_of : {B : Type 0} → Bool → Stage B
stage_of true = Over
stage_of false = Running

-- a body that waits
abbrev pub waits : {B : Type 0} → B → Stage B
waits body = Waiting body

-- the bodies behind those that started: they wait, or, where the throttle is dead, so many were dropped
abbrev pub behind : {B : Type 0} → Bool → ℕ → List B → List (Stage B)
behind false lost bodies = map waits bodies
behind true lost bodies = replicate lost Over

-- all bodies
abbrev pub bodies_of : {B : Type 0} → Bool → List Bool → ℕ → List B → List (Stage B)
bodies_of dead overs lost bodies = map stage_of overs ++ behind dead lost bodies

-- the bodies that were dropped and not fetched
abbrev pub dropped_of : {B : Type 0} → Bool → List B → List B
dropped_of false bodies = []
dropped_of true bodies = bodies

-- the throttle with these bodies
abbrev pub throttle_of : {B : Type 0} → ℕ → Bool → Bool → List Bool → ℕ → List B → List Mark → Throttle B
throttle_of most stop dead overs lost bodies marks =
    record {
      most = most;
      stop = stop;
      dead = dead;
      bodies = bodies_of dead overs lost bodies;
      dropped = dropped_of dead bodies;
      marks = marks;
    }

-- marks in order, from a number of bodies on up to another
abbrev pub AreMarks : ℕ → ℕ → List Mark → Type 0
AreMarks low high [] = Unit
AreMarks low high (mark ∷ marks) = (low ≤ mark.count) × (mark.count ≤ high) × AreMarks mark.count high marks

-- what every throttle keeps: at most so many run; while one waits, so many do; and there is room to start those that wait
pub record IsKept {B : Type 0} (most : ℕ) (dead : Bool) (started : Started) (lost : ℕ) (bodies : List B) (marks : List Mark) : Type 0 where
  pub some : 0 < most
  pub few : count_by not started.overs ≤ most
  pub full : dead ≡ false → 0 < length bodies → count_by not started.overs ≡ most
  pub room : dead ≡ false → length bodies ≤ started.spare
  pub small : length (bodies_of dead started.overs lost bodies) < 2 ^ 32
  pub ordered : AreMarks 0 (length (bodies_of dead started.overs lost bodies)) marks

-- the front body starts, where the throttle lives and one waits
abbrev pub front_started : {B : Type 0} → Bool → ℕ → List B → Option (ℕ × B)
front_started true n bodies = None
front_started false n [] = None
front_started false n (body ∷ bodies) = Some (n, body)

-- those that started, when the front one has
abbrev pub overs_after : {B : Type 0} → Bool → List Bool → List B → List Bool
overs_after true overs bodies = overs
overs_after false overs [] = overs
overs_after false overs (body ∷ bodies) = overs ++ false ∷ []

-- those that wait, when the front one has started
abbrev pub waiting_after : {B : Type 0} → Bool → List B → List B
waiting_after true bodies = bodies
waiting_after false bodies = rest_of bodies

-- how many were dropped, when the throttle is dead
abbrev pub lost_after : {B : Type 0} → Bool → ℕ → List B → ℕ
lost_after true lost bodies = lost
lost_after false lost bodies = length bodies

-- the deferred of the oldest mark, where it reaches no further than so many bodies
abbrev pub reached : ℕ → List Mark → Option ℕ
reached n [] = None
reached n (mark ∷ marks) = if nat_le mark.count n then Some mark.ivar else None

-- the marks without that one
abbrev pub without_reached : ℕ → List Mark → List Mark
without_reached n [] = []
without_reached n (mark ∷ marks) = if nat_le mark.count n then marks else mark ∷ marks
