-- What every throttle keeps of its bodies: those that started are in front, and behind them are none but those that wait or were
-- dropped; at most so many run, and while one waits, so many do. Own.
use Rattle.std.specs.Prelude.{ℕ, ◌<◌, ◌≤◌, ◌≡◌, List, Bool, false, not, length, count_by}
use Rattle.ak_throttle.specs.declared.stage.Mark.{Mark}
use Rattle.ak_throttle.specs.Throttle.{Throttle}
use Rattle.ak_throttle.specs.Seen.{throttle_of}

-- a throttle of which so many bodies have started
pub record HasStarted {B : Type 0} (t : Throttle B) (n : ℕ) : Type 0 where
  pub most : ℕ
  pub stop : Bool
  pub dead : Bool
  pub overs : List Bool
  pub lost : ℕ
  pub bodies : List B
  pub marks : List Mark
  pub is : t ≡ throttle_of most stop dead overs lost bodies marks
  pub few : count_by not overs ≤ most
  pub full : dead ≡ false → 0 < length bodies → count_by not overs ≡ most
  pub started : length overs ≡ n
