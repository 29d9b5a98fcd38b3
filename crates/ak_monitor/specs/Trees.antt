-- What the list of monitors is: a tree, in which a parent is older than its children.
use Rattle.std.specs.Prelude.{ℕ, ◌<◌, ◌^◌, List, length}
use Rattle.ak_monitor.specs.Monitors.{Monitor, monitor_in}

-- there is a root, every other monitor lies below an older one, and their number fits a monitor's
pub record IsTree {H : Type 0} (monitors : List (Monitor H)) : Type 0 where
  pub some : 0 < length monitors
  pub few : length monitors < 2 ^ 32
  pub older : (m : ℕ) → m < length monitors → 0 < m → (monitor_in monitors m).parent < m
