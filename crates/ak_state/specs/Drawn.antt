-- How many things of each sort were drawn.
use Rattle.std.specs.Prelude.{ℕ, ◌≤◌, List, map, length, slice_index_or}
use Rattle.ak_choice.specs.Groups.{Group}
use Rattle.ak_machine.specs.State.{State}

pub record Drawn : Type 0 where
  pub ivars : ℕ
  pub monitors : ℕ
  pub groups : ℕ
  -- of each group, how many parts it has
  pub parts : List ℕ
  pub throttles : ℕ
  pub pipes : ℕ

-- how many parts each group has
abbrev pub parts_of : List Group → List ℕ
parts_of groups = map (λ (g : Group). length g.parts) groups

-- how many parts a group has; one that was not drawn has none
abbrev pub parts_at : ℕ → Drawn → ℕ
parts_at g n = slice_index_or n.parts g 0

-- what a state has drawn
abbrev pub drawn : State → Drawn
drawn s =
    record {
      ivars = length s.cells.ivars;
      monitors = length s.monitors;
      groups = length s.groups;
      parts = parts_of s.groups;
      throttles = length s.throttles;
      pipes = length s.pipes;
    }

-- as much, or more, of each sort
pub record More (n n' : Drawn) : Type 0 where
  pub ivars : n.ivars ≤ n'.ivars
  pub monitors : n.monitors ≤ n'.monitors
  pub groups : n.groups ≤ n'.groups
  pub parts : (g : ℕ) → parts_at g n ≤ parts_at g n'
  pub throttles : n.throttles ≤ n'.throttles
  pub pipes : n.pipes ≤ n'.pipes
