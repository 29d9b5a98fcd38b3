use Rattle.std.proofs.Common.{◌≡◌, ◌≤◌, ◌-◌, length, map, take}
use Rattle.std.specs.Prelude.{Some}
use Rattle.std.specs.Option.{option_map}
use Rattle.ak_choice.specs.Groups.{all_numbers}
use Rattle.ak_frames.specs.declared.value.Value.TheVariants.{Num}
use Rattle.ak_machine.specs.Groups.{group_at}
use Rattle.ak_state.proofs.parts.Parts.call_of_all.Given as goal

-- the numbers of the parts so far
abbrev pub invariant-loop-num : goal.invariant-loop-num
invariant-loop-num l =
    let parts = (group_at l.g l.self.plain).parts
    in record {
      few : length parts ≤ 8;
      below : l.k ≤ length parts;
      vals : option_map (map Num) (all_numbers (take l.k parts)) ≡ Some l.vals.items;
    }

abbrev pub decreases-loop-num : goal.decreases-loop-num
decreases-loop-num l = length (group_at l.g l.self.plain).parts - l.k
