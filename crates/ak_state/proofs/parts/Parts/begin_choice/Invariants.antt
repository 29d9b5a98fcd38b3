use Rattle.std.proofs.Common.{◌≡◌, ◌<◌, length, map, drop}
use Rattle.ak_cells.specs.Names.{name_in}
use Rattle.ak_machine.specs.declared.held.Choosable.{Choosable}
use Rattle.ak_machine.specs.Groups.{choice_registered}
use Rattle.ak_state.proofs.parts.Parts.begin_choice.Given as goal

-- those that are left come to what all come to
abbrev pub invariant-loop-choice : goal.invariant-loop-choice
invariant-loop-choice l =
    let f = λ (choice : Choosable). name_in l.initial.self.names choice.deferred
    in record {
      group : l.group < length l.self.plain.groups;
      ivars : length l.self.plain.cells.ivars ≡ length l.initial.self.plain.cells.ivars;
      names : l.self.names ≡ l.initial.self.names;
      registered : choice_registered l.ctx l.group (map f (drop l.choice-index l.choice-items)) l.self.plain
          ≡ choice_registered l.ctx l.group (map f l.choice-items) l.initial.self.plain;
    }
