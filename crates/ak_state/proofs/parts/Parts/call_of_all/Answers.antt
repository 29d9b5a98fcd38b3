use Rattle.std.proofs.Common.{◌≡◌, ◌++◌, Some, get_or, None, sym, ap, ◌∙◌, arith, rules, w64, to_z, of_z, SFits}
use Rattle.std.proofs.lemmas.Int.{to_z-of_z}
use Rattle.ak_cells.specs.Names.{name_in}
use Rattle.ak_choice.specs.Groups.{all_numbers}
use Rattle.ak_machine.specs.Groups.{group_at}
use Rattle.ak_machine.specs.Mapped.{purpose_mapped, callback_mapped}
use Rattle.ak_state.specs.Groups.{call_of_all}
use Rattle.ak_state.proofs.Choices.{all_few, part_next, parts_end, all_call_is}
use Rattle.ak_state.proofs.parts.Parts.call_of_all.Goals as goal

pub loop-num-init : goal.loop-num-init
loop-num-init c =
    let f = name_in c.args.self.now.names
    in let is = sym c.purpose.ensures ∙ ap (purpose_mapped f) c.in-ForAll.is
    in record {
      few = all_few c.args.g c.args.self.now.plain c.requires.fits c.requires.group (callback_mapped f c.in-ForAll.call) is;
      below = omega arith;
      vals = ap Some (sym c.in_ok-vals.ensures.items);
    }

pub loop-num-preserved : goal.loop-num-preserved
loop-num-preserved c =
    let inv = c.loop-num.invariant
    in let parts = (group_at c.args.g c.args.self.now.plain).parts
    in let v = to_z w64 (of_z w64 c.in-Some.num)
    in let fits : SFits w64 c.in-Some.num = search rules
    in let z : v ≡ c.in-Some.num = to_z-of_z w64 c.in-Some.num fits
    in let here : Some c.in-Some.num ≡ get_or parts c.loop-num.k None = rw (← c.self.view_is) (sym c.in-Some.is ∙ c.part.ensures)
    in let next = part_next parts c.loop-num.k v c.loop-num.vals.items (ap Some z ∙ here) inv.vals
    in rw c.in_ok-push.ensures.items (record { few = inv.few; below = next.below; vals = next.vals })

pub returns : goal.returns
returns c =
    let f = name_in c.args.self.now.names
    in let plain = c.args.self.now.plain
    in let parts = (group_at c.args.g plain).parts
    in let is = sym c.purpose.ensures ∙ ap (purpose_mapped f) c.in-ForAll.is
    in let ended : c.part.result ≡ None = search rules
    in let none : None ≡ get_or parts c.loop-num.k None = rw (← c.self.view_is) (sym ended ∙ c.part.ensures)
    in let all : c.from_vec.result ≡ c.loop-num.vals.items ++ c.in-ForAll.call.vals = search rules
    in all_call_is f c.in-ForAll.call (all_numbers parts) c.loop-num.vals.items c.from_vec.result
    (parts_end parts c.loop-num.k c.loop-num.vals.items c.requires.all none c.loop-num.invariant.vals) all
    ∙ ap (λ x. call_of_all x c.args.g plain) (sym is)
