use Rattle.std.proofs.Common.{◌≡◌, ◌∙◌, [], rules, Some, w64, to_z, of_z}
use Rattle.std.proofs.lemmas.Int.{to_z-of_z}
use Rattle.ak_base.specs.Lists.{first_of, rest_of}
use Rattle.ak_cells.specs.Names.{name_in}
use Rattle.ak_machine.specs.Deferred.{fill}
use Rattle.ak_state.specs.Seen.{doing}
use Rattle.ak_state.proofs.Errors.{fill_next, rest_drawn, seen_is}
use Rattle.ak_state.proofs.parts.Parts.fill_all.Goals as goal

pub loop-i-preserved : goal.loop-i-preserved
loop-i-preserved c =
    let e = to_z w64 (of_z w64 c.args.num)
    in let f = name_in c.args.self.now.names
    in let is = c.loop-i.waiting.items
    in let s = c.loop-i.self.plain
    in let front : first_of is ≡ Some c.in-Some.i = search rules
    in let rest : c.pop_front.new.self.items ≡ rest_of is = search rules
    in let done : c.fill.new.self ≡ doing (fill (f c.in-Some.i) e) c.loop-i.self = rw (← c.loop-i.invariant.names) c.in_ok-fill.ensures.filled
    in rw (done, rest) (record {
      drawn = rest_drawn f e s is (f c.in-Some.i) c.loop-i.invariant.drawn;
      names = c.loop-i.invariant.names;
      filled = fill_next f e s is c.in-Some.i front ∙ c.loop-i.invariant.filled;
    })

pub returns : goal.returns
returns c =
    let z : to_z w64 (of_z w64 c.args.num) ≡ c.args.num = to_z-of_z w64 c.args.num c.ranges.num
    in let none : c.loop-i.waiting.items ≡ [] = search rules
    in seen_is c.loop-i.self _ (rw (none, z) at c.loop-i.invariant.filled) c.loop-i.invariant.names
