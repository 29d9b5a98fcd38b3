use Rattle.std.proofs.Common.{arith}
use Rattle.ak_cells.proofs.Connects.{sides_resolved}
use Rattle.ak_cells.proofs.links.resolve_sides.Goals as goal

pub returns-clause-sides : goal.returns-clause-sides
returns-clause-sides g c =
    let a = c.resolve-to.ensures
    in let b = c.resolve-from.ensures
    in sides_resolved c.args.cells.now.rows c.resolve-to.new.cells.rows c.resolve-from.new.cells.rows c.args.r c.args.s
    (record { to = c.resolve-to.result; from = c.resolve-from.result }) a.forest b.forest a.shortened b.shortened a.end b.end a.cell b.cell

pub returns-clause-cost : goal.returns-clause-cost
returns-clause-cost g c =
    let a = c.resolve-to.ensures.cost
    in let b = c.resolve-from.ensures.cost
    in let f = c.resolve-to.ensures.shortened.fewer c.args.s
    in omega (arith, a, b, f)
