use Rattle.ak_cells.specs.Names.{name_in}
use Rattle.ak_exec.proofs.Asking.{helper_bound}
use Rattle.ak_exec.proofs.asks.resume.Goals as goal

pub run_lines-requires-in-Helper-clause-way : goal.run_lines-requires-in-Helper-clause-way
run_lines-requires-in-Helper-clause-way c =
    let way = rw c.in-Helper.is at c.requires.way
    in rw c.in_ok-add_helper-in-Helper.ensures
    (rw c.in_ok-bound-in-Helper.ensures
    (rw (helper_bound (name_in c.args.parts.now.names) c.in-Helper.no c.in-Helper.granted c.args.rest.vals) way.1))

pub returns-in_ok-bound-in-Helper-clause-runs : goal.returns-in_ok-bound-in-Helper-clause-runs
returns-in_ok-bound-in-Helper-clause-runs c =
    rw c.in-Helper.is
    (rw (← helper_bound (name_in c.args.parts.now.names) c.in-Helper.no c.in-Helper.granted c.args.rest.vals)
    (rw c.in_ok-bound-in-Helper.ensures at (rw c.in_ok-add_helper-in-Helper.ensures at c.run_lines-in-Helper.ensures.runs)))
