use Rattle.std.proofs.Common.{sym, ◌∙◌}
use Rattle.ak_valid.proofs.Tables.{proc_added, proc_kept}
use Rattle.ak_valid.proofs.procs.Procs.add.Goals as goal

pub invariant_of-self : goal.invariant_of-self
invariant_of-self c =
    (proc_added c.self.inside.procs.entries c.insert.new.self.entries c.as_slice-name.result c.args.proc c.args.self.now c.self.invariant
    c.self.view_is c.as_slice-name.ensures
    (sym c.contains_key.ensures ∙ c.if-not-contains_key.true) c.in_ok-insert.ensures.entries).keyed

pub returns-in_ok-insert : goal.returns-in_ok-insert
returns-in_ok-insert c =
    let put = proc_added c.self.inside.procs.entries c.insert.new.self.entries c.as_slice-name.result c.args.proc c.args.self.now
    c.self.invariant c.self.view_is c.as_slice-name.ensures
    (sym c.contains_key.ensures ∙ c.if-not-contains_key.true) c.in_ok-insert.ensures.entries in
    rw (put.absent) put.grown

pub returns-else-not-contains_key : goal.returns-else-not-contains_key
returns-else-not-contains_key c =
    proc_kept c.self.inside.procs.entries c.as_slice-name.result c.args.proc.now c.args.self.now c.self.invariant c.self.view_is
    c.as_slice-name.ensures (sym c.contains_key.ensures ∙ c.if-not-contains_key.false)
