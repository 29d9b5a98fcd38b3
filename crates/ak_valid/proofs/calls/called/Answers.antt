use Rattle.std.proofs.Common.{◌≡◌, Some, List, ℕ, sym, ap, ◌∙◌}
use Rattle.ak_script.specs.declared.script.Param.{Param}
use Rattle.ak_valid.specs.Valid.{proc_named}
use Rattle.ak_valid.specs.Faults.{takes_faults, least}
use Rattle.ak_valid.proofs.calls.called.Goals as goal

pub returns-in-Some : goal.returns-in-Some
returns-in-Some c =
    let found : proc_named c.args.procs.now c.args.proc.now ≡ Some c.in-Some.found.now =
    ap (λ (name : List ℕ). proc_named c.args.procs.now name) (sym c.as_slice.ensures) ∙ sym c.in-Some.ensures in
    rw found (c.takes.ensures c.args.proc.now
    ∙ ap (λ (params : List Param). least
    (takes_faults c.args.locals.now params (record { name = c.args.proc.now; front = c.args.in_front; args = c.args.args.now })))
    c.as_slice-in-Some.ensures)
