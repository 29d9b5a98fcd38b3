use Rattle.std.proofs.Common.{◌≡◌, [], take, drop, refl, sym, ◌∙◌, arith}
use Rattle.std.proofs.lemmas.List.{take_all}
use Rattle.std.proofs.lemmas.Result.{err_from_is_err_and}
use Rattle.ak_valid.specs.Numbered.{numbered_proc, proc_names}
use Rattle.ak_valid.specs.Faults.{first_fault, procs_lines}
use Rattle.ak_valid.proofs.Firsts.{procs_refused, procs_walked}
use Rattle.ak_valid.proofs.LeastKinds.{drop_end}
use Rattle.ak_valid.proofs.Mapping.{mapped_next}
use Rattle.ak_valid.proofs.validate.number_procs.Goals as goal

pub loop-proc-init : goal.loop-proc-init
loop-proc-init c = record { faults = rw (c.in_ok-seen.ensures) refl; so_far = c.from_vec-numbered.ensures ∙ c.in_ok-with_capacity.ensures.items }

pub returns-in_err-locals-clause-err : goal.returns-in_err-locals-clause-err
returns-in_err-locals-clause-err c =
    let p = err_from_is_err_and c.from_residual-in_err-locals.result c.from_residual-in_err-locals.ensures.1 in
    rw (p.1, p.2) (procs_refused c.args.named.now c.loop-proc.seen c.args.procs.now c.loop-proc.proc-index c.proc-item.result
    (first_fault (procs_lines c.args.named.now [] c.args.procs.now)) c.in_err-locals.field-0.0
    (omega arith) c.proc-item.is c.loop-proc.invariant.faults c.in_err-locals.ensures.err)

pub loop-proc-preserved : goal.loop-proc-preserved
loop-proc-preserved c = record {
  faults = procs_walked c.args.named.now c.loop-proc.seen c.proc.new.seen c.args.procs.now c.loop-proc.proc-index c.proc-item.result _
      (omega arith) c.proc-item.is c.loop-proc.invariant.faults c.in_ok-locals.ensures.ok.0 c.in_ok-locals.ensures.ok.1;
  so_far = mapped_next (numbered_proc (proc_names c.args.named.now)) c.args.procs.now c.loop-proc.proc-index c.proc-item.result
      c.loop-proc.numbered c.push.new.self _ (omega arith) c.proc-item.is c.loop-proc.invariant.so_far c.in_ok-push.ensures.ok
      c.in_ok-proc.ensures;
}

pub returns : goal.returns
returns c =
    let whole : take c.loop-proc.proc-index c.args.procs.now ≡ c.args.procs.now = take_all c.loop-proc.proc-index c.args.procs.now (omega arith) in
    let none : drop c.loop-proc.proc-index c.args.procs.now ≡ [] = drop_end c.args.procs.now c.loop-proc.proc-index (omega arith) in
    record { ok = (sym (rw none at c.loop-proc.invariant.faults), rw whole at c.loop-proc.invariant.so_far); err = tt }
