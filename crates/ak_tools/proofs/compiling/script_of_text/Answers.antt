use Rattle.std.proofs.Common.{◌≡◌, rules}
use Rattle.std.specs.Prelude.{Err}
use Rattle.ak_let_syntax.specs.declared.refusal.LetRefused.{LetRefused}
use Rattle.ak_tools.specs.Status.{status_by_refusal}
use Rattle.ak_tools.proofs.Scripts.{only_memory, refused_so}
use Rattle.ak_tools.proofs.compiling.script_of_text.Goals as goal

pub returns-in_err-compile-clause-refuses : goal.returns-in_err-compile-clause-refuses
returns-in_err-compile-clause-refuses c line fault has =
    let e : LetRefused = c.in_err-compile.field-0.0 in
    let refused : c.from_residual.result ≡ Err (status_by_refusal e) = search rules in
    rw refused (refused_so c.compile.result e line fault c.in_err-compile.was (c.compile.ensures.fault line fault has))

pub returns-in_err-compile-clause-accepts : goal.returns-in_err-compile-clause-accepts
returns-in_err-compile-clause-accepts c source is =
    let e : LetRefused = c.in_err-compile.field-0.0 in
    let refused : c.from_residual.result ≡ Err (status_by_refusal e) = search rules in
    rw refused (only_memory e (c.in_err-compile.ensures.source source is))
