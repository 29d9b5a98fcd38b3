use Rattle.std.proofs.Common.{◌≡◌, ℕ, true, false, List, nat_lt, sym, ap, ◌∙◌, arith}
use Rattle.std.proofs.lemmas.Bool.Decides.{nat_tests}
use Rattle.ak_valid.specs.Numbered.{at}
use Rattle.ak_let_reader.specs.Numbered.{fun_names}
use Rattle.ak_let_reader.proofs.Firsts.{before_fault}
use Rattle.ak_let_reader.proofs.faults.named_before.Goals as goal

pub returns-then-place : goal.returns-then-place
returns-then-place c = λ before are.
    let there : c.place.result ≡ at (fun_names c.args.funs.now) c.args.fun.now.name =
    c.place.ensures ∙ ap (at (fun_names c.args.funs.now)) c.as_slice.ensures in
    let less : nat_lt (at (fun_names c.args.funs.now) c.args.fun.now.name) c.args.place ≡ true =
    rw (← there) (grind (arith, nat_tests, c.if-place.true)) in
    sym (before_fault c.args.funs.now c.args.place before c.args.fun.now.name true c.requires are less)

pub returns : goal.returns
returns c = λ before are.
    let there : c.place.result ≡ at (fun_names c.args.funs.now) c.args.fun.now.name =
    c.place.ensures ∙ ap (at (fun_names c.args.funs.now)) c.as_slice.ensures in
    let more : nat_lt (at (fun_names c.args.funs.now) c.args.fun.now.name) c.args.place ≡ false =
    rw (← there) (grind (arith, nat_tests, c.if-place.false)) in
    sym (before_fault c.args.funs.now c.args.place before c.args.fun.now.name false c.requires are more)
