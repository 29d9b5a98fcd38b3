use Rattle.std.proofs.Common.{◌≡◌, refl, ap, ◌∙◌}
use Rattle.std.proofs.lemmas.Result.{err_from_is_err_and}
use Rattle.ak_valid.specs.Numbered.{ask_of}
use Rattle.ak_valid.proofs.Sound.{valid_sound}
use Rattle.ak_valid.proofs.Whole.{made, refused_later}
use Rattle.ak_valid.proofs.validate.validate.Goals as goal

pub returns-in_err-numbered-clause-err : goal.returns-in_err-numbered-clause-err
returns-in_err-numbered-clause-err c =
    let p = err_from_is_err_and c.from_residual-in_err-numbered.result c.from_residual-in_err-numbered.ensures.1 in
    let procs : c.as_slice.result.now ≡ c.args.script = c.as_slice.ensures ∙ c.into_procs-procs.ensures.value in
    let again : c.as_slice-2.result.now ≡ c.args.script = c.as_slice-2.ensures ∙ c.into_procs-procs.ensures.value in
    let firsts = rw procs at c.in_ok-named.ensures in
    let fault = rw again at c.in_err-numbered.ensures.err in
    rw (p.1) (refused_later c.args.script c.in_ok-named.named c.in_err-numbered.field-0.0 p.0 firsts c.in_ok-main.ensures.ok.0 p.2 fault)

pub new-requires : goal.new-requires
new-requires c =
    let procs : c.as_slice.result.now ≡ c.args.script = c.as_slice.ensures ∙ c.into_procs-procs.ensures.value in
    let again : c.as_slice-2.result.now ≡ c.args.script = c.as_slice-2.ensures ∙ c.into_procs-procs.ensures.value in
    let firsts = rw procs at c.in_ok-named.ensures in
    let lines = rw again at c.in_ok-numbered.ensures.ok in
    let all = made c.args.script c.in_ok-named.named c.in_ok-main.main c.in_ok-numbered.numbered firsts c.in_ok-main.ensures.ok lines in
    let served : c.as_slice-3.result.now ≡ c.args.script = c.as_slice-3.ensures ∙ c.into_procs-procs.ensures.value in
    let ask : c.ask-ask.result ≡ ask_of c.args.script = c.ask-ask.ensures ∙ ap ask_of served in
    let formed = rw (c.into_procs-procs.ensures.value) at c.into_procs-procs.ensures.formed in
    rw (all.procs, all.main, ask) (valid_sound c.args.script all.valid formed)

pub returns-clause-ok : goal.returns-clause-ok
returns-clause-ok c =
    let procs : c.as_slice.result.now ≡ c.args.script = c.as_slice.ensures ∙ c.into_procs-procs.ensures.value in
    let again : c.as_slice-2.result.now ≡ c.args.script = c.as_slice-2.ensures ∙ c.into_procs-procs.ensures.value in
    let firsts = rw procs at c.in_ok-named.ensures in
    let lines = rw again at c.in_ok-numbered.ensures.ok in
    let all = made c.args.script c.in_ok-named.named c.in_ok-main.main c.in_ok-numbered.numbered firsts c.in_ok-main.ensures.ok lines in
    let served : c.as_slice-3.result.now ≡ c.args.script = c.as_slice-3.ensures ∙ c.into_procs-procs.ensures.value in
    let ask : c.ask-ask.result ≡ ask_of c.args.script = c.ask-ask.ensures ∙ ap ask_of served in
    (all.valid, c.new.ensures ∙ rw (all.procs, all.main, ask) refl)
