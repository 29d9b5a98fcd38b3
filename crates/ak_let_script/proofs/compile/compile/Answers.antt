use Rattle.std.proofs.Common.{◌≡◌, subst, refl, rules}
use Rattle.std.specs.Prelude.{Err}
use Rattle.ak_let.specs.declared.source.Source.{Source}
use Rattle.ak_let_syntax.specs.declared.refusal.LetRefused.{LetRefused}
use Rattle.ak_let_syntax.specs.declared.refusal.LetRefused.TheVariants.{At, NoMemory}
use Rattle.ak_let_syntax.specs.Answers.{Gives}
use Rattle.ak_let_script.specs.Script.{IsScriptOf}
use Rattle.ak_let_script.proofs.compile.compile.Goals as goal

-- a source is not refused for a fault
only_memory : (e : LetRefused) (source : Source) → Gives {T = Source} (Err e) source → e ≡ NoMemory
only_memory (At line number) source h = absurd h
only_memory NoMemory source h = refl

pub returns-in_err-source-clause-source : goal.returns-in_err-source-clause-source
returns-in_err-source-clause-source c source is =
    let e : LetRefused = c.in_err-source.field-0.0
    in let refused : c.from_residual.result ≡ Err e = search rules
    in rw refused (only_memory e source (c.in_err-source.ensures.source source is))

pub returns-clause-source : goal.returns-clause-source
returns-clause-source c source is =
    let same : c.in_ok-source.source ≡ source = c.in_ok-source.ensures.source source is
    in subst (λ (s : Source). IsScriptOf s c.in_ok-script.script.items) same c.in_ok-script.ensures.script
