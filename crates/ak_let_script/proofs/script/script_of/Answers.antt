use Rattle.std.proofs.Common.{ap, ◌∙◌}
use Rattle.ak_let_text.specs.Named.{named}
use Rattle.ak_let_text.specs.Text.{script_text}
use Rattle.ak_let_script.proofs.Translated.{if_ok, translated}
use Rattle.ak_let_script.proofs.script.script_of.Goals as goal

pub returns-clause-script : goal.returns-clause-script
returns-clause-script c =
    let source = c.args.source.now
    in if_ok c.write_script.result
    (λ bytes e. translated source bytes.items
    (e ∙ ap (λ procs. script_text (named procs)) (c.as_slice.ensures ∙ c.in_ok-procs.ensures))
    (c.text_is_read.ensures source c.requires)
    (c.script_is_valid.ensures source c.requires)
    (c.compiled_is_numbered.ensures source c.requires)
    (c.compiled_is_correct.ensures source c.requires.sound)
    (c.procedures_are_few.ensures source))
    c.write_script.ensures
