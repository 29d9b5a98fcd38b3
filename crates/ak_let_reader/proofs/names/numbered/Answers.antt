use Rattle.std.proofs.Common.{◌≡◌, true, is_none, codes, refl, sym, ap, ◌∙◌, rules}
use Rattle.std.specs.Option.{option_copied}
use Rattle.ak_let_syntax.specs.declared.refusal.LetFault.TheVariants.{NoMain}
use Rattle.ak_let_reader.specs.NameFaults.{fun_named}
use Rattle.ak_let_reader.proofs.Firsts.{none_copied, none_refused}
use Rattle.ak_let_reader.proofs.names.numbered.Goals as goal

pub returns-then-is_none-clause-err : goal.returns-then-is_none-clause-err
returns-then-is_none-clause-err c =
    let found : option_copied c.named-2.result ≡ fun_named c.args.funs.now (codes "main") = search rules in
    let none : is_none c.named-2.result ≡ true = search rules in
    rw (c.at.ensures)
    (NoMain, refl, none_refused c.args.funs.now (option_copied c.named-2.result) found (none_copied c.named-2.result true none))
