use Rattle.std.proofs.Common.{rules, ◌≡◌, [], refl}
use Rattle.ak_script.specs.Statements.{binds}
use Rattle.ak_valid.proofs.Binding.{nothing_more}
use Rattle.ak_valid.proofs.binds.statement.Goals as goal

pub returns-in_default : goal.returns-in_default
returns-in_default c = let none : binds c.args.stmt.now ≡ [] = search rules in rw none (refl, λ h. nothing_more c.args.locals.now)
