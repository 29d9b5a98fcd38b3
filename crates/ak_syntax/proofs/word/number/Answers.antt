use Rattle.std.proofs.Common.{IfSome, FitsSigned, w64, rules}
use Rattle.ak_syntax.proofs.Numbers.{number_is}
use Rattle.ak_syntax.proofs.word.number.Goals as goal

pub returns : goal.returns
returns c = let fits : IfSome c.read_num.result (λ n. FitsSigned w64 n) = search rules in number_is c.args.word.now c.read_num.result c.read_num.ensures fits
