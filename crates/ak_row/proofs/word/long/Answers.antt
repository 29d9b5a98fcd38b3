use Rattle.std.proofs.Common.{IfSome, ◌<◌, ◌^◌, rules}
use Rattle.ak_row.proofs.Numbers.{long_is}
use Rattle.ak_row.proofs.word.long.Goals as goal

pub returns : goal.returns
returns c = let fits : IfSome c.read_u64.result (λ n. n < 2 ^ 64) = search rules in long_is c.args.word.now c.read_u64.result c.read_u64.ensures fits
