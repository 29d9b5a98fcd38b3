use Rattle.std.proofs.Common.{rules, ◌≡◌, ◌++◌, ◌∷◌, []}
use Rattle.ak_pipe.specs.declared.flush.Flush.{Flush}
use Rattle.ak_pipe.proofs.Kept.{kept_flush}
use Rattle.ak_pipe.proofs.pipe.Pipe.flushed.Goals as goal

pub invariant_of-self-2 : goal.invariant_of-self-2
invariant_of-self-2 g c =
    let p = c.self.inside
    in let flush : Flush = record { ivar = c.args.i; count = p.written }
    in let more : c.push_back.new.self.items ≡ p.flushes.items ++ flush ∷ [] = search rules
    in kept_flush p.past.written p.written p.consumed c.args.i p.closed p.reader_closed p.items.items p.reads.items p.flushes.items
    c.push_back.new.self.items c.self.invariant more
