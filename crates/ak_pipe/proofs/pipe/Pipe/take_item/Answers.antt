use Rattle.ak_pipe.proofs.Kept.{kept_taken}
use Rattle.ak_pipe.proofs.pipe.Pipe.take_item.Goals as goal

pub invariant_of-self-2 : goal.invariant_of-self-2
invariant_of-self-2 g c =
    let p = c.self.inside
    in kept_taken p.past.written p.written p.consumed p.closed p.reader_closed p.items.items c.pop_front.new.self.items p.reads.items
    p.flushes.items c.in_ok-num.num c.self.invariant c.in_ok-num.ensures.items
