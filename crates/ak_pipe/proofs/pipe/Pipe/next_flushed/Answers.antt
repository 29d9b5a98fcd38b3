use Rattle.std.proofs.Common.{◌∙◌, ap, sym}
use Rattle.ak_pipe.specs.Pipe as plain
use Rattle.ak_pipe.specs.Kept.{pipe_of}
use Rattle.ak_pipe.proofs.Kept.{kept_settled, settled_same, without_same}
use Rattle.ak_pipe.proofs.pipe.Pipe.next_flushed.Goals as goal

pub invariant_of-self : goal.invariant_of-self
invariant_of-self g c =
    let p = c.self.inside
    in kept_settled p.past.written p.written p.consumed p.closed p.reader_closed p.items.items p.reads.items p.flushes.items
    c.take_settled.new.flushes.items c.self.invariant c.take_settled.ensures.rest

pub returns-clause-front : goal.returns-clause-front
returns-clause-front g c =
    let p = c.self.inside
    in c.take_settled.ensures.front
    ∙ sym (settled_same (pipe_of p.budget p.past.written p.consumed p.closed p.reader_closed p.reads.items p.pushbacks.items
    p.flushes.items) p.written p.flushes.items c.self.invariant.ordered)
    ∙ ap plain.next_settlement c.self.view_is

pub returns-clause-rest : goal.returns-clause-rest
returns-clause-rest g c =
    let p = c.self.inside
    in ap (λ flushes. pipe_of p.budget p.past.written p.consumed p.closed p.reader_closed p.reads.items p.pushbacks.items flushes)
    (c.take_settled.ensures.rest
    ∙ sym (without_same (pipe_of p.budget p.past.written p.consumed p.closed p.reader_closed p.reads.items p.pushbacks.items
    p.flushes.items) p.written p.flushes.items c.self.invariant.ordered))
    ∙ ap plain.settled_taken c.self.view_is
