use Rattle.std.proofs.Common.{rules, ◌≡◌, ◌++◌, ◌∷◌, [], ◌∙◌, ap}
use Rattle.std.specs.Prelude.{false}
use Rattle.ak_pipe.proofs.Kept.{kept_put, unread}
use Rattle.ak_pipe.proofs.pipe.Pipe.put_item.Goals as goal

pub invariant_of-self-2 : goal.invariant_of-self-2
invariant_of-self-2 g c =
    let p = c.self.inside
    in let alive : p.closed ≡ false = ap (λ q. q.closed) c.self.view_is ∙ c.requires.open
    in let more : c.then-self-inside.result.written ≡ p.past.written ++ c.args.num ∷ [] = search rules
    in let items : c.push_back_reserved.new.self.items ≡ p.items.items ++ c.args.num ∷ [] = search rules
    in kept_put p.past.written c.then-self-inside.result.written p.written p.consumed p.closed p.reader_closed p.items.items
    c.push_back_reserved.new.self.items p.reads.items p.flushes.items c.args.num c.self.invariant alive
    (unread p.closed p.reads.items alive (ap (λ q. q.reads) c.self.view_is ∙ c.requires.unread)) more items
