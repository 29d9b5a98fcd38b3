use Rattle.std.proofs.Common.{rules, ◌≡◌, ◌+◌, ◌++◌, ◌∷◌, [], ◌∙◌, ap, length, cond}
use Rattle.std.specs.Prelude.{false, nat_le}
use Rattle.ak_pipe.specs.Pipe as plain
use Rattle.ak_pipe.specs.Kept.{IsKept}
use Rattle.ak_pipe.proofs.Kept.{kept_put, unread, write_same}
use Rattle.ak_pipe.proofs.pipe.Pipe.write_item.Goals as goal

kept : (g : _) (c : goal.After-push_unless g)
    → IsKept {R = g.row.R.Denot} c.then-self-inside.result.written (c.self.inside.written + 1) c.self.inside.consumed c.self.inside.closed
    c.self.inside.reader_closed c.push_back_reserved.new.self.items c.self.inside.reads.items c.self.inside.flushes.items
kept g c =
    let p = c.self.inside
    in let alive : p.closed ≡ false = ap (λ q. q.closed) c.self.view_is ∙ c.requires.open
    in let more : c.then-self-inside.result.written ≡ p.past.written ++ c.args.num ∷ [] = search rules
    in let items : c.push_back_reserved.new.self.items ≡ p.items.items ++ c.args.num ∷ [] = search rules
    in kept_put p.past.written c.then-self-inside.result.written p.written p.consumed p.closed p.reader_closed p.items.items
    c.push_back_reserved.new.self.items p.reads.items p.flushes.items c.args.num c.self.invariant alive
    (unread p.closed p.reads.items alive (ap (λ q. q.reads) c.self.view_is ∙ c.requires.unread)) more items

pub invariant_of-self-2 : goal.invariant_of-self-2
invariant_of-self-2 g c = kept g c

pub returns-clause-wrote : goal.returns-clause-wrote
returns-clause-wrote g c =
    let p = c.self.inside
    in let alive : p.closed ≡ false = ap (λ q. q.closed) c.self.view_is ∙ c.requires.open
    in let more : c.then-self-inside.result.written ≡ p.past.written ++ c.args.num ∷ [] = search rules
    in let free : nat_le c.len.result p.budget ≡ nat_le (length c.push_back_reserved.new.self.items) p.budget = search rules
    in let pushed : c.push_unless.new.pushbacks.items ≡ cond (nat_le c.len.result p.budget) p.pushbacks.items
    (p.pushbacks.items ++ c.args.i ∷ []) = search rules
    in (write_same p.budget p.past.written c.then-self-inside.result.written p.consumed p.closed p.reader_closed p.reads.items
    p.pushbacks.items c.push_unless.new.pushbacks.items p.flushes.items c.args.num c.args.i c.push_back_reserved.new.self.items
    (nat_le c.len.result p.budget)
    alive (unread p.closed p.reads.items alive (ap (λ q. q.reads) c.self.view_is ∙ c.requires.unread)) more (kept g c).left free pushed).0
    ∙ ap (plain.wrote c.args.num) c.self.view_is

pub returns-clause-ok : goal.returns-clause-ok
returns-clause-ok g c =
    let p = c.self.inside
    in let alive : p.closed ≡ false = ap (λ q. q.closed) c.self.view_is ∙ c.requires.open
    in let more : c.then-self-inside.result.written ≡ p.past.written ++ c.args.num ∷ [] = search rules
    in let free : nat_le c.len.result p.budget ≡ nat_le (length c.push_back_reserved.new.self.items) p.budget = search rules
    in let pushed : c.push_unless.new.pushbacks.items ≡ cond (nat_le c.len.result p.budget) p.pushbacks.items
    (p.pushbacks.items ++ c.args.i ∷ []) = search rules
    in (write_same p.budget p.past.written c.then-self-inside.result.written p.consumed p.closed p.reader_closed p.reads.items
    p.pushbacks.items c.push_unless.new.pushbacks.items p.flushes.items c.args.num c.args.i c.push_back_reserved.new.self.items
    (nat_le c.len.result p.budget)
    alive (unread p.closed p.reads.items alive (ap (λ q. q.reads) c.self.view_is ∙ c.requires.unread)) more (kept g c).left free pushed).1
    ∙ ap (plain.after_write c.args.num c.args.i) c.self.view_is
