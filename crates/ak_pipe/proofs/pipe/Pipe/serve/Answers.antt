use Rattle.std.proofs.Common.{rules, arith, ◌≡◌, ◌<◌, ◌+◌, ◌++◌, ◌∷◌, [], ◌∙◌, ap, sym, length}
use Rattle.std.specs.Prelude.{nat_le}
use Rattle.std.proofs.lemmas.Bool.{le-leb}
use Rattle.ak_pipe.specs.Kept.{IsKept}
use Rattle.ak_pipe.proofs.Kept.{kept_served, read_waits}
use Rattle.ak_pipe.proofs.pipe.Pipe.serve.Goals as goal

kept : (g : _) (c : goal.After-pop_front g)
    → IsKept {R = g.row.R.Denot} c.then-self-inside.result.written (c.self.inside.written + 1)
    (c.self.inside.consumed + 1) c.self.inside.closed c.self.inside.reader_closed c.self.inside.items.items c.pop_front.new.self.items
    c.self.inside.flushes.items
kept g c =
    let p = c.self.inside
    in let some : 0 < length c.args.self.now.reads = c.requires.waiting
    in let waits = read_waits p.closed p.reads.items (omega (arith, some, ap (λ q. length q.reads) c.self.view_is))
    in let more : c.then-self-inside.result.written ≡ p.past.written ++ c.args.num ∷ [] = search rules
    in kept_served p.past.written c.then-self-inside.result.written p.written p.consumed p.closed p.reader_closed p.items.items
    p.reads.items c.pop_front.new.self.items p.flushes.items c.args.num c.self.invariant waits.0 waits.1 more

pub invariant_of-self : goal.invariant_of-self
invariant_of-self g c = kept g c

pub returns-clause-free : goal.returns-clause-free
returns-clause-free g c =
    let p = c.self.inside
    in let some : 0 < length c.args.self.now.reads = c.requires.waiting
    in let waits = read_waits p.closed p.reads.items (omega (arith, some, ap (λ q. length q.reads) c.self.view_is))
    in let none : p.items.items ≡ [] = c.self.invariant.hungry waits.0 waits.1
    in ap (λ items. nat_le (length items) p.budget) (sym (kept g c).left ∙ none) ∙ le-leb 0 p.budget (omega arith)
