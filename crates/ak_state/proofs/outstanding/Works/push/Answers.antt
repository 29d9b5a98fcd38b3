use Rattle.std.proofs.Common.{◌≡◌, ◌+◌, ◌∙◌, ap, rules, List, arith, refl, ℕ}
use Rattle.std.specs.Map.{values_of}
use Rattle.std.specs.BTreeMap.{insert_entry}
use Rattle.std.specs.Ordering.{nat_cmp}
use Rattle.ak_machine.specs.declared.held.Outstanding.{Outstanding}
use Rattle.ak_state.specs.Works.{with_work}
use Rattle.ak_state.proofs.Kept.{few_helped, kept_in, values_in}
use Rattle.ak_state.proofs.outstanding.Works.push.Goals as goal

-- the entries with the work
more_is : (c : goal.After-self-2-1) → c.insert.new.self.entries ≡ insert_entry nat_cmp c.self.inside.out.entries c.self.inside.next
    (record { number = c.self.inside.next; to = c.args.to; ctx = c.args.ctx; helper = c.args.helper })
more_is c =
    let more : c.insert.new.self.entries ≡ insert_entry nat_cmp c.self.inside.out.entries c.self.inside.next
    (record { number = c.new-number.result; to = c.args.to; ctx = c.args.ctx; helper = c.args.helper }) = search rules
    in more ∙ ap (λ n. insert_entry nat_cmp c.self.inside.out.entries c.self.inside.next
    (record { number = n; to = c.args.to; ctx = c.args.ctx; helper = c.args.helper })) c.new-number.ensures

pub with_one-helped-requires : goal.with_one-helped-requires
with_one-helped-requires c =
    let few = few_helped c.self.inside.next c.self.inside.helped c.self.inside.out.entries c.self.invariant
    in omega (arith, few)

pub invariant_of-self-2 : goal.invariant_of-self-2
invariant_of-self-2 c =
    let p = c.self.inside
    in let new : Outstanding = record { number = p.next; to = c.args.to; ctx = c.args.ctx; helper = c.args.helper }
    in kept_in p.next p.helped c.with_one-helped.result new p.out.entries c.insert.new.self.entries c.self.invariant refl (more_is c) c.with_one-helped.ensures

pub returns-clause-ok : goal.returns-clause-ok
returns-clause-ok c =
    let p = c.self.inside
    in let new : Outstanding = record { number = p.next; to = c.args.to; ctx = c.args.ctx; helper = c.args.helper }
    in ap (λ (es : List (ℕ × Outstanding)). record { out = values_of es; next = p.next + 1 }) (more_is c)
    ∙ ap (λ (works : List Outstanding). record { out = works; next = p.next + 1 }) (values_in p.next p.helped new p.out.entries c.self.invariant refl)
    ∙ ap (with_work c.args.to c.args.ctx c.args.helper) c.self.view_is
