use Rattle.std.proofs.Common.{◌≡◌, ◌∙◌, ap, sym, rules, ℕ, List}
use Rattle.std.specs.Prelude.{Some, None, filter, find}
use Rattle.std.specs.Map.{values_of, lookup, remove_entry}
use Rattle.std.specs.BTreeMap.{is_at}
use Rattle.std.specs.Ordering.{nat_cmp}
use Rattle.ak_machine.specs.declared.held.Outstanding.{Outstanding}
use Rattle.ak_machine.specs.Cycle.{is_work, is_other_work}
use Rattle.ak_state.specs.Works.{WorksOut}
use Rattle.ak_state.proofs.Kept.{found_in, none_taken, values_out, helped_there, kept_out}
use Rattle.ak_state.proofs.outstanding.Works.take.Goals as goal

-- what is left of the works
abbrev left_of : ℕ → WorksOut → WorksOut
left_of w s = record { out = filter (is_other_work w) s.out; next = s.next }

pub returns-in_err-work-clause-work : goal.returns-in_err-work-clause-work
returns-in_err-work-clause-work c =
    let p = c.self.inside
    in let none : lookup (is_at (nat_cmp c.args.no)) p.out.entries ≡ None = search rules
    in c.from_residual.ensures ∙ sym none ∙ found_in p.next p.helped c.args.no p.out.entries c.self.invariant
    ∙ ap (λ (s : WorksOut). find (is_work c.args.no) s.out) c.self.view_is

pub returns-in_err-work-clause-rest : goal.returns-in_err-work-clause-rest
returns-in_err-work-clause-rest c =
    let p = c.self.inside
    in let none : lookup (is_at (nat_cmp c.args.no)) p.out.entries ≡ None = search rules
    in let same : c.remove.new.self.entries ≡ p.out.entries = search rules
    in ap (λ (es : List (ℕ × Outstanding)). record { out = values_of es; next = p.next }) same
    ∙ ap (λ (works : List Outstanding). record { out = works; next = p.next })
    (sym (none_taken p.next p.helped c.args.no p.out.entries c.self.invariant none))
    ∙ ap (left_of c.args.no) c.self.view_is

pub without_one-self-inside-requires : goal.without_one-self-inside-requires
without_one-self-inside-requires c =
    let p = c.self.inside
    in let found : lookup (is_at (nat_cmp c.args.no)) p.out.entries ≡ Some c.in_ok-work.work = search rules
    in helped_there p.next p.helped c.args.no c.in_ok-work.work p.out.entries c.self.invariant found

pub invariant_of-self-2 : goal.invariant_of-self-2
invariant_of-self-2 c =
    let p = c.self.inside
    in let found : lookup (is_at (nat_cmp c.args.no)) p.out.entries ≡ Some c.in_ok-work.work = search rules
    in let left : c.remove.new.self.entries ≡ remove_entry (is_at (nat_cmp c.args.no)) p.out.entries = search rules
    in kept_out p.next p.helped c.without_one-self-inside.result c.args.no c.in_ok-work.work p.out.entries c.remove.new.self.entries c.self.invariant found left
    c.without_one-self-inside.ensures

pub returns-clause-work : goal.returns-clause-work
returns-clause-work c =
    let p = c.self.inside
    in let found : lookup (is_at (nat_cmp c.args.no)) p.out.entries ≡ Some c.in_ok-work.work = search rules
    in sym found ∙ found_in p.next p.helped c.args.no p.out.entries c.self.invariant
    ∙ ap (λ (s : WorksOut). find (is_work c.args.no) s.out) c.self.view_is

pub returns-clause-rest : goal.returns-clause-rest
returns-clause-rest c =
    let p = c.self.inside
    in let left : c.remove.new.self.entries ≡ remove_entry (is_at (nat_cmp c.args.no)) p.out.entries = search rules
    in ap (λ (es : List (ℕ × Outstanding)). record { out = values_of es; next = p.next }) left
    ∙ ap (λ (works : List Outstanding). record { out = works; next = p.next })
    (values_out p.next p.helped c.args.no p.out.entries c.self.invariant)
    ∙ ap (left_of c.args.no) c.self.view_is
