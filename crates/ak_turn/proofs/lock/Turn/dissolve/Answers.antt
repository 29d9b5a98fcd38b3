use Rattle.std.proofs.Common.{ap, sym, subst, ◌∙◌, ◌≡◌, arith, sum_by, min, length}
use Rattle.ak_turn.specs.Seen.{number_count, IsWhole}
use Rattle.ak_turn.proofs.Wraps.{shares_all, some_pass, whole, under}
use Rattle.ak_turn.proofs.lock.Turn.dissolve.Goals as goal

pub gather_all-seat-requires-clause-table : goal.gather_all-seat-requires-clause-table
gather_all-seat-requires-clause-table g c κs within =
    let i = c.self.invariant in
    let s : sum_by number_count c.args.passes.items ≡ c.self.inside.made =
    under _ _ (sym c.if-given-made.false
    ∙ (c.given-given.ensures ∙ ap (λ l. min (sum_by number_count l) 4294967295) c.as_slice.ensures.value)) i.3 in
    (i.0, i.1, some_pass _ (omega (arith, s, i.4)))

pub dissolve-requires-clause-all : goal.dissolve-requires-clause-all
dissolve-requires-clause-all g c κs within =
    let i = c.self.invariant in
    let s : sum_by number_count c.args.passes.items ≡ c.self.inside.made =
    under _ _ (sym c.if-given-made.false
    ∙ (c.given-given.ensures ∙ ap (λ l. min (sum_by number_count l) 4294967295) c.as_slice.ensures.value)) i.3 in
    let e = c.gather_all-seat.ensures in
    (shares_all _ c.gather_all-seat.result.me.0 _ e.passes ∙ (s ∙ i.2), (e.seat.1, e.seat.2))

pub returns-clause-ok : goal.returns-clause-ok
returns-clause-ok g c =
    let i = c.self.invariant in
    let s : sum_by number_count c.args.passes.items ≡ c.self.inside.made =
    under _ _ (sym c.if-given-made.false
    ∙ (c.given-given.ensures ∙ ap (λ l. min (sum_by number_count l) 4294967295) c.as_slice.ensures.value)) i.3 in
    s ∙ (i.2 ∙ ap (λ t. length t.numbers) c.self.view_is)

pub returns-clause-whole : goal.returns-clause-whole
returns-clause-whole g c =
    let numbers = ap (λ t. t.numbers) c.self.view_is in
    subst (λ n. IsWhole g.G.Guarded.log g.G.Guarded.may g.G.Guarded.fits n c.args.passes.items c.dissolve.result) numbers
    (whole g.G.Guarded.log g.G.Guarded.may g.G.Guarded.fits _ c.gather_all-seat.result.me.0.passes _ _
    c.gather_all-seat.ensures.passes c.dissolve.ensures)
