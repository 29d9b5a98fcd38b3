use Rattle.std.proofs.Common.{◌≡◌, ◌+◌, ◌-◌, List, ℕ, length, take, drop, subst, sym, ap, ◌∙◌, rules}
use Rattle.ak_record.specs.Cuts.{IsPool, IsCut}
use Rattle.ak_record.specs.Walks.{IsFirstLine}
use Rattle.ak_record.proofs.Lines.{from_place, piece_at}
use Rattle.ak_record.proofs.Cutting.{cut_here, goes_on, uncut_here, one_cut, not_uncut}
use Rattle.ak_record.proofs.cut.cut_at_pool.Goals as goal

pub returns-then-is_pool-clause-cut : goal.returns-then-is_pool-clause-cut
returns-then-is_pool-clause-cut c =
    let source = c.args.source.now in
    let start = c.loop-start.start in
    let n = c.line_len.result in
    let inv = c.loop-start.invariant in
    let l : IsFirstLine (drop start source) n = subst (λ (bytes : List ℕ). IsFirstLine bytes n) (from_place source start) c.line_len.ensures in
    let is : IsPool (take n (drop start source)) = subst IsPool (piece_at source start n) (search rules) in
    subst (λ (h : List ℕ). IsCut source (take start source) c.loop-start.number h) (sym (from_place source (start + n)))
    (cut_here source start n c.loop-start.number inv.before inv.walked inv.none inv.number l is)

pub returns-then-is_pool-clause-one : goal.returns-then-is_pool-clause-one
returns-then-is_pool-clause-one c = λ script history number is.
    let same = one_cut _ _ _ _ _ _ _ (returns-then-is_pool-clause-cut c) is in (same.script, same.number, same.history)

pub returns-then-is_pool-clause-none : goal.returns-then-is_pool-clause-none
returns-then-is_pool-clause-none c = λ number uncut. not_uncut _ _ _ _ _ (returns-then-is_pool-clause-cut c) uncut

pub loop-start-preserved : goal.loop-start-preserved
loop-start-preserved c =
    let source = c.args.source.now in
    let start = c.loop-start.start in
    let n = c.line_len.result in
    let inv = c.loop-start.invariant in
    let l : IsFirstLine (drop start source) n = subst (λ (bytes : List ℕ). IsFirstLine bytes n) (from_place source start) c.line_len.ensures in
    let is_not : IsPool (take n (drop start source)) → ⊥ = λ is.
    let here = subst IsPool (sym (piece_at source start n)) is in search rules in
    let next = goes_on source start n c.loop-start.number inv.before inv.walked inv.none inv.number (search rules) l is_not in
    record { before = next.before; walked = next.walked; none = next.none; number = next.number_is }

pub returns-clause-one : goal.returns-clause-one
returns-clause-one c = λ script history number is.
    let inv = c.loop-start.invariant in
    not_uncut _ _ _ _ _ is
    (uncut_here c.args.source.now c.loop-start.start c.loop-start.number inv.before inv.walked inv.none inv.number c.loop-start-test.false)
