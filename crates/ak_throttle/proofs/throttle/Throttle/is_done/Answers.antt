use Rattle.std.proofs.Common.{rules, ◌≡◌, ◌∙◌, ap, sym, length}
use Rattle.std.specs.Prelude.{◌==◌, ◌&&◌, ◌||◌, true, false}
use Rattle.std.specs.List.{prefix_len}
use Rattle.std.proofs.lemmas.Bool.{eq-eqb, ne_eqb}
use Rattle.ak_base.specs.Lists.{is_empty_list}
use Rattle.ak_throttle.specs.Started.{is_marked_over}
use Rattle.ak_throttle.specs.Throttle as plain
use Rattle.ak_throttle.proofs.Done.{done_same}
use Rattle.ak_throttle.proofs.throttle.Throttle.is_done.Goals as goal

pub returns-then-self : goal.returns-then-self
returns-then-self g c =
    let p = c.self.inside
    in let e : plain.is_done c.args.self.now
    ≡ ((prefix_len is_marked_over p.progress.overs == length p.progress.overs) && (p.dead || is_empty_list p.bodies.items)) =
    search (rules, done_same p.dead p.progress.overs p.lost p.bodies.items)
    in let all : (prefix_len is_marked_over p.progress.overs == length p.progress.overs) ≡ true =
    eq-eqb _ _ (sym c.over_first.ensures ∙ c.if-over_first-count.true ∙ c.count.ensures)
    in c.if-self.true ∙ sym (e ∙ ap (λ t. t && (p.dead || is_empty_list p.bodies.items)) all ∙ ap (λ d. d || is_empty_list p.bodies.items) c.if-self.true)

pub returns-else-self : goal.returns-else-self
returns-else-self g c =
    let p = c.self.inside
    in let e : plain.is_done c.args.self.now
    ≡ ((prefix_len is_marked_over p.progress.overs == length p.progress.overs) && (p.dead || is_empty_list p.bodies.items)) =
    search (rules, done_same p.dead p.progress.overs p.lost p.bodies.items)
    in let all : (prefix_len is_marked_over p.progress.overs == length p.progress.overs) ≡ true =
    eq-eqb _ _ (sym c.over_first.ensures ∙ c.if-over_first-count.true ∙ c.count.ensures)
    in let empty : is_empty_list p.bodies.items ≡ c.is_empty.result = search rules
    in sym (e ∙ ap (λ t. t && (p.dead || is_empty_list p.bodies.items)) all ∙ ap (λ d. d || is_empty_list p.bodies.items) c.if-self.false ∙ empty)

pub returns-else-over_first-count : goal.returns-else-over_first-count
returns-else-over_first-count g c =
    let p = c.self.inside
    in let e : plain.is_done c.args.self.now
    ≡ ((prefix_len is_marked_over p.progress.overs == length p.progress.overs) && (p.dead || is_empty_list p.bodies.items)) =
    search (rules, done_same p.dead p.progress.overs p.lost p.bodies.items)
    in let all : (prefix_len is_marked_over p.progress.overs == length p.progress.overs) ≡ false =
    ne_eqb _ _ (λ h. c.if-over_first-count.false (c.over_first.ensures ∙ h ∙ sym c.count.ensures))
    in ne_eqb _ _ c.if-over_first-count.false ∙ sym (e ∙ ap (λ t. t && (p.dead || is_empty_list p.bodies.items)) all)
