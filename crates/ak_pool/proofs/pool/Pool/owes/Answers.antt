use Rattle.std.proofs.Common.{ℕ, length, ap, sym, ◌∙◌}
use Rattle.std.specs.Prelude.{not, ◌||◌, ◌==◌, List}
use Rattle.ak_labor.specs.declared.work.Outcome.{Outcome}
use Rattle.ak_pool.specs.declared.requests.Made.{Made}
use Rattle.ak_pool.specs.Askers.{unfetched_of}
use Rattle.ak_pool.proofs.Pools.{owes_now}
use Rattle.ak_pool.proofs.pool.Pool.owes.Goals as goal

pub returns-then-not-is_empty : goal.returns-then-not-is_empty
returns-then-not-is_empty c =
    let p = c.self.inside in
    let works = sym (c.is_empty.ensures ∙ ap (λ (xs : List (ℕ × Outcome)). length xs == 0) c.owed.ensures) ∙ c.if-not-is_empty.true in
    rw (← c.self.view_is)
    (sym (ap (λ b. not b || not (length (unfetched_of p.requests) == 0) || p.requests.untold) works)
    ∙ owes_now p.threads p.askers p.events.items p.desk p.requests c.self.invariant.stands c.self.invariant.asked)

pub returns-then-not-is_empty-2 : goal.returns-then-not-is_empty-2
returns-then-not-is_empty-2 c =
    let p = c.self.inside in
    let works = sym (c.is_empty.ensures ∙ ap (λ (xs : List (ℕ × Outcome)). length xs == 0) c.owed.ensures) ∙ c.if-not-is_empty.false in
    let requests = sym (c.is_empty-2.ensures ∙ ap (λ (xs : List Made). length xs == 0) c.unfetched.ensures) ∙ c.if-not-is_empty-2.true in
    rw (← c.self.view_is)
    (sym (λ i. not (works i) || not (requests i) || p.requests.untold)
    ∙ owes_now p.threads p.askers p.events.items p.desk p.requests c.self.invariant.stands c.self.invariant.asked)

pub returns : goal.returns
returns c =
    let p = c.self.inside in
    let works = sym (c.is_empty.ensures ∙ ap (λ (xs : List (ℕ × Outcome)). length xs == 0) c.owed.ensures) ∙ c.if-not-is_empty.false in
    let requests = sym (c.is_empty-2.ensures ∙ ap (λ (xs : List Made). length xs == 0) c.unfetched.ensures) ∙ c.if-not-is_empty-2.false in
    rw (← c.self.view_is)
    (c.has_untold_end.ensures
    ∙ (sym (λ i. not (works i) || not (requests i) || p.requests.untold)
    ∙ owes_now p.threads p.askers p.events.items p.desk p.requests c.self.invariant.stands c.self.invariant.asked))
