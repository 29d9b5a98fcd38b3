use Rattle.std.proofs.Common.{◌<◌, ap, sym, ◌∙◌, refl, arith}
use Rattle.ak_history.specs.declared.event.Event.TheVariants as event
use Rattle.ak_pool.specs.Desks.{answered}
use Rattle.ak_pool.proofs.Pools.{is_open, pool_kept, answer_now, refused_now}
use Rattle.ak_pool.proofs.pool.Pool.helper.Goals as goal

pub invariant_of-self : goal.invariant_of-self
invariant_of-self c =
    let p = c.self.inside in
    let spare : 0 < p.spare = rw (← c.self.view_is) at c.requires.room in
    let same = c.copied.ensures ∙ c.as_ref.ensures.value in
    pool_kept p _ (event.HelperNew c.new-no.result c.copied.result) c.self.invariant
    (is_open p c.self.invariant (rw (← c.self.view_is) at c.requires.open), c.new-no.ensures ∙ c.helpers.ensures, same ∙ c.answer-answer.ensures)
    tt refl refl refl c.push_reserved.ensures.items (c.note_helper.ensures.desk ∙ ap (λ o. answered o p.desk) (sym same)) refl
    (λ b h le. omega (arith, h, spare, c.note_helper.ensures.due))

pub returns-clause-answer : goal.returns-clause-answer
returns-clause-answer c =
    let p = c.self.inside in
    rw (← c.self.view_is) (c.answer-answer.ensures ∙ answer_now p.threads p.events.items p.desk c.self.invariant.stands)

pub returns-clause-refused : goal.returns-clause-refused
returns-clause-refused c =
    let p = c.self.inside in
    rw (← c.self.view_is) (refused_now p.threads p.events.items p.desk c.answer-answer.result c.self.invariant.stands c.answer-answer.ensures)
