-- Only threads of the pool finish works.
use Rattle.std.proofs.Common.{◌≡◌, ℕ, ◌<◌, List, arith}
use Rattle.std.specs.Prelude.{◌&&◌, ◌==◌}
use Rattle.std.specs.List.{AllByRecursion as Each}
use Rattle.std.proofs.lemmas.Bool.{eqb-true}
use Rattle.ak_history.specs.declared.event.Event.{Event}
use Rattle.ak_history.specs.declared.event.Event.TheVariants as event
use Rattle.ak_history.specs.Events.{Begun, begun}
use Rattle.ak_history.specs.Legal.{Legal, IsLegalAfter}
use Rattle.ak_pool.proofs.Items.{any_one, each_last}
use Rattle.ak_pool.proofs.Noting.{legal_next}
use Rattle.ak_history_laws.proofs.Legals.{legal_keeps, left_by}
use Rattle.ak_asker_laws.proofs.Staying.{and_parts}

-- a finish is one of so many threads
abbrev pub FinishesBelow : ℕ → Event → Type 0
FinishesBelow threads (event.Finish thread id outcome) = thread < threads
FinishesBelow threads e = Unit {0}

one_below : (threads askers : ℕ) (xs : List Event) (e : Event) → Legal threads askers xs → IsLegalAfter threads askers xs e → FinishesBelow threads e
one_below threads askers xs (event.Submit id work helper) legal is = tt
one_below threads askers xs (event.Start thread id) legal is = tt
one_below threads askers xs (event.Finish thread id outcome) legal is =
    let b = any_one (λ (b : Begun). b.thread < threads) (λ (b : Begun). b.thread == thread && b.id == id) (begun xs)
    (left_by threads askers xs legal).stands.begun_exists is.rule.0 in
    let same : b.0.thread ≡ thread = eqb-true b.0.thread thread (and_parts (b.0.thread == thread) (b.0.id == id) b.2).0 in
    omega (arith, b.1, same)
one_below threads askers xs (event.Request q asker n) legal is = tt
one_below threads askers xs (event.AskerEnd asker) legal is = tt
one_below threads askers xs (event.Drain ids requests) legal is = tt
one_below threads askers xs (event.Answered q v) legal is = tt
one_below threads askers xs (event.HelperNew h answer) legal is = tt
one_below threads askers xs (event.HelperEnd h) legal is = tt
one_below threads askers xs event.Close legal is = tt

-- LAW. Each finish is one of the pool's threads.
pub finishes_below : (threads askers : ℕ) (xs : List Event) → Legal threads askers xs → Each (FinishesBelow threads) xs
finishes_below threads askers xs h =
    (legal_keeps threads askers (λ ys. Legal threads askers ys × Each (FinishesBelow threads) ys) (tt, tt)
    (λ ys e k is. (
      legal_next threads askers ys e k.0 is,
      each_last (FinishesBelow threads) ys e k.1 (one_below threads askers ys e k.0 is),
    )) xs h).1
