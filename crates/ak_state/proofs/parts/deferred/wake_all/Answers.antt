use Rattle.std.proofs.Common.{◌∙◌, sym}
use Rattle.ak_state.proofs.Stands.{next_turn}
use Rattle.ak_state.proofs.parts.deferred.wake_all.Goals as goal

pub loop-woken-preserved : goal.loop-woken-preserved
loop-woken-preserved c = record {
  cells = rw c.next_woken.ensures.named c.loop-woken.invariant.cells;
  jobs =
      λ s. rw (c.next_woken.ensures.named, c.in-Ok.ensures s)
      (next_turn c.loop-woken.cells.named.woken c.in-Some.woken (sym c.next_woken.ensures.woken ∙ c.in-Some.is) _) ∙ c.loop-woken.invariant.jobs s;
}
