use Rattle.std.proofs.Common.{arith}
use Rattle.ak_pool.proofs.Askers.{due_below}
use Rattle.ak_pool.proofs.requests.Requests.request.Goals as goal

pub overflow_add-self : goal.overflow_add-self
overflow_add-self c =
    omega (arith, c.self.invariant.due, c.self.invariant.askers, due_below c.self.inside.askers.items)
