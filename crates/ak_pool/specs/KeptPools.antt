-- The pool as it is kept.
use Rattle.std.specs.Prelude.{◌+◌, ◌≤◌, if◌then◌else◌}
use Rattle.std.specs.Vec.{vec_len, vec_capacity}
use Rattle.ak_history.specs.Legal.{Legal}
use Rattle.ak_pool.specs.declared.pool.Pool.TheInside.{Inside}
use Rattle.ak_pool.specs.Askers.{due_of as due_of_requests}
use Rattle.ak_pool.specs.AskersStand.{AskersStand, request_facts}
use Rattle.ak_pool.specs.Desks.{due_of}
use Rattle.ak_pool.specs.Facts.{facts_of}
use Rattle.ak_pool.specs.Stands.{Stands}

-- the history is legal, the desk and the requests are what it leaves, and there is room for what is still to come
pub record IsLegalPool (p : Inside) : Type 0 where
  pub legal : Legal p.threads p.askers p.events.items
  pub stands : Stands p.threads (facts_of p.events.items) p.desk
  pub asked : AskersStand p.askers (request_facts p.events.items) p.requests
  pub room : vec_len p.events + (due_of p.desk + due_of_requests p.requests + p.spare + (if p.desk.closed then 0 else 1)) ≤ vec_capacity p.events
