-- The desk and the requests as they are kept: what they stand for, and the room that the desk keeps.
use Rattle.std.specs.Prelude.{◌+◌, ◌<◌, ◌≤◌, ◌^◌, ◌≡◌, length}
use Rattle.std.specs.Vec.{vec_len, vec_capacity}
use Rattle.ak_pool.specs.declared.desk.Desk.TheInside.{Inside}
use Rattle.ak_pool.specs.declared.requests.Requests.TheInside.{Inside as InsideRequests}
use Rattle.ak_pool.specs.Askers.{RequestsState, due_of as due_of_requests}
use Rattle.ak_pool.specs.Desks.{DeskState, due_of}

abbrev pub desk_of : Inside → DeskState
desk_of d =
    record { threads = d.threads.items; waiting = d.waiting.items; owed = d.owed.items; submits = d.submits; helpers = d.helpers; closed = d.closed }

-- the events that are still to come are counted, and each can be noted as a finished work
pub record IsKept (d : Inside) : Type 0 where
  pub threads : length d.threads.items < 2 ^ 32
  pub due : d.due ≡ due_of (desk_of d)
  pub room : vec_len d.owed + d.due ≤ vec_capacity d.owed

abbrev pub requests_of : InsideRequests → RequestsState
requests_of r = record { askers = r.askers.items; made = r.made.items; fetched = r.fetched; untold = r.untold }

-- the events that are still to come are counted, and no more requests were fetched than were made
pub record AreKept (r : InsideRequests) : Type 0 where
  pub askers : length r.askers.items < 2 ^ 32
  pub due : r.due ≡ due_of_requests (requests_of r)
  pub fetched : r.fetched ≤ length r.made.items
