-- What those who ask from outside leave. Own; after Async's `Thread_safe`.
use Rattle.std.specs.Prelude.{ℕ, ℤ, ◌+◌, ◌≡◌, ◌⊎◌, Bool, true, false, List, ◌++◌}
use Rattle.std.specs.List.{list_any, AllByRecursion}
use Rattle.ak_history.specs.declared.event.Event.{Event}
use Rattle.ak_history.specs.declared.event.Event.TheVariants as event
use Rattle.ak_history.specs.Events.{has_left, is_close}
use Rattle.ak_history_laws.specs.Asked.{nums_of, told_to}
use Rattle.ak_turn.specs.Seen.{PassView}
use Rattle.ak_hub.specs.Hubs.{HubState, IsPassOf, seen_by}

-- a request or the end of this asker
abbrev pub IsByAsker : ℕ → Event → Type 0
IsByAsker a (event.Request q asker num) = asker ≡ a
IsByAsker a (event.AskerEnd asker) = asker ≡ a
IsByAsker a e = ⊥

-- the whole goes on from these
abbrev pub GoesOnFrom : {A : Type 0} → List A → List A → Type 0
GoesOnFrom front whole = (rest : List _) × (whole ≡ front ++ rest)

-- An asker asked by its plan, and its pass comes back.
pub record HasActed (h : HubState) (asker : ℕ) (plan : List ℤ) (p q : PassView Event) (heard : List (ℕ × ℤ)) (short : Bool) : Type 0 where
  -- the pass is as it was, and has seen more or as much
  pub pass : IsPassOf h (33 + asker) q
  pub spare : q.spare ≡ p.spare
  pub seen : GoesOnFrom p.seen q.seen
  -- it gave requests and the end of its asker alone, the requests with the first numbers of the plan, in order
  pub own : AllByRecursion (IsByAsker asker) q.mine
  pub asked : GoesOnFrom (nums_of asker q.mine) plan
  -- what the asker was told is the answers to its requests, as the pass has seen them, in order
  pub told : heard ≡ told_to asker (seen_by q)
  -- the asker has ended, or the pool was closed
  pub over : (has_left (seen_by q) asker ≡ true) ⊎ (list_any is_close (seen_by q) ≡ true)
  -- an asker that has ended has asked by all of its plan, where memory was not wanting
  pub whole : has_left (seen_by q) asker ≡ true → short ≡ false → nums_of asker q.mine ≡ plan
