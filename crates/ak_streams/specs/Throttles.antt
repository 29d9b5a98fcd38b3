-- The throttles of a run by their numbers, and of each the bodies that have started. Own.
use Rattle.std.specs.Prelude.{ℕ, List, [], ◌∷◌, ◌++◌, Bool, Option, slice_get, slice_index_or, slice_set}
use Rattle.ak_frames.specs.declared.frame.BodyId.{BodyId}
use Rattle.ak_throttle.specs.Throttle.{Throttle, fresh_throttle}
use Rattle.ak_machine.specs.declared.held.Body.{Body}
use Rattle.ak_machine.specs.declared.held.Fate.{Fate}
use Rattle.ak_machine.specs.declared.held.Started.{Started}
use Rattle.ak_machine.specs.Throttles.{no_throttle, no_started}

-- the throttles, and of each the bodies that have started, in order of their numbers
pub record Throttling : Type 0 where
  pub throttles : List (Throttle Body)
  pub started : List (List Started)

-- no throttle
abbrev pub no_throttling : Throttling
no_throttling = record { throttles = []; started = [] }

-- one more throttle, without bodies
abbrev pub with_fresh : ℕ → Bool → Throttling → Throttling
with_fresh most stop x =
    record { throttles = x.throttles ++ fresh_throttle most stop ∷ []; started = x.started ++ [] ∷ [] }

-- the throttle of a number
abbrev pub throttle_in : ℕ → Throttling → Throttle Body
throttle_in t x = slice_index_or x.throttles t no_throttle

-- another throttle in its place
abbrev pub with_throttle_in : ℕ → Throttle Body → Throttling → Throttling
with_throttle_in t throttle x = record x { throttles = slice_set x.throttles t throttle }

-- the bodies of a throttle that have started
abbrev pub started_in : ℕ → Throttling → List Started
started_in t x = slice_index_or x.started t []

-- a body, where it has started
abbrev pub body_in : BodyId → Throttling → Option Started
body_in b x = slice_get (started_in b.throttle x) b.no

-- one more body of a throttle has started
abbrev pub with_started_in : ℕ → Started → Throttling → Throttling
with_started_in t body x = record x { started = slice_set x.started t (started_in t x ++ body ∷ []) }

-- the bodies with one that came so far
abbrev pub with_fate_at : ℕ → Fate → List Started → List Started
with_fate_at k fate bodies = slice_set bodies k (record (slice_index_or bodies k no_started) { fate = fate })

-- a body that has started came so far
abbrev pub with_fate_in : Fate → BodyId → Throttling → Throttling
with_fate_in fate b x = record x { started = slice_set x.started b.throttle (with_fate_at b.no fate (started_in b.throttle x)) }
