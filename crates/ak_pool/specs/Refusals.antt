-- Why a history is refused. Own.
use Rattle.std.specs.Prelude.{ℕ, List}
use Rattle.ak_history.specs.declared.event.Event.{Event}
use Rattle.ak_pool.specs.declared.check.CheckRefused.{CheckRefused}
use Rattle.ak_pool.specs.declared.check.CheckRefused.TheVariants.{Illegal, NoMemory}
use Rattle.ak_pool.specs.Pools.{IsFirstIllegal}

-- the first event that is not legal is named; want of memory says nothing
abbrev pub IsRefused : ℕ → ℕ → List Event → CheckRefused → Type 0
IsRefused threads askers history (Illegal place) = IsFirstIllegal threads askers history place
IsRefused threads askers history NoMemory = Unit {0}
