-- What is known after a port's own fault.
use Rattle.std.proofs.Common.{◌≡◌, List, [], ◌∷◌, ◌++◌, Ok, Err}
use Rattle.std.specs.declared.result.Result.{Result}
use Rattle.ak_labor.specs.declared.ask.Ask.{Ask}
use Rattle.ak_labor.specs.declared.port.PortError.{PortError}
use Rattle.ak_labor.specs.declared.port.PortError.TheVariants.{Fault, NoMemory}
use Rattle.ak_labor.specs.Calls.{Reply, IsAsked, IsFault}

-- the call that failed was asked, and has no reply
pub IsAsked-fault : {T F : Type 0} (a : Ask) (reply_of : T → Reply) (asked asked' : List Ask) (replies replies' : List Reply)
    (result : Result T (PortError F)) → IsAsked a reply_of asked asked' replies replies' result → IsFault result
    → (asked' ≡ asked ++ a ∷ []) × (replies' ≡ replies)
IsAsked-fault a reply_of asked asked' replies replies' (Ok v) is fault = absurd fault
IsAsked-fault a reply_of asked asked' replies replies' (Err (Fault f)) is fault = is
IsAsked-fault a reply_of asked asked' replies replies' (Err NoMemory) is fault = absurd fault
