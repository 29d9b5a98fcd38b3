-- The first words of the statements, by groups.
use Rattle.std.specs.Prelude.{ℕ, Option, List, [], ◌∷◌, codes}
use Rattle.std.specs.List.{find}
use Rattle.std.specs.Str.{bytes_eq}
use Rattle.ak_syntax.specs.declared.keyword.ValueWord.{ValueWord}
use Rattle.ak_syntax.specs.declared.keyword.ValueWord.TheVariants as value
use Rattle.ak_syntax.specs.declared.keyword.DeferredWord.{DeferredWord}
use Rattle.ak_syntax.specs.declared.keyword.DeferredWord.TheVariants as deferred
use Rattle.ak_syntax.specs.declared.keyword.GroupWord.{GroupWord}
use Rattle.ak_syntax.specs.declared.keyword.GroupWord.TheVariants as group
use Rattle.ak_syntax.specs.declared.keyword.JobWord.{JobWord}
use Rattle.ak_syntax.specs.declared.keyword.JobWord.TheVariants as job
use Rattle.ak_syntax.specs.declared.keyword.MonitorWord.{MonitorWord}
use Rattle.ak_syntax.specs.declared.keyword.MonitorWord.TheVariants as monitor
use Rattle.ak_syntax.specs.declared.keyword.ThrottleWord.{ThrottleWord}
use Rattle.ak_syntax.specs.declared.keyword.ThrottleWord.TheVariants as throttle
use Rattle.ak_syntax.specs.declared.keyword.PipeWord.{PipeWord}
use Rattle.ak_syntax.specs.declared.keyword.PipeWord.TheVariants as pipe
use Rattle.ak_syntax.specs.declared.keyword.ClosingWord.{ClosingWord}
use Rattle.ak_syntax.specs.declared.keyword.ClosingWord.TheVariants as closing
use Rattle.ak_syntax.specs.declared.keyword.PoolWord.{PoolWord}
use Rattle.ak_syntax.specs.declared.keyword.PoolWord.TheVariants as pool

abbrev pub value_word : ValueWord → List ℕ
value_word value.Set = codes "set"
value_word value.Print = codes "print"
value_word value.Raise = codes "raise"
value_word value.Ret = codes "ret"
value_word value.Stop = codes "stop"

abbrev pub all_values : List ValueWord
all_values = value.Set ∷ value.Print ∷ value.Raise ∷ value.Ret ∷ value.Stop ∷ []

unfoldable pub value_named : List ℕ → Option ValueWord
value_named word = find (λ first. bytes_eq (value_word first) word) all_values

abbrev pub deferred_word : DeferredWord → List ℕ
deferred_word deferred.Ivar = codes "ivar"
deferred_word deferred.Fill = codes "fill"
deferred_word deferred.Offer = codes "offer"
deferred_word deferred.Upon = codes "upon"
deferred_word deferred.Bind = codes "bind"
deferred_word deferred.Yield = codes "yield"
deferred_word deferred.Never = codes "never"

abbrev pub all_deferreds : List DeferredWord
all_deferreds = deferred.Ivar ∷ deferred.Fill ∷ deferred.Offer ∷ deferred.Upon ∷ deferred.Bind ∷ deferred.Yield ∷ deferred.Never ∷ []

unfoldable pub deferred_named : List ℕ → Option DeferredWord
deferred_named word = find (λ first. bytes_eq (deferred_word first) word) all_deferreds

abbrev pub group_word : GroupWord → List ℕ
group_word group.All = codes "all"
group_word group.Any = codes "any"
group_word group.Choose = codes "choose"
group_word group.Try = codes "try"

abbrev pub all_groups : List GroupWord
all_groups = group.All ∷ group.Any ∷ group.Choose ∷ group.Try ∷ []

unfoldable pub group_named : List ℕ → Option GroupWord
group_named word = find (λ first. bytes_eq (group_word first) word) all_groups

abbrev pub job_word : JobWord → List ℕ
job_word job.Sched = codes "sched"
job_word job.Low = codes "low"
job_word job.After = codes "after"
job_word job.Event = codes "event"
job_word job.Abort = codes "abort"
job_word job.Tick = codes "tick"

abbrev pub all_jobs : List JobWord
all_jobs = job.Sched ∷ job.Low ∷ job.After ∷ job.Event ∷ job.Abort ∷ job.Tick ∷ []

unfoldable pub job_named : List ℕ → Option JobWord
job_named word = find (λ first. bytes_eq (job_word first) word) all_jobs

abbrev pub monitor_word : MonitorWord → List ℕ
monitor_word monitor.Monitor = codes "monitor"
monitor_word monitor.Within = codes "within"
monitor_word monitor.Detach = codes "detach"
monitor_word monitor.OnError = codes "onerror"
monitor_word monitor.NextError = codes "nexterr"
monitor_word monitor.Send = codes "send"

abbrev pub all_monitors : List MonitorWord
all_monitors = monitor.Monitor ∷ monitor.Within ∷ monitor.Detach ∷ monitor.OnError ∷ monitor.NextError ∷ monitor.Send ∷ []

unfoldable pub monitor_named : List ℕ → Option MonitorWord
monitor_named word = find (λ first. bytes_eq (monitor_word first) word) all_monitors

abbrev pub throttle_word : ThrottleWord → List ℕ
throttle_word throttle.Throttle = codes "throttle"
throttle_word throttle.Enqueue = codes "enqueue"
throttle_word throttle.ThrottleDone = codes "tdone"

abbrev pub all_throttles : List ThrottleWord
all_throttles = throttle.Throttle ∷ throttle.Enqueue ∷ throttle.ThrottleDone ∷ []

unfoldable pub throttle_named : List ℕ → Option ThrottleWord
throttle_named word = find (λ first. bytes_eq (throttle_word first) word) all_throttles

abbrev pub pipe_word : PipeWord → List ℕ
pipe_word pipe.Pipe = codes "pipe"
pipe_word pipe.Write = codes "write"
pipe_word pipe.Put = codes "put"
pipe_word pipe.Read = codes "rd"

abbrev pub all_pipes : List PipeWord
all_pipes = pipe.Pipe ∷ pipe.Write ∷ pipe.Put ∷ pipe.Read ∷ []

unfoldable pub pipe_named : List ℕ → Option PipeWord
pipe_named word = find (λ first. bytes_eq (pipe_word first) word) all_pipes

abbrev pub closing_word : ClosingWord → List ℕ
closing_word closing.Close = codes "close"
closing_word closing.CloseRead = codes "closeread"
closing_word closing.Flushed = codes "flushed"

abbrev pub all_closings : List ClosingWord
all_closings = closing.Close ∷ closing.CloseRead ∷ closing.Flushed ∷ []

unfoldable pub closing_named : List ℕ → Option ClosingWord
closing_named word = find (λ first. bytes_eq (closing_word first) word) all_closings

abbrev pub pool_word : PoolWord → List ℕ
pool_word pool.Work = codes "work"
pool_word pool.Helper = codes "helper"
pool_word pool.HelperWork = codes "hwork"
pool_word pool.HelperDone = codes "hdone"

abbrev pub all_works : List PoolWord
all_works = pool.Work ∷ pool.Helper ∷ pool.HelperWork ∷ pool.HelperDone ∷ []

unfoldable pub pool_named : List ℕ → Option PoolWord
pool_named word = find (λ first. bytes_eq (pool_word first) word) all_works
