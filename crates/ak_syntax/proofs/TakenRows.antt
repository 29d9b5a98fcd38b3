-- A statement that is taken has the words of its row.
use Rattle.std.proofs.Common.{◌≡◌, ℕ, List, Ok, refl}
use Rattle.std.specs.Prelude.{codes}
use Rattle.ak_script.specs.declared.statement.Stmt.{Stmt}
use Rattle.ak_script.specs.declared.statement.Stmt.TheVariants.{Set, Print, Ivar, Fill, Offer, Upon, Bind, All, Any, Choose, Sched, Low, Yield, Never, After, Event, Abort, Tick, Monitor, Within, Detach, OnError, NextError, Raise, Send, Try, Throttle, Enqueue, ThrottleDone, Pipe, Write, Put, Read, Close, CloseRead, Flushed, Work, Helper, HelperWork, HelperDone, Stop, Ret}
use Rattle.ak_syntax.specs.declared.cursor.Cursor.{Cursor}
use Rattle.ak_syntax.specs.declared.keyword.ValueWord.{ValueWord}
use Rattle.ak_syntax.specs.declared.keyword.ValueWord.TheVariants as value
use Rattle.ak_syntax.specs.declared.keyword.DeferredWord.{DeferredWord}
use Rattle.ak_syntax.specs.declared.keyword.DeferredWord.TheVariants as deferred
use Rattle.ak_syntax.specs.declared.keyword.GroupWord.{GroupWord}
use Rattle.ak_syntax.specs.declared.keyword.GroupWord.TheVariants as group
use Rattle.ak_syntax.specs.declared.keyword.JobWord.{JobWord}
use Rattle.ak_syntax.specs.declared.keyword.JobWord.TheVariants as job
use Rattle.ak_syntax.specs.declared.keyword.MonitorWord.{MonitorWord}
use Rattle.ak_syntax.specs.declared.keyword.MonitorWord.TheVariants as monitor
use Rattle.ak_syntax.specs.declared.keyword.ThrottleWord.{ThrottleWord}
use Rattle.ak_syntax.specs.declared.keyword.ThrottleWord.TheVariants as throttle
use Rattle.ak_syntax.specs.declared.keyword.PipeWord.{PipeWord}
use Rattle.ak_syntax.specs.declared.keyword.PipeWord.TheVariants as pipe
use Rattle.ak_syntax.specs.declared.keyword.ClosingWord.{ClosingWord}
use Rattle.ak_syntax.specs.declared.keyword.ClosingWord.TheVariants as closing
use Rattle.ak_syntax.specs.declared.keyword.PoolWord.{PoolWord}
use Rattle.ak_syntax.specs.declared.keyword.PoolWord.TheVariants as pool
use Rattle.ak_syntax.specs.Keywords.{value_word, all_values, value_named, deferred_word, all_deferreds, deferred_named, group_word, all_groups, group_named, job_word, all_jobs, job_named, monitor_word, all_monitors, monitor_named, throttle_word, all_throttles, throttle_named, pipe_word, all_pipes, pipe_named, closing_word, all_closings, closing_named, pool_word, all_works, pool_named}
use Rattle.ak_syntax.specs.Rows.{row_or, value_row, statement_at, deferred_row, group_row, job_row, monitor_row, throttle_row, pipe_row, closing_row, pool_row}
use Rattle.ak_syntax.proofs.Shapes.{IsRowOf, row_sound, row_or_sound, no_row, no_row_found, then_part, choices_part, some_names_last, args_last, one_name_last, one_atom_last, name_atom_last, two_names_last, work_atom_last, call_last, two_calls_last, guarded_calls_last}
use Rattle.ak_syntax.proofs.Items.{name_part, atom_part, operator_part, mode_part, count_part}
use Rattle.ak_syntax.proofs.Parts.{both_last, end_last}

value_row_sound : (first : ValueWord) (c left : Cursor) (s : Stmt) → value_row first c ≡ Ok (s, left) → IsRowOf (value_word first) c s left
unfolding value_row
value_row_sound value.Set c left s h =
    row_sound (λ t. Set t.0 t.1.0 t.1.1.0 t.1.1.1.0) (codes "set")
    (both_last name_part (both_last atom_part (both_last operator_part (both_last atom_part end_last)))) (λ t. refl) (λ t g. tt) c left s h
value_row_sound value.Print c left s h = row_sound (λ t. Print t) (codes "print") one_atom_last (λ t. refl) (λ t g. tt) c left s h
value_row_sound value.Raise c left s h = row_sound (λ t. Raise t) (codes "raise") one_atom_last (λ t. refl) (λ t g. tt) c left s h
value_row_sound value.Ret c left s h = row_sound (λ t. Ret t) (codes "ret") one_atom_last (λ t. refl) (λ t g. tt) c left s h
value_row_sound value.Stop c left s h = row_sound (λ t. Stop) (codes "stop") end_last (λ t. refl) (λ t g. tt) c left s h

deferred_row_sound : (first : DeferredWord) (c left : Cursor) (s : Stmt) → deferred_row first c ≡ Ok (s, left) → IsRowOf (deferred_word first) c s left
unfolding deferred_row
deferred_row_sound deferred.Ivar c left s h = row_sound (λ t. Ivar t) (codes "ivar") one_name_last (λ t. refl) (λ t g. tt) c left s h
deferred_row_sound deferred.Fill c left s h = row_sound (λ t. Fill t.0 t.1) (codes "fill") name_atom_last (λ t. refl) (λ t g. tt) c left s h
deferred_row_sound deferred.Offer c left s h = row_sound (λ t. Offer t.0 t.1) (codes "offer") name_atom_last (λ t. refl) (λ t g. tt) c left s h
deferred_row_sound deferred.Upon c left s h =
    row_sound (λ t. Upon t.0 t.1.0 t.1.1) (codes "upon") (both_last name_part call_last) (λ t. refl) (λ t g. tt) c left s h
deferred_row_sound deferred.Bind c left s h =
    row_sound (λ t. Bind t.0 t.1.0 t.1.1.0 t.1.1.1) (codes "bind") (both_last name_part (both_last name_part call_last)) (λ t. refl)
    (λ t g. tt) c left s h
deferred_row_sound deferred.Yield c left s h = row_sound (λ t. Yield t) (codes "yield") one_name_last (λ t. refl) (λ t g. tt) c left s h
deferred_row_sound deferred.Never c left s h = row_sound (λ t. Never t) (codes "never") one_name_last (λ t. refl) (λ t g. tt) c left s h

group_row_sound : (first : GroupWord) (c left : Cursor) (s : Stmt) → group_row first c ≡ Ok (s, left) → IsRowOf (group_word first) c s left
unfolding group_row
group_row_sound group.All c left s h =
    row_sound (λ t. All t.0 t.1.0 t.1.1.0 t.1.1.1) (codes "all") (both_last name_part (both_last then_part call_last)) (λ t. refl)
    (λ t g. g.1.0) c left s h
group_row_sound group.Any c left s h = row_sound (λ t. Any t.0 t.1) (codes "any") (both_last name_part some_names_last) (λ t. refl) (λ t g. g.1) c left s h
group_row_sound group.Choose c left s h =
    row_sound (λ t. Choose t.0 t.1.0 t.1.1) (codes "choose") (both_last name_part (both_last choices_part args_last)) (λ t. refl)
    (λ t g. g.1.0) c left s h
group_row_sound group.Try c left s h =
    row_sound (λ t. Try t.0 t.1.0 t.1.1 t.1.2 t.1.3 t.1.4) (codes "try") (both_last name_part guarded_calls_last) (λ t. refl) (λ t g. tt) c left s h

job_row_sound : (first : JobWord) (c left : Cursor) (s : Stmt) → job_row first c ≡ Ok (s, left) → IsRowOf (job_word first) c s left
unfolding job_row
job_row_sound job.Sched c left s h = row_sound (λ t. Sched t.0 t.1) (codes "sched") call_last (λ t. refl) (λ t g. tt) c left s h
job_row_sound job.Low c left s h = row_sound (λ t. Low t.0 t.1) (codes "low") call_last (λ t. refl) (λ t g. tt) c left s h
job_row_sound job.After c left s h = row_sound (λ t. After t.0 t.1) (codes "after") name_atom_last (λ t. refl) (λ t g. tt) c left s h
job_row_sound job.Event c left s h =
    row_sound (λ t. Event t.0 t.1.0 t.1.1) (codes "event") (both_last name_part name_atom_last) (λ t. refl) (λ t g. tt) c left s h
job_row_sound job.Abort c left s h = row_sound (λ t. Abort t) (codes "abort") one_name_last (λ t. refl) (λ t g. tt) c left s h
job_row_sound job.Tick c left s h = row_sound (λ t. Tick t) (codes "tick") one_atom_last (λ t. refl) (λ t g. tt) c left s h

monitor_row_sound : (first : MonitorWord) (c left : Cursor) (s : Stmt) → monitor_row first c ≡ Ok (s, left) → IsRowOf (monitor_word first) c s left
unfolding monitor_row
monitor_row_sound monitor.Monitor c left s h = row_sound (λ t. Monitor t) (codes "monitor") one_name_last (λ t. refl) (λ t g. tt) c left s h
monitor_row_sound monitor.Within c left s h =
    row_sound (λ t. Within t.0 t.1.0 t.1.1) (codes "within") (both_last name_part call_last) (λ t. refl) (λ t g. tt) c left s h
monitor_row_sound monitor.Detach c left s h = row_sound (λ t. Detach t) (codes "detach") one_name_last (λ t. refl) (λ t g. tt) c left s h
monitor_row_sound monitor.OnError c left s h =
    row_sound (λ t. OnError t.0 t.1.0 t.1.1) (codes "onerror") (both_last name_part call_last) (λ t. refl) (λ t g. tt) c left s h
monitor_row_sound monitor.NextError c left s h = row_sound (λ t. NextError t.0 t.1) (codes "nexterr") two_names_last (λ t. refl) (λ t g. tt) c left s h
monitor_row_sound monitor.Send c left s h = row_sound (λ t. Send t.0 t.1) (codes "send") name_atom_last (λ t. refl) (λ t g. tt) c left s h

throttle_row_sound : (first : ThrottleWord) (c left : Cursor) (s : Stmt) → throttle_row first c ≡ Ok (s, left) → IsRowOf (throttle_word first) c s left
unfolding throttle_row
throttle_row_sound throttle.Throttle c left s h =
    row_sound (λ t. Throttle t.0 t.1.0 t.1.1.0) (codes "throttle")
    (both_last name_part (both_last (count_part 1) (both_last mode_part end_last))) (λ t. refl) (λ t g. tt) c left s h
throttle_row_sound throttle.Enqueue c left s h =
    row_sound (λ t. Enqueue t.0 t.1.0 t.1.1.0 t.1.1.1) (codes "enqueue") (both_last name_part (both_last name_part call_last)) (λ t. refl)
    (λ t g. tt) c left s h
throttle_row_sound throttle.ThrottleDone c left s h = row_sound (λ t. ThrottleDone t.0 t.1) (codes "tdone") two_names_last (λ t. refl) (λ t g. tt) c left s h

pipe_row_sound : (first : PipeWord) (c left : Cursor) (s : Stmt) → pipe_row first c ≡ Ok (s, left) → IsRowOf (pipe_word first) c s left
unfolding pipe_row
pipe_row_sound pipe.Pipe c left s h =
    row_sound (λ t. Pipe t.0 t.1.0) (codes "pipe") (both_last name_part (both_last (count_part 0) end_last)) (λ t. refl)
    (λ t g. tt) c left s h
pipe_row_sound pipe.Write c left s h =
    row_sound (λ t. Write t.0 t.1.0 t.1.1) (codes "write") (both_last name_part name_atom_last) (λ t. refl) (λ t g. tt) c left s h
pipe_row_sound pipe.Put c left s h = row_sound (λ t. Put t.0 t.1) (codes "put") name_atom_last (λ t. refl) (λ t g. tt) c left s h
pipe_row_sound pipe.Read c left s h =
    row_sound (λ t. Read t.0 t.1.0 t.1.1.0 t.1.1.1 t.1.1.2 t.1.1.3) (codes "rd")
    (both_last name_part (both_last name_part two_calls_last)) (λ t. refl) (λ t g. tt) c left s h

closing_row_sound : (first : ClosingWord) (c left : Cursor) (s : Stmt) → closing_row first c ≡ Ok (s, left) → IsRowOf (closing_word first) c s left
unfolding closing_row
closing_row_sound closing.Close c left s h = row_sound (λ t. Close t) (codes "close") one_name_last (λ t. refl) (λ t g. tt) c left s h
closing_row_sound closing.CloseRead c left s h = row_sound (λ t. CloseRead t) (codes "closeread") one_name_last (λ t. refl) (λ t g. tt) c left s h
closing_row_sound closing.Flushed c left s h = row_sound (λ t. Flushed t.0 t.1) (codes "flushed") two_names_last (λ t. refl) (λ t g. tt) c left s h

pool_row_sound : (first : PoolWord) (c left : Cursor) (s : Stmt) → pool_row first c ≡ Ok (s, left) → IsRowOf (pool_word first) c s left
unfolding pool_row
pool_row_sound pool.Work c left s h =
    row_sound (λ t. Work t.0 t.1.0 t.1.1) (codes "work") (both_last name_part work_atom_last) (λ t. refl) (λ t g. tt) c left s h
pool_row_sound pool.Helper c left s h = row_sound (λ t. Helper t.0 t.1) (codes "helper") two_names_last (λ t. refl) (λ t g. tt) c left s h
pool_row_sound pool.HelperWork c left s h =
    row_sound (λ t. HelperWork t.0 t.1.0 t.1.1.0 t.1.1.1) (codes "hwork") (both_last name_part (both_last name_part work_atom_last))
    (λ t. refl) (λ t g. tt) c left s h
pool_row_sound pool.HelperDone c left s h = row_sound (λ t. HelperDone t) (codes "hdone") one_name_last (λ t. refl) (λ t g. tt) c left s h

pub statement_sound : (word : List ℕ) (c left : Cursor) (s : Stmt) → statement_at word c ≡ Ok (s, left) → IsRowOf word c s left
unfolding statement_at value_named deferred_named group_named job_named monitor_named throttle_named pipe_named closing_named pool_named
statement_sound word c left s h =
    row_or_sound value_word all_values word value_row
    (row_or (deferred_named word) deferred_row
    (row_or (group_named word) group_row
    (row_or (job_named word) job_row
    (row_or (monitor_named word) monitor_row
    (row_or (throttle_named word) throttle_row
    (row_or (pipe_named word) pipe_row (row_or (closing_named word) closing_row (row_or (pool_named word) pool_row no_row)))))))) c left s
    h (λ first. value_row_sound first c left s)
    (λ h1. row_or_sound deferred_word all_deferreds word deferred_row
    (row_or (group_named word) group_row
    (row_or (job_named word) job_row
    (row_or (monitor_named word) monitor_row
    (row_or (throttle_named word) throttle_row
    (row_or (pipe_named word) pipe_row (row_or (closing_named word) closing_row (row_or (pool_named word) pool_row no_row))))))) c left s
    h1 (λ first. deferred_row_sound first c left s)
    (λ h2. row_or_sound group_word all_groups word group_row
    (row_or (job_named word) job_row
    (row_or (monitor_named word) monitor_row
    (row_or (throttle_named word) throttle_row
    (row_or (pipe_named word) pipe_row (row_or (closing_named word) closing_row (row_or (pool_named word) pool_row no_row)))))) c left s
    h2 (λ first. group_row_sound first c left s)
    (λ h3. row_or_sound job_word all_jobs word job_row
    (row_or (monitor_named word) monitor_row
    (row_or (throttle_named word) throttle_row
    (row_or (pipe_named word) pipe_row (row_or (closing_named word) closing_row (row_or (pool_named word) pool_row no_row))))) c left s h3
    (λ first. job_row_sound first c left s)
    (λ h4. row_or_sound monitor_word all_monitors word monitor_row
    (row_or (throttle_named word) throttle_row
    (row_or (pipe_named word) pipe_row (row_or (closing_named word) closing_row (row_or (pool_named word) pool_row no_row)))) c left s h4
    (λ first. monitor_row_sound first c left s)
    (λ h5. row_or_sound throttle_word all_throttles word throttle_row
    (row_or (pipe_named word) pipe_row (row_or (closing_named word) closing_row (row_or (pool_named word) pool_row no_row))) c left s h5
    (λ first. throttle_row_sound first c left s)
    (λ h6. row_or_sound pipe_word all_pipes word pipe_row
    (row_or (closing_named word) closing_row (row_or (pool_named word) pool_row no_row)) c left s h6
    (λ first. pipe_row_sound first c left s)
    (λ h7. row_or_sound closing_word all_closings word closing_row (row_or (pool_named word) pool_row no_row) c left s h7
    (λ first. closing_row_sound first c left s)
    (λ h8. row_or_sound pool_word all_works word pool_row no_row c left s h8 (λ first. pool_row_sound first c left s)
    (λ h9. no_row_found word c left s h9)))))))))
