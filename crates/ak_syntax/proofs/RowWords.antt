-- The words of a row are taken as its statement.
use Rattle.std.proofs.Common.{◌≡◌, ℕ, Bool, List, ◌∷◌, Ok}
use Rattle.std.specs.Prelude.{codes}
use Rattle.ak_script.specs.declared.statement.Stmt.{Stmt}
use Rattle.ak_script.specs.declared.statement.Stmt.TheVariants.{Set, Print, Ivar, Fill, Offer, Upon, Bind, All, Any, Choose, Sched, Low, Yield, Never, After, Event, Abort, Tick, Monitor, Within, Detach, OnError, NextError, Raise, Send, Try, Throttle, Enqueue, ThrottleDone, Pipe, Write, Put, Read, Close, CloseRead, Flushed, Work, Helper, HelperWork, HelperDone, Stop, Ret}
use Rattle.ak_syntax.specs.declared.cursor.Cursor.{Cursor}
use Rattle.ak_syntax.specs.Keywords.{value_named, deferred_named, group_named, job_named, monitor_named, throttle_named, pipe_named, closing_named, pool_named}
use Rattle.ak_syntax.specs.Rows.{value_row, statement_at, deferred_row, group_row, job_row, monitor_row, throttle_row, pipe_row, closing_row, pool_row}
use Rattle.ak_syntax.specs.Table.{row, HasDeferreds}
use Rattle.ak_syntax.proofs.Meets.{Meets}
use Rattle.ak_syntax.proofs.Shapes.{row_complete, refl_at, then_part, choices_part, some_names_last, args_last, one_name_last, one_atom_last, name_atom_last, two_names_last, work_atom_last, call_last, two_calls_last, guarded_calls_last}
use Rattle.ak_syntax.proofs.Items.{name_part, atom_part, operator_part, mode_part, count_part}
use Rattle.ak_syntax.proofs.Parts.{both_last, end_last}

pub statement_complete : (s : Stmt) (w : List ℕ) (c : Cursor) (after : Bool) → HasDeferreds s → Meets c.faulty (row s) (w ∷ c.words) after
    → (left : Cursor) × (statement_at w c ≡ Ok (s, left)) × (left.faulty ≡ after)
unfolding statement_at value_named value_row deferred_named deferred_row group_named group_row job_named job_row monitor_named monitor_row
    throttle_named throttle_row pipe_named pipe_row closing_named closing_row pool_named pool_row
statement_complete (Set x a op b) first cursor after good met =
    row_complete (λ t. Set t.0 t.1.0 t.1.1.0 t.1.1.1.0) (codes "set")
    (both_last name_part (both_last atom_part (both_last operator_part (both_last atom_part end_last))))
    (x, (a, (op, (b, tt)))) first cursor after (refl_at (statement_at (codes "set") cursor)) (tt, (tt, (tt, (tt, tt)))) met
statement_complete (Print a) first cursor after good met =
    row_complete (λ t. Print t) (codes "print") one_atom_last a first cursor after (refl_at (statement_at (codes "print") cursor)) tt met
statement_complete (Raise a) first cursor after good met =
    row_complete (λ t. Raise t) (codes "raise") one_atom_last a first cursor after (refl_at (statement_at (codes "raise") cursor)) tt met
statement_complete (Ret a) first cursor after good met =
    row_complete (λ t. Ret t) (codes "ret") one_atom_last a first cursor after (refl_at (statement_at (codes "ret") cursor)) tt met
statement_complete Stop first cursor after good met =
    row_complete (λ t. Stop) (codes "stop") end_last tt first cursor after (refl_at (statement_at (codes "stop") cursor)) tt met
statement_complete (Ivar i) first cursor after good met =
    row_complete (λ t. Ivar t) (codes "ivar") one_name_last i first cursor after (refl_at (statement_at (codes "ivar") cursor)) tt met
statement_complete (Fill i a) first cursor after good met =
    row_complete (λ t. Fill t.0 t.1) (codes "fill") name_atom_last (i, a) first cursor after
    (refl_at (statement_at (codes "fill") cursor)) tt met
statement_complete (Offer i a) first cursor after good met =
    row_complete (λ t. Offer t.0 t.1) (codes "offer") name_atom_last (i, a) first cursor after
    (refl_at (statement_at (codes "offer") cursor)) tt met
statement_complete (Upon d proc args) first cursor after good met =
    row_complete (λ t. Upon t.0 t.1.0 t.1.1) (codes "upon") (both_last name_part call_last) (d, (proc, args)) first cursor after
    (refl_at (statement_at (codes "upon") cursor)) (tt, tt) met
statement_complete (Bind r d proc args) first cursor after good met =
    row_complete (λ t. Bind t.0 t.1.0 t.1.1.0 t.1.1.1) (codes "bind") (both_last name_part (both_last name_part call_last))
    (r, (d, (proc, args))) first cursor after (refl_at (statement_at (codes "bind") cursor)) (tt, (tt, tt)) met
statement_complete (Yield r) first cursor after good met =
    row_complete (λ t. Yield t) (codes "yield") one_name_last r first cursor after (refl_at (statement_at (codes "yield") cursor)) tt met
statement_complete (Never r) first cursor after good met =
    row_complete (λ t. Never t) (codes "never") one_name_last r first cursor after (refl_at (statement_at (codes "never") cursor)) tt met
statement_complete (All r deferreds proc args) first cursor after good met =
    row_complete (λ t. All t.0 t.1.0 t.1.1.0 t.1.1.1) (codes "all") (both_last name_part (both_last then_part call_last))
    (r, (deferreds, (proc, args))) first cursor after (refl_at (statement_at (codes "all") cursor)) (tt, (good, tt)) met
statement_complete (Any r deferreds) first cursor after good met =
    row_complete (λ t. Any t.0 t.1) (codes "any") (both_last name_part some_names_last) (r, deferreds) first cursor after
    (refl_at (statement_at (codes "any") cursor)) (tt, good) met
statement_complete (Choose r choices args) first cursor after good met =
    row_complete (λ t. Choose t.0 t.1.0 t.1.1) (codes "choose") (both_last name_part (both_last choices_part args_last))
    (r, (choices, args)) first cursor after (refl_at (statement_at (codes "choose") cursor)) (tt, (good, tt)) met
statement_complete (Try r proc args catch catch_args mode) first cursor after good met =
    row_complete (λ t. Try t.0 t.1.0 t.1.1 t.1.2 t.1.3 t.1.4) (codes "try") (both_last name_part guarded_calls_last)
    (r, (proc, args, catch, catch_args, mode)) first cursor after
    (refl_at (statement_at (codes "try") cursor)) (tt, tt) met
statement_complete (Sched proc args) first cursor after good met =
    row_complete (λ t. Sched t.0 t.1) (codes "sched") call_last (proc, args) first cursor after
    (refl_at (statement_at (codes "sched") cursor)) tt met
statement_complete (Low proc args) first cursor after good met =
    row_complete (λ t. Low t.0 t.1) (codes "low") call_last (proc, args) first cursor after
    (refl_at (statement_at (codes "low") cursor)) tt met
statement_complete (After r n) first cursor after good met =
    row_complete (λ t. After t.0 t.1) (codes "after") name_atom_last (r, n) first cursor after
    (refl_at (statement_at (codes "after") cursor)) tt met
statement_complete (Event e r n) first cursor after good met =
    row_complete (λ t. Event t.0 t.1.0 t.1.1) (codes "event") (both_last name_part name_atom_last) (e, (r, n)) first cursor after
    (refl_at (statement_at (codes "event") cursor)) (tt, tt) met
statement_complete (Abort e) first cursor after good met =
    row_complete (λ t. Abort t) (codes "abort") one_name_last e first cursor after (refl_at (statement_at (codes "abort") cursor)) tt met
statement_complete (Tick n) first cursor after good met =
    row_complete (λ t. Tick t) (codes "tick") one_atom_last n first cursor after (refl_at (statement_at (codes "tick") cursor)) tt met
statement_complete (Monitor m) first cursor after good met =
    row_complete (λ t. Monitor t) (codes "monitor") one_name_last m first cursor after
    (refl_at (statement_at (codes "monitor") cursor)) tt met
statement_complete (Within m proc args) first cursor after good met =
    row_complete (λ t. Within t.0 t.1.0 t.1.1) (codes "within") (both_last name_part call_last) (m, (proc, args)) first cursor after
    (refl_at (statement_at (codes "within") cursor)) (tt, tt) met
statement_complete (Detach m) first cursor after good met =
    row_complete (λ t. Detach t) (codes "detach") one_name_last m first cursor after (refl_at (statement_at (codes "detach") cursor)) tt met
statement_complete (OnError m proc args) first cursor after good met =
    row_complete (λ t. OnError t.0 t.1.0 t.1.1) (codes "onerror") (both_last name_part call_last) (m, (proc, args)) first cursor after
    (refl_at (statement_at (codes "onerror") cursor)) (tt, tt) met
statement_complete (NextError r m) first cursor after good met =
    row_complete (λ t. NextError t.0 t.1) (codes "nexterr") two_names_last (r, m) first cursor after
    (refl_at (statement_at (codes "nexterr") cursor)) tt met
statement_complete (Send m a) first cursor after good met =
    row_complete (λ t. Send t.0 t.1) (codes "send") name_atom_last (m, a) first cursor after
    (refl_at (statement_at (codes "send") cursor)) tt met
statement_complete (Throttle t k stop) first cursor after good met =
    row_complete (λ t. Throttle t.0 t.1.0 t.1.1.0) (codes "throttle")
    (both_last name_part (both_last (count_part 1) (both_last mode_part end_last))) (t, (k, (stop, tt))) first cursor after
    (refl_at (statement_at (codes "throttle") cursor)) (tt, (tt, (tt, tt))) met
statement_complete (Enqueue r t proc args) first cursor after good met =
    row_complete (λ t. Enqueue t.0 t.1.0 t.1.1.0 t.1.1.1) (codes "enqueue") (both_last name_part (both_last name_part call_last))
    (r, (t, (proc, args))) first cursor after (refl_at (statement_at (codes "enqueue") cursor)) (tt, (tt, tt)) met
statement_complete (ThrottleDone r t) first cursor after good met =
    row_complete (λ t. ThrottleDone t.0 t.1) (codes "tdone") two_names_last (r, t) first cursor after
    (refl_at (statement_at (codes "tdone") cursor)) tt met
statement_complete (Pipe p b) first cursor after good met =
    row_complete (λ t. Pipe t.0 t.1.0) (codes "pipe") (both_last name_part (both_last (count_part 0) end_last))
    (p, (b, tt)) first cursor after (refl_at (statement_at (codes "pipe") cursor)) (tt, (tt, tt)) met
statement_complete (Write r p a) first cursor after good met =
    row_complete (λ t. Write t.0 t.1.0 t.1.1) (codes "write") (both_last name_part name_atom_last) (r, (p, a)) first cursor after
    (refl_at (statement_at (codes "write") cursor)) (tt, tt) met
statement_complete (Put p a) first cursor after good met =
    row_complete (λ t. Put t.0 t.1) (codes "put") name_atom_last (p, a) first cursor after
    (refl_at (statement_at (codes "put") cursor)) tt met
statement_complete (Read r p proc args eof eof_args) first cursor after good met =
    row_complete (λ t. Read t.0 t.1.0 t.1.1.0 t.1.1.1 t.1.1.2 t.1.1.3) (codes "rd")
    (both_last name_part (both_last name_part two_calls_last)) (r, (p, (proc, args, eof, eof_args))) first cursor after
    (refl_at (statement_at (codes "rd") cursor)) (tt, (tt, tt)) met
statement_complete (Close p) first cursor after good met =
    row_complete (λ t. Close t) (codes "close") one_name_last p first cursor after (refl_at (statement_at (codes "close") cursor)) tt met
statement_complete (CloseRead p) first cursor after good met =
    row_complete (λ t. CloseRead t) (codes "closeread") one_name_last p first cursor after
    (refl_at (statement_at (codes "closeread") cursor)) tt met
statement_complete (Flushed r p) first cursor after good met =
    row_complete (λ t. Flushed t.0 t.1) (codes "flushed") two_names_last (r, p) first cursor after
    (refl_at (statement_at (codes "flushed") cursor)) tt met
statement_complete (Work r kind a) first cursor after good met =
    row_complete (λ t. Work t.0 t.1.0 t.1.1) (codes "work") (both_last name_part work_atom_last) (r, (kind, a)) first cursor after
    (refl_at (statement_at (codes "work") cursor)) (tt, tt) met
statement_complete (Helper h x) first cursor after good met =
    row_complete (λ t. Helper t.0 t.1) (codes "helper") two_names_last (h, x) first cursor after
    (refl_at (statement_at (codes "helper") cursor)) tt met
statement_complete (HelperWork r h kind a) first cursor after good met =
    row_complete (λ t. HelperWork t.0 t.1.0 t.1.1.0 t.1.1.1) (codes "hwork") (both_last name_part (both_last name_part work_atom_last))
    (r, (h, (kind, a))) first cursor after (refl_at (statement_at (codes "hwork") cursor)) (tt, (tt, tt)) met
statement_complete (HelperDone h) first cursor after good met =
    row_complete (λ t. HelperDone t) (codes "hdone") one_name_last h first cursor after
    (refl_at (statement_at (codes "hdone") cursor)) tt met
