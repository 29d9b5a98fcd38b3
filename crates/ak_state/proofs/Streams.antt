-- What comes to pipes leaves what fits, and pushbacks, flushes and reads that are taken one at a time.
use Rattle.std.proofs.Common.{◌≡◌, ℕ, ℤ, zero, suc, ◌+◌, ◌<◌, List, [], ◌∷◌, length, map, fold, refl, ap, sym, ◌∙◌, subst, arith, Bool, true, false, cond}
use Rattle.std.specs.Prelude.{pos, ◌↔◌, Option, Some, None, filter, slice_set, slice_index_or}
use Rattle.std.specs.List.{AllByRecursion}
use Rattle.std.proofs.lemmas.List.{get_or-set_same, set-set, length-set, length-append}
use Rattle.ak_base.specs.Lists.{first_of, rest_of, without_first}
use Rattle.ak_base.proofs.Lists.{all_push, all_append}
use Rattle.ak_cells.specs.declared.registration.Registration.{Registration}
use Rattle.ak_cells.specs.Cells.{waiting_on, filled}
use Rattle.ak_frames.specs.declared.value.Value.TheVariants.{Num}
use Rattle.ak_frames.specs.declared.frame.Ret.TheVariants.{To}
use Rattle.ak_frames.specs.declared.frame.Frame.{Frame}
use Rattle.ak_frames.specs.declared.frame.Frame.TheVariants.{Call}
use Rattle.ak_trace.specs.declared.entry.Entry.TheVariants as entry
use Rattle.ak_pipe.specs.declared.flush.Flush.{Flush}
use Rattle.ak_pipe.specs.declared.answer.Got.TheVariants.{Item}
use Rattle.ak_pipe.specs.Pipe as part
use Rattle.ak_pipe.specs.Pipe.{Pipe, fresh_pipe, items_of, is_free, put_before, with_pushback, freed_pushbacks, freed_taken, without_freed, is_settled, is_unsettled, flush_number, settled_flushes, settled_taken, without_settled, flushed_at_once, flush_kept, reads_owed, after_close, after_close_read, owed_taken, without_owed, taker_of, got_from, read_from, settlement, next_settlement}
use Rattle.ak_pipe.specs.Calls.{Give, free_given, FreeGiven, settlements, FlushedGiven, eof_given, EofGiven}
use Rattle.ak_program.specs.declared.program.NumProc.{NumProc}
use Rattle.ak_machine.specs.declared.held.Read.{Read}
use Rattle.ak_machine.specs.State.{State}
use Rattle.ak_machine.specs.Deferred.{noting, plain_task, woken_by, number_at, fill_at, fill, filled_with, filled_where}
use Rattle.ak_machine.specs.Pipes.{pipe_at, with_pipe_at, with_pipe, item_called, eof_called, taken_by, put, write, pushbacks_freed, flush_filled, flushes_settled, got_for, read, eofs_called, close, close_read, learned, flushed}
use Rattle.ak_state.specs.Drawn.{Drawn, drawn, More}
use Rattle.ak_state.specs.Fits.{ReadFits, FlushFits, PipeFits, Fits, FitsSome}
use Rattle.ak_state.specs.Streams.{piped, first_freed, first_settled, first_owed}
use Rattle.ak_state.proofs.Fitting.{Grows, same_grows, kept_grows, then_grows, grown_fits, read_grows, enqueue_grows, fill_grows, all_filled_grow, all_filter, rest_all, value_call}
use Rattle.ak_state.proofs.Monitors.{all_set}

-- ---- a pipe of a state that fits
fresh_fits : (program : List NumProc) (n : Drawn) (budget : ℕ) → PipeFits program n (fresh_pipe budget)
fresh_fits program n budget = record { reads = tt; owed = tt; pushbacks = tt; flushes = tt }

all_at : (program : List NumProc) (n : Drawn) (xs : List (Pipe Read)) (p : ℕ) → AllByRecursion (PipeFits program n) xs
    → PipeFits program n (slice_index_or xs p (fresh_pipe 0))
all_at program n [] p h = fresh_fits program n 0
all_at program n (x ∷ xs) zero h = h.0
all_at program n (x ∷ xs) (suc p) h = all_at program n xs p h.1

pub pipe_fits : (program : List NumProc) (p : ℕ) (s : State) → Fits program s → PipeFits program (drawn s) (pipe_at p s)
pipe_fits program p s f = all_at program (drawn s) s.pipes p f.pipes

pub set_pipe_grows : (program : List NumProc) (p : ℕ) (x : Pipe Read) (s : State) → Fits program s → PipeFits program (drawn s) x
    → Grows program s (with_pipe_at p x s)
set_pipe_grows program p x s f h =
    same_grows program s (with_pipe_at p x s) (ap (λ k. record (drawn s) { pipes = k }) (length-set s.pipes p x))
    (record {
      root = f.root;
      handlers = f.handlers;
      normal = f.normal;
      low = f.low;
      monitors = f.monitors;
      purposes = f.purposes;
      clock = f.clock;
      works = f.works;
      throttles = f.throttles;
      pipes = all_set (PipeFits program (drawn s)) s.pipes p x f.pipes h;
    })

-- ---- a fresh pipe
pub pipe_drawn : (budget : ℕ) (s : State) → length (with_pipe budget s).pipes ≡ length s.pipes + 1
pipe_drawn budget s = length-append s.pipes (fresh_pipe budget ∷ [])

pub pipe_grows : (program : List NumProc) (budget : ℕ) (s : State) → Fits program s → Grows program s (with_pipe budget s)
pipe_grows program budget s f =
    let t : State = with_pipe budget s
    in let more : More (drawn s) (drawn t) =
    record {
      ivars = omega arith;
      monitors = omega arith;
      groups = omega arith;
      parts = λ g. omega arith;
      throttles = omega arith;
      pipes = omega (arith, pipe_drawn budget s);
    }
    in let g = grown_fits program (drawn s) (drawn t) s more f
    in record {
      more = more;
      fits =
          record {
            root = g.root;
            handlers = g.handlers;
            normal = g.normal;
            low = g.low;
            monitors = g.monitors;
            purposes = g.purposes;
            clock = g.clock;
            works = g.works;
            throttles = g.throttles;
            pipes = all_push (PipeFits program (drawn t)) s.pipes (fresh_pipe budget) g.pipes (fresh_fits program (drawn t) budget);
          };
    }

-- ---- reads that are called
item_grows : (program : List NumProc) (r : Read) (v : ℤ) (s : State) → Fits program s → ReadFits program (drawn s) r
    → Grows program s (item_called r v s)
item_grows program r v s f h =
    enqueue_grows program r.ctx (plain_task (Call r.item.proc (Num v ∷ r.item.vals) (To r.item.to))) s f
    (record { monitor = h.context; frame_fits = (value_call program (drawn s) r.item.proc v r.item.vals h.item, h.item_to) })

eof_grows : (program : List NumProc) (r : Read) (s : State) → Fits program s → ReadFits program (drawn s) r → Grows program s (eof_called s r)
eof_grows program r s f h =
    enqueue_grows program r.ctx (plain_task (Call r.eof.proc r.eof.vals (To r.eof.to))) s f
    (record { monitor = h.context; frame_fits = (h.eof, h.eof_to) })

taken_grows : (program : List NumProc) (reads : List Read) (v : ℤ) (s : State) → Fits program s → AllByRecursion (ReadFits program (drawn s)) reads
    → Grows program s (taken_by (first_of reads) v s)
taken_grows program [] v s f h = kept_grows program s f
taken_grows program (r ∷ reads) v s f h = item_grows program r v s f h.0

-- a read that is called draws no ivar
pub taken_cells : (o : Option Read) (v : ℤ) (s : State) → (taken_by o v s).cells ≡ s.cells
taken_cells None v s = refl
taken_cells (Some r) v s = refl

-- as much is drawn where a pipe is another
set_drawn : (p : ℕ) (x : Pipe Read) (s : State) → drawn (with_pipe_at p x s) ≡ drawn s
set_drawn p x s = ap (λ k. record (drawn s) { pipes = k }) (length-set s.pipes p x)

reads_kept : (program : List NumProc) (p : ℕ) (x : Pipe Read) (s : State) (reads : List Read) → AllByRecursion (ReadFits program (drawn s)) reads
    → AllByRecursion (ReadFits program (drawn (with_pipe_at p x s))) reads
reads_kept program p x s reads h = subst (λ n. AllByRecursion (ReadFits program n) reads) (sym (set_drawn p x s)) h

-- ---- a number is written
put_fits : (program : List NumProc) (n : Drawn) (reads : List Read) (v : ℤ) (x : Pipe Read) → PipeFits program n x
    → AllByRecursion (ReadFits program n) reads → PipeFits program n (put_before reads v x)
put_fits program n [] v x f h = record { reads = f.reads; owed = f.owed; pushbacks = f.pushbacks; flushes = f.flushes }
put_fits program n (r ∷ reads) v x f h = record { reads = h.1; owed = f.owed; pushbacks = f.pushbacks; flushes = f.flushes }

pub put_grows : (program : List NumProc) (p : ℕ) (v : ℤ) (s : State) → Fits program s → Grows program s (put p v s)
put_grows program p v s f =
    let x : Pipe Read = pipe_at p s
    in let h = pipe_fits program p s f
    in let t : State = with_pipe_at p (part.put v x) s
    in let one = set_pipe_grows program p (part.put v x) s f (put_fits program (drawn s) x.reads v x h h.reads)
    in then_grows program s t (put p v s) one (taken_grows program x.reads v t one.fits (reads_kept program p (part.put v x) s x.reads h.reads))

written_fits : (program : List NumProc) (n : Drawn) (free : Bool) (i : ℕ) (x : Pipe Read) → PipeFits program n x → i < n.ivars
    → PipeFits program n (cond free x (with_pushback i x))
written_fits program n true i x f h = f
written_fits program n false i x f h =
    record { reads = f.reads; owed = f.owed; pushbacks = all_push (λ k. k < n.ivars) x.pushbacks i f.pushbacks h; flushes = f.flushes }

where_grows : (program : List NumProc) (b : Bool) (i : ℕ) (s : State) → Fits program s → Grows program s (filled_where b i s)
where_grows program true i s f = fill_grows program i (pos 0) s f
where_grows program false i s f = kept_grows program s f

pub write_grows : (program : List NumProc) (p i : ℕ) (v : ℤ) (s : State) → Fits program s → i < length s.cells.ivars
    → Grows program s (write p i v s)
write_grows program p i v s f l =
    let x : Pipe Read = pipe_at p s
    in let h = pipe_fits program p s f
    in let y : Pipe Read = part.after_write v i x
    in let t : State = with_pipe_at p y s
    in let u : State = taken_by (taker_of x) v t
    in let one = set_pipe_grows program p y s f
    (written_fits program (drawn s) (is_free (part.put v x)) i (part.put v x) (put_fits program (drawn s) x.reads v x h h.reads) l)
    in let two = taken_grows program x.reads v t one.fits (reads_kept program p y s x.reads h.reads)
    in let to2 = then_grows program s t u one two
    in then_grows program s u (write p i v s) to2 (where_grows program (is_free (part.put v x)) i u two.fits)

-- ---- pushbacks and flushes
fewer_pushbacks : (program : List NumProc) (n : Drawn) (free : Bool) (x : Pipe Read) (is : List ℕ) → PipeFits program n x
    → AllByRecursion (λ i. i < n.ivars) is → PipeFits program n (cond free (record x { pushbacks = is }) x)
fewer_pushbacks program n true x is f h = record { reads = f.reads; owed = f.owed; pushbacks = h; flushes = f.flushes }
fewer_pushbacks program n false x is f h = f

pub freed_grows : (program : List NumProc) (p : ℕ) (s : State) → Fits program s → Grows program s (pushbacks_freed p s)
freed_grows program p s f =
    let x : Pipe Read = pipe_at p s
    in let t : State = with_pipe_at p (without_freed x) s
    in let one = set_pipe_grows program p (without_freed x) s f (fewer_pushbacks program (drawn s) (is_free x) x [] (pipe_fits program p s f) tt)
    in then_grows program s t (pushbacks_freed p s) one (all_filled_grow program (pos 0) (freed_pushbacks x) t one.fits)

with_flushes_fits : (program : List NumProc) (n : Drawn) (x : Pipe Read) (flushes : List Flush) → PipeFits program n x
    → AllByRecursion (FlushFits n) flushes → PipeFits program n (record x { flushes = flushes })
with_flushes_fits program n x flushes f h = record { reads = f.reads; owed = f.owed; pushbacks = f.pushbacks; flushes = h }

flushes_by : (program : List NumProc) (x : Pipe Read) (flushes : List Flush) (s : State) → Fits program s
    → Grows program s (fold (flush_filled x) s flushes)
flushes_by program x [] s f = kept_grows program s f
flushes_by program x (flush ∷ flushes) s f =
    let one = fill_grows program flush.ivar (flush_number x flush) s f
    in then_grows program s (flush_filled x s flush) (fold (flush_filled x) (flush_filled x s flush) flushes) one
    (flushes_by program x flushes (flush_filled x s flush) one.fits)

pub settled_grows : (program : List NumProc) (p : ℕ) (s : State) → Fits program s → Grows program s (flushes_settled p s)
settled_grows program p s f =
    let x : Pipe Read = pipe_at p s
    in let h = pipe_fits program p s f
    in let t : State = with_pipe_at p (without_settled x) s
    in let one = set_pipe_grows program p (without_settled x) s f
    (with_flushes_fits program (drawn s) x (filter (is_unsettled x) x.flushes) h (all_filter (FlushFits (drawn s)) (is_unsettled x) x.flushes h.flushes))
    in then_grows program s t (flushes_settled p s) one (flushes_by program x (settled_flushes x) t one.fits)

-- ---- a read
after_read_fits : (program : List NumProc) (n : Drawn) (items : List ℤ) (closed : Bool) (r : Read) (x : Pipe Read) → PipeFits program n x
    → ReadFits program n r → PipeFits program n (read_from items closed r x)
after_read_fits program n (v ∷ items) closed r x f h = record { reads = f.reads; owed = f.owed; pushbacks = f.pushbacks; flushes = f.flushes }
after_read_fits program n [] true r x f h = f
after_read_fits program n [] false r x f h =
    record { reads = all_push (ReadFits program n) x.reads r f.reads h; owed = f.owed; pushbacks = f.pushbacks; flushes = f.flushes }

got_grows : (program : List NumProc) (items : List ℤ) (closed : Bool) (r : Read) (p : ℕ) (s : State) → Fits program s → ReadFits program (drawn s) r
    → Grows program s (got_for (got_from items closed r) p s)
got_grows program (v ∷ items) closed r p s f h =
    let t : State = pushbacks_freed p s
    in let u : State = flushes_settled p t
    in let one = freed_grows program p s f
    in let two = settled_grows program p t one.fits
    in let to2 = then_grows program s t u one two
    in then_grows program s u (item_called r v u) to2 (item_grows program r v u two.fits (read_grows program (drawn s) (drawn u) to2.more r h))
got_grows program [] true r p s f h = eof_grows program r s f h
got_grows program [] false r p s f h = kept_grows program s f

pub read_grows_state : (program : List NumProc) (p : ℕ) (r : Read) (s : State) → Fits program s → ReadFits program (drawn s) r
    → Grows program s (read p r s)
read_grows_state program p r s f h =
    let x : Pipe Read = pipe_at p s
    in let y : Pipe Read = part.after_read r x
    in let t : State = with_pipe_at p y s
    in let one = set_pipe_grows program p y s f (after_read_fits program (drawn s) (items_of x) x.closed r x (pipe_fits program p s f) h)
    in then_grows program s t (read p r s) one
    (got_grows program (items_of x) x.closed r p t one.fits (subst (λ n. ReadFits program n r) (sym (set_drawn p y s)) h))

-- a read that takes an item leaves what fits, whatever it is
item_left : (program : List NumProc) (n : Drawn) (items : List ℤ) (closed : Bool) (r r' : Read) (v : ℤ) (x : Pipe Read) → PipeFits program n x
    → got_from items closed r ≡ Item v r' → PipeFits program n (read_from items closed r x)
item_left program n (w ∷ items) closed r r' v x f e = record { reads = f.reads; owed = f.owed; pushbacks = f.pushbacks; flushes = f.flushes }
item_left program n [] true r r' v x f e = absurd (cc)
item_left program n [] false r r' v x f e = absurd (cc)

pub item_left_grows : (program : List NumProc) (p : ℕ) (r r' : Read) (v : ℤ) (s : State) → Fits program s → part.got r (pipe_at p s) ≡ Item v r'
    → Grows program s (piped (part.after_read r) p s)
item_left_grows program p r r' v s f e =
    let x : Pipe Read = pipe_at p s
    in set_pipe_grows program p (part.after_read r x) s f
    (item_left program (drawn s) (items_of x) x.closed r r' v x (pipe_fits program p s f) e)

-- ---- the end
eofs_by : (program : List NumProc) (reads : List Read) (s : State) → Fits program s → AllByRecursion (ReadFits program (drawn s)) reads
    → Grows program s (fold eof_called s reads)
eofs_by program [] s f h = kept_grows program s f
eofs_by program (r ∷ reads) s f h =
    let one = eof_grows program r s f h.0
    in then_grows program s (eof_called s r) (fold eof_called (eof_called s r) reads) one (eofs_by program reads (eof_called s r) one.fits h.1)

pub eofs_grow : (program : List NumProc) (p : ℕ) (s : State) → Fits program s → Grows program s (eofs_called p s)
eofs_grow program p s f =
    let x : Pipe Read = pipe_at p s
    in let h = pipe_fits program p s f
    in let t : State = with_pipe_at p (without_owed x) s
    in let one = set_pipe_grows program p (without_owed x) s f (record { reads = h.reads; owed = tt; pushbacks = h.pushbacks; flushes = h.flushes })
    in then_grows program s t (eofs_called p s) one (eofs_by program x.owed t one.fits (reads_kept program p (without_owed x) s x.owed h.owed))

owed_fits : (program : List NumProc) (n : Drawn) (x : Pipe Read) → PipeFits program n x → PipeFits program n (reads_owed x)
owed_fits program n x f =
    record { reads = tt; owed = all_append (ReadFits program n) x.owed x.reads f.owed f.reads; pushbacks = f.pushbacks; flushes = f.flushes }

closed_fits : (program : List NumProc) (n : Drawn) (before : Bool) (x y : Pipe Read) → PipeFits program n x → PipeFits program n y
    → PipeFits program n (cond before x (reads_owed y))
closed_fits program n true x y f h = f
closed_fits program n false x y f h = owed_fits program n y h

pub closed_grows : (program : List NumProc) (p : ℕ) (s : State) → Fits program s → Grows program s (piped after_close p s)
closed_grows program p s f =
    let x : Pipe Read = pipe_at p s
    in let h = pipe_fits program p s f
    in set_pipe_grows program p (after_close x) s f
    (closed_fits program (drawn s) x.closed x (record x { closed = true }) h
    (record { reads = h.reads; owed = h.owed; pushbacks = h.pushbacks; flushes = h.flushes }))

pub close_grows : (program : List NumProc) (p : ℕ) (s : State) → Fits program s → Grows program s (close p s)
close_grows program p s f =
    let t : State = piped after_close p s
    in let one = closed_grows program p s f
    in then_grows program s t (close p s) one (eofs_grow program p t one.fits)

pub reader_closed_grows : (program : List NumProc) (p : ℕ) (s : State) → Fits program s → Grows program s (piped after_close_read p s)
reader_closed_grows program p s f =
    let x : Pipe Read = pipe_at p s
    in let h = pipe_fits program p s f
    in set_pipe_grows program p (after_close_read x) s f
    (closed_fits program (drawn s) x.reader_closed x (record x { closed = true; reader_closed = true }) h
    (record { reads = h.reads; owed = h.owed; pushbacks = h.pushbacks; flushes = h.flushes }))

pub close_read_grows : (program : List NumProc) (p : ℕ) (s : State) → Fits program s → Grows program s (close_read p s)
close_read_grows program p s f =
    let t : State = piped after_close_read p s
    in let u : State = pushbacks_freed p t
    in let v : State = flushes_settled p u
    in let one = reader_closed_grows program p s f
    in let two = freed_grows program p t one.fits
    in let three = settled_grows program p u two.fits
    in then_grows program s t (close_read p s) one
    (then_grows program t u (close_read p s) two (then_grows program u v (close_read p s) three (eofs_grow program p v three.fits)))

-- ---- a flush
learned_by : (program : List NumProc) (o : Option ℤ) (i p : ℕ) (s : State) → Fits program s → i < length s.cells.ivars
    → Grows program s (learned o i (with_pipe_at p (flush_kept o i (pipe_at p s)) s))
learned_by program (Some v) i p s f l =
    let t : State = with_pipe_at p (pipe_at p s) s
    in let one = set_pipe_grows program p (pipe_at p s) s f (pipe_fits program p s f)
    in then_grows program s t (fill i v t) one (fill_grows program i v t one.fits)
learned_by program None i p s f l =
    let x : Pipe Read = pipe_at p s
    in let h = pipe_fits program p s f
    in set_pipe_grows program p (part.with_flush i x) s f
    (with_flushes_fits program (drawn s) x _ h (all_push (FlushFits (drawn s)) x.flushes _ h.flushes l))

pub flushed_grows : (program : List NumProc) (p i : ℕ) (s : State) → Fits program s → i < length s.cells.ivars → Grows program s (flushed p i s)
flushed_grows program p i s f l = learned_by program (flushed_at_once (pipe_at p s)) i p s f l

-- ---- fills leave the pipes
abbrev with_pipes : List (Pipe Read) → State → State
with_pipes xs s = record s { pipes = xs }

woken_pipes : (v : ℤ) (xs : List (Pipe Read)) (gs : List (Registration Frame)) (s : State)
    → fold (woken_by v) (with_pipes xs s) gs ≡ with_pipes xs (fold (woken_by v) s gs)
woken_pipes v xs [] s = refl
woken_pipes v xs (g ∷ gs) s = woken_pipes v xs gs (woken_by v s g)

fill_at_pipes : (o : Option ℤ) (i : ℕ) (v : ℤ) (xs : List (Pipe Read)) (s : State) → fill_at o i v (with_pipes xs s) ≡ with_pipes xs (fill_at o i v s)
fill_at_pipes (Some w) i v xs s = refl
fill_at_pipes None i v xs s = woken_pipes v xs (waiting_on i s.cells) (noting (entry.Fill i v) (record s { cells = filled i v s.cells }))

fill_pipes : (i : ℕ) (v : ℤ) (xs : List (Pipe Read)) (s : State) → fill i v (with_pipes xs s) ≡ with_pipes xs (fill i v s)
fill_pipes i v xs s = fill_at_pipes (number_at i s) i v xs s

same_pipes : (i : ℕ) (v : ℤ) (s : State) → (fill i v s).pipes ≡ s.pipes
same_pipes i v s = ap (λ (u : State). u.pipes) (fill_pipes i v s.pipes s)

-- ---- calls that take one thing each
-- all that is given, and what is left at the end, where one is given
record Behind {X : Type 0} (taken : Pipe Read → Pipe Read) (all : Pipe Read → List X) (left : Pipe Read → Pipe Read) (x : Pipe Read) (i : X) : Type 0 where
  all_are : all x ≡ i ∷ all (taken x)
  left_is : left x ≡ left (taken x)

abbrev Law : {X : Type 0} → (Pipe Read → Option X) → (Pipe Read → Pipe Read) → (Pipe Read → List X) → (Pipe Read → Pipe Read) → Type 0
Law {X} given taken all left = (xs : List X) (x after : Pipe Read) → Give given taken xs x after ↔ ((xs ≡ all x) × (after ≡ left x))

behind_by : {X : Type 0} (given : Pipe Read → Option X) (taken : Pipe Read → Pipe Read) (all : Pipe Read → List X) (left : Pipe Read → Pipe Read)
    → Law given taken all left → (x : Pipe Read) (i : X) → given x ≡ Some i → (is : List X) → is ≡ all x → Give given taken is x (left x)
    → Behind taken all left x i
behind_by given taken all left law x i h [] e g = let none : Some i ≡ None = sym h ∙ g.0 in absurd (cc)
behind_by given taken all left law x i h (j ∷ js) e g =
    let one : Some i ≡ Some j = sym h ∙ g.0
    in let same : j ≡ i = cc
    in let q = (law js (taken x) (left x)).0 g.1
    in record { all_are = sym e ∙ ap (λ k. k ∷ js) same ∙ ap (λ ks. i ∷ ks) q.0; left_is = q.1 }

behind : {X : Type 0} (given : Pipe Read → Option X) (taken : Pipe Read → Pipe Read) (all : Pipe Read → List X) (left : Pipe Read → Pipe Read)
    → Law given taken all left → (x : Pipe Read) (i : X) → given x ≡ Some i → Behind taken all left x i
behind given taken all left law x i h = behind_by given taken all left law x i h (all x) refl ((law (all x) x (left x)).1 (refl, refl))

none_by : {X : Type 0} (given : Pipe Read → Option X) (taken : Pipe Read → Pipe Read) (all : Pipe Read → List X) (left : Pipe Read → Pipe Read)
    (x : Pipe Read) (is : List X) → given x ≡ None → is ≡ all x → Give given taken is x (left x) → (all x ≡ []) × (left x ≡ x)
none_by given taken all left x [] h e g = (sym e, g.1)
none_by given taken all left x (j ∷ js) h e g = let none : None ≡ Some j = sym h ∙ g.0 in absurd (cc)

none_left : {X : Type 0} (given : Pipe Read → Option X) (taken : Pipe Read → Pipe Read) (all : Pipe Read → List X) (left : Pipe Read → Pipe Read)
    → Law given taken all left → (x : Pipe Read) → given x ≡ None → (all x ≡ []) × (left x ≡ x)
none_left given taken all left law x h = none_by given taken all left x (all x) h refl ((law (all x) x (left x)).1 (refl, refl))

abbrev pub FreeLaw : Type 0
FreeLaw = (ivars : List ℕ) (x after : Pipe Read) → FreeGiven ivars x after ↔ ((ivars ≡ freed_pushbacks x) × (after ≡ without_freed x))

abbrev pub SettledLaw : Type 0
SettledLaw = (settled : List (ℕ × ℤ)) (x after : Pipe Read) → FlushedGiven settled x after ↔ ((settled ≡ settlements x) × (after ≡ without_settled x))

abbrev pub EofLaw : Type 0
EofLaw = (reads : List Read) (x after : Pipe Read) → EofGiven reads x after ↔ ((reads ≡ x.owed) × (after ≡ without_owed x))

abbrev owed_reads : Pipe Read → List Read
owed_reads x = x.owed

at_set : (p : ℕ) (x : Pipe Read) (s : State) → p < length s.pipes → pipe_at p (with_pipe_at p x s) ≡ x
at_set p x s h = get_or-set_same s.pipes p x (fresh_pipe 0) h

-- pushbacks
pub free_next : (law : FreeLaw) (p i : ℕ) (s : State) → p < length s.pipes → first_freed p s ≡ Some i
    → pushbacks_freed p (fill i (pos 0) (piped freed_taken p s)) ≡ pushbacks_freed p s
free_next law p i s l h =
    let x : Pipe Read = pipe_at p s
    in let y : Pipe Read = freed_taken x
    in let b = behind free_given freed_taken freed_pushbacks without_freed law x i h
    in let u : State = fill i (pos 0) s
    in let set : List (Pipe Read) = slice_set s.pipes p y
    in let here : slice_index_or set p (fresh_pipe 0) ≡ y = at_set p y s l
    in ap (pushbacks_freed p) (fill_pipes i (pos 0) set s)
    ∙ ap (λ z. fold (filled_with (pos 0)) (with_pipes (slice_set set p (without_freed z)) u) (freed_pushbacks z)) here
    ∙ ap (λ xs. fold (filled_with (pos 0)) (with_pipes xs u) (freed_pushbacks y)) (set-set s.pipes p y (without_freed y))
    ∙ ap (λ z. fold (filled_with (pos 0)) (with_pipes (slice_set s.pipes p z) u) (freed_pushbacks y)) (sym b.left_is)
    ∙ ap (λ (v : State). fold (filled_with (pos 0)) v (freed_pushbacks y)) (sym (fill_pipes i (pos 0) (slice_set s.pipes p (without_freed x)) s))
    ∙ ap (λ is. fold (filled_with (pos 0)) (with_pipe_at p (without_freed x) s) is) (sym b.all_are)

free_none_by : (free : Bool) (x : Pipe Read) → cond free x.pushbacks [] ≡ []
    → cond free (record x { pushbacks = rest_of x.pushbacks }) x ≡ cond free (record x { pushbacks = [] }) x
free_none_by true x h = ap (λ (is : List ℕ). record x { pushbacks = rest_of is }) h
free_none_by false x h = refl

pub free_over : (law : FreeLaw) (p : ℕ) (s : State) → first_freed p s ≡ None → piped freed_taken p s ≡ pushbacks_freed p s
free_over law p s h =
    let x : Pipe Read = pipe_at p s
    in let n = none_left free_given freed_taken freed_pushbacks without_freed law x h
    in ap (λ y. with_pipe_at p y s) (free_none_by (is_free x) x n.0)
    ∙ ap (λ is. fold (filled_with (pos 0)) (with_pipe_at p (without_freed x) s) is) (sym n.0)

pub fewer_freed : (law : FreeLaw) (p i : ℕ) (s : State) → p < length s.pipes → first_freed p s ≡ Some i
    → length (freed_pushbacks (pipe_at p (fill i (pos 0) (piped freed_taken p s)))) < length (freed_pushbacks (pipe_at p s))
fewer_freed law p i s l h =
    let x : Pipe Read = pipe_at p s
    in let b = behind free_given freed_taken freed_pushbacks without_freed law x i h
    in let here : pipe_at p (fill i (pos 0) (piped freed_taken p s)) ≡ freed_taken x =
    ap (λ xs. slice_index_or xs p (fresh_pipe 0)) (same_pipes i (pos 0) (piped freed_taken p s)) ∙ at_set p (freed_taken x) s l
    in let e : length (freed_pushbacks (pipe_at p (fill i (pos 0) (piped freed_taken p s)))) ≡ length (freed_pushbacks (freed_taken x)) =
    ap (λ y. length (freed_pushbacks y)) here
    in let all : length (freed_pushbacks x) ≡ suc (length (freed_pushbacks (freed_taken x))) = ap length b.all_are
    in omega (arith, e, all)

first_pushback : (n : ℕ) (free : Bool) (is : List ℕ) (i : ℕ) → AllByRecursion (λ k. k < n) is → first_of (cond free is []) ≡ Some i → i < n
first_pushback n true [] i h e = absurd (cc)
first_pushback n true (j ∷ is) i h e = let same : j ≡ i = cc in subst (λ k. k < n) same h.0
first_pushback n false is i h e = absurd (cc)

pub freed_drawn : (p i : ℕ) (s : State) → FitsSome s → first_freed p s ≡ Some i → i < length s.cells.ivars
freed_drawn p i s f h =
    first_pushback (length s.cells.ivars) (is_free (pipe_at p s)) (pipe_at p s).pushbacks i (pipe_fits f.program p s f.fits).pushbacks h

pub freed_fits : (p i : ℕ) (s : State) (f : FitsSome s) → Grows f.program s (fill i (pos 0) (piped freed_taken p s))
freed_fits p i s f =
    let x : Pipe Read = pipe_at p s
    in let h = pipe_fits f.program p s f.fits
    in let one = set_pipe_grows f.program p (freed_taken x) s f.fits
    (fewer_pushbacks f.program (drawn s) (is_free x) x (rest_of x.pushbacks) h (rest_all (λ k. k < length s.cells.ivars) x.pushbacks h.pushbacks))
    in then_grows f.program s (piped freed_taken p s) (fill i (pos 0) (piped freed_taken p s)) one
    (fill_grows f.program i (pos 0) (piped freed_taken p s) one.fits)

-- flushes
abbrev settle : State → ℕ × ℤ → State
settle s settled = fill settled.0 settled.1 s

settles : (x : Pipe Read) (flushes : List Flush) (s : State)
    → fold (flush_filled x) s flushes ≡ fold settle s (map (λ (flush : Flush). (flush.ivar, flush_number x flush)) flushes)
settles x [] s = refl
settles x (flush ∷ flushes) s = settles x flushes (flush_filled x s flush)

settled_filled : (p : ℕ) (s : State)
    → flushes_settled p s ≡ fold settle (with_pipe_at p (without_settled (pipe_at p s)) s) (settlements (pipe_at p s))
settled_filled p s = settles (pipe_at p s) (settled_flushes (pipe_at p s)) (with_pipe_at p (without_settled (pipe_at p s)) s)

pub settle_next : (law : SettledLaw) (p i : ℕ) (v : ℤ) (s : State) → p < length s.pipes → first_settled p s ≡ Some (i, v)
    → flushes_settled p (fill i v (piped settled_taken p s)) ≡ flushes_settled p s
settle_next law p i v s l h =
    let x : Pipe Read = pipe_at p s
    in let y : Pipe Read = settled_taken x
    in let b = behind next_settlement settled_taken settlements without_settled law x (i, v) h
    in let u : State = fill i v s
    in let set : List (Pipe Read) = slice_set s.pipes p y
    in let here : slice_index_or set p (fresh_pipe 0) ≡ y = at_set p y s l
    in ap (flushes_settled p) (fill_pipes i v set s)
    ∙ settled_filled p (with_pipes set u)
    ∙ ap (λ z. fold settle (with_pipes (slice_set set p (without_settled z)) u) (settlements z)) here
    ∙ ap (λ xs. fold settle (with_pipes xs u) (settlements y)) (set-set s.pipes p y (without_settled y))
    ∙ ap (λ z. fold settle (with_pipes (slice_set s.pipes p z) u) (settlements y)) (sym b.left_is)
    ∙ ap (λ (w : State). fold settle w (settlements y)) (sym (fill_pipes i v (slice_set s.pipes p (without_settled x)) s))
    ∙ ap (λ is. fold settle (with_pipe_at p (without_settled x) s) is) (sym b.all_are)
    ∙ sym (settled_filled p s)

none_first : (p : Flush → Bool) (x : Pipe Read) (flushes : List Flush) → settlement (first_of (filter p flushes)) x ≡ None
    → without_first p flushes ≡ flushes
none_first p x [] h = refl
none_first p x (flush ∷ flushes) h = by (p flush) h (none_first p x flushes)
  where
    by : (b : Bool) → settlement (first_of (cond b (flush ∷ filter p flushes) (filter p flushes))) x ≡ None
        → (settlement (first_of (filter p flushes)) x ≡ None → without_first p flushes ≡ flushes)
        → cond b flushes (flush ∷ without_first p flushes) ≡ flush ∷ flushes
    by true q next = absurd (cc)
    by false q next = ap (λ r. flush ∷ r) (next q)

pub settle_over : (law : SettledLaw) (p : ℕ) (s : State) → first_settled p s ≡ None → piped settled_taken p s ≡ flushes_settled p s
settle_over law p s h =
    let x : Pipe Read = pipe_at p s
    in let n = none_left next_settlement settled_taken settlements without_settled law x h
    in let same : settled_taken x ≡ x = ap (λ flushes. record x { flushes = flushes }) (none_first (is_settled x) x x.flushes h)
    in ap (λ y. with_pipe_at p y s) (same ∙ sym n.1)
    ∙ ap (λ is. fold settle (with_pipe_at p (without_settled x) s) is) (sym n.0)
    ∙ sym (settled_filled p s)

pub fewer_settled : (law : SettledLaw) (p i : ℕ) (v : ℤ) (s : State) → p < length s.pipes → first_settled p s ≡ Some (i, v)
    → length (settlements (pipe_at p (fill i v (piped settled_taken p s)))) < length (settlements (pipe_at p s))
fewer_settled law p i v s l h =
    let x : Pipe Read = pipe_at p s
    in let b = behind next_settlement settled_taken settlements without_settled law x (i, v) h
    in let here : pipe_at p (fill i v (piped settled_taken p s)) ≡ settled_taken x =
    ap (λ xs. slice_index_or xs p (fresh_pipe 0)) (same_pipes i v (piped settled_taken p s)) ∙ at_set p (settled_taken x) s l
    in let e : length (settlements (pipe_at p (fill i v (piped settled_taken p s)))) ≡ length (settlements (settled_taken x)) =
    ap (λ y. length (settlements y)) here
    in let all : length (settlements x) ≡ suc (length (settlements (settled_taken x))) = ap length b.all_are
    in omega (arith, e, all)

first_flush : (n : ℕ) (p : Flush → Bool) (x : Pipe Read) (flushes : List Flush) (i : ℕ) (v : ℤ)
    → AllByRecursion (λ (flush : Flush). flush.ivar < n) flushes → settlement (first_of (filter p flushes)) x ≡ Some (i, v) → i < n
first_flush n p x [] i v h e = absurd (cc)
first_flush n p x (flush ∷ flushes) i v h e = by (p flush) e (first_flush n p x flushes i v h.1)
  where
    by : (b : Bool) → settlement (first_of (cond b (flush ∷ filter p flushes) (filter p flushes))) x ≡ Some (i, v)
        → (settlement (first_of (filter p flushes)) x ≡ Some (i, v) → i < n) → i < n
    by true q next =
        let pair : (flush.ivar, flush_number x flush) ≡ (i, v) = cc
        in subst (λ k. k < n) (ap (λ (z : ℕ × ℤ). z.0) pair) h.0
    by false q next = next q

pub settled_drawn : (p i : ℕ) (v : ℤ) (s : State) → FitsSome s → first_settled p s ≡ Some (i, v) → i < length s.cells.ivars
settled_drawn p i v s f h =
    first_flush (length s.cells.ivars) (is_settled (pipe_at p s)) (pipe_at p s) (pipe_at p s).flushes i v (pipe_fits f.program p s f.fits).flushes h

fewer_flushes : (n : ℕ) (p : Flush → Bool) (flushes : List Flush) → AllByRecursion (λ (flush : Flush). flush.ivar < n) flushes
    → AllByRecursion (λ (flush : Flush). flush.ivar < n) (without_first p flushes)
fewer_flushes n p [] h = tt
fewer_flushes n p (flush ∷ flushes) h = by (p flush) (fewer_flushes n p flushes h.1)
  where
    by : (b : Bool) → AllByRecursion (λ (x : Flush). x.ivar < n) (without_first p flushes)
        → AllByRecursion (λ (x : Flush). x.ivar < n) (cond b flushes (flush ∷ without_first p flushes))
    by true r = h.1
    by false r = (h.0, r)

pub settled_fits : (p i : ℕ) (v : ℤ) (s : State) (f : FitsSome s) → Grows f.program s (fill i v (piped settled_taken p s))
settled_fits p i v s f =
    let x : Pipe Read = pipe_at p s
    in let h = pipe_fits f.program p s f.fits
    in let one = set_pipe_grows f.program p (settled_taken x) s f.fits
    (with_flushes_fits f.program (drawn s) x _ h (fewer_flushes (length s.cells.ivars) (is_settled x) x.flushes h.flushes))
    in then_grows f.program s (piped settled_taken p s) (fill i v (piped settled_taken p s)) one
    (fill_grows f.program i v (piped settled_taken p s) one.fits)

-- reads that are owed the end
pub eof_next : (law : EofLaw) (p : ℕ) (r : Read) (s : State) → p < length s.pipes → first_owed p s ≡ Some r
    → eofs_called p (eof_called (piped owed_taken p s) r) ≡ eofs_called p s
eof_next law p r s l h =
    let x : Pipe Read = pipe_at p s
    in let y : Pipe Read = owed_taken x
    in let b = behind eof_given owed_taken owed_reads without_owed law x r h
    in let u : State = eof_called s r
    in let set : List (Pipe Read) = slice_set s.pipes p y
    in let here : slice_index_or set p (fresh_pipe 0) ≡ y = at_set p y s l
    in ap (λ z. fold eof_called (with_pipes (slice_set set p (without_owed z)) u) z.owed) here
    ∙ ap (λ xs. fold eof_called (with_pipes xs u) y.owed) (set-set s.pipes p y (without_owed y))
    ∙ ap (λ z. fold eof_called (with_pipes (slice_set s.pipes p z) u) y.owed) (sym b.left_is)
    ∙ ap (λ reads. fold eof_called (with_pipe_at p (without_owed x) s) reads) (sym b.all_are)

pub eof_over : (law : EofLaw) (p : ℕ) (s : State) → first_owed p s ≡ None → piped owed_taken p s ≡ eofs_called p s
eof_over law p s h =
    let x : Pipe Read = pipe_at p s
    in let n = none_left eof_given owed_taken owed_reads without_owed law x h
    in let taken : owed_taken x ≡ without_owed x = ap (λ (reads : List Read). record x { owed = rest_of reads }) n.0
    in ap (λ y. with_pipe_at p y s) taken ∙ ap (λ reads. fold eof_called (with_pipe_at p (without_owed x) s) reads) (sym n.0)

pub fewer_owed : (law : EofLaw) (p : ℕ) (r : Read) (s : State) → p < length s.pipes → first_owed p s ≡ Some r
    → length (pipe_at p (eof_called (piped owed_taken p s) r)).owed < length (pipe_at p s).owed
fewer_owed law p r s l h =
    let x : Pipe Read = pipe_at p s
    in let b = behind eof_given owed_taken owed_reads without_owed law x r h
    in let here : pipe_at p (eof_called (piped owed_taken p s) r) ≡ owed_taken x = at_set p (owed_taken x) s l
    in let e : length (pipe_at p (eof_called (piped owed_taken p s) r)).owed ≡ length (owed_taken x).owed = ap (λ (y : Pipe Read). length y.owed) here
    in let all : length x.owed ≡ suc (length (owed_taken x).owed) = ap length b.all_are
    in omega (arith, e, all)
