-- Pipes with mapped names, and what each step of them does to the state that the parts stand for.
use Rattle.std.proofs.Common.{◌≡◌, ℕ, ℤ, List, [], ◌∷◌, ◌++◌, length, map, refl, ap, sym, ◌∙◌, Bool, true, false, cond}
use Rattle.std.specs.Prelude.{Option, Some, None, slice_set, slice_index_or}
use Rattle.std.specs.Option.{option_map}
use Rattle.std.proofs.lemmas.List.{map-append, map-set}
use Rattle.std.proofs.Math.ListN.{get_or-map}
use Rattle.ak_base.specs.Lists.{first_of, rest_of}
use Rattle.ak_cells.specs.Names.{name_in, trimmed}
use Rattle.ak_cells.specs.Rooms.{NamedCells}
use Rattle.ak_frames.specs.declared.frame.Frame.{Frame}
use Rattle.ak_frames.specs.declared.frame.Task.{Task}
use Rattle.ak_rings.specs.Queues.{Queues}
use Rattle.ak_trace.specs.declared.entry.Entry.{Entry}
use Rattle.ak_pipe.specs.declared.flush.Flush.{Flush}
use Rattle.ak_pipe.specs.Pipe.{Pipe, fresh_pipe, items_of, is_free, put_before, put, taker_of, with_pushback, freed_pushbacks, freed_taken, is_settled, settled_flushes, settled_taken, flushed_at_once, reads_owed, after_close, after_close_read, owed_taken, wrote, after_write, got_from, got, read_from, after_read, flush_kept, after_flushed, settlement, next_settlement}
use Rattle.ak_machine.specs.declared.held.Read.{Read}
use Rattle.ak_machine.specs.State.{State}
use Rattle.ak_machine.specs.Mapped.{read_mapped, flush_mapped, pipe_mapped, state_named}
use Rattle.ak_machine.specs.Pipes.{with_pipe}
use Rattle.ak_state.specs.Seen.{seen, doing, raw_state}
use Rattle.ak_state.specs.Streams.{piped, wrote_mapped, got_mapped, settlement_mapped}
use Rattle.ak_state.proofs.Stands.{seen_as}
use Rattle.ak_state.proofs.Throttles.{filter_mapped, first_without, front_of_map, rest_of_map}

-- ---- each step of a pipe with mapped names
put_by : (f : ℕ → ℕ) (reads : List Read) (v : ℤ) (x : Pipe Read)
    → pipe_mapped f (put_before reads v x) ≡ put_before (map (read_mapped f) reads) v (pipe_mapped f x)
put_by f [] v x = refl
put_by f (r ∷ reads) v x = refl

pub put_mapped : (f : ℕ → ℕ) (v : ℤ) (x : Pipe Read) → pipe_mapped f (put v x) ≡ put v (pipe_mapped f x)
put_mapped f v x = put_by f x.reads v x

pub taker_mapped : (f : ℕ → ℕ) (x : Pipe Read) → option_map (read_mapped f) (taker_of x) ≡ taker_of (pipe_mapped f x)
taker_mapped f x = front_of_map (read_mapped f) x.reads

free_put : (f : ℕ → ℕ) (v : ℤ) (x : Pipe Read) → is_free (put v x) ≡ is_free (put v (pipe_mapped f x))
free_put f v x = ap is_free (put_mapped f v x)

pub wrote_same : (f : ℕ → ℕ) (v : ℤ) (x : Pipe Read) → wrote_mapped f (wrote v x) ≡ wrote v (pipe_mapped f x)
wrote_same f v x =
    ap (λ (o : Option Read). record (wrote v x) { served = o }) (taker_mapped f x)
    ∙ ap (λ b. record (wrote v (pipe_mapped f x)) { free = b }) (free_put f v x)

pushback_mapped : (f : ℕ → ℕ) (i : ℕ) (x : Pipe Read) → pipe_mapped f (with_pushback i x) ≡ with_pushback (f i) (pipe_mapped f x)
pushback_mapped f i x = ap (λ is. record (pipe_mapped f x) { pushbacks = is }) (map-append f x.pushbacks (i ∷ []))

pub write_mapped : (f : ℕ → ℕ) (v : ℤ) (i : ℕ) (x : Pipe Read) → pipe_mapped f (after_write v i x) ≡ after_write v (f i) (pipe_mapped f x)
write_mapped f v i x =
    by (is_free (put v x))
    ∙ ap (λ b. cond b (pipe_mapped f (put v x)) (with_pushback (f i) (pipe_mapped f (put v x)))) (free_put f v x)
    ∙ ap (λ y. cond (is_free (put v (pipe_mapped f x))) y (with_pushback (f i) y)) (put_mapped f v x)
  where
    by : (b : Bool) → pipe_mapped f (cond b (put v x) (with_pushback i (put v x)))
        ≡ cond b (pipe_mapped f (put v x)) (with_pushback (f i) (pipe_mapped f (put v x)))
    by true = refl
    by false = pushback_mapped f i (put v x)

got_by : (f : ℕ → ℕ) (items : List ℤ) (closed : Bool) (r : Read) → got_mapped f (got_from items closed r) ≡ got_from items closed (read_mapped f r)
got_by f (v ∷ items) closed r = refl
got_by f [] true r = refl
got_by f [] false r = refl

pub got_same : (f : ℕ → ℕ) (r : Read) (x : Pipe Read) → got_mapped f (got r x) ≡ got (read_mapped f r) (pipe_mapped f x)
got_same f r x = got_by f (items_of x) x.closed r

read_by : (f : ℕ → ℕ) (items : List ℤ) (closed : Bool) (r : Read) (x : Pipe Read)
    → pipe_mapped f (read_from items closed r x) ≡ read_from items closed (read_mapped f r) (pipe_mapped f x)
read_by f (v ∷ items) closed r x = refl
read_by f [] true r x = refl
read_by f [] false r x = ap (λ rs. record (pipe_mapped f x) { reads = rs }) (map-append (read_mapped f) x.reads (r ∷ []))

pub read_same : (f : ℕ → ℕ) (r : Read) (x : Pipe Read) → pipe_mapped f (after_read r x) ≡ after_read (read_mapped f r) (pipe_mapped f x)
read_same f r x = read_by f (items_of x) x.closed r x

owed_mapped : (f : ℕ → ℕ) (x : Pipe Read) → pipe_mapped f (reads_owed x) ≡ reads_owed (pipe_mapped f x)
owed_mapped f x = ap (λ rs. record (pipe_mapped f x) { reads = []; owed = rs }) (map-append (read_mapped f) x.owed x.reads)

pub close_mapped : (f : ℕ → ℕ) (x : Pipe Read) → pipe_mapped f (after_close x) ≡ after_close (pipe_mapped f x)
close_mapped f x = by x.closed
  where
    by : (b : Bool) → pipe_mapped f (cond b x (reads_owed (record x { closed = true })))
        ≡ cond b (pipe_mapped f x) (reads_owed (record (pipe_mapped f x) { closed = true }))
    by true = refl
    by false = owed_mapped f (record x { closed = true })

pub close_read_mapped : (f : ℕ → ℕ) (x : Pipe Read) → pipe_mapped f (after_close_read x) ≡ after_close_read (pipe_mapped f x)
close_read_mapped f x = by x.reader_closed
  where
    by : (b : Bool) → pipe_mapped f (cond b x (reads_owed (record x { closed = true; reader_closed = true })))
        ≡ cond b (pipe_mapped f x) (reads_owed (record (pipe_mapped f x) { closed = true; reader_closed = true }))
    by true = refl
    by false = owed_mapped f (record x { closed = true; reader_closed = true })

pub flushed_mapped : (f : ℕ → ℕ) (i : ℕ) (x : Pipe Read) → pipe_mapped f (after_flushed i x) ≡ after_flushed (f i) (pipe_mapped f x)
flushed_mapped f i x = by (flushed_at_once x)
  where
    by : (o : Option ℤ) → pipe_mapped f (flush_kept o i x) ≡ flush_kept o (f i) (pipe_mapped f x)
    by (Some v) = refl
    by None =
        ap (λ fs. record (pipe_mapped f x) { flushes = fs }) (map-append (flush_mapped f) x.flushes (record { ivar = i; count = length x.written } ∷ []))

pub free_given_mapped : (f : ℕ → ℕ) (x : Pipe Read) → option_map f (first_of (freed_pushbacks x)) ≡ first_of (freed_pushbacks (pipe_mapped f x))
free_given_mapped f x = by (is_free x)
  where
    by : (b : Bool) → option_map f (first_of (cond b x.pushbacks [])) ≡ first_of (cond b (map f x.pushbacks) [])
    by true = front_of_map f x.pushbacks
    by false = refl

pub free_taken_mapped : (f : ℕ → ℕ) (x : Pipe Read) → pipe_mapped f (freed_taken x) ≡ freed_taken (pipe_mapped f x)
free_taken_mapped f x = by (is_free x)
  where
    by : (b : Bool) → pipe_mapped f (cond b (record x { pushbacks = rest_of x.pushbacks }) x)
        ≡ cond b (record (pipe_mapped f x) { pushbacks = rest_of (map f x.pushbacks) }) (pipe_mapped f x)
    by true = ap (λ is. record (pipe_mapped f x) { pushbacks = is }) (rest_of_map f x.pushbacks)
    by false = refl

settled_mapped : (f : ℕ → ℕ) (x : Pipe Read) → map (flush_mapped f) (settled_flushes x) ≡ settled_flushes (pipe_mapped f x)
settled_mapped f x = sym (filter_mapped (flush_mapped f) (is_settled (pipe_mapped f x)) (is_settled x) (λ flush. refl) x.flushes)

first_settled_by : (f : ℕ → ℕ) (x : Pipe Read) (flushes : List Flush)
    → option_map (settlement_mapped f) (settlement (first_of flushes) x) ≡ settlement (first_of (map (flush_mapped f) flushes)) (pipe_mapped f x)
first_settled_by f x [] = refl
first_settled_by f x (flush ∷ flushes) = refl

pub settlement_same : (f : ℕ → ℕ) (x : Pipe Read) → option_map (settlement_mapped f) (next_settlement x) ≡ next_settlement (pipe_mapped f x)
settlement_same f x =
    first_settled_by f x (settled_flushes x) ∙ ap (λ flushes. settlement (first_of flushes) (pipe_mapped f x)) (settled_mapped f x)

pub settled_taken_mapped : (f : ℕ → ℕ) (x : Pipe Read) → pipe_mapped f (settled_taken x) ≡ settled_taken (pipe_mapped f x)
settled_taken_mapped f x =
    ap (λ flushes. record (pipe_mapped f x) { flushes = flushes })
    (first_without (flush_mapped f) (is_settled (pipe_mapped f x)) (is_settled x) (λ flush. refl) x.flushes)

pub owed_taken_mapped : (f : ℕ → ℕ) (x : Pipe Read) → pipe_mapped f (owed_taken x) ≡ owed_taken (pipe_mapped f x)
owed_taken_mapped f x = ap (λ rs. record (pipe_mapped f x) { owed = rs }) (rest_of_map (read_mapped f) x.owed)

-- ---- a pipe of the state
pub pipe_seen : (f : ℕ → ℕ) (xs : List (Pipe Read)) (p : ℕ)
    → slice_index_or (map (pipe_mapped f) xs) p (fresh_pipe 0) ≡ pipe_mapped f (slice_index_or xs p (fresh_pipe 0))
pipe_seen f xs p = get_or-map (pipe_mapped f) xs p (fresh_pipe 0)

pub seen_piped : (cells : NamedCells Frame) (q : Queues Task) (t : List Entry) (lists : State) (k : ℕ) (step step' : Pipe Read → Pipe Read)
    → ((x : Pipe Read) → pipe_mapped (name_in (trimmed cells.names)) (step x) ≡ step' (pipe_mapped (name_in (trimmed cells.names)) x))
    → seen cells q t (record lists { pipes = slice_set lists.pipes k (step (slice_index_or lists.pipes k (fresh_pipe 0))) })
    ≡ doing (piped step' k) (seen cells q t lists)
seen_piped cells q t lists k step step' e =
    let f : ℕ → ℕ = name_in (trimmed cells.names)
    in let x : Pipe Read = slice_index_or lists.pipes k (fresh_pipe 0)
    in ap (λ xs. seen_as (trimmed cells.names) (record (state_named f (raw_state cells q t lists)) { pipes = xs }))
    (map-set (pipe_mapped f) lists.pipes k (step x)
    ∙ ap (slice_set (map (pipe_mapped f) lists.pipes) k) (e x ∙ ap step' (sym (pipe_seen f lists.pipes k))))

pub seen_fresh_pipe : (cells : NamedCells Frame) (q : Queues Task) (t : List Entry) (lists : State) (budget : ℕ)
    → seen cells q t (record lists { pipes = lists.pipes ++ fresh_pipe budget ∷ [] }) ≡ doing (with_pipe budget) (seen cells q t lists)
seen_fresh_pipe cells q t lists budget =
    let f : ℕ → ℕ = name_in (trimmed cells.names)
    in ap (λ xs. seen_as (trimmed cells.names) (record (state_named f (raw_state cells q t lists)) { pipes = xs }))
    (map-append (pipe_mapped f) lists.pipes (fresh_pipe budget ∷ []))
