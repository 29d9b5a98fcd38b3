-- What each change of the parts does to the state that they stand for.
use Rattle.std.proofs.Common.{ℕ, ◌≡◌, List, [], ◌∷◌, ◌++◌, length, map, fold, refl, ap, sym, ◌∙◌, subst, ◌<◌, Bool, true, false, cond}
use Rattle.std.proofs.lemmas.List.{length-map}
use Rattle.std.specs.Prelude.{ℤ, Option, Some, None, is_none, ◌==◌}
use Rattle.ak_base.specs.declared.number.Ctx.{Ctx}
use Rattle.ak_base.specs.Lists.{first_of, rest_of}
use Rattle.ak_rings.specs.Queues.{Queues, picked_from}
use Rattle.ak_cells.specs.declared.registration.Registration.{Registration}
use Rattle.ak_cells.specs.declared.registration.Woken.{Woken}
use Rattle.ak_cells.specs.declared.registration.Placed.TheVariants.{Kept, Full}
use Rattle.ak_cells.specs.declared.registration.Connected.{Connected}
use Rattle.ak_cells.specs.declared.registration.Connected.TheVariants.{Same, ResultFull, Filled, Joined}
use Rattle.ak_cells.specs.Names.{name_in, trimmed, renamed}
use Rattle.ak_cells.specs.Cells.{Cells, number_in, waiting_on}
use Rattle.ak_cells.specs.Rooms.{NamedCells, fresh_named, number_of, registered, registered_at, placed_at, woken_by as cell_woken_by, filled_at, filled_named, connected, connected_at, connection_of, connection_at, named_renamed}
use Rattle.ak_frames.specs.declared.frame.Frame.{Frame}
use Rattle.ak_frames.specs.declared.frame.Task.{Task}
use Rattle.ak_trace.specs.declared.entry.Entry.{Entry}
use Rattle.ak_trace.specs.declared.entry.Entry.TheVariants as entry
use Rattle.ak_machine.specs.State.{State}
use Rattle.ak_machine.specs.Deferred.{enqueue, number_at, is_empty, with_ivar, fill_empty, fill_at, fill, woken_by, register_at, register, connect_at, connect}
use Rattle.ak_machine.specs.Mapped.{task_mapped, frame_mapped, state_named}
use Rattle.ak_machine.proofs.Mapped.{enqueue_named, fill_empty_named, register_at_named, state_named_law}
use Rattle.ak_machine.proofs.Names.{name_in-own, name_in-renamed, trimmed-fresh, name_in-trimmed, name_in-drawn}
use Rattle.ak_state.specs.Seen.{Seen, IsKept, raw_state, seen, doing, enqueued_for, with_jobs, without_pick}
use Rattle.ak_state.specs.Groups.{waits_under}
use Rattle.ak_state.proofs.Picks.{picked_mapped}

-- a state beside names
abbrev pub seen_as : List ℕ → State → Seen
seen_as names s = record { plain = s; names = names }

pub seen_enqueue : (cells : NamedCells Frame) (q q' : Queues Task) (t t' : List Entry) (lists : State) (ctx : Ctx) (task : Task) →
    ((s : State) → with_jobs q' t' s ≡ enqueue ctx task (with_jobs q t s)) →
    seen cells q' t' lists ≡ doing (enqueue ctx (task_mapped (name_in (trimmed cells.names)) task)) (seen cells q t lists)
seen_enqueue cells q q' t t' lists ctx task e =
    let f : ℕ → ℕ = name_in (trimmed cells.names)
    in ap (seen_as (trimmed cells.names)) (ap (state_named f) (e (raw_state cells q t lists)) ∙ enqueue_named f ctx task (raw_state cells q t lists))

-- a fresh ivar changes no name
pub seen_fresh : (cells : NamedCells Frame) (q : Queues Task) (t : List Entry) (lists : State) → length cells.names ≡ length cells.cells.ivars →
    seen (fresh_named cells) q t lists ≡ doing with_ivar (seen cells q t lists)
seen_fresh cells q t lists e =
    ap (λ ns. seen_as ns (state_named (name_in ns) (raw_state (fresh_named cells) q t lists)))
    (ap (λ n. trimmed (cells.names ++ n ∷ [])) (sym e) ∙ trimmed-fresh cells.names)

pub name_trimmed : (names : List ℕ) (i : ℕ) → name_in (trimmed names) i ≡ name_in names i
name_trimmed names i = ap (λ f. f i) (name_in-trimmed names)

pub own_fresh : (cells : NamedCells Frame) → length cells.names ≡ length cells.cells.ivars
    → name_in (trimmed cells.names) (length cells.cells.ivars) ≡ length cells.cells.ivars
own_fresh cells e = name_trimmed cells.names (length cells.cells.ivars) ∙ subst (λ n. name_in cells.names n ≡ n) e (name_in-own cells.names)

fold_woken : (v : ℤ) (gs : List (Registration Frame)) (s : State) → fold enqueued_for s (map (cell_woken_by v) gs) ≡ fold (woken_by v) s gs
fold_woken v [] s = refl
fold_woken v (g ∷ gs) s = fold_woken v gs (woken_by v s g)

pub seen_fill : (cells : NamedCells Frame) (q q' : Queues Task) (t t' : List Entry) (lists : State) (i : ℕ) (v : ℤ) →
    ((s : State) → with_jobs q' t' s ≡ fold enqueued_for (with_jobs q (t ++ entry.Fill (name_in cells.names i) v ∷ []) s) (filled_named i v cells).woken) →
    seen (record (filled_named i v cells) { woken = [] }) q' t' lists ≡ doing (fill_empty (name_in (trimmed cells.names) i) v) (seen cells q t lists)
seen_fill cells q q' t t' lists i v e =
    let n : ℕ = name_in cells.names i
    in let f : ℕ → ℕ = name_in (trimmed cells.names)
    in let s : State = raw_state (filled_named i v cells) q (t ++ entry.Fill n v ∷ []) lists
    in ap (seen_as (trimmed cells.names))
    (ap (state_named f) (e s ∙ fold_woken v (waiting_on n cells.cells) s) ∙ fill_empty_named f n v (raw_state cells q t lists))
    ∙ ap (λ x. doing (fill_empty x v) (seen cells q t lists)) (sym (name_trimmed cells.names i))

-- a number in the state that is seen is the cells' own
pub number_seen : (cells : NamedCells Frame) (i : ℕ) → number_in (name_in (trimmed cells.names) i) cells.cells ≡ number_of i cells
number_seen cells i = ap (λ x. number_in x cells.cells) (name_trimmed cells.names i)

keep_at : (o : Option ℤ) → o ≡ None → (n : ℕ) (ctx : Ctx) (frame : Frame) (cells : NamedCells Frame) (q : Queues Task) (t : List Entry) (lists : State) →
    seen (registered_at o n ctx frame cells) q t lists ≡ seen_as (trimmed cells.names)
    (state_named (name_in (trimmed cells.names)) (register_at None n ctx frame (raw_state cells q t lists)))
keep_at None e n ctx frame cells q t lists = refl
keep_at (Some v) e n ctx frame cells q t lists = absurd (cc)

pub seen_keep : (cells : NamedCells Frame) (q : Queues Task) (t : List Entry) (lists : State) (i : ℕ) (ctx : Ctx) (frame : Frame) → number_of i cells ≡ None →
    seen (registered i ctx frame cells) q t lists ≡ doing
    (register_at None (name_in (trimmed cells.names) i) ctx (frame_mapped (name_in (trimmed cells.names)) frame)) (seen cells q t lists)
seen_keep cells q t lists i ctx frame e =
    let f : ℕ → ℕ = name_in (trimmed cells.names)
    in keep_at (number_of i cells) e (name_in cells.names i) ctx frame cells q t lists
    ∙ ap (seen_as (trimmed cells.names)) (register_at_named f None (name_in cells.names i) ctx frame (raw_state cells q t lists))
    ∙ ap (λ x. doing (register_at None x ctx (frame_mapped f frame)) (seen cells q t lists)) (sym (name_trimmed cells.names i))

-- ---- a handler, by where the cells put it
kept_none : (o : Option ℤ) (frame : Frame) (c : Cells Frame) (number : ℕ) → placed_at o frame c ≡ Kept number → o ≡ None
kept_none None frame c number e = refl
kept_none (Some v) frame c number e = absurd (cc)

full_some : (o : Option ℤ) (frame frame' : Frame) (c : Cells Frame) (v : ℤ) → placed_at o frame c ≡ Full v frame' → (o ≡ Some v) × (frame' ≡ frame)
full_some None frame frame' c v e = absurd (cc)
full_some (Some w) frame frame' c v e = (cc, cc)

-- registering, by what the ivar is full with
registers_by : (cells : NamedCells Frame) (q : Queues Task) (t : List Entry) (lists : State) (i : ℕ) (ctx : Ctx) (frame : Frame) (o : Option ℤ)
    → number_of i cells ≡ o →
    doing (register_at o (name_in (trimmed cells.names) i) ctx frame) (seen cells q t lists) ≡ doing
    (register (name_in (trimmed cells.names) i) ctx frame) (seen cells q t lists)
registers_by cells q t lists i ctx frame o e =
    ap (λ x. doing (register_at x (name_in (trimmed cells.names) i) ctx frame) (seen cells q t lists)) (sym (number_seen cells i ∙ e))

pub seen_kept : (cells : NamedCells Frame) (q : Queues Task) (t : List Entry) (lists : State) (i : ℕ) (ctx : Ctx) (frame : Frame) (number : ℕ)
    → placed_at (number_of i cells) frame cells.cells ≡ Kept number →
    seen (registered i ctx frame cells) q t lists ≡ doing
    (register (name_in (trimmed cells.names) i) ctx (frame_mapped (name_in (trimmed cells.names)) frame)) (seen cells q t lists)
seen_kept cells q t lists i ctx frame number p =
    let e = kept_none (number_of i cells) frame cells.cells number p
    in seen_keep cells q t lists i ctx frame e ∙ registers_by cells q t lists i ctx (frame_mapped (name_in (trimmed cells.names)) frame) None e

pub seen_full : (cells : NamedCells Frame) (q : Queues Task) (t : List Entry) (lists : State) (i : ℕ) (ctx : Ctx) (frame frame' : Frame) (v : ℤ)
    → placed_at (number_of i cells) frame cells.cells ≡ Full v frame' →
    doing (enqueue ctx (task_mapped (name_in (trimmed (registered i ctx frame cells).names)) (record { frame = frame'; value = Some v })))
    (seen (registered i ctx frame cells) q t lists)
    ≡ doing (register (name_in (trimmed cells.names) i) ctx (frame_mapped (name_in (trimmed cells.names)) frame)) (seen cells q t lists)
seen_full cells q t lists i ctx frame frame' v p =
    let e = full_some (number_of i cells) frame frame' cells.cells v p
    in ap (λ (c : NamedCells Frame). doing (enqueue ctx (task_mapped (name_in (trimmed c.names)) (record { frame = frame'; value = Some v })))
    (seen c q t lists)) (ap (λ o. registered_at o (name_in cells.names i) ctx frame cells) e.0)
    ∙ ap (λ (x : Frame). doing (enqueue ctx (task_mapped (name_in (trimmed cells.names)) (record { frame = x; value = Some v }))) (seen cells q t lists)) e.1
    ∙ registers_by cells q t lists i ctx (frame_mapped (name_in (trimmed cells.names)) frame) (Some v) e.0

-- the number under which it waits
under_by : (o : Option ℤ) (frame : Frame) (c : Cells Frame) (number : ℕ) (s : State) → s.cells.next ≡ c.next → placed_at o frame c ≡ Kept number
    → Some number ≡ waits_under o s
under_by None frame c number s e p = let same : number ≡ c.next = cc in ap Some (same ∙ sym e)
under_by (Some v) frame c number s e p = absurd (cc)

pub waits_kept : (cells : NamedCells Frame) (q : Queues Task) (t : List Entry) (lists : State) (i : ℕ) (frame : Frame) (number : ℕ)
    → placed_at (number_of i cells) frame cells.cells ≡ Kept number
    → Some number ≡ waits_under (number_at (name_in (trimmed cells.names) i) (seen cells q t lists).plain) (seen cells q t lists).plain
waits_kept cells q t lists i frame number p =
    under_by (number_of i cells) frame cells.cells number (seen cells q t lists).plain refl p
    ∙ ap (λ o. waits_under o (seen cells q t lists).plain) (sym (number_seen cells i))

pub waits_full : (cells : NamedCells Frame) (q : Queues Task) (t : List Entry) (lists : State) (i : ℕ) (frame frame' : Frame) (v : ℤ)
    → placed_at (number_of i cells) frame cells.cells ≡ Full v frame'
    → None ≡ waits_under (number_at (name_in (trimmed cells.names) i) (seen cells q t lists).plain) (seen cells q t lists).plain
waits_full cells q t lists i frame frame' v p =
    ap (λ o. waits_under o (seen cells q t lists).plain)
    (sym (full_some (number_of i cells) frame frame' cells.cells v p).0 ∙ sym (number_seen cells i))

-- ---- a fill, by whether the ivar is empty
fills_by : (cells : NamedCells Frame) (q : Queues Task) (t : List Entry) (lists : State) (i : ℕ) (v : ℤ) (o : Option ℤ) → number_of i cells ≡ o →
    doing (fill_at o (name_in (trimmed cells.names) i) v) (seen cells q t lists) ≡ doing (fill (name_in (trimmed cells.names) i) v) (seen cells q t lists)
fills_by cells q t lists i v o e = ap (λ x. doing (fill_at x (name_in (trimmed cells.names) i) v) (seen cells q t lists)) (sym (number_seen cells i ∙ e))

pub seen_filled : (cells : NamedCells Frame) (q q' : Queues Task) (t t' : List Entry) (lists : State) (i : ℕ) (v : ℤ) → number_of i cells ≡ None →
    ((s : State) → with_jobs q' t' s ≡ fold enqueued_for (with_jobs q (t ++ entry.Fill (name_in cells.names i) v ∷ []) s) (filled_named i v cells).woken) →
    seen (record (filled_named i v cells) { woken = [] }) q' t' lists ≡ doing (fill (name_in (trimmed cells.names) i) v) (seen cells q t lists)
seen_filled cells q q' t t' lists i v e jobs = seen_fill cells q q' t t' lists i v jobs ∙ fills_by cells q t lists i v None e

unfilled_at : (o : Option ℤ) → (o ≡ None → ⊥) → (n : ℕ) (v : ℤ) (s : Seen) → s ≡ doing (fill_at o n v) s
unfilled_at None e n v s = absurd (e refl)
unfilled_at (Some w) e n v s = refl

pub seen_unfilled : (cells : NamedCells Frame) (q : Queues Task) (t : List Entry) (lists : State) (i : ℕ) (v : ℤ) → (number_of i cells ≡ None → ⊥)
    → seen cells q t lists ≡ doing (fill (name_in (trimmed cells.names) i) v) (seen cells q t lists)
seen_unfilled cells q t lists i v e =
    unfilled_at (number_of i cells) e (name_in (trimmed cells.names) i) v (seen cells q t lists) ∙ fills_by cells q t lists i v (number_of i cells) refl

none_at : (o : Option ℤ) → o ≡ None → true ≡ is_none o
none_at None e = refl
none_at (Some v) e = absurd (cc)

some_at : (o : Option ℤ) → (o ≡ None → ⊥) → false ≡ is_none o
some_at None e = absurd (e refl)
some_at (Some v) e = refl

pub empty_seen : (cells : NamedCells Frame) (q : Queues Task) (t : List Entry) (lists : State) (i : ℕ) → number_of i cells ≡ None
    → true ≡ is_empty (name_in (trimmed cells.names) i) (seen cells q t lists).plain
empty_seen cells q t lists i e = none_at (number_in (name_in (trimmed cells.names) i) cells.cells) (number_seen cells i ∙ e)

pub full_seen : (cells : NamedCells Frame) (q : Queues Task) (t : List Entry) (lists : State) (i : ℕ) → (number_of i cells ≡ None → ⊥)
    → false ≡ is_empty (name_in (trimmed cells.names) i) (seen cells q t lists).plain
full_seen cells q t lists i e = some_at (number_in (name_in (trimmed cells.names) i) cells.cells) (λ h. e (sym (number_seen cells i) ∙ h))

-- one woken handler less
pub next_turn : (ws : List (Woken Frame)) (w : Woken Frame) → first_of ws ≡ Some w → (s : State)
    → fold enqueued_for (enqueued_for s w) (rest_of ws) ≡ fold enqueued_for s ws
next_turn [] w e s = absurd (cc)
next_turn (x ∷ xs) w e s = let h : w ≡ x = cc in ap (λ y. fold enqueued_for (enqueued_for s y) xs) h

-- ---- a connection, by what the cells answer
abbrev cells_after : Connected → ℕ → ℕ → NamedCells Frame → NamedCells Frame
cells_after Same n m c = c
cells_after ResultFull n m c = c
cells_after (Filled v) n m c = filled_at n v c
cells_after Joined n m c = named_renamed m n c

abbrev state_after : Connected → ℕ → ℕ → State → State
state_after Same n m s = s
state_after ResultFull n m s = s
state_after (Filled v) n m s = fill_empty n v s
state_after Joined n m s = connect_at None None n m s

cells_by : (b : Bool) (o p : Option ℤ) (n m : ℕ) (c : NamedCells Frame)
    → cond b c (connected_at o p n m c) ≡ cells_after (cond b Same (connection_at o p)) n m c
cells_by true o p n m c = refl
cells_by false None None n m c = refl
cells_by false None (Some v) n m c = refl
cells_by false (Some w) p n m c = refl

state_by : (b : Bool) (o p : Option ℤ) (n m : ℕ) (s : State) → o ≡ number_at n s
    → cond b s (connect_at o p n m s) ≡ state_after (cond b Same (connection_at o p)) n m s
state_by true o p n m s e = refl
state_by false None None n m s e = refl
state_by false None (Some v) n m s e = ap (λ (x : Option ℤ). fill_at x n v s) (sym e)
state_by false (Some w) p n m s e = refl

pub connected_is : (cells : NamedCells Frame) (r i : ℕ) (c : Connected) → connection_of r i cells ≡ c
    → connected r i cells ≡ cells_after c (name_in cells.names r) (name_in cells.names i) cells
connected_is cells r i c e =
    cells_by (name_in cells.names r == name_in cells.names i) (number_of r cells) (number_of i cells) (name_in cells.names r) (name_in cells.names i) cells
    ∙ ap (λ (x : Connected). cells_after x (name_in cells.names r) (name_in cells.names i) cells) e

pub connect_is : (cells : NamedCells Frame) (q : Queues Task) (t : List Entry) (lists : State) (r i : ℕ) (c : Connected) → connection_of r i cells ≡ c →
    state_after c (name_in cells.names r) (name_in cells.names i) (seen cells q t lists).plain ≡ connect (name_in (trimmed cells.names) r)
    (name_in (trimmed cells.names) i) (seen cells q t lists).plain
connect_is cells q t lists r i c e =
    let s : State = (seen cells q t lists).plain
    in let n : ℕ = name_in cells.names r
    in let m : ℕ = name_in cells.names i
    in ap (λ (x : Connected). state_after x n m s) (sym e)
    ∙ sym (state_by (n == m) (number_of r cells) (number_of i cells) n m s refl)
    ∙ ap (λ x. connect x m s) (sym (name_trimmed cells.names r))
    ∙ ap (λ y. connect (name_in (trimmed cells.names) r) y s) (sym (name_trimmed cells.names i))

-- the result has the number of the right side
pub seen_taken : (cells : NamedCells Frame) (q q' : Queues Task) (t t' : List Entry) (lists : State) (r i : ℕ) (v : ℤ) → connection_of r i cells ≡ Filled v →
    ((s : State) → with_jobs q' t' s ≡ fold enqueued_for (with_jobs q (t ++ entry.Fill (name_in cells.names r) v ∷ []) s) (connected r i cells).woken) →
    (seen (record (connected r i cells) { woken = [] }) q' t' lists).plain ≡ connect (name_in (trimmed cells.names) r)
    (name_in (trimmed cells.names) i) (seen cells q t lists).plain
seen_taken cells q q' t t' lists r i v e jobs =
    let is = connected_is cells r i (Filled v) e
    in ap (λ (c : NamedCells Frame). (seen (record c { woken = [] }) q' t' lists).plain) is
    ∙ ap (λ (x : Seen). x.plain)
    (seen_fill cells q q' t t' lists r v
    (subst (λ (c : NamedCells Frame). (s : State) → with_jobs q' t' s ≡ fold enqueued_for
    (with_jobs q (t ++ entry.Fill (name_in cells.names r) v ∷ []) s) c.woken) is jobs))
    ∙ ap (λ n. fill_empty n v (seen cells q t lists).plain) (name_trimmed cells.names r)
    ∙ connect_is cells q t lists r i (Filled v) e

-- the right side has the name of the result
plain_join : (cells : NamedCells Frame) (q : Queues Task) (t : List Entry) (lists : State) (to from i : ℕ) → from ≡ name_in cells.names i
    → name_in cells.names i < length cells.names →
    (seen (named_renamed from to cells) q (t ++ entry.Join to from ∷ []) lists).plain ≡ connect_at None None to from (seen cells q t lists).plain
plain_join cells q t lists to from i is h =
    let f : ℕ → ℕ = name_in (trimmed cells.names)
    in let t' : List Entry = t ++ entry.Join to from ∷ []
    in ap (λ g. state_named g (raw_state (named_renamed from to cells) q t' lists))
    (name_in-trimmed (named_renamed from to cells).names ∙ name_in-renamed cells.names from to (subst (λ n. n < length cells.names) (sym is) h) ∙ ap
    (λ g. λ (x : ℕ). renamed from to (g x)) (sym (name_in-trimmed cells.names)))
    ∙ sym (state_named_law (renamed from to) f (raw_state cells q t' lists))

pub seen_join : (cells : NamedCells Frame) (q : Queues Task) (t : List Entry) (lists : State) (r i : ℕ) → connection_of r i cells ≡ Joined
    → name_in cells.names i < length cells.names →
    (seen (connected r i cells) q (t ++ entry.Join (name_in cells.names r) (name_in cells.names i) ∷ []) lists).plain ≡ connect
    (name_in (trimmed cells.names) r) (name_in (trimmed cells.names) i) (seen cells q t lists).plain
seen_join cells q t lists r i e h =
    ap (λ (c : NamedCells Frame). (seen c q (t ++ entry.Join (name_in cells.names r) (name_in cells.names i) ∷ []) lists).plain)
    (connected_is cells r i Joined e)
    ∙ plain_join cells q t lists (name_in cells.names r) (name_in cells.names i) i refl h
    ∙ connect_is cells q t lists r i Joined e

pub kept_join : (cells : NamedCells Frame) (r i : ℕ) → IsKept cells → connection_of r i cells ≡ Joined → IsKept (connected r i cells)
kept_join cells r i k e =
    subst IsKept (sym (connected_is cells r i Joined e))
    (record { named = length-map cells.names (renamed (name_in cells.names i) (name_in cells.names r)) ∙ k.named; unwoken = k.unwoken })

pub drawn_seen : (cells : NamedCells Frame) → length cells.names ≡ length cells.cells.ivars → (i : ℕ)
    → name_in (trimmed cells.names) i < length cells.cells.ivars → i < length cells.cells.ivars
drawn_seen cells e i h =
    subst (λ n. i < n) e (name_in-drawn cells.names i
    (subst (λ n. name_in cells.names i < n) (sym e) (subst (λ x. x < length cells.cells.ivars) (name_trimmed cells.names i) h)))

pub seen_pick : (cells : NamedCells Frame) (q : Queues Task) (t : List Entry) (lists : State)
    → seen cells (picked_from q) t lists ≡ doing without_pick (seen cells q t lists)
seen_pick cells q t lists =
    ap (λ (x : Queues Task). seen_as (trimmed cells.names)
    (record (state_named (name_in (trimmed cells.names)) (raw_state cells q t lists)) { queues = x }))
    (sym (picked_mapped (name_in (trimmed cells.names)) q))

-- an empty result is not found full
never_by : (b : Bool) (o p : Option ℤ) → o ≡ None → cond b Same (connection_at o p) ≡ ResultFull → ⊥
never_by true o p e h = absurd (cc)
never_by false None None e h = absurd (cc)
never_by false None (Some v) e h = absurd (cc)
never_by false (Some w) p e h = absurd (cc)

pub never_full : (cells : NamedCells Frame) (q : Queues Task) (t : List Entry) (lists : State) (r i : ℕ)
    → number_at (name_in (trimmed cells.names) r) (seen cells q t lists).plain ≡ None → connection_of r i cells ≡ ResultFull → ⊥
never_full cells q t lists r i e h =
    never_by (name_in cells.names r == name_in cells.names i) (number_of r cells) (number_of i cells) (sym (number_seen cells r) ∙ e) h
