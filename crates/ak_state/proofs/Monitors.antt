-- What each change of the monitors does to the state that the parts stand for, and to what fits.
use Rattle.std.proofs.Common.{◌≡◌, ℕ, zero, suc, ◌+◌, ◌<◌, List, [], ◌∷◌, ◌++◌, length, map, ap, sym, ◌∙◌, arith, true, false}
use Rattle.std.specs.Prelude.{slice_set}
use Rattle.std.specs.List.{AllByRecursion}
use Rattle.std.proofs.lemmas.List.{map-append, map-set, length-map, length-append}
use Rattle.std.proofs.Math.ListN.{get_or-map, length-set}
use Rattle.ak_base.specs.declared.number.Ctx.{Ctx}
use Rattle.ak_base.proofs.Lists.{all_push}
use Rattle.ak_cells.specs.Names.{name_in, trimmed}
use Rattle.ak_cells.specs.Rooms.{NamedCells}
use Rattle.ak_frames.specs.declared.frame.Frame.{Frame}
use Rattle.ak_frames.specs.declared.frame.Task.{Task}
use Rattle.ak_rings.specs.Queues.{Queues}
use Rattle.ak_trace.specs.declared.entry.Entry.{Entry}
use Rattle.ak_trace.specs.declared.entry.Entry.TheVariants as entry
use Rattle.ak_monitor.specs.Monitors.{Monitor, fresh_monitor, monitor_in, with_child, with_detached, with_attached, with_handler, with_next_error, without_next_errors}
use Rattle.ak_program.specs.declared.program.NumProc.{NumProc}
use Rattle.ak_machine.specs.declared.held.Handler.{Handler}
use Rattle.ak_machine.specs.State.{State}
use Rattle.ak_machine.specs.Mapped.{handler_mapped, handled_mapped, monitor_mapped, state_named}
use Rattle.ak_machine.specs.Monitors.{with_monitor, detach, attach, handled_by, next_error_awaited}
use Rattle.ak_state.specs.Seen.{raw_state, seen, doing}
use Rattle.ak_state.specs.Drawn.{Drawn, drawn, More}
use Rattle.ak_state.specs.Fits.{ActFits, ActorFits, MonitorFits, Fits}
use Rattle.ak_state.proofs.Stands.{seen_as}
use Rattle.ak_state.proofs.Fitting.{Grows, same_grows, grown_fits}

-- ---- the monitors with mapped names
pub monitor_in_mapped : (f : ℕ → ℕ) (ms : List (Monitor Handler)) (m : ℕ) → monitor_in (map (monitor_mapped f) ms) m ≡ monitor_mapped f (monitor_in ms m)
monitor_in_mapped f ms m = get_or-map (monitor_mapped f) ms m (fresh_monitor 0)

set_mapped : (f : ℕ → ℕ) (ms : List (Monitor Handler)) (m : ℕ) (x y : Monitor Handler) → y ≡ monitor_mapped f x
    → map (monitor_mapped f) (slice_set ms m x) ≡ slice_set (map (monitor_mapped f) ms) m y
set_mapped f ms m x y e = map-set (monitor_mapped f) ms m x ∙ ap (λ z. slice_set (map (monitor_mapped f) ms) m z) (sym e)

child_mapped : (f : ℕ → ℕ) (ms : List (Monitor Handler)) (parent : ℕ)
    → map (monitor_mapped f) (with_child parent ms) ≡ with_child parent (map (monitor_mapped f) ms)
child_mapped f ms parent = map-append (monitor_mapped f) ms (fresh_monitor parent ∷ [])

detached_mapped : (f : ℕ → ℕ) (ms : List (Monitor Handler)) (m : ℕ)
    → map (monitor_mapped f) (with_detached m ms) ≡ with_detached m (map (monitor_mapped f) ms)
detached_mapped f ms m =
    set_mapped f ms m (record (monitor_in ms m) { detached = true }) (record (monitor_in (map (monitor_mapped f) ms) m) { detached = true })
    (ap (λ (x : Monitor Handler). record x { detached = true }) (monitor_in_mapped f ms m))

attached_mapped : (f : ℕ → ℕ) (ms : List (Monitor Handler)) (m : ℕ)
    → map (monitor_mapped f) (with_attached m ms) ≡ with_attached m (map (monitor_mapped f) ms)
attached_mapped f ms m =
    set_mapped f ms m (record (monitor_in ms m) { detached = false }) (record (monitor_in (map (monitor_mapped f) ms) m) { detached = false })
    (ap (λ (x : Monitor Handler). record x { detached = false }) (monitor_in_mapped f ms m))

emptied_mapped : (f : ℕ → ℕ) (ms : List (Monitor Handler)) (m : ℕ)
    → map (monitor_mapped f) (without_next_errors m ms) ≡ without_next_errors m (map (monitor_mapped f) ms)
emptied_mapped f ms m =
    set_mapped f ms m (record (monitor_in ms m) { next_errors = [] }) (record (monitor_in (map (monitor_mapped f) ms) m) { next_errors = [] })
    (ap (λ (x : Monitor Handler). record x { next_errors = [] }) (monitor_in_mapped f ms m))

handler_added_mapped : (f : ℕ → ℕ) (ms : List (Monitor Handler)) (m : ℕ) (ctx : Ctx) (h : Handler)
    → map (monitor_mapped f) (with_handler m ctx h ms) ≡ with_handler m ctx (handler_mapped f h) (map (monitor_mapped f) ms)
handler_added_mapped f ms m ctx h =
    let x : Monitor Handler = monitor_in ms m
    in set_mapped f ms m (record x { handlers = x.handlers ++ (ctx, h) ∷ [] })
    (record (monitor_in (map (monitor_mapped f) ms) m) { handlers = (monitor_in (map (monitor_mapped f) ms) m).handlers ++ (ctx, handler_mapped f h) ∷ [] })
    (ap (λ (y : Monitor Handler). record y { handlers = y.handlers ++ (ctx, handler_mapped f h) ∷ [] }) (monitor_in_mapped f ms m)
    ∙ ap (λ hs. record (monitor_mapped f x) { handlers = hs }) (sym (map-append (handled_mapped f) x.handlers ((ctx, h) ∷ []))))

next_added_mapped : (f : ℕ → ℕ) (ms : List (Monitor Handler)) (m i : ℕ)
    → map (monitor_mapped f) (with_next_error m i ms) ≡ with_next_error m (f i) (map (monitor_mapped f) ms)
next_added_mapped f ms m i =
    let x : Monitor Handler = monitor_in ms m
    in set_mapped f ms m (record x { next_errors = x.next_errors ++ i ∷ [] })
    (record (monitor_in (map (monitor_mapped f) ms) m) { next_errors = (monitor_in (map (monitor_mapped f) ms) m).next_errors ++ f i ∷ [] })
    (ap (λ (y : Monitor Handler). record y { next_errors = y.next_errors ++ f i ∷ [] }) (monitor_in_mapped f ms m)
    ∙ ap (λ is. record (monitor_mapped f x) { next_errors = is }) (sym (map-append f x.next_errors (i ∷ []))))

-- ---- the state with other monitors and other entries
seen_monitors : (cells : NamedCells Frame) (q : Queues Task) (t t' : List Entry) (lists : State) (ms ms' : List (Monitor Handler))
    → map (monitor_mapped (name_in (trimmed cells.names))) ms ≡ ms'
    → seen cells q t' (record lists { monitors = ms }) ≡ doing (λ s. record s { monitors = ms'; trace = t' }) (seen cells q t lists)
seen_monitors cells q t t' lists ms ms' e =
    ap (λ x. seen_as (trimmed cells.names)
    (record (state_named (name_in (trimmed cells.names)) (raw_state cells q t lists)) { monitors = x; trace = t' })) e

pub seen_child : (cells : NamedCells Frame) (q : Queues Task) (t : List Entry) (lists : State) (parent mon : ℕ) → mon ≡ length lists.monitors
    → seen cells q (t ++ entry.Monitor mon parent ∷ []) (record lists { monitors = with_child parent lists.monitors })
    ≡ doing (with_monitor parent) (seen cells q t lists)
seen_child cells q t lists parent mon e =
    let f : ℕ → ℕ = name_in (trimmed cells.names)
    in let ms : List (Monitor Handler) = map (monitor_mapped f) lists.monitors
    in seen_monitors cells q t (t ++ entry.Monitor mon parent ∷ []) lists (with_child parent lists.monitors) (with_child parent ms)
    (child_mapped f lists.monitors parent)
    ∙ ap (λ n. doing (λ s. record s { monitors = with_child parent ms; trace = t ++ entry.Monitor n parent ∷ [] }) (seen cells q t lists))
    (e ∙ sym (length-map lists.monitors (monitor_mapped f)))

pub seen_detach : (cells : NamedCells Frame) (q : Queues Task) (t : List Entry) (lists : State) (m : ℕ)
    → seen cells q (t ++ entry.Detach m ∷ []) (record lists { monitors = with_detached m lists.monitors }) ≡ doing (detach m) (seen cells q t lists)
seen_detach cells q t lists m =
    seen_monitors cells q t (t ++ entry.Detach m ∷ []) lists (with_detached m lists.monitors) _
    (detached_mapped (name_in (trimmed cells.names)) lists.monitors m)

pub seen_attach : (cells : NamedCells Frame) (q : Queues Task) (t : List Entry) (lists : State) (m : ℕ)
    → seen cells q (t ++ entry.Attach m ∷ []) (record lists { monitors = with_attached m lists.monitors }) ≡ doing (attach m) (seen cells q t lists)
seen_attach cells q t lists m =
    seen_monitors cells q t (t ++ entry.Attach m ∷ []) lists (with_attached m lists.monitors) _
    (attached_mapped (name_in (trimmed cells.names)) lists.monitors m)

pub seen_handled : (cells : NamedCells Frame) (q : Queues Task) (t : List Entry) (lists : State) (m : ℕ) (ctx : Ctx) (h : Handler)
    → seen cells q t (record lists { monitors = with_handler m ctx h lists.monitors })
    ≡ doing (handled_by m ctx (handler_mapped (name_in (trimmed cells.names)) h)) (seen cells q t lists)
seen_handled cells q t lists m ctx h =
    seen_monitors cells q t t lists (with_handler m ctx h lists.monitors) _ (handler_added_mapped (name_in (trimmed cells.names)) lists.monitors m ctx h)

pub seen_awaited : (cells : NamedCells Frame) (q : Queues Task) (t : List Entry) (lists : State) (m i : ℕ)
    → seen cells q t (record lists { monitors = with_next_error m i lists.monitors })
    ≡ doing (next_error_awaited m (name_in (trimmed cells.names) i)) (seen cells q t lists)
seen_awaited cells q t lists m i =
    seen_monitors cells q t t lists (with_next_error m i lists.monitors) _ (next_added_mapped (name_in (trimmed cells.names)) lists.monitors m i)

pub seen_emptied : (cells : NamedCells Frame) (q : Queues Task) (t : List Entry) (lists : State) (m : ℕ)
    → seen cells q t (record lists { monitors = without_next_errors m lists.monitors })
    ≡ doing (λ s. record s { monitors = without_next_errors m s.monitors }) (seen cells q t lists)
seen_emptied cells q t lists m =
    seen_monitors cells q t t lists (without_next_errors m lists.monitors) _ (emptied_mapped (name_in (trimmed cells.names)) lists.monitors m)

-- ---- what fits
fresh_fits : (program : List NumProc) (n : Drawn) (parent : ℕ) → MonitorFits program n (fresh_monitor parent)
fresh_fits program n parent = record { next_errors = tt; actors = tt }

pub all_in : (program : List NumProc) (n : Drawn) (ms : List (Monitor Handler)) (m : ℕ) → AllByRecursion (MonitorFits program n) ms
    → MonitorFits program n (monitor_in ms m)
all_in program n [] m h = fresh_fits program n 0
all_in program n (x ∷ ms) zero h = h.0
all_in program n (x ∷ ms) (suc m) h = all_in program n ms m h.1

pub all_set : {A : Type 0} (P : A → Type 0) (xs : List A) (k : ℕ) (x : A) → AllByRecursion P xs → P x → AllByRecursion P (slice_set xs k x)
all_set P [] k x h p = tt
all_set P (y ∷ xs) zero x h p = (p, h.1)
all_set P (y ∷ xs) (suc k) x h p = (h.0, all_set P xs k x h.1 p)

pub child_drawn : (parent : ℕ) (s : State) → length (with_monitor parent s).monitors ≡ length s.monitors + 1
child_drawn parent s = length-append s.monitors (fresh_monitor parent ∷ [])

pub child_grows : (program : List NumProc) (parent : ℕ) (s : State) → Fits program s → Grows program s (with_monitor parent s)
child_grows program parent s f =
    let more : More (drawn s) (drawn (with_monitor parent s)) =
    record {
      ivars = omega arith;
      monitors = omega (arith, child_drawn parent s);
      groups = omega arith;
      parts = λ g. omega arith;
      throttles = omega arith;
      pipes = omega arith;
    }
    in let g = grown_fits program (drawn s) (drawn (with_monitor parent s)) s more f
    in record {
      more = more;
      fits =
          record {
            root = g.root;
            handlers = g.handlers;
            normal = g.normal;
            low = g.low;
            monitors = all_push (MonitorFits program (drawn (with_monitor parent s))) s.monitors (fresh_monitor parent) g.monitors
                (fresh_fits program (drawn (with_monitor parent s)) parent);
            purposes = g.purposes;
            clock = g.clock;
            throttles = g.throttles;
            pipes = g.pipes;
            works = g.works;
          };
    }

-- one monitor is another
pub set_grows : (program : List NumProc) (m : ℕ) (x : Monitor Handler) (s : State) → Fits program s → MonitorFits program (drawn s) x
    → Grows program s (record s { monitors = slice_set s.monitors m x })
set_grows program m x s f p =
    same_grows program s (record s { monitors = slice_set s.monitors m x }) (ap (λ k. record (drawn s) { monitors = k }) (length-set s.monitors m x))
    (record {
      root = f.root;
      handlers = f.handlers;
      normal = f.normal;
      low = f.low;
      monitors = all_set (MonitorFits program (drawn s)) s.monitors m x f.monitors p;
      purposes = f.purposes;
      clock = f.clock;
      throttles = f.throttles;
      pipes = f.pipes;
      works = f.works;
    })

pub detach_grows : (program : List NumProc) (m : ℕ) (s : State) → Fits program s → Grows program s (detach m s)
detach_grows program m s f =
    let at = all_in program (drawn s) s.monitors m f.monitors
    in let g = set_grows program m (record (monitor_in s.monitors m) { detached = true }) s f (record { next_errors = at.next_errors; actors = at.actors })
    in record { more = g.more; fits = g.fits }

pub attach_grows : (program : List NumProc) (m : ℕ) (s : State) → Fits program s → Grows program s (attach m s)
attach_grows program m s f =
    let at = all_in program (drawn s) s.monitors m f.monitors
    in let g = set_grows program m (record (monitor_in s.monitors m) { detached = false }) s f (record { next_errors = at.next_errors; actors = at.actors })
    in record { more = g.more; fits = g.fits }

pub emptied_grows : (program : List NumProc) (m : ℕ) (s : State) → Fits program s
    → Grows program s (record s { monitors = without_next_errors m s.monitors })
emptied_grows program m s f =
    set_grows program m (record (monitor_in s.monitors m) { next_errors = [] }) s f
    (record { next_errors = tt; actors = (all_in program (drawn s) s.monitors m f.monitors).actors })

pub handled_grows : (program : List NumProc) (m : ℕ) (ctx : Ctx) (h : Handler) (s : State) → Fits program s → ctx.mon < length s.monitors
    → ActFits program (drawn s) h → Grows program s (handled_by m ctx h s)
handled_grows program m ctx h s f mon p =
    let at = all_in program (drawn s) s.monitors m f.monitors
    in let x : Monitor Handler = monitor_in s.monitors m
    in set_grows program m (record x { handlers = x.handlers ++ (ctx, h) ∷ [] }) s f
    (record {
      next_errors = at.next_errors;
      actors = all_push (ActorFits program (drawn s)) x.handlers (ctx, h) at.actors (record { monitor = mon; act = p });
    })

pub awaited_grows : (program : List NumProc) (m i : ℕ) (s : State) → Fits program s → i < length s.cells.ivars
    → Grows program s (next_error_awaited m i s)
awaited_grows program m i s f h =
    let at = all_in program (drawn s) s.monitors m f.monitors
    in let x : Monitor Handler = monitor_in s.monitors m
    in set_grows program m (record x { next_errors = x.next_errors ++ i ∷ [] }) s f
    (record { next_errors = all_push (λ j. j < length s.cells.ivars) x.next_errors i at.next_errors h; actors = at.actors })
