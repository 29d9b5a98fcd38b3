-- Errors that go up a path, one monitor at a time, and handlers that act, one at a time.
use Rattle.std.proofs.Common.{◌≡◌, ◌≢◌, ℕ, ℤ, zero, suc, ◌+◌, ◌<◌, ◌≤◌, List, [], ◌∷◌, ◌++◌, length, map, drop, get_or, fold, refl, ap, sym, ◌∙◌, subst, Bool, true, false, cond, arith}
use Rattle.std.specs.Prelude.{Option, Some, None, ◌==◌, reverse, slice_set, slice_get}
use Rattle.std.specs.List.{AllByRecursion}
use Rattle.std.proofs.lemmas.Bool.{ne_eqb, eq-eqb, false≢true}
use Rattle.std.proofs.lemmas.List.{length-map, map-append, reverse-append, length-reverse}
use Rattle.std.proofs.Math.ListN.{length-set}
use Rattle.ak_base.specs.declared.number.Ctx.{Ctx}
use Rattle.ak_base.specs.Lists.{first_of, rest_of}
use Rattle.ak_cells.specs.declared.registration.Registration.{Registration}
use Rattle.ak_cells.specs.Cells.{waiting_on, filled}
use Rattle.ak_frames.specs.declared.value.Value.{Value}
use Rattle.ak_frames.specs.declared.value.Value.TheVariants.{Num}
use Rattle.ak_frames.specs.declared.frame.BodyId.{BodyId}
use Rattle.ak_frames.specs.declared.frame.Ret.TheVariants.{Drop}
use Rattle.ak_frames.specs.declared.frame.Frame.{Frame}
use Rattle.ak_frames.specs.declared.frame.Frame.TheVariants.{Call}
use Rattle.ak_frames.specs.declared.frame.Task.{Task}
use Rattle.ak_rings.specs.Queues.{Queues}
use Rattle.ak_cells.specs.Names.{name_in, trimmed}
use Rattle.ak_cells.specs.Rooms.{NamedCells}
use Rattle.ak_trace.specs.declared.entry.Entry.{Entry}
use Rattle.ak_trace.specs.declared.entry.Entry.TheVariants as entry
use Rattle.ak_monitor.specs.Monitors.{Monitor, monitor_in, without_next_errors, path_down, path, first_detached, catcher, up_to}
use Rattle.ak_program.specs.declared.program.NumProc.{NumProc}
use Rattle.ak_script.specs.declared.statement.GuardMode.TheVariants as mode
use Rattle.ak_machine.specs.declared.held.Handler.{Handler}
use Rattle.ak_machine.specs.declared.held.Handler.TheVariants.{OnError, OfGuard, OfBody}
use Rattle.ak_machine.specs.declared.held.Purpose.{Purpose}
use Rattle.ak_machine.specs.declared.held.Purpose.TheVariants.{ForGuard}
use Rattle.ak_machine.specs.declared.held.Fate.{Fate}
use Rattle.ak_machine.specs.declared.held.Fate.TheVariants.{Undecided, Failing, Over}
use Rattle.ak_machine.specs.State.{State}
use Rattle.ak_machine.specs.Throttles.{started_at, acts_at}
use Rattle.ak_machine.specs.Mapped.{values_mapped, handler_mapped, handled_mapped, monitor_mapped}
use Rattle.ak_machine.specs.Deferred.{noting, enqueue, plain_task, woken_by, number_at, fill_at, fill, filled_with}
use Rattle.ak_machine.specs.Groups.{group_at, purpose_at, guard_catches}
use Rattle.ak_machine.specs.Errors.{next_errors_filled, handler_acts, handled, caught_at, send}
use Rattle.ak_state.specs.Seen.{Seen, seen, doing}
use Rattle.ak_state.specs.Drawn.{drawn}
use Rattle.ak_state.specs.Fits.{ActorFits, Fits, FitsSome}
use Rattle.ak_state.specs.declared.parts.errors.Reaction.TheVariants.{Calls, Tells, TellsBody}
use Rattle.ak_state.specs.Errors.{AreDrawn, all_filled, path_filled, handlers_of, handler_of, acted_by, acted_at, reacted}
use Rattle.ak_state.proofs.Stands.{seen_as}
use Rattle.ak_state.proofs.Fitting.{Grows, kept_grows, then_grows, noted_grows, enqueue_grows, all_filled_grow, all_by, all_get, actor_grows, value_call, fill_drawn}
use Rattle.ak_state.proofs.Monitors.{monitor_in_mapped, seen_emptied, all_in, emptied_grows}
use Rattle.ak_state.proofs.Groups.{guard_acts_grows}
use Rattle.ak_state.proofs.Ends.{body_acts_grows}

-- ---- the path of a monitor is one, whatever waits for errors
abbrev parents : List (Monitor Handler) → List ℕ
parents ms = map (λ (m : Monitor Handler). m.parent) ms

abbrev down : List ℕ → ℕ → List ℕ
down [] m = []
down (p ∷ ps) m = cond (m == length ps) (m ∷ down ps (cond (m == length ps) p m)) (down ps (cond (m == length ps) p m))

by_parents : (ms : List (Monitor Handler)) (m : ℕ) → path_down ms m ≡ down (parents ms) m
by_parents [] m = refl
by_parents (x ∷ ms) m =
    ap (λ r. cond (m == length ms) (m ∷ r) r) (by_parents ms (cond (m == length ms) x.parent m))
    ∙ ap (λ n. cond (m == n) (m ∷ down (parents ms) (cond (m == n) x.parent m)) (down (parents ms) (cond (m == n) x.parent m)))
    (sym (length-map ms (λ (y : Monitor Handler). y.parent)))

map_reverse : {A B : Type 0} (f : A → B) (xs : List A) → map f (reverse xs) ≡ reverse (map f xs)
map_reverse f [] = refl
map_reverse f (x ∷ xs) =
    ap (map f) (reverse-append (x ∷ []) xs) ∙ map-append f (reverse xs) (x ∷ []) ∙ ap (λ r. r ++ f x ∷ []) (map_reverse f xs)
    ∙ sym (reverse-append (f x ∷ []) (map f xs))

path_same : (ms ms' : List (Monitor Handler)) (m : ℕ) → parents ms ≡ parents ms' → path ms m ≡ path ms' m
path_same ms ms' m e =
    by_parents (reverse ms) m ∙ ap (λ ps. down ps m)
    (map_reverse (λ (x : Monitor Handler). x.parent) ms ∙ ap reverse e ∙ sym (map_reverse (λ (x : Monitor Handler). x.parent) ms'))
    ∙ sym (by_parents (reverse ms') m)

first_same : (ms ms' : List (Monitor Handler)) (way : List ℕ) → ((m : ℕ) → (monitor_in ms m).detached ≡ (monitor_in ms' m).detached)
    → first_detached ms way ≡ first_detached ms' way
first_same ms ms' [] d = refl
first_same ms ms' (m ∷ above) d =
    ap (λ b. cond b (Some m) (first_detached ms above)) (d m) ∙ ap (λ r. cond (monitor_in ms' m).detached (Some m) r) (first_same ms ms' above d)

catcher_same : (ms ms' : List (Monitor Handler)) (m : ℕ) → parents ms ≡ parents ms' → ((k : ℕ) → (monitor_in ms k).detached ≡ (monitor_in ms' k).detached)
    → catcher ms m ≡ catcher ms' m
catcher_same ms ms' m e d = ap (first_detached ms) (path_same ms ms' m e) ∙ first_same ms ms' (path ms' m) d

-- mapped names change no path
parents_mapped : (f : ℕ → ℕ) (ms : List (Monitor Handler)) → parents (map (monitor_mapped f) ms) ≡ parents ms
parents_mapped f [] = refl
parents_mapped f (m ∷ ms) = ap (λ ps. m.parent ∷ ps) (parents_mapped f ms)

pub path_mapped : (f : ℕ → ℕ) (ms : List (Monitor Handler)) (m : ℕ) → path (map (monitor_mapped f) ms) m ≡ path ms m
path_mapped f ms m = path_same (map (monitor_mapped f) ms) ms m (parents_mapped f ms)

pub catcher_mapped : (f : ℕ → ℕ) (ms : List (Monitor Handler)) (m : ℕ) → catcher (map (monitor_mapped f) ms) m ≡ catcher ms m
catcher_mapped f ms m =
    catcher_same (map (monitor_mapped f) ms) ms m (parents_mapped f ms) (λ k. ap (λ (x : Monitor Handler). x.detached) (monitor_in_mapped f ms k))

-- next errors that are gone change no path
set_parents : (ms : List (Monitor Handler)) (k : ℕ) (x : Monitor Handler) → x.parent ≡ (monitor_in ms k).parent → parents (slice_set ms k x) ≡ parents ms
set_parents [] k x e = refl
set_parents (y ∷ ms) zero x e = ap (λ p. p ∷ parents ms) e
set_parents (y ∷ ms) (suc k) x e = ap (λ ps. y.parent ∷ ps) (set_parents ms k x e)

set_detached : (ms : List (Monitor Handler)) (k : ℕ) (x : Monitor Handler) (m : ℕ) → x.detached ≡ (monitor_in ms k).detached
    → (monitor_in (slice_set ms k x) m).detached ≡ (monitor_in ms m).detached
set_detached [] k x m e = refl
set_detached (y ∷ ms) zero x zero e = e
set_detached (y ∷ ms) zero x (suc m) e = refl
set_detached (y ∷ ms) (suc k) x zero e = refl
set_detached (y ∷ ms) (suc k) x (suc m) e = set_detached ms k x m e

emptied_parents : (ms : List (Monitor Handler)) (k : ℕ) → parents (without_next_errors k ms) ≡ parents ms
emptied_parents ms k = set_parents ms k (record (monitor_in ms k) { next_errors = [] }) refl

path_emptied : (ms : List (Monitor Handler)) (k m : ℕ) → path (without_next_errors k ms) m ≡ path ms m
path_emptied ms k m = path_same (without_next_errors k ms) ms m (emptied_parents ms k)

catcher_emptied : (ms : List (Monitor Handler)) (k m : ℕ) → catcher (without_next_errors k ms) m ≡ catcher ms m
catcher_emptied ms k m =
    catcher_same (without_next_errors k ms) ms m (emptied_parents ms k) (λ j. set_detached ms k (record (monitor_in ms k) { next_errors = [] }) j refl)

-- ---- the monitor that catches
first_is_detached : (ms : List (Monitor Handler)) (way : List ℕ) (c : ℕ) → first_detached ms way ≡ Some c → (monitor_in ms c).detached ≡ true
first_is_detached ms [] c e = absurd (cc)
first_is_detached ms (m ∷ way) c e = by (monitor_in ms m).detached refl (first_is_detached ms way c) e
  where
    by : (b : Bool) → (monitor_in ms m).detached ≡ b → (first_detached ms way ≡ Some c → (monitor_in ms c).detached ≡ true)
        → cond b (Some m) (first_detached ms way) ≡ Some c → (monitor_in ms c).detached ≡ true
    by true d next h = let same : m ≡ c = cc in subst (λ k. (monitor_in ms k).detached ≡ true) same d
    by false d next h = next h

detached_there : (ms : List (Monitor Handler)) (c : ℕ) → (monitor_in ms c).detached ≡ true → c < length ms
detached_there [] c e = absurd (cc)
detached_there (m ∷ ms) zero e = omega arith
detached_there (m ∷ ms) (suc c) e = let h : c < length ms = detached_there ms c e in omega (arith, h)

pub catcher_there : (ms : List (Monitor Handler)) (m c : ℕ) → catcher ms m ≡ Some c → c < length ms
catcher_there ms m c e = detached_there ms c (first_is_detached ms (path ms m) c e)

-- a path that is the monitor alone ends there
pub alone_catches : (ms : List (Monitor Handler)) (m c : ℕ) → path ms m ≡ m ∷ [] → catcher ms m ≡ Some c → m ≡ c
alone_catches ms m c e h = by (monitor_in ms m).detached (sym (ap (first_detached ms) e) ∙ h)
  where
    by : (b : Bool) → cond b (Some m) None ≡ Some c → m ≡ c
    by true k = cc
    by false k = absurd (cc)

-- a monitor that does not catch leaves the error to those above
pub above_catches : (ms : List (Monitor Handler)) (m above c : ℕ) → path ms m ≡ m ∷ path ms above → m ≢ c → catcher ms m ≡ Some c
    → catcher ms above ≡ Some c
above_catches ms m above c e n h = by (monitor_in ms m).detached (sym (ap (first_detached ms) e) ∙ h)
  where
    by : (b : Bool) → cond b (Some m) (catcher ms above) ≡ Some c → catcher ms above ≡ Some c
    by true k = absurd (n cc)
    by false k = k

-- ---- fills leave the monitors
abbrev with_monitors : List (Monitor Handler) → State → State
with_monitors monitors s = record s { monitors = monitors }

woken_with : (v : ℤ) (ms : List (Monitor Handler)) (gs : List (Registration Frame)) (s : State)
    → fold (woken_by v) (with_monitors ms s) gs ≡ with_monitors ms (fold (woken_by v) s gs)
woken_with v ms [] s = refl
woken_with v ms (g ∷ gs) s = woken_with v ms gs (woken_by v s g)

fill_at_with : (o : Option ℤ) (i : ℕ) (v : ℤ) (ms : List (Monitor Handler)) (s : State)
    → fill_at o i v (with_monitors ms s) ≡ with_monitors ms (fill_at o i v s)
fill_at_with (Some w) i v ms s = refl
fill_at_with None i v ms s = woken_with v ms (waiting_on i s.cells) (noting (entry.Fill i v) (record s { cells = filled i v s.cells }))

fill_monitors : (i : ℕ) (v : ℤ) (s : State) → (fill i v s).monitors ≡ s.monitors
fill_monitors i v s = ap (λ (t : State). t.monitors) (fill_at_with (number_at i s) i v s.monitors s)

fills_monitors : (v : ℤ) (is : List ℕ) (s : State) → (fold (filled_with v) s is).monitors ≡ s.monitors
fills_monitors v [] s = refl
fills_monitors v (i ∷ is) s = fills_monitors v is (fill i v s) ∙ fill_monitors i v s

emptied_monitors : (e : ℤ) (s : State) (k : ℕ) → (next_errors_filled e s k).monitors ≡ without_next_errors k s.monitors
emptied_monitors e s k = fills_monitors e (monitor_in s.monitors k).next_errors (with_monitors (without_next_errors k s.monitors) s)

-- ---- one deferred after the other
pub fill_next : (f : ℕ → ℕ) (e : ℤ) (s : State) (is : List ℕ) (i : ℕ) → first_of is ≡ Some i
    → all_filled e (map f (rest_of is)) (fill (f i) e s) ≡ all_filled e (map f is) s
fill_next f e s [] i h = absurd (cc)
fill_next f e s (j ∷ is) i h = let same : j ≡ i = cc in ap (λ k. fold (filled_with e) (fill (f k) e s) (map f is)) (sym same)

pub first_drawn : (f : ℕ → ℕ) (s : State) (is : List ℕ) (i : ℕ) → first_of is ≡ Some i → AreDrawn (map f is) s → f i < length s.cells.ivars
first_drawn f s [] i h d = absurd (cc)
first_drawn f s (j ∷ is) i h d = let same : j ≡ i = cc in subst (λ k. f k < length s.cells.ivars) same d.0

rest_by : (f : ℕ → ℕ) (n : ℕ) (is : List ℕ) → AllByRecursion (λ i. i < n) (map f is) → AllByRecursion (λ i. i < n) (map f (rest_of is))
rest_by f n [] d = tt
rest_by f n (i ∷ is) d = d.1

pub rest_drawn : (f : ℕ → ℕ) (e : ℤ) (s : State) (is : List ℕ) (i : ℕ) → AreDrawn (map f is) s → AreDrawn (map f (rest_of is)) (fill i e s)
rest_drawn f e s is i d =
    let same : length (fill i e s).cells.ivars ≡ length s.cells.ivars = ap (λ n. n.ivars) (fill_drawn i e s)
    in subst (λ n. AllByRecursion (λ k. k < n) (map f (rest_of is))) (sym same) (rest_by f (length s.cells.ivars) is d)

-- ---- one monitor of the path after the other
pub walk_on : (e : ℤ) (s : State) (c m above : ℕ) → m ≢ c → path s.monitors m ≡ m ∷ path s.monitors above
    → path_filled above c e (next_errors_filled e s m) ≡ path_filled m c e s
walk_on e s c m above n h =
    let way : List ℕ = path s.monitors above
    in ap (λ w. fold (next_errors_filled e) (next_errors_filled e s m) (up_to c w))
    (ap (λ ms. path ms above) (emptied_monitors e s m) ∙ path_emptied s.monitors m above)
    ∙ sym (ap (λ w. fold (next_errors_filled e) s (up_to c w)) h
    ∙ ap (λ b. fold (next_errors_filled e) s (cond b (m ∷ []) (m ∷ up_to c way))) (ne_eqb m c n))

pub catcher_on : (e : ℤ) (s : State) (k m : ℕ) → catcher (next_errors_filled e s k).monitors m ≡ catcher s.monitors m
catcher_on e s k m = ap (λ ms. catcher ms m) (emptied_monitors e s k) ∙ catcher_emptied s.monitors k m

pub monitors_on : (e : ℤ) (s : State) (k : ℕ) → length (next_errors_filled e s k).monitors ≡ length s.monitors
monitors_on e s k = ap length (emptied_monitors e s k) ∙ length-set s.monitors k (record (monitor_in s.monitors k) { next_errors = [] })

-- a path begins with its monitor
record Begins (m : ℕ) (way : List ℕ) : Type 0 where
  rest : List ℕ
  is : way ≡ m ∷ rest

begins_down : (ms : List (Monitor Handler)) (m : ℕ) → m < length ms → Begins m (path_down ms m)
begins_down [] m h = absurd (omega (arith, h))
begins_down (x ∷ ms) m h = by (m == length ms) refl (begins_down ms m)
  where
    by : (b : Bool) → (m == length ms) ≡ b → (m < length ms → Begins m (path_down ms m))
        → Begins m (cond b (m ∷ path_down ms (cond b x.parent m)) (path_down ms (cond b x.parent m)))
    by true e next = record { rest = path_down ms x.parent; is = refl }
    by false e next =
        let other : m ≢ length ms = λ q. false≢true (sym e ∙ eq-eqb m (length ms) q)
        in next (omega (arith, h, other))

begins : (ms : List (Monitor Handler)) (m : ℕ) → m < length ms → Begins m (path ms m)
begins ms m h = begins_down (reverse ms) m (subst (λ n. m < n) (sym (length-reverse ms)) h)

pub walk_ends : (e : ℤ) (s : State) (c : ℕ) → c < length s.monitors → next_errors_filled e s c ≡ path_filled c c e s
walk_ends e s c h =
    let b = begins s.monitors c h
    in sym (ap (λ w. fold (next_errors_filled e) s (up_to c w)) b.is
    ∙ ap (λ t. fold (next_errors_filled e) s (cond t (c ∷ []) (c ∷ up_to c b.rest))) (eq-eqb c c refl))

-- ---- one handler after the other
pub act_next : (e : ℤ) (hs : List (Ctx × Handler)) (k : ℕ) (s : State) → k < length hs
    → fold (handler_acts e) (acted_by e (slice_get hs k) s) (drop (k + 1) hs) ≡ fold (handler_acts e) s (drop k hs)
act_next e [] k s h = absurd (omega (arith, h))
act_next e (x ∷ hs) zero s h = refl
act_next e (x ∷ hs) (suc k) s h =
    let n : suc k + 1 ≡ suc (k + 1) = omega arith
    in ap (λ j. fold (handler_acts e) (acted_by e (slice_get hs k) s) (drop j (x ∷ hs))) n ∙ act_next e hs k s (omega (arith, h))

pub act_ends : (e : ℤ) (hs : List (Ctx × Handler)) (k : ℕ) (s : State) → length hs ≤ k → fold (handler_acts e) s (drop k hs) ≡ s
act_ends e [] zero s h = refl
act_ends e [] (suc k) s h = refl
act_ends e (x ∷ hs) zero s h = absurd (omega (arith, h))
act_ends e (x ∷ hs) (suc k) s h = act_ends e hs k s (omega (arith, h))

-- handlers stay as they are
set_handlers : (ms : List (Monitor Handler)) (k : ℕ) (x : Monitor Handler) (m : ℕ) → x.handlers ≡ (monitor_in ms k).handlers
    → (monitor_in (slice_set ms k x) m).handlers ≡ (monitor_in ms m).handlers
set_handlers [] k x m e = refl
set_handlers (y ∷ ms) zero x zero e = e
set_handlers (y ∷ ms) zero x (suc m) e = refl
set_handlers (y ∷ ms) (suc k) x zero e = refl
set_handlers (y ∷ ms) (suc k) x (suc m) e = set_handlers ms k x m e

catches_handlers : (x : Purpose) (b : Bool) (g : ℕ) (e : ℤ) (c : ℕ) (s : State) → handlers_of c (guard_catches x b g e s) ≡ handlers_of c s
catches_handlers (ForGuard ctx m mode.Drop catch) false g e c s = refl
catches_handlers (ForGuard ctx m mode.Raise catch) false g e c s =
    set_handlers s.monitors m (record (monitor_in s.monitors m) { detached = false }) c refl
catches_handlers (ForGuard ctx m kind catch) true g e c s = refl
catches_handlers x b g e c s = refl

acts_handlers : (fate : Fate) (b : BodyId) (e : ℤ) (c : ℕ) (s : State) → handlers_of c (acts_at fate b e s) ≡ handlers_of c s
acts_handlers Undecided b e c s = refl
acts_handlers Failing b e c s = refl
acts_handlers Over b e c s = refl

one_handlers : (program : List NumProc) (e : ℤ) (h : Ctx × Handler) (c : ℕ) (s : State) → ActorFits program (drawn s) h
    → handlers_of c (handler_acts e s h) ≡ handlers_of c s
one_handlers program e (ctx, OnError proc vals) c s f = refl
one_handlers program e (ctx, OfGuard g) c s f = catches_handlers (purpose_at g s) (group_at g s).decided g e c s
one_handlers program e (ctx, OfBody b) c s f = acts_handlers (started_at b s).fate b e c s

one_grows : (program : List NumProc) (e : ℤ) (s : State) (h : Ctx × Handler) → Fits program s → ActorFits program (drawn s) h
    → Grows program s (handler_acts e s h)
one_grows program e s (ctx, OnError proc vals) f p =
    enqueue_grows program ctx (plain_task (Call proc (Num e ∷ vals) Drop)) s f
    (record { monitor = p.monitor; frame_fits = (value_call program (drawn s) proc e vals p.act, tt) })
one_grows program e s (ctx, OfGuard g) f p = guard_acts_grows program g e s f p.act
one_grows program e s (ctx, OfBody b) f p = body_acts_grows program b e s f

-- the handler of a number fits
pub handler_fits : (program : List NumProc) (c k : ℕ) (h : Ctx × Handler) (s : State) → Fits program s → handler_of c k s ≡ Some h
    → ActorFits program (drawn s) h
handler_fits program c k h s f e =
    all_get (ActorFits program (drawn s)) (handlers_of c s) k h (all_in program (drawn s) s.monitors c f.monitors).actors e

by_handlers : (program : List NumProc) (e : ℤ) (o : Option (Ctx × Handler)) (c k : ℕ) (s : State) → Fits program s → handler_of c k s ≡ o
    → handlers_of c (acted_by e o s) ≡ handlers_of c s
by_handlers program e None c k s f h = refl
by_handlers program e (Some x) c k s f h = one_handlers program e x c s (handler_fits program c k x s f h)

pub acted_handlers : (e : ℤ) (c k : ℕ) (s : State) → FitsSome s → handlers_of c (acted_at c k e s) ≡ handlers_of c s
acted_handlers e c k s f = by_handlers f.program e (handler_of c k s) c k s f.fits refl

by_grows : (program : List NumProc) (e : ℤ) (o : Option (Ctx × Handler)) (c k : ℕ) (s : State) → Fits program s → handler_of c k s ≡ o
    → Grows program s (acted_by e o s)
by_grows program e None c k s f h = kept_grows program s f
by_grows program e (Some x) c k s f h = one_grows program e s x f (handler_fits program c k x s f h)

pub acted_grows : (program : List NumProc) (e : ℤ) (c k : ℕ) (s : State) → Fits program s → Grows program s (acted_at c k e s)
acted_grows program e c k s f = by_grows program e (handler_of c k s) c k s f refl

-- ---- what an error leaves fits
all_act_grow : (program : List NumProc) (e : ℤ) (hs : List (Ctx × Handler)) (s : State) → Fits program s → AllByRecursion (ActorFits program (drawn s)) hs
    → Grows program s (fold (handler_acts e) s hs)
all_act_grow program e [] s f p = kept_grows program s f
all_act_grow program e (h ∷ hs) s f p =
    let one = one_grows program e s h f p.0
    in then_grows program s (handler_acts e s h) (fold (handler_acts e) (handler_acts e s h) hs) one
    (all_act_grow program e hs (handler_acts e s h) one.fits
    (all_by (ActorFits program (drawn s)) (ActorFits program (drawn (handler_acts e s h)))
    (actor_grows program (drawn s) (drawn (handler_acts e s h)) one.more) hs p.1))

pub next_errors_grow : (program : List NumProc) (e : ℤ) (s : State) (m : ℕ) → Fits program s → Grows program s (next_errors_filled e s m)
next_errors_grow program e s m f =
    let t : State = with_monitors (without_next_errors m s.monitors) s
    in let one = emptied_grows program m s f
    in then_grows program s t (next_errors_filled e s m) one (all_filled_grow program e (monitor_in s.monitors m).next_errors t one.fits)

path_grows : (program : List NumProc) (e : ℤ) (way : List ℕ) (s : State) → Fits program s → Grows program s (fold (next_errors_filled e) s way)
path_grows program e [] s f = kept_grows program s f
path_grows program e (m ∷ way) s f =
    let one = next_errors_grow program e s m f
    in then_grows program s (next_errors_filled e s m) (fold (next_errors_filled e) (next_errors_filled e s m) way) one
    (path_grows program e way (next_errors_filled e s m) one.fits)

pub path_filled_grows : (program : List NumProc) (m c : ℕ) (e : ℤ) (s : State) → Fits program s → Grows program s (path_filled m c e s)
path_filled_grows program m c e s f = path_grows program e (up_to c (path s.monitors m)) s f

handled_grow : (program : List NumProc) (c : ℕ) (e : ℤ) (s : State) → Fits program s → Grows program s (handled c e s)
handled_grow program c e s f =
    all_act_grow program e (handlers_of c s) s f (all_in program (drawn s) s.monitors c f.monitors).actors

caught_grows : (program : List NumProc) (o : Option ℕ) (m : ℕ) (e : ℤ) (s : State) → Fits program s → Grows program s (caught_at o m e s).state
caught_grows program None m e s f = record { more = (kept_grows program s f).more; fits = f }
caught_grows program (Some c) m e s f =
    let t : State = noting (entry.Caught c) s
    in let one = noted_grows program (entry.Caught c) s f
    in let two = path_filled_grows program m c e t one.fits
    in then_grows program s t (handled c e (path_filled m c e t)) one
    (then_grows program t (path_filled m c e t) (handled c e (path_filled m c e t)) two (handled_grow program c e (path_filled m c e t) two.fits))

pub send_grows : (program : List NumProc) (m : ℕ) (e : ℤ) (s : State) → Fits program s → Grows program s (send m e s).state
send_grows program m e s f =
    let t : State = noting (entry.Error e m) s
    in let one = noted_grows program (entry.Error e m) s f
    in then_grows program s t (send m e s).state one (caught_grows program (catcher s.monitors m) m e t one.fits)

-- ---- two that look alike
pub seen_is : (a b : Seen) → a.plain ≡ b.plain → a.names ≡ b.names → a ≡ b
seen_is a b p n = ap (λ x. seen_as a.names x) p ∙ ap (λ ns. seen_as ns b.plain) n

-- ---- all of a state fits some program
pub some_grown : (s t : State) (f : FitsSome s) → Grows f.program s t → FitsSome t
some_grown s t f g = record { program = f.program; fits = g.fits }

-- ---- a handler with surviving names
get_mapped : {A B : Type 0} (g : A → B) (xs : List A) (k : ℕ) (x : A) → k < length xs → x ≡ get_or xs k x → slice_get (map g xs) k ≡ Some (g x)
get_mapped g [] k x h e = absurd (omega (arith, h))
get_mapped g (y ∷ xs) zero x h e = ap (λ z. Some (g z)) (sym e)
get_mapped g (y ∷ xs) (suc k) x h e = get_mapped g xs k x (omega (arith, h)) e

pub handler_seen : (f : ℕ → ℕ) (ms : List (Monitor Handler)) (c k : ℕ) (h : Ctx × Handler) → k < length (monitor_in ms c).handlers
    → h ≡ get_or (monitor_in ms c).handlers k h → slice_get (monitor_in (map (monitor_mapped f) ms) c).handlers k ≡ Some (handled_mapped f h)
handler_seen f ms c k h lt e =
    ap (λ (x : Monitor Handler). slice_get x.handlers k) (monitor_in_mapped f ms c) ∙ get_mapped (handled_mapped f) (monitor_in ms c).handlers k h lt e

pub handlers_long : (f : ℕ → ℕ) (ms : List (Monitor Handler)) (c : ℕ)
    → length (monitor_in (map (monitor_mapped f) ms) c).handlers ≡ length (monitor_in ms c).handlers
handlers_long f ms c =
    ap (λ (x : Monitor Handler). length x.handlers) (monitor_in_mapped f ms c) ∙ length-map (monitor_in ms c).handlers (handled_mapped f)

-- and what it does, as the code says it
pub calls_as : (f : ℕ → ℕ) (e : ℤ) (h : Ctx × Handler) (proc : ℕ) (vals all : List Value) (o : Option (Ctx × Handler)) → o ≡ Some (handled_mapped f h)
    → h.1 ≡ OnError proc vals → all ≡ Num e ∷ vals → (s : State)
    → reacted f e (Calls h.0 (record { frame = Call proc all Drop; value = None })) s ≡ acted_by e o s
calls_as f e h proc vals all o p q r s =
    ap (λ vs. enqueue h.0 (record { frame = Call proc (values_mapped f vs) Drop; value = None }) s) r
    ∙ sym (ap (λ x. acted_by e x s) p ∙ ap (λ x. acted_by e (Some (h.0, handler_mapped f x)) s) q)

pub tells_as : (f : ℕ → ℕ) (e : ℤ) (h : Ctx × Handler) (g : ℕ) (o : Option (Ctx × Handler)) → o ≡ Some (handled_mapped f h) → h.1 ≡ OfGuard g → (s : State)
    → reacted f e (Tells g) s ≡ acted_by e o s
tells_as f e h g o p q s = sym (ap (λ x. acted_by e x s) p ∙ ap (λ x. acted_by e (Some (h.0, handler_mapped f x)) s) q)

pub tells_body_as : (f : ℕ → ℕ) (e : ℤ) (h : Ctx × Handler) (b : BodyId) (o : Option (Ctx × Handler)) → o ≡ Some (handled_mapped f h)
    → h.1 ≡ OfBody b → (s : State) → reacted f e (TellsBody b) s ≡ acted_by e o s
tells_body_as f e h b o p q s = sym (ap (λ x. acted_by e x s) p ∙ ap (λ x. acted_by e (Some (h.0, handler_mapped f x)) s) q)

-- where all fits, a handler fits
pub calls_or_tells : (c k : ℕ) (h : Ctx × Handler) (s : State) (f : FitsSome s) → handler_of c k s ≡ Some h → ActorFits f.program (drawn s) h
calls_or_tells c k h s f e = handler_fits f.program c k h s f.fits e

-- the next errors of a monitor were drawn
pub next_errors_drawn : (f : ℕ → ℕ) (ms : List (Monitor Handler)) (m : ℕ) (s : State) → s.monitors ≡ map (monitor_mapped f) ms → FitsSome s
    → AreDrawn (map f (monitor_in ms m).next_errors) s
next_errors_drawn f ms m s e fit =
    subst (λ (x : Monitor Handler). AreDrawn x.next_errors s) (ap (λ xs. monitor_in xs m) e ∙ monitor_in_mapped f ms m)
    (all_in fit.program (drawn s) s.monitors m fit.fits.monitors).next_errors

-- the next errors of a monitor are taken and filled
pub emptied_filled : (cells : NamedCells Frame) (q : Queues Task) (t : List Entry) (lists : State) (m : ℕ) (e : ℤ) (waiting : List ℕ)
    → waiting ≡ (monitor_in lists.monitors m).next_errors →
    doing (all_filled e (map (name_in (trimmed cells.names)) waiting)) (seen cells q t (record lists { monitors = without_next_errors m lists.monitors }))
    ≡ doing (λ s. next_errors_filled e s m) (seen cells q t lists)
emptied_filled cells q t lists m e waiting w =
    let f : ℕ → ℕ = name_in (trimmed cells.names)
    in ap (doing (all_filled e (map f waiting))) (seen_emptied cells q t lists m)
    ∙ ap (λ is. doing (λ s. fold (filled_with e) (record s { monitors = without_next_errors m s.monitors }) is) (seen cells q t lists))
    (ap (map f) w ∙ sym (ap (λ (x : Monitor Handler). x.next_errors) (monitor_in_mapped f lists.monitors m)))
