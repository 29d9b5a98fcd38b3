-- What each change of the guards does to the state that the parts stand for, and to what fits.
use Rattle.std.proofs.Common.{◌≡◌, ℕ, ℤ, zero, suc, ◌+◌, ◌<◌, ◌≤◌, List, [], ◌∷◌, ◌++◌, length, map, refl, ap, subst, sym, ◌∙◌, arith, Bool, true, false}
use Rattle.std.specs.Prelude.{pos, Some, None, slice_get, slice_index_or, slice_set}
use Rattle.std.specs.List.{AllZip}
use Rattle.std.proofs.lemmas.List.{map-append, length-append, length-map, length-replicate, get_or_push}
use Rattle.std.proofs.Math.ListN.{get_or-map}
use Rattle.ak_base.specs.declared.number.Ctx.{Ctx}
use Rattle.ak_frames.specs.declared.value.Value.{Value}
use Rattle.ak_frames.specs.declared.value.Value.TheVariants.{Num}
use Rattle.ak_frames.specs.declared.frame.Ret.TheVariants.{To, TryBody}
use Rattle.ak_frames.specs.declared.frame.Frame.TheVariants.{Call, TryDone}
use Rattle.ak_trace.specs.declared.entry.Entry.TheVariants as entry
use Rattle.ak_choice.specs.Groups as groups
use Rattle.ak_program.specs.declared.program.NumProc.{NumProc}
use Rattle.ak_script.specs.declared.statement.GuardMode.{GuardMode}
use Rattle.ak_script.specs.declared.statement.GuardMode.TheVariants as mode
use Rattle.ak_machine.specs.declared.held.Callback.{Callback}
use Rattle.ak_machine.specs.declared.held.Handler.TheVariants.{OfGuard}
use Rattle.ak_machine.specs.declared.held.Purpose.{Purpose}
use Rattle.ak_machine.specs.declared.held.Purpose.TheVariants.{ForAny, ForGuard}
use Rattle.ak_machine.specs.State.{State}
use Rattle.ak_machine.specs.Deferred.{plain_task, called, fill}
use Rattle.ak_machine.specs.Mapped.{purpose_mapped}
use Rattle.ak_machine.specs.Monitors.{with_monitor, detach, handled_by, in_monitor}
use Rattle.ak_machine.specs.Groups.{group_at, purpose_at, with_group, decided, guard_decided, guard_catches, guard_acts, guard_filled, try_done, guard_waits, try_waits, try_begun}
use Rattle.ak_state.specs.Drawn.{Drawn, drawn, parts_of, More}
use Rattle.ak_state.specs.Fits.{CallFits, ValueCallFits, GuardFits, PurposeFits, Fits, FitsSome}
use Rattle.ak_state.proofs.Fitting.{zip_push, zip_at, zip_long, more_more, Grows, same_grows, kept_grows, then_grows, grown_fits, noted_grows, enqueue_grows, fill_grows, register_grows, call_more, value_call}
use Rattle.ak_state.proofs.Monitors.{child_drawn, child_grows, detach_grows, attach_grows, handled_grows}

-- ---- how many parts each group has
pub parts_begun : (parts : ℕ) (gs : List groups.Group) → parts_of (groups.with_group parts gs) ≡ parts_of gs ++ parts ∷ []
parts_begun parts gs =
    map-append (λ (x : groups.Group). length x.parts) gs (groups.fresh_group parts ∷ [])
    ∙ ap (λ k. parts_of gs ++ k ∷ []) (length-replicate parts None)

-- a group in the place of another, with as many parts
pub parts_set : (gs : List groups.Group) (g : ℕ) (x : groups.Group) → length x.parts ≡ length (groups.group_in gs g).parts
    → parts_of (slice_set gs g x) ≡ parts_of gs
parts_set [] g x e = refl
parts_set (y ∷ gs) zero x e = ap (λ k. k ∷ parts_of gs) e
parts_set (y ∷ gs) (suc g) x e = ap (λ ks. length y.parts ∷ ks) (parts_set gs g x e)

pub parts_in : (gs : List groups.Group) (g : ℕ) → slice_index_or (parts_of gs) g 0 ≡ length (groups.group_in gs g).parts
parts_in gs g = get_or-map (λ (x : groups.Group). length x.parts) gs g groups.no_group

-- the parts of the last group
pub parts_last : (parts : ℕ) (purpose : Purpose) (s : State) → slice_index_or (parts_of (with_group parts purpose s).groups) (length s.groups) 0 ≡ parts
parts_last parts purpose s =
    ap (λ ks. slice_index_or ks (length s.groups) 0) (parts_begun parts s.groups)
    ∙ get_or_push (parts_of s.groups) parts 0 (length s.groups) (length-map s.groups (λ (x : groups.Group). length x.parts))

parts_more : (ks : List ℕ) (k g : ℕ) → slice_index_or ks g 0 ≤ slice_index_or (ks ++ k ∷ []) g 0
parts_more [] k g = omega arith
parts_more (j ∷ ks) k zero = omega arith
parts_more (j ∷ ks) k (suc g) = parts_more ks k g

-- a group that has parts was drawn
pub with_parts : (gs : List groups.Group) (g k : ℕ) → k < slice_index_or (parts_of gs) g 0 → g < length gs
with_parts [] g k h = absurd (omega (arith, h))
with_parts (y ∷ gs) zero k h = omega arith
with_parts (y ∷ gs) (suc g) k h = let p : g < length gs = with_parts gs g k h in omega (arith, p)

-- ---- what a group is for
pub purpose_get : (f : ℕ → ℕ) (ps : List Purpose) (g : ℕ) (x d : Purpose) → slice_get ps g ≡ Some x
    → slice_index_or (map (purpose_mapped f) ps) g d ≡ purpose_mapped f x
purpose_get f [] g x d e = absurd (cc)
purpose_get f (p ∷ ps) zero x d e = let same : p ≡ x = cc in ap (purpose_mapped f) same
purpose_get f (p ∷ ps) (suc g) x d e = purpose_get f ps g x d e

pub purpose_there : (ps : List Purpose) (g : ℕ) → g < length ps → slice_get ps g ≡ None → ⊥
purpose_there [] g h e = absurd (omega (arith, h))
purpose_there (p ∷ ps) zero h e = absurd (cc)
purpose_there (p ∷ ps) (suc g) h e = purpose_there ps g (omega (arith, h)) e

pub purpose_fits : (program : List NumProc) (g : ℕ) (s : State) → Fits program s → g < length s.groups
    → PurposeFits program (drawn s) (length (group_at g s).parts) (purpose_at g s)
purpose_fits program g s f h =
    let P = PurposeFits program (drawn s)
    in subst (λ k. P k (purpose_at g s)) (parts_in s.groups g)
    (zip_at P (parts_of s.groups) s.purposes g 0 (ForAny [] 0)
    (subst (λ n. g < n) (sym (length-map s.groups (λ (x : groups.Group). length x.parts))) h) f.purposes)

-- each group has its purpose
pub purposes_long : (s : State) → FitsSome s → length s.purposes ≡ length s.groups
purposes_long s f =
    zip_long (PurposeFits f.program (drawn s)) (parts_of s.groups) s.purposes f.fits.purposes
    ∙ length-map s.groups (λ (x : groups.Group). length x.parts)

-- where all fits, so does a guard
pub guard_fits : (g : ℕ) (s : State) (f : FitsSome s) → g < length s.groups → (ctx : Ctx) (m : ℕ) (kind : GuardMode) (c : Callback)
    → purpose_at g s ≡ ForGuard ctx m kind c → GuardFits f.program (drawn s) ctx m c
guard_fits g s f h ctx m kind c e =
    subst (PurposeFits f.program (drawn s) (length (group_at g s).parts)) e (purpose_fits f.program g s f.fits h)

-- ---- what fits
pub group_drawn : (parts : ℕ) (purpose : Purpose) (s : State) → length (with_group parts purpose s).groups ≡ length s.groups + 1
group_drawn parts purpose s = length-append s.groups (groups.fresh_group parts ∷ [])

pub group_more : (parts : ℕ) (purpose : Purpose) (s : State) → More (drawn s) (drawn (with_group parts purpose s))
group_more parts purpose s = record {
  ivars = omega arith;
  monitors = omega arith;
  groups = omega (arith, group_drawn parts purpose s);
  parts = λ g. subst (λ ks. slice_index_or (parts_of s.groups) g 0 ≤ slice_index_or ks g 0) (sym (parts_begun parts s.groups))
      (parts_more (parts_of s.groups) parts g);
  throttles = omega arith;
  pipes = omega arith;
}

pub group_grows : (program : List NumProc) (parts : ℕ) (purpose : Purpose) (s : State) → Fits program s
    → PurposeFits program (drawn (with_group parts purpose s)) parts purpose → Grows program s (with_group parts purpose s)
group_grows program parts purpose s f p =
    let t : State = with_group parts purpose s
    in let more = group_more parts purpose s
    in let g = grown_fits program (drawn s) (drawn t) s more f
    in record {
      more = more;
      fits =
          record {
            root = g.root;
            handlers = g.handlers;
            normal = g.normal;
            low = g.low;
            monitors = g.monitors;
            purposes = subst (λ ks. AllZip (PurposeFits program (drawn t)) ks t.purposes) (sym (parts_begun parts s.groups))
                (zip_push (PurposeFits program (drawn t)) (parts_of s.groups) s.purposes parts purpose g.purposes p);
            clock = g.clock;
            throttles = g.throttles;
            pipes = g.pipes;
            works = g.works;
          };
    }

-- other groups, each with as many parts
pub regrouped_drawn : (gs : List groups.Group) (s : State) → parts_of gs ≡ parts_of s.groups → drawn (record s { groups = gs }) ≡ drawn s
regrouped_drawn gs s e =
    let size = λ (x : groups.Group). length x.parts
    in let long : length gs ≡ length s.groups = sym (length-map gs size) ∙ ap length e ∙ length-map s.groups size
    in ap (λ k. record (drawn s) { groups = k; parts = parts_of gs }) long ∙ ap (λ ks. record (drawn s) { parts = ks }) e

pub regrouped_grows : (program : List NumProc) (gs : List groups.Group) (s : State) → parts_of gs ≡ parts_of s.groups → Fits program s
    → Grows program s (record s { groups = gs })
regrouped_grows program gs s e f =
    same_grows program s (record s { groups = gs }) (regrouped_drawn gs s e)
    (record {
      root = f.root;
      handlers = f.handlers;
      normal = f.normal;
      low = f.low;
      monitors = f.monitors;
      purposes = subst (λ ks. AllZip (PurposeFits program (drawn s)) ks s.purposes) (sym e) f.purposes;
      clock = f.clock;
      throttles = f.throttles;
      pipes = f.pipes;
      works = f.works;
    })

pub decided_grows : (program : List NumProc) (g : ℕ) (s : State) → Fits program s → Grows program s (decided g s)
decided_grows program g s f =
    regrouped_grows program (groups.with_decided g s.groups) s
    (parts_set s.groups g (record (groups.group_in s.groups g) { decided = true }) refl) f

guard_decided_grows : (program : List NumProc) (kind : GuardMode) (m g : ℕ) (s : State) → Fits program s → Grows program s (guard_decided kind m g s)
guard_decided_grows program mode.Drop m g s f = decided_grows program g s f
guard_decided_grows program mode.Raise m g s f =
    let one = decided_grows program g s f
    in then_grows program s (decided g s) (guard_decided mode.Raise m g s) one (attach_grows program m (decided g s) one.fits)

-- what fits a guard goes on fitting it
guard_grows : (program : List NumProc) (n n' : Drawn) → More n n' → (ctx : Ctx) (m : ℕ) (c : Callback) → GuardFits program n ctx m c
    → (ctx.mon < n'.monitors) × CallFits program n' c.proc (Num (pos 0) ∷ c.vals) × (c.to < n'.ivars)
guard_grows program n n' h ctx m c f =
    (omega (arith, h.monitors, f.context), call_more program n n' h c.proc (Num (pos 0) ∷ c.vals) f.catches, omega (arith, h.ivars, f.result))

catches_grow : (program : List NumProc) (x : Purpose) (b : Bool) (g : ℕ) (e : ℤ) (s : State) → Fits program s
    → PurposeFits program (drawn s) (length (group_at g s).parts) x → Grows program s (guard_catches x b g e s)
catches_grow program (ForGuard ctx m kind c) false g e s f p =
    let t : State = guard_decided kind m g s
    in let one = guard_decided_grows program kind m g s f
    in let q = guard_grows program (drawn s) (drawn t) one.more ctx m c p
    in then_grows program s t (called ctx c.proc (Num e ∷ c.vals) (To c.to) t) one
    (enqueue_grows program ctx (plain_task (Call c.proc (Num e ∷ c.vals) (To c.to))) t one.fits
    (record { monitor = q.0; frame_fits = (value_call program (drawn t) c.proc e c.vals q.1, q.2) }))
catches_grow program (ForGuard ctx m kind c) true g e s f p = noted_grows program (entry.Rest e) s f
catches_grow program x b g e s f p = kept_grows program s f

pub guard_acts_grows : (program : List NumProc) (g : ℕ) (e : ℤ) (s : State) → Fits program s → g < length s.groups
    → Grows program s (guard_acts g e s)
guard_acts_grows program g e s f h = catches_grow program (purpose_at g s) (group_at g s).decided g e s f (purpose_fits program g s f h)

filled_grow : (program : List NumProc) (x : Purpose) (b : Bool) (g : ℕ) (v : ℤ) (s : State) → Fits program s
    → Grows program s (guard_filled x b g v s)
filled_grow program (ForGuard ctx m kind c) false g v s f =
    let t : State = guard_decided kind m g s
    in let one = guard_decided_grows program kind m g s f
    in then_grows program s t (fill c.to v t) one (fill_grows program c.to v t one.fits)
filled_grow program (ForGuard ctx m kind c) true g v s f = kept_grows program s f
filled_grow program x b g v s f = kept_grows program s f

pub try_done_grows : (program : List NumProc) (g : ℕ) (v : ℤ) (s : State) → Fits program s → Grows program s (try_done g v s)
try_done_grows program g v s f = filled_grow program (purpose_at g s) (group_at g s).decided g v s f

waits_grow : (program : List NumProc) (x : Purpose) (b : Bool) (g i : ℕ) (s : State) → Fits program s → g < length s.groups
    → PurposeFits program (drawn s) (length (group_at g s).parts) x → Grows program s (guard_waits x b g i s)
waits_grow program (ForGuard ctx m kind c) false g i s f h p = register_grows program i ctx (TryDone g) s f (record { monitor = p.context; frame_fits = h })
waits_grow program (ForGuard ctx m kind c) true g i s f h p = kept_grows program s f
waits_grow program x b g i s f h p = kept_grows program s f

pub try_waits_grows : (program : List NumProc) (g i : ℕ) (s : State) → Fits program s → g < length s.groups → Grows program s (try_waits g i s)
try_waits_grows program g i s f h = waits_grow program (purpose_at g s) (group_at g s).decided g i s f h (purpose_fits program g s f h)

pub try_begun_grows : (program : List NumProc) (ctx : Ctx) (kind : GuardMode) (proc : ℕ) (vals : List Value) (catch : Callback) (s : State)
    → Fits program s → ctx.mon < length s.monitors → CallFits program (drawn s) proc vals → ValueCallFits program (drawn s) catch.proc catch.vals
    → catch.to < length s.cells.ivars → Grows program s (try_begun ctx kind proc vals catch s)
try_begun_grows program ctx kind proc vals catch s f mon call catches result =
    let m : ℕ = length s.monitors
    in let g : ℕ = length s.groups
    in let purpose : Purpose = ForGuard ctx m kind catch
    in let s1 : State = with_monitor ctx.mon s
    in let s2 : State = with_group 0 purpose s1
    in let s3 : State = detach m s2
    in let s4 : State = handled_by m ctx (OfGuard g) s3
    in let one = child_grows program ctx.mon s f
    in let more2 : More (drawn s) (drawn s2) = more_more (drawn s) (drawn s1) (drawn s2) one.more (group_more 0 purpose s1)
    in let there : m < length s1.monitors = omega (arith, child_drawn ctx.mon s)
    in let two = group_grows program 0 purpose s1 one.fits
    (record {
      context = omega (arith, mon, one.more.monitors);
      monitor = there;
      catches = call_more program (drawn s) (drawn s2) more2 catch.proc (Num (pos 0) ∷ catch.vals) catches;
      result = result;
    })
    in let three = detach_grows program m s2 two.fits
    in let to3 = then_grows program s s1 s3 one (then_grows program s1 s2 s3 two three)
    in let guard : g < length s3.groups = omega (arith, group_drawn 0 purpose s1)
    in let four = handled_grows program m ctx (OfGuard g) s3 three.fits (omega (arith, mon, to3.more.monitors)) guard
    in let to4 = then_grows program s s3 s4 to3 four
    in then_grows program s s4 (try_begun ctx kind proc vals catch s) to4
    (enqueue_grows program (in_monitor m ctx) (plain_task (Call proc vals (TryBody g))) s4 four.fits
    (record {
      monitor = omega (arith, there, two.more.monitors, three.more.monitors, four.more.monitors);
      frame_fits = (call_more program (drawn s) (drawn s4) to4.more proc vals call, omega (arith, guard, four.more.groups));
    }))
