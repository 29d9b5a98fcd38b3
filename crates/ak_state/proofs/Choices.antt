-- `all`, `any` and `choose`: their handlers one after the other, what their jobs leave, and that all fits.
use Rattle.std.proofs.Common.{◌≡◌, ℕ, ℤ, zero, suc, ◌+◌, ◌<◌, ◌≤◌, List, [], ◌∷◌, ◌++◌, length, map, fold, get_or, take, drop, refl, ap, subst, sym, ◌∙◌, arith, Bool, true, false, cond}
use Rattle.std.specs.Prelude.{Option, Some, None, IfSome, is_some, slice_set, ◌↔◌}
use Rattle.std.specs.Option.{option_map}
use Rattle.std.specs.List.{AllByRecursion}
use Rattle.std.proofs.lemmas.List.{at_drop_all, length-set, length-map, map-append, take_more, take_all}
use Rattle.std.proofs.lemmas.List.Elements.{All-from_recursion}
use Rattle.ak_base.specs.declared.number.Ctx.{Ctx}
use Rattle.ak_base.specs.Lists.{first_of}
use Rattle.ak_cells.specs.declared.registration.Registration.{Registration}
use Rattle.ak_cells.specs.Cells.{Cells, unregistered, is_other}
use Rattle.ak_cells.specs.Names.{name_in, trimmed}
use Rattle.ak_cells.specs.Rooms.{NamedCells, number_of, unregistered_named}
use Rattle.ak_choice.specs.Groups as groups
use Rattle.ak_choice.specs.Calls.{NotesGiven}
use Rattle.ak_frames.specs.declared.value.Value.{Value}
use Rattle.ak_frames.specs.declared.value.Value.TheVariants.{Num}
use Rattle.ak_frames.specs.declared.frame.Frame.{Frame}
use Rattle.ak_frames.specs.declared.frame.Frame.TheVariants.{AllPart, ChoicePart}
use Rattle.ak_frames.specs.declared.frame.Task.{Task}
use Rattle.ak_rings.specs.Queues.{Queues}
use Rattle.ak_trace.specs.declared.entry.Entry.{Entry}
use Rattle.ak_program.specs.declared.program.NumProc.{NumProc}
use Rattle.ak_machine.specs.declared.held.Callback.{Callback}
use Rattle.ak_machine.specs.declared.held.Choosable.{Choosable}
use Rattle.ak_machine.specs.declared.held.Purpose.{Purpose}
use Rattle.ak_machine.specs.declared.held.Purpose.TheVariants.{ForAll, ForAny, ForChoice, ForGuard}
use Rattle.ak_machine.specs.State.{State}
use Rattle.ak_machine.specs.Deferred.{number_at, register_at, register}
use Rattle.ak_machine.specs.Mapped.{values_mapped, callback_mapped, choosable_mapped, purpose_mapped, registration_named, cells_named, state_named}
use Rattle.ak_machine.specs.Groups.{group_at, purpose_at, with_group, decided, all_registered, noted_at, noted, choice_registered, all_begun, any_begun, choice_begun, deferred_of, choice_decided, part_set, with_numbers, first_number, first_call}
use Rattle.ak_machine.specs.Job.{filled_if}
use Rattle.ak_state.specs.Seen.{Seen, seen, raw_state, doing, IsKept}
use Rattle.ak_state.specs.Drawn.{Drawn, drawn, parts_at, More}
use Rattle.ak_state.specs.Fits.{CallFits, CallbackFits, AllFits, ChoosableFits, PurposeFits, numbers, HandlerFits, Fits, FitsSome}
use Rattle.ak_state.specs.Groups.{with_fresh_group, with_purpose, part_ended, call_of_all, part_call, filled_by, called_by, choice_ended, choice_call, taken_fills, taken_calls, TakesDrawn, any_takes, choice_takes, takes, LooksDrawn, without_handlers}
use Rattle.ak_state.specs.declared.parts.groups.Taken.{Taken}
use Rattle.ak_state.specs.declared.parts.groups.Taken.TheVariants.{Fills, Calls}
use Rattle.ak_machine.proofs.Mapped.{map_by, filter_mapped}
use Rattle.ak_state.proofs.Stands.{seen_as, number_seen, drawn_seen}
use Rattle.ak_state.proofs.Errors.{seen_is}
use Rattle.ak_state.proofs.Fitting.{Grows, same_grows, kept_grows, then_grows, all_filter, fill_grows, register_grows, call_more, purpose_grows, value_call, numbers_call}
use Rattle.ak_state.proofs.Groups.{parts_set, parts_last, regrouped_grows, decided_grows, group_drawn, group_more, group_grows, purpose_fits}

-- ---- no registration looks at purposes
abbrev with_purposes : List Purpose → State → State
with_purposes ps s = record s { purposes = ps }

register_at_purposes : (o : Option ℤ) (i : ℕ) (ctx : Ctx) (frame : Frame) (ps : List Purpose) (s : State)
    → register_at o i ctx frame (with_purposes ps s) ≡ with_purposes ps (register_at o i ctx frame s)
register_at_purposes (Some v) i ctx frame ps s = refl
register_at_purposes None i ctx frame ps s = refl

all_purposes : (ctx : Ctx) (g : ℕ) (ds : List ℕ) (k : ℕ) (ps : List Purpose) (s : State)
    → all_registered ctx g ds k (with_purposes ps s) ≡ with_purposes ps (all_registered ctx g ds k s)
all_purposes ctx g [] k ps s = refl
all_purposes ctx g (d ∷ ds) k ps s =
    ap (all_registered ctx g ds (k + 1)) (register_at_purposes (number_at d s) d ctx (AllPart g k) ps s)
    ∙ all_purposes ctx g ds (k + 1) ps (register d ctx (AllPart g k) s)

-- a handler of a choice, by what the ivar is full with
abbrev pub chosen_at : Option ℤ → ℕ → ℕ → Ctx → State → State
chosen_at o d g ctx s = register_at o d ctx (ChoicePart g) (noted_at o g s)

chosen_by : (o : Option ℤ) (d g : ℕ) (ctx : Ctx) (s : State) → number_at d s ≡ o
    → register d ctx (ChoicePart g) (noted_at o g s) ≡ chosen_at o d g ctx s
chosen_by None d g ctx s e = ap (λ x. register_at x d ctx (ChoicePart g) (noted_at None g s)) e
chosen_by (Some v) d g ctx s e = ap (λ x. register_at x d ctx (ChoicePart g) s) e

pub chosen_is : (d g : ℕ) (ctx : Ctx) (s : State) → register d ctx (ChoicePart g) (noted g d s) ≡ chosen_at (number_at d s) d g ctx s
chosen_is d g ctx s = chosen_by (number_at d s) d g ctx s refl

chosen_purposes : (o : Option ℤ) (d g : ℕ) (ctx : Ctx) (ps : List Purpose) (s : State)
    → chosen_at o d g ctx (with_purposes ps s) ≡ with_purposes ps (chosen_at o d g ctx s)
chosen_purposes (Some v) d g ctx ps s = refl
chosen_purposes None d g ctx ps s = refl

choice_purposes : (ctx : Ctx) (g : ℕ) (ds : List ℕ) (ps : List Purpose) (s : State)
    → choice_registered ctx g ds (with_purposes ps s) ≡ with_purposes ps (choice_registered ctx g ds s)
choice_purposes ctx g [] ps s = refl
choice_purposes ctx g (d ∷ ds) ps s =
    ap (choice_registered ctx g ds)
    (chosen_is d g ctx (with_purposes ps s) ∙ chosen_purposes (number_at d s) d g ctx ps s ∙ ap (with_purposes ps) (sym (chosen_is d g ctx s)))
    ∙ choice_purposes ctx g ds ps (register d ctx (ChoicePart g) (noted g d s))

-- so the purpose may come last
pub all_kept : (ctx : Ctx) (ds : List ℕ) (c : Callback) (s : State)
    → with_purpose (ForAll c) (all_registered ctx (length s.groups) ds 0 (with_fresh_group (length ds) s)) ≡ all_begun ctx ds c s
all_kept ctx ds c s =
    let g : ℕ = length s.groups
    in let t : State = with_fresh_group (length ds) s
    in let u : State = all_registered ctx g ds 0 t
    in let same : u.purposes ≡ s.purposes = ap (λ (x : State). x.purposes) (all_purposes ctx g ds 0 s.purposes t)
    in ap (λ ps. with_purposes (ps ++ ForAll c ∷ []) u) same ∙ sym (all_purposes ctx g ds 0 (s.purposes ++ ForAll c ∷ []) t)

pub choice_kept : (ctx : Ctx) (ds : List ℕ) (purpose : Purpose) (s : State)
    → with_purpose purpose (choice_registered ctx (length s.groups) ds (with_fresh_group 0 s))
    ≡ choice_registered ctx (length s.groups) ds (with_group 0 purpose s)
choice_kept ctx ds purpose s =
    let g : ℕ = length s.groups
    in let t : State = with_fresh_group 0 s
    in let u : State = choice_registered ctx g ds t
    in let same : u.purposes ≡ s.purposes = ap (λ (x : State). x.purposes) (choice_purposes ctx g ds s.purposes t)
    in ap (λ ps. with_purposes (ps ++ purpose ∷ []) u) same ∙ sym (choice_purposes ctx g ds (s.purposes ++ purpose ∷ []) t)

-- ---- what is begun fits
noted_at_grows : (program : List NumProc) (o : Option ℤ) (g : ℕ) (s : State) → Fits program s → Grows program s (noted_at o g s)
noted_at_grows program (Some v) g s f = kept_grows program s f
noted_at_grows program None g s f =
    regrouped_grows program (groups.with_note g s.cells.next s.groups) s (parts_set s.groups g _ refl) f

choice_registered_grows : (program : List NumProc) (ctx : Ctx) (g : ℕ) (ds : List ℕ) (s : State) → Fits program s → ctx.mon < length s.monitors
    → g < length s.groups → Grows program s (choice_registered ctx g ds s)
choice_registered_grows program ctx g [] s f mon h = kept_grows program s f
choice_registered_grows program ctx g (d ∷ ds) s f mon h =
    let t : State = noted g d s
    in let u : State = register d ctx (ChoicePart g) t
    in let one = noted_at_grows program (number_at d s) g s f
    in let two = register_grows program d ctx (ChoicePart g) t one.fits
    (record { monitor = omega (arith, mon, one.more.monitors); frame_fits = omega (arith, h, one.more.groups) })
    in let both = then_grows program s t u one two
    in then_grows program s u (choice_registered ctx g (d ∷ ds) s) both
    (choice_registered_grows program ctx g ds u both.fits (omega (arith, mon, both.more.monitors)) (omega (arith, h, both.more.groups)))

all_registered_grows : (program : List NumProc) (ctx : Ctx) (g : ℕ) (ds : List ℕ) (k : ℕ) (s : State) → Fits program s
    → ctx.mon < length s.monitors → k + length ds ≤ parts_at g (drawn s) → Grows program s (all_registered ctx g ds k s)
all_registered_grows program ctx g [] k s f mon h = kept_grows program s f
all_registered_grows program ctx g (d ∷ ds) k s f mon h =
    let u : State = register d ctx (AllPart g k) s
    in let one = register_grows program d ctx (AllPart g k) s f (record { monitor = mon; frame_fits = omega (arith, h) })
    in then_grows program s u (all_registered ctx g (d ∷ ds) k s) one
    (all_registered_grows program ctx g ds (k + 1) u one.fits (omega (arith, mon, one.more.monitors)) (omega (arith, h, one.more.parts g)))

begun_grows : (program : List NumProc) (parts : ℕ) (purpose : Purpose) (s : State) → Fits program s → PurposeFits program (drawn s) parts purpose
    → Grows program s (with_group parts purpose s)
begun_grows program parts purpose s f p =
    group_grows program parts purpose s f
    (purpose_grows program (drawn s) (drawn (with_group parts purpose s)) (group_more parts purpose s) parts purpose p)

choice_with_grows : (program : List NumProc) (ctx : Ctx) (ds : List ℕ) (purpose : Purpose) (s : State) → Fits program s → ctx.mon < length s.monitors
    → PurposeFits program (drawn s) 0 purpose → Grows program s (choice_registered ctx (length s.groups) ds (with_group 0 purpose s))
choice_with_grows program ctx ds purpose s f mon p =
    let g : ℕ = length s.groups
    in let t : State = with_group 0 purpose s
    in let one = begun_grows program 0 purpose s f p
    in then_grows program s t (choice_registered ctx g ds t) one
    (choice_registered_grows program ctx g ds t one.fits (omega (arith, mon, one.more.monitors)) (omega (arith, group_drawn 0 purpose s)))

pub any_begun_grows : (program : List NumProc) (ctx : Ctx) (ds : List ℕ) (r : ℕ) (s : State) → Fits program s → ctx.mon < length s.monitors
    → PurposeFits program (drawn s) 0 (ForAny ds r) → Grows program s (any_begun ctx ds r s)
any_begun_grows program ctx ds r s f mon p = choice_with_grows program ctx ds (ForAny ds r) s f mon p

pub choice_begun_grows : (program : List NumProc) (ctx : Ctx) (choices : List Choosable) (vals : List Value) (r : ℕ) (s : State) → Fits program s
    → ctx.mon < length s.monitors → PurposeFits program (drawn s) 0 (ForChoice choices vals r)
    → Grows program s (choice_begun ctx choices vals r s)
choice_begun_grows program ctx choices vals r s f mon p =
    choice_with_grows program ctx (map deferred_of choices) (ForChoice choices vals r) s f mon p

pub all_begun_grows : (program : List NumProc) (ctx : Ctx) (ds : List ℕ) (c : Callback) (s : State) → Fits program s → ctx.mon < length s.monitors
    → AllFits program (drawn s) (length ds) c → Grows program s (all_begun ctx ds c s)
all_begun_grows program ctx ds c s f mon p =
    let g : ℕ = length s.groups
    in let n : ℕ = length ds
    in let t : State = with_group n (ForAll c) s
    in let one = begun_grows program n (ForAll c) s f p
    in let here : parts_at g (drawn t) ≡ n = parts_last n (ForAll c) s
    in then_grows program s t (all_begun ctx ds c s) one
    (all_registered_grows program ctx g ds 0 t one.fits (omega (arith, mon, one.more.monitors)) (omega (arith, here)))

-- ---- handlers that were noted wait no longer
unregistered_ivars : (rs : List ℕ) (c : Cells Frame) → (fold unregistered c rs).ivars ≡ c.ivars
unregistered_ivars [] c = refl
unregistered_ivars (r ∷ rs) c = unregistered_ivars rs (unregistered c r)

unregistered_fit : (P : Registration Frame → Type 0) (rs : List ℕ) (c : Cells Frame) → AllByRecursion P c.registrations
    → AllByRecursion P (fold unregistered c rs).registrations
unregistered_fit P [] c h = h
unregistered_fit P (r ∷ rs) c h = unregistered_fit P rs (unregistered c r) (all_filter P (is_other r) c.registrations h)

pub choice_decided_grows : (program : List NumProc) (g : ℕ) (s : State) → Fits program s → Grows program s (choice_decided g s)
choice_decided_grows program g s f =
    let notes : List ℕ = (group_at g s).notes
    in let u : State = decided g s
    in let v : State = record u { cells = fold unregistered s.cells notes }
    in let one = decided_grows program g s f
    in let two = same_grows program u v (ap (λ xs. record (drawn u) { ivars = length xs }) (unregistered_ivars notes s.cells))
    (record {
      root = one.fits.root;
      handlers = unregistered_fit (HandlerFits program (drawn u)) notes s.cells one.fits.handlers;
      normal = one.fits.normal;
      low = one.fits.low;
      monitors = one.fits.monitors;
      purposes = one.fits.purposes;
      clock = one.fits.clock;
      throttles = one.fits.throttles;
      pipes = one.fits.pipes;
      works = one.fits.works;
    })
    in let three = regrouped_grows program (groups.without_notes g v.groups) v (parts_set v.groups g _ refl) two.fits
    in then_grows program s u (choice_decided g s) one (then_grows program u v (choice_decided g s) two three)

-- one note after the other
abbrev pub NotesLaw : Type 0
NotesLaw = (g : ℕ) (registrations : List ℕ) (gs after : List groups.Group)
    → NotesGiven g registrations gs after ↔ ((registrations ≡ (groups.group_in gs g).notes) × (after ≡ groups.without_notes g gs))

-- what is noted behind the first, and what is left at the end
pub record Behind (g r : ℕ) (gs : List groups.Group) : Type 0 where
  pub all : (groups.group_in gs g).notes ≡ r ∷ (groups.group_in (groups.note_taken g gs) g).notes
  pub left : groups.without_notes g gs ≡ groups.without_notes g (groups.note_taken g gs)

behind_by : (law : NotesLaw) (g r : ℕ) (gs : List groups.Group) → first_of (groups.group_in gs g).notes ≡ Some r → (rs : List ℕ)
    → rs ≡ (groups.group_in gs g).notes → NotesGiven g rs gs (groups.without_notes g gs) → Behind g r gs
behind_by law g r gs h [] e n = let none : Some r ≡ None = sym h ∙ n.0 in absurd (cc)
behind_by law g r gs h (q ∷ qs) e n =
    let one : Some r ≡ Some q = sym h ∙ n.0
    in let same : q ≡ r = cc
    in let rest = (law g qs (groups.note_taken g gs) (groups.without_notes g gs)).0 n.1
    in record { all = sym e ∙ ap (λ k. k ∷ qs) same ∙ ap (λ ks. r ∷ ks) rest.0; left = rest.1 }

pub behind : (law : NotesLaw) (g r : ℕ) (gs : List groups.Group) → first_of (groups.group_in gs g).notes ≡ Some r → Behind g r gs
behind law g r gs h =
    behind_by law g r gs h (groups.group_in gs g).notes refl
    ((law g (groups.group_in gs g).notes gs (groups.without_notes g gs)).1 (refl, refl))

-- ---- what a choice takes
any_fills : (cells : NamedCells Frame) (q : Queues Task) (t : List Entry) (lists : State) (ds : List ℕ) (to : ℕ)
    → taken_fills (name_in (trimmed cells.names)) (any_takes ds to cells) (seen cells q t lists).plain
    ≡ filled_if (name_in (trimmed cells.names) to) (first_number (map (name_in (trimmed cells.names)) ds) (seen cells q t lists).plain)
    (seen cells q t lists).plain
any_fills cells q t lists [] to = refl
any_fills cells q t lists (d ∷ ds) to =
    by (number_of d cells) (any_fills cells q t lists ds to)
    ∙ ap (λ (o : Option ℤ). filled_if (f to) (elim o as (λ _. Option ℤ) [ None ↦ first_number (map f ds) s | Some v ↦ Some v ]) s) (sym (number_seen cells d))
  where
    f : ℕ → ℕ
    f = name_in (trimmed cells.names)

    s : State
    s = (seen cells q t lists).plain

    by : (o : Option ℤ) → taken_fills (name_in (trimmed cells.names)) (any_takes ds to cells) (seen cells q t lists).plain
        ≡ filled_if (name_in (trimmed cells.names) to) (first_number (map (name_in (trimmed cells.names)) ds) (seen cells q t lists).plain)
        (seen cells q t lists).plain
        → taken_fills (name_in (trimmed cells.names)) (elim o as (λ _. Taken) [ None ↦ any_takes ds to cells | Some v ↦ Fills to v ])
        (seen cells q t lists).plain
        ≡ filled_if (name_in (trimmed cells.names) to)
        (elim o as (λ _. Option ℤ) [ None ↦ first_number (map (name_in (trimmed cells.names)) ds) (seen cells q t lists).plain | Some v ↦ Some v ])
        (seen cells q t lists).plain
    by None e = e
    by (Some v) e = refl

any_calls : (f : ℕ → ℕ) (cells : NamedCells Frame) (ds : List ℕ) (to : ℕ) → taken_calls f (any_takes ds to cells) ≡ None
any_calls f cells [] to = refl
any_calls f cells (d ∷ ds) to = by (number_of d cells) (any_calls f cells ds to)
  where
    by : (o : Option ℤ) → taken_calls f (any_takes ds to cells) ≡ None
        → taken_calls f (elim o as (λ _. Taken) [ None ↦ any_takes ds to cells | Some v ↦ Fills to v ]) ≡ None
    by None e = e
    by (Some v) e = refl

any_drawn : (cells : NamedCells Frame) (ds : List ℕ) (to : ℕ) (s : State) → to < length s.cells.ivars → TakesDrawn (any_takes ds to cells) s
any_drawn cells [] to s h = tt
any_drawn cells (d ∷ ds) to s h = by (number_of d cells) (any_drawn cells ds to s h)
  where
    by : (o : Option ℤ) → TakesDrawn (any_takes ds to cells) s
        → TakesDrawn (elim o as (λ _. Taken) [ None ↦ any_takes ds to cells | Some v ↦ Fills to v ]) s
    by None e = e
    by (Some v) e = h

-- the call of a choice whose deferred has a number
abbrev called_with : Choosable → ℤ → List Value → ℕ → Callback
called_with choice v vals to = record { proc = choice.proc; vals = Num v ∷ vals; to = to }

choice_calls : (cells : NamedCells Frame) (q : Queues Task) (t : List Entry) (lists : State) (choices : List Choosable) (vals : List Value) (to : ℕ)
    → taken_calls (name_in (trimmed cells.names)) (choice_takes choices vals to cells)
    ≡ first_call (map (choosable_mapped (name_in (trimmed cells.names))) choices) (values_mapped (name_in (trimmed cells.names)) vals)
    (name_in (trimmed cells.names) to) (seen cells q t lists).plain
choice_calls cells q t lists [] vals to = refl
choice_calls cells q t lists (choice ∷ choices) vals to =
    by (name_in (trimmed cells.names)) (number_of choice.deferred cells) (choice_takes choices vals to cells)
    (first_call (map (choosable_mapped (name_in (trimmed cells.names))) choices) (values_mapped (name_in (trimmed cells.names)) vals)
    (name_in (trimmed cells.names) to) (seen cells q t lists).plain)
    (choice_calls cells q t lists choices vals to)
    ∙ ap (λ (o : Option ℤ). elim o as (λ _. Option Callback) [
      | None ↦ first_call (map (choosable_mapped (name_in (trimmed cells.names))) choices) (values_mapped (name_in (trimmed cells.names)) vals)
          (name_in (trimmed cells.names) to) (seen cells q t lists).plain
      | Some v ↦ Some (called_with choice v (values_mapped (name_in (trimmed cells.names)) vals) (name_in (trimmed cells.names) to))
    ]) (sym (number_seen cells choice.deferred))
  where
    by : (f : ℕ → ℕ) (o : Option ℤ) (x : Taken) (y : Option Callback) → taken_calls f x ≡ y
        → taken_calls f (elim o as (λ _. Taken) [ None ↦ x | Some v ↦ Calls (called_with choice v vals to) ])
        ≡ elim o as (λ _. Option Callback) [ None ↦ y | Some v ↦ Some (called_with choice v (values_mapped f vals) (f to)) ]
    by f None x y e = e
    by f (Some v) x y e = refl

choice_fills : (f : ℕ → ℕ) (cells : NamedCells Frame) (choices : List Choosable) (vals : List Value) (to : ℕ) (s : State)
    → taken_fills f (choice_takes choices vals to cells) s ≡ s
choice_fills f cells [] vals to s = refl
choice_fills f cells (choice ∷ choices) vals to s = by (number_of choice.deferred cells) (choice_fills f cells choices vals to s)
  where
    by : (o : Option ℤ) → taken_fills f (choice_takes choices vals to cells) s ≡ s
        → taken_fills f (elim o as (λ _. Taken) [ None ↦ choice_takes choices vals to cells | Some v ↦ Calls (called_with choice v vals to) ]) s ≡ s
    by None e = e
    by (Some v) e = refl

choice_draws : (cells : NamedCells Frame) (choices : List Choosable) (vals : List Value) (to : ℕ) (s : State)
    → TakesDrawn (choice_takes choices vals to cells) s
choice_draws cells [] vals to s = tt
choice_draws cells (choice ∷ choices) vals to s = by (number_of choice.deferred cells) (choice_draws cells choices vals to s)
  where
    by : (o : Option ℤ) → TakesDrawn (choice_takes choices vals to cells) s
        → TakesDrawn (elim o as (λ _. Taken) [ None ↦ choice_takes choices vals to cells | Some v ↦ Calls (called_with choice v vals to) ]) s
    by None e = e
    by (Some v) e = tt

-- for every purpose
pub takes_fills : (cells : NamedCells Frame) (q : Queues Task) (t : List Entry) (lists : State) (x : Purpose)
    → taken_fills (name_in (trimmed cells.names)) (takes x cells) (seen cells q t lists).plain
    ≡ filled_by (purpose_mapped (name_in (trimmed cells.names)) x) (seen cells q t lists).plain
takes_fills cells q t lists (ForAny ds to) = any_fills cells q t lists ds to
takes_fills cells q t lists (ForChoice choices vals to) =
    choice_fills (name_in (trimmed cells.names)) cells choices vals to (seen cells q t lists).plain
takes_fills cells q t lists (ForAll c) = refl
takes_fills cells q t lists (ForGuard ctx m mode c) = refl

pub takes_calls : (cells : NamedCells Frame) (q : Queues Task) (t : List Entry) (lists : State) (x : Purpose)
    → taken_calls (name_in (trimmed cells.names)) (takes x cells)
    ≡ called_by (purpose_mapped (name_in (trimmed cells.names)) x) (seen cells q t lists).plain
takes_calls cells q t lists (ForAny ds to) = any_calls (name_in (trimmed cells.names)) cells ds to
takes_calls cells q t lists (ForChoice choices vals to) = choice_calls cells q t lists choices vals to
takes_calls cells q t lists (ForAll c) = refl
takes_calls cells q t lists (ForGuard ctx m mode c) = refl

pub takes_drawn : (cells : NamedCells Frame) (x : Purpose) (s : State) → LooksDrawn (length s.cells.ivars) x → TakesDrawn (takes x cells) s
takes_drawn cells (ForAny ds to) s h = any_drawn cells ds to s h.1
takes_drawn cells (ForChoice choices vals to) s h = choice_draws cells choices vals to s
takes_drawn cells (ForAll c) s h = tt
takes_drawn cells (ForGuard ctx m mode c) s h = tt

-- ---- what the job of a choice leaves, and what it calls, fits
filled_if_grows : (program : List NumProc) (r : ℕ) (o : Option ℤ) (s : State) → Fits program s → Grows program s (filled_if r o s)
filled_if_grows program r None s f = kept_grows program s f
filled_if_grows program r (Some v) s f = fill_grows program r v s f

filled_by_grows : (program : List NumProc) (x : Purpose) (s : State) → Fits program s → Grows program s (filled_by x s)
filled_by_grows program (ForAny ds r) s f = filled_if_grows program r (first_number ds s) s f
filled_by_grows program (ForAll c) s f = kept_grows program s f
filled_by_grows program (ForChoice choices vals r) s f = kept_grows program s f
filled_by_grows program (ForGuard ctx m mode c) s f = kept_grows program s f

ended_grows : (program : List NumProc) (b : Bool) (g : ℕ) (x : Purpose) (s : State) → Fits program s
    → Grows program s (cond b s (filled_by x (choice_decided g s)))
ended_grows program true g x s f = kept_grows program s f
ended_grows program false g x s f =
    let t : State = choice_decided g s
    in let one = choice_decided_grows program g s f
    in then_grows program s t (filled_by x t) one (filled_by_grows program x t one.fits)

pub choice_ended_grows : (program : List NumProc) (g : ℕ) (s : State) → Fits program s → Grows program s (choice_ended g s)
choice_ended_grows program g s f = ended_grows program (group_at g s).decided g (purpose_at g s) s f

callback_grows : (program : List NumProc) (n n' : Drawn) → More n n' → (o : Option Callback) → IfSome o (CallbackFits program n)
    → IfSome o (CallbackFits program n')
callback_grows program n n' h None f = tt
callback_grows program n n' h (Some c) f =
    record { call = call_more program n n' h c.proc c.vals f.call; result = omega (arith, h.ivars, f.result) }

first_call_fits : (program : List NumProc) (n : Drawn) (choices : List Choosable) (vals : List Value) (r : ℕ) (t : State)
    → AllByRecursion (ChoosableFits program n vals) choices → r < n.ivars → IfSome (first_call choices vals r t) (CallbackFits program n)
first_call_fits program n [] vals r t f h = tt
first_call_fits program n (choice ∷ choices) vals r t f h =
    by (number_at choice.deferred t) (first_call_fits program n choices vals r t f.1 h)
  where
    by : (o : Option ℤ) → IfSome (first_call choices vals r t) (CallbackFits program n)
        → IfSome (elim o as (λ _. Option Callback) [
          | None ↦ first_call choices vals r t
          | Some v ↦ Some (record { proc = choice.proc; vals = Num v ∷ vals; to = r })
        ]) (CallbackFits program n)
    by None q = q
    by (Some v) q = record { call = value_call program n choice.proc v vals f.0.call; result = h }

called_by_fits : (program : List NumProc) (n : Drawn) (parts : ℕ) (x : Purpose) (t : State) → PurposeFits program n parts x
    → IfSome (called_by x t) (CallbackFits program n)
called_by_fits program n parts (ForChoice choices vals r) t f = first_call_fits program n choices vals r t f.0 f.1
called_by_fits program n parts (ForAll c) t f = tt
called_by_fits program n parts (ForAny ds r) t f = tt
called_by_fits program n parts (ForGuard ctx m mode c) t f = tt

ended_call_fits : (program : List NumProc) (b : Bool) (n : Drawn) (o : Option Callback) → IfSome o (CallbackFits program n)
    → IfSome (cond b None o) (CallbackFits program n)
ended_call_fits program true n o f = tt
ended_call_fits program false n o f = f

pub choice_call_fits : (program : List NumProc) (g : ℕ) (s : State) (call : Option Callback) → Fits program s → g < length s.groups
    → call ≡ choice_call g s → IfSome call (CallbackFits program (drawn (choice_ended g s)))
choice_call_fits program g s call f h e =
    subst (λ o. IfSome o (CallbackFits program (drawn (choice_ended g s)))) (sym e)
    (callback_grows program (drawn s) (drawn (choice_ended g s)) (choice_ended_grows program g s f).more (choice_call g s)
    (ended_call_fits program (group_at g s).decided (drawn s) (called_by (purpose_at g s) (choice_decided g s))
    (called_by_fits program (drawn s) (length (group_at g s).parts) (purpose_at g s) (choice_decided g s) (purpose_fits program g s f h))))

-- ---- and so does that of a part
pub part_set_grows : (program : List NumProc) (g k : ℕ) (v : ℤ) (s : State) → Fits program s → Grows program s (part_set g k v s)
part_set_grows program g k v s f =
    regrouped_grows program (groups.part_set g k v s.groups) s
    (parts_set s.groups g _ (length-set (group_at g s).parts k (Some v))) f

pub part_ended_grows : (program : List NumProc) (o : Option ℤ) (g k : ℕ) (v : ℤ) (s : State) → Fits program s
    → Grows program s (part_ended o g k v s)
part_ended_grows program (Some w) g k v s f = kept_grows program s f
part_ended_grows program None g k v s f = part_set_grows program g k v s f

numbers_long : (parts : List (Option ℤ)) (zs : List ℤ) → groups.all_numbers parts ≡ Some zs → length zs ≡ length parts
numbers_long [] zs e = let none : zs ≡ [] = cc in ap length none
numbers_long (None ∷ parts) zs e = absurd (cc)
numbers_long (Some v ∷ parts) zs e = by (groups.all_numbers parts) (numbers_long parts) e
  where
    by : (o : Option (List ℤ)) → ((ys : List ℤ) → o ≡ Some ys → length ys ≡ length parts)
        → elim o as (λ _. Option (List ℤ)) [ None ↦ None | Some ys ↦ Some (v ∷ ys) ] ≡ Some zs → length zs ≡ suc (length parts)
    by None p h = absurd (cc)
    by (Some ys) p h = let is : zs ≡ v ∷ ys = cc in ap length is ∙ ap suc (p ys refl)

with_numbers_fits : (program : List NumProc) (n : Drawn) (parts : List (Option ℤ)) (c : Callback) → AllFits program n (length parts) c
    → IfSome (with_numbers c (groups.all_numbers parts)) (CallbackFits program n)
with_numbers_fits program n parts c f = by (groups.all_numbers parts) refl
  where
    by : (o : Option (List ℤ)) → groups.all_numbers parts ≡ o → IfSome (with_numbers c o) (CallbackFits program n)
    by None e = tt
    by (Some zs) e =
        record {
          call = numbers_call program n c.proc zs c.vals
              (subst (λ k. CallFits program n c.proc (numbers k ++ c.vals)) (sym (numbers_long parts zs e)) f.call);
          result = f.result;
        }

call_of_all_fits : (program : List NumProc) (n : Drawn) (x : Purpose) (g : ℕ) (t : State) → PurposeFits program n (length (group_at g t).parts) x
    → IfSome (call_of_all x g t) (CallbackFits program n)
call_of_all_fits program n (ForAll c) g t f = with_numbers_fits program n (group_at g t).parts c f
call_of_all_fits program n (ForAny ds r) g t f = tt
call_of_all_fits program n (ForChoice choices vals r) g t f = tt
call_of_all_fits program n (ForGuard ctx m mode c) g t f = tt

part_call_by : (program : List NumProc) (o : Option ℤ) (g k : ℕ) (v : ℤ) (s : State) → Fits program s → g < length s.groups
    → IfSome (part_call o g k v s) (CallbackFits program (drawn (part_ended o g k v s)))
part_call_by program (Some w) g k v s f h = tt
part_call_by program None g k v s f h =
    let t : State = part_set g k v s
    in let one = part_set_grows program g k v s f
    in call_of_all_fits program (drawn t) (purpose_at g s) g t
    (purpose_fits program g t one.fits (omega (arith, h, one.more.groups)))

pub part_call_fits : (program : List NumProc) (o : Option ℤ) (g k : ℕ) (v : ℤ) (s : State) (call : Option Callback) → Fits program s
    → g < length s.groups → call ≡ part_call o g k v s → IfSome call (CallbackFits program (drawn (part_ended o g k v s)))
part_call_fits program o g k v s call f h e =
    subst (λ x. IfSome x (CallbackFits program (drawn (part_ended o g k v s)))) (sym e) (part_call_by program o g k v s f h)

-- ---- the numbers of parts, one after the other
all_pushed : (xs : List (Option ℤ)) (v : ℤ) → groups.all_numbers (xs ++ Some v ∷ []) ≡ option_map (λ zs. zs ++ v ∷ []) (groups.all_numbers xs)
all_pushed [] v = refl
all_pushed (None ∷ xs) v = refl
all_pushed (Some w ∷ xs) v =
    ap (λ (o : Option (List ℤ)). elim o as (λ _. Option (List ℤ)) [ None ↦ None | Some zs ↦ Some (w ∷ zs) ]) (all_pushed xs v)
    ∙ by (groups.all_numbers xs)
  where
    by : (o : Option (List ℤ))
        → elim (option_map (λ zs. zs ++ v ∷ []) o) as (λ _. Option (List ℤ)) [ None ↦ None | Some zs ↦ Some (w ∷ zs) ]
        ≡ option_map (λ zs. zs ++ v ∷ []) (elim o as (λ _. Option (List ℤ)) [ None ↦ None | Some zs ↦ Some (w ∷ zs) ])
    by None = refl
    by (Some zs) = refl

-- the numbers of the first parts as values
abbrev pub values_to : List (Option ℤ) → ℕ → Option (List Value)
values_to parts k = option_map (map Num) (groups.all_numbers (take k parts))

there : (parts : List (Option ℤ)) (k : ℕ) (v : ℤ) → get_or parts k None ≡ Some v → k < length parts
there [] k v e = absurd (cc)
there (p ∷ parts) zero v e = omega arith
there (p ∷ parts) (suc k) v e = let h : k < length parts = there parts k v e in omega (arith, h)

one_more : (o : Option (List ℤ)) (v : ℤ) (vals : List Value) → option_map (map Num) o ≡ Some vals
    → option_map (map Num) (option_map (λ zs. zs ++ v ∷ []) o) ≡ Some (vals ++ Num v ∷ [])
one_more None v vals e = absurd (cc)
one_more (Some zs) v vals e =
    let same : map Num zs ≡ vals = cc
    in ap Some (map-append Num zs (v ∷ []) ∙ ap (λ vs. vs ++ Num v ∷ []) same)

-- the number of one part more
pub record OneMore (parts : List (Option ℤ)) (k : ℕ) (all : List Value) : Type 0 where
  pub below : k + 1 ≤ length parts
  pub vals : values_to parts (k + 1) ≡ Some all

pub part_next : (parts : List (Option ℤ)) (k : ℕ) (v : ℤ) (vals : List Value) → Some v ≡ get_or parts k None → values_to parts k ≡ Some vals
    → OneMore parts k (vals ++ Num v ∷ [])
part_next parts k v vals e h =
    let lt : k < length parts = there parts k v (sym e)
    in record {
      below = omega (arith, lt);
      vals =
          ap (λ xs. option_map (map Num) (groups.all_numbers xs)) (take_more parts k None lt ∙ ap (λ o. take k parts ++ o ∷ []) (sym e))
          ∙ ap (option_map (map Num)) (all_pushed (take k parts) v) ∙ one_more (groups.all_numbers (take k parts)) v vals h;
    }

rest_full : (o : Option (List ℤ)) (v : ℤ) → is_some (elim o as (λ _. Option (List ℤ)) [ None ↦ None | Some zs ↦ Some (v ∷ zs) ]) ≡ true
    → is_some o ≡ true
rest_full None v e = e
rest_full (Some zs) v e = refl

past : (parts : List (Option ℤ)) (k : ℕ) → groups.has_all parts ≡ true → None ≡ get_or parts k None → length parts ≤ k
past [] k h e = omega arith
past (None ∷ parts) k h e = absurd (cc)
past (Some v ∷ parts) zero h e = absurd (cc)
past (Some v ∷ parts) (suc k) h e = let p : length parts ≤ k = past parts k (rest_full (groups.all_numbers parts) v h) e in omega (arith, p)

-- where a part has no number, it is past the last
pub parts_end : (parts : List (Option ℤ)) (k : ℕ) (vals : List Value) → groups.has_all parts ≡ true → None ≡ get_or parts k None
    → values_to parts k ≡ Some vals → option_map (map Num) (groups.all_numbers parts) ≡ Some vals
parts_end parts k vals h e n =
    ap (λ xs. option_map (map Num) (groups.all_numbers xs)) (sym (take_all k parts (past parts k h e))) ∙ n

-- numbers are no names
nums_mapped : (f : ℕ → ℕ) (zs : List ℤ) (vals : List Value) → values_mapped f (map Num zs ++ vals) ≡ map Num zs ++ values_mapped f vals
nums_mapped f [] vals = refl
nums_mapped f (z ∷ zs) vals = ap (λ vs. Num z ∷ vs) (nums_mapped f zs vals)

-- the call of an `all`, as the code puts it together
pub all_call_is : (f : ℕ → ℕ) (c : Callback) (o : Option (List ℤ)) (vals all : List Value) → option_map (map Num) o ≡ Some vals → all ≡ vals ++ c.vals
    → Some (callback_mapped f (record c { vals = all })) ≡ with_numbers (callback_mapped f c) o
all_call_is f c None vals all e h = absurd (cc)
all_call_is f c (Some zs) vals all e h =
    let same : vals ≡ map Num zs = cc
    in ap (λ vs. Some (record (callback_mapped f c) { vals = vs }))
    (ap (values_mapped f) (h ∙ ap (λ vs. vs ++ c.vals) same) ∙ nums_mapped f zs c.vals)

pub all_few : (g : ℕ) (s : State) (f : FitsSome s) → g < length s.groups → (c : Callback) → purpose_at g s ≡ ForAll c
    → length (group_at g s).parts ≤ 8
all_few g s f h c e =
    let fit : AllFits f.program (drawn s) (length (group_at g s).parts) c = subst (PurposeFits f.program (drawn s) (length (group_at g s).parts)) e
    (purpose_fits f.program g s f.fits h)
    in fit.few

-- ---- what a choice looks at was drawn
raw_drawn : (cells : NamedCells Frame) → length cells.names ≡ length cells.cells.ivars → (ds : List ℕ)
    → AllByRecursion (λ i. i < length cells.cells.ivars) (map (name_in (trimmed cells.names)) ds) → AllByRecursion (λ i. i < length cells.cells.ivars) ds
raw_drawn cells e [] h = tt
raw_drawn cells e (d ∷ ds) h = (drawn_seen cells e d h.0, raw_drawn cells e ds h.1)

raw_choices : (program : List NumProc) (n : Drawn) (cells : NamedCells Frame) → length cells.names ≡ length cells.cells.ivars
    → n.ivars ≡ length cells.cells.ivars → (choices : List Choosable) (vals : List Value)
    → AllByRecursion (ChoosableFits program n vals) (map (choosable_mapped (name_in (trimmed cells.names))) choices)
    → AllByRecursion (λ (c : Choosable). c.deferred < length cells.cells.ivars) choices
raw_choices program n cells e k [] vals h = tt
raw_choices program n cells e k (choice ∷ choices) vals h = (
  drawn_seen cells e choice.deferred (subst (λ m. name_in (trimmed cells.names) choice.deferred < m) k h.0.deferred),
  raw_choices program n cells e k choices vals h.1,
)

looks : (program : List NumProc) (n : Drawn) (parts : ℕ) (cells : NamedCells Frame) → length cells.names ≡ length cells.cells.ivars
    → n.ivars ≡ length cells.cells.ivars → (x : Purpose) → PurposeFits program n parts (purpose_mapped (name_in (trimmed cells.names)) x)
    → LooksDrawn (length cells.cells.ivars) x
looks program n parts cells e k (ForAny ds to) f =
    let f' : ℕ → ℕ = name_in (trimmed cells.names)
    in let all = subst (λ m. AllByRecursion (λ i. i < m) (map f' ds)) k f.0
    in (
      All-from_recursion (λ i. i < length cells.cells.ivars) ds (raw_drawn cells e ds all),
      drawn_seen cells e to (subst (λ m. f' to < m) k f.1),
    )
looks program n parts cells e k (ForChoice choices vals to) f =
    All-from_recursion (λ (c : Choosable). c.deferred < length cells.cells.ivars) choices
    (raw_choices program n cells e k choices (values_mapped (name_in (trimmed cells.names)) vals) f.0)
looks program n parts cells e k (ForAll c) f = tt
looks program n parts cells e k (ForGuard ctx m mode c) f = tt

pub looks_drawn : (cells : NamedCells Frame) (q : Queues Task) (t : List Entry) (lists : State) → length cells.names ≡ length cells.cells.ivars
    → FitsSome (seen cells q t lists).plain → (g : ℕ) → g < length lists.groups → (x : Purpose)
    → purpose_at g (seen cells q t lists).plain ≡ purpose_mapped (name_in (trimmed cells.names)) x → LooksDrawn (length cells.cells.ivars) x
looks_drawn cells q t lists e f g h x p =
    let s : State = (seen cells q t lists).plain
    in looks f.program (drawn s) (length (group_at g s).parts) cells e refl x
    (subst (PurposeFits f.program (drawn s) (length (group_at g s).parts)) p (purpose_fits f.program g s f.fits h))

-- ---- handlers wait no longer in the state that is seen
unregistered_named_by : (f : ℕ → ℕ) (rs : List ℕ) (c : Cells Frame) → cells_named f (fold unregistered c rs) ≡ fold unregistered (cells_named f c) rs
unregistered_named_by f [] c = refl
unregistered_named_by f (r ∷ rs) c =
    unregistered_named_by f rs (unregistered c r)
    ∙ ap (λ gs. fold unregistered (record c { registrations = gs }) rs)
    (sym (filter_mapped (is_other r) (is_other r) (registration_named f) (λ g. refl) c.registrations))

-- a group is left by its notes, which wait no longer
abbrev pub left_by_notes : ℕ → State → State
left_by_notes g s = record s {
  cells = fold unregistered s.cells (group_at g s).notes;
  groups = groups.without_notes g s.groups;
}

pub seen_dropped : (cells : NamedCells Frame) (q : Queues Task) (t : List Entry) (lists : State) (g : ℕ)
    → seen (without_handlers (groups.group_in lists.groups g).notes cells) q t (record lists { groups = groups.without_notes g lists.groups })
    ≡ doing (left_by_notes g) (seen cells q t lists)
seen_dropped cells q t lists g =
    let f : ℕ → ℕ = name_in (trimmed cells.names)
    in ap (λ (c : Cells Frame). seen_as (trimmed cells.names)
    (record (state_named f (raw_state cells q t lists)) { cells = c; groups = groups.without_notes g lists.groups }))
    (unregistered_named_by f (groups.group_in lists.groups g).notes cells.cells)

notes_same : (gs : List groups.Group) (g : ℕ) (x : groups.Group) → x.notes ≡ (groups.group_in gs g).notes
    → (groups.group_in (slice_set gs g x) g).notes ≡ (groups.group_in gs g).notes
notes_same [] g x e = refl
notes_same (y ∷ gs) zero x e = e
notes_same (y ∷ gs) (suc g) x e = notes_same gs g x e

pub decided_left : (g : ℕ) (s : State) → left_by_notes g (decided g s) ≡ choice_decided g s
decided_left g s =
    ap (λ rs. record (decided g s) { cells = fold unregistered s.cells rs; groups = groups.without_notes g (groups.with_decided g s.groups) })
    (notes_same s.groups g (record (groups.group_in s.groups g) { decided = true }) refl)

pub kept_without : (rs : List ℕ) (cells : NamedCells Frame) → IsKept cells → IsKept (without_handlers rs cells)
kept_without rs cells k = record { named = k.named ∙ sym (ap length (unregistered_ivars rs cells.cells)); unwoken = k.unwoken }

-- the next handler that was noted waits no longer
pub record DroppedOne (g r : ℕ) (cells : NamedCells Frame) (gs : List groups.Group) : Type 0 where
  pub there : g < length (groups.note_taken g gs)
  pub cells_left : without_handlers (groups.group_in (groups.note_taken g gs) g).notes (unregistered_named r cells)
      ≡ without_handlers (groups.group_in gs g).notes cells
  pub groups_left : groups.without_notes g (groups.note_taken g gs) ≡ groups.without_notes g gs
  pub fewer : length (groups.group_in (groups.note_taken g gs) g).notes < length (groups.group_in gs g).notes

pub dropped_one : (law : NotesLaw) (g r : ℕ) (cells : NamedCells Frame) (gs : List groups.Group) → g < length gs
    → Some r ≡ first_of (groups.group_in gs g).notes → DroppedOne g r cells gs
dropped_one law g r cells gs h e =
    let b = behind law g r gs (sym e)
    in let all : length (groups.group_in gs g).notes ≡ suc (length (groups.group_in (groups.note_taken g gs) g).notes) = ap length b.all
    in record {
      there = subst (λ n. g < n) (sym (length-set gs g _)) h;
      cells_left = ap (λ rs. without_handlers rs cells) (sym b.all);
      groups_left = sym b.left;
      fewer = omega (arith, all);
    }

-- ---- a group that is begun, as the code goes about it; h gives the names of its list
registered_all : {A : Type 0} (ctx : Ctx) (g : ℕ) (f : A → ℕ) (xs : List A) (i : ℕ) (s t : State) → length xs ≤ i
    → choice_registered ctx g (map f (drop i xs)) s ≡ choice_registered ctx g (map f xs) t → s ≡ choice_registered ctx g (map f xs) t
registered_all ctx g f xs i s t h e = sym (at_drop_all (λ ys. choice_registered ctx g (map f ys) s) xs i h) ∙ e

pub choice_seen : {A : Type 0} (ctx : Ctx) (g : ℕ) (h : List ℕ → A → ℕ) (xs : List A) (i : ℕ) (purpose : Purpose) (old begun looped new : Seen)
    → begun ≡ doing (with_fresh_group 0) old → g ≡ length old.plain.groups → looped.names ≡ begun.names → length xs ≤ i
    → choice_registered ctx g (map (h begun.names) (drop i xs)) looped.plain ≡ choice_registered ctx g (map (h begun.names) xs) begun.plain
    → new ≡ doing (with_purpose (purpose_mapped (name_in looped.names) purpose)) looped
    → new ≡ doing (λ s. choice_registered ctx (length s.groups) (map (h old.names) xs) (with_group 0 (purpose_mapped (name_in old.names) purpose) s)) old
choice_seen ctx g h xs i purpose old begun looped new b e n past_all r k =
    let first : begun.names ≡ old.names = ap (λ (x : Seen). x.names) b
    in let names : looped.names ≡ old.names = n ∙ first
    in let p : Purpose = purpose_mapped (name_in old.names) purpose
    in k ∙ ap (λ ns. doing (with_purpose (purpose_mapped (name_in ns) purpose)) looped) names
    ∙ seen_is (doing (with_purpose p) looped) _
    (ap (with_purpose p)
    (registered_all ctx g (h begun.names) xs i looped.plain begun.plain past_all r
    ∙ ap (λ ns. choice_registered ctx g (map (h ns) xs) begun.plain) first
    ∙ ap (λ (x : Seen). choice_registered ctx g (map (h old.names) xs) x.plain) b
    ∙ ap (λ j. choice_registered ctx j (map (h old.names) xs) (with_fresh_group 0 old.plain)) e)
    ∙ choice_kept ctx (map (h old.names) xs) p old.plain) names

-- the deferreds of choices with surviving names
pub deferreds_mapped : (f : ℕ → ℕ) (choices : List Choosable)
    → map (λ (c : Choosable). f c.deferred) choices ≡ map deferred_of (map (choosable_mapped f) choices)
deferreds_mapped f choices = sym (map_by deferred_of (choosable_mapped f) (λ (c : Choosable). f c.deferred) (λ c. refl) choices)

all_registered_all : (ctx : Ctx) (g : ℕ) (f : ℕ → ℕ) (ds : List ℕ) (i : ℕ) (s t : State) → length ds ≤ i
    → all_registered ctx g (map f (drop i ds)) i s ≡ all_registered ctx g (map f ds) 0 t → s ≡ all_registered ctx g (map f ds) 0 t
all_registered_all ctx g f ds i s t h e = sym (at_drop_all (λ xs. all_registered ctx g (map f xs) i s) ds i h) ∙ e

pub all_seen : (ctx : Ctx) (g : ℕ) (ds : List ℕ) (i : ℕ) (c : Callback) (old begun looped new : Seen)
    → begun ≡ doing (with_fresh_group (length ds)) old → g ≡ length old.plain.groups → looped.names ≡ begun.names → length ds ≤ i
    → all_registered ctx g (map (name_in begun.names) (drop i ds)) i looped.plain ≡ all_registered ctx g (map (name_in begun.names) ds) 0 begun.plain
    → new ≡ doing (with_purpose (ForAll (callback_mapped (name_in looped.names) c))) looped
    → new ≡ doing (all_begun ctx (map (name_in old.names) ds) (callback_mapped (name_in old.names) c)) old
all_seen ctx g ds i c old begun looped new b e n past_all r k =
    let first : begun.names ≡ old.names = ap (λ (x : Seen). x.names) b
    in let names : looped.names ≡ old.names = n ∙ first
    in let is : List ℕ = map (name_in old.names) ds
    in let c' : Callback = callback_mapped (name_in old.names) c
    in k ∙ ap (λ ns. doing (with_purpose (ForAll (callback_mapped (name_in ns) c))) looped) names
    ∙ seen_is (doing (with_purpose (ForAll c')) looped) _
    (ap (with_purpose (ForAll c'))
    (all_registered_all ctx g (name_in begun.names) ds i looped.plain begun.plain past_all r
    ∙ ap (λ ns. all_registered ctx g (map (name_in ns) ds) 0 begun.plain) first
    ∙ ap (λ (x : Seen). all_registered ctx g is 0 x.plain) b
    ∙ ap (λ j. all_registered ctx j is 0 (with_fresh_group (length ds) old.plain)) e
    ∙ ap (λ k'. all_registered ctx (length old.plain.groups) is 0 (with_fresh_group k' old.plain)) (sym (length-map ds (name_in old.names))))
    ∙ all_kept ctx is c' old.plain) names
