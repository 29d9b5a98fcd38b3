-- Yields and alarms, taken one at a time as a cycle begins.
use Rattle.std.proofs.Common.{◌≡◌, ℕ, ℤ, suc, ◌+◌, ◌<◌, ◌≤◌, List, [], ◌∷◌, ◌++◌, length, map, fold, refl, ap, sym, ◌∙◌, subst, Bool, true, false, not, ◌||◌, cond, arith}
use Rattle.std.specs.Prelude.{pos, Option, Some, None, filter, find, ◌↔◌, int_lt}
use Rattle.std.specs.Option.{option_map}
use Rattle.std.specs.List.{AllByRecursion}
use Rattle.std.proofs.lemmas.List.{map-append}
use Rattle.ak_base.specs.Lists.{first_of, rest_of, is_empty_list}
use Rattle.ak_base.specs.Numbers.{AreNumbered}
use Rattle.ak_base.proofs.Lists.{all_push}
use Rattle.ak_base.proofs.Numbers.{numbered_filtered}
use Rattle.ak_cells.specs.declared.registration.Registration.{Registration}
use Rattle.ak_cells.specs.Cells.{waiting_on, filled}
use Rattle.ak_cells.specs.Names.{name_in, trimmed}
use Rattle.ak_cells.specs.Rooms.{NamedCells}
use Rattle.ak_base.specs.declared.number.Ctx.{Ctx}
use Rattle.ak_frames.specs.declared.frame.Frame.{Frame}
use Rattle.ak_frames.specs.declared.frame.Task.{Task}
use Rattle.ak_rings.specs.declared.job.Job.{Job}
use Rattle.ak_rings.specs.Queues.{Queues, recounted, with_job, has_no_job}
use Rattle.ak_trace.specs.declared.entry.Entry.{Entry}
use Rattle.ak_trace.specs.declared.entry.Entry.TheVariants as entry
use Rattle.ak_clock.specs.declared.alarm.Alarm.{Alarm}
use Rattle.ak_clock.specs.Clock as clock
use Rattle.ak_clock.specs.Clock.{Clock, ivar_of, alarm_of, is_alarm, due_alarms, due_taken, is_due, is_early, is_other_alarm, insert_alarm, inserted, by_time, without_this, without_due, without_yields, has_due, has_yield, yield_taken}
use Rattle.ak_clock.specs.Order.{number_of}
use Rattle.ak_clock.specs.Calls.{DueGives, due_ivars}
use Rattle.ak_program.specs.declared.program.NumProc.{NumProc}
use Rattle.ak_machine.specs.State.{State}
use Rattle.ak_machine.specs.Deferred.{noting, with_ivar, woken_by, number_at, fill_at, fill, filled_with}
use Rattle.ak_machine.specs.Mapped.{alarm_mapped, clock_mapped, state_named}
use Rattle.ak_machine.specs.Alarms.{with_yield, with_alarm, aborted_at, abort, alarm_filled, yields_filled, alarms_filled}
use Rattle.ak_machine.specs.Cycle.{cycle_begun, has_more}
use Rattle.ak_state.specs.Seen.{seen, doing, raw_state}
use Rattle.ak_state.specs.Drawn.{drawn}
use Rattle.ak_state.specs.Fits.{ClockFits, AlarmFits, Fits, FitsSome}
use Rattle.ak_state.specs.Alarms.{with_clock, awaiting_cycle, first_yield, without_yield, first_due, without_alarm, with_recount, with_alarm_for, pending, without_event, at_time}
use Rattle.ak_state.proofs.Stands.{seen_as}
use Rattle.ak_state.proofs.Picks.{no_job_mapped}
use Rattle.ak_state.proofs.Fitting.{Grows, kept_grows, then_grows, fill_grows, ivar_grows, drawn_one, clock_set_grows, fewer_alarms, rest_all}

-- ---- fills leave the clock, and what is kept of the jobs that ran
woken_clock : (v : ℤ) (c : Clock) (gs : List (Registration Frame)) (s : State)
    → fold (woken_by v) (with_clock c s) gs ≡ with_clock c (fold (woken_by v) s gs)
woken_clock v c [] s = refl
woken_clock v c (g ∷ gs) s = woken_clock v c gs (woken_by v s g)

fill_at_clock : (o : Option ℤ) (i : ℕ) (v : ℤ) (c : Clock) (s : State) → fill_at o i v (with_clock c s) ≡ with_clock c (fill_at o i v s)
fill_at_clock (Some w) i v c s = refl
fill_at_clock None i v c s = woken_clock v c (waiting_on i s.cells) (noting (entry.Fill i v) (record s { cells = filled i v s.cells }))

fill_clock : (i : ℕ) (v : ℤ) (c : Clock) (s : State) → fill i v (with_clock c s) ≡ with_clock c (fill i v s)
fill_clock i v c s = fill_at_clock (number_at i s) i v c s

same_clock : (i : ℕ) (v : ℤ) (s : State) → (fill i v s).clock ≡ s.clock
same_clock i v s = ap (λ (t : State). t.clock) (fill_clock i v s.clock s)

fills_clock : (v : ℤ) (is : List ℕ) (s : State) → (fold (filled_with v) s is).clock ≡ s.clock
fills_clock v [] s = refl
fills_clock v (i ∷ is) s = fills_clock v is (fill i v s) ∙ same_clock i v s

pushed_recount : (ctx : Ctx) (task : Task) (q : Queues Task) → with_job ctx task (recounted q) ≡ recounted (with_job ctx task q)
pushed_recount ctx task q = by ctx.low
  where
    job : Job Task
    job = record { no = q.next; ctx = ctx; frame = task }

    by : (b : Bool) → cond b (record (recounted q) { low = q.low ++ job ∷ []; next = q.next + 1 })
        (record (recounted q) { normal = q.normal ++ job ∷ []; next = q.next + 1 })
        ≡ recounted (cond b (record q { low = q.low ++ job ∷ []; next = q.next + 1 }) (record q { normal = q.normal ++ job ∷ []; next = q.next + 1 }))
    by true = refl
    by false = refl

woken_one : (v : ℤ) (g : Registration Frame) (s : State) → woken_by v (with_recount s) g ≡ with_recount (woken_by v s g)
woken_one v g s =
    ap (λ q. noting (entry.Enq s.queues.next g.ctx.low) (record s { queues = q })) (pushed_recount g.ctx (record { frame = g.frame; value = Some v }) s.queues)

woken_recount : (v : ℤ) (gs : List (Registration Frame)) (s : State)
    → fold (woken_by v) (with_recount s) gs ≡ with_recount (fold (woken_by v) s gs)
woken_recount v [] s = refl
woken_recount v (g ∷ gs) s = ap (λ t. fold (woken_by v) t gs) (woken_one v g s) ∙ woken_recount v gs (woken_by v s g)

fill_at_recount : (o : Option ℤ) (i : ℕ) (v : ℤ) (s : State) → fill_at o i v (with_recount s) ≡ with_recount (fill_at o i v s)
fill_at_recount (Some w) i v s = refl
fill_at_recount None i v s = woken_recount v (waiting_on i s.cells) (noting (entry.Fill i v) (record s { cells = filled i v s.cells }))

fills_recount : (v : ℤ) (is : List ℕ) (s : State) → fold (filled_with v) (with_recount s) is ≡ with_recount (fold (filled_with v) s is)
fills_recount v [] s = refl
fills_recount v (i ∷ is) s = ap (λ t. fold (filled_with v) t is) (fill_at_recount (number_at i s) i v s) ∙ fills_recount v is (fill i v s)

-- ---- yields
fill_first : (s : State) (is : List ℕ) (i : ℕ) → first_of is ≡ Some i
    → fold (filled_with (pos 0)) (fill i (pos 0) s) (rest_of is) ≡ fold (filled_with (pos 0)) s is
fill_first s [] i h = absurd (cc)
fill_first s (j ∷ is) i h = let same : j ≡ i = cc in ap (λ k. fold (filled_with (pos 0)) (fill k (pos 0) s) is) (sym same)

pub yield_next : (s : State) (i : ℕ) → first_yield s ≡ Some i → yields_filled (fill i (pos 0) (without_yield s)) ≡ yields_filled s
yield_next s i h =
    let c : Clock = without_yields s.clock
    in ap yields_filled (fill_clock i (pos 0) (yield_taken s.clock) s)
    ∙ ap (λ t. fold (filled_with (pos 0)) t (rest_of s.clock.yields)) (sym (fill_clock i (pos 0) c s))
    ∙ fill_first (with_clock c s) s.clock.yields i h

none_first : (is : List ℕ) → first_of is ≡ None → is ≡ []
none_first [] h = refl
none_first (i ∷ is) h = absurd (cc)

pub yields_end : (s : State) → first_yield s ≡ None → yields_filled s ≡ s
yields_end s h =
    let e = none_first s.clock.yields h
    in ap (λ is. fold (filled_with (pos 0)) (with_clock (without_yields s.clock) s) is) e
    ∙ ap (λ is. record s { clock = record s.clock { yields = is } }) (sym e)

shorter : (is : List ℕ) (i : ℕ) → first_of is ≡ Some i → length (rest_of is) < length is
shorter [] i h = absurd (cc)
shorter (j ∷ is) i h = omega arith

pub fewer_yields : (s : State) (i : ℕ) → first_yield s ≡ Some i → length (fill i (pos 0) (without_yield s)).clock.yields < length s.clock.yields
fewer_yields s i h =
    let e : length (fill i (pos 0) (without_yield s)).clock.yields ≡ length (rest_of s.clock.yields) =
    ap (λ (c : Clock). length c.yields) (same_clock i (pos 0) (without_yield s))
    in let f = shorter s.clock.yields i h in omega (arith, e, f)

pub yield_fits : (s : State) (i : ℕ) (f : FitsSome s) → Grows f.program s (fill i (pos 0) (without_yield s))
yield_fits s i f =
    let one = clock_set_grows f.program (yield_taken s.clock) s f.fits
    (record {
      yields = rest_all (λ k. k < length s.cells.ivars) s.clock.yields f.fits.clock.yields;
      alarms = f.fits.clock.alarms;
      numbered = f.fits.clock.numbered;
      few = f.fits.clock.few;
    })
    in then_grows f.program s (without_yield s) (fill i (pos 0) (without_yield s)) one (fill_grows f.program i (pos 0) (without_yield s) one.fits)

pub yield_grows : (program : List NumProc) (s : State) → Fits program s → Grows program s (with_yield s)
yield_grows program s f =
    let one = ivar_grows program s f
    in let n : ℕ = length (with_ivar s).cells.ivars
    in then_grows program s (with_ivar s) (with_yield s) one
    (clock_set_grows program (clock.with_yield (length s.cells.ivars) s.clock) (with_ivar s) one.fits
    (record {
      yields = all_push (λ i. i < n) s.clock.yields (length s.cells.ivars) one.fits.clock.yields (omega (arith, drawn_one s));
      alarms = one.fits.clock.alarms;
      numbered = one.fits.clock.numbered;
      few = one.fits.clock.few;
    }))

first_below : (n : ℕ) (is : List ℕ) (i : ℕ) → AllByRecursion (λ k. k < n) is → first_of is ≡ Some i → i < n
first_below n [] i h e = absurd (cc)
first_below n (j ∷ is) i h e = let same : j ≡ i = cc in subst (λ k. k < n) same h.0

pub yield_drawn : (s : State) (i : ℕ) → FitsSome s → first_yield s ≡ Some i → i < length s.cells.ivars
yield_drawn s i f e = first_below (length s.cells.ivars) s.clock.yields i f.fits.clock.yields e

-- ---- alarms
abbrev pub DueLaw : Type 0
DueLaw = (ivars : List ℕ) (c after : Clock) (high : ℕ) → AreNumbered number_of 0 high c.alarms
    → DueGives ivars c after ↔ ((ivars ≡ due_ivars c) × (after ≡ without_due c))

fills_alarms : (alarms : List Alarm) (s : State) → fold alarm_filled s alarms ≡ fold (filled_with (pos 0)) s (map (λ a. a.ivar) alarms)
fills_alarms [] s = refl
fills_alarms (a ∷ alarms) s = fills_alarms alarms (alarm_filled s a)

due_filled : (s : State) → alarms_filled s ≡ fold (filled_with (pos 0)) (with_clock (without_due s.clock) s) (due_ivars s.clock)
due_filled s = fills_alarms (due_alarms s.clock) (with_clock (without_due s.clock) s)

numbered_without : (o : Option Alarm) (c : Clock) (high : ℕ) → AreNumbered number_of 0 high c.alarms → AreNumbered number_of 0 high (without_this o c).alarms
numbered_without None c high n = n
numbered_without (Some a) c high n = numbered_filtered number_of (is_other_alarm a.no) 0 high c.alarms n

-- what is due behind the first, and what is left at the end
record Behind (c : Clock) (i : ℕ) : Type 0 where
  rest : List ℕ
  all : due_ivars c ≡ i ∷ rest
  behind : rest ≡ due_ivars (due_taken c)
  left : without_due c ≡ without_due (due_taken c)

behind_by : (law : DueLaw) (c : Clock) (high : ℕ) (i : ℕ) → AreNumbered number_of 0 high c.alarms → ivar_of (first_of (due_alarms c)) ≡ Some i
    → (is : List ℕ) → is ≡ due_ivars c → DueGives is c (without_due c) → Behind c i
behind_by law c high i n h [] e g = let none : Some i ≡ None = sym h ∙ g.0 in absurd (cc)
behind_by law c high i n h (j ∷ js) e g =
    let one : Some i ≡ Some j = sym h ∙ g.0
    in let same : j ≡ i = cc
    in let q = (law js (due_taken c) (without_due c) high (numbered_without (first_of (due_alarms c)) c high n)).0 g.1
    in record { rest = js; all = sym e ∙ ap (λ k. k ∷ js) same; behind = q.0; left = q.1 }

behind : (law : DueLaw) (c : Clock) (high : ℕ) (i : ℕ) → AreNumbered number_of 0 high c.alarms → ivar_of (first_of (due_alarms c)) ≡ Some i → Behind c i
behind law c high i n h = behind_by law c high i n h (due_ivars c) refl ((law (due_ivars c) c (without_due c) high n).1 (refl, refl))

pub alarm_next : (law : DueLaw) (s : State) (i : ℕ) (f : FitsSome s) → first_due s ≡ Some i → alarms_filled (fill i (pos 0) (without_alarm s)) ≡ alarms_filled s
alarm_next law s i f h =
    let b = behind law s.clock s.clock.next i f.fits.clock.numbered h
    in let c : Clock = without_due s.clock
    in ap alarms_filled (fill_clock i (pos 0) (due_taken s.clock) s)
    ∙ due_filled (with_clock (due_taken s.clock) (fill i (pos 0) s))
    ∙ ap (λ d. fold (filled_with (pos 0)) (with_clock d (fill i (pos 0) s)) (due_ivars (due_taken s.clock))) (sym b.left)
    ∙ ap (λ t. fold (filled_with (pos 0)) t (due_ivars (due_taken s.clock))) (sym (fill_clock i (pos 0) c s))
    ∙ ap (λ is. fold (filled_with (pos 0)) (fill i (pos 0) (with_clock c s)) is) (sym b.behind)
    ∙ ap (λ is. fold (filled_with (pos 0)) (with_clock c s) is) (sym b.all)
    ∙ sym (due_filled s)

ended_by : (c : Clock) (is : List ℕ) → is ≡ due_ivars c → ivar_of (first_of (due_alarms c)) ≡ None → DueGives is c (without_due c)
    → (due_ivars c ≡ []) × (without_due c ≡ c)
ended_by c [] e h g = (sym e, g.1)
ended_by c (j ∷ js) e h g = let none : None ≡ Some j = sym h ∙ g.0 in absurd (cc)

pub alarms_end : (law : DueLaw) (s : State) → FitsSome s → first_due s ≡ None → alarms_filled s ≡ s
alarms_end law s f h =
    let c : Clock = s.clock
    in let q = ended_by c (due_ivars c) refl h ((law (due_ivars c) c (without_due c) c.next f.fits.clock.numbered).1 (refl, refl))
    in due_filled s
    ∙ ap (λ is. fold (filled_with (pos 0)) (with_clock (without_due c) s) is) q.0
    ∙ ap (λ d. with_clock d s) q.1

none_taken : (o : Option Alarm) (c : Clock) → ivar_of o ≡ None → without_this o c ≡ c
none_taken None c h = refl
none_taken (Some a) c h = absurd (cc)

-- where no alarm is due, none is taken
pub alarms_over : (law : DueLaw) (s : State) → FitsSome s → first_due s ≡ None → without_alarm s ≡ alarms_filled s
alarms_over law s f h = ap (λ c. with_clock c s) (none_taken (first_of (due_alarms s.clock)) s.clock h) ∙ sym (alarms_end law s f h)

pub fewer_due : (law : DueLaw) (s : State) (i : ℕ) → FitsSome s → first_due s ≡ Some i
    → length (due_ivars (fill i (pos 0) (without_alarm s)).clock) < length (due_ivars s.clock)
fewer_due law s i f h =
    let b = behind law s.clock s.clock.next i f.fits.clock.numbered h
    in let e : length (due_ivars (fill i (pos 0) (without_alarm s)).clock) ≡ length b.rest =
    ap (λ (c : Clock). length (due_ivars c)) (same_clock i (pos 0) (without_alarm s)) ∙ ap length (sym b.behind)
    in let all : length (due_ivars s.clock) ≡ suc (length b.rest) = ap length b.all
    in omega (arith, e, all)

alarm_taken_fits : (o : Option Alarm) (s : State) (f : FitsSome s) → ClockFits (drawn s) (without_this o s.clock)
alarm_taken_fits None s f = f.fits.clock
alarm_taken_fits (Some a) s f = fewer_alarms (drawn s) (is_other_alarm a.no) s.clock f.fits.clock

pub alarm_fits : (s : State) (i : ℕ) (f : FitsSome s) → Grows f.program s (fill i (pos 0) (without_alarm s))
alarm_fits s i f =
    let one = clock_set_grows f.program (due_taken s.clock) s f.fits (alarm_taken_fits (first_of (due_alarms s.clock)) s f)
    in then_grows f.program s (without_alarm s) (fill i (pos 0) (without_alarm s)) one (fill_grows f.program i (pos 0) (without_alarm s) one.fits)

-- a first one that is due is one of all
all_inserted : (P : Alarm → Type 0) (a : Alarm) (alarms : List Alarm) → P a → AllByRecursion P alarms → AllByRecursion P (insert_alarm a alarms)
all_inserted P a [] p h = (p, tt)
all_inserted P a (b ∷ alarms) p h = by (int_lt a.time b.time) (all_inserted P a alarms p h.1)
  where
    by : (t : Bool) → AllByRecursion P (insert_alarm a alarms) → AllByRecursion P (cond t (a ∷ b ∷ alarms) (b ∷ insert_alarm a alarms))
    by true q = (p, h)
    by false q = (h.0, q)

all_ordered : (P : Alarm → Type 0) (alarms done : List Alarm) → AllByRecursion P done → AllByRecursion P alarms
    → AllByRecursion P (fold inserted done alarms)
all_ordered P [] done d h = d
all_ordered P (a ∷ alarms) done d h = all_ordered P alarms (insert_alarm a done) (all_inserted P a done h.0 d) h.1

first_alarm : (n : ℕ) (alarms : List Alarm) (i : ℕ) → AllByRecursion (λ (a : Alarm). a.ivar < n) alarms → ivar_of (first_of alarms) ≡ Some i → i < n
first_alarm n [] i h e = absurd (cc)
first_alarm n (a ∷ alarms) i h e = let same : a.ivar ≡ i = cc in subst (λ k. k < n) same h.0

pub alarm_drawn : (s : State) (i : ℕ) → FitsSome s → first_due s ≡ Some i → i < length s.cells.ivars
alarm_drawn s i f e =
    first_alarm (length s.cells.ivars) (due_alarms s.clock) i
    (all_ordered (λ (a : Alarm). a.ivar < length s.cells.ivars) (filter (is_due s.clock.time) s.clock.alarms) [] tt
    (fewer_alarms (drawn s) (is_due s.clock.time) s.clock f.fits.clock).alarms) e

-- ---- the clock with mapped names
pub first_mapped : (f : ℕ → ℕ) (is : List ℕ) → option_map f (first_of is) ≡ first_of (map f is)
first_mapped f [] = refl
first_mapped f (i ∷ is) = refl

rest_mapped : (f : ℕ → ℕ) (is : List ℕ) → map f (rest_of is) ≡ rest_of (map f is)
rest_mapped f [] = refl
rest_mapped f (i ∷ is) = refl

pick_mapped : (f : ℕ → ℕ) (p : Alarm → Bool) → ((a : Alarm) → p (alarm_mapped f a) ≡ p a) → (alarms : List Alarm)
    → map (alarm_mapped f) (filter p alarms) ≡ filter p (map (alarm_mapped f) alarms)
pick_mapped f p e [] = refl
pick_mapped f p e (a ∷ alarms) =
    by (p a) (pick_mapped f p e alarms)
    ∙ ap (λ b. cond b (alarm_mapped f a ∷ filter p (map (alarm_mapped f) alarms)) (filter p (map (alarm_mapped f) alarms))) (sym (e a))
  where
    by : (b : Bool) → map (alarm_mapped f) (filter p alarms) ≡ filter p (map (alarm_mapped f) alarms)
        → map (alarm_mapped f) (cond b (a ∷ filter p alarms) (filter p alarms))
        ≡ cond b (alarm_mapped f a ∷ filter p (map (alarm_mapped f) alarms)) (filter p (map (alarm_mapped f) alarms))
    by true r = ap (λ xs. alarm_mapped f a ∷ xs) r
    by false r = r

insert_mapped : (f : ℕ → ℕ) (a : Alarm) (alarms : List Alarm)
    → map (alarm_mapped f) (insert_alarm a alarms) ≡ insert_alarm (alarm_mapped f a) (map (alarm_mapped f) alarms)
insert_mapped f a [] = refl
insert_mapped f a (b ∷ alarms) = by (int_lt a.time b.time) (insert_mapped f a alarms)
  where
    by : (t : Bool) → map (alarm_mapped f) (insert_alarm a alarms) ≡ insert_alarm (alarm_mapped f a) (map (alarm_mapped f) alarms)
        → map (alarm_mapped f) (cond t (a ∷ b ∷ alarms) (b ∷ insert_alarm a alarms))
        ≡ cond t (alarm_mapped f a ∷ alarm_mapped f b ∷ map (alarm_mapped f) alarms)
        (alarm_mapped f b ∷ insert_alarm (alarm_mapped f a) (map (alarm_mapped f) alarms))
    by true r = refl
    by false r = ap (λ xs. alarm_mapped f b ∷ xs) r

ordered_mapped : (f : ℕ → ℕ) (alarms done : List Alarm)
    → map (alarm_mapped f) (fold inserted done alarms) ≡ fold inserted (map (alarm_mapped f) done) (map (alarm_mapped f) alarms)
ordered_mapped f [] done = refl
ordered_mapped f (a ∷ alarms) done =
    ordered_mapped f alarms (insert_alarm a done) ∙ ap (λ d. fold inserted d (map (alarm_mapped f) alarms)) (insert_mapped f a done)

due_mapped : (f : ℕ → ℕ) (c : Clock) → map (alarm_mapped f) (due_alarms c) ≡ due_alarms (clock_mapped f c)
due_mapped f c = ordered_mapped f (filter (is_due c.time) c.alarms) [] ∙ ap by_time (pick_mapped f (is_due c.time) (λ a. refl) c.alarms)

first_due_by : (f : ℕ → ℕ) (alarms : List Alarm) → option_map f (ivar_of (first_of alarms)) ≡ ivar_of (first_of (map (alarm_mapped f) alarms))
first_due_by f [] = refl
first_due_by f (a ∷ alarms) = refl

pub first_due_mapped : (f : ℕ → ℕ) (c : Clock) → option_map f (ivar_of (first_of (due_alarms c))) ≡ ivar_of (first_of (due_alarms (clock_mapped f c)))
first_due_mapped f c = first_due_by f (due_alarms c) ∙ ap (λ xs. ivar_of (first_of xs)) (due_mapped f c)

without_mapped : (f : ℕ → ℕ) (alarms : List Alarm) (c : Clock)
    → clock_mapped f (without_this (first_of alarms) c) ≡ without_this (first_of (map (alarm_mapped f) alarms)) (clock_mapped f c)
without_mapped f [] c = refl
without_mapped f (a ∷ alarms) c = ap (λ xs. record (clock_mapped f c) { alarms = xs }) (pick_mapped f (is_other_alarm a.no) (λ b. refl) c.alarms)

taken_mapped : (f : ℕ → ℕ) (c : Clock) → clock_mapped f (due_taken c) ≡ due_taken (clock_mapped f c)
taken_mapped f c = without_mapped f (due_alarms c) c ∙ ap (λ xs. without_this (first_of xs) (clock_mapped f c)) (due_mapped f c)

-- ---- the state with another clock
seen_clock : (cells : NamedCells Frame) (q : Queues Task) (t : List Entry) (lists : State) (c c' : Clock)
    → clock_mapped (name_in (trimmed cells.names)) c ≡ c'
    → seen cells q t (record lists { clock = c }) ≡ doing (with_clock c') (seen cells q t lists)
seen_clock cells q t lists c c' e =
    ap (λ x. seen_as (trimmed cells.names) (record (state_named (name_in (trimmed cells.names)) (raw_state cells q t lists)) { clock = x })) e

pub seen_awaiting : (cells : NamedCells Frame) (q : Queues Task) (t : List Entry) (lists : State) (i : ℕ)
    → seen cells q t (record lists { clock = clock.with_yield i lists.clock })
    ≡ doing (awaiting_cycle (name_in (trimmed cells.names) i)) (seen cells q t lists)
seen_awaiting cells q t lists i =
    let f : ℕ → ℕ = name_in (trimmed cells.names)
    in seen_clock cells q t lists (clock.with_yield i lists.clock) _
    (ap (λ is. record (clock_mapped f lists.clock) { yields = is }) (map-append f lists.clock.yields (i ∷ [])))

pub seen_yield : (cells : NamedCells Frame) (q : Queues Task) (t : List Entry) (lists : State)
    → seen cells q t (record lists { clock = yield_taken lists.clock }) ≡ doing without_yield (seen cells q t lists)
seen_yield cells q t lists =
    let f : ℕ → ℕ = name_in (trimmed cells.names)
    in seen_clock cells q t lists (yield_taken lists.clock) _
    (ap (λ is. record (clock_mapped f lists.clock) { yields = is }) (rest_mapped f lists.clock.yields))

pub seen_due : (cells : NamedCells Frame) (q : Queues Task) (t : List Entry) (lists : State)
    → seen cells q t (record lists { clock = due_taken lists.clock }) ≡ doing without_alarm (seen cells q t lists)
seen_due cells q t lists =
    seen_clock cells q t lists (due_taken lists.clock) _ (taken_mapped (name_in (trimmed cells.names)) lists.clock)

-- ---- alarms that are set and aborted
found_by : (f : ℕ → ℕ) (b : Bool) (a : Alarm) (o o' : Option Alarm) → option_map (alarm_mapped f) o ≡ o'
    → option_map (alarm_mapped f) (cond b (Some a) o) ≡ cond b (Some (alarm_mapped f a)) o'
found_by f true a o o' e = refl
found_by f false a o o' e = e

found_mapped : (f : ℕ → ℕ) (e : ℕ) (alarms : List Alarm)
    → option_map (alarm_mapped f) (find (is_alarm e) alarms) ≡ find (is_alarm e) (map (alarm_mapped f) alarms)
found_mapped f e [] = refl
found_mapped f e (a ∷ alarms) =
    found_by f (is_alarm e a) a (find (is_alarm e) alarms) (find (is_alarm e) (map (alarm_mapped f) alarms)) (found_mapped f e alarms)

ivar_mapped : (f : ℕ → ℕ) (o : Option Alarm) → option_map f (ivar_of o) ≡ ivar_of (option_map (alarm_mapped f) o)
ivar_mapped f None = refl
ivar_mapped f (Some a) = refl

pub pending_mapped : (f : ℕ → ℕ) (e : ℕ) (c : Clock) → option_map f (ivar_of (alarm_of e c)) ≡ ivar_of (alarm_of e (clock_mapped f c))
pending_mapped f e c = ivar_mapped f (alarm_of e c) ∙ ap ivar_of (found_mapped f e c.alarms)

this_mapped : (f : ℕ → ℕ) (o : Option Alarm) (c : Clock)
    → clock_mapped f (without_this o c) ≡ without_this (option_map (alarm_mapped f) o) (clock_mapped f c)
this_mapped f None c = refl
this_mapped f (Some a) c = ap (λ xs. record (clock_mapped f c) { alarms = xs }) (pick_mapped f (is_other_alarm a.no) (λ b. refl) c.alarms)

pub seen_aborted : (cells : NamedCells Frame) (q : Queues Task) (t : List Entry) (lists : State) (e : ℕ)
    → seen cells q t (record lists { clock = without_this (alarm_of e lists.clock) lists.clock }) ≡ doing (without_event e) (seen cells q t lists)
seen_aborted cells q t lists e =
    let f : ℕ → ℕ = name_in (trimmed cells.names)
    in seen_clock cells q t lists (without_this (alarm_of e lists.clock) lists.clock) _
    (this_mapped f (alarm_of e lists.clock) lists.clock
    ∙ ap (λ o. without_this o (clock_mapped f lists.clock)) (found_mapped f e lists.clock.alarms))

pub seen_alarm : (cells : NamedCells Frame) (q : Queues Task) (t : List Entry) (lists : State) (time : ℤ) (i : ℕ)
    → seen cells q t (record lists { clock = clock.with_alarm time i lists.clock })
    ≡ doing (with_alarm_for time (name_in (trimmed cells.names) i)) (seen cells q t lists)
seen_alarm cells q t lists time i =
    let f : ℕ → ℕ = name_in (trimmed cells.names)
    in seen_clock cells q t lists (clock.with_alarm time i lists.clock) _
    (ap (λ xs. record (clock_mapped f lists.clock) { alarms = xs; next = lists.clock.next + 1 })
    (map-append (alarm_mapped f) lists.clock.alarms (record { no = lists.clock.next; time = time; ivar = i } ∷ [])))

abort_by : (o : Option Alarm) (s : State) (i : ℕ) → ivar_of o ≡ Some i → fill i (pos 1) (with_clock (without_this o s.clock) s) ≡ aborted_at o s
abort_by None s i h = absurd (cc)
abort_by (Some a) s i h =
    let same : a.ivar ≡ i = cc in ap (λ k. fill k (pos 1) (with_clock (clock.without_alarm a.no s.clock) s)) (sym same)

-- a pending alarm is aborted, and one that is not pending stays as it is
pub abort_filled : (e : ℕ) (s : State) (i : ℕ) → pending e s ≡ Some i → fill i (pos 1) (without_event e s) ≡ abort e s
abort_filled e s i h = abort_by (alarm_of e s.clock) s i h

none_aborted : (o : Option Alarm) (s : State) → ivar_of o ≡ None → with_clock (without_this o s.clock) s ≡ aborted_at o s
none_aborted None s h = refl
none_aborted (Some a) s h = absurd (cc)

pub abort_none : (e : ℕ) (s : State) → pending e s ≡ None → without_event e s ≡ abort e s
abort_none e s h = none_aborted (alarm_of e s.clock) s h

found_drawn : (n : ℕ) (p : Alarm → Bool) (alarms : List Alarm) (i : ℕ) → AllByRecursion (λ (a : Alarm). a.ivar < n) alarms
    → ivar_of (find p alarms) ≡ Some i → i < n
found_drawn n p [] i h e = absurd (cc)
found_drawn n p (a ∷ alarms) i h e = by (p a) e (found_drawn n p alarms i h.1)
  where
    by : (b : Bool) → ivar_of (cond b (Some a) (find p alarms)) ≡ Some i → (ivar_of (find p alarms) ≡ Some i → i < n) → i < n
    by true q next = let same : a.ivar ≡ i = cc in subst (λ k. k < n) same h.0
    by false q next = next q

pub pending_drawn : (e : ℕ) (s : State) (i : ℕ) → FitsSome s → pending e s ≡ Some i → i < length s.cells.ivars
pending_drawn e s i f h = found_drawn (length s.cells.ivars) (is_alarm e) s.clock.alarms i f.fits.clock.alarms h

-- ---- what fits
numbered_push : (low high : ℕ) (alarms : List Alarm) (a : Alarm) → low ≤ a.no → high ≡ a.no → AreNumbered number_of low high alarms
    → AreNumbered number_of low (a.no + 1) (alarms ++ a ∷ [])
numbered_push low high [] a h e n = (h, omega arith, tt)
numbered_push low high (b ∷ alarms) a h e n =
    (n.0, omega (arith, n.1, e), numbered_push (b.no + 1) high alarms a (omega (arith, n.1, e)) e n.2)

pub alarm_grows : (program : List NumProc) (time : ℤ) (s : State) → Fits program s → Grows program s (with_alarm time s)
alarm_grows program time s f =
    let one = ivar_grows program s f
    in let t : State = with_ivar s
    in let a : Alarm = record { no = s.clock.next; time = time; ivar = length s.cells.ivars }
    in then_grows program s t (with_alarm time s) one
    (clock_set_grows program (clock.with_alarm time (length s.cells.ivars) s.clock) t one.fits
    (record {
      yields = one.fits.clock.yields;
      alarms = all_push (AlarmFits (drawn t)) s.clock.alarms a one.fits.clock.alarms (omega (arith, drawn_one s));
      numbered = numbered_push 0 s.clock.next s.clock.alarms a (omega arith) refl f.clock.numbered;
      few = omega (arith, drawn_one s, f.clock.few);
    }))

aborted_grows : (program : List NumProc) (o : Option Alarm) (s : State) → Fits program s → Grows program s (aborted_at o s)
aborted_grows program None s f = kept_grows program s f
aborted_grows program (Some a) s f =
    let c : Clock = clock.without_alarm a.no s.clock
    in let one = clock_set_grows program c s f (fewer_alarms (drawn s) (is_other_alarm a.no) s.clock f.clock)
    in then_grows program s (with_clock c s) (aborted_at (Some a) s) one (fill_grows program a.ivar (pos 1) (with_clock c s) one.fits)

pub abort_grows : (program : List NumProc) (e : ℕ) (s : State) → Fits program s → Grows program s (abort e s)
abort_grows program e s f = aborted_grows program (alarm_of e s.clock) s f

pub time_grows : (program : List NumProc) (time : ℤ) (s : State) → Fits program s → Grows program s (at_time time s)
time_grows program time s f =
    clock_set_grows program (clock.set_to time s.clock) s f
    (record { yields = f.clock.yields; alarms = f.clock.alarms; numbered = f.clock.numbered; few = f.clock.few })

-- ---- what is left to do
empty_mapped : {A B : Type 0} (f : A → B) (xs : List A) → is_empty_list xs ≡ is_empty_list (map f xs)
empty_mapped f [] = refl
empty_mapped f (x ∷ xs) = refl

has_due_mapped : (f : ℕ → ℕ) (c : Clock) → has_due c ≡ has_due (clock_mapped f c)
has_due_mapped f c =
    ap not (empty_mapped (alarm_mapped f) (filter (is_due c.time) c.alarms)
    ∙ ap is_empty_list (pick_mapped f (is_due c.time) (λ a. refl) c.alarms))

pub more_seen : (cells : NamedCells Frame) (q : Queues Task) (t : List Entry) (lists : State)
    → ((not (has_no_job q) || has_yield lists.clock) || has_due lists.clock) ≡ has_more (seen cells q t lists).plain
more_seen cells q t lists =
    let f : ℕ → ℕ = name_in (trimmed cells.names)
    in ap (λ b. (not b || has_yield lists.clock) || has_due lists.clock) (sym (no_job_mapped f q))
    ∙ ap (λ b. (not (has_no_job (seen cells q t lists).plain.queues) || not b) || has_due lists.clock) (empty_mapped f lists.clock.yields)
    ∙ ap (λ b. (not (has_no_job (seen cells q t lists).plain.queues) || has_yield (clock_mapped f lists.clock)) || b) (has_due_mapped f lists.clock)

-- ---- a cycle as a whole
none_early : (now : ℤ) (alarms : List Alarm) → filter (is_due now) (filter (is_early now) alarms) ≡ []
none_early now [] = refl
none_early now (a ∷ alarms) = by (is_due now a) refl (none_early now alarms)
  where
    by : (b : Bool) → is_due now a ≡ b → filter (is_due now) (filter (is_early now) alarms) ≡ []
        → filter (is_due now) (cond (not b) (a ∷ filter (is_early now) alarms) (filter (is_early now) alarms)) ≡ []
    by true e r = r
    by false e r = ap (λ b. cond b (a ∷ filter (is_due now) (filter (is_early now) alarms)) (filter (is_due now) (filter (is_early now) alarms))) e
        ∙ r

pub recount_last : (s : State) → with_recount (alarms_filled (yields_filled (noting entry.Cycle s))) ≡ cycle_begun s
recount_last s =
    let t : State = noting entry.Cycle s
    in let u : State = yields_filled t
    in let one : yields_filled (with_recount t) ≡ with_recount u = fills_recount (pos 0) t.clock.yields (with_clock (without_yields t.clock) t)
    in sym (ap alarms_filled one ∙ due_filled (with_recount u)
    ∙ fills_recount (pos 0) (due_ivars u.clock) (with_clock (without_due u.clock) u)
    ∙ ap with_recount (sym (due_filled u)))

more_none : (b : Bool) → not b ≡ ((not b || false) || false)
more_none true = refl
more_none false = refl

begun_clock : (s : State) → (alarms_filled (yields_filled s)).clock ≡ without_due (without_yields s.clock)
begun_clock s =
    let u : State = yields_filled s
    in ap (λ (t : State). t.clock) (due_filled u)
    ∙ fills_clock (pos 0) (due_ivars u.clock) (with_clock (without_due u.clock) u)
    ∙ ap without_due (fills_clock (pos 0) s.clock.yields (with_clock (without_yields s.clock) s))

-- nothing but jobs is left to do where a cycle has begun
pub more_begun : (s t : State) → t ≡ with_recount (alarms_filled (yields_filled (noting entry.Cycle s))) → not (has_no_job t.queues) ≡ has_more t
more_begun s t e =
    let c : Clock = without_yields s.clock
    in let k : t.clock ≡ without_due c = ap (λ (x : State). x.clock) e ∙ begun_clock (noting entry.Cycle s)
    in let due : has_due (without_due c) ≡ false = ap (λ xs. not (is_empty_list xs)) (none_early c.time c.alarms)
    in more_none (has_no_job t.queues)
    ∙ ap (λ b. (not (has_no_job t.queues) || false) || b) (sym due)
    ∙ ap (λ (d : Clock). (not (has_no_job t.queues) || has_yield d) || has_due d) (sym k)
