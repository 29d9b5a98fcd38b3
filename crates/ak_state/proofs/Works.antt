-- Works and helpers in the state that the parts stand for, and what fits as works come and go.
use Rattle.std.proofs.Common.{◌≡◌, ℕ, ◌+◌, ◌<◌, List, [], ◌∷◌, ◌++◌, length, map, filter, refl, ap, sym, ◌∙◌, subst, Bool, true, false, not, ◌&&◌, cond, arith}
use Rattle.std.specs.Prelude.{Option, Some, find, ◌==◌}
use Rattle.std.specs.Option.{option_map}
use Rattle.std.specs.List.{AllByRecursion, list_all}
use Rattle.std.proofs.lemmas.List.{map-append}
use Rattle.ak_base.proofs.Lists.{all_push}
use Rattle.ak_base.specs.Lists.{is_empty_list}
use Rattle.ak_base.specs.declared.number.Ctx.{Ctx}
use Rattle.ak_labor.specs.declared.work.Work.{Work}
use Rattle.ak_labor.specs.declared.work.Outcome.{Outcome}
use Rattle.ak_labor.specs.declared.work.Outcome.TheVariants.{Good, Bad}
use Rattle.ak_cells.specs.Names.{name_in, trimmed}
use Rattle.ak_cells.specs.Rooms.{NamedCells}
use Rattle.ak_frames.specs.declared.frame.Frame.{Frame}
use Rattle.ak_frames.specs.declared.frame.Task.{Task}
use Rattle.ak_rings.specs.Queues.{Queues}
use Rattle.ak_trace.specs.declared.entry.Entry.{Entry}
use Rattle.ak_trace.specs.declared.entry.Entry.TheVariants as entry
use Rattle.ak_program.specs.declared.program.NumProc.{NumProc}
use Rattle.ak_machine.specs.declared.held.Outstanding.{Outstanding}
use Rattle.ak_machine.specs.State.{State, next_ivar}
use Rattle.ak_machine.specs.Deferred.{noting, with_ivar}
use Rattle.ak_machine.specs.Mapped.{outstanding_mapped, state_named}
use Rattle.ak_machine.specs.Cycle.{is_work, is_other_work, is_general, outcome_given}
use Rattle.ak_state.specs.Seen.{Seen, seen, doing, raw_state}
use Rattle.ak_state.specs.Drawn.{Drawn, drawn}
use Rattle.ak_state.specs.Fits.{WorkFits, Fits, FitsSome}
use Rattle.ak_state.specs.Arrivals.{with_submit, with_work_for, without_work}
use Rattle.ak_state.proofs.Stands.{seen_as}
use Rattle.ak_state.proofs.Fitting.{Grows, same_more, then_grows, fill_grows, ivar_grows, drawn_one, all_filter}
use Rattle.ak_state.proofs.Errors.{send_grows}

-- ---- the state that is seen, with other works
seen_works : (cells : NamedCells Frame) (q : Queues Task) (t : List Entry) (lists : State) (works : List Outstanding) (next : ℕ) (s : State)
    → map (outstanding_mapped (name_in (trimmed cells.names))) works ≡ s.works → next ≡ s.next_work
    → s ≡ record (seen cells q t lists).plain { works = s.works; next_work = s.next_work }
    → seen cells q t (record lists { works = works; next_work = next }) ≡ seen_as (trimmed cells.names) s
seen_works cells q t lists works next s e n same =
    let f : ℕ → ℕ = name_in (trimmed cells.names)
    in let p : State = state_named f (raw_state cells q t lists)
    in ap (λ (ws : List Outstanding). seen_as (trimmed cells.names) (record p { works = ws; next_work = next })) e
    ∙ ap (λ (k : ℕ). seen_as (trimmed cells.names) (record p { works = s.works; next_work = k })) n
    ∙ ap (seen_as (trimmed cells.names)) (sym same)

pub seen_handed_in : (cells : NamedCells Frame) (q : Queues Task) (t : List Entry) (lists : State) (ctx : Ctx) (to : ℕ) (helper : Option ℕ)
    → seen cells q t (record lists {
      works = lists.works ++ record { number = lists.next_work; to = to; ctx = ctx; helper = helper } ∷ [];
      next_work = lists.next_work + 1;
    }) ≡ doing (with_work_for ctx (name_in (trimmed cells.names) to) helper) (seen cells q t lists)
seen_handed_in cells q t lists ctx to helper =
    let f : ℕ → ℕ = name_in (trimmed cells.names)
    in let new : Outstanding = record { number = lists.next_work; to = to; ctx = ctx; helper = helper }
    in seen_works cells q t lists (lists.works ++ new ∷ []) (lists.next_work + 1)
    (with_work_for ctx (f to) helper (seen cells q t lists).plain)
    (map-append (outstanding_mapped f) lists.works (new ∷ [])) refl refl

-- ---- a work that is taken
found_mapped : (f : ℕ → ℕ) (w : ℕ) (works : List Outstanding)
    → find (is_work w) (map (outstanding_mapped f) works) ≡ option_map (outstanding_mapped f) (find (is_work w) works)
found_mapped f w [] = refl
found_mapped f w (work ∷ works) = by (work.number == w) (found_mapped f w works)
  where
    by : (b : Bool) → find (is_work w) (map (outstanding_mapped f) works) ≡ option_map (outstanding_mapped f) (find (is_work w) works)
        → cond b (Some (outstanding_mapped f work)) (find (is_work w) (map (outstanding_mapped f) works))
        ≡ option_map (outstanding_mapped f) (cond b (Some work) (find (is_work w) works))
    by true e = refl
    by false e = e

pub found_seen : (f : ℕ → ℕ) (w : ℕ) (works : List Outstanding)
    → option_map (outstanding_mapped f) (find (is_work w) works) ≡ find (is_work w) (map (outstanding_mapped f) works)
found_seen f w works = sym (found_mapped f w works)

others_mapped : (f : ℕ → ℕ) (w : ℕ) (works : List Outstanding)
    → map (outstanding_mapped f) (filter (is_other_work w) works) ≡ filter (is_other_work w) (map (outstanding_mapped f) works)
others_mapped f w [] = refl
others_mapped f w (work ∷ works) = by (not (work.number == w)) (others_mapped f w works)
  where
    by : (b : Bool) → map (outstanding_mapped f) (filter (is_other_work w) works) ≡ filter (is_other_work w) (map (outstanding_mapped f) works)
        → map (outstanding_mapped f) (cond b (work ∷ filter (is_other_work w) works) (filter (is_other_work w) works))
        ≡ cond b (outstanding_mapped f work ∷ filter (is_other_work w) (map (outstanding_mapped f) works))
        (filter (is_other_work w) (map (outstanding_mapped f) works))
    by true e = ap (λ ws. outstanding_mapped f work ∷ ws) e
    by false e = e

pub seen_taken_work : (cells : NamedCells Frame) (q : Queues Task) (t : List Entry) (lists : State) (w : ℕ)
    → seen cells q t (record lists { works = filter (is_other_work w) lists.works; next_work = lists.next_work })
    ≡ doing (without_work w) (seen cells q t lists)
seen_taken_work cells q t lists w =
    let f : ℕ → ℕ = name_in (trimmed cells.names)
    in seen_works cells q t lists (filter (is_other_work w) lists.works) lists.next_work (without_work w (seen cells q t lists).plain)
    (others_mapped f w lists.works) refl refl

-- ---- what the works say to a cycle's end
pub empty_mapped : (f : ℕ → ℕ) (works : List Outstanding) → is_empty_list (map (outstanding_mapped f) works) ≡ is_empty_list works
empty_mapped f [] = refl
empty_mapped f (work ∷ works) = refl

pub general_mapped : (f : ℕ → ℕ) (works : List Outstanding) → list_all is_general (map (outstanding_mapped f) works) ≡ list_all is_general works
general_mapped f [] = refl
general_mapped f (work ∷ works) = ap (λ b. is_general work && b) (general_mapped f works)

-- ---- what fits
handed_in_grows : (program : List NumProc) (ctx : Ctx) (to : ℕ) (helper : Option ℕ) (s : State) → ctx.mon < length s.monitors
    → to < length s.cells.ivars → Fits program s → Grows program s (with_work_for ctx to helper s)
handed_in_grows program ctx to helper s mon drawn_to f = record {
  more = same_more (drawn s);
  fits = record {
    root = f.root;
    handlers = f.handlers;
    normal = f.normal;
    low = f.low;
    monitors = f.monitors;
    purposes = f.purposes;
    clock = f.clock;
    throttles = f.throttles;
    pipes = f.pipes;
    works =
        all_push (WorkFits (drawn s)) s.works (record { number = s.next_work; to = to; ctx = ctx; helper = helper }) f.works
        (record { monitor = mon; result = drawn_to });
  };
}

pub submit_grows : (program : List NumProc) (ctx : Ctx) (work : Work) (helper : Option ℕ) (s : State) → ctx.mon < length s.monitors → Fits program s
    → Grows program s (with_submit ctx work helper s)
submit_grows program ctx work helper s mon f =
    let one = ivar_grows program s f
    in let two = handed_in_grows program ctx (next_ivar s) helper (with_ivar s) mon (omega (arith, drawn_one s)) one.fits
    in then_grows program s (with_ivar s) (with_submit ctx work helper s) one (record { more = two.more; fits = two.fits })

pub taken_grows : (program : List NumProc) (w : ℕ) (s : State) → Fits program s → Grows program s (without_work w s)
taken_grows program w s f = record {
  more = same_more (drawn s);
  fits = record {
    root = f.root;
    handlers = f.handlers;
    normal = f.normal;
    low = f.low;
    monitors = f.monitors;
    purposes = f.purposes;
    clock = f.clock;
    throttles = f.throttles;
    pipes = f.pipes;
    works = all_filter (WorkFits (drawn s)) (is_other_work w) s.works f.works;
  };
}

-- the work of a number fits
pub found_fits : (n : Drawn) (w : ℕ) (works : List Outstanding) (work : Outstanding) → find (is_work w) works ≡ Some work → AllByRecursion (WorkFits n) works
    → WorkFits n work
found_fits n w [] work e f = absurd (cc)
found_fits n w (x ∷ works) work e f = by (x.number == w) e (λ k. found_fits n w works work k f.1)
  where
    by : (b : Bool) → cond b (Some x) (find (is_work w) works) ≡ Some work → (find (is_work w) works ≡ Some work → WorkFits n work) → WorkFits n work
    by true k r = let same : x ≡ work = cc in subst (WorkFits n) same f.0
    by false k r = r k

outcome_grows : (program : List NumProc) (outcome : Outcome) (work : Outstanding) (s : State) → Fits program s
    → Grows program s (outcome_given outcome work s).state
outcome_grows program (Good v) work s f = fill_grows program work.to v s f
outcome_grows program (Bad e) work s f = send_grows program work.ctx.mon e s f

pub arrival_grows : (program : List NumProc) (w : ℕ) (outcome : Outcome) (work : Outstanding) (s : State) → Fits program s
    → Grows program s (outcome_given outcome work (noting (entry.Arrive w outcome) (without_work w s))).state
arrival_grows program w outcome work s f =
    let one = taken_grows program w s f
    in let t : State = noting (entry.Arrive w outcome) (without_work w s)
    in then_grows program s t (outcome_given outcome work t).state (record { more = one.more; fits = one.fits })
    (outcome_grows program outcome work t one.fits)

-- ---- a work that was taken, behind its entry
module _ (s t u : Seen) (w : ℕ) (outcome : Outcome) where
  arriving_is : t ≡ doing (without_work w) s → u ≡ doing (noting (entry.Arrive w outcome)) t
      → u ≡ doing (noting (entry.Arrive w outcome)) (doing (without_work w) s)
  arriving_is e f = f ∙ ap (doing (noting (entry.Arrive w outcome))) e

  pub arriving_fits : FitsSome s.plain → t ≡ doing (without_work w) s → u ≡ doing (noting (entry.Arrive w outcome)) t → FitsSome u.plain
  arriving_fits h e f =
      subst (λ (x : Seen). FitsSome x.plain) (sym (arriving_is e f))
      (record { program = h.program; fits = (taken_grows h.program w s.plain h.fits).fits })

  module _ (work : Outstanding) (h : FitsSome s.plain) (there : Some (outstanding_mapped (name_in s.names) work) ≡ find (is_work w) s.plain.works) where
    arriving_work : WorkFits (drawn s.plain) (outstanding_mapped (name_in s.names) work)
    arriving_work = found_fits (drawn s.plain) w s.plain.works (outstanding_mapped (name_in s.names) work) (sym there) h.fits.works

    pub arriving_to : t ≡ doing (without_work w) s → u ≡ doing (noting (entry.Arrive w outcome)) t
        → name_in u.names work.to < length u.plain.cells.ivars
    arriving_to e f =
        subst (λ (x : Seen). name_in x.names work.to < length x.plain.cells.ivars) (sym (arriving_is e f)) arriving_work.result

    pub arriving_in : t ≡ doing (without_work w) s → u ≡ doing (noting (entry.Arrive w outcome)) t → work.ctx.mon < length u.plain.monitors
    arriving_in e f =
        subst (λ (x : Seen). work.ctx.mon < length x.plain.monitors) (sym (arriving_is e f)) arriving_work.monitor
