-- What comes to a body that has started, and deferreds and dropped bodies that are taken one at a time.
use Rattle.std.proofs.Common.{◌≡◌, ℕ, ℤ, zero, suc, ◌<◌, List, [], ◌∷◌, length, map, fold, refl, ap, sym, ◌∙◌, subst, arith, Bool, true, false, cond}
use Rattle.std.specs.Prelude.{pos, ◌↔◌, Option, Some, None, filter, slice_set, slice_index_or, IfSome}
use Rattle.std.specs.Option.{option_map}
use Rattle.std.specs.List.{AllByRecursion}
use Rattle.std.proofs.lemmas.List.{get_or-set_same, set-set}
use Rattle.ak_base.specs.Lists.{first_of, rest_of, without_first}
use Rattle.ak_cells.specs.declared.registration.Registration.{Registration}
use Rattle.ak_cells.specs.Cells.{waiting_on, filled}
use Rattle.ak_frames.specs.declared.frame.BodyId.{BodyId}
use Rattle.ak_frames.specs.declared.frame.Frame.{Frame}
use Rattle.ak_frames.specs.declared.frame.Frame.TheVariants.{BodyDone, BodyFailed}
use Rattle.ak_trace.specs.declared.entry.Entry.TheVariants as entry
use Rattle.ak_throttle.specs.declared.stage.Stage.TheVariants.{Running}
use Rattle.ak_throttle.specs.declared.stage.Mark.{Mark}
use Rattle.ak_throttle.specs.Throttle.{Throttle, stage_in, started_by_end, started_by_failure, dropped_taken, without_dropped, is_satisfied, ivar_of, satisfied_marks, satisfied_taken, without_satisfied}
use Rattle.ak_throttle.specs.Calls.{Give, dropped_given, DroppedGiven, done_given, done_ivars, DoneGiven}
use Rattle.ak_program.specs.declared.program.NumProc.{NumProc}
use Rattle.ak_machine.specs.declared.held.Body.{Body}
use Rattle.ak_machine.specs.declared.held.Fate.{Fate}
use Rattle.ak_machine.specs.declared.held.Fate.TheVariants.{Undecided, Failing, Over}
use Rattle.ak_machine.specs.declared.held.Started.{Started}
use Rattle.ak_machine.specs.State.{State}
use Rattle.ak_machine.specs.Deferred.{noting, plain_task, enqueue, woken_by, number_at, fill_at, fill, filled_with, register}
use Rattle.ak_machine.specs.Throttles as throttles
use Rattle.ak_machine.specs.Throttles.{no_throttle, no_started, throttle_at, with_throttle_at, started_of, with_fate, mark_filled, marks_filled, body_left, ended_at, body_ended, waits_at, body_waits, acts_at, body_acts, drop_raised, drops_raised, body_lost, failed_at, body_failed}
use Rattle.ak_streams.specs.Throttles.{with_fate_at}
use Rattle.ak_state.specs.Drawn.{Drawn, drawn}
use Rattle.ak_state.specs.Fits.{BodyFits, StartedFits, Fits, FitsSome}
use Rattle.ak_state.specs.Bodies.{stepped, front_mapped, undecided_of, undecided, is_failing, first_dropped, first_done}
use Rattle.ak_state.proofs.Fitting.{Grows, kept_grows, then_grows, noted_grows, enqueue_grows, fill_grows, register_grows}
use Rattle.ak_state.proofs.Bodies.{throttle_fits, set_throttle_grows, undecided_runs, failing_runs, over_grows, failing_grows, left_grows, end_front_fits, failure_front_fits, front_lost, front_lost_grows, drops_grow, marks_grow, with_marks_fits}

-- ---- fills leave the throttles and their bodies
abbrev with_streams : List (Throttle Body) → List (List Started) → State → State
with_streams xs ys s = record s { throttles = xs; started = ys }

woken_streams : (v : ℤ) (xs : List (Throttle Body)) (ys : List (List Started)) (gs : List (Registration Frame)) (s : State)
    → fold (woken_by v) (with_streams xs ys s) gs ≡ with_streams xs ys (fold (woken_by v) s gs)
woken_streams v xs ys [] s = refl
woken_streams v xs ys (g ∷ gs) s = woken_streams v xs ys gs (woken_by v s g)

fill_at_streams : (o : Option ℤ) (i : ℕ) (v : ℤ) (xs : List (Throttle Body)) (ys : List (List Started)) (s : State)
    → fill_at o i v (with_streams xs ys s) ≡ with_streams xs ys (fill_at o i v s)
fill_at_streams (Some w) i v xs ys s = refl
fill_at_streams None i v xs ys s =
    woken_streams v xs ys (waiting_on i s.cells) (noting (entry.Fill i v) (record s { cells = filled i v s.cells }))

fill_streams : (i : ℕ) (v : ℤ) (xs : List (Throttle Body)) (ys : List (List Started)) (s : State)
    → fill i v (with_streams xs ys s) ≡ with_streams xs ys (fill i v s)
fill_streams i v xs ys s = fill_at_streams (number_at i s) i v xs ys s

pub same_throttles : (i : ℕ) (v : ℤ) (s : State) → (fill i v s).throttles ≡ s.throttles
same_throttles i v s = ap (λ (u : State). u.throttles) (fill_streams i v s.throttles s.started s)

pub same_started : (i : ℕ) (v : ℤ) (s : State) → (fill i v s).started ≡ s.started
same_started i v s = ap (λ (u : State). u.started) (fill_streams i v s.throttles s.started s)

-- ---- a body that is there
fate_there : (bodies : List Started) (k : ℕ) → ((slice_index_or bodies k no_started).fate ≡ Over → ⊥) → k < length bodies
fate_there [] k h = absurd (h refl)
fate_there (x ∷ bodies) zero h = omega arith
fate_there (x ∷ bodies) (suc k) h = let l : k < length bodies = fate_there bodies k h in omega (arith, l)

bodies_there : (xs : List (List Started)) (t k : ℕ) → k < length (slice_index_or xs t []) → t < length xs
bodies_there [] t k h = absurd (omega (arith, h))
bodies_there (x ∷ xs) zero k h = omega arith
bodies_there (x ∷ xs) (suc t) k h = let l : t < length xs = bodies_there xs t k h in omega (arith, l)

-- a body that is not over has started
pub record IsThere (b : BodyId) (s : State) : Type 0 where
  pub throttle : b.throttle < length s.started
  pub started : b.no < length (started_of b.throttle s)

not_over : (b : BodyId) (s : State) → ((throttles.started_at b s).fate ≡ Over → ⊥) → IsThere b s
not_over b s h =
    let l = fate_there (started_of b.throttle s) b.no h
    in record { throttle = bodies_there s.started b.throttle b.no l; started = l }

-- an undecided body, by its fate
pub record IsUndecided (b : BodyId) (s : State) (x : Started) : Type 0 where
  pub is : throttles.started_at b s ≡ x
  pub fate : (throttles.started_at b s).fate ≡ Undecided
  pub there : IsThere b s

undecided_by : (b : BodyId) (s : State) (fate : Fate) (x : Started) → (throttles.started_at b s).fate ≡ fate
    → undecided_of fate (throttles.started_at b s) ≡ Some x → IsUndecided b s x
undecided_by b s Undecided x e h =
    record { is = cc; fate = e; there = not_over b s (λ (o : (throttles.started_at b s).fate ≡ Over). let no : Undecided ≡ Over = sym e ∙ o in absurd (cc)) }
undecided_by b s Failing x e h = absurd (cc)
undecided_by b s Over x e h = absurd (cc)

pub undecided_is : (b : BodyId) (s : State) (x : Started) → undecided b s ≡ Some x → IsUndecided b s x
undecided_is b s x h = undecided_by b s (throttles.started_at b s).fate x refl h

-- what comes to a body that is decided does nothing but be noted
decided_by : (b : BodyId) (v : ℤ) (i : ℕ) (s : State) (fate : Fate) → undecided_of fate (throttles.started_at b s) ≡ None
    → (ended_at fate b v s ≡ s) × (waits_at fate b i s ≡ s) × (acts_at fate b v s ≡ noting (entry.Rest v) s)
decided_by b v i s Undecided h = absurd (cc)
decided_by b v i s Failing h = (refl, refl, refl)
decided_by b v i s Over h = (refl, refl, refl)

pub decided_ends : (b : BodyId) (v : ℤ) (s : State) → undecided b s ≡ None → body_ended b v s ≡ s
decided_ends b v s h = (decided_by b v 0 s (throttles.started_at b s).fate h).0

pub decided_waits : (b : BodyId) (i : ℕ) (s : State) → undecided b s ≡ None → body_waits b i s ≡ s
decided_waits b i s h = (decided_by b (pos 0) i s (throttles.started_at b s).fate h).1

pub decided_acts : (b : BodyId) (v : ℤ) (s : State) → undecided b s ≡ None → body_acts b v s ≡ noting (entry.Rest v) s
decided_acts b v s h = (decided_by b v 0 s (throttles.started_at b s).fate h).2

-- and what comes to an undecided one
pub undecided_ends : (b : BodyId) (v : ℤ) (s : State) (x : Started) → IsUndecided b s x
    → body_ended b v s ≡ marks_filled b.throttle (body_left b (fill x.to v (with_fate Over b s)))
undecided_ends b v s x u =
    ap (λ fate. ended_at fate b v s) u.fate
    ∙ ap (λ (y : Started). marks_filled b.throttle (body_left b (fill y.to v (with_fate Over b s)))) u.is

pub undecided_waits : (b : BodyId) (i : ℕ) (s : State) (x : Started) → IsUndecided b s x
    → body_waits b i s ≡ register i x.ctx (BodyDone b) s
undecided_waits b i s x u =
    ap (λ fate. waits_at fate b i s) u.fate
    ∙ ap (λ (y : Started). register i y.ctx (BodyDone b) s) u.is

pub undecided_acts : (b : BodyId) (v : ℤ) (s : State) (x : Started) → IsUndecided b s x
    → body_acts b v s ≡ enqueue x.ctx (plain_task (BodyFailed b v)) (with_fate Failing b s)
undecided_acts b v s x u =
    ap (λ fate. acts_at fate b v s) u.fate
    ∙ ap (λ (y : Started). enqueue y.ctx (plain_task (BodyFailed b v)) (with_fate Failing b s)) u.is

-- ---- a body that fails
fails_by : (b : BodyId) (s : State) (fate : Fate) → is_failing fate ≡ true → (fate ≡ Failing) × (failed_at fate b s ≡ body_lost b (with_fate Over b s))
fails_by b s Undecided h = absurd (cc)
fails_by b s Failing h = (refl, refl)
fails_by b s Over h = absurd (cc)

stays_by : (b : BodyId) (s : State) (fate : Fate) → is_failing fate ≡ false → failed_at fate b s ≡ s
stays_by b s Undecided h = refl
stays_by b s Failing h = absurd (cc)
stays_by b s Over h = refl

pub record IsFailing (b : BodyId) (s : State) : Type 0 where
  pub fate : (throttles.started_at b s).fate ≡ Failing
  pub there : IsThere b s
  pub fails : body_failed b s ≡ body_lost b (with_fate Over b s)

pub failing_is : (b : BodyId) (s : State) → is_failing (throttles.started_at b s).fate ≡ true → IsFailing b s
failing_is b s h =
    let p = fails_by b s (throttles.started_at b s).fate h
    in record {
      fate = p.0;
      there = not_over b s (λ (o : (throttles.started_at b s).fate ≡ Over). let no : Failing ≡ Over = sym p.0 ∙ o in absurd (cc));
      fails = p.1;
    }

pub not_failing : (b : BodyId) (s : State) → is_failing (throttles.started_at b s).fate ≡ false → body_failed b s ≡ s
not_failing b s h = stays_by b s (throttles.started_at b s).fate h

-- ---- a body that is over
over_here : (bodies : List Started) (k : ℕ) → (slice_index_or (with_fate_at k Over bodies) k no_started).fate ≡ Over
over_here [] k = refl
over_here (x ∷ bodies) zero = refl
over_here (x ∷ bodies) (suc k) = over_here bodies k

over_by : (xs : List (List Started)) (t k : ℕ)
    → (slice_index_or (slice_index_or (slice_set xs t (with_fate_at k Over (slice_index_or xs t []))) t []) k no_started).fate ≡ Over
over_by [] t k = refl
over_by (x ∷ xs) zero k = over_here x k
over_by (x ∷ xs) (suc t) k = over_by xs t k

pub over_now : (b : BodyId) (s : State) → (throttles.started_at b (with_fate Over b s)).fate ≡ Over
over_now b s = over_by s.started b.throttle b.no

-- ---- what is left fits
pub undecided_stage : (program : List NumProc) (b : BodyId) (s : State) → Fits program s → (throttles.started_at b s).fate ≡ Undecided
    → stage_in b.no (throttle_at b.throttle s) ≡ Some Running
undecided_stage program b s f e =
    undecided_runs (started_of b.throttle s) (throttle_at b.throttle s).bodies b.no (throttle_fits program b.throttle s f).stand e

pub failing_stage : (program : List NumProc) (b : BodyId) (s : State) → Fits program s → (throttles.started_at b s).fate ≡ Failing
    → stage_in b.no (throttle_at b.throttle s) ≡ Some Running
failing_stage program b s f e =
    failing_runs (started_of b.throttle s) (throttle_at b.throttle s).bodies b.no (throttle_fits program b.throttle s f).stand e

-- the result of an undecided body is filled
abbrev pub result_filled : BodyId → ℕ → ℤ → State → State
result_filled b i v s = fill i v (with_fate Over b s)

pub record IsLeaving (program : List NumProc) (b : BodyId) (s t : State) : Type 0 where
  pub grows : Grows program s t
  pub runs : stage_in b.no (throttle_at b.throttle t) ≡ Some Running
  pub over : (throttles.started_at b t).fate ≡ Over
  pub same : length t.throttles ≡ length s.throttles

pub leaving : (program : List NumProc) (b : BodyId) (i : ℕ) (v : ℤ) (s : State) → Fits program s → (throttles.started_at b s).fate ≡ Undecided
    → IsLeaving program b s (result_filled b i v s)
leaving program b i v s f e =
    let u : State = with_fate Over b s
    in let one = over_grows program b s f
    in record {
      grows = then_grows program s u (fill i v u) one (fill_grows program i v u one.fits);
      runs =
          ap (λ xs. stage_in b.no (slice_index_or xs b.throttle no_throttle)) (same_throttles i v u)
          ∙ undecided_stage program b s f e;
      over =
          ap (λ (xs : List (List Started)). (slice_index_or (slice_index_or xs b.throttle []) b.no no_started).fate) (same_started i v u)
          ∙ over_now b s;
      same = ap length (same_throttles i v u);
    }

ended_grows_by : (program : List NumProc) (fate : Fate) (b : BodyId) (v : ℤ) (s : State) → Fits program s → (throttles.started_at b s).fate ≡ fate
    → Grows program s (ended_at fate b v s)
ended_grows_by program Undecided b v s f e =
    let i : ℕ = (throttles.started_at b s).to
    in let t : State = result_filled b i v s
    in let one = leaving program b i v s f e
    in let two = left_grows program b t one.grows.fits one.runs one.over
    in let to2 = then_grows program s t (body_left b t) one.grows two
    in then_grows program s (body_left b t) (marks_filled b.throttle (body_left b t)) to2 (marks_grow program b.throttle (body_left b t) two.fits)
ended_grows_by program Failing b v s f e = kept_grows program s f
ended_grows_by program Over b v s f e = kept_grows program s f

pub body_ended_grows : (program : List NumProc) (b : BodyId) (v : ℤ) (s : State) → Fits program s → Grows program s (body_ended b v s)
body_ended_grows program b v s f = ended_grows_by program (throttles.started_at b s).fate b v s f refl

-- the context of a body that has started
started_in_fits : (program : List NumProc) (n : Drawn) (bodies : List Started) (k : ℕ) → AllByRecursion (StartedFits n) bodies
    → k < length bodies → StartedFits n (slice_index_or bodies k no_started)
started_in_fits program n [] k h l = absurd (omega (arith, l))
started_in_fits program n (x ∷ bodies) zero h l = h.0
started_in_fits program n (x ∷ bodies) (suc k) h l = started_in_fits program n bodies k h.1 (omega (arith, l))

pub there_fits : (program : List NumProc) (b : BodyId) (s : State) → Fits program s → IsThere b s → StartedFits (drawn s) (throttles.started_at b s)
there_fits program b s f h =
    started_in_fits program (drawn s) (started_of b.throttle s) b.no (throttle_fits program b.throttle s f).bodies h.started

waits_grows_by : (program : List NumProc) (fate : Fate) (b : BodyId) (i : ℕ) (s : State) → Fits program s → (throttles.started_at b s).fate ≡ fate
    → Grows program s (waits_at fate b i s)
waits_grows_by program Undecided b i s f e =
    let there = not_over b s (λ (o : (throttles.started_at b s).fate ≡ Over). let no : Undecided ≡ Over = sym e ∙ o in absurd (cc))
    in register_grows program i (throttles.started_at b s).ctx (BodyDone b) s f
    (record { monitor = (there_fits program b s f there).context; frame_fits = tt })
waits_grows_by program Failing b i s f e = kept_grows program s f
waits_grows_by program Over b i s f e = kept_grows program s f

pub body_waits_grows : (program : List NumProc) (b : BodyId) (i : ℕ) (s : State) → Fits program s → Grows program s (body_waits b i s)
body_waits_grows program b i s f = waits_grows_by program (throttles.started_at b s).fate b i s f refl

acts_grows_by : (program : List NumProc) (fate : Fate) (b : BodyId) (v : ℤ) (s : State) → Fits program s → (throttles.started_at b s).fate ≡ fate
    → Grows program s (acts_at fate b v s)
acts_grows_by program Undecided b v s f e =
    let there = not_over b s (λ (o : (throttles.started_at b s).fate ≡ Over). let no : Undecided ≡ Over = sym e ∙ o in absurd (cc))
    in let u : State = with_fate Failing b s
    in let one = failing_grows program b s f e
    in then_grows program s u (acts_at Undecided b v s) one
    (enqueue_grows program (throttles.started_at b s).ctx (plain_task (BodyFailed b v)) u one.fits
    (record { monitor = (there_fits program b s f there).context; frame_fits = tt }))
acts_grows_by program Failing b v s f e = noted_grows program (entry.Rest v) s f
acts_grows_by program Over b v s f e = noted_grows program (entry.Rest v) s f

pub body_acts_grows : (program : List NumProc) (b : BodyId) (v : ℤ) (s : State) → Fits program s → Grows program s (body_acts b v s)
body_acts_grows program b v s f = acts_grows_by program (throttles.started_at b s).fate b v s f refl

pub lost_grows : (program : List NumProc) (b : BodyId) (s : State) → Fits program s → stage_in b.no (throttle_at b.throttle s) ≡ Some Running
    → (throttles.started_at b s).fate ≡ Over → Grows program s (body_lost b s)
lost_grows program b s f runs e =
    let t : State = front_lost b s
    in let u : State = drops_raised b.throttle t
    in let one = front_lost_grows program b s f runs e
    in let two = drops_grow program b.throttle t one.fits
    in let to2 = then_grows program s t u one two
    in then_grows program s u (marks_filled b.throttle u) to2 (marks_grow program b.throttle u two.fits)

failed_grows_by : (program : List NumProc) (fate : Fate) (b : BodyId) (s : State) → Fits program s → (throttles.started_at b s).fate ≡ fate
    → Grows program s (failed_at fate b s)
failed_grows_by program Undecided b s f e = kept_grows program s f
failed_grows_by program Failing b s f e =
    let u : State = with_fate Over b s
    in let one = over_grows program b s f
    in then_grows program s u (body_lost b u) one (lost_grows program b u one.fits (failing_stage program b s f e) (over_now b s))
failed_grows_by program Over b s f e = kept_grows program s f

pub body_failed_grows : (program : List NumProc) (b : BodyId) (s : State) → Fits program s → Grows program s (body_failed b s)
body_failed_grows program b s f = failed_grows_by program (throttles.started_at b s).fate b s f refl

-- ---- calls that take one thing each
-- what is given behind the first, and what is left at the end
record Behind {X : Type 0} (taken : Throttle Body → Throttle Body) (all : Throttle Body → List X) (left : Throttle Body → Throttle Body)
    (x : Throttle Body) (i : X) : Type 0 where
  all_are : all x ≡ i ∷ all (taken x)
  left_is : left x ≡ left (taken x)

abbrev Law : {X : Type 0} → (Throttle Body → Option X) → (Throttle Body → Throttle Body) → (Throttle Body → List X)
    → (Throttle Body → Throttle Body) → Type 0
Law {X} given taken all left = (xs : List X) (x after : Throttle Body) → Give given taken xs x after ↔ ((xs ≡ all x) × (after ≡ left x))

behind_by : {X : Type 0} (given : Throttle Body → Option X) (taken : Throttle Body → Throttle Body) (all : Throttle Body → List X)
    (left : Throttle Body → Throttle Body) → Law given taken all left → (x : Throttle Body) (i : X) → given x ≡ Some i → (is : List X) → is ≡ all x
    → Give given taken is x (left x) → Behind taken all left x i
behind_by given taken all left law x i h [] e g = let none : Some i ≡ None = sym h ∙ g.0 in absurd (cc)
behind_by given taken all left law x i h (j ∷ js) e g =
    let one : Some i ≡ Some j = sym h ∙ g.0
    in let same : j ≡ i = cc
    in let q = (law js (taken x) (left x)).0 g.1
    in record { all_are = sym e ∙ ap (λ k. k ∷ js) same ∙ ap (λ ks. i ∷ ks) q.0; left_is = q.1 }

behind : {X : Type 0} (given : Throttle Body → Option X) (taken : Throttle Body → Throttle Body) (all : Throttle Body → List X)
    (left : Throttle Body → Throttle Body) → Law given taken all left → (x : Throttle Body) (i : X) → given x ≡ Some i → Behind taken all left x i
behind given taken all left law x i h = behind_by given taken all left law x i h (all x) refl ((law (all x) x (left x)).1 (refl, refl))

none_by : {X : Type 0} (given : Throttle Body → Option X) (taken : Throttle Body → Throttle Body) (all : Throttle Body → List X)
    (left : Throttle Body → Throttle Body) (x : Throttle Body) (is : List X) → given x ≡ None → is ≡ all x → Give given taken is x (left x)
    → (all x ≡ []) × (left x ≡ x)
none_by given taken all left x [] h e g = (sym e, g.1)
none_by given taken all left x (j ∷ js) h e g = let none : None ≡ Some j = sym h ∙ g.0 in absurd (cc)

none_left : {X : Type 0} (given : Throttle Body → Option X) (taken : Throttle Body → Throttle Body) (all : Throttle Body → List X)
    (left : Throttle Body → Throttle Body) → Law given taken all left → (x : Throttle Body) → given x ≡ None → (all x ≡ []) × (left x ≡ x)
none_left given taken all left law x h = none_by given taken all left x (all x) h refl ((law (all x) x (left x)).1 (refl, refl))

abbrev pub DoneLaw : Type 0
DoneLaw = (ivars : List ℕ) (x after : Throttle Body) → DoneGiven ivars x after ↔ ((ivars ≡ done_ivars x) × (after ≡ without_satisfied x))

abbrev pub DroppedLaw : Type 0
DroppedLaw = (bodies : List Body) (x after : Throttle Body) → DroppedGiven bodies x after ↔ ((bodies ≡ x.dropped) × (after ≡ without_dropped x))

abbrev dropped_bodies : Throttle Body → List Body
dropped_bodies x = x.dropped

-- a throttle that was set is there
at_set : (t : ℕ) (x : Throttle Body) (s : State) → t < length s.throttles → throttle_at t (with_throttle_at t x s) ≡ x
at_set t x s h = get_or-set_same s.throttles t x no_throttle h

-- fewer marks, and none where none is satisfied
fewer_marks : (n : ℕ) (p : Mark → Bool) (marks : List Mark) → AllByRecursion (λ (mark : Mark). mark.ivar < n) marks
    → AllByRecursion (λ (mark : Mark). mark.ivar < n) (without_first p marks)
fewer_marks n p [] h = tt
fewer_marks n p (mark ∷ marks) h = by (p mark) (fewer_marks n p marks h.1)
  where
    by : (b : Bool) → AllByRecursion (λ (m : Mark). m.ivar < n) (without_first p marks)
        → AllByRecursion (λ (m : Mark). m.ivar < n) (cond b marks (mark ∷ without_first p marks))
    by true r = h.1
    by false r = (h.0, r)

none_first : (p : Mark → Bool) (marks : List Mark) → ivar_of (first_of (filter p marks)) ≡ None → without_first p marks ≡ marks
none_first p [] h = refl
none_first p (mark ∷ marks) h = by (p mark) h (none_first p marks)
  where
    by : (b : Bool) → ivar_of (first_of (cond b (mark ∷ filter p marks) (filter p marks))) ≡ None
        → (ivar_of (first_of (filter p marks)) ≡ None → without_first p marks ≡ marks)
        → cond b marks (mark ∷ without_first p marks) ≡ mark ∷ marks
    by true q next = absurd (cc)
    by false q next = ap (λ r. mark ∷ r) (next q)

none_taken : (x : Throttle Body) → done_given x ≡ None → satisfied_taken x ≡ x
none_taken x h = ap (λ marks. record x { marks = marks }) (none_first (is_satisfied x.bodies) x.marks h)

-- deferreds whose bodies are over
fills_marks : (marks : List Mark) (s : State) → fold mark_filled s marks ≡ fold (filled_with (pos 0)) s (map (λ (mark : Mark). mark.ivar) marks)
fills_marks [] s = refl
fills_marks (mark ∷ marks) s = fills_marks marks (mark_filled s mark)

done_filled : (t : ℕ) (s : State)
    → marks_filled t s ≡ fold (filled_with (pos 0)) (with_throttle_at t (without_satisfied (throttle_at t s)) s) (done_ivars (throttle_at t s))
done_filled t s = fills_marks (satisfied_marks (throttle_at t s)) (with_throttle_at t (without_satisfied (throttle_at t s)) s)

pub done_next : (law : DoneLaw) (t i : ℕ) (s : State) → t < length s.throttles → first_done t s ≡ Some i
    → marks_filled t (fill i (pos 0) (stepped satisfied_taken t s)) ≡ marks_filled t s
done_next law t i s l h =
    let x : Throttle Body = throttle_at t s
    in let y : Throttle Body = satisfied_taken x
    in let b = behind done_given satisfied_taken done_ivars without_satisfied law x i h
    in let u : State = fill i (pos 0) s
    in let set : List (Throttle Body) = slice_set s.throttles t y
    in let here : slice_index_or set t no_throttle ≡ y = at_set t y s l
    in ap (marks_filled t) (fill_streams i (pos 0) set s.started s)
    ∙ done_filled t (with_streams set s.started u)
    ∙ ap (λ z. fold (filled_with (pos 0)) (with_streams (slice_set set t (without_satisfied z)) s.started u) (done_ivars z)) here
    ∙ ap (λ xs. fold (filled_with (pos 0)) (with_streams xs s.started u) (done_ivars y)) (set-set s.throttles t y (without_satisfied y))
    ∙ ap (λ z. fold (filled_with (pos 0)) (with_streams (slice_set s.throttles t z) s.started u) (done_ivars y)) (sym b.left_is)
    ∙ ap (λ (v : State). fold (filled_with (pos 0)) v (done_ivars y))
    (sym (fill_streams i (pos 0) (slice_set s.throttles t (without_satisfied x)) s.started s))
    ∙ ap (λ is. fold (filled_with (pos 0)) (with_throttle_at t (without_satisfied x) s) is) (sym b.all_are)
    ∙ sym (done_filled t s)

pub done_over : (law : DoneLaw) (t : ℕ) (s : State) → first_done t s ≡ None → stepped satisfied_taken t s ≡ marks_filled t s
done_over law t s h =
    let x : Throttle Body = throttle_at t s
    in let n = none_left done_given satisfied_taken done_ivars without_satisfied law x h
    in ap (λ y. with_throttle_at t y s) (none_taken x h ∙ sym n.1)
    ∙ ap (λ is. fold (filled_with (pos 0)) (with_throttle_at t (without_satisfied x) s) is) (sym n.0)
    ∙ sym (done_filled t s)

pub fewer_done : (law : DoneLaw) (t i : ℕ) (s : State) → t < length s.throttles → first_done t s ≡ Some i
    → length (done_ivars (throttle_at t (fill i (pos 0) (stepped satisfied_taken t s)))) < length (done_ivars (throttle_at t s))
fewer_done law t i s l h =
    let x : Throttle Body = throttle_at t s
    in let b = behind done_given satisfied_taken done_ivars without_satisfied law x i h
    in let here : throttle_at t (fill i (pos 0) (stepped satisfied_taken t s)) ≡ satisfied_taken x =
    ap (λ xs. slice_index_or xs t no_throttle) (same_throttles i (pos 0) (stepped satisfied_taken t s)) ∙ at_set t (satisfied_taken x) s l
    in let e : length (done_ivars (throttle_at t (fill i (pos 0) (stepped satisfied_taken t s)))) ≡ length (done_ivars (satisfied_taken x)) =
    ap (λ y. length (done_ivars y)) here
    in let all : length (done_ivars x) ≡ suc (length (done_ivars (satisfied_taken x))) = ap length b.all_are
    in omega (arith, e, all)

first_mark : (n : ℕ) (p : Mark → Bool) (marks : List Mark) (i : ℕ) → AllByRecursion (λ (mark : Mark). mark.ivar < n) marks
    → ivar_of (first_of (filter p marks)) ≡ Some i → i < n
first_mark n p [] i h e = absurd (cc)
first_mark n p (mark ∷ marks) i h e = by (p mark) e (first_mark n p marks i h.1)
  where
    by : (b : Bool) → ivar_of (first_of (cond b (mark ∷ filter p marks) (filter p marks))) ≡ Some i
        → (ivar_of (first_of (filter p marks)) ≡ Some i → i < n) → i < n
    by true q next = let same : mark.ivar ≡ i = cc in subst (λ k. k < n) same h.0
    by false q next = next q

pub done_drawn : (t i : ℕ) (s : State) → FitsSome s → first_done t s ≡ Some i → i < length s.cells.ivars
done_drawn t i s f h =
    first_mark (length s.cells.ivars) (is_satisfied (throttle_at t s).bodies) (throttle_at t s).marks i
    (throttle_fits f.program t s f.fits).marks h

pub done_fits : (t i : ℕ) (s : State) (f : FitsSome s) → Grows f.program s (fill i (pos 0) (stepped satisfied_taken t s))
done_fits t i s f =
    let x : Throttle Body = throttle_at t s
    in let p = throttle_fits f.program t s f.fits
    in let one = set_throttle_grows f.program t (satisfied_taken x) s f.fits
    (with_marks_fits f.program (drawn s) x (started_of t s) _ p (fewer_marks (length s.cells.ivars) (is_satisfied x.bodies) x.marks p.marks))
    in then_grows f.program s (stepped satisfied_taken t s) (fill i (pos 0) (stepped satisfied_taken t s)) one
    (fill_grows f.program i (pos 0) (stepped satisfied_taken t s) one.fits)

-- dropped bodies
pub drop_next : (law : DroppedLaw) (t : ℕ) (body : Body) (s : State) → t < length s.throttles → first_dropped t s ≡ Some body
    → drops_raised t (drop_raised (stepped dropped_taken t s) body) ≡ drops_raised t s
drop_next law t body s l h =
    let x : Throttle Body = throttle_at t s
    in let y : Throttle Body = dropped_taken x
    in let b = behind dropped_given dropped_taken dropped_bodies without_dropped law x body h
    in let u : State = drop_raised s body
    in let set : List (Throttle Body) = slice_set s.throttles t y
    in let here : slice_index_or set t no_throttle ≡ y = at_set t y s l
    in ap (λ z. fold drop_raised (with_streams (slice_set set t (without_dropped z)) s.started u) z.dropped) here
    ∙ ap (λ xs. fold drop_raised (with_streams xs s.started u) y.dropped) (set-set s.throttles t y (without_dropped y))
    ∙ ap (λ z. fold drop_raised (with_streams (slice_set s.throttles t z) s.started u) y.dropped) (sym b.left_is)
    ∙ ap (λ bodies. fold drop_raised (with_throttle_at t (without_dropped x) s) bodies) (sym b.all_are)

pub drop_over : (law : DroppedLaw) (t : ℕ) (s : State) → first_dropped t s ≡ None → stepped dropped_taken t s ≡ drops_raised t s
drop_over law t s h =
    let x : Throttle Body = throttle_at t s
    in let n = none_left dropped_given dropped_taken dropped_bodies without_dropped law x h
    in let taken : dropped_taken x ≡ without_dropped x = ap (λ (bodies : List Body). record x { dropped = rest_of bodies }) n.0
    in ap (λ y. with_throttle_at t y s) taken
    ∙ ap (λ bodies. fold drop_raised (with_throttle_at t (without_dropped x) s) bodies) (sym n.0)

pub fewer_dropped : (law : DroppedLaw) (t : ℕ) (body : Body) (s : State) → t < length s.throttles → first_dropped t s ≡ Some body
    → length (throttle_at t (drop_raised (stepped dropped_taken t s) body)).dropped < length (throttle_at t s).dropped
fewer_dropped law t body s l h =
    let x : Throttle Body = throttle_at t s
    in let b = behind dropped_given dropped_taken dropped_bodies without_dropped law x body h
    in let here : throttle_at t (drop_raised (stepped dropped_taken t s) body) ≡ dropped_taken x = at_set t (dropped_taken x) s l
    in let e : length (throttle_at t (drop_raised (stepped dropped_taken t s) body)).dropped ≡ length (dropped_taken x).dropped =
    ap (λ (y : Throttle Body). length y.dropped) here
    in let all : length x.dropped ≡ suc (length (dropped_taken x).dropped) = ap length b.all_are
    in omega (arith, e, all)

-- ---- the monitor of a front body that starts
monitor_by : (f : ℕ → ℕ) (s : State) (all : FitsSome s) (o : Option (ℕ × Body)) (p : Option (ℕ × Body)) → option_map (front_mapped f) o ≡ p
    → ((front : ℕ × Body) → p ≡ Some front → BodyFits all.program (drawn s) front.1) → IfSome o (λ y. y.1.ctx.mon < length s.monitors)
monitor_by f s all None p e h = tt
monitor_by f s all (Some y) p e h = (h (front_mapped f y) (sym e)).context

pub end_front_monitor : (f : ℕ → ℕ) (b : BodyId) (s : State) → FitsSome s → (o : Option (ℕ × Body))
    → option_map (front_mapped f) o ≡ started_by_end b.no (throttle_at b.throttle s) → IfSome o (λ y. y.1.ctx.mon < length s.monitors)
end_front_monitor f b s all o e =
    monitor_by f s all o (started_by_end b.no (throttle_at b.throttle s)) e (λ front. end_front_fits all.program b.throttle b.no s front all.fits)

pub failure_front_monitor : (f : ℕ → ℕ) (b : BodyId) (s : State) → FitsSome s → (o : Option (ℕ × Body))
    → option_map (front_mapped f) o ≡ started_by_failure b.no (throttle_at b.throttle s) → IfSome o (λ y. y.1.ctx.mon < length s.monitors)
failure_front_monitor f b s all o e =
    monitor_by f s all o (started_by_failure b.no (throttle_at b.throttle s)) e (λ front. failure_front_fits all.program b.throttle b.no s front all.fits)
