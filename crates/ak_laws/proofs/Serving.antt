-- Each request is answered once, by what fills its deferred: what the parts of a state keep of it.
use Rattle.std.proofs.Common.{ℕ, ℤ, ◌+◌, ◌≤◌, ◌≡◌, List, [], ◌∷◌, ◌++◌, length, map, filter, Bool, true, false, ◌||◌, ◌==◌, cond, Option, Some, None}
use Rattle.std.proofs.Common.{refl, sym, subst, ◌∙◌, ap, arith}
use Rattle.std.specs.List.{AllByRecursion, list_any}
use Rattle.std.specs.Option.{option_map}
use Rattle.std.proofs.lemmas.Bool.{eqb-true, eq-eqb, true≢false}
use Rattle.ak_base.proofs.Lists.{all_push}
use Rattle.ak_base.specs.declared.number.Ctx.{Ctx}
use Rattle.ak_cells.specs.declared.registration.Registration.{Registration}
use Rattle.ak_cells.specs.Cells.{is_on, is_off}
use Rattle.ak_cells.specs.Names.{renamed}
use Rattle.ak_rings.specs.declared.job.Job.{Job}
use Rattle.ak_rings.specs.Queues.{Queues}
use Rattle.ak_frames.specs.declared.frame.Frame.{Frame}
use Rattle.ak_frames.specs.declared.frame.Frame.TheVariants.{Call, OnValue, AllPart, ChoicePart, TryDone, BodyDone, BodyFailed, Raise, AnswerOut}
use Rattle.ak_frames.specs.declared.frame.Task.{Task}
use Rattle.ak_trace.specs.declared.entry.Entry.{Entry}
use Rattle.ak_trace.specs.declared.entry.Entry.TheVariants as entry
use Rattle.ak_machine.specs.Mapped.{frame_mapped, job_mapped, queues_mapped, registration_mapped}
use Rattle.ak_machine.specs.Deferred.{woken_task}
use Rattle.ak_machine.specs.Job.{value_or_zero}
use Rattle.ak_holders.specs.Holders.{total}
use Rattle.ak_holders.proofs.Carry.{all_by, all_filter, all_map, total_push, total_parts, total_filter, total_of_map, other_than}
use Rattle.ak_laws.specs.Places.{EachAfter}
use Rattle.ak_laws.specs.Requests.{asked_by, asked, is_answer_of, behind, name_by, Fills, IsServed}
use Rattle.ak_ledger.proofs.Still.{IsNoAnswer}
use Rattle.ak_laws.proofs.Kept.{Parts}
use Rattle.ak_laws.proofs.Asked.{longer, or_else, behind_more, IsNamed, named_more, fills_more, fills_now, asked_same, asked_one, IsNew, served_push}

-- ---- how many times each of these answers a request
abbrev pub frame_answers : ℕ → Frame → ℕ
frame_answers q (AnswerOut p) = cond (p == q) 1 0
frame_answers q f = 0

abbrev pub task_answers : ℕ → Task → ℕ
task_answers q task = frame_answers q task.frame

abbrev pub job_answers : ℕ → Job Task → ℕ
job_answers q job = frame_answers q job.frame.frame

abbrev pub handler_answers : ℕ → Registration Frame → ℕ
handler_answers q g = frame_answers q g.frame

abbrev pub entry_answers : ℕ → Entry → ℕ
entry_answers q (entry.Answer p v) = cond (p == q) 1 0
entry_answers q e = 0

-- by the tasks in hand, the handlers, the jobs and the entries
abbrev pub answers : ℕ → List Task → Parts → ℕ
answers q hand p =
    total (task_answers q) hand
    + total (handler_answers q) p.handlers
    + total (job_answers q) p.queues.normal
    + total (job_answers q) p.queues.low
    + total (entry_answers q) p.trace

-- ---- what each of these knows
-- the frame of an answer has a number that fills the request's deferred
abbrev pub AnswersWith : List Entry → Frame → Option ℤ → Type 0
AnswersWith t (AnswerOut q) v = Fills (behind q t) (value_or_zero v)
AnswersWith t f v = Unit {0}

abbrev pub TaskKnows : List Entry → Task → Type 0
TaskKnows t task = AnswersWith t task.frame task.value

abbrev pub JobKnows : List Entry → Job Task → Type 0
JobKnows t job = TaskKnows t job.frame

-- or waits for that deferred under its name
abbrev pub WaitsFor : List Entry → Frame → ℕ → Type 0
WaitsFor t (AnswerOut q) i = IsNamed (behind q t) i
WaitsFor t f i = Unit {0}

abbrev pub HandlerKnows : List Entry → Registration Frame → Type 0
HandlerKnows t g = WaitsFor t g.frame g.ivar

-- requests are numbered, each has one answer at the most, that is to come or in the trace, and the entries so far obey the law
pub record Serving (hand : List Task) (p : Parts) : Type 0 where
  pub count : length (asked p.trace) ≡ p.requests
  pub once : (q : ℕ) → answers q hand p ≤ 1
  pub past : (q : ℕ) → p.requests ≤ q → answers q hand p ≡ 0
  pub unasked : (q : ℕ) → p.requests ≤ q → behind q p.trace ≡ None
  pub in_hand : AllByRecursion (TaskKnows p.trace) hand
  pub handlers_know : AllByRecursion (HandlerKnows p.trace) p.handlers
  pub normal_know : AllByRecursion (JobKnows p.trace) p.queues.normal
  pub low_know : AllByRecursion (JobKnows p.trace) p.queues.low
  pub rules : EachAfter IsServed [] p.trace

-- ---- one more entry, that is no request, no answer and no join
abbrev pub IsSilent : Entry → Type 0
IsSilent (entry.Request q n r) = ⊥
IsSilent (entry.Answer q v) = ⊥
IsSilent (entry.Join r i) = ⊥
IsSilent e = Unit {0}

silent_asks : (e : Entry) → IsSilent e → asked_by e ≡ None
silent_asks (entry.Request q n r) s = absurd s
silent_asks (entry.Answer q v) s = absurd s
silent_asks (entry.Join r i) s = absurd s
silent_asks e s = refl

silent_answers : (q : ℕ) (e : Entry) → IsSilent e → entry_answers q e ≡ 0
silent_answers q (entry.Request p n r) s = absurd s
silent_answers q (entry.Answer p v) s = absurd s
silent_answers q (entry.Join r i) s = absurd s
silent_answers q e s = refl

silent_new : (e : Entry) (es : List Entry) → IsSilent e → IsNew e es
silent_new (entry.Request p n r) es s = absurd s
silent_new (entry.Answer p v) es s = absurd s
silent_new (entry.Join r i) es s = absurd s
silent_new e es s = λ q h. absurd (true≢false (sym h))

silent_name : (i : ℕ) (e : Entry) → IsSilent e → name_by i e ≡ i
silent_name i (entry.Request p n r) s = absurd s
silent_name i (entry.Answer p v) s = absurd s
silent_name i (entry.Join r j) s = absurd s
silent_name i e s = refl

silent_rule : (before : List Entry) (e : Entry) → IsSilent e → IsServed before e []
silent_rule before (entry.Request p n r) s = absurd s
silent_rule before (entry.Answer p v) s = absurd s
silent_rule before (entry.Join r j) s = absurd s
silent_rule before e s = tt

silent_behind : (q : ℕ) (e : Entry) → IsSilent e → behind q (e ∷ []) ≡ None
silent_behind q (entry.Request p n r) s = absurd s
silent_behind q (entry.Answer p v) s = absurd s
silent_behind q (entry.Join r j) s = absurd s
silent_behind q e s = refl

-- what is behind no request yet
still_none : (q : ℕ) (t : List Entry) (e : Entry) → behind q t ≡ None → behind q (e ∷ []) ≡ None → behind q (t ++ e ∷ []) ≡ None
still_none q t e h g =
    behind_more q t e ∙ ap (λ o. or_else o (behind q (e ∷ []))) (none (behind q t) h) ∙ g
  where
    none : (o : Option (ℕ × List Entry)) → o ≡ None → option_map (longer e) o ≡ None
    none None f = refl
    none (Some x) f = absurd (cc)

with_answers : (t : List Entry) (e : Entry) (f : Frame) (v : Option ℤ) → AnswersWith t f v → AnswersWith (t ++ e ∷ []) f v
with_answers t e (AnswerOut q) v h = fills_more q t e (value_or_zero v) h
with_answers t e f v h = tt

with_waits : (t : List Entry) (e : Entry) (f : Frame) (i : ℕ) → WaitsFor t f i → WaitsFor (t ++ e ∷ []) f (name_by i e)
with_waits t e (AnswerOut q) i h = named_more q t e i h
with_waits t e f i h = tt

silent_waits : (t : List Entry) (e : Entry) (f : Frame) (i : ℕ) → IsSilent e → WaitsFor t f i → WaitsFor (t ++ e ∷ []) f i
silent_waits t e f i s h = subst (WaitsFor (t ++ e ∷ []) f) (silent_name i e s) (with_waits t e f i h)

pub entry_served : (hand : List Task) (p : Parts) (e : Entry) → IsSilent e → Serving hand p
    → Serving hand (record p { trace = p.trace ++ e ∷ [] })
entry_served hand p e s h = record {
  count = asked_same p.trace e (silent_asks e s) ∙ h.count;
  once = λ q. omega (arith, h.once q, total_push (entry_answers q) p.trace e, silent_answers q e s);
  past = λ q l. omega (arith, h.past q l, total_push (entry_answers q) p.trace e, silent_answers q e s);
  unasked = λ q l. still_none q p.trace e (h.unasked q l) (silent_behind q e s);
  in_hand = all_by (TaskKnows p.trace) (TaskKnows (p.trace ++ e ∷ [])) (λ x k. with_answers p.trace e x.frame x.value k) hand h.in_hand;
  handlers_know = all_by (HandlerKnows p.trace) (HandlerKnows (p.trace ++ e ∷ []))
      (λ g k. silent_waits p.trace e g.frame g.ivar s k) p.handlers h.handlers_know;
  normal_know = all_by (JobKnows p.trace) (JobKnows (p.trace ++ e ∷ []))
      (λ job k. with_answers p.trace e job.frame.frame job.frame.value k) p.queues.normal h.normal_know;
  low_know = all_by (JobKnows p.trace) (JobKnows (p.trace ++ e ∷ []))
      (λ job k. with_answers p.trace e job.frame.frame job.frame.value k) p.queues.low h.low_know;
  rules = served_push [] p.trace e (silent_new e p.trace s) (silent_rule p.trace e s) h.rules;
}

-- ---- the hand
no_answer : (q : ℕ) (f : Frame) → IsNoAnswer f → frame_answers q f ≡ 0
no_answer q (AnswerOut p) n = absurd n
no_answer q f n = refl

no_knowledge : (t : List Entry) (f : Frame) (v : Option ℤ) → IsNoAnswer f → AnswersWith t f v
no_knowledge t (AnswerOut p) v n = absurd n
no_knowledge t f v n = tt

no_waiting : (t : List Entry) (f : Frame) (i : ℕ) → IsNoAnswer f → WaitsFor t f i
no_waiting t (AnswerOut p) i n = absurd n
no_waiting t f i n = tt

-- a task that answers nothing comes into the hand
pub taken_served : (hand : List Task) (task : Task) (p : Parts) → IsNoAnswer task.frame → Serving hand p → Serving (task ∷ hand) p
taken_served hand task p n h = record {
  count = h.count;
  once = λ q. omega (arith, h.once q, no_answer q task.frame n);
  past = λ q l. omega (arith, h.past q l, no_answer q task.frame n);
  unasked = h.unasked;
  in_hand = (no_knowledge p.trace task.frame task.value n, h.in_hand);
  handlers_know = h.handlers_know;
  normal_know = h.normal_know;
  low_know = h.low_know;
  rules = h.rules;
}

-- a task is let go
pub dropped_served : (hand : List Task) (task : Task) (p : Parts) → Serving (task ∷ hand) p → Serving hand p
dropped_served hand task p h = record {
  count = h.count;
  once = λ q. omega (arith, h.once q);
  past = λ q l. omega (arith, h.past q l);
  unasked = h.unasked;
  in_hand = h.in_hand.1;
  handlers_know = h.handlers_know;
  normal_know = h.normal_know;
  low_know = h.low_know;
  rules = h.rules;
}

-- a task from the hand is enqueued
pub queued_served : (hand : List Task) (b : Bool) (job : Job Task) (q : Queues Task) (p : Parts)
    → Serving (job.frame ∷ hand) (record p { queues = q })
    → Serving hand (record p {
      queues = cond b (record q { low = q.low ++ job ∷ []; next = q.next + 1 }) (record q { normal = q.normal ++ job ∷ []; next = q.next + 1 });
    })
queued_served hand true job q p h = record {
  count = h.count;
  once = λ n. omega (arith, h.once n, total_push (job_answers n) q.low job);
  past = λ n l. omega (arith, h.past n l, total_push (job_answers n) q.low job);
  unasked = h.unasked;
  in_hand = h.in_hand.1;
  handlers_know = h.handlers_know;
  normal_know = h.normal_know;
  low_know = all_push (JobKnows p.trace) q.low job h.low_know h.in_hand.0;
  rules = h.rules;
}
queued_served hand false job q p h = record {
  count = h.count;
  once = λ n. omega (arith, h.once n, total_push (job_answers n) q.normal job);
  past = λ n l. omega (arith, h.past n l, total_push (job_answers n) q.normal job);
  unasked = h.unasked;
  in_hand = h.in_hand.1;
  handlers_know = h.handlers_know;
  normal_know = all_push (JobKnows p.trace) q.normal job h.normal_know h.in_hand.0;
  low_know = h.low_know;
  rules = h.rules;
}

-- ---- handlers
-- one that answers nothing waits
pub waiting_served : (hand : List Task) (g : Registration Frame) (p : Parts) → IsNoAnswer g.frame → Serving hand p
    → Serving hand (record p { handlers = p.handlers ++ g ∷ [] })
waiting_served hand g p n h = record {
  count = h.count;
  once = λ q. omega (arith, h.once q, total_push (handler_answers q) p.handlers g, no_answer q g.frame n);
  past = λ q l. omega (arith, h.past q l, total_push (handler_answers q) p.handlers g, no_answer q g.frame n);
  unasked = h.unasked;
  in_hand = h.in_hand;
  handlers_know = all_push (HandlerKnows p.trace) p.handlers g h.handlers_know (no_waiting p.trace g.frame g.ivar n);
  normal_know = h.normal_know;
  low_know = h.low_know;
  rules = h.rules;
}

-- some are forgotten
pub fewer_served : (hand : List Task) (test : Registration Frame → Bool) (p : Parts) → Serving hand p
    → Serving hand (record p { handlers = filter test p.handlers })
fewer_served hand test p h = record {
  count = h.count;
  once = λ q. omega (arith, h.once q, total_filter (handler_answers q) test p.handlers);
  past = λ q l. omega (arith, h.past q l, total_filter (handler_answers q) test p.handlers);
  unasked = h.unasked;
  in_hand = h.in_hand;
  handlers_know = all_filter (HandlerKnows p.trace) test p.handlers h.handlers_know;
  normal_know = h.normal_know;
  low_know = h.low_know;
  rules = h.rules;
}

-- those of an ivar are woken by a number that fills it
abbrev pub woken : ℤ → Registration Frame → Task
woken v g = woken_task g.frame v

woken_knows : (t : List Entry) (i : ℕ) (v : ℤ) (f : Frame) (j : ℕ) → j ≡ i → WaitsFor t f j → AnswersWith (t ++ entry.Fill i v ∷ []) f (Some v)
woken_knows t i v (AnswerOut q) j e h = fills_now q t i v (subst (IsNamed (behind q t)) e h)
woken_knows t i v f j e h = tt

all_woken : (t : List Entry) (i : ℕ) (v : ℤ) (gs : List (Registration Frame)) → AllByRecursion (HandlerKnows t) gs
    → AllByRecursion (TaskKnows (t ++ entry.Fill i v ∷ [])) (map (woken v) (filter (is_on i) gs))
all_woken t i v [] h = tt
all_woken t i v (g ∷ gs) h = by (g.ivar == i) refl (all_woken t i v gs h.1)
  where
    by : (b : Bool) → (g.ivar == i) ≡ b → AllByRecursion (TaskKnows (t ++ entry.Fill i v ∷ [])) (map (woken v) (filter (is_on i) gs))
        → AllByRecursion (TaskKnows (t ++ entry.Fill i v ∷ [])) (map (woken v) (cond b (g ∷ filter (is_on i) gs) (filter (is_on i) gs)))
    by true e rest = (woken_knows t i v g.frame g.ivar (eqb-true g.ivar i e) h.0, rest)
    by false e rest = rest

pub filled_served : (i : ℕ) (v : ℤ) (p : Parts) → Serving [] p
    → Serving (map (woken v) (filter (is_on i) p.handlers))
    (record p { handlers = filter (is_off i) p.handlers; trace = p.trace ++ entry.Fill i v ∷ [] })
filled_served i v p h =
    let after : Serving [] (record p { trace = p.trace ++ entry.Fill i v ∷ [] }) = entry_served [] p (entry.Fill i v) tt h
    in record {
      count = after.count;
      once = λ q. omega (arith, after.once q, moved q);
      past = λ q l. omega (arith, after.past q l, moved q);
      unasked = after.unasked;
      in_hand = all_woken p.trace i v p.handlers h.handlers_know;
      handlers_know = all_filter (HandlerKnows (p.trace ++ entry.Fill i v ∷ [])) (is_off i) p.handlers after.handlers_know;
      normal_know = after.normal_know;
      low_know = after.low_know;
      rules = after.rules;
    }
  where
    moved : (q : ℕ) → total (task_answers q) (map (woken v) (filter (is_on i) p.handlers)) + total (handler_answers q) (filter (is_off i) p.handlers)
        ≡ total (handler_answers q) p.handlers
    moved q = omega (
      arith,
      total_of_map (task_answers q) (woken v) (filter (is_on i) p.handlers),
      total_parts (handler_answers q) (is_on i) (is_off i) (λ g. refl) p.handlers,
    )

-- ---- a join renames
renamed_waits : (t : List Entry) (result right : ℕ) (f : Frame) (i : ℕ) → WaitsFor t f i
    → WaitsFor (t ++ entry.Join result right ∷ []) (frame_mapped (renamed right result) f) (renamed right result i)
renamed_waits t result right (AnswerOut q) i h =
    subst (IsNamed (behind q (t ++ entry.Join result right ∷ []))) (same (right == i) (i == right) refl refl)
    (named_more q t (entry.Join result right) i h)
  where
    same : (b c : Bool) → (right == i) ≡ b → (i == right) ≡ c → cond b result i ≡ cond c result i
    same true true e d = refl
    same true false e d = absurd (true≢false (sym (eq-eqb i right (sym (eqb-true right i e))) ∙ d))
    same false true e d = absurd (true≢false (sym (eq-eqb right i (sym (eqb-true i right d))) ∙ e))
    same false false e d = refl
renamed_waits t result right (Call proc vals ret) i h = tt
renamed_waits t result right (OnValue proc vals ret) i h = tt
renamed_waits t result right (AllPart g k) i h = tt
renamed_waits t result right (ChoicePart g) i h = tt
renamed_waits t result right (TryDone g) i h = tt
renamed_waits t result right (BodyDone b) i h = tt
renamed_waits t result right (BodyFailed b e) i h = tt
renamed_waits t result right (Raise e) i h = tt

mapped_knows : (t : List Entry) (m : ℕ → ℕ) (f : Frame) (v : Option ℤ) → AnswersWith t f v → AnswersWith t (frame_mapped m f) v
mapped_knows t m (AnswerOut q) v h = h
mapped_knows t m (Call proc vals ret) v h = tt
mapped_knows t m (OnValue proc vals ret) v h = tt
mapped_knows t m (AllPart g k) v h = tt
mapped_knows t m (ChoicePart g) v h = tt
mapped_knows t m (TryDone g) v h = tt
mapped_knows t m (BodyDone b) v h = tt
mapped_knows t m (BodyFailed b e) v h = tt
mapped_knows t m (Raise e) v h = tt

mapped_answers : (q : ℕ) (m : ℕ → ℕ) (f : Frame) → frame_answers q (frame_mapped m f) ≡ frame_answers q f
mapped_answers q m (AnswerOut p) = refl
mapped_answers q m (Call proc vals ret) = refl
mapped_answers q m (OnValue proc vals ret) = refl
mapped_answers q m (AllPart g k) = refl
mapped_answers q m (ChoicePart g) = refl
mapped_answers q m (TryDone g) = refl
mapped_answers q m (BodyDone b) = refl
mapped_answers q m (BodyFailed b e) = refl
mapped_answers q m (Raise e) = refl

same_total : {A : Type 0} (f : A → ℕ) (m : A → A) → ((x : A) → f (m x) ≡ f x) → (xs : List A) → total f (map m xs) ≡ total f xs
same_total f m h [] = refl
same_total f m h (x ∷ xs) = omega (arith, h x, same_total f m h xs)

pub joined_served : (result right : ℕ) (p : Parts) → Serving [] p
    → Serving [] (record p {
      queues = queues_mapped (renamed right result) p.queues;
      handlers = map (registration_mapped (renamed right result)) p.handlers;
      trace = p.trace ++ entry.Join result right ∷ [];
    })
joined_served result right p h =
    let e : Entry = entry.Join result right
    in let m : ℕ → ℕ = renamed right result
    in let t : List Entry = p.trace ++ entry.Join result right ∷ []
    in record {
      count = asked_same p.trace (entry.Join result right) refl ∙ h.count;
      once = λ q. omega (arith, h.once q, same q);
      past = λ q l. omega (arith, h.past q l, same q);
      unasked = λ q l. still_none q p.trace (entry.Join result right) (h.unasked q l) refl;
      in_hand = tt;
      handlers_know = all_map (HandlerKnows p.trace) (HandlerKnows t) (registration_mapped m)
          (λ g k. renamed_waits p.trace result right g.frame g.ivar k) p.handlers h.handlers_know;
      normal_know = all_map (JobKnows p.trace) (JobKnows t) (job_mapped m)
          (λ job k. mapped_knows t m job.frame.frame job.frame.value (with_answers p.trace e job.frame.frame job.frame.value k))
          p.queues.normal h.normal_know;
      low_know = all_map (JobKnows p.trace) (JobKnows t) (job_mapped m)
          (λ job k. mapped_knows t m job.frame.frame job.frame.value (with_answers p.trace e job.frame.frame job.frame.value k))
          p.queues.low h.low_know;
      rules = served_push [] p.trace (entry.Join result right) (λ q g. absurd (true≢false (sym g))) tt h.rules;
    }
  where
    same : (q : ℕ) → answers q [] (record p {
      queues = queues_mapped (renamed right result) p.queues;
      handlers = map (registration_mapped (renamed right result)) p.handlers;
      trace = p.trace ++ entry.Join result right ∷ [];
    }) ≡ answers q [] p
    same q = omega (
      arith,
      same_total (handler_answers q) (registration_mapped (renamed right result)) (λ g. mapped_answers q (renamed right result) g.frame) p.handlers,
      same_total (job_answers q) (job_mapped (renamed right result)) (λ job. mapped_answers q (renamed right result) job.frame.frame) p.queues.normal,
      same_total (job_answers q) (job_mapped (renamed right result)) (λ job. mapped_answers q (renamed right result) job.frame.frame) p.queues.low,
      total_push (entry_answers q) p.trace (entry.Join result right),
    )

-- ---- a request, with the handler that answers it
abbrev pub answering : ℕ → ℕ → ℕ → Ctx → Registration Frame
answering q r number ctx = record { number = number; ivar = r; ctx = ctx; frame = AnswerOut q }

asks_here : (q : ℕ) (t : List Entry) (n : ℤ) (r : ℕ) → behind q t ≡ None → behind q (t ++ entry.Request q n r ∷ []) ≡ Some (r, [])
asks_here q t n r h =
    behind_more q t (entry.Request q n r)
    ∙ ap (λ o. or_else o (behind q (entry.Request q n r ∷ []))) (none (behind q t) h)
    ∙ subst (λ b. cond {A = Option (ℕ × List Entry)} b (Some (r, [])) None ≡ Some (r, [])) (sym (eq-eqb q q refl)) refl
  where
    none : (o : Option (ℕ × List Entry)) → o ≡ None
        → option_map (longer (entry.Request q n r)) o ≡ None
    none None f = refl
    none (Some x) f = absurd (cc)

pub asked_served : (n : ℤ) (r number : ℕ) (ctx : Ctx) (p : Parts) → Serving [] p
    → Serving [] (record p {
      handlers = p.handlers ++ answering p.requests r number ctx ∷ [];
      requests = p.requests + 1;
      trace = p.trace ++ entry.Request p.requests n r ∷ [];
    })
asked_served n r number ctx p h =
    let e : Entry = entry.Request p.requests n r
    in let g : Registration Frame = answering p.requests r number ctx
    in let t : List Entry = p.trace ++ entry.Request p.requests n r ∷ []
    in record {
      count = omega (arith, asked_one p.trace p.requests n r, h.count);
      once = λ q. by q (p.requests == q) refl;
      past = λ q l. omega (arith, h.past q (omega (arith, l)), total_push (handler_answers q) p.handlers g, total_push (entry_answers q) p.trace e, later q l);
      unasked = λ q l. still_none q p.trace e (h.unasked q (omega (arith, l)))
          (subst (λ b. cond {A = Option (ℕ × List Entry)} b (Some (r, [])) None ≡ None) (sym (other_than p.requests q (λ same. omega (arith, same, l)))) refl);
      in_hand = tt;
      handlers_know = all_push (HandlerKnows t) p.handlers g
          (all_by (HandlerKnows p.trace) (HandlerKnows t) (λ x k. with_waits p.trace e x.frame x.ivar k) p.handlers h.handlers_know)
          (subst (λ o. IsNamed o r) (sym (asks_here p.requests p.trace n r (h.unasked p.requests (omega arith)))) refl);
      normal_know = all_by (JobKnows p.trace) (JobKnows t)
          (λ job k. with_answers p.trace e job.frame.frame job.frame.value k) p.queues.normal h.normal_know;
      low_know = all_by (JobKnows p.trace) (JobKnows t)
          (λ job k. with_answers p.trace e job.frame.frame job.frame.value k) p.queues.low h.low_know;
      rules = served_push [] p.trace e (λ q f. absurd (true≢false (sym f))) (sym h.count) h.rules;
    }
  where
    later : (q : ℕ) → p.requests + 1 ≤ q → handler_answers q (answering p.requests r number ctx) ≡ 0
    later q l = subst (λ b. ◌≡◌ {A = ℕ} (cond b 1 0) 0) (sym (other_than p.requests q (λ same. omega (arith, same, l)))) refl

    by : (q : ℕ) (b : Bool) → (p.requests == q) ≡ b → answers q [] (record p {
      handlers = p.handlers ++ answering p.requests r number ctx ∷ [];
      requests = p.requests + 1;
      trace = p.trace ++ entry.Request p.requests n r ∷ [];
    }) ≤ 1
    by q true f =
        let none : answers q [] p ≡ 0 = h.past q (omega (arith, eqb-true p.requests q f))
        in let one : handler_answers q (answering p.requests r number ctx) ≡ 1 = subst (λ b. ◌≡◌ {A = ℕ} (cond b 1 0) 1) (sym f) refl
        in omega (
          arith,
          none,
          one,
          total_push (handler_answers q) p.handlers (answering p.requests r number ctx),
          total_push (entry_answers q) p.trace (entry.Request p.requests n r),
        )
    by q false f =
        let none : handler_answers q (answering p.requests r number ctx) ≡ 0 = subst (λ b. ◌≡◌ {A = ℕ} (cond b 1 0) 0) (sym f) refl
        in omega (
          arith,
          h.once q,
          none,
          total_push (handler_answers q) p.handlers (answering p.requests r number ctx),
          total_push (entry_answers q) p.trace (entry.Request p.requests n r),
        )

-- ---- an answer from the hand
none_told : (q : ℕ) (t : List Entry) → total (entry_answers q) t ≡ 0 → list_any (is_answer_of q) t ≡ false
none_told q [] h = refl
none_told q (entry.Answer p v ∷ t) h = by (p == q) h (none_told q t)
  where
    by : (b : Bool) → cond b 1 0 + total (entry_answers q) t ≡ 0 → (total (entry_answers q) t ≡ 0 → list_any (is_answer_of q) t ≡ false)
        → (b || list_any (is_answer_of q) t) ≡ false
    by true g k = absurd (omega (arith, g))
    by false g k = k (omega (arith, g))
none_told q (e ∷ t) h = none_told q t (omega (arith, h))

pub answered_served : (q : ℕ) (v : Option ℤ) (p : Parts) → Serving (record { frame = AnswerOut q; value = v } ∷ []) p
    → Serving [] (record p { trace = p.trace ++ entry.Answer q (value_or_zero v) ∷ [] })
answered_served q v p h =
    let e : Entry = entry.Answer q (value_or_zero v)
    in let t : List Entry = p.trace ++ entry.Answer q (value_or_zero v) ∷ []
    in record {
      count = asked_same p.trace e refl ∙ h.count;
      once = λ n. omega (arith, h.once n, total_push (entry_answers n) p.trace (entry.Answer q (value_or_zero v)));
      past = λ n l. omega (arith, h.past n l, total_push (entry_answers n) p.trace (entry.Answer q (value_or_zero v)));
      unasked = λ n l. still_none n p.trace e (h.unasked n l) refl;
      in_hand = tt;
      handlers_know = all_by (HandlerKnows p.trace) (HandlerKnows t) (λ g k. with_waits p.trace e g.frame g.ivar k) p.handlers h.handlers_know;
      normal_know = all_by (JobKnows p.trace) (JobKnows t)
          (λ job k. with_answers p.trace e job.frame.frame job.frame.value k) p.queues.normal h.normal_know;
      low_know = all_by (JobKnows p.trace) (JobKnows t)
          (λ job k. with_answers p.trace e job.frame.frame job.frame.value k) p.queues.low h.low_know;
      rules = served_push [] p.trace e (λ n f. first n (eqb-true q n f)) (h.in_hand.0, refl) h.rules;
    }
  where
    -- it was not answered before
    first : (n : ℕ) → q ≡ n → list_any (is_answer_of n) p.trace ≡ false
    first n same =
        let one : cond (q == n) 1 0 ≡ 1 = subst (λ b. ◌≡◌ {A = ℕ} (cond b 1 0) 1) (sym (eq-eqb q n same)) refl
        in none_told n p.trace (omega (arith, h.once n, one))
