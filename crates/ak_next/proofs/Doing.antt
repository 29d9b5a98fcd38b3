-- What a thread and an asker do next, by what the pool keeps; and that it is legal.
use Rattle.std.proofs.Common.{◌≡◌, ◌⊎◌, inl, inr, ℕ, ◌+◌, ◌*◌, ◌<◌, Bool, true, false, cond, List, [], ◌∷◌, length, refl, sym, ap, subst, ◌∙◌}
use Rattle.std.specs.Prelude.{◌||◌, ◌&&◌, ◌==◌, not, ◌↔◌, pos, map, filter, find, nat_lt, Option, Some, None, is_some}
use Rattle.std.specs.Option.{option_map}
use Rattle.std.specs.List.{filter_map, list_any}
use Rattle.std.proofs.lemmas.Bool.{eq-eqb}
use Rattle.ak_base.specs.Lists.{first_of}
use Rattle.ak_labor.specs.declared.work.Work.{Work}
use Rattle.ak_labor.specs.Value.{value_of}
use Rattle.ak_labor.specs.Waits.{Handed}
use Rattle.ak_history.specs.declared.event.Event.{Event}
use Rattle.ak_history.specs.declared.event.Event.TheVariants as event
use Rattle.ak_history.specs.Events.{Begun, Reserved, begun, handed, asked, numbers_below, reserved_in, work_at, is_begun, is_finished, is_running, is_close, has_left, is_served}
use Rattle.ak_history.specs.Legal.{Legal, IsLegalAfter, HasValue, IsIdle}
use Rattle.ak_pool.specs.declared.task.Task.{Task}
use Rattle.ak_pool.specs.Desks.{DeskState, thread_at, next_by, next_of}
use Rattle.ak_pool.specs.Facts.{facts_of, task_of, unbegun}
use Rattle.ak_pool.specs.Pools.{IsOpen, MayStart, StartsNone}
use Rattle.ak_pool.specs.Stands.{Each, Stands, IsQueueFor, begun_list, reserved_list}
use Rattle.ak_pool.proofs.Items.{any_from_find, find_passes, each_append, each_map}
use Rattle.ak_pool.proofs.Legality.{not_closed}
use Rattle.ak_pool.proofs.Pools.{idle_of, may_is, task_id}
use Rattle.ak_history_laws.specs.Asked.{requests_of}
use Rattle.ak_history_laws.specs.Behind.{IsNotByScheduler}
use Rattle.ak_history_laws.proofs.Legals.{left_by}
use Rattle.ak_history_laws.proofs.Parts.{or_parts, and_no}
use Rattle.ak_asker_laws.proofs.Staying.{and_parts}
use Rattle.ak_next.specs.Next.{Crowd, work_on, helper_on, is_work_of, work_for, thread_acts, thread_next, asker_acts, asker_next, may_happen}
use Rattle.ak_next.proofs.Lists.{found_first, any_at, mapped_some, is_some_mapped, same_options, IsGiven, each_given}

-- ---- by the desk
begun_first : (t : ℕ) (o : Option Task) → option_map (λ (b : Begun). b.id) (first_of (begun_list t o)) ≡ task_id o
begun_first t None = refl
begun_first t (Some task) = refl

held_first : (t : ℕ) (o : Option ℕ) → option_map (λ (r : Reserved). r.helper) (first_of (reserved_list t o)) ≡ o
held_first t None = refl
held_first t (Some h) = refl

work_first : (ws : List Handed) → option_map (λ (w : Handed). w.id) (first_of ws) ≡ task_id (first_of (map task_of ws))
work_first [] = refl
work_first (w ∷ ws) = refl

-- the first of the works that wait
waits_first : (xs : List Event) (o : Option ℕ) → work_for xs o ≡ task_id (first_of (unbegun (handed xs) (begun xs) o))
waits_first xs None =
    ap (option_map (λ (w : Handed). w.id)) (found_first (λ (w : Handed). is_work_of None w && not (is_begun xs w.id)) (handed xs))
    ∙ work_first (filter (λ (w : Handed). is_work_of None w && not (is_begun xs w.id)) (handed xs))
waits_first xs (Some h) =
    ap (option_map (λ (w : Handed). w.id)) (found_first (λ (w : Handed). is_work_of (Some h) w && not (is_begun xs w.id)) (handed xs))
    ∙ work_first (filter (λ (w : Handed). is_work_of (Some h) w && not (is_begun xs w.id)) (handed xs))

module _ (threads : ℕ) (xs : List Event) (s : DeskState) (st : Stands threads (facts_of xs) s) (t : ℕ) (lt : t < threads) where
  -- the work that a thread runs
  pub work_is : work_on xs t ≡ task_id (thread_at s t).running
  work_is =
      ap (option_map (λ (b : Begun). b.id)) (found_first (λ (b : Begun). b.thread == t && not (is_finished xs b.id)) (begun xs))
      ∙ (ap (λ l. option_map (λ (b : Begun). b.id) (first_of l)) (st.each_thread t lt).running ∙ begun_first t (thread_at s t).running)

  -- the helper that has it
  pub helper_is : helper_on xs t ≡ (thread_at s t).helper
  helper_is =
      ap (option_map (λ (r : Reserved). r.helper)) (found_first _ (filter_map reserved_in xs))
      ∙ (ap (λ l. option_map (λ (r : Reserved). r.helper) (first_of l)) (st.each_thread t lt).held ∙ held_first t (thread_at s t).helper)

  -- the work that waits for it
  pub next_is : work_for xs (helper_on xs t) ≡ task_id (next_of s t)
  next_is = ap (work_for xs) helper_is ∙ by (thread_at s t).helper refl
    where
      by : (o : Option ℕ) → (thread_at s t).helper ≡ o → work_for xs o ≡ task_id (next_by o s t)
      by None e = waits_first xs None ∙ ap (λ l. task_id (first_of l)) (sym st.waiting)
      by (Some h) e =
          waits_first xs (Some h)
          ∙ ap (λ l. task_id (first_of l)) (sym (subst (λ o. IsQueueFor (handed xs) (begun xs) (facts_of xs).ended o (thread_at s t)) e
          (st.each_thread t lt).queue).0)

-- ---- threads
-- whether a thread runs a work
pub runs_is : (xs : List Event) (t : ℕ) → is_running xs t ≡ is_some (work_on xs t)
runs_is xs t =
    sym (any_from_find (λ (b : Begun). b.thread == t && not (is_finished xs b.id)) (begun xs))
    ∙ sym (is_some_mapped (λ (b : Begun). b.id) (find (λ (b : Begun). b.thread == t && not (is_finished xs b.id)) (begun xs)))

pub idle_is : (xs : List Event) (t : ℕ) → work_on xs t ≡ None → is_running xs t ≡ false
idle_is xs t none = runs_is xs t ∙ ap is_some none

module _ (threads askers : ℕ) (xs : List Event) (legal : Legal threads askers xs) (t : ℕ) (lt : t < threads) (idle : work_on xs t ≡ None) where
  may : IsOpen xs → (id : ℕ) → (work_for xs (helper_on xs t) ≡ Some id) ↔ MayStart threads xs t id
  may unclosed id =
      let k = left_by threads askers xs legal in
      subst (λ o. (o ≡ Some id) ↔ MayStart threads xs t id) (sym (next_is threads xs k.desk k.stands t lt))
      (may_is threads xs k.desk t id k.stands (k.stands.closed ∙ unclosed) lt (idle_of threads xs k.desk t k.stands lt (idle_is xs t idle)))

  -- LAW. A thread that runs nothing may start just the work that waits for it.
  pub starts_is : (id : ℕ) → MayStart threads xs t id → work_for xs (helper_on xs t) ≡ Some id
  starts_is id may_start = (may may_start.0 id).1 may_start

  pub may_begin : IsOpen xs → (id : ℕ) → work_for xs (helper_on xs t) ≡ Some id → MayStart threads xs t id
  may_begin unclosed id e = (may unclosed id).0 e

  pub starts_none : IsOpen xs → StartsNone threads xs t → work_for xs (helper_on xs t) ≡ None
  starts_none unclosed none =
      same_options (work_for xs (helper_on xs t)) None (λ id e. absurd (none id ((may unclosed id).0 e))) (λ id e. absurd (cc e))

  pub given_is : IsOpen xs → (o : Option ℕ) → ((id : ℕ) → (o ≡ Some id) ↔ MayStart threads xs t id) → o ≡ work_for xs (helper_on xs t)
  given_is unclosed o is =
      same_options o (work_for xs (helper_on xs t)) (λ id e. (may unclosed id).1 ((is id).0 e)) (λ id e. (is id).1 ((may unclosed id).0 e))

has_value : (o : Option Handed) (work : Work) → option_map (λ (w : Handed). w.work) o ≡ Some work → HasValue o (value_of work)
has_value None work e = absurd (cc e)
has_value (Some w) work e = let same : w.work ≡ work = cc e in sym (ap value_of same)

-- LAW. A thread may finish the work that it runs, with its value.
pub finish_legal : (threads askers : ℕ) (xs : List Event) (t id : ℕ) (work : Work) → work_on xs t ≡ Some id
    → option_map (λ (w : Handed). w.work) (work_at xs id) ≡ Some work → IsLegalAfter threads askers xs (event.Finish t id (value_of work))
finish_legal threads askers xs t id work runs has =
    let p = λ (b : Begun). b.thread == t && not (is_finished xs b.id) in
    let k = mapped_some (λ (b : Begun). b.id) (find p (begun xs)) id runs in
    let two = and_parts (k.0.thread == t) (not (is_finished xs k.0.id)) (find_passes p (begun xs) k.0 k.1) in
    record {
      open_or_late = and_no (list_any is_close xs);
      rule = (
        any_at p (λ (b : Begun). b.thread == t && b.id == id) (begun xs) k.0 k.1 (ap (λ c. c && k.0.id == id) two.0 ∙ same k.0.id id k.2),
        ap (is_finished xs) (sym k.2) ∙ not_true (is_finished xs k.0.id) two.1,
        has_value (work_at xs id) work has,
      );
    }
  where
    same : (n m : ℕ) → n ≡ m → (n == m) ≡ true
    same n m e = eq-eqb n m e

    not_true : (b : Bool) → not b ≡ true → b ≡ false
    not_true true e = absurd (cc e)
    not_true false e = refl

-- ---- what happens
-- an event is what a thread or an asker does next
abbrev pub Happens : Crowd → List Event → Event → Type 0
Happens crowd xs e = IsGiven (thread_next xs) crowd.threads e ⊎ IsGiven (asker_next crowd xs) crowd.askers e

pub each_happens : (crowd : Crowd) (xs : List Event) → Each (Happens crowd xs) (may_happen crowd xs)
each_happens crowd xs =
    let threads = filter_map (thread_next xs) (numbers_below crowd.threads) in
    let askers = filter_map (asker_next crowd xs) (numbers_below crowd.askers) in
    each_append (Happens crowd xs) threads askers
    (each_map (IsGiven (thread_next xs) crowd.threads) (Happens crowd xs) (λ e g. inl g) threads (each_given (thread_next xs) crowd.threads))
    (each_map (IsGiven (asker_next crowd xs) crowd.askers) (Happens crowd xs) (λ e g. inr g) askers (each_given (asker_next crowd xs) crowd.askers))

-- what happens is legal, and no call of the scheduler
pub record IsOwn (threads askers : ℕ) (xs : List Event) (e : Event) : Type 0 where
  pub legal : IsLegalAfter threads askers xs e
  pub other : IsNotByScheduler e

-- an asker that does something next has not ended, and has an answer to each of its requests
pub asker_idle : (crowd : Crowd) (xs : List Event) (a : ℕ) (e : Event) → a < crowd.askers → asker_next crowd xs a ≡ Some e
    → IsIdle crowd.askers xs a × (asker_acts crowd xs a (length (requests_of a xs)) ≡ e)
asker_idle crowd xs a e lt is = one (has_left xs a || not (is_served xs a)) refl is
  where
    acts : Event
    acts = asker_acts crowd xs a (length (requests_of a xs))

    not_false : (b : Bool) → not b ≡ false → b ≡ true
    not_false true h = refl
    not_false false h = absurd (cc h)

    one : (b : Bool) → (has_left xs a || not (is_served xs a)) ≡ b → cond b None (Some acts) ≡ Some e → IsIdle crowd.askers xs a × (acts ≡ e)
    one true now k = absurd (cc k)
    one false now k =
        let parts = or_parts (has_left xs a) (not (is_served xs a)) now in
        (record { exists = lt; not_ended = parts.0; served = not_false (is_served xs a) parts.1 }, cc k)

module _ (crowd : Crowd) (xs : List Event) (legal : Legal crowd.threads crowd.askers xs) (unclosed : IsOpen xs) where
  thread_own : (t : ℕ) (e : Event) → t < crowd.threads → (o : Option ℕ) → work_on xs t ≡ o → thread_acts xs t o ≡ Some e
      → IsOwn crowd.threads crowd.askers xs e
  thread_own t e lt None idle is =
      let k = mapped_some (λ (id : ℕ). event.Start t id) (work_for xs (helper_on xs t)) e is in
      let may_start = may_begin crowd.threads crowd.askers xs legal t lt idle unclosed k.0 k.1 in
      subst (IsOwn crowd.threads crowd.askers xs) k.2
      (record { legal = record { open_or_late = not_closed (list_any is_close xs) unclosed; rule = may_start.1 }; other = tt })
  thread_own t e lt (Some id) runs is =
      let k = mapped_some (λ (w : Handed). event.Finish t id (value_of w.work)) (work_at xs id) e is in
      subst (IsOwn crowd.threads crowd.askers xs) k.2
      (record {
        legal = finish_legal crowd.threads crowd.askers xs t id k.0.work runs (ap (option_map (λ (w : Handed). w.work)) k.1);
        other = tt;
      })

  asker_own : (a : ℕ) → IsIdle crowd.askers xs a → (made : ℕ) → IsOwn crowd.threads crowd.askers xs (asker_acts crowd xs a made)
  asker_own a idle made = one (nat_lt made crowd.each)
    where
      open_now : (list_any is_close xs && true) ≡ false
      open_now = not_closed (list_any is_close xs) unclosed

      one : (b : Bool) → IsOwn crowd.threads crowd.askers xs
          (cond b (event.Request (length (asked xs)) a (pos (a * 1000 + made))) (event.AskerEnd a))
      one true = record { legal = record { open_or_late = open_now; rule = (refl, idle) }; other = tt }
      one false = record { legal = record { open_or_late = open_now; rule = idle }; other = tt }

  -- LAW. What may happen next is legal, and is no call of the scheduler.
  pub happens_own : (e : Event) → Happens crowd xs e → IsOwn crowd.threads crowd.askers xs e
  happens_own e (inl g) = thread_own g.0 e g.1 (work_on xs g.0) refl g.2
  happens_own e (inr g) =
      let k = asker_idle crowd xs g.0 e g.1 g.2 in
      subst (IsOwn crowd.threads crowd.askers xs) k.1 (asker_own g.0 k.0 (length (requests_of g.0 xs)))
