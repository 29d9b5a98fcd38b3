-- Where the scheduler may wait, something may happen or a drain has something to tell.
use Rattle.std.proofs.Common.{◌≡◌, ◌≢◌, ◌⊎◌, inl, inr, ℕ, ◌≤◌, ◌<◌, Bool, true, false, cond, List, [], ◌∷◌, ◌++◌, length, refl, sym, ap, subst, ◌∙◌, arith}
use Rattle.std.specs.Prelude.{◌||◌, ◌&&◌, ◌==◌, not, map, filter, find, Option, Some, None, is_some, is_none}
use Rattle.std.specs.Option.{option_map}
use Rattle.std.specs.List.{list_any, list_all, filter_map, flat_map}
use Rattle.std.proofs.lemmas.Bool.{eq-eqb, eqb-true, false_from_ne_true}
use Rattle.std.proofs.lemmas.List.Elements.{filter_map-append}
use Rattle.ak_base.specs.Lists.{first_of}
use Rattle.ak_labor.specs.declared.work.Outcome.{Outcome}
use Rattle.ak_labor.specs.Value.{value_of}
use Rattle.ak_labor.specs.Waits.{Handed, is_out, is_pair_of, pairs_in, outstanding, is_for_helper, active_helpers, CanWork}
use Rattle.ak_history.specs.declared.event.Event.{Event}
use Rattle.ak_history.specs.declared.event.Event.TheVariants as event
use Rattle.ak_history.specs.Events.{Begun, Reserved, begun, finished, handed, handed_in, reserved_in, drained_in, work_at, owed, is_among, is_active, is_begun, is_ended, is_finished, is_for, is_granted, is_over, is_running, is_that}
use Rattle.ak_history.specs.Legal.{Legal, IsLegalAfter, IsServed}
use Rattle.ak_history.specs.Scheduler.{asks, replies}
use Rattle.ak_pool.specs.declared.task.Task.{Task}
use Rattle.ak_pool.specs.Desks.{DeskState, thread_at, next_by, next_of}
use Rattle.ak_pool.specs.Facts.{facts_of, task_of, is_of, work_in, thread_in, held_on}
use Rattle.ak_pool.specs.Stands.{Each, Stands, IsBegunOnce, IsGrantedOnce, IsQueueFor, IsTaskFor, reserved_list}
use Rattle.ak_pool.proofs.Growing.{map_kept, map_last}
use Rattle.ak_pool.proofs.Items.{any_from_find, any_more, any_none, any_one, each_all, each_both, each_filter, each_find, each_last, each_map, each_one, each_passes, filter_nil, filter_none, some_found, unfilter, find_passes}
use Rattle.ak_pool.proofs.Judging.{runs_is, held_is}
use Rattle.ak_pool.proofs.Numbers.{numbered_grow, findable}
use Rattle.ak_pool.proofs.Overs.{not_all, all_filter}
use Rattle.ak_pool.proofs.Pools.{task_id}
use Rattle.ak_pool.proofs.Rows.{helper_of}
use Rattle.ak_history_laws.proofs.Arrivals.{handed_alike, brought_is}
use Rattle.ak_history_laws.proofs.Helpers.{alike}
use Rattle.ak_history_laws.proofs.Legals.{legal_keeps}
use Rattle.ak_history_laws.proofs.Parts.{and_no}
use Rattle.ak_history_laws.proofs.Once.{each_among}
use Rattle.ak_asker_laws.proofs.Staying.{and_parts}
use Rattle.ak_next.specs.Next.{work_on, helper_on, work_for, ends_work, thread_acts, thread_next}
use Rattle.ak_next.proofs.Doing.{work_is, next_is}
use Rattle.ak_next.proofs.Lists.{any_at, is_some_mapped, mapped_none, no_more}

-- ---- each helper that a work was handed in for was granted
abbrev IsGrantedTo : List Event → Option ℕ → Type 0
IsGrantedTo xs None = Unit {0}
IsGrantedTo xs (Some h) = is_granted xs h ≡ true

granted_on : (xs ys : List Event) (o : Option ℕ) → IsGrantedTo xs o → IsGrantedTo (xs ++ ys) o
granted_on xs ys None is = tt
granted_on xs ys (Some h) is =
    ap (list_any (λ (r : Reserved). r.helper == h)) (filter_map-append reserved_in xs ys)
    ∙ any_more (λ (r : Reserved). r.helper == h) (filter_map reserved_in xs) (filter_map reserved_in ys) is

served_granted : (xs : List Event) (o : Option ℕ) → IsServed xs o → IsGrantedTo xs o
served_granted xs None is = tt
served_granted xs (Some h) is = (and_parts (is_granted xs h) (not (is_ended xs h)) is).0

-- an event that hands nothing in
granted_kept : (xs : List Event) (e : Event) → handed_in e ≡ None → Each (λ (w : Handed). IsGrantedTo xs w.helper) (handed xs)
    → Each (λ (w : Handed). IsGrantedTo (xs ++ e ∷ []) w.helper) (handed (xs ++ e ∷ []))
granted_kept xs e none h =
    subst (Each (λ (w : Handed). IsGrantedTo (xs ++ e ∷ []) w.helper)) (sym (map_kept handed_in xs e none))
    (each_map (λ (w : Handed). IsGrantedTo xs w.helper) (λ (w : Handed). IsGrantedTo (xs ++ e ∷ []) w.helper)
    (λ w k. granted_on xs (e ∷ []) w.helper k) (handed xs) h)

granted_more : (threads askers : ℕ) (xs : List Event) (e : Event) → IsLegalAfter threads askers xs e
    → Each (λ (w : Handed). IsGrantedTo xs w.helper) (handed xs) → Each (λ (w : Handed). IsGrantedTo (xs ++ e ∷ []) w.helper) (handed (xs ++ e ∷ []))
granted_more threads askers xs (event.Submit id work helper) is h =
    let e = event.Submit id work helper in
    let w : Handed = record { id = id; work = work; helper = helper } in
    subst (Each (λ (v : Handed). IsGrantedTo (xs ++ e ∷ []) v.helper)) (sym (map_last handed_in xs e w refl))
    (each_last (λ (v : Handed). IsGrantedTo (xs ++ e ∷ []) v.helper) (handed xs) w
    (each_map (λ (v : Handed). IsGrantedTo xs v.helper) (λ (v : Handed). IsGrantedTo (xs ++ e ∷ []) v.helper)
    (λ v k. granted_on xs (e ∷ []) v.helper k) (handed xs) h)
    (granted_on xs (e ∷ []) helper (served_granted xs helper is.rule.1)))
granted_more threads askers xs (event.Start thread id) is h = granted_kept xs (event.Start thread id) refl h
granted_more threads askers xs (event.Finish thread id outcome) is h = granted_kept xs (event.Finish thread id outcome) refl h
granted_more threads askers xs (event.Request q asker n) is h = granted_kept xs (event.Request q asker n) refl h
granted_more threads askers xs (event.AskerEnd asker) is h = granted_kept xs (event.AskerEnd asker) refl h
granted_more threads askers xs (event.Drain ids requests) is h = granted_kept xs (event.Drain ids requests) refl h
granted_more threads askers xs (event.Answered q v) is h = granted_kept xs (event.Answered q v) refl h
granted_more threads askers xs (event.HelperNew k answer) is h = granted_kept xs (event.HelperNew k answer) refl h
granted_more threads askers xs (event.HelperEnd k) is h = granted_kept xs (event.HelperEnd k) refl h
granted_more threads askers xs event.Close is h = granted_kept xs event.Close refl h

all_granted : (threads askers : ℕ) (xs : List Event) → Legal threads askers xs → Each (λ (w : Handed). IsGrantedTo xs w.helper) (handed xs)
all_granted threads askers xs legal =
    legal_keeps threads askers (λ ys. Each (λ (w : Handed). IsGrantedTo ys w.helper) (handed ys)) tt
    (λ ys e h is. granted_more threads askers ys e is h) xs legal

-- ---- lists
nothing_first : {A B : Type 0} (f : A → B) (q : A → Bool) (ws : List A) → first_of (map f (filter q ws)) ≡ None → list_any q ws ≡ false
nothing_first f q [] e = refl
nothing_first {A} {B} f q (w ∷ ws) e = one (q w) e (nothing_first f q ws)
  where
    one : (b : Bool) → first_of (map f (cond b (w ∷ filter q ws) (filter q ws))) ≡ None → (first_of (map f (filter q ws)) ≡ None → list_any q ws ≡ false)
        → (b || list_any q ws) ≡ false
    one true k later = absurd (cc k)
    one false k later = later k

some_kept : {A : Type 0} (q : A → Bool) (ws : List A) → filter q ws ≢ [] → list_any q ws ≡ true
some_kept q ws some = of (list_any q ws) refl
  where
    of : (b : Bool) → list_any q ws ≡ b → b ≡ true
    of true e = refl
    of false e = absurd (some (filter_none q ws (any_none q ws e)))

not_true : (b : Bool) → not b ≡ true → b ≡ false
not_true true e = absurd (cc e)
not_true false e = refl

both_true : (a b : Bool) → a ≡ true → b ≡ true → (a && b) ≡ true
both_true a b e k = ap (λ c. c && b) e ∙ k

both_false : (a b : Bool) → (a ≡ true) → (b ≡ true) → (a && b) ≡ false → ⊥
both_false a b e k none = absurd (cc (sym none ∙ both_true a b e k))

abbrev number_or : Option ℕ → ℕ
number_or None = 0
number_or (Some n) = n

-- ---- nothing happens: each thread runs nothing, and nothing waits for it
module _ (threads askers : ℕ) (xs : List Event) (legal : Legal threads askers xs) (desk : DeskState) (st : Stands threads (facts_of xs) desk)
    (none : (t : ℕ) → t < threads → thread_next xs t ≡ None) (told : owed xs ≡ []) where
  -- a thread that runs a work ends it next
  ends_some : (t id : ℕ) (task : Task) → work_in (handed xs) task.id ≡ Some (record { id = task.id; work = task.work; helper = (thread_at desk t).helper })
      → task.id ≡ id → ends_work xs t id ≡ None → ⊥
  ends_some t id task found same e =
      absurd (cc (sym e ∙ ap (option_map (λ (w : Handed). event.Finish t id (value_of w.work))) (ap (work_at xs) (sym same) ∙ found)))

  idle : (t : ℕ) → t < threads → (thread_at desk t).running ≡ None
  idle t lt = of (thread_at desk t).running refl
    where
      of : (o : Option Task) → (thread_at desk t).running ≡ o → o ≡ None
      of None e = refl
      of (Some task) e =
          let row = st.each_thread t lt in
          let found = subst (IsTaskFor (handed xs) (thread_at desk t).helper) e row.task in
          absurd (ends_some t task.id task found refl
          (ap (thread_acts xs t) (sym (work_is threads xs desk st t lt ∙ ap task_id e)) ∙ none t lt))

  unwaited : (t : ℕ) → t < threads → next_of desk t ≡ None
  unwaited t lt =
      let rests : work_on xs t ≡ None = work_is threads xs desk st t lt ∙ ap task_id (idle t lt) in
      let starts = mapped_none (λ (id : ℕ). event.Start t id) (work_for xs (helper_on xs t))
      (ap (thread_acts xs t) (sym rests) ∙ none t lt) in
      mapped_none (λ (task : Task). task.id) (next_of desk t) (sym (next_is threads xs desk st t lt) ∙ starts)

  -- what is begun is finished
  begun_done : (id : ℕ) → is_begun xs id ≡ true → is_finished xs id ≡ true
  begun_done id e = of (is_finished xs id) refl
    where
      of : (c : Bool) → is_finished xs id ≡ c → c ≡ true
      of true k = refl
      of false k =
          let b = any_one (λ (b : Begun). IsBegunOnce (handed xs) (filter_map reserved_in xs) (begun xs) b × (b.thread < threads)) (λ (b : Begun). b.id == id)
          (begun xs) (each_both _ (λ (b : Begun). b.thread < threads) (begun xs) st.begun_once st.begun_exists) e in
          let same : b.0.id ≡ id = eqb-true b.0.id id b.2 in
          let runs : is_running xs b.0.thread ≡ true =
          any_at (λ (x : Begun). x.id == b.0.id) (λ (x : Begun). x.thread == b.0.thread && not (is_finished xs x.id)) (begun xs) b.0 b.1.0.once
          (both_true (b.0.thread == b.0.thread) (not (is_finished xs b.0.id)) (eq-eqb b.0.thread b.0.thread refl) (ap not (ap (is_finished xs) same ∙ k))) in
          let rests : is_running xs b.0.thread ≡ false = runs_is threads (facts_of xs) desk b.0.thread st b.1.1 ∙ ap is_some (idle b.0.thread b.1.1) in
          absurd (cc (runs, rests))

  unbegun_of : (id : ℕ) → is_finished xs id ≡ false → is_begun xs id ≡ false
  unbegun_of id e = false_from_ne_true (is_begun xs id) (λ k. absurd (cc (e, begun_done id k)))

  -- nothing waits for the helper of a thread
  none_queued : (t h : ℕ) (w : Handed) → t < threads → (thread_at desk t).helper ≡ Some h → work_in (handed xs) w.id ≡ Some w → is_for h w ≡ true
      → is_finished xs w.id ≡ true
  none_queued t h w lt has found for_it = of (is_finished xs w.id) refl
    where
      of : (c : Bool) → is_finished xs w.id ≡ c → c ≡ true
      of true k = refl
      of false k =
          let queue = subst (λ o. IsQueueFor (handed xs) (begun xs) (facts_of xs).ended o (thread_at desk t)) has (st.each_thread t lt).queue in
          let next : next_by (Some h) desk t ≡ None = ap (λ o. next_by o desk t) (sym has) ∙ unwaited t lt in
          let nothing = nothing_first task_of (λ (v : Handed). is_of (Some h) v && not (is_begun xs v.id)) (handed xs) (ap first_of (sym queue.0) ∙ next) in
          let some = any_at (λ (v : Handed). v.id == w.id) (λ (v : Handed). is_of (Some h) v && not (is_begun xs v.id)) (handed xs) w found
          (both_true (is_of (Some h) w) (not (is_begun xs w.id)) for_it (ap not (unbegun_of w.id k))) in
          absurd (cc (some, nothing))

  -- a work for a helper is finished
  helper_done : (w : Handed) (h : ℕ) → work_in (handed xs) w.id ≡ Some w → w.helper ≡ Some h → is_finished xs w.id ≡ true
  helper_done w h found for_h = of (is_finished xs w.id) refl
    where
      for_it : is_for h w ≡ true
      for_it = ap (is_that h) for_h ∙ eq-eqb h h refl

      of : (c : Bool) → is_finished xs w.id ≡ c → c ≡ true
      of true k = refl
      of false k =
          let reserved = filter_map reserved_in xs in
          let granted : is_granted xs h ≡ true =
          subst (IsGrantedTo xs) for_h
          (each_find (λ (v : Handed). IsGrantedTo xs v.helper) (λ (v : Handed). v.id == w.id) (handed xs) w (all_granted threads askers xs legal) found) in
          let r = some_found (λ (x : Reserved). x.helper == h) reserved granted in
          let of_h : r.0.helper ≡ h = eqb-true r.0.helper h (find_passes (λ (x : Reserved). x.helper == h) reserved r.0 r.1) in
          let lt : r.0.thread < threads =
          (each_find (IsGrantedOnce threads (facts_of xs).helpers reserved) (λ (x : Reserved). x.helper == h) reserved r.0 st.granted_once r.1).exists in
          let not_over : is_over xs r.0.helper ≡ false =
          ap (is_over xs) of_h
          ∙ (ap (λ b. is_ended xs h && b) (not_all (handed xs) (finished xs) h w.id w found for_it k) ∙ and_no (is_ended xs h)) in
          let passes : (r.0.thread == r.0.thread && not (is_over xs r.0.helper)) ≡ true =
          both_true (r.0.thread == r.0.thread) (not (is_over xs r.0.helper)) (eq-eqb r.0.thread r.0.thread refl) (ap not not_over) in
          let held : is_some (thread_at desk r.0.thread).helper ≡ true =
          sym (held_is threads (facts_of xs) desk r.0.thread st lt)
          ∙ any_at (λ (x : Reserved). x.helper == h) (λ (x : Reserved). x.thread == r.0.thread && not (is_over xs x.helper)) reserved r.0 r.1 passes in
          by r.0 r.1 of_h lt passes (thread_at desk r.0.thread).helper refl held
        where
          by : (r : Reserved) → find (λ (x : Reserved). x.helper == h) (filter_map reserved_in xs) ≡ Some r → r.helper ≡ h → r.thread < threads
              → (r.thread == r.thread && not (is_over xs r.helper)) ≡ true → (o : Option ℕ) → (thread_at desk r.thread).helper ≡ o → is_some o ≡ true
              → false ≡ true
          by r found_r of_h lt passes None has some = absurd (cc some)
          by r found_r of_h lt passes (Some g) has some =
              let list = (st.each_thread r.thread lt).held ∙ ap (reserved_list r.thread) has in
              let one : Each (λ (x : Reserved). x.helper ≡ g) (held_on (filter_map reserved_in xs) (facts_of xs).ended (finished xs) (handed xs) r.thread) =
              subst (Each (λ (x : Reserved). x.helper ≡ g)) (sym list) (refl, tt) in
              let all = unfilter (λ (x : Reserved). x.helper ≡ g) (λ (x : Reserved). x.thread == r.thread && not (is_over xs x.helper))
              (filter_map reserved_in xs) one in
              let same : r.helper ≡ g =
              each_find (λ (x : Reserved). (x.thread == r.thread && not (is_over xs x.helper)) ≡ true → x.helper ≡ g) (λ (x : Reserved). x.helper == h)
              (filter_map reserved_in xs) r all found_r passes in
              absurd (cc (k, none_queued r.thread h w lt (has ∙ ap Some (sym same ∙ of_h)) found for_it))

  -- ---- works that are out
  abbrev pub IsOut : Handed → Type 0
  IsOut w = (work_in (handed xs) w.id ≡ Some w) × (is_finished xs w.id ≡ false)

  any_first : (q : ℕ) (fs : List (ℕ × Outcome)) → list_any (λ n. n == q) (map (λ (f : ℕ × Outcome). f.0) fs) ≡ list_any (λ (f : ℕ × Outcome). f.0 == q) fs
  any_first q [] = refl
  any_first q (f ∷ fs) = ap (λ b. (f.0 == q) || b) (any_first q fs)

  -- what was not drained is not finished
  undrained : (w : Handed) → is_out (replies askers xs) w ≡ true → is_finished xs w.id ≡ false
  undrained w out =
      false_from_ne_true (is_finished xs w.id) (λ done.
      let drained = flat_map drained_in xs in
      let still : is_among drained w.id ≡ false =
      sym (brought_is threads askers xs w.id legal) ∙ not_true (list_any (is_pair_of w.id) (flat_map pairs_in (replies askers xs))) out in
      let gone = each_among (λ n. not (is_among drained n) ≡ false) (map (λ (f : ℕ × Outcome). f.0) (finished xs)) w.id
      (filter_nil (λ n. not (is_among drained n)) (map (λ (f : ℕ × Outcome). f.0) (finished xs)) told) (any_first w.id (finished xs) ∙ done) in
      absurd (cc (gone, ap not still)))

  outs : outstanding (asks xs) (replies askers xs) ≡ filter (is_out (replies askers xs)) (handed xs)
  outs = ap (filter (is_out (replies askers xs))) (handed_alike xs)

  all_out : Each IsOut (outstanding (asks xs) (replies askers xs))
  all_out =
      subst (Each IsOut) (sym outs)
      (each_map (λ (w : Handed). (work_in (handed xs) w.id ≡ Some w) × (is_out (replies askers xs) w ≡ true)) IsOut (λ w k. (k.0, undrained w k.1))
      (filter (is_out (replies askers xs)) (handed xs))
      (each_both (λ (w : Handed). work_in (handed xs) w.id ≡ Some w) (λ (w : Handed). is_out (replies askers xs) w ≡ true)
      (filter (is_out (replies askers xs)) (handed xs))
      (each_filter (λ (w : Handed). work_in (handed xs) w.id ≡ Some w) (is_out (replies askers xs)) (handed xs)
      (findable 0 (handed xs) (numbered_grow 0 (handed xs) st.numbered)))
      (each_passes (is_out (replies askers xs)) (handed xs))))

  -- a work that is out is no helper's
  out_general : (w : Handed) → IsOut w → w.helper ≡ None
  out_general w out = of w.helper refl
    where
      of : (o : Option ℕ) → w.helper ≡ o → o ≡ None
      of None e = refl
      of (Some h) e = absurd (cc (out.1, helper_done w h out.0 e))

  -- where a general work is out, each thread is a helper's that is active
  module _ (w : Handed) (out : IsOut w) where
    taken : (t : ℕ) → t < threads → (thread_at desk t).helper ≡ Some (number_or (thread_at desk t).helper)
    taken t lt = of (thread_at desk t).helper refl
      where
        of : (o : Option ℕ) → (thread_at desk t).helper ≡ o → o ≡ Some (number_or o)
        of (Some h) e = refl
        of None e =
            let next : next_by None desk t ≡ None = ap (λ o. next_by o desk t) (sym e) ∙ unwaited t lt in
            let nothing = nothing_first task_of (λ (v : Handed). is_of None v && not (is_begun xs v.id)) (handed xs) (ap first_of (sym st.waiting) ∙ next) in
            let some = any_at (λ (v : Handed). v.id == w.id) (λ (v : Handed). is_of None v && not (is_begun xs v.id)) (handed xs) w out.0
            (both_true (is_of None w) (not (is_begun xs w.id)) (ap is_none (out_general w out)) (ap not (unbegun_of w.id out.1))) in
            absurd (cc (some, nothing))

    held_at : (t : ℕ) → t < threads
        → held_on (filter_map reserved_in xs) (facts_of xs).ended (finished xs) (handed xs) t ≡ reserved_list t (Some (number_or (thread_at desk t).helper))
    held_at t lt = (st.each_thread t lt).held ∙ ap (reserved_list t) (taken t lt)

    active : (t : ℕ) → t < threads → is_active xs (number_or (thread_at desk t).helper) ≡ true
    active t lt =
        let h = number_or (thread_at desk t).helper in
        let reserved = filter_map reserved_in xs in
        let of = helper_of threads (facts_of xs) desk t h st (held_at t lt) in
        let granted : is_granted xs h ≡ true =
        sym (any_from_find (λ (r : Reserved). r.helper == h) reserved)
        ∙ (sym (is_some_mapped (λ (r : Reserved). r.thread) (find (λ (r : Reserved). r.helper == h) reserved)) ∙ ap is_some of.thread) in
        let stays = each_one (λ (r : Reserved). r ≡ r) (λ (r : Reserved). r.thread == t && not (is_over xs r.helper)) reserved []
        (record { helper = h; thread = t }) (each_all (λ (r : Reserved). r ≡ r) (λ r. refl) reserved) (held_at t lt) in
        let over : is_over xs h ≡ false = not_true (is_over xs h) (and_parts (t == t) (not (is_over xs h)) stays.1).1 in
        let done : list_all (λ v. is_finished xs v.id) (filter (is_for h) (handed xs)) ≡ true =
        all_filter (is_for h) (λ v. is_finished xs v.id) (handed xs)
        (each_map (λ (v : Handed). work_in (handed xs) v.id ≡ Some v) (λ (v : Handed). is_for h v ≡ true → is_finished xs v.id ≡ true)
        (λ v found for_it. none_queued t h v lt (taken t lt) found for_it) (handed xs)
        (findable 0 (handed xs) (numbered_grow 0 (handed xs) st.numbered))) in
        both_true (is_granted xs h) (not (is_ended xs h)) granted (ap not (ended_not (is_ended xs h) _ done over))
      where
        ended_not : (a b : Bool) → b ≡ true → (a && b) ≡ false → a ≡ false
        ended_not true b e k = absurd (cc (sym e ∙ k))
        ended_not false b e k = refl

    -- as many helpers are active as there are threads
    pub all_active : threads ≤ length (active_helpers (asks xs) (replies askers xs))
    all_active =
        no_more threads (λ t. number_or (thread_at desk t).helper) (active_helpers (asks xs) (replies askers xs))
        (λ t lt. (alike threads askers xs legal).active (number_or (thread_at desk t).helper) ∙ active t lt)
        (λ t u lt less e.
        let one = (helper_of threads (facts_of xs) desk t _ st (held_at t lt)).thread in
        let two = (helper_of threads (facts_of xs) desk u _ st (held_at u less)).thread in
        some_number (sym one ∙ (ap (thread_in (filter_map reserved_in xs)) e ∙ two)))
      where
        some_number : {t u : ℕ} → Some t ≡ Some u → t ≡ u
        some_number e = cc e

  -- LAW. Where no thread does anything next and no finished work is to be fetched, no thread can do a work that is out.
  pub no_work : CanWork threads (asks xs) (replies askers xs) → ⊥
  no_work can = of (outstanding (asks xs) (replies askers xs)) refl can.0 can.1
    where
      of : (ws : List Handed) → outstanding (asks xs) (replies askers xs) ≡ ws → ws ≢ []
          → (list_any is_for_helper ws ≡ true) ⊎ (length (active_helpers (asks xs) (replies askers xs)) < threads) → ⊥
      of [] e some which = some refl
      of (w ∷ ws) e some (inl for_helpers) =
          let k = any_one IsOut is_for_helper (w ∷ ws) (subst (Each IsOut) e all_out) for_helpers in
          absurd (cc (k.2, ap is_some (out_general k.0 k.1)))
      of (w ∷ ws) e some (inr few) =
          let all : Each IsOut (w ∷ ws) = subst (Each IsOut) e all_out in
          omega (arith, few, all_active w all.0)
