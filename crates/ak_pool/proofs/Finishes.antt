-- A thread ends its work.
use Rattle.std.proofs.Common.{ℕ, ◌+◌, ◌<◌, ◌≡◌, List, [], ◌∷◌, ◌++◌, Bool, true, false, cond, length, get_or, set, refl, ap, sym, ◌∙◌, subst, arith, inl, inr, length-set}
use Rattle.std.specs.Prelude.{not, ◌&&◌, ◌||◌, ◌==◌, filter, find, count_by, Option, Some, None, is_some, is_none, ◌⊎◌}
use Rattle.std.proofs.lemmas.Bool.{eq-eqb, ne_eqb, cases_eq}
use Rattle.ak_base.specs.Lists.{is_empty_list}
use Rattle.ak_labor.specs.declared.work.Outcome.{Outcome}
use Rattle.ak_labor.specs.Waits.{Handed}
use Rattle.ak_history.specs.declared.event.Event.TheVariants as event
use Rattle.ak_history.specs.Events.{Begun, Reserved, is_among, is_for, is_general}
use Rattle.ak_pool.specs.declared.task.Task.{Task}
use Rattle.ak_pool.specs.Threads.{ThreadState, idle_thread, runs_general, is_left, vacated, without_running}
use Rattle.ak_pool.specs.Desks.{DeskState, thread_at, finished_by}
use Rattle.ak_pool.specs.Facts.{Facts, has_begun, has_finished, work_in, over_in, held_on, running_on, general_in}
use Rattle.ak_pool.specs.Stands.{Each, AreNumbered, ThreadStands, Stands, IsBegunOnce, IsQueueFor, IsTaskFor, reserved_list, begun_list}
use Rattle.ak_pool.proofs.Items.{each_map, each_last, each_all, each_both, each_filter, each_passes, each_one, any_from_find, any_last, any_more, none_any, all_same, some_same, filter_same, filter_filter, filter_last}
use Rattle.ak_pool.proofs.Numbers.{numbered_grow, only, found_id}
use Rattle.ak_pool.proofs.Works.{and_both, count_one, count_same, one_if}
use Rattle.ak_pool.proofs.Growing.{added}
use Rattle.ak_pool.proofs.Rows.{put_each, helper_of, one_thread, general_put}
use Rattle.ak_pool.proofs.Starts.{or_not, or_yes, general_test}
use Rattle.ak_pool.proofs.Overs.{held_left, list_left, list_other, stands_vacated, over_by_thread}

finished_apart : (finished : List (ℕ × Outcome)) (x : ℕ × Outcome) (id : ℕ) → (x.0 ≡ id → ⊥) → has_finished (finished ++ x ∷ []) id ≡ has_finished finished id
finished_apart finished x id ne =
    any_last (λ (y : ℕ × Outcome). y.0 == id) finished x ∙ ap (λ c. has_finished finished id || (c || false)) (ne_eqb x.0 id ne)
    ∙ or_not (has_finished finished id)

finished_now : (finished : List (ℕ × Outcome)) (x : ℕ × Outcome) (id : ℕ) → x.0 ≡ id → has_finished (finished ++ x ∷ []) id ≡ true
finished_now finished x id e =
    any_last (λ (y : ℕ × Outcome). y.0 == id) finished x ∙ ap (λ c. has_finished finished id || (c || false)) (eq-eqb x.0 id e)
    ∙ or_yes (has_finished finished id)

tests_fewer : (a c e : Bool) → (a && not (c || (e || false))) ≡ ((a && not c) && not e)
tests_fewer true true e = refl
tests_fewer true false true = refl
tests_fewer true false false = refl
tests_fewer false c e = refl

-- what runs, without the work that is finished
running_fewer : (begun : List Begun) (finished : List (ℕ × Outcome)) (x : ℕ × Outcome) (u : ℕ)
    → running_on begun (finished ++ x ∷ []) u ≡ filter (λ (b : Begun). not (x.0 == b.id)) (running_on begun finished u)
running_fewer begun finished x u =
    filter_same (λ (b : Begun). b.thread == u && not (has_finished (finished ++ x ∷ []) b.id))
    (λ (b : Begun). (b.thread == u && not (has_finished finished b.id)) && not (x.0 == b.id)) begun
    (each_all (λ (b : Begun). (b.thread == u && not (has_finished (finished ++ x ∷ []) b.id))
    ≡ ((b.thread == u && not (has_finished finished b.id)) && not (x.0 == b.id)))
    (λ b. ap (λ c. b.thread == u && not c) (any_last (λ (y : ℕ × Outcome). y.0 == b.id) finished x)
    ∙ tests_fewer (b.thread == u) (has_finished finished b.id) (x.0 == b.id)) begun)
    ∙ sym (filter_filter (λ (b : Begun). b.thread == u && not (has_finished finished b.id)) (λ (b : Begun). not (x.0 == b.id)) begun)

list_gone : (t : ℕ) (task : Task) (id : ℕ) → id ≡ task.id → filter (λ (b : Begun). not (id == b.id)) (begun_list t (Some task)) ≡ []
list_gone t task id e = ap (λ c. cond (not c) (begun_list t (Some task)) []) (eq-eqb id task.id e)

list_stays : (u : ℕ) (running : Option Task) (id : ℕ) → ((task : Task) → running ≡ Some task → id ≡ task.id → ⊥)
    → filter (λ (b : Begun). not (id == b.id)) (begun_list u running) ≡ begun_list u running
list_stays u None id f = refl
list_stays u (Some task) id f =
    ap (λ c. cond (not c) (begun_list u (Some task)) []) (ne_eqb id task.id (f task refl))

-- what is known of the work that a thread runs
pub record IsRunning (f : Facts) (t : ℕ) (task : Task) : Type 0 where
  pub first : find (λ (b : Begun). b.id == task.id) f.begun ≡ Some (record { thread = t; id = task.id })
  pub begun : has_begun f.begun task.id ≡ true
  pub unfinished : has_finished f.finished task.id ≡ false

pub running_of : (size : ℕ) (f : Facts) (s : DeskState) (t : ℕ) (task : Task) → Stands size f s → t < size → (thread_at s t).running ≡ Some task
    → IsRunning f t task
running_of size f s t task st lt is =
    let row = st.each_thread t lt in
    let runs = row.running ∙ ap (begun_list t) is in
    let one = each_one (IsBegunOnce f.handed f.reserved f.begun) (λ (b : Begun). b.thread == t && not (has_finished f.finished b.id))
    f.begun [] (record { thread = t; id = task.id }) st.begun_once runs in
    let two = and_both (t == t) (has_finished f.finished task.id) one.1 in
    record {
      first = one.0.once;
      begun = sym (any_from_find (λ (b : Begun). b.id == task.id) f.begun) ∙ ap is_some one.0.once;
      unfinished = two.1;
    }

apart : (size : ℕ) (f : Facts) (s : DeskState) (t u : ℕ) (task other : Task) → Stands size f s → IsRunning f t task → u < size
    → (thread_at s u).running ≡ Some other → task.id ≡ other.id → u ≡ t
apart size f s t u task other st here lt is e =
    let there = running_of size f s u other st lt is in
    ap (λ (b : Begun). b.thread) (some_same _ _ (sym there.first ∙ ap (λ n. find (λ (b : Begun). b.id == n) f.begun) (sym e) ∙ here.first))

-- a helper that the work is not for is over as before
over_apart : (f : Facts) (w : Handed) (x : ℕ × Outcome) (helper : ℕ) → AreNumbered 0 f.handed → work_in f.handed x.0 ≡ Some w
    → is_for helper w ≡ false → over_in f.ended (f.finished ++ x ∷ []) f.handed helper ≡ over_in f.ended f.finished f.handed helper
over_apart f w x helper num found other =
    ap (λ b. is_among f.ended helper && b)
    (all_same (λ v. has_finished (f.finished ++ x ∷ []) v.id) (λ v. has_finished f.finished v.id) (filter (is_for helper) f.handed)
    (each_map (λ v. (v.id ≡ x.0 → v ≡ w) × (is_for helper v ≡ true)) (λ v. has_finished (f.finished ++ x ∷ []) v.id
    ≡ has_finished f.finished v.id)
    (λ v k. finished_apart f.finished x v.id (λ e. absurd (cc (k.1, ap (is_for helper) (k.0 (sym e)), other))))
    (filter (is_for helper) f.handed)
    (each_both (λ v. v.id ≡ x.0 → v ≡ w) (λ v. is_for helper v ≡ true) (filter (is_for helper) f.handed)
    (each_filter (λ v. v.id ≡ x.0 → v ≡ w) (is_for helper) f.handed (only 0 x.0 w f.handed (numbered_grow 0 f.handed num) found))
    (each_passes (is_for helper) f.handed))))

held_same : (f : Facts) (x : ℕ × Outcome) → ((h : ℕ) → over_in f.ended (f.finished ++ x ∷ []) f.handed h ≡ over_in f.ended f.finished f.handed h)
    → (u : ℕ) → held_on f.reserved f.ended (f.finished ++ x ∷ []) f.handed u ≡ held_on f.reserved f.ended f.finished f.handed u
held_same f x same u =
    filter_same (λ r. r.thread == u && not (over_in f.ended (f.finished ++ x ∷ []) f.handed r.helper))
    (λ r. r.thread == u && not (over_in f.ended f.finished f.handed r.helper)) f.reserved
    (each_all (λ r. (r.thread == u && not (over_in f.ended (f.finished ++ x ∷ []) f.handed r.helper))
    ≡ (r.thread == u && not (over_in f.ended f.finished f.handed r.helper)))
    (λ r. ap (λ b. r.thread == u && not b) (same r.helper)) f.reserved)

first_finished : (f : Facts) (x : ℕ × Outcome) → Each (λ id. has_finished f.finished id ≡ true) f.drained
    → Each (λ id. has_finished (f.finished ++ x ∷ []) id ≡ true) f.drained
first_finished f x h =
    each_map (λ id. has_finished f.finished id ≡ true) (λ id. has_finished (f.finished ++ x ∷ []) id ≡ true)
    (λ id k. any_more (λ (y : ℕ × Outcome). y.0 == id) f.finished (x ∷ []) k) f.drained h

not_drained : (f : Facts) (id : ℕ) → has_finished f.finished id ≡ false → Each (λ d. has_finished f.finished d ≡ true) f.drained → is_among f.drained id ≡ false
not_drained f id e h =
    none_any (λ d. d == id) f.drained
    (each_map (λ d. has_finished f.finished d ≡ true) (λ d. (d == id) ≡ false)
    (λ d k. ne_eqb d id (λ same. absurd (cc (k, e, ap (has_finished f.finished) same)))) f.drained h)

test_done : (a c : Bool) → (a && c && false) ≡ false
test_done true true = refl
test_done true false = refl
test_done false c = refl

general_fewer : (f : Facts) (w : Handed) (x : ℕ × Outcome) → AreNumbered 0 f.handed → work_in f.handed x.0 ≡ Some w → is_general w ≡ true
    → has_begun f.begun x.0 ≡ true → has_finished f.finished x.0 ≡ false
    → general_in f.handed f.begun f.finished ≡ general_in f.handed f.begun (f.finished ++ x ∷ []) + 1
general_fewer f w x num found of e g =
    let id : w.id ≡ x.0 = found_id x.0 w f.handed found in
    count_one (general_test f.begun (f.finished ++ x ∷ [])) (general_test f.begun f.finished) 0 x.0 w f.handed (numbered_grow 0 f.handed num)
    (each_all (λ v. (v.id ≡ x.0 → ⊥) → general_test f.begun (f.finished ++ x ∷ []) v ≡ general_test f.begun f.finished v)
    (λ v ne. ap (λ c. is_general v && has_begun f.begun v.id && not c) (finished_apart f.finished x v.id (λ s. ne (sym s)))) f.handed)
    (ap (λ c. is_general w && has_begun f.begun w.id && not c) (finished_now f.finished x w.id (sym id)) ∙ test_done (is_general w) (has_begun f.begun w.id))
    (ap (λ c. c && has_begun f.begun w.id && not (has_finished f.finished w.id)) of
    ∙ ap (λ c. true && c && not (has_finished f.finished w.id)) (ap (has_begun f.begun) id ∙ e)
    ∙ ap (λ c. true && true && not c) (ap (has_finished f.finished) id ∙ g))
    found

general_same_at : (f : Facts) (w : Handed) (x : ℕ × Outcome) (v : Handed) → is_general w ≡ false → (v.id ≡ x.0 → v ≡ w)
    → (v.id ≡ x.0) ⊎ (v.id ≡ x.0 → ⊥) → general_test f.begun (f.finished ++ x ∷ []) v ≡ general_test f.begun f.finished v
general_same_at f w x v of same (inl e) =
    ap (λ c. c && has_begun f.begun v.id && not (has_finished (f.finished ++ x ∷ []) v.id)) (ap is_general (same e) ∙ of)
    ∙ sym (ap (λ c. c && has_begun f.begun v.id && not (has_finished f.finished v.id)) (ap is_general (same e) ∙ of))
general_same_at f w x v of same (inr ne) =
    ap (λ c. is_general v && has_begun f.begun v.id && not c) (finished_apart f.finished x v.id (λ s. ne (sym s)))

general_stays : (f : Facts) (w : Handed) (x : ℕ × Outcome) → AreNumbered 0 f.handed → work_in f.handed x.0 ≡ Some w → is_general w ≡ false
    → general_in f.handed f.begun (f.finished ++ x ∷ []) ≡ general_in f.handed f.begun f.finished
general_stays f w x num found of =
    count_same (general_test f.begun (f.finished ++ x ∷ [])) (general_test f.begun f.finished) f.handed
    (each_map (λ v. v.id ≡ x.0 → v ≡ w) (λ v. general_test f.begun (f.finished ++ x ∷ []) v ≡ general_test f.begun f.finished v)
    (λ v same. general_same_at f w x v of same (cases_eq v.id x.0)) f.handed
    (only 0 x.0 w f.handed (numbered_grow 0 f.handed num) found))

-- the thread of a general work is not given back, since it was not reserved
not_left : (z : ThreadState) → z.ended ≡ false → vacated z ≡ z
not_left z e = ap (λ b. cond (b && is_none z.running && is_empty_list z.queue) (record z { helper = None; ended = false }) z) e

thread_apart : (f : Facts) (u : ℕ) (x : ThreadState) (p : ℕ × Outcome) → ((task : Task) → x.running ≡ Some task → p.0 ≡ task.id → ⊥)
    → held_on f.reserved f.ended (f.finished ++ p ∷ []) f.handed u ≡ reserved_list u x.helper
    → ThreadStands f.handed f.begun f.finished f.reserved f.ended u x → ThreadStands f.handed f.begun (f.finished ++ p ∷ []) f.reserved f.ended u x
thread_apart f u x p ne held row =
    record {
      running = running_fewer f.begun f.finished p u ∙ ap (filter (λ (b : Begun). not (p.0 == b.id))) row.running ∙ list_stays u x.running p.0 ne;
      task = row.task;
      held = held;
      queue = row.queue;
    }

-- how many threads run general works when this one runs nothing
general_ends : (ths : List ThreadState) (t : ℕ) (task : Task) (y : ThreadState) → t < length ths → (get_or ths t idle_thread).running ≡ Some task
    → (get_or ths t idle_thread).helper ≡ None → y.running ≡ None → count_by runs_general ths ≡ count_by runs_general (set ths t y) + 1
general_ends ths t task y lt is free idle =
    let x = get_or ths t idle_thread in
    let before : one_if (runs_general x) ≡ 1 = ap (λ o. one_if (is_some o && is_none x.helper)) is ∙ ap (λ o. one_if (true && is_none o)) free in
    let after : one_if (runs_general y) ≡ 0 = ap (λ o. one_if (is_some o && is_none y.helper)) idle in
    omega (arith, general_put ths t y lt, before, after)

pub none_both : (a : Bool) → (a && false) ≡ false
none_both true = refl
none_both false = refl

pub general_idle : (ths : List ThreadState) (t helper : ℕ) (y : ThreadState) → t < length ths → (get_or ths t idle_thread).helper ≡ Some helper
    → runs_general y ≡ false → count_by runs_general (set ths t y) ≡ count_by runs_general ths
general_idle ths t helper y lt is idle =
    let x = get_or ths t idle_thread in
    let before : one_if (runs_general x) ≡ 0 = ap (λ o. one_if (is_some x.running && is_none o)) is ∙ ap one_if (none_both (is_some x.running)) in
    let after : one_if (runs_general y) ≡ 0 = ap one_if idle in
    omega (arith, general_put ths t y lt, before, after)

pub running_left : (z : ThreadState) (b : Bool) → z.running ≡ None → runs_general (cond b (record z { helper = None; ended = false }) z) ≡ false
running_left z true e = ap (λ o. is_some o && true) e
running_left z false e = ap (λ o. is_some o && is_none z.helper) e

-- a general work ends
stands_general_finished : (size : ℕ) (f : Facts) (s : DeskState) (t : ℕ) (task : Task) (outcome : Outcome) → Stands size f s → t < size
    → (thread_at s t).running ≡ Some task → (thread_at s t).helper ≡ None
    → Stands size (added (event.Finish t task.id outcome) f) (finished_by t task.id outcome s)
stands_general_finished size f s t task outcome st exists is free =
    let p : ℕ × Outcome = (task.id, outcome) in
    let x = thread_at s t in
    let z : ThreadState = record x { running = None } in
    let lt : t < length s.threads = omega (arith, exists, st.size) in
    let row = st.each_thread t exists in
    let run = running_of size f s t task st exists is in
    let w : Handed = record { id = task.id; work = task.work; helper = None } in
    let found : work_in f.handed task.id ≡ Some w = subst (λ o. IsTaskFor f.handed None o) is (subst (λ o. IsTaskFor f.handed o x.running) free row.task) in
    let same : (h : ℕ) → over_in f.ended (f.finished ++ p ∷ []) f.handed h ≡ over_in f.ended f.finished f.handed h =
    λ h. over_apart f w p h st.numbered found refl in
    let queue = subst (λ o. IsQueueFor f.handed f.begun f.ended o x) free row.queue in
    let stays : vacated z ≡ z = not_left z queue.1 in
    let inner : ThreadStands f.handed f.begun (f.finished ++ p ∷ []) f.reserved f.ended t z = record {
      running = running_fewer f.begun f.finished p t ∙ ap (filter (λ (b : Begun). not (task.id == b.id)))
          (row.running ∙ ap (begun_list t) is) ∙ list_gone t task task.id refl;
      task = tt;
      held = held_same f p same t ∙ row.held;
      queue = subst (λ o. IsQueueFor f.handed f.begun f.ended o z) (sym free) queue;
    } in
    let here : ThreadStands f.handed f.begun (f.finished ++ p ∷ []) f.reserved f.ended t (without_running x) =
    subst (λ y. ThreadStands f.handed f.begun (f.finished ++ p ∷ []) f.reserved f.ended t y) (sym stays) inner in
    record {
      size = length-set s.threads t (without_running x) ∙ st.size;
      submits = st.submits;
      helpers = st.helpers;
      closed = st.closed;
      handed_all = st.handed_all;
      numbered = st.numbered;
      for_known = st.for_known;
      begun_once = st.begun_once;
      begun_exists = st.begun_exists;
      begun_first = each_last (λ (y : ℕ × Outcome). has_begun f.begun y.0 ≡ true) f.finished p st.begun_first run.begun;
      finished_first = first_finished f p st.finished_first;
      granted_once = st.granted_once;
      ended_known = st.ended_known;
      waiting = st.waiting;
      owed = ap (λ q. q ++ p ∷ []) st.owed
          ∙ sym (filter_last (λ (y : ℕ × Outcome). not (is_among f.drained y.0)) f.finished p
          (ap not (not_drained f task.id run.unfinished st.finished_first)));
      each_thread = λ u below. put_each (ThreadStands f.handed f.begun (f.finished ++ p ∷ []) f.reserved f.ended) s.threads t (without_running x) lt here
          (λ v vlt ne. thread_apart f v (thread_at s v) p
          (λ other o_is e. ne (apart size f s t v task other st run (omega (arith, vlt, st.size)) o_is e))
          (held_same f p same v ∙ (st.each_thread v (omega (arith, vlt, st.size))).held)
          (st.each_thread v (omega (arith, vlt, st.size))))
          u (omega (arith, below, st.size));
      general =
          let more = general_fewer f w p st.numbered found refl run.begun run.unfinished in
          let ends = general_ends s.threads t task (without_running x) lt is free (ap (λ (y : ThreadState). y.running) stays) in
          omega (arith, more, ends, st.general);
    }

-- a helper's work ends, and the helper may be over
stands_own_finished : (size : ℕ) (f : Facts) (s : DeskState) (t helper : ℕ) (task : Task) (outcome : Outcome) → Stands size f s → t < size
    → (thread_at s t).running ≡ Some task → (thread_at s t).helper ≡ Some helper
    → Stands size (added (event.Finish t task.id outcome) f) (finished_by t task.id outcome s)
stands_own_finished size f s t helper task outcome st exists is has =
    let p : ℕ × Outcome = (task.id, outcome) in
    let x = thread_at s t in
    let z : ThreadState = record x { running = None } in
    let lt : t < length s.threads = omega (arith, exists, st.size) in
    let row = st.each_thread t exists in
    let run = running_of size f s t task st exists is in
    let w : Handed = record { id = task.id; work = task.work; helper = Some helper } in
    let found : work_in f.handed task.id ≡ Some w =
    subst (λ o. IsTaskFor f.handed (Some helper) o) is (subst (λ o. IsTaskFor f.handed o x.running) has row.task) in
    let held = row.held ∙ ap (reserved_list t) has in
    let of = helper_of size f s t helper st held in
    let queue = subst (λ o. IsQueueFor f.handed f.begun f.ended o x) has row.queue in
    let same : (h : ℕ) → (h ≡ helper → ⊥) → over_in f.ended (f.finished ++ p ∷ []) f.handed h ≡ over_in f.ended f.finished f.handed h =
    λ h ne. over_apart f w p h st.numbered found (ne_eqb helper h (λ e. ne (sym e))) in
    let left = held_left f.reserved f.ended f.ended f.finished (f.finished ++ p ∷ []) f.handed helper of.goes_on same in
    let first = each_last (λ (y : ℕ × Outcome). has_begun f.begun y.0 ≡ true) f.finished p st.begun_first run.begun in
    let runs : running_on f.begun (f.finished ++ p ∷ []) t ≡ [] =
    running_fewer f.begun f.finished p t ∙ ap (filter (λ (b : Begun). not (task.id == b.id))) (row.running ∙ ap (begun_list t) is)
    ∙ list_gone t task task.id refl in
    let over : over_in f.ended (f.finished ++ p ∷ []) f.handed helper ≡ is_left z =
    over_by_thread f.handed f.begun (f.finished ++ p ∷ []) f.reserved f.ended t helper z st.numbered st.begun_once first runs tt queue of.thread in
    let here : ThreadStands f.handed f.begun (f.finished ++ p ∷ []) f.reserved f.ended t (without_running x) =
    stands_vacated f.handed f.begun (f.finished ++ p ∷ []) f.reserved f.ended t helper z has runs tt
    (left t ∙ ap (filter (λ (r : Reserved). not (r.helper == helper && over_in f.ended (f.finished ++ p ∷ []) f.handed helper))) held
    ∙ list_left t helper (over_in f.ended (f.finished ++ p ∷ []) f.handed helper)
    ∙ ap (λ b. cond b [] (reserved_list t (Some helper))) over)
    queue in
    record {
      size = length-set s.threads t (without_running x) ∙ st.size;
      submits = st.submits;
      helpers = st.helpers;
      closed = st.closed;
      handed_all = st.handed_all;
      numbered = st.numbered;
      for_known = st.for_known;
      begun_once = st.begun_once;
      begun_exists = st.begun_exists;
      begun_first = first;
      finished_first = first_finished f p st.finished_first;
      granted_once = st.granted_once;
      ended_known = st.ended_known;
      waiting = st.waiting;
      owed = ap (λ q. q ++ p ∷ []) st.owed
          ∙ sym (filter_last (λ (y : ℕ × Outcome). not (is_among f.drained y.0)) f.finished p
          (ap not (not_drained f task.id run.unfinished st.finished_first)));
      each_thread = λ u below. put_each (ThreadStands f.handed f.begun (f.finished ++ p ∷ []) f.reserved f.ended) s.threads t (without_running x) lt here
          (λ v vlt ne. thread_apart f v (thread_at s v) p (λ other o_is e. ne (apart size f s t v task other st run (omega (arith, vlt, st.size)) o_is e))
          (left v ∙ ap (filter (λ (r : Reserved). not (r.helper == helper && over_in f.ended (f.finished ++ p ∷ []) f.handed helper)))
          (st.each_thread v (omega (arith, vlt, st.size))).held ∙ list_other v (thread_at s v).helper helper
          (over_in f.ended (f.finished ++ p ∷ []) f.handed helper)
          (λ e. ne (one_thread size f s v t helper st (omega (arith, vlt, st.size)) e of.thread)))
          (st.each_thread v (omega (arith, vlt, st.size))))
          u (omega (arith, below, st.size));
      general = general_stays f w p st.numbered found refl ∙ st.general
          ∙ sym (general_idle s.threads t helper (without_running x) lt has (running_left z (is_left z) refl));
    }

finished_by_helper : (size : ℕ) (f : Facts) (s : DeskState) (t : ℕ) (task : Task) (outcome : Outcome) (o : Option ℕ) → Stands size f s → t < size
    → (thread_at s t).running ≡ Some task → (thread_at s t).helper ≡ o
    → Stands size (added (event.Finish t task.id outcome) f) (finished_by t task.id outcome s)
finished_by_helper size f s t task outcome None st lt is e = stands_general_finished size f s t task outcome st lt is e
finished_by_helper size f s t task outcome (Some helper) st lt is e = stands_own_finished size f s t helper task outcome st lt is e

pub stands_finished : (size : ℕ) (f : Facts) (s : DeskState) (t : ℕ) (task : Task) (outcome : Outcome) → Stands size f s → t < size
    → (thread_at s t).running ≡ Some task → Stands size (added (event.Finish t task.id outcome) f) (finished_by t task.id outcome s)
stands_finished size f s t task outcome st lt is =
    finished_by_helper size f s t task outcome (thread_at s t).helper st lt is refl
