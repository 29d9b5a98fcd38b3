-- A work is handed in.
use Rattle.std.proofs.Common.{ℕ, ◌+◌, ◌<◌, ◌≡◌, List, [], ◌∷◌, ◌++◌, Bool, true, false, length, get_or, set, refl, ap, sym, ◌∙◌, subst, arith, length-set, add-zero}
use Rattle.std.specs.Prelude.{not, ◌&&◌, ◌==◌, filter, count_by, Option, Some, None}
use Rattle.std.specs.List.{list_all}
use Rattle.std.proofs.lemmas.Bool.{eq-eqb, eqb-true, false_from_ne_true}
use Rattle.std.proofs.lemmas.List.{length_push}
use Rattle.std.proofs.lemmas.List.Sums.{sum_by_push}
use Rattle.ak_labor.specs.declared.work.Work.{Work}
use Rattle.ak_labor.specs.declared.work.Outcome.{Outcome}
use Rattle.ak_labor.specs.Waits.{Handed}
use Rattle.ak_history.specs.declared.event.Event.TheVariants as event
use Rattle.ak_history.specs.Events.{Begun, Reserved, is_that, is_among, is_for, is_general}
use Rattle.ak_pool.specs.declared.task.Task.{Task}
use Rattle.ak_pool.specs.Threads.{ThreadState, idle_thread, runs_general, with_own}
use Rattle.ak_pool.specs.Desks.{DeskState, thread_at, with_general, with_helped, next_task}
use Rattle.ak_pool.specs.Facts.{Facts, has_begun, has_finished, over_in, held_on, general_in}
use Rattle.ak_pool.specs.Stands.{Each, ThreadStands, Stands, IsBegunOnce, IsKnown, IsQueueFor, IsTaskFor}
use Rattle.ak_pool.proofs.Items.{each_map, each_last, each_all, find_more, filter_same, filter_kept}
use Rattle.ak_pool.proofs.Numbers.{numbered_last}
use Rattle.ak_pool.proofs.Works.{fresh_unbegun, unbegun_last, unbegun_kept, one_if}
use Rattle.ak_pool.proofs.Growing.{added}
use Rattle.ak_pool.proofs.Rows.{put_each, IsServing, one_thread, general_put}

over_at : (ended : List ℕ) (finished : List (ℕ × Outcome)) (handed : List Handed) (w : Handed) (helper : ℕ) (b : Bool) → is_for helper w ≡ b
    → (is_for helper w ≡ true → is_among ended helper ≡ false)
    → over_in ended finished (handed ++ w ∷ []) helper ≡ over_in ended finished handed helper
over_at ended finished handed w helper true e f =
    ap (λ b. b && list_all (λ v. has_finished finished v.id) (filter (is_for helper) (handed ++ w ∷ []))) (f e)
    ∙ sym (ap (λ b. b && list_all (λ v. has_finished finished v.id) (filter (is_for helper) handed)) (f e))
over_at ended finished handed w helper false e f =
    ap (λ ws. is_among ended helper && list_all (λ v. has_finished finished v.id) ws) (filter_kept (is_for helper) handed w e)

task_more : (handed : List Handed) (w : Handed) (o : Option ℕ) (running : Option Task) → IsTaskFor handed o running → IsTaskFor (handed ++ w ∷ []) o running
task_more handed w o None h = tt
task_more handed w o (Some task) h = find_more (λ (x : Handed). x.id == task.id) handed (w ∷ []) _ h

queue_other : (handed : List Handed) (begun : List Begun) (ended : List ℕ) (w : Handed) (o : Option ℕ) (x : ThreadState)
    → ((helper : ℕ) → o ≡ Some helper → is_for helper w ≡ false) → IsQueueFor handed begun ended o x → IsQueueFor (handed ++ w ∷ []) begun ended o x
queue_other handed begun ended w None x f h = h
queue_other handed begun ended w (Some helper) x f h =
    (h.0 ∙ sym (unbegun_kept handed begun (Some helper) w (f helper refl)), h.1)

held_handed : (handed : List Handed) (finished : List (ℕ × Outcome)) (reserved : List Reserved) (ended : List ℕ) (w : Handed) (t : ℕ)
    → ((helper : ℕ) → is_for helper w ≡ true → is_among ended helper ≡ false)
    → held_on reserved ended finished (handed ++ w ∷ []) t ≡ held_on reserved ended finished handed t
held_handed handed finished reserved ended w t f =
    filter_same (λ r. r.thread == t && not (over_in ended finished (handed ++ w ∷ []) r.helper))
    (λ r. r.thread == t && not (over_in ended finished handed r.helper)) reserved
    (each_all (λ r. (r.thread == t && not (over_in ended finished (handed ++ w ∷ []) r.helper))
    ≡ (r.thread == t && not (over_in ended finished handed r.helper)))
    (λ r. ap (λ b. r.thread == t && not b) (over_at ended finished handed w r.helper (is_for r.helper w) refl (f r.helper))) reserved)

thread_handed : (f : Facts) (w : Handed) (t : ℕ) (x : ThreadState) → ((helper : ℕ) → is_for helper w ≡ true → is_among f.ended helper ≡ false)
    → ((helper : ℕ) → x.helper ≡ Some helper → is_for helper w ≡ false) → ThreadStands f.handed f.begun f.finished f.reserved f.ended t x
    → ThreadStands (f.handed ++ w ∷ []) f.begun f.finished f.reserved f.ended t x
thread_handed f w t x live other row =
    record {
      running = row.running;
      task = task_more f.handed w x.helper x.running row.task;
      held = held_handed f.handed f.finished f.reserved f.ended w t live ∙ row.held;
      queue = queue_other f.handed f.begun f.ended w x.helper x other row.queue;
    }

begun_handed : (f : Facts) (w : Handed) → Each (IsBegunOnce f.handed f.reserved f.begun) f.begun
    → Each (IsBegunOnce (f.handed ++ w ∷ []) f.reserved f.begun) f.begun
begun_handed f w h =
    each_map (IsBegunOnce f.handed f.reserved f.begun) (IsBegunOnce (f.handed ++ w ∷ []) f.reserved f.begun)
    (λ b k. record {
      work = k.work;
      is = find_more (λ (x : Handed). x.id == b.id) f.handed (w ∷ []) k.work k.is;
      on = k.on;
      once =
          k.once;
    }) f.begun h

and_false : (b c : Bool) → (b && false && c) ≡ false
and_false true c = refl
and_false false c = refl

general_handed : (f : Facts) (w : Handed) → has_begun f.begun w.id ≡ false
    → general_in (f.handed ++ w ∷ []) f.begun f.finished ≡ general_in f.handed f.begun f.finished
general_handed f w e =
    sum_by_push (λ v. one_if (is_general v && has_begun f.begun v.id && not (has_finished f.finished v.id))) f.handed w
    ∙ ap (λ b. general_in f.handed f.begun f.finished + one_if b) (ap (λ b. is_general w && b && not (has_finished f.finished w.id)) e
    ∙ and_false (is_general w) (not (has_finished f.finished w.id)))
    ∙ add-zero (general_in f.handed f.begun f.finished)

-- a general work
pub stands_general : (size : ℕ) (f : Facts) (s : DeskState) (work : Work) → Stands size f s
    → Stands size (added (event.Submit s.submits work None) f) (with_general work s)
stands_general size f s work st =
    let w : Handed = record { id = s.submits; work = work; helper = None } in
    let fresh = fresh_unbegun f.handed f.reserved f.begun s.submits st.numbered (omega (arith, st.submits, st.handed_all)) st.begun_once in
    record {
      size = st.size;
      submits = ap (λ n. n + 1) st.submits;
      helpers = st.helpers;
      closed = st.closed;
      handed_all = omega (arith, st.handed_all, length_push f.handed w);
      numbered = numbered_last 0 f.handed w st.numbered (omega (arith, st.submits, st.handed_all));
      for_known = each_last (λ (v : Handed). IsKnown f.helpers v.helper) f.handed w st.for_known tt;
      begun_once = begun_handed f w st.begun_once;
      begun_exists = st.begun_exists;
      begun_first = st.begun_first;
      finished_first = st.finished_first;
      granted_once = st.granted_once;
      ended_known = st.ended_known;
      waiting = ap (λ q. q ++ next_task work s ∷ []) st.waiting ∙ sym (unbegun_last f.handed f.begun None w fresh refl);
      owed = st.owed;
      each_thread = λ t lt. thread_handed f w t (thread_at s t) (λ helper k. absurd (cc (k))) (λ helper k. refl) (st.each_thread t lt);
      general = general_handed f w fresh ∙ st.general;
    }

is_for_same : (helper other : ℕ) → is_that helper (Some other) ≡ true → other ≡ helper
is_for_same helper other e = eqb-true other helper e

eq_same : (n : ℕ) → (n == n) ≡ true
eq_same n = eq-eqb n n refl

same_general : (ths : List ThreadState) (p : ℕ) (task : Task) → p < length ths
    → count_by runs_general (set ths p (with_own task (get_or ths p idle_thread))) ≡ count_by runs_general ths
same_general ths p task lt = omega (arith, general_put ths p (with_own task (get_or ths p idle_thread)) lt)

-- a helper's work
pub stands_helped : (size : ℕ) (f : Facts) (s : DeskState) (work : Work) (helper p : ℕ) → Stands size f s → IsServing size f s helper p
    → Stands size (added (event.Submit s.submits work (Some helper)) f) (with_helped work p s)
stands_helped size f s work helper p st on =
    let w : Handed = record { id = s.submits; work = work; helper = Some helper } in
    let fresh = fresh_unbegun f.handed f.reserved f.begun s.submits st.numbered (omega (arith, st.submits, st.handed_all)) st.begun_once in
    let x = thread_at s p in
    let y = with_own (next_task work s) x in
    let lt : p < length s.threads = omega (arith, on.exists, st.size) in
    let row = st.each_thread p on.exists in
    let live : (h : ℕ) → is_for h w ≡ true → is_among f.ended h ≡ false = λ h e. ap (is_among f.ended) (sym (is_for_same h helper e)) ∙ on.not_ended in
    let new_queue : IsQueueFor (f.handed ++ w ∷ []) f.begun f.ended (Some helper) y = (
      ap (λ q. q ++ next_task work s ∷ []) on.queue ∙ sym (unbegun_last f.handed f.begun (Some helper) w fresh (eq_same helper)),
      on.goes_on ∙ sym on.not_ended,
    ) in
    let here : ThreadStands (f.handed ++ w ∷ []) f.begun f.finished f.reserved f.ended p y = record {
      running = row.running;
      task = task_more f.handed w x.helper x.running row.task;
      held = held_handed f.handed f.finished f.reserved f.ended w p live ∙ row.held;
      queue = subst (λ o. IsQueueFor (f.handed ++ w ∷ []) f.begun f.ended o y) (sym on.helper_is) new_queue;
    } in
    record {
      size = length-set s.threads p y ∙ st.size;
      submits = ap (λ n. n + 1) st.submits;
      helpers = st.helpers;
      closed = st.closed;
      handed_all = omega (arith, st.handed_all, length_push f.handed w);
      numbered = numbered_last 0 f.handed w st.numbered (omega (arith, st.submits, st.handed_all));
      for_known = each_last (λ (v : Handed). IsKnown f.helpers v.helper) f.handed w st.for_known on.of.known;
      begun_once = begun_handed f w st.begun_once;
      begun_exists = st.begun_exists;
      begun_first = st.begun_first;
      finished_first = st.finished_first;
      granted_once = st.granted_once;
      ended_known = st.ended_known;
      waiting = st.waiting ∙ sym (unbegun_kept f.handed f.begun None w refl);
      owed = st.owed;
      each_thread = λ t below. put_each (ThreadStands (f.handed ++ w ∷ []) f.begun f.finished f.reserved f.ended) s.threads p y lt here
          (λ u ult ne. thread_handed f w u (thread_at s u) live
          (λ h is. false_from_ne_true (is_for h w)
          (λ e. ne (one_thread size f s u p helper st (omega (arith, ult, st.size))
          (is ∙ ap Some (sym (is_for_same h helper e))) on.of.thread))) (st.each_thread u (omega (arith, ult, st.size))))
          t (omega (arith, below, st.size));
      general = general_handed f w fresh ∙ st.general ∙ sym (same_general s.threads p (next_task work s) lt);
    }
