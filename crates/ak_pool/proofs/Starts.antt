-- A thread begins a work.
use Rattle.std.proofs.Common.{ℕ, ◌+◌, ◌<◌, ◌≡◌, List, [], ◌∷◌, ◌++◌, Bool, true, false, length, get_or, set, refl, ap, sym, ◌∙◌, subst, arith, inl, inr, length-set}
use Rattle.std.specs.Prelude.{not, ◌&&◌, ◌||◌, ◌==◌, count_by, Option, Some, None, is_some, is_none, ◌⊎◌}
use Rattle.std.proofs.lemmas.Bool.{eq-eqb, ne_eqb, eqb-true, false_from_ne_true, cases_eq}
use Rattle.ak_base.specs.Lists.{first_of, rest_of}
use Rattle.ak_labor.specs.declared.work.Outcome.{Outcome}
use Rattle.ak_labor.specs.Waits.{Handed}
use Rattle.ak_history.specs.declared.event.Event.TheVariants as event
use Rattle.ak_history.specs.Events.{Begun, is_that, is_general}
use Rattle.ak_pool.specs.declared.task.Task.{Task}
use Rattle.ak_pool.specs.Threads.{ThreadState, idle_thread, runs_general, with_running, with_own_running}
use Rattle.ak_pool.specs.Desks.{DeskState, thread_at, general_begun, own_begun}
use Rattle.ak_pool.specs.Facts.{Facts, has_begun, has_finished, work_in, task_of, held_on, running_on, general_in}
use Rattle.ak_pool.specs.Stands.{Each, AreNumbered, ThreadStands, Stands, IsBegunOnce, IsOn, IsQueueFor, reserved_list, begun_list}
use Rattle.ak_pool.proofs.Items.{each_map, each_last, each_all, find_more, find_last, none_found, none_any, any_more, any_last, filter_kept, filter_last}
use Rattle.ak_pool.proofs.Numbers.{numbered_grow, only, found_id}
use Rattle.ak_pool.proofs.Works.{front_of, unbegun_front, unbegun_other, of_is, count_one, count_same, one_if}
use Rattle.ak_pool.proofs.Growing.{added}
use Rattle.ak_pool.proofs.Rows.{put_each, helper_of, one_thread, general_put}

pub cons_of : {A : Type 0} (xs : List A) (x : A) → first_of xs ≡ Some x → xs ≡ x ∷ rest_of xs
cons_of [] x e = absurd (cc)
cons_of (y ∷ ys) x e = cc

abbrev handed : Task → Option ℕ → Handed
handed task o = record { id = task.id; work = task.work; helper = o }

rebuilt : (w : Handed) (task : Task) (o : Option ℕ) → task_of w ≡ task → w.helper ≡ o → w ≡ record { id = task.id; work = task.work; helper = o }
rebuilt w task o same e =
    ap (λ (t : Task). handed t w.helper) same ∙ ap (handed task) e

-- a work that is not begun is not finished
pub unfinished : (begun : List Begun) (finished : List (ℕ × Outcome)) (id : ℕ) → Each (λ x. has_begun begun x.0 ≡ true) finished
    → has_begun begun id ≡ false → has_finished finished id ≡ false
unfinished begun finished id each e =
    none_any (λ (x : ℕ × Outcome). x.0 == id) finished
    (each_map (λ x. has_begun begun x.0 ≡ true) (λ x. (x.0 == id) ≡ false)
    (λ x k. ne_eqb x.0 id (λ same. absurd (cc (k, e, ap (has_begun begun) same)))) finished each)

running_here : (begun : List Begun) (finished : List (ℕ × Outcome)) (t : ℕ) (task : Task) → running_on begun finished t ≡ []
    → has_finished finished task.id ≡ false → running_on (begun ++ record { thread = t; id = task.id } ∷ []) finished t ≡ begun_list t (Some task)
running_here begun finished t task none e =
    filter_last (λ (b : Begun). b.thread == t && not (has_finished finished b.id)) begun (record { thread = t; id = task.id })
    (ap (λ c. (t == t) && not c) e ∙ ap (λ c. c && true) (eq-eqb t t refl))
    ∙ ap (λ bs. bs ++ begun_list t (Some task)) none

running_other : (begun : List Begun) (finished : List (ℕ × Outcome)) (u : ℕ) (b : Begun) → (u ≡ b.thread → ⊥)
    → running_on (begun ++ b ∷ []) finished u ≡ running_on begun finished u
running_other begun finished u b ne =
    filter_kept (λ (x : Begun). x.thread == u && not (has_finished finished x.id)) begun b
    (ap (λ c. c && not (has_finished finished b.id)) (ne_eqb b.thread u (λ e. ne (sym e))))

queue_begun : (handed : List Handed) (begun : List Begun) (ended : List ℕ) (work : Handed) (b : Begun) (o : Option ℕ) (x : ThreadState)
    → AreNumbered 0 handed → work_in handed b.id ≡ Some work → ((helper : ℕ) → o ≡ Some helper → is_that helper work.helper ≡ false)
    → IsQueueFor handed begun ended o x → IsQueueFor handed (begun ++ b ∷ []) ended o x
queue_begun handed begun ended work b None x num found other h = h
queue_begun handed begun ended work b (Some helper) x num found other h =
    (h.0 ∙ sym (unbegun_other handed begun (Some helper) work b num found (other helper refl)), h.1)

thread_begun : (f : Facts) (work : Handed) (b : Begun) (u : ℕ) (x : ThreadState) → AreNumbered 0 f.handed → work_in f.handed b.id ≡ Some work
    → (u ≡ b.thread → ⊥) → ((helper : ℕ) → x.helper ≡ Some helper → is_that helper work.helper ≡ false)
    → ThreadStands f.handed f.begun f.finished f.reserved f.ended u x → ThreadStands f.handed (f.begun ++ b ∷ []) f.finished f.reserved f.ended u x
thread_begun f work b u x num found ne other row =
    record {
      running = running_other f.begun f.finished u b ne ∙ row.running;
      task = row.task;
      held = row.held;
      queue = queue_begun f.handed f.begun f.ended work b x.helper x num found other row.queue;
    }

-- each work that is begun, with one more
begun_begun : (f : Facts) (work : Handed) (b : Begun) → work_in f.handed b.id ≡ Some work → IsOn f.reserved b.thread work.helper
    → has_begun f.begun b.id ≡ false → Each (IsBegunOnce f.handed f.reserved f.begun) f.begun
    → Each (IsBegunOnce f.handed f.reserved (f.begun ++ b ∷ [])) (f.begun ++ b ∷ [])
begun_begun f work b found on e h =
    each_last (IsBegunOnce f.handed f.reserved (f.begun ++ b ∷ [])) f.begun b
    (each_map (IsBegunOnce f.handed f.reserved f.begun) (IsBegunOnce f.handed f.reserved (f.begun ++ b ∷ []))
    (λ c k. record { work = k.work; is = k.is; on = k.on; once = find_more (λ (x : Begun). x.id == c.id) f.begun (b ∷ []) c k.once })
    f.begun h)
    (record {
      work = work;
      is = found;
      on = on;
      once =
          find_last (λ (x : Begun). x.id == b.id) f.begun b (none_found (λ (x : Begun). x.id == b.id) f.begun e) (eq-eqb b.id b.id refl);
    })

first_begun : (f : Facts) (b : Begun) → Each (λ x. has_begun f.begun x.0 ≡ true) f.finished → Each (λ x. has_begun (f.begun ++ b ∷ []) x.0 ≡ true) f.finished
first_begun f b h =
    each_map (λ x. has_begun f.begun x.0 ≡ true) (λ x. has_begun (f.begun ++ b ∷ []) x.0 ≡ true)
    (λ x k. any_more (λ (y : Begun). y.id == x.0) f.begun (b ∷ []) k) f.finished h

pub or_not : (a : Bool) → (a || (false || false)) ≡ a
or_not true = refl
or_not false = refl

pub or_yes : (a : Bool) → (a || (true || false)) ≡ true
or_yes true = refl
or_yes false = refl

begun_apart : (begun : List Begun) (b : Begun) (id : ℕ) → (b.id ≡ id → ⊥) → has_begun (begun ++ b ∷ []) id ≡ has_begun begun id
begun_apart begun b id ne =
    any_last (λ (x : Begun). x.id == id) begun b ∙ ap (λ c. has_begun begun id || (c || false)) (ne_eqb b.id id ne) ∙ or_not (has_begun begun id)

begun_now : (begun : List Begun) (b : Begun) (id : ℕ) → b.id ≡ id → has_begun (begun ++ b ∷ []) id ≡ true
begun_now begun b id e =
    any_last (λ (x : Begun). x.id == id) begun b ∙ ap (λ c. has_begun begun id || (c || false)) (eq-eqb b.id id e) ∙ or_yes (has_begun begun id)

abbrev pub general_test : List Begun → List (ℕ × Outcome) → Handed → Bool
general_test begun finished w = is_general w && has_begun begun w.id && not (has_finished finished w.id)

test_false : (a c : Bool) → (a && false && c) ≡ false
test_false true c = refl
test_false false c = refl

general_more : (f : Facts) (work : Handed) (b : Begun) → AreNumbered 0 f.handed → work_in f.handed b.id ≡ Some work → is_general work ≡ true
    → has_begun f.begun b.id ≡ false → has_finished f.finished b.id ≡ false
    → general_in f.handed (f.begun ++ b ∷ []) f.finished ≡ general_in f.handed f.begun f.finished + 1
general_more f work b num found of e g =
    let id : work.id ≡ b.id = found_id b.id work f.handed found in
    count_one (general_test f.begun f.finished) (general_test (f.begun ++ b ∷ []) f.finished) 0 b.id work f.handed (numbered_grow 0 f.handed num)
    (each_all (λ x. (x.id ≡ b.id → ⊥) → general_test f.begun f.finished x ≡ general_test (f.begun ++ b ∷ []) f.finished x)
    (λ x ne. ap (λ c. is_general x && c && not (has_finished f.finished x.id)) (sym (begun_apart f.begun b x.id (λ s. ne (sym s)))))
    f.handed)
    (ap (λ c. is_general work && c && not (has_finished f.finished work.id)) (ap (has_begun f.begun) id ∙ e)
    ∙ test_false (is_general work) (not (has_finished f.finished work.id)))
    (ap (λ c. c && has_begun (f.begun ++ b ∷ []) work.id && not (has_finished f.finished work.id)) of
    ∙ ap (λ c. true && c && not (has_finished f.finished work.id)) (begun_now f.begun b work.id (sym id))
    ∙ ap (λ c. true && true && not c) (ap (has_finished f.finished) id ∙ g))
    found

general_same_at : (f : Facts) (work : Handed) (b : Begun) (x : Handed) → is_general work ≡ false → (x.id ≡ b.id → x ≡ work)
    → (x.id ≡ b.id) ⊎ (x.id ≡ b.id → ⊥) → general_test (f.begun ++ b ∷ []) f.finished x ≡ general_test f.begun f.finished x
general_same_at f work b x of same (inl e) =
    ap (λ c. c && has_begun (f.begun ++ b ∷ []) x.id && not (has_finished f.finished x.id)) (ap is_general (same e) ∙ of)
    ∙ sym (ap (λ c. c && has_begun f.begun x.id && not (has_finished f.finished x.id)) (ap is_general (same e) ∙ of))
general_same_at f work b x of same (inr ne) =
    ap (λ c. is_general x && c && not (has_finished f.finished x.id)) (begun_apart f.begun b x.id (λ s. ne (sym s)))

general_kept : (f : Facts) (work : Handed) (b : Begun) → AreNumbered 0 f.handed → work_in f.handed b.id ≡ Some work → is_general work ≡ false
    → general_in f.handed (f.begun ++ b ∷ []) f.finished ≡ general_in f.handed f.begun f.finished
general_kept f work b num found of =
    count_same (general_test (f.begun ++ b ∷ []) f.finished) (general_test f.begun f.finished) f.handed
    (each_map (λ x. x.id ≡ b.id → x ≡ work) (λ x. general_test (f.begun ++ b ∷ []) f.finished x ≡ general_test f.begun f.finished x)
    (λ x same. general_same_at f work b x of same (cases_eq x.id b.id)) f.handed
    (only 0 b.id work f.handed (numbered_grow 0 f.handed num) found))

general_now : (ths : List ThreadState) (t : ℕ) (task : Task) → t < length ths → (get_or ths t idle_thread).running ≡ None
    → (get_or ths t idle_thread).helper ≡ None
    → count_by runs_general ths + 1 ≡ count_by runs_general (set ths t (with_running task (get_or ths t idle_thread)))
general_now ths t task lt idle free =
    let x = get_or ths t idle_thread in
    let before : one_if (runs_general x) ≡ 0 = ap (λ o. one_if (is_some o && is_none x.helper)) idle in
    let after : one_if (runs_general (with_running task x)) ≡ 1 = ap (λ o. one_if (true && is_none o)) free in
    omega (arith, general_put ths t (with_running task x) lt, before, after)

-- the first general work begins on a thread that is not reserved
pub stands_general_begun : (size : ℕ) (f : Facts) (s : DeskState) (t : ℕ) (task : Task) → Stands size f s → t < size → (thread_at s t).running ≡ None
    → (thread_at s t).helper ≡ None → first_of s.waiting ≡ Some task → Stands size (added (event.Start t task.id) f) (general_begun task t s)
stands_general_begun size f s t task st exists idle free first =
    let b : Begun = record { thread = t; id = task.id } in
    let x = thread_at s t in
    let y = with_running task x in
    let lt : t < length s.threads = omega (arith, exists, st.size) in
    let row = st.each_thread t exists in
    let front = front_of f.handed f.begun None task (rest_of s.waiting) st.numbered (sym st.waiting ∙ cons_of s.waiting task first) in
    let for_none : front.work.helper ≡ None = of_is None front.work front.of in
    let open_yet = unfinished f.begun f.finished task.id st.begun_first front.unbegun in
    let here : ThreadStands f.handed (f.begun ++ b ∷ []) f.finished f.reserved f.ended t y = record {
      running = running_here f.begun f.finished t task (row.running ∙ ap (begun_list t) idle) open_yet;
      task = front.found ∙ ap Some (rebuilt front.work task x.helper front.same (for_none ∙ sym free));
      held = row.held;
      queue = subst (λ o. IsQueueFor f.handed (f.begun ++ b ∷ []) f.ended o y) (sym free) (subst (λ o. IsQueueFor f.handed f.begun f.ended o x) free row.queue);
    } in
    record {
      size = length-set s.threads t y ∙ st.size;
      submits = st.submits;
      helpers = st.helpers;
      closed = st.closed;
      handed_all = st.handed_all;
      numbered = st.numbered;
      for_known = st.for_known;
      begun_once = begun_begun f front.work b front.found (subst (IsOn f.reserved t) (sym for_none) tt) front.unbegun st.begun_once;
      begun_exists = each_last (λ (c : Begun). c.thread < size) f.begun b st.begun_exists exists;
      begun_first = first_begun f b st.begun_first;
      finished_first = st.finished_first;
      granted_once = st.granted_once;
      ended_known = st.ended_known;
      waiting = sym (unbegun_front f.handed f.begun None task (rest_of s.waiting) b st.numbered front refl);
      owed = st.owed;
      each_thread = λ u below. put_each (ThreadStands f.handed (f.begun ++ b ∷ []) f.finished f.reserved f.ended) s.threads t y lt here
          (λ v vlt ne. thread_begun f front.work b v (thread_at s v) st.numbered front.found ne (λ h is. ap (is_that h) for_none)
          (st.each_thread v (omega (arith, vlt, st.size))))
          u (omega (arith, below, st.size));
      general = general_more f front.work b st.numbered front.found front.of front.unbegun open_yet ∙ ap (λ n. n + 1) st.general
          ∙ general_now s.threads t task lt idle free;
    }

general_own : (ths : List ThreadState) (t : ℕ) (task : Task) (helper : ℕ) → t < length ths → (get_or ths t idle_thread).helper ≡ Some helper
    → (get_or ths t idle_thread).running ≡ None
    → count_by runs_general (set ths t (with_own_running task (get_or ths t idle_thread))) ≡ count_by runs_general ths
general_own ths t task helper lt is idle =
    let x = get_or ths t idle_thread in
    let before : one_if (runs_general x) ≡ 0 = ap (λ o. one_if (is_some o && is_none x.helper)) idle in
    let after : one_if (runs_general (with_own_running task x)) ≡ 0 = ap (λ o. one_if (true && is_none o)) is in
    omega (arith, general_put ths t (with_own_running task x) lt, before, after)

-- the helper's first work begins on the helper's thread
pub stands_own_begun : (size : ℕ) (f : Facts) (s : DeskState) (t helper : ℕ) (task : Task) → Stands size f s → t < size
    → (thread_at s t).running ≡ None → (thread_at s t).helper ≡ Some helper → first_of (thread_at s t).queue ≡ Some task
    → Stands size (added (event.Start t task.id) f) (own_begun task t s)
stands_own_begun size f s t helper task st exists idle is first =
    let b : Begun = record { thread = t; id = task.id } in
    let x = thread_at s t in
    let y = with_own_running task x in
    let lt : t < length s.threads = omega (arith, exists, st.size) in
    let row = st.each_thread t exists in
    let queue = subst (λ o. IsQueueFor f.handed f.begun f.ended o x) is row.queue in
    let of = helper_of size f s t helper st (subst (λ o. held_on f.reserved f.ended f.finished f.handed t ≡ reserved_list t o) is row.held) in
    let front = front_of f.handed f.begun (Some helper) task (rest_of x.queue) st.numbered (sym queue.0 ∙ cons_of x.queue task first) in
    let for_helper : front.work.helper ≡ Some helper = of_is (Some helper) front.work front.of in
    let open_yet = unfinished f.begun f.finished task.id st.begun_first front.unbegun in
    let new_queue : IsQueueFor f.handed (f.begun ++ b ∷ []) f.ended (Some helper) y =
    (sym (unbegun_front f.handed f.begun (Some helper) task (rest_of x.queue) b st.numbered front refl), queue.1) in
    let here : ThreadStands f.handed (f.begun ++ b ∷ []) f.finished f.reserved f.ended t y = record {
      running = running_here f.begun f.finished t task (row.running ∙ ap (begun_list t) idle) open_yet;
      task = front.found ∙ ap Some (rebuilt front.work task x.helper front.same (for_helper ∙ sym is));
      held = row.held;
      queue = subst (λ o. IsQueueFor f.handed (f.begun ++ b ∷ []) f.ended o y) (sym is) new_queue;
    } in
    record {
      size = length-set s.threads t y ∙ st.size;
      submits = st.submits;
      helpers = st.helpers;
      closed = st.closed;
      handed_all = st.handed_all;
      numbered = st.numbered;
      for_known = st.for_known;
      begun_once = begun_begun f front.work b front.found (subst (IsOn f.reserved t) (sym for_helper) of.thread) front.unbegun st.begun_once;
      begun_exists = each_last (λ (c : Begun). c.thread < size) f.begun b st.begun_exists exists;
      begun_first = first_begun f b st.begun_first;
      finished_first = st.finished_first;
      granted_once = st.granted_once;
      ended_known = st.ended_known;
      waiting = st.waiting ∙ sym (unbegun_other f.handed f.begun None front.work b st.numbered front.found (ap is_none for_helper));
      owed = st.owed;
      each_thread = λ u below. put_each (ThreadStands f.handed (f.begun ++ b ∷ []) f.finished f.reserved f.ended) s.threads t y lt here
          (λ v vlt ne. thread_begun f front.work b v (thread_at s v) st.numbered front.found ne
          (λ h h_is. ap (is_that h) for_helper ∙ false_from_ne_true (helper == h)
          (λ e. ne (one_thread size f s v t helper st (omega (arith, vlt, st.size))
          (h_is ∙ ap Some (sym (eqb-true helper h e))) of.thread))) (st.each_thread v (omega (arith, vlt, st.size))))
          u (omega (arith, below, st.size));
      general = general_kept f front.work b st.numbered front.found (ap is_none for_helper) ∙ st.general ∙ sym (general_own s.threads t task helper lt is idle);
    }
