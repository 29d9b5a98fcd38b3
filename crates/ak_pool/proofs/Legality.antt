-- An event is legal exactly where it fits what the pool keeps.
use Rattle.std.proofs.Common.{ℕ, ◌+◌, ◌<◌, ◌≤◌, ◌≡◌, List, [], ◌∷◌, Bool, true, false, length, refl, ap, sym, ◌∙◌, subst, arith, inl, inr}
use Rattle.std.specs.Prelude.{not, ◌&&◌, ◌==◌, nat_lt, filter, find, map, Option, Some, None, is_some, is_none}
use Rattle.std.specs.List.{list_any, list_all, position}
use Rattle.std.specs.Option.{option_map}
use Rattle.std.proofs.lemmas.Bool.{eq-eqb, eqb-true, ltb-true, lt-ltb, true_from_ne_false, cases_lt, and_parts}
use Rattle.ak_base.specs.Lists.{first_of, rest_of}
use Rattle.ak_labor.specs.declared.work.Outcome.{Outcome}
use Rattle.ak_labor.specs.Waits.{Handed}
use Rattle.ak_history.specs.declared.event.Event.{Event}
use Rattle.ak_history.specs.declared.event.Event.TheVariants as event
use Rattle.ak_history.specs.Events.{Begun, Reserved, is_that, is_among, is_for, is_general, work_at, begun, handed, is_close}
use Rattle.ak_history.specs.Legal.{IsLegalAfter, IsServed, StartsFor, Starts, HasValue}
use Rattle.ak_pool.specs.declared.task.Task.{Task}
use Rattle.ak_pool.specs.Threads.{idle_thread, serves}
use Rattle.ak_pool.specs.Desks.{DeskState, thread_at, next_by, next_of, is_served}
use Rattle.ak_pool.specs.Askers.{RequestsState}
use Rattle.ak_pool.specs.AskersStand.{AskersStand, request_facts}
use Rattle.ak_pool.proofs.AskedRules.{next_number, free_idle, unfetched_is, answer_rule}
use Rattle.ak_pool.specs.Judged.{FitsRequests, Fits, Ends}
use Rattle.ak_pool.specs.Facts.{Facts, facts_of, has_begun, has_finished, work_in, thread_in, over_in, is_of, task_of, held_on, running_on, unbegun}
use Rattle.ak_pool.specs.Stands.{Each, AreNumbered, Stands, IsGrantedOnce, IsQueueFor, IsTaskFor, reserved_list, begun_list}
use Rattle.ak_pool.proofs.Items.{each_map, each_both, each_find, unfilter, all_each, filter_nil, some_same, some_found, find_passes, any_none, any_from_find}
use Rattle.ak_pool.proofs.Numbers.{Grow, grow_each, grow_filter, numbered_grow, findable, found_id}
use Rattle.ak_pool.proofs.Works.{IsFront, front_of, waits, and_both, of_is}
use Rattle.ak_pool.proofs.Rows.{helper_of, serving_at}
use Rattle.ak_pool.proofs.Starts.{unfinished, cons_of}
use Rattle.ak_pool.proofs.Overs.{not_all, all_filter, done_once}
use Rattle.ak_pool.proofs.Finishes.{IsRunning, running_of}
use Rattle.ak_pool.proofs.Helpers.{map_filter}
use Rattle.ak_pool.proofs.Judging.{position_some, runs_on, held_by, runs_is, held_is, answer_is}

-- one item alone passes
one_passes : {A : Type 0} (p : A → Bool) (xs : List A) (y : A) → filter p xs ≡ y ∷ [] → Each (λ x. p x ≡ true → x ≡ y) xs
one_passes p xs y e = unfilter (λ x. x ≡ y) p xs (subst (λ ys. Each (λ x. x ≡ y) ys) (sym e) (refl, tt))

and_now : (a b : Bool) → a ≡ true → b ≡ false → (a && not b) ≡ true
and_now a b e k = ap (λ c. c && not b) e ∙ ap not k

holds_at : (f : Facts) (t helper : ℕ) (r : Reserved) (o : Option ℕ) → held_on f.reserved f.ended f.finished f.handed t ≡ reserved_list t o
    → find (λ (x : Reserved). x.helper == helper) f.reserved ≡ Some r → r.thread ≡ t → over_in f.ended f.finished f.handed helper ≡ false
    → o ≡ Some helper
holds_at f t helper r None held found on goes_on =
    let none = each_find (λ (x : Reserved). (x.thread == t && not (over_in f.ended f.finished f.handed x.helper)) ≡ false)
    (λ (x : Reserved). x.helper == helper) f.reserved r
    (filter_nil (λ (x : Reserved). x.thread == t && not (over_in f.ended f.finished f.handed x.helper)) f.reserved held) found in
    let id : r.helper ≡ helper = eqb-true r.helper helper (find_passes (λ (x : Reserved). x.helper == helper) f.reserved r found) in
    absurd (cc (
      none,
      and_now (r.thread == t) (over_in f.ended f.finished f.handed r.helper) (eq-eqb r.thread t on)
          (ap (over_in f.ended f.finished f.handed) id ∙ goes_on),
    ))
holds_at f t helper r (Some h) held found on goes_on =
    let one = each_find (λ (x : Reserved). (x.thread == t && not (over_in f.ended f.finished f.handed x.helper)) ≡ true
    → x ≡ record { helper = h; thread = t }) (λ (x : Reserved). x.helper == helper) f.reserved r
    (one_passes (λ (x : Reserved). x.thread == t && not (over_in f.ended f.finished f.handed x.helper)) f.reserved
    (record { helper = h; thread = t }) held) found in
    let id : r.helper ≡ helper = eqb-true r.helper helper (find_passes (λ (x : Reserved). x.helper == helper) f.reserved r found) in
    let same = one (and_now (r.thread == t) (over_in f.ended f.finished f.handed r.helper) (eq-eqb r.thread t on)
    (ap (over_in f.ended f.finished f.handed) id ∙ goes_on)) in
    ap Some (sym (ap (λ (x : Reserved). x.helper) same) ∙ id)

thread_found : (reserved : List Reserved) (helper t : ℕ) (o : Option Reserved) → find (λ (x : Reserved). x.helper == helper) reserved ≡ o
    → option_map (λ (x : Reserved). x.thread) o ≡ Some t
    → (r : Reserved) × (find (λ (x : Reserved). x.helper == helper) reserved ≡ Some r) × (r.thread ≡ t)
thread_found reserved helper t None e k = absurd (cc)
thread_found reserved helper t (Some r) e k = (r, e, some_same r.thread t k)

-- the thread of a helper that is not over
holds : (size : ℕ) (f : Facts) (s : DeskState) (t helper : ℕ) → Stands size f s → thread_in f.reserved helper ≡ Some t
    → over_in f.ended f.finished f.handed helper ≡ false → (t < size) × ((thread_at s t).helper ≡ Some helper)
holds size f s t helper st on goes_on =
    let k = thread_found f.reserved helper t (find (λ (x : Reserved). x.helper == helper) f.reserved) refl on in
    let granted = each_find (IsGrantedOnce size f.helpers f.reserved) (λ (x : Reserved). x.helper == helper) f.reserved k.0 st.granted_once k.1 in
    let lt : t < size = omega (arith, granted.exists, k.2) in
    (lt, holds_at f t helper k.0 (thread_at s t).helper (st.each_thread t lt).held k.1 k.2 goes_on)

-- a helper that is granted and not ended
pub active_served : (size : ℕ) (f : Facts) (s : DeskState) (helper : ℕ) → Stands size f s
    → (list_any (λ (r : Reserved). r.helper == helper) f.reserved && not (is_among f.ended helper)) ≡ true
    → is_some (position (serves helper) s.threads) ≡ true
active_served size f s helper st e =
    let parts = and_both (list_any (λ (r : Reserved). r.helper == helper) f.reserved) (is_among f.ended helper) e in
    let k = some_found (λ (r : Reserved). r.helper == helper) f.reserved parts.0 in
    let on : thread_in f.reserved helper ≡ Some k.0.thread = ap (option_map (λ (x : Reserved). x.thread)) k.1 in
    let there = holds size f s k.0.thread helper st on
    (ap (λ b. b && list_all (λ w. has_finished f.finished w.id) (filter (is_for helper) f.handed)) parts.1) in
    let x = thread_at s k.0.thread in
    let queue = subst (λ o. IsQueueFor f.handed f.begun f.ended o x) there.1 (st.each_thread k.0.thread there.0).queue in
    position_some (serves helper) s.threads k.0.thread idle_thread (omega (arith, there.0, st.size))
    (and_now (is_that helper x.helper) x.ended (ap (is_that helper) there.1 ∙ eq-eqb helper helper refl) (queue.1 ∙ parts.1))

served_at : (size : ℕ) (f : Facts) (s : DeskState) (helper : ℕ) (o : Option ℕ) → Stands size f s → position (serves helper) s.threads ≡ o
    → is_some o ≡ true → (list_any (λ (r : Reserved). r.helper == helper) f.reserved && not (is_among f.ended helper)) ≡ true
served_at size f s helper None st e k = absurd (cc)
served_at size f s helper (Some p) st e k =
    let on = serving_at size f s helper p st e in
    let r = thread_found f.reserved helper p (find (λ (x : Reserved). x.helper == helper) f.reserved) refl on.of.thread in
    and_now (list_any (λ (x : Reserved). x.helper == helper) f.reserved) (is_among f.ended helper)
    (sym (any_from_find (λ (x : Reserved). x.helper == helper) f.reserved) ∙ ap is_some r.1) on.not_ended

served_active : (size : ℕ) (f : Facts) (s : DeskState) (helper : ℕ) → Stands size f s → is_some (position (serves helper) s.threads) ≡ true
    → (list_any (λ (r : Reserved). r.helper == helper) f.reserved && not (is_among f.ended helper)) ≡ true
served_active size f s helper st e = served_at size f s helper (position (serves helper) s.threads) st refl e

and_yes : (a b : Bool) → a ≡ true → b ≡ true → (a && b) ≡ true
and_yes a b e k = ap (λ c. c && b) e ∙ k

map_nil : {A B : Type 0} (g : A → B) (xs : List A) → map g xs ≡ [] → xs ≡ []
map_nil g [] e = refl
map_nil g (x ∷ xs) e = absurd (cc)

-- the first work that waits is the one before which none waits
front_cases : (handed : List Handed) (begun : List Begun) (o : Option ℕ) (id : ℕ) (w : Handed) (queue : List Task) → AreNumbered 0 handed
    → queue ≡ unbegun handed begun o → work_in handed id ≡ Some w → is_of o w ≡ true → has_begun begun id ≡ false
    → Each (λ v. (is_of o v && nat_lt v.id id) ≡ true → has_begun begun v.id ≡ true) handed
    → option_map (λ (t : Task). t.id) (first_of queue) ≡ Some id
front_cases handed begun o id w [] num q found of no_start before =
    let none = filter_nil (waits begun o) handed (map_nil task_of (filter (waits begun o) handed) (sym q)) in
    let here = each_find (λ v. waits begun o v ≡ false) (λ (v : Handed). v.id == id) handed w none found in
    absurd (cc (here, and_now (is_of o w) (has_begun begun w.id) of (ap (has_begun begun) (found_id id w handed found) ∙ no_start)))
front_cases handed begun o id w (x ∷ xs) num q found of no_start before =
    let front = front_of handed begun o x xs num (sym q) in
    let v = front.work in
    let v_id : v.id ≡ x.id = ap (λ (t : Task). t.id) front.same in
    let w_id : w.id ≡ id = found_id id w handed found in
    let grow = subst (Grow 0) front.kept (grow_filter (waits begun o) 0 handed (numbered_grow 0 handed num)) in
    let below : Each (λ y. v.id ≤ y.id) (filter (waits begun o) handed) =
    subst (λ ys. Each (λ y. v.id ≤ y.id) ys) (sym front.kept) (
      omega arith,
      each_map (λ y. v.id + 1 ≤ y.id) (λ y. v.id ≤ y.id) (λ y k. omega (arith, k)) front.works
          (grow_each (v.id + 1) front.works grow.1),
    ) in
    let le : v.id ≤ w.id =
    each_find (λ y. waits begun o y ≡ true → v.id ≤ y.id) (λ (y : Handed). y.id == id) handed w
    (unfilter (λ y. v.id ≤ y.id) (waits begun o) handed below) found
    (and_now (is_of o w) (has_begun begun w.id) of (ap (has_begun begun) w_id ∙ no_start)) in
    let ge : id ≤ v.id = elim (cases_lt v.id id) [
      | inl less ↦ absurd (cc (
        each_find (λ y. (is_of o y && nat_lt y.id id) ≡ true → has_begun begun y.id ≡ true)
            (λ (y : Handed). y.id == x.id) handed v before front.found
            (and_yes (is_of o v) (nat_lt v.id id) front.of (lt-ltb v.id id less)),
        ap (has_begun begun) v_id,
        front.unbegun,
      ))
      | inr k ↦ k
    ] in
    ap Some (omega (arith, le, ge, v_id, w_id))

-- each work of the helper before the first that waits is begun
begun_before : (handed : List Handed) (begun : List Begun) (o : Option ℕ) (task : Task) (rest : List Task) → AreNumbered 0 handed
    → IsFront handed begun o task rest → Each (λ v. (is_of o v && nat_lt v.id task.id) ≡ true → has_begun begun v.id ≡ true) handed
begun_before handed begun o task rest num front =
    let w = front.work in
    let w_id : w.id ≡ task.id = ap (λ (t : Task). t.id) front.same in
    let grow = subst (Grow 0) front.kept (grow_filter (waits begun o) 0 handed (numbered_grow 0 handed num)) in
    let below : Each (λ y. w.id ≤ y.id) (filter (waits begun o) handed) =
    subst (λ ys. Each (λ y. w.id ≤ y.id) ys) (sym front.kept) (
      omega arith,
      each_map (λ y. w.id + 1 ≤ y.id) (λ y. w.id ≤ y.id) (λ y k. omega (arith, k)) front.works
          (grow_each (w.id + 1) front.works grow.1),
    ) in
    each_map (λ y. waits begun o y ≡ true → w.id ≤ y.id) (λ y. (is_of o y && nat_lt y.id task.id) ≡ true → has_begun begun y.id ≡ true) (λ y k e.
    let parts = and_parts (is_of o y) (nat_lt y.id task.id) e in
    true_from_ne_false (has_begun begun y.id)
    (λ no_start. absurd (omega (
      arith,
      k (and_now (is_of o y) (has_begun begun y.id) parts.0 no_start),
      w_id,
      ltb-true y.id task.id parts.1,
    )))) handed (unfilter (λ y. w.id ≤ y.id) (waits begun o) handed below)

some_not : {A : Type 0} (o : Option A) → is_some o ≡ false → o ≡ None
some_not None e = refl
some_not (Some x) e = absurd (cc)

-- a thread that may start a general work
start_general : (size : ℕ) (f : Facts) (s : DeskState) (t id : ℕ) (w : Handed) → Stands size f s → t < size → work_in f.handed id ≡ Some w
    → w.helper ≡ None → has_begun f.begun id ≡ false → runs_on f t ≡ false → held_by f t ≡ false
    → list_all (λ v. has_begun f.begun v.id) (filter (λ v. is_general v && nat_lt v.id id) f.handed) ≡ true
    → (t < length s.threads) × ((thread_at s t).running ≡ None) × (option_map (λ (task : Task). task.id) (next_of s t) ≡ Some id)
start_general size f s t id w st lt found free no_start idle unheld before =
    let x = thread_at s t in
    let running = some_not x.running (sym (runs_is size f s t st lt) ∙ idle) in
    let helper = some_not x.helper (sym (held_is size f s t st lt) ∙ unheld) in (
      omega (arith, lt, st.size),
      running,
      ap (λ o. option_map (λ (task : Task). task.id) (next_by o s t)) helper
          ∙ front_cases f.handed f.begun None id w s.waiting st.numbered st.waiting found (ap is_none free) no_start
          (unfilter (λ v. has_begun f.begun v.id ≡ true) (λ v. is_general v && nat_lt v.id id) f.handed
          (all_each (λ v. has_begun f.begun v.id) (filter (λ v. is_general v && nat_lt v.id id) f.handed) before)),
    )

finished_begun : (begun : List Begun) (finished : List (ℕ × Outcome)) (id : ℕ) → Each (λ x. has_begun begun x.0 ≡ true) finished
    → has_finished finished id ≡ true → has_begun begun id ≡ true
finished_begun begun finished id first e =
    true_from_ne_false (has_begun begun id) (λ no_start. absurd (cc (unfinished begun finished id first no_start, e)))

and_no : (a : Bool) → (a && false) ≡ false
and_no true = refl
and_no false = refl

-- a thread that may start its helper's work
pub start_own : (size : ℕ) (f : Facts) (s : DeskState) (t id helper : ℕ) (w : Handed) → Stands size f s → work_in f.handed id ≡ Some w
    → w.helper ≡ Some helper → has_begun f.begun id ≡ false → thread_in f.reserved helper ≡ Some t → runs_on f t ≡ false
    → list_all (λ v. has_finished f.finished v.id) (filter (λ v. is_for helper v && nat_lt v.id id) f.handed) ≡ true
    → (t < length s.threads) × ((thread_at s t).running ≡ None) × (option_map (λ (task : Task). task.id) (next_of s t) ≡ Some id)
start_own size f s t id helper w st found for_helper no_start on idle before =
    let x = thread_at s t in
    let of : is_for helper w ≡ true = ap (is_that helper) for_helper ∙ eq-eqb helper helper refl in
    let w_id = found_id id w f.handed found in
    let open_yet = unfinished f.begun f.finished id st.begun_first no_start in
    let goes_on : over_in f.ended f.finished f.handed helper ≡ false =
    ap (λ b. is_among f.ended helper && b)
    (not_all f.handed f.finished helper id w found of (ap (has_finished f.finished) w_id ∙ open_yet))
    ∙ and_no (is_among f.ended helper) in
    let there = holds size f s t helper st on goes_on in
    let running = some_not x.running (sym (runs_is size f s t st there.0) ∙ idle) in
    let queue = subst (λ o. IsQueueFor f.handed f.begun f.ended o x) there.1 (st.each_thread t there.0).queue in
    let each = unfilter (λ v. has_finished f.finished v.id ≡ true) (λ v. is_for helper v && nat_lt v.id id) f.handed
    (all_each (λ v. has_finished f.finished v.id) (filter (λ v. is_for helper v && nat_lt v.id id) f.handed) before) in (
      omega (arith, there.0, st.size),
      running,
      ap (λ o. option_map (λ (task : Task). task.id) (next_by o s t)) there.1
          ∙ front_cases f.handed f.begun (Some helper) id w x.queue st.numbered queue.0 found of no_start
          (each_map (λ v. (is_for helper v && nat_lt v.id id) ≡ true → has_finished f.finished v.id ≡ true)
          (λ v. (is_for helper v && nat_lt v.id id) ≡ true → has_begun f.begun v.id ≡ true)
          (λ v k e. finished_begun f.begun f.finished v.id st.begun_first (k e)) f.handed each),
    )

abbrev pub StartsBy : ℕ → Facts → ℕ → ℕ → Handed → Option ℕ → Type 0
StartsBy size f t id w None =
    (t < size) × (has_begun f.begun id ≡ false) × (runs_on f t ≡ false) × (held_by f t ≡ false)
    × (list_all (λ v. has_begun f.begun v.id) (filter (λ v. is_general v && nat_lt v.id id) f.handed) ≡ true)
StartsBy size f t id w (Some helper) =
    (thread_in f.reserved helper ≡ Some t) × (has_begun f.begun id ≡ false) × (runs_on f t ≡ false)
    × (list_all (λ v. has_finished f.finished v.id) (filter (λ v. is_for helper v && nat_lt v.id id) f.handed) ≡ true)

-- what may start on the thread, which runs nothing
abbrev pub StartsAt : ℕ → Facts → ℕ → ℕ → Option Handed → Type 0
StartsAt size f t id None = ⊥
StartsAt size f t id (Some w) = StartsBy size f t id w w.helper

-- the work that is next on the thread may start
next_general : (size : ℕ) (f : Facts) (s : DeskState) (t : ℕ) (task : Task) → Stands size f s → t < size → (thread_at s t).running ≡ None
    → (thread_at s t).helper ≡ None → first_of s.waiting ≡ Some task → StartsAt size f t task.id (work_in f.handed task.id)
next_general size f s t task st lt idle free first =
    let front = front_of f.handed f.begun None task (rest_of s.waiting) st.numbered (sym st.waiting ∙ cons_of s.waiting task first) in
    let w = front.work in
    subst (StartsAt size f t task.id) (sym front.found) (subst (StartsBy size f t task.id w) (sym (of_is None w front.of)) (
      lt,
      front.unbegun,
      runs_is size f s t st lt ∙ ap is_some idle,
      held_is size f s t st lt ∙ ap is_some free,
      all_filter (λ v. is_general v && nat_lt v.id task.id) (λ v. has_begun f.begun v.id) f.handed
          (begun_before f.handed f.begun None task (rest_of s.waiting) st.numbered front),
    ))

next_own : (size : ℕ) (f : Facts) (s : DeskState) (t helper : ℕ) (task : Task) → Stands size f s → t < size → (thread_at s t).running ≡ None
    → (thread_at s t).helper ≡ Some helper → first_of (thread_at s t).queue ≡ Some task → StartsAt size f t task.id (work_in f.handed task.id)
next_own size f s t helper task st lt idle has first =
    let x = thread_at s t in
    let row = st.each_thread t lt in
    let queue = subst (λ o. IsQueueFor f.handed f.begun f.ended o x) has row.queue in
    let of = helper_of size f s t helper st (row.held ∙ ap (reserved_list t) has) in
    let front = front_of f.handed f.begun (Some helper) task (rest_of x.queue) st.numbered (sym queue.0 ∙ cons_of x.queue task first) in
    let w = front.work in
    let still = filter_nil (λ (b : Begun). b.thread == t && not (has_finished f.finished b.id)) f.begun (row.running ∙ ap (begun_list t) idle) in
    let before = begun_before f.handed f.begun (Some helper) task (rest_of x.queue) st.numbered front in
    let done = each_map (λ v. ((is_for helper v && nat_lt v.id task.id) ≡ true → has_begun f.begun v.id ≡ true)
    × (work_in f.handed v.id ≡ Some v)) (λ v. (is_for helper v && nat_lt v.id task.id) ≡ true → has_finished f.finished v.id ≡ true)
    (λ v k e. done_once f.handed f.begun f.finished f.reserved t helper v st.begun_once still of.thread k.1
    (and_parts (is_for helper v) (nat_lt v.id task.id) e).0 (k.0 e)) f.handed
    (each_both (λ v. (is_for helper v && nat_lt v.id task.id) ≡ true → has_begun f.begun v.id ≡ true)
    (λ v. work_in f.handed v.id ≡ Some v) f.handed before (findable 0 f.handed (numbered_grow 0 f.handed st.numbered))) in
    subst (StartsAt size f t task.id) (sym front.found) (subst (StartsBy size f t task.id w) (sym (of_is (Some helper) w front.of)) (
      of.thread,
      front.unbegun,
      runs_is size f s t st lt ∙ ap is_some idle,
      all_filter (λ v. is_for helper v && nat_lt v.id task.id)
          (λ v. has_finished f.finished v.id) f.handed done,
    ))

next_by_helper : (size : ℕ) (f : Facts) (s : DeskState) (t : ℕ) (task : Task) (o : Option ℕ) → Stands size f s → t < size
    → (thread_at s t).running ≡ None → (thread_at s t).helper ≡ o → next_by o s t ≡ Some task → StartsAt size f t task.id (work_in f.handed task.id)
next_by_helper size f s t task None st lt idle has next = next_general size f s t task st lt idle has next
next_by_helper size f s t task (Some helper) st lt idle has next = next_own size f s t helper task st lt idle has next

pub next_starts : (size : ℕ) (f : Facts) (s : DeskState) (t : ℕ) (task : Task) → Stands size f s → t < size → (thread_at s t).running ≡ None
    → next_of s t ≡ Some task → StartsAt size f t task.id (work_in f.handed task.id)
next_starts size f s t task st lt idle next =
    next_by_helper size f s t task (thread_at s t).helper st lt idle refl next

-- what may start on the thread is next
starts_by : (size : ℕ) (f : Facts) (s : DeskState) (t id : ℕ) (w : Handed) (o : Option ℕ) → Stands size f s → work_in f.handed id ≡ Some w
    → w.helper ≡ o → StartsBy size f t id w o
    → (t < length s.threads) × ((thread_at s t).running ≡ None) × (option_map (λ (task : Task). task.id) (next_of s t) ≡ Some id)
starts_by size f s t id w None st found is h = start_general size f s t id w st h.0 found is h.1 h.2 h.3 h.4
starts_by size f s t id w (Some helper) st found is h = start_own size f s t id helper w st found is h.1 h.0 h.2 h.3

starts_some : (size : ℕ) (f : Facts) (s : DeskState) (t id : ℕ) (o : Option Handed) → Stands size f s → work_in f.handed id ≡ o
    → StartsAt size f t id o
    → (t < length s.threads) × ((thread_at s t).running ≡ None) × (option_map (λ (task : Task). task.id) (next_of s t) ≡ Some id)
starts_some size f s t id None st found h = absurd h
starts_some size f s t id (Some w) st found h = starts_by size f s t id w w.helper st found refl h

pub starts_next : (size : ℕ) (f : Facts) (s : DeskState) (t id : ℕ) → Stands size f s → StartsAt size f t id (work_in f.handed id)
    → (t < length s.threads) × ((thread_at s t).running ≡ None) × (option_map (λ (task : Task). task.id) (next_of s t) ≡ Some id)
starts_next size f s t id st h = starts_some size f s t id (work_in f.handed id) st refl h

starts_from_by : (size : ℕ) (history : List Event) (t id : ℕ) (w : Handed) (o : Option ℕ) → has_begun (begun history) id ≡ false
    → StartsFor size history t id o → StartsBy size (facts_of history) t id w o
starts_from_by size history t id w None e h = (h.thread_exists, e, h.thread_idle, h.thread_free, h.in_order)
starts_from_by size history t id w (Some helper) e h = (h.thread_is, e, h.thread_idle, h.in_order)

-- the rule of a start, by the facts
starts_from : (size : ℕ) (history : List Event) (t id : ℕ) (o : Option Handed) → Starts size history t id o → StartsAt size (facts_of history) t id o
starts_from size history t id None h = h
starts_from size history t id (Some w) h = starts_from_by size history t id w w.helper h.0 h.1

starts_to_by : (size : ℕ) (history : List Event) (t id : ℕ) (w : Handed) (o : Option ℕ) → StartsBy size (facts_of history) t id w o
    → (has_begun (begun history) id ≡ false) × StartsFor size history t id o
starts_to_by size history t id w None h =
    (h.1, record { thread_exists = h.0; thread_idle = h.2; thread_free = h.3; in_order = h.4 })
starts_to_by size history t id w (Some helper) h = (h.1, record { thread_is = h.0; thread_idle = h.2; in_order = h.3 })

starts_to : (size : ℕ) (history : List Event) (t id : ℕ) (o : Option Handed) → StartsAt size (facts_of history) t id o → Starts size history t id o
starts_to size history t id None h = h
starts_to size history t id (Some w) h = starts_to_by size history t id w w.helper h

-- a thread ends the work that it runs
runs_one : (f : Facts) (t id : ℕ) (b : Begun) (o : Option Task) → running_on f.begun f.finished t ≡ begun_list t o
    → find (λ (x : Begun). x.thread == t && x.id == id) f.begun ≡ Some b → has_finished f.finished id ≡ false
    → (task : Task) × (o ≡ Some task) × (task.id ≡ id)
runs_one f t id b None runs found open_yet =
    let parts = and_parts (b.thread == t) (b.id == id) (find_passes (λ (x : Begun). x.thread == t && x.id == id) f.begun b found) in
    let none = each_find (λ (x : Begun). (x.thread == t && not (has_finished f.finished x.id)) ≡ false)
    (λ (x : Begun). x.thread == t && x.id == id) f.begun b
    (filter_nil (λ (x : Begun). x.thread == t && not (has_finished f.finished x.id)) f.begun runs) found in
    absurd (cc (none, and_now (b.thread == t) (has_finished f.finished b.id) parts.0 (ap (has_finished f.finished) (eqb-true b.id id parts.1) ∙ open_yet)))
runs_one f t id b (Some task) runs found open_yet =
    let parts = and_parts (b.thread == t) (b.id == id) (find_passes (λ (x : Begun). x.thread == t && x.id == id) f.begun b found) in
    let one = each_find (λ (x : Begun). (x.thread == t && not (has_finished f.finished x.id)) ≡ true
    → x ≡ record { thread = t; id = task.id }) (λ (x : Begun). x.thread == t && x.id == id) f.begun b
    (one_passes (λ (x : Begun). x.thread == t && not (has_finished f.finished x.id)) f.begun
    (record { thread = t; id = task.id }) runs) found in
    let same = one (and_now (b.thread == t) (has_finished f.finished b.id) parts.0 (ap (has_finished f.finished) (eqb-true b.id id parts.1) ∙ open_yet)) in
    (task, refl, sym (ap (λ (x : Begun). x.id) same) ∙ eqb-true b.id id parts.1)

ends_of : (size : ℕ) (f : Facts) (s : DeskState) (t id : ℕ) (outcome : Outcome) → Stands size f s
    → list_any (λ (b : Begun). b.thread == t && b.id == id) f.begun ≡ true → has_finished f.finished id ≡ false
    → HasValue (work_in f.handed id) outcome → (t < length s.threads) × Ends id outcome (thread_at s t).running
ends_of size f s t id outcome st started open_yet value =
    let k = some_found (λ (b : Begun). b.thread == t && b.id == id) f.begun started in
    let parts = and_parts (k.0.thread == t) (k.0.id == id) (find_passes (λ (x : Begun). x.thread == t && x.id == id) f.begun k.0 k.1) in
    let below : k.0.thread < size = each_find (λ (b : Begun). b.thread < size) (λ (x : Begun). x.thread == t && x.id == id) f.begun k.0 st.begun_exists k.1 in
    let lt : t < size = omega (arith, below, eqb-true k.0.thread t parts.0) in
    let row = st.each_thread t lt in
    let x = thread_at s t in
    let one = runs_one f t id k.0 x.running row.running k.1 open_yet in
    let task : work_in f.handed one.0.id ≡ Some (record { id = one.0.id; work = one.0.work; helper = x.helper }) =
    subst (IsTaskFor f.handed x.helper) one.1 row.task in (
      omega (arith, lt, st.size),
      subst (Ends id outcome) (sym one.1)
          (one.2, subst (λ o. HasValue o outcome) task (subst (λ n. HasValue (work_in f.handed n) outcome) (sym one.2) value)),
    )

-- whether the thread runs the work
began : (f : Facts) (t : ℕ) (task : Task) → IsRunning f t task → list_any (λ (b : Begun). b.thread == t && b.id == task.id) f.begun ≡ true
began f t task run =
    true_from_ne_false (list_any (λ (b : Begun). b.thread == t && b.id == task.id) f.begun) (λ e.
    let none = each_find (λ (b : Begun). (b.thread == t && b.id == task.id) ≡ false) (λ (b : Begun). b.id == task.id) f.begun
    (record { thread = t; id = task.id }) (any_none (λ (b : Begun). b.thread == t && b.id == task.id) f.begun e) run.first in
    absurd (cc (none, and_yes (t == t) (task.id == task.id) (eq-eqb t t refl) (eq-eqb task.id task.id refl))))

ends_rule : (size : ℕ) (f : Facts) (s : DeskState) (t id : ℕ) (outcome : Outcome) (o : Option Task) → Stands size f s → t < size
    → (thread_at s t).running ≡ o → Ends id outcome o
    → (list_any (λ (b : Begun). b.thread == t && b.id == id) f.begun ≡ true) × (has_finished f.finished id ≡ false) × HasValue (work_in f.handed id) outcome
ends_rule size f s t id outcome None st lt is h = absurd h
ends_rule size f s t id outcome (Some task) st lt is h =
    let run = running_of size f s t task st lt is in
    let x = thread_at s t in
    let found : work_in f.handed task.id ≡ Some (record { id = task.id; work = task.work; helper = x.helper }) =
    subst (IsTaskFor f.handed x.helper) is (st.each_thread t lt).task in
    subst (λ n. (list_any (λ (b : Begun). b.thread == t && b.id == n) f.begun ≡ true) × (has_finished f.finished n ≡ false)
    × HasValue (work_in f.handed n) outcome) h.0
    (began f t task run, run.unfinished, subst (λ o. HasValue o outcome) (sym found) h.1)

-- events that may not come after a close
pub closed_not : (a : Bool) → (a && true) ≡ false → a ≡ false
closed_not true e = absurd (cc)
closed_not false e = refl

pub not_closed : (a : Bool) → a ≡ false → (a && true) ≡ false
not_closed a e = ap (λ b. b && true) e

late_ok : (a : Bool) → (a && false) ≡ false
late_ok true = refl
late_ok false = refl

pub served_from : (size : ℕ) (history : List Event) (s : DeskState) (o : Option ℕ) → Stands size (facts_of history) s → IsServed history o
    → is_served o s ≡ true
served_from size history s None st h = refl
served_from size history s (Some helper) st h = active_served size (facts_of history) s helper st h

pub served_to : (size : ℕ) (history : List Event) (s : DeskState) (o : Option ℕ) → Stands size (facts_of history) s → is_served o s ≡ true → IsServed history o
served_to size history s None st h = tt
served_to size history s (Some helper) st h = served_active size (facts_of history) s helper st h

pub owed_is : (size : ℕ) (f : Facts) (s : DeskState) → Stands size f s
    → map (λ (x : ℕ × Outcome). x.0) s.owed ≡ filter (λ id. not (is_among f.drained id)) (map (λ (x : ℕ × Outcome). x.0) f.finished)
owed_is size f s st =
    ap (map (λ (x : ℕ × Outcome). x.0)) st.owed ∙ map_filter (λ id. not (is_among f.drained id)) f.finished

-- a legal event fits
pub legal_fits : (size askers : ℕ) (history : List Event) (s : DeskState) (e : Event) → Stands size (facts_of history) s
    → IsLegalAfter size askers history e → Fits s e
legal_fits size askers history s (event.Submit id work helper) st h =
    (st.closed ∙ closed_not (list_any is_close history) h.open_or_late, h.rule.0 ∙ sym st.submits, served_from size history s helper st h.rule.1)
legal_fits size askers history s (event.Start thread id) st h =
    let k = starts_next size (facts_of history) s thread id st (starts_from size history thread id (work_at history id) h.rule) in
    (st.closed ∙ closed_not (list_any is_close history) h.open_or_late, k.0, k.1, k.2)
legal_fits size askers history s (event.Finish thread id outcome) st h =
    ends_of size (facts_of history) s thread id outcome st h.rule.0 h.rule.1 h.rule.2
legal_fits size askers history s (event.Request q a n) st h = st.closed ∙ closed_not (list_any is_close history) h.open_or_late
legal_fits size askers history s (event.AskerEnd a) st h = st.closed ∙ closed_not (list_any is_close history) h.open_or_late
legal_fits size askers history s (event.Answered q v) st h = st.closed ∙ closed_not (list_any is_close history) h.open_or_late
legal_fits size askers history s (event.Drain ids requests) st h =
    (st.closed ∙ closed_not (list_any is_close history) h.open_or_late, h.rule.0 ∙ sym (owed_is size (facts_of history) s st))
legal_fits size askers history s (event.HelperNew asked answer) st h =
    (st.closed ∙ closed_not (list_any is_close history) h.open_or_late, h.rule.0 ∙ sym st.helpers, h.rule.1 ∙ answer_is size (facts_of history) s st)
legal_fits size askers history s (event.HelperEnd helper) st h =
    (st.closed ∙ closed_not (list_any is_close history) h.open_or_late, active_served size (facts_of history) s helper st h.rule)
legal_fits size askers history s event.Close st h = st.closed ∙ closed_not (list_any is_close history) h.open_or_late

pub task_next : (o : Option Task) (id : ℕ) → option_map (λ (task : Task). task.id) o ≡ Some id → (task : Task) × (o ≡ Some task) × (task.id ≡ id)
task_next None id e = absurd (cc)
task_next (Some task) id e = (task, refl, some_same task.id id e)

-- a start that fits is one that may be
pub fits_starts : (size : ℕ) (history : List Event) (s : DeskState) (thread id : ℕ) → Stands size (facts_of history) s
    → Fits s (event.Start thread id) → Starts size history thread id (work_at history id)
fits_starts size history s thread id st h =
    let k = task_next (next_of s thread) id h.3 in
    subst (λ n. Starts size history thread n (work_at history n)) k.2
    (starts_to size history thread k.0.id (work_at history k.0.id) (next_starts size (facts_of history) s thread k.0 st (omega (arith, h.1, st.size)) h.2 k.1))

-- an event that fits is legal
pub fits_legal : (size askers : ℕ) (history : List Event) (s : DeskState) (r : RequestsState) (e : Event) → Stands size (facts_of history) s
    → AskersStand askers (request_facts history) r
    → Fits s e → FitsRequests r e → IsLegalAfter size askers history e
fits_legal size askers history s r (event.Submit id work helper) st asked h k =
    record { open_or_late = not_closed (list_any is_close history) (sym st.closed ∙ h.0); rule = (h.1 ∙ st.submits, served_to size history s helper st h.2) }
fits_legal size askers history s r (event.Start thread id) st asked h k =
    record { open_or_late = not_closed (list_any is_close history) (sym st.closed ∙ h.0); rule = fits_starts size history s thread id st h }
fits_legal size askers history s r (event.Finish thread id outcome) st asked h k =
    record {
      open_or_late = late_ok (list_any is_close history);
      rule =
          ends_rule size (facts_of history) s thread id outcome (thread_at s thread).running st (omega (arith, h.0, st.size)) refl h.1;
    }
fits_legal size askers history s r (event.Request q a n) st asked h k =
    record {
      open_or_late = not_closed (list_any is_close history) (sym st.closed ∙ h);
      rule =
          (k.0 ∙ next_number askers history r asked, free_idle askers history r a asked k.1);
    }
fits_legal size askers history s r (event.AskerEnd a) st asked h k =
    record { open_or_late = not_closed (list_any is_close history) (sym st.closed ∙ h); rule = free_idle askers history r a asked k }
fits_legal size askers history s r (event.Drain ids requests) st asked h k =
    record {
      open_or_late = not_closed (list_any is_close history) (sym st.closed ∙ h.0);
      rule =
          (h.1 ∙ owed_is size (facts_of history) s st, k ∙ unfetched_is askers history r asked);
    }
fits_legal size askers history s r (event.Answered q v) st asked h k =
    record { open_or_late = not_closed (list_any is_close history) (sym st.closed ∙ h); rule = answer_rule askers history r q asked k }
fits_legal size askers history s r (event.HelperNew no' answer) st asked h k =
    record {
      open_or_late = not_closed (list_any is_close history) (sym st.closed ∙ h.0);
      rule =
          (h.1 ∙ st.helpers, h.2 ∙ sym (answer_is size (facts_of history) s st));
    }
fits_legal size askers history s r (event.HelperEnd helper) st asked h k =
    record { open_or_late = not_closed (list_any is_close history) (sym st.closed ∙ h.0); rule = served_active size (facts_of history) s helper st h.1 }
fits_legal size askers history s r event.Close st asked h k =
    record { open_or_late = not_closed (list_any is_close history) (sym st.closed ∙ h); rule = tt }
