-- Drains, helpers and the close; and a pool of which nothing was asked.
use Rattle.std.proofs.Common.{ℕ, ◌+◌, ◌<◌, ◌≡◌, List, [], ◌∷◌, ◌++◌, Bool, true, false, cond, length, refl, ap, sym, ◌∙◌, subst, arith, length-set}
use Rattle.std.specs.Prelude.{not, ◌&&◌, ◌||◌, ◌==◌, filter, find, map, Option, Some, None, is_some, is_none}
use Rattle.std.specs.List.{list_any, list_all}
use Rattle.std.specs.Option.{option_map}
use Rattle.std.proofs.lemmas.Bool.{eq-eqb, ne_eqb}
use Rattle.std.proofs.lemmas.List.{length-replicate, get_or-replicate}
use Rattle.std.proofs.lemmas.List.Folds.{list_any-append, sum_by-replicate}
use Rattle.ak_base.specs.Lists.{is_empty_list}
use Rattle.ak_labor.specs.declared.work.Outcome.{Outcome}
use Rattle.ak_labor.specs.Waits.{Handed}
use Rattle.ak_history.specs.declared.event.Event.TheVariants as event
use Rattle.ak_history.specs.Events.{Begun, Reserved, is_that, is_among, is_for}
use Rattle.ak_pool.specs.declared.task.Task.{Task}
use Rattle.ak_pool.specs.Threads.{ThreadState, idle_thread, runs_general, is_left, with_end, reserved_for}
use Rattle.ak_pool.specs.Desks.{DeskState, thread_at, fetched, answered, helper_left, no_works}
use Rattle.ak_pool.specs.Facts.{Facts, facts_of, has_begun, has_finished, thread_in, over_in, unbegun}
use Rattle.ak_pool.specs.Stands.{Each, ThreadStands, Stands, IsBegunOnce, IsGrantedOnce, IsOn, IsKnown, IsQueueFor, IsTaskFor, reserved_list}
use Rattle.ak_pool.proofs.Items.{each_map, each_last, each_append, each_filter, each_any, find_more, find_last, none_found, none_any, any_last, filter_none, filter_last, filter_kept}
use Rattle.ak_pool.proofs.Works.{waits, one_if}
use Rattle.ak_pool.proofs.Growing.{added}
use Rattle.ak_pool.proofs.Rows.{put_each, one_thread, general_put, IsServing}
use Rattle.ak_pool.proofs.Starts.{or_not, or_yes}
use Rattle.ak_pool.proofs.Overs.{held_left, list_left, list_other, stands_vacated, over_by_thread}
use Rattle.ak_pool.proofs.Finishes.{general_idle, none_both}

map_filter_at : (p : ℕ → Bool) (b : Bool) (x : ℕ × Outcome) (xs : List (ℕ × Outcome))
    → map (λ (y : ℕ × Outcome). y.0) (filter (λ y. p y.0) xs) ≡ filter p (map (λ (y : ℕ × Outcome). y.0) xs)
    → map (λ (y : ℕ × Outcome). y.0) (cond b (x ∷ filter (λ y. p y.0) xs) (filter (λ y. p y.0) xs))
    ≡ cond b (x.0 ∷ filter p (map (λ (y : ℕ × Outcome). y.0) xs)) (filter p (map (λ (y : ℕ × Outcome). y.0) xs))
map_filter_at p true x xs e = ap (λ ys. x.0 ∷ ys) e
map_filter_at p false x xs e = e

-- the numbers of what passes a test of the number
pub map_filter : (p : ℕ → Bool) (xs : List (ℕ × Outcome))
    → map (λ (x : ℕ × Outcome). x.0) (filter (λ x. p x.0) xs) ≡ filter p (map (λ (x : ℕ × Outcome). x.0) xs)
map_filter p [] = refl
map_filter p (x ∷ xs) = map_filter_at p (p x.0) x xs (map_filter p xs)

drained_at : (b c e : Bool) → c ≡ true → (b || cond b e (c || e)) ≡ true
drained_at true c e h = refl
drained_at false c e h = ap (λ d. d || e) h

drained_head : (p : ℕ → Bool) (x : ℕ × Outcome) (xs : List (ℕ × Outcome)) (b : Bool) → p x.0 ≡ b
    → (b || list_any (λ o. o == x.0)
    (cond (not b) (x.0 ∷ filter (λ id. not (p id)) (map (λ (z : ℕ × Outcome). z.0) xs))
    (filter (λ id. not (p id)) (map (λ (z : ℕ × Outcome). z.0) xs)))) ≡ true
drained_head p x xs true e = refl
drained_head p x xs false e =
    ap (λ c. c || list_any (λ o. o == x.0) (filter (λ id. not (p id)) (map (λ (z : ℕ × Outcome). z.0) xs))) (eq-eqb x.0 x.0 refl)

or_more : (a b c : Bool) → (a || b) ≡ true → (a || (c || b)) ≡ true
or_more true b c h = refl
or_more false true true h = refl
or_more false true false h = refl
or_more false false c h = absurd (cc)

drained_tail : (p : ℕ → Bool) (x : ℕ × Outcome) (xs : List (ℕ × Outcome)) (y : ℕ × Outcome) (b : Bool)
    → (p y.0 || list_any (λ o. o == y.0) (filter (λ id. not (p id)) (map (λ (z : ℕ × Outcome). z.0) xs))) ≡ true
    → (p y.0 || list_any (λ o. o == y.0)
    (cond (not b) (x.0 ∷ filter (λ id. not (p id)) (map (λ (z : ℕ × Outcome). z.0) xs))
    (filter (λ id. not (p id)) (map (λ (z : ℕ × Outcome). z.0) xs)))) ≡ true
drained_tail p x xs y true k = k
drained_tail p x xs y false k =
    or_more (p y.0) (list_any (λ o. o == y.0) (filter (λ id. not (p id)) (map (λ (z : ℕ × Outcome). z.0) xs))) (x.0 == y.0) k

-- each finished work is drained by now
all_drained : (p : ℕ → Bool) (xs : List (ℕ × Outcome))
    → Each (λ x. (p x.0 || list_any (λ o. o == x.0) (filter (λ id. not (p id)) (map (λ (y : ℕ × Outcome). y.0) xs))) ≡ true) xs
all_drained p [] = tt
all_drained p (x ∷ xs) = (
  drained_head p x xs (p x.0) refl,
  each_map (λ y. (p y.0 || list_any (λ o. o == y.0) (filter (λ id. not (p id)) (map (λ (z : ℕ × Outcome). z.0) xs))) ≡ true)
      (λ y. (p y.0 || list_any (λ o. o == y.0) (filter (λ id. not (p id)) (map (λ (z : ℕ × Outcome). z.0) (x ∷ xs)))) ≡ true)
      (λ y k. drained_tail p x xs y (p x.0) k) xs (all_drained p xs),
)

each_id : (P : ℕ → Type 0) (xs : List (ℕ × Outcome)) → Each (λ x. P x.0) xs → Each P (map (λ (x : ℕ × Outcome). x.0) xs)
each_id P [] h = tt
each_id P (x ∷ xs) h = (h.0, each_id P xs h.1)

-- every finished work is fetched
pub stands_fetched : (size : ℕ) (f : Facts) (s : DeskState) (ids requests : List ℕ) → Stands size f s
    → ids ≡ filter (λ id. not (is_among f.drained id)) (map (λ (x : ℕ × Outcome). x.0) f.finished)
    → Stands size (added (event.Drain ids requests) f) (fetched s)
stands_fetched size f s ids requests st e =
    let owed = filter (λ id. not (is_among f.drained id)) (map (λ (x : ℕ × Outcome). x.0) f.finished) in
    let gone : filter (λ (x : ℕ × Outcome). not (is_among (f.drained ++ owed) x.0)) f.finished ≡ [] =
    filter_none (λ (x : ℕ × Outcome). not (is_among (f.drained ++ owed) x.0)) f.finished
    (each_map (λ x. (is_among f.drained x.0 || list_any (λ o. o == x.0) owed) ≡ true)
    (λ x. not (is_among (f.drained ++ owed) x.0) ≡ false) (λ x k. ap not (list_any-append (λ o. o == x.0) f.drained owed ∙ k))
    f.finished (all_drained (is_among f.drained) f.finished)) in
    let first : Each (λ id. has_finished f.finished id ≡ true) owed =
    each_filter (λ id. has_finished f.finished id ≡ true) (λ id. not (is_among f.drained id)) (map (λ (x : ℕ × Outcome). x.0) f.finished)
    (each_id (λ id. has_finished f.finished id ≡ true) f.finished (each_any (λ (x : ℕ × Outcome). x.0) f.finished)) in
    record {
      size = st.size;
      submits = st.submits;
      helpers = st.helpers;
      closed = st.closed;
      handed_all = st.handed_all;
      numbered = st.numbered;
      for_known = st.for_known;
      begun_once = st.begun_once;
      begun_exists = st.begun_exists;
      begun_first = st.begun_first;
      finished_first = each_append (λ id. has_finished f.finished id ≡ true) f.drained ids st.finished_first
          (subst (λ is. Each (λ id. has_finished f.finished id ≡ true) is) (sym e) first);
      granted_once = st.granted_once;
      ended_known = st.ended_known;
      waiting = st.waiting;
      owed = sym (subst (λ is. filter (λ (x : ℕ × Outcome). not (is_among (f.drained ++ is) x.0)) f.finished ≡ []) (sym e) gone);
      each_thread = st.each_thread;
      general = st.general;
    }

-- nothing more is asked
pub stands_closed : (size : ℕ) (f : Facts) (s : DeskState) → Stands size f s → Stands size (added event.Close f) (record s { closed = true })
stands_closed size f s st =
    record {
      size = st.size;
      submits = st.submits;
      helpers = st.helpers;
      closed = refl;
      handed_all = st.handed_all;
      numbered = st.numbered;
      for_known = st.for_known;
      begun_once = st.begun_once;
      begun_exists = st.begun_exists;
      begun_first = st.begun_first;
      finished_first = st.finished_first;
      granted_once = st.granted_once;
      ended_known = st.ended_known;
      waiting = st.waiting;
      owed = st.owed;
      each_thread = st.each_thread;
      general = st.general;
    }

known_more : (helpers : ℕ) (o : Option ℕ) → IsKnown helpers o → IsKnown (helpers + 1) o
known_more helpers None h = tt
known_more helpers (Some x) h = omega (arith, h)

granted_more : (size helpers : ℕ) (reserved : List Reserved) → Each (IsGrantedOnce size helpers reserved) reserved
    → Each (IsGrantedOnce size (helpers + 1) reserved) reserved
granted_more size helpers reserved h =
    each_map (IsGrantedOnce size helpers reserved) (IsGrantedOnce size (helpers + 1) reserved)
    (λ r k. record { known = omega (arith, k.known); exists = k.exists; once = k.once }) reserved h

-- a helper is refused
pub stands_refused : (size : ℕ) (f : Facts) (s : DeskState) (h : ℕ) → Stands size f s → Stands size (added (event.HelperNew h None) f) (answered None s)
stands_refused size f s h st =
    record {
      size = st.size;
      submits = st.submits;
      helpers = ap (λ n. n + 1) st.helpers;
      closed = st.closed;
      handed_all = st.handed_all;
      numbered = st.numbered;
      for_known = each_map (λ (w : Handed). IsKnown f.helpers w.helper) (λ w. IsKnown (f.helpers + 1) w.helper)
          (λ w k. known_more f.helpers w.helper k) f.handed st.for_known;
      begun_once = st.begun_once;
      begun_exists = st.begun_exists;
      begun_first = st.begun_first;
      finished_first = st.finished_first;
      granted_once = granted_more size f.helpers f.reserved st.granted_once;
      ended_known = each_map (λ k. k < f.helpers) (λ k. k < f.helpers + 1) (λ k lt. omega (arith, lt)) f.ended st.ended_known;
      waiting = st.waiting;
      owed = st.owed;
      each_thread = st.each_thread;
      general = st.general;
    }

thread_more_at : (o : Option Reserved) (reserved : List Reserved) (r : Reserved) (h t : ℕ) → find (λ (x : Reserved). x.helper == h) reserved ≡ o
    → option_map (λ (x : Reserved). x.thread) o ≡ Some t → thread_in (reserved ++ r ∷ []) h ≡ Some t
thread_more_at None reserved r h t e k = absurd (cc)
thread_more_at (Some x) reserved r h t e k =
    ap (option_map (λ (x : Reserved). x.thread)) (find_more (λ (x : Reserved). x.helper == h) reserved (r ∷ []) x e) ∙ k

thread_more : (reserved : List Reserved) (r : Reserved) (h t : ℕ) → thread_in reserved h ≡ Some t → thread_in (reserved ++ r ∷ []) h ≡ Some t
thread_more reserved r h t e =
    thread_more_at (find (λ (x : Reserved). x.helper == h) reserved) reserved r h t refl e

on_more : (reserved : List Reserved) (r : Reserved) (t : ℕ) (o : Option ℕ) → IsOn reserved t o → IsOn (reserved ++ r ∷ []) t o
on_more reserved r t None h = tt
on_more reserved r t (Some helper) h = thread_more reserved r helper t h

not_that : (helpers : ℕ) (o : Option ℕ) → IsKnown helpers o → is_that helpers o ≡ false
not_that helpers None k = refl
not_that helpers (Some x) k = ne_eqb x helpers (λ e. absurd (omega (arith, e, k)))

-- no work of a helper that is not known yet
none_for : (handed : List Handed) (helpers : ℕ) → Each (λ w. IsKnown helpers w.helper) handed → Each (λ w. is_for helpers w ≡ false) handed
none_for handed helpers h =
    each_map (λ (w : Handed). IsKnown helpers w.helper) (λ w. is_for helpers w ≡ false) (λ w k. not_that helpers w.helper k) handed h

none_waits : (handed : List Handed) (begun : List Begun) (helpers : ℕ) → Each (λ w. IsKnown helpers w.helper) handed → unbegun handed begun (Some helpers) ≡ []
none_waits handed begun helpers h =
    ap (map _) (filter_none (waits begun (Some helpers)) handed
    (each_map (λ w. is_for helpers w ≡ false) (λ w. waits begun (Some helpers) w ≡ false)
    (λ w k. ap (λ b. b && not (has_begun begun w.id)) k) handed (none_for handed helpers h)))

fresh_ended : (ended : List ℕ) (helpers : ℕ) → Each (λ h. h < helpers) ended → is_among ended helpers ≡ false
fresh_ended ended helpers h =
    none_any (λ x. x == helpers) ended
    (each_map (λ x. x < helpers) (λ x. (x == helpers) ≡ false) (λ x k. ne_eqb x helpers (λ e. absurd (omega (arith, e, k)))) ended h)

fresh_granted : (size helpers : ℕ) (reserved : List Reserved) → Each (IsGrantedOnce size helpers reserved) reserved
    → list_any (λ (r : Reserved). r.helper == helpers) reserved ≡ false
fresh_granted size helpers reserved h =
    none_any (λ (r : Reserved). r.helper == helpers) reserved
    (each_map (IsGrantedOnce size helpers reserved) (λ r. (r.helper == helpers) ≡ false)
    (λ r k. ne_eqb r.helper helpers (λ e. absurd (omega (arith, e, k.known)))) reserved h)

idle_parts : (x : ThreadState) → x.running ≡ None → x.helper ≡ None → runs_general x ≡ false
idle_parts x e k = ap (λ o. is_some o && is_none x.helper) e

-- a helper is granted a thread that neither runs a work nor is reserved
pub stands_granted : (size : ℕ) (f : Facts) (s : DeskState) (t : ℕ) → Stands size f s → t < size → (thread_at s t).running ≡ None
    → (thread_at s t).helper ≡ None → Stands size (added (event.HelperNew s.helpers (Some t)) f) (answered (Some t) s)
stands_granted size f s t st exists idle free =
    let h = s.helpers in
    let r : Reserved = record { helper = h; thread = t } in
    let x = thread_at s t in
    let y = reserved_for h x in
    let lt : t < length s.threads = omega (arith, exists, st.size) in
    let row = st.each_thread t exists in
    let known = subst (λ n. Each (λ (w : Handed). IsKnown n w.helper) f.handed) (sym st.helpers) st.for_known in
    let not_ended : is_among f.ended h ≡ false = fresh_ended f.ended h (subst (λ n. Each (λ k. k < n) f.ended) (sym st.helpers) st.ended_known) in
    let not_over : over_in f.ended f.finished f.handed h ≡ false =
    ap (λ b. b && list_all (λ w. has_finished f.finished w.id) (filter (is_for h) f.handed)) not_ended in
    let queue = subst (λ o. IsQueueFor f.handed f.begun f.ended o x) free row.queue in
    let granted = subst (λ n. Each (IsGrantedOnce size n f.reserved) f.reserved) (sym st.helpers) st.granted_once in
    let fresh : find (λ (q : Reserved). q.helper == h) f.reserved ≡ None =
    none_found (λ (q : Reserved). q.helper == h) f.reserved (fresh_granted size h f.reserved granted) in
    let once : thread_in (f.reserved ++ r ∷ []) h ≡ Some t =
    ap (option_map (λ (q : Reserved). q.thread)) (find_last (λ (q : Reserved). q.helper == h) f.reserved r fresh (eq-eqb h h refl)) in
    let here : ThreadStands f.handed f.begun f.finished (f.reserved ++ r ∷ []) f.ended t y = record {
      running = row.running;
      task = subst (λ o. IsTaskFor f.handed (Some h) o) (sym idle) tt;
      held = filter_last (λ (q : Reserved). q.thread == t && not (over_in f.ended f.finished f.handed q.helper)) f.reserved r
          (ap (λ b. (t == t) && not b) not_over ∙ ap (λ b. b && true) (eq-eqb t t refl))
          ∙ ap (λ q. q ++ r ∷ []) (row.held ∙ ap (reserved_list t) free);
      queue = (queue.0 ∙ sym (none_waits f.handed f.begun h known), queue.1 ∙ sym not_ended);
    } in
    record {
      size = length-set s.threads t y ∙ st.size;
      submits = st.submits;
      helpers = ap (λ n. n + 1) st.helpers;
      closed = st.closed;
      handed_all = st.handed_all;
      numbered = st.numbered;
      for_known = each_map (λ (w : Handed). IsKnown f.helpers w.helper) (λ w. IsKnown (f.helpers + 1) w.helper)
          (λ w k. known_more f.helpers w.helper k) f.handed st.for_known;
      begun_once = each_map (IsBegunOnce f.handed f.reserved f.begun) (IsBegunOnce f.handed (f.reserved ++ r ∷ []) f.begun)
          (λ b k. record { work = k.work; is = k.is; on = on_more f.reserved r b.thread k.work.helper k.on; once = k.once }) f.begun
          st.begun_once;
      begun_exists = st.begun_exists;
      begun_first = st.begun_first;
      finished_first = st.finished_first;
      granted_once = each_last (IsGrantedOnce size (f.helpers + 1) (f.reserved ++ r ∷ [])) f.reserved r
          (each_map (IsGrantedOnce size f.helpers f.reserved) (IsGrantedOnce size (f.helpers + 1) (f.reserved ++ r ∷ []))
          (λ q k. record {
            known = omega (arith, k.known);
            exists = k.exists;
            once =
                thread_more f.reserved r q.helper q.thread k.once;
          }) f.reserved st.granted_once)
          (record { known = omega (arith, st.helpers); exists = exists; once = once });
      ended_known = each_map (λ k. k < f.helpers) (λ k. k < f.helpers + 1) (λ k less. omega (arith, less)) f.ended st.ended_known;
      waiting = st.waiting;
      owed = st.owed;
      each_thread = λ u below. put_each (ThreadStands f.handed f.begun f.finished (f.reserved ++ r ∷ []) f.ended) s.threads t y lt here
          (λ v vlt ne. let old = st.each_thread v (omega (arith, vlt, st.size)) in record {
            running = old.running;
            task = old.task;
            held = filter_kept (λ (q : Reserved). q.thread == v && not (over_in f.ended f.finished f.handed q.helper)) f.reserved r
                (ap (λ b. b && not (over_in f.ended f.finished f.handed h)) (ne_eqb t v (λ e. ne (sym e)))) ∙ old.held;
            queue = old.queue;
          })
          u (omega (arith, below, st.size));
      general =
          let before : one_if (runs_general x) ≡ 0 = ap one_if (idle_parts x idle free) in
          let after : one_if (runs_general y) ≡ 0 = ap (λ o. one_if (is_some o && false)) idle in
          omega (arith, general_put s.threads t y lt, before, after, st.general);
    }

pub ended_apart : (ended : List ℕ) (h other : ℕ) → (h ≡ other → ⊥) → is_among (ended ++ h ∷ []) other ≡ is_among ended other
ended_apart ended h other ne =
    any_last (λ x. x == other) ended h ∙ ap (λ b. is_among ended other || (b || false)) (ne_eqb h other ne) ∙ or_not (is_among ended other)

pub ended_now : (ended : List ℕ) (h : ℕ) → is_among (ended ++ h ∷ []) h ≡ true
ended_now ended h =
    any_last (λ x. x == h) ended h ∙ ap (λ b. is_among ended h || (b || false)) (eq-eqb h h refl) ∙ or_yes (is_among ended h)

queue_apart : (handed : List Handed) (begun : List Begun) (ended : List ℕ) (helper : ℕ) (o : Option ℕ) (x : ThreadState) → (o ≡ Some helper → ⊥)
    → IsQueueFor handed begun ended o x → IsQueueFor handed begun (ended ++ helper ∷ []) o x
queue_apart handed begun ended helper None x ne h = h
queue_apart handed begun ended helper (Some other) x ne h =
    (h.0, h.1 ∙ sym (ended_apart ended helper other (λ e. ne (ap Some (sym e)))))

left_idle : (a : Bool) (o : Option Task) (c : Bool) → (a && is_none o && c) ≡ true → (is_some o && true) ≡ false
left_idle a None c e = refl
left_idle true (Some x) c e = absurd (cc)
left_idle false (Some x) c e = absurd (cc)

left_general : (z : ThreadState) (b : Bool) (helper : ℕ) → z.helper ≡ Some helper → is_left z ≡ b
    → runs_general (cond b (record z { helper = None; ended = false }) z) ≡ false
left_general z true helper is e = left_idle z.ended z.running (is_empty_list z.queue) e
left_general z false helper is e = ap (λ o. is_some z.running && is_none o) is ∙ none_both (is_some z.running)

-- a helper is ended, and may be over
pub stands_ended : (size : ℕ) (f : Facts) (s : DeskState) (helper t : ℕ) → Stands size f s → IsServing size f s helper t
    → Stands size (added (event.HelperEnd helper) f) (helper_left t s)
stands_ended size f s helper t st on =
    let ended = f.ended ++ helper ∷ [] in
    let x = thread_at s t in
    let z : ThreadState = record x { ended = true } in
    let y = with_end x in
    let lt : t < length s.threads = omega (arith, on.exists, st.size) in
    let row = st.each_thread t on.exists in
    let held = row.held ∙ ap (reserved_list t) on.helper_is in
    let task : IsTaskFor f.handed (Some helper) z.running = subst (λ o. IsTaskFor f.handed o x.running) on.helper_is row.task in
    let queue : IsQueueFor f.handed f.begun ended (Some helper) z = (on.queue, sym (ended_now f.ended helper)) in
    let same : (h : ℕ) → (h ≡ helper → ⊥) → over_in ended f.finished f.handed h ≡ over_in f.ended f.finished f.handed h =
    λ h ne. ap (λ b. b && list_all (λ w. has_finished f.finished w.id) (filter (is_for h) f.handed))
    (ended_apart f.ended helper h (λ e. ne (sym e))) in
    let left = held_left f.reserved f.ended ended f.finished f.finished f.handed helper on.of.goes_on same in
    let over : over_in ended f.finished f.handed helper ≡ is_left z =
    over_by_thread f.handed f.begun f.finished f.reserved ended t helper z st.numbered st.begun_once st.begun_first row.running task queue on.of.thread in
    let here : ThreadStands f.handed f.begun f.finished f.reserved ended t y =
    stands_vacated f.handed f.begun f.finished f.reserved ended t helper z on.helper_is row.running task
    (left t ∙ ap (filter (λ (r : Reserved). not (r.helper == helper && over_in ended f.finished f.handed helper))) held
    ∙ list_left t helper (over_in ended f.finished f.handed helper) ∙ ap (λ b. cond b [] (reserved_list t (Some helper))) over)
    queue in
    record {
      size = length-set s.threads t y ∙ st.size;
      submits = st.submits;
      helpers = st.helpers;
      closed = st.closed;
      handed_all = st.handed_all;
      numbered = st.numbered;
      for_known = st.for_known;
      begun_once = st.begun_once;
      begun_exists = st.begun_exists;
      begun_first = st.begun_first;
      finished_first = st.finished_first;
      granted_once = st.granted_once;
      ended_known = each_last (λ k. k < f.helpers) f.ended helper st.ended_known on.of.known;
      waiting = st.waiting;
      owed = st.owed;
      each_thread = λ u below. put_each (ThreadStands f.handed f.begun f.finished f.reserved ended) s.threads t y lt here
          (λ v vlt ne. let old = st.each_thread v (omega (arith, vlt, st.size)) in
          let other : (thread_at s v).helper ≡ Some helper → ⊥ = λ e. ne (one_thread size f s v t helper st (omega (arith, vlt, st.size)) e on.of.thread) in
          record {
            running = old.running;
            task = old.task;
            held = left v ∙ ap (filter (λ (r : Reserved). not (r.helper == helper && over_in ended f.finished f.handed helper))) old.held
                ∙ list_other v (thread_at s v).helper helper (over_in ended f.finished f.handed helper) other;
            queue = queue_apart f.handed f.begun f.ended helper (thread_at s v).helper (thread_at s v) other old.queue;
          })
          u (omega (arith, below, st.size));
      general = st.general ∙ sym (general_idle s.threads t helper y lt on.helper_is (left_general z (is_left z) helper on.helper_is refl));
    }

idle_row : (t : ℕ) (x : ThreadState) → x ≡ idle_thread → ThreadStands [] [] [] [] [] t x
idle_row t x e =
    subst (λ y. ThreadStands [] [] [] [] [] t y) (sym e) (record { running = refl; task = tt; held = refl; queue = (refl, refl) })

-- a pool of which nothing was asked
pub stands_first : (size : ℕ) → Stands size (facts_of []) (no_works size)
stands_first size =
    record {
      size = length-replicate size idle_thread;
      submits = refl;
      helpers = refl;
      closed = refl;
      handed_all = refl;
      numbered = tt;
      for_known = tt;
      begun_once = tt;
      begun_exists = tt;
      begun_first = tt;
      finished_first = tt;
      granted_once = tt;
      ended_known = tt;
      waiting = refl;
      owed = refl;
      each_thread = λ t lt. idle_row t (thread_at (no_works size) t) (get_or-replicate size t idle_thread idle_thread lt);
      general = omega (arith, sum_by-replicate (λ x. one_if (runs_general x)) size idle_thread);
    }
