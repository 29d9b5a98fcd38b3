-- When a helper is over, and its thread is given back.
use Rattle.std.proofs.Common.{ℕ, ◌≡◌, List, [], ◌∷◌, Bool, true, false, cond, refl, ap, sym, ◌∙◌, subst}
use Rattle.std.specs.Prelude.{not, ◌&&◌, ◌==◌, filter, map, Option, Some, None, is_none}
use Rattle.std.specs.List.{list_all}
use Rattle.std.proofs.lemmas.Bool.{eq-eqb, ne_eqb, eqb-true, false_from_ne_true}
use Rattle.ak_base.specs.Lists.{is_empty_list}
use Rattle.ak_labor.specs.declared.work.Outcome.{Outcome}
use Rattle.ak_labor.specs.Waits.{Handed}
use Rattle.ak_history.specs.Events.{Begun, Reserved, is_among, is_for}
use Rattle.ak_pool.specs.declared.task.Task.{Task}
use Rattle.ak_pool.specs.Threads.{ThreadState, is_left, vacated}
use Rattle.ak_pool.specs.Facts.{has_begun, has_finished, work_in, thread_in, over_in, task_of, held_on, running_on, unbegun}
use Rattle.ak_pool.specs.Stands.{Each, AreNumbered, ThreadStands, IsBegunOnce, IsOn, IsQueueFor, IsTaskFor, reserved_list, begun_list}
use Rattle.ak_pool.proofs.Items.{each_map, each_all, each_both, each_one, each_find, each_filter, each_passes, each_all_true, all_each, unfilter, filter_nil, filter_same, filter_filter, any_one, some_same}
use Rattle.ak_pool.proofs.Numbers.{numbered_grow, findable}
use Rattle.ak_pool.proofs.Works.{front_of, waits, and_both, some_is}
use Rattle.ak_pool.proofs.Starts.{unfinished}

map_nil : {A B : Type 0} (g : A → B) (xs : List A) → map g xs ≡ [] → xs ≡ []
map_nil g [] e = refl
map_nil g (x ∷ xs) e = absurd (cc)

pub all_filter : {A : Type 0} (p q : A → Bool) (xs : List A) → Each (λ x. p x ≡ true → q x ≡ true) xs → list_all q (filter p xs) ≡ true
all_filter p q xs h =
    each_all_true q (filter p xs)
    (each_map (λ x. (p x ≡ true → q x ≡ true) × (p x ≡ true)) (λ x. q x ≡ true) (λ x k. k.0 k.1) (filter p xs)
    (each_both (λ x. p x ≡ true → q x ≡ true) (λ x. p x ≡ true) (filter p xs) (each_filter (λ x. p x ≡ true → q x ≡ true) p xs h)
    (each_passes p xs)))

-- a helper has a work that is not finished
pub not_all : (handed : List Handed) (finished : List (ℕ × Outcome)) (helper id : ℕ) (w : Handed) → work_in handed id ≡ Some w
    → is_for helper w ≡ true → has_finished finished w.id ≡ false → list_all (λ v. has_finished finished v.id) (filter (is_for helper) handed) ≡ false
not_all handed finished helper id w found of open_yet =
    false_from_ne_true _ (λ e.
    let all = unfilter (λ v. has_finished finished v.id ≡ true) (is_for helper) handed
    (all_each (λ v. has_finished finished v.id) (filter (is_for helper) handed) e) in
    let one = each_find (λ v. is_for helper v ≡ true → has_finished finished v.id ≡ true) (λ v. v.id == id) handed w all found of in
    absurd (cc (one, open_yet)))

and_is : (b : Bool) → (b && not false) ≡ b
and_is true = refl
and_is false = refl

pub not_false : (b c : Bool) → b ≡ true → (b && not c) ≡ false → c ≡ true
not_false b true e k = refl
not_false b false e k = absurd (cc (e, k, and_is b))

-- a work of a helper whose thread runs nothing is finished once it is begun
pub done_once : (handed : List Handed) (begun : List Begun) (finished : List (ℕ × Outcome)) (reserved : List Reserved) (t helper : ℕ) (w : Handed)
    → Each (IsBegunOnce handed reserved begun) begun → Each (λ b. (b.thread == t && not (has_finished finished b.id)) ≡ false) begun
    → thread_in reserved helper ≡ Some t → work_in handed w.id ≡ Some w → is_for helper w ≡ true → has_begun begun w.id ≡ true
    → has_finished finished w.id ≡ true
done_once handed begun finished reserved t helper w once idle on found of started =
    let one = any_one (λ b. IsBegunOnce handed reserved begun b × ((b.thread == t && not (has_finished finished b.id)) ≡ false))
    (λ (b : Begun). b.id == w.id) begun
    (each_both (IsBegunOnce handed reserved begun) (λ b. (b.thread == t && not (has_finished finished b.id)) ≡ false) begun once idle)
    started in
    let b = one.0 in
    let id : b.id ≡ w.id = eqb-true b.id w.id one.2 in
    let same : one.1.0.work ≡ w = some_same _ _ (sym one.1.0.is ∙ ap (work_in handed) id ∙ found) in
    let for_helper : one.1.0.work.helper ≡ Some helper = ap (λ (v : Handed). v.helper) same ∙ some_is helper w.helper of in
    let there : thread_in reserved helper ≡ Some b.thread = subst (IsOn reserved b.thread) for_helper one.1.0.on in
    let thread : b.thread ≡ t = some_same _ _ (sym there ∙ on) in
    ap (has_finished finished) (sym id) ∙ not_false (b.thread == t) (has_finished finished b.id) (eq-eqb b.thread t thread) one.1.1

waits_false : (begun : List Begun) (helper : ℕ) (w : Handed) → waits begun (Some helper) w ≡ false → is_for helper w ≡ true → has_begun begun w.id ≡ true
waits_false begun helper w e of = not_false (is_for helper w) (has_begun begun w.id) of e

over_idle : (handed : List Handed) (begun : List Begun) (finished : List (ℕ × Outcome)) (reserved : List Reserved) (t helper : ℕ) (queue : List Task)
    → AreNumbered 0 handed → Each (IsBegunOnce handed reserved begun) begun → Each (λ x. has_begun begun x.0 ≡ true) finished
    → running_on begun finished t ≡ [] → queue ≡ unbegun handed begun (Some helper) → thread_in reserved helper ≡ Some t
    → list_all (λ w. has_finished finished w.id) (filter (is_for helper) handed) ≡ is_empty_list queue
over_idle handed begun finished reserved t helper [] num once first idle q on =
    let none = filter_nil (waits begun (Some helper)) handed (map_nil task_of (filter (waits begun (Some helper)) handed) (sym q)) in
    let still = filter_nil (λ (b : Begun). b.thread == t && not (has_finished finished b.id)) begun idle in
    all_filter (is_for helper) (λ w. has_finished finished w.id) handed
    (each_map (λ w. (waits begun (Some helper) w ≡ false) × (work_in handed w.id ≡ Some w)) (λ w. is_for helper w ≡ true
    → has_finished finished w.id ≡ true)
    (λ w k of. done_once handed begun finished reserved t helper w once still on k.1 of (waits_false begun helper w k.0 of)) handed
    (each_both (λ w. waits begun (Some helper) w ≡ false) (λ w. work_in handed w.id ≡ Some w) handed none
    (findable 0 handed (numbered_grow 0 handed num))))
over_idle handed begun finished reserved t helper (x ∷ xs) num once first idle q on =
    let front = front_of handed begun (Some helper) x xs num (sym q) in
    let id : front.work.id ≡ x.id = ap (λ (k : Task). k.id) front.same in
    not_all handed finished helper x.id front.work front.found front.of (ap (has_finished finished) id ∙ unfinished begun finished x.id first front.unbegun)

-- the works of a helper are finished where its thread runs nothing and nothing waits
pub over_when : (handed : List Handed) (begun : List Begun) (finished : List (ℕ × Outcome)) (reserved : List Reserved) (t helper : ℕ)
    (running : Option Task) (queue : List Task)
    → AreNumbered 0 handed → Each (IsBegunOnce handed reserved begun) begun → Each (λ x. has_begun begun x.0 ≡ true) finished
    → running_on begun finished t ≡ begun_list t running → IsTaskFor handed (Some helper) running → queue ≡ unbegun handed begun (Some helper)
    → thread_in reserved helper ≡ Some t
    → list_all (λ w. has_finished finished w.id) (filter (is_for helper) handed) ≡ (is_none running && is_empty_list queue)
over_when handed begun finished reserved t helper None queue num once first runs task q on =
    over_idle handed begun finished reserved t helper queue num once first runs q on
over_when handed begun finished reserved t helper (Some task) queue num once first runs is q on =
    let one = each_one (λ (b : Begun). Unit {0}) (λ (b : Begun). b.thread == t && not (has_finished finished b.id)) begun []
    (record { thread = t; id = task.id }) (each_all (λ (b : Begun). Unit {0}) (λ b. tt) begun) runs in
    let two = and_both (t == t) (has_finished finished task.id) one.1 in
    not_all handed finished helper task.id (record { id = task.id; work = task.work; helper = Some helper }) is (eq-eqb helper helper refl) two.1

and_not : (a o : Bool) → (a && not o) ≡ ((a && not false) && not o)
and_not true o = refl
and_not false o = refl

and_true : (a : Bool) → a ≡ (a && true)
and_true true = refl
and_true false = refl

left_at : (a v v' o : Bool) (c : Bool) → (c ≡ true → (v ≡ false) × (v' ≡ o)) → (c ≡ false → v' ≡ v) → (a && not v') ≡ ((a && not v) && not (c && o))
left_at a v v' o true f g =
    ap (λ b. a && not b) (f refl).1 ∙ and_not a o ∙ ap (λ b. (a && not b) && not o) (sym (f refl).0)
left_at a v v' o false f g = ap (λ b. a && not b) (g refl) ∙ and_true (a && not v)

-- for whom the threads are reserved, where one helper alone may be over by then
pub held_left : (reserved : List Reserved) (ended ended' : List ℕ) (finished finished' : List (ℕ × Outcome)) (handed : List Handed) (helper : ℕ)
    → over_in ended finished handed helper ≡ false
    → ((h : ℕ) → (h ≡ helper → ⊥) → over_in ended' finished' handed h ≡ over_in ended finished handed h) → (u : ℕ)
    → held_on reserved ended' finished' handed u ≡ filter (λ r. not (r.helper == helper && over_in ended' finished' handed helper))
    (held_on reserved ended finished handed u)
held_left reserved ended ended' finished finished' handed helper before same u =
    filter_same (λ r. r.thread == u && not (over_in ended' finished' handed r.helper))
    (λ r. (r.thread == u && not (over_in ended finished handed r.helper)) && not
    (r.helper == helper && over_in ended' finished' handed helper)) reserved
    (each_all (λ r. (r.thread == u && not (over_in ended' finished' handed r.helper))
    ≡ ((r.thread == u && not (over_in ended finished handed r.helper)) && not
    (r.helper == helper && over_in ended' finished' handed helper)))
    (λ r. left_at (r.thread == u) (over_in ended finished handed r.helper) (over_in ended' finished' handed r.helper)
    (over_in ended' finished' handed helper) (r.helper == helper)
    (λ e. (
      ap (over_in ended finished handed) (eqb-true r.helper helper e) ∙ before,
      ap (over_in ended' finished' handed) (eqb-true r.helper helper e),
    ))
    (λ e. same r.helper (λ k. absurd (cc (e, eq-eqb r.helper helper k))))) reserved)
    ∙ sym (filter_filter (λ r. r.thread == u && not (over_in ended finished handed r.helper))
    (λ r. not (r.helper == helper && over_in ended' finished' handed helper)) reserved)

-- the list of the one helper that holds a thread, without the helper that is over
pub list_left : (t helper : ℕ) (o : Bool)
    → filter (λ (r : Reserved). not (r.helper == helper && o)) (reserved_list t (Some helper)) ≡ cond o [] (reserved_list t (Some helper))
list_left t helper true = ap (λ b. cond (not (b && true)) (reserved_list t (Some helper)) []) (eq-eqb helper helper refl)
list_left t helper false = ap (λ b. cond (not (b && false)) (reserved_list t (Some helper)) []) (eq-eqb helper helper refl)

pub list_other : (t : ℕ) (other : Option ℕ) (helper : ℕ) (o : Bool) → (other ≡ Some helper → ⊥)
    → filter (λ (r : Reserved). not (r.helper == helper && o)) (reserved_list t other) ≡ reserved_list t other
list_other t None helper o ne = refl
list_other t (Some h) helper o ne = ap (λ b. cond (not (b && o)) (reserved_list t (Some h)) []) (ne_eqb h helper (λ e. ne (ap Some e)))

left_parts : (a b c : Bool) → (a && b && c) ≡ true → (b ≡ true) × (c ≡ true)
left_parts true true true e = (refl, refl)
left_parts true true false e = absurd (cc)
left_parts true false c e = absurd (cc)
left_parts false b c e = absurd (cc)

none_of : {A : Type 0} (o : Option A) → is_none o ≡ true → o ≡ None
none_of None e = refl
none_of (Some x) e = absurd (cc)

empty_of : {A : Type 0} (xs : List A) → is_empty_list xs ≡ true → xs ≡ []
empty_of [] e = refl
empty_of (x ∷ xs) e = absurd (cc)

vacated_at : (handed : List Handed) (begun : List Begun) (finished : List (ℕ × Outcome)) (reserved : List Reserved) (ended : List ℕ)
    (t helper : ℕ) (z : ThreadState) (b : Bool)
    → is_left z ≡ b → z.helper ≡ Some helper → running_on begun finished t ≡ begun_list t z.running → IsTaskFor handed (Some helper) z.running
    → held_on reserved ended finished handed t ≡ cond b [] (reserved_list t (Some helper)) → IsQueueFor handed begun ended (Some helper) z
    → ThreadStands handed begun finished reserved ended t (cond b (record z { helper = None; ended = false }) z)
vacated_at handed begun finished reserved ended t helper z true e is runs task held queue =
    let parts = left_parts z.ended (is_none z.running) (is_empty_list z.queue) e in
    let idle = none_of z.running parts.0 in
    record {
      running = runs;
      task = subst (IsTaskFor handed None) (sym idle) tt;
      held = held;
      queue = (empty_of z.queue parts.1, refl);
    }
vacated_at handed begun finished reserved ended t helper z false e is runs task held queue =
    record {
      running = runs;
      task = subst (λ o. IsTaskFor handed o z.running) (sym is) task;
      held = held ∙ ap (reserved_list t) (sym is);
      queue = subst (λ o. IsQueueFor handed begun ended o z) (sym is) queue;
    }

-- the thread of a helper that may be over by now
pub stands_vacated : (handed : List Handed) (begun : List Begun) (finished : List (ℕ × Outcome)) (reserved : List Reserved)
    (ended : List ℕ) (t helper : ℕ) (z : ThreadState)
    → z.helper ≡ Some helper → running_on begun finished t ≡ begun_list t z.running → IsTaskFor handed (Some helper) z.running
    → held_on reserved ended finished handed t ≡ cond (is_left z) [] (reserved_list t (Some helper)) → IsQueueFor handed begun ended (Some helper) z
    → ThreadStands handed begun finished reserved ended t (vacated z)
stands_vacated handed begun finished reserved ended t helper z is runs task held queue =
    vacated_at handed begun finished reserved ended t helper z (is_left z) refl is runs task held queue

and_assoc : (a b c : Bool) → (a && (b && c)) ≡ (a && b && c)
and_assoc true b c = refl
and_assoc false b c = refl

-- whether the helper is over, by its thread
pub over_by_thread : (handed : List Handed) (begun : List Begun) (finished : List (ℕ × Outcome)) (reserved : List Reserved)
    (ended : List ℕ) (t helper : ℕ) (z : ThreadState)
    → AreNumbered 0 handed → Each (IsBegunOnce handed reserved begun) begun → Each (λ x. has_begun begun x.0 ≡ true) finished
    → running_on begun finished t ≡ begun_list t z.running → IsTaskFor handed (Some helper) z.running → IsQueueFor handed begun ended (Some helper) z
    → thread_in reserved helper ≡ Some t → over_in ended finished handed helper ≡ is_left z
over_by_thread handed begun finished reserved ended t helper z num once first runs task queue on =
    ap (λ b. is_among ended helper && b) (over_when handed begun finished reserved t helper z.running z.queue num once first runs task queue.0 on)
    ∙ ap (λ b. b && (is_none z.running && is_empty_list z.queue)) (sym queue.1)
    ∙ and_assoc z.ended (is_none z.running) (is_empty_list z.queue)
