-- Threads among others.
use Rattle.std.proofs.Common.{ℕ, ◌+◌, ◌<◌, ◌≡◌, List, [], false, cond, length, get_or, set, sym, ◌∙◌, subst, inl, inr, get_or-set_same, get_or-set_other}
use Rattle.std.specs.Prelude.{not, ◌&&◌, ◌==◌, count_by, Some}
use Rattle.std.specs.List.{position}
use Rattle.std.proofs.lemmas.Bool.{cases_eq}
use Rattle.std.proofs.lemmas.List.Quantifiers.{position-Some}
use Rattle.std.proofs.lemmas.List.Sums.{sum_by-set}
use Rattle.ak_history.specs.Events.{Reserved, is_that, is_among}
use Rattle.ak_pool.specs.Threads.{ThreadState, idle_thread, serves, runs_general}
use Rattle.ak_pool.specs.Desks.{DeskState, thread_at}
use Rattle.ak_pool.specs.Facts.{Facts, thread_in, over_in, held_on, unbegun}
use Rattle.ak_pool.specs.Stands.{Stands, IsGrantedOnce, IsQueueFor, reserved_list}
use Rattle.ak_pool.proofs.Items.{each_one, some_same}
use Rattle.ak_pool.proofs.Works.{and_both, some_is, one_if}

-- what holds of each thread when one is put in
pub put_each : (P : ℕ → ThreadState → Type 0) (ths : List ThreadState) (p : ℕ) (x : ThreadState) → p < length ths → P p x
    → ((t : ℕ) → t < length ths → (t ≡ p → ⊥) → P t (get_or ths t idle_thread)) → (t : ℕ) → t < length ths → P t (get_or (set ths p x) t idle_thread)
put_each P ths p x lt here others t lt' =
    elim (cases_eq t p) [
      | inl e ↦ subst (λ n. P n (get_or (set ths p x) n idle_thread)) (sym e) (subst (λ y. P p y) (sym (get_or-set_same ths p x idle_thread lt)) here)
      | inr ne ↦ subst (λ y. P t y) (sym (get_or-set_other ths p t x idle_thread ne)) (others t lt' ne)
    ]

-- what is known of a helper that has a thread
pub record IsHelperOf (size : ℕ) (f : Facts) (t : ℕ) (helper : ℕ) : Type 0 where
  pub thread : thread_in f.reserved helper ≡ Some t
  pub known : helper < f.helpers
  pub exists : t < size
  pub goes_on : over_in f.ended f.finished f.handed helper ≡ false

pub helper_of : (size : ℕ) (f : Facts) (s : DeskState) (t helper : ℕ) → Stands size f s
    → held_on f.reserved f.ended f.finished f.handed t ≡ reserved_list t (Some helper) → IsHelperOf size f t helper
helper_of size f s t helper st held =
    let one = each_one (IsGrantedOnce size f.helpers f.reserved) (λ (r : Reserved). r.thread == t
    && not (over_in f.ended f.finished f.handed r.helper)) f.reserved [] (record { helper = helper; thread = t }) st.granted_once
    held in
    let two = and_both (t == t) (over_in f.ended f.finished f.handed helper) one.1 in
    record { thread = one.0.once; known = one.0.known; exists = one.0.exists; goes_on = two.1 }

-- what is known of the thread of a helper that is granted and not ended
pub record IsServing (size : ℕ) (f : Facts) (s : DeskState) (helper p : ℕ) : Type 0 where
  pub exists : p < size
  pub helper_is : (thread_at s p).helper ≡ Some helper
  pub goes_on : (thread_at s p).ended ≡ false
  pub of : IsHelperOf size f p helper
  pub queue : (thread_at s p).queue ≡ unbegun f.handed f.begun (Some helper)
  pub not_ended : is_among f.ended helper ≡ false

pub serving_at : (size : ℕ) (f : Facts) (s : DeskState) (helper p : ℕ) → Stands size f s → position (serves helper) s.threads ≡ Some p
    → IsServing size f s helper p
serving_at size f s helper p st e =
    let k = position-Some (serves helper) s.threads p idle_thread e in
    let x = thread_at s p in
    let parts = and_both (is_that helper x.helper) x.ended k.1 in
    let lt : p < size = subst (λ n. p < n) st.size k.0 in
    let row = st.each_thread p lt in
    let is : x.helper ≡ Some helper = some_is helper x.helper parts.0 in
    let queue = subst (λ o. IsQueueFor f.handed f.begun f.ended o x) is row.queue in
    record {
      exists = lt;
      helper_is = is;
      goes_on = parts.1;
      of = helper_of size f s p helper st (subst (λ o. held_on f.reserved f.ended f.finished f.handed p ≡ reserved_list p o) is row.held);
      queue = queue.0;
      not_ended = sym queue.1 ∙ parts.1;
    }

-- a helper has one thread
pub one_thread : (size : ℕ) (f : Facts) (s : DeskState) (t p helper : ℕ) → Stands size f s → t < size → (thread_at s t).helper ≡ Some helper
    → thread_in f.reserved helper ≡ Some p → t ≡ p
one_thread size f s t p helper st lt is e =
    let row = st.each_thread t lt in
    let of = helper_of size f s t helper st (subst (λ o. held_on f.reserved f.ended f.finished f.handed t ≡ reserved_list t o) is row.held) in
    some_same t p (sym of.thread ∙ e)

-- how many threads run general works, when one is put in
pub general_put : (ths : List ThreadState) (p : ℕ) (x : ThreadState) → p < length ths
    → count_by runs_general (set ths p x) + one_if (runs_general (get_or ths p idle_thread)) ≡ count_by runs_general ths + one_if (runs_general x)
general_put ths p x lt = sum_by-set (λ y. cond (runs_general y) 1 0) ths p x idle_thread lt
