-- The desk after an event that fits is what the history leaves with it.
use Rattle.std.proofs.Common.{ℕ, ◌<◌, ◌≡◌, List, [], ◌∷◌, ◌++◌, Bool, true, false, cond, refl, sym, ◌∙◌, subst, arith}
use Rattle.std.specs.Prelude.{◌&&◌, ◌==◌, Option, Some, None, is_some, is_none}
use Rattle.std.specs.List.{position}
use Rattle.std.proofs.lemmas.List.Quantifiers.{position-Some}
use Rattle.ak_labor.specs.declared.work.Work.{Work}
use Rattle.ak_labor.specs.declared.work.Outcome.{Outcome}
use Rattle.ak_history.specs.declared.event.Event.{Event}
use Rattle.ak_history.specs.declared.event.Event.TheVariants as event
use Rattle.ak_history.specs.Legal.{Legal, IsLegalAfter}
use Rattle.ak_history.proofs.Legality.{AreLegalAfter-append}
use Rattle.ak_pool.specs.declared.task.Task.{Task}
use Rattle.ak_pool.specs.Threads.{idle_thread, is_idle, serves}
use Rattle.ak_pool.specs.Desks.{DeskState, thread_at, next_by, next_of, begun_of, begun_by, finished_by, submitted, submitted_at, free_of, answer_of, answered, ended_at}
use Rattle.ak_pool.specs.Judged.{Fits, Ends, noted}
use Rattle.ak_pool.specs.Facts.{Facts, facts_of}
use Rattle.ak_pool.specs.Stands.{Stands}
use Rattle.ak_pool.proofs.Growing.{added, grown}
use Rattle.ak_pool.proofs.Rows.{serving_at}
use Rattle.ak_pool.proofs.Submits.{stands_general, stands_helped}
use Rattle.ak_pool.proofs.Starts.{stands_general_begun, stands_own_begun}
use Rattle.ak_pool.proofs.Finishes.{stands_finished}
use Rattle.ak_pool.proofs.Helpers.{stands_fetched, stands_closed, stands_refused, stands_granted, stands_ended}
use Rattle.ak_pool.proofs.Legality.{task_next, owed_is}

submit_at : (size : ℕ) (f : Facts) (s : DeskState) (work : Work) (helper : ℕ) (o : Option ℕ) → Stands size f s
    → position (serves helper) s.threads ≡ o → is_some o ≡ true
    → Stands size (added (event.Submit s.submits work (Some helper)) f) (submitted_at work o s)
submit_at size f s work helper None st e k = absurd (cc)
submit_at size f s work helper (Some p) st e k = stands_helped size f s work helper p st (serving_at size f s helper p st e)

submit_next : (size : ℕ) (f : Facts) (s : DeskState) (id : ℕ) (work : Work) (helper : Option ℕ) → Stands size f s
    → Fits s (event.Submit id work helper) → Stands size (added (event.Submit id work helper) f) (submitted work helper s)
submit_next size f s id work None st h =
    subst (λ n. Stands size (added (event.Submit n work None) f) (submitted work None s)) (sym h.1) (stands_general size f s work st)
submit_next size f s id work (Some helper) st h =
    subst (λ n. Stands size (added (event.Submit n work (Some helper)) f) (submitted work (Some helper) s)) (sym h.1)
    (submit_at size f s work helper (position (serves helper) s.threads) st refl h.2)

begin_by : (size : ℕ) (f : Facts) (s : DeskState) (t : ℕ) (task : Task) (o : Option ℕ) → Stands size f s → t < size → (thread_at s t).running ≡ None
    → (thread_at s t).helper ≡ o → next_by o s t ≡ Some task → Stands size (added (event.Start t task.id) f) (begun_of o task t s)
begin_by size f s t task None st lt idle is next = stands_general_begun size f s t task st lt idle is next
begin_by size f s t task (Some helper) st lt idle is next = stands_own_begun size f s t helper task st lt idle is next

start_next : (size : ℕ) (f : Facts) (s : DeskState) (t id : ℕ) → Stands size f s → Fits s (event.Start t id)
    → Stands size (added (event.Start t id) f) (begun_by (next_of s t) t s)
start_next size f s t id st h =
    let k = task_next (next_of s t) id h.3 in
    subst (λ n. Stands size (added (event.Start t n) f) (begun_by (next_of s t) t s)) k.2
    (subst (λ o. Stands size (added (event.Start t k.0.id) f) (begun_by o t s)) (sym k.1)
    (begin_by size f s t k.0 (thread_at s t).helper st (omega (arith, h.1, st.size)) h.2 refl k.1))

finish_by : (size : ℕ) (f : Facts) (s : DeskState) (t id : ℕ) (outcome : Outcome) (o : Option Task) → Stands size f s → t < size
    → (thread_at s t).running ≡ o → Ends id outcome o → Stands size (added (event.Finish t id outcome) f) (finished_by t id outcome s)
finish_by size f s t id outcome None st lt is h = absurd h
finish_by size f s t id outcome (Some task) st lt is h =
    subst (λ n. Stands size (added (event.Finish t n outcome) f) (finished_by t n outcome s)) h.0 (stands_finished size f s t task outcome st lt is)

none_of : {A : Type 0} (o : Option A) → is_none o ≡ true → o ≡ None
none_of None e = refl
none_of (Some x) e = absurd (cc)

both : (a b : Bool) → (a && b) ≡ true → (a ≡ true) × (b ≡ true)
both true b e = (refl, e)
both false b e = absurd (cc)

some_answer : (b : Bool) (o : Option ℕ) (t : ℕ) → Some t ≡ cond b None o → o ≡ Some t
some_answer true o t e = absurd (cc)
some_answer false o t e = sym e

answer_next : (size : ℕ) (f : Facts) (s : DeskState) (answer : Option ℕ) → Stands size f s → answer ≡ answer_of s
    → Stands size (added (event.HelperNew s.helpers answer) f) (answered answer s)
answer_next size f s None st e = stands_refused size f s s.helpers st
answer_next size f s (Some t) st e =
    let k = position-Some is_idle s.threads t idle_thread (some_answer (free_of s == 0) (position is_idle s.threads) t e) in
    let parts = both (is_none (thread_at s t).running) (is_none (thread_at s t).helper) k.1 in
    stands_granted size f s t st (omega (arith, k.0, st.size)) (none_of (thread_at s t).running parts.0) (none_of (thread_at s t).helper parts.1)

end_at : (size : ℕ) (f : Facts) (s : DeskState) (helper : ℕ) (o : Option ℕ) → Stands size f s → position (serves helper) s.threads ≡ o
    → is_some o ≡ true → Stands size (added (event.HelperEnd helper) f) (ended_at o s)
end_at size f s helper None st e k = absurd (cc)
end_at size f s helper (Some p) st e k = stands_ended size f s helper p st (serving_at size f s helper p st e)

-- one more event that fits
next_facts : (size : ℕ) (f : Facts) (s : DeskState) (e : Event) → Stands size f s → Fits s e → Stands size (added e f) (noted e s)
next_facts size f s (event.Submit id work helper) st h = submit_next size f s id work helper st h
next_facts size f s (event.Start thread id) st h = start_next size f s thread id st h
next_facts size f s (event.Finish thread id outcome) st h =
    finish_by size f s thread id outcome (thread_at s thread).running st (omega (arith, h.0, st.size)) refl h.1
next_facts size f s (event.Request q a n) st h = st
next_facts size f s (event.AskerEnd a) st h = st
next_facts size f s (event.Drain ids requests) st h = stands_fetched size f s ids requests st (h.1 ∙ owed_is size f s st)
next_facts size f s (event.Answered q v) st h = st
next_facts size f s (event.HelperNew asked answer) st h =
    subst (λ n. Stands size (added (event.HelperNew n answer) f) (answered answer s)) (sym h.1) (answer_next size f s answer st h.2)
next_facts size f s (event.HelperEnd helper) st h = end_at size f s helper (position (serves helper) s.threads) st refl h.1
next_facts size f s event.Close st h = stands_closed size f s st

pub stands_next : (size : ℕ) (history : List Event) (s : DeskState) (e : Event) → Stands size (facts_of history) s → Fits s e
    → Stands size (facts_of (history ++ e ∷ [])) (noted e s)
stands_next size history s e st h =
    subst (λ f. Stands size f (noted e s)) (sym (grown history e))
    (next_facts size (facts_of history) s e st h)

-- a legal history with one more legal event
pub legal_next : (size askers : ℕ) (history : List Event) (e : Event) → Legal size askers history → IsLegalAfter size askers history e
    → Legal size askers (history ++ e ∷ [])
legal_next size askers history e legal is = AreLegalAfter-append size askers [] history e legal is
