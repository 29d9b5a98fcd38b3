-- What the calls of a pool need of its history.
use Rattle.std.proofs.Common.{ℕ, ◌+◌, ◌<◌, ◌≤◌, ◌≡◌, List, [], ◌∷◌, ◌++◌, Bool, true, false, cond, length, refl, ap, sym, ◌∙◌, subst, arith}
use Rattle.std.specs.Prelude.{◌==◌, ◌||◌, ◌↔◌, not, map, Option, Some, None, is_some}
use Rattle.std.specs.List.{position, list_any}
use Rattle.std.specs.Option.{option_map}
use Rattle.std.proofs.lemmas.Bool.{ne_eqb}
use Rattle.ak_base.specs.Lists.{rest_of, is_empty_list}
use Rattle.ak_labor.specs.declared.work.Work.{Work}
use Rattle.ak_labor.specs.declared.work.Outcome.{Outcome}
use Rattle.ak_labor.specs.Arrived.{Arrived, nothing_arrived}
use Rattle.ak_labor.specs.Waits.{Handed}
use Rattle.ak_history.specs.declared.event.Event.{Event}
use Rattle.ak_history.specs.declared.event.Event.TheVariants as event
use Rattle.ak_history.specs.Events.{is_running, is_close, owed, askers_left, work_at, free_threads, helper_answer}
use Rattle.ak_history.specs.Legal.{Legal, IsLegalAfter}
use Rattle.ak_pool.specs.declared.task.Task.{Task}
use Rattle.std.specs.Vec.{vec_len, vec_capacity}
use Rattle.ak_pool.specs.declared.pool.Pool.TheInside.{Inside}
use Rattle.ak_pool.specs.KeptPools.{IsLegalPool}
use Rattle.ak_pool.specs.Threads.{serves}
use Rattle.ak_pool.specs.Desks.{DeskState, thread_at, next_by, next_of, begun_of, begun_by, submitted_at, ended_at, due_of, answer_of, no_works}
use Rattle.ak_pool.specs.Askers.{RequestsState, nothing_asked, unfetched_of, left_of, pair_of, due_of as due_of_requests}
use Rattle.ak_pool.specs.AskersStand.{AskersStand, request_facts}
use Rattle.ak_pool.specs.Judged.{Fits, FitsRequests, Ends, noted, requests_noted}
use Rattle.ak_pool.specs.Facts.{Facts, facts_of, work_in}
use Rattle.ak_pool.specs.Pools.{IsOpen, MayStart, StartsNone, owed_pairs, request_pairs, brought, owes}
use Rattle.ak_pool.specs.Stands.{Stands, IsQueueFor}
use Rattle.ak_pool.proofs.Works.{front_of}
use Rattle.ak_pool.proofs.Starts.{cons_of}
use Rattle.ak_pool.proofs.Judging.{runs_is, free_is, answer_is, refused_is}
use Rattle.ak_pool.proofs.Askers.{asked_next, asked_first}
use Rattle.ak_pool.proofs.AskedRules.{pairs_are, left_is, none_unfetched}
use Rattle.ak_pool.proofs.Helpers.{stands_first}
use Rattle.ak_pool.proofs.Legality.{not_closed, legal_fits, fits_starts, fits_legal, owed_is}
use Rattle.ak_pool.proofs.Noting.{stands_next, legal_next}

none_is : {A : Type 0} (o : Option A) → is_some o ≡ false → o ≡ None
none_is None e = refl
none_is (Some x) e = absurd (cc)

-- a thread that runs nothing
pub idle_of : (size : ℕ) (history : List Event) (s : DeskState) (t : ℕ) → Stands size (facts_of history) s → t < size → is_running history t ≡ false
    → (thread_at s t).running ≡ None
idle_of size history s t st lt e =
    none_is (thread_at s t).running (sym (runs_is size (facts_of history) s t st lt) ∙ e)

-- a start that may be is legal
pub start_legal : (size : ℕ) (history : List Event) (t id : ℕ) → MayStart size history t id → IsLegalAfter size 0 history (event.Start t id)
start_legal size history t id may = record { open_or_late = not_closed (list_any is_close history) may.0; rule = may.1 }

-- a start that fits may be
pub may_fit : (size : ℕ) (history : List Event) (s : DeskState) (t id : ℕ) → Stands size (facts_of history) s → Fits s (event.Start t id)
    → MayStart size history t id
may_fit size history s t id st fits = (sym st.closed ∙ fits.0, fits_starts size history s t id st fits)

-- nothing may start on a thread for which nothing is next
pub none_starts : (size : ℕ) (history : List Event) (s : DeskState) (t : ℕ) → Stands size (facts_of history) s → next_of s t ≡ None → StartsNone size history t
none_starts size history s t st e id may =
    let fits = legal_fits size 0 history s (event.Start t id) st (start_legal size history t id may) in
    absurd (cc (fits.3, ap (option_map (λ (task : Task). task.id)) e))

-- nothing may start after a close
pub none_closed : (size : ℕ) (history : List Event) (s : DeskState) (t : ℕ) → Stands size (facts_of history) s → s.closed ≡ true → StartsNone size history t
none_closed size history s t st e id may =
    let fits = legal_fits size 0 history s (event.Start t id) st (start_legal size history t id may) in absurd (cc (fits.0, e))

-- what is next on a thread that runs nothing
pub start_fits : (s : DeskState) (t : ℕ) (task : Task) → s.closed ≡ false → t < length s.threads → (thread_at s t).running ≡ None
    → next_of s t ≡ Some task → Fits s (event.Start t task.id)
start_fits s t task unclosed lt idle next = (unclosed, lt, idle, ap (option_map (λ (x : Task). x.id)) next)

work_of : (handed : List Handed) (w : Handed) (task : Task) → work_in handed task.id ≡ Some w → record { id = w.id; work = w.work } ≡ task
    → option_map (λ (v : Handed). v.work) (work_in handed task.id) ≡ Some task.work
work_of handed w task found same =
    ap (option_map (λ (v : Handed). v.work)) found ∙ ap Some (ap (λ (x : Task). x.work) same)

next_work_by : (size : ℕ) (f : Facts) (s : DeskState) (t : ℕ) (task : Task) (o : Option ℕ) → Stands size f s → t < size → (thread_at s t).helper ≡ o
    → next_by o s t ≡ Some task → option_map (λ (v : Handed). v.work) (work_in f.handed task.id) ≡ Some task.work
next_work_by size f s t task None st lt is next =
    let front = front_of f.handed f.begun None task (rest_of s.waiting) st.numbered (sym st.waiting ∙ cons_of s.waiting task next) in
    work_of f.handed front.work task front.found front.same
next_work_by size f s t task (Some helper) st lt is next =
    let x = thread_at s t in
    let queue = subst (λ o. IsQueueFor f.handed f.begun f.ended o x) is (st.each_thread t lt).queue in
    let front = front_of f.handed f.begun (Some helper) task (rest_of x.queue) st.numbered (sym queue.0 ∙ cons_of x.queue task next) in
    work_of f.handed front.work task front.found front.same

pub next_work : (size : ℕ) (history : List Event) (s : DeskState) (t : ℕ) (task : Task) → Stands size (facts_of history) s → t < size
    → next_of s t ≡ Some task → option_map (λ (v : Handed). v.work) (work_at history task.id) ≡ Some task.work
next_work size history s t task st lt next =
    next_work_by size (facts_of history) s t task (thread_at s t).helper st lt refl next

-- the history stays legal, and the desk and the requests what it leaves
pub legal_kept : (size askers : ℕ) (history after : List Event) (s : DeskState) (r : RequestsState) (e : Event) → Legal size askers history
    → Stands size (facts_of history) s → AskersStand askers (request_facts history) r
    → Fits s e → FitsRequests r e → after ≡ history ++ e ∷ [] → Legal size askers after
legal_kept size askers history after s r e legal st asked fits fits_too same =
    subst (Legal size askers) (sym same) (legal_next size askers history e legal (fits_legal size askers history s r e st asked fits fits_too))

pub stands_kept : (size : ℕ) (history after : List Event) (s s' : DeskState) (e : Event) → Stands size (facts_of history) s → Fits s e
    → after ≡ history ++ e ∷ [] → s' ≡ noted e s → Stands size (facts_of after) s'
stands_kept size history after s s' e st fits same now =
    subst (λ h. Stands size (facts_of h) s') (sym same)
    (subst (λ d. Stands size (facts_of (history ++ e ∷ [])) d) (sym now) (stands_next size history s e st fits))

pub asked_kept : (askers : ℕ) (history after : List Event) (r r' : RequestsState) (e : Event) → AskersStand askers (request_facts history) r
    → FitsRequests r e → after ≡ history ++ e ∷ [] → r' ≡ requests_noted e r
    → AskersStand askers (request_facts after) r'
asked_kept askers history after r r' e asked fits same now =
    subst (λ h. AskersStand askers (request_facts h) r') (sym same)
    (subst (λ d. AskersStand askers (request_facts (history ++ e ∷ [])) d) (sym now) (asked_next askers history r e asked fits))

-- the finished works that were not fetched, by their numbers
pub owed_ids : (size : ℕ) (history : List Event) (s : DeskState) → Stands size (facts_of history) s → map (λ (x : ℕ × Outcome). x.0) s.owed ≡ owed history
owed_ids size history s st = owed_is size (facts_of history) s st

empty_map : {A B : Type 0} (g : A → B) (xs : List A) → (length xs == 0) ≡ is_empty_list (map g xs)
empty_map g [] = refl
empty_map g (x ∷ xs) = ne_eqb (length (x ∷ xs)) 0 (λ e. absurd (omega (arith, e)))

pub owes_is : (size : ℕ) (history : List Event) (s : DeskState) → Stands size (facts_of history) s → (length s.owed == 0) ≡ is_empty_list (owed history)
owes_is size history s st =
    empty_map (λ (x : ℕ × Outcome). x.0) s.owed ∙ ap is_empty_list (owed_ids size history s st)

-- the thread that a further helper is granted
pub answer_now : (size : ℕ) (history : List Event) (s : DeskState) → Stands size (facts_of history) s → answer_of s ≡ helper_answer size history
answer_now size history s st = sym (answer_is size (facts_of history) s st)

-- the work that may start is the one that is next
pub may_is : (size : ℕ) (history : List Event) (s : DeskState) (t id : ℕ) → Stands size (facts_of history) s → s.closed ≡ false → t < size
    → (thread_at s t).running ≡ None → (option_map (λ (task : Task). task.id) (next_of s t) ≡ Some id) ↔ MayStart size history t id
may_is size history s t id st unclosed lt idle = (
  λ e. may_fit size history s t id st (unclosed, omega (arith, lt, st.size), idle, e),
  λ may. (legal_fits size 0 history s (event.Start t id) st (start_legal size history t id may)).3,
)

closed_submitted : (work : Work) (o : Option ℕ) (s : DeskState) → (submitted_at work o s).closed ≡ s.closed
closed_submitted work None s = refl
closed_submitted work (Some t) s = refl

closed_begun : (o : Option Task) (h : Option ℕ) (t : ℕ) (s : DeskState) → (thread_at s t).helper ≡ h → (begun_by o t s).closed ≡ s.closed
closed_begun None h t s e = refl
closed_begun (Some task) None t s e = ap (λ o. (begun_of o task t s).closed) e
closed_begun (Some task) (Some helper) t s e = ap (λ o. (begun_of o task t s).closed) e

closed_ended : (o : Option ℕ) (s : DeskState) → (ended_at o s).closed ≡ s.closed
closed_ended None s = refl
closed_ended (Some t) s = refl

-- only a close closes
closed_noted : (s : DeskState) (e : Event) → is_close e ≡ false → (noted e s).closed ≡ s.closed
closed_noted s (event.Submit id work None) k = refl
closed_noted s (event.Submit id work (Some helper)) k = closed_submitted work (position (serves helper) s.threads) s
closed_noted s (event.Start thread id) k = closed_begun (next_of s thread) (thread_at s thread).helper thread s refl
closed_noted s (event.Finish thread id outcome) k = refl
closed_noted s (event.Request q a n) k = refl
closed_noted s (event.AskerEnd a) k = refl
closed_noted s (event.Drain ids requests) k = refl
closed_noted s (event.Answered q v) k = refl
closed_noted s (event.HelperNew asked None) k = refl
closed_noted s (event.HelperNew asked (Some t)) k = refl
closed_noted s (event.HelperEnd helper) k = closed_ended (position (serves helper) s.threads) s
closed_noted s event.Close k = absurd (cc)

pub is_open : (p : Inside) → IsLegalPool p → IsOpen p.events.items → p.desk.closed ≡ false
is_open p inv e = inv.stands.closed ∙ e

open_bit : (b : Bool) → cond b 0 1 ≤ 1
open_bit true = omega arith
open_bit false = omega arith

abbrev open_of : Bool → ℕ
open_of b = cond b 0 1

-- how many events are still to come, but for the close
abbrev pub due_in : Inside → ℕ
due_in p = due_of p.desk + due_of_requests p.requests

-- the pool after an event that fits and is no close
pub pool_kept : (p q : Inside) (e : Event) → IsLegalPool p → Fits p.desk e → FitsRequests p.requests e → is_close e ≡ false → q.threads ≡ p.threads
    → q.askers ≡ p.askers → q.events.items ≡ p.events.items ++ e ∷ []
    → q.desk ≡ noted e p.desk → q.requests ≡ requests_noted e p.requests
    → ((b : ℕ) → vec_len p.events + (due_in p + p.spare + b) ≤ vec_capacity p.events → b ≤ 1
    → vec_len q.events + (due_in q + q.spare + b) ≤ vec_capacity q.events) → IsLegalPool q
pool_kept p q e inv fits fits_too late threads askers events desk requests room =
    let same : q.desk.closed ≡ p.desk.closed = ap (λ (d : DeskState). d.closed) desk ∙ closed_noted p.desk e late in
    let bit : cond q.desk.closed 0 1 ≡ cond p.desk.closed 0 1 = ap (λ b. open_of b) same in
    record {
      legal = subst (λ n. Legal n q.askers q.events.items) (sym threads)
          (subst (λ n. Legal p.threads n q.events.items) (sym askers)
          (legal_kept p.threads p.askers p.events.items q.events.items p.desk p.requests e inv.legal inv.stands inv.asked fits fits_too
          events));
      stands = subst (λ n. Stands n (facts_of q.events.items) q.desk) (sym threads)
          (stands_kept p.threads p.events.items q.events.items p.desk q.desk e inv.stands fits events desk);
      asked = subst (λ n. AskersStand n (request_facts q.events.items) q.requests) (sym askers)
          (asked_kept p.askers p.events.items q.events.items p.requests q.requests e inv.asked fits_too events requests);
      room = subst (λ n. vec_len q.events + (due_in q + q.spare + n) ≤ vec_capacity q.events) (sym bit)
          (room (cond p.desk.closed 0 1) inv.room (open_bit p.desk.closed));
    }

-- the pool after its close
pub pool_closed : (p q : Inside) → IsLegalPool p → p.desk.closed ≡ false → q.threads ≡ p.threads → q.askers ≡ p.askers
    → q.events.items ≡ p.events.items ++ event.Close ∷ [] → q.desk ≡ noted event.Close p.desk → q.requests ≡ p.requests
    → (vec_len p.events + (due_in p + p.spare + 1) ≤ vec_capacity p.events → vec_len q.events + (due_in q + q.spare + 0)
    ≤ vec_capacity q.events) → IsLegalPool q
pool_closed p q inv fits threads askers events desk requests room =
    let before : cond p.desk.closed 0 1 ≡ 1 = ap (λ b. open_of b) fits in
    let after : cond q.desk.closed 0 1 ≡ 0 = ap (λ (d : DeskState). open_of d.closed) desk in
    record {
      legal = subst (λ n. Legal n q.askers q.events.items) (sym threads)
          (subst (λ n. Legal p.threads n q.events.items) (sym askers)
          (legal_kept p.threads p.askers p.events.items q.events.items p.desk p.requests event.Close inv.legal inv.stands inv.asked fits
          tt events));
      stands = subst (λ n. Stands n (facts_of q.events.items) q.desk) (sym threads)
          (stands_kept p.threads p.events.items q.events.items p.desk q.desk event.Close inv.stands fits events desk);
      asked = subst (λ n. AskersStand n (request_facts q.events.items) q.requests) (sym askers)
          (asked_kept p.askers p.events.items q.events.items p.requests q.requests event.Close inv.asked tt events requests);
      room = subst (λ n. vec_len q.events + (due_in q + q.spare + n) ≤ vec_capacity q.events) (sym after)
          (room (subst (λ n. vec_len p.events + (due_in p + p.spare + n) ≤ vec_capacity p.events) before inv.room));
    }

-- a pool of which nothing was asked
pub pool_first : (p : Inside) (threads askers : ℕ) → p.threads ≡ threads → p.askers ≡ askers → p.events.items ≡ [] → p.desk ≡ no_works threads
    → p.requests ≡ nothing_asked askers
    → vec_len p.events + (due_in p + p.spare + 1) ≤ vec_capacity p.events → IsLegalPool p
pool_first p threads askers same same_too events desk requests room =
    let bare : cond p.desk.closed 0 1 ≡ 1 = ap (λ (d : DeskState). open_of d.closed) desk in
    record {
      legal = subst (Legal p.threads p.askers) (sym events) tt;
      stands = subst (λ h. Stands p.threads (facts_of h) p.desk) (sym events)
          (subst (λ d. Stands p.threads (facts_of []) d) (sym desk)
          (subst (λ n. Stands n (facts_of []) (no_works threads)) (sym same) (stands_first threads)));
      asked = subst (λ h. AskersStand p.askers (request_facts h) p.requests) (sym events)
          (subst (λ d. AskersStand p.askers (request_facts []) d) (sym requests)
          (subst (λ n. AskersStand n (request_facts []) (nothing_asked askers)) (sym same_too) (asked_first askers)));
      room = subst (λ n. vec_len p.events + (due_in p + p.spare + n) ≤ vec_capacity p.events) (sym bare) room;
    }

-- what a drain puts into what was cleared
pub drain_brings : (size askers : ℕ) (history : List Event) (s : DeskState) (r : RequestsState) (cleared a b : Arrived) → cleared ≡ nothing_arrived
    → a ≡ record cleared { works = cleared.works ++ s.owed }
    → b ≡ record a { requests = a.requests ++ map pair_of (unfetched_of r); left = left_of r } → Stands size (facts_of history) s
    → AskersStand askers (request_facts history) r → b ≡ brought askers history
drain_brings size askers history s r cleared a b clear owed rest st asked =
    let works : b.works ≡ owed_pairs history =
    ap (λ (x : Arrived). x.works) rest ∙ (ap (λ (x : Arrived). x.works) owed ∙ (ap (λ (x : Arrived). x.works ++ s.owed) clear ∙ st.owed)) in
    let requests : b.requests ≡ request_pairs history =
    ap (λ (x : Arrived). x.requests) rest
    ∙ (ap (λ (x : Arrived). x.requests ++ map pair_of (unfetched_of r)) owed
    ∙ (ap (λ (x : Arrived). x.requests ++ map pair_of (unfetched_of r)) clear ∙ pairs_are askers history r asked)) in
    let left : b.left ≡ askers_left askers history = ap (λ (x : Arrived). x.left) rest ∙ left_is askers history r asked in
    λ i. record { works = works i; requests = requests i; left = left i }

-- whether a drain has something to tell
pub owes_now : (size askers : ℕ) (history : List Event) (s : DeskState) (r : RequestsState) → Stands size (facts_of history) s
    → AskersStand askers (request_facts history) r
    → (not (length s.owed == 0) || not (length (unfetched_of r) == 0) || r.untold) ≡ owes history
owes_now size askers history s r st asked =
    λ i. not (owes_is size history s st i) || not (none_unfetched askers history r asked i) || (sym asked.untold) i

pub ends_some : (id : ℕ) (outcome : Outcome) (o : Option Task) → Ends id outcome o → is_some o ≡ true
ends_some id outcome None h = absurd h
ends_some id outcome (Some task) h = refl

-- the work that may start, by what is next
pub may_given : (size : ℕ) (history : List Event) (s : DeskState) (t : ℕ) (o : Option ℕ) → Stands size (facts_of history) s → s.closed ≡ false
    → t < size → (thread_at s t).running ≡ None → option_map (λ (task : Task). task.id) (next_of s t) ≡ o → (id : ℕ)
    → (o ≡ Some id) ↔ MayStart size history t id
may_given size history s t o st unclosed lt idle e id =
    subst (λ x. (x ≡ Some id) ↔ MayStart size history t id) e (may_is size history s t id st unclosed lt idle)

-- the number of a work, if there is one, and whether there is
abbrev pub task_id : Option Task → Option ℕ
task_id o = option_map (λ (task : Task). task.id) o

abbrev pub some_bit : Option Task → ℕ
some_bit o = cond (is_some o) 1 0

-- a helper is refused exactly where no thread is free
pub refused_now : (size : ℕ) (history : List Event) (s : DeskState) (o : Option ℕ) → Stands size (facts_of history) s → o ≡ answer_of s
    → (o ≡ None) ↔ (free_threads size history ≡ 0)
refused_now size history s o st e =
    subst (λ x. (x ≡ None) ↔ (free_threads size history ≡ 0)) (sym e)
    (subst (λ n. (answer_of s ≡ None) ↔ (n ≡ 0)) (sym (free_is size (facts_of history) s st)) (refused_is s))
