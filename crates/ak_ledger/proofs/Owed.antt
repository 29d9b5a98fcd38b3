-- Which answers are to come, as each step of a scheduler keeps it.
use Rattle.std.proofs.Common.{ℕ, ℤ, zero, suc, ◌+◌, ◌≤◌, ◌≡◌, List, [], ◌∷◌, ◌++◌, length, map, filter, get_or, Bool, true, false, cond, Option, Some, None}
use Rattle.std.proofs.Common.{refl, sym, subst, ◌∙◌, ap, arith, fold}
use Rattle.std.specs.Prelude.{not, ◌==◌}
use Rattle.std.proofs.lemmas.Bool.{eqb-true, eq-eqb, true≢false}
use Rattle.std.proofs.Math.ListN.{set}
use Rattle.ak_base.specs.Lists.{rest_of}
use Rattle.ak_base.specs.declared.number.Ctx.{Ctx}
use Rattle.ak_cells.specs.declared.registration.Registration.{Registration}
use Rattle.ak_cells.specs.Cells.{is_on, is_off, is_other, waiting_on, filled, unregistered, with_registration}
use Rattle.ak_cells.specs.Names.{renamed}
use Rattle.ak_rings.specs.declared.job.Job.{Job}
use Rattle.ak_rings.specs.Queues.{first_under, pick_or, pick_of, picked_by, picked_from, with_job}
use Rattle.ak_frames.specs.declared.value.Value.TheVariants.{Num}
use Rattle.ak_frames.specs.declared.frame.Ret.TheVariants.{To}
use Rattle.ak_frames.specs.declared.frame.Frame.{Frame}
use Rattle.ak_frames.specs.declared.frame.Frame.TheVariants.{Call, OnValue, AllPart, ChoicePart, TryDone, BodyDone, BodyFailed, Raise, AnswerOut}
use Rattle.ak_frames.specs.declared.frame.Task.{Task}
use Rattle.ak_trace.specs.declared.entry.Entry.TheVariants as entry
use Rattle.ak_machine.specs.declared.held.Requested.{Requested}
use Rattle.ak_machine.specs.State.{State}
use Rattle.ak_machine.specs.Mapped.{frame_mapped, job_mapped, registration_mapped, requested_mapped, state_renamed}
use Rattle.ak_machine.specs.Deferred.{noting, plain_task, woken_task, enqueue, with_ivar, number_at, woken_by, register_at}
use Rattle.ak_machine.specs.Works.{is_unanswered, with_request, request_at, answered}
use Rattle.ak_machine.specs.Cycle.{at_root, request_arrived}
use Rattle.ak_holders.specs.Holders.{total}
use Rattle.ak_holders.proofs.Carry.{total_push, total_filter, total_parts, total_of_map, first_is}
use Rattle.ak_ledger.specs.Answers.{frame_answers, handler_answers, job_answers, answers_to, owed_to, NumberedFrom, AnswersAreOwed}
use Rattle.ak_ledger.proofs.Still.{Still, IsNoAnswer, Aspects, aspects_of}

-- ---- requests by their numbers
abbrev pub absent : ℕ → Requested
absent q = record { number = q; to = 0; answered = true }

-- one that stands there or is absent
pub past_is : (xs : List Requested) (k : ℕ) (d : Requested) → length xs ≤ k → get_or xs k d ≡ d
past_is [] k d l = refl
past_is (x ∷ xs) zero d l = absurd (omega (arith, l))
past_is (x ∷ xs) (suc k) d l = past_is xs k d (omega (arith, l))

pub push_last : (xs : List Requested) (x d : Requested) (k : ℕ) → k ≡ length xs → get_or (xs ++ x ∷ []) k d ≡ x
push_last [] x d zero e = refl
push_last [] x d (suc k) e = absurd (omega (arith, e))
push_last (y ∷ xs) x d zero e = absurd (omega (arith, e))
push_last (y ∷ xs) x d (suc k) e = push_last xs x d k (omega (arith, e))

pub push_other : (xs : List Requested) (x d : Requested) (k : ℕ) → (k ≡ length xs → ⊥) → get_or (xs ++ x ∷ []) k d ≡ get_or xs k d
push_other [] x d zero e = absurd (e refl)
push_other [] x d (suc k) e = refl
push_other (y ∷ xs) x d zero e = refl
push_other (y ∷ xs) x d (suc k) e = push_other xs x d k (λ f. e (omega (arith, f)))

pub set_same : (P : Requested → Type 0) (xs : List Requested) (k : ℕ) (y d : Requested) → P y → P d → P (get_or (set xs k y) k d)
set_same P [] k y d p q = q
set_same P (x ∷ xs) zero y d p q = p
set_same P (x ∷ xs) (suc k) y d p q = set_same P xs k y d p q

pub set_other : (xs : List Requested) (k j : ℕ) (y d : Requested) → (k ≡ j → ⊥) → get_or (set xs k y) j d ≡ get_or xs j d
set_other [] k j y d e = refl
set_other (x ∷ xs) zero zero y d e = absurd (e refl)
set_other (x ∷ xs) zero (suc j) y d e = refl
set_other (x ∷ xs) (suc k) zero y d e = refl
set_other (x ∷ xs) (suc k) (suc j) y d e = set_other xs k j y d (λ f. e (omega (arith, f)))

renamed_at : (f : ℕ → ℕ) (xs : List Requested) (k : ℕ) (d : Requested) → (get_or (map (requested_mapped f) xs) k d).answered ≡ (get_or xs k d).answered
renamed_at f [] k d = refl
renamed_at f (x ∷ xs) zero d = refl
renamed_at f (x ∷ xs) (suc k) d = renamed_at f xs k d

-- ---- the numbers of requests
pub numbered_push : (n : ℕ) (xs : List Requested) (x : Requested) → NumberedFrom n xs → x.number ≡ n + length xs → NumberedFrom n (xs ++ x ∷ [])
numbered_push n [] x h e = (omega (arith, e), tt)
numbered_push n (y ∷ xs) x h e = (h.0, numbered_push (n + 1) xs x h.1 (omega (arith, e)))

numbered_renamed : (f : ℕ → ℕ) (n : ℕ) (xs : List Requested) → NumberedFrom n xs → NumberedFrom n (map (requested_mapped f) xs)
numbered_renamed f n [] h = tt
numbered_renamed f n (x ∷ xs) h = (h.0, numbered_renamed f (n + 1) xs h.1)

numbered_set : (n k : ℕ) (xs : List Requested) (y : Requested) → NumberedFrom n xs → y.number ≡ n + k → NumberedFrom n (set xs k y)
numbered_set n k [] y h e = tt
numbered_set n zero (x ∷ xs) y h e = (omega (arith, e), h.1)
numbered_set n (suc k) (x ∷ xs) y h e = (h.0, numbered_set (n + 1) k xs y h.1 (omega (arith, e)))

pub number_is : (n k : ℕ) (xs : List Requested) (d : Requested) → NumberedFrom n xs → d.number ≡ n + k → (get_or xs k d).number ≡ n + k
number_is n k [] d h e = e
number_is n zero (x ∷ xs) d h e = omega (arith, h.0)
number_is n (suc k) (x ∷ xs) d h e = omega (arith, number_is (n + 1) k xs d h.1 (omega (arith, e)))

-- ---- what is owed
-- 0 where a request is answered
abbrev pub owed_by : Requested → ℕ
owed_by request = cond (is_unanswered request) 1 0

pub owed_least : (request : Requested) → request.answered ≡ true → owed_by request ≡ 0
owed_least request e = ap (λ b. cond (not b) 1 0) e

pub owed_most : (request : Requested) → owed_by request ≤ 1
owed_most request = by request.answered
  where
    by : (b : Bool) → cond (not b) 1 0 ≤ 1
    by true = omega arith
    by false = omega arith

-- ---- the hand
no_answer : (q : ℕ) (f : Frame) → IsNoAnswer f → frame_answers q f ≡ 0
no_answer q (AnswerOut p) n = absurd n
no_answer q f n = refl

pub its_answer : (q : ℕ) → frame_answers q (AnswerOut q) ≡ 1
its_answer q = subst (λ b. ◌≡◌ {A = ℕ} (cond b 1 0) 1) (sym (eq-eqb q q refl)) refl

-- a frame that answers nothing comes into the hand, and one is let go
pub taken_owed : (hand : List Frame) (f : Frame) (s : State) → IsNoAnswer f → AnswersAreOwed hand s → AnswersAreOwed (f ∷ hand) s
taken_owed hand f s n h = record { numbered = h.numbered; once = λ q. omega (arith, h.once q, no_answer q f n) }

pub dropped_owed : (hand : List Frame) (f : Frame) (s : State) → AnswersAreOwed (f ∷ hand) s → AnswersAreOwed hand s
dropped_owed hand f s h = record { numbered = h.numbered; once = λ q. omega (arith, h.once q) }

-- a frame from the hand is enqueued
queued_owed : (hand : List Frame) (b : Bool) (job : Job Task) (s : State) → AnswersAreOwed (job.frame.frame ∷ hand) s
    → AnswersAreOwed hand (record s {
      queues = cond b (record s.queues { low = s.queues.low ++ job ∷ []; next = s.queues.next + 1 })
          (record s.queues { normal = s.queues.normal ++ job ∷ []; next = s.queues.next + 1 });
    })
queued_owed hand true job s h = record { numbered = h.numbered; once = λ q. omega (arith, h.once q, total_push (job_answers q) s.queues.low job) }
queued_owed hand false job s h = record { numbered = h.numbered; once = λ q. omega (arith, h.once q, total_push (job_answers q) s.queues.normal job) }

pub enqueued_owed : (hand : List Frame) (ctx : Ctx) (task : Task) (s : State) → AnswersAreOwed (task.frame ∷ hand) s → AnswersAreOwed hand (enqueue ctx task s)
enqueued_owed hand ctx task s h =
    let after : AnswersAreOwed hand (record s { queues = with_job ctx task s.queues }) =
    queued_owed hand ctx.low (record { no = s.queues.next; ctx = ctx; frame = task }) s h
    in record { numbered = after.numbered; once = after.once }

all_woken_owed : (hand : List Frame) (v : ℤ) (gs : List (Registration Frame)) (s : State) → AnswersAreOwed (map (λ g. g.frame) gs ++ hand) s
    → AnswersAreOwed hand (fold (woken_by v) s gs)
all_woken_owed hand v [] s h = h
all_woken_owed hand v (g ∷ gs) s h =
    all_woken_owed hand v gs (woken_by v s g)
    (enqueued_owed (map (λ (x : Registration Frame). x.frame) gs ++ hand) g.ctx (woken_task g.frame v) s h)

-- ---- handlers
registered_owed : (hand : List Frame) (i : ℕ) (ctx : Ctx) (f : Frame) (s : State) → AnswersAreOwed (f ∷ hand) s
    → AnswersAreOwed hand (record s { cells = with_registration i ctx f s.cells })
registered_owed hand i ctx f s h = record {
  numbered = h.numbered;
  once = λ q. omega (
    arith,
    h.once q,
    total_push (handler_answers q) s.cells.registrations (record { number = s.cells.next; ivar = i; ctx = ctx; frame = f }),
  );
}

forgotten_owed : (hand : List Frame) (notes : List ℕ) (s : State) → AnswersAreOwed hand s
    → AnswersAreOwed hand (record s { cells = fold unregistered s.cells notes })
forgotten_owed hand [] s h = h
forgotten_owed hand (n ∷ notes) s h =
    forgotten_owed hand notes (record s { cells = unregistered s.cells n })
    (record { numbered = h.numbered; once = λ q. omega (arith, h.once q, total_filter (handler_answers q) (is_other n) s.cells.registrations) })

-- those of an ivar that is filled come into the hand
total_both : {A : Type 0} (f : A → ℕ) (xs ys : List A) → total f (xs ++ ys) ≡ total f xs + total f ys
total_both f [] ys = omega arith
total_both f (x ∷ xs) ys = omega (arith, total_both f xs ys)

filled_owed : (hand : List Frame) (i : ℕ) (v : ℤ) (s : State) → AnswersAreOwed hand s
    → AnswersAreOwed (map (λ g. g.frame) (waiting_on i s.cells) ++ hand) (noting (entry.Fill i v) (record s { cells = filled i v s.cells }))
filled_owed hand i v s h = record {
  numbered = h.numbered;
  once = λ q. omega (
    arith,
    h.once q,
    total_both (frame_answers q) (map (λ (g : Registration Frame). g.frame) (filter (is_on i) s.cells.registrations)) hand,
    total_of_map (frame_answers q) (λ (g : Registration Frame). g.frame) (filter (is_on i) s.cells.registrations),
    total_parts (handler_answers q) (is_on i) (is_off i) (λ g. refl) s.cells.registrations,
  );
}

-- ---- a join renames
mapped_answers : (q : ℕ) (m : ℕ → ℕ) (f : Frame) → frame_answers q (frame_mapped m f) ≡ frame_answers q f
mapped_answers q m (AnswerOut p) = refl
mapped_answers q m (Call proc vals ret) = refl
mapped_answers q m (OnValue proc vals ret) = refl
mapped_answers q m (AllPart g k) = refl
mapped_answers q m (ChoicePart g) = refl
mapped_answers q m (TryDone g) = refl
mapped_answers q m (BodyDone b) = refl
mapped_answers q m (BodyFailed b e) = refl
mapped_answers q m (Raise e) = refl

same_total : {A : Type 0} (f : A → ℕ) (m : A → A) → ((x : A) → f (m x) ≡ f x) → (xs : List A) → total f (map m xs) ≡ total f xs
same_total f m h [] = refl
same_total f m h (x ∷ xs) = omega (arith, h x, same_total f m h xs)

renamed_owed : (m : ℕ → ℕ) (s : State) (q : ℕ) → owed_by (get_or (map (requested_mapped m) s.requests) q (absent q)) ≡ owed_to q s
renamed_owed m s q = ap (λ b. cond (not b) 1 0) (renamed_at m s.requests q (absent q))

joined_owed : (hand : List Frame) (result right : ℕ) (s : State) → AnswersAreOwed hand s
    → AnswersAreOwed hand (state_renamed right result (noting (entry.Join result right) s))
joined_owed hand result right s h =
    let m : ℕ → ℕ = renamed right result
    in record {
      numbered = numbered_renamed m 0 s.requests h.numbered;
      once = λ q. omega (
        arith,
        h.once q,
        renamed_owed (renamed right result) s q,
        same_total (handler_answers q) (registration_mapped (renamed right result))
            (λ g. mapped_answers q (renamed right result) g.frame) s.cells.registrations,
        same_total (job_answers q) (job_mapped (renamed right result)) (λ job. mapped_answers q (renamed right result) job.frame.frame) s.queues.normal,
        same_total (job_answers q) (job_mapped (renamed right result)) (λ job. mapped_answers q (renamed right result) job.frame.frame) s.queues.low,
      );
    }

-- ---- the changes that ask nothing
abbrev OwedBy : List Frame → Aspects → Type 0
OwedBy hand a =
    NumberedFrom 0 a.requests
    × ((q : ℕ) → total (frame_answers q) hand + total (handler_answers q) a.handlers + total (job_answers q) a.queues.normal
    + total (job_answers q) a.queues.low
    ≤ owed_by (get_or a.requests q (absent q)))

pub owed_still : (hand : List Frame) → Still (AnswersAreOwed hand)
owed_still hand = record {
  note = λ e s q h. record { numbered = h.numbered; once = h.once };
  enq = λ ctx task s n h. enqueued_owed hand ctx task s (taken_owed hand task.frame s n h);
  wait = λ i ctx frame s n h. registered_owed hand i ctx frame s (taken_owed hand frame s n h);
  forget = forgotten_owed hand;
  fill = λ i v s h.
      all_woken_owed hand v (waiting_on i s.cells) (noting (entry.Fill i v) (record s { cells = filled i v s.cells })) (filled_owed hand i v s h);
  join = λ result right s e h. joined_owed hand result right s h;
  change = λ s u e t h.
      let there : OwedBy hand (aspects_of u) = subst (OwedBy hand) (sym e) (h.numbered, h.once)
      in record { numbered = there.0; once = there.1 };
}

-- ---- a request arrives, with the frame of its answer
register_at_owed : (o : Option ℤ) (hand : List Frame) (i : ℕ) (ctx : Ctx) (f : Frame) (s : State) → AnswersAreOwed (f ∷ hand) s
    → AnswersAreOwed hand (register_at o i ctx f s)
register_at_owed (Some v) hand i ctx f s h = enqueued_owed hand ctx (woken_task f v) s h
register_at_owed None hand i ctx f s h = registered_owed hand i ctx f s h

requested_owed : (q r : ℕ) (n : ℤ) (s : State) → q ≡ length s.requests → AnswersAreOwed [] s
    → AnswersAreOwed (AnswerOut q ∷ []) (noting (entry.Request q n r) (with_request q r (with_ivar s)))
requested_owed q r n s e h = record {
  numbered = numbered_push 0 s.requests new h.numbered (omega (arith, e));
  once = λ p. by p (p == length s.requests) refl;
}
  where
    new : Requested
    new = record { number = q; to = r; answered = false }

    by : (p : ℕ) (b : Bool) → (p == length s.requests) ≡ b → answers_to p (AnswerOut q ∷ []) s ≤ owed_by (get_or (s.requests ++ new ∷ []) p (absent p))
    by p true f =
        let same : p ≡ length s.requests = eqb-true p (length s.requests) f
        in let none : owed_to p s ≡ 0 = ap owed_by (past_is s.requests p (absent p) (omega (arith, same)))
        in let one : frame_answers p (AnswerOut q) ≡ 1 = subst (λ b. ◌≡◌ {A = ℕ} (cond b 1 0) 1) (sym (eq-eqb q p (e ∙ sym same))) refl
        in let now : owed_by (get_or (s.requests ++ new ∷ []) p (absent p)) ≡ owed_by new = ap owed_by (push_last s.requests new (absent p) p same)
        in omega (arith, h.once p, none, one, now)
    by p false f =
        let other : p ≡ length s.requests → ⊥ = λ same. true≢false (sym (eq-eqb p (length s.requests) same) ∙ f)
        in let none : frame_answers p (AnswerOut q) ≡ 0 = not_it (q == p) refl other
        in let now : owed_by (get_or (s.requests ++ new ∷ []) p (absent p)) ≡ owed_to p s = ap owed_by (push_other s.requests new (absent p) p other)
        in omega (arith, h.once p, none, now)
      where
        not_it : (b : Bool) → (q == p) ≡ b → (p ≡ length s.requests → ⊥) → ◌≡◌ {A = ℕ} (cond b 1 0) 0
        not_it true g x = absurd (x (sym (eqb-true q p g) ∙ e))
        not_it false g x = refl

pub request_owed : (ask q : ℕ) (n : ℤ) (s : State) → q ≡ length s.requests → AnswersAreOwed [] s → AnswersAreOwed [] (request_arrived ask q n s)
request_owed ask q n s e h =
    let r : ℕ = length s.cells.ivars
    in let noted : State = noting (entry.Request q n r) (with_request q r (with_ivar s))
    in let there : State = register_at (number_at r noted) r at_root (AnswerOut q) noted
    in enqueued_owed [] at_root (plain_task (Call ask (Num n ∷ []) (To r))) there
    (taken_owed [] (Call ask (Num n ∷ []) (To r)) there tt
    (register_at_owed (number_at r noted) [] r at_root (AnswerOut q) noted (requested_owed q r n s e h)))

-- ---- a job is picked, and its frame is in hand
front_total : (q : ℕ) (jobs : List (Job Task)) (job : Job Task) → jobs ≡ job ∷ rest_of jobs
    → job_answers q job + total (job_answers q) (rest_of jobs) ≡ total (job_answers q) jobs
front_total q jobs job e = sym (ap (total (job_answers q)) e)

picked_by_owed : (a b : Option (Job Task)) (job : Job Task) (s : State) → first_under s.queues.normal_ran s.queues.limit s.queues.normal ≡ a
    → first_under s.queues.low_ran s.queues.limit s.queues.low ≡ b → pick_or a b ≡ Some job → AnswersAreOwed [] s
    → AnswersAreOwed (job.frame.frame ∷ []) (record s { queues = picked_by a b s.queues })
picked_by_owed (Some x) b job s ea eb e h =
    let same : x ≡ job = cc
    in let front : s.queues.normal ≡ job ∷ rest_of s.queues.normal =
    first_is s.queues.normal_ran s.queues.limit s.queues.normal job (ea ∙ ap (λ y. Some y) same)
    in record { numbered = h.numbered; once = λ q. omega (arith, h.once q, front_total q s.queues.normal job front) }
picked_by_owed None (Some x) job s ea eb e h =
    let same : x ≡ job = cc
    in let front : s.queues.low ≡ job ∷ rest_of s.queues.low = first_is s.queues.low_ran s.queues.limit s.queues.low job (eb ∙ ap (λ y. Some y) same)
    in record { numbered = h.numbered; once = λ q. omega (arith, h.once q, front_total q s.queues.low job front) }
picked_by_owed None None job s ea eb e h = absurd (cc)

pub picked_owed : (job : Job Task) (s : State) → pick_of s.queues ≡ Some job → AnswersAreOwed [] s
    → AnswersAreOwed (job.frame.frame ∷ []) (record s { queues = picked_from s.queues })
picked_owed job s e h =
    picked_by_owed (first_under s.queues.normal_ran s.queues.limit s.queues.normal) (first_under s.queues.low_ran s.queues.limit s.queues.low)
    job s refl refl e h

-- none is picked
pub unpicked_owed : (s : State) → pick_of s.queues ≡ None → AnswersAreOwed [] s → AnswersAreOwed [] (record s { queues = picked_from s.queues })
unpicked_owed s e h =
    by (first_under s.queues.normal_ran s.queues.limit s.queues.normal) (first_under s.queues.low_ran s.queues.limit s.queues.low) e
  where
    by : (a b : Option (Job Task)) → pick_or a b ≡ None → AnswersAreOwed [] (record s { queues = picked_by a b s.queues })
    by (Some x) b f = absurd (cc)
    by None (Some x) f = absurd (cc)
    by None None f = record { numbered = h.numbered; once = h.once }

-- ---- a request is answered
pub answered_owed : (hand : List Frame) (q : ℕ) (v : ℤ) (s : State) → AnswersAreOwed (AnswerOut q ∷ hand) s → AnswersAreOwed hand (answered q v s)
answered_owed hand q v s h = record {
  numbered = numbered_set 0 q s.requests last h.numbered (number_is 0 q s.requests (absent q) h.numbered (omega arith));
  once = λ p. by p (q == p) refl;
}
  where
    last : Requested
    last = record (request_at q s) { answered = true }

    by : (p : ℕ) (b : Bool) → (q == p) ≡ b → answers_to p hand s ≤ owed_by (get_or (set s.requests q last) p (absent p))
    by p true f =
        let same : q ≡ p = eqb-true q p f
        in let one : frame_answers p (AnswerOut q) ≡ 1 = subst (λ b. ◌≡◌ {A = ℕ} (cond b 1 0) 1) (sym f) refl
        in omega (arith, h.once p, one, owed_most (request_at p s))
    by p false f =
        let same : owed_by (get_or (set s.requests q last) p (absent p)) ≡ owed_to p s =
        ap owed_by (set_other s.requests q p last (absent p) (λ e. true≢false (sym (eq-eqb q p e) ∙ f)))
        in omega (arith, h.once p, same)
