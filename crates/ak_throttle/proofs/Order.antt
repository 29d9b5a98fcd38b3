-- At most so many bodies run, and they start in the order of their numbers.
use Rattle.std.proofs.Common.{ℕ, zero, suc, ◌+◌, ◌<◌, ◌≤◌, ◌≡◌, List, [], ◌∷◌, ◌++◌, map, length, refl, ap, sym, ◌∙◌, subst, Bool, true, false, cond, arith, append_assoc, length-append}
use Rattle.std.specs.Prelude.{not, count_by, Some, slice_get, slice_set}
use Rattle.std.proofs.lemmas.Bool.{true≢false, ltb-true, ltb-false}
use Rattle.std.proofs.lemmas.List.{append-nil, map-append, length-map, length-set}
use Rattle.std.proofs.lemmas.List.Sums.{sum_by-append}
use Rattle.ak_base.specs.Lists.{rest_of}
use Rattle.ak_throttle.specs.declared.stage.Stage.{Stage}
use Rattle.ak_throttle.specs.declared.stage.Stage.TheVariants.{Waiting, Running}
use Rattle.ak_throttle.specs.declared.stage.Mark.{Mark}
use Rattle.ak_throttle.specs.Throttle.{Throttle, fresh_throttle, has_room, running_count, is_done, with_mark, started_by_end, after_end, after_failure, dropped_taken, without_dropped, satisfied_taken}
use Rattle.ak_throttle.specs.Seen.{stage_of, waits, dropped_of, throttle_of, lost_after}
use Rattle.ak_throttle.specs.Held.{HasStarted}
use Rattle.ak_throttle.specs.Runs.{Call, Enqueue, Ended, Failed, NextDropped, DoneWhen, NextDone, IsAllowed, AreAllowed, called, after, number_of, starts, all_starts, numbers_from}
use Rattle.ak_throttle.proofs.Overs.{one_fewer}
use Rattle.ak_throttle.proofs.Bodies.{running_same, room_same, runs_in, started_same, after_same, stopped_same}

-- what a call leaves and starts
pub record IsStep {B : Type 0} (n most : ℕ) (nums : List ℕ) (t : Throttle B) : Type 0 where
  pub held : HasStarted t (n + length nums)
  pub same : t.most ≡ most
  pub in_order : nums ≡ numbers_from n (length nums)

-- a call that starts none
none_starts : {B : Type 0} (most : ℕ) (stop dead : Bool) (overs : List Bool) (lost : ℕ) (bodies : List B) (marks : List Mark) (n : ℕ)
    (t : Throttle B) → t ≡ throttle_of most stop dead overs lost bodies marks → count_by not overs ≤ most
    → (dead ≡ false → 0 < length bodies → count_by not overs ≡ most) → length overs ≡ n → IsStep n most [] t
none_starts most stop dead overs lost bodies marks n t e f g s = record {
  held = record {
    most = most;
    stop = stop;
    dead = dead;
    overs = overs;
    lost = lost;
    bodies = bodies;
    marks = marks;
    is = e;
    few = f;
    full = g;
    started = omega (arith, s);
  };
  same = ap (λ u. u.most) e;
  in_order = refl;
}

-- a call that starts the next one
next_starts : {B : Type 0} (most : ℕ) (stop dead : Bool) (overs : List Bool) (lost : ℕ) (bodies : List B) (marks : List Mark) (n : ℕ)
    (nums : List ℕ) (t : Throttle B) → t ≡ throttle_of most stop dead (overs ++ false ∷ []) lost bodies marks → count_by not overs < most
    → (dead ≡ false → 0 < length bodies → count_by not overs + 1 ≡ most) → length overs ≡ n → nums ≡ n ∷ [] → IsStep n most nums t
next_starts {B} most stop dead overs lost bodies marks n nums t e f g s m =
    let one : count_by not (overs ++ false ∷ []) ≡ count_by not overs + 1 = sum_by-append (λ (o : Bool). cond (not o) 1 0) overs (false ∷ [])
    in record {
      held = record {
        most = most;
        stop = stop;
        dead = dead;
        overs = overs ++ false ∷ [];
        lost = lost;
        bodies = bodies;
        marks = marks;
        is = e;
        few = omega (arith, one, f);
        full = λ d h. one ∙ g d h;
        started = omega (arith, s, length-append overs (false ∷ []), ap length m);
      };
      same = ap (λ u. u.most) e;
      in_order = m ∙ ap (λ xs. numbers_from n (length xs)) (sym m);
    }

-- one more body runs, or waits
enqueue_by : {B : Type 0} (room : Bool) (most : ℕ) (stop : Bool) (overs : List Bool) (lost : ℕ) (bodies : List B) (marks : List Mark)
    (body : B) → has_room (throttle_of most stop false overs lost bodies marks) ≡ room → count_by not overs ≤ most
    → (0 < length bodies → count_by not overs ≡ most)
    → IsStep (length overs) most (cond room (length (throttle_of most stop false overs lost bodies marks).bodies ∷ []) [])
    (record (throttle_of most stop false overs lost bodies marks) {
      bodies =
          (throttle_of most stop false overs lost bodies marks).bodies ++ cond room Running (Waiting body) ∷ [];
    })
enqueue_by true most stop overs lost (b ∷ bs) marks body r f g =
    absurd (omega (arith, g (omega arith), ltb-true _ _ (sym (room_same most stop false overs lost (b ∷ bs) marks) ∙ r)))
enqueue_by {B} true most stop overs lost [] marks body r f g =
    let none : List B = []
    in let plain_stages : List (Stage B) = map stage_of overs
    in let few : count_by not overs < most = ltb-true _ _ (sym (room_same most stop false overs lost none marks) ∙ r)
    in next_starts most stop false overs lost none marks (length overs) (length (plain_stages ++ []) ∷ []) _
    (ap (λ stages. record { most = most; stop = stop; dead = false; bodies = stages; dropped = []; marks = marks })
    (ap (λ xs. xs ++ Running ∷ []) (append-nil plain_stages) ∙ sym (map-append stage_of overs (false ∷ []))
    ∙ sym (append-nil (map stage_of (overs ++ false ∷ [])))))
    few (λ d h. absurd (omega (arith, h))) refl
    (ap (λ k. k ∷ []) (ap length (append-nil plain_stages) ∙ length-map overs stage_of))
enqueue_by {B} false most stop overs lost bodies marks body r f g =
    let all : most ≤ count_by not overs = ltb-false _ _ (sym (room_same most stop false overs lost bodies marks) ∙ r)
    in let plain_stages : List (Stage B) = map stage_of overs
    in none_starts most stop false overs lost (bodies ++ body ∷ []) marks (length overs) _
    (ap (λ stages. record { most = most; stop = stop; dead = false; bodies = stages; dropped = []; marks = marks })
    (append_assoc plain_stages (map waits bodies) (Waiting body ∷ []) ∙ ap (λ xs. plain_stages ++ xs) (sym (map-append waits bodies (body ∷ [])))))
    f (λ d h. omega (arith, all, f)) refl

-- a body that runs ends
end_by : {B : Type 0} (most : ℕ) (stop dead : Bool) (overs : List Bool) (lost : ℕ) (bodies : List B) (marks : List Mark) (n : ℕ)
    → slice_get overs n ≡ Some false → count_by not overs ≤ most → (dead ≡ false → 0 < length bodies → count_by not overs ≡ most)
    → IsStep (length overs) most (number_of (started_by_end n (throttle_of most stop dead overs lost bodies marks)))
    (after_end n (throttle_of most stop dead overs lost bodies marks))
end_by most stop true overs lost bodies marks n e f g =
    let fewer = one_fewer overs n e
    in subst (λ (nums : List ℕ). IsStep (length overs) most nums (after_end n (throttle_of most stop true overs lost bodies marks)))
    (sym (ap number_of (started_same most stop true overs lost bodies marks n e)))
    (none_starts most stop true (slice_set overs n true) lost bodies marks (length overs) _
    (after_same most stop true overs lost bodies marks n e) (omega (arith, fewer, f)) (λ d. absurd (true≢false d))
    (length-set overs n true))
end_by {B} most stop false overs lost [] marks n e f g =
    let none : List B = []
    in let fewer = one_fewer overs n e
    in subst (λ (nums : List ℕ). IsStep (length overs) most nums (after_end n (throttle_of most stop false overs lost none marks)))
    (sym (ap number_of (started_same most stop false overs lost none marks n e)))
    (none_starts most stop false (slice_set overs n true) lost none marks (length overs) _
    (after_same most stop false overs lost none marks n e) (omega (arith, fewer, f)) (λ d h. absurd (omega (arith, h)))
    (length-set overs n true))
end_by most stop false overs lost (b ∷ bs) marks n e f g =
    let fewer = one_fewer overs n e
    in let all = g refl (omega arith)
    in next_starts most stop false (slice_set overs n true) lost bs marks (length overs) _ _ (after_same most stop false overs lost (b ∷ bs) marks n e)
    (omega (arith, fewer, f)) (λ d h. omega (arith, fewer, all)) (length-set overs n true)
    (ap number_of (started_same most stop false overs lost (b ∷ bs) marks n e) ∙ ap (λ k. k ∷ []) (length-set overs n true))

fail_by : {B : Type 0} (most : ℕ) (stop dead : Bool) (overs : List Bool) (lost : ℕ) (bodies : List B) (marks : List Mark) (n : ℕ)
    → slice_get overs n ≡ Some false → count_by not overs ≤ most → (dead ≡ false → 0 < length bodies → count_by not overs ≡ most)
    → IsStep (length overs) most (starts (Failed n) (throttle_of most stop dead overs lost bodies marks))
    (after_failure n (throttle_of most stop dead overs lost bodies marks))
fail_by most true dead overs lost bodies marks n e f g =
    none_starts most true true (slice_set overs n true) (lost_after dead lost bodies) bodies marks (length overs) _
    (stopped_same most true dead overs lost bodies marks n e)
    (omega (arith, one_fewer overs n e, f)) (λ d. absurd (true≢false d)) (length-set overs n true)
fail_by most false dead overs lost bodies marks n e f g = end_by most false dead overs lost bodies marks n e f g

awaited_by : {B : Type 0} (t : Bool) (most : ℕ) (stop dead : Bool) (overs : List Bool) (lost : ℕ) (bodies : List B) (marks : List Mark)
    (i : ℕ) → count_by not overs ≤ most → (dead ≡ false → 0 < length bodies → count_by not overs ≡ most)
    → IsStep (length overs) most []
    (cond t (throttle_of most stop dead overs lost bodies marks) (with_mark i (throttle_of most stop dead overs lost bodies marks)))
awaited_by true most stop dead overs lost bodies marks i f g = none_starts most stop dead overs lost bodies marks (length overs) _ refl f g refl
awaited_by false most stop dead overs lost bodies marks i f g =
    none_starts most stop dead overs lost bodies (with_mark i (throttle_of most stop dead overs lost bodies marks)).marks (length overs) _ refl f g refl

enqueue_step : {B : Type 0} (most : ℕ) (stop dead : Bool) (overs : List Bool) (lost : ℕ) (bodies : List B) (marks : List Mark) (body : B)
    → count_by not overs ≤ most → (dead ≡ false → 0 < length bodies → count_by not overs ≡ most)
    → IsStep (length overs) most (starts (Enqueue body) (throttle_of most stop dead overs lost bodies marks))
    (called (Enqueue body) (throttle_of most stop dead overs lost bodies marks))
enqueue_step most stop true overs lost bodies marks body f g = none_starts most stop true overs lost bodies marks (length overs) _ refl f g refl
enqueue_step most stop false overs lost bodies marks body f g =
    enqueue_by (has_room (throttle_of most stop false overs lost bodies marks)) most stop overs lost bodies marks body refl f (g refl)

drop_step : {B : Type 0} (most : ℕ) (stop dead : Bool) (overs : List Bool) (lost : ℕ) (bodies : List B) (marks : List Mark)
    → count_by not overs ≤ most → (dead ≡ false → 0 < length bodies → count_by not overs ≡ most)
    → IsStep (length overs) most [] (dropped_taken (throttle_of most stop dead overs lost bodies marks))
drop_step most stop true overs lost bodies marks f g =
    none_starts most stop true overs lost (rest_of bodies) marks (length overs) _ refl f (λ d. absurd (true≢false d)) refl
drop_step most stop false overs lost bodies marks f g = none_starts most stop false overs lost bodies marks (length overs) _ refl f g refl

step_of : {B : Type 0} (call : Call B) (most : ℕ) (stop dead : Bool) (overs : List Bool) (lost : ℕ) (bodies : List B) (marks : List Mark)
    → IsAllowed call (throttle_of most stop dead overs lost bodies marks) → count_by not overs ≤ most
    → (dead ≡ false → 0 < length bodies → count_by not overs ≡ most)
    → IsStep (length overs) most (starts call (throttle_of most stop dead overs lost bodies marks))
    (called call (throttle_of most stop dead overs lost bodies marks))
step_of (Enqueue body) most stop dead overs lost bodies marks a f g = enqueue_step most stop dead overs lost bodies marks body f g
step_of (Ended n) most stop dead overs lost bodies marks a f g = end_by most stop dead overs lost bodies marks n (runs_in dead overs lost bodies n a) f g
step_of (Failed n) most stop dead overs lost bodies marks a f g = fail_by most stop dead overs lost bodies marks n (runs_in dead overs lost bodies n a) f g
step_of NextDropped most stop dead overs lost bodies marks a f g = drop_step most stop dead overs lost bodies marks f g
step_of (DoneWhen i) most stop dead overs lost bodies marks a f g =
    awaited_by (is_done (throttle_of most stop dead overs lost bodies marks)) most stop dead overs lost bodies marks i f g
step_of NextDone most stop dead overs lost bodies marks a f g =
    none_starts most stop dead overs lost bodies (satisfied_taken (throttle_of most stop dead overs lost bodies marks)).marks (length overs) _ refl f g refl

-- a call keeps how many have started, but for those that it starts
pub call_step : {B : Type 0} (call : Call B) (t : Throttle B) (n : ℕ) → IsAllowed call t → HasStarted t n → IsStep n t.most (starts call t) (called call t)
call_step {B} call t n a h =
    let u : Throttle B = throttle_of h.most h.stop h.dead h.overs h.lost h.bodies h.marks
    in let step : IsStep (length h.overs) h.most (starts call u) (called call u) =
    step_of call h.most h.stop h.dead h.overs h.lost h.bodies h.marks (subst (λ (x : Throttle B). IsAllowed call x) h.is a) h.few h.full
    in subst (λ (x : Throttle B). IsStep n x.most (starts call x) (called call x)) (sym h.is)
    (subst (λ (m : ℕ). IsStep m h.most (starts call u) (called call u)) h.started step)

-- ---- what is taken at once
dropped_by : {B : Type 0} (most : ℕ) (stop dead : Bool) (overs : List Bool) (lost : ℕ) (bodies : List B) (marks : List Mark)
    → count_by not overs ≤ most → (dead ≡ false → 0 < length bodies → count_by not overs ≡ most)
    → IsStep (length overs) most [] (without_dropped (throttle_of most stop dead overs lost bodies marks))
dropped_by most stop true overs lost bodies marks f g =
    none_starts most stop true overs lost [] marks (length overs) _ refl f (λ d. absurd (true≢false d)) refl
dropped_by most stop false overs lost bodies marks f g = none_starts most stop false overs lost bodies marks (length overs) _ refl f g refl

-- as many have started when no dropped body is left, and whichever deferreds wait
pub dropped_held : {B : Type 0} (t : Throttle B) (n : ℕ) → HasStarted t n → HasStarted (without_dropped t) n
dropped_held {B} t n h =
    let step = dropped_by h.most h.stop h.dead h.overs h.lost h.bodies h.marks h.few h.full
    in let many : length h.overs + 0 ≡ n = omega (arith, h.started)
    in subst (λ (x : Throttle B). HasStarted (without_dropped x) n) (sym h.is)
    (subst (λ (m : ℕ). HasStarted (without_dropped (throttle_of h.most h.stop h.dead h.overs h.lost h.bodies h.marks)) m) many step.held)

pub marks_held : {B : Type 0} (t : Throttle B) (n : ℕ) (marks : List Mark) → HasStarted t n → HasStarted (record t { marks = marks }) n
marks_held t n marks h = record {
  most = h.most;
  stop = h.stop;
  dead = h.dead;
  overs = h.overs;
  lost = h.lost;
  bodies = h.bodies;
  marks = marks;
  is = ap (λ (x : Throttle _). record x { marks = marks }) h.is;
  few = h.few;
  full = h.full;
  started = h.started;
}

numbers_more : (n a b : ℕ) → numbers_from n (a + b) ≡ numbers_from n a ++ numbers_from (n + a) b
numbers_more n zero b =
    let left : zero + b ≡ b = omega arith
    in let right : n ≡ n + zero = omega arith
    in ap (λ k. numbers_from n k) left ∙ ap (λ k. numbers_from k b) right
numbers_more n (suc a) b =
    let more : suc a + b ≡ suc (a + b) = omega arith
    in let next : n + 1 + a ≡ n + suc a = omega arith
    in ap (λ k. numbers_from n k) more
    ∙ ap (λ xs. n ∷ xs) (numbers_more (n + 1) a b)
    ∙ ap (λ k. n ∷ (numbers_from (n + 1) a ++ numbers_from k b)) next

-- a run keeps all this
record IsRun {B : Type 0} (n most : ℕ) (nums : List ℕ) (t : Throttle B) : Type 0 where
  pub few : running_count t ≤ most
  pub in_order : nums ≡ numbers_from n (length nums)

run_of : {B : Type 0} (calls : List (Call B)) (t : Throttle B) (n : ℕ) → AreAllowed calls t → HasStarted t n
    → IsRun n t.most (all_starts calls t) (after calls t)
run_of {B} [] t n a h = record {
  few = omega (arith, h.few, running_same h.dead h.overs h.lost h.bodies, ap (λ (u : Throttle B). running_count u) h.is, ap (λ (u : Throttle B). u.most) h.is);
  in_order = refl;
}
run_of (call ∷ calls) t n a h =
    let step = call_step call t n a.0 h
    in let rest = run_of calls (called call t) (n + length (starts call t)) a.1 step.held
    in record {
      few = omega (arith, rest.few, step.same);
      in_order =
          ap (λ xs. xs ++ all_starts calls (called call t)) step.in_order
          ∙ ap (λ xs. numbers_from n (length (starts call t)) ++ xs) rest.in_order
          ∙ sym (numbers_more n (length (starts call t)) (length (all_starts calls (called call t))))
          ∙ ap (λ k. numbers_from n k) (sym (length-append (starts call t) (all_starts calls (called call t))));
    }

pub fresh_held : {B : Type 0} (most : ℕ) (stop : Bool) → HasStarted {B = B} (fresh_throttle most stop) 0
fresh_held most stop = record {
  most = most;
  stop = stop;
  dead = false;
  overs = [];
  lost = 0;
  bodies = [];
  marks = [];
  is = refl;
  few = omega arith;
  full = λ d h. absurd (omega (arith, h));
  started = refl;
}

pub few_run : {B : Type 0} (most : ℕ) (stop : Bool) (calls : List (Call B)) → AreAllowed calls (fresh_throttle most stop)
    → running_count (after calls (fresh_throttle most stop)) ≤ most
few_run most stop calls a = (run_of calls (fresh_throttle most stop) 0 a (fresh_held most stop)).few

pub in_order : {B : Type 0} (most : ℕ) (stop : Bool) (calls : List (Call B)) → AreAllowed calls (fresh_throttle most stop)
    → all_starts calls (fresh_throttle most stop) ≡ numbers_from 0 (length (all_starts calls (fresh_throttle most stop)))
in_order most stop calls a = (run_of calls (fresh_throttle most stop) 0 a (fresh_held most stop)).in_order
