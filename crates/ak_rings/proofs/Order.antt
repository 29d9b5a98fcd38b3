-- The picks of a priority are its pushes in order.
use Rattle.std.proofs.Common.{ℕ, ◌+◌, ◌<◌, ◌≡◌, List, [], ◌∷◌, ◌++◌, Bool, true, false, cond, arith, append_assoc, append-nil, refl, ◌∙◌, ap, sym, subst}
use Rattle.std.specs.Prelude.{not, nat_lt, Option, Some, None}
use Rattle.ak_base.specs.declared.number.Ctx.{Ctx}
use Rattle.ak_base.specs.Lists.{rest_of}
use Rattle.ak_rings.specs.declared.job.Job.{Job}
use Rattle.ak_rings.specs.Queues.{Queues, no_jobs, with_job, first_under, pick_or, picked_by, recounted, has_pick, has_no_job}
use Rattle.ak_rings.specs.Runs.{Call, Push, Pick, Reset, called, after, waiting, of_priority, picked_of, pushed, picked, pushes, picks}

-- each job is of the priority
abbrev AreOf : {F : Type 0} → Bool → List (Job F) → Type 0
AreOf low [] = Unit
AreOf low (x ∷ xs) = (x.ctx.low ≡ low) × AreOf low xs

-- each queue has jobs of its priority alone
record AreSorted {F : Type 0} (q : Queues F) : Type 0 where
  pub normal : AreOf false q.normal
  pub low : AreOf true q.low

-- a job that may run is the front one, and of the priority
abbrev IsFront : {F : Type 0} → Option (Job F) → Bool → List (Job F) → Type 0
IsFront None low xs = Unit
IsFront (Some x) low xs = (x.ctx.low ≡ low) × (xs ≡ x ∷ rest_of xs)

are_of-last : {F : Type 0} (low : Bool) (xs : List (Job F)) (x : Job F) → AreOf low xs → x.ctx.low ≡ low → AreOf low (xs ++ x ∷ [])
are_of-last low [] x h e = (e, tt)
are_of-last low (y ∷ ys) x h e = (h.0, are_of-last low ys x h.1 e)

are_of-rest : {F : Type 0} (low : Bool) (xs : List (Job F)) → AreOf low xs → AreOf low (rest_of xs)
are_of-rest low [] h = tt
are_of-rest low (x ∷ xs) h = h.1

is_front-cond : {F : Type 0} (c low : Bool) (x : Job F) (xs : List (Job F)) → x.ctx.low ≡ low → IsFront (cond c (Some x) None) low (x ∷ xs)
is_front-cond true low x xs e = (e, refl)
is_front-cond false low x xs e = tt

is_front-first : {F : Type 0} (ran limit : ℕ) (low : Bool) (xs : List (Job F)) → AreOf low xs → IsFront (first_under ran limit xs) low xs
is_front-first ran limit low [] h = tt
is_front-first ran limit low (x ∷ xs) h = is_front-cond (nat_lt ran limit) low x xs h.0

-- the first of two, or the second
taken : {A : Type 0} (c : Bool) (x y : A) → c ≡ true → cond c x y ≡ x
taken c x y e = rw e refl

left_out : {A : Type 0} (c : Bool) (x y : A) → c ≡ false → cond c x y ≡ y
left_out c x y e = rw e refl

is_of : {F : Type 0} (low : Bool) (job : Job F) → job.ctx.low ≡ low → of_priority low job ≡ job ∷ []
is_of true job e = taken job.ctx.low (job ∷ []) [] e
is_of false job e = taken (not job.ctx.low) (job ∷ []) [] (ap not e)

is_not_of : {F : Type 0} (low : Bool) (job : Job F) → job.ctx.low ≡ not low → of_priority low job ≡ []
is_not_of true job e = left_out job.ctx.low (job ∷ []) [] e
is_not_of false job e = left_out (not job.ctx.low) (job ∷ []) [] (ap not e)

-- the job that is pushed next
abbrev next_job : {F : Type 0} → Ctx → F → Queues F → Job F
next_job ctx frame q = record { no = q.next; ctx = ctx; frame = frame }

with_low : {F : Type 0} (ctx : Ctx) (frame : F) (q : Queues F) → ctx.low ≡ true
    → with_job ctx frame q ≡ record q { low = q.low ++ next_job ctx frame q ∷ []; next = q.next + 1 }
with_low ctx frame q e = taken ctx.low _ _ e

with_normal : {F : Type 0} (ctx : Ctx) (frame : F) (q : Queues F) → ctx.low ≡ false
    → with_job ctx frame q ≡ record q { normal = q.normal ++ next_job ctx frame q ∷ []; next = q.next + 1 }
with_normal ctx frame q e = left_out ctx.low _ _ e

push_sorted : {F : Type 0} (b : Bool) (ctx : Ctx) (frame : F) (q : Queues F) → ctx.low ≡ b → AreSorted q → AreSorted (with_job ctx frame q)
push_sorted {F} true ctx frame q e s =
    subst (λ (r : Queues F). AreSorted r) (sym (with_low ctx frame q e)) (record {
      normal = s.normal;
      low =
          are_of-last true q.low (next_job ctx frame q) s.low e;
    })
push_sorted {F} false ctx frame q e s =
    subst (λ (r : Queues F). AreSorted r) (sym (with_normal ctx frame q e))
    (record { normal = are_of-last false q.normal (next_job ctx frame q) s.normal e; low = s.low })

pick_sorted : {F : Type 0} (a b : Option (Job F)) (q : Queues F) → AreSorted q → AreSorted (picked_by a b q)
pick_sorted (Some x) b q s = record { normal = are_of-rest false q.normal s.normal; low = s.low }
pick_sorted None (Some y) q s = record { normal = s.normal; low = are_of-rest true q.low s.low }
pick_sorted None None q s = s

call_sorted : {F : Type 0} (call : Call F) (q : Queues F) → AreSorted q → AreSorted (called call q)
call_sorted (Push ctx frame) q s = push_sorted ctx.low ctx frame q refl s
call_sorted Pick q s = pick_sorted (first_under q.normal_ran q.limit q.normal) (first_under q.low_ran q.limit q.low) q s
call_sorted Reset q s = record { normal = s.normal; low = s.low }

push_step : {F : Type 0} (low b : Bool) (ctx : Ctx) (frame : F) (q : Queues F) → ctx.low ≡ b
    → waiting low (with_job ctx frame q) ≡ waiting low q ++ pushed low (Push ctx frame) q
push_step true true ctx frame q e =
    ap (waiting true) (with_low ctx frame q e) ∙ ap (λ r. q.low ++ r) (sym (is_of true (next_job ctx frame q) e))
push_step true false ctx frame q e =
    ap (waiting true) (with_normal ctx frame q e) ∙ sym (append-nil q.low) ∙ ap (λ r. q.low ++ r) (sym (is_not_of true (next_job ctx frame q) e))
push_step false true ctx frame q e =
    ap (waiting false) (with_low ctx frame q e) ∙ sym (append-nil q.normal) ∙ ap (λ r. q.normal ++ r) (sym (is_not_of false (next_job ctx frame q) e))
push_step false false ctx frame q e =
    ap (waiting false) (with_normal ctx frame q e) ∙ ap (λ r. q.normal ++ r) (sym (is_of false (next_job ctx frame q) e))

pick_step : {F : Type 0} (low : Bool) (a b : Option (Job F)) (q : Queues F) → IsFront a false q.normal → IsFront b true q.low
    → picked_of low (pick_or a b) ++ waiting low (picked_by a b q) ≡ waiting low q
pick_step true (Some x) b q f g = ap (λ r. r ++ q.low) (is_not_of true x f.0)
pick_step false (Some x) b q f g = ap (λ r. r ++ rest_of q.normal) (is_of false x f.0) ∙ sym f.1
pick_step true None (Some y) q f g = ap (λ r. r ++ rest_of q.low) (is_of true y g.0) ∙ sym g.1
pick_step false None (Some y) q f g = ap (λ r. r ++ q.normal) (is_not_of false y g.0)
pick_step true None None q f g = refl
pick_step false None None q f g = refl

-- what a call picks stands before what waits behind it, and what it pushes behind what waited before it
call_step : {F : Type 0} (low : Bool) (call : Call F) (q : Queues F) → AreSorted q
    → picked low call q ++ waiting low (called call q) ≡ waiting low q ++ pushed low call q
call_step low (Push ctx frame) q s = push_step low ctx.low ctx frame q refl
call_step low Pick q s =
    pick_step low (first_under q.normal_ran q.limit q.normal) (first_under q.low_ran q.limit q.low) q
    (is_front-first q.normal_ran q.limit false q.normal s.normal) (is_front-first q.low_ran q.limit true q.low s.low)
    ∙ sym (append-nil (waiting low q))
call_step true Reset q s = sym (append-nil q.low)
call_step false Reset q s = sym (append-nil q.normal)

in_order : {F : Type 0} (low : Bool) (calls : List (Call F)) (q : Queues F) → AreSorted q
    → picks low calls q ++ waiting low (after calls q) ≡ waiting low q ++ pushes low calls q
in_order low [] q s = sym (append-nil (waiting low q))
in_order low (call ∷ calls) q s =
    append_assoc (picked low call q) (picks low calls (called call q)) (waiting low (after calls (called call q)))
    ∙ ap (λ r. picked low call q ++ r) (in_order low calls (called call q) (call_sorted call q s))
    ∙ sym (append_assoc (picked low call q) (waiting low (called call q)) (pushes low calls (called call q)))
    ∙ ap (λ r. r ++ pushes low calls (called call q)) (call_step low call q s)
    ∙ append_assoc (waiting low q) (pushed low call q) (pushes low calls (called call q))

nothing_waits : {F : Type 0} (low : Bool) (limit : ℕ) → waiting {F = F} low (no_jobs limit) ≡ []
nothing_waits true limit = refl
nothing_waits false limit = refl

pub pushes_in_order : {F : Type 0} (low : Bool) (limit : ℕ) (calls : List (Call F))
    → picks low calls (no_jobs limit) ++ waiting low (after calls (no_jobs limit)) ≡ pushes low calls (no_jobs limit)
pushes_in_order low limit calls =
    in_order low calls (no_jobs limit) (record { normal = tt; low = tt })
    ∙ ap (λ r. r ++ pushes low calls (no_jobs limit)) (nothing_waits low limit)

nat_lt-zero : (n : ℕ) → 0 < n → nat_lt 0 n ≡ true
nat_lt-zero n h = grind arith

cycle_begins_by : {F : Type 0} (normal low : List (Job F)) (a b limit next : ℕ) → 0 < limit
    → has_pick (recounted (record { normal = normal; low = low; normal_ran = a; low_ran = b; limit = limit; next = next }))
    ≡ not (has_no_job (record { normal = normal; low = low; normal_ran = a; low_ran = b; limit = limit; next = next }))
cycle_begins_by [] [] a b limit next h = refl
cycle_begins_by (x ∷ xs) low a b limit next h = rw (nat_lt-zero limit h) refl
cycle_begins_by [] (y ∷ ys) a b limit next h = rw (nat_lt-zero limit h) refl

pub cycle_begins : {F : Type 0} (q : Queues F) → 0 < q.limit → has_pick (recounted q) ≡ not (has_no_job q)
cycle_begins q h = cycle_begins_by q.normal q.low q.normal_ran q.low_ran q.limit q.next h
