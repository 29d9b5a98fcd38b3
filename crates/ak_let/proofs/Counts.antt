-- The evaluator by its steps.
use Rattle.std.proofs.Common.{ℕ, zero, suc, ◌+◌, ◌-◌, ◌<◌, ◌≤◌, ◌≡◌, inl, inr, List, [], ◌++◌, refl, ap, sym, ◌∙◌, subst, arith, append_assoc, append-nil, add-zero, add-suc}
use Rattle.std.proofs.lemmas.Bool.{cases_lt}
use Rattle.ak_let.specs.declared.source.Source.{Source}
use Rattle.ak_let.specs.Eval.{Walk, At, Over, Raised, Walked, stepped, stepped_from, begun, eval}
use Rattle.ak_let.specs.Correct.{IsOver, IsPrefix}
use Rattle.ak_let.proofs.Related.{Steps, IsAt}

pub steps_more : (p : Source) (j k : ℕ) (w u v : Walked) → Steps p j w u → Steps p k u v → Steps p (j + k) w v
steps_more p zero k w u v a b = subst (λ n. Steps p n w v) (zero-plus k) (subst (λ z. Steps p k z v) (sym a) b)
  where
    zero-plus : (n : ℕ) → n ≡ 0 + n
    zero-plus n = omega arith
steps_more p (suc j) k w u v a b = subst (λ n. Steps p n w v) (suc-plus j k) (a.0, steps_more p j k (stepped p w) u v a.1 b)
  where
    suc-plus : (j k : ℕ) → suc (j + k) ≡ suc j + k
    suc-plus j k = omega arith

steps_eval : (p : Source) (k j : ℕ) (v : Walked) → Steps p k (eval p j) v → eval p (j + k) ≡ v
steps_eval p zero j v s = ap (eval p) (add-zero j) ∙ s
steps_eval p (suc k) j v s = ap (eval p) (suc-right j k) ∙ steps_eval p k (suc j) v s.1
  where
    suc-right : (j k : ℕ) → j + suc k ≡ suc j + k
    suc-right j k = omega arith

pub eval_is : (p : Source) (k : ℕ) (v : Walked) → Steps p k (begun p) v → eval p k ≡ v
eval_is p k v s = ap (eval p) (zero-plus k) ∙ steps_eval p k 0 v s
  where
    zero-plus : (n : ℕ) → n ≡ 0 + n
    zero-plus n = omega arith

over_stays : (p : Source) (walk : Walk) (w : Walked) → IsOver walk → stepped_from p walk w ≡ w
over_stays p (At line lines locals callers) w h = absurd h
over_stays p Over w h = refl
over_stays p (Raised e) w h = refl

-- past main nothing changes
eval_over : (p : Source) (k d : ℕ) → IsOver (eval p k).walk → eval p (k + d) ≡ eval p k
eval_over p k zero h = ap (eval p) (add-zero k)
eval_over p k (suc d) h =
    ap (eval p) (add-suc k d)
    ∙ ap (stepped p) (eval_over p k d h)
    ∙ over_stays p (eval p k).walk (eval p k) h

pub eval_stays : (p : Source) (k n : ℕ) (v : Walked) → k ≤ n → eval p k ≡ v → IsOver v.walk → eval p n ≡ v
eval_stays p k n v h e o =
    let d : ℕ = n - k
    in ap (eval p) (plus k n h) ∙ eval_over p k (n - k) (subst (λ (z : Walked). IsOver z.walk) (sym e) o) ∙ e
  where
    plus : (k n : ℕ) → k ≤ n → n ≡ k + (n - k)
    plus k n h = omega arith

prefix_step : (p : Source) (walk : Walk) (w : Walked) → IsPrefix w.prints (stepped_from p walk w).prints × IsPrefix w.works (stepped_from p walk w).works
prefix_step p (At line lines locals callers) w = ((_, refl), (_, refl))
prefix_step p Over w = (([], sym (append-nil w.prints)), ([], sym (append-nil w.works)))
prefix_step p (Raised e) w = (([], sym (append-nil w.prints)), ([], sym (append-nil w.works)))

prefix_trans : {X : Type 0} (a b c : List X) → IsPrefix a b → IsPrefix b c → IsPrefix a c
prefix_trans a b c x y = (x.0 ++ y.0, y.1 ∙ ap (λ l. l ++ y.0) x.1 ∙ append_assoc a x.0 y.0)

prefix_plus : (p : Source) (k d : ℕ) → IsPrefix (eval p k).prints (eval p (k + d)).prints × IsPrefix (eval p k).works (eval p (k + d)).works
prefix_plus p k zero =
    subst (λ n. IsPrefix (eval p k).prints (eval p n).prints × IsPrefix (eval p k).works (eval p n).works) (sym (add-zero k))
    (([], sym (append-nil (eval p k).prints)), ([], sym (append-nil (eval p k).works)))
prefix_plus p k (suc d) =
    subst (λ n. IsPrefix (eval p k).prints (eval p n).prints × IsPrefix (eval p k).works (eval p n).works) (sym (add-suc k d))
    (let one = prefix_plus p k d
    in let two = prefix_step p (eval p (k + d)).walk (eval p (k + d))
    in (prefix_trans _ _ _ one.0 two.0, prefix_trans _ _ _ one.1 two.1))

-- the prints and works after more lines begin with those before
pub eval_prefix : (p : Source) (k n : ℕ) (v : Walked) → k ≤ n → eval p k ≡ v → IsPrefix v.prints (eval p n).prints × IsPrefix v.works (eval p n).works
eval_prefix p k n v h e =
    subst (λ (z : Walked). IsPrefix z.prints (eval p n).prints × IsPrefix z.works (eval p n).works) e
    (subst (λ j. IsPrefix (eval p k).prints (eval p j).prints × IsPrefix (eval p k).works (eval p j).works) (plus k n h) (prefix_plus p k (n - k)))
  where
    plus : (k n : ℕ) → k ≤ n → k + (n - k) ≡ n
    plus k n h = omega arith

not_at : (walk : Walk) → IsOver walk → IsAt walk → ⊥
not_at (At line lines locals callers) o a = o
not_at Over o a = a
not_at (Raised e) o a = a

at_each : (p : Source) (k j m : ℕ) (v : Walked) → Steps p k (eval p j) v → m < k → IsAt (eval p (j + m)).walk
at_each p zero j m v s h = absurd (omega arith)
at_each p (suc k) j zero v s h = subst (λ n. IsAt (eval p n).walk) (sym (add-zero j)) s.0
at_each p (suc k) j (suc m) v s h = subst (λ n. IsAt (eval p n).walk) (suc-right j m) (at_each p k (suc j) m v s.1 (omega arith))
  where
    suc-right : (j k : ℕ) → suc j + k ≡ j + suc k
    suc-right j k = omega arith

-- a walk that is past main after m lines made no more steps
pub steps_few : (p : Source) (k m : ℕ) (v : Walked) → Steps p k (begun p) v → IsOver (eval p m).walk → k ≤ m
steps_few p k m v s o =
    elim (cases_lt m k) [ inl h ↦ absurd (not_at (eval p m).walk o (subst (λ n. IsAt (eval p n).walk) (zero-plus m) (at_each p k 0 m v s h))) | inr h ↦ h ]
  where
    zero-plus : (n : ℕ) → 0 + n ≡ n
    zero-plus n = omega arith
