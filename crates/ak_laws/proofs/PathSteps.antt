-- A path doesn't end for want of steps: each step leaves a monitor behind that has an entry of its own.
use Rattle.std.proofs.Common.{ℕ, zero, suc, ◌+◌, ◌<◌, ◌≤◌, ◌⊎◌, inl, inr, ◌≡◌, List, [], ◌∷◌, ◌++◌, length, Bool, true, false, ◌==◌, ◌||◌, cond}
use Rattle.std.proofs.Common.{Option, Some, None, refl, sym, subst, ◌∙◌, ap, arith, fold}
use Rattle.std.proofs.lemmas.Bool.{eqb-true, cases_lt}
use Rattle.ak_trace.specs.declared.entry.Entry.{Entry}
use Rattle.ak_trace.specs.declared.entry.Entry.TheVariants as entry
use Rattle.ak_laws.specs.Jobs.{is_among}
use Rattle.ak_laws.specs.Errors.{parent_by, parent_in, new_among, path_from, path_in}
use Rattle.ak_laws.proofs.Jobs.{among_append, among_here}
use Rattle.ak_laws.proofs.Routes.{follows}

-- how many entries are of monitors that do not stand among these
abbrev left : List ℕ → List Entry → ℕ
left seen [] = 0
left seen (entry.Monitor n p ∷ es) = cond (is_among seen n) 0 1 + left seen es
left seen (e ∷ es) = left seen es

few_left : (seen : List ℕ) (es : List Entry) → left seen es ≤ length es
few_left seen [] = omega arith
few_left seen (entry.Monitor n p ∷ es) = by (is_among seen n) (few_left seen es)
  where
    by : (b : Bool) → left seen es ≤ length es → cond b 0 1 + left seen es ≤ suc (length es)
    by true l = omega (arith, l)
    by false l = omega (arith, l)
few_left seen (e ∷ es) = omega (arith, few_left seen es)

-- one more that stands among them
more_among : (seen : List ℕ) (m n : ℕ) → is_among (seen ++ m ∷ []) n ≡ (is_among seen n || (m == n || false))
more_among seen m n = among_append seen (m ∷ []) n

fewer_by : (a b : Bool) → cond (a || (b || false)) 0 1 ≤ cond a 0 1
fewer_by true b = omega arith
fewer_by false true = omega arith
fewer_by false false = omega arith

entry_fewer : (seen : List ℕ) (m n : ℕ) → cond (is_among (seen ++ m ∷ []) n) 0 1 ≤ cond (is_among seen n) 0 1
entry_fewer seen m n = subst (λ b. cond b 0 1 ≤ cond (is_among seen n) 0 1) (sym (more_among seen m n)) (fewer_by (is_among seen n) (m == n))

fewer_left : (seen : List ℕ) (m : ℕ) (es : List Entry) → left (seen ++ m ∷ []) es ≤ left seen es
fewer_left seen m [] = omega arith
fewer_left seen m (entry.Monitor n p ∷ es) = omega (arith, entry_fewer seen m n, fewer_left seen m es)
fewer_left seen m (e ∷ es) = fewer_left seen m es

-- a monitor with an entry leaves fewer
one_fewer : (seen : List ℕ) (m : ℕ) (o : Option ℕ) (es : List Entry) → is_among seen m ≡ false
    → (fold (parent_by m) o es ≡ o) ⊎ (left (seen ++ m ∷ []) es + 1 ≤ left seen es)
one_fewer seen m o [] h = inl refl
one_fewer seen m o (entry.Monitor n p ∷ es) h = by (n == m) refl (one_fewer seen m o es h)
  where
    by : (b : Bool) → (n == m) ≡ b → (fold (parent_by m) o es ≡ o) ⊎ (left (seen ++ m ∷ []) es + 1 ≤ left seen es)
        → (fold (parent_by m) (cond b (Some p) o) es ≡ o)
        ⊎ (cond (is_among (seen ++ m ∷ []) n) 0 1 + left (seen ++ m ∷ []) es + 1 ≤ cond (is_among seen n) 0 1 + left seen es)
    by true e r =
        let same : n ≡ m = eqb-true n m e
        in let out : ◌≡◌ {A = ℕ} (cond (is_among seen n) 0 1) 1 = ap (λ b. cond b 0 1) (subst (λ k. is_among seen k ≡ false) (sym same) h)
        in let within : is_among (seen ++ m ∷ []) n ≡ true = subst (λ k. is_among (seen ++ m ∷ []) k ≡ true) (sym same) (among_here seen [] m)
        in let in_now : ◌≡◌ {A = ℕ} (cond (is_among (seen ++ m ∷ []) n) 0 1) 0 = ap (λ b. cond b 0 1) within
        in inr (omega (arith, out, in_now, fewer_left seen m es))
    by false e (inl r) = inl r
    by false e (inr r) = inr (omega (arith, r, entry_fewer seen m n))
one_fewer seen m o (e ∷ es) h = one_fewer seen m o es h

some_none : {A : Type 0} (p : ℕ) → Some p ≡ None → A
some_none p f = absurd (cc)

-- with one step more
one_more : (t : List Entry) (k : ℕ) (seen : List ℕ) (m : ℕ) → is_among seen m ≡ false → left seen t < k
    → path_from k t seen m ≡ path_from (suc k) t seen m
one_more t zero seen m h l = absurd (omega (arith, l))
one_more t (suc k) seen m h l =
    by (parent_in t m) (one_fewer seen m None t h) refl (λ p e less. one_more t k (seen ++ m ∷ []) p e less)
  where
    new : List ℕ
    new = seen ++ m ∷ []

    Later : Type 0
    Later = (p : ℕ) → is_among new p ≡ false → left new t < k → path_from k t new p ≡ path_from (suc k) t new p

    on : (p : ℕ) (b : Bool) → is_among new p ≡ b → left new t < k → Later
        → follows k t new m (cond b None (Some p)) ≡ follows (suc k) t new m (cond b None (Some p))
    on p true e less later = refl
    on p false e less later = ap (λ ns. m ∷ ns) (later p e less)

    by : (o : Option ℕ) → (parent_in t m ≡ None) ⊎ (left new t + 1 ≤ left seen t) → parent_in t m ≡ o → Later
        → follows k t new m (new_among new o) ≡ follows (suc k) t new m (new_among new o)
    by None r e later = refl
    by (Some p) (inl r) e later = some_none p (sym e ∙ r)
    by (Some p) (inr r) e later = on p (is_among new p) refl (omega (arith, r, l)) later

-- with any number of steps beyond that of the entries
pub path_has_steps : (t : List Entry) (m k : ℕ) → length t < k → path_from k t [] m ≡ path_in t m
path_has_steps t m zero l = absurd (omega (arith, l))
path_has_steps t m (suc k) l = by (cases_lt (length t) k) (λ less. path_has_steps t m k less)
  where
    by : (length t < k) ⊎ (k ≤ length t) → (length t < k → path_from k t [] m ≡ path_in t m) → path_from (suc k) t [] m ≡ path_in t m
    by (inl less) fewer = sym (one_more t k [] m refl (omega (arith, few_left [] t, less))) ∙ fewer less
    by (inr more) fewer = let same : k ≡ length t = omega (arith, l, more) in ap (λ n. path_from (suc n) t [] m) same
