-- What further entries tell of names.
use Rattle.std.proofs.Common.{ℕ, ℤ, ◌+◌, ◌≤◌, ◌≡◌, List, [], ◌∷◌, ◌++◌, zero, suc, length, Bool, true, false, cond, ◌||◌, Option, Some, None}
use Rattle.std.proofs.Common.{refl, sym, subst, ◌∙◌, ap, arith, filter}
use Rattle.std.specs.Prelude.{◌==◌, slice_set, slice_index_or}
use Rattle.std.specs.List.{list_any}
use Rattle.std.proofs.lemmas.Bool.{eqb-true, eq-eqb, true≢false}
use Rattle.std.proofs.lemmas.List.{get_or-set_same, get_or-set_other, length-append}
use Rattle.std.proofs.lemmas.List.Elements.{filter-append}
use Rattle.std.proofs.Math.ListN.{length-set}
use Rattle.ak_trace.specs.declared.entry.Entry.{Entry}
use Rattle.ak_trace.specs.declared.entry.Entry.TheVariants as entry
use Rattle.ak_holders.specs.Fills.{is_fill_of, is_in_join}
use Rattle.ak_holders.specs.Told.{is_gone, times, AtMost, NoneBehind, IsOther, Told}

-- ---- one more entry behind others
pub none_push : (test : Entry → Bool) (es : List Entry) (e : Entry) → list_any test es ≡ false → test e ≡ false
    → list_any test (es ++ e ∷ []) ≡ false
none_push test [] e h g = ap (λ b. b || false) g
none_push test (x ∷ es) e h g = by (test x) h (λ k. none_push test es e k g)
  where
    by : (b : Bool) → (b || list_any test es) ≡ false → (list_any test es ≡ false → list_any test (es ++ e ∷ []) ≡ false)
        → (b || list_any test (es ++ e ∷ [])) ≡ false
    by true k r = absurd (true≢false k)
    by false k r = r k

any_front : (b c : Bool) → b ≡ true → (b || c) ≡ true
any_front true c h = refl
any_front false c h = absurd (true≢false (sym h))

any_behind : (b c : Bool) → c ≡ true → (b || c) ≡ true
any_behind true c h = refl
any_behind false c h = h

behind_push : (tells speaks : ℕ → Entry → Bool) (es : List Entry) (e : Entry)
    → ((i : ℕ) → list_any (tells i) es ≡ true → speaks i e ≡ false) → NoneBehind tells speaks es → NoneBehind tells speaks (es ++ e ∷ [])
behind_push tells speaks [] e h n = (λ i t. refl, tt)
behind_push tells speaks (x ∷ es) e h n = (
  λ i t. none_push (speaks i) es e (n.0 i t) (h i (any_front (tells i x) (list_any (tells i) es) t)),
  behind_push tells speaks es e (λ i t. h i (any_behind (tells i x) (list_any (tells i) es) t)) n.1,
)

behind_at : (tells speaks : ℕ → Entry → Bool) (before after : List Entry) (e : Entry) (i : ℕ) → tells i e ≡ true
    → NoneBehind tells speaks (before ++ e ∷ after) → list_any (speaks i) after ≡ false
behind_at tells speaks [] after e i t n = n.0 i t
behind_at tells speaks (x ∷ before) after e i t n = behind_at tells speaks before after e i t n.1

pub none_behind : (tells speaks : ℕ → Entry → Bool) (trace before after : List Entry) (e : Entry) (i : ℕ) → trace ≡ before ++ e ∷ after
    → tells i e ≡ true → NoneBehind tells speaks trace → list_any (speaks i) after ≡ false
none_behind tells speaks trace before after e i same t n =
    behind_at tells speaks before after e i t (subst (NoneBehind tells speaks) same n)

-- a name that no entry tells is another than one that an entry tells
others : (tells : ℕ → Entry → Bool) (es : List Entry) (i j : ℕ) → list_any (tells i) es ≡ false → list_any (tells j) es ≡ true
    → (i == j) ≡ false
others tells es i j none told = by (i == j) refl
  where
    by : (b : Bool) → (i == j) ≡ b → b ≡ false
    by true e = absurd (true≢false (sym told ∙ ap (λ k. list_any (tells k) es) (sym (eqb-true i j e)) ∙ none))
    by false e = refl

neither : (b c : Bool) → b ≡ false → c ≡ false → (b || c) ≡ false
neither true c h g = h
neither false c h g = g

differs : (x y : ℕ) → (x == y) ≡ false → x ≡ y → ⊥
differs x y h q = true≢false (sym (eq-eqb x y q) ∙ h)

pub other_than : (x y : ℕ) → (x ≡ y → ⊥) → (x == y) ≡ false
other_than x y h = by (x == y) refl
  where
    by : (b : Bool) → (x == y) ≡ b → b ≡ false
    by true e = absurd (h (eqb-true x y e))
    by false e = refl

-- ---- how often a name was filled
times_push : (i : ℕ) (es : List Entry) (e : Entry) → times i (es ++ e ∷ []) ≡ times i es + times i (e ∷ [])
times_push i es e =
    ap length (filter-append (is_fill_of i) es (e ∷ [])) ∙ length-append (filter (is_fill_of i) es) (filter (is_fill_of i) (e ∷ []))

silent_times : (i : ℕ) (es : List Entry) (e : Entry) → is_fill_of i e ≡ false → times i (es ++ e ∷ []) ≡ times i es
silent_times i es e h =
    let none : times i (e ∷ []) ≡ 0 = subst (λ b. length (cond b (e ∷ []) []) ≡ 0) (sym h) refl
    in omega (arith, times_push i es e, none)

none_listed : (test : Entry → Bool) (es : List Entry) → length (filter test es) ≡ 0 → list_any test es ≡ false
none_listed test [] h = refl
none_listed test (e ∷ es) h = by (test e) h (none_listed test es)
  where
    by : (b : Bool) → length (cond b (e ∷ filter test es) (filter test es)) ≡ 0 → (length (filter test es) ≡ 0 → list_any test es ≡ false)
        → (b || list_any test es) ≡ false
    by true g r = absurd (omega (arith, g))
    by false g r = r g

-- an empty ivar was not filled
unfilled : (known : ℕ → Bool) (ivars : List (Option ℤ)) (trace : List Entry) (i : ℕ) → slice_index_or ivars i None ≡ None
    → Told known ivars trace → list_any (is_fill_of i) trace ≡ false
unfilled known ivars trace i e x = none_listed (is_fill_of i) trace (subst (λ o. AtMost o (times i trace)) e (x.once i))

small : (o : Option ℤ) (n : ℕ) → AtMost o n → n ≤ 1
small None n h = omega (arith, h)
small (Some v) n h = h

pub filled_once : (known : ℕ → Bool) (ivars : List (Option ℤ)) (trace : List Entry) → Told known ivars trace → (i : ℕ) → times i trace ≤ 1
filled_once known ivars trace x i = small (slice_index_or ivars i None) (times i trace) (x.once i)

-- ---- an entry that is no fill and no join
no_fill : (i : ℕ) (e : Entry) → IsOther e → is_fill_of i e ≡ false
no_fill i (entry.Fill j v) q = absurd q
no_fill i (entry.Join r s) q = absurd q
no_fill i e q = refl

no_join : (i : ℕ) (e : Entry) → IsOther e → is_in_join i e ≡ false
no_join i (entry.Fill j v) q = absurd q
no_join i (entry.Join r s) q = absurd q
no_join i e q = refl

not_gone : (i : ℕ) (e : Entry) → IsOther e → is_gone i e ≡ false
not_gone i (entry.Fill j v) q = absurd q
not_gone i (entry.Join r s) q = absurd q
not_gone i e q = refl

pub told_other : (known : ℕ → Bool) (ivars : List (Option ℤ)) (trace : List Entry) (e : Entry) → IsOther e → Told known ivars trace
    → Told known ivars (trace ++ e ∷ [])
told_other known ivars trace e q x = record {
  once = λ i. subst (AtMost (slice_index_or ivars i None)) (sym (silent_times i trace e (no_fill i e q))) (x.once i);
  drawn = x.drawn;
  left = λ i h. none_push (is_gone i) trace e (x.left i h) (not_gone i e q);
  fresh = λ i l. none_push (is_gone i) trace e (x.fresh i l) (not_gone i e q);
  gone_unfilled = behind_push is_gone is_fill_of trace e (λ i t. no_fill i e q) x.gone_unfilled;
  gone_unjoined = behind_push is_gone is_in_join trace e (λ i t. no_join i e q) x.gone_unjoined;
  filled_unjoined = behind_push is_fill_of is_in_join trace e (λ i t. no_join i e q) x.filled_unjoined;
}

-- ---- a known name that is empty is filled
pub told_fill : (known : ℕ → Bool) (ivars : List (Option ℤ)) (trace : List Entry) (i : ℕ) (v : ℤ) → slice_index_or ivars i None ≡ None
    → known i ≡ true → Told known ivars trace → Told known (slice_set ivars i (Some v)) (trace ++ entry.Fill i v ∷ [])
told_fill known ivars trace i v none h x = record {
  once = λ j. by j (i == j) refl;
  drawn = λ j g. omega (arith, x.drawn j g, length-set ivars i (Some v));
  left = λ j g. none_push (is_gone j) trace e (x.left j g) refl;
  fresh = λ j l. none_push (is_gone j) trace e (x.fresh j (omega (arith, l, length-set ivars i (Some v)))) refl;
  gone_unfilled = behind_push is_gone is_fill_of trace e (λ j t. others is_gone trace i j (x.left i h) t) x.gone_unfilled;
  gone_unjoined = behind_push is_gone is_in_join trace e (λ j t. refl) x.gone_unjoined;
  filled_unjoined = behind_push is_fill_of is_in_join trace e (λ j t. refl) x.filled_unjoined;
}
  where
    e : Entry
    e = entry.Fill i v

    by : (j : ℕ) (c : Bool) → (i == j) ≡ c → AtMost (slice_index_or (slice_set ivars i (Some v)) j None) (times j (trace ++ entry.Fill i v ∷ []))
    by j true g =
        let same : i ≡ j = eqb-true i j g
        in let full : slice_index_or (slice_set ivars i (Some v)) j None ≡ Some v =
        ap (λ k. slice_index_or (slice_set ivars i (Some v)) k None) (sym same) ∙ get_or-set_same ivars i (Some v) None (x.drawn i h)
        in let before : times j trace ≡ 0 =
        subst (λ o. AtMost o (times j trace)) (subst (λ k. slice_index_or ivars k None ≡ None) same none) (x.once j)
        in let one : times j (entry.Fill i v ∷ []) ≡ 1 = subst (λ c. length (cond c (entry.Fill i v ∷ []) []) ≡ 1) (sym g) refl
        in subst (λ o. AtMost o (times j (trace ++ entry.Fill i v ∷ []))) (sym full)
        (omega (arith, times_push j trace (entry.Fill i v), before, one))
    by j false g =
        let other : slice_index_or (slice_set ivars i (Some v)) j None ≡ slice_index_or ivars j None =
        get_or-set_other ivars i j (Some v) None (λ q. differs i j g (sym q))
        in subst (λ o. AtMost o (times j (trace ++ entry.Fill i v ∷ []))) (sym other)
        (subst (AtMost (slice_index_or ivars j None)) (sym (silent_times j trace (entry.Fill i v) g)) (x.once j))

-- ---- one more name
pub drawn_same : (xs : List (Option ℤ)) (i : ℕ) → slice_index_or (xs ++ None ∷ []) i None ≡ slice_index_or xs i None
drawn_same [] zero = refl
drawn_same [] (suc i) = refl
drawn_same (x ∷ xs) zero = refl
drawn_same (x ∷ xs) (suc i) = drawn_same xs i

-- a test that one more name passes
abbrev pub or_is : ℕ → (ℕ → Bool) → ℕ → Bool
or_is n p i = p i || (n == i)

pub or_more : (n : ℕ) (p : ℕ → Bool) (i : ℕ) → p i ≡ true → or_is n p i ≡ true
or_more n p i h = any_front (p i) (n == i) h

pub or_here : (n : ℕ) (p : ℕ → Bool) → or_is n p n ≡ true
or_here n p = any_behind (p n) (n == n) (eq-eqb n n refl)

either_false : (b : Bool) → (b || false) ≡ b
either_false true = refl
either_false false = refl

-- it is the one, or passed before
pub or_cases : {P : Type 0} (n : ℕ) (p : ℕ → Bool) (i : ℕ) → or_is n p i ≡ true → (n ≡ i → P) → (p i ≡ true → P) → P
or_cases {P = P} n p i h here before = by (n == i) refl
  where
    by : (b : Bool) → (n == i) ≡ b → P
    by true e = here (eqb-true n i e)
    by false e = before (sym (either_false (p i)) ∙ ap (λ b. p i || b) (sym e) ∙ h)

pub told_drawn : (known : ℕ → Bool) (ivars : List (Option ℤ)) (trace : List Entry) → Told known ivars trace
    → Told (or_is (length ivars) known) (ivars ++ None ∷ []) trace
told_drawn known ivars trace x = record {
  once = λ i. subst (λ o. AtMost o (times i trace)) (sym (drawn_same ivars i)) (x.once i);
  drawn = λ i h. or_cases (length ivars) known i h (λ e. omega (arith, e, more)) (λ g. omega (arith, x.drawn i g, more));
  left = λ i h. or_cases (length ivars) known i h (λ e. x.fresh i (omega (arith, e))) (λ g. x.left i g);
  fresh = λ i l. x.fresh i (omega (arith, l, more));
  gone_unfilled = x.gone_unfilled;
  gone_unjoined = x.gone_unjoined;
  filled_unjoined = x.filled_unjoined;
}
  where
    more : length (ivars ++ None ∷ []) ≡ length ivars + 1
    more = length-append ivars (None ∷ [])

-- ---- a join of two known names that are empty
-- a test that one name no longer passes
abbrev pub but_not : ℕ → (ℕ → Bool) → ℕ → Bool
but_not gone p i = cond (i == gone) false (p i)

pub but_not_other : (gone : ℕ) (p : ℕ → Bool) (i : ℕ) → p i ≡ true → (i == gone) ≡ false → but_not gone p i ≡ true
but_not_other gone p i h e = subst (λ b. cond b false (p i) ≡ true) (sym e) h

-- it is another name, and passed before
pub but_not_both : (gone : ℕ) (p : ℕ → Bool) (i : ℕ) → but_not gone p i ≡ true → (p i ≡ true) × ((i == gone) ≡ false)
but_not_both gone p i h = by (i == gone) refl h
  where
    by : (b : Bool) → (i == gone) ≡ b → cond b false (p i) ≡ true → (p i ≡ true) × ((i == gone) ≡ false)
    by true e g = absurd (true≢false (sym g))
    by false e g = (g, e)

pub told_join : (known : ℕ → Bool) (ivars : List (Option ℤ)) (trace : List Entry) (result right : ℕ)
    → slice_index_or ivars result None ≡ None → slice_index_or ivars right None ≡ None → known result ≡ true → known right ≡ true
    → Told known ivars trace → Told (but_not right known) ivars (trace ++ entry.Join result right ∷ [])
told_join known ivars trace result right none none_right h g x = record {
  once = λ i. subst (AtMost (slice_index_or ivars i None)) (sym (silent_times i trace e refl)) (x.once i);
  drawn = λ i k. x.drawn i (but_not_both right known i k).0;
  left = λ i k. none_push (is_gone i) trace e (x.left i (but_not_both right known i k).0) (but_not_both right known i k).1;
  fresh = λ i l. none_push (is_gone i) trace e (x.fresh i l) (other_than i right (λ same. omega (arith, same, l, x.drawn right g)));
  gone_unfilled = behind_push is_gone is_fill_of trace e (λ i t. refl) x.gone_unfilled;
  gone_unjoined = behind_push is_gone is_in_join trace e
      (λ i t. neither (result == i) (right == i) (others is_gone trace result i (x.left result h) t)
      (others is_gone trace right i (x.left right g) t)) x.gone_unjoined;
  filled_unjoined = behind_push is_fill_of is_in_join trace e
      (λ i t. neither (result == i) (right == i) (others is_fill_of trace result i (unfilled known ivars trace result none x) t)
      (others is_fill_of trace right i (unfilled known ivars trace right none_right x) t)) x.filled_unjoined;
}
  where
    e : Entry
    e = entry.Join result right
