-- One more call with its reply: what is out, which helpers are active, and which requests wait.
use Rattle.std.proofs.Common.{◌≡◌, ℕ, zero, suc, ◌+◌, ◌<◌, ◌≤◌, ◌||◌, ◌&&◌, get_or, Bool, true, false, cond, List, [], ◌∷◌, ◌++◌, length, filter, refl, sym, ap, ◌∙◌, arith, append-nil, Option, Some, None, fold}
use Rattle.std.specs.Prelude.{not, ◌==◌}
use Rattle.std.specs.List.{AllByRecursion, list_any, cons_option, filter_map, flat_map, zip}
use Rattle.std.proofs.lemmas.Bool.{eqb-true, eq-eqb}
use Rattle.std.proofs.Math.ListN.{set}
use Rattle.std.proofs.lemmas.List.{length-append}
use Rattle.std.proofs.lemmas.List.Elements.{filter-append, filter_map-append}
use Rattle.std.proofs.lemmas.List.Sums.{fold-append}
use Rattle.std.proofs.lemmas.Grind.{flat_map-append}
use Rattle.ak_labor.specs.declared.work.Work.{Work}
use Rattle.ak_labor.specs.declared.work.Outcome.{Outcome}
use Rattle.ak_labor.specs.declared.ask.Ask.{Ask}
use Rattle.ak_labor.specs.declared.ask.Ask.TheVariants as ask
use Rattle.ak_labor.specs.Calls.{Reply, Done}
use Rattle.ak_labor.specs.Waits.{Handed, handed_by, pairs_in, is_pair_of, is_out, outstanding, helped, helped_by, active_helpers, is_number, is_other_helper, requests_in, came, answered_by}
use Rattle.ak_labor.specs.Waits.{is_unanswered, unanswered, left_by, left_after}
use Rattle.ak_machine.specs.declared.held.HelperState.{HelperState}
use Rattle.ak_machine.specs.Works.{is_active}
use Rattle.ak_ledger.specs.Outside.{active_from}

-- ---- lists
zip_last : {A B : Type 0} (xs : List A) (ys : List B) (x : A) (y : B) → length xs ≡ length ys → zip (xs ++ x ∷ []) (ys ++ y ∷ []) ≡ zip xs ys ++ (x, y) ∷ []
zip_last [] [] x y e = refl
zip_last [] (z ∷ ys) x y e = absurd (omega (arith, e))
zip_last (z ∷ xs) [] x y e = absurd (omega (arith, e))
zip_last (z ∷ xs) (w ∷ ys) x y e = ap (λ l. (z, w) ∷ l) (zip_last xs ys x y (omega (arith, e)))

-- a list that is mapped or filtered, with nothing more behind it
pub nothing_behind : {A B : Type 0} (f : A → List B) (xs : List A) (x : A) → f x ≡ [] → flat_map f (xs ++ x ∷ []) ≡ flat_map f xs
nothing_behind f xs x e =
    flat_map-append f xs (x ∷ []) ∙ ap (λ l. flat_map f xs ++ (l ++ [])) e ∙ append-nil (flat_map f xs)

pub filter_same : {A : Type 0} (p q : A → Bool) → ((x : A) → p x ≡ q x) → (xs : List A) → filter p xs ≡ filter q xs
filter_same p q h [] = refl
filter_same p q h (x ∷ xs) = ap (λ b. cond b (x ∷ filter p xs) (filter p xs)) (h x) ∙ ap (λ l. cond (q x) (x ∷ l) l) (filter_same p q h xs)

-- ---- works
-- a reply that brings no work leaves what is out
out_same : (replies : List Reply) (r : Reply) → pairs_in r ≡ [] → (handed : Handed) → is_out (replies ++ r ∷ []) handed ≡ is_out replies handed
out_same replies r e handed = ap (λ l. not (list_any (is_pair_of handed.id) l)) (nothing_behind pairs_in replies r e)

-- what no call adds
pub none_more : {A : Type 0} (f : Ask → Option A) (asked : List Ask) (a : Ask) → f a ≡ None → filter_map f (asked ++ a ∷ []) ≡ filter_map f asked
none_more {A} f asked a e =
    filter_map-append f asked (a ∷ []) ∙ ap (λ (o : Option A). filter_map f asked ++ cons_option o []) e ∙ append-nil (filter_map f asked)

pub none_longer : {A : Type 0} (f : Ask → Option A) (asked : List Ask) (a : Ask) → f a ≡ None
    → length (filter_map f (asked ++ a ∷ [])) ≡ length (filter_map f asked)
none_longer f asked a e = ap length (none_more f asked a e)

-- and what one adds
pub one_longer : {A : Type 0} (f : Ask → Option A) (asked : List Ask) (a : Ask) (x : A) → f a ≡ Some x
    → length (filter_map f (asked ++ a ∷ [])) ≡ length (filter_map f asked) + 1
one_longer {A} f asked a x e =
    ap length (filter_map-append f asked (a ∷ []) ∙ ap (λ (o : Option A). filter_map f asked ++ cons_option o []) e)
    ∙ length-append (filter_map f asked) (x ∷ [])

pub outstanding_same : (asked : List Ask) (replies : List Reply) (a : Ask) (r : Reply) → handed_by a ≡ None → pairs_in r ≡ []
    → outstanding (asked ++ a ∷ []) (replies ++ r ∷ []) ≡ outstanding asked replies
outstanding_same asked replies a r e f =
    ap (filter (is_out (replies ++ r ∷ []))) (none_more handed_by asked a e)
    ∙ filter_same (is_out (replies ++ r ∷ [])) (is_out replies) (out_same replies r f) (filter_map handed_by asked)

-- no reply brought the next work
none_brought : (next : ℕ) (pairs : List (ℕ × Outcome)) → AllByRecursion (λ (pair : ℕ × Outcome). pair.0 < next) pairs → list_any (is_pair_of next) pairs ≡ false
none_brought next [] h = refl
none_brought next (pair ∷ pairs) h = ap (λ b. b || list_any (is_pair_of next) pairs) (other (pair.0 == next) refl) ∙ none_brought next pairs h.1
  where
    other : (b : Bool) → (pair.0 == next) ≡ b → b ≡ false
    other true e = let same : pair.0 ≡ next = eqb-true pair.0 next e in absurd (omega (arith, same, h.0))
    other false e = refl

-- a work that is handed in is out
pub outstanding_more : (asked : List Ask) (replies : List Reply) (next : ℕ) (work : Work) (helper : Option ℕ)
    → AllByRecursion (λ (pair : ℕ × Outcome). pair.0 < next) (flat_map pairs_in replies)
    → outstanding (asked ++ ask.Submit next work helper ∷ []) (replies ++ Done ∷ [])
    ≡ outstanding asked replies ++ record { id = next; work = work; helper = helper } ∷ []
outstanding_more asked replies next work helper h =
    let new : Handed = record { id = next; work = work; helper = helper }
    in let more : filter_map handed_by (asked ++ ask.Submit next work helper ∷ []) ≡ filter_map handed_by asked ++ new ∷ [] =
    filter_map-append handed_by asked (ask.Submit next work helper ∷ [])
    in let out : is_out replies new ≡ true = ap not (none_brought next (flat_map pairs_in replies) h)
    in ap (filter (is_out (replies ++ Done ∷ []))) more
    ∙ filter_same (is_out (replies ++ Done ∷ [])) (is_out replies) (out_same replies Done refl) (filter_map handed_by asked ++ new ∷ [])
    ∙ filter-append (is_out replies) (filter_map handed_by asked) (new ∷ [])
    ∙ ap (λ b. outstanding asked replies ++ cond b (new ∷ []) []) out

-- ---- helpers
pub active_next : (asked : List Ask) (replies : List Reply) (a : Ask) (r : Reply) → length replies ≡ length asked
    → active_helpers (asked ++ a ∷ []) (replies ++ r ∷ []) ≡ helped_by (active_helpers asked replies) a r
active_next asked replies a r e =
    ap (fold helped []) (zip_last asked replies a r (sym e)) ∙ fold-append helped [] (zip asked replies) ((a, r) ∷ [])

-- the numbers of those that are active, from h on
from_h : (h : ℕ) (helpers : List HelperState) → AllByRecursion (λ n. h ≤ n) (active_from h helpers)
from_h h [] = tt
from_h h (helper ∷ helpers) = by (is_active helper) (from_h (h + 1) helpers)
  where
    later : (ns : List ℕ) → AllByRecursion (λ n. h + 1 ≤ n) ns → AllByRecursion (λ n. h ≤ n) ns
    later [] k = tt
    later (n ∷ ns) k = (omega (arith, k.0), later ns k.1)

    by : (b : Bool) → AllByRecursion (λ n. h + 1 ≤ n) (active_from (h + 1) helpers)
        → AllByRecursion (λ n. h ≤ n) (cond b (h ∷ active_from (h + 1) helpers) (active_from (h + 1) helpers))
    by true k = (omega arith, later (active_from (h + 1) helpers) k)
    by false k = later (active_from (h + 1) helpers) k

less_other : (m n : ℕ) → m < n → (n == m) ≡ false
less_other m n l = by (n == m) refl
  where
    by : (b : Bool) → (n == m) ≡ b → b ≡ false
    by true e = let same : n ≡ m = eqb-true n m e in absurd (omega (arith, same, l))
    by false e = refl

more_other : (m n : ℕ) → n < m → (n == m) ≡ false
more_other m n l = by (n == m) refl
  where
    by : (b : Bool) → (n == m) ≡ b → b ≡ false
    by true e = let same : n ≡ m = eqb-true n m e in absurd (omega (arith, same, l))
    by false e = refl

none_ended : (h : ℕ) (ns : List ℕ) → AllByRecursion (λ n. h + 1 ≤ n) ns → filter (is_other_helper h) ns ≡ ns
none_ended h [] k = refl
none_ended h (n ∷ ns) k =
    ap (λ b. cond (not b) (n ∷ filter (is_other_helper h) ns) (filter (is_other_helper h) ns)) (less_other h n (omega (arith, k.0)))
    ∙ ap (λ l. n ∷ l) (none_ended h ns k.1)

-- a helper that was not granted counts as refused
abbrev refused : HelperState
refused = record { granted = false; ended = true }

abbrev over : HelperState → HelperState
over helper = record helper { ended = true }

over_is_inactive : (helper : HelperState) → is_active (over helper) ≡ false
over_is_inactive helper = by helper.granted
  where
    by : (b : Bool) → (b && false) ≡ false
    by true = refl
    by false = refl

-- one of them ends
pub active_ended : (h k : ℕ) (helpers : List HelperState) → is_active (get_or helpers k refused) ≡ true
    → active_from h (set helpers k (over (get_or helpers k refused))) ≡ filter (is_other_helper (h + k)) (active_from h helpers)
active_ended h k [] e = absurd (cc)
active_ended h zero (helper ∷ helpers) e =
    let rest : List ℕ = active_from (h + 1) helpers
    in let here : h + 0 ≡ h = omega arith
    in ap (λ b. cond b (h ∷ rest) rest) (over_is_inactive helper)
    ∙ sym (none_ended h rest (from_h (h + 1) helpers))
    ∙ ap (λ b. cond (not b) (h ∷ filter (is_other_helper h) rest) (filter (is_other_helper h) rest)) (sym (eq-eqb h h refl))
    ∙ ap (λ n. filter (is_other_helper n) (h ∷ rest)) (sym here)
    ∙ ap (λ b. filter (is_other_helper (h + 0)) (cond b (h ∷ rest) rest)) (sym e)
active_ended h (suc k) (helper ∷ helpers) e =
    by (is_active helper) (active_ended (h + 1) k helpers e)
  where
    rest : List ℕ
    rest = active_from (h + 1) helpers

    by : (b : Bool) → active_from (h + 1) (set helpers k (over (get_or helpers k refused))) ≡ filter (is_other_helper (h + 1 + k)) (active_from (h + 1) helpers)
        → cond b (h ∷ active_from (h + 1) (set helpers k (over (get_or helpers k refused))))
        (active_from (h + 1) (set helpers k (over (get_or helpers k refused))))
        ≡ filter (is_other_helper (h + suc k)) (cond b (h ∷ active_from (h + 1) helpers) (active_from (h + 1) helpers))
    by true i =
        let same : h + 1 + k ≡ h + suc k = omega arith
        in ap (λ l. h ∷ l) (i ∙ ap (λ n. filter (is_other_helper n) (active_from (h + 1) helpers)) same)
        ∙ ap
        (λ b. cond (not b) (h ∷ filter (is_other_helper (h + suc k)) (active_from (h + 1) helpers))
        (filter (is_other_helper (h + suc k)) (active_from (h + 1) helpers)))
        (sym (more_other (h + suc k) h (omega arith)))
    by false i =
        let same : h + 1 + k ≡ h + suc k = omega arith
        in i ∙ ap (λ n. filter (is_other_helper n) (active_from (h + 1) helpers)) same

-- one that is active is among them
pub active_has : (h k : ℕ) (helpers : List HelperState) → is_active (get_or helpers k refused) ≡ true
    → list_any (is_number (h + k)) (active_from h helpers) ≡ true
active_has h k [] e = absurd (cc)
active_has h zero (helper ∷ helpers) e =
    ap (λ b. list_any (is_number (h + 0)) (cond b (h ∷ active_from (h + 1) helpers) (active_from (h + 1) helpers))) e
    ∙ ap (λ b. b || list_any (is_number (h + 0)) (active_from (h + 1) helpers)) (eq-eqb h (h + 0) (omega arith))
active_has h (suc k) (helper ∷ helpers) e = by (is_active helper) (active_has (h + 1) k helpers e)
  where
    or_true : (b : Bool) → (b || true) ≡ true
    or_true true = refl
    or_true false = refl

    by : (b : Bool) → list_any (is_number (h + 1 + k)) (active_from (h + 1) helpers) ≡ true
        → list_any (is_number (h + suc k)) (cond b (h ∷ active_from (h + 1) helpers) (active_from (h + 1) helpers)) ≡ true
    by true i =
        let same : h + 1 + k ≡ h + suc k = omega arith
        in ap (λ b. (h == (h + suc k)) || b) (ap (λ n. list_any (is_number n) (active_from (h + 1) helpers)) (sym same) ∙ i) ∙ or_true (h == (h + suc k))
    by false i =
        let same : h + 1 + k ≡ h + suc k = omega arith
        in ap (λ n. list_any (is_number n) (active_from (h + 1) helpers)) (sym same) ∙ i

-- a new one
pub active_new : (h : ℕ) (helpers : List HelperState) (granted : Bool)
    → active_from h (helpers ++ record { granted = granted; ended = false } ∷ []) ≡ active_from h helpers ++ cond granted ((h + length helpers) ∷ []) []
active_new h [] granted = by granted
  where
    by : (b : Bool) → cond (b && true) (h ∷ []) [] ≡ cond b ((h + 0) ∷ []) []
    by true = let same : h ≡ h + 0 = omega arith in ap (λ n. n ∷ []) same
    by false = refl
active_new h (helper ∷ helpers) granted = by (is_active helper) (active_new (h + 1) helpers granted)
  where
    by : (b : Bool) → active_from (h + 1) (helpers ++ record { granted = granted; ended = false } ∷ [])
        ≡ active_from (h + 1) helpers ++ cond granted ((h + 1 + length helpers) ∷ []) []
        → cond b (h ∷ active_from (h + 1) (helpers ++ record { granted = granted; ended = false } ∷ []))
        (active_from (h + 1) (helpers ++ record { granted = granted; ended = false } ∷ []))
        ≡ cond b (h ∷ active_from (h + 1) helpers) (active_from (h + 1) helpers) ++ cond granted ((h + length (helper ∷ helpers)) ∷ []) []
    by true i =
        let same : h + 1 + length helpers ≡ h + length (helper ∷ helpers) = omega arith
        in ap (λ l. h ∷ l) (i ∙ ap (λ n. active_from (h + 1) helpers ++ cond granted (n ∷ []) []) same)
    by false i =
        let same : h + 1 + length helpers ≡ h + length (helper ∷ helpers) = omega arith
        in i ∙ ap (λ n. active_from (h + 1) helpers ++ cond granted (n ∷ []) []) same

-- ---- requests
-- a reply that brings no request leaves those that came
pub came_same : (replies : List Reply) (r : Reply) → requests_in r ≡ [] → came (replies ++ r ∷ []) ≡ came replies
came_same replies r e = nothing_behind requests_in replies r e

-- and a call that answers none leaves those that wait
pub unanswered_same : (asked : List Ask) (replies : List Reply) (a : Ask) (r : Reply) → answered_by a ≡ None → requests_in r ≡ []
    → unanswered (asked ++ a ∷ []) (replies ++ r ∷ []) ≡ unanswered asked replies
unanswered_same asked replies a r e f =
    ap (filter (is_unanswered (asked ++ a ∷ []))) (came_same replies r f)
    ∙ filter_same (is_unanswered (asked ++ a ∷ [])) (is_unanswered asked)
    (λ request. ap (λ (qs : List ℕ). not (list_any (λ q. q == request.0) qs)) (none_more answered_by asked a e)) (came replies)

-- a reply that is no drain's leaves who is left
pub left_same : (askers : ℕ) (replies : List Reply) (r : Reply) → ((n : ℕ) → left_by n r ≡ n)
    → left_after askers (replies ++ r ∷ []) ≡ left_after askers replies
left_same askers replies r e = fold-append left_by askers replies (r ∷ []) ∙ e (left_after askers replies)
