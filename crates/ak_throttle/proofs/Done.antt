-- Which bodies are over, and the marks that they reach.
use Rattle.std.proofs.Common.{ℕ, zero, suc, ◌+◌, ◌<◌, ◌≤◌, ◌≡◌, List, [], ◌∷◌, ◌++◌, map, length, refl, ap, sym, ◌∙◌, Bool, true, false, cond, arith, inl, inr}
use Rattle.std.specs.Prelude.{◌&&◌, ◌||◌, ◌==◌, nat_le, Some, None, take, filter}
use Rattle.std.specs.List.{prefix_len, list_all}
use Rattle.std.proofs.lemmas.Bool.{true≢false, eq-eqb, ne_eqb, eqb-true, cases_eq, cases_lt, le-leb, lt-leb, leb-false}
use Rattle.ak_base.specs.Lists.{is_empty_list, first_of, without_first}
use Rattle.ak_throttle.specs.declared.stage.Stage.{Stage}
use Rattle.ak_throttle.specs.declared.stage.Stage.TheVariants.{Waiting, Running, Over}
use Rattle.ak_throttle.specs.declared.stage.Mark.{Mark}
use Rattle.ak_throttle.specs.Started.{is_marked_over}
use Rattle.ak_throttle.specs.Throttle.{is_over, is_satisfied, ivar_of}
use Rattle.ak_throttle.specs.Seen.{stage_of, behind, bodies_of, AreMarks, reached, without_reached}

and_assoc : (a b c : Bool) → (a && (b && c)) ≡ ((a && b) && c)
and_assoc true b c = refl
and_assoc false b c = refl

all_started : {B : Type 0} (overs : List Bool) (rest : List (Stage B)) → list_all is_over (map stage_of overs ++ rest)
    ≡ (list_all is_marked_over overs && list_all is_over rest)
all_started [] rest = refl
all_started (true ∷ os) rest = all_started os rest
all_started (false ∷ os) rest = refl

same_sucs : (m n : ℕ) → (m == n) ≡ (1 + m == suc n)
same_sucs m n =
    elim (cases_eq m n) [
      | inl e ↦ eq-eqb m n e ∙ sym (eq-eqb (1 + m) (suc n) (omega (arith, e)))
      | inr d ↦ ne_eqb m n d ∙ sym (ne_eqb (1 + m) (suc n) (λ e. d (omega (arith, e))))
    ]

one_more : (t : Bool) (a b c : ℕ) → 1 + cond t (a + b) c ≡ cond t (suc a + b) (1 + c)
one_more true a b c = omega arith
one_more false a b c = refl

-- all of a list pass where its front part that passes is all of it
all_passes_by : {X : Type 0} (t : Bool) (p : X → Bool) (xs : List X) → list_all p xs ≡ (prefix_len p xs == length xs)
    → (t && list_all p xs) ≡ (cond t (1 + prefix_len p xs) 0 == suc (length xs))
all_passes_by true p xs h = h ∙ same_sucs (prefix_len p xs) (length xs)
all_passes_by false p xs h = sym (ne_eqb 0 (suc (length xs)) (λ e. omega (arith, e)))

all_passes : {X : Type 0} (p : X → Bool) (xs : List X) → list_all p xs ≡ (prefix_len p xs == length xs)
all_passes p [] = refl
all_passes p (x ∷ xs) = all_passes_by (p x) p xs (all_passes p xs)

all_behind : {B : Type 0} (dead : Bool) (lost : ℕ) (bodies : List B) → list_all is_over (behind dead lost bodies) ≡ (dead || is_empty_list bodies)
all_behind false lost [] = refl
all_behind false lost (b ∷ bs) = refl
all_behind true zero bodies = refl
all_behind true (suc lost) bodies = all_behind true lost bodies

-- every body is over
pub done_same : {B : Type 0} (dead : Bool) (overs : List Bool) (lost : ℕ) (bodies : List B)
    → list_all is_over (bodies_of dead overs lost bodies)
    ≡ ((prefix_len is_marked_over overs == length overs) && (dead || is_empty_list bodies))
done_same dead overs lost bodies =
    all_started overs (behind dead lost bodies)
    ∙ ap (λ t. t && list_all is_over (behind dead lost bodies)) (all_passes is_marked_over overs)
    ∙ ap (λ t. (prefix_len is_marked_over overs == length overs) && t) (all_behind dead lost bodies)

-- all are in front
pub prefix_all : {X : Type 0} (p : X → Bool) (xs : List X) → list_all p xs ≡ true → prefix_len p xs ≡ length xs
prefix_all p xs e = eqb-true (prefix_len p xs) (length xs) (sym (all_passes p xs) ∙ e)

prefix_started : {B : Type 0} (overs : List Bool) (rest : List (Stage B)) → prefix_len is_over (map stage_of overs ++ rest)
    ≡ cond (list_all is_marked_over overs) (length overs + prefix_len is_over rest) (prefix_len is_marked_over overs)
prefix_started [] rest = omega arith
prefix_started (true ∷ os) rest =
    ap (λ n. 1 + n) (prefix_started os rest) ∙ one_more (list_all is_marked_over os) (length os) (prefix_len is_over rest)
    (prefix_len is_marked_over os)
prefix_started (false ∷ os) rest = refl

prefix_by : {B : Type 0} (t dead : Bool) (overs : List Bool) (lost : ℕ) (bodies : List B) → list_all is_marked_over overs ≡ t
    → list_all is_over (bodies_of dead overs lost bodies) ≡ false → prefix_len is_over (bodies_of dead overs lost bodies)
    ≡ prefix_len is_marked_over overs
prefix_by false dead overs lost bodies f e =
    prefix_started overs (behind dead lost bodies)
    ∙ ap (λ t. cond t (length overs + prefix_len is_over (behind dead lost bodies)) (prefix_len is_marked_over overs)) f
prefix_by true true overs lost bodies f e =
    absurd (true≢false (sym (all_started overs (behind true lost bodies) ∙ ap (λ t. t && list_all is_over (behind true lost bodies)) f
    ∙ all_behind true lost bodies) ∙ e))
prefix_by true false overs lost [] f e =
    absurd (true≢false (sym (all_started overs (behind false lost []) ∙ ap (λ t. t && true) f) ∙ e))
prefix_by true false overs lost (b ∷ bs) f e =
    prefix_started overs (behind false lost (b ∷ bs))
    ∙ ap (λ t. cond t (length overs + 0) (prefix_len is_marked_over overs)) f
    ∙ omega (arith, prefix_all is_marked_over overs f)

-- those over before the first that is not, where one is not
pub prefix_same : {B : Type 0} (dead : Bool) (overs : List Bool) (lost : ℕ) (bodies : List B)
    → list_all is_over (bodies_of dead overs lost bodies) ≡ false → prefix_len is_over (bodies_of dead overs lost bodies)
    ≡ prefix_len is_marked_over overs
prefix_same dead overs lost bodies e = prefix_by (list_all is_marked_over overs) dead overs lost bodies refl e

le_sucs : (m n : ℕ) → nat_le m n ≡ nat_le (suc m) (1 + n)
le_sucs m n =
    elim (cases_lt n m) [
      | inl l ↦ lt-leb m n l ∙ sym (lt-leb (suc m) (1 + n) (omega (arith, l)))
      | inr g ↦ le-leb m n g ∙ sym (le-leb (suc m) (1 + n) (omega (arith, g)))
    ]

reach_by : {B : Type 0} (x : Stage B) (xs : List (Stage B)) (c : ℕ) → list_all is_over (take c xs) ≡ nat_le c (prefix_len is_over xs)
    → (is_over x && list_all is_over (take c xs)) ≡ nat_le (suc c) (cond (is_over x) (1 + prefix_len is_over xs) 0)
reach_by (Waiting body) xs c h = sym (lt-leb (suc c) 0 (omega arith))
reach_by Running xs c h = sym (lt-leb (suc c) 0 (omega arith))
reach_by Over xs c h = h ∙ le_sucs c (prefix_len is_over xs)

-- the first bodies are over where there are as many in front that are
reach : {B : Type 0} (xs : List (Stage B)) (c : ℕ) → c ≤ length xs → list_all is_over (take c xs) ≡ nat_le c (prefix_len is_over xs)
reach xs zero h = sym (le-leb 0 (prefix_len is_over xs) (omega arith))
reach [] (suc c) h = absurd (omega (arith, h))
reach (x ∷ xs) (suc c) h = reach_by x xs c (reach xs c (omega (arith, h)))

-- no mark is satisfied behind one that is not
none_behind : {B : Type 0} (xs : List (Stage B)) (low : ℕ) (marks : List Mark) → prefix_len is_over xs < low
    → AreMarks low (length xs) marks → (filter (is_satisfied xs) marks ≡ []) × (without_first (is_satisfied xs) marks ≡ marks)
none_behind xs low [] l a = (refl, refl)
none_behind xs low (m ∷ ms) l a =
    let waits_on : is_satisfied xs m ≡ false = reach xs m.count a.1 ∙ lt-leb m.count (prefix_len is_over xs) (omega (arith, l, a.0))
    in let rest = none_behind xs m.count ms (omega (arith, l, a.0)) a.2
    in (
      ap (λ t. cond t (m ∷ filter (is_satisfied xs) ms) (filter (is_satisfied xs) ms)) waits_on ∙ rest.0,
      ap (λ t. cond t ms (m ∷ without_first (is_satisfied xs) ms)) waits_on ∙ ap (λ r. m ∷ r) rest.1,
    )

reached_by : {B : Type 0} (t : Bool) (xs : List (Stage B)) (m : Mark) (ms : List Mark) → nat_le m.count (prefix_len is_over xs) ≡ t
    → m.count ≤ length xs → AreMarks m.count (length xs) ms
    → (ivar_of (first_of (filter (is_satisfied xs) (m ∷ ms))) ≡ cond t (Some m.ivar) None)
    × (without_first (is_satisfied xs) (m ∷ ms) ≡ cond t ms (m ∷ ms))
reached_by true xs m ms e h a =
    let now : is_satisfied xs m ≡ true = reach xs m.count h ∙ e
    in (
      ap (λ t. ivar_of (first_of (cond t (m ∷ filter (is_satisfied xs) ms) (filter (is_satisfied xs) ms)))) now,
      ap (λ t. cond t ms (m ∷ without_first (is_satisfied xs) ms)) now,
    )
reached_by false xs m ms e h a =
    let waits_on : is_satisfied xs m ≡ false = reach xs m.count h ∙ e
    in let rest = none_behind xs m.count ms (leb-false m.count (prefix_len is_over xs) e) a
    in (
      ap (λ t. ivar_of (first_of (cond t (m ∷ filter (is_satisfied xs) ms) (filter (is_satisfied xs) ms)))) waits_on ∙ ap (λ r. ivar_of (first_of r)) rest.0,
      ap (λ t. cond t ms (m ∷ without_first (is_satisfied xs) ms)) waits_on ∙ ap (λ r. m ∷ r) rest.1,
    )

-- the oldest satisfied mark is the oldest, where that reaches no further than the bodies in front that are over
pub reached_same : {B : Type 0} (xs : List (Stage B)) (marks : List Mark) → AreMarks 0 (length xs) marks
    → ivar_of (first_of (filter (is_satisfied xs) marks)) ≡ reached (prefix_len is_over xs) marks
reached_same xs [] a = refl
reached_same xs (m ∷ ms) a = (reached_by (nat_le m.count (prefix_len is_over xs)) xs m ms refl a.1 a.2).0

pub without_same : {B : Type 0} (xs : List (Stage B)) (marks : List Mark) → AreMarks 0 (length xs) marks
    → without_first (is_satisfied xs) marks ≡ without_reached (prefix_len is_over xs) marks
without_same xs [] a = refl
without_same xs (m ∷ ms) a = (reached_by (nat_le m.count (prefix_len is_over xs)) xs m ms refl a.1 a.2).1
