-- The fold over the lines finds the first line at fault and the least of its kinds, and nothing else.
use Rattle.std.proofs.Common.{◌≡◌, ℕ, zero, suc, ◌<◌, ◌≤◌, Bool, true, false, cond, List, [], ◌∷◌, length, get_or, nat_lt, Option, Some, None, refl, sym, ap, ◌∙◌, subst, arith}
use Rattle.std.proofs.lemmas.Bool.Decides.{nat_tests}
use Rattle.std.specs.List.{AllByRecursion, Any}
use Rattle.std.specs.Option.{option_map_or}
use Rattle.ak_valid.specs.declared.refusal.FaultKind.{FaultKind}
use Rattle.ak_valid.specs.Faults.{Line, kind_number, lesser, least, first_fault}
use Rattle.ak_valid.specs.FirstFault.{IsFirstFault}
use Rattle.ak_valid.proofs.Lines.{first_append}

-- ---- the least of some kinds
-- it is one of them, and no other is less
record IsLeast (k : FaultKind) (kinds : List FaultKind) : Type 0 where
  of_one : Any (λ fault. kind_number k ≡ kind_number fault) kinds
  least : AllByRecursion (λ fault. kind_number k ≤ kind_number fault) kinds

any_here : {X : Type 0} (P : X → Type 0) (x : X) (xs : List X) → P x → Any P (x ∷ xs)
any_here P x xs p = (0, x, omega arith, refl, p)

any_later : {X : Type 0} (P : X → Type 0) (x : X) (xs : List X) → Any P xs → Any P (x ∷ xs)
any_later P x xs h = (suc h.0, h.1, omega (arith, h.2), h.3, h.4)

all_below : (a b : ℕ) → b ≤ a → (kinds : List FaultKind) → AllByRecursion (λ fault. a ≤ kind_number fault) kinds
    → AllByRecursion (λ fault. b ≤ kind_number fault) kinds
all_below a b l [] h = tt
all_below a b l (k ∷ kinds) h = (omega (arith, l, h.0), all_below a b l kinds h.1)

some_is : (a b : FaultKind) → Some a ≡ Some b → a ≡ b
some_is a b h = cc

least_by : (x k rest : FaultKind) (kinds : List FaultKind) (b : Bool) → nat_lt (kind_number rest) (kind_number x) ≡ b → IsLeast rest kinds
    → cond b rest x ≡ k → IsLeast k (x ∷ kinds)
least_by x k rest kinds true t h e = subst (λ j. IsLeast j (x ∷ kinds)) e (record {
  of_one = any_later (λ fault. kind_number rest ≡ kind_number fault) x kinds h.of_one;
  least = (grind (arith, nat_tests), h.least);
})
least_by x k rest kinds false t h e = subst (λ j. IsLeast j (x ∷ kinds)) e (record {
  of_one = any_here (λ fault. kind_number x ≡ kind_number fault) x kinds refl;
  least = (omega arith, all_below (kind_number rest) (kind_number x) (grind (arith, nat_tests)) kinds h.least);
})

least_of : (x k : FaultKind) (kinds : List FaultKind) (o : Option FaultKind) → ((j : FaultKind) → o ≡ Some j → IsLeast j kinds)
    → (o ≡ None → kinds ≡ []) → lesser (Some x) o ≡ Some k → IsLeast k (x ∷ kinds)
least_of x k kinds None h none e =
    let same : x ≡ k = some_is x k e
    in rw (none refl) (subst (λ j. IsLeast j (x ∷ [])) same
    (record { of_one = any_here (λ fault. kind_number x ≡ kind_number fault) x [] refl; least = (omega arith, tt) }))
least_of x k kinds (Some rest) h none e = least_by x k rest kinds (nat_lt (kind_number rest) (kind_number x)) refl (h rest refl) (some_is _ _ e)

none_by : (x : FaultKind) (o : Option FaultKind) → lesser (Some x) o ≡ None → ⊥
none_by x None h = cc
none_by x (Some y) h = cc

no_kinds : (kinds : List FaultKind) → least kinds ≡ None → kinds ≡ []
no_kinds [] h = refl
no_kinds (x ∷ kinds) h = absurd (none_by x (least kinds) h)

least_is : (kinds : List FaultKind) (k : FaultKind) → least kinds ≡ Some k → IsLeast k kinds
least_is [] k h = cc
least_is (x ∷ kinds) k h = least_of x k kinds (least kinds) (least_is kinds) (no_kinds kinds) h

-- ---- the first line
later : (x : Line) (lines : List Line) (line kind : ℕ) → x.faults ≡ [] → IsFirstFault lines line kind → IsFirstFault (x ∷ lines) line kind
later x lines line kind none f = record {
  before = x ∷ f.before;
  here = f.here;
  after = f.after;
  placed = ap (λ (ls : List Line). x ∷ ls) f.placed;
  none_before = (none, f.none_before);
  number = f.number;
  of_one = f.of_one;
  least = f.least;
}

pair_is : (a b : ℕ × ℕ) → Some a ≡ Some b → (a.0 ≡ b.0) × (a.1 ≡ b.1)
pair_is a b h = let same : a ≡ b = cc in (ap (λ (x : ℕ × ℕ). x.0) same, ap (λ (x : ℕ × ℕ). x.1) same)

here_is : (x : Line) (lines : List Line) (k : FaultKind) → IsLeast k x.faults → IsFirstFault (x ∷ lines) x.number (kind_number k)
here_is x lines k l = record {
  before = [];
  here = x;
  after = lines;
  placed = refl;
  none_before = tt;
  number = refl;
  of_one = l.of_one;
  least = l.least;
}

first_by : (x : Line) (lines : List Line) (line kind : ℕ) (o : Option FaultKind) → least x.faults ≡ o
    → (first_fault lines ≡ Some (line, kind) → IsFirstFault lines line kind)
    → option_map_or (λ k. Some (x.number, kind_number k)) o (first_fault lines) ≡ Some (line, kind) → IsFirstFault (x ∷ lines) line kind
first_by x lines line kind None is h e = later x lines line kind (no_kinds x.faults is) (h e)
first_by x lines line kind (Some k) is h e =
    let same = pair_is (x.number, kind_number k) (line, kind) e
    in subst (λ n. IsFirstFault (x ∷ lines) n kind) same.0 (subst (IsFirstFault (x ∷ lines) x.number) same.1 (here_is x lines k (least_is x.faults k is)))

pub first_is : (lines : List Line) (line kind : ℕ) → first_fault lines ≡ Some (line, kind) → IsFirstFault lines line kind
first_is [] line kind h = cc
first_is (x ∷ lines) line kind h = first_by x lines line kind (least x.faults) refl (first_is lines line kind) h

-- ---- and the other way
none_of : (lines : List Line) → AllByRecursion (λ other. other.faults ≡ []) lines → first_fault lines ≡ None
none_of [] h = refl
none_of (x ∷ lines) h =
    ap (λ (faults : List FaultKind). option_map_or (λ k. Some (x.number, kind_number k)) (least faults) (first_fault lines)) h.0 ∙ none_of lines h.1

all_at : (a : ℕ) (kinds : List FaultKind) (k : ℕ) (d : FaultKind) → k < length kinds
    → AllByRecursion (λ fault. a ≤ kind_number fault) kinds → a ≤ kind_number (get_or kinds k d)
all_at a [] k d l h = absurd (omega (arith, l))
all_at a (x ∷ kinds) zero d l h = h.0
all_at a (x ∷ kinds) (suc k) d l h = all_at a kinds k d (omega (arith, l)) h.1

below_any : (a b : ℕ) (kinds : List FaultKind) → AllByRecursion (λ fault. a ≤ kind_number fault) kinds → Any (λ fault. b ≡ kind_number fault) kinds → a ≤ b
below_any a b kinds all any =
    let at : a ≤ kind_number (get_or kinds any.0 any.1) = all_at a kinds any.0 any.1 any.2 all
    in let is : kind_number (get_or kinds any.0 any.1) ≡ b = ap kind_number any.3 ∙ sym any.4
    in omega (arith, at, is)

not_none : (kind : ℕ) (kinds : List FaultKind) → kinds ≡ [] → Any (λ fault. kind ≡ kind_number fault) kinds → ⊥
not_none kind kinds e any = omega (arith, ap length e, any.2)

told_by : (x : Line) (kind : ℕ) (rest : Option (ℕ × ℕ)) (o : Option FaultKind) → least x.faults ≡ o
    → Any (λ fault. kind ≡ kind_number fault) x.faults → AllByRecursion (λ fault. kind ≤ kind_number fault) x.faults
    → option_map_or (λ k. Some (x.number, kind_number k)) o rest ≡ Some (x.number, kind)
told_by x kind rest None is any all = absurd (not_none kind x.faults (no_kinds x.faults is) any)
told_by x kind rest (Some k) is any all =
    let l = least_is x.faults k is
    in let up : kind ≤ kind_number k = below_any kind (kind_number k) x.faults all l.of_one
    in let down : kind_number k ≤ kind = below_any (kind_number k) kind x.faults l.least any
    in let same : kind_number k ≡ kind = omega (arith, up, down)
    in ap (λ n. Some (x.number, n)) same

pub is_first : (lines : List Line) (line kind : ℕ) → IsFirstFault lines line kind → first_fault lines ≡ Some (line, kind)
is_first lines line kind f =
    ap first_fault f.placed ∙ first_append f.before (f.here ∷ f.after) (none_of f.before f.none_before)
    ∙ told_by f.here kind (first_fault f.after) (least f.here.faults) refl f.of_one f.least
    ∙ ap (λ n. Some (n, kind)) (sym f.number)
