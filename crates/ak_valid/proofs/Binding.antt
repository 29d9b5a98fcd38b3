-- Names that are bound one after another.
use Rattle.std.proofs.Common.{◌≡◌, ◌⊎◌, inl, inr, ℕ, ◌+◌, ◌<◌, Bool, true, false, not, cond, List, [], ◌∷◌, ◌++◌, length, drop, get_or, Option, Some, None, refl, sym, ap, ◌∙◌, append-nil, append_assoc}
use Rattle.std.proofs.lemmas.List.{map-append}
use Rattle.std.specs.List.{list_any}
use Rattle.std.specs.Str.{bytes_eq}
use Rattle.ak_script.specs.declared.script.Param.{Param}
use Rattle.ak_valid.specs.declared.refusal.FaultKind.{FaultKind}
use Rattle.ak_valid.specs.declared.refusal.FaultKind.TheVariants.{TwiceNamed}
use Rattle.ak_valid.specs.Numbered.{param_names}
use Rattle.ak_valid.specs.Faults.{twice_named, lesser, least}
use Rattle.ak_valid.proofs.LeastKinds.{drop_next}

pub nothing_more : {A : Type 0} (xs : List A) → xs ≡ xs ++ []
nothing_more xs = sym (append-nil xs)

-- the only kind of fault of names that are bound
twice_kind : (before names : List (List ℕ)) → (least (twice_named before names) ≡ None) ⊎ (least (twice_named before names) ≡ Some TwiceNamed)
twice_kind before [] = inl refl
twice_kind before (name ∷ names) = of (list_any (bytes_eq name) before) (twice_kind (before ++ name ∷ []) names)
  where
    of : (b : Bool) → (least (twice_named (before ++ name ∷ []) names) ≡ None) ⊎ (least (twice_named (before ++ name ∷ []) names) ≡ Some TwiceNamed)
        → (least (cond b (TwiceNamed ∷ []) [] ++ twice_named (before ++ name ∷ []) names) ≡ None)
        ⊎ (least (cond b (TwiceNamed ∷ []) [] ++ twice_named (before ++ name ∷ []) names) ≡ Some TwiceNamed)
    of true (inl none) = inr (rw none refl)
    of true (inr some) = inr (rw some refl)
    of false later = later

pub twice_here : (before names : List (List ℕ)) (name : List ℕ) → list_any (bytes_eq name) before ≡ true
    → Some TwiceNamed ≡ least (twice_named before (name ∷ names))
twice_here before names name there = rw there (of (twice_kind (before ++ name ∷ []) names))
  where
    of : (least (twice_named (before ++ name ∷ []) names) ≡ None) ⊎ (least (twice_named (before ++ name ∷ []) names) ≡ Some TwiceNamed)
        → Some TwiceNamed ≡ lesser (Some TwiceNamed) (least (twice_named (before ++ name ∷ []) names))
    of (inl none) = rw none refl
    of (inr some) = rw some refl

pub twice_later : (before names : List (List ℕ)) (name : List ℕ) → list_any (bytes_eq name) before ≡ false
    → twice_named before (name ∷ names) ≡ twice_named (before ++ name ∷ []) names
twice_later before names name absent = rw absent refl

opened_not : (b c : Bool) → b ≡ not c → c ≡ not b
opened_not true true is = cc
opened_not true false is = refl
opened_not false true is = refl
opened_not false false is = cc

-- ---- parameters
-- a parameter that was bound before
pub param_twice : (known params : List Param) (i : ℕ) (param : Param) (new : Bool) (all : Option FaultKind) → i < length params → param ≡ get_or params i param
    → new ≡ not (list_any (bytes_eq param.name) (param_names known)) → new ≡ false
    → least (twice_named (param_names known) (param_names (drop i params))) ≡ all → Some TwiceNamed ≡ all
param_twice known params i param new all below is added old so_far =
    let there : list_any (bytes_eq param.name) (param_names known) ≡ true =
    opened_not new (list_any (bytes_eq param.name) (param_names known)) added ∙ ap not old in
    let opened : least (twice_named (param_names known) (param.name ∷ param_names (drop (i + 1) params))) ≡ all =
    rw (drop_next params i param below is) at so_far in
    twice_here (param_names known) (param_names (drop (i + 1) params)) param.name there ∙ opened

-- a parameter that is new
pub record Bound (known params : List Param) (i : ℕ) (all : Option FaultKind) (last : List Param) : Type 0 where
  pub faults : least (twice_named (param_names known) (param_names (drop i params))) ≡ all
  pub rest : known ++ drop i params ≡ last

pub param_next : (known now params : List Param) (i : ℕ) (param : Param) (new : Bool) (all : Option FaultKind) (last : List Param)
    → i < length params → param ≡ get_or params i param
    → new ≡ not (list_any (bytes_eq param.name) (param_names known)) → now ≡ cond new (known ++ param ∷ []) known → new ≡ true
    → Bound known params i all last → Bound now params (i + 1) all last
param_next known now params i param new all last below is added put fresh so_far =
    let absent : list_any (bytes_eq param.name) (param_names known) ≡ false =
    opened_not new (list_any (bytes_eq param.name) (param_names known)) added ∙ ap not fresh in
    let grown : now ≡ known ++ param ∷ [] = put ∙ rw fresh refl in
    let faults : least (twice_named (param_names known) (param.name ∷ param_names (drop (i + 1) params))) ≡ all =
    rw (drop_next params i param below is) at so_far.faults in
    let rest : known ++ param ∷ drop (i + 1) params ≡ last = rw (drop_next params i param below is) at so_far.rest in
    record {
      faults = ap (λ (names : List (List ℕ)). least (twice_named names (param_names (drop (i + 1) params))))
          (ap param_names grown ∙ map-append (λ (p : Param). p.name) known (param ∷ []))
          ∙ ap least (sym (twice_later (param_names known) (param_names (drop (i + 1) params)) param.name absent)) ∙ faults;
      rest = ap (λ (k : List Param). k ++ drop (i + 1) params) grown ∙ append_assoc known (param ∷ []) (drop (i + 1) params) ∙ rest;
    }
