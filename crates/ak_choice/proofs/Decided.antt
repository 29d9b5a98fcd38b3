-- A group that is decided stays so, and parts all have numbers where each has one.
use Rattle.std.proofs.Common.{ℕ, ◌<◌, ◌≤◌, ◌≡◌, List, [], ◌∷◌, length, refl, ap, sym, ◌∙◌, subst, Bool, true, false, cond, arith, inl, inr}
use Rattle.std.specs.Prelude.{ℤ, ◌==◌, ◌⊎◌, Option, Some, None, is_some, slice_set}
use Rattle.std.specs.List.{list_all}
use Rattle.std.proofs.lemmas.Grind.{get_or-set_at, common_steps}
use Rattle.std.proofs.lemmas.Bool.{eqb-true, cases_eq, cases_lt, true≢false}
use Rattle.std.proofs.lemmas.List.{length-set, get_or-set_other, get_or_past}
use Rattle.ak_choice.specs.Groups.{Group, group_in, all_numbers, has_all, with_decided}
use Rattle.ak_choice.specs.Runs.{Call, Begin, Note, NextNote, Decide, SetPart, called, decision, decided_by, decisions}

some_before : (v : ℤ) (parts : List (Option ℤ)) (numbers : Option (List ℤ)) → all_numbers parts ≡ numbers → has_all (Some v ∷ parts) ≡ is_some numbers
some_before v parts None e = rw e refl
some_before v parts (Some numbers) e = rw e refl

pub all_is_some : (parts : List (Option ℤ)) → has_all parts ≡ list_all is_some parts
all_is_some [] = refl
all_is_some (None ∷ parts) = refl
all_is_some (Some v ∷ parts) = some_before v parts (all_numbers parts) refl ∙ all_is_some parts

-- a group exists and is decided
record IsDecided (g : ℕ) (groups : List Group) : Type 0 where
  pub exists : g < length groups
  pub decided : (group_in groups g).decided ≡ true

-- a group that is put in the place of another is as decided
put_keeps : (g h : ℕ) (x : Group) (groups : List Group) → (h ≡ g → x.decided ≡ true) → IsDecided g groups → IsDecided g (slice_set groups h x)
put_keeps g h x groups f s = record {
  exists = omega (arith, s.exists, length-set groups h x);
  decided = elim (cases_eq h g) [
    | inl e ↦ ap (λ (y : Group). y.decided) (get_or-set_at groups h g x _ (sym e) (subst (λ (k : ℕ). k < length groups) (sym e) s.exists)) ∙ f e
    | inr n ↦ ap (λ (y : Group). y.decided) (get_or-set_other groups h g x _ (λ e. n (sym e))) ∙ s.decided
  ];
}

-- a group that is changed otherwise is as decided as before
change_keeps : (g h : ℕ) (x : Group) (groups : List Group) → x.decided ≡ (group_in groups h).decided → IsDecided g groups → IsDecided g (slice_set groups h x)
change_keeps g h x groups e s = put_keeps g h x groups (λ f. e ∙ ap (λ k. (group_in groups k).decided) f ∙ s.decided) s

call_keeps : (g : ℕ) (call : Call) (groups : List Group) → IsDecided g groups → IsDecided g (called call groups)
call_keeps g (Begin parts) groups s = record { exists = grind (arith, common_steps, s.exists); decided = grind (arith, common_steps, s.exists, s.decided) }
call_keeps g (Note h registration) groups s = change_keeps g h _ groups refl s
call_keeps g (NextNote h) groups s = change_keeps g h _ groups refl s
call_keeps g (Decide h) groups s = put_keeps g h _ groups (λ e. refl) s
call_keeps g (SetPart h k v) groups s = change_keeps g h _ groups refl s

same_either : (t : Bool) (n : ℕ) → cond t n n ≡ n
same_either true n = refl
same_either false n = refl

-- a decided group is decided by no call
none_by : (g : ℕ) (call : Call) (groups : List Group) → IsDecided g groups → decided_by g call groups ≡ 0
none_by g (Begin parts) groups s = refl
none_by g (Note h registration) groups s = refl
none_by g (NextNote h) groups s = refl
none_by g (Decide h) groups s = ap (λ d. cond (h == g) (decision d) 0) s.decided ∙ same_either (h == g) 0
none_by g (SetPart h k v) groups s = refl

none : (g : ℕ) (calls : List Call) (groups : List Group) → IsDecided g groups → decisions g calls groups ≡ 0
none g [] groups s = refl
none g (call ∷ calls) groups s = omega (arith, none_by g call groups s, none g calls (called call groups) (call_keeps g call groups s))

-- a group that is undecided exists
exists_since : (g : ℕ) (groups : List Group) → (group_in groups g).decided ≡ false → g < length groups
exists_since g groups e =
    elim (cases_lt g (length groups)) [
      | inl l ↦ l
      | inr m ↦ absurd (true≢false (sym (ap (λ (x : Group). x.decided) (get_or_past groups g _ m)) ∙ e))
    ]

decide_by : (t d : Bool) (g h : ℕ) (groups : List Group) → (h == g) ≡ t → (group_in groups g).decided ≡ d
    → (cond t (decision d) 0 ≡ 0) ⊎ ((cond t (decision d) 0 ≡ 1) × IsDecided g (with_decided h groups))
decide_by false d g h groups e f = inl refl
decide_by true true g h groups e f = inl refl
decide_by true false g h groups e f =
    let same : h ≡ g = eqb-true h g e
    in let exists : g < length groups = exists_since g groups f
    in inr (
      refl,
      record {
        exists = omega (arith, exists, length-set groups h (record (group_in groups h) { decided = true }));
        decided = ap (λ (x : Group). x.decided) (get_or-set_at groups h g _ _ (sym same) (subst (λ (k : ℕ). k < length groups) (sym same) exists));
      },
    )

-- a call decides at most once, and then the group is decided
once_by : (g : ℕ) (call : Call) (groups : List Group) → (decided_by g call groups ≡ 0) ⊎ ((decided_by g call groups ≡ 1) × IsDecided g (called call groups))
once_by g (Begin parts) groups = inl refl
once_by g (Note h registration) groups = inl refl
once_by g (NextNote h) groups = inl refl
once_by g (Decide h) groups = decide_by (h == g) (group_in groups g).decided g h groups refl refl
once_by g (SetPart h k v) groups = inl refl

pub once : (g : ℕ) (calls : List Call) (groups : List Group) → decisions g calls groups ≤ 1
once g [] groups = omega arith
once g (call ∷ calls) groups =
    elim (once_by g call groups) [
      | inl e ↦ omega (arith, e, once g calls (called call groups))
      | inr d ↦ omega (arith, d.0, none g calls (called call groups) d.1)
    ]
