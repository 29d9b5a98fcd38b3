-- A script has no line with a fault exactly where it is valid.
use Rattle.std.proofs.Common.{◌≡◌, ◌≢◌, inl, inr, ℕ, suc, ◌+◌, ◌-◌, ◌≤◌, ◌==◌, Bool, true, false, cond, List, [], ◌∷◌, ◌++◌, length, take, drop, Option, Some, None, refl, sym, ap, ◌∙◌, subst, arith, append-nil, append_assoc, codes, MatchOption, length-drop}
use Rattle.std.proofs.lemmas.List.Folds.{Any-from_list_any, list_any-from_Any}
use Rattle.std.proofs.lemmas.Bool.Decides.{nat_tests}
use Rattle.std.proofs.lemmas.Slice.Eq.{bytes_eq-Decides}
use Rattle.std.specs.List.{AllByRecursion, AllZip, Any, list_any, flat_map}
use Rattle.std.specs.Option.{option_map_or}
use Rattle.std.specs.Str.{bytes_eq}
use Rattle.ak_script.specs.Kinds.{Serves}
use Rattle.ak_script.specs.declared.script.Kind.{Kind}
use Rattle.ak_script.specs.declared.script.Kind.TheVariants as of_kind
use Rattle.ak_script.specs.declared.script.Param.{Param}
use Rattle.ak_script.specs.declared.script.Statement.{Statement}
use Rattle.ak_script.specs.declared.script.Proc.{Proc}
use Rattle.ak_script.specs.declared.statement.Atom.{Atom}
use Rattle.ak_script.specs.declared.statement.Atom.TheVariants.{Literal, Local}
use Rattle.ak_script.specs.Statements.{binds}
use Rattle.ak_valid.specs.declared.refusal.FaultKind.{FaultKind}
use Rattle.ak_valid.specs.declared.refusal.FaultKind.TheVariants.{NoMain, TwiceNamed, UnknownName, WrongKind, WrongCount}
use Rattle.ak_valid.specs.Numbered.{param_names, proc_names}
use Rattle.ak_valid.specs.Uses.{Use, Callee, local, uses, callees}
use Rattle.ak_valid.specs.Valid.{AreDistinct, Valid, HasMain, ProcIsValid, LinesAreValid, StatementIsValid, IsKnown, IsPassed, IsCallable, Takes, local_named, proc_named, prefix_uses}
use Rattle.ak_valid.specs.Faults.{Line, twice_named, may_serve, kind_faults, use_faults, unknown_faults, passed_faults, args_faults, front_faults, count_faults, takes_faults, callee_faults, statement_faults, main_faults, head_faults, body_lines, proc_lines, procs_lines, line_zero, script_lines, kind_number, lesser, least, first_fault}
use Rattle.ak_valid.proofs.Naming.{distinct_push}
use Rattle.ak_valid.proofs.Mapping.{all_binds, names_append}
use Rattle.ak_valid.proofs.Firsts.{distinct_front, absent_before}

-- two facts lead to one another
abbrev pub Iff : Type 0 → Type 0 → Type 0
Iff A B = (A → B) × (B → A)

-- nothing is left of two lists
nil_both : {A : Type 0} (xs ys : List A) → Iff (xs ++ ys ≡ []) ((xs ≡ []) × (ys ≡ []))
nil_both [] ys = (λ h. (refl, h), λ h. h.1)
nil_both (x ∷ xs) ys = (λ h. cc, λ h. cc)

flat_none : {A B : Type 0} (f : A → List B) (xs : List A) → Iff (flat_map f xs ≡ []) (AllByRecursion (λ x. f x ≡ []) xs)
flat_none f [] = (λ h. tt, λ h. refl)
flat_none f (x ∷ xs) =
    let both = nil_both (f x) (flat_map f xs) in
    let later = flat_none f xs in
    (λ h. ((both.0 h).0, later.0 (both.0 h).1), λ h. both.1 (h.0, later.1 h.1))

all_iff : {A : Type 0} (P Q : A → Type 0) → ((x : A) → Iff (P x) (Q x)) → (xs : List A) → Iff (AllByRecursion P xs) (AllByRecursion Q xs)
all_iff P Q each [] = (λ h. h, λ h. h)
all_iff P Q each (x ∷ xs) =
    let later = all_iff P Q each xs in
    let here = each x in
    (λ h. (here.0 h.0, later.0 h.1), λ h. (here.1 h.0, later.1 h.1))

flat_iff : {A B : Type 0} (f : A → List B) (Q : A → Type 0) → ((x : A) → Iff (f x ≡ []) (Q x)) → (xs : List A) → Iff (flat_map f xs ≡ []) (AllByRecursion Q xs)
flat_iff f Q each xs =
    let none = flat_none f xs in
    let all = all_iff (λ x. f x ≡ []) Q each xs in
    (λ h. all.0 (none.0 h), λ h. none.1 (all.1 h))

-- ---- kinds
serves_if : (kind wanted : Kind) → may_serve kind wanted ≡ true → Serves kind wanted
serves_if of_kind.Num of_kind.Num h = inl refl
serves_if of_kind.Ivar of_kind.Ivar h = inl refl
serves_if of_kind.Ivar of_kind.Def h = inr (refl, refl)
serves_if of_kind.Def of_kind.Def h = inl refl
serves_if of_kind.Mon of_kind.Mon h = inl refl
serves_if of_kind.Pipe of_kind.Pipe h = inl refl
serves_if of_kind.Thr of_kind.Thr h = inl refl
serves_if of_kind.Event of_kind.Event h = inl refl
serves_if of_kind.Helper of_kind.Helper h = inl refl
serves_if kind wanted h = cc

serves_self : (kind : Kind) → may_serve kind kind ≡ true
serves_self of_kind.Num = refl
serves_self of_kind.Ivar = refl
serves_self of_kind.Def = refl
serves_self of_kind.Mon = refl
serves_self of_kind.Pipe = refl
serves_self of_kind.Thr = refl
serves_self of_kind.Event = refl
serves_self of_kind.Helper = refl

serves_then : (kind wanted : Kind) → Serves kind wanted → may_serve kind wanted ≡ true
serves_then kind wanted (inl same) = subst (λ (k : Kind). may_serve kind k ≡ true) same (serves_self kind)
serves_then kind wanted (inr both) = rw (both.0, both.1) refl

any_mapped_by : {A : Type 0} (P Q : A → Type 0) → ((x : A) → P x → Q x) → (xs : List A) → Any P xs → Any Q xs
any_mapped_by P Q each xs h = (h.0, h.1, h.2, h.3, each h.1 h.4)

unless_none : (b : Bool) (kind : FaultKind) → Iff ((cond b [] (kind ∷ [])) ≡ []) (b ≡ true)
unless_none true kind = (λ h. refl, λ h. refl)
unless_none false kind = (λ h. cc, λ h. cc)

if_none : (b : Bool) (kind : FaultKind) → Iff ((cond b (kind ∷ []) []) ≡ []) (b ≡ false)
if_none true kind = (λ h. cc, λ h. cc)
if_none false kind = (λ h. refl, λ h. refl)

kinds_serve : (kind : Kind) (wanted : List Kind) → Iff (kind_faults kind wanted ≡ []) (Any (Serves kind) wanted)
kinds_serve kind wanted =
    let test = unless_none (list_any (may_serve kind) wanted) WrongKind in (
      λ h. any_mapped_by (λ w. may_serve kind w ≡ true) (Serves kind) (serves_if kind) wanted (Any-from_list_any (may_serve kind) wanted (test.0 h)),
      λ h. test.1 (list_any-from_Any (may_serve kind) wanted (any_mapped_by (Serves kind) (λ w. may_serve kind w ≡ true) (serves_then kind) wanted h)),
    )

num_only : (kind : Kind) → Iff (kind_faults of_kind.Num (kind ∷ []) ≡ []) (kind ≡ of_kind.Num)
num_only of_kind.Num = (λ h. refl, λ h. refl)
num_only kind = (λ h. cc, λ h. cc)

-- ---- uses
use_known : (known : List Param) (used : Use) → Iff (use_faults known used ≡ []) (IsKnown known used)
use_known known used = of (local_named known used.name)
  where
    of : (o : Option Param)
        → Iff (option_map_or (λ param. kind_faults param.kind used.wanted) o (UnknownName ∷ []) ≡ [])
        (MatchOption o ⊥ (λ param. Any (Serves param.kind) used.wanted))
    of None = (λ h. cc, λ h. absurd h)
    of (Some param) = kinds_serve param.kind used.wanted

uses_known : (known : List Param) (us : List Use) → Iff (flat_map (use_faults known) us ≡ []) (AllByRecursion (IsKnown known) us)
uses_known known us = flat_iff (use_faults known) (IsKnown known) (use_known known) us

-- ---- calls
passed_fits : (known : List Param) (a : Atom) (param : Param) → Iff (passed_faults known a param ≡ []) (IsPassed known a param)
passed_fits known (Literal n) param = num_only param.kind
passed_fits known (Local name) param = use_known known (local name param.kind)

known_name : (known : List Param) (name : List ℕ) (wanted : List Kind)
    → MatchOption (local_named known name) ⊥ (λ param. Any (Serves param.kind) wanted)
    → option_map_or (λ param. []) (local_named known name) (UnknownName ∷ []) ≡ []
known_name known name wanted h = of (local_named known name) h
  where
    of : (o : Option Param) → MatchOption o ⊥ (λ param. Any (Serves param.kind) wanted) → option_map_or (λ (param : Param). []) o (UnknownName ∷ []) ≡ []
    of None h = absurd h
    of (Some param) h = refl

passed_known : (known : List Param) (a : Atom) (param : Param) → IsPassed known a param → unknown_faults known a ≡ []
passed_known known (Literal n) param h = refl
passed_known known (Local name) param h = known_name known name (param.kind ∷ []) h

args_fit : (known : List Param) (args : List Atom) (params : List Param) → args_faults known args params ≡ []
    → length args ≡ length params → AllZip (IsPassed known) args params
args_fit known [] [] h size = tt
args_fit known [] (param ∷ params) h size = absurd (omega (arith, size))
args_fit known (a ∷ args) [] h size = absurd (omega (arith, size))
args_fit known (a ∷ args) (param ∷ params) h size =
    let both = (nil_both (passed_faults known a param) (args_faults known args params)).0 h in
    ((passed_fits known a param).0 both.0, args_fit known args params both.1 (omega (arith, size)))

pub record Fits (known : List Param) (args : List Atom) (params : List Param) : Type 0 where
  pub kinds : args_faults known args params ≡ []
  pub names : flat_map (unknown_faults known) args ≡ []
  pub count : length args ≡ length params

fits_args : (known : List Param) (args : List Atom) (params : List Param) → AllZip (IsPassed known) args params → Fits known args params
fits_args known [] [] h = record { kinds = refl; names = refl; count = refl }
fits_args known [] (param ∷ params) h = absurd h
fits_args known (a ∷ args) [] h = absurd h
fits_args known (a ∷ args) (param ∷ params) h =
    let later = fits_args known args params h.1 in
    record {
      kinds = (nil_both (passed_faults known a param) (args_faults known args params)).1 ((passed_fits known a param).1 h.0, later.kinds);
      names = (nil_both (unknown_faults known a) (flat_map (unknown_faults known) args)).1 (passed_known known a param h.0, later.names);
      count = ap suc later.count;
    }

count_then : (params : List Param) (callee : Callee) → Iff (count_faults params callee ≡ []) (callee.front + length callee.args ≡ length params)
count_then params callee =
    let test = unless_none ((callee.front + length callee.args) == length params) WrongCount in (
      λ h. let yes : ((callee.front + length callee.args) == length params) ≡ true =
          test.0 h in grind (arith, nat_tests),
      λ h. test.1 (grind (arith, nat_tests)),
    )

takes_fits : (known params : List Param) (callee : Callee)
    → Iff ((flat_map (unknown_faults known) callee.args ≡ []) × (takes_faults known params callee ≡ [])) (Takes known params callee)
takes_fits known params callee =
    let fronts = flat_iff front_faults (λ (param : Param). param.kind ≡ of_kind.Num) (λ (param : Param). num_only param.kind) (take callee.front params) in
    let count = count_then params callee in
    let parts = nil_both (flat_map front_faults (take callee.front params) ++ args_faults known callee.args (drop callee.front params))
    (count_faults params callee) in
    let two = nil_both (flat_map front_faults (take callee.front params)) (args_faults known callee.args (drop callee.front params)) in (
      λ h.
          let total : callee.front + length callee.args ≡ length params = count.0 (parts.0 h.1).1 in
          let left : length (drop callee.front params) ≡ length params - callee.front = length-drop callee.front params in
          record {
            front = fronts.0 (two.0 (parts.0 h.1).0).0;
            enough = omega (arith, total);
            args = args_fit known callee.args (drop callee.front params) (two.0 (parts.0 h.1).0).1 (omega (arith, total, left));
          },
      λ h.
          let fits = fits_args known callee.args (drop callee.front params) h.args in
          let left : length (drop callee.front params) ≡ length params - callee.front = length-drop callee.front params in
          let size : length callee.args ≡ length (drop callee.front params) = fits.count in
          let enough : callee.front ≤ length params = h.enough in
          (fits.names, parts.1 (two.1 (fronts.1 h.front, fits.kinds), count.1 (omega (arith, left, size, enough)))),
    )

callee_fits : (procs : List Proc) (known : List Param) (callee : Callee) → Iff (callee_faults procs known callee ≡ []) (IsCallable procs known callee)
callee_fits procs known callee = of (proc_named procs callee.name)
  where
    of : (o : Option Proc)
        → Iff (flat_map (unknown_faults known) callee.args ++ option_map_or (λ proc. takes_faults known proc.params callee) o
        (UnknownName ∷ []) ≡ []) (MatchOption o ⊥ (λ proc. Takes known proc.params callee))
    of None = let both = nil_both (flat_map (unknown_faults known) callee.args) (UnknownName ∷ []) in
        (λ h. let none : UnknownName ∷ [] ≡ [] = (both.0 h).1 in cc, λ h. absurd h)
    of (Some proc) =
        let both = nil_both (flat_map (unknown_faults known) callee.args) (takes_faults known proc.params callee) in
        let fits = takes_fits known proc.params callee in
        (λ h. fits.0 (both.0 h), λ h. both.1 (fits.1 h))

-- ---- names
twice_none : (before names : List (List ℕ)) → AreDistinct before → Iff (twice_named before names ≡ []) (AreDistinct (before ++ names))
twice_none before [] distinct = (λ h. subst AreDistinct (sym (append-nil before)) distinct, λ h. refl)
twice_none before (name ∷ names) distinct =
    let both = nil_both (cond (list_any (bytes_eq name) before) (TwiceNamed ∷ []) []) (twice_named (before ++ name ∷ []) names) in
    let new = if_none (list_any (bytes_eq name) before) TwiceNamed in
    let regroup : (before ++ name ∷ []) ++ names ≡ before ++ name ∷ names = append_assoc before (name ∷ []) names in (
      λ h.
          let grown = distinct_push before name distinct (new.0 (both.0 h).0) in
          subst AreDistinct regroup ((twice_none (before ++ name ∷ []) names grown).0 (both.0 h).1),
      λ h.
          let absent = absent_before before names name h in
          let grown = distinct_push before name distinct absent in
          both.1 (new.1 absent, (twice_none (before ++ name ∷ []) names grown).1 (subst AreDistinct (sym regroup) h)),
    )

-- ---- statements
statement_fits : (procs : List Proc) (known : List Param) (statement : Statement) → AreDistinct (param_names known)
    → Iff (statement_faults procs known statement ≡ []) (StatementIsValid procs known statement × AreDistinct (param_names (known ++ binds statement.stmt)))
statement_fits procs known statement distinct =
    let bound : List (List ℕ) = param_names (binds statement.stmt) in
    let one : List FaultKind = twice_named (param_names known) bound in
    let two : List FaultKind = flat_map (use_faults known) (prefix_uses statement.prefix) in
    let three : List FaultKind = flat_map (use_faults known) (uses statement.stmt) in
    let four : List FaultKind = flat_map (callee_faults procs known) (callees statement.stmt) in
    let outer = nil_both (one ++ two ++ three) four in
    let middle = nil_both (one ++ two) three in
    let inner = nil_both one two in
    let twice = twice_none (param_names known) bound distinct in
    let condition = uses_known known (prefix_uses statement.prefix) in
    let used = uses_known known (uses statement.stmt) in
    let called = flat_iff (callee_faults procs known) (IsCallable procs known) (callee_fits procs known) (callees statement.stmt) in
    let joined : param_names (known ++ binds statement.stmt) ≡ param_names known ++ bound = names_append known (binds statement.stmt) in (
      λ h.
          let first : one ++ two ++ three ≡ [] = (outer.0 h).0 in
          let second : one ++ two ≡ [] = (middle.0 first).0 in (
            record { prefix = condition.0 (inner.0 second).1; uses = used.0 (middle.0 first).1; calls = called.0 (outer.0 h).1 },
            subst AreDistinct (sym joined) (twice.0 (inner.0 second).0),
          ),
      λ h. outer.1 (middle.1 (inner.1 (twice.1 (subst AreDistinct joined h.1), condition.1 h.0.prefix), used.1 h.0.uses), called.1 h.0.calls),
    )

-- no line has a fault
abbrev pub AreFine : List Line → Type 0
AreFine lines = AllByRecursion (λ (line : Line). line.faults ≡ []) lines

fine_append : (xs ys : List Line) → Iff (AreFine (xs ++ ys)) (AreFine xs × AreFine ys)
fine_append [] ys = (λ h. (tt, h), λ h. h.1)
fine_append (x ∷ xs) ys = let later = fine_append xs ys in (λ h. ((h.0, (later.0 h.1).0), (later.0 h.1).1), λ h. (h.0.0, later.1 (h.0.1, h.1)))

distinct_known : (known more : List Param) → AreDistinct (param_names (known ++ more)) → AreDistinct (param_names known)
distinct_known known more h = distinct_front (param_names known) (param_names more) (subst AreDistinct (names_append known more) h)

body_fits : (procs : List Proc) (known : List Param) (body : List Statement) → AreDistinct (param_names known)
    → Iff (AreFine (body_lines procs known body)) (LinesAreValid procs known body × AreDistinct (param_names (known ++ all_binds body)))
body_fits procs known [] distinct = (λ h. (tt, subst (λ (k : List Param). AreDistinct (param_names k)) (sym (append-nil known)) distinct), λ h. tt)
body_fits procs known (statement ∷ body) distinct =
    let here = statement_fits procs known statement distinct in
    let regroup : (known ++ binds statement.stmt) ++ all_binds body ≡ known ++ (binds statement.stmt ++ all_binds body) =
    append_assoc known (binds statement.stmt) (all_binds body) in (
      λ h.
          let now = here.0 h.0 in
          let later = (body_fits procs (known ++ binds statement.stmt) body now.1).0 h.1 in
          ((now.0, later.0), subst (λ (k : List Param). AreDistinct (param_names k)) regroup later.1),
      λ h.
          let whole : AreDistinct (param_names ((known ++ binds statement.stmt) ++ all_binds body)) =
          subst (λ (k : List Param). AreDistinct (param_names k)) (sym regroup) h.1 in
          let grown = distinct_known (known ++ binds statement.stmt) (all_binds body) whole in
          (here.1 (h.0.0, grown), (body_fits procs (known ++ binds statement.stmt) body grown).1 (h.0.1, whole)),
    )

-- ---- procedures
-- a procedure that is named `main` has no parameters
abbrev pub IsBare : Proc → Type 0
IsBare proc = main_faults proc ≡ []

head_fits : (before : List (List ℕ)) (proc : Proc) → AreDistinct before
    → Iff (head_faults before proc ≡ []) (AreDistinct (before ++ proc.name ∷ []) × AreDistinct (param_names proc.params) × IsBare proc)
head_fits before proc distinct =
    let one : List FaultKind = twice_named before (proc.name ∷ []) in
    let two : List FaultKind = twice_named [] (param_names proc.params) in
    let outer = nil_both (one ++ two) (main_faults proc) in
    let inner = nil_both one two in
    let named = twice_none before (proc.name ∷ []) distinct in
    let params = twice_none [] (param_names proc.params) tt in (
      λ h. (named.0 (inner.0 (outer.0 h).0).0, params.0 (inner.0 (outer.0 h).0).1, (outer.0 h).1),
      λ h. outer.1 (inner.1 (named.1 h.0, params.1 h.1), h.2),
    )

proc_fits : (procs : List Proc) (before : List (List ℕ)) (proc : Proc) → AreDistinct before
    → Iff (AreFine (proc_lines procs before proc)) (AreDistinct (before ++ proc.name ∷ []) × ProcIsValid procs proc × IsBare proc)
proc_fits procs before proc distinct =
    let head = head_fits before proc distinct in (
      λ h.
          let now = head.0 h.0 in
          let body = (body_fits procs proc.params proc.body now.1).0 h.1 in
          (now.0, record { locals = body.1; lines = body.0 }, now.2),
      λ h.
          let params = distinct_known proc.params (all_binds proc.body) h.1.locals in
          (head.1 (h.0, params, h.2), (body_fits procs proc.params proc.body params).1 (h.1.lines, h.1.locals)),
    )

procs_fit : (procs : List Proc) (before : List (List ℕ)) (rest : List Proc) → AreDistinct before
    → Iff (AreFine (procs_lines procs before rest)) (AreDistinct (before ++ proc_names rest) × AllByRecursion (ProcIsValid procs) rest
    × AllByRecursion IsBare rest)
procs_fit procs before [] distinct = (λ h. (subst AreDistinct (sym (append-nil before)) distinct, tt, tt), λ h. tt)
procs_fit procs before (proc ∷ rest) distinct =
    let here = proc_fits procs before proc distinct in
    let both = fine_append (proc_lines procs before proc) (procs_lines procs (before ++ proc.name ∷ []) rest) in
    let regroup : (before ++ proc.name ∷ []) ++ proc_names rest ≡ before ++ proc.name ∷ proc_names rest =
    append_assoc before (proc.name ∷ []) (proc_names rest) in (
      λ h.
          let now = here.0 (both.0 h).0 in
          let later = (procs_fit procs (before ++ proc.name ∷ []) rest now.0).0 (both.0 h).1 in
          (subst AreDistinct regroup later.0, (now.1, later.1), (now.2, later.2)),
      λ h.
          let whole : AreDistinct ((before ++ proc.name ∷ []) ++ proc_names rest) = subst AreDistinct (sym regroup) h.0 in
          let grown = distinct_front (before ++ proc.name ∷ []) (proc_names rest) whole in
          both.1 (here.1 (grown, h.1.0, h.2.0), (procs_fit procs (before ++ proc.name ∷ []) rest grown).1 (whole, h.1.1, h.2.1)),
    )

-- ---- `main`
no_params : (params : List Param) → Iff ((cond (length params == 0) [] (WrongCount ∷ [])) ≡ []) (params ≡ [])
no_params [] = (λ h. refl, λ h. refl)
no_params (param ∷ params) = (λ h. let some : (suc (length params) == 0) ≡ false = grind arith in cc, λ h. cc)

main_bare : (rest : List Proc) (main : Proc) → proc_named rest (codes "main") ≡ Some main → AllByRecursion IsBare rest → main.params ≡ []
main_bare [] main found bare = cc
main_bare (proc ∷ rest) main found bare = of (bytes_eq (codes "main") proc.name) found bare.0 (λ t. main_bare rest main t bare.1)
  where
    of : (b : Bool) → cond b (Some proc) (proc_named rest (codes "main")) ≡ Some main
        → cond b (cond (length proc.params == 0) [] (WrongCount ∷ [])) [] ≡ []
        → (proc_named rest (codes "main") ≡ Some main → main.params ≡ []) → main.params ≡ []
    of true found bare later = let same : proc ≡ main = cc in ap (λ (p : Proc). p.params) (sym same) ∙ (no_params proc.params).0 bare
    of false found bare later = later found

others_bare : (name : List ℕ) (rest : List Proc) → codes "main" ≡ name → AllByRecursion (λ other. name ≢ other) (proc_names rest) → AllByRecursion IsBare rest
others_bare name [] is h = tt
others_bare name (proc ∷ rest) is h = (of (bytes_eq (codes "main") proc.name) refl, others_bare name rest is h.1)
  where
    of : (b : Bool) → bytes_eq (codes "main") proc.name ≡ b → cond b (cond (length proc.params == 0) [] (WrongCount ∷ [])) [] ≡ []
    of true e = absurd (h.0 (sym is ∙ (bytes_eq-Decides (codes "main") proc.name).0 e))
    of false e = refl

bare_main : (rest : List Proc) → HasMain rest → AreDistinct (proc_names rest) → AllByRecursion IsBare rest
bare_main [] h distinct = absurd h
bare_main (proc ∷ rest) h distinct = of (bytes_eq (codes "main") proc.name) refl h (λ t. bare_main rest t distinct.1)
  where
    of : (b : Bool) → bytes_eq (codes "main") proc.name ≡ b
        → MatchOption (cond b (Some proc) (proc_named rest (codes "main"))) ⊥ (λ proc. proc.params ≡ [])
        → (HasMain rest → AllByRecursion IsBare rest)
        → (cond b (cond (length proc.params == 0) [] (WrongCount ∷ [])) [] ≡ []) × AllByRecursion IsBare rest
    of true e h later = ((no_params proc.params).1 h, others_bare proc.name rest ((bytes_eq-Decides (codes "main") proc.name).0 e) distinct.0)
    of false e h later = (refl, later h)

-- ---- scripts
main_there : (script : List Proc) → (line_zero script).faults ≡ [] → AllByRecursion IsBare script → HasMain script
main_there script h bare = of (proc_named script (codes "main")) refl h
  where
    of : (o : Option Proc) → proc_named script (codes "main") ≡ o → option_map_or (λ (proc : Proc). []) o (NoMain ∷ []) ≡ []
        → MatchOption o ⊥ (λ proc. proc.params ≡ [])
    of None found h = cc
    of (Some main) found h = main_bare script main found bare

zero_fine : (script : List Proc) → HasMain script → (line_zero script).faults ≡ []
zero_fine script h = of (proc_named script (codes "main")) h
  where
    of : (o : Option Proc) → MatchOption o ⊥ (λ proc. proc.params ≡ []) → option_map_or (λ (proc : Proc). []) o (NoMain ∷ []) ≡ []
    of None h = absurd h
    of (Some main) h = refl

fine_valid : (script : List Proc) → Iff (AreFine (script_lines script)) (Valid script)
fine_valid script =
    let procs = procs_fit script [] script tt in (
      λ h. let all = procs.0 h.1 in record { main = main_there script h.0 all.2; procs = all.0; each = all.1 },
      λ h. (zero_fine script h.main, procs.1 (h.procs, h.each, bare_main script h.main h.procs)),
    )

-- ---- the first line with a fault
least_none : (kinds : List FaultKind) → Iff (least kinds ≡ None) (kinds ≡ [])
least_none [] = (λ h. refl, λ h. refl)
least_none (kind ∷ kinds) = (λ h. of (least kinds) h, λ h. cc)
  where
    of : (o : Option FaultKind) → lesser (Some kind) o ≡ None → kind ∷ kinds ≡ []
    of None h = cc
    of (Some other) h = cc

first_fine : (lines : List Line) → Iff (first_fault lines ≡ None) (AreFine lines)
first_fine [] = (λ h. tt, λ h. refl)
first_fine (line ∷ lines) =
    let later = first_fine lines in
    let here = least_none line.faults in (
      λ h. let both = parted (least line.faults) (first_fault lines) h in (here.0 both.0, later.0 both.1),
      λ h. rw (here.1 h.0) (later.1 h.1),
    )
  where
    parted : (o : Option FaultKind) (rest : Option (ℕ × ℕ)) → option_map_or (λ kind. Some (line.number, kind_number kind)) o rest ≡ None
        → (o ≡ None) × (rest ≡ None)
    parted None rest h = (refl, h)
    parted (Some kind) rest h = cc

-- no fault is the first exactly where the script is valid
pub exact : (script : List Proc) → Iff (first_fault (script_lines script) ≡ None) (Valid script)
exact script =
    let fine = first_fine (script_lines script) in
    let valid = fine_valid script in
    (λ h. valid.0 (fine.0 h), λ h. fine.1 (valid.1 h))

-- ---- the numbers of kinds
kind_range : (kind : FaultKind) → (5 ≤ kind_number kind) × (kind_number kind ≤ 9)
kind_range NoMain = (omega arith, omega arith)
kind_range TwiceNamed = (omega arith, omega arith)
kind_range UnknownName = (omega arith, omega arith)
kind_range WrongKind = (omega arith, omega arith)
kind_range WrongCount = (omega arith, omega arith)

pub fault_range : (lines : List Line) (line number : ℕ) → first_fault lines ≡ Some (line, number) → (5 ≤ number) × (number ≤ 9)
fault_range [] line number h = cc
fault_range (x ∷ lines) line number h = of (least x.faults) h (λ t. fault_range lines line number t)
  where
    of : (o : Option FaultKind) → option_map_or (λ kind. Some (x.number, kind_number kind)) o (first_fault lines) ≡ Some (line, number)
        → (first_fault lines ≡ Some (line, number) → (5 ≤ number) × (number ≤ 9)) → (5 ≤ number) × (number ≤ 9)
    of None h later = later h
    of (Some kind) h later =
        let both : (let p : ℕ × ℕ = (x.number, kind_number kind) in p) ≡ (line, number) = cc in
        let same : kind_number kind ≡ number = ap (λ (p : ℕ × ℕ). p.1) both in
        let range = kind_range kind in (rw (sym same) (range.0), rw (sym same) (range.1))
