-- A sound program of the statements that are written is a valid script by its names.
use Rattle.std.proofs.Common.{ℕ, zero, suc, ◌+◌, ◌<◌, ◌≤◌, ◌^◌, ◌≡◌, ◌≢◌, List, [], ◌∷◌, ◌++◌, length, map, take, drop, cond, Option, Some, None, slice_index_or, MatchOption, refl, ap, ap₂, sym, subst, ◌∙◌, arith, length-append}
use Rattle.std.specs.Prelude.{slice_get}
use Rattle.std.specs.List.{AllByRecursion, AllZip, Any as AnyOf, find, range_with_len}
use Rattle.std.specs.Str.{bytes_eq}
use Rattle.std.proofs.lemmas.List.{append-nil, take-map, drop-map}
use Rattle.ak_script.specs.Kinds.{Serves}
use Rattle.ak_script.specs.declared.script.Kind.{Kind}
use Rattle.ak_script.specs.declared.script.Kind.TheVariants as of_kind
use Rattle.ak_script.specs.declared.script.Param.{Param}
use Rattle.ak_script.specs.declared.script.Proc.{Proc}
use Rattle.ak_script.specs.Statements.{binds}
use Rattle.ak_program.specs.declared.program.NumPrefix.{NumPrefix}
use Rattle.ak_program.specs.declared.program.NumPrefix.TheVariants as num_prefix
use Rattle.ak_program.specs.declared.program.NumParam.{NumParam}
use Rattle.ak_program.specs.declared.program.NumStatement.{NumStatement}
use Rattle.ak_program.specs.declared.program.NumProc.{NumProc}
use Rattle.ak_program.specs.declared.statement.NumAtom.{NumAtom}
use Rattle.ak_program.specs.declared.statement.NumAtom.TheVariants as num_atom
use Rattle.ak_program.specs.declared.statement.NumStmt.{NumStmt}
use Rattle.ak_program.specs.declared.statement.NumStmt.TheVariants as stmt
use Rattle.ak_program.specs.Programs as num
use Rattle.ak_valid.specs.Uses.{Callee, uses, callees, number}
use Rattle.ak_valid.specs.Valid.{AreDistinct, proc_named, local_named, IsKnown, IsPassed, Takes, IsCallable, prefix_uses, LinesAreValid, ProcIsValid, Valid}
use Rattle.ak_let.specs.declared.source.Source.{Source}
use Rattle.ak_let.specs.Compile.{compiled}
use Rattle.ak_let_text.specs.Compiles.{Compiles}
use Rattle.ak_let_text.specs.Named.{proc_name, local_name, named_atom, named_stmt, named_prefix, named_statement, named_param, named_proc, named}
use Rattle.ak_let_text.proofs.Back.{IsNaming, locals_named, procs_named, yes, no_other, all_split, IsWritable, AreWritable, IsNameable, bind_count, local_count, kinds_in, locals_are, map_length, names_are}
use Rattle.ak_let_text.proofs.Compiled.{procs_few, is_sound, are_nameable}

-- ---- the first of a name
-- what stands at a place is the first of its name, where the names are those of numbers in order
find_named : {X : Type 0} (name : X → List ℕ) (f : ℕ → List ℕ) → IsNaming f → (xs : List X) (a n k : ℕ) (x : X)
    → map name xs ≡ map f (range_with_len a n) → a + n ≤ 2 ^ 32 → slice_get xs k ≡ Some x → find (λ y. bytes_eq (f (a + k)) (name y)) xs ≡ Some x
find_named name f inj [] a n k x e b g = absurd cc
find_named name f inj (y ∷ ys) a zero k x e b g = absurd cc
find_named name f inj (y ∷ ys) a (suc n) zero x e b g =
    let first : name y ≡ f a = ap (λ (l : List (List ℕ)). slice_index_or l 0 []) e
    in ap (λ t. cond t (Some y) (find (λ z. bytes_eq (f (a + 0)) (name z)) ys)) (yes (f (a + 0)) (name y) (ap f (plus_zero a) ∙ sym first)) ∙ g
  where
    plus_zero : (a : ℕ) → a + 0 ≡ a
    plus_zero a = omega arith
find_named {X} name f inj (y ∷ ys) a (suc n) (suc k) x e b g =
    let first : name y ≡ f a = ap (λ (l : List (List ℕ)). slice_index_or l 0 []) e
    in let differ : k < n → f (a + suc k) ≢ name y =
    λ l d. let same : a + suc k ≡ a = inj (a + suc k) a (omega (arith, l, b)) (omega (arith, b)) (d ∙ first) in omega (arith, same)
    in ap (λ t. cond t (Some y) (find (λ z. bytes_eq (f (a + suc k)) (name z)) ys))
    (no_other (f (a + suc k)) (name y) (differ (within ys k n x g (ap (λ (l : List (List ℕ)). length l) (ap (λ (l : List (List ℕ)). drop 1 l) e)))))
    ∙ ap (λ j. find (λ z. bytes_eq (f j) (name z)) ys) (plus_suc a k)
    ∙ find_named name f inj ys (a + 1) n k x (ap (λ (l : List (List ℕ)). drop 1 l) e) (omega (arith, b)) g
  where
    plus_suc : (a k : ℕ) → a + suc k ≡ (a + 1) + k
    plus_suc a k = omega arith

    below : {X : Type 0} (xs : List X) (k : ℕ) (x : X) → slice_get xs k ≡ Some x → k < length xs
    below [] k x g = absurd cc
    below (y ∷ ys) zero x g = omega arith
    below (y ∷ ys) (suc k) x g = omega (arith, below ys k x g)

    many : (a n : ℕ) → length (map f (range_with_len a n)) ≡ n
    many a zero = refl
    many a (suc n) = ap suc (many (a + 1) n)

    within : (ys : List X) (k n : ℕ) (x : X) → slice_get ys k ≡ Some x → length (map name ys) ≡ length (map f (range_with_len (a + 1) n)) → k < n
    within ys k n x g e = omega (arith, below ys k x g, map_length name ys, e, many (a + 1) n)

-- no name stands twice
all_other : (f : ℕ → List ℕ) → IsNaming f → (a n b : ℕ) → a < b → b + n ≤ 2 ^ 32
    → AllByRecursion (λ other. f a ≢ other) (map f (range_with_len b n))
all_other f inj a zero b l h = tt
all_other f inj a (suc n) b l h = (
  (λ e. let same : a ≡ b = inj a b (omega (arith, l, h)) (omega (arith, h)) e in omega (arith, same, l)),
  all_other f inj a n (b + 1) (omega (arith, l)) (omega (arith, h)),
)

distinct : (f : ℕ → List ℕ) → IsNaming f → (n a : ℕ) → a + n ≤ 2 ^ 32 → AreDistinct (map f (range_with_len a n))
distinct f inj zero a h = tt
distinct f inj (suc n) a h = (all_other f inj a n (a + 1) (omega arith) (omega (arith, h)), distinct f inj n (a + 1) (omega (arith, h)))

-- ---- the locals so far
-- the locals of these kinds, by their names, from a number on
abbrev known_of : ℕ → List Kind → List Param
known_of a [] = []
known_of a (kind ∷ kinds) = record { name = local_name a; kind = kind } ∷ known_of (a + 1) kinds

abbrev name_of : Param → List ℕ
name_of p = p.name

known_names : (kinds : List Kind) (a : ℕ) → map name_of (known_of a kinds) ≡ map local_name (range_with_len a (length kinds))
known_names [] a = refl
known_names (kind ∷ kinds) a = ap (λ l. local_name a ∷ l) (known_names kinds (a + 1))

known_get : (kinds : List Kind) (a k : ℕ) (kind : Kind) → slice_get kinds k ≡ Some kind
    → slice_get (known_of a kinds) k ≡ Some (record { name = local_name (a + k); kind = kind })
known_get [] a k kind g = absurd cc
known_get (x ∷ kinds) a zero kind g =
    ap (λ j. Some (record { name = local_name j; kind = x })) (plus_zero a)
    ∙ ap (λ o. elim o [ None ↦ None | Some y ↦ Some (record { name = local_name (a + 0); kind = y }) ]) g
  where
    plus_zero : (a : ℕ) → a ≡ a + 0
    plus_zero a = omega arith
known_get (x ∷ kinds) a (suc k) kind g =
    known_get kinds (a + 1) k kind g ∙ ap (λ j. Some (record { name = local_name j; kind = kind })) (plus_suc a k)
  where
    plus_suc : (a k : ℕ) → (a + 1) + k ≡ a + suc k
    plus_suc a k = omega arith

zero_plus : (k : ℕ) → k ≡ 0 + k
zero_plus k = omega arith

local_found : (kinds : List Kind) (k : ℕ) (kind : Kind) → length kinds ≤ 2 ^ 32 → slice_get kinds k ≡ Some kind
    → local_named (known_of 0 kinds) (local_name k) ≡ Some (record { name = local_name (0 + k); kind = kind })
local_found kinds k kind b g =
    ap (λ j. local_named (known_of 0 kinds) (local_name j)) (zero_plus k)
    ∙ find_named name_of local_name locals_named (known_of 0 kinds) 0 (length kinds) k (record { name = local_name (0 + k); kind = kind })
    (known_names kinds 0) (omega (arith, b)) (known_get kinds 0 k kind g)

-- a local that is known by its place is known by its name
known_named : (kinds : List Kind) → length kinds ≤ 2 ^ 32 → (u : num.NumUse) → num.IsKnown kinds u
    → IsKnown (known_of 0 kinds) (record { name = local_name u.place; wanted = u.wanted })
known_named kinds b u h = by (slice_get kinds u.place) refl h
  where
    by : (o : Option Kind) → slice_get kinds u.place ≡ o → MatchOption o ⊥ (λ kind. AnyOf (Serves kind) u.wanted)
        → IsKnown (known_of 0 kinds) (record { name = local_name u.place; wanted = u.wanted })
    by None e h = absurd h
    by (Some kind) e h =
        subst (λ (o : Option Param). MatchOption o ⊥ (λ param. AnyOf (Serves param.kind) u.wanted)) (sym (local_found kinds u.place kind b e)) h

number_named : (kinds : List Kind) → length kinds ≤ 2 ^ 32 → (a : NumAtom) → AllByRecursion (num.IsKnown kinds) (num.number a)
    → AllByRecursion (IsKnown (known_of 0 kinds)) (number (named_atom a))
number_named kinds b (num_atom.Literal z) h = tt
number_named kinds b (num_atom.Local k) h = (known_named kinds b (num.local k of_kind.Num) h.0, tt)

-- ---- calls
passed_named : (kinds : List Kind) → length kinds ≤ 2 ^ 32 → (args : List NumAtom) (params : List NumParam)
    → AllZip (num.IsPassed kinds) args params → AllZip (IsPassed (known_of 0 kinds)) (map named_atom args) (map named_param params)
passed_named kinds b [] [] h = tt
passed_named kinds b [] (p ∷ params) h = absurd h
passed_named kinds b (a ∷ args) [] h = absurd h
passed_named kinds b (num_atom.Literal z ∷ args) (p ∷ params) h = (h.0, passed_named kinds b args params h.1)
passed_named kinds b (num_atom.Local k ∷ args) (p ∷ params) h = (known_named kinds b (num.local k p.kind) h.0, passed_named kinds b args params h.1)

numbers_named : (params : List NumParam) → AllByRecursion (λ param. param.kind ≡ of_kind.Num) params
    → AllByRecursion (λ param. param.kind ≡ of_kind.Num) (map named_param params)
numbers_named [] h = tt
numbers_named (p ∷ params) h = (h.0, numbers_named params h.1)

abbrev named_callee : num.NumCallee → Callee
named_callee callee = record { name = proc_name callee.place; front = callee.front; args = map named_atom callee.args }

takes_named : (kinds : List Kind) → length kinds ≤ 2 ^ 32 → (params : List NumParam) (callee : num.NumCallee) → num.Takes kinds params callee
    → Takes (known_of 0 kinds) (map named_param params) (named_callee callee)
takes_named kinds b params callee h =
    record {
      front = subst (AllByRecursion (λ (param : Param). param.kind ≡ of_kind.Num)) (sym (take-map named_param callee.front params))
          (numbers_named (take callee.front params) h.front);
      enough = omega (arith, h.enough, map_length named_param params);
      args = subst (AllZip (IsPassed (known_of 0 kinds)) (map named_atom callee.args)) (sym (drop-map named_param callee.front params))
          (passed_named kinds b callee.args (drop callee.front params) h.args);
    }

get_map : {X Y : Type 0} (f : X → Y) (xs : List X) (k : ℕ) (x : X) → slice_get xs k ≡ Some x → slice_get (map f xs) k ≡ Some (f x)
get_map f [] k x g = absurd cc
get_map f (y ∷ ys) zero x g = ap (λ o. elim o [ None ↦ None | Some z ↦ Some (f z) ]) g
get_map f (y ∷ ys) (suc k) x g = get_map f ys k x g

-- procedures in the order of their places, few enough for names
record ArePlaced (procs : List NumProc) : Type 0 where
  places : map (λ (p : NumProc). p.name) procs ≡ range_with_len 0 (length procs)
  few : length procs ≤ 2 ^ 32

callable_named : (procs : List NumProc) → ArePlaced procs → (kinds : List Kind) → length kinds ≤ 2 ^ 32 → (callee : num.NumCallee)
    → num.IsCallable procs kinds callee → IsCallable (named procs) (known_of 0 kinds) (named_callee callee)
callable_named procs r kinds b callee h = by (slice_get procs callee.place) refl h
  where
    by : (o : Option NumProc) → slice_get procs callee.place ≡ o → MatchOption o ⊥ (λ proc. num.Takes kinds proc.params callee)
        → IsCallable (named procs) (known_of 0 kinds) (named_callee callee)
    by None e h = absurd h
    by (Some proc) e h =
        let found : proc_named (named procs) (proc_name callee.place) ≡ Some (named_proc proc) =
        ap (λ j. proc_named (named procs) (proc_name j)) (zero_plus callee.place)
        ∙ find_named (λ (p : Proc). p.name) proc_name procs_named (named procs) 0 (length procs) callee.place (named_proc proc)
        (names_are procs ∙ ap (map proc_name) r.places) (omega (arith, r.few)) (get_map named_proc procs callee.place proc e)
        in subst (λ (o : Option Proc). MatchOption o ⊥ (λ proc. Takes (known_of 0 kinds) proc.params (named_callee callee))) (sym found)
        (takes_named kinds b proc.params callee h)

-- ---- statements
all_both : {X : Type 0} (P : X → Type 0) (xs ys : List X) → AllByRecursion P xs → AllByRecursion P ys → AllByRecursion P (xs ++ ys)
all_both P [] ys a b = b
all_both P (x ∷ xs) ys a b = (a.0, all_both P xs ys a.1 b)

uses_named : (kinds : List Kind) → length kinds ≤ 2 ^ 32 → (s : NumStmt) → IsWritable s → AllByRecursion (num.IsKnown kinds) (num.num_uses s)
    → AllByRecursion (IsKnown (known_of 0 kinds)) (uses (named_stmt s))
uses_named kinds b (stmt.Set x a op y) w h =
    let r = all_split (num.IsKnown kinds) (num.number a) (num.number y) h
    in all_both (IsKnown (known_of 0 kinds)) (number (named_atom a)) (number (named_atom y)) (number_named kinds b a r.0) (number_named kinds b y r.1)
uses_named kinds b (stmt.Print a) w h = number_named kinds b a h
uses_named kinds b (stmt.Ivar i) w h = tt
uses_named kinds b (stmt.Offer i a) w h = (known_named kinds b (num.local i of_kind.Ivar) h.0, number_named kinds b a h.1)
uses_named kinds b (stmt.Upon d proc args) w h = (known_named kinds b (num.local d of_kind.Def) h.0, tt)
uses_named kinds b (stmt.Sched proc args) w h = tt
uses_named kinds b (stmt.Monitor k) w h = tt
uses_named kinds b (stmt.Within k proc args) w h = (known_named kinds b (num.local k of_kind.Mon) h.0, tt)
uses_named kinds b (stmt.Detach k) w h = (known_named kinds b (num.local k of_kind.Mon) h.0, tt)
uses_named kinds b (stmt.OnError k proc args) w h = (known_named kinds b (num.local k of_kind.Mon) h.0, tt)
uses_named kinds b (stmt.Raise a) w h = number_named kinds b a h
uses_named kinds b (stmt.Work r kind a) w h = number_named kinds b a h
uses_named kinds b (stmt.Ret a) w h = returned a h
  where
    returned : (a : NumAtom) → AllByRecursion (num.IsKnown kinds) (num.num_uses (stmt.Ret a))
        → AllByRecursion (IsKnown (known_of 0 kinds)) (uses (named_stmt (stmt.Ret a)))
    returned (num_atom.Literal z) h = tt
    returned (num_atom.Local k) h = (known_named kinds b (record { place = k; wanted = of_kind.Num ∷ of_kind.Def ∷ [] }) h.0, tt)
uses_named kinds b _ w h = absurd w

calls_named : (procs : List NumProc) → ArePlaced procs → (kinds : List Kind) → length kinds ≤ 2 ^ 32 → (s : NumStmt) → IsWritable s
    → AllByRecursion (num.IsCallable procs kinds) (num.num_callees s)
    → AllByRecursion (IsCallable (named procs) (known_of 0 kinds)) (callees (named_stmt s))
calls_named procs r kinds b (stmt.Set x a op y) w h = tt
calls_named procs r kinds b (stmt.Print a) w h = tt
calls_named procs r kinds b (stmt.Ivar i) w h = tt
calls_named procs r kinds b (stmt.Offer i a) w h = tt
calls_named procs r kinds b (stmt.Upon d proc args) w h =
    (callable_named procs r kinds b (record { place = proc; front = 1; args = args }) h.0, tt)
calls_named procs r kinds b (stmt.Sched proc args) w h =
    (callable_named procs r kinds b (record { place = proc; front = 0; args = args }) h.0, tt)
calls_named procs r kinds b (stmt.Monitor k) w h = tt
calls_named procs r kinds b (stmt.Within k proc args) w h =
    (callable_named procs r kinds b (record { place = proc; front = 0; args = args }) h.0, tt)
calls_named procs r kinds b (stmt.Detach k) w h = tt
calls_named procs r kinds b (stmt.OnError k proc args) w h =
    (callable_named procs r kinds b (record { place = proc; front = 1; args = args }) h.0, tt)
calls_named procs r kinds b (stmt.Raise a) w h = tt
calls_named procs r kinds b (stmt.Work x kind a) w h = tt
calls_named procs r kinds b (stmt.Ret a) w h = tt
calls_named procs r kinds b _ w h = absurd w

prefix_named : (kinds : List Kind) → length kinds ≤ 2 ^ 32 → (p : Option NumPrefix) → AllByRecursion (num.IsKnown kinds) (num.prefix_uses p)
    → AllByRecursion (IsKnown (known_of 0 kinds)) (prefix_uses (named_prefix p))
prefix_named kinds b None h = tt
prefix_named kinds b (Some (num_prefix.If a)) h = number_named kinds b a h
prefix_named kinds b (Some (num_prefix.Unless a)) h = number_named kinds b a h

-- ---- what a statement binds
known_append : (xs ys : List Kind) (a : ℕ) → known_of a (xs ++ ys) ≡ known_of a xs ++ known_of (a + length xs) ys
known_append [] ys a = ap (λ j. known_of j ys) (plus_zero a)
  where
    plus_zero : (a : ℕ) → a ≡ a + 0
    plus_zero a = omega arith
known_append (x ∷ xs) ys a =
    ap (λ l. record { name = local_name a; kind = x } ∷ l) (known_append xs ys (a + 1) ∙ ap (λ j. known_of (a + 1) xs ++ known_of j ys) (one_in a (length xs)))
  where
    one_in : (a n : ℕ) → a + 1 + n ≡ a + suc n
    one_in a n = omega arith

grown : (kinds : List Kind) (kind : Kind) (x : ℕ) → num.AreNext (length kinds) (record { name = x; kind = kind } ∷ [])
    → known_of 0 kinds ++ record { name = local_name x; kind = kind } ∷ [] ≡ known_of 0 (kinds ++ kind ∷ [])
grown kinds kind x e =
    let first : x ≡ 0 + length kinds = ap (λ (l : List ℕ). slice_index_or l 0 0) e ∙ zero_plus (length kinds)
    in ap (λ j. known_of 0 kinds ++ record { name = local_name j; kind = kind } ∷ []) first ∙ sym (known_append kinds (kind ∷ []) 0)

same : (kinds : List Kind) → known_of 0 kinds ++ [] ≡ known_of 0 (kinds ++ [])
same kinds = append-nil (known_of 0 kinds) ∙ ap (known_of 0) (sym (append-nil kinds))

abbrev bound_kinds : NumStmt → List Kind
bound_kinds s = map (λ (p : NumParam). p.kind) (num.num_binds s)

binds_named : (kinds : List Kind) (s : NumStmt) → IsWritable s → num.AreNext (length kinds) (num.num_binds s)
    → known_of 0 kinds ++ binds (named_stmt s) ≡ known_of 0 (kinds ++ bound_kinds s)
binds_named kinds (stmt.Set x a op b) w e = grown kinds of_kind.Num x e
binds_named kinds (stmt.Print a) w e = same kinds
binds_named kinds (stmt.Ivar i) w e = grown kinds of_kind.Ivar i e
binds_named kinds (stmt.Offer i a) w e = same kinds
binds_named kinds (stmt.Upon d proc args) w e = same kinds
binds_named kinds (stmt.Sched proc args) w e = same kinds
binds_named kinds (stmt.Monitor k) w e = grown kinds of_kind.Mon k e
binds_named kinds (stmt.Within k proc args) w e = same kinds
binds_named kinds (stmt.Detach k) w e = same kinds
binds_named kinds (stmt.OnError k proc args) w e = same kinds
binds_named kinds (stmt.Raise a) w e = same kinds
binds_named kinds (stmt.Work r kind a) w e = grown kinds of_kind.Def r e
binds_named kinds (stmt.Ret a) w e = same kinds
binds_named kinds _ w e = absurd w

-- ---- procedures
lines_named : (procs : List NumProc) → ArePlaced procs → (lines : List NumStatement) (kinds : List Kind) → AreWritable lines
    → length kinds + bind_count lines ≤ 2 ^ 32 → num.LinesAreSound procs kinds lines
    → LinesAreValid (named procs) (known_of 0 kinds) (map named_statement lines)
lines_named procs r [] kinds w l h = tt
lines_named procs r (s ∷ lines) kinds w l h =
    let few : length kinds ≤ 2 ^ 32 = omega (arith, l)
    in let size : length (kinds ++ bound_kinds s.stmt) ≡ length kinds + length (num.num_binds s.stmt) =
    length-append kinds (bound_kinds s.stmt) ∙ ap (λ k. length kinds + k) (map_length (λ (p : NumParam). p.kind) (num.num_binds s.stmt))
    in (
      record {
        prefix = prefix_named kinds few s.prefix h.0.prefix;
        uses = uses_named kinds few s.stmt w.0 h.0.uses;
        calls = calls_named procs r kinds few s.stmt w.0 h.0.calls;
      },
      subst (λ (known : List Param). LinesAreValid (named procs) known (map named_statement lines)) (sym (binds_named kinds s.stmt w.0 h.0.binds))
          (lines_named procs r lines (kinds ++ bound_kinds s.stmt) w.1 (omega (arith, l, size)) h.1),
    )

params_known : (params : List NumParam) (a : ℕ) → map (λ (p : NumParam). p.name) params ≡ range_with_len a (length params)
    → map named_param params ≡ known_of a (map (λ (p : NumParam). p.kind) params)
params_known [] a e = refl
params_known (p ∷ params) a e =
    ap₂ (λ (n : ℕ) (l : List Param). record { name = local_name n; kind = p.kind } ∷ l) (ap (λ (l : List ℕ). slice_index_or l 0 0) e)
    (params_known params (a + 1) (ap (λ (l : List ℕ). drop 1 l) e))

proc_named_valid : (procs : List NumProc) → ArePlaced procs → (proc : NumProc) → IsNameable procs proc → num.ProcIsSound procs proc
    → ProcIsValid (named procs) (named_proc proc)
proc_named_valid procs r proc w h =
    record {
      locals = subst AreDistinct (sym (locals_are procs proc w.writable h))
          (distinct local_name locals_named (local_count proc) 0 (omega (arith, w.locals_few)));
      lines = subst (λ (known : List Param). LinesAreValid (named procs) known (map named_statement proc.body)) (sym (params_known proc.params 0 h.params))
          (lines_named procs r proc.body (kinds_in proc) w.writable
          (omega (arith, w.locals_few, map_length (λ (p : NumParam). p.kind) proc.params)) h.lines);
    }

procs_named_valid : (all : List NumProc) → ArePlaced all → (procs : List NumProc) → AllByRecursion (IsNameable all) procs
    → AllByRecursion (num.ProcIsSound all) procs → AllByRecursion (ProcIsValid (named all)) (named procs)
procs_named_valid all r [] w h = tt
procs_named_valid all r (proc ∷ procs) w h = (proc_named_valid all r proc w.0 h.0, procs_named_valid all r procs w.1 h.1)

-- the script of a compiled source is valid
pub script_is_valid : (p : Source) → Compiles p → Valid (named (compiled p))
script_is_valid p h =
    let sound = is_sound p h
    in let few : length (compiled p) ≤ 2 ^ 32 = omega (arith, procs_few p h)
    in let placed : ArePlaced (compiled p) = record { places = sound.places; few = few }
    in record {
      main = refl;
      procs = subst AreDistinct (sym (names_are (compiled p) ∙ ap (map proc_name) sound.places))
          (distinct proc_name procs_named (length (compiled p)) 0 (omega (arith, few)));
      each = procs_named_valid (compiled p) placed (compiled p) (are_nameable p h) sound.each;
    }
