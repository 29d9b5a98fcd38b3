-- The names of a program give back its numbers.
use Rattle.std.proofs.Common.{ℕ, zero, suc, ◌+◌, ◌<◌, ◌≤◌, ◌^◌, ◌≡◌, ◌≢◌, List, [], ◌∷◌, ◌++◌, length, map, drop, true, false, cond, not, Option, Some, None, slice_index_or, MatchOption, refl, ap, ap₂, sym, ◌∙◌, arith, decimal, flat_map, length-append}
use Rattle.std.specs.Prelude.{slice_get, codes}
use Rattle.std.specs.List.{AllByRecursion, AllZip, Any as AnyOf, range_with_len}
use Rattle.std.specs.Str.{bytes_eq}
use Rattle.std.proofs.lemmas.Fmt.{decimal_injective}
use Rattle.std.proofs.lemmas.Bool.{false_from_ne_true}
use Rattle.std.proofs.lemmas.Slice.Eq.{bytes_eq-Decides}
use Rattle.std.proofs.lemmas.List.{map-append}
use Rattle.ak_script.specs.Kinds.{Serves}
use Rattle.ak_script.specs.declared.script.Kind.{Kind}
use Rattle.ak_script.specs.declared.script.Kind.TheVariants as of_kind
use Rattle.ak_script.specs.declared.script.Param.{Param}
use Rattle.ak_script.specs.declared.script.Statement.{Statement}
use Rattle.ak_program.specs.declared.program.NumPrefix.{NumPrefix}
use Rattle.ak_program.specs.declared.program.NumPrefix.TheVariants as num_prefix
use Rattle.ak_program.specs.declared.program.NumParam.{NumParam}
use Rattle.ak_program.specs.declared.program.NumStatement.{NumStatement}
use Rattle.ak_program.specs.declared.program.NumProc.{NumProc}
use Rattle.ak_program.specs.declared.statement.NumAtom.{NumAtom}
use Rattle.ak_program.specs.declared.statement.NumAtom.TheVariants as num_atom
use Rattle.ak_program.specs.declared.statement.NumStmt.{NumStmt}
use Rattle.ak_program.specs.declared.statement.NumStmt.TheVariants as stmt
use Rattle.ak_labor.specs.declared.work.WorkKind.{WorkKind}
use Rattle.ak_labor.specs.declared.work.WorkKind.TheVariants as work
use Rattle.ak_program.specs.Programs.{NumUse, NumCallee, local, number, num_uses, num_callees, num_binds, IsKnown, IsPassed, Takes, IsCallable, prefix_uses, AreNext, LinesAreSound, ProcIsSound, ProgramIsSound}
use Rattle.ak_script.specs.Statements.{binds}
use Rattle.ak_syntax.specs.Grammar.{locals}
use Rattle.ak_valid.specs.Numbered.{at, work_kind, numbered_atom, numbered_stmt, numbered_prefix, numbered_statement, numbered_param, param_names, numbered_proc, proc_names, numbered, main_of}
use Rattle.ak_let_text.specs.Named.{proc_name, local_name, named_atom, work_word, named_stmt, named_prefix, named_statement, named_param, named_proc, named}

-- ---- a name's place
pub yes : (xs ys : List ℕ) → xs ≡ ys → bytes_eq xs ys ≡ true
yes xs ys e = (bytes_eq-Decides xs ys).1 e

pub no_other : (xs ys : List ℕ) → xs ≢ ys → bytes_eq xs ys ≡ false
no_other xs ys e = false_from_ne_true (bytes_eq xs ys) (λ t. e ((bytes_eq-Decides xs ys).0 t))

-- names of numbers, of which no two are equal below a bound
abbrev pub IsNaming : (ℕ → List ℕ) → Type 0
IsNaming f = (m n : ℕ) → m < 2 ^ 32 → n < 2 ^ 32 → f m ≡ f n → m ≡ n

place_of : (f : ℕ → List ℕ) → IsNaming f → (n a k : ℕ) → k < n → a + n ≤ 2 ^ 32 → at (map f (range_with_len a n)) (f (a + k)) ≡ k
place_of f inj zero a k l b = absurd (omega (arith, l))
place_of f inj (suc n) a zero l b =
    ap (λ t. cond (not t) (1 + at (map f (range_with_len (a + 1) n)) (f (a + 0))) 0) (yes (f (a + 0)) (f a) (ap f (plus_zero a)))
  where
    plus_zero : (a : ℕ) → a + 0 ≡ a
    plus_zero a = omega arith
place_of f inj (suc n) a (suc k) l b =
    ap (λ t. cond (not t) (1 + at (map f (range_with_len (a + 1) n)) (f (a + suc k))) 0)
    (no_other (f (a + suc k)) (f a) (λ e. let x : a + suc k ≡ a = inj (a + suc k) a (omega (arith, l, b)) (omega (arith, b)) e in omega (arith, x)))
    ∙ ap (λ j. 1 + at (map f (range_with_len (a + 1) n)) (f j)) (plus_suc a k)
    ∙ ap (λ j. 1 + j) (place_of f inj n (a + 1) k (omega (arith, l)) (omega (arith, b)))
    ∙ one_plus k
  where
    plus_suc : (a k : ℕ) → a + suc k ≡ (a + 1) + k
    plus_suc a k = omega arith

    one_plus : (k : ℕ) → 1 + k ≡ suc k
    one_plus k = omega arith

place_is : (f : ℕ → List ℕ) → IsNaming f → (n k : ℕ) → k < n → n ≤ 2 ^ 32 → at (map f (range_with_len 0 n)) (f k) ≡ k
place_is f inj n k l b = ap (λ j. at (map f (range_with_len 0 n)) (f j)) (zero_plus k) ∙ place_of f inj n 0 k l (omega (arith, b))
  where
    zero_plus : (k : ℕ) → k ≡ 0 + k
    zero_plus k = omega arith

pub locals_named : IsNaming local_name
locals_named m n a b e = decimal_injective m n (omega (arith, a)) (omega (arith, b)) cc

head : List ℕ → ℕ
head xs = slice_index_or xs 0 0

pub procs_named : IsNaming proc_name
procs_named zero zero a b e = refl
procs_named zero (suc n) a b e = absurd (differ e)
  where
    differ : codes "main" ≡ 112 ∷ decimal (suc n) → ⊥
    differ e = let h : 109 ≡ 112 = ap (λ (xs : List ℕ). slice_index_or xs 0 0) e in omega (arith, h)
procs_named (suc m) zero a b e = absurd (differ e)
  where
    differ : 112 ∷ decimal (suc m) ≡ codes "main" → ⊥
    differ e = let h : 112 ≡ 109 = ap (λ (xs : List ℕ). slice_index_or xs 0 0) e in omega (arith, h)
procs_named (suc m) (suc n) a b e = decimal_injective (suc m) (suc n) (omega (arith, a)) (omega (arith, b)) (ap (λ (xs : List ℕ). drop 1 xs) e)

-- ---- what fits n locals and m procedures
abbrev pub AtomFits : ℕ → NumAtom → Type 0
AtomFits n (num_atom.Literal z) = Unit {0}
AtomFits n (num_atom.Local k) = k < n

abbrev pub PrefixFits : ℕ → Option NumPrefix → Type 0
PrefixFits n None = Unit {0}
PrefixFits n (Some (num_prefix.If a)) = AtomFits n a
PrefixFits n (Some (num_prefix.Unless a)) = AtomFits n a

abbrev pub StmtFits : ℕ → ℕ → NumStmt → Type 0
StmtFits n m (stmt.Set x a op b) = (x < n) × AtomFits n a × AtomFits n b
StmtFits n m (stmt.Print a) = AtomFits n a
StmtFits n m (stmt.Ivar i) = i < n
StmtFits n m (stmt.Offer i a) = (i < n) × AtomFits n a
StmtFits n m (stmt.Upon d proc args) = (d < n) × (proc < m) × AllByRecursion (AtomFits n) args
StmtFits n m (stmt.Sched proc args) = (proc < m) × AllByRecursion (AtomFits n) args
StmtFits n m (stmt.Monitor k) = k < n
StmtFits n m (stmt.Within k proc args) = (k < n) × (proc < m) × AllByRecursion (AtomFits n) args
StmtFits n m (stmt.Detach k) = k < n
StmtFits n m (stmt.OnError k proc args) = (k < n) × (proc < m) × AllByRecursion (AtomFits n) args
StmtFits n m (stmt.Raise a) = AtomFits n a
StmtFits n m (stmt.Work r kind a) = (r < n) × AtomFits n a
StmtFits n m (stmt.Ret a) = AtomFits n a
StmtFits n m _ = ⊥

abbrev local_names : ℕ → List (List ℕ)
local_names n = map local_name (range_with_len 0 n)

abbrev proc_names_to : ℕ → List (List ℕ)
proc_names_to m = map proc_name (range_with_len 0 m)

local_back : (n k : ℕ) → n ≤ 2 ^ 32 → k < n → at (local_names n) (local_name k) ≡ k
local_back n k b l = place_is local_name locals_named n k l b

proc_back : (m k : ℕ) → m ≤ 2 ^ 32 → k < m → at (proc_names_to m) (proc_name k) ≡ k
proc_back m k b l = place_is proc_name procs_named m k l b

atom_back : (n : ℕ) → n ≤ 2 ^ 32 → (a : NumAtom) → AtomFits n a → numbered_atom (local_names n) (named_atom a) ≡ a
atom_back n b (num_atom.Literal z) h = refl
atom_back n b (num_atom.Local k) h = ap num_atom.Local (local_back n k b h)

args_back : (n : ℕ) → n ≤ 2 ^ 32 → (args : List NumAtom) → AllByRecursion (AtomFits n) args → map (numbered_atom (local_names n)) (map named_atom args) ≡ args
args_back n b [] h = refl
args_back n b (a ∷ args) h = ap₂ (λ x xs. x ∷ xs) (atom_back n b a h.0) (args_back n b args h.1)

kind_back : (kind : WorkKind) → work_kind (work_word kind) ≡ kind
kind_back work.Square = refl
kind_back work.Mix = refl
kind_back work.Fail = refl

prefix_back : (n : ℕ) → n ≤ 2 ^ 32 → (p : Option NumPrefix) → PrefixFits n p → numbered_prefix (local_names n) (named_prefix p) ≡ p
prefix_back n b None h = refl
prefix_back n b (Some (num_prefix.If a)) h = ap (λ x. Some (num_prefix.If x)) (atom_back n b a h)
prefix_back n b (Some (num_prefix.Unless a)) h = ap (λ x. Some (num_prefix.Unless x)) (atom_back n b a h)

stmt_back : (n m : ℕ) → n ≤ 2 ^ 32 → m ≤ 2 ^ 32 → (s : NumStmt) → StmtFits n m s → numbered_stmt (proc_names_to m) (local_names n) (named_stmt s) ≡ s
stmt_back n m b c (stmt.Set x a op y) h =
    ap (λ k. stmt.Set k (numbered_atom (local_names n) (named_atom a)) op (numbered_atom (local_names n) (named_atom y))) (local_back n x b h.0)
    ∙ ap₂ (λ u v. stmt.Set x u op v) (atom_back n b a h.1) (atom_back n b y h.2)
stmt_back n m b c (stmt.Print a) h = ap stmt.Print (atom_back n b a h)
stmt_back n m b c (stmt.Ivar i) h = ap stmt.Ivar (local_back n i b h)
stmt_back n m b c (stmt.Offer i a) h = ap₂ stmt.Offer (local_back n i b h.0) (atom_back n b a h.1)
stmt_back n m b c (stmt.Upon d proc args) h =
    ap (λ k. stmt.Upon k (at (proc_names_to m) (proc_name proc)) (map (numbered_atom (local_names n)) (map named_atom args))) (local_back n d b h.0)
    ∙ ap₂ (λ u v. stmt.Upon d u v) (proc_back m proc c h.1) (args_back n b args h.2)
stmt_back n m b c (stmt.Sched proc args) h = ap₂ stmt.Sched (proc_back m proc c h.0) (args_back n b args h.1)
stmt_back n m b c (stmt.Monitor k) h = ap stmt.Monitor (local_back n k b h)
stmt_back n m b c (stmt.Within d proc args) h =
    ap (λ k. stmt.Within k (at (proc_names_to m) (proc_name proc)) (map (numbered_atom (local_names n)) (map named_atom args))) (local_back n d b h.0)
    ∙ ap₂ (λ u v. stmt.Within d u v) (proc_back m proc c h.1) (args_back n b args h.2)
stmt_back n m b c (stmt.Detach k) h = ap stmt.Detach (local_back n k b h)
stmt_back n m b c (stmt.OnError d proc args) h =
    ap (λ k. stmt.OnError k (at (proc_names_to m) (proc_name proc)) (map (numbered_atom (local_names n)) (map named_atom args))) (local_back n d b h.0)
    ∙ ap₂ (λ u v. stmt.OnError d u v) (proc_back m proc c h.1) (args_back n b args h.2)
stmt_back n m b c (stmt.Raise a) h = ap stmt.Raise (atom_back n b a h)
stmt_back n m b c (stmt.Work r kind a) h =
    ap (λ k. stmt.Work k (work_kind (work_word kind)) (numbered_atom (local_names n) (named_atom a))) (local_back n r b h.0)
    ∙ ap₂ (λ u v. stmt.Work r u v) (kind_back kind) (atom_back n b a h.1)
stmt_back n m b c (stmt.Ret a) h = ap stmt.Ret (atom_back n b a h)
stmt_back n m b c _ h = absurd h

-- ---- sound statements fit
abbrev pub IsWritable : NumStmt → Type 0
IsWritable (stmt.Set x a op b) = Unit {0}
IsWritable (stmt.Print a) = Unit {0}
IsWritable (stmt.Ivar i) = Unit {0}
IsWritable (stmt.Offer i a) = Unit {0}
IsWritable (stmt.Upon d proc args) = Unit {0}
IsWritable (stmt.Sched proc args) = Unit {0}
IsWritable (stmt.Monitor k) = Unit {0}
IsWritable (stmt.Within k proc args) = Unit {0}
IsWritable (stmt.Detach k) = Unit {0}
IsWritable (stmt.OnError k proc args) = Unit {0}
IsWritable (stmt.Raise a) = Unit {0}
IsWritable (stmt.Work r kind a) = Unit {0}
IsWritable (stmt.Ret a) = Unit {0}
IsWritable _ = ⊥

get_below : {X : Type 0} (xs : List X) (k : ℕ) (x : X) → slice_get xs k ≡ Some x → k < length xs
get_below [] k x e = absurd cc
get_below (y ∷ xs) zero x e = omega arith
get_below (y ∷ xs) (suc k) x e = omega (arith, get_below xs k x e)

known_below : (kinds : List Kind) (u : NumUse) → IsKnown kinds u → u.place < length kinds
known_below kinds u h = by (slice_get kinds u.place) refl h
  where
    by : (o : Option Kind) → slice_get kinds u.place ≡ o → MatchOption o ⊥ (λ kind. AnyOf (Serves kind) u.wanted) → u.place < length kinds
    by None e h = absurd h
    by (Some k) e h = get_below kinds u.place k e

number_fits : (kinds : List Kind) (n : ℕ) (a : NumAtom) → length kinds ≤ n → AllByRecursion (IsKnown kinds) (number a) → AtomFits n a
number_fits kinds n (num_atom.Literal z) l h = tt
number_fits kinds n (num_atom.Local k) l h = omega (arith, l, known_below kinds (local k of_kind.Num) h.0)

passed_fits : (kinds : List Kind) (n : ℕ) → length kinds ≤ n → (args : List NumAtom) (params : List NumParam) → AllZip (IsPassed kinds) args params
    → AllByRecursion (AtomFits n) args
passed_fits kinds n l [] params h = tt
passed_fits kinds n l (a ∷ args) [] h = absurd h
passed_fits kinds n l (num_atom.Literal z ∷ args) (p ∷ params) h = (tt, passed_fits kinds n l args params h.1)
passed_fits kinds n l (num_atom.Local k ∷ args) (p ∷ params) h =
    (omega (arith, l, known_below kinds (local k p.kind) h.0), passed_fits kinds n l args params h.1)

callable_fits : (procs : List NumProc) (kinds : List Kind) (n : ℕ) (callee : NumCallee) → length kinds ≤ n → IsCallable procs kinds callee
    → (callee.place < length procs) × AllByRecursion (AtomFits n) callee.args
callable_fits procs kinds n callee l h = by (slice_get procs callee.place) refl h
  where
    by : (o : Option NumProc) → slice_get procs callee.place ≡ o → MatchOption o ⊥ (λ proc. Takes kinds proc.params callee)
        → (callee.place < length procs) × AllByRecursion (AtomFits n) callee.args
    by None e h = absurd h
    by (Some proc) e h = (get_below procs callee.place proc e, passed_fits kinds n l callee.args (drop callee.front proc.params) h.args)

pub all_split : {X : Type 0} (P : X → Type 0) (xs ys : List X) → AllByRecursion P (xs ++ ys) → AllByRecursion P xs × AllByRecursion P ys
all_split P [] ys h = (tt, h)
all_split P (x ∷ xs) ys h = let r = all_split P xs ys h.1 in ((h.0, r.0), r.1)

next_is : (kinds : List Kind) (x : ℕ) (kind : Kind) → AreNext (length kinds) (record { name = x; kind = kind } ∷ []) → x ≡ length kinds
next_is kinds x kind e = ap (λ (xs : List ℕ). slice_index_or xs 0 0) e

pub prefix_fits : (kinds : List Kind) (n : ℕ) (p : Option NumPrefix) → length kinds ≤ n → AllByRecursion (IsKnown kinds) (prefix_uses p) → PrefixFits n p
prefix_fits kinds n None l h = tt
prefix_fits kinds n (Some (num_prefix.If a)) l h = number_fits kinds n a l h
prefix_fits kinds n (Some (num_prefix.Unless a)) l h = number_fits kinds n a l h

pub stmt_fits : (procs : List NumProc) (kinds : List Kind) (n : ℕ) (s : NumStmt) → IsWritable s → AllByRecursion (IsKnown kinds) (num_uses s)
    → AllByRecursion (IsCallable procs kinds) (num_callees s) → AreNext (length kinds) (num_binds s) → length kinds + length (num_binds s) ≤ n
    → StmtFits n (length procs) s
stmt_fits procs kinds n (stmt.Set x a op b) w u c e l =
    let r = all_split (IsKnown kinds) (number a) (number b) u
    in (omega (arith, l, next_is kinds x of_kind.Num e), number_fits kinds n a (omega (arith, l)) r.0, number_fits kinds n b (omega (arith, l)) r.1)
stmt_fits procs kinds n (stmt.Print a) w u c e l = number_fits kinds n a (omega (arith, l)) u
stmt_fits procs kinds n (stmt.Ivar i) w u c e l = omega (arith, l, next_is kinds i of_kind.Ivar e)
stmt_fits procs kinds n (stmt.Offer i a) w u c e l =
    (omega (arith, l, known_below kinds (local i of_kind.Ivar) u.0), number_fits kinds n a (omega (arith, l)) u.1)
stmt_fits procs kinds n (stmt.Upon d proc args) w u c e l =
    let r = callable_fits procs kinds n (record { place = proc; front = 1; args = args }) (omega (arith, l)) c.0 in
    (omega (arith, l, known_below kinds (local d of_kind.Def) u.0), r.0, r.1)
stmt_fits procs kinds n (stmt.Sched proc args) w u c e l =
    let r = callable_fits procs kinds n (record { place = proc; front = 0; args = args }) (omega (arith, l)) c.0 in (r.0, r.1)
stmt_fits procs kinds n (stmt.Monitor k) w u c e l = omega (arith, l, next_is kinds k of_kind.Mon e)
stmt_fits procs kinds n (stmt.Within k proc args) w u c e l =
    let r = callable_fits procs kinds n (record { place = proc; front = 0; args = args }) (omega (arith, l)) c.0 in
    (omega (arith, l, known_below kinds (local k of_kind.Mon) u.0), r.0, r.1)
stmt_fits procs kinds n (stmt.Detach k) w u c e l = omega (arith, l, known_below kinds (local k of_kind.Mon) u.0)
stmt_fits procs kinds n (stmt.OnError k proc args) w u c e l =
    let r = callable_fits procs kinds n (record { place = proc; front = 1; args = args }) (omega (arith, l)) c.0 in
    (omega (arith, l, known_below kinds (local k of_kind.Mon) u.0), r.0, r.1)
stmt_fits procs kinds n (stmt.Raise a) w u c e l = number_fits kinds n a (omega (arith, l)) u
stmt_fits procs kinds n (stmt.Work r kind a) w u c e l = (omega (arith, l, next_is kinds r of_kind.Def e), number_fits kinds n a (omega (arith, l)) u)
stmt_fits procs kinds n (stmt.Ret a) w u c e l = ret a u
  where
    ret : (a : NumAtom) → AllByRecursion (IsKnown kinds) (num_uses (stmt.Ret a)) → AtomFits n a
    ret (num_atom.Literal z) u = tt
    ret (num_atom.Local k) u = omega (arith, l, known_below kinds (record { place = k; wanted = of_kind.Num ∷ of_kind.Def ∷ [] }) u.0)
stmt_fits procs kinds n _ w u c e l = absurd w

-- ---- procedures
abbrev pub bind_count : List NumStatement → ℕ
bind_count [] = 0
bind_count (s ∷ lines) = length (num_binds s.stmt) + bind_count lines

abbrev pub AreWritable : List NumStatement → Type 0
AreWritable lines = AllByRecursion (λ (s : NumStatement). IsWritable s.stmt) lines

abbrev name_of : Param → List ℕ
name_of p = p.name

abbrev place_in : NumParam → ℕ
place_in p = p.name

bound_names : (s : NumStmt) → IsWritable s → map name_of (binds (named_stmt s)) ≡ map local_name (map place_in (num_binds s))
bound_names (stmt.Set x a op b) w = refl
bound_names (stmt.Print a) w = refl
bound_names (stmt.Ivar i) w = refl
bound_names (stmt.Offer i a) w = refl
bound_names (stmt.Upon d proc args) w = refl
bound_names (stmt.Sched proc args) w = refl
bound_names (stmt.Monitor k) w = refl
bound_names (stmt.Within k proc args) w = refl
bound_names (stmt.Detach k) w = refl
bound_names (stmt.OnError k proc args) w = refl
bound_names (stmt.Raise a) w = refl
bound_names (stmt.Work r kind a) w = refl
bound_names (stmt.Ret a) w = refl
bound_names _ w = absurd w

range_plus : (n m a : ℕ) → range_with_len a (n + m) ≡ range_with_len a n ++ range_with_len (a + n) m
range_plus zero m a = ap₂ range_with_len (plus_zero a) (zero_plus m)
  where
    plus_zero : (a : ℕ) → a ≡ a + 0
    plus_zero a = omega arith

    zero_plus : (m : ℕ) → 0 + m ≡ m
    zero_plus m = omega arith
range_plus (suc n) m a =
    ap (range_with_len a) (suc_plus n m) ∙ ap (λ l. a ∷ l) (range_plus n m (a + 1) ∙ ap (λ j. range_with_len (a + 1) n ++ range_with_len j m) (one_in a n))
  where
    suc_plus : (n m : ℕ) → suc n + m ≡ suc (n + m)
    suc_plus n m = omega arith

    one_in : (a n : ℕ) → a + 1 + n ≡ a + suc n
    one_in a n = omega arith

pub map_length : {X Y : Type 0} (f : X → Y) (xs : List X) → length (map f xs) ≡ length xs
map_length f [] = refl
map_length f (x ∷ xs) = ap suc (map_length f xs)

-- the names that lines bind are the next ones
names_bound : (procs : List NumProc) (lines : List NumStatement) (kinds : List Kind) → AreWritable lines → LinesAreSound procs kinds lines
    → map name_of (flat_map (λ (st : Statement). binds st.stmt) (map named_statement lines))
    ≡ map local_name (range_with_len (length kinds) (bind_count lines))
names_bound procs [] kinds w h = refl
names_bound procs (s ∷ lines) kinds w h =
    let more : List Kind = map (λ (p : NumParam). p.kind) (num_binds s.stmt)
    in let size : length (kinds ++ more) ≡ length kinds + length (num_binds s.stmt) =
    length-append kinds more ∙ ap (λ k. length kinds + k) (map_length (λ (p : NumParam). p.kind) (num_binds s.stmt))
    in map-append name_of (binds (named_stmt s.stmt)) (flat_map (λ (st : Statement). binds st.stmt) (map named_statement lines))
    ∙ ap₂ (λ xs ys. xs ++ ys)
    (bound_names s.stmt w.0 ∙ ap (map local_name) h.0.binds)
    (names_bound procs lines (kinds ++ more) w.1 h.1 ∙ ap (λ k. map local_name (range_with_len k (bind_count lines))) size)
    ∙ sym
    (map-append local_name (range_with_len (length kinds) (length (num_binds s.stmt)))
    (range_with_len (length kinds + length (num_binds s.stmt)) (bind_count lines)))
    ∙ ap (map local_name) (sym (range_plus (length (num_binds s.stmt)) (bind_count lines) (length kinds)))

lines_back : (procs : List NumProc) (n : ℕ) → n ≤ 2 ^ 32 → length procs ≤ 2 ^ 32 → (lines : List NumStatement) (kinds : List Kind) → AreWritable lines
    → LinesAreSound procs kinds lines → length kinds + bind_count lines ≤ n
    → map (numbered_statement (proc_names_to (length procs)) (local_names n)) (map named_statement lines) ≡ lines
lines_back procs n b c [] kinds w h l = refl
lines_back procs n b c (s ∷ lines) kinds w h l =
    let more : List Kind = map (λ (p : NumParam). p.kind) (num_binds s.stmt)
    in let size : length (kinds ++ more) ≡ length kinds + length (num_binds s.stmt) =
    length-append kinds more ∙ ap (λ k. length kinds + k) (map_length (λ (p : NumParam). p.kind) (num_binds s.stmt))
    in let fits : StmtFits n (length procs) s.stmt = stmt_fits procs kinds n s.stmt w.0 h.0.uses h.0.calls h.0.binds (omega (arith, l))
    in let before : PrefixFits n s.prefix = prefix_fits kinds n s.prefix (omega (arith, l)) h.0.prefix
    in ap₂ (λ x xs. x ∷ xs)
    (ap₂ (λ (p : Option NumPrefix) (t : NumStmt). record { line = s.line; prefix = p; stmt = t }) (prefix_back n b s.prefix before)
    (stmt_back n (length procs) b c s.stmt fits))
    (lines_back procs n b c lines (kinds ++ more) w.1 h.1 (omega (arith, l, size)))

params_back : (n : ℕ) → n ≤ 2 ^ 32 → (params : List NumParam) (a : ℕ) → map place_in params ≡ range_with_len a (length params) → a + length params ≤ n
    → map (numbered_param (local_names n)) (map named_param params) ≡ params
params_back n b [] a e l = refl
params_back n b (p ∷ params) a e l =
    let first : p.name ≡ a = ap (λ (xs : List ℕ). slice_index_or xs 0 0) e
    in ap₂ (λ x xs. x ∷ xs)
    (ap (λ k. record { name = k; kind = p.kind }) (local_back n p.name b (omega (arith, first, l))))
    (params_back n b params (a + 1) (ap (λ (xs : List ℕ). drop 1 xs) e) (omega (arith, l)))

param_places : (params : List NumParam) → map name_of (map named_param params) ≡ map local_name (map place_in params)
param_places [] = refl
param_places (p ∷ params) = ap (λ l. local_name p.name ∷ l) (param_places params)

abbrev pub local_count : NumProc → ℕ
local_count proc = length proc.params + bind_count proc.body

abbrev pub kinds_in : NumProc → List Kind
kinds_in proc = map (λ (p : NumParam). p.kind) proc.params

pub locals_are : (procs : List NumProc) (proc : NumProc) → AreWritable proc.body → ProcIsSound procs proc
    → param_names (locals (named_proc proc)) ≡ local_names (local_count proc)
locals_are procs proc w h =
    let size : length (kinds_in proc) ≡ length proc.params = map_length (λ (p : NumParam). p.kind) proc.params
    in map-append name_of (map named_param proc.params) (flat_map (λ (st : Statement). binds st.stmt) (map named_statement proc.body))
    ∙ ap₂ (λ xs ys. xs ++ ys) (param_places proc.params ∙ ap (map local_name) h.params)
    (names_bound procs proc.body (kinds_in proc) w h.lines
    ∙ ap (λ k. map local_name (range_with_len k (bind_count proc.body))) (size ∙ zero_plus (length proc.params)))
    ∙ sym (map-append local_name (range_with_len 0 (length proc.params)) (range_with_len (0 + length proc.params) (bind_count proc.body)))
    ∙ ap (map local_name) (sym (range_plus (length proc.params) (bind_count proc.body) 0))
  where
    zero_plus : (k : ℕ) → k ≡ 0 + k
    zero_plus k = omega arith

proc_back_whole : (procs : List NumProc) (proc : NumProc) → length procs ≤ 2 ^ 32 → local_count proc ≤ 2 ^ 32 → proc.name < length procs
    → AreWritable proc.body → ProcIsSound procs proc → numbered_proc (proc_names_to (length procs)) (named_proc proc) ≡ proc
proc_back_whole procs proc c b l w h =
    let n : ℕ = local_count proc
    in let size : length (kinds_in proc) ≡ length proc.params = map_length (λ (p : NumParam). p.kind) proc.params
    in
    ap
    (λ names. record {
      name = at (proc_names_to (length procs)) (proc_name proc.name);
      line = proc.line;
      params = map (numbered_param names) (map named_param proc.params);
      body = map (numbered_statement (proc_names_to (length procs)) names) (map named_statement proc.body);
    })
    (locals_are procs proc w h)
    ∙ ap
    (λ k. record {
      name = k;
      line = proc.line;
      params = map (numbered_param (local_names n)) (map named_param proc.params);
      body = map (numbered_statement (proc_names_to (length procs)) (local_names n)) (map named_statement proc.body);
    })
    (proc_back (length procs) proc.name c l)
    ∙ ap₂ (λ ps ls. record { name = proc.name; line = proc.line; params = ps; body = ls })
    (params_back n b proc.params 0 h.params (omega arith))
    (lines_back procs n b c proc.body (kinds_in proc) w h.lines (omega (arith, size)))

-- ---- the program
pub record IsNameable (procs : List NumProc) (proc : NumProc) : Type 0 where
  pub locals_few : local_count proc ≤ 2 ^ 32
  pub writable : AreWritable proc.body

procs_back : (all procs : List NumProc) (a : ℕ) → length all ≤ 2 ^ 32 → map (λ (p : NumProc). p.name) procs ≡ range_with_len a (length procs)
    → a + length procs ≤ length all → AllByRecursion (IsNameable all) procs → AllByRecursion (ProcIsSound all) procs
    → map (numbered_proc (proc_names_to (length all))) (map named_proc procs) ≡ procs
procs_back all [] a c e l w h = refl
procs_back all (proc ∷ procs) a c e l w h =
    let first : proc.name ≡ a = ap (λ (xs : List ℕ). slice_index_or xs 0 0) e
    in ap₂ (λ x xs. x ∷ xs)
    (proc_back_whole all proc c w.0.locals_few (omega (arith, first, l)) w.0.writable h.0)
    (procs_back all procs (a + 1) c (ap (λ (xs : List ℕ). drop 1 xs) e) (omega (arith, l)) w.1 h.1)

pub names_are : (procs : List NumProc) → proc_names (named procs) ≡ map proc_name (map (λ (p : NumProc). p.name) procs)
names_are [] = refl
names_are (proc ∷ procs) = ap (λ l. proc_name proc.name ∷ l) (names_are procs)

-- a valid program of these statements is what its script is numbered to
pub numbers_back : (procs : List NumProc) → length procs ≤ 2 ^ 32 → AllByRecursion (IsNameable procs) procs → ProgramIsSound procs 0 None
    → numbered (named procs) ≡ procs
numbers_back procs c w h =
    ap (λ names. map (numbered_proc names) (named procs)) (names_are procs ∙ ap (map proc_name) h.places)
    ∙ procs_back procs procs 0 c h.places (omega arith) w h.each

pub main_back : (procs : List NumProc) → length procs ≤ 2 ^ 32 → ProgramIsSound procs 0 None → main_of (named procs) ≡ 0
main_back procs c h =
    ap (λ names. at names (codes "main")) (names_are procs ∙ ap (map proc_name) h.places)
    ∙ proc_back (length procs) 0 c (some procs h.begins)
  where
    some : (procs : List NumProc) → MatchOption (slice_get procs 0) ⊥ (λ (proc : NumProc). proc.params ≡ []) → 0 < length procs
    some [] b = absurd b
    some (p ∷ ps) b = omega arith
