-- The compiled program is valid.
use Rattle.std.proofs.Common.{ℕ, pos, zero, suc, ◌+◌, ◌<◌, ◌≤◌, ◌≡◌, inl, inr, List, [], ◌∷◌, ◌++◌, length, map, Option, Some, None, slice_index_or, MatchOption, refl, ap, sym, ◌∙◌, subst, arith, append_assoc, append-nil, length-append}
use Rattle.std.specs.Prelude.{slice_get}
use Rattle.std.specs.List.{AllByRecursion, AllZip, Any as AnyOf, range_with_len}
use Rattle.ak_script.specs.Kinds.{Serves}
use Rattle.ak_script.specs.declared.script.Kind.{Kind}
use Rattle.ak_script.specs.declared.script.Kind.TheVariants as of_kind
use Rattle.ak_program.specs.declared.statement.NumAtom.{NumAtom}
use Rattle.ak_program.specs.declared.statement.NumAtom.TheVariants.{Literal, Local}
use Rattle.ak_program.specs.declared.statement.NumStmt.{NumStmt}
use Rattle.ak_program.specs.declared.statement.NumStmt.TheVariants as stmt
use Rattle.ak_program.specs.declared.program.NumParam.{NumParam}
use Rattle.ak_program.specs.declared.program.NumStatement.{NumStatement}
use Rattle.ak_program.specs.declared.program.NumProc.{NumProc}
use Rattle.ak_program.specs.Programs.{NumCallee, num_binds, MayHavePrefix, number, IsKnown, IsPassed, Takes, IsCallable, prefix_uses, AreNext, LinesAreSound, ProcIsSound, ProgramIsSound}
use Rattle.ak_let.specs.declared.source.Atom.{Atom}
use Rattle.ak_let.specs.declared.source.Atom.TheVariants.{Given, Known}
use Rattle.ak_let.specs.declared.source.Line.{Line}
use Rattle.ak_let.specs.declared.source.Line.TheVariants.{Let, Compute, Print, Raise, Return, Await, AwaitWork, Try}
use Rattle.ak_let.specs.declared.source.Fun.{Fun}
use Rattle.ak_let.specs.declared.source.Source.{Source}
use Rattle.ak_let.specs.Compile.{Piece, atom, when_holds, plain, guarded, resumed, written, locals_from, begin, params_from, piece, line_behind, further, fun_procs, awaits, entry_from, line_after, funs_procs, starter, compiled}
use Rattle.ak_let.specs.Correct.{Callable, bound_by, FunIsWithin, CallsFit, FunIsSound, IsSound, IsKnownAtom, IsKnownWhen, LinesAreScoped, FunIsScoped}
use Rattle.ak_let.proofs.Placed.{length_fun}

-- ---- lists
all_both : {X : Type 0} (P : X → Type 0) (xs ys : List X) → AllByRecursion P xs → AllByRecursion P ys → AllByRecursion P (xs ++ ys)
all_both P [] ys a b = b
all_both P (x ∷ xs) ys a b = (a.0, all_both P xs ys a.1 b)

all_mapped : {X : Type 0} (P Q : X → Type 0) → ((x : X) → P x → Q x) → (xs : List X) → AllByRecursion P xs → AllByRecursion Q xs
all_mapped P Q h [] a = tt
all_mapped P Q h (x ∷ xs) a = (h x a.0, all_mapped P Q h xs a.1)

all_nth : {X : Type 0} (P : X → Type 0) (xs : List X) (k : ℕ) (d : X) → AllByRecursion P xs → k < length xs → P (slice_index_or xs k d)
all_nth P [] k d a l = absurd (omega (arith, l))
all_nth P (x ∷ xs) zero d a l = a.0
all_nth P (x ∷ xs) (suc k) d a l = all_nth P xs k d a.1 (omega (arith, l))

get_more : {X : Type 0} (xs ys : List X) (k : ℕ) (x : X) → slice_get xs k ≡ Some x → slice_get (xs ++ ys) k ≡ Some x
get_more [] ys k x e = absurd cc
get_more (y ∷ xs) ys zero x e = e
get_more (y ∷ xs) ys (suc k) x e = get_more xs ys k x e

get_seam : {X : Type 0} (xs ys : List X) (x : X) (k : ℕ) → length xs ≡ k → slice_get (xs ++ x ∷ ys) k ≡ Some x
get_seam [] ys x k e = subst (λ n. slice_get (x ∷ ys) n ≡ Some x) e refl
get_seam (y ∷ xs) ys x k e = subst (λ n. slice_get (y ∷ (xs ++ x ∷ ys)) n ≡ Some x) e (get_seam xs ys x (length xs) refl)

-- ---- kinds
abbrev IsNumber : List Kind → NumAtom → Type 0
IsNumber kinds (Literal z) = Unit {0}
IsNumber kinds (Local k) = slice_get kinds k ≡ Some of_kind.Num

number_more : (kinds more : List Kind) (a : NumAtom) → IsNumber kinds a → IsNumber (kinds ++ more) a
number_more kinds more (Literal z) h = tt
number_more kinds more (Local k) h = get_more kinds more k of_kind.Num h

-- the atoms of a piece are numbers, and its answer is an ivar
record Typed (kinds : List Kind) (x : Piece) (n : ℕ) : Type 0 where
  many : length x.atoms ≡ n
  atoms : AllByRecursion (IsNumber kinds) x.atoms
  answer : slice_get kinds x.answer ≡ Some of_kind.Ivar
  size : length kinds ≡ x.size

atom_typed : (kinds : List Kind) (x : Piece) (n : ℕ) → Typed kinds x n → (a : Atom) → IsKnownAtom n a → IsNumber kinds (atom x.atoms a)
atom_typed kinds x n t (Given z) k = tt
atom_typed kinds x n t (Known j) k = all_nth (IsNumber kinds) x.atoms j _ t.atoms (omega (arith, k, t.many))

args_typed : (kinds : List Kind) (x : Piece) (n : ℕ) → Typed kinds x n → (args : List Atom) → AllByRecursion (IsKnownAtom n) args
    → AllByRecursion (IsNumber kinds) (map (atom x.atoms) args)
args_typed kinds x n t [] k = tt
args_typed kinds x n t (a ∷ args) k = (atom_typed kinds x n t a k.0, args_typed kinds x n t args k.1)

typed_let : (kinds : List Kind) (x : Piece) (n : ℕ) (a : Atom) → IsKnownAtom n a → Typed kinds x n
    → Typed kinds (record x { atoms = atom x.atoms a ∷ x.atoms }) (suc n)
typed_let kinds x n a k t =
    record { many = ap suc t.many; atoms = (atom_typed kinds x n t a k, t.atoms); answer = t.answer; size = t.size }

typed_set : (kinds : List Kind) (x : Piece) (n line : ℕ) → Typed kinds x n
    → Typed (kinds ++ of_kind.Num ∷ []) (record { atoms = Local x.size ∷ x.atoms; answer = x.answer; size = x.size + 1; line = line }) (suc n)
typed_set kinds x n line t =
    record {
      many = ap suc t.many;
      atoms = (
        get_seam kinds [] of_kind.Num x.size t.size,
        all_mapped (IsNumber kinds) (IsNumber (kinds ++ of_kind.Num ∷ [])) (number_more kinds (of_kind.Num ∷ [])) x.atoms t.atoms,
      );
      answer = get_more kinds (of_kind.Num ∷ []) x.answer of_kind.Ivar t.answer;
      size = length-append kinds (of_kind.Num ∷ []) ∙ ap (λ k. k + 1) t.size;
    }

typed_line : (kinds : List Kind) (x : Piece) (n line : ℕ) → Typed kinds x n → Typed kinds (record x { line = line }) n
typed_line kinds x n line t = record { many = t.many; atoms = t.atoms; answer = t.answer; size = t.size }

abbrev kinds_from : ℕ → List Kind
kinds_from zero = of_kind.Ivar ∷ []
kinds_from (suc n) = of_kind.Num ∷ kinds_from n

-- ---- uses
known_at : (kinds : List Kind) (k : ℕ) (kind wanted : Kind) → slice_get kinds k ≡ Some kind → Serves kind wanted
    → IsKnown kinds (record { place = k; wanted = wanted ∷ [] })
known_at kinds k kind wanted e s =
    subst (λ (o : Option Kind). MatchOption o ⊥ (λ kind. AnyOf (Serves kind) (wanted ∷ []))) (sym e) (0, wanted, omega arith, refl, s)

number_known : (kinds : List Kind) (a : NumAtom) → IsNumber kinds a → AllByRecursion (IsKnown kinds) (number a)
number_known kinds (Literal z) h = tt
number_known kinds (Local k) h = (known_at kinds k of_kind.Num of_kind.Num h (inl refl), tt)

when_known : (kinds : List Kind) (x : Piece) (n : ℕ) → Typed kinds x n → (when : Option Atom) → IsKnownWhen n when
    → AllByRecursion (IsKnown kinds) (prefix_uses (when_holds x.atoms when))
when_known kinds x n t None k = tt
when_known kinds x n t (Some b) k = number_known kinds (atom x.atoms b) (atom_typed kinds x n t b k)

passed_number : (kinds : List Kind) (a : NumAtom) (k : ℕ) → IsNumber kinds a → IsPassed kinds a (record { name = k; kind = of_kind.Num })
passed_number kinds (Literal z) k h = refl
passed_number kinds (Local j) k h = known_at kinds j of_kind.Num of_kind.Num h (inl refl)

-- numbers and then an ivar are what a piece takes
passed : (kinds : List Kind) (atoms : List NumAtom) (r k n : ℕ) → AllByRecursion (IsNumber kinds) atoms → length atoms ≡ n
    → slice_get kinds r ≡ Some of_kind.Ivar → AllZip (IsPassed kinds) (atoms ++ Local r ∷ []) (params_from k n)
passed kinds [] r k zero a e i = (known_at kinds r of_kind.Ivar of_kind.Ivar i (inl refl), tt)
passed kinds [] r k (suc n) a e i = absurd (omega (arith, e))
passed kinds (x ∷ atoms) r k zero a e i = absurd (omega (arith, e))
passed kinds (x ∷ atoms) r k (suc n) a e i = (passed_number kinds x k a.0, passed kinds atoms r (suc k) n a.1 (omega (arith, e)) i)

params_many : (k n : ℕ) → length (params_from k n) ≡ suc n
params_many k zero = refl
params_many k (suc n) = ap suc (params_many (suc k) n)

-- a procedure that takes n numbers, which are at most seven, and an ivar
abbrev IsThere : List NumProc → ℕ → ℕ → Type 0
IsThere procs place n =
    (proc : NumProc) × (slice_get procs place ≡ Some proc) × (proc.params ≡ params_from 0 n) × (n ≤ 7)

callable_by : (procs : List NumProc) (kinds : List Kind) (callee : NumCallee) (n : ℕ) → IsThere procs callee.place n → Takes kinds (params_from 0 n) callee
    → IsCallable procs kinds callee
callable_by procs kinds callee n there t =
    subst (λ (o : Option NumProc). MatchOption o ⊥ (λ proc. Takes kinds proc.params callee)) (sym there.1)
    (subst (λ (ps : List NumParam). Takes kinds ps callee) (sym there.2) t)

-- a call with all values, and one with a number in front
call_takes : (procs : List NumProc) (kinds : List Kind) (place n r : ℕ) (atoms : List NumAtom) → IsThere procs place n → AllByRecursion (IsNumber kinds) atoms
    → length atoms ≡ n → slice_get kinds r ≡ Some of_kind.Ivar → IsCallable procs kinds (record { place = place; front = 0; args = atoms ++ Local r ∷ [] })
call_takes procs kinds place n r atoms there a e i =
    callable_by procs kinds (record { place = place; front = 0; args = atoms ++ Local r ∷ [] }) n there
    (record { front = tt; enough = omega arith; args = passed kinds atoms r 0 n a e i })

woken_takes : (procs : List NumProc) (kinds : List Kind) (place n r : ℕ) (atoms : List NumAtom) → IsThere procs place (suc n)
    → AllByRecursion (IsNumber kinds) atoms → length atoms ≡ n → slice_get kinds r ≡ Some of_kind.Ivar
    → IsCallable procs kinds (record { place = place; front = 1; args = atoms ++ Local r ∷ [] })
woken_takes procs kinds place n r atoms there a e i =
    callable_by procs kinds (record { place = place; front = 1; args = atoms ++ Local r ∷ [] }) (suc n) there
    (record { front = (refl, tt); enough = omega (arith, params_many 0 (suc n)); args = passed kinds atoms r 1 n a e i })

-- ---- what the grammar says
may_when : (atoms : List NumAtom) (when : Option Atom) (s : NumStmt) → num_binds s ≡ [] → MayHavePrefix (when_holds atoms when) s
may_when atoms None s e = tt
may_when atoms (Some b) s e = e

few_args : (atoms : List NumAtom) (r : ℕ) → length atoms ≤ 7 → length (atoms ++ Local r ∷ []) ≤ 8
few_args atoms r l = omega (arith, l, length-append atoms (Local r ∷ []))

-- ---- lines
no_binds : (procs : List NumProc) (kinds : List Kind) (lines : List NumStatement) → LinesAreSound procs kinds lines → LinesAreSound procs (kinds ++ []) lines
no_binds procs kinds lines h = subst (λ (l : List Kind). LinesAreSound procs l lines) (sym (append-nil kinds)) h

next_place : (kinds : List Kind) (size : ℕ) (kind : Kind) → length kinds ≡ size → AreNext (length kinds) (record { name = size; kind = kind } ∷ [])
next_place kinds size kind e = ap (λ k. k ∷ []) (sym e)

-- what the awaits of these lines call is there
abbrev AreThere : List NumProc → (ℕ → ℕ) → ℕ → ℕ → List Line → Type 0
AreThere procs entry place n [] = Unit {0}
AreThere procs entry place n (Let a ∷ lines) = AreThere procs entry place (suc n) lines
AreThere procs entry place n (Compute a op b ∷ lines) = AreThere procs entry place (suc n) lines
AreThere procs entry place n (Print when a ∷ lines) = AreThere procs entry place n lines
AreThere procs entry place n (Raise when a ∷ lines) = AreThere procs entry place n lines
AreThere procs entry place n (Return when a ∷ lines) = AreThere procs entry place n lines
AreThere procs entry place n (Await f args ∷ lines) =
    IsThere procs (entry f) (length args) × IsThere procs place (suc n) × AreThere procs entry (suc place) (suc n) lines
AreThere procs entry place n (AwaitWork kind a ∷ lines) = IsThere procs place (suc n) × AreThere procs entry (suc place) (suc n) lines
AreThere procs entry place n (Try f args g ∷ lines) =
    IsThere procs (entry f) (length args) × IsThere procs (entry g) 1 × IsThere procs place (suc n) × AreThere procs entry (suc place) (suc n) lines

length_mapped : (atoms : List NumAtom) (args : List Atom) → length (map (atom atoms) args) ≡ length args
length_mapped atoms [] = refl
length_mapped atoms (a ∷ args) = ap suc (length_mapped atoms args)

-- the statements of an await, behind what it binds
upon_sound : (procs : List NumProc) (kinds more : List Kind) (x : Piece) (n place at : ℕ) (wanted : Kind) → Typed kinds x n → IsThere procs place (suc n)
    → slice_get (kinds ++ more) x.size ≡ Some wanted → Serves wanted of_kind.Def
    → LinesAreSound procs (kinds ++ more) (plain at (stmt.Upon x.size place (x.atoms ++ Local x.answer ∷ [])) ∷ [])
upon_sound procs kinds more x n place at wanted t there e s = (
  record {
    prefix = tt;
    uses = (known_at (kinds ++ more) x.size wanted of_kind.Def e s, tt);
    calls = (
      woken_takes procs (kinds ++ more) place n x.answer x.atoms there
          (all_mapped (IsNumber kinds) (IsNumber (kinds ++ more)) (number_more kinds more) x.atoms t.atoms) t.many
          (get_more kinds more x.answer of_kind.Ivar t.answer),
      tt,
    );
    binds = refl;
    alone = tt;
    within = tt;
    few = (few_args x.atoms x.answer (omega (arith, there.3, t.many)), tt);
  },
  tt,
)

written_sound : (procs : List NumProc) (entry : ℕ → ℕ) (lines : List Line) (kinds : List Kind) (x : Piece) (n place : ℕ) → Typed kinds x n
    → LinesAreScoped n lines → AreThere procs entry place n lines → LinesAreSound procs kinds (written entry place x lines)
written_sound procs entry [] kinds x n place t s h = (
  record {
    prefix = tt;
    uses = (known_at kinds x.answer of_kind.Ivar of_kind.Ivar t.answer (inl refl), tt);
    calls = tt;
    binds = refl;
    alone = tt;
    within = tt;
    few = tt;
  },
  tt,
)
written_sound procs entry (Let a ∷ lines) kinds x n place t s h =
    written_sound procs entry lines kinds (record x { atoms = atom x.atoms a ∷ x.atoms }) (suc n) place (typed_let kinds x n a s.0 t) s.1 h
written_sound procs entry (Compute a op b ∷ lines) kinds x n place t s h = (
  record {
    prefix = tt;
    uses = all_both (IsKnown kinds) (number (atom x.atoms a)) (number (atom x.atoms b)) (number_known kinds _ (atom_typed kinds x n t a s.0))
        (number_known kinds _ (atom_typed kinds x n t b s.1));
    calls = tt;
    binds = next_place kinds x.size of_kind.Num t.size;
    alone = tt;
    within = tt;
    few = tt;
  },
  written_sound procs entry lines (kinds ++ of_kind.Num ∷ [])
      (record { atoms = Local x.size ∷ x.atoms; answer = x.answer; size = x.size + 1; line = x.line + 1 }) (suc n) place
      (typed_set kinds x n (x.line + 1) t) s.2 h,
)
written_sound procs entry (Print when a ∷ lines) kinds x n place t s h = (
  record {
    prefix = when_known kinds x n t when s.0;
    uses = number_known kinds _ (atom_typed kinds x n t a s.1);
    calls = tt;
    binds = refl;
    alone = may_when x.atoms when (stmt.Print (atom x.atoms a)) refl;
    within = tt;
    few = tt;
  },
  no_binds procs kinds _ (written_sound procs entry lines kinds (record x { line = x.line + 1 }) n place (typed_line kinds x n (x.line + 1) t) s.2 h),
)
written_sound procs entry (Raise when a ∷ lines) kinds x n place t s h = (
  record {
    prefix = when_known kinds x n t when s.0;
    uses = number_known kinds _ (atom_typed kinds x n t a s.1);
    calls = tt;
    binds = refl;
    alone = may_when x.atoms when (stmt.Raise (atom x.atoms a)) refl;
    within = tt;
    few = tt;
  },
  no_binds procs kinds _ (written_sound procs entry lines kinds (record x { line = x.line + 1 }) n place (typed_line kinds x n (x.line + 1) t) s.2 h),
)
written_sound procs entry (Return when a ∷ lines) kinds x n place t s h = (
  record {
    prefix = when_known kinds x n t when s.0;
    uses = (known_at kinds x.answer of_kind.Ivar of_kind.Ivar t.answer (inl refl), number_known kinds _ (atom_typed kinds x n t a s.1));
    calls = tt;
    binds = refl;
    alone = may_when x.atoms when (stmt.Offer x.answer (atom x.atoms a)) refl;
    within = tt;
    few = tt;
  },
  no_binds procs kinds
      (guarded (x.line + 1) (when_holds x.atoms when) (stmt.Ret (Literal (pos 0))) ∷ written entry place (record x { line = x.line + 2 }) lines) (
        record {
          prefix = when_known kinds x n t when s.0;
          uses = tt;
          calls = tt;
          binds = refl;
          alone = may_when x.atoms when (stmt.Ret (Literal (pos 0))) refl;
          within = tt;
          few = tt;
        },
        no_binds procs kinds _ (written_sound procs entry lines kinds (record x { line = x.line + 2 }) n place (typed_line kinds x n (x.line + 2) t) s.2 h),
      ),
)
written_sound procs entry (Await f args ∷ lines) kinds x n place t s h =
    let more : List Kind = of_kind.Ivar ∷ []
    in let here : slice_get (kinds ++ more) x.size ≡ Some of_kind.Ivar = get_seam kinds [] of_kind.Ivar x.size t.size
    in (
      record { prefix = tt; uses = tt; calls = tt; binds = next_place kinds x.size of_kind.Ivar t.size; alone = tt; within = tt; few = tt },
      (
        record {
          prefix = tt;
          uses = tt;
          calls = (
            call_takes procs (kinds ++ more) (entry f) (length args) x.size (map (atom x.atoms) args) h.0
                (all_mapped (IsNumber kinds) (IsNumber (kinds ++ more)) (number_more kinds more) (map (atom x.atoms) args) (args_typed kinds x n t args s.0))
                (length_mapped x.atoms args) here,
            tt,
          );
          binds = refl;
          alone = tt;
          within = tt;
          few = (few_args (map (atom x.atoms) args) x.size (omega (arith, h.0.3, length_mapped x.atoms args)), tt);
        },
        no_binds procs (kinds ++ more) (resumed (record x { line = x.line + 2 }) place)
            (upon_sound procs kinds more x n place (x.line + 2) of_kind.Ivar t h.1 here (inr (refl, refl))),
      ),
    )
written_sound procs entry (AwaitWork kind a ∷ lines) kinds x n place t s h =
    let more : List Kind = of_kind.Def ∷ []
    in (
      record {
        prefix = tt;
        uses = number_known kinds _ (atom_typed kinds x n t a s.0);
        calls = tt;
        binds = next_place kinds x.size of_kind.Def t.size;
        alone = tt;
        within = tt;
        few = tt;
      },
      upon_sound procs kinds more x n place (x.line + 1) of_kind.Def t h.0 (get_seam kinds [] of_kind.Def x.size t.size) (inl refl),
    )
written_sound procs entry (Try f args g ∷ lines) kinds x n place t s h =
    let ivar : List Kind = of_kind.Ivar ∷ []
    in let one : List Kind = kinds ++ ivar
    in let more : List Kind = of_kind.Ivar ∷ of_kind.Mon ∷ []
    in let two : List Kind = one ++ of_kind.Mon ∷ []
    in let all : List Kind = kinds ++ more
    in let both : two ≡ all = append_assoc kinds ivar (of_kind.Mon ∷ [])
    in let size1 : length one ≡ x.size + 1 = length-append kinds ivar ∙ ap (λ k. k + 1) t.size
    in let here : slice_get all x.size ≡ Some of_kind.Ivar = get_seam kinds (of_kind.Mon ∷ []) of_kind.Ivar x.size t.size
    in
    let there : slice_get all (x.size + 1) ≡ Some of_kind.Mon = subst (λ (l : List Kind). slice_get l (x.size + 1) ≡ Some of_kind.Mon) both
    (get_seam one [] of_kind.Mon (x.size + 1) size1)
    in
    let monitor_known : AllByRecursion (IsKnown all) (record { place = x.size + 1; wanted = of_kind.Mon ∷ [] }
    ∷ []) = (
      known_at all (x.size + 1) of_kind.Mon of_kind.Mon there (inl refl),
      tt,
    )
    in let lines5 : List NumStatement = resumed (record x { line = x.line + 5 }) place
    in let lines4 : List NumStatement = plain (x.line + 4) (stmt.Within (x.size + 1) (entry f) (map (atom x.atoms) args ++ Local x.size ∷ [])) ∷ lines5
    in let lines3 : List NumStatement = plain (x.line + 3) (stmt.OnError (x.size + 1) (entry g) (Local x.size ∷ [])) ∷ lines4
    in let lines2 : List NumStatement = plain (x.line + 2) (stmt.Detach (x.size + 1)) ∷ lines3
    in let sound5 : LinesAreSound procs all lines5 = upon_sound procs kinds more x n place (x.line + 5) of_kind.Ivar t h.2 here (inr (refl, refl))
    in let sound4 : LinesAreSound procs all lines4 = (
      record {
        prefix = tt;
        uses = monitor_known;
        calls = (
          call_takes procs all (entry f) (length args) x.size (map (atom x.atoms) args) h.0
              (all_mapped (IsNumber kinds) (IsNumber all) (number_more kinds more) (map (atom x.atoms) args) (args_typed kinds x n t args s.0))
              (length_mapped x.atoms args) here,
          tt,
        );
        binds = refl;
        alone = tt;
        within = tt;
        few = (few_args (map (atom x.atoms) args) x.size (omega (arith, h.0.3, length_mapped x.atoms args)), tt);
      },
      no_binds procs all lines5 sound5,
    )
    in let sound3 : LinesAreSound procs all lines3 = (
      record {
        prefix = tt;
        uses = monitor_known;
        calls = (woken_takes procs all (entry g) 0 x.size [] h.1 tt refl here, tt);
        binds = refl;
        alone = tt;
        within = tt;
        few = (omega arith, tt);
      },
      no_binds procs all lines4 sound4,
    )
    in let sound2 : LinesAreSound procs all lines2 = (
      record { prefix = tt; uses = monitor_known; calls = tt; binds = refl; alone = tt; within = tt; few = tt },
      no_binds procs all lines3 sound3,
    )
    in (
      record { prefix = tt; uses = tt; calls = tt; binds = next_place kinds x.size of_kind.Ivar t.size; alone = tt; within = tt; few = tt },
      (
        record { prefix = tt; uses = tt; calls = tt; binds = next_place one (x.size + 1) of_kind.Mon size1; alone = tt; within = tt; few = tt },
        subst (λ (l : List Kind). LinesAreSound procs l lines2) (sym both) sound2,
      ),
    )

-- ---- the begin of a piece
kinds_are : (k n : ℕ) → map (λ (param : NumParam). param.kind) (params_from k n) ≡ kinds_from n
kinds_are k zero = refl
kinds_are k (suc n) = ap (λ l. of_kind.Num ∷ l) (kinds_are (suc k) n)

locals_typed : (before : List Kind) (k n : ℕ) → length before ≡ k → AllByRecursion (IsNumber (before ++ kinds_from n)) (locals_from k n)
locals_typed before k zero e = tt
locals_typed before k (suc n) e = (
  get_seam before (kinds_from n) of_kind.Num k e,
  subst (λ (l : List Kind). AllByRecursion (IsNumber l) (locals_from (suc k) n)) (append_assoc before (of_kind.Num ∷ []) (kinds_from n))
      (locals_typed (before ++ of_kind.Num ∷ []) (suc k) n (omega (arith, e, length-append before (of_kind.Num ∷ [])))),
)

answer_typed : (n : ℕ) → slice_get (kinds_from n) n ≡ Some of_kind.Ivar
answer_typed zero = refl
answer_typed (suc n) = answer_typed n

kinds_many : (n : ℕ) → length (kinds_from n) ≡ suc n
kinds_many zero = refl
kinds_many (suc n) = ap suc (kinds_many n)

locals_many : (k n : ℕ) → length (locals_from k n) ≡ n
locals_many k zero = refl
locals_many k (suc n) = ap suc (locals_many (suc k) n)

typed_begin : (n line : ℕ) → Typed (kinds_from n) (begin n line) n
typed_begin n line =
    record { many = locals_many 0 n; atoms = locals_typed [] 0 n refl; answer = answer_typed n; size = omega (arith, kinds_many n) }

names_next : (k n : ℕ) → map (λ (param : NumParam). param.name) (params_from k n) ≡ range_with_len k (length (params_from k n))
names_next k zero = refl
names_next k (suc n) = ap (λ l. k ∷ l) (names_next (suc k) n ∙ ap (λ j. range_with_len j (length (params_from (suc k) n))) (suc_plus k))
  where
    suc_plus : (k : ℕ) → suc k ≡ k + 1
    suc_plus k = omega arith

piece_sound : (procs : List NumProc) (entry : ℕ → ℕ) (place line n : ℕ) (lines : List Line) → LinesAreScoped n lines
    → AreThere procs entry (suc place) n lines → ProcIsSound procs (piece entry place line n lines)
piece_sound procs entry place line n lines s h =
    record {
      params = names_next 0 n;
      lines = subst (λ (l : List Kind). LinesAreSound procs l (written entry (suc place) (begin n (line + 1)) lines)) (sym (kinds_are 0 n))
          (written_sound procs entry lines (kinds_from n) (begin n (line + 1)) n (suc place) (typed_begin n (line + 1)) s h);
    }

further_sound : (procs : List NumProc) (entry : ℕ → ℕ) (lines : List Line) (place line n : ℕ) → LinesAreScoped n lines → AreThere procs entry place n lines
    → AllByRecursion (ProcIsSound procs) (further entry place line n lines)
further_sound procs entry [] place line n s h = tt
further_sound procs entry (Let a ∷ lines) place line n s h = further_sound procs entry lines place line (suc n) s.1 h
further_sound procs entry (Compute a op b ∷ lines) place line n s h = further_sound procs entry lines place line (suc n) s.2 h
further_sound procs entry (Print when a ∷ lines) place line n s h = further_sound procs entry lines place line n s.2 h
further_sound procs entry (Raise when a ∷ lines) place line n s h = further_sound procs entry lines place line n s.2 h
further_sound procs entry (Return when a ∷ lines) place line n s h = further_sound procs entry lines place line n s.2 h
further_sound procs entry (Await f args ∷ lines) place line n s h = (
  piece_sound procs entry place line (suc n) lines s.1 h.2,
  further_sound procs entry lines (suc place) (line_behind (piece entry place line (suc n) lines)) (suc n) s.1 h.2,
)
further_sound procs entry (AwaitWork kind a ∷ lines) place line n s h = (
  piece_sound procs entry place line (suc n) lines s.1 h.1,
  further_sound procs entry lines (suc place) (line_behind (piece entry place line (suc n) lines)) (suc n) s.1 h.1,
)
further_sound procs entry (Try f args g ∷ lines) place line n s h = (
  piece_sound procs entry place line (suc n) lines s.1 h.3,
  further_sound procs entry lines (suc place) (line_behind (piece entry place line (suc n) lines)) (suc n) s.1 h.3,
)

-- ---- the places of pieces
abbrev Holds : List NumProc → ℕ → List NumProc → Type 0
Holds program place [] = Unit {0}
Holds program place (proc ∷ procs) = (slice_get program place ≡ Some proc) × Holds program (suc place) procs

holds_append : (program : List NumProc) (place : ℕ) (xs ys : List NumProc) → Holds program place (xs ++ ys)
    → Holds program place xs × Holds program (place + length xs) ys
holds_append program place [] ys h = (tt, subst (λ k. Holds program k ys) (plus_zero place) h)
  where
    plus_zero : (k : ℕ) → k ≡ k + 0
    plus_zero k = omega arith
holds_append program place (x ∷ xs) ys h =
    let more = holds_append program (suc place) xs ys h.1
    in ((h.0, more.0), subst (λ k. Holds program k ys) (plus_suc place (length xs)) more.1)
  where
    plus_suc : (k n : ℕ) → suc k + n ≡ k + suc n
    plus_suc k n = omega arith

holds_behind : (before procs : List NumProc) (place : ℕ) → length before ≡ place → Holds (before ++ procs) place procs
holds_behind before [] place e = tt
holds_behind before (x ∷ procs) place e = (
  get_seam before procs x place e,
  subst (λ (l : List NumProc). Holds l (suc place) procs) (append_assoc before (x ∷ []) procs)
      (holds_behind (before ++ x ∷ []) procs (suc place) (omega (arith, e, length-append before (x ∷ [])))),
)

funs_there : (program : List NumProc) (entry : ℕ → ℕ) (funs : List Fun) (place line f : ℕ) → Holds program place (funs_procs entry place line funs)
    → AllByRecursion FunIsWithin funs → f < length funs
    → IsThere program (entry_from place funs f) (slice_index_or funs f (record { params = 0; lines = [] })).params
funs_there program entry [] place line f h w b = absurd (omega (arith, b))
funs_there program entry (fun ∷ funs) place line zero h w b = (
  piece entry place line fun.params fun.lines,
  (holds_append program place (fun_procs entry place line fun)
      (funs_procs entry (place + suc (awaits fun.lines)) (line_after line (fun_procs entry place line fun)) funs) h).0.0,
  refl,
  omega (arith, w.0.locals),
)
funs_there program entry (fun ∷ funs) place line (suc f) h w b =
    funs_there program entry funs (place + suc (awaits fun.lines)) (line_after line (fun_procs entry place line fun)) f
    (subst (λ n. Holds program (place + n) (funs_procs entry (place + suc (awaits fun.lines)) (line_after line (fun_procs entry place line fun)) funs))
    (length_fun entry place line fun)
    (holds_append program place (fun_procs entry place line fun)
    (funs_procs entry (place + suc (awaits fun.lines)) (line_after line (fun_procs entry place line fun)) funs) h).1)
    w.1
    (omega (arith, b))

are_there : (p : Source) (program : List NumProc) (entry : ℕ → ℕ) → ((f n : ℕ) → Callable p f n → IsThere program (entry f) n)
    → (lines : List Line) (place line n : ℕ) → n + bound_by lines ≤ 7 → Holds program place (further entry place line n lines)
    → AllByRecursion (CallsFit p) lines → AreThere program entry place n lines
are_there p program entry enter [] place line n w h c = tt
are_there p program entry enter (Let a ∷ lines) place line n w h c = are_there p program entry enter lines place line (suc n) (omega (arith, w)) h c.1
are_there p program entry enter (Compute a op b ∷ lines) place line n w h c =
    are_there p program entry enter lines place line (suc n) (omega (arith, w)) h c.1
are_there p program entry enter (Print when a ∷ lines) place line n w h c = are_there p program entry enter lines place line n w h c.1
are_there p program entry enter (Raise when a ∷ lines) place line n w h c = are_there p program entry enter lines place line n w h c.1
are_there p program entry enter (Return when a ∷ lines) place line n w h c = are_there p program entry enter lines place line n w h c.1
are_there p program entry enter (Await f args ∷ lines) place line n w h c = (
  enter f (length args) c.0,
  (piece entry place line (suc n) lines, h.0, refl, omega (arith, w)),
  are_there p program entry enter lines (suc place) (line_behind (piece entry place line (suc n) lines)) (suc n) (omega (arith, w)) h.1 c.1,
)
are_there p program entry enter (AwaitWork kind a ∷ lines) place line n w h c = (
  (piece entry place line (suc n) lines, h.0, refl, omega (arith, w)),
  are_there p program entry enter lines (suc place) (line_behind (piece entry place line (suc n) lines)) (suc n) (omega (arith, w)) h.1 c.1,
)
are_there p program entry enter (Try f args g ∷ lines) place line n w h c = (
  enter f (length args) c.0.0,
  enter g 1 c.0.1,
  (piece entry place line (suc n) lines, h.0, refl, omega (arith, w)),
  are_there p program entry enter lines (suc place) (line_behind (piece entry place line (suc n) lines)) (suc n) (omega (arith, w)) h.1 c.1,
)

funs_sound : (p : Source) (program : List NumProc) (entry : ℕ → ℕ) → ((f n : ℕ) → Callable p f n → IsThere program (entry f) n)
    → (funs : List Fun) (place line : ℕ) → Holds program place (funs_procs entry place line funs) → AllByRecursion (FunIsSound p) funs
    → AllByRecursion FunIsScoped funs → AllByRecursion FunIsWithin funs → AllByRecursion (ProcIsSound program) (funs_procs entry place line funs)
funs_sound p program entry enter [] place line h s c w = tt
funs_sound p program entry enter (fun ∷ funs) place line h s c w =
    let rest : List NumProc = funs_procs entry (place + suc (awaits fun.lines)) (line_after line (fun_procs entry place line fun)) funs
    in let both = holds_append program place (fun_procs entry place line fun) rest h
    in let there : AreThere program entry (suc place) fun.params fun.lines =
    are_there p program entry enter fun.lines (suc place) (line_behind (piece entry place line fun.params fun.lines)) fun.params w.0.locals both.0.1 s.0.calls
    in all_both (ProcIsSound program) (fun_procs entry place line fun) rest (
      piece_sound program entry place line fun.params fun.lines c.0 there,
      further_sound program entry fun.lines (suc place) (line_behind (piece entry place line fun.params fun.lines)) fun.params c.0 there,
    )
    (funs_sound p program entry enter funs (place + suc (awaits fun.lines)) (line_after line (fun_procs entry place line fun))
    (subst (λ n. Holds program (place + n) rest) (length_fun entry place line fun) both.1) s.1 c.1 w.1)

-- ---- the names of procedures
abbrev Numbered : ℕ → List NumProc → Type 0
Numbered place [] = Unit {0}
Numbered place (proc ∷ procs) = (proc.name ≡ place) × Numbered (suc place) procs

numbered_append : (place : ℕ) (xs ys : List NumProc) → Numbered place xs → Numbered (place + length xs) ys → Numbered place (xs ++ ys)
numbered_append place [] ys a b = subst (λ k. Numbered k ys) (plus_zero place) b
  where
    plus_zero : (k : ℕ) → k + 0 ≡ k
    plus_zero k = omega arith
numbered_append place (x ∷ xs) ys a b = (a.0, numbered_append (suc place) xs ys a.1 (subst (λ k. Numbered k ys) (plus_suc place (length xs)) b))
  where
    plus_suc : (k n : ℕ) → k + suc n ≡ suc k + n
    plus_suc k n = omega arith

further_numbered : (entry : ℕ → ℕ) (lines : List Line) (place line n : ℕ) → Numbered place (further entry place line n lines)
further_numbered entry [] place line n = tt
further_numbered entry (Let a ∷ lines) place line n = further_numbered entry lines place line (suc n)
further_numbered entry (Compute a op b ∷ lines) place line n = further_numbered entry lines place line (suc n)
further_numbered entry (Print when a ∷ lines) place line n = further_numbered entry lines place line n
further_numbered entry (Raise when a ∷ lines) place line n = further_numbered entry lines place line n
further_numbered entry (Return when a ∷ lines) place line n = further_numbered entry lines place line n
further_numbered entry (Await f args ∷ lines) place line n =
    (refl, further_numbered entry lines (suc place) (line_behind (piece entry place line (suc n) lines)) (suc n))
further_numbered entry (AwaitWork kind a ∷ lines) place line n =
    (refl, further_numbered entry lines (suc place) (line_behind (piece entry place line (suc n) lines)) (suc n))
further_numbered entry (Try f args g ∷ lines) place line n =
    (refl, further_numbered entry lines (suc place) (line_behind (piece entry place line (suc n) lines)) (suc n))

funs_numbered : (entry : ℕ → ℕ) (funs : List Fun) (place line : ℕ) → Numbered place (funs_procs entry place line funs)
funs_numbered entry [] place line = tt
funs_numbered entry (fun ∷ funs) place line =
    numbered_append place (fun_procs entry place line fun)
    (funs_procs entry (place + suc (awaits fun.lines)) (line_after line (fun_procs entry place line fun)) funs)
    (refl, further_numbered entry fun.lines (suc place) (line_behind (piece entry place line fun.params fun.lines)) fun.params)
    (subst (λ n. Numbered (place + n) (funs_procs entry (place + suc (awaits fun.lines)) (line_after line (fun_procs entry place line fun)) funs))
    (sym (length_fun entry place line fun))
    (funs_numbered entry funs (place + suc (awaits fun.lines)) (line_after line (fun_procs entry place line fun))))

names_are : (place : ℕ) (procs : List NumProc) → Numbered place procs → map (λ (proc : NumProc). proc.name) procs ≡ range_with_len place (length procs)
names_are place [] h = refl
names_are place (proc ∷ procs) h =
    ap (λ k. k ∷ map (λ (proc : NumProc). proc.name) procs) h.0
    ∙ ap (λ l. place ∷ l) (names_are (suc place) procs h.1 ∙ ap (λ k. range_with_len k (length procs)) (suc_plus place))
  where
    suc_plus : (k : ℕ) → suc k ≡ k + 1
    suc_plus k = omega arith

-- ---- the whole
pub compiled_is_valid : (p : Source) → IsSound p → AllByRecursion FunIsScoped p.funs → AllByRecursion FunIsWithin p.funs
    → ProgramIsSound (compiled p) 0 None
compiled_is_valid p s c w =
    let entry : ℕ → ℕ = entry_from 1 p.funs
    in let first : NumProc = starter entry p.main
    in let rest : List NumProc = funs_procs entry 1 5 p.funs
    in let holds : Holds (compiled p) 1 rest = holds_behind (first ∷ []) rest 1 refl
    in let enter : (f n : ℕ) → Callable p f n → IsThere (compiled p) (entry f) n =
    λ f n k. subst (IsThere (compiled p) (entry f)) k.takes (funs_there (compiled p) entry p.funs 1 5 f holds w k.there)
    in record {
      begins = refl;
      serves = tt;
      places = names_are 0 (compiled p) (refl, funs_numbered entry p.funs 1 5);
      each = (
        record {
          params = refl;
          lines = (
            record { prefix = tt; uses = tt; calls = tt; binds = refl; alone = tt; within = tt; few = tt },
            (
              record {
                prefix = tt;
                uses = tt;
                calls = (call_takes (compiled p) (of_kind.Ivar ∷ []) (entry p.main) 0 0 [] (enter p.main 0 s.main) tt refl refl, tt);
                binds = refl;
                alone = tt;
                within = tt;
                few = (omega arith, tt);
              },
              tt,
            ),
          );
        },
        funs_sound p (compiled p) entry enter p.funs 1 5 holds s.each c w,
      );
    }
