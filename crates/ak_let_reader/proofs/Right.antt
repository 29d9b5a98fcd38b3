-- Functions whose names have no fault are a source whose locals and calls are right.
use Rattle.std.proofs.Common.{ℕ, suc, ◌+◌, ◌<◌, ◌≡◌, ◌==◌, Bool, true, false, not, ◌||◌, cond, Option, Some, None, List, [], ◌∷◌, ◌++◌, map, length, codes, flat_map, slice_index_or, length-append, refl, ap, subst, ◌∙◌, arith}
use Rattle.std.proofs.lemmas.Bool.{eqb-true}
use Rattle.std.specs.List.{AllByRecursion, list_any}
use Rattle.std.specs.Option.{option_map_or}
use Rattle.std.specs.Str.{bytes_eq}
use Rattle.ak_script.specs.declared.statement.Atom.{Atom}
use Rattle.ak_script.specs.declared.statement.Atom.TheVariants.{Literal, Local}
use Rattle.ak_valid.specs.Kinds.{lesser_by}
use Rattle.ak_valid.specs.Numbered.{at}
use Rattle.ak_let.specs.declared.source.Line.{Line}
use Rattle.ak_let.specs.declared.source.Fun.{Fun}
use Rattle.ak_let.specs.Correct.{Callable, CallsFit, FunIsScoped, FunIsSound, FunIsWithin, IsKnownAtom, IsKnownWhen, IsSound, LinesAreScoped, bound_by}
use Rattle.ak_let_syntax.specs.declared.named.NamedStmt.{NamedStmt}
use Rattle.ak_let_syntax.specs.declared.named.NamedStmt.TheVariants.{Let, Compute, Print, Raise, Return, Await, AwaitWork, Try}
use Rattle.ak_let_syntax.specs.declared.named.NamedLine.{NamedLine}
use Rattle.ak_let_syntax.specs.declared.named.NamedFun.{NamedFun}
use Rattle.ak_let_syntax.specs.declared.refusal.LetFault.{LetFault}
use Rattle.ak_let_syntax.specs.declared.refusal.LetFault.TheVariants.{NoMain, UnknownName, WrongCount}
use Rattle.ak_let_syntax.specs.Faults.{kind_number}
use Rattle.ak_let_syntax.specs.Grammar.{IsWithin, binds}
use Rattle.ak_let_reader.specs.NameFaults.{Call, Judged, body_judged, call_faults, calls, first_fault, fun_named, funs_judged, judged, least, main_faults, name_fault, stmt_faults, twice_faults, use_faults, uses, when_uses}
use Rattle.ak_let_reader.specs.Numbered.{fun_names, numbered, numbered_atom, numbered_fun, numbered_lines, numbered_stmt, numbered_when}

-- ---- no line has a fault
abbrev IsFaultless : Judged → Type 0
IsFaultless j = j.faults ≡ []

never_none : (kind : LetFault) (o : Option LetFault) → lesser_by kind_number (Some kind) o ≡ None → ⊥
never_none kind None h = cc
never_none kind (Some other) h = cc

none_least : (kinds : List LetFault) → least kinds ≡ None → kinds ≡ []
none_least [] h = refl
none_least (kind ∷ kinds) h = absurd (never_none kind (least kinds) h)

both_none : {X Y : Type 0} (f : X → Y) (o : Option X) (d : Option Y) → option_map_or (λ x. Some (f x)) o d ≡ None → (o ≡ None) × (d ≡ None)
both_none f None d h = (refl, h)
both_none f (Some x) d h = cc

faultless : (js : List Judged) → first_fault js ≡ None → AllByRecursion IsFaultless js
faultless [] h = tt
faultless (j ∷ js) h =
    let parts : (least j.faults ≡ None) × (first_fault js ≡ None) = both_none (λ kind. (j.number, kind)) (least j.faults) (first_fault js) h
    in (none_least j.faults parts.0, faultless js parts.1)

pub all_split : {X : Type 0} (P : X → Type 0) (xs ys : List X) → AllByRecursion P (xs ++ ys) → AllByRecursion P xs × AllByRecursion P ys
all_split P [] ys h = (tt, h)
all_split P (x ∷ xs) ys h =
    let rest : AllByRecursion P xs × AllByRecursion P ys = all_split P xs ys h.1
    in ((h.0, rest.0), rest.1)

empty_split : {X : Type 0} (xs ys : List X) → xs ++ ys ≡ [] → (xs ≡ []) × (ys ≡ [])
empty_split [] ys h = (refl, h)
empty_split (x ∷ xs) ys h = cc

-- ---- locals that are known
known_at : (b any : Bool) (i n : ℕ) → b || any ≡ true → (any ≡ true → i < n) → cond (not b) (1 + i) 0 < suc n
known_at true any i n e h = omega arith
known_at false any i n e h = omega (arith, h e)

at_known : (names : List (List ℕ)) (name : List ℕ) → list_any (bytes_eq name) names ≡ true → at names name < length names
at_known [] name h = cc
at_known (x ∷ names) name h = known_at (bytes_eq name x) (list_any (bytes_eq name) names) (at names name) (length names) h (at_known names name)

known_atom : (known : List (List ℕ)) (a : Atom) → use_faults known a ≡ [] → IsKnownAtom (length known) (numbered_atom known a)
known_atom known (Literal n) h = tt
known_atom known (Local name) h = at_known known name (by (list_any (bytes_eq name) known) h)
  where
    by : (b : Bool) → cond b [] (UnknownName ∷ []) ≡ [] → b ≡ true
    by true e = refl
    by false e = cc

known_atoms : (known : List (List ℕ)) (atoms : List Atom) → flat_map (use_faults known) atoms ≡ []
    → AllByRecursion (IsKnownAtom (length known)) (map (numbered_atom known) atoms)
known_atoms known [] h = tt
known_atoms known (a ∷ more) h =
    let parts : (use_faults known a ≡ []) × (flat_map (use_faults known) more ≡ []) =
    empty_split (use_faults known a) (flat_map (use_faults known) more) h
    in (known_atom known a parts.0, known_atoms known more parts.1)

when_known : (known : List (List ℕ)) (when : Option Atom) (a : Atom) → flat_map (use_faults known) (when_uses when ++ a ∷ []) ≡ []
    → IsKnownWhen (length known) (numbered_when known when) × IsKnownAtom (length known) (numbered_atom known a)
when_known known None a h = (tt, (known_atoms known (a ∷ []) h).0)
when_known known (Some b) a h =
    let both : AllByRecursion (IsKnownAtom (length known)) (map (numbered_atom known) (b ∷ a ∷ [])) = known_atoms known (b ∷ a ∷ []) h
    in (both.0, both.1.0)

stmt_scoped : (names known : List (List ℕ)) (stmt : NamedStmt) (lines : List Line) → flat_map (use_faults known) (uses stmt) ≡ []
    → LinesAreScoped (length (binds stmt ++ known)) lines → LinesAreScoped (length known) (numbered_stmt names known stmt ∷ lines)
stmt_scoped names known (Let x a) lines h r = ((known_atoms known (a ∷ []) h).0, r)
stmt_scoped names known (Compute x a op b) lines h r =
    let both : AllByRecursion (IsKnownAtom (length known)) (map (numbered_atom known) (a ∷ b ∷ [])) = known_atoms known (a ∷ b ∷ []) h
    in (both.0, both.1.0, r)
stmt_scoped names known (Print when a) lines h r = let w = when_known known when a h in (w.0, w.1, r)
stmt_scoped names known (Raise when a) lines h r = let w = when_known known when a h in (w.0, w.1, r)
stmt_scoped names known (Return when a) lines h r = let w = when_known known when a h in (w.0, w.1, r)
stmt_scoped names known (Await x f args) lines h r = (known_atoms known args h, r)
stmt_scoped names known (AwaitWork x kind a) lines h r = ((known_atoms known (a ∷ []) h).0, r)
stmt_scoped names known (Try x f args g) lines h r = (known_atoms known args h, r)

-- the parts of a line's faults
record HasNone (funs : List NamedFun) (known : List (List ℕ)) (stmt : NamedStmt) : Type 0 where
  used : flat_map (use_faults known) (uses stmt) ≡ []
  called : flat_map (call_faults funs) (calls stmt) ≡ []

has_none : (funs : List NamedFun) (known : List (List ℕ)) (stmt : NamedStmt) → stmt_faults funs known stmt ≡ [] → HasNone funs known stmt
has_none funs known stmt h =
    let twice : List LetFault = twice_faults known (binds stmt)
    in let used : List LetFault = flat_map (use_faults known) (uses stmt)
    in let called : List LetFault = flat_map (call_faults funs) (calls stmt)
    in let outer : (twice ++ used ≡ []) × (called ≡ []) = empty_split (twice ++ used) called h
    in let inner : (twice ≡ []) × (used ≡ []) = empty_split twice used outer.0
    in record { used = inner.1; called = outer.1 }

lines_scoped : (funs : List NamedFun) (names known : List (List ℕ)) (lines : List NamedLine)
    → AllByRecursion IsFaultless (body_judged funs known lines) → LinesAreScoped (length known) (numbered_lines names known lines)
lines_scoped funs names known [] h = tt
lines_scoped funs names known (line ∷ lines) h =
    stmt_scoped names known line.stmt (numbered_lines names (binds line.stmt ++ known) lines) (has_none funs known line.stmt h.0).used
    (lines_scoped funs names (binds line.stmt ++ known) lines h.1)

funs_scoped : (all : List NamedFun) (names before : List (List ℕ)) (funs : List NamedFun)
    → AllByRecursion IsFaultless (funs_judged all before funs) → AllByRecursion FunIsScoped (map (numbered_fun names) funs)
funs_scoped all names before [] h = tt
funs_scoped all names before (fun ∷ funs) h =
    let parts = all_split IsFaultless (body_judged all fun.params fun.lines) (funs_judged all (fun.name ∷ before) funs) h.1
    in (lines_scoped all names fun.params fun.lines parts.0, funs_scoped all names (fun.name ∷ before) funs parts.1)

pub names_are_scoped : (funs : List NamedFun) → name_fault funs ≡ None → AllByRecursion FunIsScoped (numbered funs).funs
names_are_scoped funs h = funs_scoped funs (fun_names funs) [] funs (faultless (judged funs) h).1

-- ---- limits
stmt_bound : (names known : List (List ℕ)) (stmt : NamedStmt) (rest : List Line) (more : List (List ℕ)) → bound_by rest ≡ length more
    → bound_by (numbered_stmt names known stmt ∷ rest) ≡ length (binds stmt ++ more)
stmt_bound names known (Let x a) rest more h = ap suc h
stmt_bound names known (Compute x a op b) rest more h = ap suc h
stmt_bound names known (Print when a) rest more h = h
stmt_bound names known (Raise when a) rest more h = h
stmt_bound names known (Return when a) rest more h = h
stmt_bound names known (Await x f args) rest more h = ap suc h
stmt_bound names known (AwaitWork x kind a) rest more h = ap suc h
stmt_bound names known (Try x f args g) rest more h = ap suc h

lines_bound : (names known : List (List ℕ)) (lines : List NamedLine)
    → bound_by (numbered_lines names known lines) ≡ length (flat_map (λ line. binds line.stmt) lines)
lines_bound names known [] = refl
lines_bound names known (line ∷ lines) =
    stmt_bound names known line.stmt (numbered_lines names (binds line.stmt ++ known) lines) (flat_map (λ line. binds line.stmt) lines)
    (lines_bound names (binds line.stmt ++ known) lines)

lines_many : (names known : List (List ℕ)) (lines : List NamedLine) → length (numbered_lines names known lines) ≡ length lines
lines_many names known [] = refl
lines_many names known (line ∷ lines) = ap suc (lines_many names (binds line.stmt ++ known) lines)

fun_within : (names : List (List ℕ)) (fun : NamedFun) → IsWithin fun → FunIsWithin (numbered_fun names fun)
fun_within names fun w =
    record {
      lines = omega (arith, w.lines, lines_many names fun.params fun.lines);
      locals = omega (arith, w.locals, length-append fun.params (flat_map (λ line. binds line.stmt) fun.lines), lines_bound names fun.params fun.lines);
    }

all_within : (names : List (List ℕ)) (funs : List NamedFun) → AllByRecursion IsWithin funs
    → AllByRecursion FunIsWithin (map (numbered_fun names) funs)
all_within names [] h = tt
all_within names (fun ∷ funs) h = (fun_within names fun h.0, all_within names funs h.1)

pub functions_are_within : (funs : List NamedFun) → AllByRecursion IsWithin funs → AllByRecursion FunIsWithin (numbered funs).funs
functions_are_within funs h = all_within (fun_names funs) funs h

-- ---- calls
-- the function of a name, by its place
record IsAt (g : NamedFun → Fun) (funs : List NamedFun) (place : ℕ) (fun : NamedFun) : Type 0 where
  there : place < length (map g funs)
  item : (d : Fun) → slice_index_or (map g funs) place d ≡ g fun

found_at : (g : NamedFun → Fun) (first : NamedFun) (funs : List NamedFun) (fun : NamedFun) (b : Bool) (o : Option NamedFun) (i : ℕ)
    → cond b (Some first) o ≡ Some fun → (o ≡ Some fun → IsAt g funs i fun) → IsAt g (first ∷ funs) (cond (not b) (1 + i) 0) fun
found_at g first funs fun true o i e h =
    let same : first ≡ fun = cc
    in record { there = omega arith; item = λ d. ap g same }
found_at g first funs fun false o i e h =
    let next : 1 + i ≡ suc i = omega arith
    in record {
      there = omega (arith, (h e).there);
      item = λ d. ap (λ k. slice_index_or (g first ∷ map g funs) k d) next ∙ (h e).item d;
    }

find_at : (g : NamedFun → Fun) (funs : List NamedFun) (name : List ℕ) (fun : NamedFun) → fun_named funs name ≡ Some fun
    → IsAt g funs (at (fun_names funs) name) fun
find_at g [] name fun h = cc
find_at g (first ∷ funs) name fun h =
    found_at g first funs fun (bytes_eq name first.name) (fun_named funs name) (at (fun_names funs) name) h (find_at g funs name fun)

count_right : (a b : ℕ) → cond (a == b) [] (WrongCount ∷ []) ≡ [] → a ≡ b
count_right a b h = eqb-true a b (by (a == b) h)
  where
    by : (c : Bool) → cond c [] (WrongCount ∷ []) ≡ [] → c ≡ true
    by true e = refl
    by false e = cc

record IsNamed (o : Option NamedFun) (count : ℕ) : Type 0 where
  fun : NamedFun
  is : o ≡ Some fun
  takes : length fun.params ≡ count

call_named : (o : Option NamedFun) (count : ℕ)
    → option_map_or (λ fun. cond (length fun.params == count) [] (WrongCount ∷ [])) o (UnknownName ∷ []) ≡ [] → IsNamed o count
call_named None count h = cc
call_named (Some fun) count h = record { fun = fun; is = refl; takes = count_right (length fun.params) count h }

named_callable : (funs : List NamedFun) (name : List ℕ) (count : ℕ) → IsNamed (fun_named funs name) count
    → Callable (numbered funs) (at (fun_names funs) name) count
named_callable funs name count n =
    let place : IsAt (numbered_fun (fun_names funs)) funs (at (fun_names funs) name) n.fun = find_at (numbered_fun (fun_names funs)) funs name n.fun n.is
    in record { there = place.there; takes = ap (λ (f : Fun). f.params) (place.item (record { params = 0; lines = [] })) ∙ n.takes }

call_right : (funs : List NamedFun) (call : Call) → call_faults funs call ≡ []
    → Callable (numbered funs) (at (fun_names funs) call.name) call.count
call_right funs call h = named_callable funs call.name call.count (call_named (fun_named funs call.name) call.count h)

calls_right : (funs : List NamedFun) (wanted : List Call) → flat_map (call_faults funs) wanted ≡ []
    → AllByRecursion (λ call. Callable (numbered funs) (at (fun_names funs) call.name) call.count) wanted
calls_right funs [] h = tt
calls_right funs (call ∷ more) h =
    let parts : (call_faults funs call ≡ []) × (flat_map (call_faults funs) more ≡ []) =
    empty_split (call_faults funs call) (flat_map (call_faults funs) more) h
    in (call_right funs call parts.0, calls_right funs more parts.1)

args_many : (known : List (List ℕ)) (args : List Atom) → length args ≡ length (map (numbered_atom known) args)
args_many known [] = refl
args_many known (a ∷ args) = ap suc (args_many known args)

stmt_fits : (funs : List NamedFun) (known : List (List ℕ)) (stmt : NamedStmt) → flat_map (call_faults funs) (calls stmt) ≡ []
    → CallsFit (numbered funs) (numbered_stmt (fun_names funs) known stmt)
stmt_fits funs known (Let x a) h = tt
stmt_fits funs known (Compute x a op b) h = tt
stmt_fits funs known (Print when a) h = tt
stmt_fits funs known (Raise when a) h = tt
stmt_fits funs known (Return when a) h = tt
stmt_fits funs known (Await x f args) h =
    subst (Callable (numbered funs) (at (fun_names funs) f)) (args_many known args)
    (calls_right funs (record { name = f; count = length args } ∷ []) h).0
stmt_fits funs known (AwaitWork x kind a) h = tt
stmt_fits funs known (Try x f args g) h =
    let both = calls_right funs (record { name = f; count = length args } ∷ record { name = g; count = 1 } ∷ []) h
    in (subst (Callable (numbered funs) (at (fun_names funs) f)) (args_many known args) both.0, both.1.0)

lines_fit : (funs : List NamedFun) (known : List (List ℕ)) (lines : List NamedLine) → AllByRecursion IsFaultless (body_judged funs known lines)
    → AllByRecursion (CallsFit (numbered funs)) (numbered_lines (fun_names funs) known lines)
lines_fit funs known [] h = tt
lines_fit funs known (line ∷ lines) h =
    (stmt_fits funs known line.stmt (has_none funs known line.stmt h.0).called, lines_fit funs (binds line.stmt ++ known) lines h.1)

funs_sound : (all : List NamedFun) (before : List (List ℕ)) (funs : List NamedFun) → AllByRecursion IsWithin funs
    → AllByRecursion IsFaultless (funs_judged all before funs)
    → AllByRecursion (FunIsSound (numbered all)) (map (numbered_fun (fun_names all)) funs)
funs_sound all before [] w h = tt
funs_sound all before (fun ∷ funs) w h =
    let parts = all_split IsFaultless (body_judged all fun.params fun.lines) (funs_judged all (fun.name ∷ before) funs) h.1
    in (
      record { short = omega (arith, w.0.lines, lines_many (fun_names all) fun.params fun.lines); calls = lines_fit all fun.params fun.lines parts.0 },
      funs_sound all (fun.name ∷ before) funs w.1 parts.1,
    )

-- ---- main
abbrev IsMainRight : NamedFun → Type 0
IsMainRight fun = main_faults fun ≡ []

mains_right : (all : List NamedFun) (before : List (List ℕ)) (funs : List NamedFun) → AllByRecursion IsFaultless (funs_judged all before funs)
    → AllByRecursion IsMainRight funs
mains_right all before [] h = tt
mains_right all before (fun ∷ funs) h =
    let parts = all_split IsFaultless (body_judged all fun.params fun.lines) (funs_judged all (fun.name ∷ before) funs) h.1
    in let head : (twice_faults before (fun.name ∷ []) ++ twice_faults [] fun.params ≡ []) × (main_faults fun ≡ []) =
    empty_split (twice_faults before (fun.name ∷ []) ++ twice_faults [] fun.params) (main_faults fun) h.0
    in (head.1, mains_right all (fun.name ∷ before) funs parts.1)

main_first : (first fun : NamedFun) (b : Bool) (o : Option NamedFun) → cond b (cond (length first.params == 0) [] (WrongCount ∷ [])) [] ≡ []
    → cond b (Some first) o ≡ Some fun → (o ≡ Some fun → length fun.params ≡ 0) → length fun.params ≡ 0
main_first first fun true o m e h =
    let same : first ≡ fun = cc
    in subst (λ (f : NamedFun). length f.params ≡ 0) same (count_right (length first.params) 0 m)
main_first first fun false o m e h = h e

main_takes : (funs : List NamedFun) (fun : NamedFun) → AllByRecursion IsMainRight funs → fun_named funs (codes "main") ≡ Some fun
    → length fun.params ≡ 0
main_takes [] fun h e = cc
main_takes (first ∷ funs) fun h e =
    main_first first fun (bytes_eq (codes "main") first.name) (fun_named funs (codes "main")) h.0 e (main_takes funs fun h.1)

main_there : (o : Option NamedFun) → ((fun : NamedFun) → o ≡ Some fun → length fun.params ≡ 0)
    → option_map_or (λ fun. []) o (NoMain ∷ []) ≡ [] → IsNamed o 0
main_there None t h = cc
main_there (Some fun) t h = record { fun = fun; is = refl; takes = t fun refl }

pub names_are_sound : (funs : List NamedFun) → AllByRecursion IsWithin funs → name_fault funs ≡ None → IsSound (numbered funs)
names_are_sound funs w h =
    let none = faultless (judged funs) h
    in record {
      each = funs_sound funs [] funs w none.1;
      main = named_callable funs (codes "main") 0
          (main_there (fun_named funs (codes "main")) (λ fun. main_takes funs fun (mains_right funs [] funs none.1)) none.0);
    }
