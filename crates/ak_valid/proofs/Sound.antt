-- A valid script by its places is a sound program: what is looked up by name is looked up by place, and what the grammar says
-- of its statements stays.
use Rattle.std.proofs.Common.{◌≡◌, ℕ, zero, suc, ◌+◌, Bool, true, false, ◌||◌, ◌&&◌, ◌≤◌, cond, List, [], ◌∷◌, ◌++◌, length, map, take, drop, Option, Some, None, refl, sym, ap, ◌∙◌, subst, arith, append-nil, append_assoc, codes, MatchOption, length-append, get_or}
use Rattle.std.proofs.lemmas.List.{map-append}
use Rattle.std.proofs.lemmas.List.Quantifiers.{position-Some}
use Rattle.std.proofs.lemmas.Option.{slice_get-get_or}
use Rattle.std.proofs.lemmas.Slice.Eq.{bytes_eq-Decides}
use Rattle.std.specs.List.{AllByRecursion, AllZip, Any, list_any, slice_get, range_with_len}
use Rattle.std.specs.Str.{bytes_eq}
use Rattle.ak_script.specs.Kinds.{Serves}
use Rattle.ak_script.specs.declared.script.Kind.{Kind}
use Rattle.ak_script.specs.declared.script.Kind.TheVariants as of_kind
use Rattle.ak_script.specs.declared.script.Param.{Param}
use Rattle.ak_script.specs.declared.script.Prefix.{Prefix}
use Rattle.ak_script.specs.declared.script.Prefix.TheVariants.{If, Unless}
use Rattle.ak_script.specs.declared.script.Statement.{Statement}
use Rattle.ak_script.specs.declared.script.Proc.{Proc}
use Rattle.ak_script.specs.declared.statement.Atom.{Atom}
use Rattle.ak_script.specs.declared.statement.Atom.TheVariants.{Literal, Local}
use Rattle.ak_script.specs.declared.statement.Choice.{Choice}
use Rattle.ak_script.specs.declared.statement.Stmt.{Stmt}
use Rattle.ak_script.specs.declared.statement.Stmt.TheVariants as by_name
use Rattle.ak_script.specs.Statements.{binds, MayHavePrefix, IsWithin, IsFormed, ProcIsFormed}
use Rattle.ak_syntax.specs.Grammar.{locals}
use Rattle.ak_program.specs.declared.program.NumParam.{NumParam}
use Rattle.ak_program.specs.declared.program.NumProc.{NumProc}
use Rattle.ak_program.specs.declared.statement.NumChoice.{NumChoice}
use Rattle.ak_program.specs.Programs.{NumUse, NumCallee, num_uses, num_callees, num_binds, ProgramIsSound, ProcIsSound, LinesAreSound, StatementIsSound, AreNext, IsAsk}
use Rattle.ak_program.specs.Programs as placed
use Rattle.ak_valid.specs.Numbered.{at, param_names, proc_names, numbered_atom, numbered_choice, numbered_stmt, numbered_statement, numbered_param, numbered_proc, numbered_prefix, numbered, main_of, is_num, is_one_number, is_ask, ask_of}
use Rattle.ak_valid.specs.Uses.{Use, Callee, local, number, returned, uses, callees}
use Rattle.ak_valid.specs.Valid.{AreDistinct, Valid, HasMain, ProcIsValid, LinesAreValid, StatementIsValid, IsKnown, IsPassed, IsCallable, Takes, local_named, proc_named, prefix_uses}
use Rattle.ak_valid.proofs.Mapping.{all_binds, map_twice, names_append}
use Rattle.ak_valid.proofs.Firsts.{absent_before}

-- ---- lists
map_size : {A B : Type 0} (f : A → B) (xs : List A) → length (map f xs) ≡ length xs
map_size f [] = refl
map_size f (x ∷ xs) = ap suc (map_size f xs)

map_take : {A B : Type 0} (f : A → B) (n : ℕ) (xs : List A) → take n (map f xs) ≡ map f (take n xs)
map_take f zero xs = refl
map_take f (suc n) [] = refl
map_take f (suc n) (x ∷ xs) = ap (λ rest. f x ∷ rest) (map_take f n xs)

map_drop : {A B : Type 0} (f : A → B) (n : ℕ) (xs : List A) → drop n (map f xs) ≡ map f (drop n xs)
map_drop f zero xs = refl
map_drop f (suc n) [] = refl
map_drop f (suc n) (x ∷ xs) = map_drop f n xs

get_mapped : {A B : Type 0} (f : A → B) (xs : List A) (k : ℕ) (x : A) → slice_get xs k ≡ Some x → slice_get (map f xs) k ≡ Some (f x)
get_mapped f [] k x h = cc
get_mapped f (y ∷ xs) zero x h = let same : y ≡ x = cc in ap (λ z. Some (f z)) same
get_mapped f (y ∷ xs) (suc k) x h = get_mapped f xs k x h

all_mapped : {A B : Type 0} (f : A → B) (P : A → Type 0) (Q : B → Type 0) → ((x : A) → P x → Q (f x)) → (xs : List A)
    → AllByRecursion P xs → AllByRecursion Q (map f xs)
all_mapped f P Q each [] h = tt
all_mapped f P Q each (x ∷ xs) h = (each x h.0, all_mapped f P Q each xs h.1)

all_both : {A : Type 0} (P Q : A → Type 0) (xs : List A) → AllByRecursion P xs → AllByRecursion Q xs → AllByRecursion (λ x. P x × Q x) xs
all_both P Q [] p q = tt
all_both P Q (x ∷ xs) p q = ((p.0, q.0), all_both P Q xs p.1 q.1)

zip_mapped : {A B C D : Type 0} (f : A → C) (g : B → D) (P : A → B → Type 0) (Q : C → D → Type 0)
    → ((x : A) (y : B) → P x y → Q (f x) (g y)) → (xs : List A) (ys : List B) → AllZip P xs ys → AllZip Q (map f xs) (map g ys)
zip_mapped f g P Q each [] [] h = tt
zip_mapped f g P Q each [] (y ∷ ys) h = absurd h
zip_mapped f g P Q each (x ∷ xs) [] h = absurd h
zip_mapped f g P Q each (x ∷ xs) (y ∷ ys) h = (each x y h.0, zip_mapped f g P Q each xs ys h.1)

-- ---- names and their places
same_name : (name : List ℕ) → bytes_eq name name ≡ true
same_name name = (bytes_eq-Decides name name).1 refl

place_behind : (front rest : List (List ℕ)) (name : List ℕ) → list_any (bytes_eq name) front ≡ false → at (front ++ name ∷ rest) name ≡ length front
place_behind [] rest name h = rw (same_name name) refl
place_behind (x ∷ front) rest name h = of (bytes_eq name x) refl h (λ t. place_behind front rest name t)
  where
    of : (b : Bool) → bytes_eq name x ≡ b → (b || list_any (bytes_eq name) front) ≡ false
        → (list_any (bytes_eq name) front ≡ false → at (front ++ name ∷ rest) name ≡ length front)
        → at (x ∷ front ++ name ∷ rest) name ≡ suc (length front)
    of true e h later = cc
    of false e h later = rw e (omega (arith, later h))

-- names in the middle of distinct ones are at the next places
places_between : (front names rest : List (List ℕ)) → AreDistinct (front ++ names ++ rest)
    → map (at (front ++ names ++ rest)) names ≡ range_with_len (length front) (length names)
places_between front [] rest h = refl
places_between front (name ∷ names) rest h =
    let all : List (List ℕ) = front ++ (name ∷ names) ++ rest in
    let nested : all ≡ front ++ name ∷ (names ++ rest) = append_assoc front (name ∷ names) rest in
    let regroup : all ≡ (front ++ name ∷ []) ++ names ++ rest =
    nested ∙ sym (append_assoc front (name ∷ []) (names ++ rest)) ∙ sym (append_assoc (front ++ name ∷ []) names rest) in
    let later = places_between (front ++ name ∷ []) names rest (subst AreDistinct regroup h) in
    let size : length (front ++ name ∷ []) ≡ length front + 1 = length-append front (name ∷ []) in
    let absent = absent_before front (names ++ rest) name (subst AreDistinct nested h) in
    let here : at all name ≡ length front = ap (λ (ns : List (List ℕ)). at ns name) nested ∙ place_behind front (names ++ rest) name absent in
    let others : map (at all) names ≡ range_with_len (length front + 1) (length names) =
    ap (λ (ns : List (List ℕ)). map (at ns) names) regroup ∙ later ∙ ap (λ (n : ℕ). range_with_len n (length names)) size in
    λ i. here i ∷ others i

distinct_places : (names : List (List ℕ)) → AreDistinct names → map (at names) names ≡ range_with_len 0 (length names)
distinct_places names h =
    let whole : names ++ [] ≡ names = append-nil names in
    ap (λ (ns : List (List ℕ)). map (at ns) names) (sym whole) ∙ places_between [] names [] (subst AreDistinct (sym whole) h)

-- ---- a local by its name and by its place
local_place : (known later : List Param) (name : List ℕ) (param : Param) → local_named known name ≡ Some param
    → slice_get known (at (param_names (known ++ later)) name) ≡ Some param
local_place [] later name param h = cc
local_place (x ∷ known) later name param h = of (bytes_eq name x.name) refl h (λ t. local_place known later name param t)
  where
    of : (b : Bool) → bytes_eq name x.name ≡ b → cond b (Some x) (local_named known name) ≡ Some param
        → (local_named known name ≡ Some param → slice_get known (at (param_names (known ++ later)) name) ≡ Some param)
        → slice_get (x ∷ known) (at (x.name ∷ param_names (known ++ later)) name) ≡ Some param
    of true e h next = rw e h
    of false e h next = let step : at (x.name ∷ param_names (known ++ later)) name ≡ suc (at (param_names (known ++ later)) name) =
        rw e (omega arith) in rw step (next h)

-- the kinds of the locals so far
abbrev kinds_of : List Param → List Kind
kinds_of known = map (λ (param : Param). param.kind) known

abbrev use_at : List (List ℕ) → Use → NumUse
use_at names used = record { place = at names used.name; wanted = used.wanted }

known_at : (known later : List Param) (used : Use) → IsKnown known used → placed.IsKnown (kinds_of known) (use_at (param_names (known ++ later)) used)
known_at known later used h = of (local_named known used.name) refl h
  where
    of : (o : Option Param) → local_named known used.name ≡ o → MatchOption o ⊥ (λ param. Any (Serves param.kind) used.wanted)
        → placed.IsKnown (kinds_of known) (use_at (param_names (known ++ later)) used)
    of None found h = absurd h
    of (Some param) found h =
        rw (get_mapped (λ (p : Param). p.kind) known (at (param_names (known ++ later)) used.name) param
        (local_place known later used.name param found)) h

-- ---- what a statement uses, by its places
number_at : (names : List (List ℕ)) (a : Atom) → placed.number (numbered_atom names a) ≡ map (use_at names) (number a)
number_at names (Literal n) = refl
number_at names (Local name) = refl

returned_at : (names : List (List ℕ)) (a : Atom) → placed.returned (numbered_atom names a) ≡ map (use_at names) (returned a)
returned_at names (Literal n) = refl
returned_at names (Local name) = refl

deferreds_at : (names ds : List (List ℕ)) → map (λ d. placed.local d of_kind.Def) (map (at names) ds) ≡ map (use_at names) (map (λ d. local d of_kind.Def) ds)
deferreds_at names [] = refl
deferreds_at names (d ∷ ds) = ap (λ rest. placed.local (at names d) of_kind.Def ∷ rest) (deferreds_at names ds)

choices_at : (procs names : List (List ℕ)) (choices : List Choice)
    → map (λ (choice : NumChoice). placed.local choice.d of_kind.Def) (map (numbered_choice procs names) choices)
    ≡ map (use_at names) (map (λ (choice : Choice). local choice.d of_kind.Def) choices)
choices_at procs names [] = refl
choices_at procs names (choice ∷ choices) = ap (λ rest. placed.local (at names choice.d) of_kind.Def ∷ rest) (choices_at procs names choices)

uses_at : (procs names : List (List ℕ)) (stmt : Stmt) → num_uses (numbered_stmt procs names stmt) ≡ map (use_at names) (uses stmt)
uses_at procs names (by_name.Set x a op b) = (λ i. number_at names a i ++ number_at names b i) ∙ sym (map-append (use_at names) (number a) (number b))
uses_at procs names (by_name.Print a) = number_at names a
uses_at procs names (by_name.Fill i a) = ap (λ rest. placed.local (at names i) of_kind.Ivar ∷ rest) (number_at names a)
uses_at procs names (by_name.Offer i a) = ap (λ rest. placed.local (at names i) of_kind.Ivar ∷ rest) (number_at names a)
uses_at procs names (by_name.All r deferreds proc args) = deferreds_at names deferreds
uses_at procs names (by_name.Any r deferreds) = deferreds_at names deferreds
uses_at procs names (by_name.Choose r choices args) = choices_at procs names choices
uses_at procs names (by_name.After r n) = number_at names n
uses_at procs names (by_name.Event e r n) = number_at names n
uses_at procs names (by_name.Tick n) = number_at names n
uses_at procs names (by_name.Raise a) = number_at names a
uses_at procs names (by_name.Send m a) = ap (λ rest. placed.local (at names m) of_kind.Mon ∷ rest) (number_at names a)
uses_at procs names (by_name.Write r p a) = ap (λ rest. placed.local (at names p) of_kind.Pipe ∷ rest) (number_at names a)
uses_at procs names (by_name.Put p a) = ap (λ rest. placed.local (at names p) of_kind.Pipe ∷ rest) (number_at names a)
uses_at procs names (by_name.Work r kind a) = number_at names a
uses_at procs names (by_name.HelperWork r h kind a) = ap (λ rest. placed.local (at names h) of_kind.Helper ∷ rest) (number_at names a)
uses_at procs names (by_name.Ret a) = returned_at names a
uses_at procs names _ = refl

prefix_at : (names : List (List ℕ)) (prefix : Option Prefix) → placed.prefix_uses (numbered_prefix names prefix) ≡ map (use_at names) (prefix_uses prefix)
prefix_at names None = refl
prefix_at names (Some (If a)) = number_at names a
prefix_at names (Some (Unless a)) = number_at names a

-- ---- what a statement calls, by its places
abbrev callee_at : List (List ℕ) → List (List ℕ) → Callee → NumCallee
callee_at procs names callee = record { place = at procs callee.name; front = callee.front; args = map (numbered_atom names) callee.args }

chosen_at : (procs names : List (List ℕ)) (args : List Atom) (choices : List Choice)
    → map (λ (choice : NumChoice). let r : NumCallee = record { place = choice.proc; front = 1; args = map (numbered_atom names) args } in
    r) (map (numbered_choice procs names) choices)
    ≡ map (callee_at procs names) (map (λ (choice : Choice). let r : Callee = record { name = choice.proc; front = 1; args = args } in r) choices)
chosen_at procs names args [] = refl
chosen_at procs names args (choice ∷ choices) = ap
    (λ rest. (let r : NumCallee = record { place = at procs choice.proc; front = 1; args = map (numbered_atom names) args } in r) ∷ rest)
    (chosen_at procs names args choices)

callees_at : (procs names : List (List ℕ)) (stmt : Stmt) → num_callees (numbered_stmt procs names stmt) ≡ map (callee_at procs names) (callees stmt)
callees_at procs names (by_name.All r deferreds proc args) = ap
    (λ n. (let c : NumCallee = record { place = at procs proc; front = n; args = map (numbered_atom names) args } in c) ∷ [])
    (map_size (at names) deferreds)
callees_at procs names (by_name.Choose r choices args) = chosen_at procs names args choices
callees_at procs names _ = refl

binds_at : (procs names : List (List ℕ)) (stmt : Stmt) → num_binds (numbered_stmt procs names stmt) ≡ map (numbered_param names) (binds stmt)
binds_at procs names (by_name.Set x a op b) = refl
binds_at procs names _ = refl

-- ---- what the grammar says
alone_at : (procs names : List (List ℕ)) (prefix : Option Prefix) (stmt : Stmt) → MayHavePrefix prefix stmt
    → placed.MayHavePrefix (numbered_prefix names prefix) (numbered_stmt procs names stmt)
alone_at procs names None stmt h = tt
alone_at procs names (Some (If a)) stmt h = binds_at procs names stmt ∙ ap (map (numbered_param names)) h
alone_at procs names (Some (Unless a)) stmt h = binds_at procs names stmt ∙ ap (map (numbered_param names)) h

within_at : (procs names : List (List ℕ)) (stmt : Stmt) → IsWithin stmt → placed.IsWithin (numbered_stmt procs names stmt)
within_at procs names (by_name.All r deferreds proc args) h = rw (map_size (at names) deferreds) h.0
within_at procs names (by_name.Any r deferreds) h = rw (map_size (at names) deferreds) h
within_at procs names (by_name.Choose r choices args) h = rw (map_size (numbered_choice procs names) choices) h.0
within_at procs names (by_name.Throttle t k stop) h = h
within_at procs names (by_name.Pipe p b) h = h
within_at procs names _ h = tt

few_args : (names : List (List ℕ)) (args : List Atom) → length args ≤ 8 → length (map (numbered_atom names) args) ≤ 8
few_args names args h = rw (map_size (numbered_atom names) args) h

few_chosen : (procs names : List (List ℕ)) (args : List Atom) (choices : List Choice) → length args ≤ 8
    → AllByRecursion placed.HasFewArgs
    (map (λ (choice : NumChoice). let r : NumCallee = record {
      place = choice.proc;
      front = 1;
      args =
          map (numbered_atom names) args;
    } in r) (map (numbered_choice procs names) choices))
few_chosen procs names args [] h = tt
few_chosen procs names args (choice ∷ choices) h = (few_args names args h, few_chosen procs names args choices h)

few_at : (procs names : List (List ℕ)) (stmt : Stmt) → IsWithin stmt → AllByRecursion placed.HasFewArgs (num_callees (numbered_stmt procs names stmt))
few_at procs names (by_name.Upon d proc args) h = (few_args names args h, tt)
few_at procs names (by_name.Bind r d proc args) h = (few_args names args h, tt)
few_at procs names (by_name.All r deferreds proc args) h = (few_args names args h.1, tt)
few_at procs names (by_name.Choose r choices args) h = few_chosen procs names args choices h.1
few_at procs names (by_name.Sched proc args) h = (few_args names args h, tt)
few_at procs names (by_name.Low proc args) h = (few_args names args h, tt)
few_at procs names (by_name.Within m proc args) h = (few_args names args h, tt)
few_at procs names (by_name.OnError m proc args) h = (few_args names args h, tt)
few_at procs names (by_name.Try r proc args catch catch_args mode) h = (few_args names args h.0, (few_args names catch_args h.1, tt))
few_at procs names (by_name.Enqueue r t proc args) h = (few_args names args h, tt)
few_at procs names (by_name.Read r p proc args eof eof_args) h = (few_args names args h.0, (few_args names eof_args h.1, tt))
few_at procs names _ h = tt

-- ---- calls
abbrev params_at : Proc → List NumParam
params_at proc = map (numbered_param (param_names (locals proc))) proc.params

passed_at : (known later : List Param) (names : List (List ℕ)) (a : Atom) (param : Param) → IsPassed known a param
    → placed.IsPassed (kinds_of known) (numbered_atom (param_names (known ++ later)) a) (numbered_param names param)
passed_at known later names (Literal n) param h = h
passed_at known later names (Local name) param h = known_at known later (local name param.kind) h

takes_at : (procs : List Proc) (known later : List Param) (proc : Proc) (callee : Callee) → Takes known proc.params callee
    → placed.Takes (kinds_of known) (params_at proc) (callee_at (proc_names procs) (param_names (known ++ later)) callee)
takes_at procs known later proc callee h =
    let names : List (List ℕ) = param_names (locals proc) in
    let here : List (List ℕ) = param_names (known ++ later) in
    record {
      front = subst (AllByRecursion (λ (p : NumParam). p.kind ≡ of_kind.Num)) (sym (map_take (numbered_param names) callee.front proc.params))
          (all_mapped (numbered_param names) (λ (p : Param). p.kind ≡ of_kind.Num) (λ (p : NumParam). p.kind ≡ of_kind.Num) (λ x k. k)
          (take callee.front proc.params) h.front);
      enough = rw (map_size (numbered_param names) proc.params) h.enough;
      args = subst (AllZip (placed.IsPassed (kinds_of known)) (map (numbered_atom here) callee.args))
          (sym (map_drop (numbered_param names) callee.front proc.params))
          (zip_mapped (numbered_atom here) (numbered_param names) (IsPassed known) (placed.IsPassed (kinds_of known))
          (passed_at known later names) callee.args (drop callee.front proc.params) h.args);
    }

-- a procedure by its name and by its place
proc_place : (procs : List Proc) (name : List ℕ) (proc : Proc) → proc_named procs name ≡ Some proc → slice_get procs (at (proc_names procs) name) ≡ Some proc
proc_place [] name proc h = cc
proc_place (x ∷ procs) name proc h = of (bytes_eq name x.name) refl h (λ t. proc_place procs name proc t)
  where
    of : (b : Bool) → bytes_eq name x.name ≡ b → cond b (Some x) (proc_named procs name) ≡ Some proc
        → (proc_named procs name ≡ Some proc → slice_get procs (at (proc_names procs) name) ≡ Some proc)
        → slice_get (x ∷ procs) (at (x.name ∷ proc_names procs) name) ≡ Some proc
    of true e h next = rw e h
    of false e h next = let step : at (x.name ∷ proc_names procs) name ≡ suc (at (proc_names procs) name) = rw e (omega arith) in rw step (next h)

callable_at : (script : List Proc) (known later : List Param) (callee : Callee) → IsCallable script known callee
    → placed.IsCallable (numbered script) (kinds_of known) (callee_at (proc_names script) (param_names (known ++ later)) callee)
callable_at script known later callee h = of (proc_named script callee.name) refl h
  where
    of : (o : Option Proc) → proc_named script callee.name ≡ o → MatchOption o ⊥ (λ proc. Takes known proc.params callee)
        → placed.IsCallable (numbered script) (kinds_of known) (callee_at (proc_names script) (param_names (known ++ later)) callee)
    of None found h = absurd h
    of (Some proc) found h =
        rw (get_mapped (numbered_proc (proc_names script)) script (at (proc_names script) callee.name) proc
        (proc_place script callee.name proc found)) (takes_at script known later proc callee h)

-- ---- lines
bound_next : (known bound rest : List Param) → AreDistinct (param_names (known ++ (bound ++ rest)))
    → AreNext (length known) (map (numbered_param (param_names (known ++ (bound ++ rest)))) bound)
bound_next known bound rest h =
    let all : List (List ℕ) = param_names (known ++ (bound ++ rest)) in
    let parts : all ≡ param_names known ++ param_names bound ++ param_names rest =
    names_append known (bound ++ rest) ∙ ap (λ (ns : List (List ℕ)). param_names known ++ ns) (names_append bound rest)
    ∙ sym (append_assoc (param_names known) (param_names bound) (param_names rest)) in
    map_twice (λ (p : NumParam). p.name) (numbered_param all) bound ∙ sym (map_twice (at all) (λ (p : Param). p.name) bound)
    ∙ ap (λ (ns : List (List ℕ)). map (at ns) (param_names bound)) parts ∙ places_between (param_names known) (param_names bound)
    (param_names rest) (subst AreDistinct parts h)
    ∙ (λ i. range_with_len (map_size (λ (p : Param). p.name) known i) ((map_size (λ (p : Param). p.name) bound ∙ sym (map_size (numbered_param all) bound)) i))

statement_sound : (script : List Proc) (known rest : List Param) (statement : Statement)
    → AreDistinct (param_names (known ++ (binds statement.stmt ++ rest))) → StatementIsValid script known statement → IsFormed statement
    → StatementIsSound (numbered script) (kinds_of known)
    (numbered_statement (proc_names script) (param_names (known ++ (binds statement.stmt ++ rest))) statement)
statement_sound script known rest statement distinct h formed =
    let later : List Param = binds statement.stmt ++ rest in
    let procs : List (List ℕ) = proc_names script in
    let names : List (List ℕ) = param_names (known ++ later) in
    record {
      prefix = subst (AllByRecursion (placed.IsKnown (kinds_of known))) (sym (prefix_at names statement.prefix))
          (all_mapped (use_at names) (IsKnown known) (placed.IsKnown (kinds_of known)) (known_at known later) (prefix_uses statement.prefix) h.prefix);
      uses = subst (AllByRecursion (placed.IsKnown (kinds_of known))) (sym (uses_at procs names statement.stmt))
          (all_mapped (use_at names) (IsKnown known) (placed.IsKnown (kinds_of known)) (known_at known later) (uses statement.stmt) h.uses);
      calls = subst (AllByRecursion (placed.IsCallable (numbered script) (kinds_of known))) (sym (callees_at procs names statement.stmt))
          (all_mapped (callee_at procs names) (IsCallable script known) (placed.IsCallable (numbered script) (kinds_of known))
          (callable_at script known later) (callees statement.stmt) h.calls);
      binds = subst (AreNext (length (kinds_of known))) (sym (binds_at procs names statement.stmt))
          (subst (λ (n : ℕ). AreNext n (map (numbered_param names) (binds statement.stmt))) (sym (map_size (λ (p : Param). p.kind) known))
          (bound_next known (binds statement.stmt) rest distinct));
      alone = alone_at procs names statement.prefix statement.stmt formed.0;
      within = within_at procs names statement.stmt formed.1;
      few = few_at procs names statement.stmt formed.1;
    }

kinds_next : (procs names : List (List ℕ)) (known : List Param) (stmt : Stmt) → kinds_of known
    ++ map (λ (p : NumParam). p.kind) (num_binds (numbered_stmt procs names stmt)) ≡ kinds_of (known ++ binds stmt)
kinds_next procs names known stmt =
    ap (λ (ks : List Kind). kinds_of known ++ ks) (ap (map (λ (p : NumParam). p.kind)) (binds_at procs names stmt)
    ∙ map_twice (λ (p : NumParam). p.kind) (numbered_param names) (binds stmt))
    ∙ sym (map-append (λ (p : Param). p.kind) known (binds stmt))

lines_sound : (script : List Proc) (names : List (List ℕ)) (known : List Param) (body : List Statement)
    → names ≡ param_names (known ++ all_binds body) → AreDistinct names → LinesAreValid script known body → AllByRecursion IsFormed body
    → LinesAreSound (numbered script) (kinds_of known) (map (numbered_statement (proc_names script) names) body)
lines_sound script names known [] is distinct h formed = tt
lines_sound script names known (statement ∷ body) is distinct h formed =
    let regroup : names ≡ param_names ((known ++ binds statement.stmt) ++ all_binds body) =
    is ∙ ap param_names (sym (append_assoc known (binds statement.stmt) (all_binds body))) in (
      subst (λ (ns : List (List ℕ)). StatementIsSound (numbered script) (kinds_of known) (numbered_statement (proc_names script) ns statement)) (sym is)
          (statement_sound script known (all_binds body) statement (subst AreDistinct is distinct) h.0 formed.0),
      subst (λ (ks : List Kind). LinesAreSound (numbered script) ks (map (numbered_statement (proc_names script) names) body))
          (sym (kinds_next (proc_names script) names known statement.stmt))
          (lines_sound script names (known ++ binds statement.stmt) body regroup distinct h.1 formed.1),
    )

-- ---- procedures
params_next : (params rest : List Param) → AreDistinct (param_names (params ++ rest)) → AreNext 0 (map (numbered_param (param_names (params ++ rest))) params)
params_next params rest h = bound_next [] params rest h

proc_sound : (script : List Proc) (proc : Proc) → ProcIsValid script proc × ProcIsFormed proc
    → ProcIsSound (numbered script) (numbered_proc (proc_names script) proc)
proc_sound script proc h =
    let names : List (List ℕ) = param_names (locals proc) in
    record {
      params = params_next proc.params (all_binds proc.body) h.0.locals;
      lines = subst (λ (ks : List Kind). LinesAreSound (numbered script) ks
          (map (numbered_statement (proc_names script) names) proc.body))
          (sym (map_twice (λ (p : NumParam). p.kind) (numbered_param names) proc.params))
          (lines_sound script names proc.params proc.body refl h.0.locals h.0.lines h.1);
    }

main_begins : (script : List Proc) → HasMain script → MatchOption (slice_get (numbered script) (main_of script)) ⊥ (λ (proc : NumProc). proc.params ≡ [])
main_begins script h = of (proc_named script (codes "main")) refl h
  where
    of : (o : Option Proc) → proc_named script (codes "main") ≡ o → MatchOption o ⊥ (λ proc. proc.params ≡ [])
        → MatchOption (slice_get (numbered script) (main_of script)) ⊥ (λ (proc : NumProc). proc.params ≡ [])
    of None found h = absurd h
    of (Some main) found h =
        rw (get_mapped (numbered_proc (proc_names script)) script (main_of script) main (proc_place script (codes "main") main found))
        (rw h refl)

-- ---- the procedure that serves requests
is_number : (kind : Kind) → is_num kind ≡ true → kind ≡ of_kind.Num
is_number of_kind.Num h = refl
is_number _ h = cc

one_number : (names : List (List ℕ)) (params : List Param) → is_one_number params ≡ true
    → map (λ (p : NumParam). p.kind) (map (numbered_param names) params) ≡ of_kind.Num ∷ []
one_number names [] h = cc
one_number names (param ∷ []) h = ap (λ (kind : Kind). kind ∷ []) (is_number param.kind h)
one_number names (param ∷ other ∷ params) h = cc

second_true : (a b : Bool) → (a && b) ≡ true → b ≡ true
second_true true b h = h
second_true false b h = cc

ask_serves : (script : List Proc) (place : Option ℕ) → ask_of script ≡ place → IsAsk (numbered script) place
ask_serves script None h = tt
ask_serves script (Some k) h =
    let other : Proc = record { name = []; line = 0; params = []; body = [] } in
    let found = position-Some is_ask script k other h in
    let ask : Proc = get_or script k other in
    rw (get_mapped (numbered_proc (proc_names script)) script k ask (slice_get-get_or script k other found.0))
    (one_number (param_names (locals ask)) ask.params (second_true (bytes_eq (codes "ask") ask.name) (is_one_number ask.params) found.1))

-- a valid script by its places
pub valid_sound : (script : List Proc) → Valid script → AllByRecursion ProcIsFormed script → ProgramIsSound (numbered script) (main_of script) (ask_of script)
valid_sound script h formed = record {
  begins = main_begins script h.main;
  serves = ask_serves script (ask_of script) refl;
  places = map_twice (λ (p : NumProc). p.name) (numbered_proc (proc_names script)) script
      ∙ sym (map_twice (at (proc_names script)) (λ (p : Proc). p.name) script)
      ∙ distinct_places (proc_names script) h.procs
      ∙ ap (range_with_len 0) (map_size (λ (p : Proc). p.name) script ∙ sym (map_size (numbered_proc (proc_names script)) script));
  each = all_mapped (numbered_proc (proc_names script)) (λ proc. ProcIsValid script proc × ProcIsFormed proc)
      (ProcIsSound (numbered script)) (proc_sound script) script
      (all_both (ProcIsValid script) ProcIsFormed script h.each formed);
}
