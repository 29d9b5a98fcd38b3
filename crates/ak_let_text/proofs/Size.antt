-- The text of a compiled source is short enough for a script.
use Rattle.std.proofs.Common.{ℕ, ℤ, zero, suc, pos, negsuc, ◌+◌, ◌*◌, ◌<◌, ◌≤◌, ◌^◌, ◌≡◌, List, [], ◌∷◌, ◌++◌, map, length, flat_map, Some, None, FitsSigned, w64, refl, ap, ◌∙◌, arith, length-append}
use Rattle.std.specs.List.{AllByRecursion}
use Rattle.std.proofs.lemmas.Int.{ints}
use Rattle.std.proofs.lemmas.Fmt.{length-decimal-le}
use Rattle.ak_text.specs.Decimal.{decimal_of}
use Rattle.ak_row.specs.Plain.{place_word, row_text}
use Rattle.ak_script.specs.declared.statement.Atom.{Atom as ScriptAtom}
use Rattle.ak_script.specs.declared.statement.Atom.TheVariants as by_name
use Rattle.ak_program.specs.declared.statement.NumAtom.{NumAtom}
use Rattle.ak_program.specs.declared.statement.NumAtom.TheVariants.{Local}
use Rattle.ak_program.specs.declared.program.NumParam.{NumParam}
use Rattle.ak_program.specs.declared.program.NumStatement.{NumStatement}
use Rattle.ak_program.specs.declared.program.NumProc.{NumProc}
use Rattle.ak_syntax.specs.declared.line_form.Form.{Form}
use Rattle.ak_syntax.specs.declared.line_form.Form.TheVariants.{Body, End}
use Rattle.ak_syntax.specs.Table.{Place, Exactly, Named, Valued, Counted, Typed, row}
use Rattle.ak_syntax.specs.Grammar.{Reads, places, forms, prefix_places}
use Rattle.ak_syntax.specs.declared.version.Version.TheVariants as version
use Rattle.ak_let.specs.declared.source.Atom.{Atom}
use Rattle.ak_let.specs.declared.source.Line.{Line}
use Rattle.ak_let.specs.declared.source.Line.TheVariants.{Let, Compute, Print, Raise, Return, Await, AwaitWork, Try}
use Rattle.ak_let.specs.declared.source.Fun.{Fun}
use Rattle.ak_let.specs.declared.source.Source.{Source}
use Rattle.ak_let.specs.Compile.{Piece, atom, begin, params_from, written, piece, line_behind, further, fun_procs, awaits, entry_from, line_after, funs_procs, compiled}
use Rattle.ak_let.specs.Correct.{FunIsSound, FunIsWithin, bound_by}
use Rattle.ak_let_text.specs.Compiles.{Compiles}
use Rattle.ak_let_text.specs.Named.{named_atom, named_stmt, named_prefix, named_statement, named_param, named_proc, named}
use Rattle.ak_let_text.specs.Text.{as_row, form_row, script_text}
use Rattle.ak_let_text.proofs.Forms.{CanBeWritten, FormCanBeWritten}
use Rattle.ak_let_text.proofs.Written.{IsCons}
use Rattle.ak_let_text.proofs.Back.{map_length}
use Rattle.ak_let_text.proofs.Compiled.{procs_few}
use Rattle.ak_let_text.proofs.Script.{form_some, form_is_written, compiled_reads}
use Rattle.ak_let_text.proofs.Limits.{IsNarrow, lines_narrow, pushed_length, args_length, locals_many, script_within}

-- ---- a line
-- a word, with the byte behind it, has at most so many bytes
abbrev weight : Place → ℕ
weight (Valued a) = 21
weight place = 19

abbrev weight_of : List Place → ℕ
weight_of [] = 0
weight_of (place ∷ places) = weight place + weight_of places

number_short : (z : ℤ) → FitsSigned w64 z → length (decimal_of z) ≤ 20
number_short (pos n) h =
    let small : n < 2 ^ 63 = omega (arith, ints, h)
    in omega (arith, length-decimal-le 19 n (omega arith) (omega (arith, small)) (omega (arith, small)))
number_short (negsuc n) h =
    let small : suc n ≤ 2 ^ 63 = omega (arith, ints, h)
    in omega (arith, length-decimal-le 19 (suc n) (omega arith) (omega (arith, small)) (omega (arith, small)))

word_short : (place : Place) → CanBeWritten place → length (place_word (as_row place)) + 1 ≤ weight place
word_short (Exactly bytes) h = omega (arith, h.1)
word_short (Named name) h = omega (arith, h.2)
word_short (Valued (by_name.Literal z)) h = omega (arith, number_short z h)
word_short (Valued (by_name.Local name)) h = omega (arith, h.2)
word_short (Counted least n) h = absurd h
word_short (Typed param) h = omega (arith, h.0.1)

line_short : (ps : List Place) → AllByRecursion CanBeWritten ps → IsCons (map as_row ps) → length (row_text (map as_row ps)) ≤ weight_of ps
line_short [] h some = absurd some
line_short (p ∷ []) h some = omega (arith, length-append (place_word (as_row p)) (10 ∷ []), word_short p h.0)
line_short (p ∷ q ∷ ps) h some =
    omega (arith, length-append (place_word (as_row p)) (32 ∷ row_text (map as_row (q ∷ ps))), word_short p h.0, line_short (q ∷ ps) h.1 tt)

abbrev weight_in : List Form → ℕ
weight_in [] = 0
weight_in (form ∷ forms) = weight_of (places form) + weight_in forms

lines_short : (fs : List Form) → AllByRecursion FormCanBeWritten fs → length (flat_map row_text (map form_row fs)) ≤ weight_in fs
lines_short [] h = omega arith
lines_short (f ∷ fs) h =
    omega (arith, length-append (row_text (form_row f)) (flat_map row_text (map form_row fs)), line_short (places f) h.0 (form_some f), lines_short fs h.1)

-- ---- procedures
abbrev statement_weight : NumStatement → ℕ
statement_weight s = weight_of (prefix_places (named_prefix s.prefix) ++ row (named_stmt s.stmt))

abbrev body_weight : List NumStatement → ℕ
body_weight [] = 0
body_weight (s ∷ lines) = statement_weight s + body_weight lines

abbrev proc_weight : NumProc → ℕ
proc_weight proc = 57 + 19 * length proc.params + body_weight proc.body

abbrev procs_weight : List NumProc → ℕ
procs_weight [] = 0
procs_weight (proc ∷ procs) = proc_weight proc + procs_weight procs

params_weight : (params : List NumParam) → weight_of (map Typed (map named_param params)) ≡ 19 * length params
params_weight [] = refl
params_weight (p ∷ params) = omega (arith, params_weight params)

lines_weight : (lines : List NumStatement) (rest : List Form)
    → weight_in (map Body (map named_statement lines) ++ End ∷ rest) ≡ body_weight lines + (19 + weight_in rest)
lines_weight [] rest = omega arith
lines_weight (s ∷ lines) rest = omega (arith, lines_weight lines rest)

forms_weight : (procs : List NumProc) → weight_in (forms (named procs)) ≡ procs_weight procs
forms_weight [] = refl
forms_weight (proc ∷ procs) =
    omega (arith, params_weight proc.params, lines_weight proc.body (forms (named procs)), forms_weight procs)

weight_append : (xs ys : List NumProc) → procs_weight (xs ++ ys) ≡ procs_weight xs + procs_weight ys
weight_append [] ys = omega arith
weight_append (x ∷ xs) ys = omega (arith, weight_append xs ys)

-- ---- the pieces of a function
values_weight : (xs : List ScriptAtom) → weight_of (map Valued xs) ≡ 21 * length xs
values_weight [] = refl
values_weight (x ∷ xs) = omega (arith, values_weight xs)

-- the numbers of a call, with an ivar behind them
call_weight : (atoms : List NumAtom) (args : List Atom) (k : ℕ)
    → weight_of (map Valued (map named_atom (map (atom atoms) args ++ Local k ∷ []))) ≡ 21 * suc (length args)
call_weight atoms args k =
    values_weight (map named_atom (map (atom atoms) args ++ Local k ∷ [])) ∙ ap (λ n. 21 * n) (args_length atoms args k)

resumed_weight : (atoms : List NumAtom) (k : ℕ) → weight_of (map Valued (map named_atom (atoms ++ Local k ∷ []))) ≡ 21 * suc (length atoms)
resumed_weight atoms k = values_weight (map named_atom (atoms ++ Local k ∷ [])) ∙ ap (λ n. 21 * n) (pushed_length atoms (Local k))

params_many : (k n : ℕ) → length (params_from k n) ≡ suc n
params_many k zero = refl
params_many k (suc n) = ap suc (params_many (suc k) n)

-- a piece of these lines, and those that follow it, where one that begins with n locals has at most so many bytes
abbrev IsLight : (ℕ → ℕ) → List Line → Type 0
IsLight entry lines =
    (place line n : ℕ) (x : Piece) → length x.atoms ≡ n → n + bound_by lines ≤ 7
    → body_weight (written entry place x lines) + procs_weight (further entry place line n lines) ≤ 59 + 179 * length lines + 710 * awaits lines

-- the piece behind an await
further_light : (entry : ℕ → ℕ) (lines : List Line) → IsLight entry lines → (place line n : ℕ) → suc n + bound_by lines ≤ 7
    → procs_weight (piece entry place line (suc n) lines ∷ further entry (suc place) (line_behind (piece entry place line (suc n) lines)) (suc n) lines)
    ≤ 268 + 179 * length lines + 710 * awaits lines
further_light entry lines light place line n l =
    omega (
      arith,
      params_many 0 (suc n),
      l,
      light (suc place) (line_behind (piece entry place line (suc n) lines)) (suc n) (begin (suc n) (line + 1)) (locals_many 0 (suc n)) l,
    )

lines_light : (entry : ℕ → ℕ) (lines : List Line) → AllByRecursion IsNarrow lines → IsLight entry lines
lines_light entry [] a place line n x e l = omega arith
lines_light entry (Let y ∷ lines) a place line n x e l =
    omega (arith, lines_light entry lines a.1 place line (suc n) (record x { atoms = atom x.atoms y ∷ x.atoms }) (ap suc e) (omega (arith, l)))
lines_light entry (Compute y op z ∷ lines) a place line n x e l =
    let x' : Piece = record { atoms = Local x.size ∷ x.atoms; answer = x.answer; size = x.size + 1; line = x.line + 1 }
    in omega (arith, lines_light entry lines a.1 place line (suc n) x' (ap suc e) (omega (arith, l)))
lines_light entry (Print None y ∷ lines) a place line n x e l =
    omega (arith, lines_light entry lines a.1 place line n (record x { line = x.line + 1 }) e l)
lines_light entry (Print (Some b) y ∷ lines) a place line n x e l =
    omega (arith, lines_light entry lines a.1 place line n (record x { line = x.line + 1 }) e l)
lines_light entry (Raise None y ∷ lines) a place line n x e l =
    omega (arith, lines_light entry lines a.1 place line n (record x { line = x.line + 1 }) e l)
lines_light entry (Raise (Some b) y ∷ lines) a place line n x e l =
    omega (arith, lines_light entry lines a.1 place line n (record x { line = x.line + 1 }) e l)
lines_light entry (Return None y ∷ lines) a place line n x e l =
    omega (arith, lines_light entry lines a.1 place line n (record x { line = x.line + 2 }) e l)
lines_light entry (Return (Some b) y ∷ lines) a place line n x e l =
    omega (arith, lines_light entry lines a.1 place line n (record x { line = x.line + 2 }) e l)
lines_light entry (Await f args ∷ lines) a place line n x e l =
    omega (
      arith,
      e,
      l,
      a.0,
      call_weight x.atoms args x.size,
      resumed_weight x.atoms x.answer,
      further_light entry lines (lines_light entry lines a.1) place line n (omega (arith, l)),
    )
lines_light entry (AwaitWork kind y ∷ lines) a place line n x e l =
    omega (arith, e, l, resumed_weight x.atoms x.answer, further_light entry lines (lines_light entry lines a.1) place line n (omega (arith, l)))
lines_light entry (Try f args g ∷ lines) a place line n x e l =
    omega (
      arith,
      e,
      l,
      a.0,
      call_weight x.atoms args x.size,
      resumed_weight x.atoms x.answer,
      further_light entry lines (lines_light entry lines a.1) place line n (omega (arith, l)),
    )

-- each await binds a local
awaits_bind : (lines : List Line) → awaits lines ≤ bound_by lines
awaits_bind [] = omega arith
awaits_bind (Let y ∷ lines) = omega (arith, awaits_bind lines)
awaits_bind (Compute y op z ∷ lines) = omega (arith, awaits_bind lines)
awaits_bind (Print when y ∷ lines) = awaits_bind lines
awaits_bind (Raise when y ∷ lines) = awaits_bind lines
awaits_bind (Return when y ∷ lines) = awaits_bind lines
awaits_bind (Await f args ∷ lines) = omega (arith, awaits_bind lines)
awaits_bind (AwaitWork kind y ∷ lines) = omega (arith, awaits_bind lines)
awaits_bind (Try f args g ∷ lines) = omega (arith, awaits_bind lines)

fun_light : (p : Source) → AllByRecursion FunIsWithin p.funs → (entry : ℕ → ℕ) (place line : ℕ) (fun : Fun) → FunIsWithin fun → FunIsSound p fun
    → procs_weight (fun_procs entry place line fun) ≤ 7923
fun_light p all entry place line fun w s =
    let narrow : AllByRecursion IsNarrow fun.lines = lines_narrow p all fun.lines s.calls
    in let first : NumProc = piece entry place line fun.params fun.lines
    in omega (
      arith,
      w.lines,
      w.locals,
      awaits_bind fun.lines,
      params_many 0 fun.params,
      lines_light entry fun.lines narrow (suc place) (line_behind first) fun.params (begin fun.params (line + 1)) (locals_many 0 fun.params) w.locals,
    )

funs_light : (p : Source) → AllByRecursion FunIsWithin p.funs → (entry : ℕ → ℕ) (funs : List Fun) (place line : ℕ) → AllByRecursion FunIsWithin funs
    → AllByRecursion (FunIsSound p) funs → procs_weight (funs_procs entry place line funs) ≤ 7923 * length funs
funs_light p all entry [] place line w s = omega arith
funs_light p all entry (fun ∷ funs) place line w s =
    let procs : List NumProc = fun_procs entry place line fun
    in let rest : List NumProc = funs_procs entry (place + suc (awaits fun.lines)) (line_after line procs) funs
    in omega (
      arith,
      weight_append procs rest,
      fun_light p all entry place line fun w.0 s.0,
      funs_light p all entry funs (place + suc (awaits fun.lines)) (line_after line procs) w.1 s.1,
    )

-- the text has at most a mebibyte
pub text_is_short : (p : Source) → Compiles p → length (script_text (named (compiled p))) ≤ 1048576
text_is_short p h =
    omega (
      arith,
      lines_short (forms (named (compiled p))) (form_is_written p h),
      forms_weight (compiled p),
      h.few,
      funs_light p h.within (entry_from 1 p.funs) p.funs 1 5 h.within h.sound.each,
    )

-- ---- the text of a compiled source is its script
pub text_is_read : (p : Source) → Compiles p → Reads (script_text (named (compiled p))) (named (compiled p))
text_is_read p h =
    record {
      size = text_is_short p h;
      of_version = version.One;
      lines = compiled_reads p h;
      procs = omega (arith, procs_few p h, map_length named_proc (compiled p));
      each = script_within p h;
    }
