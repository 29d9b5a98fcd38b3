-- The text of a compiled source reads as its script.
use Rattle.std.proofs.Common.{ℕ, zero, suc, ◌+◌, ◌<◌, ◌≤◌, ◌^◌, ◌≡◌, Bool, true, false, ◌&&◌, ◌==◌, not, List, [], ◌∷◌, ◌++◌, map, filter, length, Option, Some, None, refl, ap, ap₂, ◌∙◌, arith, lit≤, decimal, drop, slice_index_or, length-append}
use Rattle.std.specs.List.{AllByRecursion, AllZip, list_all, range_with_len}
use Rattle.std.proofs.lemmas.Bool.{ne_eqb}
use Rattle.ak_text.specs.Lines.{text_lines, counts}
use Rattle.ak_script.specs.declared.script.Kind.{Kind}
use Rattle.ak_script.specs.declared.script.Kind.TheVariants as of_kind
use Rattle.ak_script.specs.declared.script.Prefix.{Prefix}
use Rattle.ak_script.specs.declared.script.Prefix.TheVariants.{If, Unless}
use Rattle.ak_script.specs.declared.statement.Stmt.{Stmt}
use Rattle.ak_script.specs.declared.statement.Stmt.TheVariants as by_name
use Rattle.ak_program.specs.declared.program.NumParam.{NumParam}
use Rattle.ak_program.specs.declared.program.NumStatement.{NumStatement}
use Rattle.ak_program.specs.declared.program.NumProc.{NumProc}
use Rattle.ak_program.specs.Programs.{num_binds, LinesAreSound, ProcIsSound}
use Rattle.ak_syntax.specs.declared.line_form.Form.{Form}
use Rattle.ak_syntax.specs.declared.line_form.Form.TheVariants.{Async, Head, Body, End}
use Rattle.ak_syntax.specs.Names.{kind_word}
use Rattle.ak_syntax.specs.Table.{Typed, row}
use Rattle.ak_syntax.specs.Grammar.{forms, prefix_places, IsLine}
use Rattle.ak_row.specs.Plain.{is_plain_byte}
use Rattle.ak_let.specs.declared.source.Line.{Line}
use Rattle.ak_let.specs.declared.source.Line.TheVariants.{Let, Compute, Print, Raise, Return, Await, AwaitWork, Try}
use Rattle.ak_let.specs.declared.source.Fun.{Fun}
use Rattle.ak_let.specs.declared.source.Source.{Source}
use Rattle.ak_let.specs.Compile.{begin, locals_from, piece, line_behind, further, fun_procs, awaits, entry_from, line_after, funs_procs, compiled}
use Rattle.ak_let_text.specs.Named.{local_name, named_statement, named_param, named_stmt, named_prefix, named}
use Rattle.ak_let_text.specs.Text.{as_row, form_row, script_text}
use Rattle.ak_let_text.specs.Compiles.{Compiles, LineIsShort, FunIsShort}
use Rattle.ak_let_text.proofs.Forms.{CanBeWritten, FormCanBeWritten}
use Rattle.ak_let_text.proofs.Back.{AreWritable, IsNameable, bind_count, local_count, stmt_fits, prefix_fits, map_length, kinds_in, StmtFits, PrefixFits}
use Rattle.ak_let_text.proofs.Named.{local_is_name, proc_is_name}
use Rattle.ak_let_text.proofs.Words.{StatementIsShort, stmt_written, prefix_written, written_short, IsShort}
use Rattle.ak_let_text.proofs.Written.{IsCons, text_reads}
use Rattle.ak_let_text.proofs.Lined.{compiled_lined}
use Rattle.ak_let_text.proofs.Compiled.{procs_few, is_sound, are_nameable}

-- ---- forms have words
row_some : (s : Stmt) → IsCons (map as_row (row s))
row_some (by_name.Set x a op b) = tt
row_some _ = tt

body_some : (p : Option Prefix) (s : Stmt) → IsCons (map as_row (prefix_places p ++ row s))
body_some None s = row_some s
body_some (Some (If a)) s = tt
body_some (Some (Unless a)) s = tt

pub form_some : (form : Form) → IsCons (form_row form)
form_some (Head name line params) = tt
form_some (Body s) = body_some s.prefix s.stmt
form_some Async = tt
form_some End = tt

-- ---- heads
all_both : {X : Type 0} (P : X → Type 0) (xs ys : List X) → AllByRecursion P xs → AllByRecursion P ys → AllByRecursion P (xs ++ ys)
all_both P [] ys a b = b
all_both P (x ∷ xs) ys a b = (a.0, all_both P xs ys a.1 b)

list_all_append : (p : ℕ → Bool) (xs ys : List ℕ) → list_all p (xs ++ ys) ≡ (list_all p xs && list_all p ys)
list_all_append p [] ys = refl
list_all_append p (x ∷ xs) ys = by (p x) (list_all_append p xs ys)
  where
    by : (b : Bool) → list_all p (xs ++ ys) ≡ (list_all p xs && list_all p ys) → (b && list_all p (xs ++ ys)) ≡ ((b && list_all p xs) && list_all p ys)
    by true e = e
    by false e = refl

kind_plain : (kind : Kind) → list_all is_plain_byte (58 ∷ kind_word kind) ≡ true
kind_plain of_kind.Num = refl
kind_plain of_kind.Ivar = refl
kind_plain of_kind.Def = refl
kind_plain of_kind.Mon = refl
kind_plain of_kind.Pipe = refl
kind_plain of_kind.Thr = refl
kind_plain of_kind.Event = refl
kind_plain of_kind.Helper = refl

kind_short : (kind : Kind) → length (58 ∷ kind_word kind) ≤ 7
kind_short of_kind.Num = lit≤ tt
kind_short of_kind.Ivar = lit≤ tt
kind_short of_kind.Def = lit≤ tt
kind_short of_kind.Mon = lit≤ tt
kind_short of_kind.Pipe = lit≤ tt
kind_short of_kind.Thr = lit≤ tt
kind_short of_kind.Event = lit≤ tt
kind_short of_kind.Helper = lit≤ tt

second : (a b : Bool) → (a && b) ≡ true → b ≡ true
second true b e = e
second false b e = absurd cc

param_written : (n : ℕ) → n ≤ 2 ^ 32 → (p : NumParam) → p.name < n → CanBeWritten (Typed (named_param p))
param_written n b p l =
    let name = local_is_name p.name (omega (arith, b, l))
    in
    let e0 : (suc (length (decimal p.name ++ 58 ∷ kind_word p.kind)) == 0) ≡ false = ne_eqb (suc (length (decimal p.name ++ 58 ∷ kind_word p.kind))) 0
    (λ e. omega (arith, e))
    in
    let e1 : list_all is_plain_byte (local_name p.name) ≡ true = second (not (length (local_name p.name) == 0)) (list_all is_plain_byte (local_name p.name))
    name.0
    in let e2 : list_all is_plain_byte (local_name p.name ++ 58 ∷ kind_word p.kind) ≡ true =
    list_all_append is_plain_byte (local_name p.name) (58 ∷ kind_word p.kind) ∙ ap₂ (λ x y. x && y) e1 (kind_plain p.kind)
    in ((ap₂ (λ x y. not x && y) e0 e2, omega (arith, length-append (local_name p.name) (58 ∷ kind_word p.kind), name.2, kind_short p.kind)), name.1)

params_written : (n : ℕ) → n ≤ 2 ^ 32 → (params : List NumParam) (a : ℕ) → map (λ (p : NumParam). p.name) params ≡ range_with_len a (length params)
    → a + length params ≤ n → AllByRecursion CanBeWritten (map Typed (map named_param params))
params_written n b [] a e l = tt
params_written n b (p ∷ params) a e l =
    let first : p.name ≡ a = ap (λ (xs : List ℕ). slice_index_or xs 0 0) e
    in (param_written n b p (omega (arith, first, l)), params_written n b params (a + 1) (ap (λ (xs : List ℕ). drop 1 xs) e) (omega (arith, l)))

-- ---- bodies
lines_written : (procs : List NumProc) (n : ℕ) → n ≤ 2 ^ 32 → length procs ≤ 2 ^ 32 → (lines : List NumStatement) (kinds : List Kind) (rest : List Form)
    → AreWritable lines → AllByRecursion StatementIsShort lines → LinesAreSound procs kinds lines → length kinds + bind_count lines ≤ n
    → AllByRecursion FormCanBeWritten rest → AllByRecursion FormCanBeWritten (map Body (map named_statement lines) ++ End ∷ rest)
lines_written procs n b c [] kinds rest w s h l r = (((refl, lit≤ tt), tt), r)
lines_written procs n b c (x ∷ lines) kinds rest w s h l r =
    let more : List Kind = map (λ (p : NumParam). p.kind) (num_binds x.stmt)
    in let size : length (kinds ++ more) ≡ length kinds + length (num_binds x.stmt) =
    length-append kinds more ∙ ap (λ k. length kinds + k) (map_length (λ (p : NumParam). p.kind) (num_binds x.stmt))
    in let fits : StmtFits n (length procs) x.stmt = stmt_fits procs kinds n x.stmt w.0 h.0.uses h.0.calls h.0.binds (omega (arith, l))
    in let front : PrefixFits n x.prefix = prefix_fits kinds n x.prefix (omega (arith, l)) h.0.prefix
    in (
      all_both CanBeWritten (prefix_places (named_prefix x.prefix)) (row (named_stmt x.stmt)) (prefix_written n b x.prefix front s.0.0)
          (stmt_written n (length procs) b c x.stmt fits s.0.1),
      lines_written procs n b c lines (kinds ++ more) rest w.1 s.1 h.1 (omega (arith, l, size)) r,
    )

abbrev ProcIsShort : NumProc → Type 0
ProcIsShort proc = AllByRecursion StatementIsShort proc.body

forms_written : (all procs : List NumProc) (a : ℕ) → length all ≤ 2 ^ 32 → map (λ (p : NumProc). p.name) procs ≡ range_with_len a (length procs)
    → a + length procs ≤ length all → AllByRecursion (IsNameable all) procs → AllByRecursion ProcIsShort procs → AllByRecursion (ProcIsSound all) procs
    → AllByRecursion FormCanBeWritten (forms (named procs))
forms_written all [] a c e l w s h = tt
forms_written all (proc ∷ procs) a c e l w s h =
    let first : proc.name ≡ a = ap (λ (xs : List ℕ). slice_index_or xs 0 0) e
    in let size : length (kinds_in proc) ≡ length proc.params = map_length (λ (p : NumParam). p.kind) proc.params
    in (
      (
        (refl, lit≤ tt),
        (
          proc_is_name proc.name (omega (arith, first, l, c)),
          params_written (local_count proc) w.0.locals_few proc.params 0 h.0.params (omega arith),
        ),
      ),
      lines_written all (local_count proc) w.0.locals_few c proc.body (kinds_in proc) (forms (named procs)) w.0.writable s.0 h.0.lines (omega (arith, size))
          (forms_written all procs (a + 1) c (ap (λ (xs : List ℕ). drop 1 xs) e) (omega (arith, l)) w.1 s.1 h.1),
    )

-- ---- a compiled source
locals_short : (k n : ℕ) → AllByRecursion IsShort (locals_from k n)
locals_short k zero = tt
locals_short k (suc n) = (tt, locals_short (suc k) n)

piece_short : (entry : ℕ → ℕ) (place line n : ℕ) (lines : List Line) → AllByRecursion LineIsShort lines → ProcIsShort (piece entry place line n lines)
piece_short entry place line n lines s = written_short entry lines (suc place) (begin n (line + 1)) (locals_short 0 n) s

further_short : (entry : ℕ → ℕ) (lines : List Line) (place line n : ℕ) → AllByRecursion LineIsShort lines
    → AllByRecursion ProcIsShort (further entry place line n lines)
further_short entry [] place line n s = tt
further_short entry (Let a ∷ lines) place line n s = further_short entry lines place line (suc n) s.1
further_short entry (Compute a op b ∷ lines) place line n s = further_short entry lines place line (suc n) s.1
further_short entry (Print when a ∷ lines) place line n s = further_short entry lines place line n s.1
further_short entry (Raise when a ∷ lines) place line n s = further_short entry lines place line n s.1
further_short entry (Return when a ∷ lines) place line n s = further_short entry lines place line n s.1
further_short entry (Await f args ∷ lines) place line n s =
    (piece_short entry place line (suc n) lines s.1, further_short entry lines (suc place) (line_behind (piece entry place line (suc n) lines)) (suc n) s.1)
further_short entry (AwaitWork kind a ∷ lines) place line n s =
    (piece_short entry place line (suc n) lines s.1, further_short entry lines (suc place) (line_behind (piece entry place line (suc n) lines)) (suc n) s.1)
further_short entry (Try f args g ∷ lines) place line n s =
    (piece_short entry place line (suc n) lines s.1, further_short entry lines (suc place) (line_behind (piece entry place line (suc n) lines)) (suc n) s.1)

funs_short : (entry : ℕ → ℕ) (funs : List Fun) (place line : ℕ) → AllByRecursion FunIsShort funs
    → AllByRecursion ProcIsShort (funs_procs entry place line funs)
funs_short entry [] place line s = tt
funs_short entry (fun ∷ funs) place line s =
    all_both ProcIsShort (fun_procs entry place line fun)
    (funs_procs entry (place + suc (awaits fun.lines)) (line_after line (fun_procs entry place line fun)) funs) (
      piece_short entry place line fun.params fun.lines s.0,
      further_short entry fun.lines (suc place) (line_behind (piece entry place line fun.params fun.lines)) fun.params s.0,
    )
    (funs_short entry funs (place + suc (awaits fun.lines)) (line_after line (fun_procs entry place line fun)) s.1)

pub form_is_written : (p : Source) → Compiles p → AllByRecursion FormCanBeWritten (forms (named (compiled p)))
form_is_written p h =
    let small : length (compiled p) ≤ 2 ^ 32 = omega (arith, procs_few p h)
    in let valid = is_sound p h
    in let no_long : AllByRecursion ProcIsShort (compiled p) = (((tt, tt), ((tt, (tt, tt)), tt)), funs_short (entry_from 1 p.funs) p.funs 1 5 h.short)
    in forms_written (compiled p) (compiled p) 0 small valid.places (omega arith) (are_nameable p h) no_long valid.each

-- each line of the text of a compiled source is that of its script
pub compiled_reads : (p : Source) → Compiles p
    → AllZip IsLine (forms (named (compiled p))) (filter counts (text_lines (script_text (named (compiled p)))))
compiled_reads p h = text_reads (named (compiled p)) form_some (compiled_lined p) (form_is_written p h)
