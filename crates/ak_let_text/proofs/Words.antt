-- The script of a compiled source can be written.
use Rattle.std.proofs.Common.{ℕ, zero, suc, pos, ◌+◌, ◌≤◌, ◌^◌, List, [], ◌∷◌, ◌++◌, map, Option, Some, None, slice_index_or, FitsSigned, w64, refl, arith, lit≤}
use Rattle.std.specs.List.{AllByRecursion}
use Rattle.std.proofs.lemmas.Int.{ints}
use Rattle.ak_labor.specs.declared.work.WorkKind.{WorkKind}
use Rattle.ak_labor.specs.declared.work.WorkKind.TheVariants as work
use Rattle.ak_script.specs.declared.statement.Operator.{Operator}
use Rattle.ak_script.specs.declared.statement.Operator.TheVariants.{Add, Sub, Mul, Div, Rem, Less, LessEq, Equal, NotEqual}
use Rattle.ak_program.specs.declared.statement.NumAtom.{NumAtom}
use Rattle.ak_program.specs.declared.statement.NumAtom.TheVariants.{Literal, Local}
use Rattle.ak_program.specs.declared.statement.NumStmt.{NumStmt}
use Rattle.ak_program.specs.declared.statement.NumStmt.TheVariants as stmt
use Rattle.ak_program.specs.declared.program.NumPrefix.{NumPrefix}
use Rattle.ak_program.specs.declared.program.NumPrefix.TheVariants as num_prefix
use Rattle.ak_program.specs.declared.program.NumStatement.{NumStatement}
use Rattle.ak_syntax.specs.Names.{operator_word, work_word}
use Rattle.ak_syntax.specs.Table.{Valued, row}
use Rattle.ak_syntax.specs.Grammar.{prefix_places}
use Rattle.ak_let.specs.declared.source.Atom.{Atom}
use Rattle.ak_let.specs.declared.source.Atom.TheVariants.{Given, Known}
use Rattle.ak_let.specs.declared.source.Line.{Line}
use Rattle.ak_let.specs.declared.source.Line.TheVariants.{Let, Compute, Print, Raise, Return, Await, AwaitWork, Try}
use Rattle.ak_let.specs.Compile.{Piece, atom, when_holds, written}
use Rattle.ak_let_text.specs.Named.{proc_name, local_name, named_atom, named_stmt, named_prefix}
use Rattle.ak_let_text.specs.Named as named
use Rattle.ak_let_text.specs.Compiles.{AtomIsShort, WhenIsShort, LineIsShort}
use Rattle.ak_let_text.proofs.Forms.{IsShortWord, CanBeWritten}
use Rattle.ak_let_text.proofs.Back.{AtomFits, PrefixFits, StmtFits}
use Rattle.ak_let_text.proofs.Named.{local_is_name, proc_is_name}

-- ---- numbers of 64 bits
abbrev pub IsShort : NumAtom → Type 0
IsShort (Literal z) = FitsSigned w64 z
IsShort (Local k) = Unit {0}

abbrev pub PrefixIsShort : Option NumPrefix → Type 0
PrefixIsShort None = Unit {0}
PrefixIsShort (Some (num_prefix.If a)) = IsShort a
PrefixIsShort (Some (num_prefix.Unless a)) = IsShort a

abbrev pub StmtIsShort : NumStmt → Type 0
StmtIsShort (stmt.Set x a op b) = IsShort a × IsShort b
StmtIsShort (stmt.Print a) = IsShort a
StmtIsShort (stmt.Offer i a) = IsShort a
StmtIsShort (stmt.Upon d proc args) = AllByRecursion IsShort args
StmtIsShort (stmt.Sched proc args) = AllByRecursion IsShort args
StmtIsShort (stmt.Within k proc args) = AllByRecursion IsShort args
StmtIsShort (stmt.OnError k proc args) = AllByRecursion IsShort args
StmtIsShort (stmt.Raise a) = IsShort a
StmtIsShort (stmt.Work r kind a) = IsShort a
StmtIsShort (stmt.Ret a) = IsShort a
StmtIsShort s = Unit {0}

-- ---- the words of a statement
atom_written : (n : ℕ) → n ≤ 2 ^ 32 → (a : NumAtom) → AtomFits n a → IsShort a → CanBeWritten (Valued (named_atom a))
atom_written n b (Literal z) f s = s
atom_written n b (Local k) f s = local_is_name k (omega (arith, b, f))

args_written : (n : ℕ) → n ≤ 2 ^ 32 → (args : List NumAtom) → AllByRecursion (AtomFits n) args → AllByRecursion IsShort args
    → AllByRecursion CanBeWritten (map Valued (map named_atom args))
args_written n b [] f s = tt
args_written n b (a ∷ args) f s = (atom_written n b a f.0 s.0, args_written n b args f.1 s.1)

operator_plain : (op : Operator) → IsShortWord (operator_word op)
operator_plain Add = (refl, lit≤ tt)
operator_plain Sub = (refl, lit≤ tt)
operator_plain Mul = (refl, lit≤ tt)
operator_plain Div = (refl, lit≤ tt)
operator_plain Rem = (refl, lit≤ tt)
operator_plain Less = (refl, lit≤ tt)
operator_plain LessEq = (refl, lit≤ tt)
operator_plain Equal = (refl, lit≤ tt)
operator_plain NotEqual = (refl, lit≤ tt)

work_plain : (kind : WorkKind) → IsShortWord (work_word (named.work_word kind))
work_plain work.Square = (refl, lit≤ tt)
work_plain work.Mix = (refl, lit≤ tt)
work_plain work.Fail = (refl, lit≤ tt)

pub stmt_written : (n m : ℕ) → n ≤ 2 ^ 32 → m ≤ 2 ^ 32 → (s : NumStmt) → StmtFits n m s → StmtIsShort s → AllByRecursion CanBeWritten (row (named_stmt s))
stmt_written n m b c (stmt.Set x a op y) f s =
    ((refl, lit≤ tt), (local_is_name x (omega (arith, b, f.0)), (atom_written n b a f.1 s.0, (operator_plain op, (atom_written n b y f.2 s.1, tt)))))
stmt_written n m b c (stmt.Print a) f s = ((refl, lit≤ tt), (atom_written n b a f s, tt))
stmt_written n m b c (stmt.Ivar i) f s = ((refl, lit≤ tt), (local_is_name i (omega (arith, b, f)), tt))
stmt_written n m b c (stmt.Offer i a) f s = ((refl, lit≤ tt), (local_is_name i (omega (arith, b, f.0)), (atom_written n b a f.1 s, tt)))
stmt_written n m b c (stmt.Upon d proc args) f s =
    ((refl, lit≤ tt), (local_is_name d (omega (arith, b, f.0)), (proc_is_name proc (omega (arith, c, f.1)), args_written n b args f.2 s)))
stmt_written n m b c (stmt.Sched proc args) f s = ((refl, lit≤ tt), (proc_is_name proc (omega (arith, c, f.0)), args_written n b args f.1 s))
stmt_written n m b c (stmt.Monitor k) f s = ((refl, lit≤ tt), (local_is_name k (omega (arith, b, f)), tt))
stmt_written n m b c (stmt.Within k proc args) f s =
    ((refl, lit≤ tt), (local_is_name k (omega (arith, b, f.0)), (proc_is_name proc (omega (arith, c, f.1)), args_written n b args f.2 s)))
stmt_written n m b c (stmt.Detach k) f s = ((refl, lit≤ tt), (local_is_name k (omega (arith, b, f)), tt))
stmt_written n m b c (stmt.OnError k proc args) f s =
    ((refl, lit≤ tt), (local_is_name k (omega (arith, b, f.0)), (proc_is_name proc (omega (arith, c, f.1)), args_written n b args f.2 s)))
stmt_written n m b c (stmt.Raise a) f s = ((refl, lit≤ tt), (atom_written n b a f s, tt))
stmt_written n m b c (stmt.Work r kind a) f s = ((refl, lit≤ tt), (local_is_name r (omega (arith, b, f.0)), (work_plain kind, (atom_written n b a f.1 s, tt))))
stmt_written n m b c (stmt.Ret a) f s = ((refl, lit≤ tt), (atom_written n b a f s, tt))
stmt_written n m b c _ f s = absurd f

pub prefix_written : (n : ℕ) → n ≤ 2 ^ 32 → (p : Option NumPrefix) → PrefixFits n p → PrefixIsShort p
    → AllByRecursion CanBeWritten (prefix_places (named_prefix p))
prefix_written n b None f s = tt
prefix_written n b (Some (num_prefix.If a)) f s = ((refl, lit≤ tt), (atom_written n b a f s, tt))
prefix_written n b (Some (num_prefix.Unless a)) f s = ((refl, lit≤ tt), (atom_written n b a f s, tt))

-- ---- the numbers of a compiled source are those of the source, and 0
zero_short : FitsSigned w64 (pos 0)
zero_short = omega (arith, ints)

nth_short : (atoms : List NumAtom) (k : ℕ) → AllByRecursion IsShort atoms → IsShort (slice_index_or atoms k (Literal (pos 0)))
nth_short [] k h = zero_short
nth_short (a ∷ atoms) zero h = h.0
nth_short (a ∷ atoms) (suc k) h = nth_short atoms k h.1

atom_short : (atoms : List NumAtom) → AllByRecursion IsShort atoms → (a : Atom) → AtomIsShort a → IsShort (atom atoms a)
atom_short atoms h (Given z) s = s
atom_short atoms h (Known k) s = nth_short atoms k h

when_short : (atoms : List NumAtom) → AllByRecursion IsShort atoms → (when : Option Atom) → WhenIsShort when → PrefixIsShort (when_holds atoms when)
when_short atoms h None s = tt
when_short atoms h (Some a) s = atom_short atoms h a s

args_short : (atoms : List NumAtom) → AllByRecursion IsShort atoms → (args : List Atom) (k : ℕ) → AllByRecursion AtomIsShort args
    → AllByRecursion IsShort (map (atom atoms) args ++ Local k ∷ [])
args_short atoms h [] k s = (tt, tt)
args_short atoms h (a ∷ args) k s = (atom_short atoms h a s.0, args_short atoms h args k s.1)

with_answer : (atoms : List NumAtom) (k : ℕ) → AllByRecursion IsShort atoms → AllByRecursion IsShort (atoms ++ Local k ∷ [])
with_answer [] k h = (tt, tt)
with_answer (a ∷ atoms) k h = (h.0, with_answer atoms k h.1)

abbrev pub StatementIsShort : NumStatement → Type 0
StatementIsShort s = PrefixIsShort s.prefix × StmtIsShort s.stmt

pub written_short : (entry : ℕ → ℕ) (lines : List Line) (place : ℕ) (x : Piece) → AllByRecursion IsShort x.atoms → AllByRecursion LineIsShort lines
    → AllByRecursion StatementIsShort (written entry place x lines)
written_short entry [] place x h s = ((tt, zero_short), tt)
written_short entry (Let a ∷ lines) place x h s =
    written_short entry lines place (record x { atoms = atom x.atoms a ∷ x.atoms }) (atom_short x.atoms h a s.0, h) s.1
written_short entry (Compute a op b ∷ lines) place x h s = (
  (tt, (atom_short x.atoms h a s.0.0, atom_short x.atoms h b s.0.1)),
  written_short entry lines place (record { atoms = Local x.size ∷ x.atoms; answer = x.answer; size = x.size + 1; line = x.line + 1 }) (tt, h) s.1,
)
written_short entry (Print when a ∷ lines) place x h s =
    ((when_short x.atoms h when s.0.0, atom_short x.atoms h a s.0.1), written_short entry lines place (record x { line = x.line + 1 }) h s.1)
written_short entry (Raise when a ∷ lines) place x h s =
    ((when_short x.atoms h when s.0.0, atom_short x.atoms h a s.0.1), written_short entry lines place (record x { line = x.line + 1 }) h s.1)
written_short entry (Return when a ∷ lines) place x h s = (
  (when_short x.atoms h when s.0.0, atom_short x.atoms h a s.0.1),
  ((when_short x.atoms h when s.0.0, zero_short), written_short entry lines place (record x { line = x.line + 2 }) h s.1),
)
written_short entry (Await f args ∷ lines) place x h s = ((tt, tt), ((tt, args_short x.atoms h args x.size s.0), ((tt, with_answer x.atoms x.answer h), tt)))
written_short entry (AwaitWork kind a ∷ lines) place x h s = ((tt, atom_short x.atoms h a s.0), ((tt, with_answer x.atoms x.answer h), tt))
written_short entry (Try f args g ∷ lines) place x h s =
    ((tt, tt), ((tt, tt), ((tt, tt), ((tt, (tt, tt)), ((tt, args_short x.atoms h args x.size s.0), ((tt, with_answer x.atoms x.answer h), tt))))))
