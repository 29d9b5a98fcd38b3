-- A text that is read has numbers of 64 bits, and compiles where its names have no fault.
use Rattle.std.proofs.Common.{ℕ, codes, filter, Option, Some, None, List, [], ◌∷◌, ◌++◌, map, FitsSigned, w64, sym, subst, arith}
use Rattle.std.proofs.lemmas.List.{length-map}
use Rattle.std.specs.List.{AllByRecursion, AllZip}
use Rattle.ak_text.specs.Lines.{TextLine, counts, text_lines, words_of}
use Rattle.ak_script.specs.declared.statement.Atom.{Atom}
use Rattle.ak_script.specs.declared.statement.Atom.TheVariants.{Literal, Local}
use Rattle.ak_let.specs.declared.source.Source.{Source}
use Rattle.ak_let_text.specs.Compiles.{AtomIsShort, Compiles, FunIsShort, LineIsShort, WhenIsShort}
use Rattle.ak_let_syntax.specs.declared.named.Form.{Form}
use Rattle.ak_let_syntax.specs.declared.named.Form.TheVariants.{Body, End}
use Rattle.ak_let_syntax.specs.declared.named.NamedStmt.{NamedStmt}
use Rattle.ak_let_syntax.specs.declared.named.NamedStmt.TheVariants.{Let, Compute, Print, Raise, Return, Await, AwaitWork, Try}
use Rattle.ak_let_syntax.specs.declared.named.NamedLine.{NamedLine}
use Rattle.ak_let_syntax.specs.declared.named.NamedFun.{NamedFun}
use Rattle.ak_let_reader.specs.Answers.{IsSource}
use Rattle.ak_syntax.specs.Table.{Place, Exactly, Named, Valued, Counted, Typed, Stands}
use Rattle.ak_let_syntax.specs.Grammar.{IsLine, binds, forms, places, row, when_places}
use Rattle.ak_let_reader.specs.Numbered.{fun_names, numbered_atom, numbered_fun, numbered_lines, numbered_stmt, numbered_when}
use Rattle.ak_let_reader.proofs.Right.{all_split, functions_are_within, names_are_scoped, names_are_sound}

abbrev IsShort : Place → Type 0
IsShort (Valued (Literal z)) = FitsSigned w64 z
IsShort _ = Unit {0}

abbrev FormIsShort : Form → Type 0
FormIsShort form = AllByRecursion IsShort (places form)

stands_short : (place : Place) (word : List ℕ) → Stands place word → IsShort place
stands_short (Exactly bytes) word h = tt
stands_short (Named name) word h = tt
stands_short (Valued (Literal z)) word h = h.0
stands_short (Valued (Local name)) word h = tt
stands_short (Counted least number) word h = tt
stands_short (Typed param) word h = tt

words_short : (ps : List Place) (words : List (List ℕ)) → AllZip Stands ps words → AllByRecursion IsShort ps
words_short [] words h = tt
words_short (p ∷ ps) [] h = absurd h
words_short (p ∷ ps) (word ∷ words) h = (stands_short p word h.0, words_short ps words h.1)

forms_short : (fs : List Form) (lines : List TextLine) → AllZip IsLine fs lines → AllByRecursion FormIsShort fs
forms_short [] lines h = tt
forms_short (form ∷ fs) [] h = absurd h
forms_short (form ∷ fs) (line ∷ lines) h = (words_short (places form) (words_of line.text) h.0.words, forms_short fs lines h.1)

-- ---- lines
atom_short : (known : List (List ℕ)) (a : Atom) → IsShort (Valued a) → AtomIsShort (numbered_atom known a)
atom_short known (Literal z) h = h
atom_short known (Local name) h = tt

atoms_short : (known : List (List ℕ)) (atoms : List Atom) → AllByRecursion IsShort (map Valued atoms)
    → AllByRecursion AtomIsShort (map (numbered_atom known) atoms)
atoms_short known [] h = tt
atoms_short known (a ∷ atoms) h = (atom_short known a h.0, atoms_short known atoms h.1)

when_short : (known : List (List ℕ)) (when : Option Atom) (word : Place) (a : Atom)
    → AllByRecursion IsShort (when_places when ++ word ∷ Valued a ∷ [])
    → WhenIsShort (numbered_when known when) × AtomIsShort (numbered_atom known a)
when_short known None word a h = (tt, atom_short known a h.1.0)
when_short known (Some b) word a h = (atom_short known b h.1.0, atom_short known a h.1.1.1.0)

stmt_short : (names known : List (List ℕ)) (stmt : NamedStmt) → AllByRecursion IsShort (row stmt) → LineIsShort (numbered_stmt names known stmt)
stmt_short names known (Let x a) h = atom_short known a h.1.1.1.0
stmt_short names known (Compute x a op b) h = (atom_short known a h.1.1.1.0, atom_short known b h.1.1.1.1.1.0)
stmt_short names known (Print when a) h = when_short known when (Exactly (codes "print")) a h
stmt_short names known (Raise when a) h = when_short known when (Exactly (codes "raise")) a h
stmt_short names known (Return when a) h = when_short known when (Exactly (codes "return")) a h
stmt_short names known (Await x f args) h = atoms_short known args h.1.1.1.1
stmt_short names known (AwaitWork x kind a) h = atom_short known a h.1.1.1.1.1.0
stmt_short names known (Try x f args g) h =
    atoms_short known args (all_split IsShort (map Valued args) (Exactly (codes "else") ∷ Named g ∷ []) h.1.1.1.1).0

lines_short : (names known : List (List ℕ)) (lines : List NamedLine) → AllByRecursion FormIsShort (map Body lines)
    → AllByRecursion LineIsShort (numbered_lines names known lines)
lines_short names known [] h = tt
lines_short names known (line ∷ lines) h =
    (stmt_short names known line.stmt h.0, lines_short names (binds line.stmt ++ known) lines h.1)

funs_short : (names : List (List ℕ)) (funs : List NamedFun) → AllByRecursion FormIsShort (forms funs)
    → AllByRecursion FunIsShort (map (numbered_fun names) funs)
funs_short names [] h = tt
funs_short names (fun ∷ funs) h =
    let parts = all_split FormIsShort (map Body fun.lines) (End ∷ forms funs) h.1
    in (lines_short names fun.params fun.lines parts.0, funs_short names funs parts.1.1)

pub read_source_compiles : (bytes : List ℕ) (source : Source) → IsSource bytes source → Compiles source
read_source_compiles bytes source h =
    subst Compiles (sym h.is)
    (record {
      few = omega (arith, h.reads.few, length-map h.funs (numbered_fun (fun_names h.funs)));
      sound = names_are_sound h.funs h.reads.each h.right;
      scoped = names_are_scoped h.funs h.right;
      within = functions_are_within h.funs h.reads.each;
      short = funs_short (fun_names h.funs) h.funs (forms_short (forms h.funs) (filter counts (text_lines bytes)) h.reads.lines);
    })
