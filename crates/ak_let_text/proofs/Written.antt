-- The text of a script reads as the script.
use Rattle.std.proofs.Common.{ℕ, ◌+◌, ◌≢◌, List, [], ◌∷◌, map, filter, sym, subst}
use Rattle.std.specs.List.{AllByRecursion, AllZip}
use Rattle.ak_text.specs.Lines.{TextLine, text_lines, numbered, lines_of, counts}
use Rattle.ak_row.specs.Places as row
use Rattle.ak_row.specs.Plain.{IsPlain, IsPlainRow}
use Rattle.ak_row.proofs.ReadBack.{rows_from, none_skipped}
use Rattle.ak_script.specs.declared.script.Proc.{Proc}
use Rattle.ak_script.specs.declared.statement.Atom.TheVariants.{Literal, Local}
use Rattle.ak_syntax.specs.declared.line_form.Form.{Form}
use Rattle.ak_syntax.specs.Table.{Place, Exactly, Named, Valued, Counted, Typed, Stands}
use Rattle.ak_syntax.specs.Grammar.{places, forms, IsLine}
use Rattle.ak_let_text.specs.Text.{as_row, form_row, script_text}
use Rattle.ak_let_text.proofs.Forms.{CanBeWritten, FormCanBeWritten, AreLined}

plain_row_place : (place : Place) → CanBeWritten place → IsPlain (as_row place)
plain_row_place (Exactly bytes) h = h.0
plain_row_place (Named name) h = h.0
plain_row_place (Valued (Literal z)) h = h
plain_row_place (Valued (Local name)) h = h.0
plain_row_place (Counted least n) h = absurd h
plain_row_place (Typed param) h = h.0.0

stands_as : (place : Place) (word : List ℕ) → CanBeWritten place → row.Stands (as_row place) word → Stands place word
stands_as (Exactly bytes) word h s = s
stands_as (Named name) word h s = (s, h.1)
stands_as (Valued (Literal z)) word h s = s
stands_as (Valued (Local name)) word h s = (s, h.1)
stands_as (Counted least n) word h s = absurd h
stands_as (Typed param) word h s = (s, h.1)

plain_places : (ps : List Place) → AllByRecursion CanBeWritten ps → AllByRecursion IsPlain (map as_row ps)
plain_places [] h = tt
plain_places (p ∷ ps) h = (plain_row_place p h.0, plain_places ps h.1)

all_stand : (ps : List Place) (words : List (List ℕ)) → AllByRecursion CanBeWritten ps → AllZip row.Stands (map as_row ps) words → AllZip Stands ps words
all_stand [] [] h s = tt
all_stand [] (w ∷ words) h s = absurd s
all_stand (p ∷ ps) [] h s = absurd s
all_stand (p ∷ ps) (w ∷ words) h s = (stands_as p w h.0 s.0, all_stand ps words h.1 s.1)

-- no form is without a word
abbrev pub IsCons : List row.Place → Type 0
IsCons [] = ⊥
IsCons (x ∷ xs) = Unit {0}

not_none : (xs : List row.Place) → IsCons xs → xs ≢ []
not_none xs h e = subst IsCons e h

forms_plain : (fs : List Form) → ((form : Form) → IsCons (form_row form)) → AllByRecursion FormCanBeWritten fs → AllByRecursion IsPlainRow (map form_row fs)
forms_plain [] some h = tt
forms_plain (f ∷ fs) some h = ((not_none (form_row f) (some f), plain_places (places f) h.0), forms_plain fs some h.1)

zip_lines : (fs : List Form) (number : ℕ) (ls : List (List ℕ)) → AreLined number fs → AllByRecursion FormCanBeWritten fs
    → AllZip row.IsRow (map form_row fs) (numbered number ls) → AllZip IsLine fs (numbered number ls)
zip_lines [] number [] l h z = tt
zip_lines [] number (x ∷ ls) l h z = absurd z
zip_lines (f ∷ fs) number [] l h z = absurd z
zip_lines (f ∷ fs) number (x ∷ ls) l h z =
    (record { good = z.0.good; number = l.0; words = all_stand (places f) _ h.0 z.0.words }, zip_lines fs (number + 1) ls l.1 h.1 z.1)

-- each line of the text is that of its form
pub text_reads : (script : List Proc) → ((form : Form) → IsCons (form_row form)) → AreLined 1 (forms script) → AllByRecursion FormCanBeWritten (forms script)
    → AllZip IsLine (forms script) (filter counts (text_lines (script_text script)))
text_reads script some l h =
    let rows = map form_row (forms script)
    in let plain : AllByRecursion IsPlainRow rows = forms_plain (forms script) some h
    in subst (λ (ls : List TextLine). AllZip IsLine (forms script) ls) (sym (none_skipped rows plain))
    (zip_lines (forms script) 1 (lines_of (script_text script)) l h (rows_from 1 rows plain))
