-- A text is functions by name, or has one fault.
use Rattle.std.proofs.Common.{◌≡◌, ℕ, ◌+◌, ◌≤◌, true, false, cond, Option, Some, None, is_some, Result, Ok, Err, List, [], ◌∷◌, ◌++◌, length, filter, refl, sym, ap, ◌∙◌, subst}
use Rattle.std.proofs.lemmas.List.{append-nil}
use Rattle.std.specs.List.{AllZip, AllByRecursion}
use Rattle.ak_text.specs.Lines.{TextLine, text_lines, counts}
use Rattle.ak_syntax.proofs.Found.{if_so}
use Rattle.ak_let_syntax.specs.declared.named.NamedFun.{NamedFun}
use Rattle.ak_let_syntax.specs.declared.named.Form.{Form}
use Rattle.ak_let_syntax.specs.declared.refusal.LetFault.{LetFault}
use Rattle.ak_let_syntax.specs.declared.refusal.LetFault.TheVariants.{BadLine}
use Rattle.ak_let_syntax.specs.declared.refusal.LetRefused.{LetRefused}
use Rattle.ak_let_syntax.specs.declared.refusal.LetRefused.TheVariants.{At, NoMemory}
use Rattle.ak_let_syntax.specs.declared.refusal.LineRefused.{LineRefused}
use Rattle.ak_let_syntax.specs.declared.refusal.LineRefused.TheVariants as refused
use Rattle.ak_let_syntax.specs.Answers.{Gives, IsRight, Refuses}
use Rattle.ak_let_syntax.specs.Faults.{Front, GrammarFault, IsFront, kind_number, rules}
use Rattle.ak_let_syntax.specs.Grammar.{IsLine, IsWithin, Reads, forms}
use Rattle.ak_let_syntax.specs.Lines.{Tells, Refuses as LineRefuses, no_lines, refused_at, taken, taking}
use Rattle.ak_syntax.specs.Takings.{scanned}
use Rattle.ak_let_syntax.proofs.Fronts.{front_with, is_read}
use Rattle.ak_syntax.proofs.TakenTexts.{Scanned, read, refused as is_refused, ended_scanned, fault_scanned, front_scanned, next_scanned, refused_scanned, text_scanned}

abbrev Found : Type 0
Found = Result Front (ℕ × LetFault)

abbrev found : List ℕ → Found
found bytes = scanned taking no_lines 0 (text_lines bytes)

abbrev whole : List NamedFun → Front
whole funs = record { funs = funs; begun = None }

front_reads : (bytes : List ℕ) (funs : List NamedFun) → IsFront (whole funs) (filter counts (text_lines bytes)) → Reads bytes funs
front_reads bytes funs h =
    record {
      lines = subst (λ (fs : List Form). AllZip IsLine fs (filter counts (text_lines bytes))) (append-nil (forms funs)) h.lines;
      few = subst (λ (ps : List NamedFun). length ps ≤ 128) (append-nil funs) h.funs;
      each = subst (λ (ps : List NamedFun). AllByRecursion IsWithin ps) (append-nil funs) h.each;
    }

reads_front : (bytes : List ℕ) (funs : List NamedFun) → Reads bytes funs → IsFront (whole funs) (filter counts (text_lines bytes))
reads_front bytes funs h =
    record {
      lines = subst (λ (fs : List Form). AllZip IsLine fs (filter counts (text_lines bytes))) (sym (append-nil (forms funs))) h.lines;
      funs = subst (λ (ps : List NamedFun). length ps ≤ 128) (sym (append-nil funs)) h.few;
      each = subst (λ (ps : List NamedFun). AllByRecursion IsWithin ps) (sym (append-nil funs)) h.each;
    }

-- ---- what is told is right
ok_is : {a b : Front} → (let x : Found = Ok a in x ≡ Ok b) → a ≡ b
ok_is e = cc

err_is : {a b : ℕ × LetFault} → (let x : Found = Err a in x ≡ Err b) → a ≡ b
err_is e = cc

not_both : (a : Front) (p : ℕ × LetFault) → (let x : Found = Ok a in x ≡ Err p) → ⊥
not_both a p e = cc

pub tells_right : (bytes : List ℕ) (r : Result (List NamedFun) LetRefused) → Tells r (found bytes) → IsRight bytes r
tells_right bytes r h = of r h (text_scanned rules taking front_with no_lines is_read bytes)
  where
    of : (r : Result (List NamedFun) LetRefused) → Tells r (found bytes) → Scanned rules bytes (found bytes) → IsRight bytes r
    of (Ok funs) h (read front right closed is) =
        front_reads bytes funs (subst (λ (f : Front). IsFront f (filter counts (text_lines bytes))) (ok_is (sym is ∙ h)) right)
    of (Ok funs) h (is_refused number kind fault is) = absurd (not_both (whole funs) (number, kind) (sym h ∙ is))
    of (Err (At line number)) h (read front right closed is) = absurd (not_both front (line, h.0) (sym is ∙ h.2))
    of (Err (At line number)) h (is_refused at kind fault is) =
        let same = err_is (sym is ∙ h.2) in
        (h.0, h.1, subst (λ (p : ℕ × LetFault). GrammarFault bytes p.0 p.1) same fault)
    of (Err NoMemory) h s = tt

pub tells_funs : (bytes : List ℕ) (r : Result (List NamedFun) LetRefused) (funs : List NamedFun) → Tells r (found bytes) → Reads bytes funs → Gives r funs
tells_funs bytes r funs h reads = of r h (front_scanned rules taking front_with no_lines is_read bytes (whole funs) (reads_front bytes funs reads) refl)
  where
    of : (r : Result (List NamedFun) LetRefused) → Tells r (found bytes) → found bytes ≡ Ok (whole funs) → Gives r funs
    of (Ok other) h is = ap (λ (f : Front). f.funs) (ok_is (sym h ∙ is))
    of (Err (At line number)) h is = not_both (whole funs) (line, h.0) (sym is ∙ h.2)
    of (Err NoMemory) h is = tt

pub tells_fault : (bytes : List ℕ) (r : Result (List NamedFun) LetRefused) (line : ℕ) (kind : LetFault) → Tells r (found bytes)
    → GrammarFault bytes line kind → Refuses r line kind
tells_fault bytes r line kind h fault = of r h (fault_scanned rules taking front_with no_lines is_read bytes line kind fault)
  where
    of : (r : Result (List NamedFun) LetRefused) → Tells r (found bytes) → found bytes ≡ Err (line, kind) → Refuses r line kind
    of (Ok funs) h is = not_both (whole funs) (line, kind) (sym h ∙ is)
    of (Err (At at number)) h is =
        let same = err_is (sym h.2 ∙ is) in
        (ap (λ (p : ℕ × LetFault). p.0) same, h.1 ∙ ap (λ (p : ℕ × LetFault). kind_number p.1) same)
    of (Err NoMemory) h is = tt

-- ---- one line after the other
pub refused_tells : (front : Front) (last : ℕ) (left rest : List TextLine) (line : TextLine) (r : LineRefused) (whole : Found)
    → scanned taking front last left ≡ whole → left ≡ line ∷ rest → LineRefuses r (taken front line)
    → Tells (Err (refused_at line.number r)) whole
unfolding taken
refused_tells front last left rest line (refused.Line kind) whole same is h =
    (kind, refl, refused_scanned taking front last left rest line kind whole same is h)
refused_tells front last left rest line refused.NoMemory whole same is h = tt

pub next_found : (front next : Front) (last : ℕ) (left rest : List TextLine) (line : TextLine) (whole : Found)
    → scanned taking front last left ≡ whole → left ≡ line ∷ rest → taken front line ≡ Ok next → scanned taking next line.number rest ≡ whole
unfolding taken
next_found front next last left rest line whole same is h = next_scanned taking front next last left rest line whole same is h

pub closed_tells : (front : Front) (last : ℕ) (left : List TextLine) (whole : Found) → scanned taking front last left ≡ whole
    → left ≡ [] → is_some front.begun ≡ false → whole ≡ Ok (record { funs = front.funs; begun = None })
closed_tells front last left whole same none closed =
    ended_scanned taking front last left whole same none ∙ of front.begun closed
  where
    of : (begun : Option NamedFun) → is_some begun ≡ false
        → cond {A = Found} (is_some begun) (Err (last + 1, BadLine)) (Ok (record { funs = front.funs; begun = begun }))
        ≡ Ok (record { funs = front.funs; begun = None })
    of None e = refl
    of (Some fun) e = cc

pub open_tells : (front : Front) (last : ℕ) (left : List TextLine) (whole : Found) → scanned taking front last left ≡ whole
    → left ≡ [] → is_some front.begun ≡ true → whole ≡ Err (last + 1, BadLine)
open_tells front last left whole same none opened =
    ended_scanned taking front last left whole same none
    ∙ if_so (is_some front.begun) (Err (last + 1, BadLine)) (Ok front) opened
