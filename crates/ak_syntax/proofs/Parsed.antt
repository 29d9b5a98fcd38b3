-- A text is a script, or has one fault.
use Rattle.std.proofs.Common.{◌≡◌, ℕ, ◌+◌, ◌<◌, ◌≤◌, true, false, cond, ◌⊎◌, inl, inr, Option, Some, None, is_some, Result, Ok, Err, List, [], ◌∷◌, ◌++◌, length, filter, refl, sym, ap, ◌∙◌, subst, arith}
use Rattle.std.proofs.lemmas.List.{append-nil}
use Rattle.std.specs.List.{AllZip, AllByRecursion}
use Rattle.ak_text.specs.Lines.{TextLine, text_lines, counts}
use Rattle.ak_script.specs.Statements.{IsFormed, ProcIsFormed}
use Rattle.ak_script.specs.declared.script.Statement.{Statement}
use Rattle.ak_script.specs.declared.script.Proc.{Proc}
use Rattle.ak_syntax.specs.declared.line_form.Form.{Form}
use Rattle.ak_syntax.specs.declared.refusal.Fault.{Fault}
use Rattle.ak_syntax.specs.declared.refusal.Fault.TheVariants as fault
use Rattle.ak_syntax.specs.declared.refusal.Fault.TheVariants.{Grammar}
use Rattle.ak_syntax.specs.declared.refusal.GrammarKind.{GrammarKind}
use Rattle.ak_syntax.specs.declared.refusal.GrammarKind.TheVariants.{BadLine, TooLong}
use Rattle.ak_syntax.specs.declared.refusal.ParseRefused.{ParseRefused}
use Rattle.ak_syntax.specs.declared.refusal.ParseRefused.TheVariants.{At, NoMemory}
use Rattle.ak_syntax.specs.Answers.{IsScript, IsFault, IsRight}
use Rattle.ak_syntax.specs.Faults.{kind_number, Front, IsFront, GrammarFault, rules}
use Rattle.ak_syntax.specs.declared.version.Version.{Version}
use Rattle.ak_syntax.specs.Grammar.{Reads, IsLine, StatementIsWithin, ProcIsWithin, version_forms, forms}
use Rattle.ak_syntax.specs.Lines.{no_lines, refused_of, taken, taking, Refuses, Tells}
use Rattle.ak_syntax.specs.Takings.{scanned}
use Rattle.ak_syntax.proofs.Found.{if_so}
use Rattle.ak_syntax.proofs.Fronts.{front_of, front_with}
use Rattle.ak_syntax.proofs.TakenTexts.{Scanned, read, refused, ended_scanned, fault_scanned, front_scanned, next_scanned, refused_scanned, text_scanned}
use Rattle.ak_syntax.proofs.Walks.{is_read}

abbrev Found : Type 0
Found = Result Front (ℕ × GrammarKind)

abbrev found : List ℕ → Found
found bytes = scanned taking no_lines 0 (text_lines bytes)

-- what is found of a text
abbrev Read : List ℕ → Type 0
Read bytes = Scanned rules bytes (found bytes)

text_read : (bytes : List ℕ) → Read bytes
text_read bytes = text_scanned rules taking front_with no_lines is_read bytes

ok_is : {a b : Front} → (let x : Found = Ok a in x ≡ Ok b) → a ≡ b
ok_is e = cc

place_is : {a b : ℕ × GrammarKind} → (let x : Found = Err a in x ≡ Err b) → a ≡ b
place_is e = cc

not_both : (a : Front) (p : ℕ × GrammarKind) → (let x : Found = Ok a in x ≡ Err p) → ⊥
not_both a p e = cc

-- ---- scripts and their lines
front_reads : (bytes : List ℕ) (v : Version) (procs : List Proc) → length bytes ≤ 1048576
    → IsFront (front_of v procs) (filter counts (text_lines bytes)) → Reads bytes procs
front_reads bytes v procs size h = record {
  size = size;
  of_version = v;
  lines = subst (λ (fs : List Form). AllZip IsLine (version_forms v ++ fs) (filter counts (text_lines bytes))) (append-nil (forms procs)) h.lines;
  procs = subst (λ (ps : List Proc). length ps ≤ 4096) (append-nil procs) h.procs;
  each = subst (λ (ps : List Proc). AllByRecursion (ProcIsWithin v) ps) (append-nil procs) h.each;
}

reads_front : (bytes : List ℕ) (script : List Proc) (h : Reads bytes script) → IsFront (front_of h.of_version script) (filter counts (text_lines bytes))
reads_front bytes script h = record {
  lines = subst (λ (fs : List Form). AllZip IsLine (version_forms h.of_version ++ fs) (filter counts (text_lines bytes))) (sym (append-nil (forms script)))
      h.lines;
  procs = subst (λ (ps : List Proc). length ps ≤ 4096) (sym (append-nil script)) h.procs;
  each = subst (λ (ps : List Proc). AllByRecursion (ProcIsWithin h.of_version) ps) (sym (append-nil script)) h.each;
}

-- ---- what is found has the form of the grammar
formed_of : (v : Version) (body : List Statement) → AllByRecursion (StatementIsWithin v) body → AllByRecursion IsFormed body
formed_of v [] h = tt
formed_of v (statement ∷ body) h = ((h.0.0, h.0.1), formed_of v body h.1)

all_formed : (v : Version) (procs : List Proc) → AllByRecursion (ProcIsWithin v) procs → AllByRecursion ProcIsFormed procs
all_formed v [] h = tt
all_formed v (proc ∷ procs) h = (formed_of v proc.body h.0.each, all_formed v procs h.1)

pub found_formed : (bytes : List ℕ) (v : Version) (procs : List Proc) → length bytes ≤ 1048576 → found bytes ≡ Ok (front_of v procs)
    → AllByRecursion ProcIsFormed procs
found_formed bytes v procs size is = of (text_read bytes)
  where
    of : Read bytes → AllByRecursion ProcIsFormed procs
    of (read front right closed e) =
        let here : IsFront (front_of v procs) (filter counts (text_lines bytes)) =
        subst (λ (f : Front). IsFront f (filter counts (text_lines bytes))) (ok_is (sym e ∙ is)) right in
        let reads : Reads bytes procs = front_reads bytes v procs size here in
        all_formed reads.of_version procs reads.each
    of (refused number kind fault e) = absurd (not_both (front_of v procs) (number, kind) (sym is ∙ e))

-- ---- what is right is found
reads_found : (bytes : List ℕ) (script : List Proc) (h : Reads bytes script) → found bytes ≡ Ok (front_of h.of_version script)
reads_found bytes script h =
    front_scanned rules taking front_with no_lines is_read bytes (front_of h.of_version script) (reads_front bytes script h) refl

faults_found : (bytes : List ℕ) (number : ℕ) (kind : GrammarKind) → length bytes ≤ 1048576 → GrammarFault bytes number kind
    → found bytes ≡ Err (number, kind)
faults_found bytes number kind size (inl h) = absurd (omega (arith, h.size, size))
faults_found bytes number kind size (inr h) = fault_scanned rules taking front_with no_lines is_read bytes number kind h.1

-- ---- answers
pub tells_right : (bytes : List ℕ) (r : Result (List Proc) ParseRefused) → length bytes ≤ 1048576 → Tells r (found bytes) → IsRight bytes r
tells_right bytes r size h = of r h (text_read bytes)
  where
    of : (r : Result (List Proc) ParseRefused) → Tells r (found bytes) → Read bytes → IsRight bytes r
    of (Ok script) h (read front right closed is) =
        front_reads bytes h.0 script size (subst (λ (f : Front). IsFront f (filter counts (text_lines bytes))) (ok_is (sym is ∙ h.1)) right)
    of (Ok script) h (refused number kind fault is) = absurd (not_both (front_of h.0 script) (number, kind) (sym h.1 ∙ is))
    of (Err (At line number)) h (read front right closed is) = absurd (not_both front (line, h.0) (sym is ∙ h.2))
    of (Err (At line number)) h (refused at kind fault is) =
        (h.0, h.1, subst (λ (p : ℕ × GrammarKind). GrammarFault bytes p.0 p.1) (place_is (sym is ∙ h.2)) (inr (size, fault)))
    of (Err NoMemory) h x = tt

pub tells_script : (bytes : List ℕ) (r : Result (List Proc) ParseRefused) (script : List Proc) → Tells r (found bytes) → Reads bytes script
    → IsScript r script
tells_script bytes r script h reads = of r h (reads_found bytes script reads)
  where
    of : (r : Result (List Proc) ParseRefused) → Tells r (found bytes) → found bytes ≡ Ok (front_of reads.of_version script) → IsScript r script
    of (Ok other) h is = ap (λ (f : Front). f.procs) (ok_is (sym h.1 ∙ is))
    of (Err (At line number)) h is = not_both (front_of reads.of_version script) (line, h.0) (sym is ∙ h.2)
    of (Err NoMemory) h is = tt

pub tells_fault : (bytes : List ℕ) (r : Result (List Proc) ParseRefused) (line : ℕ) (kind : GrammarKind) → length bytes ≤ 1048576
    → Tells r (found bytes) → GrammarFault bytes line kind → IsFault r line kind
tells_fault bytes r line kind size h fault = of r h (faults_found bytes line kind size fault)
  where
    of : (r : Result (List Proc) ParseRefused) → Tells r (found bytes) → found bytes ≡ Err (line, kind) → IsFault r line kind
    of (Ok script) h is = not_both (front_of h.0 script) (line, kind) (sym h.1 ∙ is)
    of (Err (At at number)) h is =
        let same = place_is (sym h.2 ∙ is) in
        (ap (λ (p : ℕ × GrammarKind). p.0) same, h.1 ∙ ap (λ (p : ℕ × GrammarKind). kind_number p.1) same)
    of (Err NoMemory) h is = tt

-- ---- one line after the other
pub refused_tells : (front : Front) (last : ℕ) (left rest : List TextLine) (line : TextLine) (fault : Fault) (whole : Found)
    → scanned taking front last left ≡ whole → left ≡ line ∷ rest → Refuses fault (taken front line)
    → Tells (Err (refused_of line.number fault)) whole
unfolding taken
refused_tells front last left rest line (Grammar kind) whole same is h =
    (kind, refl, refused_scanned taking front last left rest line kind whole same is h)
refused_tells front last left rest line fault.NoMemory whole same is h = tt

pub next_found : (front next : Front) (last : ℕ) (left rest : List TextLine) (line : TextLine) (whole : Found)
    → scanned taking front last left ≡ whole → left ≡ line ∷ rest → taken front line ≡ Ok next → scanned taking next line.number rest ≡ whole
unfolding taken
next_found front next last left rest line whole same is h = next_scanned taking front next last left rest line whole same is h

pub closed_found : (front : Front) (last : ℕ) (left : List TextLine) (whole : Found) → scanned taking front last left ≡ whole
    → left ≡ [] → is_some front.begun ≡ false → whole ≡ Ok (front_of front.of_version front.procs)
closed_found front last left whole same none closed = ended_scanned taking front last left whole same none ∙ of front.begun closed
  where
    of : (begun : Option Proc) → is_some begun ≡ false
        → cond {A = Found} (is_some begun) (Err (last + 1, BadLine))
        (Ok (record { of_version = front.of_version; procs = front.procs; begun = begun }))
        ≡ Ok (front_of front.of_version front.procs)
    of None e = refl
    of (Some proc) e = cc

pub open_found : (front : Front) (last : ℕ) (left : List TextLine) (whole : Found) → scanned taking front last left ≡ whole
    → left ≡ [] → is_some front.begun ≡ true → whole ≡ Err (last + 1, BadLine)
open_found front last left whole same none opened =
    ended_scanned taking front last left whole same none ∙ if_so (is_some front.begun) (Err (last + 1, BadLine)) (Ok front) opened

-- ---- laws
pub one_script : (bytes : List ℕ) (a b : List Proc) → Reads bytes a → Reads bytes b → a ≡ b
one_script bytes a b h k = ap (λ (f : Front). f.procs) (ok_is (sym (reads_found bytes a h) ∙ reads_found bytes b k))

long_is : (bytes : List ℕ) (line : ℕ) (kind : GrammarKind) → 1048576 < length bytes → GrammarFault bytes line kind → (line ≡ 0) × (kind ≡ TooLong)
long_is bytes line kind long (inl h) = (h.at, h.is_long)
long_is bytes line kind long (inr h) = absurd (omega (arith, long, h.0))

pub one_fault_at : (bytes : List ℕ) (l m : ℕ) (j k : GrammarKind) → GrammarFault bytes l j → GrammarFault bytes m k → (l ≡ m) × (j ≡ k)
one_fault_at bytes l m j k (inl h) y = let a = long_is bytes m k h.size y in (h.at ∙ sym a.0, h.is_long ∙ sym a.1)
one_fault_at bytes l m j k (inr h) y =
    let same = place_is (sym (faults_found bytes l j h.0 (inr h)) ∙ faults_found bytes m k h.0 y) in
    (ap (λ (p : ℕ × GrammarKind). p.0) same, ap (λ (p : ℕ × GrammarKind). p.1) same)

pub never_both : (bytes : List ℕ) (script : List Proc) (line : ℕ) (kind : GrammarKind) → Reads bytes script → GrammarFault bytes line kind → ⊥
never_both bytes script line kind h fault =
    not_both (front_of h.of_version script) (line, kind) (sym (reads_found bytes script h) ∙ faults_found bytes line kind h.size fault)

-- a text is a script or has a fault
abbrev pub IsEither : List ℕ → Type 0
IsEither bytes = ((script : List Proc) × Reads bytes script) ⊎ ((line : ℕ) × (kind : GrammarKind) × GrammarFault bytes line kind)

closed_reads : (bytes : List ℕ) → length bytes ≤ 1048576 → (front : Front) → IsFront front (filter counts (text_lines bytes))
    → (begun : Option Proc) → front.begun ≡ begun → is_some begun ≡ false → Reads bytes front.procs
closed_reads bytes size front h None e closed =
    front_reads bytes front.of_version front.procs size
    (subst (λ (b : Option Proc). IsFront (record { of_version = front.of_version; procs = front.procs; begun = b }) (filter counts (text_lines bytes))) e h)
closed_reads bytes size front h (Some proc) e closed = cc

either_of : (bytes : List ℕ) → length bytes ≤ 1048576 → Read bytes → IsEither bytes
either_of bytes size (read front right closed is) = inl (front.procs, closed_reads bytes size front right front.begun refl closed)
either_of bytes size (refused number kind fault is) = inr (number, kind, inr (size, fault))

size_of : (n : ℕ) → (n ≤ 1048576) ⊎ (1048576 < n)
size_of n = grind arith

pub either : (bytes : List ℕ) → IsEither bytes
either bytes = of (size_of (length bytes))
  where
    of : ((length bytes ≤ 1048576) ⊎ (1048576 < length bytes)) → IsEither bytes
    of (inl small) = either_of bytes small (text_read bytes)
    of (inr long) = inr (0, TooLong, inl (record { size = long; at = refl; is_long = refl }))
