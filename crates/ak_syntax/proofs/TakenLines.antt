-- A line behind others: what a reader makes of it, for any language of lines.
use Rattle.std.proofs.Common.{◌≡◌, ℕ, Bool, true, false, not, ◌==◌, inl, inr, Option, Some, None, Result, Ok, Err, List, [], ◌∷◌, length, refl, sym, ap, ◌∙◌, subst, arith}
use Rattle.std.specs.List.{AllZip}
use Rattle.ak_text.specs.Lines.{TextLine, words_of, has_bad_byte, counts}
use Rattle.ak_syntax.specs.declared.cursor.Cursor.{Cursor}
use Rattle.ak_syntax.specs.Table.{Place, Stands}
use Rattle.ak_syntax.specs.Words.{Bad, listed_at}
use Rattle.ak_syntax.proofs.Found.{ok_pair, good_pair, if_not, if_so}
use Rattle.ak_syntax.proofs.Meets.{Meets, meets_fits, fits_meets, clean, spoilt, faulty_not_clean}
use Rattle.ak_syntax.specs.Rules.{Fits, IsFaulty, SomeZip, Rules, HasShape, HasFaultyNumber, LineFault, is_bad, is_many, is_wide}
use Rattle.ak_syntax.specs.Takings.{Taking, lined, taken_good, line_taken}

-- the line of this number has the form: its first word, and those that were taken
abbrev pub IsFormOf : {Front Form Kind : Type 0} → Rules Front Form Kind → ℕ → List ℕ → Cursor → Form → Cursor → Type 0
IsFormOf r number word c f left = r.IsShaped f × r.HasNumber f number × Meets c.faulty (r.places f) (word ∷ c.words) left.faulty

-- what is found for the form
abbrev pub Completes : {Front Form Kind : Type 0} → Taking Front Form Kind → ℕ → List ℕ → Cursor → Form → Bool → Type 0
Completes t number word c f after = (left : Cursor) × (t.form_from number word c ≡ Ok (f, left)) × (left.faulty ≡ after)

-- what comes of a form behind the first lines: the four ways
pub data Outcome {Front Form Kind : Type 0} (r : Rules Front Form Kind) (next : Front → Form → Front) (front : Front) (f : Form) (faulty : Bool)
    (x : Result Front Kind) : Type 0 where
  misplaced : (r.MayFollow front f → ⊥) → x ≡ Err r.bad_line → Outcome r next front f faulty x
  over : r.MayFollow front f → r.Exceeds front f → x ≡ Err r.too_many → Outcome r next front f faulty x
  wrong : r.MayFollow front f → (r.Exceeds front f → ⊥) → faulty ≡ true → x ≡ Err r.bad_number → Outcome r next front f faulty x
  right : r.MayFollow front f → (r.Exceeds front f → ⊥) → ((words : List (List ℕ)) → Meets false (r.places f) words faulty → faulty ≡ false)
      → x ≡ Ok (next front f) → Outcome r next front f faulty x

-- words without a number that is out of its range leave the flag as it is
pub quiet_of : (ps : List Place) → ((words : List (List ℕ)) → SomeZip IsFaulty ps words → ⊥) → (faulty : Bool) (words : List (List ℕ))
    → Meets false ps words faulty → faulty ≡ false
quiet_of ps none false words m = refl
quiet_of ps none true words m = absurd (none words (spoilt ps words m))

-- the reader finds the forms of the language, and each outcome
pub record Takes {Front Form Kind : Type 0} (r : Rules Front Form Kind) (t : Taking Front Form Kind) (next : Front → Form → Front) : Type 0 where
  pub bad : t.bad_line ≡ r.bad_line
  pub sound : (number : ℕ) (word : List ℕ) (c left : Cursor) (f : Form) → t.form_from number word c ≡ Ok (f, left) → IsFormOf r number word c f left
  pub complete : (number : ℕ) (f : Form) (word : List ℕ) (c : Cursor) (after : Bool) → r.IsShaped f → r.HasNumber f number
      → Meets c.faulty (r.places f) (word ∷ c.words) after → Completes t number word c f after
  pub wordless : (f : Form) (before after : Bool) → Meets before (r.places f) [] after → ⊥
  pub outcome : (front : Front) (f : Form) (faulty : Bool) → Outcome r next front f faulty (t.added front f faulty)

-- the line has the form as its shape, and the flag says whether it has a faulty number
pub record Shaped {Front Form Kind : Type 0} (r : Rules Front Form Kind) (line : TextLine) (f : Form) (faulty : Bool) : Type 0 where
  pub shape : HasShape r f line
  pub met : Meets false (r.places f) (words_of line.text) faulty

-- what a line is read as
pub data Read {Front Form Kind : Type 0} (r : Rules Front Form Kind) (t : Taking Front Form Kind) (front : Front) (line : TextLine) : Type 0 where
  shapeless : ((f : Form) → HasShape r f line → ⊥) → line_taken t front line ≡ Err t.bad_line → Read r t front line
  read : (f : Form) (faulty : Bool) → Shaped r line f faulty → line_taken t front line ≡ t.added front f faulty → Read r t front line

abbrev starts : List (List ℕ) → Cursor
starts words = record { words = words; faulty = false }

abbrev behind : {Front Form Kind : Type 0} → Taking Front Form Kind → Front → Form × Cursor → Result Front Kind
behind t front f = t.added front f.0 f.1.faulty

good_taken : {Front Form Kind : Type 0} (t : Taking Front Form Kind) (front : Front) (line : TextLine) (word : List ℕ) (words : List (List ℕ))
    → has_bad_byte line.text ≡ false → words_of line.text ≡ word ∷ words
    → line_taken t front line ≡ lined t.bad_line (t.form_from line.number word (starts words)) (behind t front)
unfolding listed_at
good_taken t front line word words good are =
    if_not (has_bad_byte line.text) (Err t.bad_line) (taken_good t front line.number (words_of line.text)) good
    ∙ ap (taken_good t front line.number) are

-- a line of a shape is read so
pub shape_taken : {Front Form Kind : Type 0} (r : Rules Front Form Kind) (t : Taking Front Form Kind) (next : Front → Form → Front)
    → Takes r t next → (front : Front) (line : TextLine) (f : Form) (h : HasShape r f line)
    → (faulty : Bool) × Shaped r line f faulty × (line_taken t front line ≡ t.added front f faulty)
shape_taken {Front} {Form} {Kind} r t next p front line f h =
    of (words_of line.text) refl (fits_meets false (r.places f) (words_of line.text) h.words)
  where
    of : (words : List (List ℕ)) → words_of line.text ≡ words → ((after : Bool) × Meets false (r.places f) (words_of line.text) after)
        → (faulty : Bool) × Shaped r line f faulty × (line_taken t front line ≡ t.added front f faulty)
    of [] e m = absurd (p.wordless f false m.0 (subst (λ (ws : List (List ℕ)). Meets false (r.places f) ws m.0) e m.1))
    of (word ∷ words) e m =
        let met : Meets false (r.places f) (word ∷ words) m.0 = subst (λ (ws : List (List ℕ)). Meets false (r.places f) ws m.0) e m.1 in
        let x = p.complete line.number f word (starts words) m.0 h.shaped h.number met in (
          m.0,
          record { shape = h; met = m.1 },
          good_taken t front line word words h.good e
              ∙ ap (λ (found : Result (Form × Cursor) Bad). lined t.bad_line found (behind t front)) x.1 ∙ ap (t.added front f) x.2,
        )

-- one line has one shape
pub one_shape : {Front Form Kind : Type 0} (r : Rules Front Form Kind) (t : Taking Front Form Kind) (next : Front → Form → Front)
    → Takes r t next → (line : TextLine) (f g : Form) → HasShape r f line → HasShape r g line → f ≡ g
one_shape r t next p line f g h k =
    of (words_of line.text) refl (fits_meets false (r.places f) (words_of line.text) h.words)
    (fits_meets false (r.places g) (words_of line.text) k.words)
  where
    of : (words : List (List ℕ)) → words_of line.text ≡ words → ((after : Bool) × Meets false (r.places f) (words_of line.text) after)
        → ((after : Bool) × Meets false (r.places g) (words_of line.text) after) → f ≡ g
    of [] e m n = absurd (p.wordless f false m.0 (subst (λ (ws : List (List ℕ)). Meets false (r.places f) ws m.0) e m.1))
    of (word ∷ words) e m n =
        let x = p.complete line.number f word (starts words) m.0 h.shaped h.number (subst (λ (ws : List (List ℕ)). Meets false (r.places f) ws m.0) e m.1) in
        let y = p.complete line.number g word (starts words) n.0 k.shaped k.number (subst (λ (ws : List (List ℕ)). Meets false (r.places g) ws n.0) e n.1) in
        (ok_pair (sym x.1 ∙ y.1)).0

form_read : {Front Form Kind : Type 0} (r : Rules Front Form Kind) (t : Taking Front Form Kind) (next : Front → Form → Front)
    → Takes r t next → (front : Front) (line : TextLine) (word : List ℕ) (words : List (List ℕ))
    → has_bad_byte line.text ≡ false → words_of line.text ≡ word ∷ words
    → (found : Result (Form × Cursor) Bad) → t.form_from line.number word (starts words) ≡ found → Read r t front line
form_read {Front} {Form} {Kind} r t next p front line word words good are (Ok v) is =
    let x = p.sound line.number word (starts words) v.1 v.0 is in
    let met : Meets false (r.places v.0) (words_of line.text) v.1.faulty =
    subst (λ (ws : List (List ℕ)). Meets false (r.places v.0) ws v.1.faulty) (sym are) x.2 in
    let shape : HasShape r v.0 line =
    record { good = good; number = x.1; words = meets_fits false (r.places v.0) (words_of line.text) v.1.faulty met; shaped = x.0 } in
    read v.0 v.1.faulty (record { shape = shape; met = met }) (good_taken t front line word words good are
    ∙ ap (λ (found : Result (Form × Cursor) Bad). lined t.bad_line found (behind t front)) is)
form_read {Front} {Form} {Kind} r t next p front line word words good are (Err b) is =
    shapeless (λ f h. no_shape f h (fits_meets false (r.places f) (words_of line.text) h.words))
    (good_taken t front line word words good are
    ∙ ap (λ (found : Result (Form × Cursor) Bad). lined t.bad_line found (behind t front)) is)
  where
    no_shape : (f : Form) → HasShape r f line → ((after : Bool) × Meets false (r.places f) (words_of line.text) after) → ⊥
    no_shape f h m =
        let x = p.complete line.number f word (starts words) m.0 h.shaped h.number (subst (λ (ws : List (List ℕ)). Meets false (r.places f) ws m.0) are m.1) in
        let wrong : good_pair f x.0 ≡ Err b = sym x.1 ∙ is in cc

-- each line that counts is read in one of the two ways
pub line_read : {Front Form Kind : Type 0} (r : Rules Front Form Kind) (t : Taking Front Form Kind) (next : Front → Form → Front)
    → Takes r t next → (front : Front) (line : TextLine) → counts line ≡ true → Read r t front line
line_read r t next p front line kept = of (has_bad_byte line.text) refl (words_of line.text) refl
  where
    of : (b : Bool) → has_bad_byte line.text ≡ b → (words : List (List ℕ)) → words_of line.text ≡ words → Read r t front line
    of true e words k = shapeless (λ f h. let wrong : true ≡ false = sym e ∙ h.good in cc)
        (if_so (has_bad_byte line.text) (Err t.bad_line) (taken_good t front line.number (words_of line.text)) e)
    of false e [] k = let none : counts line ≡ false = rw (e, k) refl in let wrong : true ≡ false = sym kept ∙ none in absurd cc
    of false e (word ∷ words) k = form_read r t next p front line word words e k (t.form_from line.number word (starts words)) refl

-- a line that does not count changes nothing
pub line_skipped : {Front Form Kind : Type 0} (t : Taking Front Form Kind) (front : Front) (line : TextLine) → counts line ≡ false
    → line_taken t front line ≡ Ok front
unfolding listed_at
line_skipped t front line skipped = of (has_bad_byte line.text) refl (words_of line.text) refl
  where
    of : (b : Bool) → has_bad_byte line.text ≡ b → (words : List (List ℕ)) → words_of line.text ≡ words → line_taken t front line ≡ Ok front
    of true e words k = let some : counts line ≡ true = rw e refl in let wrong : true ≡ false = sym some ∙ skipped in absurd cc
    of false e [] k = if_not (has_bad_byte line.text) (Err t.bad_line) (taken_good t front line.number (words_of line.text)) e
        ∙ ap (taken_good t front line.number) k
    of false e (word ∷ words) k = let kept : not (length (word ∷ words) == 0) ≡ true = grind arith in
        let some : counts line ≡ true = rw (e, k) kept in let wrong : true ≡ false = sym some ∙ skipped in absurd cc

-- ---- the fault of a line
-- the flag says whether there is a faulty number
flag_faulty : {Front Form Kind : Type 0} (r : Rules Front Form Kind) (line : TextLine) (f : Form) (faulty : Bool) → Shaped r line f faulty
    → faulty ≡ true → HasFaultyNumber r f line
flag_faulty r line f faulty h e =
    spoilt (r.places f) (words_of line.text) (subst (λ (b : Bool). Meets false (r.places f) (words_of line.text) b) e h.met)

all_stand : {Front Form Kind : Type 0} (r : Rules Front Form Kind) (line : TextLine) (f : Form) (faulty : Bool) → Shaped r line f faulty
    → faulty ≡ false → AllZip Stands (r.places f) (words_of line.text)
all_stand r line f faulty h e =
    (clean false (r.places f) (words_of line.text) (subst (λ (b : Bool). Meets false (r.places f) (words_of line.text) b) e h.met)).1

faulty_flag : {Front Form Kind : Type 0} (r : Rules Front Form Kind) (line : TextLine) (f : Form) (faulty : Bool) → Shaped r line f faulty
    → HasFaultyNumber r f line → faulty ≡ true
faulty_flag r line f true h some = refl
faulty_flag r line f false h some = absurd (faulty_not_clean (r.places f) (words_of line.text) some (all_stand r line f false h refl))

-- a line that is right, and what the first lines become with it
pub record IsRightLine {Front Form Kind : Type 0} (r : Rules Front Form Kind) (next : Front → Form → Front) (front : Front) (line : TextLine)
    (after : Front) : Type 0 where
  pub form : Form
  pub shape : HasShape r form line
  pub words : AllZip Stands (r.places form) (words_of line.text)
  pub may : r.MayFollow front form
  pub within : r.Exceeds front form → ⊥
  pub is : after ≡ next front form

-- a line is right or has one fault
pub data Judged {Front Form Kind : Type 0} (r : Rules Front Form Kind) (next : Front → Form → Front) (front : Front) (line : TextLine)
    (x : Result Front Kind) : Type 0 where
  fine : (after : Front) → IsRightLine r next front line after → x ≡ Ok after → Judged r next front line x
  faulted : (kind : Kind) → LineFault r front line kind → x ≡ Err kind → Judged r next front line x

pub line_judged : {Front Form Kind : Type 0} (r : Rules Front Form Kind) (t : Taking Front Form Kind) (next : Front → Form → Front)
    → Takes r t next → (front : Front) (line : TextLine) → counts line ≡ true → Judged r next front line (line_taken t front line)
line_judged {Front} {Form} {Kind} r t next p front line kept = of (line_read r t next p front line kept)
  where
    err : Kind → Result Front Kind
    err k = Err k

    of : Read r t front line → Judged r next front line (line_taken t front line)
    of (shapeless none is) = faulted r.bad_line (is_bad refl (λ f shape may. none f shape)) (is ∙ ap err p.bad)
    of (read f faulty s is) = elim (p.outcome front f faulty) [
      | misplaced not_may x ↦ faulted r.bad_line
          (is_bad refl (λ g shape may. not_may (subst (r.MayFollow front) (one_shape r t next p line g f shape s.shape) may))) (is ∙ x)
      | over may ex x ↦ faulted r.too_many (is_many refl f s.shape may ex) (is ∙ x)
      | wrong may not_ex e x ↦ faulted r.bad_number (is_wide refl f s.shape may not_ex (flag_faulty r line f faulty s e)) (is ∙ x)
      | right may not_ex quiet x ↦ fine (next front f)
          (record {
            form = f;
            shape = s.shape;
            words = all_stand r line f faulty s (quiet (words_of line.text) s.met);
            may = may;
            within = not_ex;
            is = refl;
          }) (is ∙ x)
    ]

-- the fault of a line is what the reader finds wrong
pub fault_taken : {Front Form Kind : Type 0} (r : Rules Front Form Kind) (t : Taking Front Form Kind) (next : Front → Form → Front)
    → Takes r t next → (front : Front) (line : TextLine) (kind : Kind) → counts line ≡ true → LineFault r front line kind
    → line_taken t front line ≡ Err kind
fault_taken {Front} {Form} {Kind} r t next p front line kind kept (is_bad e none) = of (line_read r t next p front line kept)
  where
    err : Kind → Result Front Kind
    err k = Err k

    of : Read r t front line → line_taken t front line ≡ Err kind
    of (shapeless no_shape is) = is ∙ ap err (p.bad ∙ sym e)
    of (read f faulty s is) = elim (p.outcome front f faulty) [
      | misplaced not_may x ↦ is ∙ x ∙ ap err (sym e)
      | over may ex x ↦ absurd (none f s.shape may)
      | wrong may not_ex flag x ↦ absurd (none f s.shape may)
      | right may not_ex quiet x ↦ absurd (none f s.shape may)
    ]
fault_taken {Front} {Form} {Kind} r t next p front line kind kept (is_many e f shape may ex) =
    let y = shape_taken r t next p front line f shape in
    elim (p.outcome front f y.0) [
      | misplaced not_may x ↦ absurd (not_may may)
      | over _ _ x ↦ y.2 ∙ x ∙ ap (λ (k : Kind). Err k) (sym e)
      | wrong _ not_ex flag x ↦ absurd (not_ex ex)
      | right _ not_ex quiet x ↦ absurd (not_ex ex)
    ]
fault_taken {Front} {Form} {Kind} r t next p front line kind kept (is_wide e f shape may not_ex some) =
    let y = shape_taken r t next p front line f shape in
    let flagged : y.0 ≡ true = faulty_flag r line f y.0 y.1 some in
    elim (p.outcome front f y.0) [
      | misplaced not_may x ↦ absurd (not_may may)
      | over _ ex x ↦ absurd (not_ex ex)
      | wrong _ _ flag x ↦ y.2 ∙ x ∙ ap (λ (k : Kind). Err k) (sym e)
      | right _ _ quiet x ↦ (let none : y.0 ≡ false = quiet (words_of line.text) y.1.met in let no : true ≡ false = sym flagged ∙ none in absurd cc)
    ]

-- a right line is taken
stands_fit : (ps : List Place) (ws : List (List ℕ)) → AllZip Stands ps ws → AllZip Fits ps ws
stands_fit [] [] h = tt
stands_fit [] (w ∷ ws) h = absurd h
stands_fit (p ∷ ps) [] h = absurd h
stands_fit (p ∷ ps) (w ∷ ws) h = (inl h.0, stands_fit ps ws h.1)

pub right_taken : {Front Form Kind : Type 0} (r : Rules Front Form Kind) (t : Taking Front Form Kind) (next : Front → Form → Front)
    → Takes r t next → (front : Front) (line : TextLine) (f : Form) → has_bad_byte line.text ≡ false → r.HasNumber f line.number
    → AllZip Stands (r.places f) (words_of line.text) → r.IsShaped f → r.MayFollow front f → (r.Exceeds front f → ⊥)
    → line_taken t front line ≡ Ok (next front f)
right_taken r t next p front line f good number words shaped may not_ex =
    let shape : HasShape r f line =
    record { good = good; number = number; words = stands_fit (r.places f) (words_of line.text) words; shaped = shaped } in
    let y = shape_taken r t next p front line f shape in
    elim (p.outcome front f y.0) [
      | misplaced not_may x ↦ absurd (not_may may)
      | over _ ex x ↦ absurd (not_ex ex)
      | wrong _ _ e x ↦ absurd (faulty_not_clean (r.places f) (words_of line.text) (flag_faulty r line f y.0 y.1 e) words)
      | right _ _ quiet x ↦ y.2 ∙ x
    ]
