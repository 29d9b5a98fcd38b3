-- All lines of a text, one behind the other: what a reader makes of them, for any language of lines.
use Rattle.std.proofs.Common.{◌≡◌, ℕ, ◌+◌, Bool, true, false, inl, inr, Result, Ok, Err, List, [], ◌∷◌, ◌++◌, length, filter, refl, sym, ap, ◌∙◌, subst, arith, append_assoc}
use Rattle.std.proofs.lemmas.List.{append-nil}
use Rattle.std.specs.List.{AllByRecursion}
use Rattle.ak_base.proofs.Lists.{all_between}
use Rattle.ak_text.specs.Lines.{TextLine, text_lines, numbered, lines_of, counts}
use Rattle.ak_syntax.proofs.Found.{if_not, if_so}
use Rattle.ak_syntax.specs.Rules.{Rules, LineFault, HasFaultAt, EndsInside, FirstFault}
use Rattle.ak_syntax.specs.Takings.{Taking, line_taken, then_lines, closed, scanned}
use Rattle.ak_syntax.proofs.TakenLines.{Takes, IsRightLine, fine, faulted, Judged, line_judged, line_skipped, fault_taken}

-- ---- going over lines
abbrev pub walk : {Front Form Kind : Type 0} → Taking Front Form Kind → Front → List TextLine → Result Front (ℕ × Kind)
walk t front [] = Ok front
walk t front (line ∷ lines) = then_lines line.number (line_taken t front line) (λ next. walk t next lines)

abbrev last_number : ℕ → List TextLine → ℕ
last_number last [] = last
last_number last (line ∷ lines) = last_number line.number lines

abbrev ended : {Front Form Kind : Type 0} → Taking Front Form Kind → ℕ → Result Front (ℕ × Kind) → Result Front (ℕ × Kind)
ended t last (Ok front) = closed t last front
ended t last (Err p) = Err p

scanned_walk : {Front Form Kind : Type 0} (t : Taking Front Form Kind) (lines : List TextLine) (front : Front) (last : ℕ)
    → scanned t front last lines ≡ ended t (last_number last lines) (walk t front lines)
unfolding scanned
scanned_walk t [] front last = refl
scanned_walk {Front} {Form} {Kind} t (line ∷ lines) front last = of (line_taken t front line) (λ next. scanned_walk t lines next line.number)
  where
    of : (x : Result Front Kind) → ((next : Front) → scanned t next line.number lines ≡ ended t (last_number line.number lines) (walk t next lines))
        → then_lines line.number x (λ next. scanned t next line.number lines) ≡ ended t (last_number line.number lines)
        (then_lines line.number x (λ next. walk t next lines))
    of (Ok next) h = h next
    of (Err kind) h = refl

one_kept : {Front Form Kind : Type 0} (t : Taking Front Form Kind) (line : TextLine) (lines : List TextLine) (front : Front) (b : Bool) → counts line ≡ b
    → ((next : Front) → walk t next lines ≡ walk t next (filter counts lines)) → walk t front (line ∷ lines) ≡ walk t front (filter counts (line ∷ lines))
one_kept {Front} {Form} {Kind} t line lines front true e ih = rw e (of (line_taken t front line))
  where
    of : (x : Result Front Kind) → then_lines line.number x (λ next. walk t next lines) ≡ then_lines line.number x (λ next. walk t next (filter counts lines))
    of (Ok next) = ih next
    of (Err kind) = refl
one_kept {Front} {Form} {Kind} t line lines front false e ih =
    rw e (ap (λ (x : Result Front Kind). then_lines line.number x (λ n. walk t n lines)) (line_skipped t front line e) ∙ ih front)

walk_kept : {Front Form Kind : Type 0} (t : Taking Front Form Kind) (lines : List TextLine) (front : Front)
    → walk t front lines ≡ walk t front (filter counts lines)
walk_kept t [] front = refl
walk_kept t (line ∷ lines) front = one_kept t line lines front (counts line) refl (walk_kept t lines)

pub walk_step : {Front Form Kind : Type 0} (t : Taking Front Form Kind) (front next : Front) (line : TextLine) (lines : List TextLine)
    → line_taken t front line ≡ Ok next → walk t front (line ∷ lines) ≡ walk t next lines
walk_step {Front} {Form} {Kind} t front next line lines h = ap (λ (x : Result Front Kind). then_lines line.number x (λ n. walk t n lines)) h

ok_is : {A B : Type 0} {a b : A} → (let x : Result A B = Ok a in x ≡ Ok b) → a ≡ b
ok_is e = cc

not_both : {A B : Type 0} (b : B) (a : A) → (let x : Result A B = Err b in x ≡ Ok a) → ⊥
not_both b a e = cc

one_append : {Front Form Kind : Type 0} (t : Taking Front Form Kind) (x : TextLine) (xs ys : List TextLine) (front mid : Front) (found : Result Front Kind)
    → line_taken t front x ≡ found → walk t front (x ∷ xs) ≡ Ok mid
    → ((next : Front) → walk t next xs ≡ Ok mid → walk t next (xs ++ ys) ≡ walk t mid ys) → walk t front (x ∷ xs ++ ys) ≡ walk t mid ys
one_append t x xs ys front mid (Ok next) is h ih =
    walk_step t front next x (xs ++ ys) is ∙ ih next (sym (walk_step t front next x xs is) ∙ h)
one_append {Front} {Form} {Kind} t x xs ys front mid (Err kind) is h ih =
    let bad : walk t front (x ∷ xs) ≡ Err (x.number, kind) = ap (λ (found : Result Front Kind). then_lines x.number found (λ n. walk t n xs)) is in
    absurd (not_both (x.number, kind) mid (sym bad ∙ h))

walk_append : {Front Form Kind : Type 0} (t : Taking Front Form Kind) (xs ys : List TextLine) (front mid : Front) → walk t front xs ≡ Ok mid
    → walk t front (xs ++ ys) ≡ walk t mid ys
walk_append {Front} {Form} {Kind} t [] ys front mid h =
    let same : front ≡ mid = ok_is {A = Front} {B = ℕ × Kind} h in ap (λ (f : Front). walk t f ys) same
walk_append t (x ∷ xs) ys front mid h = one_append t x xs ys front mid (line_taken t front x) refl h (λ next. walk_append t xs ys next mid)

-- ---- a language that is read line by line
-- first lines go on with right lines, and lead to what they are
pub record IsRead {Front Form Kind : Type 0} (r : Rules Front Form Kind) (t : Taking Front Form Kind) (next : Front → Form → Front) (first : Front)
    : Type 0 where
  pub takes : Takes r t next
  pub opens : (front : Front) → t.is_open front ≡ r.is_open front
  pub begins : r.IsFront first []
  pub goes_on : (front after : Front) (before : List TextLine) (line : TextLine) → r.IsFront front before
      → IsRightLine r next front line after → r.IsFront after (before ++ line ∷ [])
  pub leads : (front : Front) (before : List TextLine) → r.IsFront front before → walk t first before ≡ Ok front

abbrev AllCount : List TextLine → Type 0
AllCount lines = AllByRecursion (λ line. counts line ≡ true) lines

one_counts : (line : TextLine) (lines : List TextLine) (b : Bool) → counts line ≡ b → AllCount (filter counts lines) → AllCount (filter counts (line ∷ lines))
one_counts line lines true e h = rw e (e, h)
one_counts line lines false e h = rw e h

all_count : (lines : List TextLine) → AllCount (filter counts lines)
all_count [] = tt
all_count (line ∷ lines) = one_counts line lines (counts line) refl (all_count lines)

-- the first line with a fault, behind right ones
record Faulty {Front Form Kind : Type 0} (r : Rules Front Form Kind) (before lines : List TextLine) (number : ℕ) (kind : Kind) : Type 0 where
  front : Front
  some : List TextLine
  line : TextLine
  after : List TextLine
  are : lines ≡ some ++ line ∷ after
  right : r.IsFront front (before ++ some)
  fault : LineFault r front line kind
  at : number ≡ line.number

-- all lines are right, or one is the first with a fault
data Walked {Front Form Kind : Type 0} (r : Rules Front Form Kind) (before lines : List TextLine) (x : Result Front (ℕ × Kind)) : Type 0 where
  whole : (after : Front) → r.IsFront after (before ++ lines) → x ≡ Ok after → Walked r before lines x
  broken : (number : ℕ) (kind : Kind) → Faulty r before lines number kind → x ≡ Err (number, kind) → Walked r before lines x

later_walked : {Front Form Kind : Type 0} (r : Rules Front Form Kind) (before lines : List TextLine) (line : TextLine) (x : Result Front (ℕ × Kind))
    → Walked r (before ++ line ∷ []) lines x → Walked r before (line ∷ lines) x
later_walked {Front} r before lines line x (whole after h is) =
    whole after (subst (λ (ls : List TextLine). r.IsFront after ls) (append_assoc before (line ∷ []) lines) h) is
later_walked {Front} r before lines line x (broken number kind h is) =
    broken number kind
    (record {
      front = h.front;
      some = line ∷ h.some;
      line = h.line;
      after = h.after;
      are = ap (λ (ls : List TextLine). line ∷ ls) h.are;
      right = subst (λ (ls : List TextLine). r.IsFront h.front ls) (append_assoc before (line ∷ []) h.some) h.right;
      fault = h.fault;
      at = h.at;
    }) is

one_walked : {Front Form Kind : Type 0} (r : Rules Front Form Kind) (t : Taking Front Form Kind) (next : Front → Form → Front) (first : Front)
    → IsRead r t next first → (line : TextLine) (lines : List TextLine) (front : Front) (before : List TextLine) → r.IsFront front before
    → ((mid : Front) → r.IsFront mid (before ++ line ∷ []) → Walked r (before ++ line ∷ []) lines (walk t mid lines))
    → (x : Result Front Kind) → Judged r next front line x → Walked r before (line ∷ lines) (then_lines line.number x (λ n. walk t n lines))
one_walked {Front} {Form} {Kind} r t next first p line lines front before h ih x (fine after right is) =
    let step : then_lines line.number x (λ n. walk t n lines) ≡ walk t after lines = ap
    (λ (y : Result Front Kind). then_lines line.number y (λ n. walk t n lines)) is in
    subst (Walked r before (line ∷ lines)) (sym step)
    (later_walked r before lines line (walk t after lines) (ih after (p.goes_on front after before line h right)))
one_walked {Front} {Form} {Kind} r t next first p line lines front before h ih x (faulted kind fault is) =
    broken line.number kind
    (record {
      front = front;
      some = [];
      line = line;
      after = lines;
      are = refl;
      right = rw (append-nil before) h;
      fault = fault;
      at = refl;
    })
    (ap (λ (y : Result Front Kind). then_lines line.number y (λ n. walk t n lines)) is)

walked : {Front Form Kind : Type 0} (r : Rules Front Form Kind) (t : Taking Front Form Kind) (next : Front → Form → Front) (first : Front)
    → IsRead r t next first → (lines : List TextLine) (front : Front) (before : List TextLine) → AllCount lines → r.IsFront front before
    → Walked r before lines (walk t front lines)
walked r t next first p [] front before all h = whole front (rw (append-nil before) h) refl
walked r t next first p (line ∷ lines) front before all h =
    one_walked r t next first p line lines front before h (λ mid. walked r t next first p lines mid (before ++ line ∷ []) all.1)
    (line_taken t front line) (line_judged r t next p.takes front line all.0)

-- ---- a whole text
abbrev kept : List ℕ → List TextLine
kept bytes = filter counts (text_lines bytes)

-- the number of the last line
last_numbered : (lines : List (List ℕ)) (n : ℕ) → last_number n (numbered (n + 1) lines) ≡ n + length (numbered (n + 1) lines)
last_numbered [] n = omega arith
last_numbered (line ∷ lines) n = let later = last_numbered lines (n + 1) in omega (arith, later)

last_line : (bytes : List ℕ) → last_number 0 (text_lines bytes) ≡ length (text_lines bytes)
last_line bytes = let e = last_numbered (lines_of bytes) 0 in omega (arith, e)

scan_is : {Front Form Kind : Type 0} (t : Taking Front Form Kind) (first : Front) (bytes : List ℕ)
    → scanned t first 0 (text_lines bytes) ≡ ended t (length (text_lines bytes)) (walk t first (kept bytes))
scan_is t first bytes =
    scanned_walk t (text_lines bytes) first 0 ∙ ap (λ (n : ℕ). ended t n (walk t first (text_lines bytes))) (last_line bytes)
    ∙ ap (ended t (length (text_lines bytes))) (walk_kept t (text_lines bytes) first)

-- a text is right or has one fault
pub data Scanned {Front Form Kind : Type 0} (r : Rules Front Form Kind) (bytes : List ℕ) (x : Result Front (ℕ × Kind)) : Type 0 where
  read : (front : Front) → r.IsFront front (filter counts (text_lines bytes)) → r.is_open front ≡ false → x ≡ Ok front → Scanned r bytes x
  refused : (number : ℕ) (kind : Kind) → FirstFault r bytes number kind → x ≡ Err (number, kind) → Scanned r bytes x

pub text_scanned : {Front Form Kind : Type 0} (r : Rules Front Form Kind) (t : Taking Front Form Kind) (next : Front → Form → Front) (first : Front)
    → IsRead r t next first → (bytes : List ℕ) → Scanned r bytes (scanned t first 0 (text_lines bytes))
text_scanned {Front} {Form} {Kind} r t next first p bytes =
    subst (Scanned r bytes) (sym (scan_is t first bytes))
    (of (walk t first (kept bytes)) (walked r t next first p (kept bytes) first [] (all_count (text_lines bytes)) p.begins))
  where
    close : (front : Front) → r.IsFront front (kept bytes) → (b : Bool) → t.is_open front ≡ b → Scanned r bytes (closed t (length (text_lines bytes)) front)
    close front h true e =
        refused (length (text_lines bytes) + 1) t.bad_line
        (inr (record { front = front; inside = sym (p.opens front) ∙ e; right = h; at = refl; is_bad = p.takes.bad }))
        (if_so (t.is_open front) (Err (length (text_lines bytes) + 1, t.bad_line)) (Ok front) e)
    close front h false e =
        read front h (sym (p.opens front) ∙ e) (if_not (t.is_open front) (Err (length (text_lines bytes) + 1, t.bad_line)) (Ok front) e)

    of : (x : Result Front (ℕ × Kind)) → Walked r [] (kept bytes) x → Scanned r bytes (ended t (length (text_lines bytes)) x)
    of x (whole after h is) =
        subst (λ (y : Result Front (ℕ × Kind)). Scanned r bytes (ended t (length (text_lines bytes)) y)) (sym is) (close after h (t.is_open after) refl)
    of x (broken number kind h is) =
        subst (λ (y : Result Front (ℕ × Kind)). Scanned r bytes (ended t (length (text_lines bytes)) y)) (sym is)
        (refused number kind
        (inl (record {
          front = h.front;
          before = h.some;
          line = h.line;
          after = h.after;
          lines = h.are;
          right = h.right;
          fault = h.fault;
          at = h.at;
        })) refl)

-- what is right is found
pub front_scanned : {Front Form Kind : Type 0} (r : Rules Front Form Kind) (t : Taking Front Form Kind) (next : Front → Form → Front) (first : Front)
    → IsRead r t next first → (bytes : List ℕ) (front : Front) → r.IsFront front (filter counts (text_lines bytes)) → r.is_open front ≡ false
    → scanned t first 0 (text_lines bytes) ≡ Ok front
front_scanned r t next first p bytes front h closed_is =
    scan_is t first bytes ∙ ap (ended t (length (text_lines bytes))) (p.leads front (kept bytes) h)
    ∙ if_not (t.is_open front) (Err (length (text_lines bytes) + 1, t.bad_line)) (Ok front) (p.opens front ∙ closed_is)

-- and so is what is wrong
pub fault_scanned : {Front Form Kind : Type 0} (r : Rules Front Form Kind) (t : Taking Front Form Kind) (next : Front → Form → Front) (first : Front)
    → IsRead r t next first → (bytes : List ℕ) (number : ℕ) (kind : Kind) → FirstFault r bytes number kind
    → scanned t first 0 (text_lines bytes) ≡ Err (number, kind)
fault_scanned {Front} {Form} {Kind} r t next first p bytes number kind (inl h) =
    let counted : counts h.line ≡ true =
    all_between (λ line. counts line ≡ true) h.before h.after h.line (subst AllCount h.lines (all_count (text_lines bytes))) in
    scan_is t first bytes ∙ ap (ended t (length (text_lines bytes)))
    (ap (walk t first) h.lines ∙ walk_append t h.before (h.line ∷ h.after) first h.front (p.leads h.front h.before h.right)
    ∙ ap (λ (x : Result Front Kind). then_lines h.line.number x (λ n. walk t n h.after))
    (fault_taken r t next p.takes h.front h.line kind counted h.fault) ∙ ap (λ (n : ℕ). placed n kind) (sym h.at))
  where
    placed : ℕ → Kind → Result Front (ℕ × Kind)
    placed n k = Err (n, k)
fault_scanned {Front} {Form} {Kind} r t next first p bytes number kind (inr h) =
    scan_is t first bytes ∙ ap (ended t (length (text_lines bytes))) (p.leads h.front (kept bytes) h.right)
    ∙ if_so (t.is_open h.front) (placed (length (text_lines bytes) + 1) t.bad_line) (Ok h.front) (p.opens h.front ∙ h.inside)
    ∙ ap (λ (n : ℕ). placed n t.bad_line) (sym h.at) ∙ ap (placed number) (p.takes.bad ∙ sym h.is_bad)
  where
    placed : ℕ → Kind → Result Front (ℕ × Kind)
    placed n k = Err (n, k)

-- ---- one line after the other
pub next_scanned : {Front Form Kind : Type 0} (t : Taking Front Form Kind) (front next : Front) (last : ℕ) (left rest : List TextLine)
    (line : TextLine) (found : Result Front (ℕ × Kind)) → scanned t front last left ≡ found → left ≡ line ∷ rest
    → line_taken t front line ≡ Ok next → scanned t next line.number rest ≡ found
unfolding scanned
next_scanned {Front} {Form} {Kind} t front next last left rest line found same is h =
    sym (ap (λ (x : Result Front Kind). then_lines line.number x (λ n. scanned t n line.number rest)) h)
    ∙ ap (λ (ls : List TextLine). scanned t front last ls) (sym is) ∙ same

pub refused_scanned : {Front Form Kind : Type 0} (t : Taking Front Form Kind) (front : Front) (last : ℕ) (left rest : List TextLine)
    (line : TextLine) (kind : Kind) (found : Result Front (ℕ × Kind)) → scanned t front last left ≡ found → left ≡ line ∷ rest
    → line_taken t front line ≡ Err kind → found ≡ Err (line.number, kind)
unfolding scanned
refused_scanned {Front} {Form} {Kind} t front last left rest line kind found same is h =
    sym same ∙ ap (λ (ls : List TextLine). scanned t front last ls) is
    ∙ ap (λ (x : Result Front Kind). then_lines line.number x (λ n. scanned t n line.number rest)) h

pub ended_scanned : {Front Form Kind : Type 0} (t : Taking Front Form Kind) (front : Front) (last : ℕ) (left : List TextLine)
    (found : Result Front (ℕ × Kind)) → scanned t front last left ≡ found → left ≡ [] → found ≡ closed t last front
unfolding scanned
ended_scanned t front last left found same none = sym same ∙ ap (λ (ls : List TextLine). scanned t front last ls) none
