-- The first line with a fault, of lines that come one after another.
use Rattle.std.proofs.Common.{◌≡◌, ℕ, ◌+◌, ◌<◌, List, [], ◌∷◌, ◌++◌, length, drop, get_or, Option, Some, None, refl, sym, ◌∙◌, subst, append_assoc}
use Rattle.std.specs.List.{flat_map}
use Rattle.std.specs.Option.{option_map_or}
use Rattle.ak_script.specs.declared.script.Param.{Param}
use Rattle.ak_script.specs.declared.script.Statement.{Statement}
use Rattle.ak_script.specs.declared.script.Proc.{Proc}
use Rattle.ak_script.specs.Statements.{binds}
use Rattle.ak_valid.specs.declared.refusal.FaultKind.{FaultKind}
use Rattle.ak_valid.specs.declared.refusal.ValidRefused.{ValidRefused}
use Rattle.ak_valid.specs.declared.refusal.ValidRefused.TheVariants.{At, NoMemory}
use Rattle.ak_valid.specs.Faults.{Line, first_fault, body_lines, statement_faults, kind_number, lesser, least}
use Rattle.ak_valid.specs.Refusals.{Refuses}
use Rattle.ak_valid.proofs.LeastKinds.{least_two, drop_next}

-- a line by its kinds, before others
abbrev pub told : ℕ → Option FaultKind → Option (ℕ × ℕ) → Option (ℕ × ℕ)
told line fault later = option_map_or (λ kind. Some (line, kind_number kind)) fault later

pub refused_before : (line : ℕ) (fault : Option FaultKind) (later : Option (ℕ × ℕ)) (e : ValidRefused) → Refuses (told line fault None) e
    → Refuses (told line fault later) e
refused_before line fault later NoMemory h = tt
refused_before line None later (At at kind) h = cc
refused_before line (Some kind) later (At at number) h = h

pub told_later : (line : ℕ) (fault : Option FaultKind) (later : Option (ℕ × ℕ)) → fault ≡ None → told line fault later ≡ later
told_later line fault later none = rw none refl

-- four parts of a line
pub four_parts : (xs ys zs ws : List FaultKind) (x y z w xy xyz all : Option FaultKind) → x ≡ least xs → y ≡ least ys → z ≡ least zs
    → w ≡ least ws → xy ≡ lesser x y → xyz ≡ lesser xy z → all ≡ lesser xyz w → all ≡ least (xs ++ ys ++ zs ++ ws)
four_parts xs ys zs ws x y z w xy xyz all one two three four first second third =
    least_two (xs ++ ys ++ zs) ws xyz w all (least_two (xs ++ ys) zs xy z xyz (least_two xs ys x y xy one two first) three second) four third

pub three_parts : (xs ys zs : List FaultKind) (x y z xy all : Option FaultKind) → x ≡ least xs → y ≡ least ys → z ≡ least zs
    → xy ≡ lesser x y → all ≡ lesser xy z → all ≡ least (xs ++ ys ++ zs)
three_parts xs ys zs x y z xy all one two three first second = least_two (xs ++ ys) zs xy z all (least_two xs ys x y xy one two first) three second

lesser_parts : (a b : Option FaultKind) → lesser a b ≡ None → a ≡ None
lesser_parts None b h = refl
lesser_parts (Some a) None h = cc
lesser_parts (Some a) (Some b) h = cc

pub first_none : (a b c : Option FaultKind) → c ≡ lesser a b → c ≡ None → a ≡ None
first_none a b c is none = lesser_parts a b (sym is ∙ none)

-- the refusal of a line by its kinds
pub refused_line : (line : ℕ) (fault told_fault : Option FaultKind) (e given : ValidRefused) → fault ≡ told_fault → e ≡ given
    → Refuses (told line fault None) given → Refuses (told line told_fault None) e
refused_line line fault told_fault e given same is h = rw (is, sym same) h

-- ---- a body
pub record Walked (procs : List Proc) (known : List Param) (body : List Statement) (i : ℕ) (all : Option (ℕ × ℕ)) (last : List Param) : Type 0 where
  pub faults : first_fault (body_lines procs known (drop i body)) ≡ all
  pub rest : known ++ flat_map (λ (statement : Statement). binds statement.stmt) (drop i body) ≡ last

pub line_refused : (procs : List Proc) (known : List Param) (body : List Statement) (i : ℕ) (all : Option (ℕ × ℕ)) (last : List Param)
    (statement : Statement) (e : ValidRefused) → i < length body → statement ≡ get_or body i statement
    → Walked procs known body i all last → Refuses (told statement.line (least (statement_faults procs known statement)) None) e → Refuses all e
line_refused procs known body i all last statement e below is walked h =
    let opened : told statement.line (least (statement_faults procs known statement))
    (first_fault (body_lines procs (known ++ binds statement.stmt) (drop (i + 1) body))) ≡ all =
    rw (drop_next body i statement below is) at walked.faults in
    subst (λ (fault : Option (ℕ × ℕ)). Refuses fault e) opened (refused_before statement.line (least (statement_faults procs known statement)) _ e h)

pub line_walked : (procs : List Proc) (known now : List Param) (body : List Statement) (i : ℕ) (all : Option (ℕ × ℕ)) (last : List Param)
    (statement : Statement) → i < length body → statement ≡ get_or body i statement
    → Walked procs known body i all last → least (statement_faults procs known statement) ≡ None → now ≡ known ++ binds statement.stmt
    → Walked procs now body (i + 1) all last
line_walked procs known now body i all last statement below is walked none grown =
    let opened : told statement.line (least (statement_faults procs known statement))
    (first_fault (body_lines procs (known ++ binds statement.stmt) (drop (i + 1) body))) ≡ all =
    rw (drop_next body i statement below is) at walked.faults in
    let left : known ++ (binds statement.stmt ++ flat_map (λ (s : Statement). binds s.stmt) (drop (i + 1) body)) ≡ last =
    rw (drop_next body i statement below is) at walked.rest in
    record {
      faults = rw grown (sym (told_later statement.line _ _ none) ∙ opened);
      rest = rw grown (append_assoc known (binds statement.stmt) (flat_map (λ (s : Statement). binds s.stmt) (drop (i + 1) body)) ∙ left);
    }

-- ---- lines after others
pub first_append : (xs ys : List Line) → first_fault xs ≡ None → first_fault (xs ++ ys) ≡ first_fault ys
first_append [] ys none = refl
first_append (x ∷ xs) ys none = of (least x.faults) none (λ h. first_append xs ys h)
  where
    of : (o : Option FaultKind) → told x.number o (first_fault xs) ≡ None
        → (first_fault xs ≡ None → first_fault (xs ++ ys) ≡ first_fault ys) → told x.number o (first_fault (xs ++ ys)) ≡ first_fault ys
    of None none later = later none
    of (Some kind) none later = cc

pub refused_append : (xs ys : List Line) (e : ValidRefused) → Refuses (first_fault xs) e → Refuses (first_fault (xs ++ ys)) e
refused_append xs ys NoMemory h = tt
refused_append [] ys (At line kind) h = cc
refused_append (x ∷ xs) ys (At line kind) h = of (least x.faults) h (λ t. refused_append xs ys (At line kind) t)
  where
    of : (o : Option FaultKind) → told x.number o (first_fault xs) ≡ Some (line, kind)
        → (first_fault xs ≡ Some (line, kind) → first_fault (xs ++ ys) ≡ Some (line, kind))
        → told x.number o (first_fault (xs ++ ys)) ≡ Some (line, kind)
    of None h later = later h
    of (Some k) h later = h
