-- The first lines of a script go on with right lines, and lead to what they are.
use Rattle.std.proofs.Common.{◌≡◌, ℕ, ◌+◌, ◌<◌, ◌≤◌, true, inl, inr, Option, Some, None, Ok, List, [], ◌∷◌, ◌++◌, length, map, refl, sym, ap, ◌∙◌, subst, arith, append_assoc, length-append}
use Rattle.std.proofs.lemmas.List.{append-nil, map-append}
use Rattle.std.specs.List.{AllZip, AllByRecursion, flat_map}
use Rattle.ak_base.proofs.Lists.{all_push, all_front, all_between}
use Rattle.ak_text.specs.Lines.{TextLine, words_of}
use Rattle.ak_script.specs.declared.script.Param.{Param}
use Rattle.ak_script.specs.declared.script.Prefix.{Prefix}
use Rattle.ak_script.specs.declared.script.Prefix.TheVariants.{If, Unless}
use Rattle.ak_script.specs.declared.script.Statement.{Statement}
use Rattle.ak_script.specs.declared.script.Proc.{Proc}
use Rattle.ak_script.specs.declared.statement.Stmt.{Stmt}
use Rattle.ak_script.specs.declared.statement.Stmt.TheVariants.{Upon, Bind, All, Any, Choose, Sched, Low, Within, OnError, Try, Throttle, Enqueue, Pipe, Read}
use Rattle.ak_syntax.specs.declared.line_form.Form.{Form}
use Rattle.ak_syntax.specs.declared.line_form.Form.TheVariants.{Async, Head, Body, End}
use Rattle.ak_syntax.specs.declared.version.Version.{Version}
use Rattle.ak_syntax.specs.declared.version.Version.TheVariants as version
use Rattle.ak_script.specs.Statements.{binds, IsWithin}
use Rattle.ak_syntax.specs.Table.{Stands, row, longest_list, HasDeferreds, is_in}
use Rattle.ak_syntax.specs.Grammar.{prefix_places, IsLine, locals, version_forms, forms, StatementIsWithin, ProcIsWithin}
use Rattle.ak_syntax.specs.Faults.{IsShaped, Front, begun_forms, begun_procs, IsFront, IsEmpty, MayFollow, Exceeds, rules}
use Rattle.ak_syntax.specs.Lines.{grown, no_lines, taking}
use Rattle.ak_syntax.proofs.Fronts.{front_with, front_of, front_in, takes}
use Rattle.ak_syntax.proofs.TakenLines.{IsRightLine, right_taken}
use Rattle.ak_syntax.proofs.TakenTexts.{IsRead, walk, walk_step}

-- ---- limits
pub zip_push : {A B : Type 0} (R : A → B → Type 0) (xs : List A) (ys : List B) (x : A) (y : B) → AllZip R xs ys → R x y → AllZip R (xs ++ x ∷ []) (ys ++ y ∷ [])
zip_push R [] [] x y h r = (r, tt)
zip_push R [] (w ∷ ys) x y h r = absurd h
zip_push R (v ∷ xs) [] x y h r = absurd h
zip_push R (v ∷ xs) (w ∷ ys) x y h r = (h.0, zip_push R xs ys x y h.1 r)

pub flat_append : {A B : Type 0} (f : A → List B) (xs ys : List A) → flat_map f (xs ++ ys) ≡ flat_map f xs ++ flat_map f ys
flat_append f [] ys = refl
flat_append f (x ∷ xs) ys = ap (λ (rest : List _). f x ++ rest) (flat_append f xs ys) ∙ sym (append_assoc (f x) (flat_map f xs) (flat_map f ys))

abbrev bound_by : Statement → List Param
bound_by statement = binds statement.stmt

-- what keeps the limits has no list that is too long, and no empty list of deferreds
within_longest : (s : Stmt) → IsWithin s → longest_list s ≤ 8
within_longest (Upon d proc args) h = h
within_longest (Bind r d proc args) h = h
within_longest (All r deferreds proc args) h = omega (arith, h.0.1, h.1)
within_longest (Any r deferreds) h = h.1
within_longest (Choose r choices args) h = omega (arith, h.0.1, h.1)
within_longest (Sched proc args) h = h
within_longest (Low proc args) h = h
within_longest (Within m proc args) h = h
within_longest (OnError m proc args) h = h
within_longest (Try r proc args catch catch_args mode) h = omega (arith, h.0, h.1)
within_longest (Enqueue r t proc args) h = h
within_longest (Read r p proc args eof eof_args) h = omega (arith, h.0, h.1)
within_longest _ h = omega arith

within_deferreds : (s : Stmt) → IsWithin s → HasDeferreds s
within_deferreds (All r deferreds proc args) h = h.0.0
within_deferreds (Any r deferreds) h = h.0
within_deferreds (Choose r choices args) h = h.0.0
within_deferreds _ h = tt

-- and the other way, where the words say that the numbers are in their ranges
within_of : (s : Stmt) (words : List (List ℕ)) → longest_list s ≤ 8 → HasDeferreds s → AllZip Stands (row s) words → IsWithin s
within_of (Upon d proc args) words few has h = few
within_of (Bind r d proc args) words few has h = few
within_of (All r deferreds proc args) words few has h = ((has, omega arith), omega arith)
within_of (Any r deferreds) words few has h = (has, few)
within_of (Choose r choices args) words few has h = ((has, omega arith), omega arith)
within_of (Sched proc args) words few has h = few
within_of (Low proc args) words few has h = few
within_of (Within m proc args) words few has h = few
within_of (OnError m proc args) words few has h = few
within_of (Try r proc args catch catch_args mode) words few has h = (omega arith, omega arith)
within_of (Enqueue r t proc args) words few has h = few
within_of (Read r p proc args eof eof_args) words few has h = (omega arith, omega arith)
within_of (Throttle t k stop) [] few has h = absurd h
within_of (Throttle t k stop) (a ∷ []) few has h = absurd h.1
within_of (Throttle t k stop) (a ∷ b ∷ []) few has h = absurd h.1.1
within_of (Throttle t k stop) (a ∷ b ∷ c ∷ words) few has h = (h.1.1.0.0, h.1.1.0.1)
within_of (Pipe p b) [] few has h = absurd h
within_of (Pipe p b) (v ∷ []) few has h = absurd h.1
within_of (Pipe p b) (v ∷ w ∷ []) few has h = absurd h.1.1
within_of (Pipe p b) (v ∷ w ∷ x ∷ words) few has h = h.1.1.0.1
within_of _ words few has h = tt

-- the words of the statement, behind those of its prefix
stmt_words : (prefix : Option Prefix) (stmt : Stmt) (words : List (List ℕ)) → AllZip Stands (prefix_places prefix ++ row stmt) words
    → (rest : List (List ℕ)) × AllZip Stands (row stmt) rest
stmt_words None stmt words h = (words, h)
stmt_words (Some (If a)) stmt [] h = absurd h
stmt_words (Some (If a)) stmt (v ∷ []) h = absurd h.1
stmt_words (Some (If a)) stmt (v ∷ w ∷ words) h = (words, h.1.1)
stmt_words (Some (Unless a)) stmt [] h = absurd h
stmt_words (Some (Unless a)) stmt (v ∷ []) h = absurd h.1
stmt_words (Some (Unless a)) stmt (v ∷ w ∷ words) h = (words, h.1.1)

-- ---- a right line behind a front
abbrev bare : Proc → Proc
bare proc = record proc { body = [] }

abbrev with_body : Proc → List Statement → Proc
with_body proc body = record proc { body = body }

forms_append : (xs ys : List Proc) → forms (xs ++ ys) ≡ forms xs ++ forms ys
forms_append [] ys = refl
forms_append (x ∷ xs) ys = ap (λ (rest : List Form). Head x.name x.line x.params ∷ rest)
    (ap (λ (rest : List Form). map Body x.body ++ End ∷ rest) (forms_append xs ys) ∙ sym (append_assoc (map Body x.body) (End ∷ forms xs) (forms ys)))

-- one more line behind those of the version and others
pushed : (v : Version) (fs gs : List Form) (before : List TextLine) (f : Form) (line : TextLine) → AllZip IsLine (version_forms v ++ fs) before
    → IsLine f line → fs ++ f ∷ [] ≡ gs
    → AllZip IsLine (version_forms v ++ gs) (before ++ line ∷ [])
pushed v fs gs before f line h is e =
    subst (λ (all : List Form). AllZip IsLine all (before ++ line ∷ []))
    (append_assoc (version_forms v) fs (f ∷ []) ∙ ap (λ (rest : List Form). version_forms v ++ rest) e)
    (zip_push IsLine (version_forms v ++ fs) before f line h is)

head_front : (v : Version) (procs : List Proc) (name : List ℕ) (number : ℕ) (params : List Param) (before : List TextLine) (line : TextLine)
    → IsFront (front_of v procs) before
    → IsLine (Head name number params) line → (Exceeds (front_of v procs) (Head name number params) → ⊥)
    → IsFront (front_in v procs (record { name = name; line = number; params = params; body = [] })) (before ++ line ∷ [])
head_front v procs name number params before line h is few =
    let short : length params ≤ 8 = not_over 8 (length params) (λ e. few (inl e)) in
    let room : length procs + 1 ≤ 4096 = not_over 4096 (length procs + 1) (λ e. few (inr e)) in
    let proc : Proc = record { name = name; line = number; params = params; body = [] } in
    let within : ProcIsWithin v (record { name = name; line = number; params = params; body = [] }) = record {
      params = short;
      statements = omega arith;
      locals = rw (append-nil params) (omega (arith, short));
      each = tt;
    } in
    record {
      lines =
          pushed v (forms procs ++ []) (forms procs ++ Head name number params ∷ []) before (Head name number params) line h.lines is
          (ap (λ (fs : List Form). fs ++ Head name number params ∷ []) (append-nil (forms procs)));
      procs = omega (arith, room, length-append procs (record { name = name; line = number; params = params; body = [] } ∷ []));
      each = all_push (ProcIsWithin v) procs (record { name = name; line = number; params = params; body = [] }) (rw (append-nil procs) at h.each) within;
    }
  where
    not_over : (limit n : ℕ) → (limit < n → ⊥) → n ≤ limit
    not_over limit n h = grind arith

body_front : (v : Version) (procs : List Proc) (proc : Proc) (statement : Statement) (before : List TextLine) (line : TextLine)
    → IsFront (front_in v procs proc) before → IsLine (Body statement) line → IsShaped (Body statement) → is_in v statement.stmt ≡ true
    → (Exceeds (front_in v procs proc) (Body statement) → ⊥) → IsFront (front_in v procs (grown proc statement)) (before ++ line ∷ [])
body_front v procs proc statement before line h is shaped may few =
    let short : longest_list statement.stmt ≤ 8 = not_over 8 (longest_list statement.stmt) (λ e. few (inl e)) in
    let room : length proc.body + 1 ≤ 64 = not_over 64 (length proc.body + 1) (λ e. few (inr (inl e))) in
    let bound : length (locals proc) + length (binds statement.stmt) ≤ 64 =
    not_over 64 (length (locals proc) + length (binds statement.stmt)) (λ e. few (inr (inr e))) in
    let old : ProcIsWithin v proc = all_between (ProcIsWithin v) procs [] proc h.each in
    let words = stmt_words statement.prefix statement.stmt (words_of line.text) is.words in
    let within : StatementIsWithin v statement = (shaped.0, within_of statement.stmt words.0 short shaped.1 words.1, may) in
    let local : locals (grown proc statement) ≡ locals proc ++ binds statement.stmt =
    ap (λ (rest : List Param). proc.params ++ rest) (flat_append bound_by proc.body (statement ∷ [])
    ∙ ap (λ (rest : List Param). flat_map bound_by proc.body ++ rest) (append-nil (binds statement.stmt)))
    ∙ sym (append_assoc proc.params (flat_map bound_by proc.body) (binds statement.stmt)) in
    let proc_within : ProcIsWithin v (grown proc statement) = record {
      params = old.params;
      statements = omega (arith, room, length-append proc.body (statement ∷ []));
      locals = rw local (omega (arith, bound, length-append (locals proc) (binds statement.stmt)));
      each = all_push (StatementIsWithin v) proc.body statement old.each within;
    } in
    let bodies : map Body (proc.body ++ statement ∷ []) ≡ map Body proc.body ++ Body statement ∷ [] = rw map-append refl in
    let forms_are : (forms procs ++ (Head proc.name proc.line proc.params ∷ map Body proc.body)) ++ Body statement ∷ [] ≡ forms procs
    ++ (Head proc.name proc.line proc.params ∷ map Body (proc.body ++ statement ∷ [])) =
    append_assoc (forms procs) (Head proc.name proc.line proc.params ∷ map Body proc.body) (Body statement ∷ [])
    ∙ ap (λ (rest : List Form). forms procs ++ (Head proc.name proc.line proc.params ∷ rest)) (sym bodies) in
    record {
      lines =
          pushed v (forms procs ++ (Head proc.name proc.line proc.params ∷ map Body proc.body))
          (forms procs ++ (Head proc.name proc.line proc.params ∷ map Body (proc.body ++ statement ∷ [])))
          before (Body statement) line h.lines is forms_are;
      procs = omega (arith, h.procs, length-append procs (proc ∷ []), length-append procs (grown proc statement ∷ []));
      each = all_push (ProcIsWithin v) procs (grown proc statement) (all_front (ProcIsWithin v) procs (proc ∷ []) h.each) proc_within;
    }
  where
    not_over : (limit n : ℕ) → (limit < n → ⊥) → n ≤ limit
    not_over limit n h = grind arith

end_front : (v : Version) (procs : List Proc) (proc : Proc) (before : List TextLine) (line : TextLine) → IsFront (front_in v procs proc) before
    → IsLine End line → IsFront (front_of v (procs ++ proc ∷ [])) (before ++ line ∷ [])
end_front v procs proc before line h is =
    let forms_are : (forms procs ++ (Head proc.name proc.line proc.params ∷ map Body proc.body)) ++ End ∷ [] ≡ forms (procs ++ proc ∷ []) ++ [] =
    append_assoc (forms procs) (Head proc.name proc.line proc.params ∷ map Body proc.body) (End ∷ [])
    ∙ sym (forms_append procs (proc ∷ [])) ∙ sym (append-nil (forms (procs ++ proc ∷ []))) in
    record {
      lines =
          pushed v (forms procs ++ (Head proc.name proc.line proc.params ∷ map Body proc.body)) (forms (procs ++ proc ∷ []) ++ [])
          before End line h.lines is forms_are;
      procs = rw (append-nil (procs ++ proc ∷ [])) (h.procs);
      each = rw (append-nil (procs ++ proc ∷ [])) (h.each);
    }

async_front : (v : Version) (procs : List Proc) (begun : Option Proc) (before : List TextLine) (line : TextLine)
    → IsFront (record { of_version = v; procs = procs; begun = begun }) before → IsLine Async line
    → IsEmpty v procs begun → IsFront (front_of version.Two []) (before ++ line ∷ [])
async_front version.One [] None before line h is may = record { lines = zip_push IsLine [] before Async line h.lines is; procs = omega arith; each = tt }
async_front version.One [] (Some proc) before line h is may = absurd may
async_front version.One (p ∷ procs) begun before line h is may = absurd may
async_front version.Two procs begun before line h is may = absurd may

next_front : (v : Version) (procs : List Proc) (begun : Option Proc) (f : Form) (before : List TextLine) (line : TextLine)
    → IsFront (record { of_version = v; procs = procs; begun = begun }) before → IsLine f line → IsShaped f
    → MayFollow (record { of_version = v; procs = procs; begun = begun }) f
    → (Exceeds (record { of_version = v; procs = procs; begun = begun }) f → ⊥)
    → IsFront (front_with (record { of_version = v; procs = procs; begun = begun }) f) (before ++ line ∷ [])
next_front v procs begun Async before line h is shaped may few = async_front v procs begun before line h is may
next_front v procs None (Head name number params) before line h is shaped may few = head_front v procs name number params before line h is few
next_front v procs (Some proc) (Body statement) before line h is shaped may few = body_front v procs proc statement before line h is shaped may few
next_front v procs (Some proc) End before line h is shaped may few = end_front v procs proc before line h is
next_front v procs None (Body statement) before line h is shaped may few = absurd may
next_front v procs None End before line h is shaped may few = absurd may
next_front v procs (Some proc) (Head name number params) before line h is shaped may few = absurd may

goes_on : (front after : Front) (before : List TextLine) (line : TextLine) → IsFront front before
    → IsRightLine rules front_with front line after → IsFront after (before ++ line ∷ [])
goes_on front after before line h r =
    subst (λ (f : Front). IsFront f (before ++ line ∷ [])) (sym r.is)
    (next_front front.of_version front.procs front.begun r.form before line h
    (record { good = r.shape.good; number = r.shape.number; words = r.words }) r.shape.shaped r.may r.within)

-- ---- a front is walked
line_walk : (front : Front) (f : Form) (line : TextLine) (lines : List TextLine) → IsLine f line → IsShaped f → MayFollow front f
    → (Exceeds front f → ⊥) → walk taking front (line ∷ lines) ≡ walk taking (front_with front f) lines
line_walk front f line lines is shaped may few =
    walk_step taking front (front_with front f) line lines
    (right_taken rules taking front_with takes front line f is.good is.number is.words shaped may few)

abbrev KeepsLimits : Version → Proc → List Statement → Type 0
KeepsLimits v proc body = ProcIsWithin v (with_body proc body)

walk_body : (v : Version) (body : List Statement) (procs : List Proc) (proc : Proc) (fs : List Form) (lines : List TextLine)
    → KeepsLimits v proc (proc.body ++ body) → AllZip IsLine (map Body body ++ fs) lines
    → (rest : List TextLine) × AllZip IsLine fs rest
    × (walk taking (front_in v procs proc) lines ≡ walk taking (front_in v procs (with_body proc (proc.body ++ body))) rest)
walk_body v [] procs proc fs lines within h =
    (lines, h, ap (λ (b : List Statement). walk taking (front_in v procs (with_body proc b)) lines) (sym (append-nil proc.body)))
walk_body v (statement ∷ body) procs proc fs [] within h = absurd h
walk_body v (statement ∷ body) procs proc fs (line ∷ lines) within h =
    let each : StatementIsWithin v statement = all_between (StatementIsWithin v) proc.body body statement within.each in
    let joined : (proc.body ++ statement ∷ []) ++ body ≡ proc.body ++ statement ∷ body = append_assoc proc.body (statement ∷ []) body in
    let step = line_walk (front_in v procs proc) (Body statement) line lines h.0 (each.0, within_deferreds statement.stmt each.1) each.2 (not_ex each.1) in
    let later = walk_body v body procs (grown proc statement) fs lines (subst (KeepsLimits v proc) (sym joined) within) h.1 in
    (later.0, later.1, step ∙ later.2 ∙ ap (λ (b : List Statement). walk taking (front_in v procs (with_body proc b)) later.0) joined)
  where
    not_ex : IsWithin statement.stmt → Exceeds (front_in v procs proc) (Body statement) → ⊥
    not_ex is (inl e) = let short = within_longest statement.stmt is in omega (arith, e, short)
    not_ex is (inr (inl e)) = omega (arith, e, within.statements, length-append proc.body (statement ∷ body))
    not_ex is (inr (inr e)) =
        let all : locals (with_body proc (proc.body ++ statement ∷ body)) ≡ locals proc ++ (binds statement.stmt ++ flat_map bound_by body) =
        ap (λ (rest : List Param). proc.params ++ rest) (flat_append bound_by proc.body (statement ∷ body))
        ∙ sym (append_assoc proc.params (flat_map bound_by proc.body) (binds statement.stmt ++ flat_map bound_by body)) in
        omega (
          arith,
          e,
          within.locals,
          ap length all,
          length-append (locals proc) (binds statement.stmt ++ flat_map bound_by body),
          length-append (binds statement.stmt) (flat_map bound_by body),
        )

head_walk : (v : Version) (done : List Proc) (proc : Proc) (line : TextLine) (lines : List TextLine) → IsLine (Head proc.name proc.line proc.params) line
    → length proc.params ≤ 8 → length done + 1 ≤ 4096
    → walk taking (front_of v done) (line ∷ lines) ≡ walk taking (front_in v done (bare proc)) lines
head_walk v done proc line lines is short room =
    line_walk (front_of v done) (Head proc.name proc.line proc.params) line lines is tt tt not_ex
  where
    not_ex : Exceeds (front_of v done) (Head proc.name proc.line proc.params) → ⊥
    not_ex (inl e) = omega (arith, e, short)
    not_ex (inr e) = omega (arith, e, room)

end_walk : (v : Version) (done procs : List Proc) (proc : Proc) (begun : Option Proc) (rest : List TextLine)
    → AllZip IsLine (End ∷ (forms procs ++ begun_forms begun)) rest
    → ((later : List TextLine) → AllZip IsLine (forms procs ++ begun_forms begun) later
    → walk taking (front_of v (done ++ proc ∷ [])) later ≡ Ok (record { of_version = v; procs = (done ++ proc ∷ []) ++ procs; begun = begun }))
    → walk taking (front_in v done proc) rest ≡ Ok (record { of_version = v; procs = (done ++ proc ∷ []) ++ procs; begun = begun })
end_walk v done procs proc begun [] h later = absurd h
end_walk v done procs proc begun (line ∷ rest) h later =
    line_walk (front_in v done proc) End line rest h.0 tt tt (λ e. e) ∙ later rest h.1

walk_procs : (v : Version) (procs done : List Proc) (begun : Option Proc) (lines : List TextLine) → AllZip IsLine (forms procs ++ begun_forms begun) lines
    → length done + length (procs ++ begun_procs begun) ≤ 4096
    → AllByRecursion (ProcIsWithin v) (procs ++ begun_procs begun)
    → walk taking (front_of v done) lines ≡ Ok (record { of_version = v; procs = done ++ procs; begun = begun })
walk_procs v [] done None [] h few each = ap (λ (ps : List Proc). Ok (front_of v ps)) (sym (append-nil done))
walk_procs v [] done None (line ∷ lines) h few each = absurd h
walk_procs v [] done (Some proc) [] h few each = absurd h
walk_procs v [] done (Some proc) (line ∷ lines) h few each =
    let first = head_walk v done proc line lines h.0 each.0.params (omega (arith, few)) in
    let body = walk_body v proc.body done (bare proc) [] lines each.0
    (subst (λ (fs : List Form). AllZip IsLine fs lines) (sym (append-nil (map Body proc.body))) h.1) in
    first ∙ body.2 ∙ ended body.0 body.1 ∙ ap (λ (ps : List Proc). Ok (front_in v ps proc)) (sym (append-nil done))
  where
    ended : (rest : List TextLine) → AllZip IsLine [] rest → walk taking (front_in v done proc) rest ≡ Ok (front_in v done proc)
    ended [] h = refl
    ended (x ∷ rest) h = absurd h
walk_procs v (proc ∷ procs) done begun [] h few each = absurd h
walk_procs v (proc ∷ procs) done begun (line ∷ lines) h few each =
    let first = head_walk v done proc line lines h.0 each.0.params (omega (arith, few)) in
    let joined : (map Body proc.body ++ End ∷ forms procs) ++ begun_forms begun ≡ map Body proc.body ++ End
    ∷ (forms procs ++ begun_forms begun) = append_assoc (map Body proc.body) (End ∷ forms procs) (begun_forms begun) in
    let body = walk_body v proc.body done (bare proc) (End ∷ (forms procs ++ begun_forms begun)) lines each.0
    (subst (λ (fs : List Form). AllZip IsLine fs lines) joined h.1) in
    first ∙ body.2 ∙ end_walk v done procs proc begun body.0 body.1
    (λ rest rest_is. walk_procs v procs (done ++ proc ∷ []) begun rest rest_is
    (omega (arith, few, length-append done (proc ∷ []))) each.1)
    ∙ ap (λ (ps : List Proc). Ok (record { of_version = v; procs = ps; begun = begun })) (append_assoc done (proc ∷ []) procs)

-- the lines of a front lead to it
all_walked : (v : Version) (procs : List Proc) (begun : Option Proc) (before : List TextLine)
    → IsFront (record { of_version = v; procs = procs; begun = begun }) before
    → walk taking no_lines before ≡ Ok (record { of_version = v; procs = procs; begun = begun })
all_walked version.One procs begun before h = walk_procs version.One procs [] begun before h.lines (omega (arith, h.procs)) h.each
all_walked version.Two procs begun [] h = absurd h.lines
all_walked version.Two procs begun (line ∷ lines) h =
    line_walk no_lines Async line lines h.lines.0 tt tt (λ e. e)
    ∙ walk_procs version.Two procs [] begun lines h.lines.1 (omega (arith, h.procs)) h.each

leads : (front : Front) (before : List TextLine) → IsFront front before → walk taking no_lines before ≡ Ok front
leads front before h = all_walked front.of_version front.procs front.begun before h

pub is_read : IsRead rules taking front_with no_lines
is_read =
    record {
      takes = takes;
      opens = λ front. refl;
      begins = record { lines = tt; procs = omega arith; each = tt };
      goes_on = goes_on;
      leads = leads;
    }
