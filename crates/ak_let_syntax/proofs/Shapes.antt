-- The lines of a function, both ways: what is taken has the words of its row, and the words of a row are taken.
use Rattle.std.proofs.Common.{◌≡◌, ℕ, Bool, true, false, ◌||◌, cond, inl, inr, ◌⊎◌, Option, Some, None, Result, Ok, Err, List, [], ◌∷◌, ◌++◌, map, refl, sym, ap, ◌∙◌, subst}
use Rattle.std.proofs.lemmas.Slice.Eq.{bytes_eq-Decides}
use Rattle.std.specs.Prelude.{codes}
use Rattle.std.specs.List.{list_any}
use Rattle.std.specs.Str.{bytes_eq}
use Rattle.ak_script.specs.declared.statement.Atom.{Atom}
use Rattle.ak_script.specs.declared.statement.Operator.{Operator}
use Rattle.ak_script.specs.declared.statement.WorkWord.{WorkWord}
use Rattle.ak_syntax.specs.declared.cursor.Cursor.{Cursor}
use Rattle.ak_syntax.specs.declared.cursor.Until.TheVariants.{LineEnd, Else}
use Rattle.ak_syntax.specs.Names.{operator_word, work_word}
use Rattle.ak_syntax.specs.Rows.{one_atom_at, one_name_at, work_atom_at}
use Rattle.ak_syntax.specs.Table.{Place, Exactly, Named, Valued}
use Rattle.ak_syntax.specs.Words.{Bad, bad, ◌>>=◌, Part, both, mapped, word_from, word_at, exactly_at, name_found, name_at, atom_at, some_found, operator_named, operator_at, args_at, listed_from, listed_at}
use Rattle.ak_syntax.proofs.Found.{ok_pair, bind_ok, bind_is, chosen, if_not, if_so, good_pair}
use Rattle.ak_syntax.proofs.Meets.{Meets}
use Rattle.ak_syntax.proofs.Items.{exactly_part, name_part, name_plain, atom_part, operator_part}
use Rattle.ak_syntax.proofs.LineForms.{mapped_sound}
use Rattle.ak_syntax.proofs.Parts.{IsPart, IsLast, Always, both_last, image}
use Rattle.ak_syntax.proofs.Shapes.{args_last, else_part, one_atom_last, one_name_last, work_atom_last}
use Rattle.ak_let_syntax.specs.declared.named.NamedStmt.{NamedStmt}
use Rattle.ak_let_syntax.specs.declared.named.NamedStmt.TheVariants.{Let, Compute, Print, Raise, Return, Await, AwaitWork, Try}
use Rattle.ak_let_syntax.specs.Grammar.{binding, is_work, row, takes_work, when_places}
use Rattle.ak_let_syntax.specs.Lines.{action_from, await_at, awaited_from, bound_at, let_at, let_of, operation_at, operation_from, stmt_from, try_at, when_at}

-- the line has the words: the first, and those that were taken
abbrev pub IsRowOf : List ℕ → Cursor → NamedStmt → Cursor → Type 0
IsRowOf word c s left = Meets c.faulty (row s) (word ∷ c.words) left.faulty

-- what is found for the line
abbrev pub IsTaken : List ℕ → Cursor → NamedStmt → Bool → Type 0
IsTaken word c s after = (left : Cursor) × (stmt_from word c ≡ Ok (s, left)) × (left.faulty ≡ after)

row_sound : {A : Type 0} (f : A → NamedStmt) (key : List ℕ) {good : A → Type 0} {shape : A → List Place} {part : Part A} → IsLast good shape part
    → ((a : A) → row (f a) ≡ Exactly key ∷ shape a) → (c left : Cursor) (s : NamedStmt) → mapped f part c ≡ Ok (s, left) → IsRowOf key c s left
row_sound {A} f key {good} {shape} {part} p is c left s h =
    let x = mapped_sound f p c left s h in
    let met : Meets c.faulty (row (f x.0)) (key ∷ c.words) left.faulty =
    subst (λ (ps : List Place). Meets c.faulty ps (key ∷ c.words) left.faulty) (sym (is x.0)) (inl (refl, x.3)) in
    subst (λ (v : NamedStmt). IsRowOf key c v left) x.1 met

row_taken : {A : Type 0} (f : A → NamedStmt) (key : List ℕ) {good : A → Type 0} {shape : A → List Place} {part : Part A} → IsLast good shape part
    → (a : A) (word : List ℕ) (c : Cursor) (after : Bool) → stmt_from key c ≡ mapped f part c → good a
    → Meets c.faulty (Exactly key ∷ shape a) (word ∷ c.words) after → IsTaken word c (f a) after
row_taken f key p a word c after is g (inr m) = absurd m.0
row_taken {A} f key {good} {shape} {part} p a word c after is g (inl m) =
    let x = p.complete c a after g m.1 in
    (x.0, ap (λ (w : List ℕ). stmt_from w c) m.0 ∙ is ∙ bind_is (part c) (image f) (a, x.0) x.1, x.2)

-- ---- the local that a line binds
abbrev behind_name : List ℕ × Cursor → Result (List ℕ × Cursor) Bad
behind_name x = exactly_at (codes "=") x.1 >>= λ u. Ok (x.0, u.1)

abbrev bound_places : List ℕ → List Place → List Place
bound_places x places = Named x ∷ Exactly (codes "=") ∷ places

bound_part : IsPart (Always {T = List ℕ}) bound_places bound_at
unfolding bound_at
bound_part = record { sound = sound; complete = complete }
  where
    sound : (c left : Cursor) (x : List ℕ) → bound_at c ≡ Ok (x, left)
        → Unit {0} × ((places : List Place) (after : Bool) → Meets left.faulty places left.words after → Meets c.faulty (bound_places x places) c.words after)
    sound c left x h =
        let y = bind_ok (name_at c) behind_name (x, left) h in
        let z = bind_ok (exactly_at (codes "=") y.0.1) (λ u. good_pair y.0.0 u.1) (x, left) y.2 in
        let same = ok_pair z.2 in
        let named = name_part.sound c y.0.1 y.0.0 y.1 in
        let equals = (exactly_part (codes "=")).sound y.0.1 z.0.1 z.0.0 z.1 in (
          tt,
          λ places after m. subst (λ (v : List ℕ). Meets c.faulty (bound_places v places) c.words after) same.0
              (named.1 (Exactly (codes "=") ∷ places) after
              (equals.1 places after (subst (λ (l : Cursor). Meets l.faulty places l.words after) (sym same.1) m))),
        )

    complete : (c : Cursor) (x : List ℕ) (places : List Place) (after : Bool) → Unit {0} → Meets c.faulty (bound_places x places) c.words after
        → (left : Cursor) × (bound_at c ≡ Ok (x, left)) × Meets left.faulty places left.words after
    complete c x places after g m =
        let y = name_part.complete c x (Exactly (codes "=") ∷ places) after tt m in
        let z = (exactly_part (codes "=")).complete y.0 tt places after tt y.2 in (
          z.0,
          bind_is (name_at c) behind_name (x, y.0) y.1 ∙ bind_is (exactly_at (codes "=") y.0) (λ u. good_pair x u.1) (tt, z.0) z.1,
          z.2,
        )

-- ---- an operator and another atom, or nothing
abbrev Operation : Type 0
Operation = Option (Operator × Atom)

abbrev operation_places : Operation → List Place
operation_places None = []
operation_places (Some t) = Exactly (operator_word t.0) ∷ Valued t.1 ∷ []

abbrev behind_operator : Cursor → Operator → Result (Operation × Cursor) Bad
behind_operator c op = one_atom_at c >>= λ a. Ok (Some (op, a.0), a.1)

abbrev from_words : List (List ℕ) → Bool → Result (Operation × Cursor) Bad
from_words words faulty = listed_from LineEnd words faulty >>= λ w. operation_from w.0 w.1

operator_is_at : (word : List ℕ) (words : List (List ℕ)) (faulty : Bool) (op : Operator) → some_found (operator_named word) ≡ Ok op
    → operator_at (record { words = word ∷ words; faulty = faulty }) ≡ Ok (op, record { words = words; faulty = faulty })
unfolding operator_at word_at
operator_is_at word words faulty op h =
    bind_is (some_found (operator_named word)) (λ x. good_pair x (record { words = words; faulty = faulty })) op h

operator_was_at : (word : List ℕ) (words : List (List ℕ)) (faulty : Bool) (op : Operator) (left : Cursor)
    → operator_at (record { words = word ∷ words; faulty = faulty }) ≡ Ok (op, left)
    → (some_found (operator_named word) ≡ Ok op) × (record { words = words; faulty = faulty } ≡ left)
unfolding operator_at word_at
operator_was_at word words faulty op left h =
    let x = bind_ok (some_found (operator_named word)) (λ x. good_pair x (record { words = words; faulty = faulty })) (op, left) h in
    let same = ok_pair x.2 in (x.1 ∙ ap (λ (v : Operator). Ok v) same.0, same.1)

operation_sound : (words : List (List ℕ)) (faulty : Bool) (left : Cursor) (t : Operation) → from_words words faulty ≡ Ok (t, left)
    → Meets faulty (operation_places t) words left.faulty
operation_sound [] faulty left t h =
    let same = ok_pair h in
    subst (λ (v : Operation). Meets faulty (operation_places v) [] left.faulty) same.0 (ap (λ (c : Cursor). c.faulty) (sym same.1))
operation_sound (word ∷ words) faulty left t h =
    let x = bind_ok (some_found (operator_named word)) (behind_operator (record { words = words; faulty = faulty })) (t, left) h in
    let y = bind_ok (one_atom_at (record { words = words; faulty = faulty })) (λ a. good_pair (Some (x.0, a.0)) a.1) (t, left) x.2 in
    let same = ok_pair y.2 in
    let named = operator_part.sound (record { words = word ∷ words; faulty = faulty }) (record { words = words; faulty = faulty }) x.0
    (operator_is_at word words faulty x.0 x.1) in
    let atom = one_atom_last.sound (record { words = words; faulty = faulty }) y.0.1 y.0.0 y.1 in
    let flag : Meets faulty (Valued y.0.0 ∷ []) words left.faulty =
    subst (λ (l : Cursor). Meets faulty (Valued y.0.0 ∷ []) words l.faulty) same.1 atom.1 in
    subst (λ (v : Operation). Meets faulty (operation_places v) (word ∷ words) left.faulty) same.0
    (named.1 (Valued y.0.0 ∷ []) left.faulty flag)

operation_complete : (words : List (List ℕ)) (faulty : Bool) (t : Operation) (after : Bool) → Meets faulty (operation_places t) words after
    → (left : Cursor) × (from_words words faulty ≡ Ok (t, left)) × (left.faulty ≡ after)
operation_complete [] faulty None after m = (record { words = []; faulty = faulty }, refl, sym m)
operation_complete [] faulty (Some t) after m = absurd m
operation_complete (word ∷ words) faulty None after m = absurd m
operation_complete (word ∷ words) faulty (Some t) after m =
    let x = operator_part.complete (record { words = word ∷ words; faulty = faulty }) t.0 (Valued t.1 ∷ []) after tt m in
    let was = operator_was_at word words faulty t.0 x.0 x.1 in
    let met : Meets faulty (Valued t.1 ∷ []) words after = subst (λ (l : Cursor). Meets l.faulty (Valued t.1 ∷ []) l.words after) (sym was.1) x.2 in
    let y = one_atom_last.complete (record { words = words; faulty = faulty }) t.1 after tt met in (
      y.0,
      bind_is (some_found (operator_named word)) (behind_operator (record { words = words; faulty = faulty })) t.0 was.0
          ∙ bind_is (one_atom_at (record { words = words; faulty = faulty })) (λ a. good_pair (Some (t.0, a.0)) a.1) (t.1, y.0) y.1,
      y.2,
    )

operation_last : IsLast (Always {T = Operation}) operation_places operation_at
unfolding operation_at listed_at
operation_last = record {
  sound = λ c left t h. (tt, operation_sound c.words c.faulty left t h);
  complete = λ c t after g m. operation_complete c.words c.faulty t after m;
}

abbrev let_row : IsLast (λ (t : List ℕ × (Atom × Operation)). Unit {0} × (Unit {0} × Unit {0}))
    (λ t. bound_places t.0 (Valued t.1.0 ∷ operation_places t.1.1)) (both bound_at (both atom_at operation_at))
let_row = both_last bound_part (both_last atom_part operation_last)

let_row_is : (x : List ℕ) (a : Atom) (t : Operation) → row (let_of x a t) ≡ Exactly (codes "let") ∷ bound_places x (Valued a ∷ operation_places t)
let_row_is x a None = refl
let_row_is x a (Some t) = refl

let_sound : (c left : Cursor) (s : NamedStmt) → let_at c ≡ Ok (s, left) → IsRowOf (codes "let") c s left
unfolding let_at
let_sound c left s h = row_sound (λ t. let_of t.0 t.1.0 t.1.1) (codes "let") let_row (λ t. let_row_is t.0 t.1.0 t.1.1) c left s h

-- ---- awaits
abbrev awaited_places : NamedStmt → List Place
awaited_places (Await x f args) = Named f ∷ map Valued args
awaited_places (AwaitWork x kind a) = Exactly (codes "work") ∷ Exactly (work_word kind) ∷ Valued a ∷ []
awaited_places _ = []

-- the line awaits, and binds the local
record IsAwaited (x : List ℕ) (word : List ℕ) (c : Cursor) (s : NamedStmt) (left : Cursor) : Type 0 where
  is : row s ≡ binding (codes "await") x (awaited_places s)
  met : Meets c.faulty (awaited_places s) (word ∷ c.words) left.faulty

abbrev called_in : List ℕ → List ℕ → List Atom × Cursor → Result (NamedStmt × Cursor) Bad
called_in x f args = Ok (Await x f args.0, args.1)

abbrev called_by : List ℕ → Cursor → List ℕ → Result (NamedStmt × Cursor) Bad
called_by x c f = args_at LineEnd c >>= called_in x f

abbrev worked_in : List ℕ → (WorkWord × Atom) → NamedStmt
worked_in x t = AwaitWork x t.0 t.1

awaited_sound : (x word : List ℕ) (c left : Cursor) (s : NamedStmt) → awaited_from x word c ≡ Ok (s, left) → IsAwaited x word c s left
unfolding awaited_from
awaited_sound x word c left s h =
    of (chosen (is_work word) (mapped (worked_in x) work_atom_at c) (name_found word >>= called_by x c) (good_pair s left) h)
  where
    of : ((is_work word ≡ true) × (mapped (worked_in x) work_atom_at c ≡ good_pair s left))
        ⊎ ((is_work word ≡ false) × ((name_found word >>= called_by x c) ≡ good_pair s left)) → IsAwaited x word c s left
    of (inl e) =
        let t = mapped_sound (worked_in x) work_atom_last c left s e.1 in
        subst (λ (v : NamedStmt). IsAwaited x word c v left) t.1
        (record { is = refl; met = inl ((bytes_eq-Decides word (codes "work")).0 e.0, t.3) })
    of (inr e) =
        let f = bind_ok (name_found word) (called_by x c) (s, left) e.1 in
        let args = bind_ok (args_at LineEnd c) (called_in x f.0) (s, left) f.2 in
        let same = ok_pair args.2 in
        let last = args_last.sound c args.0.1 args.0.0 args.1 in
        let flag : Meets c.faulty (map Valued args.0.0) c.words left.faulty =
        subst (λ (l : Cursor). Meets c.faulty (map Valued args.0.0) c.words l.faulty) same.1 last.1 in
        subst (λ (v : NamedStmt). IsAwaited x word c v left) same.0
        (record { is = refl; met = inl (name_plain.sound word f.0 f.1, flag) })

abbrev awaited_in : List ℕ → List ℕ × Cursor → Result (NamedStmt × Cursor) Bad
awaited_in x w = awaited_from x w.0 w.1

abbrev awaited_behind : List ℕ × Cursor → Result (NamedStmt × Cursor) Bad
awaited_behind x = word_at x.1 >>= awaited_in x.0

awaited_words : (x : List ℕ) (words : List (List ℕ)) (faulty : Bool) (left : Cursor) (s : NamedStmt)
    → (word_from words faulty >>= awaited_in x) ≡ Ok (s, left)
    → (row s ≡ binding (codes "await") x (awaited_places s)) × Meets faulty (awaited_places s) words left.faulty
awaited_words x [] faulty left s h = absurd cc
awaited_words x (word ∷ words) faulty left s h =
    let a = awaited_sound x word (record { words = words; faulty = faulty }) left s h in (a.is, a.met)

await_sound : (c left : Cursor) (s : NamedStmt) → await_at c ≡ Ok (s, left) → IsRowOf (codes "await") c s left
unfolding await_at word_at
await_sound c left s h =
    let x = bind_ok (bound_at c) awaited_behind (s, left) h in
    let a = awaited_words x.0.0 x.0.1.words x.0.1.faulty left s x.2 in
    let b = bound_part.sound c x.0.1 x.0.0 x.1 in
    subst (λ (ps : List Place). Meets c.faulty ps (codes "await" ∷ c.words) left.faulty) (sym a.0)
    (inl (refl, b.1 (awaited_places s) left.faulty a.1))

-- ---- tries
abbrev Tried : Type 0
Tried = List ℕ × (List ℕ × (List Atom × List ℕ))

abbrev try_row : IsLast (λ (t : Tried). Unit {0} × (Unit {0} × (Unit {0} × Unit {0})))
    (λ t. bound_places t.0 (Named t.1.0 ∷ (map Valued t.1.1.0 ++ Exactly (codes "else") ∷ Named t.1.1.1 ∷ [])))
    (both bound_at (both name_at (both (args_at Else) one_name_at)))
try_row = both_last bound_part (both_last name_part (both_last else_part one_name_last))

try_sound : (c left : Cursor) (s : NamedStmt) → try_at c ≡ Ok (s, left) → IsRowOf (codes "try") c s left
unfolding try_at
try_sound c left s h = row_sound (λ t. Try t.0 t.1.0 t.1.1.0 t.1.1.1) (codes "try") try_row (λ t. refl) c left s h

-- ---- lines that may have a condition
-- the line is that of the condition, the word, and those that were taken
abbrev IsActionOf : Option Atom → List ℕ → Cursor → NamedStmt → Cursor → Type 0
IsActionOf when word c s left = (rest : List Place) × (row s ≡ when_places when ++ rest) × Meets c.faulty rest (word ∷ c.words) left.faulty

one_action : (f : Option Atom → Atom → NamedStmt) (key : List ℕ)
    → ((when : Option Atom) (a : Atom) → row (f when a) ≡ when_places when ++ Exactly key ∷ Valued a ∷ [])
    → (when : Option Atom) (word : List ℕ) (c left : Cursor) (s : NamedStmt) → bytes_eq word key ≡ true
    → mapped (f when) one_atom_at c ≡ Ok (s, left) → IsActionOf when word c s left
one_action f key is when word c left s e h =
    let x = mapped_sound (f when) one_atom_last c left s h in
    subst (λ (v : NamedStmt). IsActionOf when word c v left) x.1
    (Exactly key ∷ Valued x.0 ∷ [], is when x.0, inl ((bytes_eq-Decides word key).0 e, x.3))

action_sound : (when : Option Atom) (word : List ℕ) (c left : Cursor) (s : NamedStmt) → action_from when word c ≡ Ok (s, left)
    → IsActionOf when word c s left
unfolding action_from
action_sound when word c left s h =
    of (bytes_eq word (codes "print")) refl (bytes_eq word (codes "raise")) refl (bytes_eq word (codes "return")) refl h
  where
    of : (p : Bool) → bytes_eq word (codes "print") ≡ p → (r : Bool) → bytes_eq word (codes "raise") ≡ r
        → (t : Bool) → bytes_eq word (codes "return") ≡ t
        → cond p (mapped (λ a. Print when a) one_atom_at)
        (cond r (mapped (λ a. Raise when a) one_atom_at) (cond t (mapped (λ a. Return when a) one_atom_at) (λ d. Err bad))) c
        ≡ Ok (s, left)
        → IsActionOf when word c s left
    of true e r k t l h = one_action (λ w a. Print w a) (codes "print") (λ w a. refl) when word c left s e h
    of false e true k t l h = one_action (λ w a. Raise w a) (codes "raise") (λ w a. refl) when word c left s k h
    of false e false k true l h = one_action (λ w a. Return w a) (codes "return") (λ w a. refl) when word c left s l h
    of false e false k false l h = let wrong : Err bad ≡ good_pair s left = h in absurd cc

abbrev acted : Option Atom → List ℕ × Cursor → Result (NamedStmt × Cursor) Bad
acted when w = action_from when w.0 w.1

abbrev acted_behind : Atom × Cursor → Result (NamedStmt × Cursor) Bad
acted_behind a = word_at a.1 >>= acted (Some a.0)

acted_words : (when : Option Atom) (words : List (List ℕ)) (faulty : Bool) (left : Cursor) (s : NamedStmt)
    → (word_from words faulty >>= acted when) ≡ Ok (s, left)
    → (rest : List Place) × (row s ≡ when_places when ++ rest) × Meets faulty rest words left.faulty
acted_words when [] faulty left s h = absurd cc
acted_words when (word ∷ words) faulty left s h = action_sound when word (record { words = words; faulty = faulty }) left s h

when_sound : (c left : Cursor) (s : NamedStmt) → when_at c ≡ Ok (s, left) → IsRowOf (codes "when") c s left
unfolding when_at word_at
when_sound c left s h =
    let a = bind_ok (atom_at c) acted_behind (s, left) h in
    let x = acted_words (Some a.0.0) a.0.1.words a.0.1.faulty left s a.2 in
    let b = atom_part.sound c a.0.1 a.0.0 a.1 in
    subst (λ (ps : List Place). Meets c.faulty ps (codes "when" ∷ c.words) left.faulty) (sym x.1)
    (inl (refl, b.1 x.0 left.faulty x.2))

-- ---- all lines
pub stmt_sound : (word : List ℕ) (c left : Cursor) (s : NamedStmt) → stmt_from word c ≡ Ok (s, left) → IsRowOf word c s left
unfolding stmt_from
stmt_sound word c left s h =
    of (bytes_eq word (codes "let")) refl (bytes_eq word (codes "await")) refl (bytes_eq word (codes "try")) refl (bytes_eq word (codes "when")) refl h
  where
    at : (key : List ℕ) → bytes_eq word key ≡ true → IsRowOf key c s left → IsRowOf word c s left
    at key e r = subst (λ (w : List ℕ). IsRowOf w c s left) (sym ((bytes_eq-Decides word key).0 e)) r

    plain : IsActionOf None word c s left → IsRowOf word c s left
    plain x = subst (λ (ps : List Place). Meets c.faulty ps (word ∷ c.words) left.faulty) (sym x.1) x.2

    of : (l : Bool) → bytes_eq word (codes "let") ≡ l → (a : Bool) → bytes_eq word (codes "await") ≡ a
        → (t : Bool) → bytes_eq word (codes "try") ≡ t → (w : Bool) → bytes_eq word (codes "when") ≡ w
        → cond l let_at (cond a await_at (cond t try_at (cond w when_at (action_from None word)))) c ≡ Ok (s, left)
        → IsRowOf word c s left
    of true e a f t g w k h = at (codes "let") e (let_sound c left s h)
    of false e true f t g w k h = at (codes "await") f (await_sound c left s h)
    of false e false f true g w k h = at (codes "try") g (try_sound c left s h)
    of false e false f false g true k h = at (codes "when") k (when_sound c left s h)
    of false e false f false g false k h = plain (action_sound None word c left s h)

-- ---- the words of a row are taken
refl_at : {A : Type 0} (a : A) → a ≡ a
refl_at a = refl

awaited_work : (x : List ℕ) (kind : WorkWord) (a : Atom) (words : List (List ℕ)) (faulty after : Bool)
    → Meets faulty (Exactly (codes "work") ∷ Exactly (work_word kind) ∷ Valued a ∷ []) words after
    → (left : Cursor) × ((word_from words faulty >>= awaited_in x) ≡ Ok (AwaitWork x kind a, left)) × (left.faulty ≡ after)
unfolding awaited_from
awaited_work x kind a [] faulty after m = absurd m
awaited_work x kind a (word ∷ words) faulty after (inr m) = absurd m.0
awaited_work x kind a (word ∷ words) faulty after (inl m) =
    let c : Cursor = record { words = words; faulty = faulty } in
    let t = work_atom_last.complete (record { words = words; faulty = faulty }) (kind, a) after tt m.1 in (
      t.0,
      if_so (is_work word) (mapped (worked_in x) work_atom_at (record { words = words; faulty = faulty }))
          (name_found word >>= called_by x (record { words = words; faulty = faulty })) ((bytes_eq-Decides word (codes "work")).1 m.0)
          ∙ bind_is (work_atom_at (record { words = words; faulty = faulty })) (image (worked_in x)) ((kind, a), t.0) t.1,
      t.2,
    )

awaited_fun : (x f : List ℕ) (args : List Atom) (words : List (List ℕ)) (faulty after : Bool) → is_work f ≡ false
    → Meets faulty (Named f ∷ map Valued args) words after
    → (left : Cursor) × ((word_from words faulty >>= awaited_in x) ≡ Ok (Await x f args, left)) × (left.faulty ≡ after)
unfolding awaited_from
awaited_fun x f args [] faulty after other m = absurd m
awaited_fun x f args (word ∷ words) faulty after other (inr m) = absurd m.0
awaited_fun x f args (word ∷ words) faulty after other (inl m) =
    let no : is_work word ≡ false = subst (λ (w : List ℕ). is_work w ≡ false) (sym m.0.0) other in
    let r = args_last.complete (record { words = words; faulty = faulty }) args after tt m.1 in (
      r.0,
      if_not (is_work word) (mapped (worked_in x) work_atom_at (record { words = words; faulty = faulty }))
          (name_found word >>= called_by x (record { words = words; faulty = faulty })) no
          ∙ bind_is (name_found word) (called_by x (record { words = words; faulty = faulty })) f (name_plain.complete word f m.0)
          ∙ bind_is (args_at LineEnd (record { words = words; faulty = faulty })) (called_in x f) (args, r.0) r.1,
      r.2,
    )

-- the words behind `await`
await_taken : (x : List ℕ) (s : NamedStmt) (places : List Place) (word : List ℕ) (c : Cursor) (after : Bool)
    → Meets c.faulty (binding (codes "await") x places) (word ∷ c.words) after
    → ((words : List (List ℕ)) (faulty : Bool) → Meets faulty places words after
    → (left : Cursor) × ((word_from words faulty >>= awaited_in x) ≡ Ok (s, left)) × (left.faulty ≡ after))
    → IsTaken word c s after
unfolding stmt_from await_at word_at
await_taken x s places word c after (inr m) rest = absurd m.0
await_taken x s places word c after (inl m) rest =
    let b = bound_part.complete c x places after tt m.1 in
    let r = rest b.0.words b.0.faulty b.2 in
    (r.0, ap (λ (w : List ℕ). stmt_from w c) m.0 ∙ bind_is (bound_at c) awaited_behind (x, b.0) b.1 ∙ r.1, r.2)

when_is : (c : Cursor) → stmt_from (codes "when") c ≡ (atom_at c >>= acted_behind)
unfolding stmt_from when_at
when_is c = refl

word_is : (b : Atom) (l : Cursor) → acted_behind (b, l) ≡ (word_from l.words l.faulty >>= acted (Some b))
unfolding word_at
word_is b l = refl

-- an action behind a condition, or alone
action_taken : (f : Option Atom → Atom → NamedStmt) (key : List ℕ)
    → ((when : Option Atom) (c : Cursor) → action_from when key c ≡ mapped (f when) one_atom_at c)
    → ((c : Cursor) → stmt_from key c ≡ action_from None key c)
    → (when : Option Atom) (a : Atom) (word : List ℕ) (c : Cursor) (after : Bool)
    → Meets c.faulty (when_places when ++ Exactly key ∷ Valued a ∷ []) (word ∷ c.words) after → IsTaken word c (f when a) after
action_taken f key is alone None a word c after m = row_taken (f None) key one_atom_last a word c after (alone c ∙ is None c) tt m
action_taken f key is alone (Some b) a word c after (inr m) = absurd m.0
action_taken f key is alone (Some b) a word c after (inl m) =
    let x = atom_part.complete c b (Exactly key ∷ Valued a ∷ []) after tt m.1 in
    let y = behind x.0.words x.0.faulty x.2 in
    (y.0, ap (λ (w : List ℕ). stmt_from w c) m.0 ∙ when_is c ∙ bind_is (atom_at c) acted_behind (b, x.0) x.1 ∙ word_is b x.0 ∙ y.1, y.2)
  where
    behind : (words : List (List ℕ)) (faulty : Bool) → Meets faulty (Exactly key ∷ Valued a ∷ []) words after
        → (left : Cursor) × ((word_from words faulty >>= acted (Some b)) ≡ Ok (f (Some b) a, left)) × (left.faulty ≡ after)
    behind [] faulty m = absurd m
    behind (w ∷ words) faulty (inr m) = absurd m.0
    behind (w ∷ words) faulty (inl m) =
        let x = one_atom_last.complete (record { words = words; faulty = faulty }) a after tt m.1 in (
          x.0,
          ap (λ (v : List ℕ). action_from (Some b) v (record { words = words; faulty = faulty })) m.0
              ∙ is (Some b) (record { words = words; faulty = faulty })
              ∙ bind_is (one_atom_at (record { words = words; faulty = faulty })) (image (f (Some b))) (a, x.0) x.1,
          x.2,
        )

-- the second of two tests that none of a list is so
not_second : (a b : Bool) → (a || b) ≡ false → b ≡ false
not_second true b h = cc
not_second false b h = h

not_first : (a b : Bool) → (a || b) ≡ false → a ≡ false
not_first true b h = h
not_first false b h = refl

pub stmt_taken : (s : NamedStmt) (word : List ℕ) (c : Cursor) (after : Bool) → list_any takes_work (row s) ≡ false
    → Meets c.faulty (row s) (word ∷ c.words) after → IsTaken word c s after
unfolding stmt_from let_at try_at action_from
stmt_taken (Let x a) word c after names m =
    row_taken (λ t. let_of t.0 t.1.0 t.1.1) (codes "let") let_row (x, (a, None)) word c after (refl_at (stmt_from (codes "let") c)) (tt, (tt, tt)) m
stmt_taken (Compute x a op b) word c after names m =
    row_taken (λ t. let_of t.0 t.1.0 t.1.1) (codes "let") let_row (x, (a, Some (op, b))) word c after
    (refl_at (stmt_from (codes "let") c)) (tt, (tt, tt)) m
stmt_taken (Print when a) word c after names m =
    action_taken (λ w v. Print w v) (codes "print") (λ w d. refl) (λ d. refl) when a word c after m
stmt_taken (Raise when a) word c after names m =
    action_taken (λ w v. Raise w v) (codes "raise") (λ w d. refl) (λ d. refl) when a word c after m
stmt_taken (Return when a) word c after names m =
    action_taken (λ w v. Return w v) (codes "return") (λ w d. refl) (λ d. refl) when a word c after m
stmt_taken (Await x f args) word c after names m =
    await_taken x (Await x f args) (Named f ∷ map Valued args) word c after m
    (λ words faulty. awaited_fun x f args words faulty after
    (not_first (is_work f) (list_any takes_work (map Valued args)) (not_second (is_work x) _ names)))
stmt_taken (AwaitWork x kind a) word c after names m =
    await_taken x (AwaitWork x kind a) (Exactly (codes "work") ∷ Exactly (work_word kind) ∷ Valued a ∷ []) word c after m
    (λ words faulty. awaited_work x kind a words faulty after)
stmt_taken (Try x f args g) word c after names m =
    row_taken (λ t. Try t.0 t.1.0 t.1.1.0 t.1.1.1) (codes "try") try_row (x, (f, (args, g))) word c after
    (refl_at (stmt_from (codes "try") c)) (tt, (tt, (tt, tt))) m
