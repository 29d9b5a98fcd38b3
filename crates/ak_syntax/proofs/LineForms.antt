-- The forms of lines, both ways.
use Rattle.std.proofs.Common.{◌≡◌, ℕ, Bool, true, false, ◌==◌, ◌⊎◌, inl, inr, cond, Option, Some, None, Result, Ok, Err, List, [], ◌∷◌, ◌++◌, length, refl, sym, ap, ◌∙◌, subst, arith}
use Rattle.std.proofs.lemmas.Slice.Eq.{bytes_eq-Decides}
use Rattle.std.specs.Prelude.{codes}
use Rattle.std.specs.Str.{bytes_eq}
use Rattle.ak_script.specs.declared.script.Param.{Param}
use Rattle.ak_script.specs.declared.script.Prefix.{Prefix}
use Rattle.ak_script.specs.declared.script.Prefix.TheVariants.{If, Unless}
use Rattle.ak_script.specs.declared.statement.Atom.{Atom}
use Rattle.ak_script.specs.declared.statement.Stmt.{Stmt}
use Rattle.ak_script.specs.declared.statement.Stmt.TheVariants.{Set, Print, Ivar, Fill, Offer, Upon, Bind, All, Any, Choose, Sched, Low, Yield, Never, After, Event, Abort, Tick, Monitor, Within, Detach, OnError, NextError, Raise, Send, Try, Throttle, Enqueue, ThrottleDone, Pipe, Write, Put, Read, Close, CloseRead, Flushed, Work, Helper, HelperWork, HelperDone, Stop, Ret}
use Rattle.ak_syntax.specs.declared.cursor.Cursor.{Cursor}
use Rattle.ak_syntax.specs.declared.line_form.Form.{Form}
use Rattle.ak_syntax.specs.declared.line_form.Form.TheVariants.{Async, Head, Body, End}
use Rattle.ak_syntax.specs.Keywords.{value_named, deferred_named, group_named, job_named, monitor_named, throttle_named, pipe_named, closing_named, pool_named}
use Rattle.ak_syntax.specs.Rows.{statement_at}
use Rattle.ak_script.specs.Statements.{binds, MayHavePrefix}
use Rattle.ak_syntax.specs.Table.{Place, Valued, row, HasDeferreds}
use Rattle.ak_syntax.specs.Grammar.{places, prefix_places, HasNumber}
use Rattle.ak_syntax.specs.Faults.{IsShaped, rules}
use Rattle.ak_syntax.specs.Words.{Bad, bad, ◌>>=◌, Part, both, mapped, word_from, word_at, exactly_at, end_at, atom_at, name_at, params_at}
use Rattle.ak_syntax.specs.Lines.{taking, head_at, async_at, end_form_at, conditional_at, if_at, unless_at, plain_at, form_from}
use Rattle.ak_syntax.proofs.Found.{ok_pair, bind_ok, bind_is, chosen, if_so, good_pair}
use Rattle.ak_syntax.proofs.Meets.{Meets}
use Rattle.ak_syntax.proofs.Items.{exactly_part, name_part, atom_part}
use Rattle.ak_syntax.proofs.Parts.{IsLast, both_last, end_last, image}
use Rattle.ak_syntax.proofs.Shapes.{params_last, IsRowOf}
use Rattle.ak_syntax.proofs.TakenLines.{IsFormOf as IsForm, Completes as IsFound}
use Rattle.ak_syntax.proofs.RowWords.{statement_complete}
use Rattle.ak_syntax.proofs.TakenRows.{statement_sound}

-- the line of this number has the form: its first word, and those that were taken
abbrev pub IsFormOf : ℕ → List ℕ → Cursor → Form → Cursor → Type 0
IsFormOf number word c f left = IsForm rules number word c f left

pub mapped_sound : {A B : Type 0} (f : A → B) {good : A → Type 0} {shape : A → List Place} {part : Part A} → IsLast good shape part
    → (c left : Cursor) (b : B) → mapped f part c ≡ Ok (b, left)
    → (a : A) × (f a ≡ b) × good a × Meets c.faulty (shape a) c.words left.faulty
mapped_sound {A} {B} f {good} {shape} {part} p c left b h =
    let x = bind_ok (part c) (image f) (b, left) h in
    let same = ok_pair x.2 in
    let r = p.sound c x.0.1 x.0.0 x.1 in
    (x.0.0, same.0, r.0, subst (λ (l : Cursor). Meets c.faulty (shape x.0.0) c.words l.faulty) same.1 r.1)

head_sound : (number : ℕ) (c left : Cursor) (f : Form) → head_at number c ≡ Ok (f, left) → IsFormOf number (codes "proc") c f left
unfolding head_at
head_sound number c left f h =
    let x = mapped_sound (λ t. Head t.0 number t.1) (both_last name_part params_last) c left f h in
    subst (λ (g : Form). IsFormOf number (codes "proc") c g left) x.1 (tt, refl, inl (refl, x.3))

end_form_sound : (number : ℕ) (c left : Cursor) (f : Form) → end_form_at c ≡ Ok (f, left) → IsFormOf number (codes "end") c f left
unfolding end_form_at
end_form_sound number c left f h =
    let x = mapped_sound (λ t. End) end_last c left f h in
    subst (λ (g : Form). IsFormOf number (codes "end") c g left) x.1 (tt, tt, inl (refl, x.3))

async_sound : (number : ℕ) (c left : Cursor) (f : Form) → async_at c ≡ Ok (f, left) → IsFormOf number (codes "async") c f left
unfolding async_at
async_sound number c left f h =
    let x = mapped_sound (λ t. Async) (both_last (exactly_part (codes "2")) end_last) c left f h in
    subst (λ (g : Form). IsFormOf number (codes "async") c g left) x.1 (tt, tt, inl (refl, x.3))

-- ---- statements
abbrev body_of : ℕ → Option Prefix → Stmt → Form
body_of number prefix stmt = Body (record { line = number; prefix = prefix; stmt = stmt })

abbrev body_in : ℕ → Option Prefix → Stmt × Cursor → Result (Form × Cursor) Bad
body_in number prefix s = Ok (body_of number prefix s.0, s.1)

plain_sound : (number : ℕ) (word : List ℕ) (c left : Cursor) (f : Form) → plain_at number word c ≡ Ok (f, left) → IsFormOf number word c f left
unfolding plain_at
plain_sound number word c left f h =
    let x = bind_ok (statement_at word c) (body_in number None) (f, left) h in
    let same = ok_pair x.2 in
    let r : IsRowOf word c x.0.0 left = subst (λ (l : Cursor). IsRowOf word c x.0.0 l) same.1 (statement_sound word c x.0.1 x.0.0 x.1) in
    subst (λ (g : Form). IsFormOf number word c g left) same.0 ((tt, r.0), refl, r.1)

no_items : {A : Type 0} (xs : List A) → (length xs == 0) ≡ true → xs ≡ []
no_items [] h = refl
no_items (x ∷ xs) h = absurd (grind arith)

abbrev bound_in : ℕ → Prefix → Stmt × Cursor → Result (Form × Cursor) Bad
bound_in number prefix s = cond (length (binds s.0) == 0) (body_in number (Some prefix) s) (Err bad)

abbrev worded : ℕ → Prefix → List ℕ × Cursor → Result (Form × Cursor) Bad
worded number prefix w = statement_at w.0 w.1 >>= bound_in number prefix

abbrev Conditional : ℕ → Prefix → Cursor → Form → Cursor → Type 0
Conditional number prefix c f left = (s : Stmt) × (body_of number (Some prefix) s ≡ f) × (binds s ≡ []) × HasDeferreds s
    × Meets c.faulty (row s) c.words left.faulty

cond_words : (number : ℕ) (prefix : Prefix) (words : List (List ℕ)) (faulty : Bool) (left : Cursor) (f : Form)
    → (word_from words faulty >>= worded number prefix) ≡ Ok (f, left)
    → Conditional number prefix (record { words = words; faulty = faulty }) f left
cond_words number prefix [] faulty left f h = absurd cc
cond_words number prefix (word ∷ words) faulty left f h =
    let c : Cursor = record { words = words; faulty = faulty } in
    let x = bind_ok (statement_at word (record { words = words; faulty = faulty })) (bound_in number prefix) (f, left) h in
    of x (chosen (length (binds x.0.0) == 0) (body_in number (Some prefix) x.0) (Err bad) (good_pair f left) x.2)
  where
    of : (x : (s : Stmt × Cursor) × (statement_at word (record { words = words; faulty = faulty }) ≡ Ok s) × (bound_in number prefix s ≡ good_pair f left))
        → (((length (binds x.0.0) == 0) ≡ true) × (body_in number (Some prefix) x.0 ≡ good_pair f left))
        ⊎ (((length (binds x.0.0) == 0) ≡ false) × (Err bad ≡ good_pair f left))
        → Conditional number prefix (record { words = word ∷ words; faulty = faulty }) f left
    of x (inr e) = let wrong : Err bad ≡ good_pair f left = e.1 in absurd cc
    of x (inl e) =
        let same = ok_pair e.1 in
        let r : IsRowOf word (record { words = words; faulty = faulty }) x.0.0 left = subst
        (λ (l : Cursor). IsRowOf word (record { words = words; faulty = faulty }) x.0.0 l) same.1
        (statement_sound word (record { words = words; faulty = faulty }) x.0.1 x.0.0 x.1) in
        (x.0.0, same.0, no_items (binds x.0.0) e.0, r.0, r.1)

cond_sound : (number : ℕ) (prefix : Prefix) (c left : Cursor) (f : Form) → conditional_at number prefix c ≡ Ok (f, left) → Conditional number prefix c f left
unfolding conditional_at word_at
cond_sound number prefix c left f h = cond_words number prefix c.words c.faulty left f h

if_sound : (number : ℕ) (c left : Cursor) (f : Form) → if_at number c ≡ Ok (f, left) → IsFormOf number (codes "if") c f left
unfolding if_at
if_sound number c left f h =
    let rest : Atom × Cursor → Result (Form × Cursor) Bad = λ a. conditional_at number (If a.0) a.1 in
    let x = bind_ok (atom_at c) rest (f, left) h in
    let s = cond_sound number (If x.0.0) x.0.1 left f x.2 in
    let a = atom_part.sound c x.0.1 x.0.0 x.1 in
    subst (λ (g : Form). IsFormOf number (codes "if") c g left) s.1 ((s.2, s.3), refl, inl (refl, a.1 (row s.0) left.faulty s.4))

unless_sound : (number : ℕ) (c left : Cursor) (f : Form) → unless_at number c ≡ Ok (f, left) → IsFormOf number (codes "unless") c f left
unfolding unless_at
unless_sound number c left f h =
    let rest : Atom × Cursor → Result (Form × Cursor) Bad = λ a. conditional_at number (Unless a.0) a.1 in
    let x = bind_ok (atom_at c) rest (f, left) h in
    let s = cond_sound number (Unless x.0.0) x.0.1 left f x.2 in
    let a = atom_part.sound c x.0.1 x.0.0 x.1 in
    subst (λ (g : Form). IsFormOf number (codes "unless") c g left) s.1 ((s.2, s.3), refl, inl (refl, a.1 (row s.0) left.faulty s.4))

pub form_sound : (number : ℕ) (word : List ℕ) (c left : Cursor) (f : Form) → form_from number word c ≡ Ok (f, left) → IsFormOf number word c f left
unfolding form_from
form_sound number word c left f h =
    of (bytes_eq word (codes "proc")) refl (bytes_eq word (codes "end")) refl (bytes_eq word (codes "if")) refl
    (bytes_eq word (codes "unless")) refl (bytes_eq word (codes "async")) refl h
  where
    at : (key : List ℕ) → bytes_eq word key ≡ true → IsFormOf number key c f left → IsFormOf number word c f left
    at key e r = subst (λ (w : List ℕ). IsFormOf number w c f left) (sym ((bytes_eq-Decides word key).0 e)) r

    of : (p : Bool) → bytes_eq word (codes "proc") ≡ p → (e : Bool) → bytes_eq word (codes "end") ≡ e → (i : Bool)
        → bytes_eq word (codes "if") ≡ i → (u : Bool) → bytes_eq word (codes "unless") ≡ u
        → (a : Bool) → bytes_eq word (codes "async") ≡ a
        → cond p (head_at number)
        (cond e end_form_at (cond i (if_at number) (cond u (unless_at number) (cond a async_at (plain_at number word))))) c
        ≡ Ok (f, left)
        → IsFormOf number word c f left
    of true x e y i z u t a v h = at (codes "proc") x (head_sound number c left f h)
    of false x true y i z u t a v h = at (codes "end") y (end_form_sound number c left f h)
    of false x false y true z u t a v h = at (codes "if") z (if_sound number c left f h)
    of false x false y false z true t a v h = at (codes "unless") t (unless_sound number c left f h)
    of false x false y false z false t true v h = at (codes "async") v (async_sound number c left f h)
    of false x false y false z false t false v h = plain_sound number word c left f h

-- ---- the words of a form are taken
-- no form is without words
pub no_words : (s : Stmt) (before after : Bool) → Meets before (row s) [] after → ⊥
no_words (Set x a op b) before after met = met
no_words (Print a) before after met = met
no_words (Raise a) before after met = met
no_words (Ret a) before after met = met
no_words Stop before after met = met
no_words (Ivar i) before after met = met
no_words (Fill i a) before after met = met
no_words (Offer i a) before after met = met
no_words (Upon d proc args) before after met = met
no_words (Bind r d proc args) before after met = met
no_words (Yield r) before after met = met
no_words (Never r) before after met = met
no_words (All r deferreds proc args) before after met = met
no_words (Any r deferreds) before after met = met
no_words (Choose r choices args) before after met = met
no_words (Try r proc args catch catch_args mode) before after met = met
no_words (Sched proc args) before after met = met
no_words (Low proc args) before after met = met
no_words (After r n) before after met = met
no_words (Event e r n) before after met = met
no_words (Abort e) before after met = met
no_words (Tick n) before after met = met
no_words (Monitor m) before after met = met
no_words (Within m proc args) before after met = met
no_words (Detach m) before after met = met
no_words (OnError m proc args) before after met = met
no_words (NextError r m) before after met = met
no_words (Send m a) before after met = met
no_words (Throttle t k stop) before after met = met
no_words (Enqueue r t proc args) before after met = met
no_words (ThrottleDone r t) before after met = met
no_words (Pipe p b) before after met = met
no_words (Write r p a) before after met = met
no_words (Put p a) before after met = met
no_words (Read r p proc args eof eof_args) before after met = met
no_words (Close p) before after met = met
no_words (CloseRead p) before after met = met
no_words (Flushed r p) before after met = met
no_words (Work r kind a) before after met = met
no_words (Helper h x) before after met = met
no_words (HelperWork r h kind a) before after met = met
no_words (HelperDone h) before after met = met

pub no_form_words : (f : Form) (before after : Bool) → Meets before (places f) [] after → ⊥
no_form_words Async before after m = m
no_form_words (Head name line params) before after m = m
no_form_words End before after m = m
no_form_words (Body statement) before after m = of statement.prefix m
  where
    of : (prefix : Option Prefix) → Meets before (prefix_places prefix ++ row statement.stmt) [] after → ⊥
    of None m = no_words statement.stmt before after m
    of (Some (If a)) m = m
    of (Some (Unless a)) m = m

-- no statement begins with the word
abbrev NoRow : List ℕ → Type 0
NoRow key = (c : Cursor) → statement_at key c ≡ Err bad

no_row_of : (key : List ℕ) → NoRow key → (word : List ℕ) (c left : Cursor) (s : Stmt) → statement_at word c ≡ Ok (s, left) → bytes_eq word key ≡ false
no_row_of key none word c left s h = of (bytes_eq word key) refl
  where
    of : (b : Bool) → bytes_eq word key ≡ b → bytes_eq word key ≡ false
    of false e = e
    of true e = let same : word ≡ key = (bytes_eq-Decides word key).0 e in
        let wrong : Err bad ≡ good_pair s left = sym (none c) ∙ ap (λ (w : List ℕ). statement_at w c) (sym same) ∙ h in absurd cc

no_row_proc : NoRow (codes "proc")
unfolding statement_at value_named deferred_named group_named job_named monitor_named throttle_named pipe_named closing_named pool_named
no_row_proc c = refl

no_row_end : NoRow (codes "end")
unfolding statement_at value_named deferred_named group_named job_named monitor_named throttle_named pipe_named closing_named pool_named
no_row_end c = refl

no_row_if : NoRow (codes "if")
unfolding statement_at value_named deferred_named group_named job_named monitor_named throttle_named pipe_named closing_named pool_named
no_row_if c = refl

no_row_unless : NoRow (codes "unless")
unfolding statement_at value_named deferred_named group_named job_named monitor_named throttle_named pipe_named closing_named pool_named
no_row_unless c = refl

no_row_async : NoRow (codes "async")
unfolding statement_at value_named deferred_named group_named job_named monitor_named throttle_named pipe_named closing_named pool_named
no_row_async c = refl

-- what is found for the form
abbrev pub Completes : ℕ → List ℕ → Cursor → Form → Bool → Type 0
Completes number word c f after = IsFound taking number word c f after

plain_choice : (number : ℕ) (word : List ℕ) (c : Cursor) → bytes_eq word (codes "proc") ≡ false → bytes_eq word (codes "end") ≡ false
    → bytes_eq word (codes "if") ≡ false → bytes_eq word (codes "unless") ≡ false
    → bytes_eq word (codes "async") ≡ false → form_from number word c ≡ plain_at number word c
unfolding form_from
plain_choice number word c p e i u a = rw (p, e, i, u, a) refl

plain_complete : (number : ℕ) (stmt : Stmt) (word : List ℕ) (c : Cursor) (after : Bool) → HasDeferreds stmt
    → Meets c.faulty (row stmt) (word ∷ c.words) after → Completes number word c (body_of number None stmt) after
unfolding plain_at
plain_complete number stmt word c after has m =
    let x = statement_complete stmt word c after has m in
    let choice = plain_choice number word c (no_row_of (codes "proc") no_row_proc word c x.0 stmt x.1) (no_row_of (codes "end") no_row_end word c x.0 stmt x.1)
    (no_row_of (codes "if") no_row_if word c x.0 stmt x.1) (no_row_of (codes "unless") no_row_unless word c x.0 stmt x.1)
    (no_row_of (codes "async") no_row_async word c x.0 stmt x.1) in
    (x.0, choice ∙ bind_is (statement_at word c) (body_in number None) (stmt, x.0) x.1, x.2)

cond_words_complete : (number : ℕ) (prefix : Prefix) (stmt : Stmt) (words : List (List ℕ)) (faulty after : Bool) → binds stmt ≡ []
    → HasDeferreds stmt → Meets faulty (row stmt) words after
    → (left : Cursor) × ((word_from words faulty >>= worded number prefix) ≡ Ok (body_of number (Some prefix) stmt, left)) × (left.faulty ≡ after)
cond_words_complete number prefix stmt [] faulty after none has m = absurd (no_words stmt faulty after m)
cond_words_complete number prefix stmt (word ∷ words) faulty after none has m =
    let x = statement_complete stmt word (record { words = words; faulty = faulty }) after has m in
    let zero_bound : (length (binds stmt) == 0) ≡ true = ap (λ (xs : List Param). length xs == 0) none in (
      x.0,
      bind_is (statement_at word (record { words = words; faulty = faulty })) (bound_in number prefix) (stmt, x.0) x.1
          ∙ if_so (length (binds stmt) == 0) (body_in number (Some prefix) (stmt, x.0)) (Err bad) zero_bound,
      x.2,
    )

cond_complete : (number : ℕ) (prefix : Prefix) (stmt : Stmt) (c : Cursor) (after : Bool) → binds stmt ≡ [] → HasDeferreds stmt
    → Meets c.faulty (row stmt) c.words after
    → (left : Cursor) × (conditional_at number prefix c ≡ Ok (body_of number (Some prefix) stmt, left)) × (left.faulty ≡ after)
unfolding conditional_at word_at
cond_complete number prefix stmt c after none has m = cond_words_complete number prefix stmt c.words c.faulty after none has m

if_complete : (number : ℕ) (a : Atom) (stmt : Stmt) (c : Cursor) (after : Bool) → binds stmt ≡ [] → HasDeferreds stmt
    → Meets c.faulty (Valued a ∷ row stmt) c.words after
    → (left : Cursor) × (if_at number c ≡ Ok (body_of number (Some (If a)) stmt, left)) × (left.faulty ≡ after)
unfolding if_at
if_complete number a stmt c after none has m =
    let rest : Atom × Cursor → Result (Form × Cursor) Bad = λ v. conditional_at number (If v.0) v.1 in
    let x = atom_part.complete c a (row stmt) after tt m in
    let y = cond_complete number (If a) stmt x.0 after none has x.2 in
    (y.0, bind_is (atom_at c) rest (a, x.0) x.1 ∙ y.1, y.2)

unless_complete : (number : ℕ) (a : Atom) (stmt : Stmt) (c : Cursor) (after : Bool) → binds stmt ≡ [] → HasDeferreds stmt
    → Meets c.faulty (Valued a ∷ row stmt) c.words after
    → (left : Cursor) × (unless_at number c ≡ Ok (body_of number (Some (Unless a)) stmt, left)) × (left.faulty ≡ after)
unfolding unless_at
unless_complete number a stmt c after none has m =
    let rest : Atom × Cursor → Result (Form × Cursor) Bad = λ v. conditional_at number (Unless v.0) v.1 in
    let x = atom_part.complete c a (row stmt) after tt m in
    let y = cond_complete number (Unless a) stmt x.0 after none has x.2 in
    (y.0, bind_is (atom_at c) rest (a, x.0) x.1 ∙ y.1, y.2)

body_complete : (number : ℕ) (prefix : Option Prefix) (stmt : Stmt) (word : List ℕ) (c : Cursor) (after : Bool) → MayHavePrefix prefix stmt → HasDeferreds stmt
    → Meets c.faulty (prefix_places prefix ++ row stmt) (word ∷ c.words) after → Completes number word c (body_of number prefix stmt) after
unfolding form_from
body_complete number None stmt word c after may has m = plain_complete number stmt word c after has m
body_complete number (Some (If a)) stmt word c after may has (inr m) = absurd m.0
body_complete number (Some (If a)) stmt word c after may has (inl m) = let x =
    if_complete number a stmt c after may has m.1 in (x.0, ap (λ (w : List ℕ). form_from number w c) m.0 ∙ x.1, x.2)
body_complete number (Some (Unless a)) stmt word c after may has (inr m) = absurd m.0
body_complete number (Some (Unless a)) stmt word c after may has (inl m) = let x =
    unless_complete number a stmt c after may has m.1 in (x.0, ap (λ (w : List ℕ). form_from number w c) m.0 ∙ x.1, x.2)

pub form_complete : (number : ℕ) (f : Form) (word : List ℕ) (c : Cursor) (after : Bool) → IsShaped f → HasNumber f number
    → Meets c.faulty (places f) (word ∷ c.words) after → Completes number word c f after
unfolding form_from head_at async_at end_form_at
form_complete number (Head name line params) word c after shaped is (inr m) = absurd m.0
form_complete number (Head name line params) word c after shaped is (inl m) =
    let p = both_last name_part params_last in
    let x = p.complete c (name, params) after (tt, tt) m.1 in
    let made : List ℕ × List Param → Form = λ t. Head t.0 number t.1 in (
      x.0,
      ap (λ (w : List ℕ). form_from number w c) m.0 ∙ bind_is (both name_at params_at c) (image made) ((name, params), x.0) x.1
          ∙ ap (λ (n : ℕ). good_pair (Head name n params) x.0) (sym is),
      x.2,
    )
form_complete number Async word c after shaped is (inr m) = absurd m.0
form_complete number Async word c after shaped is (inl m) =
    let p = both_last (exactly_part (codes "2")) end_last in
    let x = p.complete c (tt, tt) after (tt, tt) m.1 in
    let made : Unit {0} × Unit {0} → Form = λ t. Async in
    (x.0, ap (λ (w : List ℕ). form_from number w c) m.0 ∙ bind_is (both (exactly_at (codes "2")) end_at c) (image made) ((tt, tt), x.0) x.1, x.2)
form_complete number End word c after shaped is (inr m) = absurd m.0
form_complete number End word c after shaped is (inl m) =
    let x = end_last.complete c tt after tt m.1 in
    let made : Unit {0} → Form = λ t. End in
    (x.0, ap (λ (w : List ℕ). form_from number w c) m.0 ∙ bind_is (end_at c) (image made) (tt, x.0) x.1, x.2)
form_complete number (Body statement) word c after shaped is m =
    let x = body_complete number statement.prefix statement.stmt word c after shaped.0 shaped.1 m in
    (x.0, x.1 ∙ ap (λ (n : ℕ). good_pair (body_of n statement.prefix statement.stmt) x.0) (sym is), x.2)
