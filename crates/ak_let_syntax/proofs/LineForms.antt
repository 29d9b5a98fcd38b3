-- The forms of lines, both ways.
use Rattle.std.proofs.Common.{◌≡◌, ℕ, Bool, true, false, cond, inl, inr, ◌⊎◌, Option, Some, None, Result, Ok, Err, List, [], ◌∷◌, ◌++◌, refl, sym, ap, ◌∙◌, subst}
use Rattle.std.proofs.lemmas.Slice.Eq.{bytes_eq-Decides}
use Rattle.std.specs.Prelude.{codes}
use Rattle.std.specs.Str.{bytes_eq}
use Rattle.ak_script.specs.declared.statement.Atom.{Atom}
use Rattle.ak_syntax.specs.declared.cursor.Cursor.{Cursor}
use Rattle.ak_syntax.specs.declared.cursor.Until.TheVariants.{LineEnd}
use Rattle.ak_syntax.specs.Table.{Place, Exactly, Named, Valued}
use Rattle.ak_syntax.specs.Words.{Bad, bad, ◌>>=◌, Part, both, mapped, end_at, name_at, names_at}
use Rattle.ak_syntax.proofs.Found.{ok_pair, bind_ok, bind_is, passed, if_not, if_so, good_pair}
use Rattle.ak_syntax.proofs.Meets.{Meets}
use Rattle.ak_syntax.proofs.Items.{name_part}
use Rattle.ak_syntax.proofs.LineForms.{mapped_sound}
use Rattle.ak_syntax.proofs.Parts.{IsLast, both_last, end_last, image}
use Rattle.ak_syntax.proofs.Shapes.{names_last}
use Rattle.ak_let_syntax.specs.declared.named.NamedStmt.{NamedStmt}
use Rattle.ak_let_syntax.specs.declared.named.NamedStmt.TheVariants.{Let, Compute, Print, Raise, Return, Await, AwaitWork, Try}
use Rattle.ak_let_syntax.specs.declared.named.Form.{Form}
use Rattle.ak_let_syntax.specs.declared.named.Form.TheVariants.{Head, Body, End}
use Rattle.ak_let_syntax.specs.Faults.{rules}
use Rattle.ak_let_syntax.specs.Grammar.{HasNumber, names_work, places, row, when_places}
use Rattle.ak_let_syntax.specs.Lines.{action_from, any_form_from, body_from, end_form_at, form_from, head_at, stmt_from, taking}
use Rattle.ak_let_syntax.proofs.Shapes.{IsTaken, stmt_sound, stmt_taken}
use Rattle.ak_syntax.proofs.TakenLines.{Completes, IsFormOf}

-- the line of this number has the form, whatever its names
abbrev IsAnyOf : ℕ → List ℕ → Cursor → Form → Cursor → Type 0
IsAnyOf number word c f left = HasNumber f number × Meets c.faulty (places f) (word ∷ c.words) left.faulty

head_sound : (number : ℕ) (c left : Cursor) (f : Form) → head_at number c ≡ Ok (f, left) → IsAnyOf number (codes "fun") c f left
unfolding head_at
head_sound number c left f h =
    let x = mapped_sound (λ t. Head t.0 number t.1) (both_last name_part names_last) c left f h in
    subst (λ (g : Form). IsAnyOf number (codes "fun") c g left) x.1 (refl, inl (refl, x.3))

end_sound : (number : ℕ) (c left : Cursor) (f : Form) → end_form_at c ≡ Ok (f, left) → IsAnyOf number (codes "end") c f left
unfolding end_form_at
end_sound number c left f h =
    let x = mapped_sound (λ t. End) end_last c left f h in
    subst (λ (g : Form). IsAnyOf number (codes "end") c g left) x.1 (tt, inl (refl, x.3))

abbrev body_of : ℕ → NamedStmt → Form
body_of number s = Body (record { number = number; stmt = s })

body_sound : (number : ℕ) (word : List ℕ) (c left : Cursor) (f : Form) → body_from number word c ≡ Ok (f, left) → IsAnyOf number word c f left
unfolding body_from
body_sound number word c left f h =
    let x = bind_ok (stmt_from word c) (image (body_of number)) (f, left) h in
    let same = ok_pair x.2 in
    let met : Meets c.faulty (row x.0.0) (word ∷ c.words) left.faulty =
    subst (λ (l : Cursor). Meets c.faulty (row x.0.0) (word ∷ c.words) l.faulty) same.1 (stmt_sound word c x.0.1 x.0.0 x.1) in
    subst (λ (g : Form). IsAnyOf number word c g left) same.0 (refl, met)

any_sound : (number : ℕ) (word : List ℕ) (c left : Cursor) (f : Form) → any_form_from number word c ≡ Ok (f, left) → IsAnyOf number word c f left
unfolding any_form_from
any_sound number word c left f h = of (bytes_eq word (codes "fun")) refl (bytes_eq word (codes "end")) refl h
  where
    at : (key : List ℕ) → bytes_eq word key ≡ true → IsAnyOf number key c f left → IsAnyOf number word c f left
    at key e r = subst (λ (w : List ℕ). IsAnyOf number w c f left) (sym ((bytes_eq-Decides word key).0 e)) r

    of : (p : Bool) → bytes_eq word (codes "fun") ≡ p → (e : Bool) → bytes_eq word (codes "end") ≡ e
        → cond p (head_at number) (cond e end_form_at (body_from number word)) c ≡ Ok (f, left) → IsAnyOf number word c f left
    of true x e y h = at (codes "fun") x (head_sound number c left f h)
    of false x true y h = at (codes "end") y (end_sound number c left f h)
    of false x false y h = body_sound number word c left f h

abbrev named_well : Form × Cursor → Result (Form × Cursor) Bad
named_well f = cond (names_work f.0) (Err bad) (Ok f)

well_named : (f g : Form) (c left : Cursor) (b : Bool) → names_work g ≡ b → cond b (Err bad) (good_pair g c) ≡ Ok (f, left)
    → (names_work f ≡ false) × (good_pair g c ≡ good_pair f left)
well_named f g c left true e h = absurd cc
well_named f g c left false e h =
    (subst (λ (x : Form). names_work x ≡ false) (ok_pair h).0 e, h)

pub form_sound : (number : ℕ) (word : List ℕ) (c left : Cursor) (f : Form) → form_from number word c ≡ Ok (f, left) → IsFormOf rules number word c f left
unfolding form_from
form_sound number word c left f h =
    let x = bind_ok (any_form_from number word c) named_well (f, left) h in
    let y = well_named f x.0.0 x.0.1 left (names_work x.0.0) refl x.2 in
    let a = any_sound number word c left f (x.1 ∙ y.1) in
    (y.0, a.0, a.1)

-- ---- the words of a form are taken
-- no form is without words
pub no_form_words : (f : Form) (before after : Bool) → Meets before (places f) [] after → ⊥
no_form_words (Head name number params) before after m = m
no_form_words End before after m = m
no_form_words (Body line) before after m = of line.stmt m
  where
    acts : (when : Option Atom) (word : List ℕ) (a : Atom) → Meets before (when_places when ++ Exactly word ∷ Valued a ∷ []) [] after → ⊥
    acts None word a m = m
    acts (Some b) word a m = m

    of : (s : NamedStmt) → Meets before (row s) [] after → ⊥
    of (Let x a) m = m
    of (Compute x a op b) m = m
    of (Print when a) m = acts when (codes "print") a m
    of (Raise when a) m = acts when (codes "raise") a m
    of (Return when a) m = acts when (codes "return") a m
    of (Await x f args) m = m
    of (AwaitWork x kind a) m = m
    of (Try x f args g) m = m

abbrev AnyCompletes : ℕ → List ℕ → Cursor → Form → Bool → Type 0
AnyCompletes number word c f after = (left : Cursor) × (any_form_from number word c ≡ Ok (f, left)) × (left.faulty ≡ after)

-- no line of a function begins with the word
abbrev NoStmt : List ℕ → Type 0
NoStmt key = (c : Cursor) → stmt_from key c ≡ Err bad

no_stmt_of : (key : List ℕ) → NoStmt key → (word : List ℕ) (c left : Cursor) (s : NamedStmt) → stmt_from word c ≡ Ok (s, left)
    → bytes_eq word key ≡ false
no_stmt_of key none word c left s h = of (bytes_eq word key) refl
  where
    of : (b : Bool) → bytes_eq word key ≡ b → bytes_eq word key ≡ false
    of false e = e
    of true e = let same : word ≡ key = (bytes_eq-Decides word key).0 e in
        let wrong : Err bad ≡ good_pair s left = sym (none c) ∙ ap (λ (w : List ℕ). stmt_from w c) (sym same) ∙ h in absurd cc

no_stmt_fun : NoStmt (codes "fun")
unfolding stmt_from action_from
no_stmt_fun c = refl

no_stmt_end : NoStmt (codes "end")
unfolding stmt_from action_from
no_stmt_end c = refl

body_choice : (number : ℕ) (word : List ℕ) (c : Cursor) → bytes_eq word (codes "fun") ≡ false → bytes_eq word (codes "end") ≡ false
    → any_form_from number word c ≡ body_from number word c
unfolding any_form_from
body_choice number word c h e = rw (h, e) refl

any_complete : (number : ℕ) (f : Form) (word : List ℕ) (c : Cursor) (after : Bool) → names_work f ≡ false → HasNumber f number
    → Meets c.faulty (places f) (word ∷ c.words) after → AnyCompletes number word c f after
unfolding any_form_from head_at end_form_at body_from
any_complete number (Head name at params) word c after names is (inr m) = absurd m.0
any_complete number (Head name at params) word c after names is (inl m) =
    let x = (both_last name_part names_last).complete c (name, params) after (tt, tt) m.1 in
    let made : List ℕ × List (List ℕ) → Form = λ t. Head t.0 number t.1 in (
      x.0,
      ap (λ (w : List ℕ). any_form_from number w c) m.0 ∙ bind_is (both name_at (names_at LineEnd) c) (image made) ((name, params), x.0) x.1
          ∙ ap (λ (n : ℕ). good_pair (Head name n params) x.0) (sym is),
      x.2,
    )
any_complete number End word c after names is (inr m) = absurd m.0
any_complete number End word c after names is (inl m) =
    let x = end_last.complete c tt after tt m.1 in
    let made : Unit {0} → Form = λ t. End in
    (x.0, ap (λ (w : List ℕ). any_form_from number w c) m.0 ∙ bind_is (end_at c) (image made) (tt, x.0) x.1, x.2)
any_complete number (Body line) word c after names is m =
    let x = stmt_taken line.stmt word c after names m in (
      x.0,
      body_choice number word c (no_stmt_of (codes "fun") no_stmt_fun word c x.0 line.stmt x.1)
          (no_stmt_of (codes "end") no_stmt_end word c x.0 line.stmt x.1)
          ∙ bind_is (stmt_from word c) (image (body_of number)) (line.stmt, x.0) x.1 ∙ ap (λ (n : ℕ). good_pair (body_of n line.stmt) x.0) (sym is),
      x.2,
    )

pub form_complete : (number : ℕ) (f : Form) (word : List ℕ) (c : Cursor) (after : Bool) → names_work f ≡ false → HasNumber f number
    → Meets c.faulty (places f) (word ∷ c.words) after → Completes taking number word c f after
unfolding form_from
form_complete number f word c after names is m =
    let x = any_complete number f word c after names is m in
    (x.0, bind_is (any_form_from number word c) named_well (f, x.0) x.1 ∙ if_not (names_work f) (Err bad) (good_pair f x.0) names, x.2)
