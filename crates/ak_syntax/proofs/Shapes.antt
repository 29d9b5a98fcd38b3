-- The lists of a line, the last words of rows, and whole rows, both ways.
use Rattle.std.proofs.Common.{◌≡◌, ℕ, ◌≤◌, Bool, true, false, ◌||◌, ◌⊎◌, inl, inr, Option, Some, None, Result, Ok, Err, List, [], ◌∷◌, ◌++◌, length, map, refl, sym, ap, ◌∙◌, subst}
use Rattle.std.proofs.lemmas.Slice.Eq.{bytes_eq-Decides}
use Rattle.std.specs.Prelude.{codes}
use Rattle.std.specs.List.{flat_map, find}
use Rattle.std.specs.Str.{bytes_eq}
use Rattle.ak_script.specs.declared.script.Param.{Param}
use Rattle.ak_script.specs.declared.statement.Atom.{Atom}
use Rattle.ak_script.specs.declared.statement.Atom.TheVariants.{Literal, Local}
use Rattle.ak_script.specs.declared.statement.Choice.{Choice}
use Rattle.ak_script.specs.declared.statement.GuardMode.{GuardMode}
use Rattle.ak_script.specs.declared.statement.GuardMode.TheVariants as guard
use Rattle.ak_script.specs.declared.statement.Stmt.{Stmt}
use Rattle.ak_script.specs.declared.statement.WorkWord.{WorkWord}
use Rattle.ak_syntax.specs.declared.cursor.Cursor.{Cursor}
use Rattle.ak_syntax.specs.declared.cursor.Until.TheVariants.{LineEnd, Then, With, Else}
use Rattle.ak_syntax.specs.Names.{is_name, is_number_word, work_word}
use Rattle.ak_syntax.specs.Table.{Place, Exactly, Named, Valued, Typed, Stands, row, choice_places, mode_places, HasDeferreds}
use Rattle.ak_syntax.specs.Words.{Bad, bad, ◌>>=◌, Part, mapped, name_found, atom_found, param_found, plain, args_at, raise_at, guard_args_from, guard_args_at, names_at, params_at, some_names_at, choices_from, some_choices_at, ends_list}
use Rattle.ak_syntax.specs.Rows.{row_or, statement_at, one_name_at, one_atom_at, name_atom_at, two_names_at, work_atom_at, call_at, two_calls_at, guarded_calls_at}
use Rattle.ak_syntax.proofs.Found.{ok_pair, bind_ok, bind_is, if_not, if_so, chosen, good_pair}
use Rattle.ak_syntax.proofs.Meets.{Meets, Case, step, unstep}
use Rattle.ak_syntax.proofs.Items.{table_found, is_number, exactly_part, name_plain, name_part, atom_item, atom_part, work_part, param_plain}
use Rattle.ak_syntax.proofs.Parts.{IsPart, IsLast, Always, both_last, mapped_last, end_last, list_last, list_part, plain_item, filled_part, filled_last, image}

-- ---- lists
pub args_last : IsLast (Always {T = List Atom}) (λ (xs : List Atom). map Valued xs) (args_at LineEnd)
args_last = list_last Valued atom_found atom_item

pub params_last : IsLast (Always {T = List Param}) (λ (xs : List Param). map Typed xs) params_at
params_last = list_last Typed (plain param_found) (plain_item Typed param_found param_plain)

pub names_last : IsLast (Always {T = List (List ℕ)}) (λ (xs : List (List ℕ)). map Named xs) (names_at LineEnd)
names_last = list_last Named (plain name_found) (plain_item Named name_found name_plain)

pub some_names_last : IsLast (λ (xs : List (List ℕ)). 1 ≤ length xs) (λ (xs : List (List ℕ)). map Named xs) (some_names_at LineEnd)
some_names_last = filled_last names_last

-- no reserved word is a name, and none is a number
not_name : (word stop : List ℕ) → is_name word ≡ true → is_name stop ≡ false → bytes_eq word stop ≡ false
not_name word stop h none = of (bytes_eq word stop) refl
  where
    of : (b : Bool) → bytes_eq word stop ≡ b → bytes_eq word stop ≡ false
    of true e = let same : word ≡ stop = (bytes_eq-Decides word stop).0 e in let wrong : true ≡ false = sym h ∙ ap is_name same ∙ none in cc
    of false e = e

not_number : (word stop : List ℕ) → is_number_word word ≡ true → is_number_word stop ≡ false → bytes_eq word stop ≡ false
not_number word stop h none = of (bytes_eq word stop) refl
  where
    of : (b : Bool) → bytes_eq word stop ≡ b → bytes_eq word stop ≡ false
    of true e = let same : word ≡ stop = (bytes_eq-Decides word stop).0 e in let wrong : true ≡ false = sym h ∙ ap is_number_word same ∙ none in cc
    of false e = e

named_is : (word name : List ℕ) → Stands (Named name) word → is_name word ≡ true
named_is word name h = subst (λ (w : List ℕ). is_name w ≡ true) (sym h.0) h.1

atom_other : (stop : List ℕ) → is_name stop ≡ false → is_number_word stop ≡ false → (word : List ℕ) (a : Atom) (b : Bool)
    → Case b (Valued a) word → bytes_eq word stop ≡ false
atom_other stop name number word (Literal n) false h = not_number word stop (is_number word n h.1) number
atom_other stop name number word (Literal n) true h = not_number word stop h.0.0 number
atom_other stop name number word (Local n) false h = not_name word stop (named_is word n h) name
atom_other stop name number word (Local n) true h = absurd h.0

name_other : (stop : List ℕ) → is_name stop ≡ false → (word name : List ℕ) (b : Bool) → Case b (Named name) word → bytes_eq word stop ≡ false
name_other stop none word name false h = not_name word stop (named_is word name h) none
name_other stop none word name true h = absurd h.0

pub else_part : IsPart (Always {T = List Atom}) (λ (xs : List Atom) (places : List Place). map Valued xs ++ Exactly (codes "else") ∷ places) (args_at Else)
else_part = list_part Valued atom_found Else (codes "else") atom_item
    (record { inside = refl; found = λ word e. (bytes_eq-Decides word (codes "else")).0 e; there = refl; other = atom_other (codes "else") refl refl })

pub then_part : IsPart (λ (xs : List (List ℕ)). 1 ≤ length xs) (λ (xs : List (List ℕ)) (places : List Place). map Named xs
    ++ Exactly (codes "then") ∷ places) (some_names_at Then)
then_part = filled_part (list_part Named (plain name_found) Then (codes "then") (plain_item Named name_found name_plain)
    (record { inside = refl; found = λ word e. (bytes_eq-Decides word (codes "then")).0 e; there = refl; other = name_other (codes "then") refl }))

-- ---- deferreds of a `choose`
abbrev choices_shape : List Choice → List Place → List Place
choices_shape choices places = flat_map choice_places choices ++ Exactly (codes "with") ∷ places

abbrev choice_in : List ℕ → List ℕ → List Choice × Cursor → Result (List Choice × Cursor) Bad
choice_in d proc rest = Ok (record { d = d; proc = proc } ∷ rest.0, rest.1)

abbrev choice_second : List ℕ → List (List ℕ) → Bool → List ℕ → Result (List Choice × Cursor) Bad
choice_second d words faulty proc = choices_from words faulty >>= choice_in d proc

abbrev choice_first : List ℕ → List (List ℕ) → Bool → List ℕ → Result (List Choice × Cursor) Bad
choice_first next words faulty d = name_found next >>= choice_second d words faulty

alone : (word : List ℕ) (faulty : Bool) (left : Cursor) (xs : List Choice) (places : List Place) (after : Bool) → Meets left.faulty places left.words after
    → ((ends_list With word ≡ true) × (good_pair [] (record { words = []; faulty = faulty }) ≡ good_pair xs left))
    ⊎ ((ends_list With word ≡ false) × (Err bad ≡ good_pair xs left))
    → Meets faulty (choices_shape xs places) (word ∷ []) after
alone word faulty left xs places after m (inl e) =
    let same = ok_pair e.1 in
    subst (λ (ys : List Choice). Meets faulty (choices_shape ys places) (word ∷ []) after) same.0
    (inl ((bytes_eq-Decides word (codes "with")).0 e.0, subst (λ (l : Cursor). Meets l.faulty places l.words after) (sym same.1) m))
alone word faulty left xs places after m (inr e) = let wrong : Err bad ≡ good_pair xs left = e.1 in absurd cc

one_choice : (word next : List ℕ) (words : List (List ℕ)) (faulty : Bool) (left : Cursor) (xs : List Choice) (places : List Place)
    (after : Bool) → Meets left.faulty places left.words after
    → ((read : List Choice × Cursor) → choices_from words faulty ≡ Ok (read.0, read.1) → (ps : List Place) (a : Bool)
    → Meets read.1.faulty ps read.1.words a → Meets faulty (choices_shape read.0 ps) words a)
    → ((ends_list With word ≡ true) × (good_pair [] (record { words = next ∷ words; faulty = faulty }) ≡ good_pair xs left))
    ⊎ ((ends_list With word ≡ false) × ((name_found word >>= choice_first next words faulty) ≡ good_pair xs left))
    → Meets faulty (choices_shape xs places) (word ∷ next ∷ words) after
one_choice word next words faulty left xs places after m rest (inl e) =
    let same = ok_pair e.1 in
    subst (λ (ys : List Choice). Meets faulty (choices_shape ys places) (word ∷ next ∷ words) after) same.0
    (inl ((bytes_eq-Decides word (codes "with")).0 e.0, subst (λ (l : Cursor). Meets l.faulty places l.words after) (sym same.1) m))
one_choice word next words faulty left xs places after m rest (inr e) =
    let x = bind_ok (name_found word) (choice_first next words faulty) (xs, left) e.1 in
    let y = bind_ok (name_found next) (choice_second x.0 words faulty) (xs, left) x.2 in
    let z = bind_ok (choices_from words faulty) (choice_in x.0 y.0) (xs, left) y.2 in
    let same = ok_pair z.2 in
    let more : Meets faulty (choices_shape z.0.0 places) words after =
    rest z.0 z.1 places after (subst (λ (l : Cursor). Meets l.faulty places l.words after) (sym same.1) m) in
    subst (λ (ys : List Choice). Meets faulty (choices_shape ys places) (word ∷ next ∷ words) after) same.0
    (inl (name_plain.sound word x.0 x.1, inl (name_plain.sound next y.0 y.1, more)))

choices_sound : (words : List (List ℕ)) (faulty : Bool) (left : Cursor) (xs : List Choice) → choices_from words faulty ≡ Ok (xs, left)
    → (places : List Place) (after : Bool) → Meets left.faulty places left.words after → Meets faulty (choices_shape xs places) words after
unfolding choices_from
choices_sound [] faulty left xs h places after m = cc
choices_sound (word ∷ []) faulty left xs h places after m =
    alone word faulty left xs places after m
    (chosen (ends_list With word) (good_pair [] (record { words = []; faulty = faulty })) (Err bad) (good_pair xs left) h)
choices_sound (word ∷ next ∷ words) faulty left xs h places after m =
    one_choice word next words faulty left xs places after m (λ read. choices_sound words faulty read.1 read.0)
    (chosen (ends_list With word) (good_pair [] (record { words = next ∷ words; faulty = faulty }))
    (name_found word >>= choice_first next words faulty) (good_pair xs left) h)

choices_complete : (words : List (List ℕ)) (faulty : Bool) (xs : List Choice) (places : List Place) (after : Bool)
    → Meets faulty (choices_shape xs places) words after → (left : Cursor) × (choices_from words faulty ≡ Ok (xs, left))
    × Meets left.faulty places left.words after
unfolding choices_from
choices_complete [] faulty [] places after m = absurd m
choices_complete [] faulty (x ∷ xs) places after m = absurd m
choices_complete (word ∷ []) faulty [] places after (inr m) = absurd m.0
choices_complete (word ∷ []) faulty [] places after (inl m) =
    let here : ends_list With word ≡ true = (bytes_eq-Decides word (codes "with")).1 m.0 in
    (record { words = []; faulty = faulty }, if_so (ends_list With word) (good_pair [] (record { words = []; faulty = faulty })) (Err bad) here, m.1)
choices_complete (word ∷ []) faulty (x ∷ xs) places after (inl m) = absurd m.1
choices_complete (word ∷ []) faulty (x ∷ xs) places after (inr m) = absurd m.0
choices_complete (word ∷ next ∷ words) faulty [] places after (inr m) = absurd m.0
choices_complete (word ∷ next ∷ words) faulty [] places after (inl m) =
    let here : ends_list With word ≡ true = (bytes_eq-Decides word (codes "with")).1 m.0 in (
      record { words = next ∷ words; faulty = faulty },
      if_so (ends_list With word)
          (good_pair [] (record { words = next ∷ words; faulty = faulty })) (name_found word >>= choice_first next words faulty) here,
      m.1,
    )
choices_complete (word ∷ next ∷ words) faulty (x ∷ xs) places after (inr m) = absurd m.0
choices_complete (word ∷ next ∷ words) faulty (x ∷ xs) places after (inl (d, inr m)) = absurd m.0
choices_complete (word ∷ next ∷ words) faulty (x ∷ xs) places after (inl (d, inl m)) =
    let r = choices_complete words faulty xs places after m.1 in (
      r.0,
      if_not (ends_list With word) (good_pair [] (record { words = next ∷ words; faulty = faulty }))
          (name_found word >>= choice_first next words faulty) (name_other (codes "with") refl word x.d false d)
          ∙ bind_is (name_found word) (choice_first next words faulty) x.d (name_plain.complete word x.d d)
          ∙ bind_is (name_found next) (choice_second x.d words faulty) x.proc (name_plain.complete next x.proc m.0)
          ∙ bind_is (choices_from words faulty) (choice_in x.d x.proc) (xs, r.0) r.1,
      r.2,
    )

pub choices_part : IsPart (λ (xs : List Choice). 1 ≤ length xs) choices_shape some_choices_at
choices_part = filled_part (record {
  sound = λ c left t h. (tt, λ places after m. choices_sound c.words c.faulty left t h places after m);
  complete = λ c t places after g m. choices_complete c.words c.faulty t places after m;
})

-- ---- the last words of rows
abbrev trivial : {T : Type 0} {good : T → Type 0} {shape : T → List Place} {part : Part T} → IsLast good shape part → ((t : T) → good t)
    → IsLast (Always {T = T}) shape part
trivial {T} {good} {shape} {part} p all = record {
  sound = λ c left t h. (tt, (p.sound c left t h).1);
  complete =
      λ c t after g m. p.complete c t after (all t) m;
}

pub one_name_last : IsLast (Always {T = List ℕ}) (λ (n : List ℕ). Named n ∷ []) one_name_at
unfolding one_name_at
one_name_last = trivial (mapped_last (λ t. t.0) (λ n. (n, tt)) (λ t. refl) (λ n. refl) (both_last name_part end_last)) (λ t. (tt, tt))

pub one_atom_last : IsLast (Always {T = Atom}) (λ (a : Atom). Valued a ∷ []) one_atom_at
unfolding one_atom_at
one_atom_last = trivial (mapped_last (λ t. t.0) (λ n. (n, tt)) (λ t. refl) (λ n. refl) (both_last atom_part end_last)) (λ t. (tt, tt))

pub name_atom_last : IsLast (Always {T = List ℕ × Atom}) (λ (t : List ℕ × Atom). Named t.0 ∷ Valued t.1 ∷ []) name_atom_at
unfolding name_atom_at
name_atom_last = trivial
    (mapped_last (λ t. (t.0, t.1.0)) (λ n. (n.0, (n.1, tt))) (λ t. refl) (λ n. refl) (both_last name_part (both_last atom_part end_last)))
    (λ t. (tt, (tt, tt)))

pub two_names_last : IsLast (Always {T = List ℕ × List ℕ}) (λ (t : List ℕ × List ℕ). Named t.0 ∷ Named t.1 ∷ []) two_names_at
unfolding two_names_at
two_names_last = trivial
    (mapped_last (λ t. (t.0, t.1.0)) (λ n. (n.0, (n.1, tt))) (λ t. refl) (λ n. refl) (both_last name_part (both_last name_part end_last)))
    (λ t. (tt, (tt, tt)))

pub work_atom_last : IsLast (Always {T = WorkWord × Atom}) (λ (t : WorkWord × Atom). Exactly (work_word t.0) ∷ Valued t.1 ∷ []) work_atom_at
unfolding work_atom_at
work_atom_last = trivial
    (mapped_last (λ t. (t.0, t.1.0)) (λ n. (n.0, (n.1, tt))) (λ t. refl) (λ n. refl) (both_last work_part (both_last atom_part end_last)))
    (λ t. (tt, (tt, tt)))

pub call_last : IsLast (Always {T = List ℕ × List Atom}) (λ (t : List ℕ × List Atom). Named t.0 ∷ map Valued t.1) call_at
unfolding call_at
call_last = trivial (both_last name_part args_last) (λ t. (tt, tt))

abbrev two_calls_shape : List ℕ × List Atom × List ℕ × List Atom → List Place
two_calls_shape t = Named t.0 ∷ (map Valued t.1 ++ Exactly (codes "else") ∷ Named t.2 ∷ map Valued t.3)

pub two_calls_last : IsLast (Always {T = List ℕ × List Atom × List ℕ × List Atom}) two_calls_shape two_calls_at
unfolding two_calls_at
two_calls_last = trivial
    (mapped_last (λ t. (t.0, t.1.0, t.1.1.0, t.1.1.1)) (λ n. (n.0, (n.1, (n.2, n.3)))) (λ t. refl) (λ n. refl)
    (both_last name_part (both_last else_part (both_last name_part args_last)))) (λ t. (tt, (tt, (tt, tt))))

-- ---- the arguments of a guard
abbrev Guarded : Type 0
Guarded = List Atom × GuardMode

abbrev guarded_shape : Guarded → List Place
guarded_shape t = map Valued t.0 ++ mode_places t.1

raise_last : IsLast (Always {T = Unit {0}}) (λ (u : Unit {0}). Exactly (codes "raise") ∷ []) raise_at
unfolding raise_at
raise_last = trivial (mapped_last (λ t. tt) (λ u. (tt, tt)) (λ t. refl) (λ u. refl) (both_last (exactly_part (codes "raise")) end_last)) (λ t. (tt, tt))

abbrev raised : Unit {0} × Cursor → Result (Guarded × Cursor) Bad
raised u = Ok (([], guard.Raise), u.1)

abbrev one_arg : Atom → Guarded × Cursor → Result (Guarded × Cursor) Bad
one_arg a rest = Ok ((a ∷ rest.0.0, rest.0.1), rest.1)

abbrev other_args : List (List ℕ) → Bool → Atom × Bool → Result (Guarded × Cursor) Bad
other_args words faulty x = guard_args_from words (x.1 || faulty) >>= one_arg x.0

guarded_step : (word : List ℕ) (words : List (List ℕ)) (faulty : Bool) (left : Cursor) (t : Guarded)
    → ((next : Bool) (read : Guarded × Cursor) → guard_args_from words next ≡ Ok (read.0, read.1) → Meets next (guarded_shape read.0) words read.1.faulty)
    → ((bytes_eq word (codes "rest") ≡ true) × ((raise_at (record { words = words; faulty = faulty }) >>= raised) ≡ good_pair t left))
    ⊎ ((bytes_eq word (codes "rest") ≡ false) × ((atom_found word >>= other_args words faulty) ≡ good_pair t left))
    → Meets faulty (guarded_shape t) (word ∷ words) left.faulty
guarded_step word words faulty left t rest (inl e) =
    let x = bind_ok (raise_at (record { words = words; faulty = faulty })) raised (t, left) e.1 in
    let same = ok_pair x.2 in
    let r = raise_last.sound (record { words = words; faulty = faulty }) x.0.1 x.0.0 x.1 in
    let flag : Meets faulty (Exactly (codes "raise") ∷ []) words left.faulty =
    subst (λ (l : Cursor). Meets faulty (Exactly (codes "raise") ∷ []) words l.faulty) same.1 r.1 in
    subst (λ (u : Guarded). Meets faulty (guarded_shape u) (word ∷ words) left.faulty) same.0
    (inl ((bytes_eq-Decides word (codes "rest")).0 e.0, flag))
guarded_step word words faulty left t rest (inr e) =
    let y = bind_ok (atom_found word) (other_args words faulty) (t, left) e.1 in
    let z = bind_ok (guard_args_from words (y.0.1 || faulty)) (one_arg y.0.0) (t, left) y.2 in
    let same = ok_pair z.2 in
    let more : Meets (y.0.1 || faulty) (guarded_shape z.0.0) words left.faulty =
    subst (λ (l : Cursor). Meets (y.0.1 || faulty) (guarded_shape z.0.0) words l.faulty) same.1 (rest (y.0.1 || faulty) z.0 z.1) in
    subst (λ (u : Guarded). Meets faulty (guarded_shape u) (word ∷ words) left.faulty) same.0
    (step y.0.1 faulty (Valued y.0.0) word (guarded_shape z.0.0) words left.faulty (atom_item.sound word y.0.0 y.0.1 y.1) more)

guarded_sound : (words : List (List ℕ)) (faulty : Bool) (left : Cursor) (t : Guarded) → guard_args_from words faulty ≡ Ok (t, left)
    → Meets faulty (guarded_shape t) words left.faulty
unfolding guard_args_from
guarded_sound [] faulty left t h =
    let same = ok_pair h in
    subst (λ (u : Guarded). Meets faulty (guarded_shape u) [] left.faulty) same.0 (ap (λ (c : Cursor). c.faulty) (sym same.1))
guarded_sound (word ∷ words) faulty left t h =
    guarded_step word words faulty left t (λ next read. guarded_sound words next read.1 read.0)
    (chosen (bytes_eq word (codes "rest")) (raise_at (record { words = words; faulty = faulty }) >>= raised)
    (atom_found word >>= other_args words faulty) (good_pair t left) h)

guarded_complete : (words : List (List ℕ)) (faulty : Bool) (xs : List Atom) (mode : GuardMode) (after : Bool)
    → Meets faulty (map Valued xs ++ mode_places mode) words after
    → (left : Cursor) × (guard_args_from words faulty ≡ Ok ((xs, mode), left)) × (left.faulty ≡ after)
unfolding guard_args_from
guarded_complete [] faulty [] guard.Drop after m = (record { words = []; faulty = faulty }, refl, sym m)
guarded_complete [] faulty [] guard.Raise after m = absurd m
guarded_complete [] faulty (x ∷ xs) mode after m = absurd m
guarded_complete (word ∷ words) faulty [] guard.Drop after m = absurd m
guarded_complete (word ∷ words) faulty [] guard.Raise after (inr m) = absurd m.0
guarded_complete (word ∷ words) faulty [] guard.Raise after (inl m) =
    let c : Cursor = record { words = words; faulty = faulty } in
    let x = raise_last.complete (record { words = words; faulty = faulty }) tt after tt m.1 in (
      x.0,
      if_so (bytes_eq word (codes "rest")) (raise_at (record { words = words; faulty = faulty }) >>= raised) (atom_found word >>= other_args words faulty)
          ((bytes_eq-Decides word (codes "rest")).1 m.0)
          ∙ bind_is (raise_at (record { words = words; faulty = faulty })) raised (tt, x.0) x.1,
      x.2,
    )
guarded_complete (word ∷ words) faulty (x ∷ xs) mode after m =
    let s = unstep faulty (Valued x) word (map Valued xs ++ mode_places mode) words after m in
    let r = guarded_complete words (s.0 || faulty) xs mode after s.2 in (
      r.0,
      if_not (bytes_eq word (codes "rest")) (raise_at (record { words = words; faulty = faulty }) >>= raised) (atom_found word >>= other_args words faulty)
          (atom_other (codes "rest") refl refl word x s.0 s.1)
          ∙ bind_is (atom_found word) (other_args words faulty) (x, s.0) (atom_item.complete word x s.0 s.1)
          ∙ bind_is (guard_args_from words (s.0 || faulty)) (one_arg x) ((xs, mode), r.0) r.1,
      r.2,
    )

guard_args_last : IsLast (Always {T = Guarded}) guarded_shape guard_args_at
guard_args_last = record {
  sound = λ c left t h. (tt, guarded_sound c.words c.faulty left t h);
  complete = λ c t after g m. guarded_complete c.words c.faulty t.0 t.1 after m;
}

abbrev guarded_calls_shape : List ℕ × List Atom × List ℕ × List Atom × GuardMode → List Place
guarded_calls_shape t = Named t.0 ∷ (map Valued t.1 ++ Exactly (codes "else") ∷ Named t.2 ∷ (map Valued t.3 ++ mode_places t.4))

pub guarded_calls_last : IsLast (Always {T = List ℕ × List Atom × List ℕ × List Atom × GuardMode}) guarded_calls_shape guarded_calls_at
unfolding guarded_calls_at
guarded_calls_last =
    trivial (mapped_last (λ t. (t.0, t.1.0, t.1.1.0, t.1.1.1.0, t.1.1.1.1)) (λ n. (n.0, (n.1, (n.2, (n.3, n.4))))) (λ t. refl) (λ n. refl)
    (both_last name_part (both_last else_part (both_last name_part guard_args_last)))) (λ t. (tt, (tt, (tt, tt))))

-- ---- whole rows
-- the statement has the words: the first, and those that were taken
abbrev pub IsRowOf : List ℕ → Cursor → Stmt → Cursor → Type 0
IsRowOf word c s left = HasDeferreds s × Meets c.faulty (row s) (word ∷ c.words) left.faulty

pub row_sound : {A : Type 0} (f : A → Stmt) (word : List ℕ) {good : A → Type 0} {shape : A → List Place} {part : Part A} → IsLast good shape part
    → ((a : A) → row (f a) ≡ Exactly word ∷ shape a) → ((a : A) → good a → HasDeferreds (f a)) → (c left : Cursor) (s : Stmt)
    → mapped f part c ≡ Ok (s, left) → IsRowOf word c s left
row_sound {A} f word {good} {shape} {part} p is has c left s h =
    let x = bind_ok (part c) (image f) (s, left) h in
    let same = ok_pair x.2 in
    let r = p.sound c x.0.1 x.0.0 x.1 in
    let met : Meets c.faulty (row (f x.0.0)) (word ∷ c.words) x.0.1.faulty =
    subst (λ (ps : List Place). Meets c.faulty ps (word ∷ c.words) x.0.1.faulty) (sym (is x.0.0)) (inl (refl, r.1)) in
    let first : IsRowOf word c (f x.0.0) x.0.1 = (has x.0.0 r.0, met) in
    let second : IsRowOf word c s x.0.1 = subst (λ (v : Stmt). IsRowOf word c v x.0.1) same.0 first in
    subst (λ (l : Cursor). IsRowOf word c s l) same.1 second

pub row_complete : {A : Type 0} (f : A → Stmt) (word : List ℕ) {good : A → Type 0} {shape : A → List Place} {part : Part A} → IsLast good shape part
    → (t : A) (w : List ℕ) (c : Cursor) (after : Bool) → statement_at word c ≡ mapped f part c → good t
    → Meets c.faulty (Exactly word ∷ shape t) (w ∷ c.words) after
    → (left : Cursor) × (statement_at w c ≡ Ok (f t, left)) × (left.faulty ≡ after)
row_complete f word p t w c after is g (inr m) = absurd m.0
row_complete {A} f word {good} {shape} {part} p t w c after is g (inl m) =
    let x = p.complete c t after g m.1 in
    (x.0, ap (λ (v : List ℕ). statement_at v c) m.0 ∙ is ∙ bind_is (part c) (image f) (t, x.0) x.1, x.2)

-- no row
abbrev pub no_row : Part Stmt
no_row c = Err bad

pub no_row_found : (word : List ℕ) (c left : Cursor) (s : Stmt) → no_row c ≡ Ok (s, left) → IsRowOf word c s left
no_row_found word c left s h = let wrong : Err bad ≡ good_pair s left = h in absurd cc

pub row_or_sound : {K : Type 0} (f : K → List ℕ) (all : List K) (word : List ℕ) (by : K → Part Stmt) (other : Part Stmt) (c left : Cursor) (s : Stmt)
    → row_or (find (λ first. bytes_eq (f first) word) all) by other c ≡ Ok (s, left)
    → ((first : K) → by first c ≡ Ok (s, left) → IsRowOf (f first) c s left) → (other c ≡ Ok (s, left) → IsRowOf word c s left) → IsRowOf word c s left
row_or_sound {K} f all word by other c left s h one rest = of (find (λ first. bytes_eq (f first) word) all) refl h
  where
    of : (o : Option K) → find (λ first. bytes_eq (f first) word) all ≡ o → row_or o by other c ≡ Ok (s, left) → IsRowOf word c s left
    of (Some first) e h = subst (λ (w : List ℕ). IsRowOf w c s left) (sym (table_found f all word first e)) (one first h)
    of None e h = rest h

pub refl_at : {A : Type 0} (a : A) → a ≡ a
refl_at a = refl
