-- The first lines of a source: what becomes of them with one line more, and that they are read so.
use Rattle.std.proofs.Common.{◌≡◌, ℕ, ◌+◌, ◌<◌, ◌≤◌, Bool, true, false, ◌||◌, cond, inl, inr, nat_le, nat_lt, Option, Some, None, Result, Ok, Err, List, [], ◌∷◌, ◌++◌, length, map, flat_map, refl, sym, ap, ◌∙◌, subst, arith, append_assoc, length-append}
use Rattle.std.proofs.lemmas.List.{append-nil, map-append}
use Rattle.std.specs.List.{AllZip, AllByRecursion}
use Rattle.ak_base.proofs.Lists.{all_push, all_front, all_between}
use Rattle.ak_text.specs.Lines.{TextLine}
use Rattle.ak_syntax.specs.Table.{Named}
use Rattle.ak_syntax.specs.Rules.{IsFaulty, SomeZip}
use Rattle.ak_syntax.proofs.Walks.{flat_append, zip_push}
use Rattle.ak_let_syntax.specs.declared.named.NamedLine.{NamedLine}
use Rattle.ak_let_syntax.specs.declared.named.NamedFun.{NamedFun}
use Rattle.ak_let_syntax.specs.declared.named.Form.{Form}
use Rattle.ak_let_syntax.specs.declared.named.Form.TheVariants.{Head, Body, End}
use Rattle.ak_let_syntax.specs.declared.refusal.LetFault.{LetFault}
use Rattle.ak_let_syntax.specs.declared.refusal.LetFault.TheVariants.{BadLine, TooMany, BadNumber}
use Rattle.ak_let_syntax.specs.Faults.{Front, IsFront, Exceeds, MayFollow, all_funs, begun_forms, begun_funs, rules}
use Rattle.ak_let_syntax.specs.Grammar.{IsLine, IsWithin, binds, forms, locals, places}
use Rattle.ak_let_syntax.specs.Lines.{added, form_added, begun_line, grown, head_added, no_lines, taking}
use Rattle.ak_let_syntax.proofs.LineForms.{form_complete, form_sound, no_form_words}
use Rattle.ak_syntax.proofs.TakenLines.{IsRightLine, Outcome, misplaced, over, wrong, right, Takes, quiet_of, right_taken}
use Rattle.ak_syntax.proofs.TakenTexts.{IsRead, walk, walk_step}

-- ---- what becomes of a form
abbrev begun_grown : Option NamedFun → NamedLine → Option NamedFun
begun_grown None line = None
begun_grown (Some fun) line = Some (grown fun line)

abbrev pub front_with : Front → Form → Front
front_with front (Head name number params) =
    record front { begun = Some (record { name = name; number = number; params = params; lines = [] }) }
front_with front (Body line) = record front { begun = begun_grown front.begun line }
front_with front End = record { funs = all_funs front; begun = None }

-- no number stands in the first line of a function, nor in its last
names_quiet : (names words : List (List ℕ)) → SomeZip IsFaulty (map Named names) words → ⊥
names_quiet [] words h = h
names_quiet (n ∷ names) [] h = h
names_quiet (n ∷ names) (w ∷ words) (inl h) = h
names_quiet (n ∷ names) (w ∷ words) (inr h) = names_quiet names words h

head_loud : (name : List ℕ) (number : ℕ) (params words : List (List ℕ)) → SomeZip IsFaulty (places (Head name number params)) words → ⊥
head_loud name number params [] h = h
head_loud name number params (w ∷ words) (inl h) = h
head_loud name number params (w ∷ words) (inr h) = names_quiet (name ∷ params) words h

end_loud : (words : List (List ℕ)) → SomeZip IsFaulty (places End) words → ⊥
end_loud [] h = h
end_loud (w ∷ words) (inl h) = h
end_loud (w ∷ words) (inr h) = h

-- the functions, and none that has begun
abbrev front_of : List NamedFun → Front
front_of funs = record { funs = funs; begun = None }

abbrev front_in : List NamedFun → NamedFun → Front
front_in funs fun = record { funs = funs; begun = Some fun }

abbrev empty : List ℕ → ℕ → List (List ℕ) → NamedFun
empty name number params = record { name = name; number = number; params = params; lines = [] }

abbrev Comes : Front → Form → Bool → Result Front LetFault → Type 0
Comes front f faulty x = Outcome rules front_with front f faulty x

head_outcome : (funs : List NamedFun) (name : List ℕ) (number : ℕ) (params : List (List ℕ)) (faulty : Bool)
    → Comes (front_of funs) (Head name number params) faulty (head_added (front_of funs) (empty name number params))
head_outcome funs name number params faulty = of (nat_lt 7 (length params)) refl (nat_le 128 (length funs)) refl
  where
    of : (a : Bool) → nat_lt 7 (length params) ≡ a → (b : Bool) → nat_le 128 (length funs) ≡ b
        → Comes (front_of funs) (Head name number params) faulty
        (cond (a || b) (Err TooMany) (Ok (front_in funs (empty name number params))))
    of true e b k = over tt (inl (grind arith)) refl
    of false e true k = over tt (inr (grind arith)) refl
    of false e false k =
        right tt (λ x. elim x [ inl h ↦ absurd (grind arith) | inr h ↦ absurd (grind arith) ])
        (quiet_of (places (Head name number params)) (head_loud name number params) faulty) refl

line_outcome : (funs : List NamedFun) (fun : NamedFun) (line : NamedLine) (faulty : Bool)
    → Comes (front_in funs fun) (Body line) faulty (begun_line (Some fun) (front_in funs fun) line faulty)
line_outcome funs fun line faulty =
    of (nat_le 15 (length fun.lines)) refl (nat_lt 7 (length (locals fun) + length (binds line.stmt))) refl faulty
  where
    of : (a : Bool) → nat_le 15 (length fun.lines) ≡ a → (b : Bool) → nat_lt 7 (length (locals fun) + length (binds line.stmt)) ≡ b
        → (faulty : Bool) → Comes (front_in funs fun) (Body line) faulty
        (cond (a || b) (Err TooMany) (cond faulty (Err BadNumber) (Ok (front_in funs (grown fun line)))))
    of true e b k faulty = over tt (inl (grind arith)) refl
    of false e true k faulty = over tt (inr (grind arith)) refl
    of false e false k true = wrong tt (λ x. elim x [ inl h ↦ absurd (grind arith) | inr h ↦ absurd (grind arith) ]) refl refl
    of false e false k false =
        right tt (λ x. elim x [ inl h ↦ absurd (grind arith) | inr h ↦ absurd (grind arith) ]) (λ words m. refl) refl

outcome_of : (funs : List NamedFun) (begun : Option NamedFun) (f : Form) (faulty : Bool)
    → Comes (record { funs = funs; begun = begun }) f faulty (form_added (record { funs = funs; begun = begun }) f faulty)
outcome_of funs None (Head name number params) faulty = head_outcome funs name number params faulty
outcome_of funs None (Body line) faulty = misplaced (λ h. h) refl
outcome_of funs None End faulty = misplaced (λ h. h) refl
outcome_of funs (Some fun) (Head name number params) faulty = misplaced (λ h. h) refl
outcome_of funs (Some fun) (Body line) faulty = line_outcome funs fun line faulty
outcome_of funs (Some fun) End faulty = right tt (λ h. h) (quiet_of (places End) end_loud faulty) refl

outcome : (front : Front) (f : Form) (faulty : Bool) → Comes front f faulty (added front f faulty)
unfolding added
outcome front f faulty = outcome_of front.funs front.begun f faulty

pub takes : Takes rules taking front_with
takes = record { bad = refl; sound = form_sound; complete = form_complete; wordless = no_form_words; outcome = outcome }

-- ---- a right line behind right ones
forms_append : (xs ys : List NamedFun) → forms (xs ++ ys) ≡ forms xs ++ forms ys
forms_append [] ys = refl
forms_append (x ∷ xs) ys =
    ap (λ (rest : List Form). Head x.name x.number x.params ∷ rest)
    (ap (λ (rest : List Form). map Body x.lines ++ End ∷ rest) (forms_append xs ys) ∙ sym (append_assoc (map Body x.lines) (End ∷ forms xs) (forms ys)))

pushed : (fs gs : List Form) (before : List TextLine) (f : Form) (line : TextLine) → AllZip IsLine fs before → IsLine f line → fs ++ f ∷ [] ≡ gs
    → AllZip IsLine gs (before ++ line ∷ [])
pushed fs gs before f line h is e =
    subst (λ (all : List Form). AllZip IsLine all (before ++ line ∷ [])) e (zip_push IsLine fs before f line h is)

not_over : (limit n : ℕ) → (limit < n → ⊥) → n ≤ limit
not_over limit n h = grind arith

head_front : (funs : List NamedFun) (name : List ℕ) (number : ℕ) (params : List (List ℕ)) (before : List TextLine) (line : TextLine)
    → IsFront (front_of funs) before → IsLine (Head name number params) line → (Exceeds (front_of funs) (Head name number params) → ⊥)
    → IsFront (front_in funs (empty name number params)) (before ++ line ∷ [])
head_front funs name number params before line h is few =
    let short : length params ≤ 7 = not_over 7 (length params) (λ e. few (inl e)) in
    let room : length funs + 1 ≤ 128 = not_over 128 (length funs + 1) (λ e. few (inr e)) in
    let within : IsWithin (empty name number params) =
    record { lines = omega arith; locals = rw (append-nil params) (omega (arith, short)) } in
    record {
      lines =
          pushed (forms funs ++ []) (forms funs ++ Head name number params ∷ []) before (Head name number params) line h.lines is
          (ap (λ (fs : List Form). fs ++ Head name number params ∷ []) (append-nil (forms funs)));
      funs = omega (arith, room, length-append funs (empty name number params ∷ []));
      each = all_push IsWithin funs (empty name number params) (rw (append-nil funs) at h.each) within;
    }

body_front : (funs : List NamedFun) (fun : NamedFun) (added : NamedLine) (before : List TextLine) (line : TextLine)
    → IsFront (front_in funs fun) before → IsLine (Body added) line → (Exceeds (front_in funs fun) (Body added) → ⊥)
    → IsFront (front_in funs (grown fun added)) (before ++ line ∷ [])
body_front funs fun added before line h is few =
    let room : length fun.lines + 1 ≤ 15 = not_over 15 (length fun.lines + 1) (λ e. few (inl e)) in
    let bound : length (locals fun) + length (binds added.stmt) ≤ 7 =
    not_over 7 (length (locals fun) + length (binds added.stmt)) (λ e. few (inr e)) in
    let local : locals (grown fun added) ≡ locals fun ++ binds added.stmt =
    ap (λ (rest : List (List ℕ)). fun.params ++ rest)
    (flat_append (λ (l : NamedLine). binds l.stmt) fun.lines (added ∷ [])
    ∙ ap (λ (rest : List (List ℕ)). flat_map (λ (l : NamedLine). binds l.stmt) fun.lines ++ rest) (append-nil (binds added.stmt)))
    ∙ sym (append_assoc fun.params (flat_map (λ (l : NamedLine). binds l.stmt) fun.lines) (binds added.stmt)) in
    let within : IsWithin (grown fun added) =
    record {
      lines = omega (arith, room, length-append fun.lines (added ∷ []));
      locals = rw local (omega (arith, bound, length-append (locals fun) (binds added.stmt)));
    } in
    let bodies : map Body (fun.lines ++ added ∷ []) ≡ map Body fun.lines ++ Body added ∷ [] = rw map-append refl in
    let forms_are : (forms funs ++ (Head fun.name fun.number fun.params ∷ map Body fun.lines)) ++ Body added ∷ []
    ≡ forms funs ++ (Head fun.name fun.number fun.params ∷ map Body (fun.lines ++ added ∷ [])) =
    append_assoc (forms funs) (Head fun.name fun.number fun.params ∷ map Body fun.lines) (Body added ∷ [])
    ∙ ap (λ (rest : List Form). forms funs ++ (Head fun.name fun.number fun.params ∷ rest)) (sym bodies) in
    record {
      lines =
          pushed (forms funs ++ (Head fun.name fun.number fun.params ∷ map Body fun.lines))
          (forms funs ++ (Head fun.name fun.number fun.params ∷ map Body (fun.lines ++ added ∷ [])))
          before (Body added) line h.lines is forms_are;
      funs = omega (arith, h.funs, length-append funs (fun ∷ []), length-append funs (grown fun added ∷ []));
      each = all_push IsWithin funs (grown fun added) (all_front IsWithin funs (fun ∷ []) h.each) within;
    }

end_front : (funs : List NamedFun) (fun : NamedFun) (before : List TextLine) (line : TextLine) → IsFront (front_in funs fun) before
    → IsLine End line → IsFront (front_of (funs ++ fun ∷ [])) (before ++ line ∷ [])
end_front funs fun before line h is =
    let forms_are : (forms funs ++ (Head fun.name fun.number fun.params ∷ map Body fun.lines)) ++ End ∷ [] ≡ forms (funs ++ fun ∷ []) ++ [] =
    append_assoc (forms funs) (Head fun.name fun.number fun.params ∷ map Body fun.lines) (End ∷ [])
    ∙ sym (forms_append funs (fun ∷ [])) ∙ sym (append-nil (forms (funs ++ fun ∷ []))) in
    record {
      lines =
          pushed (forms funs ++ (Head fun.name fun.number fun.params ∷ map Body fun.lines)) (forms (funs ++ fun ∷ []) ++ [])
          before End line h.lines is forms_are;
      funs = rw (append-nil (funs ++ fun ∷ [])) h.funs;
      each = rw (append-nil (funs ++ fun ∷ [])) h.each;
    }

next_front : (funs : List NamedFun) (begun : Option NamedFun) (f : Form) (before : List TextLine) (line : TextLine)
    → IsFront (record { funs = funs; begun = begun }) before → IsLine f line → MayFollow begun f
    → (Exceeds (record { funs = funs; begun = begun }) f → ⊥)
    → IsFront (front_with (record { funs = funs; begun = begun }) f) (before ++ line ∷ [])
next_front funs None (Head name number params) before line h is may few = head_front funs name number params before line h is few
next_front funs (Some fun) (Body added) before line h is may few = body_front funs fun added before line h is few
next_front funs (Some fun) End before line h is may few = end_front funs fun before line h is
next_front funs None (Body added) before line h is may few = absurd may
next_front funs None End before line h is may few = absurd may
next_front funs (Some fun) (Head name number params) before line h is may few = absurd may

goes_on : (front after : Front) (before : List TextLine) (line : TextLine) → IsFront front before
    → IsRightLine rules front_with front line after → IsFront after (before ++ line ∷ [])
goes_on front after before line h r =
    subst (λ (f : Front). IsFront f (before ++ line ∷ [])) (sym r.is)
    (next_front front.funs front.begun r.form before line h
    (record { good = r.shape.good; number = r.shape.number; words = r.words; names = r.shape.shaped }) r.may r.within)

-- ---- the lines of a front lead to it
line_walk : (front : Front) (f : Form) (line : TextLine) (lines : List TextLine) → IsLine f line → MayFollow front.begun f → (Exceeds front f → ⊥)
    → walk taking front (line ∷ lines) ≡ walk taking (front_with front f) lines
line_walk front f line lines is may few =
    walk_step taking front (front_with front f) line lines
    (right_taken rules taking front_with takes front line f is.good is.number is.words is.names may few)

abbrev with_lines : NamedFun → List NamedLine → NamedFun
with_lines fun lines = record fun { lines = lines }

walk_body : (body : List NamedLine) (funs : List NamedFun) (fun : NamedFun) (fs : List Form) (lines : List TextLine)
    → IsWithin (with_lines fun (fun.lines ++ body)) → AllZip IsLine (map Body body ++ fs) lines
    → (rest : List TextLine) × AllZip IsLine fs rest
    × (walk taking (front_in funs fun) lines ≡ walk taking (front_in funs (with_lines fun (fun.lines ++ body))) rest)
walk_body [] funs fun fs lines within h =
    (lines, h, ap (λ (b : List NamedLine). walk taking (front_in funs (with_lines fun b)) lines) (sym (append-nil fun.lines)))
walk_body (first ∷ body) funs fun fs [] within h = absurd h
walk_body (first ∷ body) funs fun fs (line ∷ lines) within h =
    let joined : (fun.lines ++ first ∷ []) ++ body ≡ fun.lines ++ first ∷ body = append_assoc fun.lines (first ∷ []) body in
    let step = line_walk (front_in funs fun) (Body first) line lines h.0 tt not_ex in
    let later =
    walk_body body funs (grown fun first) fs lines (subst (λ (b : List NamedLine). IsWithin (with_lines fun b)) (sym joined) within) h.1 in
    (later.0, later.1, step ∙ later.2 ∙ ap (λ (b : List NamedLine). walk taking (front_in funs (with_lines fun b)) later.0) joined)
  where
    not_ex : Exceeds (front_in funs fun) (Body first) → ⊥
    not_ex (inl e) = omega (arith, e, within.lines, length-append fun.lines (first ∷ body))
    not_ex (inr e) =
        let all : locals (with_lines fun (fun.lines ++ first ∷ body))
        ≡ locals fun ++ (binds first.stmt ++ flat_map (λ (l : NamedLine). binds l.stmt) body) =
        ap (λ (rest : List (List ℕ)). fun.params ++ rest) (flat_append (λ (l : NamedLine). binds l.stmt) fun.lines (first ∷ body))
        ∙ sym (append_assoc fun.params (flat_map (λ (l : NamedLine). binds l.stmt) fun.lines)
        (binds first.stmt ++ flat_map (λ (l : NamedLine). binds l.stmt) body)) in
        omega (
          arith,
          e,
          within.locals,
          ap length all,
          length-append (locals fun) (binds first.stmt ++ flat_map (λ (l : NamedLine). binds l.stmt) body),
          length-append (binds first.stmt) (flat_map (λ (l : NamedLine). binds l.stmt) body),
        )

head_walk : (done : List NamedFun) (fun : NamedFun) (line : TextLine) (lines : List TextLine) → IsLine (Head fun.name fun.number fun.params) line
    → IsWithin fun → length done + 1 ≤ 128
    → walk taking (front_of done) (line ∷ lines) ≡ walk taking (front_in done (with_lines fun [])) lines
head_walk done fun line lines is within room = line_walk (front_of done) (Head fun.name fun.number fun.params) line lines is tt not_ex
  where
    not_ex : Exceeds (front_of done) (Head fun.name fun.number fun.params) → ⊥
    not_ex (inl e) = omega (arith, e, within.locals, length-append fun.params (flat_map (λ (l : NamedLine). binds l.stmt) fun.lines))
    not_ex (inr e) = omega (arith, e, room)

end_walk : (done funs : List NamedFun) (fun : NamedFun) (begun : Option NamedFun) (rest : List TextLine)
    → AllZip IsLine (End ∷ (forms funs ++ begun_forms begun)) rest
    → ((later : List TextLine) → AllZip IsLine (forms funs ++ begun_forms begun) later
    → walk taking (front_of (done ++ fun ∷ [])) later ≡ Ok (record { funs = (done ++ fun ∷ []) ++ funs; begun = begun }))
    → walk taking (front_in done fun) rest ≡ Ok (record { funs = (done ++ fun ∷ []) ++ funs; begun = begun })
end_walk done funs fun begun [] h later = absurd h
end_walk done funs fun begun (line ∷ rest) h later = line_walk (front_in done fun) End line rest h.0 tt (λ e. e) ∙ later rest h.1

walk_funs : (funs done : List NamedFun) (begun : Option NamedFun) (lines : List TextLine) → AllZip IsLine (forms funs ++ begun_forms begun) lines
    → length done + length (funs ++ begun_funs begun) ≤ 128 → AllByRecursion IsWithin (funs ++ begun_funs begun)
    → walk taking (front_of done) lines ≡ Ok (record { funs = done ++ funs; begun = begun })
walk_funs [] done None [] h few each = ap (λ (ps : List NamedFun). Ok (front_of ps)) (sym (append-nil done))
walk_funs [] done None (line ∷ lines) h few each = absurd h
walk_funs [] done (Some fun) [] h few each = absurd h
walk_funs [] done (Some fun) (line ∷ lines) h few each =
    let first = head_walk done fun line lines h.0 each.0 (omega (arith, few)) in
    let body = walk_body fun.lines done (with_lines fun []) [] lines each.0
    (subst (λ (fs : List Form). AllZip IsLine fs lines) (sym (append-nil (map Body fun.lines))) h.1) in
    first ∙ body.2 ∙ ended body.0 body.1 ∙ ap (λ (ps : List NamedFun). Ok (front_in ps fun)) (sym (append-nil done))
  where
    ended : (rest : List TextLine) → AllZip IsLine [] rest → walk taking (front_in done fun) rest ≡ Ok (front_in done fun)
    ended [] h = refl
    ended (x ∷ rest) h = absurd h
walk_funs (fun ∷ funs) done begun [] h few each = absurd h
walk_funs (fun ∷ funs) done begun (line ∷ lines) h few each =
    let first = head_walk done fun line lines h.0 each.0 (omega (arith, few)) in
    let joined : (map Body fun.lines ++ End ∷ forms funs) ++ begun_forms begun ≡ map Body fun.lines ++ End ∷ (forms funs ++ begun_forms begun) =
    append_assoc (map Body fun.lines) (End ∷ forms funs) (begun_forms begun) in
    let body = walk_body fun.lines done (with_lines fun []) (End ∷ (forms funs ++ begun_forms begun)) lines each.0
    (subst (λ (fs : List Form). AllZip IsLine fs lines) joined h.1) in
    first ∙ body.2 ∙ end_walk done funs fun begun body.0 body.1
    (λ rest rest_is. walk_funs funs (done ++ fun ∷ []) begun rest rest_is
    (omega (arith, few, length-append done (fun ∷ []))) each.1)
    ∙ ap (λ (ps : List NamedFun). Ok (record { funs = ps; begun = begun })) (append_assoc done (fun ∷ []) funs)

leads : (front : Front) (before : List TextLine) → IsFront front before → walk taking no_lines before ≡ Ok front
leads front before h = walk_funs front.funs [] front.begun before h.lines (omega (arith, h.funs)) h.each

pub is_read : IsRead rules taking front_with no_lines
is_read =
    record {
      takes = takes;
      opens = λ front. refl;
      begins = record { lines = tt; funs = omega arith; each = tt };
      goes_on = goes_on;
      leads = leads;
    }
