-- What the reader takes at the front of the words are the words of places, and the words of places are taken.
use Rattle.std.proofs.Common.{◌≡◌, ℕ, ◌≤◌, length, arith, Bool, true, false, ◌||◌, ◌⊎◌, inl, inr, Result, Ok, Err, List, [], ◌∷◌, ◌++◌, map, refl, sym, ap, ◌∙◌, subst}
use Rattle.ak_syntax.specs.declared.cursor.Cursor.{Cursor}
use Rattle.ak_syntax.specs.declared.cursor.Until.{Until}
use Rattle.ak_syntax.specs.declared.cursor.Until.TheVariants.{LineEnd}
use Rattle.ak_syntax.specs.Table.{Place, Exactly, Stands}
use Rattle.ak_syntax.specs.Rules.{IsFaulty}
use Rattle.ak_syntax.specs.Words.{Bad, bad, ◌>>=◌, Part, both, mapped, marked, word_from, end_from, end_at, plain, list_from, list_at, ends_list, is_line_end, some_of}
use Rattle.ak_syntax.proofs.Found.{ok_pair, bind_ok, bind_is, if_not, if_so, chosen, good_pair}
use Rattle.ak_syntax.proofs.Meets.{Meets, Case, step, unstep}

-- what stands in front of other places
pub record IsPart {T : Type 0} (good : T → Type 0) (shape : T → List Place → List Place) (part : Part T) : Type 0 where
  pub sound : (c left : Cursor) (t : T) → part c ≡ Ok (t, left)
      → good t × ((places : List Place) (after : Bool) → Meets left.faulty places left.words after
      → Meets c.faulty (shape t places) c.words after)
  pub complete : (c : Cursor) (t : T) (places : List Place) (after : Bool) → good t → Meets c.faulty (shape t places) c.words after
      → (left : Cursor) × (part c ≡ Ok (t, left)) × Meets left.faulty places left.words after

-- what goes on to the end of the line
pub record IsLast {T : Type 0} (good : T → Type 0) (shape : T → List Place) (part : Part T) : Type 0 where
  pub sound : (c left : Cursor) (t : T) → part c ≡ Ok (t, left) → good t × Meets c.faulty (shape t) c.words left.faulty
  pub complete : (c : Cursor) (t : T) (after : Bool) → good t → Meets c.faulty (shape t) c.words after
      → (left : Cursor) × (part c ≡ Ok (t, left)) × (left.faulty ≡ after)

-- nothing more is wanted
abbrev pub Always : {T : Type 0} → T → Type 0
Always t = Unit {0}

abbrev pair_of : {A B : Type 0} → A → B × Cursor → Result ((A × B) × Cursor) Bad
pair_of a b = Ok ((a, b.0), b.1)

abbrev rest_of : {A B : Type 0} → Part B → A × Cursor → Result ((A × B) × Cursor) Bad
rest_of second a = second a.1 >>= pair_of a.0

pub both_last : {A B : Type 0} {goodA : A → Type 0} {shapeA : A → List Place → List Place} {first : Part A} {goodB : B
    → Type 0} {shapeB : B → List Place} {second : Part B}
    → IsPart goodA shapeA first → IsLast goodB shapeB second
    → IsLast (λ (t : A × B). goodA t.0 × goodB t.1) (λ (t : A × B). shapeA t.0 (shapeB t.1)) (both first second)
both_last {A} {B} {goodA} {shapeA} {first} {goodB} {shapeB} {second} p q = record { sound = sound; complete = complete }
  where
    sound : (c left : Cursor) (t : A × B) → both first second c ≡ Ok (t, left)
        → (goodA t.0 × goodB t.1) × Meets c.faulty (shapeA t.0 (shapeB t.1)) c.words left.faulty
    sound c left t h =
        let x = bind_ok (first c) (rest_of second) (t, left) h in
        let y = bind_ok (second x.0.1) (pair_of x.0.0) (t, left) x.2 in
        let same = ok_pair y.2 in
        let s = p.sound c x.0.1 x.0.0 x.1 in
        let r = q.sound x.0.1 y.0.1 y.0.0 y.1 in
        let P : A × B → Type 0 = λ u. (goodA u.0 × goodB u.1) × Meets c.faulty (shapeA u.0 (shapeB u.1)) c.words left.faulty in
        let flag : Meets x.0.1.faulty (shapeB y.0.0) x.0.1.words left.faulty =
        subst (λ (l : Cursor). Meets x.0.1.faulty (shapeB y.0.0) x.0.1.words l.faulty) same.1 r.1 in
        subst P same.0 ((s.0, r.0), s.1 (shapeB y.0.0) left.faulty flag)

    complete : (c : Cursor) (t : A × B) (after : Bool) → goodA t.0 × goodB t.1 → Meets c.faulty (shapeA t.0 (shapeB t.1)) c.words after
        → (left : Cursor) × (both first second c ≡ Ok (t, left)) × (left.faulty ≡ after)
    complete c t after g m =
        let x = p.complete c t.0 (shapeB t.1) after g.0 m in
        let y = q.complete x.0 t.1 after g.1 x.2 in
        (y.0, bind_is (first c) (rest_of second) (t.0, x.0) x.1 ∙ bind_is (second x.0) (pair_of t.0) (t.1, y.0) y.1, y.2)

-- the same by other values, one for one
abbrev pub image : {A B : Type 0} → (A → B) → A × Cursor → Result (B × Cursor) Bad
image f a = Ok (f a.0, a.1)

pub mapped_last : {A B : Type 0} (f : A → B) (back : B → A) {good : A → Type 0} {shape : A → List Place} {part : Part A}
    → ((a : A) → back (f a) ≡ a) → ((b : B) → f (back b) ≡ b) → IsLast good shape part → IsLast (λ b. good (back b)) (λ b. shape (back b)) (mapped f part)
mapped_last {A} {B} f back {good} {shape} {part} there again p = record { sound = sound; complete = complete }
  where
    sound : (c left : Cursor) (b : B) → mapped f part c ≡ Ok (b, left) → good (back b) × Meets c.faulty (shape (back b)) c.words left.faulty
    sound c left b h =
        let x = bind_ok (part c) (image f) (b, left) h in
        let same = ok_pair x.2 in
        let s = p.sound c x.0.1 x.0.0 x.1 in
        let P : A → Type 0 = λ a. good a × Meets c.faulty (shape a) c.words left.faulty in
        let flag : P x.0.0 = subst (λ (l : Cursor). good x.0.0 × Meets c.faulty (shape x.0.0) c.words l.faulty) same.1 s in
        subst P (sym (there x.0.0) ∙ ap back same.0) flag

    complete : (c : Cursor) (b : B) (after : Bool) → good (back b) → Meets c.faulty (shape (back b)) c.words after
        → (left : Cursor) × (mapped f part c ≡ Ok (b, left)) × (left.faulty ≡ after)
    complete c b after g m =
        let x = p.complete c (back b) after g m in
        (x.0, bind_is (part c) (image f) (back b, x.0) x.1 ∙ ap (λ (v : B). good_pair v x.0) (again b), x.2)

-- ---- the end of the line
end_sound : (words : List (List ℕ)) (faulty : Bool) (left : Cursor) → end_from words faulty ≡ Ok (tt, left) → Meets faulty [] words left.faulty
end_sound [] faulty left h = ap (λ (c : Cursor). c.faulty) (sym (ok_pair h).1)
end_sound (word ∷ words) faulty left h = cc

end_complete : (words : List (List ℕ)) (faulty after : Bool) → Meets faulty [] words after
    → (left : Cursor) × (end_from words faulty ≡ Ok (tt, left)) × (left.faulty ≡ after)
end_complete [] faulty after m = (record { words = []; faulty = faulty }, refl, sym m)
end_complete (word ∷ words) faulty after m = absurd m

pub end_last : IsLast (Always {T = Unit {0}}) (λ (u : Unit {0}). []) end_at
unfolding end_at
end_last = record { sound = λ c left t h. (tt, end_sound c.words c.faulty left h); complete = λ c t after g m. end_complete c.words c.faulty after m }

-- ---- one word
-- a word that is found stands for its place or is a faulty number there, and such a word is found
pub record IsItem {T : Type 0} (place : T → Place) (item : List ℕ → Result (T × Bool) Bad) : Type 0 where
  pub sound : (word : List ℕ) (x : T) (b : Bool) → item word ≡ Ok (x, b) → Case b (place x) word
  pub complete : (word : List ℕ) (x : T) (b : Bool) → Case b (place x) word → item word ≡ Ok (x, b)

pub record IsPlain {T : Type 0} (place : T → Place) (found : List ℕ → Result T Bad) : Type 0 where
  pub sound : (word : List ℕ) (x : T) → found word ≡ Ok x → Stands (place x) word
  pub complete : (word : List ℕ) (x : T) → Stands (place x) word → found word ≡ Ok x
  pub never : (word : List ℕ) (x : T) → IsFaulty (place x) word → ⊥

abbrev flagged : {T : Type 0} → Bool → T → Result (T × Bool) Bad
flagged b x = Ok (x, b)

pub plain_item : {T : Type 0} (place : T → Place) (found : List ℕ → Result T Bad) → IsPlain place found → IsItem place (plain found)
plain_item {T} place found p = record { sound = sound; complete = complete }
  where
    sound : (word : List ℕ) (x : T) (b : Bool) → plain found word ≡ Ok (x, b) → Case b (place x) word
    sound word x b h =
        let y = bind_ok (found word) (flagged false) (x, b) h in
        let same = ok_pair y.2 in
        let stands : Stands (place x) word = subst (λ (v : T). Stands (place v) word) same.0 (p.sound word y.0 y.1) in
        subst (λ (v : Bool). Case v (place x) word) same.1 stands

    complete : (word : List ℕ) (x : T) (b : Bool) → Case b (place x) word → plain found word ≡ Ok (x, b)
    complete word x true h = absurd (p.never word x h.0)
    complete word x false h = bind_is (found word) (flagged false) x (p.complete word x h)

-- the first word, by an item
abbrev pub marked_by : {T : Type 0} → Cursor → T × Bool → Result (T × Cursor) Bad
marked_by c a = Ok (a.0, marked a.1 c)

abbrev pub item_of : {T : Type 0} → (List ℕ → Result (T × Bool) Bad) → List ℕ × Cursor → Result (T × Cursor) Bad
item_of item w = item w.0 >>= marked_by w.1

abbrev pub item_at : {T : Type 0} → (List ℕ → Result (T × Bool) Bad) → Part T
item_at item c = word_from c.words c.faulty >>= item_of item

item_sound : {T : Type 0} (place : T → Place) (item : List ℕ → Result (T × Bool) Bad) → IsItem place item
    → (words : List (List ℕ)) (faulty : Bool) (left : Cursor) (x : T)
    → (word_from words faulty >>= item_of item) ≡ Ok (x, left) → (places : List Place) (after : Bool)
    → Meets left.faulty places left.words after → Meets faulty (place x ∷ places) words after
item_sound place item p [] faulty left x h places after m = cc
item_sound {T} place item p (word ∷ words) faulty left x h places after m =
    let y = bind_ok (item word) (marked_by (record { words = words; faulty = faulty })) (x, left) h in
    let same = ok_pair y.2 in
    let seen : Case y.0.1 (place x) word = subst (λ (v : T). Case y.0.1 (place v) word) same.0 (p.sound word y.0.0 y.0.1 y.1) in
    step y.0.1 faulty (place x) word places words after seen (subst (λ (l : Cursor). Meets l.faulty places l.words after) (sym same.1) m)

item_complete : {T : Type 0} (place : T → Place) (item : List ℕ → Result (T × Bool) Bad) → IsItem place item
    → (words : List (List ℕ)) (faulty : Bool) (x : T) (places : List Place) (after : Bool)
    → Meets faulty (place x ∷ places) words after → (left : Cursor) × ((word_from words faulty >>= item_of item) ≡ Ok (x, left))
    × Meets left.faulty places left.words after
item_complete place item p [] faulty x places after m = absurd m
item_complete place item p (word ∷ words) faulty x places after m =
    let s = unstep faulty (place x) word places words after m in (
      marked s.0 (record { words = words; faulty = faulty }),
      bind_is (item word) (marked_by (record { words = words; faulty = faulty }))
          (x, s.0) (p.complete word x s.0 s.1),
      s.2,
    )

pub item_part : {T : Type 0} (place : T → Place) (item : List ℕ → Result (T × Bool) Bad) → IsItem place item
    → IsPart (Always {T = T}) (λ (x : T) (places : List Place). place x ∷ places) (item_at item)
item_part {T} place item p = record {
  sound = λ c left t h. (tt, λ places after m. item_sound place item p c.words c.faulty left t h places after m);
  complete = λ c t places after g m. item_complete place item p c.words c.faulty t places after m;
}

-- the first word, where it is no number
abbrev pub left_with : {T : Type 0} → Cursor → T → Result (T × Cursor) Bad
left_with c x = Ok (x, c)

abbrev pub found_of : {T : Type 0} → (List ℕ → Result T Bad) → List ℕ × Cursor → Result (T × Cursor) Bad
found_of found w = found w.0 >>= left_with w.1

abbrev pub found_at : {T : Type 0} → (List ℕ → Result T Bad) → Part T
found_at found c = word_from c.words c.faulty >>= found_of found

same_found : {T : Type 0} (found : List ℕ → Result T Bad) (words : List (List ℕ)) (faulty : Bool)
    → (word_from words faulty >>= item_of (plain found)) ≡ (word_from words faulty >>= found_of found)
same_found found [] faulty = refl
same_found {T} found (word ∷ words) faulty = of (found word)
  where
    of : (r : Result T Bad) → ((r >>= flagged false) >>= marked_by (record { words = words; faulty = faulty }))
        ≡ (r >>= left_with (record { words = words; faulty = faulty }))
    of (Ok x) = refl
    of (Err e) = refl

pub found_part : {T : Type 0} (place : T → Place) (found : List ℕ → Result T Bad) → IsPlain place found
    → IsPart (Always {T = T}) (λ (x : T) (places : List Place). place x ∷ places) (found_at found)
found_part {T} place found p =
    let item = item_part place (plain found) (plain_item place found p) in
    record {
      sound = λ c left t h. item.sound c left t (same_found found c.words c.faulty ∙ h);
      complete = λ c t places after g m. let x = item.complete c t places after g m in (x.0, sym (same_found found c.words c.faulty) ∙ x.1, x.2);
    }

-- ---- lists
abbrev pub listed : {T : Type 0} → T → List T × Cursor → Result (List T × Cursor) Bad
listed x rest = Ok (x ∷ rest.0, rest.1)

abbrev pub list_rest : {T : Type 0} → (List ℕ → Result (T × Bool) Bad) → Until → List (List ℕ) → Bool → T × Bool → Result (List T × Cursor) Bad
list_rest item until words faulty x = list_from item until words (x.1 || faulty) >>= listed x.0

-- a list to the end of the line
last_list_sound : {T : Type 0} (place : T → Place) (item : List ℕ → Result (T × Bool) Bad) → IsItem place item
    → (words : List (List ℕ)) (faulty : Bool) (left : Cursor) (xs : List T)
    → list_from item LineEnd words faulty ≡ Ok (xs, left) → Meets faulty (map place xs) words left.faulty
unfolding list_from
last_list_sound {T} place item p [] faulty left xs h =
    let same = ok_pair h in
    subst (λ (ys : List T). Meets faulty (map place ys) [] left.faulty) same.0 (ap (λ (c : Cursor). c.faulty) (sym same.1))
last_list_sound {T} place item p (word ∷ words) faulty left xs h =
    let y = bind_ok (item word) (list_rest item LineEnd words faulty) (xs, left) h in
    let z = bind_ok (list_from item LineEnd words (y.0.1 || faulty)) (listed y.0.0) (xs, left) y.2 in
    let same = ok_pair z.2 in
    let rest : Meets (y.0.1 || faulty) (map place z.0.0) words left.faulty =
    subst (λ (l : Cursor). Meets (y.0.1 || faulty) (map place z.0.0) words l.faulty) same.1
    (last_list_sound place item p words (y.0.1 || faulty) z.0.1 z.0.0 z.1) in
    subst (λ (ys : List T). Meets faulty (map place ys) (word ∷ words) left.faulty) same.0
    (step y.0.1 faulty (place y.0.0) word (map place z.0.0) words left.faulty (p.sound word y.0.0 y.0.1 y.1) rest)

last_list_complete : {T : Type 0} (place : T → Place) (item : List ℕ → Result (T × Bool) Bad) → IsItem place item
    → (words : List (List ℕ)) (faulty : Bool) (xs : List T) (after : Bool)
    → Meets faulty (map place xs) words after → (left : Cursor) × (list_from item LineEnd words faulty ≡ Ok (xs, left)) × (left.faulty ≡ after)
unfolding list_from
last_list_complete place item p [] faulty [] after m = (record { words = []; faulty = faulty }, refl, sym m)
last_list_complete place item p [] faulty (x ∷ xs) after m = absurd m
last_list_complete place item p (word ∷ words) faulty [] after m = absurd m
last_list_complete place item p (word ∷ words) faulty (x ∷ xs) after m =
    let s = unstep faulty (place x) word (map place xs) words after m in
    let r = last_list_complete place item p words (s.0 || faulty) xs after s.2 in (
      r.0,
      bind_is (item word) (list_rest item LineEnd words faulty) (x, s.0) (p.complete word x s.0 s.1)
          ∙ bind_is (list_from item LineEnd words (s.0 || faulty)) (listed x) (xs, r.0) r.1,
      r.2,
    )

pub list_last : {T : Type 0} (place : T → Place) (item : List ℕ → Result (T × Bool) Bad) → IsItem place item
    → IsLast (Always {T = List T}) (λ (xs : List T). map place xs) (list_at item LineEnd)
list_last {T} place item p = record {
  sound = λ c left t h. (tt, last_list_sound place item p c.words c.faulty left t h);
  complete = λ c t after g m. last_list_complete place item p c.words c.faulty t after m;
}

-- a list to a word that is no item
pub record IsStop {T : Type 0} (place : T → Place) (until : Until) (stop : List ℕ) : Type 0 where
  pub inside : is_line_end until ≡ false
  pub found : (word : List ℕ) → ends_list until word ≡ true → word ≡ stop
  pub there : ends_list until stop ≡ true
  pub other : (word : List ℕ) (x : T) (b : Bool) → Case b (place x) word → ends_list until word ≡ false

-- the first word of a list, where the rest is known
list_step : {T : Type 0} (place : T → Place) (item : List ℕ → Result (T × Bool) Bad) (until : Until) (stop : List ℕ) → IsItem place item
    → IsStop place until stop → (word : List ℕ) (words : List (List ℕ)) (faulty : Bool) (left : Cursor) (xs : List T)
    (places : List Place) (after : Bool) → Meets left.faulty places left.words after
    → ((next : Bool) (read : List T × Cursor) → list_from item until words (next || faulty) ≡ Ok (read.0, read.1)
    → (ps : List Place) (a : Bool) → Meets read.1.faulty ps read.1.words a
    → Meets (next || faulty) (map place read.0 ++ Exactly stop ∷ ps) words a)
    → ((ends_list until word ≡ true) × (good_pair [] (record { words = words; faulty = faulty }) ≡ good_pair xs left))
    ⊎ ((ends_list until word ≡ false) × ((item word >>= list_rest item until words faulty) ≡ good_pair xs left))
    → Meets faulty (map place xs ++ Exactly stop ∷ places) (word ∷ words) after
list_step {T} place item until stop p q word words faulty left xs places after m rest (inl e) =
    let same = ok_pair e.1 in
    subst (λ (ys : List T). Meets faulty (map place ys ++ Exactly stop ∷ places) (word ∷ words) after) same.0
    (inl (q.found word e.0, subst (λ (l : Cursor). Meets l.faulty places l.words after) (sym same.1) m))
list_step {T} place item until stop p q word words faulty left xs places after m rest (inr e) =
    let y = bind_ok (item word) (list_rest item until words faulty) (xs, left) e.1 in
    let z = bind_ok (list_from item until words (y.0.1 || faulty)) (listed y.0.0) (xs, left) y.2 in
    let same = ok_pair z.2 in
    let more : Meets (y.0.1 || faulty) (map place z.0.0 ++ Exactly stop ∷ places) words after =
    rest y.0.1 z.0 z.1 places after (subst (λ (l : Cursor). Meets l.faulty places l.words after) (sym same.1) m) in
    subst (λ (ys : List T). Meets faulty (map place ys ++ Exactly stop ∷ places) (word ∷ words) after) same.0
    (step y.0.1 faulty (place y.0.0) word (map place z.0.0 ++ Exactly stop ∷ places) words after (p.sound word y.0.0 y.0.1 y.1) more)

list_to_sound : {T : Type 0} (place : T → Place) (item : List ℕ → Result (T × Bool) Bad) (until : Until) (stop : List ℕ)
    → IsItem place item → IsStop place until stop → (words : List (List ℕ)) (faulty : Bool) (left : Cursor) (xs : List T)
    → list_from item until words faulty ≡ Ok (xs, left) → (places : List Place) (after : Bool) → Meets left.faulty places left.words after
    → Meets faulty (map place xs ++ Exactly stop ∷ places) words after
unfolding list_from
list_to_sound {T} place item until stop p q [] faulty left xs h places after m = let wrong : Err bad
    ≡ good_pair xs left = sym (if_not (is_line_end until) (good_pair [] (record { words = []; faulty = faulty })) (Err bad) q.inside)
    ∙ h in cc
list_to_sound {T} place item until stop p q (word ∷ words) faulty left xs h places after m =
    list_step place item until stop p q word words faulty left xs places after m
    (λ next read. list_to_sound place item until stop p q words (next || faulty) read.1 read.0)
    (chosen (ends_list until word) (good_pair [] (record { words = words; faulty = faulty }))
    (item word >>= list_rest item until words faulty) (good_pair xs left) h)

list_to_complete : {T : Type 0} (place : T → Place) (item : List ℕ → Result (T × Bool) Bad) (until : Until) (stop : List ℕ)
    → IsItem place item → IsStop place until stop
    → (words : List (List ℕ)) (faulty : Bool) (xs : List T) (places : List Place) (after : Bool)
    → Meets faulty (map place xs ++ Exactly stop ∷ places) words after → (left : Cursor)
    × (list_from item until words faulty ≡ Ok (xs, left)) × Meets left.faulty places left.words after
unfolding list_from
list_to_complete place item until stop p q [] faulty [] places after m = absurd m
list_to_complete place item until stop p q [] faulty (x ∷ xs) places after m = absurd m
list_to_complete place item until stop p q (word ∷ words) faulty [] places after (inr m) = absurd m.0
list_to_complete place item until stop p q (word ∷ words) faulty [] places after (inl m) =
    let here : ends_list until word ≡ true = subst (λ (w : List ℕ). ends_list until w ≡ true) (sym m.0) q.there in (
      record { words = words; faulty = faulty },
      if_so (ends_list until word) (good_pair [] (record { words = words; faulty = faulty }))
          (item word >>= list_rest item until words faulty) here,
      m.1,
    )
list_to_complete place item until stop p q (word ∷ words) faulty (x ∷ xs) places after m =
    let s = unstep faulty (place x) word (map place xs ++ Exactly stop ∷ places) words after m in
    let r = list_to_complete place item until stop p q words (s.0 || faulty) xs places after s.2 in (
      r.0,
      if_not (ends_list until word) (good_pair [] (record { words = words; faulty = faulty }))
          (item word >>= list_rest item until words faulty) (q.other word x s.0 s.1)
          ∙ bind_is (item word) (list_rest item until words faulty) (x, s.0) (p.complete word x s.0 s.1)
          ∙ bind_is (list_from item until words (s.0 || faulty)) (listed x) (xs, r.0) r.1,
      r.2,
    )

pub list_part : {T : Type 0} (place : T → Place) (item : List ℕ → Result (T × Bool) Bad) (until : Until) (stop : List ℕ)
    → IsItem place item → IsStop place until stop
    → IsPart (Always {T = List T}) (λ (xs : List T) (places : List Place). map place xs ++ Exactly stop ∷ places) (list_at item until)
list_part {T} place item until stop p q = record {
  sound = λ c left t h. (tt, λ places after m. list_to_sound place item until stop p q c.words c.faulty left t h places after m);
  complete = λ c t places after g m. list_to_complete place item until stop p q c.words c.faulty t places after m;
}

-- the same, where a list must not be empty
abbrev pub filled : {T : Type 0} → Part (List T) → Part (List T)
filled part c = part c >>= λ xs. some_of xs.0 >>= left_with xs.1

abbrev filled_of : {T : Type 0} → List T × Cursor → Result (List T × Cursor) Bad
filled_of xs = some_of xs.0 >>= left_with xs.1

some_sound : {T : Type 0} (xs : List T) (left now : Cursor) (ys : List T) → filled_of (xs, left) ≡ Ok (ys, now) → (1 ≤ length ys) × (xs ≡ ys) × (left ≡ now)
some_sound [] left now ys h = cc
some_sound {T} (x ∷ xs) left now ys h = let same = ok_pair h in (subst (λ (zs : List T). 1 ≤ length zs) same.0 (omega arith), same.0, same.1)

some_complete : {T : Type 0} (xs : List T) (left : Cursor) → 1 ≤ length xs → filled_of (xs, left) ≡ Ok (xs, left)
some_complete [] left h = absurd (omega arith)
some_complete (x ∷ xs) left h = refl

pub filled_part : {T : Type 0} {shape : List T → List Place → List Place} {part : Part (List T)} → IsPart (Always {T = List T}) shape part
    → IsPart (λ (xs : List T). 1 ≤ length xs) shape (filled part)
filled_part {T} {shape} {part} p = record { sound = sound; complete = complete }
  where
    sound : (c left : Cursor) (t : List T) → filled part c ≡ Ok (t, left) → (1 ≤ length t)
        × ((places : List Place) (after : Bool) → Meets left.faulty places left.words after → Meets c.faulty (shape t places) c.words after)
    sound c left t h =
        let x = bind_ok (part c) filled_of (t, left) h in
        let s = some_sound x.0.0 x.0.1 left t x.2 in
        let read : part c ≡ Ok (t, left) = x.1 ∙ ap (λ (v : List T). good_pair v x.0.1) s.1 ∙ ap (λ (l : Cursor). good_pair t l) s.2 in
        (s.0, (p.sound c left t read).1)

    complete : (c : Cursor) (t : List T) (places : List Place) (after : Bool) → 1 ≤ length t
        → Meets c.faulty (shape t places) c.words after → (left : Cursor) × (filled part c ≡ Ok (t, left))
        × Meets left.faulty places left.words after
    complete c t places after g m =
        let x = p.complete c t places after tt m in
        (x.0, bind_is (part c) filled_of (t, x.0) x.1 ∙ some_complete t x.0 g, x.2)

pub filled_last : {T : Type 0} {shape : List T → List Place} {part : Part (List T)} → IsLast (Always {T = List T}) shape part
    → IsLast (λ (xs : List T). 1 ≤ length xs) shape (filled part)
filled_last {T} {shape} {part} p = record { sound = sound; complete = complete }
  where
    sound : (c left : Cursor) (t : List T) → filled part c ≡ Ok (t, left) → (1 ≤ length t) × Meets c.faulty (shape t) c.words left.faulty
    sound c left t h =
        let x = bind_ok (part c) filled_of (t, left) h in
        let s = some_sound x.0.0 x.0.1 left t x.2 in
        let read : part c ≡ Ok (t, left) = x.1 ∙ ap (λ (v : List T). good_pair v x.0.1) s.1 ∙ ap (λ (l : Cursor). good_pair t l) s.2 in
        (s.0, (p.sound c left t read).1)

    complete : (c : Cursor) (t : List T) (after : Bool) → 1 ≤ length t → Meets c.faulty (shape t) c.words after
        → (left : Cursor) × (filled part c ≡ Ok (t, left)) × (left.faulty ≡ after)
    complete c t after g m =
        let x = p.complete c t after tt m in
        (x.0, bind_is (part c) filled_of (t, x.0) x.1 ∙ some_complete t x.0 g, x.2)
