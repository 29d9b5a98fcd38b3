-- What a part finds at the front of the words stands there, and what stands there is found.
use Rattle.std.proofs.Common.{◌≡◌, ℕ, Bool, true, false, Option, Some, None, List, [], ◌∷◌, ◌++◌, refl, sym, ap, ◌∙◌, subst, cond, ◌⊎◌, inl, inr, append_assoc}
use Rattle.std.proofs.lemmas.Slice.Eq.{bytes_eq-Decides}
use Rattle.std.specs.Prelude.{codes}
use Rattle.std.specs.List.{AllZip, find}
use Rattle.std.specs.Str.{bytes_eq}
use Rattle.ak_labor.specs.declared.work.WorkKind.{WorkKind}
use Rattle.ak_labor.specs.declared.work.WorkKind.TheVariants.{Square, Mix, Fail}
use Rattle.ak_labor.specs.declared.work.Outcome.{Outcome}
use Rattle.ak_labor.specs.declared.work.Outcome.TheVariants.{Good, Bad}
use Rattle.ak_print.specs.Work.{kind_word}
use Rattle.ak_row.specs.Places.{Place, Exactly, Thing, LongNumber, Signed, Counted, Stands, outcome_places}
use Rattle.ak_row.specs.Parts.{Part, ◌>>=◌, both, mapped, end_at, found_at, thing_of, long_of, count_of, signed_of, kind_of, all_kinds, thing_at, long_at, count_at, signed_at, kind_at, outcome_from, outcome_at, whole}
use Rattle.ak_row.proofs.Numbers.{thing_reads, thing_some, long_reads, long_some, count_reads, count_some, signed_reads, signed_some}

-- ---- what was found
abbrev pub found_with : {A B : Type 0} → A → B → Option (A × B)
found_with a b = Some (a, b)

pub some_is : {A : Type 0} {a b : A} → Some a ≡ Some b → a ≡ b
some_is e = cc

pub some_pair : {A B : Type 0} {a c : A} {b d : B} → found_with a b ≡ found_with c d → (a ≡ c) × (b ≡ d)
some_pair {A} {B} {a} {c} {b} {d} e = let first : A × B = (a, b) in let second : A × B = (c, d) in
    let p : first ≡ second = some_is e in (ap (λ (x : A × B). x.0) p, ap (λ (x : A × B). x.1) p)

pub bind_some : {A B : Type 0} (o : Option A) (f : A → Option B) (b : B) → (o >>= f) ≡ Some b → (a : A) × (o ≡ Some a) × (f a ≡ Some b)
bind_some (Some a) f b h = (a, refl, h)
bind_some None f b h = cc

pub bind_is : {A B : Type 0} (o : Option A) (f : A → Option B) (a : A) → o ≡ Some a → (o >>= f) ≡ f a
bind_is (Some b) f a h = ap f (some_is h)
bind_is None f a h = cc

-- ---- parts
-- it finds, in front of others, exactly the words of its row
pub record IsPart {T : Type 0} (row : T → List Place) (part : Part T) : Type 0 where
  pub sound : (words left : List (List ℕ)) (x : T) → part words ≡ Some (x, left) → (places : List Place) → AllZip Stands places left
      → AllZip Stands (row x ++ places) words
  pub complete : (words : List (List ℕ)) (x : T) (places : List Place) → AllZip Stands (row x ++ places) words
      → (left : List (List ℕ)) × (part words ≡ Some (x, left)) × AllZip Stands places left

-- one word
pub record IsItem {T : Type 0} (place : T → Place) (found : List ℕ → Option T) : Type 0 where
  pub sound : (word : List ℕ) (x : T) → found word ≡ Some x → Stands (place x) word
  pub complete : (word : List ℕ) (x : T) → Stands (place x) word → found word ≡ Some x

abbrev pub leaving : {T : Type 0} → List (List ℕ) → T → Option (T × List (List ℕ))
leaving words x = Some (x, words)

item_sound : {T : Type 0} (place : T → Place) (found : List ℕ → Option T) → IsItem place found → (words left : List (List ℕ)) (x : T)
    → found_at found words ≡ Some (x, left)
    → (places : List Place) → AllZip Stands places left → AllZip Stands (place x ∷ places) words
item_sound place found p [] left x h places rest = cc
item_sound {T} place found p (word ∷ words) left x h places rest =
    let y = bind_some (found word) (leaving words) (x, left) h in
    let same = some_pair y.2 in
    (subst (λ (v : T). Stands (place v) word) same.0 (p.sound word y.0 y.1), subst (λ (ws : List (List ℕ)). AllZip Stands places ws) (sym same.1) rest)

item_complete : {T : Type 0} (place : T → Place) (found : List ℕ → Option T) → IsItem place found → (words : List (List ℕ)) (x : T) (places : List Place)
    → AllZip Stands (place x ∷ places) words → (left : List (List ℕ)) × (found_at found words ≡ Some (x, left)) × AllZip Stands places left
item_complete place found p [] x places h = absurd h
item_complete place found p (word ∷ words) x places h = (words, bind_is (found word) (leaving words) x (p.complete word x h.0), h.1)

pub item_part : {T : Type 0} (place : T → Place) (found : List ℕ → Option T) → IsItem place found → IsPart (λ (x : T). place x ∷ []) (found_at found)
item_part place found p = record {
  sound = λ words left x h places rest. item_sound place found p words left x h places rest;
  complete = λ words x places h. item_complete place found p words x places h;
}

-- one behind another
abbrev pair_of : {A B : Type 0} → A → B × List (List ℕ) → Option ((A × B) × List (List ℕ))
pair_of a b = Some ((a, b.0), b.1)

abbrev behind : {A B : Type 0} → Part B → A × List (List ℕ) → Option ((A × B) × List (List ℕ))
behind second a = second a.1 >>= pair_of a.0

pub both_part : {A B : Type 0} {row_a : A → List Place} {first : Part A} {row_b : B → List Place} {second : Part B}
    → IsPart row_a first → IsPart row_b second → IsPart (λ (t : A × B). row_a t.0 ++ row_b t.1) (both first second)
both_part {A} {B} {row_a} {first} {row_b} {second} p q = record { sound = sound; complete = complete }
  where
    sound : (words left : List (List ℕ)) (t : A × B) → both first second words ≡ Some (t, left) → (places : List Place)
        → AllZip Stands places left → AllZip Stands ((row_a t.0 ++ row_b t.1) ++ places) words
    sound words left t h places rest =
        let x = bind_some (first words) (behind second) (t, left) h in
        let y = bind_some (second x.0.1) (pair_of x.0.0) (t, left) x.2 in
        let same = some_pair y.2 in
        let last : AllZip Stands places y.0.1 = subst (λ (ws : List (List ℕ)). AllZip Stands places ws) (sym same.1) rest in
        let all : AllZip Stands (row_a x.0.0 ++ (row_b y.0.0 ++ places)) words =
        p.sound words x.0.1 x.0.0 x.1 (row_b y.0.0 ++ places) (q.sound x.0.1 y.0.1 y.0.0 y.1 places last) in
        let P : A × B → Type 0 = λ u. AllZip Stands ((row_a u.0 ++ row_b u.1) ++ places) words in
        subst P same.0 (subst (λ (ps : List Place). AllZip Stands ps words) (sym (append_assoc (row_a x.0.0) (row_b y.0.0) places)) all)

    complete : (words : List (List ℕ)) (t : A × B) (places : List Place) → AllZip Stands ((row_a t.0 ++ row_b t.1) ++ places) words
        → (left : List (List ℕ)) × (both first second words ≡ Some (t, left)) × AllZip Stands places left
    complete words t places h =
        let all : AllZip Stands (row_a t.0 ++ (row_b t.1 ++ places)) words =
        subst (λ (ps : List Place). AllZip Stands ps words) (append_assoc (row_a t.0) (row_b t.1) places) h in
        let x = p.complete words t.0 (row_b t.1 ++ places) all in
        let y = q.complete x.0 t.1 places x.2 in
        (y.0, bind_is (first words) (behind second) (t.0, x.0) x.1 ∙ bind_is (second x.0) (pair_of t.0) (t.1, y.0) y.1, y.2)

-- ---- what begins with a word
abbrev pub image : {A B : Type 0} → (A → B) → A × List (List ℕ) → Option (B × List (List ℕ))
image f a = Some (f a.0, a.1)

-- the words behind a first one, which begins the row of each such thing
pub mapped_sound : {A B : Type 0} (f : A → B) (first : List ℕ) {row : A → List Place} {part : Part A} (of_image : B → List Place)
    → IsPart row part → ((x : A) → of_image (f x) ≡ Exactly first ∷ row x)
    → (words left : List (List ℕ)) (y : B) → mapped f part words ≡ Some (y, left) → (places : List Place) → AllZip Stands places left
    → AllZip Stands (of_image y ++ places) (first ∷ words)
mapped_sound {A} {B} f first {row} {part} of_image p same words left y h places rest =
    let x = bind_some (part words) (image f) (y, left) h in
    let found = some_pair x.2 in
    let last : AllZip Stands places x.0.1 = subst (λ (ws : List (List ℕ)). AllZip Stands places ws) (sym found.1) rest in
    let all : AllZip Stands ((Exactly first ∷ row x.0.0) ++ places) (first ∷ words) = (refl, p.sound words x.0.1 x.0.0 x.1 places last) in
    let P : B → Type 0 = λ v. AllZip Stands (of_image v ++ places) (first ∷ words) in
    subst P found.0 (subst (λ (ps : List Place). AllZip Stands (ps ++ places) (first ∷ words)) (sym (same x.0.0)) all)

pub mapped_complete : {A B : Type 0} (f : A → B) {row : A → List Place} {part : Part A} → IsPart row part
    → (words : List (List ℕ)) (x : A) (places : List Place) → AllZip Stands (row x ++ places) words
    → (left : List (List ℕ)) × (mapped f part words ≡ Some (f x, left)) × AllZip Stands places left
mapped_complete f {row} {part} p words x places h =
    let y = p.complete words x places h in
    (y.0, bind_is (part words) (image f) (x, y.0) y.1, y.2)

-- ---- words of a table
pub table_reads : {T : Type 0} (text : T → List ℕ) (table : List T) (word : List ℕ) (x : T) → find (λ y. bytes_eq (text y) word) table ≡ Some x → word ≡ text x
table_reads text [] word x h = cc
table_reads {T} text (y ∷ table) word x h = of (bytes_eq (text y) word) refl h (table_reads text table word x)
  where
    of : (b : Bool) → bytes_eq (text y) word ≡ b → cond b (Some y) (find (λ z. bytes_eq (text z) word) table) ≡ Some x
        → (find (λ z. bytes_eq (text z) word) table ≡ Some x → word ≡ text x) → word ≡ text x
    of true e h later = sym ((bytes_eq-Decides (text y) word).0 e) ∙ ap text (some_is h)
    of false e h later = later h

pub table_item : {T : Type 0} (text : T → List ℕ) (table : List T) → ((x : T) → find (λ y. bytes_eq (text y) (text x)) table ≡ Some x)
    → IsItem (λ x. Exactly (text x)) (λ word. find (λ y. bytes_eq (text y) word) table)
table_item {T} text table there = record {
  sound = λ word x h. table_reads text table word x h;
  complete = λ word x h. subst (λ (w : List ℕ). find (λ y. bytes_eq (text y) w) table ≡ Some x) (sym h) (there x);
}

-- ---- the parts that both texts have
pub thing_part : IsPart (λ n. Thing n ∷ []) thing_at
unfolding thing_at
thing_part = item_part Thing thing_of (record { sound = thing_reads; complete = λ word n h. thing_some word n h.0 h.1 })

pub long_part : IsPart (λ n. LongNumber n ∷ []) long_at
unfolding long_at
long_part = item_part LongNumber long_of (record { sound = long_reads; complete = λ word n h. long_some word n h.0 h.1 })

pub count_part : IsPart (λ n. Counted n ∷ []) count_at
unfolding count_at
count_part = item_part Counted count_of (record { sound = count_reads; complete = λ word n h. count_some word n h.0 h.1 h.2 })

pub signed_part : IsPart (λ z. Signed z ∷ []) signed_at
unfolding signed_at
signed_part = item_part Signed signed_of (record { sound = signed_reads; complete = λ word z h. signed_some word z h.0 h.1 })

kind_there : (kind : WorkKind) → find (λ y. bytes_eq (kind_word y) (kind_word kind)) all_kinds ≡ Some kind
kind_there Square = refl
kind_there Mix = refl
kind_there Fail = refl

pub kind_item : IsItem (λ kind. Exactly (kind_word kind)) kind_of
unfolding kind_of
kind_item = table_item kind_word all_kinds kind_there

pub kind_part : IsPart (λ kind. Exactly (kind_word kind) ∷ []) kind_at
unfolding kind_at
kind_part = item_part (λ kind. Exactly (kind_word kind)) kind_of kind_item

-- the case of a test
pub chosen : {A : Type 0} (b : Bool) (x y z : A) → cond b x y ≡ z → ((b ≡ true) × (x ≡ z)) ⊎ ((b ≡ false) × (y ≡ z))
chosen true x y z h = inl (refl, h)
chosen false x y z h = inr (refl, h)

pub chosen_part : {A : Type 0} (b : Bool) (first second : Part A) (words : List (List ℕ)) (z : Option (A × List (List ℕ)))
    → (cond b first second) words ≡ z → ((b ≡ true) × (first words ≡ z)) ⊎ ((b ≡ false) × (second words ≡ z))
chosen_part true first second words z h = inl (refl, h)
chosen_part false first second words z h = inr (refl, h)

abbrev none_at : Part Outcome
none_at words = None

outcome_sound : (word : List ℕ) (words left : List (List ℕ)) (x : Outcome) → outcome_from word words ≡ Some (x, left)
    → (places : List Place) → AllZip Stands places left → AllZip Stands (outcome_places x ++ places) (word ∷ words)
outcome_sound word words left x h places rest =
    of (chosen_part (bytes_eq word (codes "good")) (mapped Good signed_at)
    (cond (bytes_eq word (codes "bad")) (mapped Bad signed_at) none_at) words (Some (x, left)) h)
  where
    on_bad : ((bytes_eq word (codes "bad") ≡ true) × (mapped Bad signed_at words ≡ Some (x, left)))
        ⊎ ((bytes_eq word (codes "bad") ≡ false) × (none_at words ≡ Some (x, left)))
        → AllZip Stands (outcome_places x ++ places) (word ∷ words)
    on_bad (inl e) = subst (λ (w : List ℕ). AllZip Stands (outcome_places x ++ places) (w ∷ words))
        (sym ((bytes_eq-Decides word (codes "bad")).0 e.0))
        (mapped_sound Bad (codes "bad") outcome_places signed_part (λ n. refl) words left x e.1 places rest)
    on_bad (inr e) = let wrong : none_at words ≡ Some (x, left) = e.1 in absurd cc

    of : ((bytes_eq word (codes "good") ≡ true) × (mapped Good signed_at words ≡ Some (x, left)))
        ⊎ ((bytes_eq word (codes "good") ≡ false)
        × ((cond (bytes_eq word (codes "bad")) (mapped Bad signed_at) none_at) words ≡ Some (x, left)))
        → AllZip Stands (outcome_places x ++ places) (word ∷ words)
    of (inl e) = subst (λ (w : List ℕ). AllZip Stands (outcome_places x ++ places) (w ∷ words))
        (sym ((bytes_eq-Decides word (codes "good")).0 e.0))
        (mapped_sound Good (codes "good") outcome_places signed_part (λ n. refl) words left x e.1 places rest)
    of (inr e) = on_bad (chosen_part (bytes_eq word (codes "bad")) (mapped Bad signed_at) none_at words (Some (x, left)) e.1)

outcome_words_sound : (words left : List (List ℕ)) (x : Outcome) → outcome_at words ≡ Some (x, left) → (places : List Place)
    → AllZip Stands places left → AllZip Stands (outcome_places x ++ places) words
unfolding outcome_at
outcome_words_sound [] left x h places rest = cc
outcome_words_sound (word ∷ words) left x h places rest = outcome_sound word words left x h places rest

outcome_complete : (words : List (List ℕ)) (x : Outcome) (places : List Place) → AllZip Stands (outcome_places x ++ places) words
    → (left : List (List ℕ)) × (outcome_at words ≡ Some (x, left)) × AllZip Stands places left
unfolding outcome_at
outcome_complete [] (Good number) places h = absurd h
outcome_complete [] (Bad number) places h = absurd h
outcome_complete (word ∷ words) (Good number) places h =
    let y = mapped_complete Good signed_part words number places h.1 in
    (y.0, subst (λ (w : List ℕ). outcome_from w words ≡ Some (Good number, y.0)) (sym h.0) y.1, y.2)
outcome_complete (word ∷ words) (Bad number) places h =
    let y = mapped_complete Bad signed_part words number places h.1 in
    (y.0, subst (λ (w : List ℕ). outcome_from w words ≡ Some (Bad number, y.0)) (sym h.0) y.1, y.2)

pub outcome_part : IsPart outcome_places outcome_at
outcome_part = record { sound = outcome_words_sound; complete = outcome_complete }

-- ---- to the end of the line
abbrev then_end : {T : Type 0} → T × List (List ℕ) → Option T
then_end a = end_at a.1 >>= λ u. Some a.0

end_reads : {T : Type 0} (x y : T) (words : List (List ℕ)) → then_end (x, words) ≡ Some y → (words ≡ []) × (x ≡ y)
end_reads x y [] h = (refl, some_is h)
end_reads x y (word ∷ words) h = cc

no_more : (words : List (List ℕ)) → AllZip Stands [] words → words ≡ []
no_more [] h = refl
no_more (word ∷ words) h = absurd h

append_nothing : (places : List Place) → places ++ [] ≡ places
append_nothing [] = refl
append_nothing (p ∷ places) = ap (λ (ps : List Place). p ∷ ps) (append_nothing places)

-- what is found in all words has the words of its row, and no more
pub whole_sound : {T : Type 0} (row : T → List Place) (part : Part T) → IsPart row part → (words : List (List ℕ)) (x : T)
    → whole part words ≡ Some x → AllZip Stands (row x) words
whole_sound {T} row part p words x h =
    let y = bind_some (part words) then_end x h in
    let e = end_reads y.0.0 x y.0.1 y.2 in
    let all : AllZip Stands (row y.0.0 ++ []) words = p.sound words y.0.1 y.0.0 y.1 [] (subst (λ (ws : List (List ℕ)). AllZip Stands [] ws) (sym e.0) tt) in
    subst (λ (v : T). AllZip Stands (row v) words) e.1 (subst (λ (ps : List Place). AllZip Stands ps words) (append_nothing (row y.0.0)) all)

pub whole_complete : {T : Type 0} (row : T → List Place) (part : Part T) → IsPart row part → (words : List (List ℕ)) (x : T)
    → AllZip Stands (row x) words → whole part words ≡ Some x
whole_complete {T} row part p words x h =
    let y = p.complete words x [] (subst (λ (ps : List Place). AllZip Stands ps words) (sym (append_nothing (row x))) h) in
    let end : then_end (x, y.0) ≡ Some x = subst (λ (ws : List (List ℕ)). then_end (x, ws) ≡ Some x) (sym (no_more y.0 y.2)) refl in
    bind_is (part words) then_end (x, y.0) y.1 ∙ end
