-- Places against words, and whether a number among them is faulty.
use Rattle.std.proofs.Common.{◌≡◌, ℕ, Bool, true, false, ◌||◌, ◌⊎◌, inl, inr, List, [], ◌∷◌, refl, sym}
use Rattle.std.specs.List.{AllZip}
use Rattle.ak_script.specs.declared.statement.Atom.TheVariants.{Literal, Local}
use Rattle.ak_syntax.specs.Table.{Place, Exactly, Named, Valued, Counted, Typed, Stands}
use Rattle.ak_syntax.specs.Rules.{IsFaulty, HasZero, Fits, SomeZip}

-- the words are those of the places, from a flag before them to the flag behind: a faulty number raises it
abbrev pub Meets : Bool → List Place → List (List ℕ) → Bool → Type 0
Meets before [] [] after = after ≡ before
Meets before [] (word ∷ words) after = ⊥
Meets before (place ∷ places) [] after = ⊥
Meets before (place ∷ places) (word ∷ words) after = (Stands place word × Meets before places words after)
    ⊎ (IsFaulty place word × HasZero place × Meets true places words after)

-- one word at its place, and whether it is faulty
abbrev pub Case : Bool → Place → List ℕ → Type 0
Case false place word = Stands place word
Case true place word = IsFaulty place word × HasZero place

pub step : (b before : Bool) (place : Place) (word : List ℕ) (places : List Place) (words : List (List ℕ)) (after : Bool)
    → Case b place word → Meets (b || before) places words after → Meets before (place ∷ places) (word ∷ words) after
step true before place word places words after h m = inr (h.0, h.1, m)
step false before place word places words after h m = inl (h, m)

pub unstep : (before : Bool) (place : Place) (word : List ℕ) (places : List Place) (words : List (List ℕ)) (after : Bool)
    → Meets before (place ∷ places) (word ∷ words) after → (b : Bool) × Case b place word × Meets (b || before) places words after
unstep before place word places words after (inl h) = (false, h.0, h.1)
unstep before place word places words after (inr h) = (true, (h.0, h.1), h.2)

-- a word that stands for its place is not faulty
pub not_both : (place : Place) (word : List ℕ) → IsFaulty place word → Stands place word → ⊥
not_both (Valued (Literal number)) word faulty stands = faulty.1 number stands
not_both (Counted least number) word faulty stands = faulty.1 number stands
not_both (Exactly bytes) word faulty stands = faulty
not_both (Named name) word faulty stands = faulty
not_both (Valued (Local name)) word faulty stands = faulty
not_both (Typed param) word faulty stands = faulty

pub meets_fits : (before : Bool) (places : List Place) (words : List (List ℕ)) (after : Bool) → Meets before places words after → AllZip Fits places words
meets_fits before [] [] after h = tt
meets_fits before [] (word ∷ words) after h = absurd h
meets_fits before (place ∷ places) [] after h = absurd h
meets_fits before (place ∷ places) (word ∷ words) after (inl h) = (inl h.0, meets_fits before places words after h.1)
meets_fits before (place ∷ places) (word ∷ words) after (inr h) = (inr (h.0, h.1), meets_fits true places words after h.2)

one_fits : (before : Bool) (place : Place) (word : List ℕ) (places : List Place) (words : List (List ℕ)) → Fits place word
    → ((b : Bool) → (after : Bool) × Meets b places words after)
    → (after : Bool) × Meets before (place ∷ places) (word ∷ words) after
one_fits before place word places words (inl s) rest = let r = rest before in (r.0, inl (s, r.1))
one_fits before place word places words (inr f) rest = let r = rest true in (r.0, inr (f.0, f.1, r.1))

pub fits_meets : (before : Bool) (places : List Place) (words : List (List ℕ)) → AllZip Fits places words → (after : Bool) × Meets before places words after
fits_meets before [] [] h = (before, refl)
fits_meets before [] (word ∷ words) h = absurd h
fits_meets before (place ∷ places) [] h = absurd h
fits_meets before (place ∷ places) (word ∷ words) h = one_fits before place word places words h.0 (λ b. fits_meets b places words h.1)

pub stands_meets : (before : Bool) (places : List Place) (words : List (List ℕ)) → AllZip Stands places words → Meets before places words before
stands_meets before [] [] h = refl
stands_meets before [] (word ∷ words) h = absurd h
stands_meets before (place ∷ places) [] h = absurd h
stands_meets before (place ∷ places) (word ∷ words) h = inl (h.0, stands_meets before places words h.1)

-- no number was faulty
pub clean : (before : Bool) (places : List Place) (words : List (List ℕ)) → Meets before places words false → (before ≡ false) × AllZip Stands places words
clean before [] [] h = (sym h, tt)
clean before [] (word ∷ words) h = absurd h
clean before (place ∷ places) [] h = absurd h
clean before (place ∷ places) (word ∷ words) (inl h) = let rest = clean before places words h.1 in (rest.0, (h.0, rest.1))
clean before (place ∷ places) (word ∷ words) (inr h) = let rest = clean true places words h.2 in let wrong : true ≡ false = rest.0 in cc

-- one was
pub spoilt : (places : List Place) (words : List (List ℕ)) → Meets false places words true → SomeZip IsFaulty places words
spoilt [] [] h = cc
spoilt [] (word ∷ words) h = absurd h
spoilt (place ∷ places) [] h = absurd h
spoilt (place ∷ places) (word ∷ words) (inl h) = inr (spoilt places words h.1)
spoilt (place ∷ places) (word ∷ words) (inr h) = inl h.0

pub faulty_not_clean : (places : List Place) (words : List (List ℕ)) → SomeZip IsFaulty places words → AllZip Stands places words → ⊥
faulty_not_clean [] words h s = absurd h
faulty_not_clean (place ∷ places) [] h s = absurd h
faulty_not_clean (place ∷ places) (word ∷ words) (inl h) s = not_both place word h s.0
faulty_not_clean (place ∷ places) (word ∷ words) (inr h) s = faulty_not_clean places words h s.1
