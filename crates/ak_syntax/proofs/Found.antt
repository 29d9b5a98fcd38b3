-- What follows from what was found.
use Rattle.std.proofs.Common.{◌≡◌, Bool, true, false, Some, Result, Ok, Err, refl, ap, cond, ◌⊎◌, inl, inr}
use Rattle.ak_syntax.specs.Words.{Bad, bad, ◌>>=◌}

abbrev pub good : {A : Type 0} → A → Result A Bad
good a = Ok a

abbrev pub good_pair : {A B : Type 0} → A → B → Result (A × B) Bad
good_pair a b = Ok (a, b)

pub ok_is : {A : Type 0} {a b : A} → good a ≡ good b → a ≡ b
ok_is e = cc

pub ok_pair : {A B : Type 0} {a c : A} {b d : B} → good_pair a b ≡ good_pair c d → (a ≡ c) × (b ≡ d)
ok_pair {A} {B} {a} {c} {b} {d} e = let first : A × B = (a, b) in let second : A × B = (c, d) in
    let p : first ≡ second = ok_is e in (ap (λ (x : A × B). x.0) p, ap (λ (x : A × B). x.1) p)

-- what was found first, and then
pub bind_ok : {A B : Type 0} (r : Result A Bad) (f : A → Result B Bad) (b : B) → (r >>= f) ≡ Ok b → (a : A) × (r ≡ Ok a) × (f a ≡ Ok b)
bind_ok (Ok a) f b h = (a, refl, h)
bind_ok (Err e) f b h = cc

pub bind_is : {A B : Type 0} (r : Result A Bad) (f : A → Result B Bad) (a : A) → r ≡ Ok a → (r >>= f) ≡ f a
bind_is (Ok b) f a h = ap f (ok_is h)
bind_is (Err e) f a h = cc

pub bind_err : {A B : Type 0} (r : Result A Bad) (f : A → Result B Bad) (kind : Bad) → r ≡ Err kind → (r >>= f) ≡ Err kind
bind_err (Ok b) f kind h = cc
bind_err (Err e) f kind h = cc

-- the case of a test
pub chosen : {A : Type 0} (b : Bool) (x y z : A) → cond b x y ≡ z → ((b ≡ true) × (x ≡ z)) ⊎ ((b ≡ false) × (y ≡ z))
chosen true x y z h = inl (refl, h)
chosen false x y z h = inr (refl, h)

-- the test holds, where it does not give what is refused
pub passed : {A : Type 0} (b : Bool) (x : Result A Bad) (z : A) → cond b x (Err bad) ≡ Ok z → (b ≡ true) × (x ≡ Ok z)
passed true x z h = (refl, h)
passed false x z h = cc

pub some_is : {A : Type 0} {a b : A} → Some a ≡ Some b → a ≡ b
some_is e = cc

pub if_not : {A : Type 0} (b : Bool) (x y : A) → b ≡ false → cond b x y ≡ y
if_not true x y h = cc
if_not false x y h = refl

pub if_so : {A : Type 0} (b : Bool) (x y : A) → b ≡ true → cond b x y ≡ x
if_so true x y h = refl
if_so false x y h = cc
