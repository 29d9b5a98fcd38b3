-- Lists that are made item by item, and the locals of a body.
use Rattle.std.proofs.Common.{◌≡◌, ℕ, ◌+◌, ◌<◌, List, [], ◌∷◌, ◌++◌, length, map, take, get_or, refl, sym, ap, ◌∙◌}
use Rattle.std.proofs.lemmas.List.{map-append}
use Rattle.std.specs.List.{flat_map}
use Rattle.ak_script.specs.declared.script.Param.{Param}
use Rattle.ak_script.specs.declared.script.Statement.{Statement}
use Rattle.ak_script.specs.Statements.{binds}
use Rattle.ak_valid.specs.Numbered.{param_names}
use Rattle.ak_valid.proofs.Naming.{take_next}

pub mapped_next : {A B : Type 0} (f : A → B) (xs : List A) (i : ℕ) (x : A) (done new : List B) (y : B) → i < length xs → x ≡ get_or xs i x
    → done ≡ map f (take i xs) → new ≡ done ++ y ∷ [] → y ≡ f x
    → new ≡ map f (take (i + 1) xs)
mapped_next f xs i x done new y below is so_far grown same = grown ∙ rw (so_far, same, take_next xs i x below is) (sym (map-append f (take i xs) (x ∷ [])))

pub map_twice : {A B C : Type 0} (g : B → C) (f : A → B) (xs : List A) → map g (map f xs) ≡ map (λ x. g (f x)) xs
map_twice g f [] = refl
map_twice g f (x ∷ xs) = ap (λ rest. g (f x) ∷ rest) (map_twice g f xs)

abbrev pub all_binds : List Statement → List Param
all_binds body = flat_map (λ (statement : Statement). binds statement.stmt) body

pub names_append : (xs ys : List Param) → param_names (xs ++ ys) ≡ param_names xs ++ param_names ys
names_append xs ys = map-append (λ (param : Param). param.name) xs ys
