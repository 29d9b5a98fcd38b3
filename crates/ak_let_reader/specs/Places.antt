-- Where the functions of a source stand, by their names: what a table of them holds.
use Rattle.std.specs.Prelude.{◌≡◌, ℕ, List}
use Rattle.std.specs.List.{position}
use Rattle.std.specs.Map.{lookup}
use Rattle.std.specs.Str.{bytes_eq}
use Rattle.std.specs.Borrow.{Bor}

-- a name leads to the first place where it stands, and to none where it stands nowhere
abbrev pub ArePlaces : List (Bor (List ℕ) × ℕ) → List (List ℕ) → Type 0
ArePlaces entries names =
    (name : List ℕ) → lookup (λ key. bytes_eq name key.now) entries ≡ position (bytes_eq name) names
