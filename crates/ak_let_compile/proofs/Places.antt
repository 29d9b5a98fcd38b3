-- Where functions begin, one by one.
use Rattle.std.proofs.Common.{ℕ, zero, suc, ◌+◌, ◌≤◌, ◌≡◌, List, [], ◌∷◌, ◌++◌, length, drop, slice_index_or, refl, ap, ap₂, sym, ◌∙◌, arith}
use Rattle.std.proofs.lemmas.List.{append-nil}
use Rattle.ak_let.specs.declared.source.Line.{Line}
use Rattle.ak_let.specs.declared.source.Line.TheVariants.{Let, Compute, Print, Raise, Return, Await, AwaitWork, Try}
use Rattle.ak_let.specs.declared.source.Fun.{Fun}
use Rattle.ak_let.specs.Compile.{awaits, entry_from}

-- a line before others
pub awaits_cons : (line : Line) (lines : List Line) → awaits (line ∷ lines) ≡ awaits (line ∷ []) + awaits lines
awaits_cons (Let a) lines = omega arith
awaits_cons (Compute a op b) lines = omega arith
awaits_cons (Print when a) lines = omega arith
awaits_cons (Raise when a) lines = omega arith
awaits_cons (Return when a) lines = omega arith
awaits_cons (Await f args) lines = omega arith
awaits_cons (AwaitWork kind a) lines = omega arith
awaits_cons (Try f args g) lines = omega arith

pub awaits_one : (line : Line) → awaits (line ∷ []) ≤ 1
awaits_one (Let a) = omega arith
awaits_one (Compute a op b) = omega arith
awaits_one (Print when a) = omega arith
awaits_one (Raise when a) = omega arith
awaits_one (Return when a) = omega arith
awaits_one (Await f args) = omega arith
awaits_one (AwaitWork kind a) = omega arith
awaits_one (Try f args g) = omega arith

-- the places of functions, the first of them at a place, and the place behind them
abbrev pub places_from : ℕ → List Fun → List ℕ
places_from place [] = []
places_from place (fun ∷ funs) = place ∷ places_from (place + suc (awaits fun.lines)) funs

abbrev pub behind_from : ℕ → List Fun → ℕ
behind_from place [] = place
behind_from place (fun ∷ funs) = behind_from (place + suc (awaits fun.lines)) funs

pub entry_is : (place : ℕ) (funs : List Fun) (f : ℕ) → slice_index_or (places_from place funs) f (behind_from place funs) ≡ entry_from place funs f
entry_is place [] f = refl
entry_is place (fun ∷ funs) zero = refl
entry_is place (fun ∷ funs) (suc f) = entry_is (place + suc (awaits fun.lines)) funs f

pub drop_past : {X : Type 0} (xs : List X) (i : ℕ) → length xs ≤ i → drop i xs ≡ []
drop_past [] zero l = refl
drop_past [] (suc i) l = refl
drop_past (x ∷ xs) zero l = absurd (omega (arith, l))
drop_past (x ∷ xs) (suc i) l = drop_past xs i (omega (arith, l))

-- behind the last function all places stand
pub finished : (places : List ℕ) (behind i : ℕ) (funs : List Fun) → length funs ≤ i
    → places ++ places_from behind (drop i funs) ≡ places_from 1 funs → behind_from behind (drop i funs) ≡ behind_from 1 funs
    → (f : ℕ) → slice_index_or places f behind ≡ entry_from 1 funs f
finished places behind i funs l e h f =
    let none : drop i funs ≡ [] = drop_past funs i l
    in ap₂ (λ ps b. slice_index_or ps f b)
    (sym (append-nil places) ∙ ap (λ r. places ++ places_from behind r) (sym none) ∙ e)
    (ap (λ r. behind_from behind r) (sym none) ∙ h)
    ∙ entry_is 1 funs f
