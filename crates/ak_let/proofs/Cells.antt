-- What a fresh ivar, a handler and a fill leave as they were.
use Rattle.std.proofs.Common.{ℕ, suc, ◌<◌, ◌≡◌, ◌≢◌, List, [], ◌∷◌, ◌++◌, length, refl, ap, sym, ◌∙◌, Bool, true, false, cond, not, ◌==◌, Some, None, filter, arith, append-nil, get_or-set_other, length-append, length-set, ℤ}
use Rattle.std.proofs.Math.Seq.{get_or-append_seam}
use Rattle.std.proofs.lemmas.Bool.{eq-eqb, ne_eqb, eqb-true}
use Rattle.std.proofs.lemmas.List.{get_or_append_left}
use Rattle.std.proofs.lemmas.List.Elements.{filter-append}
use Rattle.ak_base.specs.declared.number.Ctx.{Ctx}
use Rattle.ak_cells.specs.declared.registration.Registration.{Registration}
use Rattle.ak_cells.specs.Cells.{Cells, with_fresh, number_in, with_registration, is_on, is_off, waiting_on, filled}

-- the handler that is registered next
abbrev pub registered : {F : Type 0} → ℕ → Ctx → F → Cells F → Registration F
registered i ctx frame c = record { number = c.next; ivar = i; ctx = ctx; frame = frame }

pub push_other : {F : Type 0} (i j : ℕ) (ctx : Ctx) (frame : F) (c : Cells F) → i ≢ j → waiting_on j (with_registration i ctx frame c) ≡ waiting_on j c
push_other {F} i j ctx frame c h =
    let g : Registration F = registered i ctx frame c
    in filter-append (is_on j) c.registrations (g ∷ [])
    ∙ ap (λ b. filter (is_on j) c.registrations ++ cond b (g ∷ []) []) (ne_eqb i j h)
    ∙ append-nil (filter (is_on j) c.registrations)

pub push_same : {F : Type 0} (i : ℕ) (ctx : Ctx) (frame : F) (c : Cells F) → waiting_on i c ≡ []
    → waiting_on i (with_registration i ctx frame c) ≡ registered i ctx frame c ∷ []
push_same {F} i ctx frame c h =
    let g : Registration F = registered i ctx frame c
    in filter-append (is_on i) c.registrations (g ∷ [])
    ∙ ap (λ b. filter (is_on i) c.registrations ++ cond b (g ∷ []) []) (eq-eqb i i refl)
    ∙ ap (λ l. l ++ g ∷ []) h

filter_off : {F : Type 0} (i j : ℕ) → j ≢ i → (gs : List (Registration F)) → filter (is_on j) (filter (is_off i) gs) ≡ filter (is_on j) gs
filter_off i j h [] = refl
filter_off {F} i j h (g ∷ gs) = by (g.ivar == i) refl (filter_off i j h gs)
  where
    by : (b : Bool) → (g.ivar == i) ≡ b → filter (is_on j) (filter (is_off i) gs) ≡ filter (is_on j) gs
        → filter (is_on j) (cond (not (g.ivar == i)) (g ∷ filter (is_off i) gs) (filter (is_off i) gs))
        ≡ cond (g.ivar == j) (g ∷ filter (is_on j) gs) (filter (is_on j) gs)
    by true e ih =
        ap (λ b. filter (is_on j) (cond (not b) (g ∷ filter (is_off i) gs) (filter (is_off i) gs))) e
        ∙ ih
        ∙ sym (ap (λ b. cond b (g ∷ filter (is_on j) gs) (filter (is_on j) gs)) (ne_eqb g.ivar j (λ k. h (sym k ∙ eqb-true g.ivar i e))))
    by false e ih =
        ap (λ b. filter (is_on j) (cond (not b) (g ∷ filter (is_off i) gs) (filter (is_off i) gs))) e
        ∙ ap (λ l. cond (g.ivar == j) (g ∷ l) l) ih

pub fill_other : {F : Type 0} (i j : ℕ) (v : ℤ) (c : Cells F) → j ≢ i → waiting_on j (filled i v c) ≡ waiting_on j c
fill_other i j v c h = filter_off i j h c.registrations

pub number_filled : {F : Type 0} (i j : ℕ) (v : ℤ) (c : Cells F) → j ≢ i → number_in j (filled i v c) ≡ number_in j c
number_filled i j v c h = get_or-set_other c.ivars i j (Some v) None h

pub number_fresh : {F : Type 0} (c : Cells F) → number_in (length c.ivars) (with_fresh c) ≡ None
number_fresh c = get_or-append_seam c.ivars None [] None

pub number_older : {F : Type 0} (j : ℕ) (c : Cells F) → j < length c.ivars → number_in j (with_fresh c) ≡ number_in j c
number_older j c h = get_or_append_left c.ivars (None ∷ []) None j h

pub ivars_fresh : {F : Type 0} (c : Cells F) → length (with_fresh c).ivars ≡ suc (length c.ivars)
ivars_fresh c = omega (arith, length-append c.ivars (None ∷ []))

pub ivars_filled : {F : Type 0} (i : ℕ) (v : ℤ) (c : Cells F) → length (filled i v c).ivars ≡ length c.ivars
ivars_filled i v c = length-set c.ivars i (Some v)
