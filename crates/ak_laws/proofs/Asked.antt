-- Requests of a trace that grows at its end: what stands behind a request, its name there, and what fills it.
use Rattle.std.proofs.Common.{ℕ, ℤ, ◌+◌, ◌≡◌, List, [], ◌∷◌, ◌++◌, length, Bool, true, false, ◌||◌, ◌==◌, cond, Option, Some, None, refl}
use Rattle.std.proofs.Common.{sym, subst, ◌∙◌, ap, arith, append_assoc, fold}
use Rattle.std.specs.Prelude.{Contains}
use Rattle.std.specs.List.{list_any, cons_option}
use Rattle.std.specs.Option.{option_map}
use Rattle.std.proofs.lemmas.List.{append-nil, length-append}
use Rattle.std.proofs.lemmas.List.Elements.{filter_map-append, Contains-append_left, Contains-append_right}
use Rattle.std.proofs.lemmas.List.Sums.{fold-append}
use Rattle.std.proofs.lemmas.Bool.{eq-eqb, true≢false}
use Rattle.ak_trace.specs.declared.entry.Entry.{Entry}
use Rattle.ak_trace.specs.declared.entry.Entry.TheVariants as entry
use Rattle.ak_holders.proofs.Carry.{none_push}
use Rattle.ak_laws.specs.Places.{EachAfter}
use Rattle.ak_laws.specs.Requests.{asked_by, asked, is_answer_of, behind, name_by, filled_by, fillings, Fills, IsServed}

-- ---- what stands behind a request
abbrev pub longer : Entry → ℕ × List Entry → ℕ × List Entry
longer e request = (request.0, request.1 ++ e ∷ [])

abbrev pub or_else : Option (ℕ × List Entry) → Option (ℕ × List Entry) → Option (ℕ × List Entry)
or_else (Some request) new = Some request
or_else None new = new

-- after one more entry
pub behind_more : (q : ℕ) (t : List Entry) (e : Entry)
    → behind q (t ++ e ∷ []) ≡ or_else (option_map (longer e) (behind q t)) (behind q (e ∷ []))
behind_more q [] e = refl
behind_more q (entry.Request p n r ∷ t) e = by (p == q) (behind_more q t e)
  where
    by : (b : Bool) → behind q (t ++ e ∷ []) ≡ or_else (option_map (longer e) (behind q t)) (behind q (e ∷ []))
        → cond b (Some (r, t ++ e ∷ [])) (behind q (t ++ e ∷ [])) ≡ or_else (option_map (longer e) (cond b (Some (r, t)) (behind q t))) (behind q (e ∷ []))
    by true h = refl
    by false h = h
behind_more q (x ∷ t) e = behind_more q t e

-- the name of a deferred behind its request
abbrev pub IsNamed : Option (ℕ × List Entry) → ℕ → Type 0
IsNamed None i = ⊥
IsNamed (Some request) i = fold name_by request.0 request.1 ≡ i

pub named_more : (q : ℕ) (t : List Entry) (e : Entry) (i : ℕ) → IsNamed (behind q t) i → IsNamed (behind q (t ++ e ∷ [])) (name_by i e)
named_more q t e i h = subst (λ o. IsNamed o (name_by i e)) (sym (behind_more q t e)) (by (behind q t) h)
  where
    by : (o : Option (ℕ × List Entry)) → IsNamed o i → IsNamed (or_else (option_map (longer e) o) (behind q (e ∷ []))) (name_by i e)
    by None g = absurd g
    by (Some request) g = fold-append name_by request.0 request.1 (e ∷ []) ∙ ap (λ name. name_by name e) g

-- ---- what fills it
filled_append : (name : ℕ) (e : Entry) (vs ws : List ℤ) → filled_by name e (vs ++ ws) ≡ filled_by name e vs ++ ws
filled_append name (entry.Fill i v) vs ws = by (i == name)
  where
    by : (b : Bool) → cond b (v ∷ vs ++ ws) (vs ++ ws) ≡ cond b (v ∷ vs) vs ++ ws
    by true = refl
    by false = refl
filled_append name e vs ws = refl

fillings_push : (name : ℕ) (es : List Entry) (e : Entry)
    → fillings name (es ++ e ∷ []) ≡ fillings name es ++ fillings (fold name_by name es) (e ∷ [])
fillings_push name [] e = refl
fillings_push name (x ∷ es) e =
    ap (filled_by name x) (fillings_push (name_by name x) es e)
    ∙ filled_append name x (fillings (name_by name x) es) (fillings (fold name_by (name_by name x) es) (e ∷ []))

pub fills_more : (q : ℕ) (t : List Entry) (e : Entry) (v : ℤ) → Fills (behind q t) v → Fills (behind q (t ++ e ∷ [])) v
fills_more q t e v h = subst (λ o. Fills o v) (sym (behind_more q t e)) (by (behind q t) h)
  where
    by : (o : Option (ℕ × List Entry)) → Fills o v → Fills (or_else (option_map (longer e) o) (behind q (e ∷ []))) v
    by None g = absurd g
    by (Some request) g =
        let more : List ℤ = fillings (fold name_by request.0 request.1) (e ∷ [])
        in subst (λ vs. Contains vs v) (sym (fillings_push request.0 request.1 e)) (Contains-append_left (fillings request.0 request.1) more v g)

-- a fill of the name that it has
pub fills_now : (q : ℕ) (t : List Entry) (i : ℕ) (v : ℤ) → IsNamed (behind q t) i → Fills (behind q (t ++ entry.Fill i v ∷ [])) v
fills_now q t i v h = subst (λ o. Fills o v) (sym (behind_more q t (entry.Fill i v))) (by (behind q t) h)
  where
    first : (name : ℕ) → name ≡ i → Contains (fillings name (entry.Fill i v ∷ [])) v
    first name g =
        let here : (i == name) ≡ true = eq-eqb i name (sym g)
        in subst (λ b. Contains (cond b (v ∷ []) []) v) (sym here) (0, omega arith, refl)

    by : (o : Option (ℕ × List Entry)) → IsNamed o i → Fills (or_else (option_map (longer (entry.Fill i v)) o) (behind q (entry.Fill i v ∷ []))) v
    by None g = absurd g
    by (Some request) g =
        let more : List ℤ = fillings (fold name_by request.0 request.1) (entry.Fill i v ∷ [])
        in subst (λ vs. Contains vs v) (sym (fillings_push request.0 request.1 (entry.Fill i v)))
        (Contains-append_right (fillings request.0 request.1) more v (first (fold name_by request.0 request.1) g))

-- ---- how many requests there are
pub asked_same : (t : List Entry) (e : Entry) → asked_by e ≡ None → length (asked (t ++ e ∷ [])) ≡ length (asked t)
asked_same t e h =
    ap length (filter_map-append asked_by t (e ∷ []) ∙ ap (λ (o : Option ℕ). asked t ++ cons_option o []) h ∙ append-nil (asked t))

pub asked_one : (t : List Entry) (q : ℕ) (n : ℤ) (r : ℕ) → length (asked (t ++ entry.Request q n r ∷ [])) ≡ length (asked t) + 1
asked_one t q n r = ap length (filter_map-append asked_by t (entry.Request q n r ∷ [])) ∙ length-append (asked t) (q ∷ [])

-- ---- the rule of each place, with one more entry behind it
-- an entry that answers none of the requests that these answer
abbrev pub IsNew : Entry → List Entry → Type 0
IsNew e es = (q : ℕ) → is_answer_of q e ≡ true → list_any (is_answer_of q) es ≡ false

served_longer : (before : List Entry) (x : Entry) (es : List Entry) (e : Entry) → IsNew e (x ∷ es) → IsServed before x es
    → IsServed before x (es ++ e ∷ [])
served_longer before (entry.Answer q v) es e new h = (h.0, none_push (is_answer_of q) es e h.1 (by (is_answer_of q e) refl))
  where
    by : (b : Bool) → is_answer_of q e ≡ b → b ≡ false
    by true g = absurd (true≢false (sym (ap (λ b. b || list_any (is_answer_of q) es) (eq-eqb q q refl)) ∙ new q g))
    by false g = refl
served_longer before x es e new h = h

rest_new : (x : Entry) (es : List Entry) (e : Entry) → IsNew e (x ∷ es) → IsNew e es
rest_new x es e new q g = by (is_answer_of q x) (new q g)
  where
    by : (b : Bool) → (b || list_any (is_answer_of q) es) ≡ false → list_any (is_answer_of q) es ≡ false
    by true h = absurd (true≢false h)
    by false h = h

pub served_push : (before es : List Entry) (e : Entry) → IsNew e es → IsServed (before ++ es) e [] → EachAfter IsServed before es
    → EachAfter IsServed before (es ++ e ∷ [])
served_push before [] e new rule h = (subst (λ t. IsServed t e []) (append-nil before) rule, tt)
served_push before (x ∷ es) e new rule h = (
  served_longer before x es e new h.0,
  served_push (before ++ x ∷ []) es e (rest_new x es e new)
      (subst (λ t. IsServed t e []) (sym (append_assoc before (x ∷ []) es)) rule) h.1,
)
