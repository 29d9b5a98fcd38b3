-- Works that are kept in a map under their numbers.
use Rattle.std.proofs.Common.{ℕ, ◌+◌, ◌<◌, ◌≤◌, ◌≡◌, zero-add, List, [], ◌∷◌, ◌++◌, refl, ap, sym, ◌∙◌, subst, Bool, true, false, cond, arith, Option, Some, None}
use Rattle.std.specs.Prelude.{not, ◌==◌, ◌&&◌, filter, find, map, is_none}
use Rattle.std.specs.List.{list_all}
use Rattle.std.specs.Map.{values_of, lookup, remove_entry}
use Rattle.std.specs.BTreeMap.{is_at, insert_entry}
use Rattle.std.proofs.Common.{Greater}
use Rattle.std.specs.Ordering.{is_eq, nat_cmp, match_ordering}
use Rattle.std.proofs.lemmas.Bool.{eqb-true}
use Rattle.std.proofs.lemmas.Bool.Decides.{nat_tests}
use Rattle.ak_base.specs.Numbers.{AreNumbered}
use Rattle.ak_base.proofs.Numbers.{no_earlier, numbered_more, numbered_filtered}
use Rattle.ak_machine.specs.declared.held.Outstanding.{Outstanding}
use Rattle.ak_machine.specs.Cycle.{is_work, is_other_work, is_general}
use Rattle.ak_state.specs.Works.{number_of, under_number, helped_by, helped_among, AreKept}

values_same : (works : List Outstanding) → values_of (map under_number works) ≡ works
values_same [] = refl
values_same (work ∷ works) = ap (λ xs. work ∷ xs) (values_same works)

number_test : (w n : ℕ) → is_eq (nat_cmp w n) ≡ (n == w)
number_test w n = grind (arith, nat_tests)

found_same : (w : ℕ) (works : List Outstanding) → lookup (is_at (nat_cmp w)) (map under_number works) ≡ find (is_work w) works
found_same w [] = refl
found_same w (work ∷ works) =
    ap (λ t. cond t (Some work) (lookup (is_at (nat_cmp w)) (map under_number works))) (number_test w work.number)
    ∙ ap (λ r. cond (work.number == w) (Some work) r) (found_same w works)

out_by : (t : Bool) (low high w : ℕ) (work : Outstanding) (works : List Outstanding) → (work.number == w) ≡ t
    → AreNumbered number_of low high (work ∷ works)
    → remove_entry (is_at (nat_cmp w)) (map under_number works) ≡ map under_number (filter (is_other_work w) works)
    → cond t (map under_number works) (under_number work ∷ remove_entry (is_at (nat_cmp w)) (map under_number works)) ≡ map under_number
    (cond (not t) (work ∷ filter (is_other_work w) works) (filter (is_other_work w) works))
out_by true low high w work works h n r =
    ap (map under_number) (sym (no_earlier number_of (work.number + 1) high w works (omega (arith, eqb-true work.number w h)) n.2).1)
out_by false low high w work works h n r = ap (λ es. under_number work ∷ es) r

out_of_map : (low high w : ℕ) (works : List Outstanding) → AreNumbered number_of low high works
    → remove_entry (is_at (nat_cmp w)) (map under_number works) ≡ map under_number (filter (is_other_work w) works)
out_of_map low high w [] n = refl
out_of_map low high w (work ∷ works) n =
    ap (λ t. cond t (map under_number works) (under_number work ∷ remove_entry (is_at (nat_cmp w)) (map under_number works))) (number_test w work.number)
    ∙ out_by (work.number == w) low high w work works refl n (out_of_map (work.number + 1) high w works n.2)

newest : (a b : ℕ) → b < a → nat_cmp a b ≡ Greater
newest a b l = grind (arith, nat_tests)

into_map : (low high : ℕ) (new : Outstanding) (works : List Outstanding) → new.number ≡ high → AreNumbered number_of low high works
    → insert_entry nat_cmp (map under_number works) high new ≡ map under_number (works ++ new ∷ [])
into_map low high new [] e n = ap (λ k. (k, new) ∷ []) (sym e)
into_map low high new (work ∷ works) e n =
    ap (λ o. match_ordering o ((high, new) ∷ map under_number (work ∷ works)) ((work.number, new) ∷ map under_number works)
    (under_number work ∷ insert_entry nat_cmp (map under_number works) high new))
    (newest high work.number n.1)
    ∙ ap (λ es. under_number work ∷ es) (into_map (work.number + 1) high new works e n.2)

-- ---- how many are for helpers
one_at_most : (helper : Option ℕ) → helped_by helper ≤ 1
one_at_most None = omega arith
one_at_most (Some h) = omega arith

helped_within : (low high : ℕ) (works : List Outstanding) → low ≤ high → AreNumbered number_of low high works → low + helped_among works ≤ high
helped_within low high [] l n = omega (arith, l)
helped_within low high (work ∷ works) l n =
    let one = one_at_most work.helper
    in let rest = helped_within (work.number + 1) high works (omega (arith, n.1)) n.2
    in omega (arith, one, rest, n.0)

helped_push : (works : List Outstanding) (new : Outstanding) → helped_among (works ++ new ∷ []) ≡ helped_by new.helper + helped_among works
helped_push [] new = refl
helped_push (work ∷ works) new =
    let rest = helped_push works new
    in omega (arith, rest)

helped_out : (low high w : ℕ) (works : List Outstanding) (work : Outstanding) → AreNumbered number_of low high works → find (is_work w) works ≡ Some work
    → helped_by work.helper + helped_among (filter (is_other_work w) works) ≡ helped_among works
helped_out low high w [] work n e = absurd (cc)
helped_out low high w (x ∷ works) work n e = by (x.number == w) refl e (λ k. helped_out (x.number + 1) high w works work n.2 k)
  where
    by : (b : Bool) → (x.number == w) ≡ b → cond b (Some x) (find (is_work w) works) ≡ Some work
        → (find (is_work w) works ≡ Some work → helped_by work.helper + helped_among (filter (is_other_work w) works) ≡ helped_among works)
        → helped_by work.helper + helped_among (cond (not b) (x ∷ filter (is_other_work w) works) (filter (is_other_work w) works))
        ≡ helped_by x.helper + helped_among works
    by true h k r =
        let same : x ≡ work = cc
        in let rest : filter (is_other_work w) works ≡ works =
        (no_earlier number_of (x.number + 1) high w works (omega (arith, eqb-true x.number w h)) n.2).1
        in ap (λ ws. helped_by work.helper + helped_among ws) rest ∙ ap (λ (y : Outstanding). helped_by y.helper + helped_among works) (sym same)
    by false h k r = let rest = r k in omega (arith, rest)

general_by : (helper : Option ℕ) (works : List Outstanding) → ((helped_among works == 0) ≡ list_all is_general works)
    → ((helped_by helper + helped_among works) == 0) ≡ (is_none helper && list_all is_general works)
general_by None works e = ap (λ n. n == 0) (zero-add (helped_among works)) ∙ e
general_by (Some h) works e = grind (arith, nat_tests)

pub all_general : (works : List Outstanding) → (helped_among works == 0) ≡ list_all is_general works
all_general [] = refl
all_general (work ∷ works) = general_by work.helper works (all_general works)

-- ---- the map
pub few_helped : (next helped : ℕ) (entries : List (ℕ × Outstanding)) → AreKept next helped entries → helped ≤ next
few_helped next helped entries k =
    let most = helped_within 0 next (values_of entries) (omega arith) k.numbered
    in omega (arith, most, k.counted)

pub found_in : (next helped w : ℕ) (entries : List (ℕ × Outstanding)) → AreKept next helped entries
    → lookup (is_at (nat_cmp w)) entries ≡ find (is_work w) (values_of entries)
found_in next helped w entries k = ap (lookup (is_at (nat_cmp w))) k.under ∙ found_same w (values_of entries)

entries_out : (next helped w : ℕ) (entries : List (ℕ × Outstanding)) → AreKept next helped entries
    → remove_entry (is_at (nat_cmp w)) entries ≡ map under_number (filter (is_other_work w) (values_of entries))
entries_out next helped w entries k = ap (remove_entry (is_at (nat_cmp w))) k.under ∙ out_of_map 0 next w (values_of entries) k.numbered

pub values_out : (next helped w : ℕ) (entries : List (ℕ × Outstanding)) → AreKept next helped entries
    → values_of (remove_entry (is_at (nat_cmp w)) entries) ≡ filter (is_other_work w) (values_of entries)
values_out next helped w entries k = ap values_of (entries_out next helped w entries k) ∙ values_same (filter (is_other_work w) (values_of entries))

-- where it is not there, nothing is taken
none_out : (w : ℕ) (works : List Outstanding) → find (is_work w) works ≡ None → filter (is_other_work w) works ≡ works
none_out w [] e = refl
none_out w (x ∷ works) e = by (x.number == w) e (none_out w works)
  where
    by : (b : Bool) → cond b (Some x) (find (is_work w) works) ≡ None → (find (is_work w) works ≡ None → filter (is_other_work w) works ≡ works)
        → cond (not b) (x ∷ filter (is_other_work w) works) (filter (is_other_work w) works) ≡ x ∷ works
    by true k r = absurd (cc)
    by false k r = ap (λ ws. x ∷ ws) (r k)

pub none_taken : (next helped w : ℕ) (entries : List (ℕ × Outstanding)) → AreKept next helped entries → lookup (is_at (nat_cmp w)) entries ≡ None
    → filter (is_other_work w) (values_of entries) ≡ values_of entries
none_taken next helped w entries k e = none_out w (values_of entries) (sym (found_in next helped w entries k) ∙ e)

pub kept_out : (next helped helped' w : ℕ) (work : Outstanding) (entries left : List (ℕ × Outstanding)) → AreKept next helped entries
    → lookup (is_at (nat_cmp w)) entries ≡ Some work → left ≡ remove_entry (is_at (nat_cmp w)) entries → helped_by work.helper + helped' ≡ helped
    → AreKept next helped' left
kept_out next helped helped' w work entries left k f e c =
    let works : List Outstanding = values_of entries
    in let rest : values_of left ≡ filter (is_other_work w) works = ap values_of e ∙ values_out next helped w entries k
    in let found : find (is_work w) works ≡ Some work = sym (found_in next helped w entries k) ∙ f
    in let counts = helped_out 0 next w works work k.numbered found
    in let counted : helped' ≡ helped_among (filter (is_other_work w) works) = omega (arith, counts, c, k.counted)
    in record {
      numbered = subst (AreNumbered number_of 0 next) (sym rest) (numbered_filtered number_of (is_other_work w) 0 next works k.numbered);
      under = e ∙ entries_out next helped w entries k ∙ ap (map under_number) (sym rest);
      counted = counted ∙ ap helped_among (sym rest);
    }

pub helped_there : (next helped w : ℕ) (work : Outstanding) (entries : List (ℕ × Outstanding)) → AreKept next helped entries
    → lookup (is_at (nat_cmp w)) entries ≡ Some work → helped_by work.helper ≤ helped
helped_there next helped w work entries k f =
    let found : find (is_work w) (values_of entries) ≡ Some work = sym (found_in next helped w entries k) ∙ f
    in let counts = helped_out 0 next w (values_of entries) work k.numbered found
    in omega (arith, counts, k.counted)

entries_in : (next helped : ℕ) (new : Outstanding) (entries : List (ℕ × Outstanding)) → AreKept next helped entries → new.number ≡ next
    → insert_entry nat_cmp entries next new ≡ map under_number (values_of entries ++ new ∷ [])
entries_in next helped new entries k e =
    ap (λ es. insert_entry nat_cmp es next new) k.under ∙ into_map 0 next new (values_of entries) e k.numbered

pub values_in : (next helped : ℕ) (new : Outstanding) (entries : List (ℕ × Outstanding)) → AreKept next helped entries → new.number ≡ next
    → values_of (insert_entry nat_cmp entries next new) ≡ values_of entries ++ new ∷ []
values_in next helped new entries k e = ap values_of (entries_in next helped new entries k e) ∙ values_same (values_of entries ++ new ∷ [])

pub kept_in : (next helped helped' : ℕ) (new : Outstanding) (entries more : List (ℕ × Outstanding)) → AreKept next helped entries → new.number ≡ next
    → more ≡ insert_entry nat_cmp entries next new → helped' ≡ helped_by new.helper + helped → AreKept (next + 1) helped' more
kept_in next helped helped' new entries more k e m c =
    let works : List Outstanding = values_of entries
    in let all : values_of more ≡ works ++ new ∷ [] = ap values_of m ∙ values_in next helped new entries k e
    in record {
      numbered = subst (AreNumbered number_of 0 (next + 1)) (sym all) (numbered_more number_of 0 next works new (omega arith) e k.numbered);
      under = m ∙ entries_in next helped new entries k e ∙ ap (map under_number) (sym all);
      counted = c ∙ ap (λ n. helped_by new.helper + n) k.counted ∙ sym (helped_push works new) ∙ ap helped_among (sym all);
    }
