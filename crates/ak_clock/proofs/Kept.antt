-- An alarm that is set, and one that is gone, in the map and in the set.
use Rattle.std.proofs.Common.{ℕ, ℤ, ◌+◌, ◌<◌, ◌≡◌, List, [], ◌∷◌, ◌++◌, refl, ap, sym, ◌∙◌, subst, Bool, true, false, cond, arith, inl, inr, append-nil}
use Rattle.std.specs.Prelude.{◌<ℤ◌, not, ◌==◌, filter, find, map, Some, int_lt}
use Rattle.std.specs.List.{All}
use Rattle.std.specs.Map.{values_of, lookup, remove_entry}
use Rattle.std.specs.Set.{remove_key}
use Rattle.std.specs.BTreeMap.{is_at, insert_entry}
use Rattle.std.specs.BTreeSet.{insert_key}
use Rattle.std.proofs.Common.{Ordering, Less, Equal, Greater}
use Rattle.std.specs.Ordering.{is_eq, nat_cmp, int_cmp, ordering_then, match_ordering}
use Rattle.std.proofs.lemmas.Bool.{eq-eqb, ne_eqb, eqb-true, false≢true}
use Rattle.std.proofs.lemmas.Bool.Decides.{nat_tests, Decides-int_eq}
use Rattle.std.proofs.lemmas.Int.{ints}
use Rattle.std.proofs.lemmas.List.Elements.{All-head, All-tail, All-weaker, filter-append}
use Rattle.std.proofs.lemmas.List.Sums.{fold-append}
use Rattle.ak_clock.specs.declared.alarm.Alarm.{Alarm}
use Rattle.ak_clock.specs.Clock.{Clock, is_alarm, is_other_alarm, insert_alarm, inserted, by_time}
use Rattle.ak_clock.specs.Kept.{under_number, place_of, AreKept}
use Rattle.ak_base.specs.Numbers.{AreNumbered}
use Rattle.ak_clock.specs.Order.{number_of, IsBefore, AreByTime}
use Rattle.ak_base.proofs.Numbers.{no_earlier, numbered_more, numbered_filtered}
use Rattle.ak_clock.proofs.Numbered.{IsFound, all_below, each_found, found_has}
use Rattle.ak_clock.proofs.Due.{all_by_time, sorted, filtered}

-- the clock of which the map has the alarms
abbrev pub seen : ℤ → List (ℕ × Alarm) → ℕ → List ℕ → Clock
seen time entries next yields = record { time = time; alarms = values_of entries; next = next; yields = yields }

pub values_same : (alarms : List Alarm) → values_of (map under_number alarms) ≡ alarms
values_same [] = refl
values_same (a ∷ alarms) = ap (λ xs. a ∷ xs) (values_same alarms)

-- an alarm by its number
number_test : (e n : ℕ) → is_eq (nat_cmp e n) ≡ (n == e)
number_test e n = grind (arith, nat_tests)

pub found_same : (e : ℕ) (alarms : List Alarm) → lookup (is_at (nat_cmp e)) (map under_number alarms) ≡ find (is_alarm e) alarms
found_same e [] = refl
found_same e (a ∷ alarms) =
    ap (λ t. cond t (Some a) (lookup (is_at (nat_cmp e)) (map under_number alarms))) (number_test e a.no)
    ∙ ap (λ r. cond (a.no == e) (Some a) r) (found_same e alarms)

out_by : (t : Bool) (low high e : ℕ) (a : Alarm) (alarms : List Alarm) → (a.no == e) ≡ t → AreNumbered number_of low high (a ∷ alarms)
    → remove_entry (is_at (nat_cmp e)) (map under_number alarms) ≡ map under_number (filter (is_other_alarm e) alarms)
    → cond t (map under_number alarms) (under_number a ∷ remove_entry (is_at (nat_cmp e)) (map under_number alarms)) ≡ map under_number
    (cond (not t) (a ∷ filter (is_other_alarm e) alarms) (filter (is_other_alarm e) alarms))
out_by true low high e a alarms h n r = ap (map under_number) (sym (no_earlier number_of (a.no + 1) high e alarms (omega (arith, eqb-true a.no e h)) n.2).1)
out_by false low high e a alarms h n r = ap (λ es. under_number a ∷ es) r

out_of_map : (low high e : ℕ) (alarms : List Alarm) → AreNumbered number_of low high alarms
    → remove_entry (is_at (nat_cmp e)) (map under_number alarms) ≡ map under_number (filter (is_other_alarm e) alarms)
out_of_map low high e [] n = refl
out_of_map low high e (a ∷ alarms) n =
    ap (λ t. cond t (map under_number alarms) (under_number a ∷ remove_entry (is_at (nat_cmp e)) (map under_number alarms))) (number_test e a.no)
    ∙ out_by (a.no == e) low high e a alarms refl n (out_of_map (a.no + 1) high e alarms n.2)

-- the newest alarm goes last
newest : (a b : ℕ) → b < a → nat_cmp a b ≡ Greater
newest a b l = grind (arith, nat_tests)

into_map : (a : Alarm) (alarms : List Alarm) → All (λ (b : Alarm). b.no < a.no) alarms
    → insert_entry nat_cmp (map under_number alarms) a.no a ≡ map under_number (alarms ++ a ∷ [])
into_map a [] h = refl
into_map a (b ∷ alarms) h =
    ap (λ o. match_ordering o (under_number a ∷ map under_number (b ∷ alarms)) ((b.no, a) ∷ map under_number alarms)
    (under_number b ∷ insert_entry nat_cmp (map under_number alarms) a.no a))
    (newest a.no b.no (All-head (λ (b : Alarm). b.no < a.no) b alarms h))
    ∙ ap (λ es. under_number b ∷ es) (into_map a alarms (All-tail (λ (b : Alarm). b.no < a.no) b alarms h))

-- the order of places
abbrev pub place_cmp : ℤ × ℕ → ℤ × ℕ → Ordering
place_cmp p q = ordering_then (int_cmp p.0 q.0) (nat_cmp p.1 q.1)

place_less : (s t : ℤ) (o : Ordering) → int_lt s t ≡ true → ordering_then (int_cmp s t) o ≡ Less
place_less s t o e = ap (λ b. ordering_then (cond b Less (cond (int_lt t s) Greater Equal)) o) e

greater_by : (u : Bool) (o : Ordering) → o ≡ Greater → ordering_then (cond u Greater Equal) o ≡ Greater
greater_by true o e = refl
greater_by false o e = e

place_greater : (s t : ℤ) (o : Ordering) → int_lt s t ≡ false → o ≡ Greater → ordering_then (int_cmp s t) o ≡ Greater
place_greater s t o e g = ap (λ b. ordering_then (cond b Less (cond (int_lt t s) Greater Equal)) o) e ∙ greater_by (int_lt t s) o g

into_set_by : (t : Bool) (a b : Alarm) (alarms : List Alarm) → int_lt a.time b.time ≡ t → b.no < a.no
    → insert_key place_cmp (map place_of alarms) (place_of a) ≡ map place_of (insert_alarm a alarms)
    → insert_key place_cmp (map place_of (b ∷ alarms)) (place_of a) ≡ map place_of (cond t (a ∷ b ∷ alarms) (b ∷ insert_alarm a alarms))
into_set_by true a b alarms e l r =
    ap (λ o. match_ordering o (place_of a ∷ map place_of (b ∷ alarms)) (map place_of (b ∷ alarms))
    (place_of b ∷ insert_key place_cmp (map place_of alarms) (place_of a))) (place_less a.time b.time (nat_cmp a.no b.no) e)
into_set_by false a b alarms e l r =
    ap (λ o. match_ordering o (place_of a ∷ map place_of (b ∷ alarms)) (map place_of (b ∷ alarms))
    (place_of b ∷ insert_key place_cmp (map place_of alarms) (place_of a))) (place_greater a.time b.time (nat_cmp a.no b.no) e (newest a.no b.no l))
    ∙ ap (λ ps. place_of b ∷ ps) r

into_set : (a : Alarm) (alarms : List Alarm) → All (λ (b : Alarm). b.no < a.no) alarms
    → insert_key place_cmp (map place_of alarms) (place_of a) ≡ map place_of (insert_alarm a alarms)
into_set a [] h = refl
into_set a (b ∷ alarms) h =
    into_set_by (int_lt a.time b.time) a b alarms refl (All-head (λ (b : Alarm). b.no < a.no) b alarms h)
    (into_set a alarms (All-tail (λ (b : Alarm). b.no < a.no) b alarms h))

-- whether an alarm has the place
abbrev is_there : ℤ × ℕ → Alarm → Bool
is_there place a = is_eq (place_cmp place (place_of a))

unequal : (o u : Ordering) → is_eq u ≡ false → is_eq (ordering_then o u) ≡ false
unequal Less u e = refl
unequal Equal u e = e
unequal Greater u e = refl

before_less : (a b : Alarm) → IsBefore a b → is_eq (place_cmp (place_of a) (place_of b)) ≡ false
before_less a b q =
    elim q [
      | inl l ↦ ap is_eq (place_less a.time b.time (nat_cmp a.no b.no) (lt_true a.time b.time l))
      | inr e ↦ unequal (int_cmp a.time b.time) (nat_cmp a.no b.no) (below a.no b.no e.1)
    ]
  where
    lt_true : (s t : ℤ) → s <ℤ t → int_lt s t ≡ true
    lt_true s t l = grind (arith, ints)

    below : (m n : ℕ) → m < n → is_eq (nat_cmp m n) ≡ false
    below m n l = grind (arith, nat_tests)

-- an order by which two are equal tells no more
both_equal : (o u : Ordering) → is_eq (ordering_then o u) ≡ true → (is_eq o ≡ true) × (is_eq u ≡ true)
both_equal Less u e = absurd (false≢true e)
both_equal Equal u e = (refl, e)
both_equal Greater u e = absurd (false≢true e)

equal_place : (place : ℤ × ℕ) (a : Alarm) → is_there place a ≡ true → place ≡ place_of a
equal_place place a e =
    let both = both_equal (int_cmp place.0 a.time) (nat_cmp place.1 a.no) e
    in let time : place.0 ≡ a.time = (Decides-int_eq place.0 a.time).0 both.0
    in let no : a.no ≡ place.1 = eqb-true a.no place.1 (sym (number_test place.1 a.no) ∙ both.1)
    in ap (λ (t : ℤ). (t, place.1)) time ∙ ap (λ (n : ℕ). (a.time, n)) (sym no)

is_at_itself : (a : Alarm) → is_there (place_of a) a ≡ true
is_at_itself a = both (int_cmp a.time a.time) (nat_cmp a.no a.no) ((Decides-int_eq a.time a.time).1 refl) (number_test a.no a.no ∙ eq-eqb a.no a.no refl)
  where
    both : (o u : Ordering) → is_eq o ≡ true → is_eq u ≡ true → is_eq (ordering_then o u) ≡ true
    both Less u d e = d
    both Equal u d e = e
    both Greater u d e = d

pub all_kept : (p : Alarm → Bool) (alarms : List Alarm) → All (λ (a : Alarm). p a ≡ true) alarms → filter p alarms ≡ alarms
all_kept p [] h = refl
all_kept p (a ∷ alarms) h =
    ap (λ t. cond t (a ∷ filter p alarms) (filter p alarms)) (All-head (λ (b : Alarm). p b ≡ true) a alarms h)
    ∙ ap (λ xs. a ∷ xs) (all_kept p alarms (All-tail (λ (b : Alarm). p b ≡ true) a alarms h))

same_kept : (p q : Alarm → Bool) (alarms : List Alarm) → All (λ (a : Alarm). p a ≡ q a) alarms → filter p alarms ≡ filter q alarms
same_kept p q [] h = refl
same_kept p q (a ∷ alarms) h =
    ap (λ t. cond t (a ∷ filter p alarms) (filter p alarms)) (All-head (λ (b : Alarm). p b ≡ q b) a alarms h)
    ∙ ap (λ xs. cond (q a) (a ∷ xs) xs) (same_kept p q alarms (All-tail (λ (b : Alarm). p b ≡ q b) a alarms h))

-- whether an alarm has another place
abbrev is_elsewhere : ℤ × ℕ → Alarm → Bool
is_elsewhere place a = not (is_there place a)

place_out_by : (t : Bool) (place : ℤ × ℕ) (a : Alarm) (alarms : List Alarm) → is_there place a ≡ t → AreByTime (a ∷ alarms)
    → remove_key (is_at (place_cmp place)) (map place_of alarms) ≡ map place_of (filter (is_elsewhere place) alarms)
    → cond t (map place_of alarms) (place_of a ∷ remove_key (is_at (place_cmp place)) (map place_of alarms)) ≡ map place_of
    (cond (not t) (a ∷ filter (is_elsewhere place) alarms) (filter (is_elsewhere place) alarms))
place_out_by true place a alarms e s r =
    let here : All (λ (b : Alarm). is_elsewhere (place_of a) b ≡ true) alarms =
    All-weaker (IsBefore a) (λ (b : Alarm). is_elsewhere (place_of a) b ≡ true) (λ b q. ap not (before_less a b q)) alarms s.0
    in ap (map place_of) (sym (all_kept (is_elsewhere place) alarms
    (subst (λ (p : ℤ × ℕ). All (λ (b : Alarm). is_elsewhere p b ≡ true) alarms) (sym (equal_place place a e)) here)))
place_out_by false place a alarms e s r = ap (λ ps. place_of a ∷ ps) r

place_out : (place : ℤ × ℕ) (alarms : List Alarm) → AreByTime alarms
    → remove_key (is_at (place_cmp place)) (map place_of alarms) ≡ map place_of (filter (is_elsewhere place) alarms)
place_out place [] s = refl
place_out place (a ∷ alarms) s = place_out_by (is_there place a) place a alarms refl s (place_out place alarms s.1)

-- of alarms of which each is the one of its number, only one has the place of an alarm
some_same : (a b : Alarm) → Some a ≡ Some b → a ≡ b
some_same a b e = cc

one_there_by : (t : Bool) (a b : Alarm) (alarms : List Alarm) → (b.no == a.no) ≡ t → IsFound alarms a → IsFound alarms b → is_elsewhere (place_of a) b ≡ not t
one_there_by true a b alarms h f g =
    let same : a ≡ b = some_same a b (sym f ∙ ap (λ e. find (is_alarm e) alarms) (sym (eqb-true b.no a.no h)) ∙ g)
    in ap not (subst (λ (x : Alarm). is_there (place_of a) x ≡ true) same (is_at_itself a))
one_there_by false a b alarms h f g = ap not (unequal (int_cmp a.time b.time) (nat_cmp a.no b.no) (number_test a.no b.no ∙ h))

one_there : (a b : Alarm) (alarms : List Alarm) → IsFound alarms a → IsFound alarms b → is_elsewhere (place_of a) b ≡ is_other_alarm a.no b
one_there a b alarms f g = one_there_by (b.no == a.no) a b alarms refl f g

out_of_set : (high : ℕ) (a : Alarm) (alarms : List Alarm) → AreNumbered number_of 0 high alarms → IsFound alarms a
    → remove_key (is_at (place_cmp (place_of a))) (map place_of (by_time alarms)) ≡ map place_of (by_time (filter (is_other_alarm a.no) alarms))
out_of_set high a alarms n f =
    let each : All (IsFound alarms) (by_time alarms) = all_by_time (IsFound alarms) alarms (each_found 0 high alarms n)
    in place_out (place_of a) (by_time alarms) (sorted high alarms n)
    ∙ ap (map place_of)
    (same_kept (is_elsewhere (place_of a)) (is_other_alarm a.no) (by_time alarms)
    (All-weaker (IsFound alarms) (λ (b : Alarm). is_elsewhere (place_of a) b ≡ is_other_alarm a.no b) (λ b g. one_there a b alarms f g)
    (by_time alarms) each)
    ∙ filtered (is_other_alarm a.no) high alarms n)

-- an alarm that is found under a number
pub found_in : (next e : ℕ) (entries : List (ℕ × Alarm)) (places : List (ℤ × ℕ)) → AreKept next entries places
    → lookup (is_at (nat_cmp e)) entries ≡ find (is_alarm e) (values_of entries)
found_in next e entries places k = ap (lookup (is_at (nat_cmp e))) k.1 ∙ found_same e (values_of entries)

-- the alarm of a number is taken out of the map, and its place out of the set
pub values_out : (next e : ℕ) (entries : List (ℕ × Alarm)) (places : List (ℤ × ℕ)) → AreKept next entries places
    → values_of (remove_entry (is_at (nat_cmp e)) entries) ≡ filter (is_other_alarm e) (values_of entries)
values_out next e entries places k =
    ap (λ es. values_of (remove_entry (is_at (nat_cmp e)) es)) k.1 ∙ ap values_of (out_of_map 0 next e (values_of entries) k.0)
    ∙ values_same (filter (is_other_alarm e) (values_of entries))

both_out : (next e : ℕ) (a : Alarm) (entries : List (ℕ × Alarm)) (places : List (ℤ × ℕ)) → AreKept next entries places
    → lookup (is_at (nat_cmp e)) entries ≡ Some a
    → AreKept next (remove_entry (is_at (nat_cmp e)) entries) (remove_key (is_at (place_cmp (a.time, e))) places)
both_out next e a entries places k f =
    let alarms : List Alarm = values_of entries
    in let found : find (is_alarm e) alarms ≡ Some a = sym (found_in next e entries places k) ∙ f
    in let no : a.no ≡ e = found_has e alarms a found
    in let here : IsFound alarms a = ap (λ n. find (is_alarm n) alarms) no ∙ found
    in let left : values_of (remove_entry (is_at (nat_cmp e)) entries) ≡ filter (is_other_alarm e) alarms = values_out next e entries places k
    in (
      subst (AreNumbered number_of 0 next) (sym left) (numbered_filtered number_of (is_other_alarm e) 0 next alarms k.0),
      ap (remove_entry (is_at (nat_cmp e))) k.1 ∙ out_of_map 0 next e alarms k.0 ∙ ap (map under_number) (sym left),
      ap (λ n. remove_key (is_at (place_cmp (a.time, n))) places) (sym no)
          ∙ ap (remove_key (is_at (place_cmp (place_of a)))) k.2
          ∙ out_of_set next a alarms k.0 here
          ∙ ap (λ n. map place_of (by_time (filter (is_other_alarm n) alarms))) no
          ∙ ap (λ xs. map place_of (by_time xs)) (sym left),
    )

pub kept_same : (next : ℕ) (entries left : List (ℕ × Alarm)) (places places_left : List (ℤ × ℕ)) → left ≡ entries → places_left ≡ places
    → AreKept next entries places → AreKept next left places_left
kept_same next entries left places places_left d e k =
    subst (λ (es : List (ℕ × Alarm)). AreKept next es places_left) (sym d) (subst (AreKept next entries) (sym e) k)

pub kept_out : (next e : ℕ) (a : Alarm) (entries left : List (ℕ × Alarm)) (places places_left : List (ℤ × ℕ)) → AreKept next entries places
    → lookup (is_at (nat_cmp e)) entries ≡ Some a
    → left ≡ remove_entry (is_at (nat_cmp e)) entries → places_left ≡ remove_key (is_at (place_cmp (a.time, e))) places → AreKept next left places_left
kept_out next e a entries left places places_left k f d g = kept_same next _ left _ places_left d g (both_out next e a entries places k f)

-- the next alarm is put into the map, and its place into the set
all_older : (next : ℕ) (a : Alarm) (alarms : List Alarm) → AreNumbered number_of 0 next alarms → a.no ≡ next → All (λ (b : Alarm). b.no < a.no) alarms
all_older next a alarms n e = subst (λ (m : ℕ). All (λ (b : Alarm). b.no < m) alarms) (sym e) (all_below 0 next alarms n)

entries_in : (next : ℕ) (a : Alarm) (entries : List (ℕ × Alarm)) (places : List (ℤ × ℕ)) → AreKept next entries places → a.no ≡ next
    → insert_entry nat_cmp entries a.no a ≡ map under_number (values_of entries ++ a ∷ [])
entries_in next a entries places k e =
    ap (λ es. insert_entry nat_cmp es a.no a) k.1 ∙ into_map a (values_of entries) (all_older next a (values_of entries) k.0 e)

pub values_in : (next : ℕ) (a : Alarm) (entries : List (ℕ × Alarm)) (places : List (ℤ × ℕ)) → AreKept next entries places → a.no ≡ next
    → values_of (insert_entry nat_cmp entries a.no a) ≡ values_of entries ++ a ∷ []
values_in next a entries places k e = ap values_of (entries_in next a entries places k e) ∙ values_same (values_of entries ++ a ∷ [])

both_in : (next : ℕ) (a : Alarm) (entries : List (ℕ × Alarm)) (places : List (ℤ × ℕ)) → AreKept next entries places → a.no ≡ next
    → AreKept (next + 1) (insert_entry nat_cmp entries a.no a) (insert_key place_cmp places (place_of a))
both_in next a entries places k e =
    let alarms : List Alarm = values_of entries
    in let more : values_of (insert_entry nat_cmp entries a.no a) ≡ alarms ++ a ∷ [] = values_in next a entries places k e
    in let older : All (λ (b : Alarm). b.no < a.no) alarms = all_older next a alarms k.0 e
    in (
      subst (AreNumbered number_of 0 (next + 1)) (sym more) (numbered_more number_of 0 next alarms a (omega arith) e k.0),
      entries_in next a entries places k e ∙ ap (map under_number) (sym more),
      ap (λ ps. insert_key place_cmp ps (place_of a)) k.2
          ∙ into_set a (by_time alarms) (all_by_time (λ (b : Alarm). b.no < a.no) alarms older)
          ∙ ap (map place_of) (sym (fold-append inserted [] alarms (a ∷ [])))
          ∙ ap (λ xs. map place_of (by_time xs)) (sym more),
    )

pub kept_in : (next : ℕ) (a : Alarm) (entries more : List (ℕ × Alarm)) (places more_places : List (ℤ × ℕ)) → AreKept next entries places → a.no ≡ next
    → more ≡ insert_entry nat_cmp entries a.no a → more_places ≡ insert_key place_cmp places (place_of a) → AreKept (next + 1) more more_places
kept_in next a entries more places more_places k e d g = kept_same (next + 1) _ more _ more_places d g (both_in next a entries places k e)

-- and taken out again
pub entries_back : (next : ℕ) (a : Alarm) (entries : List (ℕ × Alarm)) (places : List (ℤ × ℕ)) → AreKept next entries places → a.no ≡ next
    → remove_entry (is_at (nat_cmp a.no)) (insert_entry nat_cmp entries a.no a) ≡ entries
entries_back next a entries places k e =
    let alarms : List Alarm = values_of entries
    in let others : All (λ (b : Alarm). is_other_alarm a.no b ≡ true) alarms =
    All-weaker (λ (b : Alarm). b.no < a.no) (λ (b : Alarm). is_other_alarm a.no b ≡ true)
    (λ b l. ap not (ne_eqb b.no a.no (λ h. omega (arith, h, l)))) alarms (all_older next a alarms k.0 e)
    in ap (remove_entry (is_at (nat_cmp a.no))) (entries_in next a entries places k e)
    ∙ out_of_map 0 (next + 1) a.no (alarms ++ a ∷ []) (numbered_more number_of 0 next alarms a (omega arith) e k.0)
    ∙ ap (map under_number)
    (filter-append (is_other_alarm a.no) alarms (a ∷ [])
    ∙ ap (λ xs. xs ++ filter (is_other_alarm a.no) (a ∷ [])) (all_kept (is_other_alarm a.no) alarms others)
    ∙ ap (λ t. alarms ++ cond (not t) (a ∷ []) []) (eq-eqb a.no a.no refl)
    ∙ append-nil alarms)
    ∙ sym k.1
