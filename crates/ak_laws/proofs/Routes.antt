-- What the entries so far tell of monitors is what a list of monitors has: parents, whether each is detached, and so the paths.
use Rattle.std.proofs.Common.{ℕ, ℤ, zero, suc, ◌+◌, ◌<◌, ◌≤◌, inl, inr, ◌≡◌, List, [], ◌∷◌, ◌++◌, length, map, Bool, true, false, ◌==◌, ◌||◌, cond}
use Rattle.std.proofs.Common.{Option, Some, None, refl, sym, subst, ◌∙◌, ap, arith, append_assoc, length-append}
use Rattle.std.specs.Prelude.{find, slice_set, slice_index_or, reverse, MatchOption}
use Rattle.std.specs.List.{AllByRecursion, list_any}
use Rattle.std.proofs.lemmas.Bool.{eqb-true, eq-eqb, ne_eqb, true≢false, cases_lt}
use Rattle.std.proofs.lemmas.List.{append-nil, get_or-set_other, reverse-append}
use Rattle.std.proofs.lemmas.List.Sums.{fold-append}
use Rattle.std.proofs.lemmas.Grind.{get_or-set_at}
use Rattle.std.proofs.Math.ListN.{length-set}
use Rattle.ak_base.specs.Lists.{first_of}
use Rattle.ak_trace.specs.declared.entry.Entry.{Entry}
use Rattle.ak_trace.specs.declared.entry.Entry.TheVariants as entry
use Rattle.ak_trace.specs.declared.entry.Ending.TheVariants as ending
use Rattle.ak_monitor.specs.Monitors.{Monitor, fresh_monitor, root_alone, monitor_in, with_child, with_detached, with_attached, path, first_detached, catcher}
use Rattle.ak_monitor.proofs.Paths.{path_below, path_root}
use Rattle.ak_holders.proofs.Carry.{all_append, all_by}
use Rattle.ak_laws.specs.Places.{EachAfter}
use Rattle.ak_laws.specs.Errors.{detached_by, is_detached, parent_by, parent_in, new_among, path_from, path_in}
use Rattle.ak_laws.specs.Errors.{IsUnhandled, Goes, IsError, IsUncaught, EndsIn, IsFilling, IsHandling, GoesUp, ErrorsGoUp}

-- ---- lists
index_front : {A : Type 0} (xs : List A) (y d : A) (k : ℕ) → k < length xs → slice_index_or (xs ++ y ∷ []) k d ≡ slice_index_or xs k d
index_front [] y d k l = absurd (omega (arith, l))
index_front (x ∷ xs) y d zero l = refl
index_front (x ∷ xs) y d (suc k) l = index_front xs y d k (omega (arith, l))

index_last : {A : Type 0} (xs : List A) (y d : A) → slice_index_or (xs ++ y ∷ []) (length xs) d ≡ y
index_last [] y d = refl
index_last (x ∷ xs) y d = index_last xs y d

-- what is the same of one element that gives way to another is the same of each
pub set_same : {A B : Type 0} (f : A → B) (xs : List A) (k j : ℕ) (y d : A) → f y ≡ f (slice_index_or xs k d)
    → f (slice_index_or (slice_set xs k y) j d) ≡ f (slice_index_or xs j d)
set_same f [] k j y d e = refl
set_same f (x ∷ xs) zero zero y d e = e
set_same f (x ∷ xs) zero (suc j) y d e = refl
set_same f (x ∷ xs) (suc k) zero y d e = refl
set_same f (x ∷ xs) (suc k) (suc j) y d e = set_same f xs k j y d e

pub map_same : {A B : Type 0} (f : A → B) (g : A → A) → ((x : A) → f (g x) ≡ f x) → (xs : List A) (j : ℕ) (d : A)
    → f (slice_index_or (map g xs) j d) ≡ f (slice_index_or xs j d)
map_same f g h [] j d = refl
map_same f g h (x ∷ xs) zero d = h x
map_same f g h (x ∷ xs) (suc j) d = map_same f g h xs j d

set_or : {A : Type 0} (xs : List A) (k j : ℕ) (y d : A) → k < length xs → slice_index_or (slice_set xs k y) j d ≡ cond (k == j) y (slice_index_or xs j d)
set_or xs k j y d l = by (k == j) refl
  where
    by : (b : Bool) → (k == j) ≡ b → slice_index_or (slice_set xs k y) j d ≡ cond b y (slice_index_or xs j d)
    by true e = get_or-set_at xs k j y d (sym (eqb-true k j e)) l
    by false e = get_or-set_other xs k j y d (λ q. true≢false (sym (eq-eqb k j (sym q)) ∙ e))

-- ---- one more entry
pub detached_more : (t : List Entry) (e : Entry) (m : ℕ) → is_detached (t ++ e ∷ []) m ≡ detached_by m (is_detached t m) e
detached_more t e m = fold-append (detached_by m) false t (e ∷ [])

pub parent_more : (t : List Entry) (e : Entry) (m : ℕ) → parent_in (t ++ e ∷ []) m ≡ parent_by m (parent_in t m) e
parent_more t e m = fold-append (parent_by m) None t (e ∷ [])

-- an entry that tells nothing of monitors
abbrev pub IsElse : Entry → Type 0
IsElse (entry.Monitor m p) = ⊥
IsElse (entry.Detach m) = ⊥
IsElse (entry.Attach m) = ⊥
IsElse e = Unit {0}

else_detached : (m : ℕ) (b : Bool) (e : Entry) → IsElse e → detached_by m b e ≡ b
else_detached m b (entry.Monitor n p) q = absurd q
else_detached m b (entry.Detach n) q = absurd q
else_detached m b (entry.Attach n) q = absurd q
else_detached m b e q = refl

else_parent : (m : ℕ) (o : Option ℕ) (e : Entry) → IsElse e → parent_by m o e ≡ o
else_parent m o (entry.Monitor n p) q = absurd q
else_parent m o (entry.Detach n) q = absurd q
else_parent m o (entry.Attach n) q = absurd q
else_parent m o e q = refl

-- ---- the entries tell the monitors
pub record Told {H : Type 0} (monitors : List (Monitor H)) (trace : List Entry) : Type 0 where
  pub some : 0 < length monitors
  pub few : length monitors ≤ suc (length trace)
  pub older : (m : ℕ) → m < length monitors → 0 < m → (monitor_in monitors m).parent < m
  pub root : parent_in trace 0 ≡ None
  pub parents : (m : ℕ) → m < length monitors → 0 < m → parent_in trace m ≡ Some (monitor_in monitors m).parent
  pub detached : (m : ℕ) → m < length monitors → is_detached trace m ≡ (monitor_in monitors m).detached
  pub fresh : (m : ℕ) → length monitors ≤ m → is_detached trace m ≡ false

-- ---- paths
none_is : (p : ℕ) (seen : List ℕ) → AllByRecursion (λ x. p < x) seen → list_any (λ x. x == p) seen ≡ false
none_is p [] h = refl
none_is p (x ∷ seen) h = ap (λ b. b || list_any (λ y. y == p) seen) (ne_eqb x p (λ q. omega (arith, h.0, q))) ∙ none_is p seen h.1

-- what follows a monitor on its path
abbrev pub follows : ℕ → List Entry → List ℕ → ℕ → Option ℕ → List ℕ
follows k t seen m o = elim o [ None ↦ m ∷ [] | Some p ↦ m ∷ path_from k t seen p ]

module _ {H : Type 0} where
  pub root_told : Told {H = H} root_alone []
  root_told = record {
    some = omega arith;
    few = omega arith;
    older = λ m l g. absurd (omega (arith, l, g));
    root = refl;
    parents = λ m l g. absurd (omega (arith, l, g));
    detached = first;
    fresh = λ m l. refl;
  }
    where
      first : (m : ℕ) → m < length (root_alone {H = H}) → false ≡ (monitor_in (root_alone {H = H}) m).detached
      first zero l = refl
      first (suc m) l = absurd (omega (arith, l))

  -- other monitors, with the same parents, and as many of them detached
  pub same_told : (ms ns : List (Monitor H)) (t : List Entry) → length ns ≡ length ms
      → ((m : ℕ) → (monitor_in ns m).parent ≡ (monitor_in ms m).parent) → ((m : ℕ) → (monitor_in ns m).detached ≡ (monitor_in ms m).detached)
      → Told ms t → Told ns t
  same_told ms ns t e p d h = record {
    some = omega (arith, h.some, e);
    few = omega (arith, h.few, e);
    older = λ m l g. subst (λ k. k < m) (sym (p m)) (h.older m (omega (arith, l, e)) g);
    root = h.root;
    parents = λ m l g. h.parents m (omega (arith, l, e)) g ∙ ap (λ k. Some k) (sym (p m));
    detached = λ m l. h.detached m (omega (arith, l, e)) ∙ sym (d m);
    fresh = λ m l. h.fresh m (omega (arith, l, e));
  }

  pub else_told : (ms : List (Monitor H)) (t : List Entry) (e : Entry) → IsElse e → Told ms t → Told ms (t ++ e ∷ [])
  else_told ms t e q h = record {
    some = h.some;
    few = omega (arith, h.few, length-append t (e ∷ []));
    older = h.older;
    root = parent_more t e 0 ∙ else_parent 0 (parent_in t 0) e q ∙ h.root;
    parents = λ m l g. parent_more t e m ∙ else_parent m (parent_in t m) e q ∙ h.parents m l g;
    detached = λ m l. detached_more t e m ∙ else_detached m (is_detached t m) e q ∙ h.detached m l;
    fresh = λ m l. detached_more t e m ∙ else_detached m (is_detached t m) e q ∙ h.fresh m l;
  }

  -- one more child
  pub child_told : (ms : List (Monitor H)) (t : List Entry) (p : ℕ) → p < length ms → Told ms t
      → Told (with_child p ms) (t ++ entry.Monitor (length ms) p ∷ [])
  child_told ms t p l h = record {
    some = omega (arith, more);
    few = omega (arith, h.few, more, length-append t (e ∷ []));
    older = λ m k g. elim (cases_lt m (length ms)) [
      | inl lt ↦ subst (λ (x : Monitor H). x.parent < m) (sym (index_front ms (fresh_monitor p) (fresh_monitor 0) m lt)) (h.older m lt g)
      | inr ge ↦
          (let last : length ms ≡ m = omega (arith, k, ge, more)
          in subst (λ n. (monitor_in (with_child p ms) n).parent < n) last
          (subst (λ (x : Monitor H). x.parent < length ms) (sym (index_last ms (fresh_monitor p) (fresh_monitor 0))) l))
    ];
    root = parent_more t e 0 ∙ ap (λ b. cond b (Some p) (parent_in t 0)) (ne_eqb (length ms) 0 (λ q. omega (arith, h.some, q))) ∙ h.root;
    parents = λ m k g. elim (cases_lt m (length ms)) [
      | inl lt ↦
          parent_more t e m ∙ ap (λ b. cond b (Some p) (parent_in t m)) (ne_eqb (length ms) m (λ q. omega (arith, lt, q))) ∙ h.parents m lt g
          ∙ ap (λ (x : Monitor H). Some x.parent) (sym (index_front ms (fresh_monitor p) (fresh_monitor 0) m lt))
      | inr ge ↦
          (let last : length ms ≡ m = omega (arith, k, ge, more)
          in parent_more t e m ∙ ap (λ b. cond b (Some p) (parent_in t m)) (eq-eqb (length ms) m last)
          ∙ ap (λ (x : Monitor H). Some x.parent) (sym (index_last ms (fresh_monitor p) (fresh_monitor 0)))
          ∙ ap (λ n. Some (monitor_in (with_child p ms) n).parent) last)
    ];
    detached = λ m k. elim (cases_lt m (length ms)) [
      | inl lt ↦
          detached_more t e m ∙ h.detached m lt
          ∙ ap (λ (x : Monitor H). x.detached) (sym (index_front ms (fresh_monitor p) (fresh_monitor 0) m lt))
      | inr ge ↦
          (let last : length ms ≡ m = omega (arith, k, ge, more)
          in detached_more t e m ∙ h.fresh m ge
          ∙ ap (λ (x : Monitor H). x.detached) (sym (index_last ms (fresh_monitor p) (fresh_monitor 0)))
          ∙ ap (λ n. (monitor_in (with_child p ms) n).detached) last)
    ];
    fresh = λ m k. detached_more t e m ∙ h.fresh m (omega (arith, k, more));
  }
    where
      e : Entry
      e = entry.Monitor (length ms) p

      more : length (with_child p ms) ≡ length ms + 1
      more = length-append ms (fresh_monitor p ∷ [])

  -- one is detached, or attached again
  flag_told : (ms : List (Monitor H)) (t : List Entry) (e : Entry) (m : ℕ) (b : Bool) → m < length ms
      → ((j : ℕ) (o : Option ℕ) → parent_by j o e ≡ o) → ((j : ℕ) (c : Bool) → detached_by j c e ≡ cond (m == j) b c) → Told ms t
      → Told (slice_set ms m (record (monitor_in ms m) { detached = b })) (t ++ e ∷ [])
  flag_told ms t e m b l p d h = record {
    some = omega (arith, h.some, as_many);
    few = omega (arith, h.few, as_many, length-append t (e ∷ []));
    older = λ j k g. subst (λ n. n < j) (sym (parent_same j)) (h.older j (omega (arith, k, as_many)) g);
    root = parent_more t e 0 ∙ p 0 (parent_in t 0) ∙ h.root;
    parents = λ j k g. parent_more t e j ∙ p j (parent_in t j) ∙ h.parents j (omega (arith, k, as_many)) g ∙ ap (λ n. Some n) (sym (parent_same j));
    detached = λ j k.
        detached_more t e j ∙ d j (is_detached t j) ∙ ap (λ c. cond (m == j) b c) (h.detached j (omega (arith, k, as_many))) ∙ sym (flag j);
    fresh = λ j k.
        detached_more t e j ∙ d j (is_detached t j)
        ∙ ap (λ c. cond c b (is_detached t j)) (ne_eqb m j (λ q. omega (arith, l, k, as_many, q))) ∙ h.fresh j (omega (arith, k, as_many));
  }
    where
      new : Monitor H
      new = record (monitor_in ms m) { detached = b }

      as_many : length (slice_set ms m new) ≡ length ms
      as_many = length-set ms m new

      parent_same : (j : ℕ) → (monitor_in (slice_set ms m new) j).parent ≡ (monitor_in ms j).parent
      parent_same j = set_same (λ (x : Monitor H). x.parent) ms m j new (fresh_monitor 0) refl

      of_cond : (c : Bool) (x y : Monitor H) → (cond c x y).detached ≡ cond c x.detached y.detached
      of_cond true x y = refl
      of_cond false x y = refl

      flag : (j : ℕ) → (monitor_in (slice_set ms m new) j).detached ≡ cond (m == j) b (monitor_in ms j).detached
      flag j = ap (λ (x : Monitor H). x.detached) (set_or ms m j new (fresh_monitor 0) l) ∙ of_cond (m == j) new (monitor_in ms j)

  pub detached_told : (ms : List (Monitor H)) (t : List Entry) (m : ℕ) → m < length ms → Told ms t → Told (with_detached m ms) (t ++ entry.Detach m ∷ [])
  detached_told ms t m l h = flag_told ms t (entry.Detach m) m true l (λ j o. refl) (λ j c. refl) h

  pub attached_told : (ms : List (Monitor H)) (t : List Entry) (m : ℕ) → m < length ms → Told ms t → Told (with_attached m ms) (t ++ entry.Attach m ∷ [])
  attached_told ms t m l h = flag_told ms t (entry.Attach m) m false l (λ j o. refl) (λ j c. refl) h

  -- ---- the path of a monitor
  pub path_is : (ms : List (Monitor H)) (t : List Entry) → Told ms t → (k : ℕ) (seen : List ℕ) (m : ℕ) → m < k → m < length ms
      → AllByRecursion (λ x. m < x) seen → path_from k t seen m ≡ path ms m
  path_is ms t h zero seen m l here g = absurd (omega (arith, l))
  path_is ms t h (suc k) seen zero l here g =
      ap (λ o. follows k t (seen ++ 0 ∷ []) 0 (new_among (seen ++ 0 ∷ []) o)) h.root ∙ sym (path_root ms 0 here refl)
  path_is ms t h (suc k) seen (suc m) l here g =
      let p : ℕ = (monitor_in ms (suc m)).parent
      in let less : p < suc m = h.older (suc m) here (omega arith)
      in let seen' : List ℕ = seen ++ suc m ∷ []
      in let above : AllByRecursion (λ x. p < x) seen' =
      all_append (λ x. p < x) seen (suc m ∷ []) (all_by (λ x. suc m < x) (λ x. p < x) (λ x q. omega (arith, q, less)) seen g) (less, tt)
      in ap (λ o. follows k t seen' (suc m) (new_among seen' o)) (h.parents (suc m) here (omega arith))
      ∙ ap (λ b. follows k t seen' (suc m) (cond b None (Some p))) (none_is p seen' above)
      ∙ ap (λ ns. suc m ∷ ns) (path_is ms t h k seen' p (omega (arith, l, less)) (omega (arith, here, less)) above)
      ∙ sym (path_below ms (suc m) here less)

  -- the monitors of a path exist
  pub path_exists : (ms : List (Monitor H)) (t : List Entry) → Told ms t → (k m : ℕ) → m < k → m < length ms → AllByRecursion (λ x. x < length ms) (path ms m)
  path_exists ms t h zero m l here = absurd (omega (arith, l))
  path_exists ms t h (suc k) zero l here = subst (AllByRecursion (λ x. x < length ms)) (sym (path_root ms 0 here refl)) (here, tt)
  path_exists ms t h (suc k) (suc m) l here =
      let p : ℕ = (monitor_in ms (suc m)).parent
      in let less : p < suc m = h.older (suc m) here (omega arith)
      in subst (AllByRecursion (λ x. x < length ms)) (sym (path_below ms (suc m) here less))
      (here, path_exists ms t h k p (omega (arith, l, less)) (omega (arith, here, less)))

  found_is : (ms : List (Monitor H)) (t : List Entry) → Told ms t → (xs : List ℕ) → AllByRecursion (λ x. x < length ms) xs
      → find (is_detached t) xs ≡ first_detached ms xs
  found_is ms t h [] g = refl
  found_is ms t h (x ∷ xs) g =
      ap (λ b. cond b (Some x) (find (is_detached t) xs)) (h.detached x g.0)
      ∙ ap (λ o. cond (monitor_in ms x).detached (Some x) o) (found_is ms t h xs g.1)

  -- the monitor that catches an error
  pub catcher_is : (ms : List (Monitor H)) (t : List Entry) → Told ms t → (m : ℕ) → m < length ms → find (is_detached t) (path_in t m) ≡ catcher ms m
  catcher_is ms t h m here =
      ap (find (is_detached t)) (path_is ms t h (suc (length t)) [] m (omega (arith, here, h.few)) here tt)
      ∙ found_is ms t h (path ms m) (path_exists ms t h (suc m) m (omega arith) here)

-- ---- the law, with further entries
unhandled_longer : (e : ℤ) (es fs : List Entry) → IsUnhandled e es → IsUnhandled e (es ++ fs)
unhandled_longer e (entry.Unhandled f ∷ entry.End ending.Unhandled ∷ es) fs h = h
unhandled_longer e es fs h = absurd h

goes_longer : (o : Option ℕ) (e : ℤ) (es fs : List Entry) → Goes o e es → Goes o e (es ++ fs)
goes_longer None e es fs h = unhandled_longer e es fs h
goes_longer (Some c) e [] fs h = absurd (cc)
goes_longer (Some c) e (x ∷ es) fs h = h

up_longer : (before : List Entry) (x : Entry) (es fs : List Entry) → GoesUp before x es → GoesUp before x (es ++ fs)
up_longer before (entry.Error e m) es fs h = goes_longer (find (is_detached before) (path_in before m)) e es fs h
up_longer before (entry.Caught m) es fs h = h
up_longer before (entry.Unhandled e) es fs h = h
up_longer before (entry.Rest e) es fs h = h
up_longer before (entry.End ending.Unhandled) es fs h = h
up_longer before x es fs h = tt

up_append : (before es fs : List Entry) → EachAfter GoesUp before es → EachAfter GoesUp (before ++ es) fs → EachAfter GoesUp before (es ++ fs)
up_append before [] fs h g = subst (λ t. EachAfter GoesUp t fs) (append-nil before) g
up_append before (x ∷ es) fs h g = (
  up_longer before x es fs h.0,
  up_append (before ++ x ∷ []) es fs h.1 (subst (λ t. EachAfter GoesUp t fs) (sym (append_assoc before (x ∷ []) es)) g),
)

-- an entry that says nothing of errors
abbrev pub IsNoError : Entry → Type 0
IsNoError (entry.Error e m) = ⊥
IsNoError (entry.Caught m) = ⊥
IsNoError (entry.Unhandled e) = ⊥
IsNoError (entry.Rest e) = ⊥
IsNoError (entry.End ending.Unhandled) = ⊥
IsNoError e = Unit {0}

no_error_goes : (before : List Entry) (x : Entry) (es : List Entry) → IsNoError x → GoesUp before x es
no_error_goes before (entry.Error e m) es q = absurd q
no_error_goes before (entry.Caught m) es q = absurd q
no_error_goes before (entry.Unhandled e) es q = absurd q
no_error_goes before (entry.Rest e) es q = absurd q
no_error_goes before (entry.End ending.Unhandled) es q = absurd q
no_error_goes before x es q = tt

ends_in : (Is : Entry → Type 0) (t : List Entry) (x : Entry) → Is x → EndsIn Is (t ++ x ∷ [])
ends_in Is t x h = subst (λ es. MatchOption (first_of es) ⊥ Is) (sym (reverse-append t (x ∷ []))) h

pub other_goes : (t : List Entry) (x : Entry) → IsNoError x → ErrorsGoUp t → ErrorsGoUp (t ++ x ∷ [])
other_goes t x q h = up_append [] t (x ∷ []) h (no_error_goes t x [] q, tt)

-- an error that is caught
pub caught_goes : (t : List Entry) (e : ℤ) (m c : ℕ) → find (is_detached t) (path_in t m) ≡ Some c → ErrorsGoUp t
    → ErrorsGoUp ((t ++ entry.Error e m ∷ []) ++ entry.Caught c ∷ [])
caught_goes t e m c f h =
    let es : List Entry = entry.Error e m ∷ entry.Caught c ∷ []
    in subst ErrorsGoUp (sym (append_assoc t (entry.Error e m ∷ []) (entry.Caught c ∷ [])))
    (up_append [] t es h (subst (λ o. Goes o e (entry.Caught c ∷ [])) (sym f) refl, (ends_in IsError t (entry.Error e m) tt, tt)))

-- one that nobody catches
pub unhandled_goes : (t : List Entry) (e : ℤ) (m : ℕ) → find (is_detached t) (path_in t m) ≡ None → ErrorsGoUp t
    → ErrorsGoUp (((t ++ entry.Error e m ∷ []) ++ entry.Unhandled e ∷ []) ++ entry.End ending.Unhandled ∷ [])
unhandled_goes t e m f h =
    let one : List Entry = entry.Error e m ∷ []
    in let last : List Entry = entry.End ending.Unhandled ∷ []
    in let after : List Entry = entry.Unhandled e ∷ last
    in subst ErrorsGoUp (sym (append_assoc (t ++ one) (entry.Unhandled e ∷ []) last ∙ append_assoc t one after))
    (up_append [] t (one ++ after) h (
      subst (λ o. Goes o e after) (sym f) refl,
      (ends_in IsError t (entry.Error e m) tt, (ends_in IsUncaught (t ++ one) (entry.Unhandled e) tt, tt)),
    ))

-- ---- behind an error that is caught
-- next errors are filled, and then handlers act
abbrev pub IsFilled : ℤ → List Entry → Type 0
IsFilled e t = IsFilling e (reverse t)

abbrev pub IsHandled : ℤ → List Entry → Type 0
IsHandled e t = IsHandling e (reverse t)

pub just_caught : (t : List Entry) (e : ℤ) (m c : ℕ) → IsFilled e ((t ++ entry.Error e m ∷ []) ++ entry.Caught c ∷ [])
just_caught t e m c =
    subst (IsFilling e)
    (sym (reverse-append (t ++ entry.Error e m ∷ []) (entry.Caught c ∷ []) ∙ ap (λ es. entry.Caught c ∷ es) (reverse-append t (entry.Error e m ∷ [])))) refl

pub fill_filled : (e : ℤ) (t : List Entry) (i : ℕ) → IsFilled e t → IsFilled e (t ++ entry.Fill i e ∷ [])
fill_filled e t i h = subst (IsFilling e) (sym (reverse-append t (entry.Fill i e ∷ []))) (refl, h)

pub enqueue_filled : (e : ℤ) (t : List Entry) (n : ℕ) (low : Bool) → IsFilled e t → IsFilled e (t ++ entry.Enq n low ∷ [])
enqueue_filled e t n low h = subst (IsFilling e) (sym (reverse-append t (entry.Enq n low ∷ []))) h

handling : (e : ℤ) (es : List Entry) → IsFilling e es → IsHandling e es
handling e (entry.Enq n low ∷ es) h = handling e es h
handling e (entry.Attach m ∷ es) h = absurd h
handling e (entry.Rest f ∷ es) h = absurd h
handling e es h = h

pub filled_handled : (e : ℤ) (t : List Entry) → IsFilled e t → IsHandled e t
filled_handled e t h = handling e (reverse t) h

pub enqueue_handled : (e : ℤ) (t : List Entry) (n : ℕ) (low : Bool) → IsHandled e t → IsHandled e (t ++ entry.Enq n low ∷ [])
enqueue_handled e t n low h = subst (IsHandling e) (sym (reverse-append t (entry.Enq n low ∷ []))) h

pub attach_handled : (e : ℤ) (t : List Entry) (m : ℕ) → IsHandled e t → IsHandled e (t ++ entry.Attach m ∷ [])
attach_handled e t m h = subst (IsHandling e) (sym (reverse-append t (entry.Attach m ∷ []))) h

pub drop_handled : (e : ℤ) (t : List Entry) → IsHandled e t → IsHandled e (t ++ entry.Rest e ∷ [])
drop_handled e t h = subst (IsHandling e) (sym (reverse-append t (entry.Rest e ∷ []))) (refl, h)

-- one that is dropped
pub dropped_goes : (t : List Entry) (e : ℤ) → IsHandled e t → ErrorsGoUp t → ErrorsGoUp (t ++ entry.Rest e ∷ [])
dropped_goes t e c h = up_append [] t (entry.Rest e ∷ []) h (c, tt)
