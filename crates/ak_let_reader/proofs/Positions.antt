-- Names of functions in a table of their places.
use Rattle.std.proofs.Common.{◌≡◌, ℕ, zero, suc, ◌+◌, ◌<◌, ◌≤◌, ◌==◌, Bool, true, false, not, ◌||◌, cond, nat_lt, Option, Some, None, is_some, unwrap_or, List, [], ◌∷◌, ◌++◌, map, length, take, get_or, Bor, length-append, refl, sym, ap, ◌∙◌, subst, arith}
use Rattle.std.proofs.lemmas.Bool.Decides.{nat_tests}
use Rattle.std.proofs.lemmas.List.{map-append, length-map}
use Rattle.std.proofs.lemmas.List.Folds.{position_or_len_push, find_at, list_any-append}
use Rattle.std.proofs.lemmas.Slice.Eq.{bytes_eq-Decides}
use Rattle.std.specs.List.{find, list_any, position, position_or_len, slice_get}
use Rattle.std.specs.Map.{lookup}
use Rattle.std.specs.Str.{bytes_eq}
use Rattle.indexmap.specs.IndexMap.{insert_entry}
use Rattle.indexmap.proofs.MapLemmas.{insert_entry-absent, absent_from_lookup}
use Rattle.ak_valid.specs.Numbered.{at}
use Rattle.ak_valid.proofs.Naming.{place_mapped, take_next}
use Rattle.ak_valid.proofs.Tables.{Key, is_key, same_key, not_some, place_le, place_or}
use Rattle.ak_let_syntax.specs.declared.named.NamedFun.{NamedFun}
use Rattle.ak_let_reader.specs.NameFaults.{fun_named}
use Rattle.ak_let_reader.specs.Numbered.{fun_names}
use Rattle.ak_let_reader.specs.Places.{ArePlaces}
use Rattle.ak_let_reader.specs.Refusals.{AreBefore}

-- the first that is there
abbrev first_of : {A : Type 0} → Option A → Option A → Option A
first_of None o = o
first_of (Some a) o = Some a

lookup_push : {K X : Type 0} (t : K → Bool) (es : List (K × X)) (k : K) (v : X)
    → lookup t (es ++ (k, v) ∷ []) ≡ first_of (lookup t es) (cond (t k) (Some v) None)
lookup_push t [] k v = refl
lookup_push {K} {X} t (e ∷ es) k v = of (t e.0) (lookup_push t es k v)
  where
    of : (b : Bool) → lookup t (es ++ (k, v) ∷ []) ≡ first_of (lookup t es) (cond (t k) (Some v) None)
        → cond b (Some e.1) (lookup t (es ++ (k, v) ∷ [])) ≡ first_of (cond b (Some e.1) (lookup t es)) (cond (t k) (Some v) None)
    of true ih = refl
    of false ih = ih

abbrev placed : ℕ → ℕ → Option ℕ
placed a n = cond (nat_lt a n) (Some a) None

placed_next : (a n : ℕ) (b : Bool) → a ≤ n → placed (cond (a == n) (n + cond b 0 1) a) (n + 1) ≡ first_of (placed a n) (cond b (Some n) None)
placed_next a n b le = of (a == n) refl (nat_lt a n) refl b
  where
    of : (e : Bool) → (a == n) ≡ e → (l : Bool) → nat_lt a n ≡ l → (b : Bool)
        → placed (cond e (n + cond b 0 1) a) (n + 1) ≡ first_of (cond l (Some a) None) (cond b (Some n) None)
    of true x true y b = absurd (grind (arith, nat_tests))
    of true x false y true = grind (arith, nat_tests)
    of true x false y false = grind (arith, nat_tests)
    of false x true y b = grind (arith, nat_tests)
    of false x false y b = absurd (grind (arith, nat_tests))

position_push : {X : Type 0} (p : X → Bool) (xs : List X) (y : X) → position p (xs ++ y ∷ []) ≡ first_of (position p xs) (cond (p y) (Some (length xs)) None)
position_push {X} p xs y =
    ap (λ (a : ℕ). placed a (length (xs ++ y ∷ []))) (position_or_len_push p xs y)
    ∙ ap (placed (cond (position_or_len p xs == length xs) (length xs + cond (p y) 0 1) (position_or_len p xs))) (length-append xs (y ∷ []))
    ∙ placed_next (position_or_len p xs) (length xs) (p y) (place_le p xs)

-- a name that stands before changes no first place
kept_by : (es : List (Key × ℕ)) (x name : List ℕ) (o : Option ℕ) (n : ℕ) → is_some (lookup (is_key x) es) ≡ true
    → lookup (is_key name) es ≡ o → (b : Bool) → bytes_eq name x ≡ b → o ≡ first_of o (cond b (Some n) None)
kept_by es x name (Some k) n there e b t = refl
kept_by es x name None n there e false t = refl
kept_by es x name None n there e true t =
    let same : name ≡ x = (bytes_eq-Decides name x).0 t in
    let none : is_some (lookup (is_key x) es) ≡ false = ap (λ (w : List ℕ). is_some (lookup (is_key w) es)) (sym same) ∙ ap is_some e in
    let wrong : true ≡ false = sym there ∙ none in absurd cc

pub places_kept : (es : List (Key × ℕ)) (names : List (List ℕ)) (x : List ℕ) → ArePlaces es names → is_some (lookup (is_key x) es) ≡ true
    → ArePlaces es (names ++ x ∷ [])
places_kept es names x h there = λ name.
    kept_by es x name (lookup (is_key name) es) (length names) there refl (bytes_eq name x) refl
    ∙ ap (λ (o : Option ℕ). first_of o (cond (bytes_eq name x) (Some (length names)) None)) (h name)
    ∙ sym (position_push (bytes_eq name) names x)

pub places_added : (es new : List (Key × ℕ)) (names : List (List ℕ)) (key : Key) (place : ℕ) → ArePlaces es names → place ≡ length names
    → is_some (lookup (is_key key.now) es) ≡ false → new ≡ insert_entry same_key es key place → ArePlaces new (names ++ key.now ∷ [])
places_added es new names key place h is absent grown = λ name.
    let put : new ≡ es ++ (key, place) ∷ [] =
    grown ∙ insert_entry-absent same_key key place es (absent_from_lookup (is_key key.now) es (not_some _ absent)) in
    ap (lookup (is_key name)) put ∙ lookup_push (is_key name) es key place
    ∙ ap (λ (o : Option ℕ). first_of o (cond (bytes_eq name key.now) (Some place) None)) (h name)
    ∙ ap (λ (n : ℕ). first_of (position (bytes_eq name) names) (cond (bytes_eq name key.now) (Some n) None)) is
    ∙ sym (position_push (bytes_eq name) names key.now)

-- the names of one function more
pub names_next : (funs : List NamedFun) (i : ℕ) (fun : NamedFun) → i < length funs → fun ≡ get_or funs i fun
    → fun_names (take (i + 1) funs) ≡ fun_names (take i funs) ++ fun.name ∷ []
names_next funs i fun below is =
    ap fun_names (take_next funs i fun below is) ∙ map-append (λ (f : NamedFun). f.name) (take i funs) (fun ∷ [])

taken_many : (funs : List NamedFun) (i : ℕ) → i ≤ length funs → length (take i funs) ≡ i
taken_many funs zero h = refl
taken_many [] (suc i) h = absurd (omega arith)
taken_many (f ∷ funs) (suc i) h = ap suc (taken_many funs i (omega arith))

pub names_many : (funs : List NamedFun) (i : ℕ) → i ≤ length funs → length (fun_names (take i funs)) ≡ i
names_many funs i h = length-map (take i funs) (λ (f : NamedFun). f.name) ∙ taken_many funs i h

-- ---- what the table answers
pub place_told : (es : List (Key × ℕ)) (funs : List NamedFun) (name : List ℕ) (found : Option ℕ) (size : ℕ) → ArePlaces es (fun_names funs)
    → found ≡ lookup (is_key name) es → size ≡ length funs → unwrap_or found size ≡ at (fun_names funs) name
place_told es funs name found size h is many =
    let long : size ≡ length (fun_names funs) = many ∙ sym (length-map funs (λ (f : NamedFun). f.name)) in
    ap (λ (o : Option ℕ). unwrap_or o size) (is ∙ h name) ∙ ap (unwrap_or (position (bytes_eq name) (fun_names funs))) long
    ∙ place_or (bytes_eq name) (fun_names funs)

pub named_told : (funs : List NamedFun) (name : List ℕ) → slice_get funs (at (fun_names funs) name) ≡ fun_named funs name
named_told funs name =
    ap (slice_get funs) (place_mapped (bytes_eq name) (λ (f : NamedFun). f.name) funs)
    ∙ sym (find_at (λ (f : NamedFun). bytes_eq name f.name) funs)

-- ---- names before a function
front_by : (b found : Bool) (at i : ℕ) → found ≡ nat_lt at i → (b || found) ≡ nat_lt (cond (not b) (1 + at) 0) (suc i)
front_by true found at i h = grind (arith, nat_tests)
front_by false found at i h = h ∙ grind (arith, nat_tests)

any_front : (names : List (List ℕ)) (name : List ℕ) (i : ℕ) → i ≤ length names
    → list_any (bytes_eq name) (take i names) ≡ nat_lt (at names name) i
any_front [] name i h = let none : i ≡ 0 = omega arith in rw none refl
any_front (x ∷ names) name zero h = grind (arith, nat_tests)
any_front (x ∷ names) name (suc i) h =
    front_by (bytes_eq name x) (list_any (bytes_eq name) (take i names)) (at names name) i (any_front names name i (omega arith))

pub before_told : (funs : List NamedFun) (place : ℕ) (before : List (List ℕ)) (name : List ℕ) → place ≤ length funs
    → AreBefore funs place before → list_any (bytes_eq name) before ≡ nat_lt (at (fun_names funs) name) place
before_told funs place before name h are =
    are name ∙ any_front (fun_names funs) name place (rw (length-map funs (λ (f : NamedFun). f.name)) h)

-- one name more, in front of some and behind others
pub any_moved : (seen names : List (List ℕ)) (x : List ℕ) → ((name : List ℕ) → list_any (bytes_eq name) seen ≡ list_any (bytes_eq name) names)
    → (name : List ℕ) → list_any (bytes_eq name) (x ∷ seen) ≡ list_any (bytes_eq name) (names ++ x ∷ [])
any_moved seen names x h name =
    of (bytes_eq name x) (list_any (bytes_eq name) seen) (list_any (bytes_eq name) names) (h name)
    ∙ sym (list_any-append (bytes_eq name) names (x ∷ []))
  where
    of : (b s n : Bool) → s ≡ n → (b || s) ≡ (n || (b || false))
    of true s true e = refl
    of true s false e = refl
    of false s true e = e
    of false s false e = e

pub before_next : (funs : List NamedFun) (i : ℕ) (fun : NamedFun) (before : List (List ℕ)) → i < length funs → fun ≡ get_or funs i fun
    → AreBefore funs i before → AreBefore funs (i + 1) (fun.name ∷ before)
before_next funs i fun before below is are = λ name.
    any_moved before (take i (fun_names funs)) fun.name are name
    ∙ ap (list_any (bytes_eq name)) (sym (names_taken funs i fun below is))
  where
    names_taken : (funs : List NamedFun) (i : ℕ) (fun : NamedFun) → i < length funs → fun ≡ get_or funs i fun
        → take (i + 1) (fun_names funs) ≡ take i (fun_names funs) ++ fun.name ∷ []
    names_taken [] i fun below is = absurd (omega arith)
    names_taken (f ∷ funs) zero fun below is = ap (λ (g : NamedFun). g.name ∷ []) (sym is)
    names_taken (f ∷ funs) (suc i) fun below is =
        let next : suc i + 1 ≡ suc (i + 1) = omega arith in
        rw next (ap (λ (ns : List (List ℕ)). f.name ∷ ns) (names_taken funs i fun (omega arith) is))
