-- Locals and procedures by their names, behind the references of a table.
use Rattle.std.proofs.Common.{◌≡◌, ℕ, ◌+◌, ◌≤◌, suc, Bool, true, false, not, cond, List, [], ◌∷◌, ◌++◌, length, map, Option, Some, None, is_some, option_map, refl, sym, ap, ◌∙◌, arith, Bor, ltb, unwrap_or, if◌then◌else◌}
use Rattle.std.proofs.lemmas.List.{map-append}
use Rattle.std.proofs.lemmas.Map.Made.{is_some-lookup}
use Rattle.std.proofs.lemmas.Map.Entries.{length-keys_of}
use Rattle.std.specs.Option.{option_copied}
use Rattle.std.specs.List.{list_any, position, position_or_len}
use Rattle.std.specs.Map.{lookup, keys_of}
use Rattle.std.specs.Str.{bytes_eq}
use Rattle.indexmap.specs.IndexMap.{insert_entry}
use Rattle.indexmap.proofs.MapLemmas.{insert_entry-absent, absent_from_lookup}
use Rattle.ak_script.specs.declared.script.Kind.{Kind}
use Rattle.ak_script.specs.declared.script.Param.{Param}
use Rattle.ak_script.specs.declared.script.Proc.{Proc}
use Rattle.ak_script.specs.Statements.{bound}
use Rattle.ak_valid.specs.Numbered.{at, param_names, proc_names}
use Rattle.ak_valid.specs.Valid.{local_named, proc_named}
use Rattle.ak_valid.proofs.Mapping.{map_twice}
use Rattle.ak_syntax.proofs.Lists.{any_mapped}
use Rattle.ak_valid.proofs.Naming.{place_mapped}

abbrev pub Key : Type 0
Key = Bor (List ℕ)

abbrev pub is_key : List ℕ → Key → Bool
is_key name key = bytes_eq name key.now

abbrev pub same_key : Key → Key → Bool
same_key a b = bytes_eq a.now b.now

abbrev pub local_of : Key × Kind → Param
local_of entry = bound entry.0.now entry.1

pub not_some : {A : Type 0} (o : Option A) → is_some o ≡ false → o ≡ None
not_some None h = refl
not_some (Some x) h = cc

-- a place that may not be there
pub place_le : {A : Type 0} (p : A → Bool) (xs : List A) → position_or_len p xs ≤ length xs
place_le p [] = omega arith
place_le p (x ∷ xs) = of (p x) (place_le p xs)
  where
    of : (b : Bool) → position_or_len p xs ≤ length xs → cond (not b) (1 + position_or_len p xs) 0 ≤ suc (length xs)
    of true h = omega arith
    of false h = omega arith

pub place_or : {A : Type 0} (p : A → Bool) (xs : List A) → unwrap_or (position p xs) (length xs) ≡ position_or_len p xs
place_or p xs = of (ltb (position_or_len p xs) (length xs)) refl
  where
    of : (b : Bool) → ltb (position_or_len p xs) (length xs) ≡ b → unwrap_or (cond b (Some (position_or_len p xs)) None) (length xs) ≡ position_or_len p xs
    of true h = refl
    of false h = let le : position_or_len p xs ≤ length xs = place_le p xs in grind arith

-- ---- locals
pub kind_looked : (entries : List (Key × Kind)) (name : List ℕ) → lookup (is_key name) entries
    ≡ option_map (λ (param : Param). param.kind) (local_named (map local_of entries) name)
kind_looked [] name = refl
kind_looked (entry ∷ entries) name = of (bytes_eq name entry.0.now) (kind_looked entries name)
  where
    of : (b : Bool) → lookup (is_key name) entries ≡ option_map (λ (param : Param). param.kind) (local_named (map local_of entries) name)
        → cond b (Some entry.1) (lookup (is_key name) entries) ≡ option_map (λ (param : Param). param.kind)
        (cond b (Some (local_of entry)) (local_named (map local_of entries) name))
    of true ih = refl
    of false ih = ih

any_local : (entries : List (Key × Kind)) (name : List ℕ) → list_any (bytes_eq name) (param_names (map local_of entries))
    ≡ is_some (lookup (is_key name) entries)
any_local entries name =
    any_mapped (bytes_eq name) (λ (param : Param). param.name) (map local_of entries)
    ∙ any_mapped (λ (param : Param). bytes_eq name param.name) local_of entries
    ∙ sym (any_mapped (is_key name) (λ (entry : Key × Kind). entry.0) entries) ∙ sym (is_some-lookup (is_key name) entries)

pub local_twice : (entries : List (Key × Kind)) (name : List ℕ) (old : List Param) → map local_of entries ≡ old
    → is_some (lookup (is_key name) entries) ≡ true → false ≡ not (list_any (bytes_eq name) (param_names old))
local_twice entries name old is there = rw (sym is, any_local entries name, there) refl

pub local_added : (entries new : List (Key × Kind)) (name : Key) (kind : Kind) (old : List Param) → map local_of entries ≡ old
    → is_some (lookup (is_key name.now) entries) ≡ false → new ≡ insert_entry same_key entries name kind
    → (true ≡ not (list_any (bytes_eq name.now) (param_names old))) × (map local_of new ≡ old ++ bound name.now kind ∷ [])
local_added entries new name kind old is absent grown = (
  rw (sym is, any_local entries name.now, absent) refl,
  ap (map local_of) (grown
      ∙ insert_entry-absent same_key name kind entries (absent_from_lookup (is_key name.now) entries (not_some _ absent)))
      ∙ map-append local_of entries ((name, kind) ∷ []) ∙ ap (λ (known : List Param). known ++ bound name.now kind ∷ []) is,
)

pub local_placed : (entries : List (Key × Kind)) (name : List ℕ) (known : List Param) (found : Option ℕ) (size : ℕ)
    → map local_of entries ≡ known → found ≡ position (is_key name) (keys_of entries) → size ≡ length entries
    → unwrap_or found size ≡ at (param_names known) name
local_placed entries name known found size is where_ long =
    rw (where_, long, sym (length-keys_of entries)) (place_or (is_key name) (keys_of entries)
    ∙ place_mapped (is_key name) (λ (entry : Key × Kind). entry.0) entries
    ∙ sym (ap (λ (ps : List Param). at (param_names ps) name) (sym is) ∙ place_mapped (bytes_eq name) (λ (param : Param). param.name)
    (map local_of entries) ∙ place_mapped (λ (param : Param). bytes_eq name param.name) local_of entries))

-- ---- procedures
abbrev pub proc_of : Key × Bor Proc → Proc
proc_of entry = entry.1.now

abbrev pub AreKeyed : List (Key × Bor Proc) → Type 0
AreKeyed entries = map (λ (entry : Key × Bor Proc). entry.0.now) entries ≡ map (λ (entry : Key × Bor Proc). entry.1.now.name) entries

abbrev key_of : Key × Bor Proc → List ℕ
key_of entry = entry.0.now

keys_named : (entries : List (Key × Bor Proc)) → AreKeyed entries → proc_names (map proc_of entries) ≡ map key_of entries
keys_named entries keyed = map_twice (λ (proc : Proc). proc.name) proc_of entries ∙ sym keyed

pub proc_looked : (entries : List (Key × Bor Proc)) (name : List ℕ) → AreKeyed entries
    → option_copied (lookup (is_key name) entries) ≡ proc_named (map proc_of entries) name
proc_looked [] name keyed = refl
proc_looked (entry ∷ entries) name keyed =
    let here : entry.0.now ≡ entry.1.now.name = cc in
    let later : AreKeyed entries = cc in
    of (bytes_eq name entry.0.now) (bytes_eq name entry.1.now.name) (ap (bytes_eq name) here) (proc_looked entries name later)
  where
    of : (a b : Bool) → a ≡ b → option_copied (lookup (is_key name) entries) ≡ proc_named (map proc_of entries) name
        → option_copied (cond a (Some entry.1) (lookup (is_key name) entries)) ≡ cond b (Some (proc_of entry)) (proc_named (map proc_of entries) name)
    of true true same ih = refl
    of false false same ih = ih
    of _ _ same ih = cc

pub any_proc : (entries : List (Key × Bor Proc)) (name : List ℕ) → AreKeyed entries
    → list_any (bytes_eq name) (proc_names (map proc_of entries)) ≡ is_some (lookup (is_key name) entries)
any_proc entries name keyed = ap (list_any (bytes_eq name)) (keys_named entries keyed) ∙ any_mapped (bytes_eq name) key_of entries
    ∙ sym (any_mapped (is_key name) (λ (entry : Key × Bor Proc). entry.0) entries) ∙ sym (is_some-lookup (is_key name) entries)

pub proc_placed : (entries : List (Key × Bor Proc)) (name : List ℕ) (procs : List Proc) (found : Option ℕ) (size : ℕ) → AreKeyed entries
    → map proc_of entries ≡ procs → found ≡ position (is_key name) (keys_of entries) → size ≡ length entries
    → unwrap_or found size ≡ at (proc_names procs) name
proc_placed entries name procs found size keyed is where_ long =
    rw (where_, long, sym (length-keys_of entries)) (place_or (is_key name) (keys_of entries)
    ∙ place_mapped (is_key name) (λ (entry : Key × Bor Proc). entry.0) entries
    ∙ sym (ap (λ (ps : List Proc). at (proc_names ps) name) (sym is) ∙ ap (λ (names : List (List ℕ)). at names name)
    (keys_named entries keyed) ∙ place_mapped (bytes_eq name) key_of entries))

-- a procedure that was put last
pub record Added (new : List (Key × Bor Proc)) (old : List Proc) (proc : Proc) : Type 0 where
  pub keyed : AreKeyed new
  pub absent : list_any (bytes_eq proc.name) (proc_names old) ≡ false
  pub grown : map proc_of new ≡ old ++ proc ∷ []

pub proc_added : (entries new : List (Key × Bor Proc)) (key : Key) (proc : Bor Proc) (old : List Proc) → AreKeyed entries
    → map proc_of entries ≡ old → key.now ≡ proc.now.name
    → is_some (lookup (is_key key.now) entries) ≡ false → new ≡ insert_entry same_key entries key proc → Added new old proc.now
proc_added entries new key proc old keyed is named absent inserted =
    let grown : new ≡ entries ++ (key, proc) ∷ [] =
    inserted ∙ insert_entry-absent same_key key proc entries (absent_from_lookup (is_key key.now) entries (not_some _ absent)) in
    record {
      keyed = rw grown (map-append key_of entries ((key, proc) ∷ []) ∙ (λ i. keyed i ++ named i ∷ [])
          ∙ sym (map-append (λ (entry : Key × Bor Proc). entry.1.now.name) entries ((key, proc) ∷ [])));
      absent = rw (sym named, sym is) (any_proc entries key.now keyed ∙ absent);
      grown = ap (map proc_of) grown ∙ map-append proc_of entries ((key, proc) ∷ []) ∙ ap (λ (procs : List Proc). procs ++ proc.now ∷ []) is;
    }

pub proc_kept : (entries : List (Key × Bor Proc)) (key : Key) (proc : Proc) (old : List Proc) → AreKeyed entries
    → map proc_of entries ≡ old → key.now ≡ proc.name → is_some (lookup (is_key key.now) entries) ≡ true
    → old ≡ (if list_any (bytes_eq proc.name) (proc_names old) then old else old ++ proc ∷ [])
proc_kept entries key proc old keyed is named there =
    let among : list_any (bytes_eq proc.name) (proc_names old) ≡ true = rw (sym named, sym is) (any_proc entries key.now keyed ∙ there) in
    rw among refl
