-- How pieces that go through a buffer to a sink add up.
use Rattle.std.proofs.Common.{◌≡◌, ◌<◌, ℕ, ◌+◌, ◌-◌, List, [], ◌++◌, Option, Some, None, Result, Ok, Err, OnErr, length, get_or, take, drop, flat_map, refl, ap, sym, ◌∙◌, subst, append_assoc, append-nil}
use Rattle.std.proofs.Math.Seq.{take-add}
use Rattle.std.proofs.lemmas.Grind.{flat_map-append}
use Rattle.std.proofs.lemmas.List.{take-append-drop, take_rest, take_more, flat_map_more}
use Rattle.ak_base.specs.Streams.{grown, TookBeginning, Passes}

-- a fact that holds, at an answer that may be a fault
pub on_err : {T E P : Type 0} (r : Result T E) → P → OnErr r P
on_err (Ok x) p = tt
on_err (Err e) p = p

-- no bytes
pub grown-nothing : (told : Option (List ℕ)) → grown told [] ≡ told
grown-nothing None = refl
grown-nothing (Some t) = ap (λ (xs : List ℕ). Some xs) (append-nil t)

-- two pieces
pub grown-grown : (told : Option (List ℕ)) (a b : List ℕ) → grown (grown told a) b ≡ grown told (a ++ b)
grown-grown None a b = refl
grown-grown (Some t) a b = ap (λ (xs : List ℕ). Some xs) (append_assoc t a b)

-- nothing happened
pub passes-start : (told : Option (List ℕ)) (waited : List ℕ) → Passes told told waited waited []
passes-start told waited =
    record { beginning = []; took = sym (grown-nothing told); order = sym (append-nil waited) }

-- one after another
pub passes-then : (t0 t1 t2 : Option (List ℕ)) (w0 w1 w2 a b : List ℕ)
    → Passes t0 t1 w0 w1 a → Passes t1 t2 w1 w2 b → Passes t0 t2 w0 w2 (a ++ b)
passes-then t0 t1 t2 w0 w1 w2 a b p q = record {
  beginning = p.beginning ++ q.beginning;
  took = q.took ∙ ap (λ (t : Option (List ℕ)). grown t q.beginning) p.took ∙ grown-grown t0 p.beginning q.beginning;
  order =
      append_assoc p.beginning q.beginning w2
      ∙ ap (λ (xs : List ℕ). p.beginning ++ xs) q.order
      ∙ sym (append_assoc p.beginning w1 b)
      ∙ ap (λ (xs : List ℕ). xs ++ b) p.order
      ∙ append_assoc w0 a b;
}

-- a fault after some pieces
pub passes-then_fault : (t0 t1 t2 : Option (List ℕ)) (w0 w1 a b : List ℕ)
    → Passes t0 t1 w0 w1 a → TookBeginning t1 t2 (w1 ++ b) → TookBeginning t0 t2 (w0 ++ (a ++ b))
passes-then_fault t0 t1 t2 w0 w1 a b p q = record {
  beginning = p.beginning ++ q.beginning;
  lost = q.lost;
  took = q.took ∙ ap (λ (t : Option (List ℕ)). grown t q.beginning) p.took ∙ grown-grown t0 p.beginning q.beginning;
  order =
      append_assoc p.beginning q.beginning q.lost
      ∙ ap (λ (xs : List ℕ). p.beginning ++ xs) q.order
      ∙ sym (append_assoc p.beginning w1 b)
      ∙ ap (λ (xs : List ℕ). xs ++ b) p.order
      ∙ append_assoc w0 a b;
}

-- a beginning of these bytes is one of more bytes too
pub beginning-of_more : (t0 t1 : Option (List ℕ)) (bytes more : List ℕ)
    → TookBeginning t0 t1 bytes → TookBeginning t0 t1 (bytes ++ more)
beginning-of_more t0 t1 bytes more p = record {
  beginning = p.beginning;
  lost = p.lost ++ more;
  took = p.took;
  order = sym (append_assoc p.beginning p.lost more) ∙ ap (λ (xs : List ℕ). xs ++ more) p.order;
}

-- where nothing waits any more, the sink took all
pub passes-all : (t0 t1 : Option (List ℕ)) (waited bytes : List ℕ)
    → Passes t0 t1 waited [] bytes → t1 ≡ grown t0 (waited ++ bytes)
passes-all t0 t1 waited bytes p =
    p.took ∙ ap (λ (xs : List ℕ). grown t0 xs) (sym (append-nil p.beginning) ∙ p.order)

-- one after another, and the second fails
pub took-then_fault : (t0 t1 t2 : Option (List ℕ)) (a b : List ℕ)
    → t1 ≡ grown t0 a → TookBeginning t1 t2 b → TookBeginning t0 t2 (a ++ b)
took-then_fault t0 t1 t2 a b e p = record {
  beginning = a ++ p.beginning;
  lost = p.lost;
  took = p.took ∙ ap (λ (t : Option (List ℕ)). grown t p.beginning) e ∙ grown-grown t0 a p.beginning;
  order = append_assoc a p.beginning p.lost ∙ ap (λ (xs : List ℕ). a ++ xs) p.order;
}

-- what waited and then a piece, both written
pub passes-by : (t0 t1 t2 : Option (List ℕ)) (waited bytes : List ℕ)
    → t1 ≡ grown t0 waited → t2 ≡ grown t1 bytes → Passes t0 t2 waited [] bytes
passes-by t0 t1 t2 waited bytes e f = record {
  beginning = waited ++ bytes;
  took = f ∙ ap (λ (t : Option (List ℕ)). grown t bytes) e ∙ grown-grown t0 waited bytes;
  order = append-nil (waited ++ bytes);
}

-- the piece waits too
pub passes-kept : (t0 : Option (List ℕ)) (waited bytes : List ℕ) → Passes t0 t0 waited (waited ++ bytes) bytes
passes-kept t0 waited bytes = record { beginning = []; took = sym (grown-nothing t0); order = refl }

-- so many of the bytes were taken, and then a fault
pub beginning-of_written : (t0 t1 t2 : Option (List ℕ)) (bytes : List ℕ) (at : ℕ)
    → t1 ≡ grown t0 (take at bytes) → t2 ≡ t1 → TookBeginning t0 t2 bytes
beginning-of_written t0 t1 t2 bytes at e f =
    record { beginning = take at bytes; lost = drop at bytes; took = f ∙ e; order = take-append-drop at bytes }

-- some more of the bytes were taken
pub grown-more : (t0 t1 t2 : Option (List ℕ)) (bytes : List ℕ) (at n : ℕ)
    → t1 ≡ grown t0 (take at bytes)
    → t2 ≡ grown t1 (take n (take (length bytes - at) (drop at bytes)))
    → t2 ≡ grown t0 (take (at + n) bytes)
grown-more t0 t1 t2 bytes at n e f =
    f
    ∙ ap (λ (xs : List ℕ). grown t1 (take n xs)) (take_rest bytes at)
    ∙ ap (λ (t : Option (List ℕ)). grown t (take n (drop at bytes))) e
    ∙ grown-grown t0 (take at bytes) (take n (drop at bytes))
    ∙ ap (λ (xs : List ℕ). grown t0 xs) (sym (take-add at n bytes))

-- the texts of the items so far, and the next one
pub texts-more : {X : Type 0} (f : X → List ℕ) (xs : List X) (i : ℕ) (d : X) → i < length xs
    → flat_map f (take i xs) ++ f (get_or xs i d) ≡ flat_map f (take (i + 1) xs)
texts-more f xs i d h = flat_map_more f [] (take i xs) (get_or xs i d) ∙ ap (λ ys. flat_map f ys) (sym (take_more xs i d h))

-- the texts of the items so far, and those of the others
pub texts-split : {X : Type 0} (f : X → List ℕ) (xs : List X) (i : ℕ)
    → flat_map f (take i xs) ++ flat_map f (drop i xs) ≡ flat_map f xs
texts-split f xs i =
    sym (flat_map-append f (take i xs) (drop i xs)) ∙ ap (λ ys. flat_map f ys) (take-append-drop i xs)

-- the text of one more item
pub passes-item : {X : Type 0} (f : X → List ℕ) (xs : List X) (i : ℕ) (d : X)
    (t0 t1 t2 : Option (List ℕ)) (w0 w1 w2 : List ℕ) → i < length xs
    → Passes t0 t1 w0 w1 (flat_map f (take i xs))
    → Passes t1 t2 w1 w2 (f (get_or xs i d))
    → Passes t0 t2 w0 w2 (flat_map f (take (i + 1) xs))
passes-item f xs i d t0 t1 t2 w0 w1 w2 h p q =
    subst (λ (bytes : List ℕ). Passes t0 t2 w0 w2 bytes) (texts-more f xs i d h)
    (passes-then t0 t1 t2 w0 w1 w2 (flat_map f (take i xs)) (f (get_or xs i d)) p q)

-- a fault in the text of an item
pub passes-item_fault : {X : Type 0} (f : X → List ℕ) (xs : List X) (i : ℕ) (d : X)
    (t0 t1 t2 : Option (List ℕ)) (w0 w1 : List ℕ) → i < length xs
    → Passes t0 t1 w0 w1 (flat_map f (take i xs))
    → TookBeginning t1 t2 (w1 ++ f (get_or xs i d))
    → TookBeginning t0 t2 (w0 ++ flat_map f xs)
passes-item_fault f xs i d t0 t1 t2 w0 w1 h p q =
    subst (λ (bytes : List ℕ). TookBeginning t0 t2 bytes)
    (append_assoc w0 (flat_map f (take (i + 1) xs)) (flat_map f (drop (i + 1) xs))
    ∙ ap (λ (ys : List ℕ). w0 ++ ys) (texts-split f xs (i + 1)))
    (beginning-of_more t0 t2 (w0 ++ flat_map f (take (i + 1) xs)) (flat_map f (drop (i + 1) xs))
    (subst (λ (bytes : List ℕ). TookBeginning t0 t2 (w0 ++ bytes)) (texts-more f xs i d h)
    (passes-then_fault t0 t1 t2 w0 w1 (flat_map f (take i xs)) (f (get_or xs i d)) p q)))

-- a fault as what waits is written
pub passes-flush_fault : (t0 t1 t2 : Option (List ℕ)) (w0 w1 bytes : List ℕ)
    → Passes t0 t1 w0 w1 bytes → TookBeginning t1 t2 w1 → TookBeginning t0 t2 (w0 ++ bytes)
passes-flush_fault t0 t1 t2 w0 w1 bytes p q = record {
  beginning = p.beginning ++ q.beginning;
  lost = q.lost;
  took = q.took ∙ ap (λ (t : Option (List ℕ)). grown t q.beginning) p.took ∙ grown-grown t0 p.beginning q.beginning;
  order = append_assoc p.beginning q.beginning q.lost ∙ ap (λ (xs : List ℕ). p.beginning ++ xs) q.order ∙ p.order;
}

-- the same where the item has a name
pub passes-member : {X : Type 0} (f : X → List ℕ) (xs : List X) (i : ℕ) (x : X)
    (t0 t1 t2 : Option (List ℕ)) (w0 w1 w2 : List ℕ) → x ≡ get_or xs i x → i < length xs
    → Passes t0 t1 w0 w1 (flat_map f (take i xs))
    → Passes t1 t2 w1 w2 (f x)
    → Passes t0 t2 w0 w2 (flat_map f (take (i + 1) xs))
passes-member f xs i x t0 t1 t2 w0 w1 w2 is h p q =
    passes-item f xs i x t0 t1 t2 w0 w1 w2 h p (subst (λ y. Passes t1 t2 w1 w2 (f y)) is q)

pub passes-member_fault : {X : Type 0} (f : X → List ℕ) (xs : List X) (i : ℕ) (x : X)
    (t0 t1 t2 : Option (List ℕ)) (w0 w1 : List ℕ) → x ≡ get_or xs i x → i < length xs
    → Passes t0 t1 w0 w1 (flat_map f (take i xs))
    → TookBeginning t1 t2 (w1 ++ f x)
    → TookBeginning t0 t2 (w0 ++ flat_map f xs)
passes-member_fault f xs i x t0 t1 t2 w0 w1 is h p q =
    passes-item_fault f xs i x t0 t1 t2 w0 w1 h p (subst (λ y. TookBeginning t1 t2 (w1 ++ f y)) is q)

-- Of all these bytes the last ones are still to come: the others passed behind those that waited.
pub record Toward (old new : Option (List ℕ)) (waited waits rest all : List ℕ) : Type 0 where
  pub beginning : List ℕ
  pub took : new ≡ grown old beginning
  pub order : beginning ++ (waits ++ rest) ≡ waited ++ all

pub toward-start : (told : Option (List ℕ)) (waited all : List ℕ) → Toward told told waited waited all all
toward-start told waited all = record { beginning = []; took = sym (grown-nothing told); order = refl }

-- a piece of the rest passes
pub toward-then : (t0 t1 t2 : Option (List ℕ)) (w0 w1 w2 piece rest all : List ℕ)
    → Toward t0 t1 w0 w1 (piece ++ rest) all → Passes t1 t2 w1 w2 piece → Toward t0 t2 w0 w2 rest all
toward-then t0 t1 t2 w0 w1 w2 piece rest all p q = record {
  beginning = p.beginning ++ q.beginning;
  took = q.took ∙ ap (λ (t : Option (List ℕ)). grown t q.beginning) p.took ∙ grown-grown t0 p.beginning q.beginning;
  order =
      append_assoc p.beginning q.beginning (w2 ++ rest)
      ∙ ap (λ (xs : List ℕ). p.beginning ++ xs) (sym (append_assoc q.beginning w2 rest))
      ∙ ap (λ (xs : List ℕ). p.beginning ++ (xs ++ rest)) q.order
      ∙ ap (λ (xs : List ℕ). p.beginning ++ xs) (append_assoc w1 piece rest)
      ∙ p.order;
}

-- a fault in a piece of the rest
pub toward-fault : (t0 t1 t2 : Option (List ℕ)) (w0 w1 piece rest all : List ℕ)
    → Toward t0 t1 w0 w1 (piece ++ rest) all → TookBeginning t1 t2 (w1 ++ piece) → TookBeginning t0 t2 (w0 ++ all)
toward-fault t0 t1 t2 w0 w1 piece rest all p q = record {
  beginning = p.beginning ++ q.beginning;
  lost = q.lost ++ rest;
  took = q.took ∙ ap (λ (t : Option (List ℕ)). grown t q.beginning) p.took ∙ grown-grown t0 p.beginning q.beginning;
  order =
      append_assoc p.beginning q.beginning (q.lost ++ rest)
      ∙ ap (λ (xs : List ℕ). p.beginning ++ xs) (sym (append_assoc q.beginning q.lost rest))
      ∙ ap (λ (xs : List ℕ). p.beginning ++ (xs ++ rest)) q.order
      ∙ ap (λ (xs : List ℕ). p.beginning ++ xs) (append_assoc w1 piece rest)
      ∙ p.order;
}

-- the last piece passes
pub toward-end : (t0 t1 t2 : Option (List ℕ)) (w0 w1 w2 piece all : List ℕ)
    → Toward t0 t1 w0 w1 piece all → Passes t1 t2 w1 w2 piece → Passes t0 t2 w0 w2 all
toward-end t0 t1 t2 w0 w1 w2 piece all p q = record {
  beginning = p.beginning ++ q.beginning;
  took = q.took ∙ ap (λ (t : Option (List ℕ)). grown t q.beginning) p.took ∙ grown-grown t0 p.beginning q.beginning;
  order =
      append_assoc p.beginning q.beginning w2
      ∙ ap (λ (xs : List ℕ). p.beginning ++ xs) q.order
      ∙ p.order;
}

pub toward-end_fault : (t0 t1 t2 : Option (List ℕ)) (w0 w1 piece all : List ℕ)
    → Toward t0 t1 w0 w1 piece all → TookBeginning t1 t2 (w1 ++ piece) → TookBeginning t0 t2 (w0 ++ all)
toward-end_fault t0 t1 t2 w0 w1 piece all p q = record {
  beginning = p.beginning ++ q.beginning;
  lost = q.lost;
  took = q.took ∙ ap (λ (t : Option (List ℕ)). grown t q.beginning) p.took ∙ grown-grown t0 p.beginning q.beginning;
  order =
      append_assoc p.beginning q.beginning q.lost
      ∙ ap (λ (xs : List ℕ). p.beginning ++ xs) q.order
      ∙ p.order;
}
