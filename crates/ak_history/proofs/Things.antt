-- The words of a drain, taken one after the other.
use Rattle.std.proofs.Common.{◌≡◌, ℕ, true, false, Option, Some, None, List, [], ◌∷◌, ◌++◌, length, refl, sym, ap, ◌∙◌, append_assoc, arith}
use Rattle.std.proofs.lemmas.List.{append-nil}
use Rattle.std.specs.Prelude.{codes}
use Rattle.std.specs.Str.{bytes_eq}
use Rattle.ak_row.specs.Parts.{◌>>=◌, thing_of, long_of, word_at}
use Rattle.ak_row.proofs.Parts.{some_pair}
use Rattle.ak_history.specs.declared.event.Event.TheVariants as event
use Rattle.ak_history.specs.Taking.{longs_of, some_requests, requests_of, requests_alone, with_work, brought_of, some_drain}

-- ---- a turn of a loop over the words
pub next_is : (words left : List (List ℕ)) (word : List ℕ) → word_at words ≡ Some (word, left) → words ≡ word ∷ left
next_is [] left word h = cc
next_is (first ∷ words) left word h = let same = some_pair h in cc

none_is : (words : List (List ℕ)) → word_at words ≡ None → words ≡ []
none_is [] h = refl
none_is (first ∷ words) h = cc

-- ---- requests
-- the numbers that were read are put in front
abbrev pub with_front : List ℕ → Option (List ℕ) → Option (List ℕ)
with_front front rest = rest >>= λ requests. Some (front ++ requests)

pub no_front : (rest : Option (List ℕ)) → with_front [] rest ≡ rest
no_front (Some requests) = refl
no_front None = refl

one_more : (front : List ℕ) (q : ℕ) (rest : Option (List ℕ)) → with_front front (rest >>= λ requests. Some (q ∷ requests)) ≡ with_front (front ++ q ∷ []) rest
one_more front q (Some requests) = ap (λ (xs : List ℕ). Some xs) (sym (append_assoc front (q ∷ []) requests))
one_more front q None = refl

goes_on : (front : List ℕ) (word : List ℕ) (words : List (List ℕ)) (q : ℕ) → long_of word ≡ Some q
    → with_front front (longs_of (word ∷ words)) ≡ with_front (front ++ q ∷ []) (longs_of words)
unfolding longs_of
goes_on front word words q h = ap (λ (o : Option (List ℕ)). with_front front o) (rw h refl) ∙ one_more front q (longs_of words)

stops : (front : List ℕ) (word : List ℕ) (words : List (List ℕ)) → long_of word ≡ None → with_front front (longs_of (word ∷ words)) ≡ None
unfolding longs_of
stops front word words h = rw h refl

ends : (front : List ℕ) → with_front front (longs_of []) ≡ Some front
unfolding longs_of
ends front = ap (λ (xs : List ℕ). Some xs) (append-nil front)

pub one_request_more : (front now : List ℕ) (words left : List (List ℕ)) (word : List ℕ) (q : ℕ) (whole : Option (List ℕ))
    → with_front front (longs_of words) ≡ whole → word_at words ≡ Some (word, left) → long_of word ≡ Some q
    → now ≡ front ++ q ∷ [] → with_front now (longs_of left) ≡ whole
one_request_more front now words left word q whole so_far h is grown =
    rw grown (sym (goes_on front word left q is) ∙ (ap (λ ws. with_front front (longs_of ws)) (sym (next_is words left word h)) ∙ so_far))

pub no_request : (front : List ℕ) (words left : List (List ℕ)) (word : List ℕ) (whole : Option (List ℕ)) → with_front front (longs_of words) ≡ whole
    → word_at words ≡ Some (word, left) → long_of word ≡ None
    → None ≡ (whole >>= some_requests)
no_request front words left word whole so_far h none =
    let all : whole ≡ None = sym so_far ∙ (ap (λ ws. with_front front (longs_of ws)) (next_is words left word h) ∙ stops front word left none) in
    rw all refl

pub all_requests : (front : List ℕ) (words : List (List ℕ)) (whole : Option (List ℕ)) → with_front front (longs_of words) ≡ whole
    → word_at words ≡ None → whole ≡ Some front
all_requests front words whole so_far h = sym so_far ∙ (ap (λ ws. with_front front (longs_of ws)) (none_is words h) ∙ ends front)

pub are_some : (requests : List ℕ) → (length requests ≡ 0 → ⊥) → some_requests requests ≡ Some requests
are_some [] h = absurd (h refl)
are_some (q ∷ requests) h = refl

pub are_none : (requests : List ℕ) → length requests ≡ 0 → some_requests requests ≡ None
are_none [] h = refl
are_none (q ∷ requests) h = absurd (omega arith)

-- ---- works and requests
-- the works that were read are put in front
abbrev pub with_works : List ℕ → Option (List ℕ × List ℕ) → Option (List ℕ × List ℕ)
with_works front rest = rest >>= λ b. Some (front ++ b.0, b.1)

pub no_works : (rest : Option (List ℕ × List ℕ)) → with_works [] rest ≡ rest
no_works (Some b) = refl
no_works None = refl

one_work : (front : List ℕ) (id : ℕ) (rest : Option (List ℕ × List ℕ)) → with_works front (with_work id rest) ≡ with_works (front ++ id ∷ []) rest
one_work front id (Some b) = ap (λ (xs : List ℕ). Some (xs, b.1)) (sym (append_assoc front (id ∷ []) b.0))
one_work front id None = refl

-- one more word: a work, no number, or the word before the requests
work_next : (front : List ℕ) (word : List ℕ) (words : List (List ℕ)) (id : ℕ) → bytes_eq word (codes "requests") ≡ false → thing_of word ≡ Some id
    → with_works front (brought_of (word ∷ words)) ≡ with_works (front ++ id ∷ []) (brought_of words)
unfolding brought_of
work_next front word words id other h = ap (with_works front) (rw (other, h) refl) ∙ one_work front id (brought_of words)

no_work_next : (front : List ℕ) (word : List ℕ) (words : List (List ℕ)) → bytes_eq word (codes "requests") ≡ false → thing_of word ≡ None
    → with_works front (brought_of (word ∷ words)) ≡ None
unfolding brought_of
no_work_next front word words other h = rw (other, h) refl

requests_next : (front : List ℕ) (word : List ℕ) (words : List (List ℕ)) → bytes_eq word (codes "requests") ≡ true
    → with_works front (brought_of (word ∷ words)) ≡ with_works front (requests_alone words)
unfolding brought_of
requests_next front word words is = ap (with_works front) (rw is refl)

nothing_next : (front : List ℕ) → with_works front (brought_of []) ≡ Some (front, [])
unfolding brought_of
nothing_next front = ap (λ (xs : List ℕ). Some (xs, [])) (append-nil front)

pub one_work_more : (front now : List ℕ) (words left : List (List ℕ)) (word : List ℕ) (id : ℕ) (whole : Option (List ℕ × List ℕ))
    → with_works front (brought_of words) ≡ whole → word_at words ≡ Some (word, left)
    → bytes_eq word (codes "requests") ≡ false → thing_of word ≡ Some id → now ≡ front ++ id ∷ [] → with_works now (brought_of left) ≡ whole
one_work_more front now words left word id whole so_far h other is grown =
    rw grown (sym (work_next front word left id other is) ∙ (ap (λ ws. with_works front (brought_of ws)) (sym (next_is words left word h)) ∙ so_far))

pub no_drain : (front : List ℕ) (words left : List (List ℕ)) (word : List ℕ) (whole : Option (List ℕ × List ℕ))
    → with_works front (brought_of words) ≡ whole → word_at words ≡ Some (word, left)
    → bytes_eq word (codes "requests") ≡ false → thing_of word ≡ None → None ≡ (whole >>= some_drain)
no_drain front words left word whole so_far h other none =
    let all : whole ≡ None = sym so_far ∙ (ap (λ ws. with_works front (brought_of ws)) (next_is words left word h) ∙ no_work_next front word left other none) in
    rw all refl

-- what stands behind the word `requests` is read
behind_word : (front : List ℕ) (words left : List (List ℕ)) (word : List ℕ) (whole : Option (List ℕ × List ℕ)) (o : Option (List ℕ))
    → with_works front (brought_of words) ≡ whole → word_at words ≡ Some (word, left)
    → bytes_eq word (codes "requests") ≡ true → o ≡ requests_of left → whole ≡ with_works front (o >>= λ requests. Some ([], requests))
behind_word front words left word whole o so_far h is found =
    sym so_far
    ∙ (ap (λ ws. with_works front (brought_of ws)) (next_is words left word h)
    ∙ (requests_next front word left is ∙ ap (λ x. with_works front (x >>= λ requests. Some ([], requests))) (sym found)))

pub no_requests : (front : List ℕ) (words left : List (List ℕ)) (word : List ℕ) (whole : Option (List ℕ × List ℕ))
    → with_works front (brought_of words) ≡ whole → word_at words ≡ Some (word, left)
    → bytes_eq word (codes "requests") ≡ true → None ≡ requests_of left → None ≡ (whole >>= some_drain)
no_requests front words left word whole so_far h is none =
    let all = behind_word front words left word whole None so_far h is none in
    rw all refl

is_drain : (ids requests : List ℕ) → (requests ≡ [] → ⊥) → some_drain (ids, requests) ≡ Some (event.Drain ids requests)
is_drain [] [] some = absurd (some refl)
is_drain [] (q ∷ requests) some = refl
is_drain (id ∷ ids) requests some = refl

some_behind : (words : List (List ℕ)) (requests : List ℕ) → requests_of words ≡ Some requests → requests ≡ [] → ⊥
unfolding requests_of
some_behind words requests h = of (longs_of words) h
  where
    of : (o : Option (List ℕ)) → (o >>= some_requests) ≡ Some requests → requests ≡ [] → ⊥
    of None e none = cc
    of (Some []) e none = cc
    of (Some (q ∷ rest)) e none = cc

pub with_requests : (front : List ℕ) (words left : List (List ℕ)) (word : List ℕ) (whole : Option (List ℕ × List ℕ)) (requests : List ℕ)
    → with_works front (brought_of words) ≡ whole → word_at words ≡ Some (word, left)
    → bytes_eq word (codes "requests") ≡ true → Some requests ≡ requests_of left → Some (event.Drain front requests) ≡ (whole >>= some_drain)
with_requests front words left word whole requests so_far h is found =
    let all = behind_word front words left word whole (Some requests) so_far h is found in
    rw (all, append-nil front) (sym (is_drain front requests (some_behind left requests (sym found))))

pub all_works : (front : List ℕ) (words : List (List ℕ)) (whole : Option (List ℕ × List ℕ)) → with_works front (brought_of words) ≡ whole
    → word_at words ≡ None → whole ≡ Some (front, [])
all_works front words whole so_far h = sym so_far ∙ (ap (λ ws. with_works front (brought_of ws)) (none_is words h) ∙ nothing_next front)

pub drained : (ids : List ℕ) → (length ids ≡ 0 → ⊥) → some_drain (ids, []) ≡ Some (event.Drain ids [])
drained [] h = absurd (h refl)
drained (id ∷ ids) h = refl

pub not_drained : (ids : List ℕ) → length ids ≡ 0 → some_drain (ids, []) ≡ None
not_drained [] h = refl
not_drained (id ∷ ids) h = absurd (omega arith)
