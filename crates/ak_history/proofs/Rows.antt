-- The words of a line are those of the row of what is found in them, and the words of a row give its line.
use Rattle.std.proofs.Common.{◌≡◌, ℕ, ◌+◌, ◌≤◌, Bool, true, false, Option, Some, None, List, [], ◌∷◌, ◌++◌, map, length, ℤ, refl, sym, ap, ◌∙◌, subst, cond, ◌⊎◌, inl, inr, arith}
use Rattle.std.proofs.lemmas.Slice.Eq.{bytes_eq-Decides}
use Rattle.std.specs.Prelude.{codes}
use Rattle.std.specs.List.{AllZip}
use Rattle.std.specs.Str.{bytes_eq}
use Rattle.ak_labor.specs.declared.work.Work.{Work}
use Rattle.ak_labor.specs.declared.work.WorkKind.{WorkKind}
use Rattle.ak_labor.specs.declared.work.Outcome.{Outcome}
use Rattle.ak_print.specs.Work.{kind_word}
use Rattle.ak_row.specs.Places.{Place, Exactly, Thing, LongNumber, Signed, Counted, Stands, outcome_places}
use Rattle.ak_row.specs.Parts.{Part, ◌>>=◌, both, mapped, thing_of, thing_at, long_of, long_at, count_at, signed_at, outcome_at, whole}
use Rattle.ak_row.proofs.Numbers.{thing_reads, thing_some, long_reads, long_some}
use Rattle.ak_row.proofs.Parts.{IsPart, some_is, some_pair, bind_some, bind_is, both_part, image, mapped_sound, mapped_complete, chosen_part, table_reads, thing_part, long_part, count_part, signed_part, kind_part, outcome_part, whole_sound, whole_complete}
use Rattle.ak_history.specs.declared.event.Event.{Event}
use Rattle.ak_history.specs.declared.event.Event.TheVariants as event
use Rattle.ak_history.specs.declared.line.HistoryLine.{HistoryLine}
use Rattle.ak_history.specs.declared.line.HistoryLine.TheVariants.{Idle, Of}
use Rattle.ak_history.specs.declared.line.FirstWord.{FirstWord}
use Rattle.ak_history.specs.declared.line.FirstWord.TheVariants as first
use Rattle.ak_history.specs.Reading.{submit_places, answer_places, request_places, event_row, line_row, BringsSome}
use Rattle.ak_history.specs.Taking.{first_word, all_first_words, first_named, for_whom_from, for_whom_at, answer_from, answer_at, work_at, longs_of, some_requests, requests_of, requests_alone, with_work, brought_of, submit_of, start_of, finish_of, request_of, asker_end_of, some_drain, drain_of, answered_of, helper_of, helper_end_of, close_of, idle_of, of_event, line_by, line_of}

-- ---- for whom a work is
abbrev whom_places : Option ℕ → List Place
whom_places helper = submit_places helper []

abbrev nowhere : Part (Option ℕ)
nowhere words = None

abbrev just : Option ℕ → Part (Option ℕ)
just o words = Some (o, words)

-- what one word alone stands for
just_sound : (o x : Option ℕ) (word : List ℕ) (row : Option ℕ → List Place) (words left : List (List ℕ)) → row o ≡ Exactly word ∷ []
    → just o words ≡ Some (x, left)
    → (places : List Place) → AllZip Stands places left → AllZip Stands (row x ++ places) (word ∷ words)
just_sound o x word row words left is h places rest =
    let same = some_pair h in
    let last : AllZip Stands places words = subst (λ (ws : List (List ℕ)). AllZip Stands places ws) (sym same.1) rest in
    let one : AllZip Stands ((Exactly word ∷ []) ++ places) (word ∷ words) = (refl, last) in
    let P : Option ℕ → Type 0 = λ y. AllZip Stands (row y ++ places) (word ∷ words) in
    subst P same.0 (subst (λ (ps : List Place). AllZip Stands (ps ++ places) (word ∷ words)) (sym is) one)

whom_sound : (word : List ℕ) (words left : List (List ℕ)) (x : Option ℕ) → for_whom_from word words ≡ Some (x, left) → (places : List Place)
    → AllZip Stands places left → AllZip Stands (whom_places x ++ places) (word ∷ words)
whom_sound word words left x h places rest =
    of (chosen_part (bytes_eq word (codes "general")) (just None) (cond (bytes_eq word (codes "helper")) (mapped Some thing_at) nowhere)
    words (Some (x, left)) h)
  where
    on_helper : ((bytes_eq word (codes "helper") ≡ true) × (mapped Some thing_at words ≡ Some (x, left)))
        ⊎ ((bytes_eq word (codes "helper") ≡ false) × (nowhere words ≡ Some (x, left)))
        → AllZip Stands (whom_places x ++ places) (word ∷ words)
    on_helper (inl e) = subst (λ (w : List ℕ). AllZip Stands (whom_places x ++ places) (w ∷ words))
        (sym ((bytes_eq-Decides word (codes "helper")).0 e.0))
        (mapped_sound Some (codes "helper") whom_places thing_part (λ n. refl) words left x e.1 places rest)
    on_helper (inr e) = let wrong : nowhere words ≡ Some (x, left) = e.1 in absurd cc

    of : ((bytes_eq word (codes "general") ≡ true) × (just None words ≡ Some (x, left)))
        ⊎ ((bytes_eq word (codes "general") ≡ false)
        × ((cond (bytes_eq word (codes "helper")) (mapped Some thing_at) nowhere) words ≡ Some (x, left)))
        → AllZip Stands (whom_places x ++ places) (word ∷ words)
    of (inl e) = subst (λ (w : List ℕ). AllZip Stands (whom_places x ++ places) (w ∷ words))
        (sym ((bytes_eq-Decides word (codes "general")).0 e.0))
        (just_sound None x (codes "general") whom_places words left refl e.1 places rest)
    of (inr e) = on_helper (chosen_part (bytes_eq word (codes "helper")) (mapped Some thing_at) nowhere words (Some (x, left)) e.1)

whom_words_sound : (words left : List (List ℕ)) (x : Option ℕ) → for_whom_at words ≡ Some (x, left) → (places : List Place)
    → AllZip Stands places left → AllZip Stands (whom_places x ++ places) words
unfolding for_whom_at
whom_words_sound [] left x h places rest = cc
whom_words_sound (word ∷ words) left x h places rest = whom_sound word words left x h places rest

whom_complete : (words : List (List ℕ)) (x : Option ℕ) (places : List Place) → AllZip Stands (whom_places x ++ places) words
    → (left : List (List ℕ)) × (for_whom_at words ≡ Some (x, left)) × AllZip Stands places left
unfolding for_whom_at
whom_complete [] None places h = absurd h
whom_complete [] (Some helper) places h = absurd h
whom_complete (word ∷ words) None places h =
    (words, subst (λ (w : List ℕ). for_whom_from w words ≡ Some (None, words)) (sym h.0) refl, h.1)
whom_complete (word ∷ words) (Some helper) places h =
    let y = mapped_complete Some thing_part words helper places h.1 in
    (y.0, subst (λ (w : List ℕ). for_whom_from w words ≡ Some (Some helper, y.0)) (sym h.0) y.1, y.2)

whom_part : IsPart whom_places for_whom_at
whom_part = record { sound = whom_words_sound; complete = whom_complete }

-- ---- what a helper is answered
answer_sound : (word : List ℕ) (words left : List (List ℕ)) (x : Option ℕ) → answer_from word words ≡ Some (x, left) → (places : List Place)
    → AllZip Stands places left → AllZip Stands (answer_places x ++ places) (word ∷ words)
answer_sound word words left x h places rest =
    of (chosen_part (bytes_eq word (codes "granted")) (mapped Some thing_at) (cond (bytes_eq word (codes "refused")) (just None) nowhere)
    words (Some (x, left)) h)
  where
    on_refused : ((bytes_eq word (codes "refused") ≡ true) × (just None words ≡ Some (x, left)))
        ⊎ ((bytes_eq word (codes "refused") ≡ false) × (nowhere words ≡ Some (x, left)))
        → AllZip Stands (answer_places x ++ places) (word ∷ words)
    on_refused (inl e) = subst (λ (w : List ℕ). AllZip Stands (answer_places x ++ places) (w ∷ words))
        (sym ((bytes_eq-Decides word (codes "refused")).0 e.0))
        (just_sound None x (codes "refused") answer_places words left refl e.1 places rest)
    on_refused (inr e) = let wrong : nowhere words ≡ Some (x, left) = e.1 in absurd cc

    of : ((bytes_eq word (codes "granted") ≡ true) × (mapped Some thing_at words ≡ Some (x, left)))
        ⊎ ((bytes_eq word (codes "granted") ≡ false)
        × ((cond (bytes_eq word (codes "refused")) (just None) nowhere) words ≡ Some (x, left)))
        → AllZip Stands (answer_places x ++ places) (word ∷ words)
    of (inl e) = subst (λ (w : List ℕ). AllZip Stands (answer_places x ++ places) (w ∷ words))
        (sym ((bytes_eq-Decides word (codes "granted")).0 e.0))
        (mapped_sound Some (codes "granted") answer_places thing_part (λ n. refl) words left x e.1 places rest)
    of (inr e) = on_refused (chosen_part (bytes_eq word (codes "refused")) (just None) nowhere words (Some (x, left)) e.1)

answer_words_sound : (words left : List (List ℕ)) (x : Option ℕ) → answer_at words ≡ Some (x, left) → (places : List Place)
    → AllZip Stands places left → AllZip Stands (answer_places x ++ places) words
unfolding answer_at
answer_words_sound [] left x h places rest = cc
answer_words_sound (word ∷ words) left x h places rest = answer_sound word words left x h places rest

answer_complete : (words : List (List ℕ)) (x : Option ℕ) (places : List Place) → AllZip Stands (answer_places x ++ places) words
    → (left : List (List ℕ)) × (answer_at words ≡ Some (x, left)) × AllZip Stands places left
unfolding answer_at
answer_complete [] None places h = absurd h
answer_complete [] (Some thread) places h = absurd h
answer_complete (word ∷ words) None places h =
    (words, subst (λ (w : List ℕ). answer_from w words ≡ Some (None, words)) (sym h.0) refl, h.1)
answer_complete (word ∷ words) (Some thread) places h =
    let y = mapped_complete Some thing_part words thread places h.1 in
    (y.0, subst (λ (w : List ℕ). answer_from w words ≡ Some (Some thread, y.0)) (sym h.0) y.1, y.2)

answer_part : IsPart answer_places answer_at
answer_part = record { sound = answer_words_sound; complete = answer_complete }

-- ---- a work
abbrev work_places : Work → List Place
work_places work = Exactly (kind_word work.kind) ∷ Signed work.num ∷ []

abbrev work_from : WorkKind × ℤ → Work
work_from t = record { kind = t.0; num = t.1 }

-- the image of a part, which has the row of its preimage
renamed_part : {A B : Type 0} (f : A → B) (g : B → A) {row : A → List Place} {part : Part A} → ((y : B) → f (g y) ≡ y) → ((x : A) → g (f x) ≡ x)
    → IsPart row part → IsPart (λ y. row (g y)) (mapped f part)
renamed_part {A} {B} f g {row} {part} there back p = record { sound = sound; complete = complete }
  where
    sound : (words left : List (List ℕ)) (y : B) → mapped f part words ≡ Some (y, left) → (places : List Place) → AllZip Stands places left
        → AllZip Stands (row (g y) ++ places) words
    sound words left y h places rest =
        let x = bind_some (part words) (image f) (y, left) h in
        let found = some_pair x.2 in
        let last : AllZip Stands places x.0.1 = subst (λ (ws : List (List ℕ)). AllZip Stands places ws) (sym found.1) rest in
        let P : A → Type 0 = λ v. AllZip Stands (row v ++ places) words in
        subst P (sym (back x.0.0) ∙ ap g found.0) (p.sound words x.0.1 x.0.0 x.1 places last)

    complete : (words : List (List ℕ)) (y : B) (places : List Place) → AllZip Stands (row (g y) ++ places) words
        → (left : List (List ℕ)) × (mapped f part words ≡ Some (y, left)) × AllZip Stands places left
    complete words y places h =
        let z = mapped_complete f p words (g y) places h in
        (z.0, subst (λ (v : B). mapped f part words ≡ Some (v, z.0)) (there y) z.1, z.2)

work_part : IsPart work_places work_at
unfolding work_at
work_part = renamed_part work_from (λ w. (w.kind, w.num)) (λ w. refl) (λ t. refl) (both_part kind_part signed_part)

-- ---- what a drain brings
longs_sound : (words : List (List ℕ)) (requests : List ℕ) → longs_of words ≡ Some requests → AllZip Stands (map LongNumber requests) words
unfolding longs_of
longs_sound [] requests h = subst (λ (xs : List ℕ). AllZip Stands (map LongNumber xs) []) (some_is h) tt
longs_sound (word ∷ words) requests h =
    let a = bind_some (long_of word) (λ q. longs_of words >>= λ rest. Some (q ∷ rest)) requests h in
    let b = bind_some (longs_of words) (λ rest. Some (a.0 ∷ rest)) requests a.2 in
    let all : AllZip Stands (map LongNumber (a.0 ∷ b.0)) (word ∷ words) = (long_reads word a.0 a.1, longs_sound words b.0 b.1) in
    subst (λ (xs : List ℕ). AllZip Stands (map LongNumber xs) (word ∷ words)) (some_is b.2) all

longs_complete : (requests : List ℕ) (words : List (List ℕ)) → AllZip Stands (map LongNumber requests) words → longs_of words ≡ Some requests
unfolding longs_of
longs_complete [] [] h = refl
longs_complete [] (word ∷ words) h = absurd h
longs_complete (q ∷ requests) [] h = absurd h
longs_complete (q ∷ requests) (word ∷ words) h =
    let one : long_of word ≡ Some q = long_some word q h.0.0 h.0.1 in
    let rest : longs_of words ≡ Some requests = longs_complete requests words h.1 in
    rw (one, rest) refl

-- the word `requests` is no number
no_number : thing_of (codes "requests") ≡ None
unfolding thing_of
no_number = refl

other_word : (word : List ℕ) (id : ℕ) → Stands (Thing id) word → bytes_eq word (codes "requests") ≡ false
other_word word id h = of (bytes_eq word (codes "requests")) refl
  where
    of : (b : Bool) → bytes_eq word (codes "requests") ≡ b → bytes_eq word (codes "requests") ≡ false
    of true e =
        let same : word ≡ codes "requests" = (bytes_eq-Decides word (codes "requests")).0 e in
        let found : thing_of word ≡ Some id = thing_some word id h.0 h.1 in
        absurd (cc (no_number, ap thing_of same))
    of false e = e

abbrev brought_places : List ℕ × List ℕ → List Place
brought_places t = map Thing t.0 ++ request_places t.1

some_sound : (words : List (List ℕ)) (ids requests : List ℕ) → AllZip Stands (map LongNumber ids) words → some_requests ids ≡ Some requests
    → AllZip Stands (request_places requests) (codes "requests" ∷ words)
some_sound words [] requests all h = cc
some_sound words (q ∷ ids) requests all h =
    let P : List ℕ → Type 0 = λ qs. AllZip Stands (request_places qs) (codes "requests" ∷ words) in
    let these : P (q ∷ ids) = (refl, all) in
    subst P (some_is h) these

requests_sound : (words : List (List ℕ)) (requests : List ℕ) → requests_of words ≡ Some requests
    → AllZip Stands (request_places requests) (codes "requests" ∷ words)
unfolding requests_of
requests_sound words requests h =
    let found = bind_some (longs_of words) some_requests requests h in
    some_sound words found.0 requests (longs_sound words found.0 found.1) found.2

alone_sound : (words : List (List ℕ)) (t : List ℕ × List ℕ) → requests_alone words ≡ Some t → AllZip Stands (brought_places t) (codes "requests" ∷ words)
alone_sound words t h =
    let found = bind_some (requests_of words) (λ requests. Some ([], requests)) t h in
    let P : List ℕ × List ℕ → Type 0 = λ x. AllZip Stands (brought_places x) (codes "requests" ∷ words) in
    let these : P ([], found.0) = requests_sound words found.0 found.1 in
    subst P (some_is found.2) these

brought_sound : (words : List (List ℕ)) (t : List ℕ × List ℕ) → brought_of words ≡ Some t → AllZip Stands (brought_places t) words
unfolding brought_of
brought_sound [] t h =
    let P : List ℕ × List ℕ → Type 0 = λ x. AllZip Stands (brought_places x) [] in
    let none : P ([], []) = tt in
    subst P (some_is h) none
brought_sound (word ∷ words) t h = of (bytes_eq word (codes "requests")) refl h (brought_sound words)
  where
    of : (b : Bool) → bytes_eq word (codes "requests") ≡ b → cond b (requests_alone words) (thing_of word >>= λ id. with_work id (brought_of words)) ≡ Some t
        → ((x : List ℕ × List ℕ) → brought_of words ≡ Some x → AllZip Stands (brought_places x) words) → AllZip Stands (brought_places t) (word ∷ words)
    of true e h ih =
        subst (λ (w : List ℕ). AllZip Stands (brought_places t) (w ∷ words)) (sym ((bytes_eq-Decides word (codes "requests")).0 e)) (alone_sound words t h)
    of false e h ih =
        let a = bind_some (thing_of word) (λ id. with_work id (brought_of words)) t h in
        let b = bind_some (brought_of words) (λ x. Some (a.0 ∷ x.0, x.1)) t a.2 in
        let P : List ℕ × List ℕ → Type 0 = λ x. AllZip Stands (brought_places x) (word ∷ words) in
        let these : P (a.0 ∷ b.0.0, b.0.1) = (thing_reads word a.0 a.1, ih b.0 b.1) in
        subst P (some_is b.2) these

requests_complete : (q : ℕ) (requests : List ℕ) (words : List (List ℕ)) → AllZip Stands (map LongNumber (q ∷ requests)) words
    → requests_of words ≡ Some (q ∷ requests)
unfolding requests_of
requests_complete q requests words h = ap (λ (o : Option (List ℕ)). o >>= some_requests) (longs_complete (q ∷ requests) words h)

alone_complete : (q : ℕ) (requests : List ℕ) (words : List (List ℕ)) → AllZip Stands (map LongNumber (q ∷ requests)) words
    → requests_alone words ≡ Some ([], q ∷ requests)
alone_complete q requests words h = ap (λ (o : Option (List ℕ)). o >>= λ found. Some ([], found)) (requests_complete q requests words h)

brought_complete : (ids requests : List ℕ) (words : List (List ℕ)) → AllZip Stands (map Thing ids ++ request_places requests) words
    → brought_of words ≡ Some (ids, requests)
unfolding brought_of
brought_complete [] [] [] h = refl
brought_complete [] [] (word ∷ words) h = absurd h
brought_complete [] (q ∷ requests) [] h = absurd h
brought_complete [] (q ∷ requests) (word ∷ words) h =
    let is : bytes_eq word (codes "requests") ≡ true = (bytes_eq-Decides word (codes "requests")).1 h.0 in
    rw is (alone_complete q requests words h.1)
brought_complete (id ∷ ids) requests [] h = absurd h
brought_complete (id ∷ ids) requests (word ∷ words) h =
    let other : bytes_eq word (codes "requests") ≡ false = other_word word id h.0 in
    let one : thing_of word ≡ Some id = thing_some word id h.0.0 h.0.1 in
    let rest : brought_of words ≡ Some (ids, requests) = brought_complete ids requests words h.1 in
    rw (other, one, rest) refl

-- ---- the words behind the first
-- what is found in all words behind a first one has the row of its event
event_sound : {T : Type 0} (f : T → Event) (word : List ℕ) (row : T → List Place) (part : Part T) → IsPart row part
    → ((t : T) → event_row (f t) ≡ Exactly word ∷ row t)
    → (words : List (List ℕ)) (e : Event) → (whole part words >>= λ t. Some (f t)) ≡ Some e → AllZip Stands (event_row e) (word ∷ words)
event_sound {T} f word row part p same words e h =
    let t = bind_some (whole part words) (λ t. Some (f t)) e h in
    let all : AllZip Stands (Exactly word ∷ row t.0) (word ∷ words) = (refl, whole_sound row part p words t.0 t.1) in
    let P : Event → Type 0 = λ x. AllZip Stands (event_row x) (word ∷ words) in
    subst P (some_is t.2) (subst (λ (ps : List Place). AllZip Stands ps (word ∷ words)) (sym (same t.0)) all)

event_complete : {T : Type 0} (f : T → Event) (row : T → List Place) (part : Part T) → IsPart row part → (words : List (List ℕ)) (t : T)
    → AllZip Stands (row t) words → (whole part words >>= λ t. Some (f t)) ≡ Some (f t)
event_complete f row part p words t h = bind_is (whole part words) (λ t. Some (f t)) t (whole_complete row part p words t h)

-- whom a work is for stands in front of the work
whom_front : (helper : Option ℕ) (places : List Place) → submit_places helper places ≡ whom_places helper ++ places
whom_front None places = refl
whom_front (Some helper) places = refl

abbrev submit_parts : ℕ × (Option ℕ × Work) → List Place
submit_parts t = (Thing t.0 ∷ []) ++ (whom_places t.1.0 ++ work_places t.1.1)

abbrev submit_from : ℕ × (Option ℕ × Work) → Event
submit_from t = event.Submit t.0 t.1.1 t.1.0

abbrev start_parts : ℕ × ℕ → List Place
start_parts t = (Thing t.0 ∷ []) ++ (Thing t.1 ∷ [])

abbrev start_from : ℕ × ℕ → Event
start_from t = event.Start t.0 t.1

abbrev finish_parts : ℕ × (ℕ × Outcome) → List Place
finish_parts t = (Thing t.0 ∷ []) ++ ((Thing t.1.0 ∷ []) ++ outcome_places t.1.1)

abbrev finish_from : ℕ × (ℕ × Outcome) → Event
finish_from t = event.Finish t.0 t.1.0 t.1.1

abbrev request_parts : ℕ × (ℕ × ℤ) → List Place
request_parts t = (LongNumber t.0 ∷ []) ++ ((Thing t.1.0 ∷ []) ++ (Signed t.1.1 ∷ []))

abbrev request_from : ℕ × (ℕ × ℤ) → Event
request_from t = event.Request t.0 t.1.0 t.1.1

abbrev answered_parts : ℕ × ℤ → List Place
answered_parts t = (LongNumber t.0 ∷ []) ++ (Signed t.1 ∷ [])

abbrev answered_from : ℕ × ℤ → Event
answered_from t = event.Answered t.0 t.1

abbrev helper_parts : ℕ × Option ℕ → List Place
helper_parts t = (Thing t.0 ∷ []) ++ answer_places t.1

abbrev helper_from : ℕ × Option ℕ → Event
helper_from t = event.HelperNew t.0 t.1

submit_is : IsPart submit_parts (both thing_at (both for_whom_at work_at))
submit_is = both_part thing_part (both_part whom_part work_part)

start_is : IsPart start_parts (both thing_at thing_at)
start_is = both_part thing_part thing_part

finish_is : IsPart finish_parts (both thing_at (both thing_at outcome_at))
finish_is = both_part thing_part (both_part thing_part outcome_part)

request_is : IsPart request_parts (both long_at (both thing_at signed_at))
request_is = both_part long_part (both_part thing_part signed_part)

answered_is : IsPart answered_parts (both long_at signed_at)
answered_is = both_part long_part signed_part

helper_is : IsPart helper_parts (both thing_at answer_at)
helper_is = both_part thing_part answer_part

-- ---- each first word
-- the words are those of the line
pub record IsLineOf (line : HistoryLine) (words : List (List ℕ)) : Type 0 where
  pub row : AllZip Stands (line_row line) words
  pub brings : BringsSome line

abbrev has_line : Event → List ℕ → List (List ℕ) → Type 0
has_line e word words = IsLineOf (Of e) (word ∷ words)

submit_sound : (words : List (List ℕ)) (e : Event) → submit_of words ≡ Some e → has_line e (codes "submit") words
unfolding submit_of
submit_sound words e h =
    with_brings (event_sound submit_from (codes "submit") submit_parts (both thing_at (both for_whom_at work_at)) submit_is
    (λ t. ap (λ (ps : List Place). Exactly (codes "submit") ∷ Thing t.0 ∷ ps) (whom_front t.1.0 (work_places t.1.1))) words e h)
  where
    with_brings : AllZip Stands (event_row e) (codes "submit" ∷ words) → has_line e (codes "submit") words
    with_brings all =
        let t = bind_some (whole (both thing_at (both for_whom_at work_at)) words) (λ t. Some (submit_from t)) e h in
        record { row = all; brings = subst (λ (x : Event). BringsSome (Of x)) (some_is t.2) tt }

start_sound : (words : List (List ℕ)) (e : Event) → start_of words ≡ Some e → has_line e (codes "start") words
unfolding start_of
start_sound words e h =
    let t = bind_some (whole (both thing_at thing_at) words) (λ t. Some (start_from t)) e h in
    record {
      row = event_sound start_from (codes "start") start_parts (both thing_at thing_at) start_is (λ t. refl) words e h;
      brings = subst (λ (x : Event). BringsSome (Of x)) (some_is t.2) tt;
    }

finish_sound : (words : List (List ℕ)) (e : Event) → finish_of words ≡ Some e → has_line e (codes "finish") words
unfolding finish_of
finish_sound words e h =
    let t = bind_some (whole (both thing_at (both thing_at outcome_at)) words) (λ t. Some (finish_from t)) e h in
    record {
      row = event_sound finish_from (codes "finish") finish_parts (both thing_at (both thing_at outcome_at)) finish_is (λ t. refl) words e h;
      brings = subst (λ (x : Event). BringsSome (Of x)) (some_is t.2) tt;
    }

request_sound : (words : List (List ℕ)) (e : Event) → request_of words ≡ Some e → has_line e (codes "request") words
unfolding request_of
request_sound words e h =
    let t = bind_some (whole (both long_at (both thing_at signed_at)) words) (λ t. Some (request_from t)) e h in
    record {
      row = event_sound request_from (codes "request") request_parts (both long_at (both thing_at signed_at)) request_is (λ t. refl) words e h;
      brings = subst (λ (x : Event). BringsSome (Of x)) (some_is t.2) tt;
    }

asker_end_sound : (words : List (List ℕ)) (e : Event) → asker_end_of words ≡ Some e → has_line e (codes "askerend") words
unfolding asker_end_of
asker_end_sound words e h =
    let t = bind_some (whole thing_at words) (λ n. Some (event.AskerEnd n)) e h in
    record {
      row = event_sound (λ n. event.AskerEnd n) (codes "askerend") (λ n. Thing n ∷ []) thing_at thing_part (λ n. refl) words e h;
      brings = subst (λ (x : Event). BringsSome (Of x)) (some_is t.2) tt;
    }

answered_sound : (words : List (List ℕ)) (e : Event) → answered_of words ≡ Some e → has_line e (codes "answered") words
unfolding answered_of
answered_sound words e h =
    let t = bind_some (whole (both long_at signed_at) words) (λ t. Some (answered_from t)) e h in
    record {
      row = event_sound answered_from (codes "answered") answered_parts (both long_at signed_at) answered_is (λ t. refl) words e h;
      brings = subst (λ (x : Event). BringsSome (Of x)) (some_is t.2) tt;
    }

helper_sound : (words : List (List ℕ)) (e : Event) → helper_of words ≡ Some e → has_line e (codes "helper") words
unfolding helper_of
helper_sound words e h =
    let t = bind_some (whole (both thing_at answer_at) words) (λ t. Some (helper_from t)) e h in
    record {
      row = event_sound helper_from (codes "helper") helper_parts (both thing_at answer_at) helper_is (λ t. refl) words e h;
      brings = subst (λ (x : Event). BringsSome (Of x)) (some_is t.2) tt;
    }

helper_end_sound : (words : List (List ℕ)) (e : Event) → helper_end_of words ≡ Some e → has_line e (codes "helperend") words
unfolding helper_end_of
helper_end_sound words e h =
    let t = bind_some (whole thing_at words) (λ n. Some (event.HelperEnd n)) e h in
    record {
      row = event_sound (λ n. event.HelperEnd n) (codes "helperend") (λ n. Thing n ∷ []) thing_at thing_part (λ n. refl) words e h;
      brings = subst (λ (x : Event). BringsSome (Of x)) (some_is t.2) tt;
    }

close_sound : (words : List (List ℕ)) (e : Event) → close_of words ≡ Some e → has_line e (codes "close") words
unfolding close_of
close_sound [] e h =
    let P : Event → Type 0 = λ x. IsLineOf (Of x) (codes "close" ∷ []) in
    let line : P event.Close = record { row = (refl, tt); brings = tt } in
    subst P (some_is h) line
close_sound (word ∷ words) e h = cc

drain_line : (words : List (List ℕ)) (t : List ℕ × List ℕ) (e : Event) → AllZip Stands (brought_places t) words → some_drain t ≡ Some e
    → has_line e (codes "drain") words
drain_line words ([], []) e all h = cc
drain_line words ([], q ∷ requests) e all h =
    let P : Event → Type 0 = λ x. IsLineOf (Of x) (codes "drain" ∷ words) in
    let line : P (event.Drain [] (q ∷ requests)) = record { row = (refl, all); brings = omega arith } in
    subst P (some_is h) line
drain_line words (id ∷ ids, requests) e all h =
    let P : Event → Type 0 = λ x. IsLineOf (Of x) (codes "drain" ∷ words) in
    let line : P (event.Drain (id ∷ ids) requests) = record { row = (refl, all); brings = omega arith } in
    subst P (some_is h) line

drain_sound : (words : List (List ℕ)) (e : Event) → drain_of words ≡ Some e → has_line e (codes "drain") words
unfolding drain_of
drain_sound words e h =
    let t = bind_some (brought_of words) some_drain e h in
    drain_line words t.0 e (brought_sound words t.0 t.1) t.2

idle_sound : (words : List (List ℕ)) (line : HistoryLine) → idle_of words ≡ Some line → IsLineOf line (codes "idle" ∷ words)
unfolding idle_of
idle_sound words line h =
    let n = bind_some (whole count_at words) (λ n. Some (Idle n)) line h in
    let P : HistoryLine → Type 0 = λ x. IsLineOf x (codes "idle" ∷ words) in
    let one : P (Idle n.0) = record { row = (refl, whole_sound (λ k. Counted k ∷ []) count_at count_part words n.0 n.1); brings = tt } in
    subst P (some_is n.2) one

as_line : (o : Option Event) (word : List ℕ) (words : List (List ℕ)) (line : HistoryLine) → of_event o ≡ Some line
    → ((e : Event) → o ≡ Some e → has_line e word words) → IsLineOf line (word ∷ words)
as_line o word words line h sound =
    let e = bind_some o (λ e. Some (Of e)) line h in
    subst (λ (x : HistoryLine). IsLineOf x (word ∷ words)) (some_is e.2) (sound e.0 e.1)

by_sound : (one : FirstWord) (words : List (List ℕ)) (line : HistoryLine) → line_by one words ≡ Some line → IsLineOf line (first_word one ∷ words)
by_sound first.Submit words line h = as_line (submit_of words) (codes "submit") words line h (submit_sound words)
by_sound first.Start words line h = as_line (start_of words) (codes "start") words line h (start_sound words)
by_sound first.Finish words line h = as_line (finish_of words) (codes "finish") words line h (finish_sound words)
by_sound first.Request words line h = as_line (request_of words) (codes "request") words line h (request_sound words)
by_sound first.AskerEnd words line h = as_line (asker_end_of words) (codes "askerend") words line h (asker_end_sound words)
by_sound first.Answered words line h = as_line (answered_of words) (codes "answered") words line h (answered_sound words)
by_sound first.Drain words line h = as_line (drain_of words) (codes "drain") words line h (drain_sound words)
by_sound first.Idle words line h = idle_sound words line h
by_sound first.Helper words line h = as_line (helper_of words) (codes "helper") words line h (helper_sound words)
by_sound first.HelperEnd words line h = as_line (helper_end_of words) (codes "helperend") words line h (helper_end_sound words)
by_sound first.Close words line h = as_line (close_of words) (codes "close") words line h (close_sound words)

named_by : (word : List ℕ) (words : List (List ℕ)) (line : HistoryLine) → (first_named word >>= λ one. line_by one words) ≡ Some line
    → IsLineOf line (word ∷ words)
unfolding first_named
named_by word words line h =
    let one = bind_some (first_named word) (λ one. line_by one words) line h in
    let is : word ≡ first_word one.0 = table_reads first_word all_first_words word one.0 one.1 in
    subst (λ (w : List ℕ). IsLineOf line (w ∷ words)) (sym is) (by_sound one.0 words line one.2)

-- what is found in the words has them
pub line_sound : (words : List (List ℕ)) (line : HistoryLine) → line_of words ≡ Some line → IsLineOf line words
unfolding line_of
line_sound [] line h = cc
line_sound (word ∷ words) line h = named_by word words line h

-- ---- the words of a row
abbrev found_as : FirstWord → List (List ℕ) → HistoryLine → Type 0
found_as one words line = line_by one words ≡ Some line

named : (one : FirstWord) → first_named (first_word one) ≡ Some one
unfolding first_named
named first.Submit = refl
named first.Start = refl
named first.Finish = refl
named first.Request = refl
named first.AskerEnd = refl
named first.Drain = refl
named first.Answered = refl
named first.Idle = refl
named first.Helper = refl
named first.HelperEnd = refl
named first.Close = refl

first_found : (one : FirstWord) (word : List ℕ) (words : List (List ℕ)) (line : HistoryLine) → word ≡ first_word one → found_as one words line
    → line_of (word ∷ words) ≡ Some line
unfolding line_of
first_found one word words line is h =
    ap (λ (w : List ℕ). first_named w >>= λ x. line_by x words) is ∙ (ap (λ (o : Option FirstWord). o >>= λ x. line_by x words) (named one) ∙ h)

event_line : (o : Option Event) (e : Event) → o ≡ Some e → of_event o ≡ Some (Of e)
event_line o e h = ap of_event h

submit_complete : (words : List (List ℕ)) (id : ℕ) (work : Work) (helper : Option ℕ)
    → AllZip Stands (Thing id ∷ submit_places helper (work_places work)) words → submit_of words ≡ Some (event.Submit id work helper)
unfolding submit_of
submit_complete words id work helper h =
    event_complete submit_from submit_parts (both thing_at (both for_whom_at work_at)) submit_is words (id, (helper, work))
    (subst (λ (ps : List Place). AllZip Stands (Thing id ∷ ps) words) (whom_front helper (work_places work)) h)

start_complete : (words : List (List ℕ)) (thread id : ℕ) → AllZip Stands (Thing thread ∷ Thing id ∷ []) words → start_of words ≡ Some (event.Start thread id)
unfolding start_of
start_complete words thread id h = event_complete start_from start_parts (both thing_at thing_at) start_is words (thread, id) h

finish_complete : (words : List (List ℕ)) (thread id : ℕ) (outcome : Outcome) → AllZip Stands (Thing thread ∷ Thing id ∷ outcome_places outcome) words
    → finish_of words ≡ Some (event.Finish thread id outcome)
unfolding finish_of
finish_complete words thread id outcome h =
    event_complete finish_from finish_parts (both thing_at (both thing_at outcome_at)) finish_is words (thread, (id, outcome)) h

helper_complete : (words : List (List ℕ)) (helper : ℕ) (answer : Option ℕ) → AllZip Stands (Thing helper ∷ answer_places answer) words
    → helper_of words ≡ Some (event.HelperNew helper answer)
unfolding helper_of
helper_complete words helper answer h = event_complete helper_from helper_parts (both thing_at answer_at) helper_is words (helper, answer) h

helper_end_complete : (words : List (List ℕ)) (helper : ℕ) → AllZip Stands (Thing helper ∷ []) words → helper_end_of words ≡ Some (event.HelperEnd helper)
unfolding helper_end_of
helper_end_complete words helper h = event_complete (λ n. event.HelperEnd n) (λ n. Thing n ∷ []) thing_at thing_part words helper h

close_complete : (words : List (List ℕ)) → AllZip Stands [] words → close_of words ≡ Some event.Close
unfolding close_of
close_complete [] h = refl
close_complete (word ∷ words) h = absurd h

request_complete : (words : List (List ℕ)) (q asker : ℕ) (n : ℤ) → AllZip Stands (LongNumber q ∷ Thing asker ∷ Signed n ∷ []) words
    → request_of words ≡ Some (event.Request q asker n)
unfolding request_of
request_complete words q asker n h = event_complete request_from request_parts (both long_at (both thing_at signed_at)) request_is words (q, (asker, n)) h

asker_end_complete : (words : List (List ℕ)) (asker : ℕ) → AllZip Stands (Thing asker ∷ []) words → asker_end_of words ≡ Some (event.AskerEnd asker)
unfolding asker_end_of
asker_end_complete words asker h = event_complete (λ n. event.AskerEnd n) (λ n. Thing n ∷ []) thing_at thing_part words asker h

answered_complete : (words : List (List ℕ)) (q : ℕ) (n : ℤ) → AllZip Stands (LongNumber q ∷ Signed n ∷ []) words → answered_of words ≡ Some (event.Answered q n)
unfolding answered_of
answered_complete words q n h = event_complete answered_from answered_parts (both long_at signed_at) answered_is words (q, n) h

is_some_drain : (ids requests : List ℕ) → 1 ≤ length ids + length requests → some_drain (ids, requests) ≡ Some (event.Drain ids requests)
is_some_drain [] [] some = absurd (omega arith)
is_some_drain [] (q ∷ requests) some = refl
is_some_drain (id ∷ ids) requests some = refl

drain_complete : (words : List (List ℕ)) (ids requests : List ℕ) → 1 ≤ length ids + length requests
    → AllZip Stands (map Thing ids ++ request_places requests) words
    → drain_of words ≡ Some (event.Drain ids requests)
unfolding drain_of
drain_complete words ids requests some h =
    ap (λ (o : Option (List ℕ × List ℕ)). o >>= some_drain) (brought_complete ids requests words h) ∙ is_some_drain ids requests some

idle_complete : (words : List (List ℕ)) (n : ℕ) → AllZip Stands (Counted n ∷ []) words → idle_of words ≡ Some (Idle n)
unfolding idle_of
idle_complete words n h = bind_is (whole count_at words) (λ n. Some (Idle n)) n (whole_complete (λ k. Counted k ∷ []) count_at count_part words n h)

-- the words of a line give it
pub line_complete : (line : HistoryLine) (words : List (List ℕ)) → IsLineOf line words → line_of words ≡ Some line
line_complete line words h = of line words h.row h.brings
  where
    of : (line : HistoryLine) (words : List (List ℕ)) → AllZip Stands (line_row line) words → BringsSome line → line_of words ≡ Some line
    of (Idle n) [] row brings = absurd row
    of (Idle n) (word ∷ words) row brings = first_found first.Idle word words (Idle n) row.0 (idle_complete words n row.1)
    of (Of (event.Submit id work helper)) [] row brings = absurd row
    of (Of (event.Submit id work helper)) (word ∷ words) row brings =
        first_found first.Submit word words (Of (event.Submit id work helper)) row.0
        (event_line (submit_of words) (event.Submit id work helper) (submit_complete words id work helper row.1))
    of (Of (event.Start thread id)) [] row brings = absurd row
    of (Of (event.Start thread id)) (word ∷ words) row brings =
        first_found first.Start word words (Of (event.Start thread id)) row.0
        (event_line (start_of words) (event.Start thread id) (start_complete words thread id row.1))
    of (Of (event.Finish thread id outcome)) [] row brings = absurd row
    of (Of (event.Finish thread id outcome)) (word ∷ words) row brings =
        first_found first.Finish word words (Of (event.Finish thread id outcome)) row.0
        (event_line (finish_of words) (event.Finish thread id outcome) (finish_complete words thread id outcome row.1))
    of (Of (event.Request q asker n)) [] row brings = absurd row
    of (Of (event.Request q asker n)) (word ∷ words) row brings =
        first_found first.Request word words (Of (event.Request q asker n)) row.0
        (event_line (request_of words) (event.Request q asker n) (request_complete words q asker n row.1))
    of (Of (event.AskerEnd asker)) [] row brings = absurd row
    of (Of (event.AskerEnd asker)) (word ∷ words) row brings =
        first_found first.AskerEnd word words (Of (event.AskerEnd asker)) row.0
        (event_line (asker_end_of words) (event.AskerEnd asker) (asker_end_complete words asker row.1))
    of (Of (event.Drain ids requests)) [] row brings = absurd row
    of (Of (event.Drain ids requests)) (word ∷ words) row brings =
        first_found first.Drain word words (Of (event.Drain ids requests)) row.0
        (event_line (drain_of words) (event.Drain ids requests) (drain_complete words ids requests brings row.1))
    of (Of (event.Answered q n)) [] row brings = absurd row
    of (Of (event.Answered q n)) (word ∷ words) row brings =
        first_found first.Answered word words (Of (event.Answered q n)) row.0
        (event_line (answered_of words) (event.Answered q n) (answered_complete words q n row.1))
    of (Of (event.HelperNew helper answer)) [] row brings = absurd row
    of (Of (event.HelperNew helper answer)) (word ∷ words) row brings =
        first_found first.Helper word words (Of (event.HelperNew helper answer)) row.0
        (event_line (helper_of words) (event.HelperNew helper answer) (helper_complete words helper answer row.1))
    of (Of (event.HelperEnd helper)) [] row brings = absurd row
    of (Of (event.HelperEnd helper)) (word ∷ words) row brings =
        first_found first.HelperEnd word words (Of (event.HelperEnd helper)) row.0
        (event_line (helper_end_of words) (event.HelperEnd helper) (helper_end_complete words helper row.1))
    of (Of event.Close) [] row brings = absurd row
    of (Of event.Close) (word ∷ words) row brings =
        first_found first.Close word words (Of event.Close) row.0 (event_line (close_of words) event.Close (close_complete words row.1))
