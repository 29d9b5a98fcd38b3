-- The lines of a history, read from the front, and the laws of their text.
use Rattle.std.proofs.Common.{◌≡◌, ◌==◌, ℕ, zero, suc, false, ◌+◌, List, [], ◌∷◌, ◌++◌, map, flat_map, replicate, refl, ap, sym, subst, ◌∙◌, append_assoc, append-nil, add-one, codes, Option, get_or, length, drop, ◌<◌, ◌≤◌}
use Rattle.std.proofs.Math.Seq.{drop-cons}
use Rattle.std.proofs.lemmas.List.{drop_all}
use Rattle.std.specs.Fmt.{decimal}
use Rattle.ak_base.specs.Streams.{Passes, TookBeginning}
use Rattle.ak_base.proofs.Passing.{beginning-of_more, passes-then, passes-then_fault, Toward, toward-start, toward-then, toward-fault, toward-end, toward-end_fault}
use Rattle.ak_print.specs.Line.{line_text}
use Rattle.ak_history.specs.declared.event.Event.{Event}
use Rattle.ak_history.specs.declared.event.Event.TheVariants as event
use Rattle.ak_history.specs.declared.line.HistoryLine.{HistoryLine}
use Rattle.ak_history.specs.declared.line.HistoryLine.TheVariants.{Idle, Of}
use Rattle.ak_history.specs.Reading.{rows_events}
use Rattle.ak_history.specs.Text.{with_event, history_lines, request_words, event_text, idle_text, history_line_text, history_text, id_text, requests_text}

-- an empty drain
abbrev pub idle : Event
idle = event.Drain [] []

-- the lines with so many empty drains in front
abbrev pub idle_in_front : ℕ → List HistoryLine → List HistoryLine
idle_in_front zero lines = lines
idle_in_front (suc n) lines = with_event idle (idle_in_front n lines)

abbrev pub lines_bytes : List HistoryLine → List ℕ
lines_bytes lines = flat_map history_line_text lines

-- the text of so many empty drains and then these events
abbrev pub text_from : ℕ → List Event → List ℕ
text_from n events = lines_bytes (idle_in_front n (history_lines events))

-- another event has a line of its own
pub with_event-other : (e : Event) (lines : List HistoryLine) → (e ≡ idle → ⊥) → with_event e lines ≡ Of e ∷ lines
with_event-other (event.Submit id work helper) lines h = refl
with_event-other (event.Start thread id) lines h = refl
with_event-other (event.Finish thread id outcome) lines h = refl
with_event-other (event.Request q asker n) lines h = refl
with_event-other (event.AskerEnd asker) lines h = refl
with_event-other (event.Drain [] []) lines h = absurd (h refl)
with_event-other (event.Drain [] (q ∷ requests)) lines h = refl
with_event-other (event.Drain (id ∷ ids) requests) lines h = refl
with_event-other (event.Answered q n) lines h = refl
with_event-other (event.HelperNew helper answer) lines h = refl
with_event-other (event.HelperEnd helper) lines h = refl
with_event-other event.Close lines h = refl

-- empty drains in front of another event's line are one line
pub idle_in_front-of : (n : ℕ) (e : Event) (lines : List HistoryLine)
    → idle_in_front (suc n) (Of e ∷ lines) ≡ Idle (suc n) ∷ Of e ∷ lines
idle_in_front-of zero e lines = refl
idle_in_front-of (suc n) e lines =
    ap (λ (ls : List HistoryLine). with_event idle ls) (idle_in_front-of n e lines)
    ∙ ap (λ (k : ℕ). Idle k ∷ Of e ∷ lines) (add-one (suc n))

-- empty drains at the end are one line
pub idle_in_front-nothing : (n : ℕ) → idle_in_front (suc n) [] ≡ Idle (suc n) ∷ []
idle_in_front-nothing zero = refl
idle_in_front-nothing (suc n) =
    ap (λ (ls : List HistoryLine). with_event idle ls) (idle_in_front-nothing n)
    ∙ ap (λ (k : ℕ). Idle k ∷ []) (add-one (suc n))

-- one more empty drain
pub idle_in_front-more : (n : ℕ) (lines : List HistoryLine)
    → idle_in_front n (with_event idle lines) ≡ with_event idle (idle_in_front n lines)
idle_in_front-more zero lines = refl
idle_in_front-more (suc n) lines = ap (λ (ls : List HistoryLine). with_event idle ls) (idle_in_front-more n lines)

pub text_from-idle : (n : ℕ) (events : List Event) → text_from n (idle ∷ events) ≡ text_from (n + 1) events
text_from-idle n events =
    ap lines_bytes (idle_in_front-more n (history_lines events))
    ∙ ap (λ (k : ℕ). lines_bytes (idle_in_front k (history_lines events))) (sym (add-one n))

pub bytes-of : (n : ℕ) (e : Event) (lines : List HistoryLine)
    → lines_bytes (idle_in_front n (Of e ∷ lines)) ≡ idle_text n ++ (event_text e ++ lines_bytes lines)
bytes-of zero e lines = refl
bytes-of (suc n) e lines = ap lines_bytes (idle_in_front-of n e lines)

pub text_from-other : (n : ℕ) (e : Event) (events : List Event) → (e ≡ idle → ⊥)
    → text_from n (e ∷ events) ≡ (idle_text n ++ event_text e) ++ text_from 0 events
text_from-other n e events h =
    ap (λ (ls : List HistoryLine). lines_bytes (idle_in_front n ls)) (with_event-other e (history_lines events) h)
    ∙ bytes-of n e (history_lines events)
    ∙ sym (append_assoc (idle_text n) (event_text e) (history_text events))

pub text_from-nothing : (n : ℕ) → text_from n [] ≡ idle_text n
text_from-nothing zero = refl
text_from-nothing (suc n) = ap lines_bytes (idle_in_front-nothing n) ∙ append-nil (idle_text (suc n))

pub run-lines : (n : ℕ) (events : List Event)
    → history_lines (replicate n idle ++ events) ≡ idle_in_front n (history_lines events)
run-lines zero events = refl
run-lines (suc n) events = ap (λ (ls : List HistoryLine). with_event idle ls) (run-lines n events)

-- LAW. A run of empty drains before another event is one line with their number, and then that event's.
pub run-is_one_line : (n : ℕ) (e : Event) (events : List Event) → (e ≡ idle → ⊥)
    → history_text (replicate (suc n) idle ++ e ∷ events)
    ≡ line_text (codes "idle" ∷ decimal (suc n) ∷ []) ++ (event_text e ++ history_text events)
run-is_one_line n e events h =
    ap lines_bytes (run-lines (suc n) (e ∷ events))
    ∙ ap (λ (ls : List HistoryLine). lines_bytes (idle_in_front (suc n) ls)) (with_event-other e (history_lines events) h)
    ∙ bytes-of (suc n) e (history_lines events)

pub events-in_front : (e : Event) (lines : List HistoryLine)
    → rows_events (with_event e lines) ≡ e ∷ rows_events lines
events-in_front (event.Submit id work helper) lines = refl
events-in_front (event.Start thread id) lines = refl
events-in_front (event.Finish thread id outcome) lines = refl
events-in_front (event.Request q asker n) lines = refl
events-in_front (event.AskerEnd asker) lines = refl
events-in_front (event.Drain [] []) [] = refl
events-in_front (event.Drain [] []) (Idle n ∷ lines) = ap (λ (k : ℕ). replicate k idle ++ rows_events lines) (add-one n)
events-in_front (event.Drain [] []) (Of e ∷ lines) = refl
events-in_front (event.Drain [] (q ∷ requests)) lines = refl
events-in_front (event.Drain (id ∷ ids) requests) lines = refl
events-in_front (event.Answered q n) lines = refl
events-in_front (event.HelperNew helper answer) lines = refl
events-in_front (event.HelperEnd helper) lines = refl
events-in_front event.Close lines = refl

-- LAW. The lines stand for just the events.
pub lines-stand_for : (events : List Event) → rows_events (history_lines events) ≡ events
lines-stand_for [] = refl
lines-stand_for (e ∷ events) = events-in_front e (history_lines events) ∙ ap (λ (es : List Event). e ∷ es) (lines-stand_for events)

-- a word behind a space
abbrev word_text : List ℕ → List ℕ
word_text word = 32 ∷ word

line-of_words : (word : List ℕ) (words : List (List ℕ)) → line_text (word ∷ words) ≡ word ++ (flat_map word_text words ++ 10 ∷ [])
line-of_words word [] = refl
line-of_words word (next ∷ words) =
    ap (λ (rest : List ℕ). word ++ 32 ∷ rest)
    (line-of_words next words ∙ sym (append_assoc next (flat_map word_text words) (10 ∷ [])))

ids-words : (ids : List ℕ) → flat_map word_text (map decimal ids) ≡ flat_map id_text ids
ids-words [] = refl
ids-words (id ∷ ids) = ap (λ (rest : List ℕ). 32 ∷ (decimal id ++ rest)) (ids-words ids)

requests-words : (requests : List ℕ) → flat_map word_text (request_words requests) ≡ requests_text requests
requests-words [] = refl
requests-words (q ∷ requests) = ap (λ (rest : List ℕ). codes " requests" ++ rest) (ids-words (q ∷ requests))

brought-words : (ids requests : List ℕ) → flat_map word_text (map decimal ids ++ request_words requests) ≡ flat_map id_text ids ++ requests_text requests
brought-words [] requests = requests-words requests
brought-words (id ∷ ids) requests =
    ap (λ (rest : List ℕ). 32 ∷ (decimal id ++ rest)) (brought-words ids requests)
    ∙ sym (append_assoc (id_text id) (flat_map id_text ids) (requests_text requests))

-- The requests of a drain are put in two pieces: their word, their numbers.
abbrev pub requests_word : List ℕ
requests_word = codes " requests"

requests-some : (requests : List ℕ) → (length requests == 0) ≡ false → requests_text requests ≡ requests_word ++ flat_map id_text requests
requests-some [] h = cc
requests-some (q ∷ requests) h = refl

pub requests-fault_1 : (t0 t1 : Option (List ℕ)) (w requests : List ℕ) → (length requests == 0) ≡ false
    → TookBeginning t0 t1 (w ++ requests_word) → TookBeginning t0 t1 (w ++ requests_text requests)
requests-fault_1 t0 t1 w requests some p =
    subst (λ (bytes : List ℕ). TookBeginning t0 t1 bytes)
    (append_assoc w requests_word (flat_map id_text requests) ∙ ap (λ (rest : List ℕ). w ++ rest) (sym (requests-some requests some)))
    (beginning-of_more t0 t1 (w ++ requests_word) (flat_map id_text requests) p)

pub requests-fault_2 : (t0 t1 t2 : Option (List ℕ)) (w0 w1 requests : List ℕ) → (length requests == 0) ≡ false
    → Passes t0 t1 w0 w1 requests_word → TookBeginning t1 t2 (w1 ++ flat_map id_text requests)
    → TookBeginning t0 t2 (w0 ++ requests_text requests)
requests-fault_2 t0 t1 t2 w0 w1 requests some p q =
    subst (λ (bytes : List ℕ). TookBeginning t0 t2 (w0 ++ bytes)) (sym (requests-some requests some))
    (passes-then_fault t0 t1 t2 w0 w1 requests_word (flat_map id_text requests) p q)

pub requests-pass : (t0 t1 t2 : Option (List ℕ)) (w0 w1 w2 requests : List ℕ) → (length requests == 0) ≡ false
    → Passes t0 t1 w0 w1 requests_word → Passes t1 t2 w1 w2 (flat_map id_text requests)
    → Passes t0 t2 w0 w2 (requests_text requests)
requests-pass t0 t1 t2 w0 w1 w2 requests some p q =
    subst (λ (bytes : List ℕ). Passes t0 t2 w0 w2 bytes) (sym (requests-some requests some))
    (passes-then t0 t1 t2 w0 w1 w2 requests_word (flat_map id_text requests) p q)

-- The line of a drain is put in four pieces: its word, its works, its requests, its end.
abbrev pub drain_word : List ℕ
drain_word = codes "drain"

abbrev pub drain_end : List ℕ → List ℕ
drain_end requests = requests_text requests ++ 10 ∷ []

pub drain-line : (ids requests : List ℕ) → event_text (event.Drain ids requests) ≡ drain_word ++ (flat_map id_text ids ++ drain_end requests)
drain-line ids requests =
    line-of_words drain_word (map decimal ids ++ request_words requests)
    ∙ ap (λ (rest : List ℕ). drain_word ++ (rest ++ 10 ∷ [])) (brought-words ids requests)
    ∙ ap (λ (rest : List ℕ). drain_word ++ rest) (append_assoc (flat_map id_text ids) (requests_text requests) (10 ∷ []))

-- what is still to come of the line of a drain at its start, behind its word, behind its works and behind its requests
pub drain-start : (t : Option (List ℕ)) (w : List ℕ) (ids requests : List ℕ)
    → Toward t t w w (drain_word ++ (flat_map id_text ids ++ drain_end requests)) (event_text (event.Drain ids requests))
drain-start t w ids requests =
    subst (λ (bytes : List ℕ). Toward t t w w bytes (event_text (event.Drain ids requests))) (drain-line ids requests)
    (toward-start t w (event_text (event.Drain ids requests)))

pub drain-works : (t0 t1 : Option (List ℕ)) (w0 w1 : List ℕ) (ids requests : List ℕ) → Passes t0 t1 w0 w1 drain_word
    → Toward t0 t1 w0 w1 (flat_map id_text ids ++ drain_end requests) (event_text (event.Drain ids requests))
drain-works t0 t1 w0 w1 ids requests p =
    toward-then t0 t0 t1 w0 w0 w1 drain_word (flat_map id_text ids ++ drain_end requests) (event_text (event.Drain ids requests))
    (drain-start t0 w0 ids requests) p

pub drain-requests : (t0 t1 t2 : Option (List ℕ)) (w0 w1 w2 : List ℕ) (ids requests : List ℕ)
    → Passes t0 t1 w0 w1 drain_word → Passes t1 t2 w1 w2 (flat_map id_text ids)
    → Toward t0 t2 w0 w2 (drain_end requests) (event_text (event.Drain ids requests))
drain-requests t0 t1 t2 w0 w1 w2 ids requests p q =
    toward-then t0 t1 t2 w0 w1 w2 (flat_map id_text ids) (drain_end requests) (event_text (event.Drain ids requests))
    (drain-works t0 t1 w0 w1 ids requests p) q

pub drain-last : (t0 t1 t2 t3 : Option (List ℕ)) (w0 w1 w2 w3 : List ℕ) (ids requests : List ℕ)
    → Passes t0 t1 w0 w1 drain_word → Passes t1 t2 w1 w2 (flat_map id_text ids) → Passes t2 t3 w2 w3 (requests_text requests)
    → Toward t0 t3 w0 w3 (10 ∷ []) (event_text (event.Drain ids requests))
drain-last t0 t1 t2 t3 w0 w1 w2 w3 ids requests p q r =
    toward-then t0 t2 t3 w0 w2 w3 (requests_text requests) (10 ∷ []) (event_text (event.Drain ids requests))
    (drain-requests t0 t1 t2 w0 w1 w2 ids requests p q) r

-- The text goes on from an event.
pub text-at : (n : ℕ) (es : List Event) (i : ℕ) (x : Event) → x ≡ get_or es i x → i < length es
    → text_from n (drop i es) ≡ text_from n (x ∷ drop (i + 1) es)
text-at n es i x is h =
    ap (text_from n) (drop-cons es i x h)
    ∙ ap (λ (y : Event). text_from n (y ∷ drop (suc i) es)) (sym is)
    ∙ ap (λ (k : ℕ). text_from n (x ∷ drop k es)) (sym (add-one i))

-- an empty drain is counted
pub toward-idle : (t0 t1 : Option (List ℕ)) (w0 w1 : List ℕ) (n : ℕ) (es : List Event) (i : ℕ) (x : Event) (all : List ℕ)
    → x ≡ get_or es i x → i < length es → x ≡ idle
    → Toward t0 t1 w0 w1 (text_from n (drop i es)) all
    → Toward t0 t1 w0 w1 (text_from (n + 1) (drop (i + 1) es)) all
toward-idle t0 t1 w0 w1 n es i x all is h empty p =
    subst (λ (rest : List ℕ). Toward t0 t1 w0 w1 rest all)
    (text-at n es i x is h
    ∙ ap (λ (y : Event). text_from n (y ∷ drop (i + 1) es)) empty
    ∙ text_from-idle n (drop (i + 1) es))
    p

-- what is still to come, where another event is next
pub toward-at : (t0 t1 : Option (List ℕ)) (w0 w1 : List ℕ) (n : ℕ) (es : List Event) (i : ℕ) (x : Event) (all : List ℕ)
    → x ≡ get_or es i x → i < length es → (x ≡ idle → ⊥)
    → Toward t0 t1 w0 w1 (text_from n (drop i es)) all
    → Toward t0 t1 w0 w1 ((idle_text n ++ event_text x) ++ text_from 0 (drop (i + 1) es)) all
toward-at t0 t1 w0 w1 n es i x all is h other p =
    subst (λ (rest : List ℕ). Toward t0 t1 w0 w1 rest all)
    (text-at n es i x is h ∙ text_from-other n x (drop (i + 1) es) other) p

-- its line is put, and before it the one of the drains
pub toward-other : (t0 t1 t2 : Option (List ℕ)) (w0 w1 w2 : List ℕ) (n : ℕ) (es : List Event) (i : ℕ) (x : Event) (all : List ℕ)
    → x ≡ get_or es i x → i < length es → (x ≡ idle → ⊥)
    → Toward t0 t1 w0 w1 (text_from n (drop i es)) all
    → Passes t1 t2 w1 w2 (idle_text n ++ event_text x)
    → Toward t0 t2 w0 w2 (text_from 0 (drop (i + 1) es)) all
toward-other t0 t1 t2 w0 w1 w2 n es i x all is h other p q =
    toward-then t0 t1 t2 w0 w1 w2 (idle_text n ++ event_text x) (text_from 0 (drop (i + 1) es)) all
    (toward-at t0 t1 w0 w1 n es i x all is h other p) q

pub toward-other_fault : (t0 t1 t2 : Option (List ℕ)) (w0 w1 : List ℕ) (n : ℕ) (es : List Event) (i : ℕ) (x : Event) (all : List ℕ)
    → x ≡ get_or es i x → i < length es → (x ≡ idle → ⊥)
    → Toward t0 t1 w0 w1 (text_from n (drop i es)) all
    → TookBeginning t1 t2 (w1 ++ (idle_text n ++ event_text x))
    → TookBeginning t0 t2 (w0 ++ all)
toward-other_fault t0 t1 t2 w0 w1 n es i x all is h other p q =
    toward-fault t0 t1 t2 w0 w1 (idle_text n ++ event_text x) (text_from 0 (drop (i + 1) es)) all
    (toward-at t0 t1 w0 w1 n es i x all is h other p) q

-- at the end the drains' line is still to come
pub toward-last : (t0 t1 : Option (List ℕ)) (w0 w1 : List ℕ) (n : ℕ) (es : List Event) (i : ℕ) (all : List ℕ)
    → length es ≤ i
    → Toward t0 t1 w0 w1 (text_from n (drop i es)) all
    → Toward t0 t1 w0 w1 (idle_text n) all
toward-last t0 t1 w0 w1 n es i all h p =
    subst (λ (rest : List ℕ). Toward t0 t1 w0 w1 rest all)
    (ap (text_from n) (drop_all i es h) ∙ text_from-nothing n) p

pub passes-last : (t0 t1 t2 : Option (List ℕ)) (w0 w1 w2 : List ℕ) (n : ℕ) (es : List Event) (i : ℕ) (all : List ℕ)
    → length es ≤ i
    → Toward t0 t1 w0 w1 (text_from n (drop i es)) all
    → Passes t1 t2 w1 w2 (idle_text n) → Passes t0 t2 w0 w2 all
passes-last t0 t1 t2 w0 w1 w2 n es i all h p q =
    toward-end t0 t1 t2 w0 w1 w2 (idle_text n) all (toward-last t0 t1 w0 w1 n es i all h p) q

pub fault-last : (t0 t1 t2 : Option (List ℕ)) (w0 w1 : List ℕ) (n : ℕ) (es : List Event) (i : ℕ) (all : List ℕ)
    → length es ≤ i
    → Toward t0 t1 w0 w1 (text_from n (drop i es)) all
    → TookBeginning t1 t2 (w1 ++ idle_text n) → TookBeginning t0 t2 (w0 ++ all)
fault-last t0 t1 t2 w0 w1 n es i all h p q =
    toward-end_fault t0 t1 t2 w0 w1 (idle_text n) all (toward-last t0 t1 w0 w1 n es i all h p) q
