-- A history and a run go together in one way at the most.
use Rattle.std.proofs.Common.{ℕ, zero, suc, ◌<◌, ◌≡◌, List, [], ◌∷◌, ◌++◌, length, take, map, Bool, true, false, cond, Option, Some, None, is_some, refl, sym, ◌∙◌, ap, arith, inl, inr}
use Rattle.std.specs.Prelude.{slice_get}
use Rattle.std.specs.Option.{option_map}
use Rattle.std.proofs.lemmas.Bool.{cases_lt}
use Rattle.std.proofs.lemmas.List.{length-append}
use Rattle.std.proofs.lemmas.Option.{slice_get-map, slice_get_within}
use Rattle.ak_labor.specs.declared.ask.Ask.{Ask}
use Rattle.ak_history.specs.declared.event.Event.{Event}
use Rattle.ak_history.specs.Events.{numbers_below}
use Rattle.ak_history.specs.Scheduler.{ask_of, asks}
use Rattle.ak_program.specs.Programs.{NumProgram}
use Rattle.ak_labor.specs.declared.config.Config.{Config}
use Rattle.ak_meets.specs.Meets.{is_scheduler, sched, wanted, wanted_at, Agree, Meeting, Yes, Stray, Short, MeetsTo, StraysAt, EndsAt, Meets}

-- ---- lists
get_front : {X : Type 0} (xs ys : List X) (j : ℕ) → j < length xs → slice_get (xs ++ ys) j ≡ slice_get xs j
get_front [] ys j l = absurd (omega (arith, l))
get_front (x ∷ xs) ys zero l = refl
get_front (x ∷ xs) ys (suc j) l = get_front xs ys j (omega (arith, l))

get_last : {X : Type 0} (xs : List X) (y : X) → slice_get (xs ++ y ∷ []) (length xs) ≡ Some y
get_last [] y = refl
get_last (x ∷ xs) y = get_last xs y

get_take : {X : Type 0} (k : ℕ) (xs : List X) (j : ℕ) → j < k → slice_get (take k xs) j ≡ slice_get xs j
get_take zero xs j l = absurd (omega (arith, l))
get_take (suc k) [] j l = refl
get_take (suc k) (x ∷ xs) zero l = refl
get_take (suc k) (x ∷ xs) (suc j) l = get_take k xs j (omega (arith, l))

so_many : (n : ℕ) → length (numbers_below n) ≡ n
so_many zero = refl
so_many (suc n) = omega (arith, length-append (numbers_below n) (n ∷ []), so_many n)

number_at : (k j : ℕ) → j < k → slice_get (numbers_below k) j ≡ Some j
number_at zero j l = absurd (omega (arith, l))
number_at (suc n) j l =
    elim (cases_lt j n) [
      | inl m ↦ get_front (numbers_below n) (n ∷ []) j (omega (arith, m, so_many n)) ∙ number_at n j m
      | inr m ↦ let last : j ≡ n = omega (arith, l, m) in ap (λ i. slice_get (numbers_below n ++ n ∷ []) i) (last ∙ sym (so_many n))
          ∙ get_last (numbers_below n) n ∙ ap Some (sym last)
    ]

-- ---- the first calls of a history that are those of the run
-- at a place before k both make the same call
record Same (w : ℕ → Option Ask) (calls : List Ask) (j : ℕ) : Type 0 where
  call : Ask
  wants : w j ≡ Some call
  made : slice_get calls j ≡ Some call

same_by : (w : ℕ → Option Ask) (calls : List Ask) (j : ℕ) (o : Option Ask) → slice_get calls j ≡ o → Some (w j) ≡ option_map Some o → Same w calls j
same_by w calls j None made h = absurd (cc)
same_by w calls j (Some a) made h = record { call = a; wants = cc; made = made }

same_at : (w : ℕ → Option Ask) (calls : List Ask) (k j : ℕ) → map w (numbers_below k) ≡ map Some (take k calls) → j < k → Same w calls j
same_at w calls k j h l = same_by w calls j (slice_get calls j) refl
    (ap (option_map w) (sym (number_at k j l)) ∙ sym (slice_get-map w (numbers_below k) j)
    ∙ ap (λ (xs : List (Option Ask)). slice_get xs j) h
    ∙ slice_get-map Some (take k calls) j ∙ ap (option_map Some) (get_take k calls j l))

-- ---- the call at a place of a history
some_is : {X : Type 0} (x y : X) → Some x ≡ Some y → x ≡ y
some_is x y h = cc

call_by : (o : Option Ask) (e : Event) (events : List Event) (place : ℕ) (a : Ask) → ask_of e ≡ o
    → slice_get (asks events) (length (sched (take place events))) ≡ Some a → slice_get (asks (e ∷ events)) (length (sched (e ∷ take place events))) ≡ Some a
call_by None e events place a is h = rw is h
call_by (Some b) e events place a is h = rw is h

call_here : (e : Event) (events : List Event) (a : Ask) → ask_of e ≡ Some a → slice_get (asks (e ∷ events)) 0 ≡ Some a
call_here e events a is = rw is refl

call_at : (history : List Event) (place : ℕ) (kept : Event) (a : Ask) → slice_get history place ≡ Some kept → ask_of kept ≡ Some a
    → slice_get (asks history) (length (sched (take place history))) ≡ Some a
call_at [] place kept a there is = absurd (cc)
call_at (e ∷ events) zero kept a there is = call_here e events a (ap ask_of (some_is e kept there) ∙ is)
call_at (e ∷ events) (suc place) kept a there is = call_by (ask_of e) e events place a refl (call_at events place kept a there is)

-- the call of an event of the scheduler
record Asked (e : Event) : Type 0 where
  call : Ask
  is : ask_of e ≡ Some call

asked_by : (o : Option Ask) (e : Event) → ask_of e ≡ o → is_some o ≡ true → Asked e
asked_by None e is h = absurd (cc)
asked_by (Some a) e is h = record { call = a; is = is }

asked : (e : Event) → is_scheduler e ≡ true → Asked e
asked e h = asked_by (ask_of e) e refl h

-- as many events of the scheduler stand before two of its events only where these are one
counted : (e : Event) (events : List Event) → is_scheduler e ≡ true → length (sched (e ∷ events)) ≡ suc (length (sched events))
counted e events h = ap (λ b. length (cond b (e ∷ sched events) (sched events))) h

one_place_by : (b : Bool) (e : Event) (xs ys : List Event) → length (cond b (e ∷ sched xs) (sched xs)) ≡ length (cond b (e ∷ sched ys) (sched ys))
    → length (sched xs) ≡ length (sched ys)
one_place_by true e xs ys h = omega (arith, h)
one_place_by false e xs ys h = h

one_place : (history : List Event) (place other : ℕ) (kept held : Event) → slice_get history place ≡ Some kept → slice_get history other ≡ Some held
    → is_scheduler kept ≡ true → is_scheduler held ≡ true
    → length (sched (take place history)) ≡ length (sched (take other history)) → place ≡ other
one_place [] place other kept held there here p q h = absurd (cc)
one_place (e ∷ events) zero zero kept held there here p q h = refl
one_place (e ∷ events) zero (suc other) kept held there here p q h =
    let first : is_scheduler e ≡ true = ap is_scheduler (some_is e kept there) ∙ p
    in absurd (omega (arith, h, counted e (take other events) first))
one_place (e ∷ events) (suc place) zero kept held there here p q h =
    let first : is_scheduler e ≡ true = ap is_scheduler (some_is e held here) ∙ q
    in absurd (omega (arith, h, counted e (take place events) first))
one_place (e ∷ events) (suc place) (suc other) kept held there here p q h =
    ap suc (one_place events place other kept held there here p q (one_place_by (is_scheduler e) e (take place events) (take other events) h))

-- ---- how far they go together
-- the first calls agree up to here, and no further
record StopsAt (program : NumProgram) (config : Config) (history : List Event) (k : ℕ) : Type 0 where
  agree : Agree program config history k
  no_more : (j : ℕ) → k < j → Agree program config history j → ⊥

one_stop : (program : NumProgram) (config : Config) (history : List Event) (k j : ℕ) → StopsAt program config history k
    → StopsAt program config history j → k ≡ j
one_stop program config history k j s t =
    elim (cases_lt k j) [
      | inl l ↦ absurd (s.no_more j l t.agree)
      | inr m ↦ elim (cases_lt j k) [
        | inl l ↦ absurd (t.no_more k l s.agree)
        | inr n ↦ omega (arith, m, n)
      ]
    ]

-- an ended run wants nothing
wants_none : (program : NumProgram) (config : Config) (history : List Event) (k : ℕ) → MeetsTo program config history k
    → wanted_at program config history k ≡ None
wants_none program config history k m = ap wanted m.ended

meets_stops : (program : NumProgram) (config : Config) (history : List Event) (k : ℕ) → MeetsTo program config history k → StopsAt program config history k
meets_stops program config history k m = record {
  agree = m.agree;
  no_more = λ j l agree.
      let same = same_at (wanted_at program config history) (asks history) j k agree l
      in let none = wants_none program config history k m
      in none_some same.call (sym none ∙ same.wants);
}
  where
    none_some : (a : Ask) → None ≡ Some a → ⊥
    none_some a h = cc

-- the call that stands where another was made
record Strayed (program : NumProgram) (config : Config) (history : List Event) (kept : Event) (k : ℕ) : Type 0 where
  call : Ask
  is : ask_of kept ≡ Some call
  made : slice_get (asks history) k ≡ Some call

strayed : (program : NumProgram) (config : Config) (history : List Event) (place : ℕ) (a : Ask) (kept : Event) (k : ℕ)
    → StraysAt program config history place a kept k → Strayed program config history kept k
strayed program config history place a kept k s =
    let c : Asked kept = asked kept s.of_scheduler
    in record { call = c.call; is = c.is; made = ap (λ n. slice_get (asks history) n) (sym s.behind) ∙ call_at history place kept c.call s.there c.is }

strays_stops : (program : NumProgram) (config : Config) (history : List Event) (place : ℕ) (a : Ask) (kept : Event) (k : ℕ)
    → StraysAt program config history place a kept k → StopsAt program config history k
strays_stops program config history place a kept k s = record {
  agree = s.agree;
  no_more = λ j l agree.
      let same = same_at (wanted_at program config history) (asks history) j k agree l
      in let c = strayed program config history place a kept k s
      in let call : Some c.call ≡ Some same.call = sym c.made ∙ same.made
      in let want : Some same.call ≡ Some a = sym same.wants ∙ s.wants
      in s.differs (c.is ∙ call ∙ want);
}

ends_stops : (program : NumProgram) (config : Config) (history : List Event) (a : Ask) (k : ℕ) → EndsAt program config history a k
    → StopsAt program config history k
ends_stops program config history a k e = record {
  agree = e.agree;
  no_more = λ j l agree.
      let same = same_at (wanted_at program config history) (asks history) j k agree l
      in omega (arith, slice_get_within (asks history) k same.call same.made, e.none_left);
}

-- ---- one of the three
same_call : (program : NumProgram) (config : Config) (history : List Event) (k j : ℕ) (a b : Ask) → k ≡ j
    → wanted_at program config history k ≡ Some a → wanted_at program config history j ≡ Some b → a ≡ b
same_call program config history k j a b e wants want =
    some_is a b (sym wants ∙ ap (wanted_at program config history) e ∙ want)

no_call : (program : NumProgram) (config : Config) (history : List Event) (k j : ℕ) (a : Ask) → k ≡ j → wanted_at program config history k ≡ None
    → wanted_at program config history j ≡ Some a → ⊥
no_call program config history k j a e none want = of (sym none ∙ ap (wanted_at program config history) e ∙ want)
  where
    of : None ≡ Some a → ⊥
    of h = cc

two_strays : (program : NumProgram) (config : Config) (history : List Event) (place other k j : ℕ) (a b : Ask) (kept held : Event) → k ≡ j
    → StraysAt program config history place a kept k → StraysAt program config history other b held j
    → Stray place a kept ≡ Stray other b held
two_strays program config history place other k j a b kept held e s t =
    let call : a ≡ b = same_call program config history k j a b e s.wants t.wants
    in let same : place ≡ other = one_place history place other kept held s.there t.there s.of_scheduler t.of_scheduler (s.behind ∙ e ∙ sym t.behind)
    in let event : kept ≡ held = some_is kept held (sym s.there ∙ ap (slice_get history) same ∙ t.there)
    in cc

stray_or_short : (program : NumProgram) (config : Config) (history : List Event) (place k j : ℕ) (a b : Ask) (kept : Event) → k ≡ j
    → StraysAt program config history place a kept k → EndsAt program config history b j → ⊥
stray_or_short program config history place k j a b kept e s t =
    let c = strayed program config history place a kept k s
    in omega (arith, e, t.none_left, slice_get_within (asks history) k c.call c.made)

pub one_meeting : (program : NumProgram) (config : Config) (history : List Event) (one other : Meeting) → Meets program config history one
    → Meets program config history other → one ≡ other
one_meeting program config history Yes Yes x y = refl
one_meeting program config history Yes (Stray place a kept) x y =
    absurd (no_call program config history x.0 y.0 a
    (one_stop program config history x.0 y.0 (meets_stops program config history x.0 x.1)
    (strays_stops program config history place a kept y.0 y.1)) (wants_none program config history x.0 x.1) y.1.wants)
one_meeting program config history Yes (Short a) x y =
    absurd (no_call program config history x.0 y.0 a
    (one_stop program config history x.0 y.0 (meets_stops program config history x.0 x.1) (ends_stops program config history a y.0 y.1))
    (wants_none program config history x.0 x.1) y.1.wants)
one_meeting program config history (Stray place a kept) Yes x y =
    absurd (no_call program config history y.0 x.0 a
    (one_stop program config history y.0 x.0 (meets_stops program config history y.0 y.1)
    (strays_stops program config history place a kept x.0 x.1)) (wants_none program config history y.0 y.1) x.1.wants)
one_meeting program config history (Short a) Yes x y =
    absurd (no_call program config history y.0 x.0 a
    (one_stop program config history y.0 x.0 (meets_stops program config history y.0 y.1) (ends_stops program config history a x.0 x.1))
    (wants_none program config history y.0 y.1) x.1.wants)
one_meeting program config history (Stray place a kept) (Stray other b held) x y =
    two_strays program config history place other x.0 y.0 a b kept held
    (one_stop program config history x.0 y.0 (strays_stops program config history place a kept x.0 x.1)
    (strays_stops program config history other b held y.0 y.1)) x.1 y.1
one_meeting program config history (Stray place a kept) (Short b) x y =
    absurd (stray_or_short program config history place x.0 y.0 a b kept
    (one_stop program config history x.0 y.0 (strays_stops program config history place a kept x.0 x.1)
    (ends_stops program config history b y.0 y.1)) x.1 y.1)
one_meeting program config history (Short b) (Stray place a kept) x y =
    absurd (stray_or_short program config history place y.0 x.0 a b kept
    (one_stop program config history y.0 x.0 (strays_stops program config history place a kept y.0 y.1)
    (ends_stops program config history b x.0 x.1)) y.1 x.1)
one_meeting program config history (Short a) (Short b) x y =
    ap Short (same_call program config history x.0 y.0 a b
    (one_stop program config history x.0 y.0 (ends_stops program config history a x.0 x.1) (ends_stops program config history b y.0 y.1))
    x.1.wants y.1.wants)
