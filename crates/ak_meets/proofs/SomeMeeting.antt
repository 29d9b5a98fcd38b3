-- A history and a run go together in some way, but where a reply of the history does not fit.
use Rattle.std.proofs.Common.{ℕ, ℤ, zero, suc, ◌+◌, ◌<◌, ◌≡◌, ◌⊎◌, List, [], ◌∷◌, ◌++◌, length, take, map, get_or, Bool, true, false, cond, Option, Some, None, is_some, refl, sym, ◌∙◌, ap, arith, inl, inr}
use Rattle.std.specs.Prelude.{slice_get}
use Rattle.std.specs.List.{cons_option}
use Rattle.std.specs.Ordering.{int_eq}
use Rattle.std.proofs.lemmas.Bool.{cases_eq, true≢false}
use Rattle.std.proofs.lemmas.Bool.Decides.{Decides-int_eq}
use Rattle.std.proofs.lemmas.List.{map-append}
use Rattle.std.proofs.lemmas.Option.{slice_get-get_or}
use Rattle.ak_labor.specs.declared.work.WorkKind.{WorkKind}
use Rattle.ak_labor.specs.declared.work.WorkKind.TheVariants.{Square, Mix, Fail}
use Rattle.ak_labor.specs.declared.work.Work.{Work}
use Rattle.ak_labor.specs.declared.ask.Ask.{Ask}
use Rattle.ak_labor.specs.declared.ask.Ask.TheVariants as ask
use Rattle.ak_history.specs.declared.event.Event.{Event}
use Rattle.ak_history.specs.Events.{numbers_below}
use Rattle.ak_history.specs.Scheduler.{ask_of, asks}
use Rattle.ak_program.specs.Programs.{NumProgram}
use Rattle.ak_labor.specs.declared.config.Config.{Config}
use Rattle.ak_machine.specs.Run.{Ran, HasEnded, Wants, IsWrong}
use Rattle.ak_meets.specs.Meets.{sched, wanted, wanted_at, run_to, Agree, Meeting, Yes, Stray, Short, Meets}

-- ---- whether two calls are the same
abbrev Either : {X : Type 0} → X → X → Type 0
Either x y = (x ≡ y) ⊎ (x ≡ y → ⊥)

int_either : (x y : ℤ) → Either x y
int_either x y = by (int_eq x y) refl
  where
    by : (b : Bool) → int_eq x y ≡ b → Either x y
    by true e = inl ((Decides-int_eq x y).0 e)
    by false e = inr (λ h. true≢false (sym ((Decides-int_eq x y).1 h) ∙ e))

kind_either : (a b : WorkKind) → Either a b
kind_either Square Square = inl refl
kind_either Mix Mix = inl refl
kind_either Fail Fail = inl refl
kind_either a b = inr (λ h. cc)

work_either : (a b : Work) → Either a b
work_either a b =
    elim (kind_either a.kind b.kind) [
      | inl p ↦ elim (int_either a.num b.num) [
        | inl q ↦ inl (λ i. record { kind = p i; num = q i })
        | inr n ↦ inr (λ h. n (ap (λ (w : Work). w.num) h))
      ]
      | inr n ↦ inr (λ h. n (ap (λ (w : Work). w.kind) h))
    ]

helper_either : (a b : Option ℕ) → Either a b
helper_either None None = inl refl
helper_either (Some a) (Some b) = elim (cases_eq a b) [ inl p ↦ inl (ap Some p) | inr n ↦ inr (λ h. n cc) ]
helper_either a b = inr (λ h. cc)

ask_either : (a b : Ask) → Either a b
ask_either (ask.Submit a v g) (ask.Submit b w h) =
    elim (cases_eq a b) [
      | inl p ↦ elim (work_either v w) [
        | inl q ↦ elim (helper_either g h) [
          | inl r ↦ inl (λ i. ask.Submit (p i) (q i) (r i))
          | inr n ↦ inr (λ e. n cc)
        ]
        | inr n ↦ inr (λ e. n cc)
      ]
      | inr n ↦ inr (λ e. n cc)
    ]
ask_either ask.Drain ask.Drain = inl refl
ask_either ask.Close ask.Close = inl refl
ask_either (ask.HelperNew a) (ask.HelperNew b) = elim (cases_eq a b) [ inl p ↦ inl (ap ask.HelperNew p) | inr n ↦ inr (λ h. n cc) ]
ask_either (ask.HelperEnd a) (ask.HelperEnd b) = elim (cases_eq a b) [ inl p ↦ inl (ap ask.HelperEnd p) | inr n ↦ inr (λ h. n cc) ]
ask_either (ask.Answer a v) (ask.Answer b w) =
    elim (cases_eq a b) [
      | inl p ↦ elim (int_either v w) [ inl q ↦ inl (λ i. ask.Answer (p i) (q i)) | inr n ↦ inr (λ e. n cc) ]
      | inr n ↦ inr (λ e. n cc)
    ]
ask_either a b = inr (λ h. cc)

-- ---- the place of a call
record Found (history : List Event) (k : ℕ) (a : Ask) : Type 0 where
  place : ℕ
  kept : Event
  there : slice_get history place ≡ Some kept
  is : ask_of kept ≡ Some a
  behind : length (sched (take place history)) ≡ k

found_by : (o : Option Ask) (e : Event) (events : List Event) (k : ℕ) (a : Ask) → ask_of e ≡ o
    → ((j : ℕ) → slice_get (asks events) j ≡ Some a → Found events j a) → slice_get (cons_option o (asks events)) k ≡ Some a → Found (e ∷ events) k a
found_by None e events k a is rest h =
    let f : Found events k a = rest k h
    in record {
      place = suc f.place;
      kept = f.kept;
      there = f.there;
      is = f.is;
      behind = ap (λ (o : Option Ask). length (cond (is_some o) (e ∷ sched (take f.place events)) (sched (take f.place events)))) is ∙ f.behind;
    }
found_by (Some b) e events zero a is rest h = record { place = 0; kept = e; there = refl; is = is ∙ h; behind = refl }
found_by (Some b) e events (suc k) a is rest h =
    let f : Found events k a = rest k h
    in record {
      place = suc f.place;
      kept = f.kept;
      there = f.there;
      is = f.is;
      behind = ap (λ (o : Option Ask). length (cond (is_some o) (e ∷ sched (take f.place events)) (sched (take f.place events)))) is ∙ ap suc f.behind;
    }

found : (history : List Event) (k : ℕ) (a : Ask) → slice_get (asks history) k ≡ Some a → Found history k a
found [] k a h = cc
found (e ∷ events) k a h = found_by (ask_of e) e events k a refl (λ j g. found events j a g) h

-- ---- one more call that agrees
take_suc : (k : ℕ) (calls : List Ask) (a : Ask) → slice_get calls k ≡ Some a → take (suc k) calls ≡ take k calls ++ a ∷ []
take_suc zero [] a h = cc
take_suc zero (b ∷ calls) a h = let same : b ≡ a = cc in ap (λ c. c ∷ []) same
take_suc (suc k) [] a h = cc
take_suc (suc k) (b ∷ calls) a h = ap (λ cs. b ∷ cs) (take_suc k calls a h)

agree_more : (w : ℕ → Option Ask) (calls : List Ask) (k : ℕ) (a : Ask) → map w (numbers_below k) ≡ map Some (take k calls) → w k ≡ Some a
    → slice_get calls k ≡ Some a → map w (numbers_below (suc k)) ≡ map Some (take (suc k) calls)
agree_more w calls k a agree want made =
    map-append w (numbers_below k) (k ∷ [])
    ∙ ap (λ (xs : List (Option Ask)). xs ++ w k ∷ []) agree
    ∙ ap (λ (x : Option Ask). map Some (take k calls) ++ x ∷ []) want
    ∙ sym (map-append Some (take k calls) (a ∷ []))
    ∙ ap (map Some) (sym (take_suc k calls a made))

-- ---- how far they go together
abbrev OneOf : NumProgram → Config → List Event → Type 0
OneOf program config history =
    ((m : Meeting) × Meets program config history m) ⊎ ((k : ℕ) × Agree program config history k × ((run_to program config history k).outcome ≡ IsWrong))

last_by : (program : NumProgram) (config : Config) (history : List Event) (k : ℕ) (r : Ran) → (run_to program config history k).outcome ≡ r
    → length (asks history) ≡ k → Agree program config history k → OneOf program config history
last_by program config history k HasEnded e l agree = inl (Yes, (k, record { agree = agree; ended = e }))
last_by program config history k IsWrong e l agree = inr (k, agree, e)
last_by program config history k (Wants a) e l agree = inl (Short a, (k, record { agree = agree; wants = ap wanted e; none_left = l }))

more_by : (program : NumProgram) (config : Config) (history : List Event) (k : ℕ) (r : Ran) → (run_to program config history k).outcome ≡ r
    → k < length (asks history) → Agree program config history k
    → (Agree program config history (suc k) → OneOf program config history) → OneOf program config history
more_by program config history k HasEnded e l agree rest = inl (Yes, (k, record { agree = agree; ended = e }))
more_by program config history k IsWrong e l agree rest = inr (k, agree, e)
more_by program config history k (Wants a) e l agree rest =
    let b : Ask = get_or (asks history) k a
    in let made : slice_get (asks history) k ≡ Some b = slice_get-get_or (asks history) k a l
    in let want : wanted_at program config history k ≡ Some a = ap wanted e
    in elim (ask_either b a) [
      | inl same ↦ rest (agree_more (wanted_at program config history) (asks history) k b agree (want ∙ ap Some (sym same)) made)
      | inr other ↦
          let f : Found history k b = found history k b made
          in inl (
            Stray f.place a f.kept,
            (
              k,
              record {
                agree = agree;
                wants = want;
                there = f.there;
                of_scheduler = ap is_some f.is;
                behind = f.behind;
                differs = λ same. other (some_is b a (sym f.is ∙ same));
              },
            ),
          )
    ]
  where
    some_is : (x y : Ask) → Some x ≡ Some y → x ≡ y
    some_is x y h = cc

one_from : (program : NumProgram) (config : Config) (history : List Event) (n k : ℕ) → length (asks history) ≡ k + n → Agree program config history k
    → OneOf program config history
one_from program config history zero k l agree = last_by program config history k (run_to program config history k).outcome refl (omega (arith, l)) agree
one_from program config history (suc n) k l agree =
    more_by program config history k (run_to program config history k).outcome refl (omega (arith, l)) agree
    (λ more. one_from program config history n (suc k) (omega (arith, l)) more)

pub some_meeting : (program : NumProgram) (config : Config) (history : List Event) → OneOf program config history
some_meeting program config history = one_from program config history (length (asks history)) 0 (omega arith) refl
