-- How the run over a record and the record meet.
use Rattle.std.proofs.Common.{◌≡◌, ℕ, zero, suc, ◌≤◌, ◌⊎◌, true, false, cond, List, [], ◌∷◌, ◌++◌, length, take, drop, map, refl, sym, ap, subst, ◌∙◌, inl, inr, arith, length-append}
use Rattle.std.specs.Prelude.{◌&&◌, ◌||◌, not, slice_get, Option, Some, None, is_some, Result, Ok, Err, IfOk, IfErr}
use Rattle.std.specs.List.{cons_option, list_any, AllByRecursion}
use Rattle.std.proofs.lemmas.List.{take-append-drop, take-append-le, take_all}
use Rattle.std.proofs.lemmas.List.Folds.{list_any-append}
use Rattle.std.proofs.lemmas.List.Elements.{filter_map-append}
use Rattle.ak_labor.specs.declared.ask.Ask.{Ask}
use Rattle.ak_labor.specs.declared.config.Config.{Config}
use Rattle.ak_labor.specs.Calls.{IsFault}
use Rattle.ak_labor.specs.Waits.{outstanding}
use Rattle.ak_trace.specs.declared.entry.Entry.{Entry}
use Rattle.ak_history.specs.declared.event.Event.{Event}
use Rattle.ak_history.specs.declared.event.Event.TheVariants as event
use Rattle.ak_history.specs.Events.{is_close}
use Rattle.ak_history.specs.Legal.{Legal, AreLegalAfter, is_late}
use Rattle.ak_history.specs.Scheduler.{ask_of, asks, replies_after, replies}
use Rattle.ak_program.specs.Programs.{NumProgram}
use Rattle.ak_machine.specs.Run.{Run, HasEnded, run_of}
use Rattle.ak_history_laws.specs.Behind.{IsNotByScheduler, Behind}
use Rattle.ak_history_laws.proofs.Helpers.{alike}
use Rattle.ak_history_laws.specs.Once.{StartOnce}
use Rattle.ak_history_laws.proofs.Legals.{legal_front, legal_behind}
use Rattle.ak_history_laws.proofs.Once.{start_once}
use Rattle.ak_history_laws.proofs.Owed.{calls_behind, closed_now}
use Rattle.ak_history_laws.proofs.Replies.{replies_more}
use Rattle.ak_cycle.specs.Runs.{HasEndedWith, WantsLast, EndsClosed, EndsIdle}
use Rattle.ak_meets.specs.Calls.{WantsBehind, EndsWith, HasCalled, AllFit}
use Rattle.ak_meets.specs.Meets.{sched, wanted, wanted_at, Agree, Meeting, Yes, Stray, Short, Meets}
use Rattle.ak_replay.specs.Replays.{ReplayState, Recording, recording_of, passed_by, with_missed, asked_of, replied_of, IsOther, DepartsBy}
use Rattle.ak_replay.specs.declared.port.Departure.{Departure}
use Rattle.ak_replay.specs.declared.port.Departure.TheVariants as departure
use Rattle.ak_labor.specs.declared.port.PortError.{PortError}
use Rattle.ak_labor.specs.declared.port.PortError.TheVariants.{Fault}
use Rattle.ak_rerun.specs.declared.rerun.Replayed.{Replayed}
use Rattle.ak_rerun.specs.declared.rerun.RerunRefused.{RerunRefused}
use Rattle.ak_rerun.specs.declared.rerun.RerunRefused.TheVariants.{Departs, NoMemory}
use Rattle.ak_rerun.specs.Reruns.{IsRerun, DepartsFrom, Tells, meeting_of}

-- ---- lists
front_of : {A : Type 0} (xs ys : List A) → take (length xs) (xs ++ ys) ≡ xs
front_of xs ys = take-append-le (length xs) xs ys (omega arith) ∙ take_all (length xs) xs (omega arith)

ends_same : {A : Type 0} (xs ys : List A) (x y : A) → length xs ≡ length ys → xs ++ x ∷ [] ≡ ys ++ y ∷ [] → (xs ≡ ys) × (x ≡ y)
ends_same [] [] x y many e = (refl, cc e)
ends_same [] (z ∷ ys) x y many e = absurd (omega (arith, many))
ends_same (z ∷ xs) [] x y many e = absurd (omega (arith, many))
ends_same (z ∷ xs) (w ∷ ys) x y many e =
    let first : z ≡ w = cc e in
    let rest : xs ++ x ∷ [] ≡ ys ++ y ∷ [] = cc e in
    let same = ends_same xs ys x y (omega (arith, many)) rest in
    ((λ i. first i ∷ same.0 i), same.1)

past : {A : Type 0} (xs : List A) (k : ℕ) → slice_get xs k ≡ None → length xs ≤ k
past [] k e = omega arith
past (x ∷ xs) zero e = absurd (cc e)
past (x ∷ xs) (suc k) e = omega (arith, past xs k e)

-- as many events of the scheduler as calls
sched_many : (xs : List Event) → length (sched xs) ≡ length (asks xs)
sched_many [] = refl
sched_many (e ∷ xs) = of (ask_of e) (sched_many xs)
  where
    of : (o : Option Ask) → length (sched xs) ≡ length (asks xs)
        → length (cond (is_some o) (e ∷ sched xs) (sched xs)) ≡ length (cons_option o (asks xs))
    of None rest = rest
    of (Some a) rest = omega (arith, rest)

-- ---- behind a close stand finishes alone
late_alone : (e : Event) → (true && not (is_late e)) ≡ false → IsNotByScheduler e
late_alone (event.Submit id work helper) h = absurd (cc h)
late_alone (event.Start thread id) h = tt
late_alone (event.Finish thread id outcome) h = tt
late_alone (event.Request q asker n) h = tt
late_alone (event.AskerEnd asker) h = tt
late_alone (event.Drain ids requests) h = absurd (cc h)
late_alone (event.Answered q v) h = absurd (cc h)
late_alone (event.HelperNew n answer) h = absurd (cc h)
late_alone (event.HelperEnd n) h = absurd (cc h)
late_alone event.Close h = absurd (cc h)

all_late : (threads askers : ℕ) (before ys : List Event) → AreLegalAfter threads askers before ys → list_any is_close before ≡ true
    → AllByRecursion IsNotByScheduler ys
all_late threads askers before [] h closed = tt
all_late threads askers before (y ∷ ys) h closed = (
  late_alone y (ap (λ b. b && not (is_late y)) (sym closed) ∙ h.0.open_or_late),
  all_late threads askers (before ++ y ∷ []) ys h.1 (list_any-append is_close before (y ∷ []) ∙ ap (λ b. b || list_any is_close (y ∷ [])) closed),
)

-- ---- how much of a record was passed
record Passed (history : List Event) (askers k : ℕ) (xs : List Event) : Type 0 where
  asked : take k (asks history) ≡ asks xs
  replied : take k (replies askers history) ≡ replies askers xs
  many : length (asks xs) ≡ k
  room : k ≤ length (replies askers history)

passed : (threads askers : ℕ) (history : List Event) (place : ℕ) → Legal threads askers history
    → Passed history askers (length (replies askers (take place history))) (take place history)
passed threads askers history place legal =
    let xs = take place history in
    let ys = drop place history in
    let k = length (replies askers xs) in
    let whole : history ≡ xs ++ ys = sym (take-append-drop place history) in
    let front : Legal threads askers xs = legal_front threads askers [] xs ys (subst (Legal threads askers) whole legal) in
    let same : length (asks xs) ≡ k = (alike threads askers xs front).same in
    let calls : asks history ≡ asks xs ++ asks ys = ap asks whole ∙ filter_map-append ask_of xs ys in
    let answers : replies askers history ≡ replies askers xs ++ replies_after askers xs ys = ap (replies askers) whole ∙ replies_more askers xs ys in
    record {
      asked = ap (take k) calls ∙ (ap (λ n. take n (asks xs ++ asks ys)) (sym same) ∙ front_of (asks xs) (asks ys));
      replied = ap (take k) answers ∙ front_of (replies askers xs) (replies_after askers xs ys);
      many = same;
      room = omega (arith, ap length answers, length-append (replies askers xs) (replies_after askers xs ys));
    }

-- the law of calls, for the replies of a record
abbrev pub CallsOver : NumProgram → Config → List Event → Type 0
CallsOver program config history =
    (n : ℕ) → n ≤ length (replies config.askers history) → AllFit program config (replies config.askers history) n
    → HasCalled program config (replies config.askers history) n

abbrev pub recorded : Config → List Event → Recording
recorded config history = record { threads = config.threads; askers = config.askers; history = history }

-- the replay of this record by this run
record Replaying (program : NumProgram) (config : Config) (history : List Event) (s : ReplayState) : Type 0 where
  calls : asks (passed_by s) ≡ asks (take s.passed history)
  answers : replied_of s ≡ replies config.askers (take s.passed history)

replaying : (program : NumProgram) (config : Config) (history : List Event) (s : ReplayState) → recording_of s ≡ recorded config history
    → Replaying program config history s
replaying program config history s named = record {
  calls = λ i. asks (take s.passed (named i).history);
  answers = λ i. replies (named i).askers (take s.passed (named i).history);
}

none_missed : (o : Option Ask) (asked : List Ask) → length (with_missed asked o) ≡ length asked → o ≡ None
none_missed None asked e = refl
none_missed (Some a) asked e = absurd (omega (arith, e, length-append asked (a ∷ [])))

-- ---- the run and the record end together
pub record EndsTogether (program : NumProgram) (config : Config) (history : List Event) (trace : List Entry) : Type 0 where
  pub meets : Meets program config history Yes
  pub ended : (run_of program config (replies config.askers history)).outcome ≡ HasEnded
  pub trace_is : (run_of program config (replies config.askers history)).trace ≡ trace
  pub asks_are : (run_of program config (replies config.askers history)).asks ≡ asks history
  pub once : StartOnce trace history

pub ends_together : (program : NumProgram) (config : Config) (history : List Event) (s : ReplayState) (trace : List Entry) (waits : List ℕ)
    → CallsOver program config history → Legal config.threads config.askers history → recording_of s ≡ recorded config history
    → HasEndedWith (run_of program config (replied_of s)) trace (asked_of s) waits → EndsClosed (asked_of s)
    → (EndsIdle trace → outstanding (asked_of s) (replied_of s) ≡ []) → EndsTogether program config history trace
ends_together program config history s trace waits law legal named ends closed idle =
    of (law k p.room (λ wrong. absurd (cc (sym (ap (λ (r : Run). r.outcome) at) ∙ wrong, ends.ended))))
  where
    xs : List Event
    xs = take s.passed history

    k : ℕ
    k = length (replies config.askers xs)

    p : Passed history config.askers k xs
    p = passed config.threads config.askers history s.passed legal

    r : Replaying program config history s
    r = replaying program config history s named

    at : run_of program config (take k (replies config.askers history)) ≡ run_of program config (replied_of s)
    at = ap (run_of program config) (p.replied ∙ sym r.answers)

    of : HasCalled program config (replies config.askers history) k → EndsTogether program config history trace
    of called = by called.behind
      where
        by : WantsBehind (run_of program config (take k (replies config.askers history))) called.calls
            ⊎ EndsWith (run_of program config (take k (replies config.askers history))) called.calls
            → EndsTogether program config history trace
        by (inl w) = absurd (cc (sym (ap (λ (r : Run). r.outcome) at) ∙ w.wants, ends.ended))
        by (inr e) =
            let same : asked_of s ≡ called.calls = sym ends.asks_are ∙ (sym (ap (λ (r : Run). r.asks) at) ∙ e.asks) in
            let many : length (asked_of s) ≡ length (asks (passed_by s)) = omega (arith, ap length same, called.many, p.many, ap length r.calls) in
            let none = none_missed s.missed (asks (passed_by s)) many in
            let asked : asked_of s ≡ asks xs = ap (with_missed (asks (passed_by s))) none ∙ r.calls in
            let shut = closed_now xs closed.0 (sym asked ∙ closed.1) in
            let whole : history ≡ xs ++ drop s.passed history = sym (take-append-drop s.passed history) in
            let after =
            legal_behind config.threads config.askers [] xs (drop s.passed history) (subst (Legal config.threads config.askers) whole legal) in
            let rest : Behind IsNotByScheduler xs history =
            record {
              rest = drop s.passed history;
              whole_is = whole;
              others = all_late config.threads config.askers xs (drop s.passed history) after shut;
            } in
            let both = calls_behind config.askers xs history rest in
            let over : run_of program config (replies config.askers history) ≡ run_of program config (replied_of s) =
            ap (run_of program config) (both.1 ∙ sym r.answers) in
            record {
              meets = (
                k,
                record {
                  agree = called.agree ∙ ap (map Some) (sym same ∙ (asked ∙ sym p.asked));
                  ended = ap (λ (r : Run). r.outcome) at ∙ ends.ended;
                },
              );
              ended = ap (λ (r : Run). r.outcome) over ∙ ends.ended;
              trace_is = ap (λ (r : Run). r.trace) over ∙ ends.trace_is;
              asks_are = ap (λ (r : Run). r.asks) over ∙ (ends.asks_are ∙ (asked ∙ sym both.0));
              once = start_once config.threads config.askers trace history legal (λ before is.
                  ap (λ l. outstanding l (replies config.askers history)) (both.0 ∙ sym asked)
                  ∙ (ap (outstanding (asked_of s)) (both.1 ∙ sym r.answers) ∙ idle (before, is)));
            }

-- ---- the run departs from the record
-- after the calls that were passed the run makes this one
record Departing (program : NumProgram) (config : Config) (history : List Event) (place : ℕ) (a : Ask) : Type 0 where
  agree : Agree program config history (length (replies config.askers (take place history)))
  wants : wanted_at program config history (length (replies config.askers (take place history))) ≡ Some a
  many : length (asks (take place history)) ≡ length (replies config.askers (take place history))

departing : (program : NumProgram) (config : Config) (history : List Event) (s : ReplayState) (waits : List ℕ) (a : Ask)
    → CallsOver program config history → Legal config.threads config.askers history → recording_of s ≡ recorded config history
    → WantsLast (run_of program config (replied_of s)) (asked_of s) (replied_of s) waits → s.missed ≡ Some a
    → Departing program config history s.passed a
departing program config history s waits a law legal named wants lost =
    of (law k p.room (λ wrong. absurd (cc (sym (ap (λ (r : Run). r.outcome) at) ∙ wrong, wants.wants))))
  where
    xs : List Event
    xs = take s.passed history

    k : ℕ
    k = length (replies config.askers xs)

    p : Passed history config.askers k xs
    p = passed config.threads config.askers history s.passed legal

    r : Replaying program config history s
    r = replaying program config history s named

    at : run_of program config (take k (replies config.askers history)) ≡ run_of program config (replied_of s)
    at = ap (run_of program config) (p.replied ∙ sym r.answers)

    asked : asked_of s ≡ asks xs ++ a ∷ []
    asked = ap (with_missed (asks (passed_by s))) lost ∙ ap (λ l. l ++ a ∷ []) r.calls

    of : HasCalled program config (replies config.askers history) k → Departing program config history s.passed a
    of called = by called.behind
      where
        by : WantsBehind (run_of program config (take k (replies config.askers history))) called.calls
            ⊎ EndsWith (run_of program config (take k (replies config.askers history))) called.calls
            → Departing program config history s.passed a
        by (inr e) = absurd (cc (sym (ap (λ (r : Run). r.outcome) at) ∙ e.ended, wants.wants))
        by (inl w) =
            let all : called.calls ++ w.next ∷ [] ≡ asks xs ++ a ∷ [] = sym w.asks ∙ (ap (λ (r : Run). r.asks) at ∙ (wants.asks_are ∙ asked)) in
            let same = ends_same called.calls (asks xs) w.next a (omega (arith, called.many, p.many)) all in
            record {
              agree = called.agree ∙ ap (map Some) (same.0 ∙ sym p.asked);
              wants = ap wanted w.wants ∙ ap Some same.1;
              many = p.many;
            }

-- another call stands there
strays : (program : NumProgram) (config : Config) (history : List Event) (s : ReplayState) (waits : List ℕ) (place : ℕ) (a : Ask) (kept : Event)
    → CallsOver program config history → Legal config.threads config.askers history → recording_of s ≡ recorded config history
    → WantsLast (run_of program config (replied_of s)) (asked_of s) (replied_of s) waits → s.missed ≡ Some a → place ≡ s.passed
    → slice_get s.history place ≡ Some kept → IsOther (Some kept) a → Meets program config history (Stray place a kept)
strays program config history s waits place a kept law legal named wants lost here there other =
    let d = departing program config history s waits a law legal named wants lost in (
      length (replies config.askers (take s.passed history)),
      record {
        agree = d.agree;
        wants = d.wants;
        there = ap (λ (x : Recording). slice_get x.history place) (sym named) ∙ there;
        of_scheduler = other.0;
        behind = ap (λ n. length (sched (take n history))) here ∙ (sched_many (take s.passed history) ∙ d.many);
        differs = other.1;
      },
    )

-- no call is left
ends_short : (program : NumProgram) (config : Config) (history : List Event) (s : ReplayState) (waits : List ℕ) (a : Ask)
    → CallsOver program config history → Legal config.threads config.askers history → recording_of s ≡ recorded config history
    → WantsLast (run_of program config (replied_of s)) (asked_of s) (replied_of s) waits → s.missed ≡ Some a
    → slice_get s.history s.passed ≡ None → Meets program config history (Short a)
ends_short program config history s waits a law legal named wants lost none =
    let d = departing program config history s waits a law legal named wants lost in
    let over = past history s.passed (ap (λ (x : Recording). slice_get x.history s.passed) (sym named) ∙ none) in (
      length (replies config.askers (take s.passed history)),
      record {
        agree = d.agree;
        wants = d.wants;
        none_left = ap (λ l. length (asks l)) (sym (take_all s.passed history over)) ∙ d.many;
      },
    )

-- where a reply is missing, a call was missed
pub some_missed : (program : NumProgram) (config : Config) (history : List Event) (s : ReplayState) (run : Run) (waits : List ℕ)
    → Legal config.threads config.askers history → recording_of s ≡ recorded config history
    → WantsLast run (asked_of s) (replied_of s) waits → s.missed ≡ None → ⊥
some_missed program config history s run waits legal named wants none =
    let p = passed config.threads config.askers history s.passed legal in
    let r = replaying program config history s named in
    let asked : asked_of s ≡ asks (take s.passed history) = ap (with_missed (asks (passed_by s))) none ∙ r.calls in
    absurd (omega (arith, wants.one_more, ap length asked, p.many, ap length r.answers))

-- LAW. The run and the record meet as the port departs from it.
pub departs : (program : NumProgram) (config : Config) (history : List Event) (s : ReplayState) (waits : List ℕ) (d : Departure)
    → CallsOver program config history → Legal config.threads config.askers history → recording_of s ≡ recorded config history
    → WantsLast (run_of program config (replied_of s)) (asked_of s) (replied_of s) waits → DepartsBy s (Some d)
    → Meets program config history (meeting_of d)
departs program config history s waits (departure.Stray place a kept) law legal named wants h =
    strays program config history s waits place a kept law legal named wants h.0 h.1 h.2 h.3
departs program config history s waits (departure.Short a) law legal named wants h =
    ends_short program config history s waits a law legal named wants h.0 h.1

-- a fault is one
pub fault_is : (T : Type 0) {F : Type 0} (e : PortError F) (f : F) → e ≡ Fault f → IsFault {T = T} (Err e)
fault_is T e f is = subst (λ x. IsFault {T = T} (Err x)) (sym is) tt

-- LAW. The answer tells how the run and the record meet.
pub tells : (program : NumProgram) (config : Config) (history : List Event) (answer : Result Replayed RerunRefused)
    → ((one other : Meeting) → Meets program config history one → Meets program config history other → one ≡ other)
    → IfOk answer (λ ran. IsRerun program config history ran.trace × (ran.history ≡ history)) → IfErr answer (DepartsFrom program config history)
    → (m : Meeting) → Meets program config history m → Tells answer m
tells program config history (Ok ran) one ok err m k = one m Yes k ok.0.meets
tells program config history (Err (Departs d)) one ok err m k = one m (meeting_of d) k err
tells program config history (Err NoMemory) one ok err m k = tt
