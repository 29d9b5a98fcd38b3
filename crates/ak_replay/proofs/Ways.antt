-- What passing the events of a record does to what is kept beside it.
use Rattle.std.proofs.Common.{◌≡◌, ℕ, ◌+◌, ◌-◌, ◌<◌, ◌≤◌, false, List, [], ◌∷◌, ◌++◌, length, take, drop, refl, sym, ap, subst, ◌∙◌, append_assoc, arith, length-append}
use Rattle.std.specs.Prelude.{fold, count_by, slice_get, Option, Some, None}
use Rattle.std.specs.List.{filter_map, cons_option, AllByRecursion}
use Rattle.std.proofs.lemmas.List.{take_more, take-append-drop, length-take-le}
use Rattle.std.proofs.lemmas.Option.{slice_get_within, get_or_from_slice_get}
use Rattle.std.proofs.lemmas.List.Sums.{fold-append}
use Rattle.std.proofs.lemmas.List.Elements.{filter_map-append}
use Rattle.ak_labor.specs.declared.ask.Ask.{Ask}
use Rattle.ak_labor.specs.declared.ask.Ask.TheVariants as ask
use Rattle.ak_labor.specs.Arrived.{Arrived}
use Rattle.ak_labor.specs.Waits.{is_drain, handed_by, helper_in, outstanding, Arrive, Serves}
use Rattle.ak_labor.specs.Calls.{Reply, Drained, IsOpen}
use Rattle.ak_history.specs.declared.event.Event.{Event}
use Rattle.ak_history.specs.declared.event.Event.TheVariants as event
use Rattle.ak_history.specs.Events.{is_submit, is_helper_new}
use Rattle.ak_history.specs.Legal.{Legal, AreLegalAfter, IsLegalAfter}
use Rattle.ak_history.specs.Scheduler.{ask_of, asks, replies_after, replies, arrived_in}
use Rattle.ak_pool.specs.Pools.{brought}
use Rattle.ak_history_laws.specs.Behind.{IsNotByScheduler, Behind}
use Rattle.ak_history_laws.specs.Brought.{brought_then}
use Rattle.ak_history_laws.proofs.Brought.{brought_next, brought_more}
use Rattle.ak_history_laws.proofs.Helpers.{alike, submits_alike, helpers_alike}
use Rattle.ak_history_laws.proofs.Arrivals.{arrives}
use Rattle.ak_history_laws.proofs.Legals.{legal_behind, legal_front}
use Rattle.ak_history_laws.proofs.Owed.{calls_behind}
use Rattle.ak_history_laws.proofs.Parts.{count_more}
use Rattle.ak_history_laws.proofs.Replies.{replies_more, drain_reply}
use Rattle.ak_history_laws.proofs.Requests.{serves}
use Rattle.ak_history_laws.proofs.Workers.{asks_stay, submits_stay, helpers_stay}
use Rattle.ak_replay.specs.declared.passing.Progress.{Progress}
use Rattle.ak_replay.specs.declared.port.ReplayPort.TheInside.{Inside}
use Rattle.ak_replay.specs.Passing.{IsCall, IsAtCall, IsPassed, CanCount, CanCountAsk, counted, is_grant}
use Rattle.ak_replay.specs.Replays.{ReplayState, IsReplay, IsMissed, IsOther, IsNext, HasRoom, HasWalked, HasPassed, HasPassedCall, passed_by, with_missed, asked_of, replied_of, reply_for}

some_same : {A : Type 0} (x y : A) → Some x ≡ Some y → x ≡ y
some_same x y e = cc e

-- the item at a place, and the list up to it
pub taken_next : {A : Type 0} (xs : List A) (k : ℕ) (x : A) → slice_get xs k ≡ Some x → (k < length xs) × (take (k + 1) xs ≡ take k xs ++ x ∷ [])
taken_next xs k x e =
    let lt = slice_get_within xs k x e in
    (lt, take_more xs k x lt ∙ ap (λ y. take k xs ++ y ∷ []) (get_or_from_slice_get xs k x x e))

all_last : (P : Event → Type 0) (xs : List Event) (x : Event) → AllByRecursion P xs → P x → AllByRecursion P (xs ++ x ∷ [])
all_last P [] x h k = (k, tt)
all_last P (y ∷ xs) x h k = (h.0, all_last P xs x h.1 k)

-- one event of a thread or of an asker more
pub passed_next : (history : List Event) (from k : ℕ) (due d d' : Arrived) (e : Event) → IsPassed history from k due d → slice_get history k ≡ Some e
    → IsNotByScheduler e → d' ≡ brought_then d e → IsPassed history from (k + 1) due d'
passed_next history from k due d d' e p there other is =
    let next = taken_next history k e there in
    record {
      others = p.others ++ e ∷ [];
      by_others = all_last IsNotByScheduler p.others e p.by_others other;
      taken = next.1 ∙ (ap (λ l. l ++ e ∷ []) p.taken ∙ append_assoc (take from history) p.others (e ∷ []));
      brought = is ∙ (ap (λ x. brought_then x e) p.brought ∙ sym (fold-append brought_then due p.others (e ∷ [])));
      on = omega (arith, p.on);
      within = omega (arith, next.0);
    }

legal_take : (threads askers : ℕ) (history : List Event) (k : ℕ) → Legal threads askers history → Legal threads askers (take k history)
legal_take threads askers history k h =
    legal_front threads askers [] (take k history) (drop k history) (subst (Legal threads askers) (sym (take-append-drop k history)) h)

pub none_lost : (next : Option Event) (o : Option Ask) → o ≡ None → IsMissed next o
none_lost next o e = subst (IsMissed next) (sym e) tt

-- a call that is not the next one
pub other_call : (next : Option Event) (a : Ask) → IsAtCall next → (IsCall a next → ⊥) → IsOther next a
other_call None a at no_call = tt
other_call (Some e) a at no_call = (at, no_call)

-- what is kept of a record, as far as it was passed
abbrev pub Keeps : {B : Type 0} → Inside B → Progress → Arrived → Option Ask → Type 0
Keeps p at due lost = IsReplay p.threads p.askers p.history at due lost

-- what the port is, by what it keeps
abbrev pub seen : {B : Type 0} → Inside B → ReplayState
seen p = record { threads = p.threads; askers = p.askers; history = p.history; passed = p.at.events; missed = p.missed; waits = p.waits.items }

-- what is kept, once events of threads and askers were passed
pub keeps_passed : {B : Type 0} (p : Inside B) (k : ℕ) (due' : Arrived) (lost : Option Ask) → Keeps p p.at p.due p.missed
    → IsPassed p.history p.at.events k p.due due' → IsMissed (slice_get p.history k) lost → Keeps p (record p.at { events = k }) due' lost
keeps_passed p k due' lost r w other =
    let xs = take p.at.events p.history in
    let all = legal_take p.threads p.askers p.history k r.legal in
    let after : AreLegalAfter p.threads p.askers xs w.others = legal_behind p.threads p.askers [] xs w.others (subst (Legal p.threads p.askers) w.taken all) in
    let brings = brought_more p.threads p.askers xs w.others (legal_take p.threads p.askers p.history p.at.events r.legal) after in
    record {
      legal = r.legal;
      within = w.within;
      short = r.short;
      calls = r.calls ∙ ap length (sym (ap asks w.taken ∙ asks_stay xs w.others w.by_others));
      submits = r.submits ∙ sym (ap (count_by is_submit) w.taken ∙ submits_stay xs w.others w.by_others);
      helpers = r.helpers ∙ sym (ap (count_by is_helper_new) w.taken ∙ helpers_stay xs w.others w.by_others);
      due = w.brought ∙ (ap (λ d. fold brought_then d w.others) r.due ∙ (sym brings ∙ ap (brought p.askers) (sym w.taken)));
      missed = other;
    }

pub walked_to : (due due' : Arrived) (s s' : ReplayState) → IsPassed s.history s.passed s'.passed due due' → s'.history ≡ s.history → HasWalked s s'
walked_to due due' s s' p same = record {
  behind = record { rest = p.others; whole_is = ap (take s'.passed) same ∙ p.taken; others = p.by_others };
  on = p.on;
}

-- the event at a place of a legal record is legal there
legal_there : (threads askers : ℕ) (history : List Event) (k : ℕ) (e : Event) → Legal threads askers history → slice_get history k ≡ Some e
    → IsLegalAfter threads askers (take k history) e
legal_there threads askers history k e h there =
    (legal_behind threads askers [] (take k history) (e ∷ [])
    (subst (Legal threads askers) (taken_next history k e there).1 (legal_take threads askers history (k + 1) h))).0

one_asked : (e : Event) (a : Ask) → ask_of e ≡ Some a → asks (e ∷ []) ≡ a ∷ []
one_asked e a is = ap (λ o. filter_map (λ (x : Option Ask). x) (o ∷ [])) is

-- ---- what the event of a call says
-- one event more is counted, which is this one
pub record CountsOne (e : Event) (at at' : Progress) : Type 0 where
  pub events : at'.events ≡ at.events + 1
  pub calls : at'.calls ≡ at.calls + 1
  pub submits : at'.submits ≡ at.submits + count_by is_submit (e ∷ [])
  pub helpers : at'.helpers ≡ at.helpers + count_by is_helper_new (e ∷ [])

-- the call is counted as its event; where it is no drain, its event brings nothing, and has its reply
pub record IsEventOf (a : Ask) (e : Event) : Type 0 where
  pub counts : (at : Progress) → CountsOne e at (counted a at)
  pub same : is_drain a ≡ false → (due : Arrived) → brought_then due e ≡ due
  pub reply : is_drain a ≡ false → (askers : ℕ) (before : List Event) → replies_after askers before (e ∷ []) ≡ reply_for a (is_grant e) ∷ []

is_event_of : (e : Event) (a b : Ask) → Some b ≡ Some a → IsEventOf b e → IsEventOf a e
is_event_of e a b is k = subst (λ x. IsEventOf x e) (some_same b a is) k

counts_none : (e : Event) (at at' : Progress) → at' ≡ record at { events = at.events + 1; calls = at.calls + 1 } → count_by is_submit (e ∷ []) ≡ 0
    → count_by is_helper_new (e ∷ []) ≡ 0 → CountsOne e at at'
counts_none e at at' now no_submit no_helper = record {
  events = ap (λ (x : Progress). x.events) now;
  calls = ap (λ (x : Progress). x.calls) now;
  submits = omega (arith, ap (λ (x : Progress). x.submits) now, no_submit);
  helpers = omega (arith, ap (λ (x : Progress). x.helpers) now, no_helper);
}

pub event_of : (e : Event) (a : Ask) → ask_of e ≡ Some a → IsEventOf a e
event_of (event.Submit id work helper) a is =
    is_event_of (event.Submit id work helper) a (ask.Submit id work helper) is
    (record {
      counts = λ at. record { events = refl; calls = refl; submits = refl; helpers = omega arith };
      same = λ none due. refl;
      reply = λ none askers before. refl;
    })
event_of (event.Start thread id) a is = absurd (cc is)
event_of (event.Finish thread id outcome) a is = absurd (cc is)
event_of (event.Request q asker n) a is = absurd (cc is)
event_of (event.AskerEnd asker) a is = absurd (cc is)
event_of (event.Drain ids requests) a is =
    is_event_of (event.Drain ids requests) a ask.Drain is
    (record {
      counts = λ at. counts_none (event.Drain ids requests) at (counted ask.Drain at) refl refl refl;
      same = λ none due. absurd (cc none);
      reply = λ none askers before. absurd (cc none);
    })
event_of (event.Answered q v) a is =
    is_event_of (event.Answered q v) a (ask.Answer q v) is
    (record {
      counts = λ at. counts_none (event.Answered q v) at (counted (ask.Answer q v) at) refl refl refl;
      same = λ none due. refl;
      reply = λ none askers before. refl;
    })
event_of (event.HelperNew h answer) a is =
    is_event_of (event.HelperNew h answer) a (ask.HelperNew h) is
    (record {
      counts = λ at. record { events = refl; calls = refl; submits = omega arith; helpers = refl };
      same = λ none due. refl;
      reply = λ none askers before. refl;
    })
event_of (event.HelperEnd h) a is =
    is_event_of (event.HelperEnd h) a (ask.HelperEnd h) is
    (record {
      counts = λ at. counts_none (event.HelperEnd h) at (counted (ask.HelperEnd h) at) refl refl refl;
      same = λ none due. refl;
      reply = λ none askers before. refl;
    })
event_of event.Close a is =
    is_event_of event.Close a ask.Close is
    (record {
      counts = λ at. counts_none event.Close at (counted ask.Close at) refl refl refl;
      same = λ none due. refl;
      reply = λ none askers before. refl;
    })

-- the event of a drain
pub record IsDrainEvent (e : Event) : Type 0 where
  pub ids : List ℕ
  pub requests : List ℕ
  pub is : e ≡ event.Drain ids requests

pub drain_event : (e : Event) → ask_of e ≡ Some ask.Drain → IsDrainEvent e
drain_event (event.Submit id work helper) is = absurd (cc is)
drain_event (event.Start thread id) is = absurd (cc is)
drain_event (event.Finish thread id outcome) is = absurd (cc is)
drain_event (event.Request q asker n) is = absurd (cc is)
drain_event (event.AskerEnd asker) is = absurd (cc is)
drain_event (event.Drain ids requests) is = record { ids = ids; requests = requests; is = refl }
drain_event (event.Answered q v) is = absurd (cc is)
drain_event (event.HelperNew h answer) is = absurd (cc is)
drain_event (event.HelperEnd h) is = absurd (cc is)
drain_event event.Close is = absurd (cc is)

-- the reply to a drain is what was due
pub drain_brings : (threads askers : ℕ) (xs : List Event) (e : Event) → Legal threads askers xs → IsLegalAfter threads askers xs e → ask_of e ≡ Some ask.Drain
    → replies_after askers xs (e ∷ []) ≡ Drained (brought askers xs) ∷ []
drain_brings threads askers xs e legal here is =
    let d = drain_event e is in
    let rule = (subst (IsLegalAfter threads askers xs) d.is here).rule in
    ap (λ x. replies_after askers xs (x ∷ [])) d.is
    ∙ ((λ i. Drained (arrived_in askers xs (rule.0 i) (rule.1 i)) ∷ []) ∙ ap (λ a. Drained a ∷ []) (drain_reply threads askers xs legal))

-- and leaves nothing due
pub drain_leaves : (e : Event) (due : Arrived) → ask_of e ≡ Some ask.Drain → brought_then due e ≡ record { works = []; requests = []; left = due.left }
drain_leaves e due is = ap (brought_then due) (drain_event e is).is

-- what is kept, once a call was passed
pub keeps_counted : {B : Type 0} (p : Inside B) (due' : Arrived) (e : Event) (a : Ask) → Keeps p p.at p.due p.missed → p.missed ≡ None
    → slice_get p.history p.at.events ≡ Some e → ask_of e ≡ Some a → due' ≡ brought_then p.due e → Keeps p (counted a p.at) due' p.missed
keeps_counted p due' e a r none there is now =
    let xs = take p.at.events p.history in
    let at' = counted a p.at in
    let one = (event_of e a is).counts p.at in
    let next = taken_next p.history p.at.events e there in
    let more : take at'.events p.history ≡ xs ++ e ∷ [] = ap (λ k. take k p.history) one.events ∙ next.1 in
    let asked : length (asks (xs ++ e ∷ [])) ≡ length (asks xs) + 1 =
    ap length (filter_map-append ask_of xs (e ∷ []) ∙ ap (λ l. asks xs ++ l) (one_asked e a is)) ∙ length-append (asks xs) (a ∷ []) in
    let here = legal_there p.threads p.askers p.history p.at.events e r.legal there in
    let brings = brought_next p.threads p.askers xs e (legal_take p.threads p.askers p.history p.at.events r.legal) here in
    record {
      legal = r.legal;
      within = omega (arith, one.events, next.0);
      short = r.short;
      calls = one.calls ∙ (ap (λ n. n + 1) r.calls ∙ (sym asked ∙ ap (λ l. length (asks l)) (sym more)));
      submits = omega (arith, one.submits, r.submits, ap (count_by is_submit) more, count_more is_submit xs e, count_more is_submit [] e);
      helpers = omega (arith, one.helpers, r.helpers, ap (count_by is_helper_new) more, count_more is_helper_new xs e, count_more is_helper_new [] e);
      due = now ∙ (ap (λ d. brought_then d e) r.due ∙ (sym brings ∙ ap (brought p.askers) (sym more)));
      missed = none_lost (slice_get p.history at'.events) p.missed none;
    }

-- a call behind events of threads and askers was passed
pub call_passed : (s s' : ReplayState) (e : Event) (a : Ask) (reply : Reply) (k : ℕ) → Behind IsNotByScheduler (passed_by s) (take k s'.history) → s.passed ≤ k
    → s'.askers ≡ s.askers → s.missed ≡ None → s'.missed ≡ None → slice_get s'.history k ≡ Some e → ask_of e ≡ Some a
    → replies_after s'.askers (take k s'.history) (e ∷ []) ≡ reply ∷ [] → s'.passed ≡ k + 1 → HasPassed a e reply s s'
call_passed s s' e a reply k b on same free free' there is replied now =
    let xs = take k s'.history in
    let next = taken_next s'.history k e there in
    let seen : passed_by s' ≡ xs ++ e ∷ [] = ap (λ n. take n s'.history) now ∙ next.1 in
    let calls = calls_behind s.askers (passed_by s) xs b in
    record {
      last = ap (slice_get s'.history) (omega (arith, now)) ∙ there;
      on = omega (arith, on, now);
      within = omega (arith, next.0, now);
      asked =
          ap (with_missed (asks (passed_by s'))) free'
          ∙ (ap asks seen
          ∙ (filter_map-append ask_of xs (e ∷ [])
          ∙ ((λ i. calls.0 i ++ one_asked e a is i) ∙ ap (λ o. with_missed (asks (passed_by s)) o ++ a ∷ []) (sym free))));
      replied =
          (λ i. replies (same i) (seen i))
          ∙ (replies_more s.askers xs (e ∷ []) ∙ (λ i. calls.1 i ++ (ap (λ n. replies_after n xs (e ∷ [])) (sym same) ∙ replied) i));
    }

-- a call was missed behind events of threads and askers
pub call_missed : (s s' : ReplayState) (a : Ask) → HasWalked s s' → s'.askers ≡ s.askers → s.missed ≡ None → s'.missed ≡ Some a
    → (asked_of s' ≡ asked_of s ++ a ∷ []) × (replied_of s' ≡ replied_of s)
call_missed s s' a w same free lost =
    let calls = calls_behind s.askers (passed_by s) (passed_by s') w.behind in (
      ap (with_missed (asks (passed_by s'))) lost
          ∙ (ap (λ l. l ++ a ∷ []) calls.0 ∙ ap (λ o. with_missed (asks (passed_by s)) o ++ a ∷ []) (sym free)),
      ap (λ n. replies n (passed_by s')) same ∙ calls.1,
    )

-- there was no memory to come to a call
pub call_not_made : (s s' : ReplayState) → HasWalked s s' → s'.askers ≡ s.askers → s.missed ≡ None → s'.missed ≡ None
    → (asked_of s' ≡ asked_of s) × (replied_of s' ≡ replied_of s)
call_not_made s s' w same free free' =
    let calls = calls_behind s.askers (passed_by s) (passed_by s') w.behind in (
      ap (with_missed (asks (passed_by s'))) free' ∙ (calls.0 ∙ ap (with_missed (asks (passed_by s))) (sym free)),
      ap (λ n. replies n (passed_by s')) same ∙ calls.1,
    )

none_missed : (o : Option Ask) (asked : List Ask) (n : ℕ) → length asked ≡ n → n ≡ length (with_missed asked o) → o ≡ None
none_missed None asked n same e = refl
none_missed (Some a) asked n same e = absurd (omega (arith, same, e, length-append asked (a ∷ [])))

-- where each call has its reply, none was missed
pub nothing_missed : (s : ReplayState) → Legal s.threads s.askers (passed_by s) → IsOpen (asked_of s) (replied_of s) → s.missed ≡ None
nothing_missed s legal h =
    none_missed s.missed (asks (passed_by s)) (length (replied_of s)) (alike s.threads s.askers (passed_by s) legal).same h.1

-- how many calls were made
pub calls_made : (s : ReplayState) (at : Progress) (owes : Arrived) → IsReplay s.threads s.askers s.history at owes s.missed → at.events ≡ s.passed
    → IsOpen (asked_of s) (replied_of s) → at.calls ≡ length (asked_of s)
calls_made s at owes r same h =
    let none = nothing_missed s (legal_take s.threads s.askers s.history s.passed r.legal) h in
    r.calls ∙ (ap (λ k. length (asks (take k s.history))) same ∙ ap (λ o. length (with_missed (asks (passed_by s)) o)) (sym none))

-- the same, by what the port keeps
pub none_yet : {B : Type 0} (p : Inside B) → Keeps p p.at p.due p.missed → IsOpen (asked_of (seen p)) (replied_of (seen p)) → p.missed ≡ None
none_yet p r h = nothing_missed (seen p) (legal_take p.threads p.askers p.history p.at.events r.legal) h

-- the next event, where it is this call
pub next_event : (next : Option Event) (a : Ask) → IsCall a next → (e : Event) × (next ≡ Some e) × (ask_of e ≡ Some a)
next_event None a h = absurd h
next_event (Some e) a h = (e, refl, h)

fewer_asked : (f : Event → Option Ask) (xs : List Event) → length (filter_map f xs) ≤ length xs
fewer_asked f [] = omega arith
fewer_asked f (x ∷ xs) = one (f x) (fewer_asked f xs)
  where
    one : (o : Option Ask) → length (filter_map f xs) ≤ length xs → length (cons_option o (filter_map f xs)) ≤ length (x ∷ xs)
    one None h = omega (arith, h)
    one (Some a) h = omega (arith, h)

-- the counts have room for the next call
pub can_count : {B : Type 0} (s : ReplayState) (p : Inside B) (a : Ask) → Keeps p p.at p.due p.missed → HasWalked s (seen p) → HasRoom a s
    → IsNext (seen p) a → CanCount a p.at
can_count s p a r w room next =
    let e = next_event (slice_get p.history p.at.events) a next in
    let within = (taken_next p.history p.at.events e.0 e.1).0 in
    let xs = take p.at.events p.history in (
      omega (arith, within, r.short),
      omega (arith, within, r.short, r.calls, fewer_asked ask_of xs, length-take-le p.at.events p.history (omega arith)),
      of a room,
    )
  where
    submits : count_by is_submit (passed_by (seen p)) ≡ count_by is_submit (passed_by s)
    submits = ap (count_by is_submit) w.behind.whole_is ∙ submits_stay (passed_by s) w.behind.rest w.behind.others

    helpers : count_by is_helper_new (passed_by (seen p)) ≡ count_by is_helper_new (passed_by s)
    helpers = ap (count_by is_helper_new) w.behind.whole_is ∙ helpers_stay (passed_by s) w.behind.rest w.behind.others

    of : (a : Ask) → HasRoom a s → CanCountAsk a p.at
    of (ask.Submit id work helper) h = omega (arith, h, r.submits, submits)
    of ask.Drain h = tt
    of (ask.HelperNew no') h = omega (arith, h, r.helpers, helpers)
    of (ask.HelperEnd no') h = tt
    of (ask.Answer q v) h = tt
    of ask.Close h = tt

-- what is kept once a call was passed that is no drain
pub expect_goes : {B : Type 0} (p : Inside B) (a : Ask) (at' : Progress) → Keeps p p.at p.due p.missed → p.missed ≡ None → IsNext (seen p) a
    → is_drain a ≡ false → at' ≡ counted a p.at → Keeps p at' p.due p.missed
expect_goes p a at' r none next no_drain now =
    let e = next_event (slice_get p.history p.at.events) a next in
    subst (λ x. Keeps p x p.due p.missed) (sym now)
    (keeps_counted p p.due e.0 a r none e.1 e.2 (sym ((event_of e.0 a e.2).same no_drain p.due)))

abbrev pub AreAlike : ReplayState → ReplayState → Type 0
AreAlike s s' = s' ≡ record s { passed = s'.passed; missed = s'.missed }

-- where each call has its reply before it went on, none was missed
pub none_before : {B : Type 0} (s : ReplayState) (p : Inside B) → Keeps p p.at p.due p.missed → AreAlike s (seen p)
    → IsOpen (asked_of s) (replied_of s) → s.missed ≡ None
none_before s p r same h =
    let legal : Legal s.threads s.askers s.history = subst (λ (x : ReplayState). Legal x.threads x.askers x.history) same r.legal in
    nothing_missed s (legal_take s.threads s.askers s.history s.passed legal) h

-- a call that is no drain was passed
pub expect_passes : {B : Type 0} (s : ReplayState) (p : Inside B) (a : Ask) (at' : Progress) → Keeps p p.at p.due p.missed → AreAlike s (seen p)
    → HasWalked s (seen p) → IsOpen (asked_of s) (replied_of s) → p.missed ≡ None → IsNext (seen p) a → is_drain a ≡ false → at' ≡ counted a p.at
    → HasPassedCall a s (record (seen p) { passed = at'.events })
expect_passes s p a at' r same w opened none next no_drain now =
    let e = next_event (slice_get p.history p.at.events) a next in
    let one = event_of e.0 a e.2 in
    let s' = record (seen p) { passed = at'.events } in
    let askers : p.askers ≡ s.askers = ap (λ (x : ReplayState). x.askers) same in
    let events : at'.events ≡ p.at.events + 1 = ap (λ (x : Progress). x.events) now ∙ (one.counts p.at).events in
    let reply = one.reply no_drain p.askers (take p.at.events p.history) in
    let free = none_before s p r same opened in
    let passed = call_passed s s' e.0 a (reply_for a (is_grant e.0)) p.at.events w.behind w.on askers free none e.1 e.2 reply events in
    (e.0, passed)

-- how many works were handed in, and how many helpers were asked for
pub submits_made : {B : Type 0} (p : Inside B) → Keeps p p.at p.due p.missed → IsOpen (asked_of (seen p)) (replied_of (seen p))
    → p.at.submits ≡ length (filter_map handed_by (asked_of (seen p)))
submits_made p r h =
    r.submits
    ∙ (submits_alike p.threads p.askers (passed_by (seen p)) (legal_take p.threads p.askers p.history p.at.events r.legal)
    ∙ ap (λ o. length (filter_map handed_by (with_missed (asks (passed_by (seen p))) o))) (sym (none_yet p r h)))

pub helpers_made : {B : Type 0} (p : Inside B) → Keeps p p.at p.due p.missed → IsOpen (asked_of (seen p)) (replied_of (seen p))
    → p.at.helpers ≡ length (filter_map helper_in (asked_of (seen p)))
helpers_made p r h =
    r.helpers
    ∙ (helpers_alike (passed_by (seen p)) ∙ ap (λ o. length (filter_map helper_in (with_missed (asks (passed_by (seen p))) o))) (sym (none_yet p r h)))

-- ---- a drain
-- what is kept once a drain was passed
pub drain_goes : {B : Type 0} (p : Inside B) (at' : Progress) (left : Arrived) → Keeps p p.at p.due p.missed → p.missed ≡ None
    → IsNext (seen p) ask.Drain → at' ≡ counted ask.Drain p.at → left ≡ record { works = []; requests = []; left = p.due.left }
    → Keeps p at' left p.missed
drain_goes p at' left r none next now is =
    let e = next_event (slice_get p.history p.at.events) ask.Drain next in
    subst (λ x. Keeps p x left p.missed) (sym now)
    (keeps_counted p left e.0 ask.Drain r none e.1 e.2 (is ∙ sym (drain_leaves e.0 p.due e.2)))

-- the calls and replies before it are those of what was passed then
pub record IsBeforeDrain {B : Type 0} (s : ReplayState) (p : Inside B) : Type 0 where
  pub legal : Legal p.threads p.askers (passed_by (seen p))
  pub askers : p.askers ≡ s.askers
  pub asked : asks (passed_by (seen p)) ≡ asked_of s
  pub replied : replies p.askers (passed_by (seen p)) ≡ replied_of s

pub before_drain : {B : Type 0} (s : ReplayState) (p : Inside B) → Keeps p p.at p.due p.missed → AreAlike s (seen p) → HasWalked s (seen p)
    → IsOpen (asked_of s) (replied_of s) → IsBeforeDrain s p
before_drain s p r same w opened =
    let calls = calls_behind s.askers (passed_by s) (passed_by (seen p)) w.behind in
    let askers : p.askers ≡ s.askers = ap (λ (x : ReplayState). x.askers) same in
    record {
      legal = legal_take p.threads p.askers p.history p.at.events r.legal;
      askers = askers;
      asked = calls.0 ∙ ap (with_missed (asks (passed_by s))) (sym (none_before s p r same opened));
      replied = ap (λ n. replies n (passed_by (seen p))) askers ∙ calls.1;
    }

pub drain_passes : {B : Type 0} (s : ReplayState) (p : Inside B) (at' : Progress) (into : Arrived) → Keeps p p.at p.due p.missed
    → AreAlike s (seen p) → HasWalked s (seen p) → IsOpen (asked_of s) (replied_of s) → p.missed ≡ None → IsNext (seen p) ask.Drain
    → at' ≡ counted ask.Drain p.at → into ≡ p.due
    → (asked_of (record (seen p) { passed = at'.events }) ≡ asked_of s ++ ask.Drain ∷ [])
    × (replied_of (record (seen p) { passed = at'.events }) ≡ replied_of s ++ Drained into ∷ [])
drain_passes s p at' into r same w opened none next now is =
    let e = next_event (slice_get p.history p.at.events) ask.Drain next in
    let xs = take p.at.events p.history in
    let s' = record (seen p) { passed = at'.events } in
    let before = before_drain s p r same w opened in
    let free = none_before s p r same opened in
    let events : at'.events ≡ p.at.events + 1 = ap (λ (x : Progress). x.events) now in
    let here = legal_there p.threads p.askers p.history p.at.events e.0 r.legal e.1 in
    let reply = drain_brings p.threads p.askers xs e.0 before.legal here e.2 ∙ ap (λ d. Drained d ∷ []) (sym (is ∙ r.due)) in
    let passed = call_passed s s' e.0 ask.Drain (Drained into) p.at.events w.behind w.on before.askers free none e.1 e.2 reply events in
    (passed.asked, passed.replied)

pub drain_arrives : {B : Type 0} (s : ReplayState) (p : Inside B) (into : Arrived) → IsBeforeDrain s p → into ≡ brought p.askers (passed_by (seen p))
    → Arrive (outstanding (asked_of s) (replied_of s)) into.works
drain_arrives s p into b is =
    subst (λ (x : List Ask × (List Reply × Arrived)). Arrive (outstanding x.0 x.1.0) x.1.1.works)
    (λ i. (b.asked i, (b.replied i, sym is i))) (arrives p.threads p.askers (passed_by (seen p)) b.legal)

pub drain_serves : {B : Type 0} (s : ReplayState) (p : Inside B) (into : Arrived) → IsBeforeDrain s p → into ≡ brought p.askers (passed_by (seen p))
    → Serves s.askers (asked_of s) (replied_of s) into
drain_serves s p into b is =
    subst (λ (x : (ℕ × List Ask) × (List Reply × Arrived)). Serves x.0.0 x.0.1 x.1.0 x.1.1)
    (λ i. ((b.askers i, b.asked i), (b.replied i, sym is i))) (serves p.threads p.askers (passed_by (seen p)) b.legal)

-- fewer events are left
pub drain_turns : {B : Type 0} (s : ReplayState) (p : Inside B) (at' : Progress) → Keeps p p.at p.due p.missed → AreAlike s (seen p)
    → HasWalked s (seen p) → IsNext (seen p) ask.Drain → at' ≡ counted ask.Drain p.at → length p.history - at'.events < length s.history - s.passed
drain_turns s p at' r same w next now =
    let e = next_event (slice_get p.history p.at.events) ask.Drain next in
    let within = (taken_next p.history p.at.events e.0 e.1).0 in
    omega (arith, within, w.on, ap (λ (x : Progress). x.events) now, ap (λ (x : ReplayState). length x.history) same)
