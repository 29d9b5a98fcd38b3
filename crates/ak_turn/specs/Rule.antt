-- The rule of a turn, which every step keeps.
-- Word 0 of the table is the next ticket and word 1 the ticket served, both modulo 2^64, and word 2 is the length of the log. The one slot
-- has the value. In the rule tickets count on without end.
use Rattle.std.specs.Prelude.{◌≡◌, ℕ, ◌+◌, ◌%◌, ◌^◌, ◌<◌, ◌≤◌, ◌⊎◌, ◌==◌, true, false, cond, List, [], ◌∷◌, ◌++◌, length, Option, Some, None}
use mathlib.Core.Option.{some, none}
use mathlib.Core.Option as maybe
use lib.ListN.{get_elem?}
use Rattle.atomic_table.specs.Table.{State}
use Rattle.ak_turn.specs.declared.view.View.{View}
use Rattle.ak_turn.specs.declared.view.PassState.{PassState}
use Rattle.ak_turn.specs.Entries.{Each, SomeOf, total, times, events, events_by, IsAllowed}

-- 1 where there is a ticket
abbrev pub ticket_count : Option ℕ → ℕ
ticket_count None = 0
ticket_count (Some t) = 1

-- 1 where it is the ticket t
abbrev pub ticket_count_at : ℕ → Option ℕ → ℕ
ticket_count_at t None = 0
ticket_count_at t (Some u) = cond (u == t) 1 0

module _ {E : Type 0} where
  -- how many tickets a view has
  abbrev pub tickets : View E → ℕ
  tickets v = ticket_count v.ticket

  -- how many that are the ticket t
  abbrev pub tickets_at : ℕ → View E → ℕ
  tickets_at t v = ticket_count_at t v.ticket

  -- the view has the ticket of which this is the remainder modulo 2^64
  abbrev pub HasTicket : View E → ℕ → Type 0
  HasTicket v r = (t : ℕ) × (v.ticket ≡ Some t) × (r ≡ t % 2 ^ 64)

  -- the view has neither ticket nor turn
  abbrev pub IsIdle : View E → Type 0
  IsIdle v = (v.ticket ≡ None) × (v.has_turn ≡ false)

  -- how many numbers a pass has, with the spare ones
  abbrev pub share : PassState E → ℕ
  share p = 1 + length p.spare

  -- how many the passes of a view have
  abbrev pub shares : View E → ℕ
  shares v = total share v.passes

  -- the numbers of a pass
  abbrev pub numbers_of : PassState E → List ℕ
  numbers_of p = p.number ∷ p.spare

  -- how often a number stands among those of a view's passes
  abbrev pub times_in : ℕ → View E → ℕ
  times_in n v = total (λ p. times n (numbers_of p)) v.passes

  -- The tickets that are out are the numbers from the one served to the last one drawn. One view has each.
  pub record TicketsKept (served next : ℕ) (views : List (View E)) : Type 0 where
    pub one : (t : ℕ) → served ≤ t → t < next → total (tickets_at t) views ≡ 1
    pub below : (t : ℕ) → t < served → total (tickets_at t) views ≡ 0
    pub above : (t : ℕ) → next ≤ t → total (tickets_at t) views ≡ 0
    pub all : served + total tickets views ≡ next

  -- The log begins with what the pass has seen. Its own events are those of its number, in the log as in what it has seen. No entry has a spare number.
  pub record KnowsLog (log : List (ℕ × E)) (p : PassState E) : Type 0 where
    pub rest : List (ℕ × E)
    pub begins : log ≡ p.seen ++ rest
    pub own : events_by p.number log ≡ p.mine
    pub own_seen : events_by p.number p.seen ≡ p.mine
    pub spares : Each (λ n. events_by n log ≡ []) p.spare

  -- some pass has seen the whole log
  abbrev pub IsSeenWhole : List (ℕ × E) → List (View E) → Type 0
  IsSeenWhole log views = (j : ℕ) × (v : View E) × (get_elem? views j ≡ some v) × SomeOf (λ p. p.seen ≡ log) v.passes

  -- The passes have the numbers of the key, each once. Each entry of the log is allowed. Some pass has seen the whole log, and each knows
  -- it as far as it has seen.
  pub record LogKept (may : ℕ → E → Type 0) (key : List ℕ) (log : List (ℕ × E)) (views : List (View E)) : Type 0 where
    pub numbers : (n : ℕ) → total (times_in n) views ≡ times n key
    pub distinct : (n : ℕ) → times n key ≤ 1
    pub allowed : Each (IsAllowed may key) log
    pub short : length log < 2 ^ 63
    pub whole : IsSeenWhole log views
    pub known : (j : ℕ) (v : View E) → get_elem? views j ≡ some v → Each (KnowsLog log) v.passes

  -- a view with these passes that does not wait
  abbrev pub idle : List ℕ → List (PassState E) → View E
  idle numbers passes = record { numbers = numbers; passes = passes; ticket = None; has_turn = false; was = [] }

  -- a view with no pass, as one that is spent
  abbrev pub without_pass : List ℕ → View E
  without_pass numbers = idle numbers []

  -- a pass with these numbers, the first its own and the others spare, that has seen these entries
  abbrev pub new_pass : List ℕ → List (ℕ × E) → List (PassState E)
  new_pass [] seen = []
  new_pass (n ∷ ns) seen = record { number = n; spare = ns; seen = seen; mine = [] } ∷ []

  -- the view at the start: one pass has every number
  abbrev pub newcomer : List ℕ → View E
  newcomer key = idle key (new_pass key [])

module _ {G E : Type 0} where
  -- A view with passes knows the key. One without has no ticket. The one with the turn has the ticket served and the log, and the slot is away.
  pub record ViewKept (key : List ℕ) (log : List (ℕ × E)) (served : ℕ) (homes : List (maybe.Option (Option G))) (v : View E) : Type 0 where
    pub numbers : 1 ≤ shares v → v.numbers ≡ key
    pub waits : tickets v ≤ shares v
    pub holder : v.has_turn ≡ true → (v.ticket ≡ Some served) × (homes ≡ none ∷ []) × (v.was ≡ log)

  -- the slot is away, and some view has the turn
  abbrev pub IsAway : List (maybe.Option (Option G)) → List (View E) → Type 0
  IsAway homes views = (homes ≡ none ∷ []) × ((j : ℕ) × (v : View E) × (get_elem? views j ≡ some v) × (v.has_turn ≡ true))

  module _ (log_of : G → List E) (may : ℕ → E → Type 0) (fits : G → List ℕ → Type 0) where
    -- the slot is at home, with a value that fits the key and has this log
    abbrev pub IsHome : List ℕ → List (ℕ × E) → List (maybe.Option (Option G)) → Type 0
    IsHome key log homes = (x : G) × (homes ≡ some (Some x) ∷ []) × fits x key × (log_of x ≡ events log)

    -- the rule
    pub record TurnKept (key : List ℕ) (s : State (Option G) (View E)) : Type 0 where
      pub log : List (ℕ × E)
      pub next : ℕ
      pub served : ℕ
      pub words : s.words ≡ next % 2 ^ 64 ∷ served % 2 ^ 64 ∷ length log ∷ []
      pub few : length key < 2 ^ 32
      pub shared : total shares s.views ≡ length key
      pub queue : TicketsKept served next s.views
      pub each : (j : ℕ) (v : View E) → get_elem? s.views j ≡ some v → ViewKept key log served s.homes v
      pub book : LogKept may key log s.views
      pub slot : IsHome key log s.homes ⊎ IsAway s.homes s.views
