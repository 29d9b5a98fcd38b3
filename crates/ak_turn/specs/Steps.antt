-- What each kind of step of a turn tells the seat that takes it.
use Rattle.std.specs.Prelude.{◌≡◌, ◌≢◌, ℕ, ◌%◌, ◌^◌, true, List, [], ◌∷◌, ◌++◌, length, take, drop, Option, Some, None}
use Rattle.atomic_table.specs.Table.{Me, Step, rest}
use Rattle.ak_turn.specs.declared.view.View.{View}
use Rattle.ak_turn.specs.declared.view.PassState.{PassState}
use Rattle.ak_turn.specs.Entries.{Each, SomeOf, events, entries, IsLog}
use Rattle.ak_turn.specs.Rule.{KnowsLog, idle, without_pass, new_pass}

module _ {E : Type 0} where
  -- with a ticket
  abbrev pub with_ticket : View E → ℕ → View E
  with_ticket v t = record v { ticket = Some t }

  -- with the turn, and the log as it is then
  abbrev pub with_turn : View E → List (ℕ × E) → View E
  with_turn v log = record v { has_turn = true; was = log }

  -- with neither ticket nor turn
  abbrev pub handed_on : View E → View E
  handed_on v = idle v.numbers v.passes

  -- with other passes
  abbrev pub with_passes : View E → List (PassState E) → View E
  with_passes v ps = record v { passes = ps }

  -- the first pass after it added these events to the log
  abbrev pub with_events : List (PassState E) → List (ℕ × E) → List E → List (PassState E)
  with_events [] log es = []
  with_events (p ∷ ps) log es = record p { seen = log ++ entries p.number es; mine = p.mine ++ es } ∷ ps

  -- the log after that
  abbrev pub grown : List (PassState E) → List (ℕ × E) → List E → List (ℕ × E)
  grown [] log es = log
  grown (p ∷ ps) log es = log ++ entries p.number es

  -- the holder's view after it logged these events
  abbrev pub logged : View E → List E → View E
  logged v es = record v { passes = with_events v.passes v.was es; was = grown v.passes v.was es }

  -- the pass after it gave its first spare number
  abbrev pub kept_passes : List (PassState E) → List (PassState E)
  kept_passes [] = []
  kept_passes (p ∷ ps) = record p { spare = drop 1 p.spare } ∷ ps

  -- the new pass of that number
  abbrev pub given_passes : List (PassState E) → List (PassState E)
  given_passes [] = []
  given_passes (p ∷ ps) = new_pass (take 1 p.spare) p.seen

  -- a split: the view that gives the number
  abbrev pub keeper : View E → View E
  keeper v = with_passes v (kept_passes v.passes)

  -- the view that takes it
  abbrev pub taker : View E → View E
  taker v = idle v.numbers (given_passes v.passes)

  -- the number of the first pass
  abbrev pub number_of : List (PassState E) → ℕ
  number_of [] = 0
  number_of (p ∷ ps) = p.number

  -- what is shown of a pass: its number, and the log
  abbrev pub shown : View E → View E
  shown v = record (without_pass (number_of v.passes ∷ [])) { was = v.was }

  -- a join: the passes of both
  abbrev pub gathered : View E → View E → View E
  gathered v w = with_passes v (v.passes ++ w.passes)

module _ {G E : Type 0} where
  -- the ticket that is drawn is the next
  abbrev pub Draws : Step (Option G) → Me (Option G) (View E) → ℕ → Me (Option G) (View E) → Type 0
  Draws st m r m' = (t : ℕ) × (m' ≡ (with_ticket m.0 t, m.1)) × (r ≡ t % 2 ^ 64)

  -- the slot is given back, and the seat has neither ticket nor turn
  abbrev pub HandsOn : Step (Option G) → Me (Option G) (View E) → ℕ → Me (Option G) (View E) → Type 0
  HandsOn st m r m' = m' ≡ (handed_on m.0, rest m.1)

  module _ (log_of : G → List E) where
    -- what the value in the slot has beyond this log
    abbrev pub news : List (ℕ × E) → List (ℕ × Option G) → List E
    news log [] = []
    news log ((i, None) ∷ xs) = []
    news log ((i, Some x) ∷ xs) = drop (length log) (log_of x)

    -- the holder's view after it logged what this value has beyond the log
    abbrev pub logged_as : View E → G → View E
    logged_as v x = logged v (drop (length v.was) (log_of x))

    -- the log has what is new in the value then, and each entry is allowed
    abbrev pub Logs : (ℕ → E → Type 0) → Step (Option G) → Me (Option G) (View E) → ℕ → Me (Option G) (View E) → Type 0
    Logs may st m r m' = (m' ≡ (logged m.0 (news m.0.was m.1), m.1)) × IsLog may m.0.numbers m'.0.was

    module _ (may : ℕ → E → Type 0) (fits : G → List ℕ → Type 0) where
      -- what comes with the turn: the value in the slot, which fits, and the log, which is the value's
      abbrev pub Entered : Me (Option G) (View E) → Me (Option G) (View E) → Type 0
      Entered m m' = (x : G) × (log : List (ℕ × E)) × (m' ≡ (with_turn m.0 log, (0, Some x) ∷ m.1)) × fits x m.0.numbers
          × (log_of x ≡ events log) × IsLog may m.0.numbers log × Each (KnowsLog log) m.0.passes

      -- where the seat's ticket is served it has the turn then, and else nothing has changed
      abbrev pub Looks : Step (Option G) → Me (Option G) (View E) → ℕ → Me (Option G) (View E) → Type 0
      Looks st m r m' = (t : ℕ) → m.0.ticket ≡ Some t → (r ≡ t % 2 ^ 64 → Entered m m') × (r ≢ t % 2 ^ 64 → m' ≡ m)

      -- the holder may give this value back: it fits, and its log is the log with events that the pass may give
      abbrev pub MayLeave : Me (Option G) (View E) → PassState E → G → Type 0
      MayLeave m p x = fits x m.0.numbers × (log_of x ≡ events m.0.was ++ drop (length m.0.was) (log_of x))
          × Each (may p.number) (drop (length m.0.was) (log_of x))

      -- at the end, with the passes of all numbers: the value fits and has the log, which some pass has seen whole
      abbrev pub IsAll : List ℕ → List (PassState E) → G → Type 0
      IsAll key ps x = (log : List (ℕ × E)) × fits x key × (log_of x ≡ events log) × IsLog may key log × SomeOf (λ p. p.seen ≡ log) ps × Each (KnowsLog log) ps
