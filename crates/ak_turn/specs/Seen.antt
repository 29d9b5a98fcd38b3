-- A turn, its passes and what a holder has, as callers see them.
use Rattle.std.specs.Prelude.{◌≡◌, ℕ, ◌+◌, Bool, true, false, List, [], ◌∷◌, ◌++◌, length, Option, None}
use Rattle.atomic_table.specs.Table.{Me}
use Rattle.atomic_table.specs.Seated.{TableId}
use Rattle.ak_turn.specs.declared.view.View.{View}
use Rattle.ak_turn.specs.declared.view.PassState.{PassState}
use Rattle.ak_turn.specs.Rule.{HasTicket}
use Rattle.ak_turn.specs.Entries.{Each, SomeOf, events, events_by, entries, IsLog}

-- a turn: which it is, and its list of numbers
pub record TurnView : Type 0 where
  pub id : TableId
  pub numbers : List ℕ

-- a pass: the turn that it belongs to, its number and its spare numbers, the entries that it has seen, its own events among them, whether
-- it has the turn, and with the turn the log
pub record PassView (E : Type 0) : Type 0 where
  pub id : TableId
  pub numbers : List ℕ
  pub number : ℕ
  pub spare : List ℕ
  pub seen : List (ℕ × E)
  pub mine : List E
  pub has_turn : Bool
  pub was : List (ℕ × E)

-- what a holder has: the turn that it came from, the number of its pass, the log as it entered, and the value
pub record HeldView (G E : Type 0) : Type 0 where
  pub id : TableId
  pub number : ℕ
  pub was : List (ℕ × E)
  pub value : G

module _ {E : Type 0} where
  -- the pass belongs to the turn
  abbrev pub IsOf : TurnView → PassView E → Type 0
  IsOf t p = (p.id ≡ t.id) × (p.numbers ≡ t.numbers)

  -- the pass belongs to the turn and does not hold it
  abbrev pub IsIdleOf : TurnView → PassView E → Type 0
  IsIdleOf t p = IsOf t p × (p.has_turn ≡ false)

  -- a pass of this number that has seen these entries and given no event
  abbrev pub new_pass_of : TurnView → ℕ → List ℕ → List (ℕ × E) → PassView E
  new_pass_of t n spare seen = record { id = t.id; numbers = t.numbers; number = n; spare = spare; seen = seen; mine = []; has_turn = false; was = [] }

  -- the pass with the turn, and the log then
  abbrev pub entered : PassView E → List (ℕ × E) → PassView E
  entered p log = record p { has_turn = true; was = log }

  -- the pass after it gave these events and left
  abbrev pub left : PassView E → List (ℕ × E) → List E → PassView E
  left p log es = record p { seen = log ++ entries p.number es; mine = p.mine ++ es; has_turn = false; was = [] }

  -- The log begins with what the pass has seen and goes on with entries of other numbers. Its own events are those of its number.
  pub record Extends (p : PassView E) (log : List (ℕ × E)) : Type 0 where
    pub rest : List (ℕ × E)
    pub begins : log ≡ p.seen ++ rest
    pub others : events_by p.number rest ≡ []
    pub own : events_by p.number log ≡ p.mine

  -- how many numbers a pass has, with the spare ones
  abbrev pub number_count : PassView E → ℕ
  number_count p = 1 + length p.spare

  -- The value fits the numbers and has the log. Each entry is allowed. Some pass has seen the whole log, and it extends what each pass has seen.
  pub record IsWhole {G : Type 0} (log_of : G → List E) (may : ℕ → E → Type 0) (fits : G → List ℕ → Type 0) (numbers : List ℕ)
      (ps : List (PassView E)) (x : G) : Type 0 where
    pub log : List (ℕ × E)
    pub fit : fits x numbers
    pub logged : log_of x ≡ events log
    pub allowed : IsLog may numbers log
    pub longest : SomeOf (λ p. p.seen ≡ log) ps
    pub known : Each (λ p. Extends p log) ps

  -- the view of a seat that has this one pass
  abbrev pub pass_view_of : TableId → List ℕ → Bool → List (ℕ × E) → List (PassState E) → PassView E
  pass_view_of id numbers has was [] = record { id = id; numbers = numbers; number = 0; spare = []; seen = []; mine = []; has_turn = has; was = was }
  pass_view_of id numbers has was (k ∷ ks) = record {
    id = id;
    numbers = numbers;
    number = k.number;
    spare = k.spare;
    seen = k.seen;
    mine = k.mine;
    has_turn = has;
    was = was;
  }

  -- what callers see of a seat's view
  abbrev pub pass_view : TableId → View E → PassView E
  pass_view id v = pass_view_of id v.numbers v.has_turn v.was v.passes

  -- a pass that does not hold the turn, as its seat knows it
  abbrev pub idle_pass : TurnView → PassState E → PassView E
  idle_pass t k = record { id = t.id; numbers = t.numbers; number = k.number; spare = k.spare; seen = k.seen; mine = k.mine; has_turn = false; was = [] }

  -- such passes
  abbrev pub idle_passes : TurnView → List (PassState E) → List (PassView E)
  idle_passes t [] = []
  idle_passes t (k ∷ ks) = idle_pass t k ∷ idle_passes t ks

-- the first number, or 0
abbrev pub first_number : List ℕ → ℕ
first_number [] = 0
first_number (n ∷ ns) = n

-- what callers see of a held value, from the view of its seat
abbrev pub held_view : {G E : Type 0} → TableId → View E → G → HeldView G E
held_view id v x = record { id = id; number = first_number v.numbers; was = v.was; value = x }

-- A seat of a table with three words and one slot.
abbrev pub SitsAt : TableId → TableId → Type 0
SitsAt table seat = (table.words ≡ 3) × (table.slots ≡ 1) × (seat ≡ table)

module _ {G E : Type 0} where
  -- A seat with one pass. Without the turn it has no ticket and no slot. With it, it has its ticket, of which the remainder is kept, and the empty slot.
  pub record IsPass (m : Me (Option G) (View E)) (ticket : ℕ) : Type 0 where
    pub only : (k : PassState E) × (m.0.passes ≡ k ∷ [])
    pub idle : m.0.has_turn ≡ false → (m.0.ticket ≡ None) × (m.1 ≡ []) × (m.0.was ≡ [])
    pub holds : m.0.has_turn ≡ true → (m.1 ≡ (0, None) ∷ []) × HasTicket m.0 ticket
