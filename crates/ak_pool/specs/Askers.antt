-- What a pool keeps of its askers and of their requests beside its history, so that it need not look at the history again. Own.
use Rattle.std.specs.Prelude.{ℕ, ℤ, pos, ◌+◌, ◌≡◌, ◌<◌, List, [], ◌∷◌, ◌++◌, length, drop, sum_by, count_by, slice_index_or, slice_set, replicate, Bool, true, false, not, Some, None, is_some, is_none, if◌then◌else◌}
use Rattle.ak_history.specs.Events.{Asking}
use Rattle.ak_pool.specs.declared.requests.Asker.{Asker}
use Rattle.ak_pool.specs.declared.requests.Made.{Made}

-- the askers, the requests that were made, how many of these were fetched, and whether an asker has ended since the last drain
pub record RequestsState : Type 0 where
  pub askers : List Asker
  pub made : List Made
  pub fetched : ℕ
  pub untold : Bool

-- an asker that has asked nothing
abbrev pub no_asker : Asker
no_asker = record { waits_for = None; ended = false }

abbrev pub no_request : Made
no_request = record { no = 0; asker = 0; num = pos 0; answer = None }

abbrev pub nothing_asked : ℕ → RequestsState
nothing_asked askers = record { askers = replicate askers no_asker; made = []; fetched = 0; untold = false }

abbrev pub asker_at : RequestsState → ℕ → Asker
asker_at s a = slice_index_or s.askers a no_asker

abbrev pub made_at : RequestsState → ℕ → Made
made_at s q = slice_index_or s.made q no_request

abbrev pub asker_put : ℕ → Asker → RequestsState → RequestsState
asker_put a asker s = record s { askers = slice_set s.askers a asker }

-- the request that is made next
abbrev pub next_made : ℕ → ℤ → RequestsState → Made
next_made a n s = record { no = length s.made; asker = a; num = n; answer = None }

-- the asker makes a request
abbrev pub with_request : ℕ → ℤ → RequestsState → RequestsState
with_request a n s =
    record (asker_put a (record (asker_at s a) { waits_for = Some (length s.made) }) s) { made = s.made ++ next_made a n s ∷ [] }

-- the request gets its answer
abbrev pub with_answer : ℕ → ℤ → RequestsState → RequestsState
with_answer q v s =
    let a : ℕ = (made_at s q).asker in
    record (asker_put a (record (asker_at s a) { waits_for = None }) s) { made = slice_set s.made q (record (made_at s q) { answer = Some v }) }

-- the asker ends
abbrev pub with_end : ℕ → RequestsState → RequestsState
with_end a s = record (asker_put a (record (asker_at s a) { ended = true }) s) { untold = true }

-- every request and every end is fetched
abbrev pub all_fetched : RequestsState → RequestsState
all_fetched s = record s { fetched = length s.made; untold = false }

-- the requests that were not fetched
abbrev pub unfetched_of : RequestsState → List Made
unfetched_of s = drop s.fetched s.made

-- how many askers have not ended
abbrev pub left_of : RequestsState → ℕ
left_of s = count_by (λ a. not a.ended) s.askers

-- an asker that has not ended and waits for no answer
abbrev pub IsFree : RequestsState → ℕ → Type 0
IsFree s a = (a < length s.askers) × ((asker_at s a).ended ≡ false) × ((asker_at s a).waits_for ≡ None)

-- a request that was fetched and is not answered
abbrev pub IsUnanswered : RequestsState → ℕ → Type 0
IsUnanswered s q = (q < s.fetched) × ((made_at s q).answer ≡ None)

-- a request without an answer, and an asker that waits for one
abbrev pub is_bare : Made → Bool
is_bare m = is_none m.answer

abbrev pub is_waiting : Asker → Bool
is_waiting a = is_some a.waits_for

-- how many events are still to come of an asker: its end, and the answer for which it waits
abbrev pub asker_due : Asker → ℕ
asker_due a = (if a.ended then 0 else 1) + (if is_some a.waits_for then 1 else 0)

abbrev pub due_of : RequestsState → ℕ
due_of s = sum_by asker_due s.askers

abbrev pub asking_of : Made → Asking
asking_of r = record { no = r.no; asker = r.asker; num = r.num }

abbrev pub pair_of : Made → ℕ × ℤ
pair_of r = (r.no, r.num)

-- the asker of a request without an answer waits for it
pub record IsWaitedFor (s : RequestsState) (q : ℕ) : Type 0 where
  pub exists : (made_at s q).asker < length s.askers
  pub waits : (asker_at s (made_at s q).asker).waits_for ≡ Some q

-- an asker waits for a request of its own without an answer
pub record IsWaiting (s : RequestsState) (a q : ℕ) : Type 0 where
  pub made : q < length s.made
  pub own : (made_at s q).asker ≡ a
  pub unanswered : (made_at s q).answer ≡ None

-- the askers wait for just the requests without an answer
pub record AreTied (s : RequestsState) : Type 0 where
  pub waited_for : (q : ℕ) → q < length s.made → (made_at s q).answer ≡ None → IsWaitedFor s q
  pub waiting : (a q : ℕ) → (asker_at s a).waits_for ≡ Some q → IsWaiting s a q
