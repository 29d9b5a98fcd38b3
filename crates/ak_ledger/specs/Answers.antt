-- Which answers to requests are to come. The answer of a request is one frame: it waits for the request's deferred, is then
-- enqueued, is picked, and runs. Own.
use Rattle.std.specs.Prelude.{ℕ, ◌+◌, ◌≤◌, ◌≡◌, List, [], ◌∷◌, ◌==◌, Option, Some, None, if◌then◌else◌}
use Rattle.ak_frames.specs.declared.frame.Frame.{Frame}
use Rattle.ak_frames.specs.declared.frame.Frame.TheVariants.{AnswerOut}
use Rattle.ak_frames.specs.declared.frame.Task.{Task}
use Rattle.ak_cells.specs.declared.registration.Registration.{Registration}
use Rattle.ak_rings.specs.declared.job.Job.{Job}
use Rattle.ak_machine.specs.declared.held.Requested.{Requested}
use Rattle.ak_machine.specs.State.{State}
use Rattle.ak_machine.specs.Works.{is_unanswered, request_at}
use Rattle.ak_holders.specs.Holders.{total}

-- ---- how many times each of these answers the request
abbrev pub frame_answers : ℕ → Frame → ℕ
frame_answers q (AnswerOut p) = if p == q then 1 else 0
frame_answers q frame = 0

abbrev pub handler_answers : ℕ → Registration Frame → ℕ
handler_answers q g = frame_answers q g.frame

abbrev pub job_answers : ℕ → Job Task → ℕ
job_answers q job = frame_answers q job.frame.frame

-- what waits in a state, beside the frames in hand
abbrev pub answers_to : ℕ → List Frame → State → ℕ
answers_to q hand s =
    total (frame_answers q) hand
    + total (handler_answers q) s.cells.registrations
    + total (job_answers q) s.queues.normal
    + total (job_answers q) s.queues.low

-- 1 where the request has come and has no answer
abbrev pub owed_to : ℕ → State → ℕ
owed_to q s = if is_unanswered (request_at q s) then 1 else 0

-- the requests have the numbers from n on
abbrev pub NumberedFrom : ℕ → List Requested → Type 0
NumberedFrom n [] = Unit {0}
NumberedFrom n (request ∷ requests) = (request.number ≡ n) × NumberedFrom (n + 1) requests

-- each request stands under its number; one that has no answer is answered by one frame at the most, and any other by none
pub record AnswersAreOwed (hand : List Frame) (s : State) : Type 0 where
  pub numbered : NumberedFrom 0 s.requests
  pub once : (q : ℕ) → answers_to q hand s ≤ owed_to q s

-- the frame of the job that was picked, where there is one
abbrev pub hand_of : Option (Job Task) → List Frame
hand_of None = []
hand_of (Some job) = job.frame.frame ∷ []
