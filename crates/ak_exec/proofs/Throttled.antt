-- What holds of the throttles of every world.
use Rattle.std.proofs.Common.{ℕ, zero, suc, List, [], ◌∷◌, ◌++◌, length, map, take, drop, subst, sym, ap, arith, Bool, true, false}
use Rattle.std.specs.Prelude.{replicate}
use Rattle.std.specs.List.{AllByRecursion, AllZip}
use Rattle.ak_throttle.specs.declared.stage.Stage.{Stage}
use Rattle.ak_throttle.specs.declared.stage.Stage.TheVariants.{Over}
use Rattle.ak_throttle.specs.Throttle.{Throttle, running_count}
use Rattle.ak_throttle.specs.Seen.{stage_of, waits, behind}
use Rattle.ak_throttle.specs.Held.{HasStarted}
use Rattle.ak_throttle.proofs.Bodies.{running_same}
use Rattle.ak_program.specs.declared.program.NumProc.{NumProc}
use Rattle.ak_machine.specs.declared.held.Body.{Body}
use Rattle.ak_machine.specs.declared.held.Started.{Started}
use Rattle.ak_machine.specs.State.{State}
use Rattle.ak_state.specs.Drawn.{Drawn, drawn}
use Rattle.ak_state.specs.Fits.{ThrottleFits, Fits}
use Rattle.ak_exec.specs.Throttled.{HasLeft, IsStill, RunsInOrder, ThrottlesHold}

started_left : (overs : List Bool) (rest : List (Stage Body)) → AllByRecursion HasLeft (take (length overs) (map stage_of overs ++ rest))
started_left [] rest = tt
started_left (true ∷ overs) rest = (tt, started_left overs rest)
started_left (false ∷ overs) rest = (tt, started_left overs rest)

waiting_still : (bodies : List Body) → AllByRecursion IsStill (map waits bodies)
waiting_still [] = tt
waiting_still (body ∷ bodies) = (tt, waiting_still bodies)

lost_still : (lost : ℕ) → AllByRecursion IsStill (replicate lost Over)
lost_still zero = tt
lost_still (suc lost) = (tt, lost_still lost)

behind_still : (dead : Bool) (lost : ℕ) (bodies : List Body) → AllByRecursion IsStill (behind dead lost bodies)
behind_still false lost bodies = waiting_still bodies
behind_still true lost bodies = lost_still lost

others_still : (overs : List Bool) (rest : List (Stage Body)) → AllByRecursion IsStill rest
    → AllByRecursion IsStill (drop (length overs) (map stage_of overs ++ rest))
others_still [] rest h = h
others_still (over ∷ overs) rest h = others_still overs rest h

holds_by : (t : Throttle Body) (started : List Started) → HasStarted t (length started) → RunsInOrder t started
holds_by t started h = record {
  few = omega (
    arith,
    h.few,
    running_same h.dead h.overs h.lost h.bodies,
    ap (λ (x : Throttle Body). running_count x) h.is,
    ap (λ (x : Throttle Body). x.most) h.is,
  );
  first =
      subst (λ n. AllByRecursion HasLeft (take n t.bodies)) h.started
      (subst (λ (x : Throttle Body). AllByRecursion HasLeft (take (length h.overs) x.bodies)) (sym h.is)
      (started_left h.overs (behind h.dead h.lost h.bodies)));
  behind =
      subst (λ n. AllByRecursion IsStill (drop n t.bodies)) h.started
      (subst (λ (x : Throttle Body). AllByRecursion IsStill (drop (length h.overs) x.bodies)) (sym h.is)
      (others_still h.overs (behind h.dead h.lost h.bodies) (behind_still h.dead h.lost h.bodies)));
}

all_hold : (program : List NumProc) (n : Drawn) (xs : List (Throttle Body)) (ys : List (List Started)) → AllZip (ThrottleFits program n) xs ys
    → AllZip RunsInOrder xs ys
all_hold program n [] [] z = tt
all_hold program n [] (y ∷ ys) z = absurd z
all_hold program n (x ∷ xs) [] z = absurd z
all_hold program n (x ∷ xs) (y ∷ ys) z = (holds_by x y z.0.so_many, all_hold program n xs ys z.1)

pub they_hold : (program : List NumProc) (s : State) → Fits program s → ThrottlesHold s
they_hold program s f = all_hold program (drawn s) s.throttles s.started f.throttles
