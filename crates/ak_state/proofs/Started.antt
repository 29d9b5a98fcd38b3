-- The bodies of a throttle that have started, with mapped names.
use Rattle.std.proofs.Common.{◌≡◌, ℕ, zero, suc, List, [], ◌∷◌, ◌++◌, length, map, refl, ap, sym, ◌∙◌, subst, arith, Bool, true, false}
use Rattle.std.specs.Prelude.{replicate}
use Rattle.std.proofs.lemmas.List.{map-append, length-map}
use Rattle.ak_throttle.specs.declared.stage.Stage.{Stage}
use Rattle.ak_throttle.specs.declared.stage.Stage.TheVariants as stage
use Rattle.ak_throttle.specs.declared.stage.Mark.{Mark}
use Rattle.ak_throttle.specs.Throttle.{Throttle}
use Rattle.ak_throttle.specs.Seen.{stage_of, waits, behind, bodies_of, dropped_of, throttle_of}
use Rattle.ak_throttle.specs.Held.{HasStarted}
use Rattle.ak_machine.specs.declared.held.Body.{Body}
use Rattle.ak_machine.specs.declared.held.Fate.{Fate}
use Rattle.ak_machine.specs.declared.held.Fate.TheVariants.{Undecided, Failing, Over}
use Rattle.ak_machine.specs.declared.held.Started.{Started}
use Rattle.ak_machine.specs.Mapped.{body_mapped, stage_mapped, mark_mapped, throttle_mapped, started_mapped}
use Rattle.ak_state.specs.Fits.{StandsAt, StandAt}

stages_mapped : (f : ℕ → ℕ) (overs : List Bool) → map (stage_mapped f) (map stage_of overs) ≡ map stage_of overs
stages_mapped f [] = refl
stages_mapped f (true ∷ overs) = ap (λ r. stage.Over ∷ r) (stages_mapped f overs)
stages_mapped f (false ∷ overs) = ap (λ r. stage.Running ∷ r) (stages_mapped f overs)

waits_mapped : (f : ℕ → ℕ) (bodies : List Body) → map (stage_mapped f) (map waits bodies) ≡ map waits (map (body_mapped f) bodies)
waits_mapped f [] = refl
waits_mapped f (body ∷ bodies) = ap (λ r. stage.Waiting (body_mapped f body) ∷ r) (waits_mapped f bodies)

lost_mapped : (f : ℕ → ℕ) (lost : ℕ) → map (stage_mapped f) (replicate lost stage.Over) ≡ replicate lost stage.Over
lost_mapped f zero = refl
lost_mapped f (suc lost) = ap (λ r. stage.Over ∷ r) (lost_mapped f lost)

behind_mapped : (f : ℕ → ℕ) (dead : Bool) (lost : ℕ) (bodies : List Body)
    → map (stage_mapped f) (behind dead lost bodies) ≡ behind dead lost (map (body_mapped f) bodies)
behind_mapped f false lost bodies = waits_mapped f bodies
behind_mapped f true lost bodies = lost_mapped f lost

dropped_by : (f : ℕ → ℕ) (dead : Bool) (bodies : List Body) → map (body_mapped f) (dropped_of dead bodies) ≡ dropped_of dead (map (body_mapped f) bodies)
dropped_by f false bodies = refl
dropped_by f true bodies = refl

of_mapped : (f : ℕ → ℕ) (most : ℕ) (stop dead : Bool) (overs : List Bool) (lost : ℕ) (bodies : List Body) (marks : List Mark)
    → throttle_mapped f (throttle_of most stop dead overs lost bodies marks)
    ≡ throttle_of most stop dead overs lost (map (body_mapped f) bodies) (map (mark_mapped f) marks)
of_mapped f most stop dead overs lost bodies marks =
    ap (λ stages. record {
      most = most;
      stop = stop;
      dead = dead;
      bodies = stages;
      dropped = map (body_mapped f) (dropped_of dead bodies);
      marks = map (mark_mapped f) marks;
    })
    (map-append (stage_mapped f) (map stage_of overs) (behind dead lost bodies)
    ∙ ap (λ front. front ++ map (stage_mapped f) (behind dead lost bodies)) (stages_mapped f overs)
    ∙ ap (λ back. map stage_of overs ++ back) (behind_mapped f dead lost bodies))
    ∙ ap (λ dropped. record {
      most = most;
      stop = stop;
      dead = dead;
      bodies = bodies_of dead overs lost (map (body_mapped f) bodies);
      dropped = dropped;
      marks = map (mark_mapped f) marks;
    }) (dropped_by f dead bodies)

has_mapped : (f : ℕ → ℕ) (x : Throttle Body) (n : ℕ) → HasStarted x n → HasStarted (throttle_mapped f x) n
has_mapped f x n h = record {
  most = h.most;
  stop = h.stop;
  dead = h.dead;
  overs = h.overs;
  lost = h.lost;
  bodies = map (body_mapped f) h.bodies;
  marks = map (mark_mapped f) h.marks;
  is = ap (throttle_mapped f) h.is ∙ of_mapped f h.most h.stop h.dead h.overs h.lost h.bodies h.marks;
  few = h.few;
  full = λ d l. h.full d (omega (arith, l, length-map h.bodies (body_mapped f)));
  started = h.started;
}

-- as many have started
pub started_so_many : (f : ℕ → ℕ) (x : Throttle Body) (started : List Started) → HasStarted x (length started)
    → HasStarted (throttle_mapped f x) (length (map (started_mapped f) started))
started_so_many f x started h =
    subst (HasStarted (throttle_mapped f x)) (sym (length-map started (started_mapped f))) (has_mapped f x (length started) h)

-- and those that run stand where they stood
stands_mapped : (f : ℕ → ℕ) (fate : Fate) (x : Stage Body) → StandsAt fate x → StandsAt fate (stage_mapped f x)
stands_mapped f Undecided x h = ap (stage_mapped f) h
stands_mapped f Failing x h = ap (stage_mapped f) h
stands_mapped f Over x h = tt

pub stand_mapped : (f : ℕ → ℕ) (started : List Started) (stages : List (Stage Body)) → StandAt started stages
    → StandAt (map (started_mapped f) started) (map (stage_mapped f) stages)
stand_mapped f [] stages h = tt
stand_mapped f (x ∷ started) [] h = absurd h
stand_mapped f (x ∷ started) (y ∷ stages) h = (stands_mapped f x.fate y h.0, stand_mapped f started stages h.1)
