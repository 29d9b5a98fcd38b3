-- Each step of a throttle keeps what every throttle keeps.
use Rattle.std.proofs.Common.{ℕ, ◌+◌, ◌-◌, ◌<◌, ◌≤◌, ◌≡◌, ◌^◌, List, [], ◌∷◌, ◌++◌, map, length, refl, ap, sym, ◌∙◌, subst, Bool, true, false, cond, arith, inl, inr, length-append}
use Rattle.std.specs.Prelude.{not, nat_le, count_by}
use Rattle.std.proofs.lemmas.Bool.{true≢false, cases_lt}
use Rattle.std.proofs.lemmas.List.{length-map, length-replicate}
use Rattle.std.proofs.lemmas.List.Sums.{sum_by-append}
use Rattle.ak_throttle.specs.declared.stage.Mark.{Mark}
use Rattle.ak_throttle.specs.Started.{Started}
use Rattle.ak_throttle.specs.Seen.{stage_of, waits, behind, bodies_of, overs_after, waiting_after, AreMarks, IsKept, without_reached}

-- marks reach no further where there are more bodies
marks_raised : (low high higher : ℕ) (marks : List Mark) → high ≤ higher → AreMarks low high marks → AreMarks low higher marks
marks_raised low high higher [] h a = tt
marks_raised low high higher (m ∷ ms) h a = (a.0, omega (arith, a.1, h), marks_raised m.count high higher ms h a.2)

marks_lowered : (lower low high : ℕ) (marks : List Mark) → lower ≤ low → AreMarks low high marks → AreMarks lower high marks
marks_lowered lower low high [] h a = tt
marks_lowered lower low high (m ∷ ms) h a = (omega (arith, a.0, h), a.1, a.2)

marks_last : (low high i : ℕ) (marks : List Mark) → low ≤ high → AreMarks low high marks → AreMarks low high (marks ++ record { ivar = i; count = high } ∷ [])
marks_last low high i [] h a = (h, omega arith, tt)
marks_last low high i (m ∷ ms) h a = (a.0, a.1, marks_last m.count high i ms a.1 a.2)

marks_rest_by : (t : Bool) (high : ℕ) (m : Mark) (ms : List Mark) → AreMarks 0 high (m ∷ ms) → AreMarks 0 high (cond t ms (m ∷ ms))
marks_rest_by true high m ms a = marks_lowered 0 m.count high ms (omega arith) a.2
marks_rest_by false high m ms a = a

marks_rest : (n high : ℕ) (marks : List Mark) → AreMarks 0 high marks → AreMarks 0 high (without_reached n marks)
marks_rest n high [] a = a
marks_rest n high (m ∷ ms) a = marks_rest_by (nat_le m.count n) high m ms a

length_alive : {B : Type 0} (overs : List Bool) (lost : ℕ) (bodies : List B) → length (bodies_of false overs lost bodies) ≡ length overs + length bodies
length_alive {B} overs lost bodies =
    length-append (map (stage_of {B = B}) overs) (map waits bodies)
    ∙ ap (λ n. n + length (map waits bodies)) (length-map overs (stage_of {B = B}))
    ∙ ap (λ n. length overs + n) (length-map bodies waits)

length_dead : {B : Type 0} (overs : List Bool) (lost : ℕ) (bodies : List B) → length (bodies_of true overs lost bodies) ≡ length overs + lost
length_dead {B} overs lost bodies =
    length-append (map (stage_of {B = B}) overs) (behind true lost bodies)
    ∙ ap (λ n. n + length (behind true lost bodies)) (length-map overs (stage_of {B = B}))
    ∙ ap (λ n. length overs + n) (length-replicate lost _)

not_below : (m n : ℕ) → (m < n → ⊥) → n ≤ m
not_below m n f = elim (cases_lt m n) [ inl l ↦ absurd (f l) | inr h ↦ h ]

-- how many bodies there are while the throttle lives
pub small_alive : {B : Type 0} (most : ℕ) (dead : Bool) (started : Started) (lost : ℕ) (bodies : List B) (marks : List Mark)
    → IsKept most dead started lost bodies marks → dead ≡ false → length started.overs + length bodies < 2 ^ 32
small_alive most true started lost bodies marks k e = absurd (true≢false e)
small_alive most false started lost bodies marks k e = omega (arith, k.small, length_alive started.overs lost bodies)

count_last : (overs : List Bool) → count_by not (overs ++ false ∷ []) ≡ count_by not overs + 1
count_last overs = sum_by-append (λ (o : Bool). cond (not o) 1 0) overs (false ∷ [])

-- the same many bodies, of which other ones run
kept_by : {B : Type 0} (most : ℕ) (dead : Bool) (started next : Started) (lost : ℕ) (bodies rest : List B) (marks : List Mark)
    → IsKept most dead started lost bodies marks → length (bodies_of dead next.overs lost rest)
    ≡ length (bodies_of dead started.overs lost bodies) → count_by not next.overs ≤ most
    → (dead ≡ false → 0 < length rest → count_by not next.overs ≡ most) → (dead ≡ false → length rest ≤ next.spare)
    → IsKept most dead next lost rest marks
kept_by most dead started next lost bodies rest marks k e few full room = record {
  some = k.some;
  few = few;
  full = full;
  room = room;
  small = subst (λ (n : ℕ). n < 2 ^ 32) (sym e) k.small;
  ordered = subst (λ (n : ℕ). AreMarks 0 n marks) (sym e) k.ordered;
}

-- a body that runs ends, and the front one starts
pub kept_ended : {B : Type 0} (most : ℕ) (dead : Bool) (started mid next : Started) (lost : ℕ) (bodies rest : List B) (marks : List Mark)
    → IsKept most dead started lost bodies marks → count_by not mid.overs + 1 ≡ count_by not started.overs
    → length mid.overs ≡ length started.overs → next.overs ≡ overs_after dead mid.overs bodies → rest ≡ waiting_after dead bodies
    → (dead ≡ false → length rest ≤ next.spare) → IsKept most dead next lost rest marks
kept_ended most true started mid next lost bodies rest marks k c l o r room =
    kept_by most true started next lost bodies rest marks k
    (length_dead next.overs lost rest ∙ ap (λ n. n + lost) (ap length o ∙ l) ∙ sym (length_dead started.overs lost bodies))
    (omega (arith, ap (count_by not) o, c, k.few)) (λ e. absurd (true≢false e)) room
kept_ended {B} most false started mid next lost [] rest marks k c l o r room =
    kept_by most false started next lost [] rest marks k
    (length_alive next.overs lost rest ∙ omega (arith, ap length o, l, ap length r) ∙ sym (length_alive {B = B} started.overs lost []))
    (omega (arith, ap (count_by not) o, c, k.few)) (λ e h. absurd (omega (arith, h, ap length r))) room
kept_ended most false started mid next lost (b ∷ bs) rest marks k c l o r room =
    let more : count_by not next.overs ≡ count_by not mid.overs + 1 = ap (count_by not) o ∙ count_last mid.overs
    in let many : length next.overs ≡ length mid.overs + 1 = ap length o ∙ length-append mid.overs (false ∷ [])
    in let all : count_by not started.overs ≡ most = k.full refl (omega arith)
    in kept_by most false started next lost (b ∷ bs) rest marks k
    (length_alive next.overs lost rest ∙ omega (arith, many, l, ap length r) ∙ sym (length_alive started.overs lost (b ∷ bs)))
    (omega (arith, more, c, all)) (λ e h. omega (arith, more, c, all)) room

-- a body starts at once
pub kept_started : {B : Type 0} (most : ℕ) (dead : Bool) (started next : Started) (lost : ℕ) (bodies : List B) (marks : List Mark)
    → IsKept most dead started lost bodies marks → dead ≡ false → count_by not started.overs < most
    → length started.overs + length bodies < 2 ^ 32 - 1 → next.overs ≡ started.overs ++ false ∷ [] → IsKept most dead next lost bodies marks
kept_started most true started next lost bodies marks k e f h o = absurd (true≢false e)
kept_started most false started next lost (b ∷ bs) marks k e f h o = absurd (omega (arith, f, k.full refl (omega arith)))
kept_started {B} most false started next lost [] marks k e f h o =
    let more : count_by not next.overs ≡ count_by not started.overs + 1 = ap (count_by not) o ∙ count_last started.overs
    in let many : length next.overs ≡ length started.overs + 1 = ap length o ∙ length-append started.overs (false ∷ [])
    in record {
      some = k.some;
      few = omega (arith, more, f);
      full = λ e h. absurd (omega (arith, h));
      room = λ e. omega arith;
      small = omega (arith, length_alive {B = B} next.overs lost [], many, h);
      ordered = marks_raised 0 _ _ marks (omega (arith, length_alive {B = B} next.overs lost [], many, length_alive {B = B} started.overs lost [])) k.ordered;
    }

-- a body waits
pub kept_waits : {B : Type 0} (most : ℕ) (dead : Bool) (started next : Started) (lost : ℕ) (bodies more : List B) (b : B)
    (marks : List Mark) → IsKept most dead started lost bodies marks → dead ≡ false → (count_by not started.overs < most → ⊥)
    → length started.overs + length bodies < 2 ^ 32 - 1 → next.overs ≡ started.overs → length bodies + 1 ≤ next.spare
    → more ≡ bodies ++ b ∷ [] → IsKept most dead next lost more marks
kept_waits most true started next lost bodies more b marks k e f h o room m = absurd (true≢false e)
kept_waits most false started next lost bodies more b marks k e f h o room m =
    let many : length more ≡ length bodies + 1 = ap length m ∙ length-append bodies (b ∷ [])
    in let same : count_by not next.overs ≡ count_by not started.overs = ap (count_by not) o
    in let all : count_by not next.overs ≡ most = omega (arith, same, k.few, not_below _ _ f)
    in record {
      some = k.some;
      few = omega (arith, all);
      full = λ e h. all;
      room = λ e. omega (arith, many, room);
      small = omega (arith, length_alive next.overs lost more, many, ap length o, h);
      ordered = marks_raised 0 _ _ marks
          (omega (arith, length_alive next.overs lost more, many, ap length o, length_alive started.overs lost bodies)) k.ordered;
    }

-- a deferred waits until all are over
pub kept_marked : {B : Type 0} (most : ℕ) (dead : Bool) (started : Started) (lost : ℕ) (bodies : List B) (marks more : List Mark) (i : ℕ)
    → IsKept most dead started lost bodies marks → more ≡ marks ++ record {
      ivar = i;
      count =
          length (bodies_of dead started.overs lost bodies);
    } ∷ [] → IsKept most dead started lost bodies more
kept_marked most dead started lost bodies marks more i k e = record {
  some = k.some;
  few = k.few;
  full = k.full;
  room = k.room;
  small = k.small;
  ordered = subst (λ (ms : List Mark). AreMarks 0 (length (bodies_of dead started.overs lost bodies)) ms) (sym e)
      (marks_last 0 _ i marks (omega arith) k.ordered);
}

-- a mark is reached
pub kept_reached : {B : Type 0} (most : ℕ) (dead : Bool) (started : Started) (lost : ℕ) (bodies : List B) (marks rest : List Mark) (n : ℕ)
    → IsKept most dead started lost bodies marks → rest ≡ without_reached n marks → IsKept most dead started lost bodies rest
kept_reached most dead started lost bodies marks rest n k e = record {
  some = k.some;
  few = k.few;
  full = k.full;
  room = k.room;
  small = k.small;
  ordered = subst (λ (ms : List Mark). AreMarks 0 (length (bodies_of dead started.overs lost bodies)) ms) (sym e) (marks_rest n _ marks k.ordered);
}

-- all bodies of a throttle that lives
pub all_alive : {B : Type 0} (dead : Bool) (overs : List Bool) (lost : ℕ) (bodies : List B) → dead ≡ false
    → length (bodies_of dead overs lost bodies) ≡ length overs + length bodies
all_alive true overs lost bodies e = absurd (true≢false e)
all_alive false overs lost bodies e = length_alive overs lost bodies

-- none waits where fewer run than may
pub none_waits : {B : Type 0} (most : ℕ) (dead : Bool) (started : Started) (lost : ℕ) (bodies : List B) (marks : List Mark)
    → IsKept most dead started lost bodies marks → dead ≡ false → count_by not started.overs < most → length bodies ≡ 0
none_waits most dead started lost [] marks k e f = refl
none_waits most dead started lost (b ∷ bs) marks k e f = absurd (omega (arith, f, k.full e (omega arith)))
