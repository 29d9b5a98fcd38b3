-- A run and its own history go together.
use Rattle.std.proofs.Common.{◌≡◌, ℕ, ◌≤◌, ◌⊎◌, inl, inr, List, length, take, map, sym, ap, ◌∙◌, arith}
use Rattle.std.specs.Prelude.{Some}
use Rattle.std.proofs.lemmas.List.{take_all}
use Rattle.ak_labor.specs.declared.config.Config.{Config}
use Rattle.ak_labor.specs.Calls.{Reply}
use Rattle.ak_history.specs.declared.event.Event.{Event}
use Rattle.ak_history.specs.Legal.{Legal}
use Rattle.ak_history.specs.Scheduler.{asks, replies}
use Rattle.ak_history_laws.proofs.Helpers.{alike}
use Rattle.ak_program.specs.Programs.{NumProgram}
use Rattle.ak_machine.specs.Run.{Run, HasEnded, run_of}
use Rattle.ak_meets.specs.Calls.{WantsBehind, EndsWith, AllFit, HasCalled}
use Rattle.ak_meets.specs.Meets.{Meets, Yes}

-- the law of calls
abbrev pub CallsAre : Type 0
CallsAre = (program : NumProgram) (config : Config) (rs : List Reply) (n : ℕ) → n ≤ length rs → AllFit program config rs n → HasCalled program config rs n

pub own_history : CallsAre → (program : NumProgram) (config : Config) (history : List Event) → Legal config.threads config.askers history
    → (run_of program config (replies config.askers history)).outcome ≡ HasEnded
    → (run_of program config (replies config.askers history)).asks ≡ asks history → Meets program config history Yes
own_history law program config history legal has_ended asked = of (law program config rs n (omega arith) fits)
  where
    rs : List Reply
    rs = replies config.askers history

    n : ℕ
    n = length rs

    all : take n rs ≡ rs
    all = take_all n rs (omega arith)

    at : run_of program config (take n rs) ≡ run_of program config rs
    at = ap (run_of program config) all

    fits : AllFit program config rs n
    fits wrong = absurd (cc (sym (ap (λ (r : Run). r.outcome) at) ∙ wrong, has_ended))

    of : HasCalled program config rs n → Meets program config history Yes
    of called = by called.behind
      where
        by : WantsBehind (run_of program config (take n rs)) called.calls ⊎ EndsWith (run_of program config (take n rs)) called.calls
            → Meets program config history Yes
        by (inl w) = absurd (cc (sym (ap (λ (r : Run). r.outcome) at) ∙ w.wants, has_ended))
        by (inr e) =
            let calls : called.calls ≡ asks history = sym e.asks ∙ (ap (λ (r : Run). r.asks) at ∙ asked) in
            let many : length (asks history) ≡ n = (alike config.threads config.askers history legal).same in
            let whole : take n (asks history) ≡ asks history = take_all n (asks history) (omega (arith, many)) in (
              n,
              record {
                agree = called.agree ∙ ap (map Some) (calls ∙ sym whole);
                ended = ap (λ (r : Run). r.outcome) at ∙ has_ended;
              },
            )
