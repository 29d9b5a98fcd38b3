-- The place at which words stop being a command is one.
use Rattle.std.proofs.Common.{◌≡◌, ℕ, zero, suc, ◌+◌, ◌-◌, ◌<◌, ◌≤◌, List, [], ◌∷◌, ◌++◌, length, take, drop, get_or, refl, sym, ap, ◌∙◌, subst, arith}
use Rattle.std.specs.Prelude.{codes, None}
use Rattle.ak_labor.specs.declared.config.Config.{Config}
use Rattle.ak_words.specs.declared.command.Command.{Command}
use Rattle.ak_words.specs.declared.command.Command.TheVariants.{Run, Replay, Check}
use Rattle.ak_words.specs.declared.command.Order.{Order}
use Rattle.ak_words.specs.declared.command.Order.TheVariants as order
use Rattle.ak_words.specs.declared.settings.Setting.{Setting}
use Rattle.ak_words.specs.declared.settings.Setting.TheVariants.{Threads, Limit, Jobs, Askers}
use Rattle.ak_words.specs.declared.settings.Given.{Given}
use Rattle.ak_words.specs.Words.{word_of, name_of, given_at, with_setting, settled_by, config_of, IsValue, IsSetting, Continues, GivesSettings, Means, IsCommand, BeginsCommand, IsUsageFault, BeginsSettings, IsSettingsFault}

-- ---- lists
take_all : {A : Type 0} (xs : List A) (n : ℕ) → n ≡ length xs → take n xs ≡ xs
take_all [] zero e = refl
take_all [] (suc n) e = absurd (omega (arith, e))
take_all (x ∷ xs) zero e = absurd (omega (arith, e))
take_all (x ∷ xs) (suc n) e = ap (λ ys. x ∷ ys) (take_all xs n (omega (arith, e)))

pub list_none : {A : Type 0} (xs : List A) → length xs < 1 → xs ≡ []
list_none [] h = refl
list_none (x ∷ xs) h = absurd (omega (arith, h))

pub list_one : {A : Type 0} (xs : List A) (x : A) → 1 ≤ length xs → length xs < 2 → x ≡ get_or xs 0 x → xs ≡ x ∷ []
list_one [] x h l e = absurd (omega (arith, h))
list_one (y ∷ []) x h l e = ap (λ z. z ∷ []) (sym e)
list_one (y ∷ z ∷ xs) x h l e = absurd (omega (arith, l))

pub list_first : {A : Type 0} (xs : List A) (x : A) → 1 ≤ length xs → x ≡ get_or xs 0 x → xs ≡ x ∷ take (length xs - 1) (drop 1 xs)
list_first [] x h e = absurd (omega (arith, h))
list_first (y ∷ xs) x h e = ap (λ v. v ∷ xs) (sym e) ∙ ap (λ vs. x ∷ vs) (sym (take_all xs (length (y ∷ xs) - 1) (omega arith)))

pub list_two : {A : Type 0} (xs : List A) (x y : A) → 2 ≤ length xs → x ≡ get_or xs 0 x → y ≡ get_or xs 1 y → xs ≡ x ∷ y ∷ take (length xs - 2) (drop 2 xs)
list_two [] x y h e d = absurd (omega (arith, h))
list_two (v ∷ []) x y h e d = absurd (omega (arith, h))
list_two (v ∷ w ∷ xs) x y h e d =
    ap (λ z. z ∷ w ∷ xs) (sym e) ∙ ap (λ z. x ∷ z ∷ xs) (sym d) ∙ ap (λ zs. x ∷ y ∷ zs)
    (sym (take_all xs (length (v ∷ w ∷ xs) - 2) (omega arith)))

-- ---- settings
one_name : (s t : Setting) → name_of s ≡ name_of t → s ≡ t
one_name Threads Threads e = refl
one_name Threads Limit e = cc
one_name Threads Jobs e = cc
one_name Threads Askers e = cc
one_name Limit Threads e = cc
one_name Limit Limit e = refl
one_name Limit Jobs e = cc
one_name Limit Askers e = cc
one_name Jobs Threads e = cc
one_name Jobs Limit e = cc
one_name Jobs Jobs e = refl
one_name Jobs Askers e = cc
one_name Askers Threads e = cc
one_name Askers Limit e = cc
one_name Askers Jobs e = cc
one_name Askers Askers e = refl

one_is_value : (s : Setting) → IsValue s (codes "1") 1
one_is_value Threads = ((omega arith, refl), refl, omega arith, omega arith)
one_is_value Limit = ((omega arith, refl), refl, omega arith, omega arith)
one_is_value Jobs = ((omega arith, refl), refl, omega arith, omega arith)
one_is_value Askers = ((omega arith, refl), refl, omega arith, omega arith)

bad_first : (given : Given) (name : List ℕ) (more : List (List ℕ)) (config : Config)
    → ((s : Setting) → name ≡ name_of s → given_at s given ≡ None → ⊥) → Continues given (name ∷ more) config → ⊥
bad_first given name [] config bad h = h
bad_first given name (value ∷ more) config bad h = bad h.0 h.2.named h.2.free

pub fault_bad_name : (given : Given) (name : List ℕ) (more : List (List ℕ))
    → ((s : Setting) → name ≡ name_of s → given_at s given ≡ None → ⊥) → IsSettingsFault given (name ∷ more) 0
fault_bad_name given name more bad = record {
  no_settings = λ config h. bad_first given name more config bad h;
  within = omega arith;
  before = ([], config_of given, refl);
  wrong = λ lt b. bad_first given name b.0 b.1 bad b.2;
}

pub fault_no_value : (given : Given) (name : List ℕ) (s : Setting) → name ≡ name_of s → given_at s given ≡ None → IsSettingsFault given (name ∷ []) 1
fault_no_value given name s named free = record {
  no_settings = λ config h. h;
  within = omega arith;
  before = (codes "1" ∷ [], config_of (with_setting s 1 given), (s, 1, record { named = named; free = free; number = one_is_value s }, refl));
  wrong = λ lt b. absurd (omega (arith, lt));
}

bad_second : (given : Given) (name value : List ℕ) (more : List (List ℕ)) (config : Config) (s : Setting) → name ≡ name_of s
    → ((n : ℕ) → IsValue s value n → ⊥) → Continues given (name ∷ value ∷ more) config → ⊥
bad_second given name value more config s named bad h =
    bad h.1 (subst (λ t. IsValue t value h.1) (one_name h.0 s (sym h.2.named ∙ named)) h.2.number)

pub fault_bad_value : (given : Given) (name value : List ℕ) (more : List (List ℕ)) (s : Setting) → name ≡ name_of s
    → given_at s given ≡ None → ((n : ℕ) → IsValue s value n → ⊥) → IsSettingsFault given (name ∷ value ∷ more) 1
fault_bad_value given name value more s named free bad = record {
  no_settings = λ config h. bad_second given name value more config s named bad h;
  within = omega arith;
  before = (codes "1" ∷ [], config_of (with_setting s 1 given), (s, 1, record { named = named; free = free; number = one_is_value s }, refl));
  wrong = λ lt b. bad_second given name value b.0 b.1 s named bad b.2;
}

-- what follows a setting goes on behind it
pub goes_behind : (given : Given) (name value : List ℕ) (rest : List (List ℕ)) (config : Config) (s : Setting) (n : ℕ)
    → IsSetting given name value s n → Continues given (name ∷ value ∷ rest) config → Continues (with_setting s n given) rest config
goes_behind given name value rest config s n is h =
    let same : h.0 ≡ s = one_name h.0 s (sym h.2.named ∙ is.named)
    in let number : h.1 ≡ n = sym h.2.number.1 ∙ is.number.1
    in subst (λ t. Continues (with_setting t n given) rest config) same (subst (λ m. Continues (with_setting h.0 m given) rest config) number h.3)

take_two : (place : ℕ) (x y : List ℕ) (xs : List (List ℕ)) → take (place + 2) (x ∷ y ∷ xs) ≡ x ∷ y ∷ take place xs
take_two place x y xs = let e : place + 2 ≡ suc (suc place) = omega arith in ap (λ n. take n (x ∷ y ∷ xs)) e

pub fault_later : (given : Given) (name value : List ℕ) (rest : List (List ℕ)) (s : Setting) (n place : ℕ)
    → IsSetting given name value s n → IsSettingsFault (with_setting s n given) rest place
    → IsSettingsFault given (name ∷ value ∷ rest) (place + 2)
fault_later given name value rest s n place is f = record {
  no_settings = λ config h. f.no_settings config (goes_behind given name value rest config s n is h);
  within = omega (arith, f.within);
  before = subst (BeginsSettings given) (sym (take_two place name value rest)) (f.before.0, f.before.1, (s, n, is, f.before.2));
  wrong = λ lt b.
      let e : (place + 2) + 1 ≡ (place + 1) + 2 = omega arith
      in let c : BeginsSettings given (name ∷ value ∷ take (place + 1) rest) =
      subst (BeginsSettings given) (ap (λ k. take k (name ∷ value ∷ rest)) e ∙ take_two (place + 1) name value rest) b
      in f.wrong (omega (arith, lt)) (c.0, c.1, goes_behind given name value (take (place + 1) rest ++ c.0) c.1 s n is c.2);
}

-- ---- commands
tail_is : (x y : List ℕ) (xs ys : List (List ℕ)) → x ∷ xs ≡ y ∷ ys → xs ≡ ys
tail_is x y xs ys e = ap (λ zs. drop 1 zs) e

-- words that begin with the word of this order give settings
abbrev OnlySettings : Order → Type 0
OnlySettings o =
    (rest : List (List ℕ)) (command : Command) → Means (word_of o ∷ rest) command → (config : Config) × Continues (settled_by o) rest config

run_means : OnlySettings order.Run
run_means rest (Run config) h = (config, subst (λ ws. Continues (settled_by order.Run) ws config) (sym (tail_is _ _ rest h.0 h.1)) h.2)
run_means rest (Replay config) h = absurd (cc (h.1))
run_means rest Check h = absurd (cc)

replay_means : OnlySettings order.Replay
replay_means rest (Run config) h = absurd (cc (h.1))
replay_means rest (Replay config) h = (config, subst (λ ws. Continues (settled_by order.Replay) ws config) (sym (tail_is _ _ rest h.0 h.1)) h.2)
replay_means rest Check h = absurd (cc)

take_one : (place : ℕ) (x : List ℕ) (xs : List (List ℕ)) → take (place + 1) (x ∷ xs) ≡ x ∷ take place xs
take_one place x xs = let e : place + 1 ≡ suc place = omega arith in ap (λ n. take n (x ∷ xs)) e

fault_in_settings : (o : Order) → OnlySettings o
    → ((words : List (List ℕ)) (config : Config) → GivesSettings o words config → IsCommand words)
    → (rest : List (List ℕ)) (place : ℕ) → IsSettingsFault (settled_by o) rest place → IsUsageFault (word_of o ∷ rest) (place + 1)
fault_in_settings o only make rest place f = record {
  no_command = λ c. let m = only rest c.0 c.1 in f.no_settings m.0 m.1;
  within = omega (arith, f.within);
  before = subst BeginsCommand (sym (take_one place (word_of o) rest))
      (f.before.0, make (word_of o ∷ (take place rest ++ f.before.0)) f.before.1 (take place rest ++ f.before.0, refl, f.before.2));
  wrong = λ lt b.
      let c : BeginsCommand (word_of o ∷ take (place + 1) rest) = subst BeginsCommand (take_one (place + 1) (word_of o) rest) b in
      let m = only (take (place + 1) rest ++ c.0) c.1.0 c.1.1 in
      f.wrong (omega (arith, lt)) (c.0, m.0, m.1);
}

pub run_fault : (rest : List (List ℕ)) (place : ℕ) → IsSettingsFault (settled_by order.Run) rest place → IsUsageFault (codes "run" ∷ rest) (place + 1)
run_fault = fault_in_settings order.Run run_means (λ words config h. (Run config, h))

pub replay_fault : (rest : List (List ℕ)) (place : ℕ) → IsSettingsFault (settled_by order.Replay) rest place
    → IsUsageFault (codes "replay" ∷ rest) (place + 1)
replay_fault = fault_in_settings order.Replay replay_means (λ words config h. (Replay config, h))

check_alone : (x : List ℕ) (more : List (List ℕ)) (command : Command) → Means (codes "check" ∷ x ∷ more) command → ⊥
check_alone x more (Run config) h = absurd (cc (h.1))
check_alone x more (Replay config) h = absurd (cc (h.1))
check_alone x more Check h = absurd (cc (h))

pub check_fault : (x : List ℕ) (more : List (List ℕ)) → IsUsageFault (codes "check" ∷ x ∷ more) 1
check_fault x more = record {
  no_command = λ c. check_alone x more c.0 c.1;
  within = omega arith;
  before = ([], (Check, refl));
  wrong = λ lt b. check_alone x b.0 b.1.0 b.1.1;
}

-- the word begins no command
abbrev pub BeginsNone : List ℕ → Type 0
BeginsNone first = (o : Order) → first ≡ word_of o → ⊥

other_means : (first : List ℕ) (more : List (List ℕ)) (command : Command) → BeginsNone first → Means (first ∷ more) command → ⊥
other_means first more (Run config) none h = none order.Run (cc (h.1))
other_means first more (Replay config) none h = none order.Replay (cc (h.1))
other_means first more Check none h = none order.Check (cc (h))

pub other_fault : (first : List ℕ) (more : List (List ℕ)) → BeginsNone first → IsUsageFault (first ∷ more) 0
other_fault first more none = record {
  no_command = λ c. other_means first more c.0 none c.1;
  within = omega arith;
  before = (codes "check" ∷ [], (Check, refl));
  wrong = λ lt b. other_means first b.0 b.1.0 none b.1.1;
}

none_means : (command : Command) → Means [] command → ⊥
none_means (Run config) h = absurd (cc (h.1))
none_means (Replay config) h = absurd (cc (h.1))
none_means Check h = absurd (cc (h))

pub none_fault : IsUsageFault [] 0
none_fault = record {
  no_command = λ c. none_means c.0 c.1;
  within = omega arith;
  before = (codes "check" ∷ [], (Check, refl));
  wrong = λ lt b. absurd (omega (arith, lt));
}
