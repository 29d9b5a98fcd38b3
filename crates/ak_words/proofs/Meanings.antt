-- Words mean one command at most, and its settings are in their ranges.
use Rattle.std.proofs.Common.{◌≡◌, ℕ, ◌≤◌, List, [], ◌∷◌, refl, sym, ap, ◌∙◌, subst, arith, drop}
use Rattle.std.specs.Prelude.{codes, Some, None}
use Rattle.ak_labor.specs.declared.config.Config.{Config}
use Rattle.ak_words.specs.declared.command.Command.{Command}
use Rattle.ak_words.specs.declared.command.Command.TheVariants.{Run, Replay, Check}
use Rattle.ak_words.specs.declared.command.Order.{Order}
use Rattle.ak_words.specs.declared.command.Order.TheVariants as order
use Rattle.ak_words.specs.declared.settings.Setting.{Setting}
use Rattle.ak_words.specs.declared.settings.Setting.TheVariants.{Threads, Limit, Jobs, Askers}
use Rattle.ak_words.specs.declared.settings.Given.{Given}
use Rattle.ak_words.specs.Words.{given_at, with_setting, settled_by, or_default, IsValue, Continues, GivesSettings, Means}
use Rattle.ak_words.proofs.Places.{goes_behind}

one_config : (given : Given) (words : List (List ℕ)) (c d : Config) → Continues given words c → Continues given words d → c ≡ d
one_config given [] c d h k = h ∙ sym k
one_config given (name ∷ []) c d h k = absurd h
one_config given (name ∷ value ∷ words) c d h k = one_config (with_setting h.0 h.1 given) words c d h.3 (goes_behind given name value words d h.0 h.1 h.2 k)

one_settings : (o : Order) (words : List (List ℕ)) (c d : Config) → GivesSettings o words c → GivesSettings o words d → c ≡ d
one_settings o words c d h k =
    let same : h.0 ≡ k.0 = ap (λ ws. drop 1 ws) (sym h.1 ∙ k.1) in
    one_config (settled_by o) h.0 c d h.2 (subst (λ ws. Continues (settled_by o) ws d) (sym same) k.2)

-- words have one first word
other_first : (first other : List ℕ) (rest more words : List (List ℕ)) → words ≡ first ∷ rest → words ≡ other ∷ more → first ≡ other
other_first first other rest more words h k = cc

pub one_command : (words : List (List ℕ)) (c d : Command) → Means words c → Means words d → c ≡ d
one_command words (Run c) (Run d) h k = ap Run (one_settings order.Run words c d h k)
one_command words (Replay c) (Replay d) h k = ap Replay (one_settings order.Replay words c d h k)
one_command words Check Check h k = refl
one_command words (Run c) (Replay d) h k = absurd (cc (other_first (codes "run") (codes "replay") h.0 k.0 words h.1 k.1))
one_command words (Run c) Check h k = absurd (cc (other_first (codes "run") (codes "check") h.0 [] words h.1 k))
one_command words (Replay c) (Run d) h k = absurd (cc (other_first (codes "replay") (codes "run") h.0 k.0 words h.1 k.1))
one_command words (Replay c) Check h k = absurd (cc (other_first (codes "replay") (codes "check") h.0 [] words h.1 k))
one_command words Check (Run d) h k = absurd (cc (other_first (codes "check") (codes "run") [] k.0 words h k.1))
one_command words Check (Replay d) h k = absurd (cc (other_first (codes "check") (codes "replay") [] k.0 words h k.1))

-- the limit of a cycle
abbrev HasLimit : Given → Type 0
HasLimit given = 1 ≤ or_default given.limit 500

keeps_limit : (s : Setting) (n : ℕ) (given : Given) (value : List ℕ) → HasLimit given → IsValue s value n → HasLimit (with_setting s n given)
keeps_limit Threads n given value h v = h
keeps_limit Limit n given value h v = v.2
keeps_limit Jobs n given value h v = h
keeps_limit Askers n given value h v = h

limit_behind : (given : Given) (words : List (List ℕ)) (c : Config) → HasLimit given → Continues given words c → 1 ≤ c.limit
limit_behind given [] c l h = subst (λ (x : Config). 1 ≤ x.limit) (sym h) l
limit_behind given (name ∷ []) c l h = absurd h
limit_behind given (name ∷ value ∷ words) c l h = limit_behind (with_setting h.0 h.1 given) words c (keeps_limit h.0 h.1 given value l h.2.number) h.3

settles_limit : (o : Order) → HasLimit (settled_by o)
settles_limit order.Run = omega arith
settles_limit order.Replay = omega arith
settles_limit order.Check = omega arith

pub has_limit : (o : Order) (words : List (List ℕ)) (config : Config) → GivesSettings o words config → 1 ≤ config.limit
has_limit o words config h = limit_behind (settled_by o) h.0 config (settles_limit o) h.2

-- the threads of the pool
abbrev HasThreads : Given → Type 0
HasThreads given = (1 ≤ or_default given.threads 4) × (or_default given.threads 4 ≤ 32)

keeps_threads : (s : Setting) (n : ℕ) (given : Given) (value : List ℕ) → HasThreads given → IsValue s value n → HasThreads (with_setting s n given)
keeps_threads Threads n given value h v = (v.2, v.3)
keeps_threads Limit n given value h v = h
keeps_threads Jobs n given value h v = h
keeps_threads Askers n given value h v = h

threads_behind : (given : Given) (words : List (List ℕ)) (c : Config) → HasThreads given → Continues given words c → (1 ≤ c.threads) × (c.threads ≤ 32)
threads_behind given [] c l h = subst (λ (x : Config). (1 ≤ x.threads) × (x.threads ≤ 32)) (sym h) l
threads_behind given (name ∷ []) c l h = absurd h
threads_behind given (name ∷ value ∷ words) c l h = threads_behind (with_setting h.0 h.1 given) words c (keeps_threads h.0 h.1 given value l h.2.number) h.3

settles_threads : (o : Order) → HasThreads (settled_by o)
settles_threads order.Run = (omega arith, omega arith)
settles_threads order.Replay = (omega arith, omega arith)
settles_threads order.Check = (omega arith, omega arith)

pub has_threads : (o : Order) (words : List (List ℕ)) (config : Config) → GivesSettings o words config → (1 ≤ config.threads) × (config.threads ≤ 32)
has_threads o words config h = threads_behind (settled_by o) h.0 config (settles_threads o) h.2

-- the askers: a run has none
keeps_none : (s : Setting) (n : ℕ) (given : Given) → given.askers ≡ Some 0 → given_at s given ≡ None → (with_setting s n given).askers ≡ Some 0
keeps_none Threads n given h free = h
keeps_none Limit n given h free = h
keeps_none Jobs n given h free = h
keeps_none Askers n given h free = absurd (cc (sym h ∙ free))

none_behind : (given : Given) (words : List (List ℕ)) (c : Config) → given.askers ≡ Some 0 → Continues given words c → c.askers ≡ 0
none_behind given [] c e h = ap (λ (x : Config). x.askers) h ∙ ap (λ o. or_default o 0) e
none_behind given (name ∷ []) c e h = absurd h
none_behind given (name ∷ value ∷ words) c e h = none_behind (with_setting h.0 h.1 given) words c (keeps_none h.0 h.1 given e h.2.free) h.3

pub has_no_askers : (words : List (List ℕ)) (config : Config) → GivesSettings order.Run words config → config.askers ≡ 0
has_no_askers words config h = none_behind (settled_by order.Run) h.0 config refl h.2

abbrev HasFew : Given → Type 0
HasFew given = or_default given.askers 0 ≤ 16

keeps_few : (s : Setting) (n : ℕ) (given : Given) (value : List ℕ) → HasFew given → IsValue s value n → HasFew (with_setting s n given)
keeps_few Threads n given value h v = h
keeps_few Limit n given value h v = h
keeps_few Jobs n given value h v = h
keeps_few Askers n given value h v = v.3

few_behind : (given : Given) (words : List (List ℕ)) (c : Config) → HasFew given → Continues given words c → c.askers ≤ 16
few_behind given [] c l h = subst (λ (x : Config). x.askers ≤ 16) (sym h) l
few_behind given (name ∷ []) c l h = absurd h
few_behind given (name ∷ value ∷ words) c l h = few_behind (with_setting h.0 h.1 given) words c (keeps_few h.0 h.1 given value l h.2.number) h.3

pub has_few_askers : (words : List (List ℕ)) (config : Config) → GivesSettings order.Replay words config → config.askers ≤ 16
has_few_askers words config h = few_behind (settled_by order.Replay) h.0 config (omega arith) h.2
