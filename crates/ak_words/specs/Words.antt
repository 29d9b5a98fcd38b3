-- Command words, and the place at which words stop being a command. Own.
use Rattle.std.specs.Prelude.{ℕ, ◌+◌, ◌<◌, ◌≤◌, List, [], ◌∷◌, ◌++◌, ◌≡◌, length, take, codes, Option, Some, None}
use Rattle.ak_text.specs.Numbers.{AreDigits, digits_value}
use Rattle.ak_labor.specs.declared.config.Config.{Config}
use Rattle.ak_words.specs.declared.command.Command.{Command}
use Rattle.ak_words.specs.declared.command.Command.TheVariants.{Run, Replay, Check}
use Rattle.ak_words.specs.declared.command.Order.{Order}
use Rattle.ak_words.specs.declared.command.Order.TheVariants as order
use Rattle.ak_words.specs.declared.settings.Setting.{Setting}
use Rattle.ak_words.specs.declared.settings.Setting.TheVariants.{Threads, Limit, Jobs, Askers}
use Rattle.ak_words.specs.declared.settings.Given.{Given}

-- ---- settings
-- the word of a setting
abbrev pub name_of : Setting → List ℕ
name_of Threads = codes "--threads"
name_of Limit = codes "--limit"
name_of Jobs = codes "--jobs"
name_of Askers = codes "--askers"

-- the least and the greatest number that it may have
abbrev pub least : Setting → ℕ
least Threads = 1
least Limit = 1
least Jobs = 1
least Askers = 0

abbrev pub greatest : Setting → ℕ
greatest Threads = 32
greatest Limit = 100000
greatest Jobs = 200000
greatest Askers = 16

-- what a setting was given
abbrev pub given_at : Setting → Given → Option ℕ
given_at Threads given = given.threads
given_at Limit given = given.limit
given_at Jobs given = given.jobs
given_at Askers given = given.askers

-- one more is given
abbrev pub with_setting : Setting → ℕ → Given → Given
with_setting Threads n given = record given { threads = Some n }
with_setting Limit n given = record given { limit = Some n }
with_setting Jobs n given = record given { jobs = Some n }
with_setting Askers n given = record given { askers = Some n }

abbrev pub none_given : Given
none_given = record { threads = None; limit = None; jobs = None; askers = None }

-- what the first word of a command settles: a run has no askers
abbrev pub settled_by : Order → Given
settled_by order.Run = record none_given { askers = Some 0 }
settled_by order.Replay = none_given
settled_by order.Check = none_given

abbrev pub free_count : Option ℕ → ℕ
free_count None = 1
free_count (Some n) = 0

-- how many settings are not given
abbrev pub frees : Given → ℕ
frees given = free_count given.threads + free_count given.limit + free_count given.jobs + free_count given.askers

abbrev pub or_default : Option ℕ → ℕ → ℕ
or_default None n = n
or_default (Some m) n = m

-- what isn't given is four threads, five hundred jobs of a priority in a cycle, a hundred thousand jobs in all, and no askers
abbrev pub config_of : Given → Config
config_of given = record {
  threads = or_default given.threads 4;
  limit = or_default given.limit 500;
  jobs = or_default given.jobs 100000;
  askers = or_default given.askers 0;
}

-- the word is a number of the setting's range: decimal digits alone
abbrev pub IsValue : Setting → List ℕ → ℕ → Type 0
IsValue setting word n = AreDigits word × (digits_value word ≡ n) × (least setting ≤ n) × (n ≤ greatest setting)

-- a setting that was not given yet, by its word and a number
pub record IsSetting (given : Given) (name value : List ℕ) (setting : Setting) (n : ℕ) : Type 0 where
  pub named : name ≡ name_of setting
  pub free : given_at setting given ≡ None
  pub number : IsValue setting value n

-- behind what is given, the words give further settings, each at most once, and all together are these
abbrev pub Continues : Given → List (List ℕ) → Config → Type 0
Continues given [] config = config ≡ config_of given
Continues given (name ∷ []) config = ⊥
Continues given (name ∷ value ∷ words) config =
    (setting : Setting) × (n : ℕ) × IsSetting given name value setting n × Continues (with_setting setting n given) words config

-- ---- commands
-- the first word of a command
abbrev pub word_of : Order → List ℕ
word_of order.Run = codes "run"
word_of order.Replay = codes "replay"
word_of order.Check = codes "check"

-- the words are the word of this order and settings, behind what it settles
abbrev pub GivesSettings : Order → List (List ℕ) → Config → Type 0
GivesSettings of words config = (rest : List (List ℕ)) × (words ≡ word_of of ∷ rest) × Continues (settled_by of) rest config

-- the words are the command
abbrev pub Means : List (List ℕ) → Command → Type 0
Means words (Run config) = GivesSettings order.Run words config
Means words (Replay config) = GivesSettings order.Replay words config
Means words Check = words ≡ word_of order.Check ∷ []

-- the words are a command
abbrev pub IsCommand : List (List ℕ) → Type 0
IsCommand words = (command : Command) × Means words command

-- further words, or none, make a command of these
abbrev pub BeginsCommand : List (List ℕ) → Type 0
BeginsCommand words = (rest : List (List ℕ)) × IsCommand (words ++ rest)

-- the words are no command: those before the place begin one, and with the word at the place they begin none; where
-- all of them begin one, the place is behind them
pub record IsUsageFault (words : List (List ℕ)) (place : ℕ) : Type 0 where
  pub no_command : IsCommand words → ⊥
  pub within : place ≤ length words
  pub before : BeginsCommand (take place words)
  pub wrong : place < length words → BeginsCommand (take (place + 1) words) → ⊥

-- ---- the same of settings alone, behind what is given
abbrev pub BeginsSettings : Given → List (List ℕ) → Type 0
BeginsSettings given words = (rest : List (List ℕ)) × (config : Config) × Continues given (words ++ rest) config

pub record IsSettingsFault (given : Given) (words : List (List ℕ)) (place : ℕ) : Type 0 where
  pub no_settings : (config : Config) → Continues given words config → ⊥
  pub within : place ≤ length words
  pub before : BeginsSettings given (take place words)
  pub wrong : place < length words → BeginsSettings given (take (place + 1) words) → ⊥
