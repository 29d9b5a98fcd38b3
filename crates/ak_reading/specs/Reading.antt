-- What is read of a source. Own.
use Rattle.std.specs.Prelude.{ℕ, ◌<◌, ◌≤◌, List, ◌++◌, ◌≡◌, ◌⊎◌, length, Option, IfSome}
use Rattle.ak_base.specs.Streams.{Rose}
use Rattle.ak_reading.specs.declared.reading.Text.{Text}
use Rattle.ak_reading.specs.declared.reading.Text.TheVariants.{Whole, TooLong}
use Rattle.ak_reading.specs.declared.reading.ReadError.{ReadError}
use Rattle.ak_reading.specs.declared.reading.ReadError.TheVariants.{Failed, NoMemory}

-- the most bytes that a script may have
abbrev pub script_limit : ℕ
script_limit = 1048576

-- a source had these bytes, as far as it tells
abbrev pub Had : Option (List ℕ) → List ℕ → Type 0
Had told bytes = IfSome told (λ all. all ≡ bytes)

-- a source had these bytes first, as far as it tells
abbrev pub Began : Option (List ℕ) → List ℕ → Type 0
Began told bytes = IfSome told (λ all. (more : List ℕ) × (all ≡ bytes ++ more))

-- these bytes of a source were read: all of it, or more than the limit
abbrev pub WasReadTo : ℕ → Option (List ℕ) → List ℕ → Type 0
WasReadTo limit told bytes = (Had told bytes × (length bytes ≤ limit)) ⊎ (Began told bytes × (limit < length bytes))

-- the same of a script
abbrev pub WasRead : Option (List ℕ) → List ℕ → Type 0
WasRead told bytes = WasReadTo script_limit told bytes

-- what was read is all that the source had, or more bytes than the limit
abbrev pub IsRead : ℕ → Option (List ℕ) → Text → Type 0
IsRead limit told (Whole bytes) = Had told bytes.items × (length bytes.items ≤ limit)
IsRead limit told (TooLong bytes) = Began told bytes.items × (limit < length bytes.items)

-- the bytes that were read
abbrev pub read_bytes : Text → List ℕ
read_bytes (Whole bytes) = bytes.items
read_bytes (TooLong bytes) = bytes.items

-- a failed read comes only where the count of faults rose
abbrev pub IsRefusal : ℕ → ℕ → ReadError → Type 0
IsRefusal before now Failed = Rose before now
IsRefusal before now NoMemory = Unit {0}
