-- The value of a work. Own.
use Rattle.std.specs.Prelude.{ℕ, ℤ, pos, negsuc, zero, suc, ◌+◌, ◌*◌, ◌/◌, ◌%◌, ◌^◌, ◌*ℤ◌, nat_le, nat_lt, Bool, if◌then◌else◌}
use Rattle.ak_base.specs.Numbers.{fits}
use Rattle.ak_labor.specs.declared.work.WorkKind.{WorkKind}
use Rattle.ak_labor.specs.declared.work.WorkKind.TheVariants.{Square, Mix, Fail}
use Rattle.ak_labor.specs.declared.work.Work.{Work}
use Rattle.ak_labor.specs.declared.work.Outcome.{Outcome}
use Rattle.ak_labor.specs.declared.work.Outcome.TheVariants.{Good, Bad}

-- the error of a work whose number is outside its range
abbrev pub out_of_range : ℤ
out_of_range = negsuc 7

-- so many steps of a generator of 64 bits
abbrev pub mixed : ℕ → ℕ → ℕ
mixed zero s = s
mixed (suc steps) s = mixed steps ((s * 6364136223846793005 + 1442695040888963407) % 2 ^ 64)

-- the square, or an error where it has more than 64 bits
abbrev pub square_of : ℤ → Outcome
square_of z = if fits (z *ℤ z) then Good (z *ℤ z) else Bad out_of_range

-- the upper half of n after n steps, for n up to a million, or else an error
abbrev pub mix_of : ℤ → Outcome
mix_of (pos n) = if nat_le n 1000000 then Good (pos (mixed n n / 2 ^ 32)) else Bad out_of_range
mix_of (negsuc n) = Bad out_of_range

abbrev pub value_by : WorkKind → ℤ → Outcome
value_by Square z = square_of z
value_by Mix z = mix_of z
value_by Fail z = Bad z

-- what a work gives, whoever does it
abbrev pub value_of : Work → Outcome
value_of work = value_by work.kind work.num
