-- Numbers of scripts: 64 bits with a sign. Own.
use Rattle.std.specs.Prelude.{ℤ, pos, negsuc, ◌+ℤ◌, ◌-ℤ◌, ◌*ℤ◌, ◌^◌, zero, suc, Bool, true, false, not, nat_lt, int_lt, int_le, int_div, int_rem, if◌then◌else◌}
use Rattle.ak_base.specs.Numbers.{fits}
use Rattle.ak_script.specs.declared.statement.Operator.{Operator}
use Rattle.ak_script.specs.declared.statement.Operator.TheVariants.{Add, Sub, Mul, Div, Rem, Less, LessEq, Equal, NotEqual}

-- what an operation gives: a number, or the reason why it raises
pub data Computed : Type 0 where
  Gives : ℤ → Computed
  Overflows : Computed
  DividesByZero : Computed

-- the number, where it has 64 bits
abbrev pub in_range : ℤ → Computed
in_range z = if fits z then Gives z else Overflows

-- whether a number is 0
abbrev pub is_zero : ℤ → Bool
is_zero (pos zero) = true
is_zero (pos (suc n)) = false
is_zero (negsuc n) = false

-- 1 where it holds, and else 0
abbrev pub truth : Bool → ℤ
truth b = if b then pos 1 else pos 0

-- what is computed, where the divisor is not 0
abbrev pub by_nonzero : ℤ → Computed → Computed
by_nonzero b c = if is_zero b then DividesByZero else c

-- what an operator gives: a quotient is cut towards zero, a remainder has the sign of the first number, and a comparison
-- gives 1 or 0
abbrev pub computed : Operator → ℤ → ℤ → Computed
computed Add a b = in_range (a +ℤ b)
computed Sub a b = in_range (a -ℤ b)
computed Mul a b = in_range (a *ℤ b)
computed Div a b = by_nonzero b (in_range (int_div a b))
computed Rem a b = by_nonzero b (Gives (int_rem a b))
computed Less a b = Gives (truth (int_lt a b))
computed LessEq a b = Gives (truth (int_le a b))
computed Equal a b = Gives (truth (is_zero (a -ℤ b)))
computed NotEqual a b = Gives (truth (not (is_zero (a -ℤ b))))
