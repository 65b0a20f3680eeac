-- `number::powers::top_power` meets its contract, by the definition. A number from 1 up has 1 to 64 binary digits.
use mathlib.Core.Path.{ap, ◌∙◌}
use Prim.Native.Nat.{ℕ, ◌-◌, ◌^◌}
use native.Mathlib.Omega.{arith}
use Rattle.number.specs.Bits.{top_power}
use Rattle.number.proofs.Bits.{some_digit, len_max}
use Rattle.number.proofs.powers.top_power.Goals as goal

pub overflow_sub-bit_len : goal.overflow_sub-bit_len
overflow_sub-bit_len c = omega (arith, c.bit_len.ensures, some_digit c.args.n c.requires)

pub power_of_two-requires : goal.power_of_two-requires
power_of_two-requires c =
    let n = c.args.n in
    omega (arith, c.bit_len.ensures, len_max n 64 c.ranges.n.fits, some_digit n c.requires)

pub returns : goal.returns
unfolding top_power
returns c = c.power_of_two.ensures ∙ ap (λ (digits : ℕ). 2 ^ (digits - 1)) c.bit_len.ensures
