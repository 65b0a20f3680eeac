-- `number::powers::power_below` meets its contract, by the definition: it is the top power of n - 1.
use Rattle.number.specs.Bits.{power_below}
use Rattle.number.proofs.powers.power_below.Goals as goal

pub returns : goal.returns
unfolding power_below
returns c = c.top_power.ensures
