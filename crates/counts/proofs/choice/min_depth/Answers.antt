-- `counts::choice::min_depth` meets its contract. Each arm returns the split that stands beside its bit length in the list of cases. The last
-- arm is never reached: every bit length from 1 to 32 has an arm before it.
use mathlib.Core.Path.{◌≡◌, sym, ap}
use Prim.Native.Nat.{ℕ}
use native.Mathlib.Omega.{arith}
use Rattle.counts.specs.MinDepth.{min_depth}
use Rattle.counts.proofs.choice.min_depth.Goals as goal

case : {bits listed : ℕ} → bits ≡ listed → min_depth listed ≡ min_depth bits
case is_listed = sym (ap min_depth is_listed)

-- no bit length is left for the last arm
pub returns-in_default : goal.returns-in_default
returns-in_default c = absurd (omega (arith, c.requires.from, c.requires.to))
