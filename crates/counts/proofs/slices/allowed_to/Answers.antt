-- `counts::slices::allowed_to` meets its contract, by the closed form of each parity. Of the powers 1 to d `Full` allows d, `Even` d / 2 and `Odd`
-- (d + 1) / 2.
use mathlib.Core.Path.{sym}
use native.Mathlib.Omega.{arith}
use Rattle.counts.proofs.PlainCount.{allowed_counts}
use Rattle.counts.proofs.slices.allowed_to.Goals as goal

pub returns-in-Full : goal.returns-in-Full
returns-in-Full c = sym (rw c.in-Full.is (allowed_counts _).full)

pub returns-in-Even : goal.returns-in-Even
returns-in-Even c = sym (rw c.in-Even.is (allowed_counts _).even)

pub returns-in-Odd : goal.returns-in-Odd
returns-in-Odd c = rw c.in-Odd.is (omega (arith, c.div_ceil.ensures, (allowed_counts c.args.degree).odd))
