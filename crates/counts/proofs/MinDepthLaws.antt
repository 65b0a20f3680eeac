-- MinDepth's cases are what the source's formulas give: at every bit length up to 32 both are computed and compared. Each power of two in the
-- formulas is greater than its exponent and at most 2^32, so no difference in them falls below 0 and no sum passes 64 bits.
use mathlib.Core.Path.{◌≡◌, refl}
use mathlib.Core.Bool.{Bool, true, ◌&&◌}
use Prim.Native.Nat.{ℕ, zero, suc, ◌+◌, ◌-◌, ◌/◌, ◌≤◌, ◌<◌}
use native.Mathlib.Omega.{arith}
use borrow.Author.Tests.{eqb-true}
use borrow.Author.Count.{below_more}
use lib.Dec.{eqb}
use Rattle.algebra.specs.declared.Basis.{Basis}
use Rattle.algebra.specs.declared.Parity.{Parity}
use Rattle.number.specs.Bits.{bit_len}
use Rattle.number.specs.Limits.{degree_limit}
use Rattle.counts.specs.MinDepth.{min_depth, a_exceeds_b, published_min_depth}
use Rattle.counts.specs.Choice.{split_for}
use Rattle.counts.specs.Promises.{CasePublished}
use Rattle.counts.specs.declared.choice.SplitStrategy.TheVariants.{MinDepth}
use Rattle.number.proofs.BothHold.{and_left, and_right}
use Rattle.number.proofs.Bits.{digits_range, power_range}

-- every number below n passes a test
passes : (test : ℕ → Bool) → (n : ℕ) → Bool
passes test zero = true
passes test (suc n) = test n && passes test n

passed : (test : ℕ → Bool) (n : ℕ) → passes test n ≡ true → (m : ℕ) → m < n → test m ≡ true
unfolding passes
passed test zero all m below = absurd (omega arith)
passed test (suc n) all m below =
    let before = passed test n (and_right (test n) (passes test n) all) in
    below_more (λ (k : ℕ). test k ≡ true) n before (and_left (test n) (passes test n) all) m (omega arith)

-- whether the case of a bit length is what the formulas give
agrees : (bits : ℕ) → Bool
agrees bits = eqb (min_depth bits) (published_min_depth bits)

to_32 : passes agrees 33 ≡ true
unfolding passes agrees min_depth published_min_depth a_exceeds_b
to_32 = refl

same : (bits : ℕ) → bits ≤ 32 → min_depth bits ≡ published_min_depth bits
unfolding agrees
same bits few = eqb-true (min_depth bits) (published_min_depth bits) (passed agrees 33 to_32 bits (omega arith))

pub case_published : (bits : ℕ) → 1 ≤ bits → bits ≤ 32 → CasePublished bits
case_published bits some few =
    let low = power_range {k = bits / 2} (omega arith) refl in
    let high = power_range {k = bits - bits / 2} (omega arith) refl in
    let low' = power_range {k = bits / 2 + 1} (omega arith) refl in
    let high' = power_range {k = bits - bits / 2 - 1} (omega arith) refl in
    record {
      same = same bits few;
      exponents = omega arith;
      a_from_zero = omega (arith, low, high);
      b_from_zero = omega (arith, low', high');
      a_fits = omega (arith, low, high);
      b_fits = omega (arith, low', high');
    }

pub split_published : (parity : Parity) (basis : Basis) (degree : ℕ) → 1 ≤ degree → degree ≤ degree_limit
    → split_for MinDepth parity basis degree ≡ published_min_depth (bit_len degree)
unfolding split_for
split_published parity basis degree some most = same (bit_len degree) (digits_range degree (record { from = some; to = most })).to
