-- The two chains of the bits, for degrees from 1: each by the test that decides it. Neither has more than 32 ct-ct multiplications.
use mathlib.Core.Path.{◌≡◌, refl, ap, sym, ◌∙◌}
use mathlib.Core.Bool.{Bool, true, false, cond}
use Prim.Native.Nat.{ℕ, zero, suc, ◌+◌, ◌-◌, ◌*◌, ◌≤◌, ◌<◌, max}
use native.Mathlib.Nat.{mul-le-mul}
use native.Mathlib.Omega.{arith}
use borrow.Author.Tests.{eq-eqb, ne_eqb}
use lib.Dec.{eqb}
use Rattle.number.specs.Bits.{bit_len, is_power_of_two, top_power}
use Rattle.number.specs.Limits.{degree_limit, scale_limit}
use Rattle.number.specs.inside.Between.{Between}
use Rattle.counts.specs.Depth.{depth_of}
use Rattle.counts.specs.ConsumedBits.{pure_chain, chain_before, bits_of}
use Rattle.counts.specs.declared.choice.SplitStrategy.{SplitStrategy}
use Rattle.counts.specs.declared.choice.SplitStrategy.TheVariants.{MinDepth, MinMult}
use Rattle.number.proofs.Bits.{digits_range}
use Rattle.counts.proofs.DepthLaws.{depth_bounds}

-- ---- the chains

module _ (degree : ℕ) {bits p : ℕ} (bits_is : bits ≡ bit_len degree) (p_is : p ≡ top_power degree) where
  pub pure_less : degree ≡ p → bits - 1 ≡ pure_chain degree
  unfolding pure_chain is_power_of_two
  pure_less power = rw (eq-eqb degree (top_power degree) (power ∙ p_is), bits_is)

  pub pure_whole : (degree ≡ p → ⊥) → bits ≡ pure_chain degree
  unfolding pure_chain is_power_of_two
  pure_whole other =
      let test = ne_eqb degree (top_power degree) (λ (power : degree ≡ top_power degree). other (power ∙ sym p_is)) in
      rw (test, bits_is) (omega arith)

module _ (degree : ℕ) where
  pub before_least : {depth : ℕ} → depth ≡ depth_of MinDepth degree → depth - 1 ≡ chain_before MinDepth degree
  unfolding chain_before
  before_least is = ap (λ (x : ℕ). x - 1) is

  pub before_five : degree ≡ 5 → 1 ≡ chain_before MinMult degree
  unfolding chain_before
  before_five five = rw (eq-eqb degree 5 five)

  pub before_other : {depth : ℕ} → depth ≡ depth_of MinMult degree → (degree ≡ 5 → ⊥) → depth - 1 ≡ chain_before MinMult degree
  unfolding chain_before
  before_other is other = rw (ne_eqb degree 5 other) (ap (λ (x : ℕ). x - 1) is)

pub bits_from_one : (strategy : SplitStrategy) (degree input coeff : ℕ) → 0 < degree
    → bits_of strategy degree input coeff ≡ max (pure_chain degree * input) (chain_before strategy degree * input + coeff)
unfolding bits_of
bits_from_one strategy zero input coeff positive = absurd (omega arith)
bits_from_one strategy (suc d) input coeff positive = refl

-- ---- their ranges

pub pure_range : (degree : ℕ) → Between 1 degree degree_limit → pure_chain degree ≤ 32
unfolding pure_chain
pure_range degree range = omega (arith, digits_range degree range)

pub before_range : (strategy : SplitStrategy) (degree : ℕ) → Between 1 degree degree_limit → chain_before strategy degree ≤ 32
unfolding chain_before
before_range MinDepth degree range = omega (arith, depth_bounds MinDepth degree range)
before_range MinMult degree range = by_test (eqb degree 5) (omega (arith, depth_bounds MinMult degree range))
  where
    by_test : (test : Bool) → depth_of MinMult degree - 1 ≤ 32 → cond test 1 (depth_of MinMult degree - 1) ≤ 32
    by_test true within = omega arith
    by_test false within = within

-- a chain times a scale
pub weight_small : {r chain scale : ℕ} → r ≡ chain → chain ≤ 32 → scale ≤ scale_limit → r * scale ≤ 32 * scale_limit
weight_small is within low = rw is (mul-le-mul within low)
