-- `plan::outline::total_low` meets its contract, number by number. A degree from the base on has more binary digits than the split says, so base
-- and lists are small, and so is their product.
use mathlib.Core.Path.{◌≡◌}
use Prim.Native.Nat.{ℕ, ◌-◌, ◌*◌, ◌^◌, ◌≤◌, ◌<◌}
use native.Mathlib.Nat.{mul-le-mul}
use native.Mathlib.Omega.{arith}
use lib.Pow.{pow_mono, pow_pos}
use Rattle.algebra.specs.declared.Parity.{Parity}
use Rattle.number.specs.Bits.{bit_len}
use Rattle.number.specs.Limits.{plan_limit}
use Rattle.number.proofs.Bits.{few_digits}
use Rattle.needed.proofs.BaseLaws.{split_under}
use Rattle.counts.specs.PlainCount.{allowed_to}
use Rattle.counts.proofs.PlainCount.{allowed_at_most}
use Rattle.plan.specs.inside.Outlines.{low_totals}
use Rattle.plan.proofs.outline.total_low.Goals as goal

module _ (degree split : ℕ) (from : 2 ^ split ≤ degree) (limit : degree ≤ plan_limit) where
  few : split < 12
  few = omega (arith, split_under degree split from, few_digits degree limit)

  product_fits : {lists each base : ℕ} (parity : Parity) → lists ≡ 2 ^ (bit_len degree - 1 - split) → base ≡ 2 ^ split
      → each ≡ allowed_to parity (base - 1) → lists * each < 2 ^ 64
  product_fits {lists} {each} {base} parity lists_are base_is each_is =
      let digits = few_digits degree limit in
      let most : 2 ^ (bit_len degree - 1 - split) ≤ 2 ^ 12 = pow_mono {j = 12} (omega arith) in
      let lists_few : lists ≤ 4096 = omega arith in
      let each_few : each ≤ 4095 = omega (arith, allowed_at_most parity (base - 1)) in
      let product : lists * each ≤ 4096 * 4095 = mul-le-mul lists_few each_few in
      omega arith

told : {lists each base : ℕ} (parity : Parity) (degree split : ℕ) → lists ≡ 2 ^ (bit_len degree - 1 - split) → base ≡ 2 ^ split
    → each ≡ allowed_to parity (base - 1) → record { lists = lists; pt = lists * each; last = base } ≡ low_totals parity degree split
unfolding low_totals
told parity degree split lists_are base_is each_is = rw (each_is, lists_are, base_is)

pub power_of_two-base-requires : goal.power_of_two-base-requires
power_of_two-base-requires c = omega (arith, few c.args.degree c.args.split c.requires.0 c.requires.1)

pub overflow_sub-base : goal.overflow_sub-base
overflow_sub-base c = omega (arith, pow_pos c.args.split)

pub allowed_to-each-requires : goal.allowed_to-each-requires
allowed_to-each-requires c = omega (arith, c.requires)

pub overflow_mul-result : goal.overflow_mul-result
overflow_mul-result c =
    let fits = product_fits c.args.degree c.args.split c.requires.0 c.requires.1 c.args.parity
    c.low_lists-lists.ensures c.power_of_two-base.ensures c.allowed_to-each.ensures in
    omega arith

pub returns : goal.returns
returns c =
    told c.args.parity c.args.degree c.args.split c.low_lists-lists.ensures c.power_of_two-base.ensures
    c.allowed_to-each.ensures
