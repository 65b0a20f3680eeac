-- `counts::bound::fewest_ct` meets its contract. Below the base there is one slice, and its allowed powers from 2 are needed. From the base on
-- the combines are at least degree / base, and one multiplication moves to pt-ct only at a power of two.
use mathlib.Core.Path.{sym, ◌∙◌}
use Prim.Native.Nat.{◌-◌, ◌^◌, ◌≤◌, ◌<◌}
use native.Mathlib.Omega.{arith}
use lib.Pow.{shr_le}
use Rattle.needed.specs.inside.Planned.{Planned}
use Rattle.number.proofs.Bits.{few_digits}
use Rattle.needed.proofs.BaseLaws.{split_under, small_planned}
use Rattle.counts.proofs.PlainCount.{allowed_at_most}
use Rattle.counts.proofs.BoundLaws.{fewest_below, fewest_plain, fewest_other}
use Rattle.counts.proofs.bound.fewest_ct.Goals as goal
use Rattle.counts.proofs.bound.fewest_ct.Goals.{After-bit_len}

-- from the base on: base − 1 may be planned, and the degree has more digits than the split
module _ (c : After-bit_len) where
  planned : Planned (c.power_of_two-base.result - 1) c.args.slicing.split
  planned = small_planned c.args.slicing.planned.splits c.power_of_two-base.ensures

  longer : c.args.slicing.split < c.bit_len.result
  longer =
      let args = c.args in
      let reached : 2 ^ args.slicing.split ≤ args.slicing.degree = omega arith in
      omega (arith, c.bit_len.ensures, split_under args.slicing.degree args.slicing.split reached)

  few_powers : c.allowed_from_two-2.result ≤ 4095
  few_powers =
      omega (arith, planned, c.allowed_from_two-2.ensures, allowed_at_most c.args.parity (c.power_of_two-base.result - 1))

pub returns-then-degree-base : goal.returns-then-degree-base
returns-then-degree-base c = λ basis.
    let args = c.args in
    let under : args.slicing.degree < 2 ^ args.slicing.split = rw c.power_of_two-base.ensures at c.if-degree-base.true in
    fewest_below args.parity basis args.slicing.degree args.slicing.split under c.allowed_from_two.ensures

pub overflow_sub-base : goal.overflow_sub-base
overflow_sub-base c =
    let planned = small_planned c.args.slicing.planned.splits c.power_of_two-base.ensures in
    omega arith

pub allowed_from_two-requires-2 : goal.allowed_from_two-requires-2
allowed_from_two-requires-2 c =
    (small_planned c.args.slicing.planned.splits c.power_of_two-base.ensures).degrees

pub overflow_sub-powers : goal.overflow_sub-powers
overflow_sub-powers c = omega (arith, longer (goal.at.overflow_sub-powers c).After-bit_len)

pub overflow_add-powers : goal.overflow_add-powers
overflow_add-powers c =
    omega (arith, few_powers (goal.at.overflow_add-powers c).After-bit_len, c.bit_len.ensures, few_digits c.args.slicing.degree c.args.slicing.planned.degrees.to)

pub overflow_add-ct : goal.overflow_add-ct
overflow_add-ct c =
    let here = goal.at.overflow_add-ct c in
    let combines = shr_le c.args.slicing.degree c.args.slicing.split in
    omega (arith, few_powers here.After-bit_len, c.bit_len.ensures, few_digits c.args.slicing.degree c.args.slicing.planned.degrees.to, c.args.slicing.planned.degrees.to)

pub overflow_sub-result : goal.overflow_sub-result
overflow_sub-result c = omega (arith, longer (goal.at.overflow_sub-result c).After-bit_len)

pub returns-then-degree-top_power : goal.returns-then-degree-top_power
returns-then-degree-top_power c = λ basis.
    let args = c.args in
    fewest_plain args.parity basis args.slicing.degree args.slicing.split c.allowed_from_two-2.result c.args.slicing.planned.splits.from
    c.power_of_two-base.ensures c.bit_len.ensures c.if-degree-base.false c.allowed_from_two-2.ensures

pub returns-else-degree-top_power : goal.returns-else-degree-top_power
returns-else-degree-top_power c = λ basis.
    let args = c.args in
    fewest_other args.parity basis args.slicing.degree args.slicing.split c.allowed_from_two-2.result c.args.slicing.planned.splits.from
    c.power_of_two-base.ensures c.bit_len.ensures c.if-degree-base.false c.allowed_from_two-2.ensures
    (λ power. c.if-degree-top_power.false (power ∙ sym c.top_power.ensures))
