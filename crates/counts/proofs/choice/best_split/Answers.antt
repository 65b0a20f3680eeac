-- `counts::choice::best_split` meets its contract. The invariant: the best is as good as every split passed, and it begins with a split from 1 to
-- the bit length. After the last split no split is better, so it is the smallest with the least pair.
use Prim.Native.Nat.{◌<◌}
use native.Mathlib.Omega.{arith}
use Rattle.number.specs.inside.Between.{Between}
use Rattle.counts.specs.Pair.{pair_at}
use Rattle.counts.proofs.ChoiceLaws.{depth_range}
use Rattle.counts.proofs.BetterLaws.{begins, goes_on, ends}
use Rattle.counts.proofs.choice.best_split.Goals as goal
use Rattle.counts.proofs.choice.best_split.Goals.{After-min_depth-likely}

-- the likely split is one of the splits
module _ (c : After-min_depth-likely) where
  likely_range : Between 1 c.min_depth-likely.result c.args.bits
  likely_range =
      let range = depth_range c.args.bits c.requires.1.from in
      rw c.min_depth-likely.ensures range

pub invariant_of-slicing : goal.invariant_of-slicing
invariant_of-slicing c =
    let likely = likely_range (goal.at.invariant_of-slicing c).After-min_depth-likely in
    record { planned = record { degrees = c.requires.0; splits = record { from = likely.from; to = omega (arith, c.requires.1.to) } } }

pub loop-split-init : goal.loop-split-init
loop-split-init c =
    let args = c.args in
    let likely = likely_range (goal.at.loop-split-init c).After-min_depth-likely in
    begins (pair_at args.parity args.basis args.degree) args.bits _ likely.from likely.to c.estimate_op_counts.ensures

pub invariant_of-better_at : goal.invariant_of-better_at
invariant_of-better_at c =
    let loop = c.loop-split in
    record { planned = record { degrees = c.requires.0; splits = record { from = omega arith; to = omega (arith, c.requires.1.to) } } }

pub better_at-best-requires : goal.better_at-best-requires
better_at-best-requires c = c.loop-split.invariant.pair

pub loop-split-preserved : goal.loop-split-preserved
loop-split-preserved c =
    let loop = c.loop-split in
    let args = c.args in
    goes_on (pair_at args.parity args.basis args.degree) args.bits (omega arith) (omega arith) loop.invariant c.better_at-best.ensures

pub returns : goal.returns
returns c =
    let loop = c.loop-split in
    let args = c.args in
    let past : args.bits < loop.split = omega arith in
    ends (pair_at args.parity args.basis args.degree) args.bits past loop.invariant
