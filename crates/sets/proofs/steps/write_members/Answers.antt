-- `sets::steps::write_members` meets its contract. The invariant: the steps of the members passed stand one member's after another's, and the next step
-- is the one behind them.
use mathlib.Core.Path.{refl, ◌∙◌}
use Rattle.sets.proofs.WritingLaws.{members_none, own_fits, members_more, members_all, members_next}
use Rattle.sets.proofs.steps.write_members.Goals as goal

pub loop-head-init : goal.loop-head-init
loop-head-init c = record { same = refl; upto = members_none c.args.heads.now c.args.step c.args.steps.now }

pub write_own-next-requires : goal.write_own-next-requires
write_own-next-requires c = own_fits c.requires c.loop-head.invariant.upto c.loop-head-test.true c.loop-head.invariant.same

pub loop-head-preserved : goal.loop-head-preserved
loop-head-preserved c = record {
  same = c.write_own-next.auto.steps ∙ c.loop-head.invariant.same;
  upto = members_more c.loop-head-test.true c.loop-head.invariant.upto c.write_own-next.ensures;
}

pub returns : goal.returns
returns c =
    (members_all c.loop-head.invariant.upto c.loop-head-test.false, members_next c.loop-head.invariant.upto c.loop-head-test.false)
