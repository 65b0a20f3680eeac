-- `sets::input::set_heads` meets its contract. The invariant: the heads of the members passed stand in the array, and zero heads behind them.
use mathlib.Core.Path.{refl, ◌∙◌, ap}
use lib.ListN.{replicate}
use Rattle.sets.proofs.InputLaws.{heads_none, heads_more, heads_all}
use Rattle.sets.specs.SetPlan.{member_limit}
use Rattle.sets.specs.inside.Planning.{SettingsPass}
use Rattle.sets.proofs.Arrays.{no_member, each_at}
use Rattle.sets.proofs.input.set_heads.Goals as goal

pub loop-i-init : goal.loop-i-init
loop-i-init c = ap (replicate member_limit) c.no_head-heads.ensures ∙ heads_none c.args.members.now

pub member_head-requires : goal.member_head-requires
member_head-requires c = each_at no_member SettingsPass c.loop-i.i c.args.members.now c.loop-i-test.true c.requires.passes

pub loop-i-preserved : goal.loop-i-preserved
loop-i-preserved c =
    heads_more c.args.members.now c.requires.few c.loop-i.i c.loop-i-test.true c.loop-i.invariant c.member_head.ensures refl

pub returns : goal.returns
returns c = heads_all c.args.members.now c.loop-i-test.false c.loop-i.invariant
