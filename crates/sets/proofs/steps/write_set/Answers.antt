-- `sets::steps::write_set` meets its contract: no mark is above the greatest power that a member may need, so the first marks give the common power
-- steps; behind them those of the members stand.
use Prim.Native.Nat.{◌+◌}
use native.Mathlib.Omega.{arith}
use Rattle.std.proofs.lemmas.List.{length-take}
use Rattle.sets.proofs.SetWriting.{marks_fit, members_fit, set_put}
use Rattle.sets.proofs.steps.write_set.Goals as goal

pub write_marks-powers-requires : goal.write_marks-powers-requires
write_marks-powers-requires c =
    let last = c.greatest_power-last.result in
    marks_fit c.requires c.greatest_power-last.ensures.0 (omega (arith, length-take (last + 1) c.args.marks.now, c.requires.common.size))

pub write_members-requires : goal.write_members-requires
write_members-requires c =
    members_fit c.requires c.greatest_power-last.ensures.0 c.write_marks-powers.ensures c.write_marks-powers.auto.steps

pub returns : goal.returns
returns c = set_put c.requires c.greatest_power-last.ensures.0 c.write_marks-powers.ensures c.write_members.ensures.0
