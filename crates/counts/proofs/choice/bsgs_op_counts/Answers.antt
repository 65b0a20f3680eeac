-- `counts::choice::bsgs_op_counts` meets its contract. Its first test is that of refusal 2, and degree 0 has the pair (0, 0).
-- Any other degree has the pair at its chosen split, which is from 1 to 12.
use native.Mathlib.Omega.{arith}
use borrow.Author.Tests.{le-ltb}
use Rattle.number.specs.Limits.{plan_limit}
use Rattle.number.specs.Refusal.{unless_refused}
use Rattle.number.specs.inside.Between.{Between}
use Rattle.counts.specs.Choice.{counts_of}
use Rattle.counts.specs.Calls.{counts_call}
use Rattle.counts.proofs.ChoiceLaws.{split_range, counts_from_one}
use Rattle.counts.proofs.choice.bsgs_op_counts.Goals as goal

pub returns-then-degree-eq0 : goal.returns-then-degree-eq0
unfolding counts_call counts_of unless_refused
returns-then-degree-eq0 c = rw (le-ltb _ _ c.if-degree-gt-PLAN_LIMIT.false, c.if-degree-eq0.true)

pub invariant_of-slicing : goal.invariant_of-slicing
invariant_of-slicing c =
    let settings = c.args.settings in
    let degrees : Between 1 c.args.degree plan_limit = record { from = omega (arith, c.if-degree-eq0.false); to = c.if-degree-gt-PLAN_LIMIT.false } in
    let splits = split_range settings.strategy settings.parity settings.basis c.args.degree degrees in
    record { planned = record { degrees = degrees; splits = rw c.split_for_strategy-split.ensures splits } }

pub returns : goal.returns
unfolding counts_call unless_refused
returns c =
    let settings = c.args.settings in
    let counted = counts_from_one settings.strategy settings.parity settings.basis c.args.degree (omega (arith, c.if-degree-eq0.false)) in
    rw (le-ltb _ _ c.if-degree-gt-PLAN_LIMIT.false, counted, c.estimate_op_counts.ensures, c.split_for_strategy-split.ensures)
