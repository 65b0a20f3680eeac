-- `interpolation::check_lent` meets its contract. It makes the definition's tests in the definition's order, and each way out has the outcome of those
-- before it.
use borrow.Author.Tests.{lt-ltb, le-ltb}
use mathlib.Core.Path.{◌≡◌}
use mathlib.Core.Bool.{true, false}
use lib.ListN.{length}
use Rattle.number.specs.Tests.{miscounted}
use Rattle.interpolation.specs.InterpolateCall.{interpolate_refusal}
use Rattle.interpolation.proofs.check_lent.Goals as goal

pub returns-then-miscounted : goal.returns-then-miscounted
unfolding interpolate_refusal
returns-then-miscounted c =
    let args = c.args in
    let wrong : (miscounted (length args.nodes.now) (length args.values.now)).0 ≡ true = cc in
    rw wrong

pub returns-then-not-a-b : goal.returns-then-not-a-b
unfolding interpolate_refusal
returns-then-not-a-b c =
    let args = c.args in
    let counted : (miscounted (length args.nodes.now) (length args.values.now)).0 ≡ false = cc in
    rw (counted, c.if-not-a-b.true)

pub returns-then-out-n : goal.returns-then-out-n
unfolding interpolate_refusal
returns-then-out-n c =
    let args = c.args in
    let counted : (miscounted (length args.nodes.now) (length args.values.now)).0 ≡ false = cc in
    let short = lt-ltb (length args.out.now) (length args.nodes.now) c.if-out-n.true in
    rw (counted, c.if-not-a-b.false, short)

pub returns : goal.returns
unfolding interpolate_refusal
returns c =
    let args = c.args in
    let counted : (miscounted (length args.nodes.now) (length args.values.now)).0 ≡ false = cc in
    let enough = le-ltb (length args.out.now) (length args.nodes.now) c.if-out-n.false in
    rw (counted, c.if-not-a-b.false, enough)
