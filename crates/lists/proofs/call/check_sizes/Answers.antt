-- `lists::call::check_sizes` meets its contract: it makes the definition's tests in the definition's order. Each answer is given where the
-- tests ahead of it failed and its own held, or, for 0, where all failed.
use mathlib.Core.Path.{◌≡◌, ◌∙◌}
use mathlib.Core.Bool.{false}
use Prim.Native.Nat.{◌-◌}
use native.Mathlib.Omega.{arith}
use borrow.Author.Tests.{lt-ltb, le-ltb, eq-eqb, ne_eqb}
use lib.Dec.{ltb, eqb}
use Rattle.number.specs.Limits.{plan_limit}
use Rattle.lists.specs.inside.ListTests.{early_refusal}
use Rattle.lists.proofs.call.check_sizes.Goals as goal
use Rattle.lists.proofs.call.check_sizes.Goals.{Else-degree-eq0, Else-degree-gt-PLAN_LIMIT}

-- the degree is not too high, and not 0
not_high : (c : Else-degree-gt-PLAN_LIMIT) → ltb plan_limit (c.args.n - 1) ≡ false
not_high c = le-ltb plan_limit (c.args.n - 1) (omega (arith, c.degree_of-degree.ensures, c.if-degree-gt-PLAN_LIMIT.false))

not-zero : (c : Else-degree-eq0) → eqb (c.args.n - 1) 0 ≡ false
not-zero c = ne_eqb (c.args.n - 1) 0 (λ zero. c.if-degree-eq0.false (c.degree_of-degree.ensures ∙ zero))

pub returns-then-degree-gt-PLAN_LIMIT : goal.returns-then-degree-gt-PLAN_LIMIT
unfolding early_refusal
returns-then-degree-gt-PLAN_LIMIT c = rw (lt-ltb plan_limit (c.args.n - 1) (omega (arith, c.degree_of-degree.ensures, c.if-degree-gt-PLAN_LIMIT.true)))

pub returns-then-degree-eq0 : goal.returns-then-degree-eq0
unfolding early_refusal
returns-then-degree-eq0 c =
    let here = goal.at.returns-then-degree-eq0 c in
    let n = c.args.n in
    rw (not_high here.Else-degree-gt-PLAN_LIMIT, eq-eqb (n - 1) 0 (omega (arith, c.degree_of-degree.ensures, c.if-degree-eq0.true)))

pub returns-then-not-small : goal.returns-then-not-small
unfolding early_refusal
returns-then-not-small c =
    let here = goal.at.returns-then-not-small c in
    rw (not_high here.Else-degree-gt-PLAN_LIMIT, not-zero here.Else-degree-eq0, c.if-not-small.true)

pub returns-then-room-n : goal.returns-then-room-n
unfolding early_refusal
returns-then-room-n c =
    let here = goal.at.returns-then-room-n c in
    let args = c.args in
    rw (not_high here.Else-degree-gt-PLAN_LIMIT, not-zero here.Else-degree-eq0, c.if-not-small.false, lt-ltb args.room args.n c.if-room-n.true)

pub returns : goal.returns
unfolding early_refusal
returns c =
    let here = goal.at.returns c in
    let args = c.args in
    rw (not_high here.Else-degree-gt-PLAN_LIMIT, not-zero here.Else-degree-eq0, c.if-not-small.false, le-ltb args.room args.n c.if-room-n.false)
