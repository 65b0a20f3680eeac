-- `conversion::call::check_input` meets its contract: it makes the definition's tests of the coefficients in the definition's order.
use mathlib.Core.Path.{◌≡◌, sym, ◌∙◌, ap}
use mathlib.Core.Bool.{Bool, false, not}
use Prim.Native.Nat.{◌-◌}
use native.Mathlib.Omega.{arith}
use borrow.Author.Tests.{lt-ltb, le-ltb}
use lib.Dec.{ltb}
use lib.ListN.{length}
use Rattle.number.specs.Numbers.{whole_numbers}
use Rattle.conversion.proofs.TestedLaws as call
use Rattle.conversion.proofs.call.check_input.Goals as goal
use Rattle.conversion.proofs.call.check_input.Goals.{After-sum_fits, Else-degree_of-gt-CONVERT_LIMIT}

-- the degree is not too high
low : (c : Else-degree_of-gt-CONVERT_LIMIT) → ltb 20 (length c.args.c.now - 1) ≡ false
low c = le-ltb 20 (length c.args.c.now - 1) (omega (arith, c.degree_of.ensures, c.if-degree_of-gt-CONVERT_LIMIT.false))

small : {flag : Bool} (c : After-sum_fits) → c.sum_fits.result ≡ flag
    → not (whole_numbers.small c.args.c.now) ≡ not flag
small c e = ap not (sym c.sum_fits.ensures ∙ e)

pub returns-then-degree_of-gt-CONVERT_LIMIT : goal.returns-then-degree_of-gt-CONVERT_LIMIT
returns-then-degree_of-gt-CONVERT_LIMIT c =
    call.too_high_lem c.args.to c.args.c.now
    (lt-ltb 20 (length c.args.c.now - 1) (omega (arith, c.degree_of.ensures, c.if-degree_of-gt-CONVERT_LIMIT.true)))

pub returns-then-not-sum_fits : goal.returns-then-not-sum_fits
returns-then-not-sum_fits c =
    let here = goal.at.returns-then-not-sum_fits c in
    call.too_large_lem c.args.to c.args.c.now (low here.Else-degree_of-gt-CONVERT_LIMIT) (small here.After-sum_fits c.if-not-sum_fits.true)

pub returns-then-not-is_whole : goal.returns-then-not-is_whole
returns-then-not-is_whole c =
    let here = goal.at.returns-then-not-is_whole c in
    call.not_whole_lem c.args.to c.args.c.now (low here.Else-degree_of-gt-CONVERT_LIMIT) (small here.After-sum_fits c.if-not-sum_fits.false)
    (sym c.is_whole.ensures ∙ c.if-not-is_whole.true)

pub returns : goal.returns
returns c =
    let here = goal.at.returns c in
    call.whole c.args.to c.args.c.now (low here.Else-degree_of-gt-CONVERT_LIMIT) (small here.After-sum_fits c.if-not-sum_fits.false)
    (sym c.is_whole.ensures ∙ c.if-not-is_whole.false)
