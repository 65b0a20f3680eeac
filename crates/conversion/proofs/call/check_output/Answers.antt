-- `conversion::call::check_output` meets its contract: it makes the definition's tests of the new coefficients in the definition's order.
use mathlib.Core.Path.{◌≡◌, sym, ◌∙◌, ap}
use mathlib.Core.Bool.{Bool, not}
use borrow.Author.Tests.{lt-ltb, le-ltb}
use lib.ListN.{length}
use Rattle.number.specs.Numbers.{whole_numbers}
use Rattle.conversion.proofs.TestedLaws as call
use Rattle.conversion.proofs.call.check_output.Goals as goal
use Rattle.conversion.proofs.call.check_output.Goals.{After-sum_fits}

small : {flag : Bool} (c : After-sum_fits) → c.sum_fits.result ≡ flag → not (whole_numbers.small c.args.new.now) ≡ not flag
small c e = ap not (sym c.sum_fits.ensures ∙ e)

pub returns-then-not-sum_fits : goal.returns-then-not-sum_fits
returns-then-not-sum_fits c =
    let here = goal.at.returns-then-not-sum_fits c in
    call.new_too_large c.args.new.now c.args.room (small here.After-sum_fits c.if-not-sum_fits.true)

pub returns-then-room-new : goal.returns-then-room-new
returns-then-room-new c =
    call.no_room_lem c.args.new.now c.args.room (small (goal.at.returns-then-room-new c).After-sum_fits c.if-not-sum_fits.false)
    (lt-ltb c.args.room (length c.args.new.now) c.if-room-new.true)

pub returns : goal.returns
returns c =
    call.enough_room c.args.new.now c.args.room (small (goal.at.returns c).After-sum_fits c.if-not-sum_fits.false)
    (le-ltb c.args.room (length c.args.new.now) c.if-room-new.false)
