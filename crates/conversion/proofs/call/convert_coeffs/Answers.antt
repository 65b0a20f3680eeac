-- `conversion::call::convert_coeffs` meets its contract. A refusal of the input is the call's refusal, whatever the other tests say, and nothing is written;
-- otherwise there are at most 21 coefficients, so that there are zeros enough for them.
use mathlib.Core.Path.{◌≡◌, sym}
use Prim.Native.Nat.{◌≤◌}
use lib.IntN.{pos}
use lib.ListN.{length, replicate}
use lib.Seq.{length-take-le}
use Rattle.std.proofs.Common.{rules, Err}
use Rattle.algebra.proofs.Lists.{take_replicate}
use Rattle.number.proofs.Refused.{refused}
use Rattle.conversion.proofs.TestedLaws as call
use Rattle.conversion.proofs.call.convert_coeffs.Goals as goal
use Rattle.conversion.proofs.call.convert_coeffs.Goals.{In_ok-check_input}

few : (c : In_ok-check_input) → length c.args.c.now ≤ 21
few c = (call.input_ready c.args.to c.args.c.now (sym c.in_ok-check_input.ensures)).few

pub returns-in_err-check_input : goal.returns-in_err-check_input
returns-in_err-check_input c =
    let refusal = c.in_err-check_input.field-0.0 in
    let is : c.from_residual.result ≡ Err refusal = search rules in
    rw is (call.call_refused_early c.args.to c.args.c.now c.args.out.now _ c.in_err-check_input.ensures (refused refusal))

pub slice_bounds-new-end : goal.slice_bounds-new-end
slice_bounds-new-end c = few (goal.at.slice_bounds-new-end c).In_ok-check_input

pub slice_bounds-convert_passed-end : goal.slice_bounds-convert_passed-end
slice_bounds-convert_passed-end c =
    sym (length-take-le _ (replicate 21 (pos 0)) (few (goal.at.slice_bounds-convert_passed-end c).In_ok-check_input))

pub convert_passed-requires : goal.convert_passed-requires
convert_passed-requires c =
    (sym c.in_ok-check_input.ensures, take_replicate (pos 0) _ 21 (few (goal.at.convert_passed-requires c).In_ok-check_input))
