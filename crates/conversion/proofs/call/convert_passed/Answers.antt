-- `conversion::call::convert_passed` meets its contract. The tests of the input pass, so those of the new coefficients decide. A refused call writes nothing
-- to the buffer, and one that passes has room for what is copied.
use mathlib.Core.Path.{◌≡◌, sym, ◌∙◌, ap}
use mathlib.Core.List.{List, ◌++◌}
use Prim.Native.Nat.{ℕ, ◌≤◌}
use lib.IntN.{ℤ}
use lib.ListN.{length, drop}
use lib.Seq.{sets, length-take-le}
use Rattle.std.proofs.Common.{rules, Err}
use Rattle.number.proofs.Refused.{refused}
use Rattle.conversion.specs.ConvertCall.{refusal_for}
use Rattle.conversion.specs.inside.Tested.{output_refusal}
use Rattle.conversion.proofs.TestedLaws as call
use Rattle.conversion.proofs.call.convert_passed.Goals as goal
use Rattle.conversion.proofs.call.convert_passed.Goals.{After-check_output, In_ok-check_output}

-- the refusal of the new coefficients is that of the call
refusal_is : {k : ℕ} (c : After-check_output) → k ≡ output_refusal c.new_coeffs.new.sums (length c.args.out.now)
    → k ≡ refusal_for c.args.to c.args.c.now (length c.args.out.now)
refusal_is c is =
    is
    ∙ ap (λ (new : List ℤ). output_refusal new (length c.args.out.now)) c.new_coeffs.ensures
    ∙ sym (call.tested_late c.args.to c.args.c.now (length c.args.out.now) c.requires.0)

-- where no test holds, there is room for the new coefficients
room : (c : In_ok-check_output) → length c.new_coeffs.new.sums ≤ length c.args.out.now
room c = call.output_room _ _ (sym c.in_ok-check_output.ensures)

pub new_coeffs-requires : goal.new_coeffs-requires
new_coeffs-requires c =
    (call.input_ready c.args.to c.args.c.now c.requires.0, c.requires.1)

pub returns-in_err-check_output : goal.returns-in_err-check_output
returns-in_err-check_output c =
    let here = (goal.at.returns-in_err-check_output c).After-check_output in
    let refusal = c.in_err-check_output.field-0.0 in
    let is : c.from_residual.result ≡ Err refusal = search rules in
    rw is
    (call.call_refused c.args.to c.args.c.now c.args.out.now _ (refusal_is here c.in_err-check_output.ensures) (refused refusal))

pub slice_bounds-copy_from_slice-end : goal.slice_bounds-copy_from_slice-end
slice_bounds-copy_from_slice-end c = room (goal.at.slice_bounds-copy_from_slice-end c).In_ok-check_output

pub copy_from_slice-requires : goal.copy_from_slice-requires
copy_from_slice-requires c = length-take-le _ c.args.out.now (room (goal.at.copy_from_slice-requires c).In_ok-check_output)

pub slice_bounds-copy_from_slice-end-2 : goal.slice_bounds-copy_from_slice-end-2
slice_bounds-copy_from_slice-end-2 c = sym (length-take-le _ c.args.out.now (room (goal.at.slice_bounds-copy_from_slice-end-2 c).In_ok-check_output))

pub returns : goal.returns
returns c =
    let here = goal.at.returns c in
    let out = c.args.out.now in
    let written : c.copy_from_slice.new.self ++ drop (length c.new_coeffs.new.sums) out ≡ sets out 0 c.new_coeffs.new.sums =
    ap (◌++ drop (length c.new_coeffs.new.sums) out) c.copy_from_slice.ensures.after
    ∙ call.front_written c.new_coeffs.new.sums out (room here.In_ok-check_output) in
    call.call_done c.args.to c.args.c.now out _ (sym (refusal_is here.After-check_output c.in_ok-check_output.ensures))
    (written ∙ ap (sets out 0) c.new_coeffs.ensures)
