-- `plan::powers::write_marked` meets its contract: no power above the degree is needed, so the marks up to it hold all of them.
use mathlib.Core.Path.{◌≡◌}
use Prim.Native.Nat.{◌+◌}
use native.Mathlib.Omega.{arith}
use lib.ListN.{length}
use Rattle.number.specs.Limits.{count_limit}
use Rattle.std.proofs.lemmas.List.{length-take}
use Rattle.plan.proofs.PowerSteps.{marks_fit, powers_put, marks_length}
use Rattle.plan.proofs.powers.write_marked.Goals as goal

pub write_marks-requires : goal.write_marks-requires
write_marks-requires c =
    let all : length c.needed_marks-marks.result ≡ count_limit =
    marks_length c.args.parity c.args.basis c.args.slicing.degree c.args.slicing.split count_limit c.needed_marks-marks.ensures
    c.args.slicing.planned (omega (arith, c.args.slicing.planned.degrees.to)) in
    marks_fit c.args.parity c.args.basis c.args.slicing.degree c.args.slicing.split count_limit c.needed_marks-marks.ensures (c.args.slicing.degree + 1)
    (omega (arith, length-take (c.args.slicing.degree + 1) c.needed_marks-marks.result, all)) c.requires

pub returns : goal.returns
returns c =
    powers_put c.args.parity c.args.basis c.args.slicing.degree c.args.slicing.split count_limit c.needed_marks-marks.ensures (c.args.slicing.degree + 1)
    c.write_marks.ensures c.args.slicing.planned.degrees.from (omega arith)
