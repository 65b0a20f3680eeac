-- `number::whole::times_lead` meets its contract. The recurrence gives R_i at place i the number 1 if i is 0, and else 2, and s is small enough to
-- double.
use mathlib.Core.Path.{ap, sym, ◌∙◌}
use native.Mathlib.Omega.{arith}
use lib.IntN.{pos, ◌*ℤ◌, *ℤ_comm}
use mir.Syntax.{w64}
use mir.Val.{to_z, of_z}
use mir.Facts.{to_z-of_z}
use Rattle.algebra.proofs.Fits.{fits_double}
use Rattle.algebra.specs.Operations.{whole_ops, double}
use Rattle.algebra.proofs.Integers.{*ℤ-idr}
use Rattle.number.proofs.Rows.{lead_first, lead_later}
use Rattle.number.proofs.whole.times_lead.Goals as goal

pub returns-then-i-eq0 : goal.returns-then-i-eq0
returns-then-i-eq0 c =
    let s = c.args.s in
    to_z-of_z c.ranges.s ∙ sym (ap (s *ℤ◌) (lead_first c.args.i c.if-i-eq0.true) ∙ *ℤ-idr s)

pub returns-else-i-eq0 : goal.returns-else-i-eq0
returns-else-i-eq0 c =
    let s = c.args.s in
    to_z-of_z (fits_double (to_z w64 (of_z w64 s)) (rw (to_z-of_z c.ranges.s) (omega (arith, c.requires))))
    ∙ ap (double whole_ops) (to_z-of_z c.ranges.s) ∙ *ℤ_comm (pos 2) s ∙ sym (ap (s *ℤ◌) (lead_later c.args.i c.if-i-eq0.false))
