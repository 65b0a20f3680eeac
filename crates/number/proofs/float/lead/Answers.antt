-- `number::float::lead` meets its contract. The recurrence gives R_i at place i the number 1 if i is 0, and else 2. Over f64 it gives
-- the same numbers, being exact on small whole numbers.
use mathlib.Core.Path.{ap, sym, ◌∙◌}
use Rattle.number.specs.Exact.{num}
use Rattle.number.proofs.Literals.{one_is, two_is}
use Rattle.number.proofs.Exact.{exact}
use Rattle.number.proofs.Rows.{coeff_num, lead_first, lead_later}
use Rattle.number.proofs.float.lead.Goals as goal

pub returns-then-i-eq0 : goal.returns-then-i-eq0
returns-then-i-eq0 c = let i = c.args.i in one_is ∙ exact.one_is ∙ sym (coeff_num i i ∙ ap num (lead_first i c.if-i-eq0.true))

pub returns-else-i-eq0 : goal.returns-else-i-eq0
returns-else-i-eq0 c = let i = c.args.i in two_is ∙ sym (coeff_num i i ∙ ap num (lead_later i c.if-i-eq0.false))
