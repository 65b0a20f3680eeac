-- `chains::weigh::weigh_zeros` meets its contract. The curve is the first places of a buffer of zeros, the other buffers hold zeros before the plan, the
-- literals are the bounds of the interval of lines, and what the plan leaves in the buffers is weighed. A refusal has no weight.
use Rattle.std.proofs.Common.{ap}
use lib.Ieee.{of_bits}
use Rattle.plan.specs.PlanCall.{Planned}
use Rattle.chains.proofs.NoChain.{weight_given, refused_weight}
use Rattle.chains.proofs.Zeros.{curve_taken, curve_length}
use Rattle.chains.proofs.weigh.weigh_zeros.Goals as goal

pub slice_bounds-plan-end : goal.slice_bounds-plan-end
slice_bounds-plan-end c =
    rw c.no_coefficients-curve.ensures (curve_length c.args.degree c.requires)

pub returns-in-Ok : goal.returns-in-Ok
unfolding of_bits
returns-in-Ok c =
    rw (
      c.unwrap_or.ensures,
      weight_given c.heaviest_chain.result,
      c.heaviest_chain.ensures,
      ap (λ (p : Planned). p.head) c.in-Ok.ensures.answer,
      c.in-Ok.ensures.coefficients,
      c.in-Ok.ensures.boundaries,
      c.in-Ok.ensures.numbers,
      c.said_basis.ensures,
      c.said_parity.ensures,
      c.said_strategy.ensures,
      c.no_steps-steps.ensures,
      c.no_bounds-bounds.ensures,
      c.no_coefficients-coefficients.ensures,
      c.no_coefficients-curve.ensures,
      curve_taken c.args.degree c.requires,
    )

pub returns-in-Err : goal.returns-in-Err
unfolding of_bits
returns-in-Err c =
    refused_weight c.in-Err._refusal _ _ _ (rw (
      c.said_basis.ensures,
      c.said_parity.ensures,
      c.said_strategy.ensures,
      c.no_steps-steps.ensures,
      c.no_bounds-bounds.ensures,
      c.no_coefficients-coefficients.ensures,
      c.no_coefficients-curve.ensures,
      curve_taken c.args.degree c.requires,
    ) at c.in-Err.ensures.answer)
