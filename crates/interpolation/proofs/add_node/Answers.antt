-- The two numbers that the loop carries are T_i and T_(i+1) of the node, by the recurrence. The places before i have had value·T_i added and the
-- rest is still to have it, which together is what is to be left.
use mathlib.Core.Path.{refl, sym, ◌∙◌}
use mathlib.Core.List.{List}
use Prim.Native.Nat.{ℕ, ◌+◌}
use lib.Ieee.{Float, nan}
use Rattle.number.specs.Numbers.{float_ops}
use Rattle.interpolation.specs.Interpolate.{add_node}
use Rattle.number.proofs.Literals.{one_is, double_is}
use Rattle.algebra.proofs.Chebyshev.{cheb_zero, cheb_one}
use Rattle.algebra.proofs.Filling.{place_step, place_end}
use Rattle.interpolation.proofs.InterpolateLoops.{cheb_next, node_none, node_cons}
use borrow.Author.Rules.{rules}
use Rattle.interpolation.proofs.add_node.Goals as goal

pub loop-sum-init : goal.loop-sum-init
loop-sum-init c = (one_is ∙ sym (cheb_zero float_ops c.args.node), sym (cheb_one float_ops c.args.node), refl)

pub loop-sum-preserved : goal.loop-sum-preserved
loop-sum-preserved c =
    let node = c.args.node in
    let value = c.args.value in
    let i = c.loop-sum.sum-index in
    let rest : ℕ → List Float → List Float = λ j. add_node float_ops j node value in (
      c.loop-sum.invariant.1,
      rw (double_is, c.loop-sum.invariant.0, c.loop-sum.invariant.1) (cheb_next float_ops node i),
      rw c.loop-sum.invariant.0
          (place_step (rest i) (rest (i + 1)) c.loop-sum.sums i _ nan (search rules) (node_cons float_ops i node value _ _)
          ∙ c.loop-sum.invariant.2),
    )

pub returns : goal.returns
returns c =
    let i = c.loop-sum.sum-index in
    let rest = add_node float_ops i c.args.node c.args.value in
    sym (place_end rest c.loop-sum.sums i (search rules) (node_none float_ops i _ _)) ∙ c.loop-sum.invariant.2
