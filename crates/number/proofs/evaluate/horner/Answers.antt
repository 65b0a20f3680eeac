-- `number::evaluate::horner` meets its contract. It folds over the coefficients from the last to the first, which is Horner's rule.
use mathlib.Core.Path.{◌∙◌}
use Rattle.std.proofs.Common.{rules}
use lib.Ieee.{Float}
use Rattle.std.proofs.lemmas.Iterator.Consumers.{fold_from_yields_List}
use Rattle.std.proofs.lemmas.Iterator.Adapters.{YieldsList-from_rev_slice}
use Rattle.number.specs.Numbers.{float_ops}
use Rattle.number.proofs.Literals.{zero_is}
use Rattle.number.proofs.EvaluateFolds.{horner_folds}
use Rattle.number.proofs.evaluate.horner.Goals as goal

pub returns : goal.returns
returns c =
    let x = c.args.x in
    let coeffs = c.args.coeffs.now in
    let step = λ (y k : Float). float_ops.add (float_ops.mul y x) k in
    let folded = fold_from_yields_List _ step _ c.fold.result c.fold.ensures.ran (YieldsList-from_rev_slice coeffs cc) (λ y k z f called. search rules) in
    folded ∙ rw zero_is (horner_folds float_ops x coeffs)
