-- `number::evaluate::clenshaw` meets its contract. Its arms are the definition's cases. In the last one it folds over the coefficients from the last to
-- the second, which gives Clenshaw's pair, and the last term is made of it.
use mathlib.Core.Path.{◌≡◌, ◌∙◌, ap, sym}
use Rattle.std.proofs.Common.{rules}
use Prim.Native.Nat.{◌-◌, ◌<◌}
use native.Mathlib.Omega.{arith}
use lib.Ieee.{Float, nan, binary64, of_bits}
use lib.ListN.{length, get_or, take, drop, length-drop}
use Rattle.std.proofs.lemmas.Iterator.Consumers.{fold_from_yields_List}
use Rattle.std.proofs.lemmas.Iterator.Adapters.{YieldsList-from_rev_slice}
use Rattle.std.proofs.lemmas.List.{take_all}
use Rattle.number.specs.Numbers.{float_ops}
use Rattle.number.specs.Evaluate.{last_term}
use Rattle.number.proofs.Literals.{zero_is, double_is}
use Rattle.number.proofs.EvaluateFolds.{pair_of, next_pair, pair_folds, clenshaw_none, clenshaw_one, clenshaw_more}
use Rattle.number.proofs.evaluate.clenshaw.Goals as goal

pub returns-in-empty : goal.returns-in-empty
returns-in-empty c = zero_is ∙ sym (clenshaw_none float_ops c.args.x c.args.coeffs.now c.in-empty.len_below)

pub returns-in-len1 : goal.returns-in-len1
returns-in-len1 c = sym (clenshaw_one float_ops c.args.x nan c.args.coeffs.now c.in-len1.len_at_least c.in-len1.len_below)

pub returns-in-len1-up : goal.returns-in-len1-up
returns-in-len1-up c =
    let x = c.args.x in
    let coeffs = c.args.coeffs.now in
    let twice_x = float_ops.mul (of_bits binary64 0x4000_0000_0000_0000) x in
    let rest : c.rev.result.iter.rest.now ≡ take (length coeffs - 1) (drop 1 coeffs) = search rules in
    let folded =
    fold_from_yields_List _ (next_pair float_ops x twice_x) _ c.fold-b1.result c.fold-b1.ensures.ran (YieldsList-from_rev_slice _ rest)
    (λ p k q f called. search rules) in
    let more : 1 < length coeffs = omega arith in
    let whole : take (length coeffs - 1) (drop 1 coeffs) ≡ drop 1 coeffs = take_all _ _ (omega (arith, length-drop 1 coeffs)) in
    let pair : c.fold-b1.result ≡ pair_of float_ops x (drop 1 coeffs) = folded ∙ rw (double_is, zero_is, whole) (pair_folds float_ops x (drop 1 coeffs)) in
    ap (λ (p : Float × Float). last_term float_ops x (get_or coeffs 0 nan) record { b1 = p.0; b2 = p.1 }) pair
    ∙ sym (clenshaw_more float_ops x nan coeffs more)
