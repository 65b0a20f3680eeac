-- `number::factor::cut_two` meets its contract. The four places differ, so each coefficient is still as it came when it is read, and it is as
-- if the two pairs came one after the other.
use mathlib.Core.Path.{ap, ap₂, ◌∙◌}
use Prim.Native.Nat.{◌+◌, ◌-◌}
use native.Mathlib.Omega.{arith}
use lib.ListN.{set, length-set}
use Rattle.std.proofs.lemmas.List.{get_or_read}
use Rattle.algebra.specs.Operations.{double}
use Rattle.number.proofs.Pair.{two_stored}
use Rattle.number.proofs.factor.cut_two.Goals as goal

pub returns : goal.returns
returns g c =
    let o = g.C.Coefficient.numbers.ops in
    let xs = c.args.c.now in
    let at_low = get_or_read xs c.args.low _ (omega arith) c.index-c-low.is o.zero in
    let at_high = get_or_read xs c.args.high _ (omega arith) c.index-c-high.is o.zero in
    let next_low = get_or_read xs (c.args.low - 1) _ (omega arith) c.index-c-next_low.is o.zero in
    let next_high = get_or_read xs (c.args.high + 1) _ (omega arith) c.index-c-next_high.is o.zero in
    let less = c.minus.ensures ∙ ap₂ o.sub at_low at_high in
    let next_less = c.minus-2.ensures ∙ ap₂ o.sub next_low next_high in
    let low_stored = set (set xs c.args.low c.minus.result) (c.args.low - 1) c.minus-2.result in
    let high_stored = set low_stored c.args.high c.twice.result in
    let again = get_or_read low_stored c.args.high _ (simp length-set (omega arith)) c.index-c-high-2.is o.zero in
    let next_again = get_or_read high_stored (c.args.high + 1) _ (simp length-set (omega arith)) c.index-c-next_high-2.is o.zero in
    two_stored o o.zero xs c.args.low c.args.high _ _ _ _ c.requires.0 c.requires.1.0 less next_less
    (c.twice.ensures ∙ ap (double o) again) (c.twice-2.ensures ∙ ap (double o) next_again)
