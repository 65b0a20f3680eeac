-- The calls in turn make the zeros, the sums and the coefficients, as the definition does from the inside out. The last call
-- tells the parity of what then stands in the buffer.
use mathlib.Core.Path.{◌≡◌, ap, ◌∙◌}
use Prim.Native.Nat.{ℕ}
use borrow.Author.Rules.{rules}
use lib.Ieee.{binary64, of_bits}
use lib.ListN.{length, replicate}
use Rattle.number.specs.Numbers.{float_ops, float_numbers}
use Rattle.number.specs.Parity.{parity_of}
use Rattle.number.proofs.Literals.{zero_is}
use Rattle.interpolation.specs.Interpolate.{scaled, add_nodes, inverse_of}
use Rattle.interpolation.proofs.fill.Goals as goal

pub returns : goal.returns
returns c =
    let nodes = c.args.nodes.now in
    let values = c.args.values.now in
    let cleared : c.fill.new.self ≡ replicate (length c.args.out.now) (of_bits binary64 0) = search rules in
    let zeros = cleared ∙ rw zero_is (ap (λ (n : ℕ). replicate n float_ops.zero) c.requires.places) in
    let sums = c.add_nodes.ensures ∙ ap (add_nodes float_ops nodes values) zeros in
    let coefficients = c.scale.ensures ∙ ap (scaled float_ops (inverse_of (length nodes))) sums in
    (c.detect_parity.ensures ∙ ap (parity_of float_numbers) coefficients, coefficients)
