-- Chebyshev interpolation ("Interpolation"): coefficient j is 2/n times the sum of value·T_j(node) over the n nodes, and coefficient 0 half of
-- that. The nodes stand for k = n down to 1, and the sum is made in that order.
use Rattle.std.specs.Prelude.{List, [], ◌∷◌, map, ℕ, suc, pos, length, replicate, Float}
use Rattle.std.specs.Float.{binary64}
use Rattle.std.specs.Float.Ieee.{div, of_int}
use Rattle.algebra.specs.Operations.{Operations, double}
use Rattle.algebra.specs.Power.{cheb}
use Rattle.number.specs.Numbers.{float_ops}

module _ {A : Type 0} (𝓞 : Operations A) where
  -- one node: value·T_j(node) is added to the sum of coefficient j, here from place j on
  unfoldable pub add_node : (j : ℕ) → (node value : A) → (sums : List A) → List A
  add_node j node value [] = []
  add_node j node value (s ∷ sums) = 𝓞.add s (𝓞.mul value (cheb 𝓞 node j)) ∷ add_node (suc j) node value sums

  -- every node with its value, in the order given
  unfoldable pub add_nodes : (nodes values sums : List A) → List A
  add_nodes [] values sums = sums
  add_nodes (node ∷ nodes) [] sums = sums
  add_nodes (node ∷ nodes) (value ∷ values) sums = add_nodes nodes values (add_node 0 node value sums)

  -- the sums, one for each node, each begun at zero
  abbrev pub sums_of : (nodes values : List A) → List A
  sums_of nodes values = add_nodes nodes values (replicate (length nodes) 𝓞.zero)

  -- each times the same factor
  abbrev pub scaled_by : (factor : A) → (sums : List A) → List A
  scaled_by factor sums = map (λ (s : A). 𝓞.mul s factor) sums

  -- the sum of coefficient 0 times 1/n, the others times 2·(1/n)
  unfoldable pub scaled : (inverse : A) → (sums : List A) → List A
  scaled inverse [] = []
  scaled inverse (s ∷ sums) = 𝓞.mul s inverse ∷ scaled_by (double 𝓞 inverse) sums

-- 1/n
abbrev pub inverse_of : (n : ℕ) → Float
inverse_of n = div binary64 float_ops.one (of_int binary64 (pos n))

-- the coefficients, one for each node
abbrev pub coefficients_of : (nodes values : List Float) → List Float
coefficients_of nodes values = scaled float_ops (inverse_of (length nodes)) (sums_of float_ops nodes values)
