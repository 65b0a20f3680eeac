-- Worked examples of all the rules in one table, each with the words that ask for it.
use Rattle.std.specs.Prelude.{◌≡◌, [], ◌∷◌, map, ℕ, pos, negsuc}
use Rattle.algebra.specs.Operations.{whole_ops}
use Rattle.algebra.specs.Value.{value}
use Rattle.algebra.specs.Fold.{fold}
use Rattle.algebra.specs.Transform.{transform_of, input_of, output_of}
use Rattle.algebra.specs.declared.Basis.{Basis}
use Rattle.algebra.specs.declared.Basis.TheVariants.{Chebyshev}
use Rattle.algebra.specs.declared.Parity.{Parity}
use Rattle.algebra.specs.declared.Parity.TheVariants.{Full, Odd}
use Rattle.algebra.specs.declared.PolynomialInputTransform.TheVariants.{Identity}
use Rattle.number.specs.Split.{split_of}
use Rattle.counts.specs.MinDepth.{min_depth}
use Rattle.counts.specs.Pair.{pair_at}
use Rattle.counts.specs.Calls.{min_mult_call, counts_call, depth_call, bits_call}
use Rattle.counts.specs.declared.choice.SplitStrategy.TheVariants.{MinDepth, MinMult}
use Rattle.lists.specs.Tree.{plan_tree}
use Rattle.lists.specs.Arrange.{lengths_of}
use Rattle.lists.specs.Lists.{lists_of}
use Rattle.plan.specs.PlanHead.{plan_counts}

-- the split and the pair of MinMult with parity Full
pub record MultFull (basis : Basis) (degree split ct pt : ℕ) : Type 0 where
  pub chosen : min_mult_call Full basis degree ≡ record { refusal = 0; split = split }
  pub counted : counts_call MinMult Full basis degree ≡ record { refusal = 0; ct = ct; pt = pt }

pub record Starred : Type 0 where
  -- split 3 → (1, 2), 5 → (3, 2); 1 → refusal 9
  pub split_3 : split_of 3 ≡ record { refusal = 0; a = 1; b = 2; distance = 1 }
  pub split_5 : split_of 5 ≡ record { refusal = 0; a = 3; b = 2; distance = 1 }
  pub split_1 : split_of 1 ≡ record { refusal = 9; a = 0; b = 0; distance = 0 }
  -- MinDepth split at L = 1..5: 1, 1, 2, 2, 3
  pub depth_splits : map min_depth (1 ∷ 2 ∷ 3 ∷ 4 ∷ 5 ∷ []) ≡ 1 ∷ 1 ∷ 2 ∷ 2 ∷ 3 ∷ []
  -- MinMult, Full, in both bases: degree 2 split 1 (tie), pair (1, 2); degree 4 split 1, (3, 3); degree 5 split 1, (4, 3);
  -- degree 7 split 2, (4, 6)
  pub mult_2 : (basis : Basis) → MultFull basis 2 1 1 2
  -- the tie: of the splits from 1 to 2, the bit length of degree 2, both have this pair
  pub tie_2 : (basis : Basis) → map (pair_at Full basis 2) (1 ∷ 2 ∷ []) ≡ record { ct = 1; pt = 2 } ∷ record { ct = 1; pt = 2 } ∷ []
  pub mult_4 : (basis : Basis) → MultFull basis 4 1 3 3
  pub mult_5 : (basis : Basis) → MultFull basis 5 1 4 3
  pub mult_7 : (basis : Basis) → MultFull basis 7 2 4 6
  -- MinDepth list lengths: degree 6: 4, 3; degree 7: 4, 2, 2, reported (5, 5)
  pub lengths_6 : (parity : Parity) (basis : Basis) → lengths_of (plan_tree MinDepth parity basis 6) 7 ≡ 4 ∷ 3 ∷ []
  pub lengths_7 : (parity : Parity) (basis : Basis) → lengths_of (plan_tree MinDepth parity basis 7) 8 ≡ 4 ∷ 2 ∷ 2 ∷ []
  pub reported_7 : (basis : Basis) → plan_counts MinDepth Full basis Identity 7 ≡ record { ct = 5; pt = 5 }
  -- Chebyshev 1..6, MinMult: [1, 4], [3, −4], [5, 12]; value at 2: 2,787
  pub lists_1_6 : lists_of whole_ops Chebyshev (plan_tree MinMult Full Chebyshev 5) (map pos (1 ∷ 2 ∷ 3 ∷ 4 ∷ 5 ∷ 6 ∷ []))
      ≡ (pos 1 ∷ pos 4 ∷ []) ∷ (pos 3 ∷ negsuc 3 ∷ []) ∷ (pos 5 ∷ pos 12 ∷ []) ∷ []
  pub value_1_6 : value whole_ops Chebyshev (pos 2) (map pos (1 ∷ 2 ∷ 3 ∷ 4 ∷ 5 ∷ 6 ∷ [])) ≡ pos 2787
  -- Odd Chebyshev 0 1 0 2 folds to [−1, 4]; at 2: 54
  pub folded : fold whole_ops Odd Chebyshev (map pos (0 ∷ 1 ∷ 0 ∷ 2 ∷ [])) ≡ negsuc 0 ∷ pos 4 ∷ []
  pub value_folded : output_of whole_ops (transform_of Odd Chebyshev) (pos 2)
      (value whole_ops Chebyshev (input_of whole_ops (transform_of Odd Chebyshev) (pos 2)) (negsuc 0 ∷ pos 4 ∷ [])) ≡ pos 54
  pub value_unfolded : value whole_ops Chebyshev (pos 2) (map pos (0 ∷ 1 ∷ 0 ∷ 2 ∷ [])) ≡ pos 54
  -- MinMult depth 6 → 3, 7 → 4
  pub deep_6 : depth_call MinMult 6 ≡ record { refusal = 0; depth = 3 }
  pub deep_7 : depth_call MinMult 7 ≡ record { refusal = 0; depth = 4 }
  -- MinMult bits: degree 5, scales 20, 100 → 120; degree 4, scales 30, 20 → 80; degree 0 → 0
  pub bits_5 : bits_call MinMult 5 20 100 ≡ record { refusal = 0; bits = 120 }
  pub bits_4 : bits_call MinMult 4 30 20 ≡ record { refusal = 0; bits = 80 }
  pub bits_0 : bits_call MinMult 0 30 20 ≡ record { refusal = 0; bits = 0 }
