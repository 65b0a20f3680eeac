-- In a commutative ring sum j of the interpolation is the sum of value·T_j(node) over the nodes. Each node adds its own term at place j, so it
-- goes by recursion on the nodes.
use mathlib.Core.Path.{◌≡◌, refl, sym, ap, ◌∙◌}
use mathlib.Core.List.{List, [], ◌∷◌}
use Prim.Native.Nat.{ℕ, zero, suc, ◌+◌, ◌<◌}
use native.Mathlib.Nat.{add-zero}
use native.Mathlib.Omega.{arith}
use lib.ListN.{length, get_or, replicate, length-replicate, get_or-replicate}
use Rattle.algebra.specs.Operations.{Operations}
use Rattle.algebra.specs.Power.{cheb}
use Rattle.algebra.specs.Ring.{Ring}
use Rattle.algebra.proofs.RingLaws as R
use Rattle.algebra.proofs.Sums.{dot_nil, dot_cons}
use Rattle.interpolation.specs.Interpolate.{add_node, add_nodes}
use Rattle.interpolation.specs.InterpolateLaw.{node_sum, InterpolateLaw}

module _ {A : Type 0} (𝓞 : Operations A) where
  -- a node's term at place j, where the list starts at place m
  get_d_add_node : (m : ℕ) (node value d : A) (sums : List A) (j : ℕ) → j < length sums
      → get_or (add_node 𝓞 m node value sums) j d ≡ 𝓞.add (get_or sums j d) (𝓞.mul value (cheb 𝓞 node (m + j)))
  unfolding add_node
  get_d_add_node m node value d [] j h = absurd (omega arith)
  get_d_add_node m node value d (s ∷ sums) zero h = rw add-zero
  get_d_add_node m node value d (s ∷ sums) (suc j) h =
      let shifted : suc m + j ≡ m + suc j = omega arith in
      get_d_add_node (suc m) node value d sums j (omega arith) ∙ rw shifted

  length_add_node : (m : ℕ) (node value : A) (sums : List A) → length (add_node 𝓞 m node value sums) ≡ length sums
  unfolding add_node
  length_add_node m node value [] = refl
  length_add_node m node value (s ∷ sums) = ap suc (length_add_node (suc m) node value sums)

module _ {A : Type 0} (𝓡 : Ring A) where
  open 𝓡 use {ops, add_assoc}
  open ops use {zero as 𝟘, add as ◌⊕◌, mul as ◌⊗◌}

  infixl 6 ◌⊕◌
  infixl 7 ◌⊗◌
  -- the nodes' terms at place j
  get_d_add_nodes : (nodes values sums : List A) (j : ℕ) → length nodes ≡ length values → j < length sums
      → get_or (add_nodes ops nodes values sums) j 𝟘 ≡ get_or sums j 𝟘 ⊕ node_sum ops j nodes values
  unfolding add_nodes
  get_d_add_nodes [] [] sums j e h = sym (ap (get_or sums j 𝟘 ⊕◌) (dot_nil ops (λ k. cheb ops 𝟘 j)) ∙ 𝓡.add-zero (get_or sums j 𝟘))
  get_d_add_nodes [] (value ∷ values) sums j e h = absurd (omega arith)
  get_d_add_nodes (node ∷ nodes) [] sums j e h = absurd (omega arith)
  get_d_add_nodes (node ∷ nodes) (value ∷ values) sums j e h =
      let bounded : j < length (add_node ops 0 node value sums) = omega (arith, length_add_node ops 0 node value sums) in
      let start : 0 + j ≡ j = omega arith in
      get_d_add_nodes nodes values (add_node ops 0 node value sums) j (omega arith) bounded
      ∙ ap (◌⊕ node_sum ops j nodes values) (get_d_add_node ops 0 node value 𝟘 sums j h ∙ rw start)
      ∙ add_assoc (get_or sums j 𝟘) (value ⊗ cheb ops node j) (node_sum ops j nodes values)
      ∙ ap (get_or sums j 𝟘 ⊕◌) (sym (dot_cons 𝓡 (λ k. cheb ops (get_or (node ∷ nodes) k 𝟘) j) value values))

  -- begun at zero
  pub interpolate_law : InterpolateLaw 𝓡
  interpolate_law nodes values j even h =
      let n = length nodes in
      get_d_add_nodes nodes values (replicate n 𝟘) j even (omega (arith, length-replicate n 𝟘))
      ∙ ap (◌⊕ node_sum ops j nodes values) (get_or-replicate n j 𝟘 𝟘 h)
      ∙ R.zero-add 𝓡 (node_sum ops j nodes values)
