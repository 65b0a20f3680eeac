-- What the loops of the interpolation make, a node and a place at a time.
use mathlib.Core.Path.{◌≡◌, refl, sym, ap}
use mathlib.Core.List.{List, [], ◌∷◌, append-nil}
use mathlib.Core.Logic.{◌⊎◌, inl, inr}
use Prim.Native.Nat.{ℕ, ◌+◌, ◌-◌, ◌<◌, ◌≤◌}
use native.Mathlib.Numerals.{add-one}
use native.Mathlib.Omega.{arith}
use lib.ListN.{length, get_or, take, drop, set, drop_of_length-le}
use lib.Seq.{take_all}
use borrow.Rule.Slice.PartMut.{mid_of, put_mid}
use Rattle.algebra.specs.Operations.{Operations, double}
use Rattle.algebra.specs.Power.{cheb}
use Rattle.algebra.proofs.Chebyshev.{cheb_step}
use Rattle.interpolation.specs.Interpolate.{add_node, add_nodes, scaled_by, scaled}

-- a list that starts with an item is not empty
no_cons : {A : Type 0} {x : A} {xs : List A} → x ∷ xs ≡ [] → ⊥
no_cons e = (let same = ap length e in omega arith)

module _ {A : Type 0} (𝓞 : Operations A) where
  -- T_(i+2), with the index as the code counts
  pub cheb_next : (x : A) (i : ℕ) → 𝓞.sub (𝓞.mul (double 𝓞 x) (cheb 𝓞 x (i + 1))) (cheb 𝓞 x i) ≡ cheb 𝓞 x (i + 1 + 1)
  cheb_next x i = rw (add-one (i + 1), add-one i) (sym (cheb_step 𝓞 x i))

  -- one node, at no place, and at one place more
  pub node_none : (j : ℕ) (node value : A) → add_node 𝓞 j node value [] ≡ []
  unfolding add_node
  node_none j node value = refl

  pub node_cons : (j : ℕ) (node value s : A) (sums : List A)
      → add_node 𝓞 j node value (s ∷ sums) ≡ 𝓞.add s (𝓞.mul value (cheb 𝓞 node j)) ∷ add_node 𝓞 (j + 1) node value sums
  unfolding add_node
  node_cons j node value s sums = rw add-one

  -- one node more, and past the last
  pub node_more : (node value : A) (sums : List A) {nodes values nodes_left values_left : List A} → nodes ≡ node ∷ nodes_left → values ≡ value ∷ values_left
      → add_nodes 𝓞 nodes_left values_left (add_node 𝓞 0 node value sums) ≡ add_nodes 𝓞 nodes values sums
  unfolding add_nodes
  node_more node value sums e f = rw (e, f)

  pub nodes_end : (nodes values sums : List A) → (nodes ≡ []) ⊎ (values ≡ []) → add_nodes 𝓞 nodes values sums ≡ sums
  unfolding add_nodes
  nodes_end [] values sums end = refl
  nodes_end (node ∷ nodes) [] sums end = refl
  nodes_end (node ∷ nodes) (value ∷ values) sums (inl e) = absurd (no_cons e)
  nodes_end (node ∷ nodes) (value ∷ values) sums (inr e) = absurd (no_cons e)

  -- the first element, and the part after it
  pub scaled_parts : (inverse d : A) (sums : List A) → 0 < length sums
      → 𝓞.mul (get_or sums 0 d) inverse ∷ scaled_by 𝓞 (double 𝓞 inverse) (drop 1 sums) ≡ scaled 𝓞 inverse sums
  unfolding scaled
  scaled_parts inverse d [] h = absurd (omega arith)
  scaled_parts inverse d (s ∷ sums) h = refl

-- the first element set to v, and F made of the part after it
pub head_part : {A : Type 0} (F : List A → List A) (xs : List A) (v : A) (ys : List A) → 0 < length xs
    → ys ≡ F (mid_of 1 (length (set xs 0 v) - 1) (set xs 0 v)) → put_mid 1 (length (set xs 0 v) - 1) (set xs 0 v) ys ≡ v ∷ F (drop 1 xs)
head_part F [] v ys h e = absurd (omega arith)
head_part F (x ∷ xs) v ys h e =
    let all : length xs ≤ length (v ∷ xs) - 1 = omega arith in
    let whole_part : F (take (length (v ∷ xs) - 1) xs) ≡ F xs = ap F (take_all (length (v ∷ xs) - 1) xs all) in
    rw (e, drop_of_length-le xs all, append-nil, whole_part)
