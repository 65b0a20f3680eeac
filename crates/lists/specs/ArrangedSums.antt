-- The lists of a sum are the sums of the lists, place by place, and those of a multiple are the multiples.
use Rattle.std.specs.Prelude.{◌≡◌, List, length}
use Rattle.algebra.specs.Ring.{Ring}
use Rattle.algebra.specs.PolynomialSum.{sum_of, multiple_of}
use Rattle.algebra.specs.declared.Basis.{Basis}
use Rattle.lists.specs.Tree.{Tree}
use Rattle.lists.specs.Arrange.{arranged}

-- by any tree, over every ring
pub record ArrangedSums {A : Type 0} (𝓡 : Ring A) : Type 0 where
  pub sums : (basis : Basis) (tree : Tree) (c d : List A) → length c ≡ length d
      → arranged 𝓡.ops basis tree (sum_of 𝓡.ops c d)
      ≡ sum_of 𝓡.ops (arranged 𝓡.ops basis tree c) (arranged 𝓡.ops basis tree d)
  pub multiples : (basis : Basis) (tree : Tree) (k : A) (c : List A)
      → arranged 𝓡.ops basis tree (multiple_of 𝓡.ops k c) ≡ multiple_of 𝓡.ops k (arranged 𝓡.ops basis tree c)
