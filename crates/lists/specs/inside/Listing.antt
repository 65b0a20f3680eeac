-- What the lister asks and leaves. It lists coefficients c that stand from place `at` on, behind n lists.
use Rattle.std.specs.Prelude.{◌≡◌, Bool, List, ℕ, ◌+◌, ◌≤◌, ◌<◌, length}
use Rattle.std.proofs.lemmas.List.Edits.{sets}
use Rattle.algebra.specs.Operations.{Operations}
use Rattle.algebra.specs.declared.Basis.{Basis}
use Rattle.number.specs.Limits.{plan_limit, count_limit}
use Rattle.number.specs.Tests.{degree_of}
use Rattle.lists.specs.Tree.{Tree, tree_of}
use Rattle.lists.specs.Arrange.{arranged, leaves_of, ends_of}

-- the degrees of the whole polynomial and of a part, and the split
pub record Ranges (whole degree split : ℕ) : Type 0 where
  pub positive : 0 < whole
  pub whole_limit : whole ≤ plan_limit
  pub part_limit : degree ≤ plan_limit
  pub split_limit : split ≤ 12

-- asked: a coefficient at least, places that a u16 holds, and a boundary for each list
pub record Listable {A : Type 0} (leading : Bool) (whole split at n : ℕ) (c : List A) (bounds : List ℕ) : Type 0 where
  pub nonempty : 0 < length c
  pub ends_fit : at + length c ≤ count_limit
  pub ranges : Ranges whole (degree_of c) split
  pub boundary_room : n + leaves_of (tree_of leading whole (degree_of c) split) ≤ length bounds

-- left: the coefficients arranged, a boundary for each list from boundary n on, and r, the number of lists there are now
pub record InPlace {A : Type 0} (𝓞 : Operations A) (basis : Basis) (tree : Tree) (at n : ℕ) (c : List A) (bounds : List ℕ) (r : ℕ)
    (c' : List A) (bounds' : List ℕ) : Type 0 where
  pub coefficients : c' ≡ arranged 𝓞 basis tree c
  pub boundaries : bounds' ≡ sets bounds n (ends_of tree at (length c))
  pub count : r ≡ n + leaves_of tree
