-- The lists themselves (docs/RULES.md, "Steps and the walk"): they stand one after another in the coefficient buffer, and boundary i is the
-- place just past list i.
use Rattle.std.specs.Prelude.{◌≡◌, Bool, List, [], ◌∷◌, ◌++◌, map, ℕ, ◌+◌, ◌≤◌, ◌<◌, length, take, drop}
use Rattle.algebra.specs.Operations.{Operations}
use Rattle.algebra.specs.Cut.{cut_at}
use Rattle.algebra.specs.declared.Basis.{Basis}
use Rattle.number.specs.Limits.{plan_limit}
use Rattle.number.specs.Tests.{degree_of}
use Rattle.lists.specs.Tree.{Tree, leaf, cut, tree_of}
use Rattle.lists.specs.Arrange.{arranged, leaves_of, lengths_of, ends_of}

-- the lists that a tree makes of a polynomial, low ones first
unfoldable pub lists_of : {A : Type 0} → Operations A → Basis → Tree → List A → List (List A)
lists_of 𝓞 basis leaf c = c ∷ []
lists_of 𝓞 basis (cut p low high) c =
    lists_of 𝓞 basis low (take p (cut_at 𝓞 basis p c)) ++ lists_of 𝓞 basis high (drop p (cut_at 𝓞 basis p c))

-- one after another
unfoldable pub joined : {A : Type 0} → List (List A) → List A
joined [] = []
joined (list ∷ lists) = list ++ joined lists

-- the place just past each, where the first begins at place `at`
unfoldable pub ends_from : {A : Type 0} → (at : ℕ) → List (List A) → List ℕ
ends_from at [] = []
ends_from at (list ∷ lists) = (at + length list) ∷ ends_from (at + length list) lists

-- the arranged coefficients are the lists one after another, with their boundaries, lengths and number
pub record InOrder {A : Type 0} (𝓞 : Operations A) (basis : Basis) (tree : Tree) (c : List A) : Type 0 where
  pub places : arranged 𝓞 basis tree c ≡ joined (lists_of 𝓞 basis tree c)
  pub ends : (at : ℕ) → ends_of tree at (length c) ≡ ends_from at (lists_of 𝓞 basis tree c)
  pub lengths : lengths_of tree (length c) ≡ map length (lists_of 𝓞 basis tree c)
  pub count : leaves_of tree ≡ length (lists_of 𝓞 basis tree c)

-- so it is for every plan tree within the limit, over numbers A
abbrev pub ListsInOrder : Type 0 → Type 0
ListsInOrder A = (𝓞 : Operations A) (leading : Bool) (basis : Basis) (whole split : ℕ) (c : List A) → 0 < length c → degree_of c ≤ plan_limit
    → 1 ≤ split → InOrder 𝓞 basis (tree_of leading whole (degree_of c) split) c
