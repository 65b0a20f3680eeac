-- What the lists promise of numbers (docs/RULES.md, "Factorising and listing"): with whole coefficients every number written has magnitude at
-- most 2^53, and the f64 call on the same coefficients writes equal numbers.
use Rattle.std.specs.Prelude.{◌≡◌, Bool, true, List, map, ℕ, ◌≤◌, ◌<◌, ℤ, length}
use Rattle.algebra.specs.Operations.{Operations, whole_ops}
use Rattle.algebra.specs.Fold.{fold}
use Rattle.algebra.specs.declared.Basis.{Basis}
use Rattle.algebra.specs.declared.Parity.{Parity}
use Rattle.number.specs.Limits.{plan_limit}
use Rattle.number.specs.Numbers.{whole_numbers, float_ops, float_numbers}
use Rattle.number.specs.Exact.{num, AllTo53}
use Rattle.number.specs.Tests.{degree_of}
use Rattle.counts.specs.declared.choice.SplitStrategy.{SplitStrategy}
use Rattle.lists.specs.Tree.{tree_of}
use Rattle.lists.specs.Arrange.{arranged}
use Rattle.lists.specs.ListCall.{list_answer, list_coefficients, list_boundaries}

-- what a listing writes at a split, with a leading slice listed again or not
abbrev pub listed_as : {A : Type 0} → Operations A → (leading : Bool) → Basis → (whole split : ℕ) → List A → List A
listed_as 𝓞 leading basis whole split c = arranged 𝓞 basis (tree_of leading whole (degree_of c) split) c

-- ---- magnitudes at most 2^53

-- from coefficients with magnitudes summing to at most 2^30
abbrev pub ListsTo53 : Type 0
ListsTo53 = (leading : Bool) (basis : Basis) (whole split : ℕ) (c : List ℤ) → whole_numbers.small c ≡ true → 0 < length c
    → degree_of c ≤ plan_limit → 1 ≤ split → AllTo53 (listed_as whole_ops leading basis whole split c)

-- and from the same coefficients folded, whose magnitudes may sum above 2^30
abbrev pub FoldedListsTo53 : Type 0
FoldedListsTo53 = (leading : Bool) (parity : Parity) (basis : Basis) (whole split : ℕ) (c : List ℤ) → whole_numbers.small c ≡ true
    → 0 < length (fold whole_ops parity basis c) → degree_of c ≤ plan_limit → 1 ≤ split
    → AllTo53 (listed_as whole_ops leading basis whole split (fold whole_ops parity basis c))

-- ---- equal numbers

-- the f64 call on the same coefficients, and buffers with the same numbers: an equal answer, equal numbers, equal boundaries
pub record CallsSame (strategy : SplitStrategy) (parity : Parity) (basis : Basis) (c out : List ℤ) (bounds : List ℕ) : Type 0 where
  pub answer : list_answer float_numbers strategy parity basis (map num c) (map num out) bounds
      ≡ list_answer whole_numbers strategy parity basis c out bounds
  pub coefficients : list_coefficients float_numbers strategy parity basis (map num c) (map num out) bounds
      ≡ map num (list_coefficients whole_numbers strategy parity basis c out bounds)
  pub boundaries : list_boundaries float_numbers strategy parity basis (map num c) (map num out) bounds
      ≡ list_boundaries whole_numbers strategy parity basis c out bounds

-- with magnitudes summing to at most 2^30
abbrev pub ListsSame : Type 0
ListsSame = (strategy : SplitStrategy) (parity : Parity) (basis : Basis) (c out : List ℤ) (bounds : List ℕ) → whole_numbers.small c ≡ true
    → CallsSame strategy parity basis c out bounds

-- and the f64 fold of the same coefficients, whose magnitudes may sum above 2^30, is listed to equal numbers
abbrev pub FoldedListsSame : Type 0
FoldedListsSame = (leading : Bool) (parity : Parity) (basis : Basis) (whole split : ℕ) (c : List ℤ) → whole_numbers.small c ≡ true
    → 0 < length (fold whole_ops parity basis c) → degree_of c ≤ plan_limit → 1 ≤ split
    → listed_as float_ops leading basis whole split (fold float_ops parity basis (map num c))
    ≡ map num (listed_as whole_ops leading basis whole split (fold whole_ops parity basis c))
