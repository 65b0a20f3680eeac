-- The f64 call writes equal numbers: up to 2^53 the f64 of a whole number is a map that keeps every cut, and all numbers at a cut are within 2^53. So
-- the whole arrangement is kept, and with it both buffers; answer and boundaries see no coefficient at all.
use mathlib.Core.Path.{◌≡◌, refl, ap, ◌∙◌}
use mathlib.Core.Bool.{Bool, true}
use mathlib.Core.List.{List, map}
use Prim.Native.Nat.{ℕ, zero, suc, ◌^◌, ◌≤◌, ◌<◌}
use native.Mathlib.Omega.{arith}
use borrow.Author.Tests.{leb-true}
use lib.Ieee.{Float}
use lib.IntN.{ℤ}
use lib.ListN.{length, length-map}
use lib.Seq.{sets}
use Rattle.algebra.specs.Operations.{whole_ops}
use Rattle.algebra.specs.Magnitude.{sum_abs}
use Rattle.algebra.specs.declared.Basis.{Basis}
use Rattle.algebra.specs.declared.Parity.{Parity}
use Rattle.algebra.proofs.Maps.{map_sets}
use Rattle.number.specs.Limits.{plan_limit, sum_limit}
use Rattle.number.specs.Numbers.{whole_numbers, float_ops, float_numbers}
use Rattle.number.specs.Exact.{num, To53}
use Rattle.number.specs.Refusal.{unless_refused}
use Rattle.number.specs.inside.Room.{SumByLengthTo53}
use Rattle.number.specs.Tests.{degree_of}
use Rattle.number.proofs.CutSame.{num_keeps}
use Rattle.counts.specs.Choice.{split_for}
use Rattle.counts.specs.declared.choice.SplitStrategy.{SplitStrategy}
use Rattle.counts.proofs.ChoiceLaws.{split_range}
use Rattle.lists.specs.Tree.{Tree, tree_of, relists, plan_tree}
use Rattle.lists.specs.Arrange.{arranged}
use Rattle.lists.specs.ListCall.{list_refusal, list_answer, list_coefficients, list_boundaries}
use Rattle.lists.specs.Promises.{listed_as, CallsSame}
use Rattle.lists.proofs.ArrangedKept.{arranged_kept}
use Rattle.lists.proofs.SumByLength.{sum_by_length_start}
use Rattle.lists.proofs.ListCall.{list_passed}
use Rattle.lists.proofs.Bounds.{made_to_53, sound_for}

-- ---- a listing

-- the lister alone, on any coefficients whose magnitudes sum to a number that times their count is at most 2^53
pub arranged_same : (leading : Bool) (basis : Basis) (whole split : ℕ) (c : List ℤ) → SumByLengthTo53 c → 0 < length c → degree_of c ≤ plan_limit
    → 1 ≤ split → arranged float_ops basis (tree_of leading whole (degree_of c) split) (map num c) ≡ map num (listed_as whole_ops leading basis whole split c)
arranged_same leading basis whole split c room nonempty few from =
    let tree = tree_of leading whole (degree_of c) split in
    arranged_kept ℤ Float To53 whole_ops float_ops num num_keeps basis tree c
    (made_to_53 basis (2 ^ split) tree c (sound_for leading whole split c nonempty few from) room)

-- ---- the calls

module _ (strategy : SplitStrategy) (parity : Parity) (basis : Basis) (c out : List ℤ) (bounds : List ℕ) (small : whole_numbers.small c ≡ true) where
  abbrev tree : Tree
  tree = plan_tree strategy parity basis (degree_of c)

  same_refusal : list_refusal float_numbers strategy parity basis (map num c) (map num out) bounds
      ≡ list_refusal whole_numbers strategy parity basis c out bounds
  unfolding list_refusal
  same_refusal = rw (length-map c num, length-map out num, small)

  same_answer : list_answer float_numbers strategy parity basis (map num c) (map num out) bounds
      ≡ list_answer whole_numbers strategy parity basis c out bounds
  unfolding list_answer
  same_answer = rw (same_refusal, length-map c num)

  same_boundaries : list_boundaries float_numbers strategy parity basis (map num c) (map num out) bounds
      ≡ list_boundaries whole_numbers strategy parity basis c out bounds
  unfolding list_boundaries
  same_boundaries = rw (same_refusal, length-map c num)

  -- without a refusal the whole listing is carried over
  same_listing : list_refusal whole_numbers strategy parity basis c out bounds ≡ 0
      → arranged float_ops basis tree (map num c) ≡ map num (arranged whole_ops basis tree c)
  same_listing none =
      let degree = (list_passed whole_numbers strategy parity basis c out bounds none).0.degree in
      arranged_same (relists strategy) basis (degree_of c) (split_for strategy parity basis (degree_of c)) c
      (sum_by_length_start c (leb-true (sum_abs c) sum_limit small) degree.to) (omega arith) degree.to
      (split_range strategy parity basis (degree_of c) degree).from

  same_coefficients : list_coefficients float_numbers strategy parity basis (map num c) (map num out) bounds
      ≡ map num (list_coefficients whole_numbers strategy parity basis c out bounds)
  unfolding list_coefficients unless_refused
  same_coefficients = rw (same_refusal, length-map c num) (by_refusal (list_refusal whole_numbers strategy parity basis c out bounds) refl)
    where
      by_refusal : (k : ℕ) → list_refusal whole_numbers strategy parity basis c out bounds ≡ k
          → unless_refused k (sets (map num out) 0 (arranged float_ops basis tree (map num c))) (map num out)
          ≡ map num (unless_refused k (sets out 0 (arranged whole_ops basis tree c)) out)
      by_refusal zero none = ap (sets (map num out) 0) (same_listing none) ∙ map_sets num (arranged whole_ops basis tree c) out 0
      by_refusal (suc k) refused = refl

  pub calls_same : CallsSame strategy parity basis c out bounds
  calls_same = record { answer = same_answer; coefficients = same_coefficients; boundaries = same_boundaries }
