-- A polynomial within the limits whose lists and boundaries stand at the front of buffers: so a list call leaves them, and a plan call those of what is
-- planned. What stands there is taken again; of a sum it is the sum of what stands for each, and of a multiple the multiple.
use mathlib.Core.Path.{◌≡◌, refl, sym, ◌∙◌, ap, ap₂}
use mathlib.Core.List.{List}
use Prim.Native.Nat.{ℕ, suc, ◌-◌, ◌≤◌, ◌^◌}
use native.Mathlib.Omega.{arith}
use borrow.Author.Tests.{leb-true}
use lib.IntN.{ℤ}
use lib.ListN.{length, take}
use lib.Seq.{sets}
use Rattle.algebra.specs.Operations.{whole_ops}
use Rattle.algebra.specs.PolynomialSum.{sum_of, multiple_of}
use Rattle.algebra.specs.declared.Basis.{Basis}
use Rattle.algebra.specs.declared.Parity.{Parity}
use Rattle.number.specs.Limits.{plan_limit}
use Rattle.number.specs.Numbers.{whole_numbers}
use Rattle.number.specs.Tests.{degree_of}
use Rattle.number.specs.inside.Between.{Between}
use Rattle.number.specs.inside.Room.{SumByLengthTo53}
use Rattle.number.proofs.FirstRefusal.{refusal_of, when_accepted}
use Rattle.counts.specs.Choice.{split_for}
use Rattle.counts.specs.declared.choice.SplitStrategy.{SplitStrategy}
use Rattle.counts.proofs.ChoiceLaws.{split_range}
use Rattle.lists.specs.Tree.{Tree, relists, plan_tree}
use Rattle.lists.specs.Arrange.{arranged, leaves_of, ends_of}
use Rattle.lists.specs.ListCall.{Listed, list_refusal, list_answer, list_coefficients, list_boundaries, ListCall}
use Rattle.lists.specs.TreeFacts.{Sound}
use Rattle.lists.proofs.ArrangedSums.{listed_sum, listed_multiple}
use Rattle.lists.proofs.Arranging.{length_ends}
use Rattle.lists.proofs.ListCall.{list_passed, front_take}
use Rattle.lists.proofs.Lists.{length_arranged}
use Rattle.lists.proofs.SumByLength.{sum_by_length_start}
use Rattle.lists.proofs.TreeFacts.{trees_sound}

-- the tree of the settings is sound
pub plan_sound : (strategy : SplitStrategy) (parity : Parity) (basis : Basis) (degree : ℕ) → Between 1 degree plan_limit
    → Sound (2 ^ split_for strategy parity basis degree) (plan_tree strategy parity basis degree) (suc degree)
plan_sound strategy parity basis degree degrees =
    trees_sound (relists strategy) degree degree (split_for strategy parity basis degree) degrees.to
    (split_range strategy parity basis degree degrees).from

-- ---- lists at the front of buffers

-- c is within the limits and its cuts stay within 2^53; its lists and boundaries stand in lists' and bounds', which were lists and bounds before
pub record Stands (strategy : SplitStrategy) (parity : Parity) (basis : Basis) (c lists : List ℤ) (bounds : List ℕ) (lists' : List ℤ)
    (bounds' : List ℕ) : Type 0 where
  pub degrees : Between 1 (degree_of c) plan_limit
  pub doubles : SumByLengthTo53 c
  pub room : length c ≤ length lists
  pub boundaries : leaves_of (plan_tree strategy parity basis (degree_of c)) ≤ length bounds
  pub listed : lists' ≡ sets lists 0 (arranged whole_ops basis (plan_tree strategy parity basis (degree_of c)) c)
  pub ended : bounds' ≡ sets bounds 0 (ends_of (plan_tree strategy parity basis (degree_of c)) 0 (length c))

module _ {strategy : SplitStrategy} {parity : Parity} {basis : Basis} {c lists : List ℤ} {bounds : List ℕ} {lists' : List ℤ} {bounds' : List ℕ}
    (stands : Stands strategy parity basis c lists bounds lists' bounds') where
  abbrev pub tree : Tree
  tree = plan_tree strategy parity basis (degree_of c)

  abbrev pub base : ℕ
  base = 2 ^ split_for strategy parity basis (degree_of c)

  pub whole : suc (degree_of c) ≡ length c
  whole = omega (arith, stands.degrees.from)

  pub sound : Sound base tree (length c)
  sound = rw whole at (plan_sound strategy parity basis (degree_of c) stands.degrees)

  pub arranged_length : length (arranged whole_ops basis tree c) ≡ length c
  arranged_length = length_arranged whole_ops basis base tree c sound

  pub lists_are : take (length c) lists' ≡ arranged whole_ops basis tree c
  lists_are = ap (take (length c)) stands.listed ∙ front_take (arranged whole_ops basis tree c) lists (length c) arranged_length stands.room

  pub ends_are : take (leaves_of tree) bounds' ≡ ends_of tree 0 (length c)
  ends_are =
      ap (take (leaves_of tree)) stands.ended
      ∙ front_take (ends_of tree 0 (length c)) bounds (leaves_of tree) (length_ends tree 0 (length c)) stands.boundaries

-- ---- an accepted list call leaves them so

module _ {strategy : SplitStrategy} {parity : Parity} {basis : Basis} {c lists : List ℤ} {bounds : List ℕ} {r : Listed} {lists' : List ℤ}
    {bounds' : List ℕ} (call : ListCall whole_numbers strategy parity basis c lists bounds r lists' bounds') (made : r.refusal ≡ 0) where
  accepted : list_refusal whole_numbers strategy parity basis c lists bounds ≡ 0
  unfolding list_answer
  accepted =
      sym (refusal_of (list_refusal whole_numbers strategy parity basis c lists bounds) _ _ (λ (x : Listed). x.refusal) refl refl)
      ∙ ap (λ (x : Listed). x.refusal) (sym call.answer)
      ∙ made

  pub listing_answer : r
      ≡ record {
        refusal = 0;
        degree = degree_of c;
        base = 2 ^ split_for strategy parity basis (degree_of c);
        coefficients = length c;
        lists = leaves_of (plan_tree strategy parity basis (degree_of c));
      }
  unfolding list_answer
  listing_answer = call.answer ∙ sym (when_accepted _ _ accepted)

  pub listing_stands : Stands strategy parity basis c lists bounds lists' bounds'
  unfolding list_coefficients list_boundaries
  listing_stands =
      let passed = list_passed whole_numbers strategy parity basis c lists bounds accepted in
      record {
        degrees = passed.0.degree;
        doubles = sum_by_length_start c (leb-true _ _ passed.0.is_small) passed.0.degree.to;
        room = passed.0.holds;
        boundaries = passed.1;
        listed = call.coefficients ∙ sym (when_accepted _ _ accepted);
        ended = call.boundaries ∙ sym (when_accepted _ _ accepted);
      }

-- ---- polynomials of one length

-- have the same boundaries
pub ends_same : {strategy : SplitStrategy} {parity : Parity} {basis : Basis} {c d out : List ℤ} {ends : List ℕ} {out' : List ℤ} {ends' : List ℕ}
    {room : List ℤ} {marks : List ℕ} {room' : List ℤ} {marks' : List ℕ} (first : Stands strategy parity basis c out ends out' ends')
    (second : Stands strategy parity basis d room marks room' marks') → length c ≡ length d
    → take (leaves_of (tree first)) ends' ≡ take (leaves_of (tree second)) marks'
ends_same {strategy} {parity} {basis} first second same =
    ends_are first ∙ ap (λ (n : ℕ). ends_of (plan_tree strategy parity basis (n - 1)) 0 n) same ∙ sym (ends_are second)

-- what stands of a sum, and of a multiple
module _ {strategy : SplitStrategy} {parity : Parity} {basis : Basis} {c out : List ℤ} {ends : List ℕ} {out' : List ℤ} {ends' : List ℕ}
    (first : Stands strategy parity basis c out ends out' ends') {more : List ℤ} {bounds : List ℕ} {more' : List ℤ} {bounds' : List ℕ} where
  pub stands_add : {d room : List ℤ} {marks : List ℕ} {room' : List ℤ} {marks' : List ℕ} → Stands strategy parity basis d room marks room' marks'
      → length c ≡ length d → Stands strategy parity basis (sum_of whole_ops c d) more bounds more' bounds'
      → take (length (sum_of whole_ops c d)) more' ≡ sum_of whole_ops (take (length c) out') (take (length d) room')
  stands_add {d} second same sum =
      lists_are sum ∙ listed_sum strategy parity basis c d same ∙ ap₂ (sum_of whole_ops) (sym (lists_are first)) (sym (lists_are second))

  pub stands_multiply : (k : ℤ) → Stands strategy parity basis (multiple_of whole_ops k c) more bounds more' bounds'
      → take (length (multiple_of whole_ops k c)) more' ≡ multiple_of whole_ops k (take (length c) out')
  stands_multiply k multiple =
      lists_are multiple ∙ listed_multiple strategy parity basis k c ∙ ap (multiple_of whole_ops k) (sym (lists_are first))
