-- The list call of a sum and of a multiple (request Q-9). What the calls leave stands in their buffers (proofs/Standing), where a sum's lists are the sums
-- of the lists; answer and boundaries go by the length and the settings alone.
use mathlib.Core.Path.{◌≡◌, sym, ◌∙◌, ap, ap₂}
use mathlib.Core.List.{List}
use Prim.Native.Nat.{ℕ, ◌-◌, ◌^◌}
use lib.IntN.{ℤ, ◌*ℤ◌}
use lib.ListN.{length, take, length-map}
use Rattle.algebra.specs.Operations.{whole_ops}
use Rattle.algebra.specs.PolynomialSum.{sum_of, multiple_of}
use Rattle.algebra.specs.declared.Basis.{Basis}
use Rattle.algebra.specs.declared.Parity.{Parity}
use Rattle.algebra.proofs.Integers.{integers}
use Rattle.algebra.proofs.PolynomialSum.{length_sum}
use Rattle.number.specs.Tests.{degree_of}
use Rattle.counts.specs.Choice.{split_for}
use Rattle.counts.specs.declared.choice.SplitStrategy.{SplitStrategy}
use Rattle.lists.specs.Tree.{plan_tree}
use Rattle.lists.specs.Arrange.{leaves_of}
use Rattle.lists.specs.ListSums.{MadeLists, lists_left, boundaries_left, SameListing, ListsAdd, ListsMultiply}
use Rattle.lists.specs.ListCall.{Listed}
use Rattle.lists.proofs.Standing.{Stands, listing_answer, listing_stands, ends_same, stands_add, stands_multiply}

-- the answer of an accepted call, by the length
abbrev answer_to : SplitStrategy → Parity → Basis → ℕ → Listed
answer_to strategy parity basis n = record {
  refusal = 0;
  degree = n - 1;
  base = 2 ^ split_for strategy parity basis (n - 1);
  coefficients = n;
  lists = leaves_of (plan_tree strategy parity basis (n - 1));
}

module _ {strategy : SplitStrategy} {parity : Parity} {basis : Basis} {c : List ℤ} (made : MadeLists strategy parity basis c) where
  stands : Stands strategy parity basis c made.out made.bounds made.out' made.bounds'
  stands = listing_stands made.called made.accepted

  answer_is : made.answer ≡ answer_to strategy parity basis (length c)
  answer_is = listing_answer made.called made.accepted

  lists_are : lists_left made ≡ take (length c) made.out'
  lists_are = ap (λ (r : Listed). take r.coefficients made.out') answer_is

  boundaries_are : boundaries_left made ≡ take (leaves_of (plan_tree strategy parity basis (degree_of c))) made.bounds'
  boundaries_are = ap (λ (r : Listed). take r.lists made.bounds') answer_is

same_listing : {strategy : SplitStrategy} {parity : Parity} {basis : Basis} {c d : List ℤ} → length c ≡ length d
    → (made : MadeLists strategy parity basis c) (other : MadeLists strategy parity basis d) → SameListing made other
same_listing {strategy} {parity} {basis} {c} {d} same made other = record {
  answers = answer_is made ∙ ap (answer_to strategy parity basis) same ∙ sym (answer_is other);
  boundaries = boundaries_are made ∙ ends_same (stands made) (stands other) same ∙ sym (boundaries_are other);
}

pub lists_add : ListsAdd
lists_add strategy parity basis c d same first second sum =
    let size : length (sum_of whole_ops c d) ≡ length c = length_sum integers c d same in
    record {
      lists = lists_are sum ∙ stands_add (stands first) (stands second) same (stands sum)
          ∙ ap₂ (sum_of whole_ops) (sym (lists_are first)) (sym (lists_are second));
      as_first = same_listing size sum first;
      as_second = same_listing (size ∙ same) sum second;
    }

pub lists_multiply : ListsMultiply
lists_multiply strategy parity basis k c made multiple = record {
  lists = lists_are multiple ∙ stands_multiply (stands made) k (stands multiple) ∙ ap (multiple_of whole_ops k) (sym (lists_are made));
  as_made = same_listing (length-map c (λ (a : ℤ). k *ℤ a)) multiple made;
}
