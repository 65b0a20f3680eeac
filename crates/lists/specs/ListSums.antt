-- Request Q-9, "Adding two curves", of the list call: what it answers and leaves of a sum and of a multiple.
use Rattle.std.specs.Prelude.{◌≡◌, List, ℕ, ℤ, length, take}
use Rattle.algebra.specs.Operations.{whole_ops}
use Rattle.algebra.specs.PolynomialSum.{sum_of, multiple_of}
use Rattle.algebra.specs.declared.Basis.{Basis}
use Rattle.algebra.specs.declared.Parity.{Parity}
use Rattle.number.specs.Numbers.{whole_numbers}
use Rattle.counts.specs.declared.choice.SplitStrategy.{SplitStrategy}
use Rattle.lists.specs.ListCall.{Listed, ListCall}

-- ---- a call that listed a polynomial

-- a call with these settings that accepted c: the buffers that it was lent, its answer, and what it left in the buffers
pub record MadeLists (strategy : SplitStrategy) (parity : Parity) (basis : Basis) (c : List ℤ) : Type 0 where
  pub out : List ℤ
  pub bounds : List ℕ
  pub answer : Listed
  pub out' : List ℤ
  pub bounds' : List ℕ
  pub called : ListCall whole_numbers strategy parity basis c out bounds answer out' bounds'
  pub accepted : answer.refusal ≡ 0

module _ {strategy : SplitStrategy} {parity : Parity} {basis : Basis} {c : List ℤ} (made : MadeLists strategy parity basis c) where
  -- what it left in the places that its answer counts: the lists one after another, and their boundaries
  abbrev pub lists_left : List ℤ
  lists_left = take made.answer.coefficients made.out'

  abbrev pub boundaries_left : List ℕ
  boundaries_left = take made.answer.lists made.bounds'

-- two calls with the same answer and the same boundaries
pub record SameListing {strategy : SplitStrategy} {parity : Parity} {basis : Basis} {c d : List ℤ} (made : MadeLists strategy parity basis c)
    (other : MadeLists strategy parity basis d) : Type 0 where
  pub answers : made.answer ≡ other.answer
  pub boundaries : boundaries_left made ≡ boundaries_left other

-- ---- a sum

-- the lists of the sum are the sums of the lists, with equal answers and boundaries
pub record ListsAdded {strategy : SplitStrategy} {parity : Parity} {basis : Basis} {c d : List ℤ} (first : MadeLists strategy parity basis c)
    (second : MadeLists strategy parity basis d) (sum : MadeLists strategy parity basis (sum_of whole_ops c d)) : Type 0 where
  pub lists : lists_left sum ≡ sum_of whole_ops (lists_left first) (lists_left second)
  pub as_first : SameListing sum first
  pub as_second : SameListing sum second

-- if both polynomials have one length, and both and their sum are accepted
abbrev pub ListsAdd : Type 0
ListsAdd = (strategy : SplitStrategy) (parity : Parity) (basis : Basis) (c d : List ℤ) → length c ≡ length d
    → (first : MadeLists strategy parity basis c) (second : MadeLists strategy parity basis d)
    (sum : MadeLists strategy parity basis (sum_of whole_ops c d)) → ListsAdded first second sum

-- ---- a multiple

-- the lists of the multiple are the multiples of the lists, with equal answers and boundaries
pub record ListsMultiplied {strategy : SplitStrategy} {parity : Parity} {basis : Basis} {c : List ℤ} (k : ℤ)
    (made : MadeLists strategy parity basis c) (multiple : MadeLists strategy parity basis (multiple_of whole_ops k c)) : Type 0 where
  pub lists : lists_left multiple ≡ multiple_of whole_ops k (lists_left made)
  pub as_made : SameListing multiple made

-- if the polynomial and its multiple are accepted
abbrev pub ListsMultiply : Type 0
ListsMultiply = (strategy : SplitStrategy) (parity : Parity) (basis : Basis) (k : ℤ) (c : List ℤ) (made : MadeLists strategy parity basis c)
    (multiple : MadeLists strategy parity basis (multiple_of whole_ops k c)) → ListsMultiplied k made multiple
