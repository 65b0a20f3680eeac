-- What a set call answers is decided by the count and by the members that it says: sets with the same members are planned alike, whatever stands in the
-- places beyond them.
use mathlib.Core.Path.{◌≡◌}
use mathlib.Core.List.{List}
use Prim.Native.Nat.{ℕ}
use Rattle.std.specs.Prelude.{ℤ}
use Rattle.sets.specs.Members.{members_in}
use Rattle.sets.specs.SetCall.{set_refusal, set_answer, set_coefficients_left, set_boundaries_left, set_numbers_left}
use Rattle.sets.specs.SetSizes.{set_sizes_call}
use Rattle.sets.specs.declared.member.Members.{Members}

module _ (one other : Members) (counts : one.count ≡ other.count) (members : members_in one ≡ members_in other) where
  pub same_sizes : set_sizes_call one ≡ set_sizes_call other
  unfolding set_sizes_call
  same_sizes = rw (members, counts)

  module _ (c out : List ℤ) (bounds steps : List ℕ) where
    pub same_answer : set_answer one c out bounds steps ≡ set_answer other c out bounds steps
    unfolding set_answer set_refusal
    same_answer = rw (members, counts)

    pub same_coefficients : set_coefficients_left one c out bounds steps ≡ set_coefficients_left other c out bounds steps
    unfolding set_coefficients_left set_refusal
    same_coefficients = rw (members, counts)

    pub same_boundaries : set_boundaries_left one c out bounds steps ≡ set_boundaries_left other c out bounds steps
    unfolding set_boundaries_left set_refusal
    same_boundaries = rw (members, counts)

    pub same_numbers : set_numbers_left one c out bounds steps ≡ set_numbers_left other c out bounds steps
    unfolding set_numbers_left set_refusal
    same_numbers = rw (members, counts)
