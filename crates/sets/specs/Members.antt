-- The members of a set as they are handed in (docs/RULES.md, "Sets of curves"): settings in an array, coefficients one after another in one slice.
use Rattle.std.specs.Prelude.{Bool, true, not, cond, ◌&&◌, List, [], ◌∷◌, map, ℕ, ◌+◌, eqb, ℤ, take, drop}
use Rattle.algebra.specs.EnumNumbers.{basis_number, parity_number}
use Rattle.sets.specs.declared.member.Member.{Member}
use Rattle.sets.specs.declared.member.Members.{Members}

-- the members, in order: the first of the array, as many as the count says
abbrev pub members_in : Members → List Member
members_in handed = take handed.count handed.members

-- ---- the members' coefficients

-- a member and its coefficients
pub record Curve : Type 0 where
  pub member : Member
  pub coefficients : List ℤ

-- each member's are the next of the slice
unfoldable pub curves_in : List Member → List ℤ → List Curve
curves_in [] c = []
curves_in (member ∷ members) c = record { member = member; coefficients = take member.count c } ∷ curves_in members (drop member.count c)

-- the sum of some numbers
unfoldable pub total : List ℕ → ℕ
total [] = 0
total (n ∷ ns) = n + total ns

-- how many coefficients the members have
abbrev pub handed_count : List Member → ℕ
handed_count members = total (map (λ (member : Member). member.count) members)

-- ---- the settings that a set has in common

-- "the same basis and fold setting and, when folded, the same parity"
unfoldable pub alike : (one other : Member) → Bool
alike one other =
    eqb (basis_number one.basis) (basis_number other.basis)
    && cond one.fold (other.fold && eqb (parity_number one.parity) (parity_number other.parity)) (not other.fold)

-- some members have them in common with one
unfoldable pub alike_to : (one : Member) → List Member → Bool
alike_to one [] = true
alike_to one (member ∷ members) = alike one member && alike_to one members

-- all members have them in common with the first
unfoldable pub all_alike : List Member → Bool
all_alike [] = true
all_alike (first ∷ members) = alike_to first members
