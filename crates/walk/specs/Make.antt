-- Making a power (docs/RULES.md, "Steps and the walk"): step `1 n a b`.
use Rattle.std.specs.Prelude.{Bool, cond, ◌&&◌, ℕ, zero, suc, eqb, leb}
use Rattle.std.proofs.Math.Option.{Option, some, none}
use Rattle.algebra.specs.declared.Basis.{Basis}
use Rattle.algebra.specs.declared.Basis.TheVariants.{Monomial, Chebyshev}
use Rattle.number.specs.Limits.{plan_limit}
use Rattle.number.specs.Split.{split_of}
use Rattle.number.specs.Options.{◌then◌, when, missing}
use Rattle.walk.specs.Rules.{Rules}
use Rattle.walk.specs.State.{Powers}

-- (a, b) is the split of n, in its order
abbrev pub is_split : (n a b : ℕ) → Bool
is_split n a b = eqb a (split_of n).a && eqb b (split_of n).b

-- power n may be made of a and b: n is at most 4,095, and they are its split
unfoldable pub is_makeable : (n a b : ℕ) → Bool
is_makeable n a b = leb n plan_limit && is_split n a b

-- the powers with power n beside them
unfoldable pub with_power : {A : Type 0} → ℕ → A → Powers A → Powers A
with_power n v powers m = cond (eqb m n) (some v) (powers m)

module _ {A : Type 0} (𝓡 : Rules A) where
  -- power 0 is 1, power 1 is y
  unfoldable pub first_powers : (y : A) → Powers A
  first_powers y zero = some 𝓡.one
  first_powers y (suc zero) = some y
  first_powers y (suc (suc n)) = none

  -- from powers a and b, in Chebyshev from that at their distance too; none if one of these is not there
  unfoldable pub power_from : Basis → Powers A → (a b distance : ℕ) → Option A
  power_from Monomial powers a b distance = powers a then λ u. powers b then λ v. some (𝓡.product u v)
  power_from Chebyshev powers a b distance =
      powers a then λ u. powers b then λ v. powers distance then λ w. some (𝓡.product_less u v w)

  -- the distance is the third number of the split of n; refused, too, if power n was made before; powers 0 and 1 always were
  unfoldable pub make_of : Basis → Powers A → (n a b : ℕ) → Option (Powers A)
  make_of basis powers n a b =
      when (is_makeable n a b && missing (powers n)) (power_from basis powers a b (split_of n).distance then λ v. some (with_power n v powers))
