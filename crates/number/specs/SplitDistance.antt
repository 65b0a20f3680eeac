-- The third number of an index split (request Q-6): what it is, and what it serves.
use Rattle.std.specs.Prelude.{◌≡◌, ℕ, ◌+◌, min, max}
use Rattle.algebra.specs.Ring.{Ring}
use Rattle.algebra.specs.Power.{power}
use Rattle.algebra.specs.Distance.{distance_of}
use Rattle.algebra.specs.ProductLaw.{product_of}
use Rattle.algebra.specs.declared.Basis.{Basis}
use Rattle.number.specs.Split.{split_of}

-- index n is taken
abbrev pub Taken : (n : ℕ) → Type 0
Taken n = (split_of n).refusal ≡ 0

-- the third number is the distance of the first two
abbrev pub ThirdIsDistance : Type 0
ThirdIsDistance = (n : ℕ) → Taken n → (split_of n).distance ≡ distance_of (split_of n).a (split_of n).b

-- the greater part is the lesser one and the third number
abbrev pub PartsDiffer : Type 0
PartsDiffer = (n : ℕ) → Taken n → max (split_of n).a (split_of n).b ≡ min (split_of n).a (split_of n).b + (split_of n).distance

-- 0 in a refusal
abbrev pub RefusedZero : Type 0
RefusedZero = (n : ℕ) → (Taken n → ⊥) → (split_of n).distance ≡ 0

-- over every ring, power n of a basis is made of the powers at these three numbers
abbrev pub SplitProduct : {A : Type 0} → Ring A → Type 0
SplitProduct {A} 𝓡 = (x : A) (basis : Basis) (n : ℕ) → Taken n
    → power 𝓡.ops basis x n
    ≡ product_of 𝓡.ops basis (power 𝓡.ops basis x (split_of n).a) (power 𝓡.ops basis x (split_of n).b)
    (power 𝓡.ops basis x (split_of n).distance)
