-- The needed powers (docs/RULES.md, "Choosing the split"), as the least set of their rule.
use Rattle.std.specs.Prelude.{◌≡◌, true, ℕ, ◌+◌, ◌^◌, ◌≤◌, ◌<◌, min}
use Rattle.algebra.specs.Allowed.{allows}
use Rattle.algebra.specs.declared.Basis.{Basis}
use Rattle.algebra.specs.declared.Basis.TheVariants.{Chebyshev}
use Rattle.algebra.specs.declared.Parity.{Parity}
use Rattle.number.specs.Split.{parts_of}
use Rattle.number.specs.Bits.{top_power}

-- m is one of those parts of the split of n that are above 1, or in Chebyshev their distance if that is at least 2
pub data Part (basis : Basis) (n m : ℕ) : Type 0 where
  first : 1 < m → m ≡ (parts_of n).a → Part basis n m
  second : 1 < m → m ≡ (parts_of n).b → Part basis n m
  apart : basis ≡ Chebyshev → 1 < m → m ≡ (parts_of n).distance → Part basis n m

-- the least set that holds every target and, with each n above 1, its parts
pub data Needed (basis : Basis) (Target : ℕ → Type 0) : ℕ → Type 0 where
  target : {n : ℕ} → Target n → Needed basis Target n
  part : {n m : ℕ} → 1 < n → Needed basis Target n → Part basis n m → Needed basis Target m

-- min(base, degree + 1): the powers in slices are below it
abbrev pub baby_limit : (degree split : ℕ) → ℕ
baby_limit degree split = min (2 ^ split) (degree + 1)

-- what is needed at once: 2^(L−1) if that is at least 2, and the allowed powers from 3 (so `Even` from 4) below min(base, degree + 1)
pub data Target (parity : Parity) (degree split n : ℕ) : Type 0 where
  top : 2 ≤ n → n ≡ top_power degree → Target parity degree split n
  small : 3 ≤ n → n < baby_limit degree split → allows parity n ≡ true → Target parity degree split n

-- the powers that a degree needs at a split
abbrev pub NeededPower : Parity → Basis → (degree split n : ℕ) → Type 0
NeededPower parity basis degree split = Needed basis (Target parity degree split)

-- with each n above 1 the set holds its parts
abbrev pub Closed : Basis → (ℕ → Type 0) → Type 0
Closed basis Set = (n m : ℕ) → 1 < n → Set n → Part basis n m → Set m

-- the set holds the targets and is closed, and every such set holds all of it
pub record Least (basis : Basis) (Target Set : ℕ → Type 0) : Type 1 where
  pub holds : (n : ℕ) → Target n → Set n
  pub closed : Closed basis Set
  pub least : (Other : ℕ → Type 0) → ((n : ℕ) → Target n → Other n) → Closed basis Other → (n : ℕ) → Set n → Other n
