-- What is promised of the needed powers.
use Rattle.std.specs.Prelude.{◌≡◌, true, ◌⊎◌, ◌↔◌, ℕ, ◌^◌, ◌≤◌, ◌<◌}
use mathlib.Core.List.{List, [], ◌∷◌, Memᴰ}
use Rattle.algebra.specs.Allowed.{allows}
use Rattle.algebra.specs.declared.Basis.{Basis}
use Rattle.algebra.specs.declared.Parity.{Parity}
use Rattle.number.specs.Bits.{bit_len}
use Rattle.needed.specs.Needed.{Part, Needed, baby_limit, Target, NeededPower, Least}
use Rattle.needed.specs.NeededList.{needed_list}

-- each element is less than the next
pub data Rising : List ℕ → Type 0 where
  empty : Rising []
  single : {n : ℕ} → Rising (n ∷ [])
  next : {n m : ℕ} {rest : List ℕ} → n < m → Rising (m ∷ rest) → Rising (n ∷ m ∷ rest)

-- of the needed powers, for all parities, bases and splits
pub record NeededPowers (parity : Parity) (basis : Basis) (degree split : ℕ) : Type 1 where
  -- the needed powers are the least set that holds the targets and is closed under parts, in Chebyshev under their distance too
  pub least : Least basis (Target parity degree split) (NeededPower parity basis degree split)
  -- the list holds each of them, and nothing else; it rises, so it holds each once, and its length is their number
  pub listed : (n : ℕ) → Memᴰ n (needed_list parity basis degree split) ↔ NeededPower parity basis degree split n
  pub rising : Rising (needed_list parity basis degree split)
  -- each is from 2 to the degree, so degree below 2 needs none
  pub from_two : (n : ℕ) → NeededPower parity basis degree split n → 2 ≤ n
  pub within : 0 < degree → (n : ℕ) → NeededPower parity basis degree split n → n ≤ degree
  pub none_below_two : degree < 2 → (n : ℕ) → NeededPower parity basis degree split n → ⊥
  -- a part is smaller than what it is a part of
  pub parts_smaller : (n m : ℕ) → 2 ≤ n → Part basis n m → m < n
  -- the powers of two up to 2^(L−1) are among them, and the allowed powers from 2 in the slices
  pub two_powers_lem : (k : ℕ) → 0 < k → k < bit_len degree → NeededPower parity basis degree split (2 ^ k)
  pub allowed : (n : ℕ) → 2 ≤ n → n < baby_limit degree split → allows parity n ≡ true → NeededPower parity basis degree split n

-- of a union of targets the needed powers are the union of the sets
abbrev pub Union : Basis → (ℕ → Type 0) → (ℕ → Type 0) → Type 0
Union basis S T = (n : ℕ) → Needed basis (λ (k : ℕ). S k ⊎ T k) n ↔ (Needed basis S n ⊎ Needed basis T n)
