-- A cut at an even p leaves both parts the parity of the whole.
use Rattle.std.specs.Prelude.{◌≡◌, List, ℕ, ◌%◌, ◌≤◌, length, take, drop}
use Rattle.algebra.specs.Ring.{Ring}
use Rattle.algebra.specs.Allowed.{HasParity}
use Rattle.algebra.specs.Cut.{cut_at}
use Rattle.algebra.specs.declared.Basis.{Basis}
use Rattle.algebra.specs.declared.Parity.{Parity}

-- of low and of high
pub record PartsKeep {A : Type 0} (𝓡 : Ring A) (parity : Parity) (basis : Basis) (p : ℕ) (c : List A) : Type 0 where
  pub low : HasParity 𝓡.ops parity (take p (cut_at 𝓡.ops basis p c))
  pub high : HasParity 𝓡.ops parity (drop p (cut_at 𝓡.ops basis p c))

-- over every ring
abbrev pub CutParity : {A : Type 0} → Ring A → Type 0
CutParity {A} 𝓡 = (parity : Parity) (basis : Basis) (p : ℕ) (c : List A) → p % 2 ≡ 0 → p ≤ length c → HasParity 𝓡.ops parity c
    → PartsKeep 𝓡 parity basis p c
