-- What a split takes at least.
use Rattle.std.specs.Prelude.{ℕ, ◌≤◌}
use Rattle.algebra.specs.declared.Basis.{Basis}
use Rattle.algebra.specs.declared.Parity.{Parity}
use Rattle.counts.specs.Pair.{pair_at}

-- no more than the ct-ct multiplications of the split, in either basis
abbrev pub Fewest : Parity → (degree split ct : ℕ) → Type 0
Fewest parity degree split ct = (basis : Basis) → ct ≤ (pair_at parity basis degree split).ct
