-- The factorisation of whole coefficients as f64 (docs/RULES.md, "Factorising and listing").
use Rattle.std.specs.Prelude.{◌≡◌, List, map, ℕ, ℤ}
use Rattle.algebra.specs.Operations.{whole_ops}
use Rattle.algebra.specs.Cut.{cut_at}
use Rattle.algebra.specs.declared.Basis.{Basis}
use Rattle.number.specs.Numbers.{float_ops}
use Rattle.number.specs.Exact.{num, AllTo53, AllTo52}

-- where the coefficients and the numbers written are at most 2^53, the f64 factorisation writes the same numbers; and where every
-- coefficient is at most 2^52, each number written is at most 2^53
pub record CutSame (basis : Basis) (p : ℕ) (c : List ℤ) : Type 0 where
  pub written : AllTo53 c → AllTo53 (cut_at whole_ops basis p c) → cut_at float_ops basis p (map num c) ≡ map num (cut_at whole_ops basis p c)
  pub within : AllTo52 c → AllTo53 (cut_at whole_ops basis p c)

-- for every basis, place and list
abbrev pub CutsSame : Type 0
CutsSame = (basis : Basis) (p : ℕ) (c : List ℤ) → CutSame basis p c
