-- On whole coefficients the f64 factorisation writes the same numbers: up to 2^53 the f64 of a number is a map that keeps differences and doubles, so it
-- keeps the cut. A difference or a double is at most 2^53 where its terms are at most 2^52.
use mathlib.Core.List.{List, [], ◌∷◌, map, reverse}
use Prim.Native.Nat.{ℕ, suc, ◌+◌, ◌≤◌, ◌^◌}
use native.Mathlib.Omega.{arith}
use lib.Ieee.{Float}
use lib.ListN.{take, drop}
use lib.IntN.{ℤ, nat_abs}
use Rattle.algebra.specs.Operations.{whole_ops, double}
use Rattle.algebra.specs.Cut.{differences, doubled, lowered, cut_at}
use Rattle.algebra.specs.CutKept.{KeepsCuts}
use Rattle.algebra.specs.declared.Basis.{Basis}
use Rattle.algebra.specs.declared.Basis.TheVariants.{Monomial, Chebyshev}
use Rattle.algebra.proofs.CutKept.{cut_kept}
use Rattle.algebra.proofs.Each.{each_take, each_drop, each_append, each_reverse}
use Rattle.algebra.proofs.Magnitudes.{abs_sub, abs_double}
use Rattle.number.specs.Numbers.{float_ops}
use Rattle.number.specs.Exact.{num, To53, Within}
use Rattle.number.specs.CutSame.{CutsSame}
use Rattle.number.proofs.Exact.{exact}

-- ---- at most twice as much

module _ (n : ℕ) where
  within_more : (c : List ℤ) → Within n c → Within (n + n) c
  within_more [] h = tt
  within_more (x ∷ c) h = (omega (arith, h.0), within_more c h.1)

  within_differences : (c d : List ℤ) → Within n c → Within n d → Within (n + n) (differences whole_ops c d)
  unfolding differences
  within_differences [] d g h = tt
  within_differences (x ∷ c) [] g h = within_more (x ∷ c) g
  within_differences (x ∷ c) (y ∷ d) g h = (omega (arith, abs_sub x y, g.0, h.0), within_differences c d g.1 h.1)

  within_double : (c : List ℤ) → Within n c → Within (n + n) (map (double whole_ops) c)
  within_double [] h = tt
  within_double (x ∷ c) h = (omega (arith, abs_double x, h.0), within_double c h.1)

  within_doubled : (c : List ℤ) → Within n c → Within (n + n) (doubled whole_ops c)
  unfolding doubled
  within_doubled [] h = tt
  within_doubled (x ∷ c) h = (omega (arith, h.0), within_double c h.1)

  within_cut : (basis : Basis) (p : ℕ) (c : List ℤ) → Within n c → Within (n + n) (cut_at whole_ops basis p c)
  unfolding cut_at lowered
  within_cut Monomial p c h = within_more c h
  within_cut Chebyshev p c h =
      let small : ℤ → Type 0 = λ z. nat_abs z ≤ n in
      let twice : ℤ → Type 0 = λ z. nat_abs z ≤ n + n in
      let near = reverse (take p c) in
      let far = drop (suc p) c in
      each_append twice (lowered whole_ops p c) (doubled whole_ops (drop p c))
      (each_reverse twice (differences whole_ops near far)
      (within_differences near far (each_reverse small (take p c) (each_take small p c h)) (each_drop small (suc p) c h)))
      (within_doubled (drop p c) (each_drop small p c h))

-- ---- equal numbers

pub num_keeps : KeepsCuts To53 whole_ops float_ops num
num_keeps = record { subtracted = exact.subtracted; doubled = exact.doubled }

pub cuts_same : CutsSame
cuts_same basis p c = record {
  written = cut_kept ℤ Float To53 whole_ops float_ops num num_keeps basis p c;
  within = within_cut (2 ^ 52) basis p c;
}
