-- The first places of a buffer of zeros are zeros.
use mathlib.Core.Path.{◌≡◌, sym, ◌∙◌, ap}
use Prim.Native.Nat.{ℕ, suc, ◌+◌, ◌<◌}
use native.Mathlib.Numerals.{add-one}
use native.Mathlib.Omega.{arith}
use lib.IntN.{ℤ, pos}
use lib.ListN.{length, take, replicate, length-replicate}
use Rattle.algebra.proofs.Lists.{take_replicate}
use Rattle.answers.specs.Limits.{list_room}
use Rattle.chains.specs.ZeroChain.{no_coefficients, zero_curve}

-- the curve, and its length
module _ (degree : ℕ) (low : degree < list_room) where
  pub curve_taken : take (degree + 1) no_coefficients ≡ zero_curve degree
  unfolding no_coefficients
  curve_taken = take_replicate (pos 0) (degree + 1) list_room (omega arith) ∙ ap (λ (n : ℕ). replicate n (pos 0)) (add-one degree)

  pub curve_length : degree + 1 ≡ length (take (degree + 1) no_coefficients)
  curve_length = add-one degree ∙ sym (ap length curve_taken ∙ length-replicate {A = ℤ} (suc degree) (pos 0))
