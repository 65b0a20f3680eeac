-- Worked examples of the interval in a plan's head and of its refusal, 7, computed.
use Rattle.std.specs.Prelude.{◌≡◌, refl, true, false, List, [], ◌∷◌, ℕ, Float, ℤ, pos, negsuc}
use Rattle.std.specs.Float.{nan, inf, fin}
use Rattle.std.specs.Float.Ieee.{add, sub, div, neg, lt, of_int}
use Rattle.algebra.specs.Allowed.{allows}
use Rattle.algebra.specs.Magnitude.{sum_abs}
use Rattle.algebra.specs.declared.Basis.TheVariants.{Monomial, Chebyshev}
use Rattle.algebra.specs.declared.Parity.TheVariants.{Full, Odd}
use Rattle.number.specs.Exact.{num}
use Rattle.number.specs.Parity.{has_parity_from}
use Rattle.counts.specs.declared.choice.SplitStrategy.TheVariants.{MinDepth, MinMult}
use Rattle.plan.specs.PlanHead.{head_of}
use Rattle.plan.specs.PlanCall.{head_for, plan_refusal}

-- −0
abbrev minus_zero : Float
minus_zero = fin true 0 (pos 0)

-- ---- what the head has

-- Chebyshev on −1 to 1: u is 1, and w is −0
pub unit : (head_for MinDepth Full Chebyshev false (pos 1 ∷ pos 2 ∷ []) (num (negsuc 0)) (num (pos 1))).interval
    ≡ record { a = num (negsuc 0); b = num (pos 1); u = num (pos 1); w = minus_zero }
unfolding head_of of_int add sub div neg
unit = refl

-- folding keeps the interval of the polynomial handed in: Odd 0 1 0 2 on 0 to 2
pub folded : (head_for MinMult Odd Chebyshev true (pos 0 ∷ pos 1 ∷ pos 0 ∷ pos 2 ∷ []) (num (pos 0)) (num (pos 2))).interval
    ≡ record { a = num (pos 0); b = num (pos 2); u = num (pos 1); w = num (negsuc 0) }
unfolding head_of of_int add sub div neg
folded = refl

-- −1 to ∞ is not refused: u is 0, and w a NaN
pub unbounded : (head_for MinDepth Full Chebyshev false (pos 1 ∷ pos 2 ∷ []) (num (negsuc 0)) (inf false)).interval
    ≡ record { a = num (negsuc 0); b = inf false; u = num (pos 0); w = nan }
unfolding head_of of_int add sub div neg
unbounded = refl

-- ---- what is refused

-- a plan of Full, Monomial, MinDepth, without buffers
abbrev refusal : (c : List ℤ) → (a b : Float) → ℕ
refusal c a b = plan_refusal MinDepth Full Monomial false c a b [] [] []

-- equal bounds, −0 and 0, bounds in the wrong order, a NaN: 7, and ahead of 21
pub equal_bounds : refusal (pos 1 ∷ pos 2 ∷ []) (num (pos 1)) (num (pos 1)) ≡ 7
unfolding plan_refusal sum_abs has_parity_from allows of_int lt
equal_bounds = refl

pub zeros : refusal (pos 1 ∷ pos 2 ∷ []) minus_zero (num (pos 0)) ≡ 7
unfolding plan_refusal sum_abs has_parity_from allows of_int lt
zeros = refl

pub reversed : refusal (pos 1 ∷ pos 2 ∷ []) (num (pos 1)) (num (negsuc 0)) ≡ 7
unfolding plan_refusal sum_abs has_parity_from allows of_int lt
reversed = refl

pub nan_below : refusal (pos 1 ∷ pos 2 ∷ []) nan (num (pos 1)) ≡ 7
unfolding plan_refusal sum_abs has_parity_from allows of_int lt
nan_below = refl

pub nan_above : refusal (pos 1 ∷ pos 2 ∷ []) (num (negsuc 0)) nan ≡ 7
unfolding plan_refusal sum_abs has_parity_from allows of_int lt
nan_above = refl

-- a sum above 2^30 is refused first, and with the bounds in order the buffers are
pub sum_first : refusal (pos 1073741824 ∷ pos 1 ∷ []) nan nan ≡ 3
unfolding plan_refusal sum_abs has_parity_from allows
sum_first = refl

pub buffers_last : refusal (pos 1 ∷ pos 2 ∷ []) (num (negsuc 0)) (num (pos 1)) ≡ 21
unfolding plan_refusal head_of sum_abs has_parity_from allows of_int lt
buffers_last = refl
