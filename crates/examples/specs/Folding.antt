-- Worked examples of the folds and their refusals.
use Rattle.std.specs.Prelude.{◌≡◌, refl, true, false, [], ◌∷◌, pos, negsuc}
use Rattle.std.specs.Float.{fin, nan}
use Rattle.std.specs.Float.Ieee.{eq, add, mul}
use Rattle.algebra.specs.Allowed.{allows}
use Rattle.algebra.specs.Operations.{whole_ops}
use Rattle.algebra.specs.Fold.{every_second, coeff_r, add_r, sum_rFrom, fold}
use Rattle.algebra.specs.Magnitude.{sum_abs}
use Rattle.algebra.specs.Transform.{transform_of}
use Rattle.algebra.specs.declared.PolynomialInputTransform.TheVariants.{ChebyshevT2TimesInput}
use Rattle.algebra.specs.declared.Basis.TheVariants.{Monomial, Chebyshev}
use Rattle.algebra.specs.declared.Parity.TheVariants.{Full, Even, Odd}
use Rattle.number.specs.Numbers.{whole_numbers, float_ops, float_numbers}
use Rattle.number.specs.Refusal.{unless_refused}
use Rattle.number.specs.Parity.{has_parity_from}
use Rattle.number.specs.FoldCall.{fold_refusal, fold_answer, fold_buffer}

-- a fold may sum above 2^30 where its polynomial doesn't
pub large_fold : fold whole_ops Odd Chebyshev (pos 0 ∷ pos 0 ∷ pos 0 ∷ pos 536870912 ∷ []) ≡ negsuc 536870911 ∷ pos 1073741824 ∷ []
unfolding fold every_second sum_rFrom add_r coeff_r
large_fold = refl

-- R_2 = 2T_2 - 2T_1 + 1
pub third_fold : fold whole_ops Odd Chebyshev (pos 0 ∷ pos 0 ∷ pos 0 ∷ pos 0 ∷ pos 0 ∷ pos 1 ∷ []) ≡ pos 1 ∷ negsuc 1 ∷ pos 2 ∷ []
unfolding fold every_second sum_rFrom add_r coeff_r
third_fold = refl

pub even_fold : fold whole_ops Even Chebyshev (pos 1 ∷ pos 0 ∷ pos 2 ∷ pos 0 ∷ []) ≡ pos 1 ∷ pos 2 ∷ []
unfolding fold every_second
even_fold = refl

-- Full is 5, whatever else holds
pub full_refused : fold_refusal whole_numbers Full Monomial [] [] ≡ 5
unfolding fold_refusal
full_refused = refl

-- Odd at degree 2 is 6, ahead of the 1 at a wrong place
pub low_refused : fold_refusal whole_numbers Odd Monomial (pos 1 ∷ pos 2 ∷ pos 3 ∷ []) [] ≡ 6
unfolding fold_refusal has_parity_from allows fold every_second
low_refused = refl

-- a wrong place is 4, ahead of magnitudes above 2^30
pub wrong_refused : fold_refusal whole_numbers Even Monomial (pos 1073741824 ∷ pos 2 ∷ pos 3 ∷ []) [] ≡ 4
unfolding fold_refusal has_parity_from allows fold every_second
wrong_refused = refl

-- which are 3, ahead of a short buffer
pub above_refused : fold_refusal whole_numbers Even Monomial (pos 1073741824 ∷ pos 0 ∷ negsuc 0 ∷ []) [] ≡ 3
unfolding fold_refusal has_parity_from allows fold every_second sum_abs
above_refused = refl

-- a short buffer is 21; with room and magnitudes of 2^30 nothing is refused
pub short_refused : fold_refusal whole_numbers Even Monomial (pos 1073741823 ∷ pos 0 ∷ negsuc 0 ∷ []) (pos 0 ∷ []) ≡ 21
unfolding fold_refusal has_parity_from allows fold every_second sum_abs
short_refused = refl

pub limit_taken : fold_refusal whole_numbers Even Monomial (pos 1073741823 ∷ pos 0 ∷ negsuc 0 ∷ []) (pos 0 ∷ pos 0 ∷ []) ≡ 0
unfolding fold_refusal has_parity_from allows fold every_second sum_abs
limit_taken = refl

-- -0 counts as zero, a NaN doesn't
pub minus_zero_taken : fold_refusal float_numbers Even Monomial (fin false 1 (pos 0) ∷ fin true 0 (pos 0) ∷ fin false 1 (pos 0) ∷ []) (nan ∷ nan ∷ []) ≡ 0
unfolding fold_refusal has_parity_from allows fold every_second eq
minus_zero_taken = refl

pub nan_refused : fold_refusal float_numbers Even Monomial (fin false 1 (pos 0) ∷ nan ∷ fin false 1 (pos 0) ∷ []) (nan ∷ nan ∷ []) ≡ 4
unfolding fold_refusal has_parity_from allows fold every_second eq
nan_refused = refl

-- the answer of a fold, and what it leaves: the places beyond are unchanged
pub odd_answer : fold_answer whole_numbers Odd Chebyshev (pos 0 ∷ pos 1 ∷ pos 0 ∷ pos 2 ∷ []) (pos 7 ∷ pos 7 ∷ pos 7 ∷ [])
    ≡ record { refusal = 0; transform = ChebyshevT2TimesInput; parity = Full; count = 2 }
unfolding fold_answer fold_refusal unless_refused has_parity_from allows fold every_second sum_rFrom add_r coeff_r sum_abs transform_of
odd_answer = refl

pub odd_buffer : fold_buffer whole_numbers Odd Chebyshev (pos 0 ∷ pos 1 ∷ pos 0 ∷ pos 2 ∷ []) (pos 7 ∷ pos 7 ∷ pos 7 ∷ []) ≡ negsuc 0 ∷ pos 4 ∷ pos 7 ∷ []
unfolding fold_buffer fold_refusal unless_refused has_parity_from allows fold every_second sum_rFrom add_r coeff_r sum_abs
odd_buffer = refl

-- a first -0 of the odd fold becomes +0, a copied one stays
pub minus_zero_summed : fold float_ops Odd Chebyshev (fin false 0 (pos 0) ∷ fin true 0 (pos 0) ∷ []) ≡ fin false 0 (pos 0) ∷ []
unfolding fold every_second sum_rFrom add_r coeff_r add mul
minus_zero_summed = refl

pub minus_zero_copied : fold float_ops Odd Monomial (fin false 0 (pos 0) ∷ fin true 0 (pos 0) ∷ []) ≡ fin true 0 (pos 0) ∷ []
unfolding fold every_second
minus_zero_copied = refl
