-- The definitions at numbers worked by hand. Each is proved by computing; `negsuc n` is -(n + 1).
use Rattle.std.specs.Prelude.{◌≡◌, refl, [], ◌∷◌, map, pos, negsuc, ◌+ℤ◌, ◌*ℤ◌}
use Rattle.algebra.specs.Cut.{differences, doubled, lowered, cut_at}
use Rattle.algebra.specs.Fold.{every_second, coeff_r, fold}
use Rattle.algebra.specs.Magnitude.{sum_abs}
use Rattle.algebra.specs.Operations.{whole_ops}
use Rattle.algebra.specs.Power.{pow, cheb, power}
use Rattle.algebra.specs.Remainder.{rem}
use Rattle.algebra.specs.Transform.{input_of, output_of}
use Rattle.algebra.specs.Value.{sum, dot, value}
use Rattle.algebra.specs.declared.Basis.TheVariants.{Monomial, Chebyshev}
use Rattle.algebra.specs.declared.PolynomialInputTransform.TheVariants.{ChebyshevT2TimesInput}
use Rattle.algebra.specs.declared.Parity.TheVariants.{Even, Odd}

-- ---- powers and values

-- T_0 .. T_7 at 2 are 1, 2, 7, 26, 97, 362, 1351, 5042
pub seventh : cheb whole_ops (pos 2) 7 ≡ pos 5042
unfolding cheb
seventh = refl

-- 1 + 2·2 + 3·4 + 4·8 + 5·16 + 6·32
pub monomial_at_2 : value whole_ops Monomial (pos 2) (map pos (1 ∷ 2 ∷ 3 ∷ 4 ∷ 5 ∷ 6 ∷ [])) ≡ pos 321
unfolding dot sum pow
monomial_at_2 = refl

-- ---- the cut of 1 + 2·T_1 + 3·T_2 + 4·T_3 at 2: (1 - 2·T_1) + T_2·(3 + 8·T_1)

-- r_1 = 2 - 4, q_0 = 3 as it is, q_1 = 2·4
pub cut_at_2 : cut_at whole_ops Chebyshev 2 (map pos (1 ∷ 2 ∷ 3 ∷ 4 ∷ [])) ≡ pos 1 ∷ negsuc 1 ∷ pos 3 ∷ pos 8 ∷ []
unfolding cut_at lowered differences doubled
cut_at_2 = refl

-- at 5, where T_1, T_2, T_3 are 5, 49, 485: the whole
pub whole_at_5 : value whole_ops Chebyshev (pos 5) (map pos (1 ∷ 2 ∷ 3 ∷ 4 ∷ [])) ≡ pos 2098
unfolding dot sum cheb
whole_at_5 = refl

-- the parts: low is -9 and high is 43
pub low_at_5 : value whole_ops Chebyshev (pos 5) (pos 1 ∷ negsuc 1 ∷ []) ≡ negsuc 8
unfolding dot sum cheb
low_at_5 = refl

pub high_at_5 : value whole_ops Chebyshev (pos 5) (pos 3 ∷ pos 8 ∷ []) ≡ pos 43
unfolding dot sum cheb
high_at_5 = refl

-- and together they are the whole; with q_0 doubled too, high would be 46
pub parts_at_5 : negsuc 8 +ℤ power whole_ops Chebyshev (pos 5) 2 *ℤ pos 43 ≡ pos 2098
unfolding cheb
parts_at_5 = refl

-- a cut that leaves high one coefficient changes nothing: q_0 is not doubled
pub cut_at_last : cut_at whole_ops Chebyshev 2 (map pos (1 ∷ 2 ∷ 3 ∷ [])) ≡ map pos (1 ∷ 2 ∷ 3 ∷ [])
unfolding cut_at lowered differences doubled
cut_at_last = refl

-- of powers a cut changes nothing
pub cut_monomial : cut_at whole_ops Monomial 2 (map pos (1 ∷ 2 ∷ 3 ∷ 4 ∷ [])) ≡ map pos (1 ∷ 2 ∷ 3 ∷ 4 ∷ [])
unfolding cut_at
cut_monomial = refl

-- ---- folds

-- 1 + 3·T_2 + 5·T_4 is 1 + 3·T_1 + 5·T_2 at T_2
pub even_fold : fold whole_ops Even Chebyshev (map pos (1 ∷ 0 ∷ 3 ∷ 0 ∷ 5 ∷ [])) ≡ map pos (1 ∷ 3 ∷ 5 ∷ [])
unfolding fold every_second
even_fold = refl

-- x + 2·x³ is x·(1 + 2·y) at y = x²
pub odd_monomial_fold : fold whole_ops Odd Monomial (map pos (0 ∷ 1 ∷ 0 ∷ 2 ∷ [])) ≡ map pos (1 ∷ 2 ∷ [])
unfolding fold every_second
odd_monomial_fold = refl

-- T_1 + 2·T_3 is x·(-1 + 4·y) at y = T_2 (the fold is in the starred table): at 3, T_2 = 17, and 3·(-1 + 4·17) = 201 = 3 + 2·99
pub odd_chebyshev_at_3 : output_of whole_ops ChebyshevT2TimesInput (pos 3)
    (value whole_ops Chebyshev (input_of whole_ops ChebyshevT2TimesInput (pos 3)) (negsuc 0 ∷ pos 4 ∷ [])) ≡ pos 201
unfolding output_of input_of dot sum cheb
odd_chebyshev_at_3 = refl

-- R_2 = 2·T_2 - 2·T_1 + 1
pub second_r : coeff_r whole_ops 2 0 ∷ coeff_r whole_ops 2 1 ∷ coeff_r whole_ops 2 2 ∷ coeff_r whole_ops 2 3 ∷ [] ≡ pos 1 ∷ negsuc 1 ∷ pos 2 ∷ pos 0 ∷ []
unfolding coeff_r
second_r = refl

-- ---- remainders and magnitudes

-- -10 = -2·7 + 4
pub rem_negative : rem 7 (negsuc 9) ≡ 4
unfolding rem
rem_negative = refl

-- |1| + |-2| + |3| + |8|
pub magnitudes : sum_abs (pos 1 ∷ negsuc 1 ∷ pos 3 ∷ pos 8 ∷ []) ≡ 14
unfolding sum_abs
magnitudes = refl
