-- Whole coefficients with magnitudes summing to at most 2^30 fold to the same numbers as f64: each is at most twice that sum, and
-- up to 2^53 f64 is exact. A whole number's f64 counts as zero exactly if the number is zero, so the tests agree too.
use mathlib.Core.Path.{◌≡◌, refl, sym, ap, ap₂, ◌∙◌}
use mathlib.Core.Bool.{Bool, true, false, ◌&&◌, ◌||◌, beq}
use mathlib.Core.List.{List, [], ◌∷◌, map}
use Prim.Native.Nat.{ℕ, zero, suc, ◌*◌, ◌≤◌, ◌<◌, ◌^◌}
use native.Mathlib.Nat.{zero-mul, mul-pos}
use native.Mathlib.Omega.{arith}
use borrow.Author.Tests.{leb-true, ne_eqb}
use lib.Dec.{eqb}
use lib.ListN.{length, drop, length-map}
use lib.Seq.{sets}
use lib.IntN.{ℤ, pos, nat_abs}
use lib.Ieee.{Float, nan, inf, fin, binary64, up, down, eq}
use lib.Ieee.Exact.{HasValue}
use lib.Ieee.Fits.{down_pos}
use Rattle.algebra.specs.Allowed.{allows}
use Rattle.algebra.specs.Operations.{whole_ops}
use Rattle.algebra.specs.Fold.{every_second, fold}
use Rattle.algebra.specs.Magnitude.{sum_abs}
use Rattle.algebra.specs.declared.Basis.{Basis}
use Rattle.algebra.specs.declared.Parity.{Parity}
use Rattle.algebra.proofs.Magnitudes.{sum_abs_drop}
use Rattle.algebra.proofs.FoldKept.{fold_by_sums}
use Rattle.algebra.proofs.FoldMagnitudes.{sum_abs_every_second, fold_magnitude}
use Rattle.algebra.proofs.Maps.{map_sets}
use Rattle.number.specs.Numbers.{whole_numbers, float_ops, float_numbers}
use Rattle.number.specs.Limits.{sum_limit}
use Rattle.number.specs.Parity.{has_parity_from}
use Rattle.number.specs.Exact.{num, To53}
use Rattle.number.specs.Refusal.{unless_refused}
use Rattle.number.specs.FoldCall.{fold_refusal, fold_answer, fold_buffer}
use Rattle.number.specs.FoldSame.{FoldsSame}
use Rattle.number.proofs.Within.{within_each}
use Rattle.number.proofs.WholeFloats.{of_int_lem, abs_signed}
use Rattle.number.proofs.Rows.{rows_num}

-- the coefficients at odd places sum to no more than all
odds_small : (c : List ℤ) → sum_abs c ≤ 2 ^ 30 → sum_abs (every_second (drop 1 c)) ≤ 2 ^ 30
odds_small c h = omega (arith, sum_abs_every_second (drop 1 c), sum_abs_drop 1 c)

-- ---- equal numbers

fold_num : (parity : Parity) (basis : Basis) (c : List ℤ) → sum_abs c ≤ 2 ^ 30
    → fold float_ops parity basis (map num c) ≡ map num (fold whole_ops parity basis c)
fold_num parity basis c h =
    fold_by_sums whole_ops float_ops num parity basis c (rows_num 0 (every_second (drop 1 c)) (omega (arith, odds_small c h)))

-- ---- the same refusals

same_eqb : (a b : ℕ) → (a ≡ 0 → b ≡ 0) → (b ≡ 0 → a ≡ 0) → eqb a 0 ≡ eqb b 0
same_eqb zero zero f g = refl
same_eqb zero (suc b) f g = absurd (let e = f refl in omega arith)
same_eqb (suc a) zero f g = absurd (let e = g refl in omega arith)
same_eqb (suc a) (suc b) f g = ne_eqb (suc a) 0 (λ (e : suc a ≡ 0). omega arith) ∙ sym (ne_eqb (suc b) 0 (λ (e : suc b ≡ 0). omega arith))

twice_and : (b s : Bool) → (b && (s || b)) ≡ b
twice_and true true = refl
twice_and true false = refl
twice_and false s = refl

no_factor : (n k : ℕ) → 0 < k → n * k ≡ 0 → n ≡ 0
no_factor zero k h q = refl
no_factor (suc n) k h q = absurd (let p = mul-pos {m = suc n} {n = k} (omega arith) h in omega arith)

-- a float with the value n compares to 0 as n does
eq_zero : (x : Float) (s : Bool) (n : ℕ) → HasValue x s n 1 → eq x (fin false 0 (pos 0)) ≡ eqb n 0
unfolding eq
eq_zero (fin t m e) s n v =
    let d = down_pos e in
    let z : 0 * up (pos 0) * down e ≡ 0 = ap (λ (k : ℕ). k * down e) (zero-mul (up (pos 0))) ∙ zero-mul (down e) in
    let there : m * up e * 1 ≡ 0 → n ≡ 0 = λ q. no_factor n (down e) d (sym v.1 ∙ q) in
    let back : n ≡ 0 → m * up e * 1 ≡ 0 = λ q. v.1 ∙ ap (λ (k : ℕ). k * down e) q ∙ zero-mul (down e) in
    rw z (twice_and (eqb (m * up e * down (pos 0)) 0) (beq t false) ∙ same_eqb (m * up e * 1) n there back)
eq_zero nan s n v = absurd v
eq_zero (inf t) s n v = absurd v

zero_num : (z : ℤ) → To53 z → float_numbers.is_zero (num z) ≡ whole_numbers.is_zero z
zero_num z h =
    let w = of_int_lem binary64 z h in
    eq_zero (num z) w.s w.n w.value ∙ ap (λ (k : ℕ). eqb k 0) (sym (abs_signed w.s w.n) ∙ ap nat_abs w.is)

-- the test of a parity from place j on
test_num : (parity : Parity) (j : ℕ) (c : List ℤ) → sum_abs c ≤ sum_limit
    → has_parity_from float_numbers parity j (map num c) ≡ has_parity_from whole_numbers parity j c
unfolding has_parity_from sum_abs
test_num parity j [] h = refl
test_num parity j (z ∷ c) h =
    ap₂ ◌&&◌ (ap (allows parity j ||◌) (zero_num z (omega arith))) (test_num parity (suc j) c (omega arith))

module _ (parity : Parity) (basis : Basis) (c : List ℤ) (small : whole_numbers.small c ≡ true) where
  sum_small : sum_abs c ≤ sum_limit
  sum_small = leb-true (sum_abs c) sum_limit small

  folded_num : fold float_ops parity basis (map num c) ≡ map num (fold whole_ops parity basis c)
  folded_num = fold_num parity basis c sum_small

  length_num : length (fold float_ops parity basis (map num c)) ≡ length (fold whole_ops parity basis c)
  length_num = ap length folded_num ∙ length-map (fold whole_ops parity basis c) num

  refusal_num : (out : List ℤ) → fold_refusal float_numbers parity basis (map num c) (map num out) ≡ fold_refusal whole_numbers parity basis c out
  unfolding fold_refusal
  refusal_num out = rw (length_num, length-map c num, length-map out num, test_num parity 0 c sum_small, small)

  answer_num : (out : List ℤ) → fold_answer float_numbers parity basis (map num c) (map num out) ≡ fold_answer whole_numbers parity basis c out
  unfolding fold_answer
  answer_num out = rw (refusal_num out, length_num)

  buffer_num : (out : List ℤ) → fold_buffer float_numbers parity basis (map num c) (map num out) ≡ map num (fold_buffer whole_numbers parity basis c out)
  unfolding fold_buffer unless_refused
  buffer_num out = rw (refusal_num out) (by_refusal (fold_refusal whole_numbers parity basis c out))
    where
      by_refusal : (k : ℕ) → unless_refused k (sets (map num out) 0 (fold float_ops parity basis (map num c))) (map num out)
          ≡ map num (unless_refused k (sets out 0 (fold whole_ops parity basis c)) out)
      by_refusal zero = rw folded_num (map_sets num (fold whole_ops parity basis c) out 0)
      by_refusal (suc k) = refl

pub folds_same : FoldsSame
folds_same parity basis c small = record {
  within =
      within_each (2 ^ 53) (fold whole_ops parity basis c) (λ i. omega (arith, fold_magnitude parity basis c i, sum_small parity basis c small));
  written = folded_num parity basis c small;
  answer = answer_num parity basis c small;
  buffer = buffer_num parity basis c small;
}
