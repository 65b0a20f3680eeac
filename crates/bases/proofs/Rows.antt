-- Laws of the rows: their equations; none has a coefficient beyond its element; a map that keeps the operations keeps them; over the whole numbers
-- coefficient i of T_n is a multiple of 2^(i-1), and for i = n it is that.
use mathlib.Core.Path.{◌≡◌, refl, sym, ◌∙◌, ap, ap₂}
use mathlib.Core.Bool.{Bool, true, false, cond}
use mathlib.Core.List.{[], ◌∷◌}
use Prim.Native.Nat.{ℕ, zero, suc, ◌-◌, ◌^◌, ◌<◌}
use native.Mathlib.Nat.{pow-succ'}
use native.Mathlib.Omega.{arith}
use borrow.Author.Tests.{eq-eqb, ne_eqb}
use lib.Dec.{eqb}
use lib.IntN.{ℤ, pos, ◌-ℤ◌, ◌*ℤ◌}
use Rattle.algebra.specs.Operations.{Operations, double, whole_ops}
use Rattle.algebra.specs.Ring.{Ring}
use Rattle.algebra.specs.declared.Basis.{Basis}
use Rattle.algebra.specs.declared.Basis.TheVariants.{Monomial, Chebyshev}
use Rattle.algebra.specs.Homomorphism.{Homomorphism}
use Rattle.algebra.proofs.Homomorphism.{hom_double, hom_times2_t1}
use Rattle.algebra.proofs.Integers.{integers}
use Rattle.algebra.proofs.Solve.{◌:=◌, num, ◌:-◌, ◌:*◌, :-◌, from}
use Rattle.bases.specs.Rows.{unit_row, next_row, row_of}
use Rattle.algebra.proofs.RingLaws as R

module _ {A : Type 0} (𝓞 : Operations A) where
  pub row_zero : (to : Basis) (i : ℕ) → row_of 𝓞 to 0 i ≡ unit_row 𝓞 0 i
  unfolding row_of
  row_zero to i = refl

  pub row_one : (to : Basis) (i : ℕ) → row_of 𝓞 to 1 i ≡ unit_row 𝓞 1 i
  unfolding row_of
  row_one to i = refl

  pub row_step : (to : Basis) (n i : ℕ) → row_of 𝓞 to (suc (suc n)) i ≡ next_row 𝓞 to (row_of 𝓞 to (suc n)) (row_of 𝓞 to n) i
  unfolding row_of
  row_step to n i = refl

  pub unit_same : (n : ℕ) → unit_row 𝓞 n n ≡ 𝓞.one
  unit_same n = rw (eq-eqb n n refl)

  pub unit_other : (n i : ℕ) → (n ≡ i → ⊥) → unit_row 𝓞 n i ≡ 𝓞.zero
  unit_other n i apart = rw (ne_eqb n i apart)

module _ {A : Type 0} (𝓡 : Ring A) where
  open 𝓡 use {ops}
  open ops use {zero as 𝟘, add as ◌⊕◌, sub as ◌⊖◌}

  infixl 6 ◌⊕◌
  infixl 6 ◌⊖◌
  -- none beyond the element
  pub row_above : (to : Basis) (n i : ℕ) → n < i → row_of ops to n i ≡ 𝟘
  row_above to zero i h = row_zero ops to i ∙ unit_other ops 0 i (λ e. omega arith)
  row_above to (suc zero) i h = row_one ops to i ∙ unit_other ops 1 i (λ e. omega arith)
  row_above Monomial (suc (suc n)) zero h = absurd (omega arith)
  row_above Monomial (suc (suc n)) (suc i) h =
      row_step ops Monomial n (suc i)
      ∙ ap₂ ◌⊖◌ (ap (double ops) (row_above Monomial (suc n) i (omega arith)) ∙ R.mul_zero 𝓡 _) (row_above Monomial n (suc i) (omega arith))
      ∙ R.sub_self 𝓡 𝟘
  row_above Chebyshev (suc (suc n)) zero h = absurd (omega arith)
  row_above Chebyshev (suc (suc n)) (suc zero) h = absurd (omega arith)
  row_above Chebyshev (suc (suc n)) (suc (suc i)) h =
      row_step ops Chebyshev n (suc (suc i))
      ∙ ap₂ (λ (a b : A). 𝟘 ⊕ a ⊕ b) (row_above Chebyshev (suc n) (suc i) (omega arith)) (row_above Chebyshev (suc n) (suc (suc (suc i))) (omega arith))
      ∙ 𝓡.add-zero _
      ∙ 𝓡.add-zero 𝟘

module _ {A B : Type 0} {𝓞 : Operations A} {𝓟 : Operations B} {φ : A → B} (H : Homomorphism 𝓞 𝓟 φ) where
  hom_unit : (n i : ℕ) → φ (unit_row 𝓞 n i) ≡ unit_row 𝓟 n i
  hom_unit n i = by_test (eqb n i)
    where
      by_test : (b : Bool) → φ (cond b 𝓞.one 𝓞.zero) ≡ cond b 𝓟.one 𝓟.zero
      by_test true = H.one
      by_test false = H.zero

  hom_next : (to : Basis) (last before : ℕ → A) (last' before' : ℕ → B) → ((i : ℕ) → φ (last i) ≡ last' i) → ((i : ℕ) → φ (before i) ≡ before' i)
      → (i : ℕ) → φ (next_row 𝓞 to last before i) ≡ next_row 𝓟 to last' before' i
  hom_next Monomial last before last' before' e f zero = H.sub _ _ ∙ ap₂ 𝓟.sub H.zero (f 0)
  hom_next Monomial last before last' before' e f (suc i) = H.sub _ _ ∙ ap₂ 𝓟.sub (hom_double H (last i) ∙ ap (double 𝓟) (e i)) (f (suc i))
  hom_next Chebyshev last before last' before' e f i = hom_times2_t1 H last last' e i

  pub hom_row : (to : Basis) (n i : ℕ) → φ (row_of 𝓞 to n i) ≡ row_of 𝓟 to n i
  hom_row to zero i = ap φ (row_zero 𝓞 to i) ∙ hom_unit 0 i ∙ sym (row_zero 𝓟 to i)
  hom_row to (suc zero) i = ap φ (row_one 𝓞 to i) ∙ hom_unit 1 i ∙ sym (row_one 𝓟 to i)
  hom_row to (suc (suc n)) i =
      ap φ (row_step 𝓞 to n i)
      ∙ hom_next to (row_of 𝓞 to (suc n)) (row_of 𝓞 to n) (row_of 𝓟 to (suc n)) (row_of 𝓟 to n) (hom_row to (suc n)) (hom_row to n) i
      ∙ sym (row_step 𝓟 to n i)

-- ---- over the whole numbers

-- 2^(n+1) is twice 2^n
twice : (n : ℕ) → pos (2 ^ suc n) ≡ pos 2 *ℤ pos (2 ^ n)
twice n = ap pos (pow-succ' 2 n)

-- one less
less : (n : ℕ) → suc n - 1 ≡ n
less n = omega arith

-- the leading coefficient of T_n is 2^(n-1), for n ≥ 1
pub row_leads : (n : ℕ) → row_of whole_ops Monomial n n ≡ pos (2 ^ (n - 1))
row_leads zero = row_zero whole_ops Monomial 0
row_leads (suc zero) = row_one whole_ops Monomial 1
row_leads (suc (suc n)) =
    row_step whole_ops Monomial n (suc (suc n))
    ∙ ap₂ ◌-ℤ◌ (ap (pos 2 *ℤ◌) (row_leads (suc n) ∙ ap (λ (k : ℕ). pos (2 ^ k)) (less n))) (row_above integers Monomial n (suc (suc n)) (omega arith))
    ∙ R.sub_zero integers _
    ∙ sym (ap (λ (k : ℕ). pos (2 ^ k)) (less (suc n)) ∙ twice n)

multiple : (n i : ℕ) → (q : ℤ) × (row_of whole_ops Monomial n (suc i) ≡ q *ℤ pos (2 ^ i))
multiple n zero = (row_of whole_ops Monomial n 1, sym (integers.mul-one _))
multiple zero (suc i) = (pos 0, row_above integers Monomial 0 (suc (suc i)) (omega arith) ∙ sym (R.zero-mul integers (pos (2 ^ suc i))))
multiple (suc zero) (suc i) = (pos 0, row_above integers Monomial 1 (suc (suc i)) (omega arith) ∙ sym (R.zero-mul integers (pos (2 ^ suc i))))
multiple (suc (suc n)) (suc i) =
    let last = multiple (suc n) i in
    let before = multiple n (suc i) in (
      last.0 -ℤ before.0,
      from integers
          (row_of whole_ops Monomial (suc (suc n)) (suc (suc i)) ∷ row_of whole_ops Monomial (suc n) (suc i) ∷ row_of whole_ops Monomial n (suc (suc i))
          ∷ last.0 ∷ before.0 ∷ pos (2 ^ i) ∷ pos (2 ^ suc i) ∷ [])
          (λ r l b q p u w. r := (q :- p) :* w)
          (λ r l b q p u w. (num 1, r := num 2 :* l :- b) ∷ (num 2, l := q :* u) ∷ (:- num 1, b := p :* w) ∷ (:- q, w := num 2 :* u) ∷ [])
          refl (row_step whole_ops Monomial n (suc (suc i)), (last.1, (before.1, (twice i, tt)))),
    )

-- coefficient i of T_n is a multiple of 2^(i-1), for i ≥ 1
pub row_multiple : (n i : ℕ) → (q : ℤ) × (row_of whole_ops Monomial n i ≡ q *ℤ pos (2 ^ (i - 1)))
row_multiple n zero = (row_of whole_ops Monomial n 0, sym (integers.mul-one _))
row_multiple n (suc i) =
    let is = multiple n i in (is.0, is.1 ∙ ap (λ (k : ℕ). is.0 *ℤ pos (2 ^ k)) (sym (less i)))
