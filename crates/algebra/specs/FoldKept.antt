-- Folding adds multiples of its coefficients by those of R_k, and does nothing else with numbers, so a map that keeps this keeps every fold.
use Rattle.std.specs.Prelude.{◌≡◌, List, map, ℕ}
use Rattle.algebra.specs.Operations.{Operations}
use Rattle.algebra.specs.Fold.{coeff_r, fold}
use Rattle.algebra.specs.declared.Basis.{Basis}
use Rattle.algebra.specs.declared.Parity.{Parity}

-- φ takes zero, and a sum with such a multiple added, of 𝓞 to those of 𝓟
pub record KeepsFolds {A B : Type 0} (𝓞 : Operations A) (𝓟 : Operations B) (φ : A → B) : Type 0 where
  pub zero : 𝓟.zero ≡ φ 𝓞.zero
  pub added : (k i : ℕ) (sum o : A) → 𝓟.add (φ sum) (𝓟.mul (φ o) (coeff_r 𝓟 k i)) ≡ φ (𝓞.add sum (𝓞.mul o (coeff_r 𝓞 k i)))

-- it may be applied before folding or after it
abbrev pub FoldKept : (A B : Type 0) → Type 0
FoldKept A B = (𝓞 : Operations A) (𝓟 : Operations B) (φ : A → B) → KeepsFolds 𝓞 𝓟 φ → (parity : Parity) (basis : Basis) (c : List A)
    → fold 𝓟 parity basis (map φ c) ≡ map φ (fold 𝓞 parity basis c)
