-- Subtraction and doubling are all that a cut does with numbers, so a map that keeps these two keeps every cut. Sums and multiples are such maps, and on
-- whole numbers up to 2^53 so is the f64 of a number.
use Rattle.std.specs.Prelude.{◌≡◌, List, map, ℕ}
use Rattle.algebra.specs.Operations.{Operations, double}
use Rattle.algebra.specs.Cut.{cut_at}
use Rattle.algebra.specs.Each.{Each}
use Rattle.algebra.specs.declared.Basis.{Basis}

-- φ takes both operations of 𝓞 to those of 𝓟, where operands and result have P
pub record KeepsCuts {A B : Type 0} (P : A → Type 0) (𝓞 : Operations A) (𝓟 : Operations B) (φ : A → B) : Type 0 where
  pub subtracted : (a b : A) → P a → P b → P (𝓞.sub a b) → 𝓟.sub (φ a) (φ b) ≡ φ (𝓞.sub a b)
  pub doubled : (a : A) → P a → P (double 𝓞 a) → double 𝓟 (φ a) ≡ φ (double 𝓞 a)

-- it may be applied before the cut or after it, if all coefficients have P before and after it
abbrev pub CutKept : (A B : Type 0) → Type 1
CutKept A B = (P : A → Type 0) (𝓞 : Operations A) (𝓟 : Operations B) (φ : A → B) → KeepsCuts P 𝓞 𝓟 φ → (basis : Basis) (p : ℕ) (c : List A)
    → Each P c → Each P (cut_at 𝓞 basis p c) → cut_at 𝓟 basis p (map φ c) ≡ map φ (cut_at 𝓞 basis p c)
