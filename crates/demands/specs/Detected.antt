-- The parity that is detected, by its number (docs/RULES.md, "Numbers of the kinds"). The calls never refuse: `detect_parity` and `detect_parity_f64`
-- answer `parity_of` (number/specs/Parity) of any coefficients, whole numbers or f64.
use Rattle.std.specs.Prelude.{◌≡◌, List, ◌↔◌}
use Rattle.algebra.specs.EnumNumbers.{parity_number}
use Rattle.algebra.specs.declared.Parity.{Parity}
use Rattle.algebra.specs.declared.Parity.TheVariants.{Even, Odd}
use Rattle.number.specs.Numbers.{Numbers}
use Rattle.number.specs.Parity.{parity_of}
use Rattle.number.specs.ParityTold.{OfParity}

-- 1 exactly if the coefficients are Even; else 2 exactly if they are Odd; else 0
pub record Detected {A : Type 0} (numbers : Numbers A) (c : List A) (parity : Parity) : Type 0 where
  pub even : (parity_number parity ≡ 1) ↔ OfParity numbers Even c
  pub odd : (parity_number parity ≡ 2) ↔ (OfParity numbers Odd c × (OfParity numbers Even c → ⊥))
  pub full : (parity_number parity ≡ 0) ↔ ((OfParity numbers Even c → ⊥) × (OfParity numbers Odd c → ⊥))

-- this holds for any coefficients
abbrev pub ParitiesDetected : Type 0 → Type 0
ParitiesDetected A = (numbers : Numbers A) (c : List A) → Detected numbers c (parity_of numbers c)
