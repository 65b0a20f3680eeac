-- The parity that is detected has the number that its coefficients give it: the test of a parity says that they are of it, and by cases of the two tests.
use mathlib.Core.Path.{◌≡◌, refl}
use mathlib.Core.Bool.{Bool, true, false, cond, false≢true}
use mathlib.Core.List.{List}
use mathlib.Core.Logic.{◌↔◌}
use native.Mathlib.Omega.{arith}
use Rattle.algebra.specs.declared.Parity.TheVariants.{Full, Even, Odd}
use Rattle.number.specs.Numbers.{Numbers}
use Rattle.number.specs.Parity.{has_parity, parity_of}
use Rattle.number.specs.ParityTold.{OfParity}
use Rattle.number.proofs.ParityTold.{test_told}
use Rattle.demands.specs.Detected.{Detected, ParitiesDetected}

-- by what the two tests say
by_tests : {A : Type 0} (numbers : Numbers A) (c : List A) (even odd : Bool) → (even ≡ true) ↔ OfParity numbers Even c → (odd ≡ true) ↔ OfParity numbers Odd c
    → Detected numbers c (cond even Even (cond odd Odd Full))
by_tests numbers c true odd is_even_lem is_odd = record {
  even = (λ same. is_even_lem.0 refl, λ holds. refl);
  odd = (λ same. absurd (omega arith), λ holds. absurd (holds.1 (is_even_lem.0 refl)));
  full = (λ same. absurd (omega arith), λ holds. absurd (holds.0 (is_even_lem.0 refl)));
}
by_tests numbers c false true is_even_lem is_odd = record {
  even = (λ same. absurd (omega arith), λ holds. absurd (false≢true (is_even_lem.1 holds)));
  odd = (λ same. (is_odd.0 refl, λ holds. false≢true (is_even_lem.1 holds)), λ holds. refl);
  full = (λ same. absurd (omega arith), λ holds. absurd (holds.1 (is_odd.0 refl)));
}
by_tests numbers c false false is_even_lem is_odd = record {
  even = (λ same. absurd (omega arith), λ holds. absurd (false≢true (is_even_lem.1 holds)));
  odd = (λ same. absurd (omega arith), λ holds. absurd (false≢true (is_odd.1 holds.0)));
  full = (λ same. (λ holds. false≢true (is_even_lem.1 holds), λ holds. false≢true (is_odd.1 holds)), λ holds. refl);
}

pub parities_detected : (A : Type 0) → ParitiesDetected A
unfolding parity_of
parities_detected A numbers c =
    by_tests numbers c (has_parity numbers Even c) (has_parity numbers Odd c) (test_told numbers Even c) (test_told numbers Odd c)
