-- A map that takes one walk's rules to another's takes every run to the other's, refusals too: of any steps, not only planned ones.
use Rattle.std.specs.Prelude.{◌≡◌, Bool, List, map, ℕ, ℤ}
use Rattle.algebra.specs.declared.Basis.{Basis}
use Rattle.algebra.specs.declared.Parity.{Parity}
use Rattle.algebra.specs.declared.PolynomialInputTransform.{PolynomialInputTransform}
use Rattle.number.specs.Options.{image}
use Rattle.walk.specs.Rules.{Rules}
use Rattle.walk.specs.State.{Powers, Lists, State}
use Rattle.walk.specs.Walk.{run_of}
use Rattle.walk.specs.Lent.{lent_walk}
use Rattle.walk.specs.declared.plan.Step.{Step}
use Rattle.walk.specs.declared.plan.Head.{Head}

-- f takes each rule of 𝓡 to that of 𝓢
pub record TakesRules {A B : Type 0} (𝓡 : Rules A) (𝓢 : Rules B) (f : A → B) : Type 0 where
  pub point : (z : ℤ) → f (𝓡.point z) ≡ 𝓢.point z
  pub one : f 𝓡.one ≡ 𝓢.one
  pub product : (u v : A) → f (𝓡.product u v) ≡ 𝓢.product (f u) (f v)
  pub product_less : (u v w : A) → f (𝓡.product_less u v w) ≡ 𝓢.product_less (f u) (f v) (f w)
  pub nothing : f 𝓡.nothing ≡ 𝓢.nothing
  pub place : (sum : A) (c : ℤ) (j : ℕ) (power : A) → f (𝓡.place sum c j power) ≡ 𝓢.place (f sum) c j (f power)
  pub combine : (plain : Bool) (power high low : A) → f (𝓡.combine plain power high low) ≡ 𝓢.combine plain (f power) (f high) (f low)
  pub input : (transform : PolynomialInputTransform) (x : A) → f (𝓡.input transform x) ≡ 𝓢.input transform (f x)
  pub output : (transform : PolynomialInputTransform) (x v : A) → f (𝓡.output transform x v) ≡ 𝓢.output transform (f x) (f v)

-- powers and states, value by value
abbrev pub powers_by : {A B : Type 0} → (A → B) → Powers A → Powers B
powers_by f powers m = image f (powers m)

abbrev pub state_by : {A B : Type 0} → (A → B) → State A → State B
state_by f state = record { powers = powers_by f state.powers; waiting = map f state.waiting }

-- a run of steps from any state, and the walk of a lent plan
pub record Carried {A B : Type 0} (𝓡 : Rules A) (𝓢 : Rules B) (f : A → B) : Type 0 where
  pub runs : (parity : Parity) (basis : Basis) (lists : Lists) (steps : List Step) (state : State A)
      → run_of 𝓢 parity basis lists steps (state_by f state) ≡ image (state_by f) (run_of 𝓡 parity basis lists steps state)
  pub walks : (head : Head) (coefficients : List ℤ) (bounds steps : List ℕ) (point : ℤ)
      → lent_walk 𝓢 head coefficients bounds steps point ≡ image f (lent_walk 𝓡 head coefficients bounds steps point)

abbrev pub CarryLaw : (A B : Type 0) → Type 0
CarryLaw A B = (𝓡 : Rules A) (𝓢 : Rules B) (f : A → B) → TakesRules 𝓡 𝓢 f → Carried 𝓡 𝓢 f
