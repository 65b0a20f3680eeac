-- Loading a list (docs/RULES.md, "Steps and the walk"): step `2 i 0 0` pushes its value, the sum of c_j times power j over the allowed j, and the
-- constant unless Odd.
use Rattle.std.specs.Prelude.{Bool, true, false, List, [], ◌∷◌, ℕ, suc, ltb, ℤ, length}
use Rattle.std.proofs.Math.Option.{Option, some}
use Rattle.algebra.specs.Allowed.{allows}
use Rattle.algebra.specs.declared.Parity.{Parity}
use Rattle.number.specs.Options.{◌then◌, when}
use Rattle.walk.specs.Limits.{waiting_limit}
use Rattle.walk.specs.Rules.{Rules}
use Rattle.walk.specs.State.{Powers, Lists}

-- one more value waits, unless 16 do
unfoldable pub push_of : {A : Type 0} → (waiting : List A) → A → Option (List A)
push_of waiting v = when (ltb (length waiting) waiting_limit) (some (v ∷ waiting))

module _ {A : Type 0} (𝓡 : Rules A) (parity : Parity) (powers : Powers A) where
  -- the sum with place j, where the parity allows it; its power has to be there even if c is zero
  abbrev pub placed_if : (allowed : Bool) (j : ℕ) (sum : A) (c : ℤ) → Option A
  placed_if true j sum c = powers j then λ power. some (𝓡.place sum c j power)
  placed_if false j sum c = some sum

  unfoldable pub add_place : (j : ℕ) (sum : A) (c : ℤ) → Option A
  add_place j sum c = placed_if (allows parity j) j sum c

  -- the sum so far, with the coefficients from place j on
  unfoldable pub sum_from : (j : ℕ) (sum : A) → List ℤ → Option A
  sum_from j sum [] = some sum
  sum_from j sum (c ∷ cs) = add_place j sum c then λ next. sum_from (suc j) next cs

  -- the value of list i is pushed, if there is such a list
  unfoldable pub load_of : Lists → (waiting : List A) (i : ℕ) → Option (List A)
  load_of lists waiting i = lists i then λ c. sum_from 0 𝓡.nothing c then λ v. push_of waiting v
