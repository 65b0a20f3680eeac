-- The powers in their places, at the start and after a store, and what may be made.
use mathlib.Core.Path.{◌≡◌, refl, fun_ext}
use mathlib.Core.List.{List}
use mathlib.Core.Bool.{Bool, true, false}
use Prim.Native.Nat.{ℕ, zero, suc, ◌≤◌, ◌<◌}
use native.Mathlib.Omega.{arith}
use native.Mathlib.Decide.{ℕ_discrete}
use borrow.Author.Tests.{eq-eqb, ne_eqb, eqb-true, leb-true}
use lib.Dec.{eqb, leb}
use lib.ListN.{length, replicate, set}
use lib.Seq.{get_or-set_same, get_or-set_other}
use Rattle.number.specs.Limits.{plan_limit}
use Rattle.number.specs.Split.{split_of}
use Rattle.number.proofs.BothHold.{and_left, and_right}
use Rattle.walk.specs.Rules.{Rules}
use Rattle.walk.specs.Make.{is_split, is_makeable, first_powers, with_power}
use Rattle.walk.specs.inside.Powers.{powers_in}
use Rattle.walk.proofs.RunLaws.{get_d_replicate}

-- a power is put beside the others
pub powers_set : (values : List ℕ) (made : List Bool) (n v : ℕ) → n < length values → n < length made
    → powers_in (set values n v) (set made n true) ≡ with_power n v (powers_in values made)
unfolding with_power
powers_set values made n v h g = fun_ext (λ m. at m (ℕ_discrete m n))
  where
    at : (m : ℕ) → Dec (m ≡ n) → powers_in (set values n v) (set made n true) m ≡ with_power n v (powers_in values made) m
    at m (yes e) = rw (eq-eqb m n e, e, get_or-set_same made n true false g, get_or-set_same values n v 0 h)
    at m (no e) = rw (ne_eqb m n e, get_or-set_other made n m true false e, get_or-set_other values n m v 0 e)

-- powers 0 and 1 are there at the start
pub powers_first : (𝓡 : Rules ℕ) (n y : ℕ) → 2 ≤ n
    → powers_in (set (set (replicate n 0) 0 𝓡.one) 1 y) (set (set (replicate n false) 0 true) 1 true) ≡ first_powers 𝓡 y
unfolding first_powers
powers_first 𝓡 zero y h = absurd (omega arith)
powers_first 𝓡 (suc zero) y h = absurd (omega arith)
powers_first 𝓡 (suc (suc k)) y h = fun_ext at
  where
    at : (m : ℕ) → powers_in (set (set (replicate (suc (suc k)) 0) 0 𝓡.one) 1 y) (set (set (replicate (suc (suc k)) false) 0 true) 1 true) m
        ≡ first_powers 𝓡 y m
    at zero = refl
    at (suc zero) = refl
    at (suc (suc m)) = rw (get_d_replicate false k m)

-- what may be made
module _ (n a b : ℕ) where
  -- it has a place
  pub makeable_within : is_makeable n a b ≡ true → n ≤ plan_limit
  unfolding is_makeable
  makeable_within e = leb-true n plan_limit (and_left (leb n plan_limit) (is_split n a b) e)

  -- and these are the parts of its split
  pub makeable_parts : is_makeable n a b ≡ true → (a ≡ (split_of n).a) × (b ≡ (split_of n).b)
  unfolding is_makeable
  makeable_parts e =
      let split = and_right (leb n plan_limit) (is_split n a b) e in (
        eqb-true a (split_of n).a (and_left (eqb a (split_of n).a) (eqb b (split_of n).b) split),
        eqb-true b (split_of n).b (and_right (eqb a (split_of n).a) (eqb b (split_of n).b) split),
      )
