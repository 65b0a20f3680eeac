-- Refusal 24 is that of the last test of the trial walk and of the heaviest chain: the walk has no value. That is so exactly if one of the reasons
-- holds, by whatever rules the plan is walked and at whatever point.
use mathlib.Core.Path.{◌≡◌, refl, sym, ◌∙◌}
use mathlib.Core.Bool.{Bool, true, false, cond}
use mathlib.Core.List.{List}
use mathlib.Core.Logic.{◌≢◌}
use Prim.Native.Nat.{ℕ, ◌≤◌}
use native.Mathlib.Omega.{arith}
use borrow.Author.Tests.{le-ltb, ltb-false}
use lib.Dec.{ltb}
use lib.IntN.{ℤ, pos}
use Rattle.number.specs.Limits.{scale_limit}
use Rattle.number.specs.Options.{missing}
use Rattle.walk.specs.Limits.{modulus_limit}
use Rattle.walk.specs.Rules.{Rules, exact_rules, trial_rules}
use Rattle.walk.specs.Lent.{lent_walk}
use Rattle.walk.specs.Trial.{trial_refusal}
use Rattle.walk.specs.MadeRules.{value_making, made_rules}
use Rattle.walk.specs.Chain.{chain_refusal}
use Rattle.walk.specs.Unrunnable.{unrunnable}
use Rattle.walk.specs.declared.plan.Head.{Head}
use Rattle.walk.proofs.RunsAlike.{runs_alike}
use Rattle.walk.proofs.Unrunnable.{refused_for_reasons}
use Rattle.demands.specs.RefusedWalks.{TrialsRefused, ChainsRefused}
use Rattle.demands.proofs.Total.{neither, trial_refusal_is, chain_refusal_is}

-- where a number is that of a later test, the tests with other numbers ahead of it don't hold
passed : (k n : ℕ) → n ≢ k → (test : Bool) (rest : ℕ) → cond test n rest ≡ k → (test ≡ false) × (rest ≡ k)
passed k n other true rest is = absurd (other is)
passed k n other false rest is = (refl, is)

-- and the last test holds
holds_last : (k : ℕ) → 0 ≢ k → (test : Bool) → cond test k 0 ≡ k → test ≡ true
holds_last k other true is = refl
holds_last k other false is = absurd (other is)

none_is_24 : (n : ℕ) → n ≤ 23 → n ≢ 24
none_is_24 n low is = omega arith

module _ (head : Head) (coefficients : List ℤ) (bounds steps : List ℕ) where
  -- a walk has no value exactly if a reason holds for the exact walk
  walk_refused : {A : Type 0} (𝓡 : Rules A) (point other : ℤ)
      → missing (lent_walk 𝓡 head coefficients bounds steps point) ≡ unrunnable exact_rules head coefficients bounds steps other
  walk_refused {A} 𝓡 point other =
      runs_alike A ℤ 𝓡 exact_rules head coefficients bounds steps point other
      ∙ refused_for_reasons ℤ exact_rules head coefficients bounds steps other

  -- ---- the trial walk

  module _ (point : ℤ) (modulus : ℕ) where
    trial_reasons : trial_refusal head coefficients bounds steps point modulus ≡ 24
        → (2 ≤ modulus) × (modulus ≤ modulus_limit) × (unrunnable exact_rules head coefficients bounds steps point ≡ true)
    unfolding trial_refusal
    trial_reasons is =
        let behind = passed 24 11 (none_is_24 11 (omega arith)) _ _ is in
        let range = neither (ltb modulus 2) (ltb modulus_limit modulus) behind.0 in (
          ltb-false modulus 2 range.0,
          ltb-false modulus_limit modulus range.1,
          sym (walk_refused (trial_rules modulus) point point) ∙ holds_last 24 (none_is_24 0 (omega arith)) _ behind.1,
        )

    reasons_trial : 2 ≤ modulus → modulus ≤ modulus_limit → unrunnable exact_rules head coefficients bounds steps point ≡ true
        → trial_refusal head coefficients bounds steps point modulus ≡ 24
    unfolding trial_refusal
    reasons_trial low high reason =
        rw (le-ltb modulus 2 low, le-ltb modulus_limit modulus high, walk_refused (trial_rules modulus) point point, reason)

  -- ---- the heaviest chain

  module _ (input coeff : ℕ) (point : ℤ) where
    chain_reasons : chain_refusal head coefficients bounds steps input coeff ≡ 24
        → (input ≤ scale_limit) × (coeff ≤ scale_limit) × (unrunnable exact_rules head coefficients bounds steps point ≡ true)
    unfolding chain_refusal
    chain_reasons is =
        let first_passed = passed 24 10 (none_is_24 10 (omega arith)) _ _ is in
        let second_passed = passed 24 10 (none_is_24 10 (omega arith)) _ _ first_passed.1 in (
          ltb-false scale_limit input first_passed.0,
          ltb-false scale_limit coeff second_passed.0,
          sym (walk_refused (made_rules value_making input coeff) (pos 0) point)
              ∙ holds_last 24 (none_is_24 0 (omega arith)) _ second_passed.1,
        )

    reasons_chain : input ≤ scale_limit → coeff ≤ scale_limit → unrunnable exact_rules head coefficients bounds steps point ≡ true
        → chain_refusal head coefficients bounds steps input coeff ≡ 24
    unfolding chain_refusal
    reasons_chain low high reason =
        rw (
          le-ltb scale_limit input low,
          le-ltb scale_limit coeff high,
          walk_refused (made_rules value_making input coeff) (pos 0) point,
          reason,
        )

pub trials_refused : TrialsRefused
trials_refused head coefficients bounds steps point modulus =
    let same = trial_refusal_is head coefficients bounds steps point modulus in (
      λ is. trial_reasons head coefficients bounds steps point modulus (sym same ∙ is),
      λ reasons. same ∙ reasons_trial head coefficients bounds steps point modulus reasons.0 reasons.1 reasons.2,
    )

pub chains_refused : ChainsRefused
chains_refused head coefficients bounds steps input coeff point =
    let same = chain_refusal_is head coefficients bounds steps input coeff in (
      λ is. chain_reasons head coefficients bounds steps input coeff point (sym same ∙ is),
      λ reasons. same ∙ reasons_chain head coefficients bounds steps input coeff point reasons.0 reasons.1 reasons.2,
    )
