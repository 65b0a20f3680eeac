-- The heaviest chain's answer: one law for each way out, by the definition at the tests that were made. The walk over weights is the walk over values
-- with each value's greatest weight, capped, in its place: the carry law, since the rules over weights are those over values. The answer's weight is
-- far below the cap (WeightBound).
use mathlib.Core.Path.{◌≡◌, refl, ◌∙◌, ap}
use mathlib.Core.List.{List}
use mathlib.Core.Option.{Option, some, none}
use Prim.Native.Nat.{ℕ, ◌*◌, ◌≤◌, ◌<◌}
use native.Mathlib.Omega.{arith}
use borrow.Author.Tests.{lt-ltb, le-ltb}
use lib.IntN.{ℤ, pos}
use Rattle.std.specs.Prelude.{Option as Answer, Some, None, Ok, ok_or}
use Rattle.number.specs.declared.refusal.Refusal.TheVariants.{Unwalkable}
use Rattle.number.specs.Limits.{scale_limit}
use Rattle.number.specs.Refusal.{unless_refused}
use Rattle.number.specs.Options.{image}
use Rattle.number.proofs.Options.{same_some}
use Rattle.walk.specs.Lent.{lent_walk}
use Rattle.walk.specs.Values.{Value}
use Rattle.walk.specs.Paths.{heaviest}
use Rattle.walk.specs.MadeRules.{value_making, made_rules}
use Rattle.walk.specs.Chain.{no_chain, answer_made, chain_refusal, chain_of, chain_in}
use Rattle.walk.specs.inside.Found.{found}
use Rattle.walk.specs.inside.Weights.{capped, weight_making}
use Rattle.walk.specs.declared.plan.Head.{Head}
use Rattle.walk.proofs.CarryLaw.{carry_law}
use Rattle.walk.proofs.MadeRules.{capped_taken}
use Rattle.walk.proofs.WeightBound.{weight_bound}

-- what 30 multiplications weigh is not capped
uncapped : (w : ℕ) → w ≤ 30 * scale_limit → capped w ≡ w
uncapped w h = omega arith

module _ (head : Head) (cs : List ℤ) (bs ss : List ℕ) (input coeff : ℕ) where
  pub input_wide : scale_limit < input → no_chain 10 ≡ chain_of head cs bs ss input coeff
  unfolding chain_of chain_refusal unless_refused
  input_wide h = rw (lt-ltb scale_limit input h)

  pub coeff_wide : input ≤ scale_limit → scale_limit < coeff → no_chain 10 ≡ chain_of head cs bs ss input coeff
  unfolding chain_of chain_refusal unless_refused
  coeff_wide g h = rw (le-ltb scale_limit input g, lt-ltb scale_limit coeff h)

  -- past the tests of the scales the walk over values decides
  module _ (g : input ≤ scale_limit) (h : coeff ≤ scale_limit) where
    pub none_made : answer_made head cs bs ss input coeff ≡ none → no_chain 24 ≡ chain_of head cs bs ss input coeff
    unfolding chain_of chain_refusal unless_refused
    none_made e = rw (le-ltb scale_limit input g, le-ltb scale_limit coeff h, e)

    pub one_made : (v : Value) → answer_made head cs bs ss input coeff ≡ some v
        → record { refusal = 0; weight = heaviest v } ≡ chain_of head cs bs ss input coeff
    unfolding chain_of chain_refusal unless_refused
    one_made v e = rw (le-ltb scale_limit input g, le-ltb scale_limit coeff h, e)

    -- by what the program's walk over weights found
    pub weights_answered : (o : Answer ℕ) → found o ≡ lent_walk (made_rules weight_making input coeff) head cs bs ss (pos 0)
        → chain_in (ok_or o Unwalkable) ≡ chain_of head cs bs ss input coeff
    weights_answered o e =
        by o (answer_made head cs bs ss input coeff) refl
        (e ∙ (carry_law Value ℕ (made_rules value_making input coeff) (made_rules weight_making input coeff) (λ v. capped (heaviest v))
        (capped_taken input coeff)).walks head cs bs ss (pos 0))
      where
        by : (o : Answer ℕ) (made : Option Value) → answer_made head cs bs ss input coeff ≡ made → found o ≡ image (λ v. capped (heaviest v)) made
            → chain_in (ok_or o Unwalkable) ≡ chain_of head cs bs ss input coeff
        by (Some w) (some v) is e =
            ap (λ (u : ℕ). chain_in (Ok u))
            (same_some e ∙ uncapped (heaviest v) (weight_bound scale_limit input coeff g h head cs bs ss (pos 0) v is))
            ∙ one_made v is
        by (Some w) none is e = let same : ◌≡◌ {A = ℕ} 0 1 = cc in absurd (omega arith)
        by None (some v) is e = let same : ◌≡◌ {A = ℕ} 0 1 = cc in absurd (omega arith)
        by None none is e = none_made is
