-- The heaviest chain. Whether a plan can be walked is the same over values and over whole numbers, so both have an answer or neither has. The
-- answer's weight is the greatest of its paths, which is at most that of 30 multiplications (WeightBound). After a refusal it is zero.
use mathlib.Core.Path.{◌≡◌, refl, sym, ◌∙◌, ap}
use mathlib.Core.List.{List}
use mathlib.Core.Option.{Option, some, none}
use Prim.Native.Nat.{ℕ, ◌*◌, ◌≤◌}
use native.Mathlib.Omega.{arith}
use lib.IntN.{ℤ, pos}
use Rattle.number.specs.Limits.{scale_limit}
use Rattle.number.specs.Options.{missing}
use Rattle.number.proofs.Options.{missing_none, IsThere, missing_some}
use Rattle.walk.specs.Rules.{exact_rules}
use Rattle.walk.specs.Lent.{exact_walk}
use Rattle.walk.specs.Values.{Value}
use Rattle.walk.specs.MadeRules.{value_making, made_rules}
use Rattle.walk.specs.Chain.{no_chain, answer_made, chain_of}
use Rattle.walk.specs.HeaviestChain.{GreatestOfAnswer, HeaviestChain}
use Rattle.walk.specs.declared.plan.Head.{Head}
use Rattle.walk.proofs.RunsAlike.{runs_alike}
use Rattle.walk.proofs.Paths.{heaviest_greatest}
use Rattle.walk.proofs.WeightBound.{weight_bound}
use Rattle.walk.proofs.ChainLaws.{none_made, one_made}

module _ (head : Head) (cs : List ℤ) (bs ss : List ℕ) (input coeff : ℕ) (g : input ≤ scale_limit) (h : coeff ≤ scale_limit) where
  -- both walks have a value, or neither has
  alike : (point : ℤ) → missing (answer_made head cs bs ss input coeff) ≡ missing (exact_walk head cs bs ss point)
  alike point = runs_alike Value ℤ (made_rules value_making input coeff) exact_rules head cs bs ss (pos 0) point

  made : (point v : ℤ) → exact_walk head cs bs ss point ≡ some v → IsThere (answer_made head cs bs ss input coeff)
  made point v e = missing_some (answer_made head cs bs ss input coeff) (alike point ∙ ap missing e)

  refuses : (point : ℤ) → exact_walk head cs bs ss point ≡ none → chain_of head cs bs ss input coeff ≡ no_chain 24
  refuses point e = sym (none_made head cs bs ss input coeff g h (missing_none (answer_made head cs bs ss input coeff) (alike point ∙ ap missing e)))

  accepts : (point v : ℤ) → exact_walk head cs bs ss point ≡ some v → (chain_of head cs bs ss input coeff).refusal ≡ 0
  accepts point v e = let there = made point v e in
      rw (← one_made head cs bs ss input coeff g h there.value there.is)

  weighs : (point v : ℤ) → exact_walk head cs bs ss point ≡ some v
      → GreatestOfAnswer head cs bs ss input coeff (chain_of head cs bs ss input coeff).weight
  weighs point v e =
      let there = made point v e in
      let answer = there.value in
      rw (← one_made head cs bs ss input coeff g h answer there.is)
      (record { answer = answer; made = there.is; greatest = heaviest_greatest answer })

  bounded : (s : ℕ) → input ≤ s → coeff ≤ s → (chain_of head cs bs ss input coeff).weight ≤ 30 * s
  bounded s input_fits coeff_fits = by (answer_made head cs bs ss input coeff) refl
    where
      by : (answer : Option Value) → answer_made head cs bs ss input coeff ≡ answer → (chain_of head cs bs ss input coeff).weight ≤ 30 * s
      by (some v) e =
          rw (← one_made head cs bs ss input coeff g h v e) (weight_bound s input coeff input_fits coeff_fits head cs bs ss (pos 0) v e)
      by none e = rw (← none_made head cs bs ss input coeff g h e) (omega arith)

pub heaviest_chain : HeaviestChain
heaviest_chain head cs bs ss input coeff g h = record {
  refuses = refuses head cs bs ss input coeff g h;
  accepts = accepts head cs bs ss input coeff g h;
  weighs = weighs head cs bs ss input coeff g h;
  bounded = bounded head cs bs ss input coeff g h;
}
