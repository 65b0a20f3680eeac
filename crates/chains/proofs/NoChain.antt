-- What a refusal says in place of a number: no weight and no bits. A head of zeros, which the plan call answers with a refusal, has no steps, so that
-- nothing is left to be weighed.
use mathlib.Core.Path.{◌≡◌, refl, ap, sym, ◌∙◌}
use mathlib.Core.Bool.{Bool, true, false, ◌&&◌}
use mathlib.Core.List.{List}
use Prim.Native.Nat.{ℕ}
use lib.IntN.{ℤ}
use lib.ListN.{length}
use Rattle.std.proofs.Common.{Result, Ok, Err}
use Rattle.std.proofs.Math.Option.{none}
use Rattle.std.specs.Result.{result_unwrap_or}
use Rattle.number.specs.Options.{when}
use Rattle.number.specs.Refusal.{unless_refused}
use Rattle.number.specs.declared.refusal.Refusal.{Refusal}
use Rattle.counts.specs.Calls.{bits_in}
use Rattle.walk.specs.Chain.{chain_in, chain_of, chain_refusal, answer_made}
use Rattle.walk.specs.Lent.{steps_from, counts_fit, bounds_rise, lent_walk}
use Rattle.walk.specs.Values.{Value}
use Rattle.walk.specs.Walk.{one_left, run_of, walk_of}
use Rattle.plan.specs.PlanCall.{Planned, planned_in}
use Rattle.plan.specs.PlanHead.{no_head}

pub weight_given : (r : Result ℕ Refusal) → result_unwrap_or r 0 ≡ (chain_in r).weight
weight_given (Ok weight) = refl
weight_given (Err refusal) = refl

pub bits_given : (r : Result ℕ Refusal) → result_unwrap_or r 0 ≡ (bits_in r).bits
bits_given (Ok bits) = refl
bits_given (Err refusal) = refl

when_none : {X : Type 0} (t : Bool) → when {X = X} t none ≡ none
when_none true = refl
when_none false = refl

no_answer : (coefficients : List ℤ) (bounds steps : List ℕ) → answer_made no_head coefficients bounds steps 30 20 ≡ none
unfolding lent_walk steps_from walk_of run_of one_left
no_answer coefficients bounds steps =
    when_none {X = Value} (counts_fit no_head (length coefficients) (length bounds) (length steps) && bounds_rise no_head bounds)

no_weight : (coefficients : List ℤ) (bounds steps : List ℕ) → (chain_of no_head coefficients bounds steps 30 20).weight ≡ 0
unfolding chain_of chain_refusal unless_refused
no_weight coefficients bounds steps = rw (no_answer coefficients bounds steps) refl

pub refused_weight : {answer : Planned} (refusal : Refusal) (coefficients : List ℤ) (bounds steps : List ℕ) → planned_in (Err refusal) ≡ answer
    → 0 ≡ (chain_of answer.head coefficients bounds steps 30 20).weight
refused_weight {answer} refusal coefficients bounds steps is =
    sym (no_weight coefficients bounds steps) ∙ ap (λ (p : Planned). (chain_of p.head coefficients bounds steps 30 20).weight) is
