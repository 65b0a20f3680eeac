-- The three demands of the request, in its words and order, each sentence over the statements that say it. Its document 01 is docs/RULES.md here.
-- This page is to be read first: the statements stand in the files beside it, which name every definition that they rest on, and proofs/Demands
-- proves them all. A plan is of a polynomial on an interval (request Q-7): what is said of plans here is said for every interval.
use Rattle.std.specs.Prelude.{List, ℕ, Float, ℤ}
use Rattle.algebra.specs.declared.Basis.{Basis}
use Rattle.algebra.specs.declared.Parity.{Parity}
use Rattle.counts.specs.declared.choice.SplitStrategy.{SplitStrategy}
use Rattle.demands.specs.Accepts.{CoveredAccepted}
use Rattle.demands.specs.Right.{StepsRight, StoredRight, PlansRight}
use Rattle.demands.specs.MadeBefore.{PlansMadeBefore, RunsMadeBefore}
use Rattle.demands.specs.Counted.{PlansReport, TransformCosts}
use Rattle.demands.specs.PlainStep.{PlansPlain}
use Rattle.demands.specs.Estimated.{PlansEstimated}
use Rattle.demands.specs.Total.{PlansTotal, PlansMade, PlanOrder, FoldsTotal, ListsTotal, RebuildsTotal, ConvertsTotal}
use Rattle.demands.specs.Total.{TrialsTotal, ChainsTotal, InterpolationsTotal, NumbersTotal}
use Rattle.demands.specs.RefusedWalks.{TrialsRefused, ChainsRefused}
use Rattle.demands.specs.Detected.{ParitiesDetected}
use Rattle.demands.specs.Equal.{Published, FloatsEqual, PlansEqual}
use Rattle.demands.specs.HeadTold.{HeadsTold}
use Rattle.demands.specs.Fits.{PlansFit}
use Rattle.demands.specs.SetTotal.{SetsTotal}
use Rattle.demands.specs.SetSized.{SetSizesTotal}

-- 1. Total.
pub record Total : Type 1 where
  -- "A polynomial handed in, of any length and content, with any basis, parity, strategy and buffers, comes back as a plan or as a refusal number of
  -- document 01. A refusal carries zero in every other field and changes no lent buffer."
  pub plans_total : PlansTotal
  pub plans_made : PlansMade
  pub plan_order : (strategy : SplitStrategy) (parity : Parity) (basis : Basis) (c : List ℤ) (a b : Float) (out : List ℤ) (bounds steps : List ℕ)
      → PlanOrder strategy parity basis c a b out bounds steps
  -- "No call relies on a test by its caller." The other calls, too, end so on any arguments.
  pub folds_total : (A : Type 0) → FoldsTotal A
  pub lists_total : (A : Type 0) → ListsTotal A
  pub rebuilds_total : RebuildsTotal
  pub sets_total : SetsTotal
  pub set_sizes_total : SetSizesTotal
  pub converts_total : ConvertsTotal
  pub trials_total : TrialsTotal
  pub chains_total : ChainsTotal
  pub interpolations_total : InterpolationsTotal
  pub numbers_total : NumbersTotal
  -- Document 01, of the walk: "It refuses with 24 exactly if ..", and there follow the reasons.
  pub trials_refused : TrialsRefused
  pub chains_refused : ChainsRefused
  -- Parity detection refuses nothing; its answer is told by its number.
  pub parities_detected : (A : Type 0) → ParitiesDetected A

-- 2. Equal.
pub record Equal : Type 1 where
  -- "Compared are answers, list boundaries and the bits of every f64, one NaN counting as any other: within document 01's limits they equal the Rust's."
  -- This sentence is tested and not proved, since the Rust is no program of this language. The gate, `.ci/run`, runs the programs `replay_number`,
  -- `replay_counts`, `replay_lists` and `replay_plans`, which hold the public calls to its recorded answers, bit by bit; `oracle/compare`, outside the
  -- gate, does it with a million calls more. What is proved here is that the calls on whole numbers, which the Rust does not have, and the plan call
  -- equal the calls on f64 through which they are compared.
  pub floats_equal : FloatsEqual
  pub plans_equal : PlansEqual
  -- "Split choice, counts, factorisation, folding, Horner and Clenshaw are also proved equal to definitions written from their published rules."
  pub published : Published

-- 3. Right.
pub record Right : Type 1 where
  -- "For every accepted whole-number polynomial and every whole number x, the plan's steps, walked as in document 01, end with exactly the polynomial's
  -- value at x."
  pub steps_right : StepsRight
  -- "At every point and modulus that it takes, the trial walk of this plan returns the remainder of the polynomial's value at that point."
  pub plans_right : PlansRight
  pub stored_right : StoredRight
  -- "This covers degrees up to 4,095, magnitudes summing to at most 2^30, both bases, all parities, both strategies, folded or not."
  pub covered_accepted : CoveredAccepted
  -- "Each step uses only powers that earlier steps made, besides the input (when folded, its transform y) and the constant 1."
  pub plans_made_before : PlansMadeBefore
  pub runs_made_before : (A : Type 0) → RunsMadeBefore A
  -- "Encrypted multiplications reported = steps of kind 1 + steps of kind 3 + 0, 1 or 2 for the transform."
  pub plans_report : PlansReport
  pub plans_plain : PlansPlain
  pub transform_costs : (basis : Basis) → TransformCosts basis
  -- "In an unfolded MinMult plan the reported pair of counts is that of its split. Every other split from 1 to the degree's bit length has a pair at
  -- least as large, encrypted ones compared first." Request Q-2 changed this sentence, and no other: the reported pair is the estimate of its split
  -- with at most one multiplication moved, and that every other split has one at least as large is said of the estimate.
  pub plans_estimated : PlansEstimated
  -- the other fields of the head
  pub heads_told : HeadsTold
  -- and every number of a plan fits the buffers' u16
  pub plans_fit : PlansFit

pub record Demands : Type 1 where
  pub total : Total
  pub equal : Equal
  pub right : Right
