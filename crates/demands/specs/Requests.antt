-- The requests of document 02 that have landed, in its words, each sentence over the statements that say it. docs/REQUESTS.md has a note on each, and
-- proofs/Requests proves them all.
use Rattle.std.specs.Prelude.{◌≡◌, Bool, true, false, [], ◌∷◌, map, ℕ}
use Rattle.algebra.specs.Ring.{Ring}
use Rattle.algebra.specs.PolynomialSumLaw.{PolynomialSumLaw}
use Rattle.algebra.specs.declared.Basis.{Basis}
use Rattle.algebra.specs.declared.Parity.{Parity}
use Rattle.number.specs.Bits.{bit_len}
use Rattle.number.specs.SplitDistance.{ThirdIsDistance, PartsDiffer, RefusedZero, SplitProduct}
use Rattle.bases.specs.RowsLaw.{RowsLaw}
use Rattle.bases.specs.Promises.{WholeExactlyIf}
use Rattle.bases.specs.FromTheTop.{LeadingCoefficient, FromTheTop}
use Rattle.counts.specs.Calls.{largest_tests}
use Rattle.counts.specs.Choice.{split_for}
use Rattle.counts.specs.MinDepth.{min_depth_cases, split_beside}
use Rattle.counts.specs.Promises.{CasesPublished, Chosen}
use Rattle.counts.specs.BudgetPromises.{LargestDegrees, BitsFall, NoneBelowScale}
use Rattle.counts.specs.declared.choice.SplitStrategy.{SplitStrategy}
use Rattle.counts.specs.declared.choice.SplitStrategy.TheVariants.{MinDepth}
use Rattle.lists.specs.ArrangedKept.{ArrangedKept}
use Rattle.lists.specs.ListSums.{ListsAdd, ListsMultiply}
use Rattle.rebuild.specs.Promises.{RebuildsLists, ListsRebuilt, ListsTell}
use Rattle.rebuild.specs.StopsAt.{StoppedRefused}
use Rattle.walk.specs.Paths.{HeaviestGreatest}
use Rattle.walk.specs.StepsWeigh.{StepsWeigh}
use Rattle.walk.specs.UnusedPower.{UnusedLeftOut}
use Rattle.walk.specs.HeaviestChain.{HeaviestChain}
use Rattle.walk.specs.IntervalUnread.{IntervalUnread}
use Rattle.demands.specs.Total.{numbers_of}
use Rattle.demands.specs.Sized.{PlansSized, SizesOrder}
use Rattle.demands.specs.PlainStep.{PlansPlain}
use Rattle.demands.specs.Estimated.{PlansEstimated, CheaperReported}
use Rattle.demands.specs.StoredEarlier.{EarlierRight}
use Rattle.demands.specs.Weighed.{StoredWeighed, PlansWeighed, ChainOrder}
use Rattle.demands.specs.HeadInterval.{IntervalsTold, UnorderedRefused, PlansAlike}
use Rattle.demands.specs.RebuiltPlans.{RebuildsPlans, PlansRebuilt, RebuiltRight, PlansTell, RebuildOrder}
use Rattle.demands.specs.MadePlan.{PlansIfAccepted}
use Rattle.demands.specs.AddedPlans.{LengthsShape, PlansAdd, AddedRight, PlansMultiply, MultipliedRight}
use Rattle.demands.specs.SetAccepts.{CoveredSetsAccepted}
use Rattle.demands.specs.SetPowers.{SetsShare, SetsInOrder}
use Rattle.demands.specs.SetRight.{MembersAsAlone, MembersRight, SetStoredRight, SetsRight}
use Rattle.demands.specs.SetAnswer.{SetsAnswered}
use Rattle.demands.specs.SetCounted.{SetsReport, SharedCostsTold, SetsWritten}
use Rattle.demands.specs.SetOne.{OnesPlanned}
use Rattle.demands.specs.SetSaves.{SetsSave}
use Rattle.demands.specs.SetFits.{SetsFit}
use Rattle.demands.specs.SetTotal.{SetsMade, SetOrder, SetRefusalsTold}
use Rattle.demands.specs.SetSized.{SetsSized, SetSizesOrder, SetRoom}
use Rattle.demands.specs.Conversions.{ConvertsAccepted, CallsConvert, EmptyConverts, CallsThereAndBack, ConvertOrder, ConvertRefusalsTold}
use Rattle.demands.specs.Conversions.{FractionsRefused, ChebyshevNoLarger, ConvertedAccepted, ConvertedPlansRight}

-- Q-1. Buffer sizes before the curve is there.
pub record BufferSizes : Type 0 where
  -- "From degree, basis, parity, strategy and fold it needs the number of coefficients, lists and steps. The figures equal those of every plan that is
  -- later made with these settings."
  pub plans_sized : PlansSized
  -- "It refuses with 2, 1, 5 and 6 as a plan does, in that order." That it ends so on any arguments is in specs/Total.
  pub sizes_order : (parity : Parity) (degree : ℕ) → SizesOrder parity degree

-- Q-2. A lone last constant is plain.
pub record LastConstant : Type 0 where
  -- "a last list of one, after another list, is combined by kind 4 at every degree. An `Even` list of two stays kind 3 and counts as before."
  pub plans_plain : PlansPlain
  -- "For MinMult the reported pair, the transform's multiplications apart, is then the Rust's estimate with that one multiplication moved, at a power
  -- of two no second time; MinMult still chooses by the Rust's estimate, and that no other split is cheaper is from then on said of the estimate."
  pub plans_estimated : PlansEstimated
  -- It is not so of reported pairs: an example.
  pub cheaper_reported : CheaperReported
  -- "Stored plans must keep their meaning": those that were stored before, too.
  pub earlier_right : EarlierRight

-- Q-3. Heaviest chain of a plan.
pub record PlanChains : Type 1 where
  -- "each ct-ct weighs the input scale, each pt-ct the coefficient scale. A list with any allowed power, and a kind 4 step, cost one pt-ct on their path,
  -- the step both through its power and through its high value. A list without allowed powers weighs 0. At a combine the low value, and at a Chebyshev
  -- power step the distance's power, is only added or subtracted and gains no weight. The transform's multiplications weigh the input scale."
  pub steps_weigh : (input coeff : ℕ) → StepsWeigh input coeff
  -- "The number equals the greatest weight over all paths that end in the walk's answer, by definition"
  pub heaviest_greatest : HeaviestGreatest
  pub heaviest_chain : HeaviestChain
  -- "a power that nothing uses adds none."
  pub unused_left_out : (A : Type 0) → UnusedLeftOut A
  -- The plans that the plan call makes are all weighed.
  pub stored_weighed : StoredWeighed
  pub plans_weighed : PlansWeighed
  -- "A program prints, for the zero curves of degree 2 to 511 and every setting without folding, at input scale 30 and coefficient scale 20, one tabbed
  -- line each, equal or not: degree, the letters of basis, parity and strategy, chain, `bsgs_consumed_bits`. Degree changes slowest, then basis M C,
  -- parity F E O, strategy D M." No statement of this crate says it, since the program, `chains`, is a crate above: `chains_text` (chains/specs/Table) is
  -- its text, which `put_chains` is proved to put; `ZerosWeighed` (chains/specs/ZerosWeighed) says that the chain of a line is that of the curve's plan;
  -- and the gate compares what is printed with a recorded output.

  -- "The call refuses a scale with 10 and then an unrunnable plan with 24, as already known." That it ends so on any arguments is in specs/Total.
  pub chain_order : ChainOrder

-- Q-4. MinDepth split as listed cases.
pub record SplitCases : Type 0 where
  -- "Replace them by 32 cases, one for each bit length, so that the split of a given curve can be read off."
  pub one_each : map (λ (listed : ℕ × ℕ). listed.0) min_depth_cases
      ≡ 1 ∷ 2 ∷ 3 ∷ 4 ∷ 5 ∷ 6 ∷ 7 ∷ 8 ∷ 9 ∷ 10 ∷ 11 ∷ 12 ∷ 13 ∷ 14 ∷ 15 ∷ 16
      ∷ 17 ∷ 18 ∷ 19 ∷ 20 ∷ 21 ∷ 22 ∷ 23 ∷ 24 ∷ 25 ∷ 26 ∷ 27 ∷ 28 ∷ 29 ∷ 30 ∷ 31 ∷ 32 ∷ []
  pub read_off : (parity : Parity) (basis : Basis) (degree : ℕ) → split_for MinDepth parity basis degree ≡ split_beside (bit_len degree) min_depth_cases
  -- "Every contract is the same afterwards." Each case is what the two formulas give, and so is the split of every degree that is taken.
  pub cases_published : CasesPublished
  pub chosen : (parity : Parity) (basis : Basis) (degree : ℕ) → Chosen parity basis degree

-- Q-5. Largest degree for a budget.
pub record DegreeForBudget : Type 0 where
  -- "Given bits, both scales and strategy, return the greatest degree from 1 to 4,095 whose closed-form bits are within the budget." "It refuses with 31
  -- exactly if none of these degrees fits". That it ends so on any arguments is in specs/Total.
  pub largest_degrees : LargestDegrees
  -- "Bits needn't rise with the degree, so no search may assume it."
  pub bits_fall : BitsFall
  -- "tested after refusal 10."
  pub largest_order : (strategy : SplitStrategy) (budget input coeff : ℕ)
      → numbers_of (largest_tests strategy budget input coeff) ≡ 10 ∷ 10 ∷ 31 ∷ []
  -- None fits exactly if the budget is below the coefficient scale.
  pub none_below_scale : NoneBelowScale

-- Q-6. Split with its distance.
pub record SplitWithDistance : Type 1 where
  -- "The index split is to return it as a third number, equal to the absolute difference of the parts." It is 0 in a refusal.
  pub third_is_distance : ThirdIsDistance
  pub parts_differ : PartsDiffer
  pub refused_zero : RefusedZero
  -- "All who need the distance use this number." By it are defined the needed powers (`Part`, needed/specs/Needed), and so the plan; the making of a power
  -- (`make_of`, walk/specs/Make), and so the walk and the heaviest chain; the powers that a step uses (`uses_by`, walk/specs/Uses). It is what the product
  -- that makes power n wants:
  pub split_product : {A : Type 0} (𝓡 : Ring A) → SplitProduct 𝓡

-- Q-7. The interval rides in the head.
pub record IntervalInHead : Type 1 where
  -- "The plan head gains the interval and its change pair, with bits as `change_of_basis` gives them. Folding keeps the source interval."
  pub intervals_told : IntervalsTold
  -- "The walk doesn't read these four numbers, so its value is the same for any interval." Nor do the trial walk and the heaviest chain.
  pub interval_unread : IntervalUnread
  -- "`planlines` plans on −1 to 1 and prints the same lines." No statement of this crate says it, since the program is a crate above: `planned_lines`
  -- (answers/specs/Answer) plans on −1 to 1, and the contract of `put_answer` (answers) holds the text of an answer to it; that a plan's text is the same
  -- on any interval is `IntervalUnprinted` (texts/specs/IntervalUnprinted), and the gate compares what the program prints with recorded answers.

  -- "A plan whose lower bound isn't below its upper one is refused with 7, after 3 and before 21." That the tests are in this order is in specs/Total.
  pub unordered_refused : UnorderedRefused
  -- Lists, boundaries, steps and all else in the head are the same on any interval that is not refused. The sizes of Q-1 take none.
  pub plans_alike : PlansAlike

-- Q-8. Back from lists to the curve.
pub record BackFromLists : Type 0 where
  -- "For every polynomial accepted unfolded, rebuilding its lists gives its coefficients again": those of a plan, and those of the list call. The lists
  -- of a folded plan give the coefficients of the fold.
  pub rebuilds_plans : RebuildsPlans
  pub rebuilds_lists : RebuildsLists
  -- "for every rebuilt polynomial that the planner accepts with the same settings, listing it gives the lists."
  pub plans_rebuilt : PlansRebuilt
  pub lists_rebuilt : ListsRebuilt
  -- So the lists have the value of what was rebuilt, and tell the polynomial.
  pub rebuilt_right : RebuiltRight
  pub plans_tell : PlansTell
  pub lists_tell : ListsTell
  -- "It refuses with 2 and 1, then with 33 .., then with 34 .., then with 21." That it ends so on any arguments is in specs/Total.
  pub rebuild_order : RebuildOrder
  -- "then with 34 when at some cut a doubled coefficient is odd or a rebuilt number is beyond i64": exactly then, and at every cut, inner ones too.
  pub stopped_refused : StoppedRefused

-- Q-9. Adding two curves.
pub record CurvesAdded : Type 1 where
  -- "Let two whole polynomials have the same length, basis, parity and strategy, and let both and their sum be accepted unfolded. Then the lists of the
  -- sum are the sums of the lists, place by place, with equal boundaries and steps." The heads are equal, too, on the same interval.
  pub plans_add : PlansAdd false
  -- "The same holds for a curve multiplied by a whole number, where the multiple is accepted too."
  pub plans_multiply : PlansMultiply false
  -- These speak of calls that made a plan. Such calls exist for what is accepted, and for nothing else.
  pub plans_if_accepted : PlansIfAccepted
  -- "This is to be shown of the planning that exists." The same holds for the list call.
  pub lists_add : ListsAdd
  pub lists_multiply : ListsMultiply
  -- At every point the sum has the sum of the values, and the multiple has the multiple.
  pub polynomial_sum_law : {A : Type 0} (𝓡 : Ring A) → PolynomialSumLaw 𝓡
  -- Beyond the request: the same holds for plans that are made with folding.
  pub folded_plans_add : PlansAdd true
  pub folded_plans_multiply : PlansMultiply true
  -- A sum or multiple that would be accepted needs no further call: added or multiplied lists, with the rest of a plan, are walked to its value.
  pub added_right : (folded : Bool) → AddedRight folded
  pub multiplied_right : (folded : Bool) → MultipliedRight folded
  -- Two laws give all this: boundaries, steps and head go by the length alone, and a map that keeps every cut keeps the lists.
  pub lengths_shape : LengthsShape
  pub arranged_kept : (A B : Type 0) → ArrangedKept A B

-- Q-10. One set of powers for many curves.
pub record CurvesShared : Type 1 where
  -- "A block needs up to 16 curves of one reading. Plan them as a set with the same basis and fold setting and, when folded, the same parity": such a set
  -- is accepted exactly if each of its curves is accepted by itself and has an interval with its bounds in order; an accepted set with long enough buffers
  -- is planned, and nothing else is.
  pub covered_sets_accepted : CoveredSetsAccepted
  pub sets_made : SetsMade
  -- "power steps once, for the union of needed powers, then each member's lists and combines."
  pub sets_share : SetsShare
  pub sets_in_order : SetsInOrder
  -- "Each member's boundaries and list numbers begin afresh at 0." They are those of its plan alone, as are its lists and combines.
  pub members_as_alone : MembersAsAlone
  -- "At every whole number, each member's walk after the common powers gives that member's value." It is said of the steps, of what the call leaves in lent
  -- buffers, and of every buffer that holds a set. The trial walk gives the value's remainder, and each step uses only powers made before.
  pub members_right : MembersRight
  pub sets_right : SetsRight
  pub set_stored_right : SetStoredRight
  -- "Reported ct-ct is the size of the union plus all kind 3 steps, plus one when folded and, with TimesInput, one more for each member; pt-ct is as in
  -- document 01, over all members."
  pub sets_report : SetsReport
  pub shared_costs_told : SharedCostsTold
  -- "The answer holds both, the number of power steps and each member's head as planned alone, its steps counted without power steps; heads beyond the
  -- members are zero."
  pub sets_answered : SetsAnswered
  -- "It refuses with 35 for no member, more than 16, or lengths that pass the one slice in which the members stand, then with 36 if one of those settings
  -- differs, ahead of the members' own refusals in member order; 21, 22 and 23 come last, against the set's totals." That it ends so on any arguments is
  -- `SetsTotal` (specs/SetTotal), among the calls of demand 1.
  pub set_refusals_told : SetRefusalsTold
  pub set_order : SetOrder
  -- The totals are those of what is written.
  pub sets_written : SetsWritten
  -- Beyond the request: a set never reports more multiplications of two encrypted numbers than the plans of its members together, a set of one member is
  -- that member's plan, and every number of a set fits the buffers' u16.
  pub sets_save : SetsSave
  pub ones_planned : OnesPlanned
  pub sets_fit : SetsFit
  -- The totals are told before the curves are there, as in Q-1, and 65,536 coefficients, 65,536 boundaries and 786,432 numbers of steps hold every set.
  pub sets_sized : SetsSized
  pub set_sizes_order : SetSizesOrder
  pub set_room : SetRoom

-- Q-11. Chebyshev and monomial, both ways.
pub record BothWays : Type 1 where
  -- "Pump makers send monomial curves. Convert whole coefficients up to degree 20 either way": curves with a conversion within the limits are converted if
  -- the buffer is long enough, and nothing else is.
  pub converts_accepted : ConvertsAccepted
  -- "so that the value at every whole number is the same." The new coefficients are the only ones of their number that have these values.
  pub calls_convert : CallsConvert
  -- "Chebyshev coefficients of a monomial curve may be fractions." They are whole exactly if 2^(j-1) divides coefficient j, for each j from 1 on. Monomial
  -- coefficients of a Chebyshev curve are always whole.
  pub whole_exactly_if : WholeExactlyIf
  pub fractions_refused : FractionsRefused
  -- "There and back gives the first coefficients again where both calls accept." The call back refuses nothing but its buffer.
  pub calls_there_and_back : CallsThereAndBack
  -- "It refuses with 37 above degree 20, then 3 on the input, then with 38 when a new coefficient isn't whole, then 3 on the output, then 21": each number
  -- exactly then. That it ends so on any arguments is `ConvertsTotal` (specs/Total), among the calls of demand 1.
  pub convert_order : ConvertOrder
  pub convert_refusals_told : ConvertRefusalsTold
  -- In the T_i the magnitudes sum to no more than before, so there 3 comes of the input alone.
  pub chebyshev_no_larger : ChebyshevNoLarger
  -- "length is kept, the empty curve too." `CallsConvert` says it of every curve that is accepted; and the empty curve is.
  pub empty_converts : EmptyConverts
  -- The definition goes by the coefficients of T_n over the powers of x, and by those of x^n over the T_i. The published way to the T_i, from the top by
  -- leading coefficients, gives the same.
  pub rows_law : {A : Type 0} (𝓡 : Ring A) → RowsLaw 𝓡
  pub leading_coefficient : LeadingCoefficient
  pub from_the_top : FromTheTop
  -- Beyond the request: the planner accepts a converted curve with the parity and fold setting that it accepts the curve with, and the plan is walked to
  -- the value of the curve that was sent.
  pub converted_accepted : ConvertedAccepted
  pub converted_plans_right : ConvertedPlansRight

pub record Requests : Type 1 where
  pub buffer_sizes : BufferSizes
  pub last_constant : LastConstant
  pub plan_chains : PlanChains
  pub split_cases : SplitCases
  pub degree_for_budget : DegreeForBudget
  pub split_with_distance : SplitWithDistance
  pub interval_in_head : IntervalInHead
  pub back_from_lists : BackFromLists
  pub curves_added : CurvesAdded
  pub curves_shared : CurvesShared
  pub both_ways : BothWays
