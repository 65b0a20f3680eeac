-- Demand 2: "Compared are answers, list boundaries and the bits of every f64, one NaN counting as any other: within document 01's limits they equal the
-- Rust's. Split choice, counts, factorisation, folding, Horner and Clenshaw are also proved equal to definitions written from their published rules."
-- The first sentence compares with a program that is not in this language: the replay programs hold the public calls to its recorded answers, bit
-- by bit, and a call on whole numbers is compared through the f64 call on the same coefficients, to which it is proved equal below. Each call is
-- held by its contract to one definition, one NaN standing for all; of `split_degree` the first two numbers are compared, since the Rust has no third:
--   split_degree                            splitOf                 number/specs/Split
--   min_depth_split, min_mult_split         minDepthCall, minMultCall
--   bsgs_op_counts                          countsCall
--   bsgs_eval_depth, bsgs_consumed_bits     depthCall, bitsCall     counts/specs/Calls
--   fold_parity, fold_parity_f64            FoldCall                number/specs/FoldCall
--   decompose_bsgs, decompose_bsgs_f64      ListCall                lists/specs/ListCall
--   evaluate_coeffs                         evaluate                number/specs/Evaluate
--   detect_parity, detect_parity_f64        parityOf                number/specs/Parity
--   change_of_basis                         changeOfBasis           number/specs/Interval
--   chebyshev_interpolate                   InterpolateCall         interpolation/specs/InterpolateCall
--   the plan call, the trial walk           PlanCall, trialOf       plan/specs/PlanCall, walk/specs/Trial
use Rattle.std.specs.Prelude.{◌≡◌, Bool, true, false, List, map, ℕ, ◌+◌, ◌^◌, ◌≤◌, ℤ, Float, length}
use Rattle.std.proofs.lemmas.List.Edits.{sets}
use Rattle.algebra.specs.Ring.{Ring}
use Rattle.algebra.specs.CutLaw.{CutLaw}
use Rattle.algebra.specs.Fold.{fold}
use Rattle.algebra.specs.FoldLaw.{FoldLaw}
use Rattle.algebra.specs.ProductLaw.{ProductLaw}
use Rattle.algebra.specs.declared.Basis.{Basis}
use Rattle.algebra.specs.declared.Parity.{Parity}
use Rattle.algebra.specs.declared.Parity.TheVariants.{Full}
use Rattle.number.specs.Bits.{DigitsByHalving, PowersOfTwo}
use Rattle.number.specs.CutSame.{CutsSame}
use Rattle.number.specs.EvaluateLaw.{EvaluateLaw}
use Rattle.number.specs.Exact.{num, ExactTo53}
use Rattle.number.specs.FoldCall.{FoldCall}
use Rattle.number.specs.FoldSame.{FoldsSame}
use Rattle.number.specs.Numbers.{float_ops, float_numbers}
use Rattle.number.specs.FoldCall.{Folded}
use Rattle.interpolation.specs.InterpolateLaw.{InterpolateLaw}
use Rattle.needed.specs.Promises.{NeededPowers}
use Rattle.counts.specs.SliceRule.{SliceRule}
use Rattle.counts.specs.PlainCount.{AllowedCounts}
use Rattle.counts.specs.Calls.{SplitChoice, min_depth_call, min_mult_call, depth_call}
use Rattle.counts.specs.Promises.{Chosen}
use Rattle.counts.specs.declared.choice.SplitStrategy.{SplitStrategy}
use Rattle.counts.specs.declared.choice.SplitStrategy.TheVariants.{MinDepth, MinMult}
use Rattle.lists.specs.TreeRule.{TreesByRule}
use Rattle.lists.specs.Lists.{ListsInOrder}
use Rattle.lists.specs.ListCall.{Listed, ListCall}
use Rattle.lists.specs.Promises.{ListsTo53, FoldedListsTo53, ListsSame, FoldedListsSame}
use Rattle.walk.specs.declared.plan.Head.{Head}
use Rattle.plan.specs.Reported.{transform_cost}
use Rattle.plan.specs.PlanCall.{planned_parity, Accepted, planned, head_for, coefficients_for, boundaries_for}

-- ---- the published rules

pub record Published : Type 1 where
  -- binary digits and powers of two, by which an index is split
  pub digits : DigitsByHalving
  pub powers_of_two : PowersOfTwo
  -- split choice: MinMult takes the smallest split with the least pair, and there is no other such split
  pub split_choice : (parity : Parity) (basis : Basis) (degree : ℕ) → Chosen parity basis degree
  -- counts: the slices, their allowed powers, and the needed powers as a least set
  pub slices : (degree split : ℕ) → SliceRule degree split
  pub allowed : (degree : ℕ) → AllowedCounts degree
  pub needed : (parity : Parity) (basis : Basis) (degree split : ℕ) → NeededPowers parity basis degree split
  -- factorisation: where a polynomial is cut, that a cut keeps its value over every ring, and that the lists stand in order
  pub cuts : TreesByRule
  pub cut_values : {A : Type 0} (𝓡 : Ring A) → CutLaw 𝓡
  pub in_order : (A : Type 0) → ListsInOrder A
  -- a power is made of its parts
  pub products : {A : Type 0} (𝓡 : Ring A) → ProductLaw 𝓡
  -- folding keeps the value over every ring
  pub folding : {A : Type 0} (𝓡 : Ring A) → FoldLaw 𝓡
  -- Horner's and Clenshaw's rules give the value over every ring
  pub evaluation : {A : Type 0} (𝓡 : Ring A) → EvaluateLaw 𝓡
  -- interpolation sums value·T_j(node) over the nodes
  pub interpolation : {A : Type 0} (𝓡 : Ring A) → InterpolateLaw 𝓡

-- ---- calls on whole numbers and on f64

-- within the limit on the sum every number that is written has magnitude at most 2^53, so f64 has it exactly, and equal calls write equal numbers
pub record FloatsEqual : Type 0 where
  pub exact : ExactTo53
  pub cuts : CutsSame
  pub folds : FoldsSame
  pub lists : ListsSame
  pub lists_to_53 : ListsTo53
  -- of folded coefficients too, whose magnitudes may sum above 2^30
  pub folded_lists : FoldedListsSame
  pub folded_lists_to_53 : FoldedListsTo53

-- ---- a plan and the other calls

-- what is planned, on f64: with folding the f64 fold of the same coefficients
abbrev pub planned_floats : (folded : Bool) → Parity → Basis → List ℤ → List Float
planned_floats true parity basis c = fold float_ops parity basis (map num c)
planned_floats false parity basis c = map num c

-- the split that the strategy's own call chooses
abbrev pub split_call : SplitStrategy → Parity → Basis → (degree : ℕ) → SplitChoice
split_call MinDepth parity basis degree = min_depth_call degree
split_call MinMult parity basis degree = min_mult_call parity basis degree

-- an f64 list call that answers what a plan has
pub record ListsPlan (head : Head) (coefficients : List ℤ) (boundaries : List ℕ) (out : List Float) (bounds : List ℕ) (r : Listed)
    (out' : List Float) (bounds' : List ℕ) : Type 0 where
  pub answer : r
      ≡ record { refusal = 0; degree = head.degree; base = head.base; coefficients = head.coefficients; lists = head.lists }
  pub numbers : out' ≡ sets out 0 (map num coefficients)
  pub ends : bounds' ≡ sets bounds 0 boundaries

-- an f64 fold call that answers what a folded plan has
pub record FoldsPlan (head : Head) (folded : List ℤ) (out : List Float) (r : Folded) (left : List Float) : Type 0 where
  pub answer : r ≡ record { refusal = 0; transform = head.transform; parity = Full; count = head.coefficients }
  pub numbers : left ≡ sets out 0 (map num folded)

pub record PlanEqual (strategy : SplitStrategy) (parity : Parity) (basis : Basis) (folded : Bool) (c : List ℤ) (head : Head) : Type 0 where
  -- base and depth are those of the calls on the planned degree
  pub base : head.base ≡ 2 ^ (split_call strategy (planned_parity folded parity) basis head.degree).split
  pub depth : head.depth ≡ (depth_call strategy head.degree).depth + transform_cost head.transform
  -- the f64 fold and the f64 lists of the same coefficients, in any buffers that are long enough, are the plan's
  pub fold_call : folded ≡ true → (out : List Float) (r : Folded) (left : List Float) → FoldCall float_numbers parity basis (map num c) out r left
      → head.coefficients ≤ length out → FoldsPlan head (planned strategy parity basis folded c) out r left
  pub list_call : (out : List Float) (bounds : List ℕ) (r : Listed) (out' : List Float) (bounds' : List ℕ)
      → ListCall float_numbers strategy (planned_parity folded parity) basis (planned_floats folded parity basis c) out bounds r out' bounds'
      → head.coefficients ≤ length out → head.lists ≤ length bounds
      → ListsPlan head (coefficients_for strategy parity basis folded c) (boundaries_for strategy parity basis folded c) out bounds r out' bounds'

abbrev pub PlansEqual : Type 0
PlansEqual = (strategy : SplitStrategy) (parity : Parity) (basis : Basis) (folded : Bool) (c : List ℤ) (a b : Float) → Accepted folded parity c
    → PlanEqual strategy parity basis folded c (head_for strategy parity basis folded c a b)
