-- Demand 1: "A polynomial handed in, of any length and content, with any basis, parity, strategy and buffers, comes back as a plan or as a refusal
-- number of document 01. A refusal carries zero in every other field and changes no lent buffer. No call relies on a test by its caller." Nothing
-- is asked of any argument below; the contracts of the code ask nothing of theirs.
use Rattle.std.specs.Prelude.{◌≡◌, Bool, true, false, List, [], ◌∷◌, map, ◌↔◌, ℕ, ◌^◌, ◌<◌, ℤ, Float, length}
use Rattle.std.proofs.Math.Option.{some}
use Rattle.std.proofs.lemmas.List.Edits.{sets}
use Rattle.algebra.specs.EnumNumbers.{basis_number, parity_number, transform_number}
use Rattle.algebra.specs.Remainder.{rem}
use Rattle.algebra.specs.IsRemainder.{IsRemainder}
use Rattle.algebra.specs.Transform.{transform_of}
use Rattle.algebra.specs.declared.Basis.{Basis}
use Rattle.algebra.specs.declared.Basis.TheVariants.{Monomial, Chebyshev}
use Rattle.algebra.specs.declared.Parity.{Parity}
use Rattle.algebra.specs.declared.Parity.TheVariants.{Full}
use Rattle.number.specs.FoldCall.{folded, fold_tests, FoldCall}
use Rattle.number.specs.Interval.{change_of_basis, no_interval}
use Rattle.number.specs.Limits.{plan_limit, degree_limit}
use Rattle.number.specs.Numbers.{Numbers, float_numbers}
use Rattle.number.specs.Parity.{parity_of}
use Rattle.number.specs.Refusal.{Test, NoneHolds, FirstHolds}
use Rattle.number.specs.Split.{parts_of, no_parts, split_of}
use Rattle.number.specs.Tests.{degree_of, no_degree, too_high, unordered, miscounted, out_of_range, too_wide, no_room}
use Rattle.number.specs.FoldCall.{Folded}
use Rattle.bases.specs.Promises.{SameAtWholes}
use Rattle.conversion.specs.ConvertCall.{Converted, convert_tests, ConvertCall}
use Rattle.interpolation.specs.Interpolate.{coefficients_of}
use Rattle.interpolation.specs.InterpolateCall.{Interpolated, InterpolateCall}
use Rattle.counts.specs.Calls.{min_depth_call, min_mult_call, no_counts, counts_call, depth_call, bits_call, largest_tests, largest_call}
use Rattle.counts.specs.Choice.{split_for, counts_of}
use Rattle.counts.specs.ConsumedBits.{bits_of}
use Rattle.counts.specs.LargestDegree.{GreatestWithin}
use Rattle.counts.specs.Depth.{depth_of}
use Rattle.counts.specs.StrategyNumber.{strategy_number}
use Rattle.counts.specs.declared.choice.SplitStrategy.{SplitStrategy}
use Rattle.counts.specs.declared.choice.SplitStrategy.TheVariants.{MinDepth, MinMult}
use Rattle.lists.specs.Tree.{plan_tree}
use Rattle.lists.specs.Arrange.{arranged, ends_of}
use Rattle.lists.specs.Lists.{lists_of}
use Rattle.lists.specs.ListCall.{Listed, list_tests, ListCall}
use Rattle.rebuild.specs.RebuildCall.{Rebuilt, coefficients_from, rebuild_tests, RebuildCall}
use Rattle.walk.specs.Lent.{exact_walk}
use Rattle.walk.specs.Trial.{trial_tests, trial_of}
use Rattle.walk.specs.Chain.{chain_tests, chain_of}
use Rattle.walk.specs.HeaviestChain.{GreatestOfAnswer}
use Rattle.walk.specs.declared.plan.Head.{Head}
use Rattle.plan.specs.PlanCall.{planned_parity, settings_tests, plan_tests, PlanCall, Planned}
use Rattle.plan.specs.PlanSizes.{degree_to_plan, sizes_of, no_sizes, sizes_call}
use Rattle.demands.specs.Accepts.{BringsPlan}
use Rattle.demands.specs.Detected.{Detected}
use Rattle.demands.specs.FoldNumber.{fold_number}
use Rattle.demands.specs.Right.{PlanRight}

-- how a call ends: none of its tests holds, and it answers; or it refuses with the number of the first test that holds
pub data Ends (tests : List Test) (refusal : ℕ) (Answered Refused : Type 0) : Type 0 where
  answers : NoneHolds tests → refusal ≡ 0 → Answered → Ends tests refusal Answered Refused
  refuses : FirstHolds refusal tests → 0 < refusal → Refused → Ends tests refusal Answered Refused

-- the numbers of tests, in order
abbrev pub numbers_of : List Test → List ℕ
numbers_of tests = map (λ (test : Test). test.1) tests

-- ---- the plan call

-- zero in every field of a head; an enum counts by its number (docs/RULES.md, "Numbers of the kinds")
pub record ZeroHead (head : Head) : Type 0 where
  pub basis : basis_number head.basis ≡ 0
  pub parity : parity_number head.parity ≡ 0
  pub strategy : strategy_number head.strategy ≡ 0
  pub transform : transform_number head.transform ≡ 0
  pub degree : head.degree ≡ 0
  pub base : head.base ≡ 0
  pub ct : head.ct ≡ 0
  pub pt : head.pt ≡ 0
  pub depth : head.depth ≡ 0
  pub coefficients : head.coefficients ≡ 0
  pub lists : head.lists ≡ 0
  pub steps : head.steps ≡ 0
  -- +0 in all four numbers
  pub interval : head.interval ≡ no_interval

pub record PlanRefused (head : Head) (out out' : List ℤ) (bounds bounds' steps steps' : List ℕ) : Type 0 where
  pub zero_head : ZeroHead head
  pub coefficients : out' ≡ out
  pub boundaries : bounds' ≡ bounds
  pub numbers : steps' ≡ steps

-- a plan, which is right (specs/Right), or a refusal
abbrev pub PlansTotal : Type 0
PlansTotal = (strategy : SplitStrategy) (parity : Parity) (basis : Basis) (folds : Bool) (c : List ℤ) (a b : Float) (out : List ℤ)
    (bounds steps : List ℕ) (r : Planned) (out' : List ℤ) (bounds' steps' : List ℕ)
    → PlanCall strategy parity basis folds c a b out bounds steps r out' bounds' steps'
    → Ends (plan_tests strategy parity basis folds c a b out bounds steps) r.refusal
    (PlanRight strategy parity basis folds c a b out bounds steps r out' bounds' steps') (PlanRefused r.head out out' bounds bounds' steps steps')

-- what is accepted, with the interval's bounds in order and long enough buffers, gets a plan, and only that
abbrev pub PlansMade : Type 0
PlansMade = (strategy : SplitStrategy) (parity : Parity) (basis : Basis) (folds : Bool) (c : List ℤ) (a b : Float) (out : List ℤ)
    (bounds steps : List ℕ) (r : Planned) (out' : List ℤ) (bounds' steps' : List ℕ)
    → PlanCall strategy parity basis folds c a b out bounds steps r out' bounds' steps'
    → (r.refusal ≡ 0) ↔ BringsPlan strategy parity basis folds c a b out bounds steps

-- its refusal numbers, in document 01's order, with request Q-7's 7
pub record PlanOrder (strategy : SplitStrategy) (parity : Parity) (basis : Basis) (c : List ℤ) (a b : Float) (out : List ℤ) (bounds steps : List ℕ)
    : Type 0 where
  pub unfolded : numbers_of (plan_tests strategy parity basis false c a b out bounds steps) ≡ 2 ∷ 1 ∷ 4 ∷ 3 ∷ 7 ∷ 21 ∷ 22 ∷ 23 ∷ []
  pub with_folding : numbers_of (plan_tests strategy parity basis true c a b out bounds steps) ≡ 2 ∷ 1 ∷ 5 ∷ 6 ∷ 4 ∷ 3 ∷ 7 ∷ 21 ∷ 22 ∷ 23 ∷ []

-- ---- the other calls on polynomials and plans, on whole numbers or f64

-- the fold call: the fold's transform, parity and number of coefficients, and the fold in the buffer
pub record FoldAnswered {A : Type 0} (numbers : Numbers A) (parity : Parity) (basis : Basis) (c out : List A) (r : Folded) (left : List A) : Type 0 where
  -- the transform of the parity and basis, by its number: 1 and 2 in the Monomial basis, 3 and 4 in the Chebyshev basis, Even before Odd
  pub transform_is : r.transform ≡ transform_of parity basis
  pub transform_number_lem : transform_number r.transform ≡ fold_number parity basis
  -- the result has parity Full, which is number 0
  pub parity_is : r.parity ≡ Full
  pub parity_number_lem : parity_number r.parity ≡ 0
  -- how many coefficients the fold has
  pub count_is : r.count ≡ length (folded numbers parity basis c out)
  -- the fold stands in the buffer's first places, and the places beyond are unchanged
  pub buffer_is : left ≡ sets out 0 (folded numbers parity basis c out)

-- or zero in every field, and the buffer unchanged
pub record FoldRefused {A : Type 0} (r : Folded) (out left : List A) : Type 0 where
  pub transform : transform_number r.transform ≡ 0
  pub parity : parity_number r.parity ≡ 0
  pub count : r.count ≡ 0
  pub buffer : left ≡ out

abbrev pub FoldsTotal : Type 0 → Type 0
FoldsTotal A = (numbers : Numbers A) (parity : Parity) (basis : Basis) (c out : List A) (r : Folded) (left : List A)
    → FoldCall numbers parity basis c out r left
    → Ends (fold_tests numbers parity basis c out) r.refusal (FoldAnswered numbers parity basis c out r left) (FoldRefused r out left)

-- the list calls: degree, base and the numbers of coefficients and lists, the lists in one buffer and their boundaries in the other
pub record ListAnswered {A : Type 0} (numbers : Numbers A) (strategy : SplitStrategy) (parity : Parity) (basis : Basis) (c out : List A)
    (bounds : List ℕ) (r : Listed) (out' : List A) (bounds' : List ℕ) : Type 0 where
  -- the degree of the polynomial, and the base of the split that the strategy chooses for it
  pub degree_is : r.degree ≡ degree_of c
  pub base_is : r.base ≡ 2 ^ split_for strategy parity basis (degree_of c)
  -- how many coefficients and lists there are
  pub coefficients_are : r.coefficients ≡ length c
  pub lists_are : r.lists ≡ length (lists_of numbers.ops basis (plan_tree strategy parity basis (degree_of c)) c)
  -- the lists stand one after another in the first places of their buffer, and the places beyond are unchanged
  pub first_buffer : out' ≡ sets out 0 (arranged numbers.ops basis (plan_tree strategy parity basis (degree_of c)) c)
  -- and in the first places of the other buffer the place just past each list, the places beyond being unchanged
  pub second_buffer : bounds' ≡ sets bounds 0 (ends_of (plan_tree strategy parity basis (degree_of c)) 0 (length c))

-- or zero in every field, and both buffers unchanged
pub record ListRefused {A : Type 0} (r : Listed) (out out' : List A) (bounds bounds' : List ℕ) : Type 0 where
  pub degree : r.degree ≡ 0
  pub base : r.base ≡ 0
  pub coefficients : r.coefficients ≡ 0
  pub lists : r.lists ≡ 0
  pub first_buffer : out' ≡ out
  pub second_buffer : bounds' ≡ bounds

abbrev pub ListsTotal : Type 0 → Type 0
ListsTotal A = (numbers : Numbers A) (strategy : SplitStrategy) (parity : Parity) (basis : Basis) (c out : List A) (bounds : List ℕ) (r : Listed)
    (out' : List A) (bounds' : List ℕ) → ListCall numbers strategy parity basis c out bounds r out' bounds'
    → Ends (list_tests numbers strategy parity basis c out bounds) r.refusal
    (ListAnswered numbers strategy parity basis c out bounds r out' bounds') (ListRefused r out out' bounds bounds')

-- the rebuild call: the coefficients in the buffer's first places, where every cut can be undone; or zero, and the buffer unchanged
pub record RebuildAnswered (strategy : SplitStrategy) (parity : Parity) (basis : Basis) (degree base : ℕ) (lists : List ℤ) (bounds : List ℕ)
    (out out' : List ℤ) (r : Rebuilt) : Type 0 where
  pub c : List ℤ
  pub rebuilt : coefficients_from strategy parity basis degree lists ≡ some c
  pub count : r.coefficients ≡ length c
  pub buffer : out' ≡ sets out 0 c

pub record RebuildRefused (r : Rebuilt) (out out' : List ℤ) : Type 0 where
  pub coefficients : r.coefficients ≡ 0
  pub buffer : out' ≡ out

abbrev pub RebuildsTotal : Type 0
RebuildsTotal = (strategy : SplitStrategy) (parity : Parity) (basis : Basis) (degree base : ℕ) (lists : List ℤ) (bounds : List ℕ) (out : List ℤ)
    (r : Rebuilt) (out' : List ℤ) → RebuildCall strategy parity basis degree base lists bounds out r out'
    → Ends (rebuild_tests strategy parity basis degree base lists bounds out) r.refusal
    (RebuildAnswered strategy parity basis degree base lists bounds out out' r) (RebuildRefused r out out')

-- the conversion call: in the buffer's first places new coefficients in the basis `to`, as many as there were and with the same value at every whole
-- number; or zero, and the buffer unchanged
pub record ConvertAnswered (to : Basis) (c out : List ℤ) (r : Converted) (left : List ℤ) : Type 0 where
  pub new : List ℤ
  pub same_length : length new ≡ length c
  pub same_values : SameAtWholes to c new
  pub count : r.count ≡ length new
  pub buffer : left ≡ sets out 0 new

pub record ConvertRefused (r : Converted) (out left : List ℤ) : Type 0 where
  pub count : r.count ≡ 0
  pub buffer : left ≡ out

abbrev pub ConvertsTotal : Type 0
ConvertsTotal = (to : Basis) (c out : List ℤ) (r : Converted) (left : List ℤ) → ConvertCall to c out r left
    → Ends (convert_tests to c (length out)) r.refusal (ConvertAnswered to c out r left) (ConvertRefused r out left)

-- the trial walk, of any head and buffers at any point and modulus: the remainder of an exact value, or zero. It writes in no buffer.
pub record TrialAnswered (head : Head) (coefficients : List ℤ) (bounds steps : List ℕ) (point : ℤ) (modulus : ℕ) : Type 0 where
  -- the value that the exact walk ends with
  pub value : ℤ
  pub exact : exact_walk head coefficients bounds steps point ≡ some value
  -- its remainder is answered: a number below the modulus, and a whole multiple of it away from the value
  pub remainder : (trial_of head coefficients bounds steps point modulus).remainder ≡ rem modulus value
  pub is_remainder : IsRemainder modulus value (trial_of head coefficients bounds steps point modulus).remainder

abbrev pub TrialsTotal : Type 0
TrialsTotal = (head : Head) (coefficients : List ℤ) (bounds steps : List ℕ) (point : ℤ) (modulus : ℕ)
    → Ends (trial_tests head coefficients bounds steps point modulus) (trial_of head coefficients bounds steps point modulus).refusal
    (TrialAnswered head coefficients bounds steps point modulus) ((trial_of head coefficients bounds steps point modulus).remainder ≡ 0)

-- the heaviest chain, of any head and buffers at any scales: the greatest weight over all paths that end in the walk's answer, or zero. It writes in
-- no buffer.
abbrev pub ChainsTotal : Type 0
ChainsTotal = (head : Head) (coefficients : List ℤ) (bounds steps : List ℕ) (input coeff : ℕ)
    → Ends (chain_tests head coefficients bounds steps input coeff) (chain_of head coefficients bounds steps input coeff).refusal
    (GreatestOfAnswer head coefficients bounds steps input coeff (chain_of head coefficients bounds steps input coeff).weight)
    ((chain_of head coefficients bounds steps input coeff).weight ≡ 0)

-- interpolation, on any nodes, values and interval: the number of coefficients, their parity and interval, and the coefficients in the buffer
pub record InterpolateAnswered (nodes values : List Float) (a b : Float) (out : List Float) (r : Interpolated) (left : List Float) : Type 0 where
  -- a coefficient for each node
  pub count_is : r.count ≡ length nodes
  -- the parity that the coefficients have, and its number
  pub parity_is : r.parity ≡ parity_of float_numbers (coefficients_of nodes values)
  pub parity_number_lem : Detected float_numbers (coefficients_of nodes values) r.parity
  -- the interval from a to b with its change pair in the Chebyshev basis
  pub interval_is : r.interval ≡ change_of_basis Chebyshev a b
  -- the coefficients stand in the buffer's first places, and the places beyond are unchanged
  pub buffer_is : left ≡ sets out 0 (coefficients_of nodes values)

-- or zero in every field, and the buffer unchanged
pub record InterpolateRefused (r : Interpolated) (out left : List Float) : Type 0 where
  pub count : r.count ≡ 0
  pub parity : parity_number r.parity ≡ 0
  pub interval : r.interval ≡ no_interval
  pub buffer : left ≡ out

abbrev pub InterpolationsTotal : Type 0
InterpolationsTotal = (nodes values : List Float) (a b : Float) (out : List Float) (r : Interpolated) (left : List Float)
    → InterpolateCall nodes values a b out r left
    → Ends (miscounted (length nodes) (length values) ∷ unordered a b ∷ no_room (length out) (length nodes) ∷ []) r.refusal
    (InterpolateAnswered nodes values a b out r left) (InterpolateRefused r out left)

-- ---- the calls on a bare index, degree or budget

pub record NumbersTotal : Type 0 where
  pub index_split : (n : ℕ) → Ends (out_of_range n ∷ []) (split_of n).refusal (split_of n ≡ parts_of n) (split_of n ≡ no_parts (split_of n).refusal)
  pub min_depth_split : (degree : ℕ)
      → Ends (too_high degree_limit degree ∷ no_degree degree ∷ []) (min_depth_call degree).refusal
      ((min_depth_call degree).split ≡ split_for MinDepth Full Monomial degree) ((min_depth_call degree).split ≡ 0)
  pub min_mult_split : (parity : Parity) (basis : Basis) (degree : ℕ)
      → Ends (too_high plan_limit degree ∷ []) (min_mult_call parity basis degree).refusal
      ((min_mult_call parity basis degree).split ≡ split_for MinMult parity basis degree) ((min_mult_call parity basis degree).split ≡ 0)
  pub op_counts : (strategy : SplitStrategy) (parity : Parity) (basis : Basis) (degree : ℕ)
      → Ends (too_high plan_limit degree ∷ []) (counts_call strategy parity basis degree).refusal
      (counts_call strategy parity basis degree
      ≡ record { refusal = 0; ct = (counts_of strategy parity basis degree).ct; pt = (counts_of strategy parity basis degree).pt })
      (counts_call strategy parity basis degree ≡ no_counts (counts_call strategy parity basis degree).refusal)
  pub eval_depth : (strategy : SplitStrategy) (degree : ℕ)
      → Ends (too_high degree_limit degree ∷ []) (depth_call strategy degree).refusal ((depth_call strategy degree).depth ≡ depth_of strategy degree)
      ((depth_call strategy degree).depth ≡ 0)
  pub consumed_bits : (strategy : SplitStrategy) (degree input coeff : ℕ)
      → Ends (too_high degree_limit degree ∷ too_wide input ∷ too_wide coeff ∷ []) (bits_call strategy degree input coeff).refusal
      ((bits_call strategy degree input coeff).bits ≡ bits_of strategy degree input coeff) ((bits_call strategy degree input coeff).bits ≡ 0)
  pub largest_degree : (strategy : SplitStrategy) (budget input coeff : ℕ)
      → Ends (largest_tests strategy budget input coeff) (largest_call strategy budget input coeff).refusal
      (GreatestWithin strategy budget input coeff (largest_call strategy budget input coeff).degree)
      ((largest_call strategy budget input coeff).degree ≡ 0)
  pub plan_sizes : (strategy : SplitStrategy) (parity : Parity) (basis : Basis) (folds : Bool) (degree : ℕ)
      → Ends (settings_tests folds parity degree) (sizes_call strategy parity basis folds degree).refusal
      (sizes_call strategy parity basis folds degree ≡ sizes_of strategy (planned_parity folds parity) basis (degree_to_plan folds parity degree))
      (sizes_call strategy parity basis folds degree ≡ no_sizes (sizes_call strategy parity basis folds degree).refusal)
