-- Request Q-11, "Chebyshev and monomial, both ways": what the conversion call accepts, what it leaves, and what it refuses. Its coefficients c are given
-- in the basis that is not `to`, and it writes new ones in `to`. `SameAtWholes to c d` says that d, written in `to`, has the value of c at every whole
-- number. That the call ends with an answer or a refusal on any arguments is `ConvertsTotal` (specs/Total), among the calls of demand 1.
use Rattle.std.specs.Prelude.{◌≡◌, Bool, List, [], ◌∷◌, ◌↔◌, ℕ, ◌^◌, ◌≤◌, ◌<◌, ℤ, pos, length, take, drop}
use Rattle.algebra.specs.Magnitude.{sum_abs}
use Rattle.algebra.specs.declared.Basis.{Basis}
use Rattle.algebra.specs.declared.Basis.TheVariants.{Monomial, Chebyshev}
use Rattle.algebra.specs.declared.Parity.{Parity}
use Rattle.number.specs.Tests.{degree_of}
use Rattle.bases.specs.Rows.{other}
use Rattle.bases.specs.Promises.{SameAtWholes, SameEverywhere}
use Rattle.conversion.specs.ConvertCall.{Converted, convert_tests, ConvertCall}
use Rattle.counts.specs.declared.choice.SplitStrategy.{SplitStrategy}
use Rattle.plan.specs.PlanCall.{Accepted}
use Rattle.demands.specs.MadePlan.{MadePlan}
use Rattle.demands.specs.Right.{WalksRight}
use Rattle.demands.specs.Total.{numbers_of}

-- ---- what is accepted

-- c has a conversion that is within the limits
pub record HasConversion (to : Basis) (c : List ℤ) : Type 0 where
  -- its degree is at most 20, and its magnitudes sum to at most 2^30
  pub degree_to : degree_of c ≤ 20
  pub magnitudes : sum_abs c ≤ 2 ^ 30
  -- there are whole coefficients in `to`, as many as c has, with the same value at every whole number
  pub new : List ℤ
  pub same_length : length new ≡ length c
  pub same_values : SameAtWholes to c new
  -- and their magnitudes, too, sum to at most 2^30
  pub new_magnitudes : sum_abs new ≤ 2 ^ 30

-- what brings a conversion: coefficients that have one, and a buffer with a place for each
pub record BringsConversion (to : Basis) (c out : List ℤ) : Type 0 where
  pub convertible : HasConversion to c
  pub room : length c ≤ length out

-- "Convert whole coefficients up to degree 20 either way": these are converted, and nothing else is
abbrev pub ConvertsAccepted : Type 0
ConvertsAccepted = (to : Basis) (c out : List ℤ) (r : Converted) (left : List ℤ) → ConvertCall to c out r left
    → (r.refusal ≡ 0) ↔ BringsConversion to c out

-- ---- what is left

-- the new coefficients: what stands in the places that the answer counts
abbrev pub new_in : (r : Converted) → (left : List ℤ) → List ℤ
new_in r left = take r.count left

-- what a call that accepts answers and leaves
pub record Converts (to : Basis) (c out : List ℤ) (r : Converted) (left : List ℤ) : Type 1 where
  -- "length is kept"
  pub count : r.count ≡ length c
  pub same_length : length (new_in r left) ≡ length c
  -- "the value at every whole number is the same". So it is at every point of every ring that the whole numbers map to, such as the fractions.
  pub at_wholes : SameAtWholes to c (new_in r left)
  pub everywhere : SameEverywhere to c (new_in r left)
  -- no other list of this length has these values
  pub only : (d : List ℤ) → length d ≡ length c → SameAtWholes to c d → d ≡ new_in r left
  -- the magnitudes are again within the limit
  pub magnitudes : sum_abs (new_in r left) ≤ 2 ^ 30
  -- the places beyond the new coefficients are unchanged
  pub beyond : drop r.count left ≡ drop r.count out

abbrev pub CallsConvert : Type 1
CallsConvert = (to : Basis) (c out : List ℤ) (r : Converted) (left : List ℤ) → ConvertCall to c out r left → r.refusal ≡ 0 → Converts to c out r left

-- "length is kept, the empty curve too": without coefficients a call accepts, counts none and leaves the buffer unchanged
pub record ConvertsNone (r : Converted) (out left : List ℤ) : Type 0 where
  pub answer : r ≡ record { refusal = 0; count = 0 }
  pub buffer : left ≡ out

abbrev pub EmptyConverts : Type 0
EmptyConverts = (to : Basis) (out : List ℤ) (r : Converted) (left : List ℤ) → ConvertCall to [] out r left → ConvertsNone r out left

-- ---- there and back

-- what a call back, on the new coefficients of c, answers and leaves
pub record ConvertsBack (c out : List ℤ) (r : Converted) (left : List ℤ) : Type 0 where
  -- it refuses nothing but a buffer that is too short
  pub accepts : (r.refusal ≡ 0) ↔ (length c ≤ length out)
  pub no_room_lem : (r.refusal ≡ 21) ↔ (length out < length c)
  -- and where it accepts, it gives c again
  pub again : r.refusal ≡ 0 → new_in r left ≡ c

-- "There and back gives the first coefficients again where both calls accept."
abbrev pub CallsThereAndBack : Type 0
CallsThereAndBack = (to : Basis) (c out : List ℤ) (r : Converted) (left : List ℤ) → ConvertCall to c out r left → r.refusal ≡ 0
    → (out' : List ℤ) (r' : Converted) (left' : List ℤ) → ConvertCall (other to) (new_in r left) out' r' left' → ConvertsBack c out' r' left'

-- ---- refusals

-- "It refuses with 37 above degree 20, then 3 on the input, then with 38 when a new coefficient isn't whole, then 3 on the output, then 21"
abbrev pub ConvertOrder : Type 0
ConvertOrder = (to : Basis) (c : List ℤ) (room : ℕ) → numbers_of (convert_tests to c room) ≡ 37 ∷ 3 ∷ 38 ∷ 3 ∷ 21 ∷ []

-- "3 on the input" and "3 on the output": the magnitudes of c, or those of its new coefficients, sum to more than 2^30
pub data TooLarge (to : Basis) (c : List ℤ) : Type 0 where
  input : 2 ^ 30 < sum_abs c → TooLarge to c
  output : (d : List ℤ) → length d ≡ length c → SameAtWholes to c d → 2 ^ 30 < sum_abs d → TooLarge to c

-- "when a new coefficient isn't whole": degree and magnitudes are within the limits, but no whole coefficients in `to`, as many as c has, have the same
-- value at every whole number
pub record NotWhole (to : Basis) (c : List ℤ) : Type 0 where
  pub degree_to : degree_of c ≤ 20
  pub magnitudes : sum_abs c ≤ 2 ^ 30
  pub none : (d : List ℤ) → length d ≡ length c → SameAtWholes to c d → ⊥

-- a call's refusal, told from its arguments
pub record RefusalTold (to : Basis) (c out : List ℤ) (refusal : ℕ) : Type 0 where
  pub too_high_lem : (refusal ≡ 37) ↔ (20 < degree_of c)
  pub too_large_lem : (refusal ≡ 3) ↔ ((degree_of c ≤ 20) × TooLarge to c)
  pub not_whole_lem : (refusal ≡ 38) ↔ NotWhole to c
  pub no_room_lem : (refusal ≡ 21) ↔ (HasConversion to c × (length out < length c))

abbrev pub ConvertRefusalsTold : Type 0
ConvertRefusalsTold = (to : Basis) (c out : List ℤ) (r : Converted) (left : List ℤ) → ConvertCall to c out r left → RefusalTold to c out r.refusal

-- "Chebyshev coefficients of a monomial curve may be fractions."
pub record FractionsRefused : Type 0 where
  -- x² = (T_0 + T_2)/2 is refused, whatever the buffer
  pub square : (out : List ℤ) (r : Converted) (left : List ℤ) → ConvertCall Chebyshev (pos 0 ∷ pos 0 ∷ pos 1 ∷ []) out r left → r.refusal ≡ 38
  -- monomial coefficients of a Chebyshev curve are never fractions
  pub none_in_powers : (c out : List ℤ) (r : Converted) (left : List ℤ) → ConvertCall Monomial c out r left → r.refusal ≡ 38 → ⊥

-- written in the T_i, the magnitudes sum to no more than before
pub record NoLargerInChebyshev (c : List ℤ) (r : Converted) (left : List ℤ) : Type 0 where
  pub no_larger : r.refusal ≡ 0 → sum_abs (new_in r left) ≤ sum_abs c
  -- so 3 comes of the input alone
  pub input_alone : (r.refusal ≡ 3) ↔ ((degree_of c ≤ 20) × (2 ^ 30 < sum_abs c))

abbrev pub ChebyshevNoLarger : Type 0
ChebyshevNoLarger = (c out : List ℤ) (r : Converted) (left : List ℤ) → ConvertCall Chebyshev c out r left → NoLargerInChebyshev c r left

-- ---- what was converted is planned

-- the planner accepts the new coefficients with whatever parity and fold setting it accepts c with, and with no others
abbrev pub ConvertedAccepted : Type 0
ConvertedAccepted = (to : Basis) (c out : List ℤ) (r : Converted) (left : List ℤ) → ConvertCall to c out r left → r.refusal ≡ 0
    → (folded : Bool) (parity : Parity) → Accepted folded parity c ↔ Accepted folded parity (new_in r left)

-- every plan that a call made of the new coefficients, in their basis, is walked to the value of c in its own basis at every whole number, and its trial
-- walks answer that value's remainders
abbrev pub ConvertedPlansRight : Type 0
ConvertedPlansRight = (to : Basis) (c out : List ℤ) (r : Converted) (left : List ℤ) → ConvertCall to c out r left → r.refusal ≡ 0
    → (strategy : SplitStrategy) (parity : Parity) (folded : Bool) (plan : MadePlan strategy parity to folded (new_in r left)) (x : ℤ)
    → WalksRight plan.answer.head plan.out' plan.bounds' plan.steps' (other to) c x
