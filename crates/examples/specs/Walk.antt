-- Worked examples of the walk, proved by computing: values, and damaged plans for each reason of refusal 24. `negsuc n` is -(n + 1).
use Rattle.std.specs.Prelude.{◌≡◌, refl, List, [], ◌∷◌, ◌++◌, ℕ, zero, suc, ℤ, pos, negsuc, length}
use Rattle.std.proofs.Math.Option.{some}
use Rattle.algebra.specs.Allowed.{allows}
use Rattle.algebra.specs.Remainder.{rem}
use Rattle.algebra.specs.Transform.{input_of, output_of}
use Rattle.algebra.specs.declared.Basis.{Basis}
use Rattle.algebra.specs.declared.Basis.TheVariants.{Monomial, Chebyshev}
use Rattle.algebra.specs.declared.Parity.{Parity}
use Rattle.algebra.specs.declared.Parity.TheVariants.{Full, Odd}
use Rattle.algebra.specs.declared.PolynomialInputTransform.{PolynomialInputTransform}
use Rattle.algebra.specs.declared.PolynomialInputTransform.TheVariants.{Identity, ChebyshevT2TimesInput}
use Rattle.number.specs.Bits.{digits, bit_len, top_power, is_power_of_two, power_below}
use Rattle.number.specs.Refusal.{unless_refused}
use Rattle.number.specs.Split.{parts_of, split_refusal, split_of}
use Rattle.counts.specs.declared.choice.SplitStrategy.TheVariants.{MinDepth}
use Rattle.walk.specs.Make.{is_makeable, with_power, first_powers, power_from, make_of}
use Rattle.walk.specs.Load.{push_of, add_place, sum_from, load_of}
use Rattle.walk.specs.Combine.{join_of, combine_of}
use Rattle.walk.specs.Walk.{one_left, act_of, run_of, walk_of}
use Rattle.walk.specs.Boundaries.{rises, list_at}
use Rattle.walk.specs.Lent.{steps_from, lent_walk, exact_walk}
use Rattle.walk.specs.Trial.{no_trial, trial_refusal, trial_of}
use Rattle.walk.specs.WalksHeld.{flat}
use Rattle.walk.specs.declared.plan.Step.{Step}
use Rattle.number.specs.Interval.{no_interval}
use Rattle.walk.specs.declared.plan.Head.{Head}
use Rattle.walk.specs.Trial.{Trial}

-- a head that says only what the walk reads
abbrev pub head : Parity → Basis → PolynomialInputTransform → (coefficients lists steps : ℕ) → Head
head parity basis transform coefficients lists steps = record {
  basis = basis;
  parity = parity;
  strategy = MinDepth;
  transform = transform;
  degree = 0;
  base = 0;
  ct = 0;
  pt = 0;
  depth = 0;
  coefficients = coefficients;
  lists = lists;
  steps = steps;
  interval = no_interval;
}

abbrev value : ℕ → Trial
value v = record { refusal = 0; remainder = v }

-- the steps
abbrev pub make : (n a b : ℕ) → Step
make n a b = record { kind = 1; x = n; y = a; z = b }

abbrev pub load : (i : ℕ) → Step
load i = record { kind = 2; x = i; y = 0; z = 0 }

abbrev pub combine : (p : ℕ) → Step
combine p = record { kind = 3; x = p; y = 0; z = 0 }

abbrev pub combine_plain : (p : ℕ) → Step
combine_plain p = record { kind = 4; x = p; y = 0; z = 0 }

abbrev other : (kind x y z : ℕ) → Step
other kind x y z = record { kind = kind; x = x; y = y; z = z }

-- the coefficients 1 to 5 in the lists 1 2 3 4 and 5, walked at 2 modulo 100
abbrev pub five : List ℤ
five = pos 1 ∷ pos 2 ∷ pos 3 ∷ pos 4 ∷ pos 5 ∷ []

abbrev lent : (coefficients lists steps : ℕ) → (bounds buffer : List ℕ) → Trial
lent coefficients lists steps bounds buffer = trial_of (head Full Monomial Identity coefficients lists steps) five bounds buffer (pos 2) 100

abbrev walk : List Step → Trial
walk steps = lent 5 2 (length steps) (4 ∷ 5 ∷ []) (flat steps)

-- the nine-line plan: its powers, both lists, and a combine
abbrev pub powers : List Step
powers = make 2 1 1 ∷ make 3 1 2 ∷ make 4 2 2 ∷ []

abbrev pub plan : List Step
plan = powers ++ (load 0 ∷ load 1 ∷ combine_plain 4 ∷ [])

-- ---- values

-- 1 + 2·2 + 3·4 + 4·8 + 5·16 = 129
pub nine_lines : walk plan ≡ value 29
unfolding trial_of trial_refusal unless_refused lent_walk walk_of run_of act_of load_of combine_of make_of power_from is_makeable with_power first_powers
    add_place sum_from push_of join_of one_left list_at rises steps_from flat input_of output_of rem allows split_of split_refusal parts_of is_power_of_two
    bit_len digits top_power power_below
nine_lines = refl

-- Chebyshev 1 2 3 4 5 6 by MinMult, in the lists 1 4, 3 -4 and 5 12
pub chebyshev_exact : exact_walk (head Full Chebyshev Identity 6 3 7) (pos 1 ∷ pos 4 ∷ pos 3 ∷ negsuc 3 ∷ pos 5 ∷ pos 12 ∷ []) (2 ∷ 4 ∷ 6 ∷ [])
    (flat (make 2 1 1 ∷ make 4 2 2 ∷ load 0 ∷ load 1 ∷ combine 2 ∷ load 2 ∷ combine 4 ∷ [])) (pos 2)
    ≡ some (pos 2787)
unfolding lent_walk walk_of run_of act_of load_of combine_of make_of power_from is_makeable with_power first_powers add_place sum_from push_of join_of
    one_left list_at rises steps_from flat input_of output_of allows split_of split_refusal unless_refused parts_of is_power_of_two bit_len digits top_power
    power_below
chebyshev_exact = refl

-- Odd Chebyshev 0 1 0 2, folded to -1 4, at 2
pub folded_exact : exact_walk (head Full Chebyshev ChebyshevT2TimesInput 2 1 1) (negsuc 0 ∷ pos 4 ∷ []) (2 ∷ []) (flat (load 0 ∷ [])) (pos 2)
    ≡ some (pos 54)
unfolding lent_walk walk_of run_of act_of load_of first_powers add_place sum_from push_of one_left list_at rises steps_from flat input_of output_of allows
folded_exact = refl

-- the same at -2 modulo 50: -54 leaves 46
pub folded_trial : trial_of (head Full Chebyshev ChebyshevT2TimesInput 2 1 1) (negsuc 0 ∷ pos 4 ∷ []) (2 ∷ []) (flat (load 0 ∷ [])) (negsuc 1) 50
    ≡ value 46
unfolding trial_of trial_refusal unless_refused lent_walk walk_of run_of act_of load_of first_powers add_place sum_from push_of one_left list_at rises
    steps_from flat input_of output_of rem allows
folded_trial = refl

-- ---- 11, ahead of 24: the moduli 1 and 2,147,483,648, with counts that pass every buffer

pub moduli : trial_of (head Full Monomial Identity 9 9 9) [] [] [] (pos 2) 1 ∷ trial_of (head Full Monomial Identity 9 9 9) [] [] [] (pos 2) 2147483648 ∷ []
    ≡ no_trial 11 ∷ no_trial 11 ∷ []
unfolding trial_of trial_refusal unless_refused
moduli = refl

-- ---- 24, each reason

-- a count passes its buffer: coefficients, lists, steps; longer buffers do no harm
pub counts : lent 6 2 6 (4 ∷ 5 ∷ []) (flat plan)
    ∷ lent 5 3 6 (4 ∷ 5 ∷ []) (flat plan)
    ∷ lent 5 2 7 (4 ∷ 5 ∷ []) (flat plan ++ (9 ∷ 9 ∷ 9 ∷ []))
    ∷ lent 5 2 6 (4 ∷ 5 ∷ 1 ∷ []) (flat plan ++ (9 ∷ 9 ∷ 9 ∷ []))
    ∷ []
    ≡ no_trial 24 ∷ no_trial 24 ∷ no_trial 24 ∷ value 29 ∷ []
unfolding trial_of trial_refusal unless_refused lent_walk walk_of run_of act_of load_of combine_of make_of power_from is_makeable with_power first_powers
    add_place sum_from push_of join_of one_left list_at rises steps_from flat input_of output_of rem allows split_of split_refusal parts_of is_power_of_two
    bit_len digits top_power power_below
counts = refl

-- boundaries that start at 0, stand still, fall, or pass the head's coefficients
pub boundaries : lent 5 2 6 (0 ∷ 5 ∷ []) (flat plan)
    ∷ lent 5 2 6 (4 ∷ 4 ∷ []) (flat plan)
    ∷ lent 5 2 6 (4 ∷ 3 ∷ []) (flat plan)
    ∷ lent 4 2 6 (4 ∷ 5 ∷ []) (flat plan)
    ∷ []
    ≡ no_trial 24 ∷ no_trial 24 ∷ no_trial 24 ∷ no_trial 24 ∷ []
unfolding trial_of trial_refusal unless_refused lent_walk rises flat
boundaries = refl

-- kinds 0 and 5; a third and a fourth number that are not 0, of a load and of a combine; list 1 alone is a plan
pub fields : walk (other 0 1 0 0 ∷ [])
    ∷ walk (other 5 1 0 0 ∷ [])
    ∷ walk (other 2 1 1 0 ∷ [])
    ∷ walk (other 2 1 0 1 ∷ [])
    ∷ walk (load 1 ∷ load 1 ∷ other 3 1 1 0 ∷ [])
    ∷ walk (load 1 ∷ load 1 ∷ other 4 1 0 1 ∷ [])
    ∷ walk (load 1 ∷ [])
    ∷ []
    ≡ no_trial 24 ∷ no_trial 24 ∷ no_trial 24 ∷ no_trial 24 ∷ no_trial 24 ∷ no_trial 24 ∷ value 5 ∷ []
unfolding trial_of trial_refusal unless_refused lent_walk walk_of run_of act_of load_of combine_of first_powers add_place sum_from push_of join_of one_left
    list_at rises steps_from flat input_of output_of rem allows
fields = refl

-- a power above 4,095; powers 0, 1 and 2 made before; a wrong split, in the wrong order; a part that is not there; in order it runs
pub makes : walk (make 4096 2048 2048 ∷ load 1 ∷ [])
    ∷ walk (make 0 0 0 ∷ load 1 ∷ [])
    ∷ walk (make 1 0 0 ∷ load 1 ∷ [])
    ∷ walk (make 2 1 1 ∷ make 2 1 1 ∷ load 1 ∷ [])
    ∷ walk (make 2 1 1 ∷ make 3 2 1 ∷ load 1 ∷ [])
    ∷ walk (make 4 2 2 ∷ load 1 ∷ [])
    ∷ walk (make 2 1 1 ∷ make 4 2 2 ∷ load 1 ∷ [])
    ∷ []
    ≡ no_trial 24 ∷ no_trial 24 ∷ no_trial 24 ∷ no_trial 24 ∷ no_trial 24 ∷ no_trial 24 ∷ value 5 ∷ []
unfolding trial_of trial_refusal unless_refused lent_walk walk_of run_of act_of load_of make_of power_from is_makeable with_power first_powers add_place
    sum_from push_of one_left list_at rises steps_from flat input_of output_of rem allows split_of split_refusal parts_of is_power_of_two bit_len digits
    top_power power_below
makes = refl

-- a Chebyshev power whose parts are there, but not the power at their distance: 9 is 7 and 2, which are 5 apart; with power 5 it runs
pub distance : trial_of (head Full Chebyshev Identity 5 2 6) five (4 ∷ 5 ∷ [])
    (flat (make 2 1 1 ∷ make 3 1 2 ∷ make 4 2 2 ∷ make 7 3 4 ∷ make 9 7 2 ∷ load 1 ∷ [])) (pos 2) 100
    ∷ trial_of (head Full Chebyshev Identity 5 2 7) five (4 ∷ 5 ∷ [])
    (flat (make 2 1 1 ∷ make 3 1 2 ∷ make 4 2 2 ∷ make 5 3 2 ∷ make 7 3 4 ∷ make 9 7 2 ∷ load 1 ∷ [])) (pos 2) 100
    ∷ []
    ≡ no_trial 24 ∷ value 5 ∷ []
unfolding trial_of trial_refusal unless_refused lent_walk walk_of run_of act_of load_of make_of power_from is_makeable with_power first_powers add_place
    sum_from push_of one_left list_at rises steps_from flat input_of output_of rem allows split_of split_refusal parts_of is_power_of_two bit_len digits
    top_power power_below
distance = refl

-- a list that is not there; one whose powers are not; a zero coefficient's power is used too; Odd leaves power 2 and the constant out
pub loads : walk (load 2 ∷ [])
    ∷ walk (load 0 ∷ [])
    ∷ trial_of (head Full Monomial Identity 3 1 1) (pos 7 ∷ pos 0 ∷ pos 0 ∷ []) (3 ∷ []) (flat (load 0 ∷ [])) (pos 2) 100
    ∷ trial_of (head Odd Monomial Identity 3 1 1) (pos 7 ∷ pos 4 ∷ pos 9 ∷ []) (3 ∷ []) (flat (load 0 ∷ [])) (pos 2) 100
    ∷ []
    ≡ no_trial 24 ∷ no_trial 24 ∷ no_trial 24 ∷ value 8 ∷ []
unfolding trial_of trial_refusal unless_refused lent_walk walk_of run_of act_of load_of first_powers add_place sum_from push_of one_left list_at rises
    steps_from flat input_of output_of rem allows
loads = refl

-- combines with none or one waiting, and at a power that is not there; at power 1 it runs
pub combines : walk (combine 1 ∷ [])
    ∷ walk (load 1 ∷ combine 1 ∷ [])
    ∷ walk (load 1 ∷ load 1 ∷ combine 2 ∷ [])
    ∷ walk (load 1 ∷ load 1 ∷ combine 1 ∷ [])
    ∷ []
    ≡ no_trial 24 ∷ no_trial 24 ∷ no_trial 24 ∷ value 15 ∷ []
unfolding trial_of trial_refusal unless_refused lent_walk walk_of run_of act_of load_of combine_of first_powers add_place sum_from push_of join_of one_left
    list_at rises steps_from flat input_of output_of rem allows
combines = refl

-- n loads of list 1, and n combines at power 0
abbrev loading : ℕ → List Step
loading zero = []
loading (suc n) = load 1 ∷ loading n

abbrev combining : ℕ → List Step
combining zero = []
combining (suc n) = combine 0 ∷ combining n

-- at the end none or two wait; 16 values may wait, and 17 may not
pub ends : walk [] ∷ walk (loading 2) ∷ walk (loading 16 ++ combining 15) ∷ walk (loading 17 ++ combining 16) ∷ []
    ≡ no_trial 24 ∷ no_trial 24 ∷ value 80 ∷ no_trial 24 ∷ []
unfolding trial_of trial_refusal unless_refused lent_walk walk_of run_of act_of load_of combine_of first_powers add_place sum_from push_of join_of one_left
    list_at rises steps_from flat input_of output_of rem allows
ends = refl
