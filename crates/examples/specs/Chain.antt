-- Worked examples of the heaviest chain, proved by computing, at input scale 30 and coefficient scale 20.
use Rattle.std.specs.Prelude.{◌≡◌, refl, List, [], ◌∷◌, ◌++◌, ℕ, ℤ, pos, length}
use Rattle.std.proofs.Math.Option.{some}
use Rattle.algebra.specs.Allowed.{allows}
use Rattle.algebra.specs.declared.Basis.{Basis}
use Rattle.algebra.specs.declared.Basis.TheVariants.{Monomial, Chebyshev}
use Rattle.algebra.specs.declared.Parity.{Parity}
use Rattle.algebra.specs.declared.Parity.TheVariants.{Full, Odd}
use Rattle.algebra.specs.declared.PolynomialInputTransform.{PolynomialInputTransform}
use Rattle.algebra.specs.declared.PolynomialInputTransform.TheVariants.{Identity, Square, ChebyshevT2TimesInput}
use Rattle.number.specs.Bits.{digits, bit_len, top_power, is_power_of_two, power_below}
use Rattle.number.specs.Refusal.{unless_refused}
use Rattle.number.specs.Split.{parts_of, split_refusal, split_of}
use Rattle.walk.specs.Make.{is_makeable, with_power, first_powers, power_from, make_of}
use Rattle.walk.specs.Load.{push_of, add_place, sum_from, load_of}
use Rattle.walk.specs.Combine.{join_of, combine_of}
use Rattle.walk.specs.Walk.{one_left, act_of, run_of, walk_of}
use Rattle.walk.specs.Boundaries.{rises, list_at}
use Rattle.walk.specs.Lent.{steps_from, lent_walk}
use Rattle.walk.specs.WalksHeld.{flat}
use Rattle.walk.specs.Values.Value.{given, product, sum}
use Rattle.walk.specs.Paths.{heaviest}
use Rattle.walk.specs.MadeRules.{place_made, input_made, output_made}
use Rattle.walk.specs.Chain.{no_chain, answer_made, chain_refusal, chain_of}
use Rattle.walk.specs.declared.plan.Step.{Step}
use Rattle.walk.specs.Chain.{Chain}
use Rattle.examples.specs.Walk.{head, make, load, combine, five, powers, plan}

abbrev weighs : ℕ → Chain
weighs w = record { refusal = 0; weight = w }

-- the chain of a plan whose lists end at these boundaries
abbrev chain : Parity → Basis → PolynomialInputTransform → (coefficients : List ℤ) (bounds : List ℕ) (steps : List Step) → Chain
chain parity basis transform coefficients bounds steps =
    chain_of (head parity basis transform (length coefficients) (length bounds) (length steps)) coefficients bounds (flat steps) 30 20

-- the nine-line plan: powers 3 and 4 weigh 60, list 0 80 and list 1 nothing, and the plain combine adds 20 to power 4; as kind 3 it adds 30
pub nine_lines : chain Full Monomial Identity five (4 ∷ 5 ∷ []) plan
    ∷ chain Full Monomial Identity five (4 ∷ 5 ∷ []) (powers ++ (load 0 ∷ load 1 ∷ combine 4 ∷ []))
    ∷ []
    ≡ weighs 80 ∷ weighs 90 ∷ []
unfolding chain_of chain_refusal unless_refused lent_walk walk_of run_of act_of load_of combine_of make_of power_from is_makeable with_power first_powers
    add_place sum_from push_of join_of one_left list_at rises steps_from flat input_made output_made place_made heaviest allows split_of split_refusal
    parts_of is_power_of_two bit_len digits top_power power_below
nine_lines = refl

-- Chebyshev of degree 5 by MinMult: a list at power 1 weighs 20, power 2 30 and power 4 60; the combines at 2 and 4 leave 60 and 90
pub chebyshev : chain Full Chebyshev Identity (five ++ (pos 6 ∷ [])) (2 ∷ 4 ∷ 6 ∷ [])
    (make 2 1 1 ∷ make 4 2 2 ∷ load 0 ∷ load 1 ∷ combine 2 ∷ load 2 ∷ combine 4 ∷ [])
    ≡ weighs 90
unfolding chain_of chain_refusal unless_refused lent_walk walk_of run_of act_of load_of combine_of make_of power_from is_makeable with_power first_powers
    add_place sum_from push_of join_of one_left list_at rises steps_from flat input_made output_made place_made heaviest allows split_of split_refusal
    parts_of is_power_of_two bit_len digits top_power power_below
chebyshev = refl

-- a power that nothing uses adds none: power 2 is made, and the Odd list of three uses power 1 alone; without allowed powers a list weighs 0
pub unused : chain Odd Monomial Identity (pos 0 ∷ pos 1 ∷ pos 0 ∷ []) (3 ∷ []) (make 2 1 1 ∷ load 0 ∷ [])
    ∷ chain Odd Monomial Identity (pos 0 ∷ []) (1 ∷ []) (load 0 ∷ [])
    ∷ chain Full Monomial Identity (pos 7 ∷ []) (1 ∷ []) (load 0 ∷ [])
    ∷ []
    ≡ weighs 20 ∷ weighs 0 ∷ weighs 0 ∷ []
unfolding chain_of chain_refusal unless_refused lent_walk walk_of run_of act_of load_of make_of power_from is_makeable with_power first_powers add_place
    sum_from push_of one_left list_at rises steps_from flat input_made output_made place_made heaviest allows split_of split_refusal parts_of is_power_of_two
    bit_len digits top_power power_below
unused = refl

-- transforms: power 1 weighs 30 and a list at it 50, and the multiplication by the input 30 more, of a constant too
pub transforms : chain Full Monomial Square (pos 1 ∷ pos 2 ∷ []) (2 ∷ []) (load 0 ∷ [])
    ∷ chain Full Chebyshev ChebyshevT2TimesInput (pos 1 ∷ pos 2 ∷ []) (2 ∷ []) (load 0 ∷ [])
    ∷ chain Full Chebyshev ChebyshevT2TimesInput (pos 1 ∷ []) (1 ∷ []) (load 0 ∷ [])
    ∷ []
    ≡ weighs 50 ∷ weighs 80 ∷ weighs 30 ∷ []
unfolding chain_of chain_refusal unless_refused lent_walk walk_of run_of act_of load_of make_of power_from is_makeable with_power first_powers add_place
    sum_from push_of one_left list_at rises steps_from flat input_made output_made place_made heaviest allows split_of split_refusal parts_of is_power_of_two
    bit_len digits top_power power_below
transforms = refl

-- what the first of these is made of: the constant is added to the sum of no place, and to that c·x²
pub made_of : answer_made (head Full Monomial Square 2 1 1) (pos 1 ∷ pos 2 ∷ []) (2 ∷ []) (flat (load 0 ∷ [])) 30 20
    ≡ some (sum (sum given given) (product 20 given (product 30 given given)))
unfolding lent_walk walk_of run_of act_of load_of first_powers add_place sum_from push_of one_left list_at rises steps_from flat input_made output_made
    place_made allows
made_of = refl

-- 10 for either scale, ahead of 24; 65,535 is taken
pub refusals : chain_of (head Full Monomial Identity 9 9 9) [] [] [] 65536 20
    ∷ chain_of (head Full Monomial Identity 9 9 9) [] [] [] 30 65536
    ∷ chain_of (head Full Monomial Identity 9 9 9) [] [] [] 65535 65535
    ∷ []
    ≡ no_chain 10 ∷ no_chain 10 ∷ no_chain 24 ∷ []
unfolding chain_of chain_refusal unless_refused lent_walk
refusals = refl
