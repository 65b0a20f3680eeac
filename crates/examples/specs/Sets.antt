-- Worked examples of sets (request Q-10), proved by computing: two curves that share a power, two curves that are folded, and refusals of both calls.
use Rattle.std.specs.Prelude.{◌≡◌, Bool, true, false, List, [], ◌∷◌, map, Float, ℤ, pos, length, ℕ}
use Rattle.std.proofs.Math.Path.{refl}
use Rattle.algebra.specs.Allowed.{allows}
use Rattle.algebra.specs.Cut.{cut_at}
use Rattle.algebra.specs.Fold.{every_second, fold}
use Rattle.algebra.specs.Transform.{transform_of}
use Rattle.algebra.specs.declared.Basis.{Basis}
use Rattle.algebra.specs.declared.Basis.TheVariants.{Monomial, Chebyshev}
use Rattle.algebra.specs.declared.Parity.{Parity}
use Rattle.algebra.specs.declared.Parity.TheVariants.{Full, Odd}
use Rattle.number.specs.Bits.{digits, bit_len, top_power, power_below, is_power_of_two}
use Rattle.number.specs.Parity.{has_parity_from}
use Rattle.number.specs.Refusal.{unless_refused}
use Rattle.number.specs.Split.{parts_of}
use Rattle.needed.specs.NeededList.{is_target, is_part, is_part_of_one, listed_down, needed_list}
use Rattle.counts.specs.PlainCount.{allowed_to}
use Rattle.counts.specs.MinDepth.{a_exceeds_b, min_depth}
use Rattle.counts.specs.Choice.{split_for}
use Rattle.counts.specs.declared.choice.SplitStrategy.TheVariants.{MinDepth}
use Rattle.lists.specs.Tree.{listed_again, tree_in, tree_of}
use Rattle.lists.specs.Arrange.{arranged, leaves_of, lengths_of, ends_of}
use Rattle.lists.specs.Lists.{joined}
use Rattle.walk.specs.declared.plan.Head.{Head}
use Rattle.plan.specs.PlanSteps.{make_step, load_step, combine_step, last_length, last_plain, combine_kind, tree_steps, list_steps}
use Rattle.plan.specs.Reported.{of_kind, allowed_in}
use Rattle.plan.specs.PlanHead.{head_of}
use Rattle.plan.specs.PlanSizes.{no_sizes}
use Rattle.sets.specs.Members.{Curve, curves_in, total, alike, alike_to, all_alike}
use Rattle.sets.specs.Union.{inserted, merged, union_of}
use Rattle.sets.specs.Own.{own_powers, own_steps, own_boundaries, own_lengths}
use Rattle.sets.specs.SetPlan.{heads_of, set_coefficients, set_powers, common_steps, member_steps, set_steps, set_boundaries, set_ct, set_pt}
use Rattle.sets.specs.SetCall.{set_refusal}
use Rattle.sets.specs.SetSizes.{set_sizes_call}
use Rattle.sets.specs.declared.member.Member.{Member}

-- a member with MinDepth and its coefficients, on an interval
abbrev member_of : Parity → Basis → (folded : Bool) → (count : ℕ) → (a b : Float) → Member
member_of parity basis folded count a b =
    record { strategy = MinDepth; parity = parity; basis = basis; fold = folded; a = a; b = b; count = count }

abbrev curve_of : Parity → Basis → (folded : Bool) → List ℤ → (a b : Float) → Curve
curve_of parity basis folded c a b = record { member = member_of parity basis folded (length c) a b; coefficients = c }

-- whatever the intervals are
module _ (a b : Float) where
  -- ---- 1 + 2x + 3x² + 4x³ + 5x⁴, which needs powers 2, 3 and 4, with 1 + 2x + 3x² + 4x³, which needs power 2

  abbrev two : List Curve
  two = curve_of Full Monomial false (map pos (1 ∷ 2 ∷ 3 ∷ 4 ∷ 5 ∷ [])) a b ∷ curve_of Full Monomial false (map pos (1 ∷ 2 ∷ 3 ∷ 4 ∷ [])) a b ∷ []

  -- powers 2, 3, 4 once; then the loads and combines of each, whose lists are numbered from 0
  pub steps_of_two : set_steps (heads_of two)
      ≡ make_step 2
      ∷ make_step 3
      ∷ make_step 4
      ∷ load_step 0
      ∷ load_step 1
      ∷ combine_step 4 4
      ∷ load_step 0
      ∷ load_step 1
      ∷ combine_step 3 2
      ∷ []
  unfolding head_of set_steps common_steps member_steps set_powers union_of merged inserted joined own_powers own_steps list_steps tree_steps combine_kind
      last_plain last_length leaves_of tree_of tree_in listed_again split_for min_depth a_exceeds_b needed_list listed_down is_part_of_one is_part is_target
      allows top_power parts_of power_below is_power_of_two bit_len digits
  steps_of_two = refl

  -- the lists [1, 2, 3, 4], [5] of the one and [1, 2], [3, 4] of the other
  pub coefficients_of_two : set_coefficients two ≡ map pos (1 ∷ 2 ∷ 3 ∷ 4 ∷ 5 ∷ 1 ∷ 2 ∷ 3 ∷ 4 ∷ [])
  unfolding set_coefficients joined arranged cut_at tree_of tree_in listed_again split_for min_depth a_exceeds_b top_power bit_len digits
  coefficients_of_two = refl

  -- with their boundaries, from 0 for each member
  pub boundaries_of_two : set_boundaries (heads_of two) ≡ 4 ∷ 5 ∷ 2 ∷ 4 ∷ []
  unfolding head_of set_boundaries own_boundaries ends_of joined tree_of tree_in listed_again split_for min_depth a_exceeds_b top_power bit_len digits
  boundaries_of_two = refl

  -- three power steps and a combine of kind 3; three powers in the lists of the one and its combine of kind 4, and two powers in those of the other
  pub counts_of_two : (set_ct (heads_of two) ≡ 4) × (set_pt (heads_of two) ≡ 6)
  unfolding head_of set_steps common_steps member_steps set_powers union_of merged inserted joined own_powers own_steps list_steps tree_steps combine_kind
      last_plain last_length leaves_of tree_of tree_in listed_again split_for min_depth a_exceeds_b needed_list listed_down is_part_of_one is_part is_target
      allows top_power parts_of power_below is_power_of_two bit_len digits set_ct set_pt of_kind allowed_in allowed_to own_lengths lengths_of total
  counts_of_two = (refl, refl)

  -- the heads count three steps each, without power steps
  pub steps_in_heads : map (λ (head : Head). head.steps) (heads_of two) ≡ 3 ∷ 3 ∷ []
  unfolding head_of own_steps list_steps tree_steps combine_kind last_plain last_length leaves_of tree_of tree_in listed_again split_for min_depth a_exceeds_b
      top_power bit_len digits
  steps_in_heads = refl

  -- ---- x + 2x³ with 3x + 4x³, folded: x · (1 + 2y) and x · (3 + 4y) with y = x²

  abbrev odd : List Curve
  odd = curve_of Odd Monomial true (map pos (0 ∷ 1 ∷ 0 ∷ 2 ∷ [])) a b ∷ curve_of Odd Monomial true (map pos (0 ∷ 3 ∷ 0 ∷ 4 ∷ [])) a b ∷ []

  -- y is made once, and each member's value is multiplied by x: three multiplications, where two plans alone report two each
  pub ct_of_odd : set_ct (heads_of odd) ≡ 3
  unfolding head_of set_steps common_steps member_steps set_powers union_of merged inserted joined own_powers own_steps list_steps tree_steps combine_kind
      last_plain last_length leaves_of tree_of tree_in listed_again split_for min_depth a_exceeds_b needed_list listed_down is_part_of_one is_part is_target
      allows top_power parts_of power_below is_power_of_two bit_len digits set_ct of_kind fold every_second transform_of
  ct_of_odd = refl

-- ---- refusals

module _ (a b : Float) (c out : List ℤ) (bounds steps : List ℕ) where
  -- no member, whatever the array holds; and more than 16
  pub no_member_lem : (members : List Member) → set_refusal (record { count = 0; members = members }) c out bounds steps ≡ 35
  unfolding set_refusal
  no_member_lem members = refl

  pub seventeen : (members : List Member) → set_refusal (record { count = 17; members = members }) c out bounds steps ≡ 35
  unfolding set_refusal
  seventeen members = refl

-- lengths 2 and 2 pass a slice of three; and with a slice of four the bases differ
module _ (a b : Float) (out : List ℤ) (bounds steps : List ℕ) where
  abbrev pair : List Member
  pair = member_of Full Monomial false 2 a b ∷ member_of Full Chebyshev false 2 a b ∷ []

  pub past_slice : set_refusal (record { count = 2; members = pair }) (map pos (1 ∷ 2 ∷ 3 ∷ [])) out bounds steps ≡ 35
  unfolding set_refusal total
  past_slice = refl

  pub bases_differ : set_refusal (record { count = 2; members = pair }) (map pos (1 ∷ 2 ∷ 3 ∷ 4 ∷ [])) out bounds steps ≡ 36
  unfolding set_refusal total all_alike alike_to alike
  bases_differ = refl

  -- ---- the sizes before the curves are there

  -- 1 + x, handed in as Odd, and a constant
  abbrev wrong : List Member
  wrong = member_of Odd Monomial false 2 a b ∷ member_of Odd Monomial false 1 a b ∷ []

  -- the sizes refuse the second member's degree; the call that plans the set comes upon the first member's coefficients before it
  pub sizes_refuse : set_sizes_call (record { count = 2; members = wrong }) ≡ no_sizes 1
  unfolding set_sizes_call unless_refused joined all_alike alike_to alike
  sizes_refuse = refl

  pub call_refuses : set_refusal (record { count = 2; members = wrong }) (map pos (1 ∷ 1 ∷ 5 ∷ [])) out bounds steps ≡ 4
  unfolding set_refusal total all_alike alike_to alike joined curves_in has_parity_from allows
  call_refuses = refl
