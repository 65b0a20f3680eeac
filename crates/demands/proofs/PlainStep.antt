-- Which combine is plain (docs/RULES.md, "Steps"). There is one step of kind 4 if the last list is one after another list, and none otherwise; behind
-- the power steps it stands where proofs/LastList has it. A power of two from the base on is cut at itself, so that its last list is one. A degree
-- below the base is one list, since its own split is never listed again at a smaller one.
use mathlib.Core.Path.{◌≡◌, refl, sym, ◌∙◌, ap}
use mathlib.Core.Bool.{Bool, true, false, cond, ◌&&◌, and-false}
use mathlib.Core.List.{List, [], ◌∷◌, ◌++◌, map, append_assoc}
use Prim.Native.Nat.{ℕ, suc, ◌+◌, ◌-◌, ◌^◌, ◌≤◌, ◌<◌}
use native.Mathlib.Omega.{arith}
use borrow.Author.Tests.{le-ltb, leb-true, eqb-true}
use lib.Dec.{ltb, leb}
use lib.ListN.{length}
use lib.Pow.{pow_pos}
use Rattle.algebra.specs.declared.Basis.{Basis}
use Rattle.algebra.specs.declared.Parity.{Parity}
use Rattle.number.specs.Bits.{bit_len, top_power, is_power_of_two}
use Rattle.number.proofs.Bits.{power_is}
use Rattle.number.proofs.BothHold.{and_left, and_right}
use Rattle.needed.specs.NeededList.{needed_list}
use Rattle.counts.specs.Slices.{last_of}
use Rattle.counts.specs.Choice.{split_for}
use Rattle.counts.specs.MinDepth.{min_depth}
use Rattle.counts.specs.declared.choice.SplitStrategy.{SplitStrategy}
use Rattle.counts.specs.declared.choice.SplitStrategy.TheVariants.{MinDepth, MinMult}
use Rattle.lists.specs.Tree.{Tree, leaf, cut, listed_again, tree_of, relists, plan_tree}
use Rattle.lists.specs.TreeFacts.{Sound}
use Rattle.lists.specs.Arrange.{leaves_of, lengths_of}
use Rattle.lists.proofs.TreeFacts.{trees_sound}
use Rattle.lists.proofs.TreeRule.{tree_leaf, tree_cut}
use Rattle.walk.specs.declared.plan.Step.{Step}
use Rattle.plan.specs.PlanSteps.{make_step, load_step, combine_step, power_steps, last_length, last_plain, combine_kind, tree_steps, list_steps, steps_at}
use Rattle.plan.specs.PlanSteps.{plan_steps}
use Rattle.plan.specs.PlanHead.{head_of}
use Rattle.plan.specs.PlanCall.{planned_parity, planned_degree}
use Rattle.plan.specs.Reported.{of_kind}
use Rattle.plan.proofs.StepCounts.{kinds_append}
use Rattle.demands.specs.PlainStep.{lone_last, LoneCombined, PlainStep, PlansPlain}
use Rattle.demands.proofs.LastList.{leaves_length, lone_last_lem, fours, LoneEnd, lone_in}
use Rattle.demands.proofs.Accepts.{plannable}
use Rattle.demands.proofs.Counted.{lent_lengths}
use Rattle.demands.proofs.Right.{from_one, lent_steps_lem, plans_right}

-- ---- the tree

-- a constant is one list
constant_leaf : (leading : Bool) (whole split : ℕ) → tree_of leading whole 0 split ≡ leaf
unfolding listed_again
constant_leaf true whole split = tree_leaf true whole 0 split (pow_pos split) refl
constant_leaf false whole split = tree_leaf false whole 0 split (pow_pos split) refl

-- a power of two is cut at itself
power_cut : (leading : Bool) (degree split : ℕ) → is_power_of_two degree ≡ true → 2 ^ split ≤ degree
    → tree_of leading degree degree split ≡ cut degree (tree_of false degree (degree - 1) split) leaf
power_cut leading degree split power above =
    let top : top_power degree ≡ degree = sym (power_is degree power) in
    let none_left : degree - degree ≡ 0 = omega arith in
    tree_cut leading degree degree split above
    ∙ rw (top, none_left) (ap (cut degree (tree_of false degree (degree - 1) split)) (constant_leaf leading degree split))

-- a degree below its own base is one list
below_leaf : (strategy : SplitStrategy) (parity : Parity) (basis : Basis) (degree : ℕ) → degree < 2 ^ split_for strategy parity basis degree
    → tree_of (relists strategy) degree degree (split_for strategy parity basis degree) ≡ leaf
unfolding split_for listed_again
below_leaf MinDepth parity basis degree below =
    tree_leaf true degree degree (min_depth (bit_len degree)) below
    (rw (le-ltb (min_depth (bit_len degree)) (min_depth (bit_len degree)) (omega arith)) (neither (ltb 0 degree) (ltb 1 (min_depth (bit_len degree)))))
  where
    neither : (a b : Bool) → (a && (b && false)) ≡ false
    neither true true = refl
    neither true false = refl
    neither false b = refl
below_leaf MinMult parity basis degree below = tree_leaf false degree degree _ below refl

-- ---- the steps

at_most_one : (test : Bool) → cond test 1 0 ≤ 1
at_most_one true = omega arith
at_most_one false = omega arith

module _ (leading : Bool) (parity : Parity) (basis : Basis) (degree split : ℕ) where
  abbrev tree : Tree
  tree = tree_of leading degree degree split

  abbrev lengths : List ℕ
  lengths = lengths_of tree (suc degree)

  abbrev all : List Step
  all = steps_at leading parity basis degree split

  plain_ones : of_kind 4 all ≡ cond (lone_last lengths) 1 0
  plain_ones = fours leading parity basis degree split

  -- ---- a power of two

  abbrev low : Tree
  low = tree_of false degree (degree - 1) split

  abbrev before : List Step
  before = map make_step (needed_list parity basis degree split) ++ (tree_steps false low 0 ++ (load_step (0 + leaves_of low) ∷ []))

  module _ (power : is_power_of_two degree ≡ true) (above : 2 ^ split ≤ degree) where
    plain : last_plain degree tree ≡ true
    unfolding last_plain last_length
    plain = let one : suc degree - degree ≡ 1 = omega arith in rw (power_cut leading degree split power above, one)

    steps_end : all ≡ before ++ (combine_step 4 degree ∷ [])
    unfolding steps_at power_steps list_steps tree_steps combine_kind leaves_of
    steps_end =
        let made = map make_step (needed_list parity basis degree split) in
        let first = tree_steps false low 0 in
        let load : List Step = load_step (0 + leaves_of low) ∷ [] in
        let last : List Step = combine_step 4 degree ∷ [] in
        rw (plain, power_cut leading degree split power above)
        (sym (append_assoc made (first ++ load) last ∙ ap (made ++◌) (append_assoc first load last)))

    -- there is at most one
    none_before : of_kind 4 before ≡ 0
    unfolding of_kind
    none_before =
        let counted = plain_ones in
        let most = at_most_one (lone_last lengths) in
        let parts = ap (of_kind 4) steps_end ∙ kinds_append 4 before (combine_step 4 degree ∷ []) in
        omega arith

  -- ---- one list

  leaf_plain : tree ≡ leaf → of_kind 4 all ≡ 0
  unfolding lengths_of
  leaf_plain one_list = plain_ones ∙ rw one_list

  -- ---- a last list of one

  -- the power steps stand ahead of the loads and combines
  combined : LoneEnd tree (suc degree) 0 → last_plain degree tree ≡ true → lone_last lengths ≡ true → LoneCombined degree (length lengths) all
  unfolding steps_at power_steps list_steps of_kind
  combined end plain is =
      let made = map make_step (needed_list parity basis degree split) in
      let last : List Step = load_step (length lengths - 1) ∷ combine_step 4 (2 ^ end.exponent) ∷ end.after in
      let lists : 0 + leaves_of tree ≡ length lengths = omega (arith, leaves_length tree (suc degree)) in
      let steps_are : all ≡ (made ++ end.before) ++ last =
      rw (plain, end.steps_are, lists) (sym (append_assoc made end.before last)) in
      let counted = ap (of_kind 4) steps_are ∙ kinds_append 4 (made ++ end.before) last in
      let one_in_all : of_kind 4 all ≡ 1 = plain_ones ∙ rw is in
      record {
        before = made ++ end.before;
        after = end.after;
        exponent = end.exponent;
        steps_are = steps_are;
        none_before = omega arith;
        none_after = omega arith;
        odd = end.odd;
        degree_is = omega (arith, end.number_is);
      }

  lone_combined : Sound (2 ^ split) tree (suc degree) → lone_last lengths ≡ true → LoneCombined degree (length lengths) all
  unfolding last_plain
  lone_combined sound is =
      let several = leb 2 (leaves_of tree) in
      let constant = last_plain degree tree in
      let holds : (several && constant) ≡ true = sym (lone_last_lem degree tree) ∙ is in
      let plain : constant ≡ true = and_right several constant holds in
      let two : 2 ≤ leaves_of tree = leb-true 2 (leaves_of tree) (and_left several constant holds) in
      let one : last_length tree (suc degree) ≡ 1 = eqb-true (last_length tree (suc degree)) 1 plain in
      combined (lone_in (2 ^ split) tree (suc degree) 0 sound two one) plain is

  others_none : lone_last lengths ≡ false → of_kind 4 all ≡ 0
  others_none is = plain_ones ∙ rw is

  two_none : last_of lengths ≡ 2 → of_kind 4 all ≡ 0
  two_none two = others_none (rw two (and-false (leb 2 (length lengths))))

plain_step : (strategy : SplitStrategy) (parity : Parity) (basis : Basis) (degree : ℕ)
    → Sound (2 ^ split_for strategy parity basis degree) (plan_tree strategy parity basis degree) (suc degree)
    → PlainStep degree (2 ^ split_for strategy parity basis degree) (lengths_of (plan_tree strategy parity basis degree) (suc degree))
    (plan_steps strategy parity basis degree)
plain_step strategy parity basis degree sound =
    let leading = relists strategy in
    let split = split_for strategy parity basis degree in
    record {
      lone = lone_combined leading parity basis degree split sound;
      others = others_none leading parity basis degree split;
      two = two_none leading parity basis degree split;
      at_power = λ power above. (
        before leading parity basis degree split,
        (steps_end leading parity basis degree split power above, none_before leading parity basis degree split power above),
      );
      below_base = λ below. leaf_plain leading parity basis degree split (below_leaf strategy parity basis degree below);
    }

pub plans_plain : PlansPlain
unfolding head_of
plans_plain strategy parity basis folded c a b out bounds steps r out' bounds' steps' brings call =
    let right = plans_right strategy parity basis folded c a b out bounds steps r out' bounds' steps' brings call in
    let accepted = brings.accepted in
    let degree = planned_degree strategy parity basis folded c in
    let split = split_for strategy (planned_parity folded parity) basis degree in
    let sound = trees_sound (relists strategy) degree degree split (plannable folded parity basis c accepted).few
    (from_one strategy parity basis folded c accepted) in
    rw (
      right.answer,
      lent_steps_lem strategy parity basis folded c a b out' bounds' steps' right.stored,
      lent_lengths strategy parity basis folded c a b out' bounds' steps' accepted right.stored,
    ) (plain_step strategy (planned_parity folded parity) basis degree sound)
