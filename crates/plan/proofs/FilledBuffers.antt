-- What an accepted call writes, over plain values: power steps and behind them those of the tree; and the planned coefficients, listed in place at the
-- front of their buffer.
use mathlib.Core.Path.{◌≡◌, ap, ap₂, sym, ◌∙◌}
use mathlib.Core.Bool.{Bool}
use mathlib.Core.List.{List, ◌++◌}
use Prim.Native.Nat.{ℕ, ◌+◌, ◌-◌, ◌*◌, ◌≤◌}
use native.Mathlib.Omega.{arith}
use lib.IntN.{ℤ}
use lib.ListN.{length, take, drop, length-map}
use lib.Seq.{sets, take_at, drop_at}
use Rattle.algebra.specs.Operations.{whole_ops}
use Rattle.algebra.specs.declared.Basis.{Basis}
use Rattle.algebra.specs.declared.Parity.{Parity}
use Rattle.number.specs.Tests.{degree_of}
use Rattle.number.specs.inside.Room.{SumByLengthTo53}
use Rattle.needed.specs.NeededList.{needed_list, needed_count}
use Rattle.needed.specs.inside.Planned.{Planned}
use Rattle.counts.specs.Choice.{split_for}
use Rattle.counts.specs.declared.choice.SplitStrategy.{SplitStrategy}
use Rattle.lists.specs.Tree.{Tree, tree_of, relists, plan_tree}
use Rattle.lists.specs.Arrange.{leaves_of}
use Rattle.lists.specs.inside.Listing.{Listable, InPlace}
use Rattle.lists.proofs.Arranging.{some_leaves, leaves_most, sets_append}
use Rattle.lists.proofs.ListCall.{front}
use Rattle.walk.specs.WalksHeld.{flat}
use Rattle.walk.proofs.FlatSteps.{flat_append, flat_length}
use Rattle.plan.specs.PlanSteps.{make_step, power_steps, tree_steps, list_steps, last_plain, steps_at}
use Rattle.plan.specs.PlanCall.{planned_coefficients, planned_parity, coefficients_for, numbers_for}
use Rattle.plan.specs.inside.Writing.{PowersPut, TreeFits, TreePut, StepsFit}
use Rattle.plan.specs.inside.Filling.{ListsFit, ListsPut, PlanFits}
use Rattle.plan.specs.declared.outline.Outline.{Outline}
use Rattle.plan.specs.declared.tree.Place.{Place}
use Rattle.plan.proofs.StepCounts.{steps_counted}
use Rattle.plan.proofs.HeadCounts.{planned_at}
use Rattle.plan.proofs.PlanTests.{planned_to_53}

-- ---- the steps

-- there is a power step for each needed power
powers_length : (parity : Parity) (basis : Basis) (degree split : ℕ)
    → length (flat (power_steps parity basis degree split)) ≡ 4 * needed_count parity basis degree split
unfolding power_steps needed_count
powers_length parity basis degree split =
    let size = flat_length (power_steps parity basis degree split) in
    let each = length-map (needed_list parity basis degree split) make_step in
    omega arith

module _ {leading plain : Bool} {parity : Parity} {basis : Basis} {degree split : ℕ} {b : List ℕ}
    (fits : StepsFit leading plain parity basis degree split b) where
  pub powers_fit : 4 * needed_count parity basis degree split ≤ length b
  powers_fit =
      let counted = steps_counted leading parity basis degree split in
      let one = some_leaves (tree_of leading degree degree split) in
      omega (arith, counted.steps, fits.places)

  module _ {b₁ : List ℕ} {step : ℕ} (powers : PowersPut parity basis degree split b step b₁) (kept : length b₁ ≡ length b) where
    pub tree_fits : TreeFits leading degree degree split 0 step b₁
    tree_fits =
        let counted = steps_counted leading parity basis degree split in
        let most = leaves_most leading degree degree split in
        let known = fits.planned in
        record {
          ranges = record {
            positive = omega (arith, known.degrees.from);
            whole_limit = known.degrees.to;
            part_limit = known.degrees.to;
            split_limit = known.splits.to;
          };
          list_limit = omega (arith, known.degrees.to);
          places = omega (arith, counted.steps, fits.places, powers.next);
        }

    pub all_steps : {b₂ : List ℕ} {r : Place} → TreePut plain (tree_of leading degree degree split) 0 step b₁ r b₂
        → b₂ ≡ sets b 0 (flat (steps_at leading parity basis degree split))
    unfolding steps_at list_steps
    all_steps put =
        let tree = tree_of leading degree degree split in
        let makes = power_steps parity basis degree split in
        let others = tree_steps (last_plain degree tree) tree 0 in
        let place : 4 * step ≡ 0 + length (flat makes) = omega (arith, powers_length parity basis degree split, powers.next) in
        put.numbers
        ∙ ap₂ (λ (l : List ℕ) (p : Bool). sets l (4 * step) (flat (tree_steps p tree 0))) powers.numbers fits.plain_is
        ∙ sets_append b (flat makes) (flat others) 0 (4 * step) place
        ∙ ap (sets b 0) (sym (flat_append makes others))

-- ---- all that a plan is

module _ {strategy : SplitStrategy} {parity : Parity} {basis : Basis} {folded : Bool} {count : ℕ} {outline : Outline}
    {c out : List ℤ} {bounds steps : List ℕ} (fits : PlanFits strategy parity basis folded count outline c out bounds steps) where
  outline_split : outline.split ≡ split_for strategy (planned_parity folded parity) basis (count - 1)
  outline_split = ap (λ (o : Outline). o.split) fits.outline_is

  outline_plain : outline.plain ≡ last_plain (count - 1) (plan_tree strategy (planned_parity folded parity) basis (count - 1))
  outline_plain = ap (λ (o : Outline). o.plain) fits.outline_is

  outline_tree : {leading : Bool} → leading ≡ relists strategy
      → tree_of leading (count - 1) (count - 1) outline.split ≡ plan_tree strategy (planned_parity folded parity) basis (count - 1)
  outline_tree leading_is = ap₂ (λ (s : ℕ) (l : Bool). tree_of l (count - 1) (count - 1) s) outline_split leading_is

  pub lists_fit : ListsFit strategy parity basis folded count outline.split 0 c out bounds
  lists_fit = record {
    coefficients_fit = fits.coefficients_fit;
    input_limit = fits.input_limit;
    count_is = fits.count_is;
    split_is = outline_split;
    degrees = fits.degrees;
    room = fits.room;
    boundary_room = omega (arith, fits.boundary_room);
  }

  pub steps_fit : {leading : Bool} {planned : Parity} → leading ≡ relists strategy → planned ≡ planned_parity folded parity
      → StepsFit leading outline.plain planned basis (count - 1) outline.split steps
  steps_fit leading_is planned_is = record {
    planned = planned_at strategy (planned_parity folded parity) basis (count - 1) fits.degrees outline_split;
    plain_is = outline_plain ∙ ap (last_plain (count - 1)) (sym (outline_tree leading_is));
    places = rw (planned_is, leading_is, outline_split) fits.step_room_lem;
  }

  pub numbers_are : {leading : Bool} {planned : Parity} {steps' : List ℕ} → leading ≡ relists strategy → planned ≡ planned_parity folded parity
      → steps' ≡ sets steps 0 (flat (steps_at leading planned basis (count - 1) outline.split))
      → steps' ≡ sets steps 0 (numbers_for strategy parity basis folded c)
  numbers_are leading_is planned_is is = is ∙ rw (outline_split, leading_is, planned_is, fits.count_is)

-- ---- coefficients and boundaries

module _ {strategy : SplitStrategy} {parity : Parity} {basis : Basis} {folded : Bool} {count split list : ℕ} {c out : List ℤ} {bounds : List ℕ}
    (fits : ListsFit strategy parity basis folded count split list c out bounds) where
  abbrev q : List ℤ
  q = planned_coefficients folded parity basis c

  abbrev whole_tree : Tree
  whole_tree = plan_tree strategy (planned_parity folded parity) basis (degree_of q)

  ranges : Planned (count - 1) split
  ranges = planned_at strategy (planned_parity folded parity) basis (count - 1) fits.degrees fits.split_is

  tree_is : {leading : Bool} → leading ≡ relists strategy
      → tree_of leading (count - 1) (count - 1) split ≡ plan_tree strategy (planned_parity folded parity) basis (count - 1)
  tree_is leading_is = ap₂ (λ (s : ℕ) (l : Bool). tree_of l (count - 1) (count - 1) s) fits.split_is leading_is

  module _ {copied : List ℤ} {leading : Bool} (copy : copied ≡ sets out 0 q) (leading_is : leading ≡ relists strategy) where
    copy_is : copied ≡ q ++ drop count out
    copy_is = copy ∙ front q out (omega (arith, fits.room, fits.count_is)) ∙ ap (λ (k : ℕ). q ++ drop k out) (sym fits.count_is)

    pub part_is : take count copied ≡ q
    part_is = ap (take count) copy_is ∙ take_at q (drop count out) count (sym fits.count_is)

    rest_is : drop count copied ≡ drop count out
    rest_is = ap (drop count) copy_is ∙ drop_at q (drop count out) count (sym fits.count_is)

    tree_here : tree_of leading (count - 1) (degree_of q) split ≡ whole_tree
    tree_here =
        ap (λ (n : ℕ). tree_of leading (count - 1) (n - 1) split) (sym fits.count_is)
        ∙ tree_is leading_is
        ∙ ap (λ (n : ℕ). plan_tree strategy (planned_parity folded parity) basis (n - 1)) fits.count_is

    pub listable : Listable leading (count - 1) split 0 list (take count copied) bounds
    listable =
        let range = ranges in
        let size = fits.count_is in
        let leaves : leaves_of (tree_of leading (count - 1) (degree_of q) split)
        ≡ leaves_of (plan_tree strategy (planned_parity folded parity) basis (count - 1)) =
        ap (λ (n : ℕ). leaves_of (tree_of leading (count - 1) (n - 1) split)) (sym size) ∙ ap leaves_of (tree_is leading_is) in
        rw part_is (record {
          nonempty = omega (arith, range.degrees.from);
          ends_fit = omega (arith, range.degrees.from, range.degrees.to);
          ranges = record {
            positive = omega (arith, range.degrees.from);
            whole_limit = range.degrees.to;
            part_limit = omega (arith, range.degrees.to);
            split_limit = range.splits.to;
          };
          boundary_room = omega (arith, leaves, fits.boundary_room);
        })

    pub sum_fits : SumByLengthTo53 (take count copied)
    sum_fits = rw part_is (planned_to_53 folded parity basis c fits.coefficients_fit.sum_limit_lem fits.input_limit)

    pub lists_put : {z : List ℤ} {bounds' : List ℕ} {r : ℕ} → length z ≡ length (take count copied)
        → InPlace whole_ops basis (tree_of leading (count - 1) (degree_of (take count copied)) split) 0 list (take count copied) bounds r z bounds'
        → ListsPut strategy parity basis folded list c out bounds (z ++ drop count copied) bounds'
    lists_put {z} size placed =
        let same : length z ≡ count = size ∙ ap length part_is ∙ sym fits.count_is in
        let arranges : z ≡ coefficients_for strategy parity basis folded c = rw (part_is, tree_here) at placed.coefficients in
        record {
          coefficients =
              ap (z ++◌) (rest_is ∙ ap (λ (k : ℕ). drop k out) (sym same))
              ∙ sym (front z out (omega (arith, same, fits.room)))
              ∙ ap (sets out 0) arranges;
          boundaries = rw (part_is, tree_here) at placed.boundaries;
          size = sym (ap length arranges) ∙ size ∙ ap length part_is;
        }
