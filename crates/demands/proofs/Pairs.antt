-- Without a slice listed again the counts of the steps are the estimate of the split with what Q-2 moves (docs/RULES.md, "Choosing the split" and
-- "Reported counts"): the lists are the slices, so the estimate moves one multiplication just where the last list is one after another list and the
-- degree a power of two, and the steps move one wherever the last list is so.
use mathlib.Core.Path.{◌≡◌, refl, sym, ◌∙◌, ap}
use mathlib.Core.Bool.{Bool, true, false, not, cond, ◌&&◌}
use mathlib.Core.List.{List, [], ◌∷◌, map}
use Prim.Native.Nat.{ℕ, zero, suc, ◌+◌, ◌-◌, ◌≤◌, ◌<◌}
use native.Mathlib.Omega.{arith}
use borrow.Author.Tests.{ne_eqb}
use lib.Dec.{eqb, leb}
use lib.ListN.{length, length-map}
use Rattle.algebra.specs.declared.Basis.{Basis}
use Rattle.algebra.specs.declared.Parity.{Parity}
use Rattle.number.specs.Bits.{is_power_of_two}
use Rattle.needed.specs.NeededList.{needed_count}
use Rattle.counts.specs.PlainCount.{allowed_to, plain_count}
use Rattle.counts.specs.Slices.{slices_of, last_of}
use Rattle.counts.specs.Pair.{last_is_plain, one_plain, pair_of, pair_at}
use Rattle.counts.specs.declared.pair.Pair.{Pair}
use Rattle.counts.proofs.PairLaws.{plain_two}
use Rattle.lists.specs.Tree.{Tree, tree_of}
use Rattle.lists.specs.Arrange.{leaves_of, lengths_of}
use Rattle.lists.proofs.TreeFacts.{slices_are_leaves}
use Rattle.lists.proofs.Arranging.{some_leaves}
use Rattle.walk.specs.declared.plan.Step.{Step}
use Rattle.plan.specs.PlanSteps.{steps_at}
use Rattle.plan.specs.Reported.{of_kind, allowed_in}
use Rattle.plan.proofs.StepCounts.{steps_counted}
use Rattle.demands.specs.PlainStep.{lone_last}
use Rattle.demands.specs.Estimated.{moved}
use Rattle.demands.proofs.LastList.{leaves_length, fours}

-- ---- lists and slices

last_suc : (slices : List ℕ) → 0 < length slices → last_of (map suc slices) ≡ suc (last_of slices)
unfolding last_of
last_suc [] nonempty = absurd (omega arith)
last_suc (d ∷ []) nonempty = refl
last_suc (d ∷ e ∷ slices) nonempty = last_suc (e ∷ slices) (omega arith)

allowed_slices : (parity : Parity) (slices : List ℕ) → allowed_in parity (map suc slices) ≡ plain_count parity slices
unfolding allowed_in plain_count
allowed_slices parity [] = refl
allowed_slices parity (d ∷ slices) = let one : suc d - 1 ≡ d = omega arith in rw one (ap (allowed_to parity d +◌) (allowed_slices parity slices))

one_more : (n : ℕ) → eqb (suc n) 1 ≡ eqb n 0
one_more zero = refl
one_more (suc n) = ne_eqb (suc (suc n)) 1 (λ same. omega arith) ∙ sym (ne_eqb (suc n) 0 (λ same. omega arith))

two_moves : (two constant power : Bool)
    → cond {A = ℕ} (two && constant) 1 0 ≡ cond (two && (constant && power)) 1 0 + cond ((two && constant) && not power) 1 0
two_moves true true true = refl
two_moves true true false = refl
two_moves true false power = refl
two_moves false constant power = refl

-- ---- the pair

module _ (parity : Parity) (basis : Basis) (degree split : ℕ) where
  abbrev tree : Tree
  tree = tree_of false degree degree split

  abbrev lengths : List ℕ
  lengths = lengths_of tree (suc degree)

  abbrev slices : List ℕ
  slices = slices_of degree split

  abbrev steps : List Step
  steps = steps_at false parity basis degree split

  -- the counts of steps and lists, beside an estimate
  pub record Moved (estimate : Pair) : Type 0 where
    pub ct_moved : of_kind 1 steps + of_kind 3 steps + moved degree lengths ≡ estimate.ct
    pub pt_moved : allowed_in parity lengths + of_kind 4 steps ≡ estimate.pt + moved degree lengths

  leaves : leaves_of tree ≡ length slices
  leaves = leaves_length tree (suc degree) ∙ ap length (slices_are_leaves degree degree split) ∙ length-map slices suc

  allowed : allowed_in parity lengths ≡ plain_count parity slices
  allowed = ap (allowed_in parity) (slices_are_leaves degree degree split) ∙ allowed_slices parity slices

  -- the last list is one after another list where the last of two or more slices has degree 0
  lone_is : lone_last lengths ≡ (leb 2 (length slices) && eqb (last_of slices) 0)
  lone_is =
      let nonempty : 0 < length slices = omega (arith, leaves, some_leaves tree) in
      rw (slices_are_leaves degree degree split, length-map slices suc, last_suc slices nonempty, one_more (last_of slices))

  -- the steps of kind 4 are what the estimate moves, and what is moved beside it
  four_is : of_kind 4 steps ≡ cond (last_is_plain degree (length slices) (last_of slices)) 1 0 + moved degree lengths
  unfolding last_is_plain
  four_is =
      fours false parity basis degree split ∙ rw lone_is (two_moves (leb 2 (length slices)) (eqb (last_of slices) 0) (is_power_of_two degree))

  abbrev whole : Pair
  whole = record { ct = length slices - 1 + needed_count parity basis degree split; pt = plain_count parity slices }

  by_test : (t : Bool) → last_is_plain degree (length slices) (last_of slices) ≡ t → Moved (cond t (one_plain whole) whole)
  by_test true is =
      let told = steps_counted false parity basis degree split in
      let two : 2 ≤ length slices = plain_two degree (length slices) (last_of slices) is in
      let four : of_kind 4 steps ≡ 1 + moved degree lengths = four_is ∙ rw is in
      record { ct_moved = omega (arith, told.encrypted, leaves); pt_moved = omega (arith, allowed) }
  by_test false is =
      let told = steps_counted false parity basis degree split in
      let nonempty : 0 < length slices = omega (arith, leaves, some_leaves tree) in
      let four : of_kind 4 steps ≡ 0 + moved degree lengths = four_is ∙ rw is in
      record { ct_moved = omega (arith, told.encrypted, leaves); pt_moved = omega (arith, allowed) }

  pub pair_moved : Moved (pair_at parity basis degree split)
  unfolding pair_at pair_of
  pair_moved = by_test (last_is_plain degree (length slices) (last_of slices)) refl
