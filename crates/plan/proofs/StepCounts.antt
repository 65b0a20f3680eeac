-- The steps of a plan, counted by kind: a power step for each needed power, a load for each list, and one combine fewer, one of them of kind 4
-- where the last list is plain and not the only one.
use mathlib.Core.Path.{◌≡◌, refl, ◌∙◌, ap, ap₂}
use mathlib.Core.Bool.{Bool, true, false, cond, ◌&&◌}
use mathlib.Core.List.{List, [], ◌∷◌, ◌++◌, map}
use Prim.Native.Nat.{ℕ, ◌+◌, ◌≤◌, ◌<◌}
use native.Mathlib.Omega.{arith}
use native.Mathlib.Decide.{ℕ_discrete}
use native.Mathlib.Nat.{zero-add}
use borrow.Author.Tests.{le-leb, ne_eqb}
use lib.Dec.{eqb, leb}
use lib.ListN.{length, length-append, length-map}
use Rattle.algebra.specs.declared.Basis.{Basis}
use Rattle.algebra.specs.declared.Parity.{Parity}
use Rattle.needed.specs.NeededList.{needed_list, needed_count}
use Rattle.lists.specs.Tree.{Tree, leaf, cut, tree_of}
use Rattle.lists.specs.Arrange.{leaves_of}
use Rattle.lists.proofs.Arranging.{some_leaves}
use Rattle.walk.specs.declared.plan.Step.{Step}
use Rattle.plan.specs.PlanSteps.{make_step, combine_step, combine_kind, power_steps, tree_steps, list_steps, last_plain, steps_at}
use Rattle.plan.specs.Reported.{of_kind}

pub kinds_append : (kind : ℕ) (xs ys : List Step) → of_kind kind (xs ++ ys) ≡ of_kind kind xs + of_kind kind ys
unfolding of_kind
kinds_append kind [] ys = omega arith
kinds_append kind (x ∷ xs) ys = let rest = kinds_append kind xs ys in omega arith

-- ---- the power steps

pub record Makes (n : ℕ) (steps : List Step) : Type 0 where
  pub ones : of_kind 1 steps ≡ n
  pub threes : of_kind 3 steps ≡ 0
  pub fours : of_kind 4 steps ≡ 0

pub makes : (ns : List ℕ) → Makes (length ns) (map make_step ns)
unfolding of_kind
makes [] = record { ones = refl; threes = refl; fours = refl }
makes (n ∷ ns) = let rest = makes ns in record { ones = omega arith; threes = omega arith; fours = omega arith }

-- ---- the loads and combines of a tree

pub record Combines (plain : Bool) (leaves : ℕ) (steps : List Step) : Type 0 where
  pub ones : of_kind 1 steps ≡ 0
  pub combines : of_kind 3 steps + of_kind 4 steps + 1 ≡ leaves
  pub fours : of_kind 4 steps ≡ cond (plain && leb 2 leaves) 1 0

three_parts : (kind : ℕ) (low high last : List Step) → of_kind kind (low ++ (high ++ last)) ≡ of_kind kind low + (of_kind kind high + of_kind kind last)
three_parts kind low high last = kinds_append kind low (high ++ last) ∙ ap (of_kind kind low +◌) (kinds_append kind high last)

-- a combine whose high side has n lists
fours_more : (plain : Bool) (n : ℕ) → 0 < n
    → cond {A = ℕ} (plain && leb 2 n) 1 0 + (cond {A = ℕ} (eqb (cond (plain && eqb n 1) 4 3) 4) 1 0 + 0) ≡ cond (plain && true) 1 0
fours_more false n positive = refl
fours_more true n positive = by_count (ℕ_discrete n 1)
  where
    by_count : Dec (n ≡ 1) → cond {A = ℕ} (leb 2 n) 1 0 + (cond {A = ℕ} (eqb (cond (eqb n 1) 4 3) 4) 1 0 + 0) ≡ 1
    by_count (yes one) = rw one
    by_count (no more) = let two : 2 ≤ n = omega arith in rw (le-leb 2 n two, ne_eqb n 1 more)

one_of : (test : Bool) → (cond {A = ℕ} (eqb (cond test 4 3) 3) 1 0 + 0) + (cond {A = ℕ} (eqb (cond test 4 3) 4) 1 0 + 0) ≡ 1
one_of true = refl
one_of false = refl

no_one : (test : Bool) → cond {A = ℕ} (eqb (cond test 4 3) 1) 1 0 + 0 ≡ 0
no_one true = refl
no_one false = refl

no_four : (plain : Bool) → ◌≡◌ {A = ℕ} 0 (cond (plain && false) 1 0)
no_four true = refl
no_four false = refl

pub combines : (plain : Bool) (tree : Tree) (i : ℕ) → Combines plain (leaves_of tree) (tree_steps plain tree i)
unfolding tree_steps leaves_of of_kind combine_kind
combines plain leaf i = record { ones = refl; combines = refl; fours = no_four plain }
combines plain (cut p low high) i =
    let below = combines false low i in
    let above = combines plain high (i + leaves_of low) in
    let last : Step = combine_step (combine_kind plain high) p in
    let one = three_parts 1 (tree_steps false low i) (tree_steps plain high (i + leaves_of low)) (last ∷ []) in
    let three = three_parts 3 (tree_steps false low i) (tree_steps plain high (i + leaves_of low)) (last ∷ []) in
    let four = three_parts 4 (tree_steps false low i) (tree_steps plain high (i + leaves_of low)) (last ∷ []) in
    let low_leaves = some_leaves low in
    let high_leaves = some_leaves high in
    let two : 2 ≤ leaves_of low + leaves_of high = omega arith in
    let kind = one_of (plain && eqb (leaves_of high) 1) in
    let first = no_one (plain && eqb (leaves_of high) 1) in
    let more = fours_more plain (leaves_of high) high_leaves in
    record {
      ones = omega (arith, below.ones, above.ones);
      combines = omega (arith, below.combines, above.combines);
      fours = rw (le-leb 2 (leaves_of low + leaves_of high) two)
          (four ∙ ap₂ ◌+◌ below.fours (ap (◌+ of_kind 4 (last ∷ [])) above.fours ∙ more) ∙ zero-add (cond (plain && true) 1 0));
    }

-- twice the lists less one
pub steps_length : (plain : Bool) (tree : Tree) (i : ℕ) → length (tree_steps plain tree i) + 1 ≡ leaves_of tree + leaves_of tree
unfolding tree_steps leaves_of
steps_length plain leaf i = refl
steps_length plain (cut p low high) i =
    let below = steps_length false low i in
    let above = steps_length plain high (i + leaves_of low) in
    let last : List Step = combine_step (combine_kind plain high) p ∷ [] in
    omega (
      arith,
      length-append (tree_steps false low i) (tree_steps plain high (i + leaves_of low) ++ last),
      length-append (tree_steps plain high (i + leaves_of low)) last,
    )

-- ---- all steps

-- n steps, ct of them of kinds 1 and 3, and four of kind 4, by the numbers of needed powers and of lists
pub record Counted (plain : Bool) (powers lists n ct four : ℕ) : Type 0 where
  pub steps : n + 1 ≡ powers + (lists + lists)
  pub encrypted : ct + four + 1 ≡ powers + lists
  pub plain_ones : four ≡ cond (plain && leb 2 lists) 1 0

module _ (leading : Bool) (parity : Parity) (basis : Basis) (degree split : ℕ) where
  abbrev tree : Tree
  tree = tree_of leading degree degree split

  abbrev all : List Step
  all = steps_at leading parity basis degree split

  steps_in_lem : (kind : ℕ) → of_kind kind all ≡ of_kind kind (map make_step (needed_list parity basis degree split))
      + of_kind kind (tree_steps (last_plain degree tree) tree 0)
  unfolding steps_at power_steps list_steps
  steps_in_lem kind = kinds_append kind (map make_step (needed_list parity basis degree split)) (tree_steps (last_plain degree tree) tree 0)

  pub steps_counted : Counted (last_plain degree tree) (needed_count parity basis degree split) (leaves_of tree) (length all)
      (of_kind 1 all + of_kind 3 all) (of_kind 4 all)
  unfolding steps_at power_steps list_steps needed_count
  steps_counted =
      let made = makes (needed_list parity basis degree split) in
      let listed = combines (last_plain degree tree) tree 0 in
      let size = steps_length (last_plain degree tree) tree 0 in
      let whole = length-append (map make_step (needed_list parity basis degree split)) (tree_steps (last_plain degree tree) tree 0) in
      let powers = length-map (needed_list parity basis degree split) make_step in
      let one = steps_in_lem 1 in
      let three = steps_in_lem 3 in
      let four = steps_in_lem 4 in
      record {
        steps = omega arith;
        encrypted = omega (arith, made.ones, made.threes, made.fours, listed.ones, listed.combines);
        plain_ones = four ∙ ap₂ ◌+◌ made.fours listed.fours ∙ zero-add (cond (last_plain degree tree && leb 2 (leaves_of tree)) 1 0);
      }
