-- The numbers of a plan are small: kinds are at most 4, powers and their parts at most the degree, lists fewer than coefficients, boundaries at
-- most their number. By induction over the list of powers and over the tree.
use mathlib.Core.Path.{◌≡◌, refl}
use mathlib.Core.Bool.{Bool, true, false, cond, ◌&&◌}
use mathlib.Core.List.{List, [], ◌∷◌, ◌++◌, map, Memᴰ}
use Prim.Native.Nat.{ℕ, zero, suc, ◌+◌, ◌-◌, ◌^◌, ◌≤◌}
use native.Mathlib.Omega.{arith}
use lib.Dec.{eqb}
use lib.ListN.{length, get_or}
use Rattle.algebra.specs.declared.Basis.{Basis}
use Rattle.algebra.specs.declared.Parity.{Parity}
use Rattle.number.specs.Limits.{plan_limit, count_limit}
use Rattle.number.specs.Split.{parts_of}
use Rattle.number.proofs.SplitParts.{parted}
use Rattle.needed.specs.NeededList.{needed_list}
use Rattle.needed.proofs.Promises.{needed_powers}
use Rattle.counts.specs.Choice.{split_for}
use Rattle.lists.specs.Tree.{Tree, leaf, cut, tree_of, relists}
use Rattle.lists.specs.Arrange.{leaves_of, ends_of}
use Rattle.lists.specs.TreeFacts.{Sound}
use Rattle.lists.proofs.Arranging.{leaves_most}
use Rattle.walk.specs.WalksHeld.{flat}
use Rattle.walk.proofs.FlatSteps.{flat_append}
use Rattle.plan.specs.PlanSteps.{make_step, combine_step, combine_kind, tree_steps, last_plain, power_steps, list_steps, steps_at}
use Rattle.plan.specs.PlanCall.{planned_parity, planned, planned_degree, tree}
use Rattle.demands.specs.Fits.{Small, none, more, PlansFit}
use Rattle.demands.proofs.Accepts.{plannable}
use Rattle.demands.proofs.Right.{sound}

-- the number at a place
pub small_at : (ns : List ℕ) (i : ℕ) → Small ns → get_or ns i 0 ≤ count_limit
small_at [] i none = omega arith
small_at (n ∷ ns) zero (more here small) = here
small_at (n ∷ ns) (suc i) (more here small) = small_at ns i small

pub small_append : (xs ys : List ℕ) → Small xs → Small ys → Small (xs ++ ys)
small_append [] ys none rest = rest
small_append (x ∷ xs) ys (more here small) rest = more here (small_append xs ys small rest)

small_step : (k x y z : ℕ) (ns : List ℕ) → k ≤ count_limit → x ≤ count_limit → y ≤ count_limit → z ≤ count_limit → Small ns → Small (k ∷ x ∷ y ∷ z ∷ ns)
small_step k x y z ns a b c d small = more a (more b (more c (more d small)))

kind_small : (test : Bool) → cond test 4 3 ≤ count_limit
kind_small true = omega arith
kind_small false = omega arith

tree_small : (base : ℕ) (plain : Bool) (tree : Tree) (i n : ℕ) → Sound base tree n → n ≤ count_limit → i + leaves_of tree ≤ count_limit
    → Small (flat (tree_steps plain tree i))
unfolding tree_steps leaves_of flat combine_kind
tree_small base plain leaf i n sound few room = small_step 2 i 0 0 [] (omega arith) (omega arith) (omega arith) (omega arith) none
tree_small base plain (cut p low high) i n sound few room =
    rw (
      flat_append (tree_steps false low i) (tree_steps plain high (i + leaves_of low) ++ (combine_step (combine_kind plain high) p ∷ [])),
      flat_append (tree_steps plain high (i + leaves_of low)) (combine_step (combine_kind plain high) p ∷ []),
    )
    (small_append (flat (tree_steps false low i)) _
    (tree_small base false low i p sound.low (omega (arith, sound.under)) (omega arith))
    (small_append (flat (tree_steps plain high (i + leaves_of low))) _
    (tree_small base plain high (i + leaves_of low) (n - p) sound.high (omega arith) (omega arith))
    (small_step (combine_kind plain high) p 0 0 [] (kind_small (plain && eqb (leaves_of high) 1)) (omega (arith, sound.under)) (omega arith)
    (omega arith) none)))

ends_small : (base : ℕ) (tree : Tree) (at n : ℕ) → Sound base tree n → at + n ≤ count_limit → Small (ends_of tree at n)
unfolding ends_of
ends_small base leaf at n sound room = more room none
ends_small base (cut p low high) at n sound room =
    let under = sound.under in
    small_append (ends_of low at p) (ends_of high (at + p) (n - p)) (ends_small base low at p sound.low (omega arith))
    (ends_small base high (at + p) (n - p) sound.high (omega arith))

pub powers_small : (ns : List ℕ) → ((n : ℕ) → Memᴰ n ns → (2 ≤ n) × (n ≤ plan_limit)) → Small (flat (map make_step ns))
unfolding flat
powers_small [] each = none
powers_small (n ∷ ns) each =
    let range = each n (Memᴰ.head {x = n} refl) in
    let parts = parted n range.0 in
    let most = range.1 in
    small_step 1 n (parts_of n).a (parts_of n).b (flat (map make_step ns)) (omega arith) (omega arith) (omega arith) (omega arith)
    (powers_small ns (λ m member. each m (Memᴰ.tail member)))

steps_small : (leading : Bool) (parity : Parity) (basis : Basis) (degree split : ℕ) → 1 ≤ degree → degree ≤ plan_limit
    → Sound (2 ^ split) (tree_of leading degree degree split) (suc degree) → Small (flat (steps_at leading parity basis degree split))
unfolding steps_at power_steps list_steps
steps_small leading parity basis degree split from to sound =
    let known = needed_powers parity basis degree split in
    let made = map make_step (needed_list parity basis degree split) in
    let whole = tree_of leading degree degree split in
    let most = leaves_most leading degree degree split in
    rw (flat_append made (tree_steps (last_plain degree whole) whole 0))
    (small_append (flat made) _
    (powers_small (needed_list parity basis degree split)
    (λ n member. let needed = (known.listed n).0 member in let within = known.within from n needed in (known.from_two n needed, omega arith)))
    (tree_small (2 ^ split) (last_plain degree whole) whole 0 (suc degree) sound (omega arith) (omega arith)))

pub plans_fit : PlansFit
plans_fit strategy parity basis folded c accepted =
    let facts = plannable folded parity basis c accepted in
    let degree = planned_degree strategy parity basis folded c in
    let split = split_for strategy (planned_parity folded parity) basis degree in
    let places : suc degree ≡ length (planned strategy parity basis folded c) = omega (arith, facts.several) in
    let whole = sound strategy parity basis folded c accepted in
    record {
      boundaries =
          ends_small (2 ^ split) (tree strategy parity basis folded c) 0 (length (planned strategy parity basis folded c)) whole
          (omega (arith, facts.few));
      numbers =
          steps_small (relists strategy) (planned_parity folded parity) basis degree split (omega (arith, facts.several)) facts.few
          (rw places whole);
    }
