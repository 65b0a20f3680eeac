-- Loads and combines run after any power steps that make what they use (docs/RULES.md, "What a plan promises" and "Sets of curves"), and what they
-- leave is the polynomial's value. The power steps make the powers of a set that can be made, listed rising; the set holds the powers that the
-- polynomial needs, and so those that its lists and combines use. A plan alone has such a set, its needed powers; a set of curves has their union.
use mathlib.Core.Path.{◌≡◌, refl, sym}
use mathlib.Core.Logic.{◌↔◌}
use mathlib.Core.List.{List, [], ◌∷◌, ◌++◌, map, append-nil, Memᴰ}
use mathlib.Core.Bool.{Bool}
use mathlib.Core.Option.{some}
use Prim.Native.Nat.{ℕ, zero, suc, ◌^◌, ◌≤◌, ◌<◌}
use native.Mathlib.Nat.{lt_of_not-le}
use native.Mathlib.Omega.{arith}
use lib.IntN.{ℤ}
use lib.ListN.{length}
use lib.Pow.{pow_mono}
use Rattle.algebra.specs.Operations.{whole_ops}
use Rattle.algebra.specs.Allowed.{HasParity}
use Rattle.algebra.specs.Power.{power}
use Rattle.algebra.specs.Value.{value}
use Rattle.algebra.specs.declared.Basis.{Basis}
use Rattle.algebra.specs.declared.Parity.{Parity}
use Rattle.number.specs.Bits.{bit_len}
use Rattle.number.specs.Limits.{plan_limit}
use Rattle.number.specs.Tests.{degree_of}
use Rattle.number.proofs.Bits.{len_above, few_digits}
use Rattle.needed.specs.Needed.{NeededPower}
use Rattle.needed.specs.Promises.{NeededPowers, Rising}
use Rattle.needed.proofs.Promises.{needed_powers}
use Rattle.lists.specs.Tree.{Tree, tree_of}
use Rattle.lists.specs.TreeFacts.{Sound, high_cuts}
use Rattle.lists.specs.Lists.{lists_of}
use Rattle.lists.proofs.TreeFacts.{high_cuts_few}
use Rattle.lists.proofs.Bounds.{sound_for}
use Rattle.walk.specs.Limits.{waiting_limit}
use Rattle.walk.specs.Rules.{exact_rules}
use Rattle.walk.specs.Make.{first_powers}
use Rattle.walk.specs.Walk.{one_left, first_state, run_of, walk_of}
use Rattle.walk.specs.WalksHeld.{numbered}
use Rattle.plan.specs.PlanSteps.{make_step, last_plain, tree_steps, list_steps}
use Rattle.demands.proofs.RunThen.{run_then}
use Rattle.demands.proofs.PowerRun.{Makeable, Made, start, run_powers}
use Rattle.demands.proofs.TreeRun.{Serves, run_tree}

-- powers that can be made, in a rising list
pub record Common (basis : Basis) (Set : ℕ → Type 0) (powers : List ℕ) : Type 0 where
  pub makeable : Makeable basis Set
  pub rising : Rising powers
  pub listed : (m : ℕ) → Memᴰ m powers ↔ Set m

module _ (leading : Bool) (parity : Parity) (basis : Basis) (split : ℕ) (c : List ℤ) (y : ℤ) (from_one : 1 ≤ split) (several : 1 < length c)
    (few : degree_of c ≤ plan_limit) (fits : HasParity whole_ops parity c) (Set : ℕ → Type 0) (powers : List ℕ) (common : Common basis Set powers)
    (holds : (m : ℕ) → NeededPower parity basis (degree_of c) split m → Set m) where
  abbrev degree : ℕ
  degree = degree_of c

  abbrev tree : Tree
  tree = tree_of leading degree degree split

  abbrev lists : List (List ℤ)
  lists = lists_of whole_ops basis tree c

  known : NeededPowers parity basis degree split
  known = needed_powers parity basis degree split

  made : Made parity basis (numbered lists) y Set common.makeable (map make_step powers) (first_powers exact_rules y) []
  made =
      run_powers parity basis (numbered lists) y Set common.makeable 0 powers (first_powers exact_rules y) []
      common.rising (λ m member. (omega arith, (common.listed m).0 member)) (λ m from needed. (common.listed m).1 needed) (start basis y Set)

  -- every power that is 0, 1 or needed is there, since the set holds the needed ones
  there : (m : ℕ) → (2 ≤ m → NeededPower parity basis degree split m) → made.after m ≡ some (power whole_ops basis y m)
  there zero needed = made.zeroth
  there (suc zero) needed = made.once
  there (suc (suc m)) needed = made.all (suc (suc m)) (holds (suc (suc m)) (needed (omega arith)))

  -- a power of two below the number of coefficients is needed
  two_power : (level : ℕ) → 2 ^ suc level < length c → NeededPower parity basis degree split (2 ^ suc level)
  two_power level below =
      let above = len_above degree in
      let deep : suc level < bit_len degree = lt_of_not-le (λ (less : bit_len degree ≤ suc level).
      let grows : 2 ^ bit_len degree ≤ 2 ^ suc level = pow_mono less in omega arith) in
      known.two_powers_lem (suc level) (omega arith) deep

  serves : Serves parity basis y (2 ^ split) (length c) made.after
  serves = record {
    listed = λ j in_base in_List allowed. there j (λ two. known.allowed j two (omega arith) allowed);
    combined = λ level below. there (2 ^ suc level) (λ two. two_power level below);
  }

  sound : Sound (2 ^ split) tree (length c)
  sound = sound_for leading degree split c (omega arith) few from_one

  waits : suc (high_cuts tree) ≤ waiting_limit
  waits = let cuts = high_cuts_few leading degree degree split in let digits = few_digits degree few in omega arith

  steps_run : run_of exact_rules parity basis (numbered lists) (map make_step powers ++ list_steps degree tree) (first_state exact_rules y)
      ≡ some (record { powers = made.after; waiting = value whole_ops basis y c ∷ [] })
  unfolding list_steps
  steps_run =
      run_then exact_rules parity basis (numbered lists) (map make_step powers)
      (tree_steps (last_plain degree tree) tree 0) _ _ _ made.runs
      (run_tree parity basis lists y (2 ^ split) made.after tree (last_plain degree tree) 0 (length c) c [] [] []
      serves sound refl fits (omega (arith, waits)) (sym (append-nil lists)) refl)

  pub common_walk : walk_of exact_rules parity basis (numbered lists) (map make_step powers ++ list_steps degree tree) y ≡ some (value whole_ops basis y c)
  unfolding walk_of one_left
  common_walk = rw steps_run
