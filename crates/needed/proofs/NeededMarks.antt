-- The marks are the needed powers, all of them and nothing else: the marks to begin with are the targets, and the sweep adds what these need.
use mathlib.Core.Path.{◌≡◌, sym, ◌∙◌}
use mathlib.Core.Bool.{Bool}
use mathlib.Core.Logic.{◌↔◌}
use Prim.Native.Nat.{ℕ, ◌+◌, ◌≤◌, ◌<◌}
use native.Mathlib.Omega.{arith}
use lib.ListN.{length}
use Rattle.algebra.specs.declared.Basis.{Basis}
use Rattle.algebra.specs.declared.Parity.{Parity}
use Rattle.number.specs.Bits.{top_power}
use Rattle.needed.specs.Needed.{Needed, baby_limit, Target, top, small, NeededPower}
use Rattle.needed.specs.NeededList.{is_target}
use Rattle.needed.specs.inside.Marks.{Marked, greatest_target, places, target_marks, needed_marks}
use Rattle.number.proofs.Bits.{top_power_lem}
use Rattle.needed.proofs.MarkLaws.{marked_below}
use Rattle.needed.proofs.SweepLaws.{sweep_least, sweep_length}
use Rattle.needed.proofs.PlaceLaws.{places_length, place_at}
use Rattle.needed.proofs.Needed.{needed_more}
use Rattle.needed.proofs.NeededList.{target_is, is_target_lem}

-- ---- the targets

module _ (parity : Parity) (degree split : ℕ) where
  -- no target is above the greatest
  target_most : (n : ℕ) → Target parity degree split n → n ≤ greatest_target degree split
  target_most n (top from is) = omega arith
  target_most n (small from below allowed) = omega arith

  targets_length : length (target_marks parity degree split) ≡ greatest_target degree split + 1
  unfolding target_marks
  targets_length = places_length (is_target parity (top_power degree) (baby_limit degree split)) 0 (greatest_target degree split + 1)

  -- a mark at once is a target
  targets_marked : (n : ℕ) → Marked (target_marks parity degree split) n ↔ Target parity degree split n
  unfolding target_marks
  targets_marked n = (forth, back)
    where
      test : ℕ → Bool
      test = is_target parity (top_power degree) (baby_limit degree split)

      size : ℕ
      size = greatest_target degree split + 1

      forth : Marked (places test 0 size) n → Target parity degree split n
      forth marked =
          let inside : n < size = omega (arith, marked_below (places test 0 size) n marked, places_length test 0 size) in
          target_is parity degree split n (sym (place_at test size n inside) ∙ marked)

      back : Target parity degree split n → Marked (places test 0 size) n
      back is =
          let inside : n < size = omega (arith, target_most n is) in
          place_at test size n inside ∙ is_target_lem parity degree split n is

-- ---- all marks

-- no target is above the degree
pub greatest_within_lem : (degree split : ℕ) → 0 < degree → greatest_target degree split ≤ degree
greatest_within_lem degree split positive = let bounds = top_power_lem degree positive in omega arith

module _ (parity : Parity) (basis : Basis) (degree split : ℕ) where
  pub needed_length : length (needed_marks parity basis degree split) ≡ greatest_target degree split + 1
  unfolding needed_marks
  needed_length = sweep_length basis (greatest_target degree split) (target_marks parity degree split) ∙ targets_length parity degree split

  -- the marks are the needed powers, all of them and nothing else
  pub marked_needed : (n : ℕ) → Marked (needed_marks parity basis degree split) n ↔ NeededPower parity basis degree split n
  unfolding needed_marks
  marked_needed n = (
    λ marked. needed_more (λ k. (targets_marked parity degree split k).0) n (swept.0 marked),
    λ needed. swept.1 (needed_more (λ k. (targets_marked parity degree split k).1) n needed),
  )
    where
      swept : Marked (needed_marks parity basis degree split) n ↔ Needed basis (Marked (target_marks parity degree split)) n
      swept =
          sweep_least basis (greatest_target degree split) (target_marks parity degree split)
          (omega (arith, targets_length parity degree split)) n
