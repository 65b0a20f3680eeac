-- The pair from the tally of the slices, the number of needed powers and the test of the last combine.
use mathlib.Core.Path.{◌≡◌, sym, ◌∙◌}
use mathlib.Core.Bool.{Bool, true, false}
use Prim.Native.Nat.{ℕ, ◌+◌, ◌-◌, ◌≤◌}
use borrow.Author.Tests.{leb-true}
use lib.Dec.{leb, eqb}
use lib.ListN.{length}
use Rattle.std.proofs.lemmas.Bool.{and_parts}
use Rattle.algebra.specs.declared.Basis.{Basis}
use Rattle.algebra.specs.declared.Parity.{Parity}
use Rattle.number.specs.Bits.{top_power}
use Rattle.needed.specs.NeededList.{needed_count}
use Rattle.counts.specs.Slices.{slices_of, last_of}
use Rattle.counts.specs.Pair.{last_is_plain, pair_of, pair_at}
use Rattle.counts.specs.inside.Tallies.{tally_of}
use Rattle.counts.specs.declared.slices.Tally.{Tally}
use Rattle.number.proofs.Bits.{power_is}

-- the last combine is plain only where there are two or more slices
pub plain_two : (degree slices last : ℕ) → last_is_plain degree slices last ≡ true → 2 ≤ slices
unfolding last_is_plain
plain_two degree slices last holds = leb-true 2 slices (and_parts (leb 2 slices) _ holds).0

-- and the degree is a power of two
pub plain_power : (degree slices last : ℕ) → last_is_plain degree slices last ≡ true → degree ≡ top_power degree
unfolding last_is_plain
plain_power degree slices last holds = power_is degree (and_parts (eqb last 0) _ (and_parts (leb 2 slices) _ holds).1).1

module _ (parity : Parity) (basis : Basis) (degree split : ℕ) {needed : ℕ} {tally : Tally} {test : Bool}
    (tally_is : tally ≡ tally_of parity (slices_of degree split)) (needed_is : needed ≡ needed_count parity basis degree split)
    (test_is : test ≡ last_is_plain degree tally.slices tally.last) where
  test_of_slices : last_is_plain degree (length (slices_of degree split)) (last_of (slices_of degree split)) ≡ test
  unfolding tally_of
  test_of_slices = sym (rw tally_is at test_is)

  -- one multiplication is moved
  pub pair_plain : test ≡ true → record { ct = tally.slices - 1 + needed - 1; pt = tally.pt + 1 } ≡ pair_at parity basis degree split
  unfolding pair_at pair_of tally_of
  pair_plain holds = let is = test_of_slices ∙ holds in rw (tally_is, needed_is, is)

  -- none is moved
  pub pair_whole : test ≡ false → record { ct = tally.slices - 1 + needed; pt = tally.pt } ≡ pair_at parity basis degree split
  unfolding pair_at pair_of tally_of
  pair_whole fails = let is = test_of_slices ∙ fails in rw (tally_is, needed_is, is)
