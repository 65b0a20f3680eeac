-- The promises are kept: each is a law of the files beside this one.
use Prim.Native.Nat.{ℕ}
use Rattle.algebra.specs.declared.Basis.{Basis}
use Rattle.algebra.specs.declared.Parity.{Parity}
use Rattle.needed.specs.Needed.{Target}
use Rattle.needed.specs.Promises.{NeededPowers, Union}
use Rattle.needed.proofs.Needed.{needed_least, needed_union, part_less, needed_from_two, needed_within, none_below_two, two_powers_needed}
use Rattle.needed.proofs.Needed.{allowed_needed}
use Rattle.needed.proofs.NeededList.{needed_listed, needed_rising}

pub needed_powers : (parity : Parity) (basis : Basis) (degree split : ℕ) → NeededPowers parity basis degree split
needed_powers parity basis degree split = record {
  least = needed_least basis (Target parity degree split);
  listed = needed_listed parity basis degree split;
  rising = needed_rising parity basis degree split;
  from_two = needed_from_two parity basis degree split;
  within = needed_within parity basis degree split;
  none_below_two = none_below_two parity basis degree split;
  parts_smaller = part_less basis;
  two_powers_lem = two_powers_needed parity basis degree split;
  allowed = allowed_needed parity basis degree split;
}

pub union : (basis : Basis) (S T : ℕ → Type 0) → Union basis S T
union basis S T = needed_union basis S T
