-- The needed powers are the least set of their rule. None is below 2 or above the degree; all powers of two up to the top power are
-- among them, as each is a part of the next, and all allowed powers in the slices.
use mathlib.Core.Path.{◌≡◌, ap, subst}
use mathlib.Core.Bool.{true}
use mathlib.Core.Logic.{◌⊎◌, inl, inr, ⊎_elim, ◌↔◌}
use Prim.Native.Nat.{ℕ, zero, suc, ◌+◌, ◌-◌, ◌/◌, ◌^◌, ◌≤◌, ◌<◌}
use native.Mathlib.Nat.{two-pow-succ, eq-or-lt_of_le, lt_of_not-le}
use native.Mathlib.Omega.{arith}
use lib.Pow.{pow_mono, pow-lt}
use Rattle.algebra.specs.Allowed.{allows}
use Rattle.algebra.specs.declared.Basis.{Basis}
use Rattle.algebra.specs.declared.Parity.{Parity}
use Rattle.number.specs.Bits.{digits, bit_len, top_power}
use Rattle.number.specs.Split.{parts_of}
use Rattle.needed.specs.Needed.{Part, first, second, apart, Needed, target, part, baby_limit, Target, top, small, NeededPower, Closed, Least}
use Rattle.number.proofs.SplitParts.{parted}
use Rattle.number.proofs.Bits.{len_above, is_power, top_power_lem}

-- ---- the least set

-- every set that holds the targets and is closed holds what is needed
needed_in : {basis : Basis} {T : ℕ → Type 0} (Other : ℕ → Type 0) → ((n : ℕ) → T n → Other n) → Closed basis Other
    → (n : ℕ) → Needed basis T n → Other n
needed_in Other holds closed n (target is) = holds n is
needed_in Other holds closed n (part {n = whole} above needed is_part_lem) = closed whole n above (needed_in Other holds closed whole needed) is_part_lem

pub needed_least : (basis : Basis) (T : ℕ → Type 0) → Least basis T (Needed basis T)
needed_least basis T = record {
  holds = λ n is. target is;
  closed = λ n m above needed is_part_lem. part above needed is_part_lem;
  least = needed_in;
}

-- more targets need no less
pub needed_more : {basis : Basis} {S T : ℕ → Type 0} → ((n : ℕ) → S n → T n) → (n : ℕ) → Needed basis S n → Needed basis T n
needed_more more n (target is) = target (more n is)
needed_more more n (part {n = whole} above needed is_part_lem) = part above (needed_more more whole needed) is_part_lem

-- of a union of targets the union of the sets
pub needed_union : (basis : Basis) (S T : ℕ → Type 0) (n : ℕ)
    → Needed basis (λ (k : ℕ). S k ⊎ T k) n ↔ (Needed basis S n ⊎ Needed basis T n)
needed_union basis S T n = (apart_of n, joined n)
  where
    apart_of : (n : ℕ) → Needed basis (λ (k : ℕ). S k ⊎ T k) n → Needed basis S n ⊎ Needed basis T n
    apart_of n (target (inl is)) = inl (target is)
    apart_of n (target (inr is)) = inr (target is)
    apart_of n (part {n = whole} above needed is_part_lem) =
        ⊎_elim (λ left. inl (part above left is_part_lem)) (λ right. inr (part above right is_part_lem)) (apart_of whole needed)

    joined : (n : ℕ) → Needed basis S n ⊎ Needed basis T n → Needed basis (λ (k : ℕ). S k ⊎ T k) n
    joined n (inl needed) = needed_more (λ k is. inl is) n needed
    joined n (inr needed) = needed_more (λ k is. inr is) n needed

-- ---- parts

-- parts and distance are smaller than what they are parts of
pub part_less : (basis : Basis) (n m : ℕ) → 2 ≤ n → Part basis n m → m < n
part_less basis n m from_two (first above is) = let two = parted n from_two in omega arith
part_less basis n m from_two (second above is) = let two = parted n from_two in omega arith
part_less basis n m from_two (apart in_chebyshev above is) = let two = parted n from_two in omega arith

-- ---- powers of two

top_low : (degree : ℕ) → degree < 2 → top_power degree < 2
unfolding top_power bit_len digits
top_low zero low = omega arith
top_low (suc d) low = let bounds = top_power_lem (suc d) (omega arith) in omega arith

one_below : (k : ℕ) → 0 < k → 1 < 2 ^ k
one_below k positive = pow-lt {i = 0} {j = k} positive

-- 2^k is a part of 2^(k+1)
pub half_is_part : (k : ℕ) → 2 ^ k ≡ (parts_of (2 ^ suc k)).a
unfolding parts_of
half_is_part k =
    let doubles = two-pow-succ k in
    let half : 2 ^ k ≡ 2 ^ suc k / 2 = omega arith in
    rw (is_power (suc k)) half

-- a degree from 2 has two digits
two_digits : (degree : ℕ) → 2 ≤ degree → 1 < bit_len degree
two_digits degree from_two =
    lt_of_not-le (λ (one_digit : bit_len degree ≤ 1).
    let above = len_above degree in
    let grows : 2 ^ bit_len degree ≤ 2 ^ 1 = pow_mono one_digit in
    omega arith)

-- ---- what is needed

-- no target is below 2
target_from_two : {parity : Parity} {degree split : ℕ} (n : ℕ) → Target parity degree split n → 2 ≤ n
target_from_two n (top from is) = from
target_from_two n (small from below allowed) = omega arith

module _ (parity : Parity) (basis : Basis) (degree split : ℕ) where
  -- from 2 to the degree
  pub needed_from_two : (n : ℕ) → NeededPower parity basis degree split n → 2 ≤ n
  needed_from_two n (target is) = target_from_two n is
  needed_from_two n (part above needed (first from is)) = from
  needed_from_two n (part above needed (second from is)) = from
  needed_from_two n (part above needed (apart in_chebyshev from is)) = from

  pub needed_within : 0 < degree → (n : ℕ) → NeededPower parity basis degree split n → n ≤ degree
  needed_within positive n (target (top from is)) = let bounds = top_power_lem degree positive in omega arith
  needed_within positive n (target (small from below allowed)) = omega arith
  needed_within positive n (part {n = whole} above needed is_part_lem) =
      omega (arith, needed_within positive whole needed, part_less basis whole n (omega arith) is_part_lem)

  -- degree below 2 needs none
  pub none_below_two : degree < 2 → (n : ℕ) → NeededPower parity basis degree split n → ⊥
  none_below_two low n (target (top from is)) = omega (arith, top_low degree low)
  none_below_two low n (target (small from below allowed)) = omega arith
  none_below_two low n (part {n = whole} above needed is_part_lem) = none_below_two low whole needed

  -- all powers of two up to the top power
  pub two_powers_needed : (k : ℕ) → 0 < k → k < bit_len degree → NeededPower parity basis degree split (2 ^ k)
  unfolding top_power
  two_powers_needed k positive below = from_top (bit_len degree - 1 - k) k positive (omega arith)
    where
      halved : (k : ℕ) → 0 < k → NeededPower parity basis degree split (2 ^ suc k) → NeededPower parity basis degree split (2 ^ k)
      halved k positive needed =
          let doubles = two-pow-succ k in
          let above = one_below k positive in
          part {n = 2 ^ suc k} (omega arith) needed (first above (half_is_part k))

      -- down from the top power by as many halvings as the first argument says
      from_top : (halvings k : ℕ) → 0 < k → halvings + k ≡ bit_len degree - 1 → NeededPower parity basis degree split (2 ^ k)
      from_top zero k positive is =
          let exponent : k ≡ bit_len degree - 1 = omega arith in
          let above = one_below k positive in
          target {n = 2 ^ k} (top (omega arith) (ap (λ (x : ℕ). 2 ^ x) exponent))
      from_top (suc halvings) k positive is = halved k positive (from_top halvings (suc k) (omega arith) (omega arith))

  -- all allowed powers in the slices, from 2
  pub allowed_needed : (n : ℕ) → 2 ≤ n → n < baby_limit degree split → allows parity n ≡ true → NeededPower parity basis degree split n
  allowed_needed n from below allowed = by_size (eq-or-lt_of_le from)
    where
      by_size : (2 ≡ n) ⊎ (2 < n) → NeededPower parity basis degree split n
      by_size (inl two) = subst (NeededPower parity basis degree split) two (two_powers_needed 1 (omega arith) (two_digits degree (omega arith)))
      by_size (inr more) = target (small more below allowed)
