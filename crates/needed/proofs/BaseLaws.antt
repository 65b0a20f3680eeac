-- A degree from the base on needs what base − 1 needs, and the powers of two from the base on. Above the base only the top power is needed at
-- once, and the only part of a power of two is its half.
use mathlib.Core.Path.{◌≡◌, refl, sym, ap, ◌∙◌, subst}
use mathlib.Core.Logic.{◌⊎◌, inl, inr, ⊎_elim}
use mathlib.Core.List.Memᴰ
use mathlib.Core.List.{List, ◌++◌, Memᴰ}
use Prim.Native.Nat.{ℕ, zero, suc, ◌+◌, ◌-◌, ◌/◌, ◌^◌, ◌≤◌, ◌<◌}
use native.Mathlib.Nat.{two-pow-succ, eq-or-lt_of_le, lt_of_not-le}
use native.Mathlib.Omega.{arith}
use lib.ListN.{length, length-append}
use lib.Pow.{pow_mono, pow-lt, pow_pos}
use Rattle.algebra.specs.declared.Basis.{Basis}
use Rattle.algebra.specs.declared.Parity.{Parity}
use Rattle.number.specs.Bits.{bit_len, top_power}
use Rattle.number.specs.Split.{parts_of}
use Rattle.number.specs.inside.Between.{Between}
use Rattle.needed.specs.Needed.{Part, first, second, apart, target, part, Target, top, small, NeededPower}
use Rattle.needed.specs.NeededList.{needed_list, needed_count}
use Rattle.needed.specs.Promises.{Rising, empty, single, next}
use Rattle.needed.specs.inside.Planned.{Planned}
use Rattle.needed.specs.inside.Marks.{two_powers}
use Rattle.number.proofs.Bits.{len_above, len_unique, is_power}
use Rattle.number.proofs.SplitParts.{parted}
use Rattle.needed.proofs.Needed.{needed_least, needed_within, part_less, half_is_part, two_powers_needed}
use Rattle.needed.proofs.NeededList.{needed_listed, needed_rising}
use Rattle.needed.proofs.RisingLists.{rising_append, rising_same}

-- ---- powers of two

-- 2^j is both parts of 2^(j+1), and these have no distance
half_is_second : (j : ℕ) → 2 ^ j ≡ (parts_of (2 ^ suc j)).b
unfolding parts_of
half_is_second j =
    let doubles = two-pow-succ j in
    let half : 2 ^ j ≡ 2 ^ suc j / 2 = omega arith in
    rw (is_power (suc j)) half

half_part : (basis : Basis) (j m : ℕ) → Part basis (2 ^ suc j) m → (1 < m) × (m ≡ 2 ^ j)
half_part basis j m (first above is) = (above, is ∙ sym (half_is_part j))
half_part basis j m (second above is) = (above, is ∙ sym (half_is_second j))
half_part basis j m (apart in_chebyshev above is) =
    let doubles = two-pow-succ j in
    let halves = parted (2 ^ suc j) (omega (arith, pow_pos j)) in
    absurd (omega (arith, half_is_part j, half_is_second j))

pub split_under : (degree split : ℕ) → 2 ^ split ≤ degree → split < bit_len degree
split_under degree split reached =
    lt_of_not-le (λ (few : bit_len degree ≤ split).
    let above = len_above degree in
    let grows : 2 ^ bit_len degree ≤ 2 ^ split = pow_mono few in
    omega arith)

-- base − 1 may be planned
pub small_planned : {split base : ℕ} → Between 1 split 12 → base ≡ 2 ^ split → Planned (base - 1) split
small_planned {split} splits is =
    let least : 2 ^ 1 ≤ 2 ^ split = pow_mono splits.from in
    let most : 2 ^ split ≤ 2 ^ 12 = pow_mono splits.to in
    record { degrees = record { from = omega arith; to = omega arith }; splits = splits }

-- ---- the powers of two in a list

pub powers_count : (k count : ℕ) → length (two_powers k count) ≡ count
unfolding two_powers
powers_count k zero = refl
powers_count k (suc count) = ap suc (powers_count (suc k) count)

-- what is in the list
powers_in : (k count n : ℕ) → Memᴰ n (two_powers k count) → (j : ℕ) × (k ≤ j) × (j < k + count) × (n ≡ 2 ^ j)
unfolding two_powers
powers_in k zero n member = absurd (Memᴰ.not-nil member)
powers_in k (suc count) n member =
    ⊎_elim (λ here. (k, omega arith, omega arith, here))
    (λ later. let rest = powers_in (suc k) count n later in (rest.0, omega (arith, rest.1), omega (arith, rest.2), rest.3))
    (Memᴰ.cases_cons member)

in_powers : (k count j : ℕ) → k ≤ j → j < k + count → Memᴰ (2 ^ j) (two_powers k count)
unfolding two_powers
in_powers k zero j from to = absurd (omega arith)
in_powers k (suc count) j from to =
    ⊎_elim (λ (same : k ≡ j). Memᴰ.head (ap (λ (x : ℕ). 2 ^ x) (sym same)))
    (λ (more : k < j). Memᴰ.tail (in_powers (suc k) count j (omega arith) (omega arith)))
    (eq-or-lt_of_le from)

powers_rising : (k count : ℕ) → Rising (two_powers k count)
unfolding two_powers
powers_rising k zero = empty
powers_rising k (suc zero) = single
powers_rising k (suc (suc count)) = next (pow-lt {i = k} {j = suc k} (omega arith)) (powers_rising (suc k) (suc count))

-- ---- a degree from the base on

module _ (parity : Parity) (basis : Basis) (degree split : ℕ) (some : 0 < split) (reached : 2 ^ split ≤ degree) where
  -- what base − 1 needs
  abbrev Small : ℕ → Type 0
  Small = NeededPower parity basis (2 ^ split - 1) split

  two_below : 2 ≤ 2 ^ split
  two_below = pow_mono {i = 1} some

  -- the top power of base − 1 is half the base
  small_top : top_power (2 ^ split - 1) ≡ 2 ^ (split - 1)
  unfolding top_power
  small_top =
      let two = two_below in
      let length : split ≡ bit_len (2 ^ split - 1) = len_unique (2 ^ split - 1) split (omega arith) (omega arith) (omega arith) in
      ap (λ (x : ℕ). 2 ^ (x - 1)) (sym length)

  -- a needed power is one of base − 1, or a power of two from the base on
  data Side (n : ℕ) : Type 0 where
    under : n < 2 ^ split → Small n → Side n
    power : (k : ℕ) → split ≤ k → k < bit_len degree → n ≡ 2 ^ k → Side n

  halved : (k n m : ℕ) → split ≤ k → k < bit_len degree → n ≡ 2 ^ k → Part basis n m → Side m
  halved zero n m from to is is_part_lem = absurd (omega (arith, some))
  halved (suc j) n m from to is is_part_lem = by_size (eq-or-lt_of_le from)
    where
      half : (1 < m) × (m ≡ 2 ^ j)
      half = half_part basis j m (subst (λ (x : ℕ). Part basis x m) is is_part_lem)

      by_size : (split ≡ suc j) ⊎ (split < suc j) → Side m
      by_size (inl same) =
          let lower : j ≡ split - 1 = omega arith in
          let less : 2 ^ j < 2 ^ split = pow-lt (omega arith) in
          under (omega (arith, half)) (target (top half.0 (half.1 ∙ ap (λ (x : ℕ). 2 ^ x) lower ∙ sym small_top)))
      by_size (inr more) = power j (omega arith) (omega arith) half.1

  side : (n : ℕ) → NeededPower parity basis degree split n → Side n
  unfolding top_power
  side n (target (top from is)) =
      let longer = split_under degree split reached in
      power (bit_len degree - 1) (omega arith) (omega arith) is
  side n (target (small from below allowed)) = under (omega arith) (target (small from (omega arith) allowed))
  side n (part {n = whole} above needed is_part_lem) = by_side (side whole needed)
    where
      by_side : Side whole → Side n
      by_side (under inside in_small) = under (omega (arith, part_less basis whole n above is_part_lem)) (part above in_small is_part_lem)
      by_side (power k from to is) = halved k whole n from to is is_part_lem

  -- and all of these are needed
  small_needed : (n : ℕ) → Small n → NeededPower parity basis degree split n
  small_needed =
      (needed_least basis (Target parity (2 ^ split - 1) split)).least (NeededPower parity basis degree split) at_once
      (λ n m above needed is_part_lem. part above needed is_part_lem)
    where
      positive : (k : ℕ) → 2 ≤ 2 ^ k → 0 < k
      positive zero from = absurd (omega arith)
      positive (suc k) from = omega arith

      at_once : (n : ℕ) → Target parity (2 ^ split - 1) split n → NeededPower parity basis degree split n
      at_once n (top from is) =
          let is_half : n ≡ 2 ^ (split - 1) = is ∙ small_top in
          let above = positive (split - 1) (omega arith) in
          subst (NeededPower parity basis degree split) (sym is_half)
          (two_powers_needed parity basis degree split (split - 1) above (omega (arith, split_under degree split reached)))
      at_once n (small from below allowed) = target (small from (omega arith) allowed)

  -- ---- the lists

  abbrev low : List ℕ
  low = needed_list parity basis (2 ^ split - 1) split

  abbrev high : List ℕ
  high = two_powers split (bit_len degree - split)

  -- all that base − 1 needs is below the base
  low_below : (n : ℕ) → Memᴰ n low → n < 2 ^ split
  low_below n member =
      let two = two_below in
      omega (arith, needed_within parity basis (2 ^ split - 1) split (omega arith) n ((needed_listed parity basis (2 ^ split - 1) split n).0 member))

  joined_rising : Rising (low ++ high)
  joined_rising =
      rising_append low high (needed_rising parity basis (2 ^ split - 1) split) (powers_rising split (bit_len degree - split)) apart_from
    where
      apart_from : (m n : ℕ) → Memᴰ m low → Memᴰ n high → m < n
      apart_from m n in_low in_high =
          let is_power = powers_in split (bit_len degree - split) n in_high in
          let grows : 2 ^ split ≤ 2 ^ is_power.0 = pow_mono is_power.1 in
          omega (arith, low_below m in_low, is_power.3)

  forth : (n : ℕ) → Memᴰ n (needed_list parity basis degree split) → Memᴰ n (low ++ high)
  forth n member = by_side (side n ((needed_listed parity basis degree split n).0 member))
    where
      by_side : Side n → Memᴰ n (low ++ high)
      by_side (under less in_small) = Memᴰ.append_left high ((needed_listed parity basis (2 ^ split - 1) split n).1 in_small)
      by_side (power k from to is) =
          Memᴰ.append_right low (Memᴰ.cast is (in_powers split (bit_len degree - split) k from (omega (arith, split_under degree split reached))))

  back : (n : ℕ) → Memᴰ n (low ++ high) → Memᴰ n (needed_list parity basis degree split)
  back n member = (needed_listed parity basis degree split n).1 (⊎_elim from_low from_high (Memᴰ.append_cases low member))
    where
      from_low : Memᴰ n low → NeededPower parity basis degree split n
      from_low in_low = small_needed n ((needed_listed parity basis (2 ^ split - 1) split n).0 in_low)

      from_high : Memᴰ n high → NeededPower parity basis degree split n
      from_high in_high =
          let is_power = powers_in split (bit_len degree - split) n in_high in
          let j = is_power.0 in
          let above : 0 < j = omega (arith, some, is_power.1) in
          let inside : j < bit_len degree = omega (arith, is_power.2, split_under degree split reached) in
          subst (NeededPower parity basis degree split) (sym is_power.3) (two_powers_needed parity basis degree split j above inside)

  pub listed_from_base : needed_list parity basis degree split ≡ low ++ high
  listed_from_base = rising_same (needed_list parity basis degree split) (low ++ high) (needed_rising parity basis degree split) joined_rising forth back

  pub needed_from_base : needed_count parity basis degree split ≡ needed_count parity basis (2 ^ split - 1) split + (bit_len degree - split)
  unfolding needed_count
  needed_from_base =
      ap length listed_from_base ∙ length-append low high ∙ ap (λ (k : ℕ). length low + k) (powers_count split (bit_len degree - split))
