-- The steps of the powers of two from the base on, power by power; behind those of base - 1 they are all power steps of a degree from the base
-- on.
use mathlib.Core.Path.{◌≡◌, refl, ap, sym, ◌∙◌}
use mathlib.Core.Bool.{true}
use mathlib.Core.List.{List, [], ◌∷◌, ◌++◌, map, map-append}
use Prim.Native.Nat.{ℕ, suc, ◌+◌, ◌-◌, ◌*◌, ◌^◌, ◌≤◌, ◌<◌}
use native.Mathlib.Omega.{arith}
use lib.ListN.{length, length-map}
use lib.Pow.{pow_mono}
use lib.Seq.{sets}
use Rattle.algebra.specs.declared.Basis.{Basis}
use Rattle.algebra.specs.declared.Parity.{Parity}
use Rattle.number.specs.Bits.{bit_len}
use Rattle.number.specs.Limits.{plan_limit}
use Rattle.number.proofs.Bits.{few_digits}
use Rattle.needed.specs.NeededList.{needed_list, needed_count}
use Rattle.needed.specs.inside.Marks.{two_powers}
use Rattle.needed.proofs.BaseLaws.{listed_from_base, needed_from_base}
use Rattle.lists.proofs.Arranging.{sets_append}
use Rattle.walk.specs.WalksHeld.{flat}
use Rattle.walk.proofs.FlatSteps.{flat_append, flat_length}
use Rattle.plan.specs.PlanSteps.{make_step, power_steps}
use Rattle.plan.specs.inside.Writing.{PowerFits, PowerPut, PowersPut, TwoPowersFit, TwoPowersPut}

-- the numbers of the steps of so many powers of two from 2^k on
abbrev power_numbers : (k count : ℕ) → List ℕ
power_numbers k count = flat (map make_step (two_powers k count))

-- ---- one power more

next_power : (k digits power : ℕ) → k < digits → power ≡ 2 ^ k
    → power_numbers k (digits - k) ≡ flat (make_step power ∷ []) ++ power_numbers (k + 1) (digits - (k + 1))
unfolding two_powers flat
next_power k digits power more power_is =
    let one_less : digits - k ≡ suc (digits - (k + 1)) = omega arith in
    let one_more : k + 1 ≡ suc k = omega arith in
    rw (one_less, one_more, power_is)

-- the powers from 2^k on, put from step `step` on, give all that is to be put
pub record Left (split digits step₀ : ℕ) (b₀ : List ℕ) (k step : ℕ) (b : List ℕ) : Type 0 where
  pub from : split ≤ k
  pub steps : step + (digits - k) ≡ step₀ + (digits - split)
  pub numbers : sets b (4 * step) (power_numbers k (digits - k)) ≡ sets b₀ (4 * step₀) (power_numbers split (digits - split))

pub left_all : (split digits step : ℕ) (b : List ℕ) → Left split digits step b split step b
left_all split digits step b = record { from = omega arith; steps = refl; numbers = refl }

pub power_fits : {split digits step₀ k step power : ℕ} {b₀ b : List ℕ} → Left split digits step₀ b₀ k step b → TwoPowersFit split digits step₀ b₀
    → length b ≡ length b₀ → k < digits → power ≡ 2 ^ k → PowerFits true power step b
power_fits {split} {digits} {step₀} {k} {step} {power} {b₀} {b} left fits same more power_is =
    let least : 2 ^ 1 ≤ 2 ^ k = pow_mono {i = 1} (omega (arith, fits.positive, left.from)) in
    let most : 2 ^ k ≤ 2 ^ 11 = pow_mono {j = 11} (omega (arith, fits.limit)) in
    record { limit = omega arith; from_two = λ _. omega arith; places = omega (arith, left.steps, fits.places) }

pub left_less : {split digits step₀ k step step' power : ℕ} {b₀ b b' : List ℕ} → Left split digits step₀ b₀ k step b → k < digits
    → power ≡ 2 ^ k → PowerPut true power step b step' b' → Left split digits step₀ b₀ (k + 1) step' b'
left_less {split} {digits} {step₀} {k} {step} {step'} {power} {b₀} {b} {b'} left more power_is put = record {
  from = omega (arith, left.from);
  steps = omega (arith, left.steps, put.next);
  numbers =
      ap (λ (l : List ℕ). sets l (4 * step') (power_numbers (k + 1) (digits - (k + 1)))) put.numbers
      ∙ sets_append b (flat (make_step power ∷ [])) (power_numbers (k + 1) (digits - (k + 1))) (4 * step) (4 * step') place
      ∙ ap (sets b (4 * step)) (sym (next_power k digits power more power_is))
      ∙ left.numbers;
}
  where
    place : 4 * step' ≡ 4 * step + length (flat (make_step power ∷ []))
    place = omega (arith, put.next, flat_length (make_step power ∷ []))

none_left : (k digits step : ℕ) (b : List ℕ) → digits ≤ k → sets b (4 * step) (power_numbers k (digits - k)) ≡ b
unfolding two_powers flat
none_left k digits step b ended = let none : digits - k ≡ 0 = omega arith in rw none

pub left_none : {split digits step₀ k step : ℕ} {b₀ b : List ℕ} → Left split digits step₀ b₀ k step b → digits ≤ k
    → TwoPowersPut split digits step₀ b₀ step b
left_none {split} {digits} {step₀} {k} {step} {b₀} {b} left ended = record {
  numbers = sym (none_left k digits step b ended) ∙ left.numbers;
  next = omega (arith, left.steps);
}

-- ---- behind those of base - 1

counted : (parity : Parity) (basis : Basis) (degree split : ℕ) → needed_count parity basis degree split ≡ length (needed_list parity basis degree split)
unfolding needed_count
counted parity basis degree split = refl

module _ (parity : Parity) (basis : Basis) (degree split : ℕ) (some : 0 < split) (reached : 2 ^ split ≤ degree) where
  pub room_below : {base room : ℕ} → base ≡ 2 ^ split → 4 * needed_count parity basis degree split ≤ room
      → 4 * needed_count parity basis (base - 1) split ≤ room
  room_below base_is room = rw base_is (omega (arith, needed_from_base parity basis degree split some reached))

  pub two_fit : {base digits step : ℕ} {b₀ b : List ℕ} → base ≡ 2 ^ split → digits ≡ bit_len degree → PowersPut parity basis (base - 1) split b₀ step b
      → length b ≡ length b₀ → degree ≤ plan_limit → 4 * needed_count parity basis degree split ≤ length b₀ → TwoPowersFit split digits step b
  two_fit base_is digits_are low same limit room =
      let count = needed_from_base parity basis degree split some reached in
      let below = rw base_is at low.next in
      record { positive = some; limit = omega (arith, few_digits degree limit); places = omega arith }

  joined : {b₀ b b' : List ℕ} {step r : ℕ} → PowersPut parity basis (2 ^ split - 1) split b₀ step b
      → TwoPowersPut split (bit_len degree) step b r b' → PowersPut parity basis degree split b₀ r b'
  unfolding power_steps
  joined {b₀} {b} {b'} {step} {r} low high = record {
    numbers =
        high.numbers
        ∙ ap (λ (l : List ℕ). sets l (4 * step) two) low.numbers
        ∙ sets_append b₀ (flat (map make_step below)) two 0 (4 * step) place
        ∙ ap (sets b₀ 0) (sym whole);
    next = omega (arith, low.next, high.next, needed_from_base parity basis degree split some reached);
  }
    where
      below : List ℕ
      below = needed_list parity basis (2 ^ split - 1) split

      two : List ℕ
      two = power_numbers split (bit_len degree - split)

      place : 4 * step ≡ 0 + length (flat (map make_step below))
      place =
          omega (arith, low.next, counted parity basis (2 ^ split - 1) split, flat_length (map make_step below), length-map below make_step)

      whole : flat (map make_step (needed_list parity basis degree split)) ≡ flat (map make_step below) ++ two
      whole =
          ap (λ (l : List ℕ). flat (map make_step l)) (listed_from_base parity basis degree split some reached)
          ∙ ap flat (map-append make_step below (two_powers split (bit_len degree - split)))
          ∙ flat_append (map make_step below) (map make_step (two_powers split (bit_len degree - split)))

  pub powers_joined : {base digits step r : ℕ} {b₀ b b' : List ℕ} → base ≡ 2 ^ split → digits ≡ bit_len degree
      → PowersPut parity basis (base - 1) split b₀ step b → TwoPowersPut split digits step b r b' → PowersPut parity basis degree split b₀ r b'
  powers_joined base_is digits_are low high = joined (rw base_is at low) (rw digits_are at high)
