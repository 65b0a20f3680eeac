-- The turns of the folds' loops, over plain lists: copying every second coefficient, the two odd Chebyshev folds, and the sum of a place.
use mathlib.Core.Path.{◌≡◌, refl, ap, ap₂, sym, ◌∙◌}
use mathlib.Core.List.{List}
use Prim.Native.Nat.{ℕ, suc, ◌+◌, ◌-◌, ◌*◌, ◌/◌, ◌%◌, ◌≤◌, ◌<◌}
use native.Mathlib.Omega.{arith}
use lib.ListN.{length, get_or, drop, set, length-drop}
use lib.Seq.{sets}
use lib.IntN.{ℤ, pos, nat_abs, ◌-ℤ◌, ◌*ℤ◌}
use lib.Ieee.{Float, nan, neg}
use mir.Syntax.{w64}
use mir.Val.{SFits, to_z, of_z}
use mir.Facts.{to_z-of_z}
use Rattle.std.specs.Int.{div_ceil}
use Rattle.std.proofs.lemmas.Grind.{div_ceil_times}
use Rattle.algebra.specs.Operations.{Operations, whole_ops}
use Rattle.algebra.specs.Fold.{every_second, folded_length, coeff_r, add_r, fold}
use Rattle.algebra.specs.Magnitude.{sum_abs}
use Rattle.algebra.specs.declared.Basis.TheVariants.{Chebyshev}
use Rattle.algebra.specs.declared.Parity.TheVariants.{Odd}
use Rattle.algebra.proofs.Filling as filling
use Rattle.algebra.proofs.FoldPlaces.{length_every_second, fold_length, get_d_sum_rFrom}
use Rattle.algebra.proofs.FoldMagnitudes.{sum_abs_every_second}
use Rattle.algebra.proofs.Fits.{fits_abs}
use Rattle.algebra.proofs.Magnitudes.{abs_get_d, sum_abs_drop}
use Rattle.number.specs.Limits.{sum_limit}
use Rattle.number.specs.Numbers.{float_ops}
use Rattle.number.specs.inside.Folding.{odd_place}
use Rattle.number.proofs.EverySecond.{every_second_step, every_second_end, length_odd_places, get_d_every_second_from, drop_every_second_from}
use Rattle.number.proofs.FillFromEnd.{filled_from, filled_none, filled_step}
use Rattle.number.proofs.Rows.{next_coeff, add_more, add_end, alternating, alternating_end, alternating_more, alternating_small, column_is}

-- ---- copying every second coefficient, from place `from` on

-- i of them are written
pub record Copying {A : Type 0} (c : List A) (from : ℕ) (start out : List A) (i : ℕ) : Type 0 where
  pub within : i ≤ length (every_second (drop from c))
  pub so_far : out ≡ filling.copied (every_second (drop from c)) start i

-- how many there are
pub count_is : {A : Type 0} (c : List A) (from : ℕ) → div_ceil (length c - from) 2 ≡ length (every_second (drop from c))
count_is c from = omega (arith, length_every_second (drop from c), length-drop from c, div_ceil_times (length c - from) 2 (omega arith))

module _ {A : Type 0} {c : List A} {from : ℕ} {start out : List A} {i : ℕ} (room : length (every_second (drop from c)) ≤ length start)
    (t : Copying c from start out i) where
  pub copy_step : {v : A} → 2 * i + from < length c → v ≡ get_or c (2 * i + from) v → Copying c from start (set out i v) (i + 1)
  copy_step {v} h e =
      let F = every_second (drop from c) in
      let more : i < length F = omega (arith, length_every_second (drop from c), length-drop from c) in
      record {
        within = omega arith;
        so_far = ap (λ (l : List A). set l i v) t.so_far
            ∙ filling.copy_step F start i v v more room (e ∙ sym (get_d_every_second_from from i c v));
      }

  pub copy_end : length (every_second (drop from c)) ≤ i → out ≡ sets start 0 (every_second (drop from c))
  copy_end h = t.so_far ∙ filling.copy_end (every_second (drop from c)) start i (omega (arith, t.within)) room

-- ---- the odd Chebyshev fold, over any numbers

module _ {A : Type 0} (𝓞 : Operations A) (c : List A) where
  length_odd : length (fold 𝓞 Odd Chebyshev c) ≡ length c / 2
  unfolding folded_length
  length_odd = fold_length 𝓞 Odd Chebyshev c

  odd_place_lem : (i : ℕ) (d : A) → i < length c / 2 → get_or (fold 𝓞 Odd Chebyshev c) i d ≡ odd_place 𝓞 c i
  unfolding fold
  odd_place_lem i d h =
      let place : 0 + i ≡ i = omega arith in
      get_d_sum_rFrom 𝓞 0 (every_second (drop 1 c)) i d (omega (arith, length_odd_places c))
      ∙ ap₂ (λ (k : ℕ) (l : List A). add_r 𝓞 k k 𝓞.zero l) place (drop_every_second_from 1 i c)

-- ---- whole numbers, from the end: `left` places are still to be written

pub record Summing (c start out : List ℤ) (s : ℤ) (left : ℕ) : Type 0 where
  pub within : left ≤ length c / 2
  pub sum : s ≡ alternating (every_second (drop (2 * left + 1) c))
  pub so_far : out ≡ filled_from (fold whole_ops Odd Chebyshev c) start left

abs_alternating : (c : List ℤ) (i : ℕ) → nat_abs (alternating (every_second (drop i c))) ≤ sum_abs c
abs_alternating c i = omega (arith, alternating_small (every_second (drop i c)), sum_abs_every_second (drop i c), sum_abs_drop i c)

module _ (c start : List ℤ) (room : length c / 2 ≤ length start) where
  room_odd : length (fold whole_ops Odd Chebyshev c) ≤ length start
  room_odd = omega (arith, length_odd whole_ops c)

  pub sum_start : Summing c start start (pos 0) (length c / 2)
  sum_start =
      let past : length c ≤ 2 * (length c / 2) + 1 = omega arith in
      record {
        within = omega arith;
        sum = sym (ap alternating (every_second_end c (2 * (length c / 2) + 1) past) ∙ alternating_end);
        so_far = sym (filled_none (fold whole_ops Odd Chebyshev c) start room_odd (length c / 2) (sym (length_odd whole_ops c)));
      }

  module _ {out : List ℤ} {s : ℤ} {left : ℕ} (t : Summing c start out s left) where
    pub sum_abs_lem : nat_abs s ≤ sum_abs c
    sum_abs_lem = omega (arith, ap nat_abs t.sum, abs_alternating c (2 * left + 1))

    -- the next place from the end
    module _ (i : ℕ) (next : left ≡ suc i) where
      sum_is : {s' : ℤ} → s' ≡ get_or c (2 * i + 1) (pos 0) -ℤ s → s' ≡ alternating (every_second (drop (2 * i + 1) c))
      sum_is {s'} e =
          let x = get_or c (2 * i + 1) (pos 0) in
          let here : 2 * i + 1 < length c = omega (arith, t.within) in
          let after : 2 * i + 1 + 2 ≡ 2 * left + 1 = omega arith in
          e ∙ ap (λ (z : ℤ). x -ℤ z) (t.sum ∙ ap (λ (k : ℕ). alternating (every_second (drop k c))) (sym after))
          ∙ sym (ap alternating (every_second_step c (2 * i + 1) (pos 0) here) ∙ alternating_more x (every_second (drop (2 * i + 1 + 2) c)))

      pub sum_abs_next : {s' : ℤ} → s' ≡ get_or c (2 * i + 1) (pos 0) -ℤ s → nat_abs s' ≤ sum_abs c
      sum_abs_next e = omega (arith, ap nat_abs (sum_is e), abs_alternating c (2 * i + 1))

      -- as the machine makes it
      pub read_is : sum_abs c ≤ sum_limit → to_z w64 (of_z w64 (get_or c (2 * i + 1) (pos 0))) ≡ get_or c (2 * i + 1) (pos 0)
      read_is small = to_z-of_z (fits_abs (get_or c (2 * i + 1) (pos 0)) (omega (arith, abs_get_d c (2 * i + 1))))

      pub less_fits : sum_abs c ≤ sum_limit → SFits w64 (to_z w64 (of_z w64 (get_or c (2 * i + 1) (pos 0))) -ℤ s)
      less_fits small =
          let less = get_or c (2 * i + 1) (pos 0) -ℤ s in
          rw (read_is small) (fits_abs less (omega (arith, sum_abs_next {s' = less} refl)))

      pub less_is : sum_abs c ≤ sum_limit
          → to_z w64 (of_z w64 (to_z w64 (of_z w64 (get_or c (2 * i + 1) (pos 0))) -ℤ s)) ≡ get_or c (2 * i + 1) (pos 0) -ℤ s
      less_is small = to_z-of_z (less_fits small) ∙ ap (◌-ℤ s) (read_is small)

      pub sum_step : {s' v : ℤ} → s' ≡ get_or c (2 * i + 1) (pos 0) -ℤ s → v ≡ s' *ℤ coeff_r whole_ops i i → Summing c start (set out i v) s' i
      sum_step {s'} {v} e ev =
          let F = fold whole_ops Odd Chebyshev c in
          let inside : i < length c / 2 = omega (arith, t.within) in
          let place : i < length F = omega (arith, length_odd whole_ops c) in
          let v_is : v ≡ get_or F i (pos 0) =
          ev ∙ ap (λ (z : ℤ). z *ℤ coeff_r whole_ops i i) (sum_is e)
          ∙ sym (odd_place_lem whole_ops c i (pos 0) inside ∙ column_is i (every_second (drop (2 * i + 1) c)))
          in
          record {
            within = omega arith;
            sum = sum_is e;
            so_far = ap (λ (l : List ℤ). set l i v) t.so_far ∙ filled_step F start room_odd left i (pos 0) v next place v_is;
          }

-- ---- f64, place by place: the sum of a place from +0, in the source's order

-- the sum so far, the next coefficient's weight and its place
pub record Adding (c : List Float) (i : ℕ) (sum w : Float) (j : ℕ) : Type 0 where
  pub row : ℕ
  pub from : i ≤ row
  pub place : j ≡ 2 * row + 1
  pub weight : w ≡ coeff_r float_ops row i
  pub rest : add_r float_ops i row sum (every_second (drop j c)) ≡ odd_place float_ops c i

pub adding_start : (c : List Float) (i : ℕ) {sum w : Float} {j : ℕ} → sum ≡ float_ops.zero → w ≡ coeff_r float_ops i i → j ≡ 2 * i + 1 → Adding c i sum w j
adding_start c i {sum} es ew ej = record {
  row = i;
  from = omega arith;
  place = ej;
  weight = ew;
  rest = ap₂ (λ (x : Float) (k : ℕ). add_r float_ops i i x (every_second (drop k c))) es ej;
}

module _ {c : List Float} {i : ℕ} {sum w : Float} {j : ℕ} (t : Adding c i sum w j) where
  pub adding_step : j < length c → Adding c i (float_ops.add sum (float_ops.mul (get_or c j nan) w)) (neg w) (j + 2)
  adding_step h = record {
    row = suc t.row;
    from = omega (arith, t.from);
    place = omega (arith, t.place);
    weight = ap neg t.weight ∙ sym (next_coeff i t.row t.from);
    rest =
        ap (λ (x : Float). add_r float_ops i (suc t.row) (float_ops.add sum (float_ops.mul (get_or c j nan) x)) (every_second (drop (j + 2) c))) t.weight
        ∙ sym (add_more float_ops i t.row sum (get_or c j nan) (every_second (drop (j + 2) c)))
        ∙ ap (add_r float_ops i t.row sum) (sym (every_second_step c j nan h))
        ∙ t.rest;
  }

  pub adding_end : length c ≤ j → sum ≡ odd_place float_ops c i
  adding_end h = sym (ap (add_r float_ops i t.row sum) (every_second_end c j h) ∙ add_end float_ops i t.row sum) ∙ t.rest

-- ---- the odd Chebyshev fold from the front: the first i places are written

pub record Placing {A : Type 0} (𝓞 : Operations A) (c start out : List A) (i : ℕ) : Type 0 where
  pub within : i ≤ length c / 2
  pub so_far : out ≡ filling.copied (fold 𝓞 Odd Chebyshev c) start i

pub placing_start : {A : Type 0} (𝓞 : Operations A) (c start : List A) → Placing 𝓞 c start start 0
placing_start 𝓞 c start = record { within = omega arith; so_far = refl }

module _ {A : Type 0} {𝓞 : Operations A} {c start out : List A} {i : ℕ} (room : length c / 2 ≤ length start) (t : Placing 𝓞 c start out i) where
  long : length (fold 𝓞 Odd Chebyshev c) ≤ length start
  long = omega (arith, length_odd 𝓞 c)

  pub placing_step : {v : A} (d : A) → i < length c / 2 → v ≡ odd_place 𝓞 c i → Placing 𝓞 c start (set out i v) (i + 1)
  placing_step {v} d h e =
      let F = fold 𝓞 Odd Chebyshev c in
      let place : i < length F = omega (arith, length_odd 𝓞 c) in
      record {
        within = omega arith;
        so_far = ap (λ (l : List A). set l i v) t.so_far ∙ filling.copy_step F start i d v place long (e ∙ sym (odd_place_lem 𝓞 c i d h));
      }

  pub placing_end : length c / 2 ≤ i → out ≡ sets start 0 (fold 𝓞 Odd Chebyshev c)
  placing_end h = t.so_far ∙ filling.copy_end (fold 𝓞 Odd Chebyshev c) start i (omega (arith, length_odd 𝓞 c, t.within)) long

-- two places at once
pub placing_two : {A : Type 0} {𝓞 : Operations A} {c start out : List A} {i : ℕ} {first second : A} → length c / 2 ≤ length start
    → Placing 𝓞 c start out i → (d : A) → i + 1 < length c / 2 → first ≡ odd_place 𝓞 c i → second ≡ odd_place 𝓞 c (i + 1)
    → Placing 𝓞 c start (set (set out i first) (i + 1) second) (i + 2)
placing_two {c = c} {i = i} room t d h e₁ e₂ =
    let after : i + 2 ≡ i + 1 + 1 = omega arith in
    let more : i < length c / 2 = omega arith in
    rw after (placing_step room (placing_step room t d more e₁) d h e₂)

-- after the turns of two: all places are written, or all but the last
pub record Placed {A : Type 0} (𝓞 : Operations A) (c start out : List A) : Type 0 where
  pub next : ℕ
  pub even : next % 2 ≡ 0
  pub near : length c / 2 ≤ next + 1
  pub placing : Placing 𝓞 c start out next

module _ {A : Type 0} {𝓞 : Operations A} {c start out : List A} (room : length c / 2 ≤ length start) (t : Placed 𝓞 c start out) where
  pub placed_last : {v : A} (d : A) → length c / 2 % 2 ≡ 1 → v ≡ odd_place 𝓞 c (length c / 2 - 1)
      → set out (length c / 2 - 1) v ≡ sets start 0 (fold 𝓞 Odd Chebyshev c)
  placed_last {v} d odd e =
      let last : length c / 2 - 1 ≡ t.next = omega (arith, t.even, t.near, t.placing.within) in
      let inside : t.next < length c / 2 = omega (arith, last) in
      rw last (placing_end room (placing_step room t.placing d inside (e ∙ ap (odd_place 𝓞 c) last)) (omega (arith, last)))

  pub placed_all : (length c / 2 % 2 ≡ 1 → ⊥) → out ≡ sets start 0 (fold 𝓞 Odd Chebyshev c)
  placed_all even = placing_end room t.placing (omega (arith, t.even, t.near, t.placing.within))
