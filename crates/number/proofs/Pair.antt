-- The stores of one turn of the Chebyshev cut and of two turns at once, over any operations. The four places of two turns differ, so each
-- number is still as it came when it is read, and the stores can be exchanged.
use mathlib.Core.Path.{◌≡◌, ap, ap₂, sym, ◌∙◌}
use mathlib.Core.List.{List}
use Prim.Native.Nat.{ℕ, ◌+◌, ◌-◌, ◌<◌}
use native.Mathlib.Omega.{arith}
use lib.ListN.{get_or, set}
use lib.Seq.{set_comm, get_or-set_other}
use Rattle.algebra.specs.Operations.{Operations, double}
use Rattle.number.specs.inside.Pair.{cut_one, cut_two}

-- what is above low is still there after the low stores, and the place after high also after the first high one
module _ {A : Type 0} (d : A) (c : List A) (low : ℕ) (y next_y : A) where
  pub above_kept : (k : ℕ) → low < k → get_or (set (set c low y) (low - 1) next_y) k d ≡ get_or c k d
  above_kept k above = get_or-set_other (set c low y) (low - 1) k next_y d (omega arith) ∙ get_or-set_other c low k y d (omega arith)

  pub next_kept : (high : ℕ) (x : A) → low < high → get_or (set (set (set c low y) (low - 1) next_y) high x) (high + 1) d ≡ get_or c (high + 1) d
  next_kept high x above =
      get_or-set_other (set (set c low y) (low - 1) next_y) high (high + 1) x d (omega arith) ∙ above_kept (high + 1) (omega arith)

-- what the stores leave
module _ {A : Type 0} (𝓞 : Operations A) (d : A) where
  pub one_stored : (c : List A) (low high : ℕ) (y x : A) → y ≡ 𝓞.sub (get_or c low d) (get_or c high d) → x ≡ double 𝓞 (get_or c high d)
      → set (set c low y) high x ≡ cut_one 𝓞 d c low high
  unfolding cut_one
  one_stored c low high y x less more = rw (less, more)

  -- the high numbers are read again after the low stores
  pub two_stored : (c : List A) (low high : ℕ) (y next_y x next_x : A) → 0 < low → low < high
      → y ≡ 𝓞.sub (get_or c low d) (get_or c high d) → next_y ≡ 𝓞.sub (get_or c (low - 1) d) (get_or c (high + 1) d)
      → x ≡ double 𝓞 (get_or (set (set c low y) (low - 1) next_y) high d)
      → next_x ≡ double 𝓞 (get_or (set (set (set c low y) (low - 1) next_y) high x) (high + 1) d)
      → set (set (set (set c low y) (low - 1) next_y) high x) (high + 1) next_x ≡ cut_two 𝓞 d c low high
  unfolding cut_two
  two_stored c low high y next_y x next_x positive apart less next_less more next_more =
      let first : List A = set (set c low y) high x in
      let kept_low : get_or first (low - 1) d ≡ get_or c (low - 1) d =
      get_or-set_other (set c low y) high (low - 1) x d (omega arith) ∙ get_or-set_other c low (low - 1) y d (omega arith) in
      let kept_high : get_or first (high + 1) d ≡ get_or c (high + 1) d =
      get_or-set_other (set c low y) high (high + 1) x d (omega arith) ∙ get_or-set_other c low (high + 1) y d (omega arith) in
      let doubled_now : x ≡ double 𝓞 (get_or c high d) = more ∙ ap (double 𝓞) (above_kept d c low y next_y high apart) in
      let next_doubled : next_x ≡ double 𝓞 (get_or first (high + 1) d) =
      next_more ∙ ap (double 𝓞) (next_kept d c low y next_y high x apart ∙ sym kept_high) in
      ap (λ (l : List A). set l (high + 1) next_x) (set_comm (set c low y) (low - 1) high next_y x (omega arith))
      ∙ one_stored first (low - 1) (high + 1) next_y next_x (next_less ∙ sym (ap₂ 𝓞.sub kept_low kept_high)) next_doubled
      ∙ ap (λ (l : List A). cut_one 𝓞 d l (low - 1) (high + 1)) (one_stored c low high y x less doubled_now)
