-- The marks and the list: the marked places in order are the list of the needed powers, since both rise and hold the same, and there are as many.
use mathlib.Core.Path.{◌≡◌, refl, ap, ◌∙◌, subst}
use mathlib.Core.Bool.{Bool, true, false}
use mathlib.Core.Logic.{⊎_elim, ◌↔◌}
use mathlib.Core.List.Memᴰ
use mathlib.Core.List.{List, [], ◌∷◌, Memᴰ}
use Prim.Native.Nat.{ℕ, zero, suc, ◌+◌, ◌≤◌, ◌<◌}
use native.Mathlib.Omega.{arith}
use lib.ListN.{length}
use Rattle.algebra.specs.declared.Basis.{Basis}
use Rattle.algebra.specs.declared.Parity.{Parity}
use Rattle.number.specs.Limits.{plan_limit, count_limit}
use Rattle.number.specs.inside.Between.{Between}
use Rattle.needed.specs.inside.Marks.{Marked, needed_marks, marked_from, count_marks}
use Rattle.needed.specs.NeededList.{needed_list, needed_count}
use Rattle.needed.specs.Needed.{NeededPower}
use Rattle.needed.specs.Promises.{Rising, empty, single, next}
use Rattle.needed.proofs.PlaceLaws.{count_most}
use Rattle.needed.proofs.NeededList.{needed_listed, needed_rising}
use Rattle.needed.proofs.NeededMarks.{greatest_within_lem, needed_length, marked_needed}
use Rattle.needed.proofs.RisingLists.{rising_same}

-- the list of the marked places is as long as there are marks
pub marked_count : (i : ℕ) (marks : List Bool) → count_marks marks ≡ length (marked_from i marks)
unfolding count_marks marked_from
marked_count i [] = refl
marked_count i (true ∷ marks) = omega (arith, marked_count (suc i) marks)
marked_count i (false ∷ marks) = omega (arith, marked_count (suc i) marks)

-- a marked place is in the list
marked_in : (i : ℕ) (marks : List Bool) (n : ℕ) → Marked marks n → Memᴰ (i + n) (marked_from i marks)
unfolding marked_from
marked_in i [] n marked = let clash : ◌≡◌ {A = ℕ} 0 1 = cc in absurd (omega arith)
marked_in i (true ∷ marks) zero marked = Memᴰ.head {x = i} (omega arith)
marked_in i (false ∷ marks) zero marked = let clash : ◌≡◌ {A = ℕ} 0 1 = cc in absurd (omega arith)
marked_in i (true ∷ marks) (suc n) marked =
    let same : i + suc n ≡ suc i + n = omega arith in
    Memᴰ.tail (Memᴰ.cast same (marked_in (suc i) marks n marked))
marked_in i (false ∷ marks) (suc n) marked =
    let same : i + suc n ≡ suc i + n = omega arith in
    Memᴰ.cast same (marked_in (suc i) marks n marked)

-- what is in the list is a marked place
in_marked : (i : ℕ) (marks : List Bool) (m : ℕ) → Memᴰ m (marked_from i marks) → (n : ℕ) × (m ≡ i + n) × Marked marks n
unfolding marked_from
in_marked i [] m member = absurd (Memᴰ.not-nil member)
in_marked i (true ∷ marks) m member =
    ⊎_elim (λ here. (0, omega arith, refl))
    (λ later. let rest = in_marked (suc i) marks m later in (suc rest.0, omega (arith, rest.1), rest.2))
    (Memᴰ.cases_cons member)
in_marked i (false ∷ marks) m member = let rest = in_marked (suc i) marks m member in (suc rest.0, omega (arith, rest.1), rest.2)

pub listed_marked : (marks : List Bool) (n : ℕ) → Memᴰ n (marked_from 0 marks) ↔ Marked marks n
listed_marked marks n = (forth, back)
  where
    forth : Memᴰ n (marked_from 0 marks) → Marked marks n
    forth member =
        let place = in_marked 0 marks n member in
        let same : place.0 ≡ n = omega (arith, place.1) in
        subst (Marked marks) same place.2

    back : Marked marks n → Memᴰ n (marked_from 0 marks)
    back marked = let same : n ≡ 0 + n = omega arith in Memᴰ.cast same (marked_in 0 marks n marked)

-- one more in front of a list that begins later
rising_more : (n i : ℕ) (marks : List Bool) → n < i → Rising (marked_from i marks) → Rising (n ∷ marked_from i marks)
unfolding marked_from
rising_more n i [] before rising = single
rising_more n i (true ∷ marks) before rising = next before rising
rising_more n i (false ∷ marks) before rising = rising_more n (suc i) marks (omega arith) rising

pub marked_rising : (i : ℕ) (marks : List Bool) → Rising (marked_from i marks)
unfolding marked_from
marked_rising i [] = empty
marked_rising i (true ∷ marks) = rising_more i (suc i) marks (omega arith) (marked_rising (suc i) marks)
marked_rising i (false ∷ marks) = marked_rising (suc i) marks

-- ---- the needed powers

module _ (parity : Parity) (basis : Basis) (degree split : ℕ) where
  abbrev marks : List Bool
  marks = needed_marks parity basis degree split

  -- the marked places are the needed powers, in order
  pub marked_list : marked_from 0 marks ≡ needed_list parity basis degree split
  marked_list =
      rising_same (marked_from 0 marks) (needed_list parity basis degree split) (marked_rising 0 marks) (needed_rising parity basis degree split)
      (λ n member. (listed n).1 ((marked n).0 ((listed_marked marks n).0 member)))
      (λ n member. (listed_marked marks n).1 ((marked n).1 ((listed n).0 member)))
    where
      listed : (n : ℕ) → Memᴰ n (needed_list parity basis degree split) ↔ NeededPower parity basis degree split n
      listed = needed_listed parity basis degree split

      marked : (n : ℕ) → Marked marks n ↔ NeededPower parity basis degree split n
      marked = marked_needed parity basis degree split

  -- their number is that of the marks
  pub needed_counted : count_marks marks ≡ needed_count parity basis degree split
  unfolding needed_count
  needed_counted = marked_count 0 marks ∙ ap length marked_list

  pub count_needed_small : Between 1 degree plan_limit → needed_count parity basis degree split ≤ count_limit
  count_needed_small range =
      omega (arith, needed_counted, count_most marks, needed_length parity basis degree split, greatest_within_lem degree split range.from)
