-- Boundaries that rise, place by place: each list then stands within the coefficients. By recursion on the boundaries.
use mathlib.Core.Path.{◌≡◌, refl, ◌∙◌}
use mathlib.Core.List.{List, [], ◌∷◌}
use mathlib.Core.Option.{some, none}
use mathlib.Core.Bool.{Bool, true, false, ◌&&◌}
use Prim.Native.Nat.{ℕ, zero, suc, ◌+◌, ◌≤◌, ◌<◌}
use native.Mathlib.Numerals.{add-one}
use native.Mathlib.Omega.{arith}
use borrow.Author.Tests.{lt-ltb, le-ltb, le-leb, lt-leb, ltb-true, leb-true}
use lib.Dec.{leb, ltb}
use lib.IntN.{ℤ}
use lib.ListN.{length, get_or, drop, drop_of_length-le}
use lib.Seq.{drop-cons}
use Rattle.walk.specs.Boundaries.{rises, start_of, end_of, part_of, list_at}

module _ (bounds : List ℕ) (most last i : ℕ) where
  rises_place : i < length bounds
      → rises last most (drop i bounds)
      ≡ (ltb last (get_or bounds i 0) && (leb (get_or bounds i 0) most && rises (get_or bounds i 0) most (drop (i + 1) bounds)))
  unfolding rises
  rises_place h = rw (add-one, drop-cons bounds i 0)

  pub rises_not : i < length bounds → get_or bounds i 0 ≤ last → rises last most (drop i bounds) ≡ false
  rises_not h e = rises_place h ∙ rw (le-ltb last (get_or bounds i 0) e)

  pub rises_past : i < length bounds → last < get_or bounds i 0 → most < get_or bounds i 0 → rises last most (drop i bounds) ≡ false
  rises_past h e f = rises_place h ∙ rw (lt-ltb last (get_or bounds i 0) e, lt-leb (get_or bounds i 0) most f)

  pub rises_next : i < length bounds → last < get_or bounds i 0 → get_or bounds i 0 ≤ most
      → rises last most (drop i bounds) ≡ rises (get_or bounds i 0) most (drop (i + 1) bounds)
  rises_next h e f = rises_place h ∙ rw (lt-ltb last (get_or bounds i 0) e, le-leb (get_or bounds i 0) most f)

  pub rises_done : length bounds ≤ i → rises last most (drop i bounds) ≡ true
  unfolding rises
  rises_done h = rw (drop_of_length-le bounds h)

-- list i starts before it ends, and ends within
pub record Within (from until most : ℕ) : Type 0 where
  pub order : from < until
  pub limit : until ≤ most

-- the first of the boundaries rises from `from`, and the others go on so
record Split (from most bound : ℕ) (bounds : List ℕ) : Type 0 where
  first : Within from bound most
  rest : rises bound most bounds ≡ true

split : (from most bound : ℕ) (bounds : List ℕ) → rises from most (bound ∷ bounds) ≡ true → Split from most bound bounds
unfolding rises
split from most bound bounds e = by (ltb from bound) (leb bound most) refl refl e
  where
    by : (s t : Bool) → ltb from bound ≡ s → leb bound most ≡ t → (s && (t && rises bound most bounds)) ≡ true → Split from most bound bounds
    by true true f g e = record { first = record { order = ltb-true from bound f; limit = leb-true bound most g }; rest = e }
    by true false f g e = let z : ◌≡◌ {A = ℕ} 0 1 = cc in absurd (omega arith)
    by false t f g e = let z : ◌≡◌ {A = ℕ} 0 1 = cc in absurd (omega arith)

-- the boundary before place i, the first one being `from`
abbrev pub before : ℕ → List ℕ → ℕ → ℕ
before from bounds zero = from
before from bounds (suc i) = get_or bounds i 0

rising : (from most : ℕ) (bounds : List ℕ) (i : ℕ) → rises from most bounds ≡ true → i < length bounds
    → Within (before from bounds i) (get_or bounds i 0) most
rising from most [] i e h = absurd (omega arith)
rising from most (bound ∷ bounds) zero e h = (split from most bound bounds e).first
rising from most (bound ∷ bounds) (suc zero) e h = rising bound most bounds zero (split from most bound bounds e).rest (omega arith)
rising from most (bound ∷ bounds) (suc (suc i)) e h = rising bound most bounds (suc i) (split from most bound bounds e).rest (omega arith)

pub within : (most : ℕ) (bounds : List ℕ) (i : ℕ) → rises 0 most bounds ≡ true → i < length bounds → Within (start_of bounds i) (end_of bounds i) most
within most bounds zero e h = rising 0 most bounds zero e h
within most bounds (suc i) e h = rising 0 most bounds (suc i) e h

-- list i
module _ (c : List ℤ) (bounds : List ℕ) (i : ℕ) where
  pub list_past : length bounds ≤ i → list_at c bounds i ≡ none
  unfolding list_at
  list_past h = rw (le-ltb i (length bounds) h)

  pub list_is : i < length bounds → list_at c bounds i ≡ some (part_of c bounds i)
  unfolding list_at
  list_is h = rw (lt-ltb i (length bounds) h)
