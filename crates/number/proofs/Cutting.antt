-- The Chebyshev cut, one coefficient of the high part at a time: after m turns the first m coefficients behind c_p are doubled, and their
-- partners below p have lost them. Over any operations, so i64 and f64 share it.
use mathlib.Core.Path.{◌≡◌, refl, ap, sym, ◌∙◌}
use mathlib.Core.List.{List, [], ◌∷◌, ◌++◌, map, reverse, reverse-cons, reverse-reverse, append-nil}
use Prim.Native.Nat.{ℕ, zero, suc, ◌+◌, ◌-◌, ◌%◌, ◌≤◌, ◌<◌}
use native.Mathlib.Omega.{arith}
use lib.ListN.{length, take, drop, get_or, set, length-reverse, length-drop, drop_of_length-le, get_or-append, take-append-drop}
use lib.Seq.{set_at, set-append_left, take_all, drop-cons, length-take-le, get_or-drop, get_or-take}
use Rattle.algebra.specs.Each.{Each}
use Rattle.algebra.specs.Operations.{Operations, double}
use Rattle.algebra.specs.Cut.{differences, doubled, lowered, cut_at}
use Rattle.algebra.specs.declared.Basis.TheVariants.{Chebyshev}
use Rattle.algebra.proofs.CutPlaces.{length_differences}
use Rattle.algebra.proofs.Lists.{get_d_reverse, get_d_right}
use Rattle.number.specs.inside.Pair.{cut_one, cut_two, EachOfPair}

module _ {A : Type 0} where
  -- place k from the front is place m from the back
  set_reverse : (xs : List A) (m k : ℕ) (v : A) → k + suc m ≡ length xs → set (reverse xs) k v ≡ reverse (set xs m v)
  set_reverse [] m k v e = absurd (omega arith)
  set_reverse (x ∷ xs) zero k v e =
      let last : length (reverse xs) ≡ k = omega (arith, length-reverse xs) in
      rw (reverse-cons x, reverse-cons v) (set_at (reverse xs) x [] v k last)
  set_reverse (x ∷ xs) (suc m) k v e =
      let inner : k < length (reverse xs) = omega (arith, length-reverse xs) in
      rw (reverse-cons x, reverse-cons x)
      (set-append_left (reverse xs) (x ∷ []) k v inner ∙ ap (◌++ (x ∷ [])) (set_reverse xs m k v (omega arith)))

  -- a place beyond the first of two lists
  set_right : (xs ys : List A) (n i : ℕ) (v : A) → i ≡ length xs + n → set (xs ++ ys) i v ≡ xs ++ set ys n v
  set_right [] ys n i v e = ap (λ (j : ℕ). set ys j v) (omega arith)
  set_right (x ∷ xs) ys n zero v e = absurd (omega arith)
  set_right (x ∷ xs) ys n (suc i) v e = ap (x ∷◌) (set_right xs ys n i v (omega arith))

module _ {A : Type 0} (𝓞 : Operations A) where
  differences_nil : (xs : List A) → differences 𝓞 xs [] ≡ xs
  unfolding differences
  differences_nil [] = refl
  differences_nil (x ∷ xs) = refl

  -- an element from m on while the first m of ys are taken off: still as it was
  differences_at : (xs ys : List A) (m n : ℕ) (d : A) → m ≤ n → get_or (differences 𝓞 xs (take m ys)) n d ≡ get_or xs n d
  unfolding differences
  differences_at [] ys m n d h = refl
  differences_at (x ∷ xs) ys zero n d h = refl
  differences_at (x ∷ xs) [] (suc m) n d h = refl
  differences_at (x ∷ xs) (y ∷ ys) (suc m) zero d h = absurd (omega arith)
  differences_at (x ∷ xs) (y ∷ ys) (suc m) (suc n) d h = differences_at xs ys m n d (omega arith)

  less_step : (xs ys : List A) (m : ℕ) (d : A) → m < length xs → m < length ys
      → set (differences 𝓞 xs (take m ys)) m (𝓞.sub (get_or xs m d) (get_or ys m d)) ≡ differences 𝓞 xs (take (suc m) ys)
  unfolding differences
  less_step [] ys m d h k = absurd (omega arith)
  less_step (x ∷ xs) [] m d h k = absurd (omega arith)
  less_step (x ∷ xs) (y ∷ ys) zero d h k = ap (𝓞.sub x y ∷◌) (sym (differences_nil xs))
  less_step (x ∷ xs) (y ∷ ys) (suc m) d h k = ap (𝓞.sub x y ∷◌) (less_step xs ys m d (omega arith) (omega arith))

  -- the first m doubled, the others as they were
  abbrev doubled_to : ℕ → List A → List A
  doubled_to m ys = map (double 𝓞) (take m ys) ++ drop m ys

  doubled_at : (ys : List A) (m n : ℕ) (d : A) → m ≤ n → get_or (doubled_to m ys) n d ≡ get_or ys n d
  doubled_at [] zero n d h = refl
  doubled_at [] (suc m) n d h = refl
  doubled_at (y ∷ ys) zero n d h = refl
  doubled_at (y ∷ ys) (suc m) zero d h = absurd (omega arith)
  doubled_at (y ∷ ys) (suc m) (suc n) d h = doubled_at ys m n d (omega arith)

  doubled_step : (ys : List A) (m : ℕ) (d : A) → m < length ys → set (doubled_to m ys) m (double 𝓞 (get_or ys m d)) ≡ doubled_to (suc m) ys
  doubled_step [] m d h = absurd (omega arith)
  doubled_step (y ∷ ys) zero d h = refl
  doubled_step (y ∷ ys) (suc m) d h = ap (double 𝓞 y ∷◌) (doubled_step ys m d (omega arith))

  module _ (p : ℕ) (c : List A) (d : A) where
    -- the low part from its end, once it has lost m coefficients of the high part
    abbrev lost : ℕ → List A
    lost m = differences 𝓞 (reverse (take p c)) (take m (drop (suc p) c))

    -- the list after m turns
    unfoldable pub cut_to : ℕ → List A
    cut_to m = reverse (lost m) ++ (get_or c p d ∷ doubled_to m (drop (suc p) c))

    module _ (inside : p < length c) where
      pub cut_none : cut_to 0 ≡ c
      unfolding cut_to
      cut_none =
          ap (λ (l : List A). reverse l ++ (get_or c p d ∷ drop (suc p) c)) (differences_nil (reverse (take p c)))
          ∙ ap (◌++ (get_or c p d ∷ drop (suc p) c)) (reverse-reverse (take p c))
          ∙ ap (take p c ++◌) (sym (drop-cons c p d inside))
          ∙ take-append-drop p c

      pub cut_all : (m : ℕ) → suc (p + m) ≡ length c → cut_to m ≡ cut_at 𝓞 Chebyshev p c
      unfolding cut_to cut_at lowered doubled
      cut_all m e =
          let rest : length (drop (suc p) c) ≤ m = omega (arith, length-drop (suc p) c) in
          rw (drop-cons c p d inside, take_all m (drop (suc p) c) rest, drop_of_length-le (drop (suc p) c) rest, append-nil)

      -- turn m: k is the place below p that loses, i the place above p that doubles
      module _ (m k i : ℕ) (low : k + suc m ≡ p) (high : i ≡ suc (p + m)) (within : i < length c) where
        low_length : length (take p c) ≡ p
        low_length = length-take-le p c (omega arith)

        turned_length : length (reverse (take p c)) ≡ p
        turned_length = length-reverse (take p c) ∙ low_length

        lost_length : (n : ℕ) → length (lost n) ≡ p
        lost_length n = length_differences 𝓞 (reverse (take p c)) (take n (drop (suc p) c)) ∙ turned_length

        front_length : (n : ℕ) → length (reverse (lost n)) ≡ p
        front_length n = length-reverse (lost n) ∙ lost_length n

        pub low_value : get_or (reverse (take p c)) m d ≡ get_or c k d
        low_value = get_d_reverse (take p c) k m d (omega (arith, low_length)) ∙ get_or-take p c k d (omega arith)

        pub high_value : get_or (drop (suc p) c) m d ≡ get_or c i d
        high_value = get_or-drop (suc p) c m d ∙ ap (λ (n : ℕ). get_or c n d) (omega arith)

        -- until then both are as they came
        low_at : (n : ℕ) → n ≤ m → get_or (cut_to n) k d ≡ get_or c k d
        unfolding cut_to
        low_at n until =
            let front : k < length (reverse (lost n)) = omega (arith, front_length n) in
            get_or-append (reverse (lost n)) (get_or c p d ∷ doubled_to n (drop (suc p) c)) d k front
            ∙ get_d_reverse (lost n) m k d (omega (arith, lost_length n))
            ∙ differences_at (reverse (take p c)) (drop (suc p) c) n m d until
            ∙ low_value

        high_at : (n : ℕ) → n ≤ m → get_or (cut_to n) i d ≡ get_or c i d
        unfolding cut_to
        high_at n until =
            let behind : i ≡ length (reverse (lost n)) + suc m = omega (arith, front_length n) in
            get_d_right (reverse (lost n)) (get_or c p d ∷ doubled_to n (drop (suc p) c)) (suc m) i d behind
            ∙ doubled_at (drop (suc p) c) n m d until
            ∙ high_value

        written : set (set (cut_to m) k (𝓞.sub (get_or c k d) (get_or c i d))) i (double 𝓞 (get_or c i d)) ≡ cut_to (suc m)
        unfolding cut_to
        written =
            let more : m < length (drop (suc p) c) = omega (arith, length-drop (suc p) c) in
            let front : k < length (reverse (lost m)) = omega (arith, front_length m) in
            let mirrored : k + suc m ≡ length (lost m) = omega (arith, lost_length m) in
            let behind : i ≡ length (reverse (lost (suc m))) + suc m = omega (arith, front_length (suc m)) in
            rw (
              ← low_value,
              ← high_value,
              set-append_left _ _ k _ front,
              set_reverse _ m k _ mirrored,
              less_step (reverse (take p c)) (drop (suc p) c) m d (omega (arith, turned_length)) more,
              set_right _ _ (suc m) i _ behind,
              doubled_step (drop (suc p) c) m d more,
            )

        cut_more : cut_one 𝓞 d (cut_to m) k i ≡ cut_to (suc m)
        unfolding cut_one
        cut_more = rw (low_at m (omega arith), high_at m (omega arith)) written

-- the loop at j, where the turns below j left c of c₀: a turn, or two, cut the next pairs
module _ {A : Type 0} (𝓞 : Operations A) (d : A) (p j : ℕ) (c₀ c : List A)
    (inside : p < length c₀) (half : length c₀ ≤ p + p) (started : 0 < j) (before : c ≡ cut_to 𝓞 p c₀ d (j - 1)) where
  -- the pair of this turn, and of every later one, is still as it came
  pub pair_low : (n k : ℕ) → j ≤ n → n < length c₀ - p → k + n ≡ p → get_or c k d ≡ get_or c₀ k d
  pair_low n k later test low = rw before (low_at 𝓞 p c₀ d inside (n - 1) k (p + n) (omega arith) (omega arith) (omega arith) (j - 1) (omega arith))

  pub pair_high : (n i : ℕ) → j ≤ n → n < length c₀ - p → i ≡ p + n → get_or c i d ≡ get_or c₀ i d
  pair_high n i later test high = rw before (high_at 𝓞 p c₀ d inside (n - 1) (p - n) i (omega arith) (omega arith) (omega arith) (j - 1) (omega arith))

  pub turn_one : j < length c₀ - p → cut_one 𝓞 d c (p - j) (p + j) ≡ cut_to 𝓞 p c₀ d j
  turn_one test =
      let next : suc (j - 1) ≡ j = omega arith in
      rw before (cut_more 𝓞 p c₀ d inside (j - 1) (p - j) (p + j) (omega arith) (omega arith) (omega arith) ∙ ap (cut_to 𝓞 p c₀ d) next)

  -- the two stores of a turn leave that
  pub turn_stored : j < length c₀ - p → {y x : A} → y ≡ 𝓞.sub (get_or c (p - j) d) (get_or c (p + j) d) → x ≡ double 𝓞 (get_or c (p + j) d)
      → set (set c (p - j) y) (p + j) x ≡ cut_to 𝓞 p c₀ d j
  unfolding cut_one
  turn_stored test less more = rw (less, more) (turn_one test)

  pub turn_two : j + 1 < length c₀ - p → cut_two 𝓞 d c (p - j) (p + j) ≡ cut_to 𝓞 p c₀ d (j + 2 - 1)
  unfolding cut_two
  turn_two test =
      let next : suc j ≡ j + 2 - 1 = omega arith in
      rw (turn_one (omega arith))
      (cut_more 𝓞 p c₀ d inside j (p - j - 1) (p + j + 1) (omega arith) (omega arith) (omega arith) ∙ ap (cut_to 𝓞 p c₀ d) next)

-- after the turns two at a time: the next turn is the last one, or past it
pub record Turned {A : Type 0} (𝓞 : Operations A) (d : A) (p : ℕ) (c₀ c : List A) : Type 0 where
  pub next : ℕ
  pub odd : next % 2 ≡ 1
  pub from : length c₀ - p ≤ next + 1
  pub to : next + p ≤ length c₀
  pub before : c ≡ cut_to 𝓞 p c₀ d (next - 1)

module _ {A : Type 0} (𝓞 : Operations A) (d : A) (p j : ℕ) (c₀ c : List A)
    (inside : p < length c₀) (half : length c₀ ≤ p + p) (odd : j % 2 ≡ 1) (before : c ≡ cut_to 𝓞 p c₀ d (j - 1)) where
  -- the loop may end at its test, or behind two turns
  pub turned_at_test : {c' : List A} → length c₀ - p ≤ j + 1 → j + p ≤ length c₀ → c' ≡ c → Turned 𝓞 d p c₀ c'
  turned_at_test from to is = record { next = j; odd = odd; from = from; to = to; before = is ∙ before }

  pub turned_by_two : {c' : List A} → length c₀ - p ≤ j + 3 → j + 1 < length c₀ - p → c' ≡ cut_two 𝓞 d c (p - j) (p + j) → Turned 𝓞 d p c₀ c'
  turned_by_two from to is = record {
    next = j + 2;
    odd = omega arith;
    from = omega arith;
    to = omega arith;
    before = is ∙ turn_two 𝓞 d p j c₀ c inside half (omega arith) before to;
  }

-- where P holds of each coefficient at the start, it holds of such a pair
each_at : {A : Type 0} (P : A → Type 0) (d : A) (c : List A) (i : ℕ) → i < length c → Each P c → P (get_or c i d)
each_at P d [] i inside each = absurd (omega arith)
each_at P d (x ∷ c) zero inside each = each.0
each_at P d (x ∷ c) (suc i) inside each = each_at P d c i (omega arith) each.1

pub pair_each : {A : Type 0} (𝓞 : Operations A) (P : A → Type 0) (d : A) (p j : ℕ) (c₀ c : List A) → p < length c₀ → length c₀ ≤ p + p → 0 < j
    → c ≡ cut_to 𝓞 p c₀ d (j - 1) → Each P c₀ → (n k i : ℕ) → j ≤ n → n < length c₀ - p → k + n ≡ p → i ≡ p + n → EachOfPair P d c k i
pair_each 𝓞 P d p j c₀ c inside half started before each n k i later test low high = record {
  at_low = rw (pair_low 𝓞 d p j c₀ c inside half started before n k later test low) (each_at P d c₀ k (omega arith) each);
  at_high = rw (pair_high 𝓞 d p j c₀ c inside half started before n i later test high) (each_at P d c₀ i (omega arith) each);
}

-- the last turn of an even number, and none of an odd one
module _ {A : Type 0} (𝓞 : Operations A) (d : A) (p : ℕ) (c₀ c : List A) (inside : p < length c₀) (half : length c₀ ≤ p + p) (t : Turned 𝓞 d p c₀ c) where
  pub turned_pair : (length c₀ - p) % 2 ≡ 0 → (P : A → Type 0) → Each P c₀ → EachOfPair P d c (p + 1 - (length c₀ - p)) (p + (length c₀ - p) - 1)
  turned_pair even P each =
      pair_each 𝓞 P d p t.next c₀ c inside half (omega (arith, t.odd)) t.before each (length c₀ - p - 1) (p + 1 - (length c₀ - p)) (p + (length c₀ - p) - 1)
      (omega (arith, t.odd, t.to)) (omega arith) (omega arith) (omega arith)

  pub turned_last : (length c₀ - p) % 2 ≡ 0 → cut_one 𝓞 d c (p + 1 - (length c₀ - p)) (p + (length c₀ - p) - 1) ≡ cut_at 𝓞 Chebyshev p c₀
  turned_last even =
      let n : length c₀ - p ≡ t.next + 1 = omega (arith, t.odd, t.from, t.to) in
      let low : p + 1 - (length c₀ - p) ≡ p - t.next = omega (arith, n) in
      let high : p + (length c₀ - p) - 1 ≡ p + t.next = omega (arith, n) in
      rw (low, high) (turn_one 𝓞 d p t.next c₀ c inside half (omega (arith, t.odd)) t.before (omega (arith, n))
      ∙ cut_all 𝓞 p c₀ d inside t.next (omega (arith, n)))

  pub turned_all : ((length c₀ - p) % 2 ≡ 0 → ⊥) → c ≡ cut_at 𝓞 Chebyshev p c₀
  turned_all uneven = t.before ∙ cut_all 𝓞 p c₀ d inside (t.next - 1) (omega (arith, t.odd, t.from, t.to))
