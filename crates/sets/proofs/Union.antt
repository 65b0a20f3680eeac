-- The union of rising lists holds each of their numbers, and nothing else, and it rises.
use mathlib.Core.Path.{◌≡◌, refl, sym, subst}
use mathlib.Core.Logic.{◌⊎◌, inl, inr, ⊎_elim, ◌↔◌}
use mathlib.Core.List.Memᴰ
use mathlib.Core.List.{List, [], ◌∷◌, Memᴰ}
use Prim.Native.Nat.{ℕ, ◌<◌}
use native.Mathlib.Decide.{ℕ_discrete, dec_lt}
use native.Mathlib.Omega.{arith}
use borrow.Author.Tests.{lt-ltb, le-ltb, eq-eqb, ne_eqb}
use Rattle.needed.specs.Promises.{Rising, empty, single, next}
use Rattle.needed.proofs.RisingLists.{rising_from, rising_rest, rising_same}
use Rattle.sets.specs.Union.{inserted, merged, union_of}

-- ---- where a number is put

inserted_before : (n m : ℕ) (ms : List ℕ) → n < m → inserted n (m ∷ ms) ≡ n ∷ m ∷ ms
unfolding inserted
inserted_before n m ms less = rw (lt-ltb n m less)

inserted_same : (n m : ℕ) (ms : List ℕ) → n ≡ m → inserted n (m ∷ ms) ≡ m ∷ ms
unfolding inserted
inserted_same n m ms same = rw (le-ltb n m (omega arith), eq-eqb n m same)

inserted_after : (n m : ℕ) (ms : List ℕ) → m < n → inserted n (m ∷ ms) ≡ m ∷ inserted n ms
unfolding inserted
inserted_after n m ms more = rw (le-ltb n m (omega arith), ne_eqb n m (λ e. omega arith))

-- n is below m, is m, or is above it
data Compared (n m : ℕ) : Type 0 where
  below : n < m → Compared n m
  equal : n ≡ m → Compared n m
  above : m < n → Compared n m

compared : (n m : ℕ) → Compared n m
compared n m = by (dec_lt n m) (ℕ_discrete n m)
  where
    by : Dec (n < m) → Dec (n ≡ m) → Compared n m
    by (yes less) d = below less
    by (no not-less) (yes same) = equal same
    by (no not-less) (no other) = above (omega arith)

-- ---- one number more

pub inserted_holds : (n k : ℕ) (ms : List ℕ) → Memᴰ k (inserted n ms) → (k ≡ n) ⊎ Memᴰ k ms
unfolding inserted
inserted_holds n k [] member = ⊎_elim (λ (e : k ≡ n). inl e) (λ (later : Memᴰ k []). absurd (Memᴰ.not-nil later)) (Memᴰ.cases_cons member)
inserted_holds n k (m ∷ ms) member = by (inserted_holds n k ms) (compared n m)
  where
    by : (Memᴰ k (inserted n ms) → (k ≡ n) ⊎ Memᴰ k ms) → Compared n m → (k ≡ n) ⊎ Memᴰ k (m ∷ ms)
    by behind (below less) = Memᴰ.cases_cons (subst (Memᴰ k) (inserted_before n m ms less) member)
    by behind (equal same) = inr (subst (Memᴰ k) (inserted_same n m ms same) member)
    by behind (above more) =
        ⊎_elim (λ (e : k ≡ m). inr (Memᴰ.head e))
        (λ (later : Memᴰ k (inserted n ms)).
        ⊎_elim (λ (e : k ≡ n). inl e) (λ (rest : Memᴰ k ms). inr (Memᴰ.tail rest)) (behind later))
        (Memᴰ.cases_cons (subst (Memᴰ k) (inserted_after n m ms more) member))

pub inserted_there : (n : ℕ) (ms : List ℕ) → Memᴰ n (inserted n ms)
unfolding inserted
inserted_there n [] = Memᴰ.head refl
inserted_there n (m ∷ ms) = by (inserted_there n ms) (compared n m)
  where
    by : Memᴰ n (inserted n ms) → Compared n m → Memᴰ n (inserted n (m ∷ ms))
    by behind (below less) = subst (Memᴰ n) (sym (inserted_before n m ms less)) (Memᴰ.head refl)
    by behind (equal same) = subst (Memᴰ n) (sym (inserted_same n m ms same)) (Memᴰ.head same)
    by behind (above more) = subst (Memᴰ n) (sym (inserted_after n m ms more)) (Memᴰ.tail behind)

pub inserted_keeps : (n k : ℕ) (ms : List ℕ) → Memᴰ k ms → Memᴰ k (inserted n ms)
inserted_keeps n k [] member = absurd (Memᴰ.not-nil member)
inserted_keeps n k (m ∷ ms) member = by (inserted_keeps n k ms) (compared n m)
  where
    by : (Memᴰ k ms → Memᴰ k (inserted n ms)) → Compared n m → Memᴰ k (inserted n (m ∷ ms))
    by behind (below less) = subst (Memᴰ k) (sym (inserted_before n m ms less)) (Memᴰ.tail member)
    by behind (equal same) = subst (Memᴰ k) (sym (inserted_same n m ms same)) member
    by behind (above more) =
        subst (Memᴰ k) (sym (inserted_after n m ms more))
        (⊎_elim (λ (e : k ≡ m). Memᴰ.head e) (λ (rest : Memᴰ k ms). Memᴰ.tail (behind rest)) (Memᴰ.cases_cons member))

-- in front of greater ones
rising_cons : (n : ℕ) (ns : List ℕ) → ((m : ℕ) → Memᴰ m ns → n < m) → Rising ns → Rising (n ∷ ns)
rising_cons n [] least rising = single
rising_cons n (k ∷ ns) least rising = next (least k (Memᴰ.head refl)) rising

pub inserted_rising : (n : ℕ) (ms : List ℕ) → Rising ms → Rising (inserted n ms)
unfolding inserted
inserted_rising n [] rising = single
inserted_rising n (m ∷ ms) rising = by (inserted_rising n ms (rising_rest m ms rising)) (compared n m)
  where
    by : Rising (inserted n ms) → Compared n m → Rising (inserted n (m ∷ ms))
    by behind (below less) = subst Rising (sym (inserted_before n m ms less)) (next less rising)
    by behind (equal same) = subst Rising (sym (inserted_same n m ms same)) rising
    by behind (above more) =
        subst Rising (sym (inserted_after n m ms more))
        (rising_cons m (inserted n ms)
        (λ k member. ⊎_elim (λ (e : k ≡ n). omega arith) (λ (rest : Memᴰ k ms). rising_from m k ms rising rest) (inserted_holds n k ms member))
        behind)

-- ---- a list more

module _ (ms : List ℕ) (k : ℕ) where
  forth : (ns : List ℕ) → Memᴰ k (merged ns ms) → Memᴰ k ns ⊎ Memᴰ k ms
  unfolding merged
  forth [] member = inr member
  forth (n ∷ ns) member =
      ⊎_elim (λ (e : k ≡ n). inl (Memᴰ.head e))
      (λ (later : Memᴰ k (merged ns ms)).
      ⊎_elim (λ (first : Memᴰ k ns). inl (Memᴰ.tail first)) (λ (second : Memᴰ k ms). inr second) (forth ns later))
      (inserted_holds n k (merged ns ms) member)

  from_first : (ns : List ℕ) → Memᴰ k ns → Memᴰ k (merged ns ms)
  unfolding merged
  from_first [] member = absurd (Memᴰ.not-nil member)
  from_first (n ∷ ns) member =
      ⊎_elim (λ (e : k ≡ n). subst (λ (j : ℕ). Memᴰ j (inserted n (merged ns ms))) (sym e) (inserted_there n (merged ns ms)))
      (λ (rest : Memᴰ k ns). inserted_keeps n k (merged ns ms) (from_first ns rest)) (Memᴰ.cases_cons member)

  from_second : (ns : List ℕ) → Memᴰ k ms → Memᴰ k (merged ns ms)
  unfolding merged
  from_second [] member = member
  from_second (n ∷ ns) member = inserted_keeps n k (merged ns ms) (from_second ns member)

pub merged_holds : (ns ms : List ℕ) (k : ℕ) → Memᴰ k (merged ns ms) ↔ (Memᴰ k ns ⊎ Memᴰ k ms)
merged_holds ns ms k = (forth ms k ns, λ either. ⊎_elim (from_first ms k ns) (from_second ms k ns) either)

pub merged_rising : (ns ms : List ℕ) → Rising ms → Rising (merged ns ms)
unfolding merged
merged_rising [] ms rising = rising
merged_rising (n ∷ ns) ms rising = inserted_rising n (merged ns ms) (merged_rising ns ms rising)

-- ---- all lists

pub union_rising : (lists : List (List ℕ)) → Rising (union_of lists)
unfolding union_of
union_rising [] = empty
union_rising (list ∷ lists) = merged_rising list (union_of lists) (union_rising lists)

-- of one list it is that list
pub union_one : (list : List ℕ) → Rising list → union_of (list ∷ []) ≡ list
unfolding union_of
union_one list rising =
    rising_same (merged list []) list (merged_rising list [] empty) rising
    (λ n member.
    ⊎_elim (λ (first : Memᴰ n list). first) (λ (second : Memᴰ n []). absurd (Memᴰ.not-nil second)) ((merged_holds list [] n).0 member))
    (λ n member. (merged_holds list [] n).1 (inl member))
