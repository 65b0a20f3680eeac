-- What a store in the array does to the waiting values that it holds: those before it stay. By recursion on their number.
use mathlib.Core.Path.{◌≡◌, refl, ap, ap₂}
use mathlib.Core.Bool.{Bool}
use mathlib.Core.List.{List, ◌∷◌}
use mathlib.Core.Option.{some, none}
use Prim.Native.Nat.{ℕ, zero, suc, ◌+◌, ◌-◌, ◌≤◌, ◌<◌}
use native.Mathlib.Numerals.{add-one}
use native.Mathlib.Omega.{arith}
use borrow.Author.Tests.{lt-ltb, le-ltb}
use lib.ListN.{length, get_or, set}
use lib.Seq.{get_or-set_same, get_or-set_other}
use Rattle.walk.specs.Limits.{waiting_limit}
use Rattle.walk.specs.Rules.{Rules}
use Rattle.walk.specs.Load.{push_of}
use Rattle.walk.specs.Combine.{join_of}
use Rattle.walk.specs.Walk.{one_left}
use Rattle.walk.specs.inside.Waits.{last_first, length_last_first}

pub length_stack : (values : List ℕ) (k : ℕ) → length (last_first values k) ≡ k
length_stack values k = length_last_first values k

-- a store from place k on leaves the first k
stack_set : (values : List ℕ) (i v k : ℕ) → k ≤ i → last_first (set values i v) k ≡ last_first values k
unfolding last_first
stack_set values i v zero h = refl
stack_set values i v (suc k) h = ap₂ ◌∷◌ (get_or-set_other values i k v 0 (omega arith)) (stack_set values i v k (omega arith))

-- a store at place k, and one more value
stack_push : (values : List ℕ) (k v : ℕ) → k < length values → last_first (set values k v) (suc k) ≡ v ∷ last_first values k
unfolding last_first
stack_push values k v h = ap₂ ◌∷◌ (get_or-set_same values k v 0 h) (stack_set values k v k (omega arith))

pub push_is : (values : List ℕ) (k v : ℕ) → k < length values → k < waiting_limit
    → some (last_first (set values k v) (k + 1)) ≡ push_of (last_first values k) v
unfolding push_of
push_is values k v h g = rw (length_stack values k, lt-ltb k waiting_limit g, add-one) (ap some (stack_push values k v h))

pub push_full : (values : List ℕ) (k v : ℕ) → waiting_limit ≤ k → none ≡ push_of (last_first values k) v
unfolding push_of
push_full values k v g = rw (length_stack values k, le-ltb k waiting_limit g)

module _ (𝓡 : Rules ℕ) (plain : Bool) (p : ℕ) (values : List ℕ) where
  -- high and low, taken from the end, and one value pushed
  joined : (k : ℕ) → k < length values
      → some (last_first (set values k (𝓡.combine plain p (get_or values (suc k) 0) (get_or values k 0))) (suc k)) ≡ join_of 𝓡 plain p
      (last_first values (suc (suc k)))
  unfolding join_of last_first
  joined k h = ap some (stack_push values k _ h)

  pub join_is : (k : ℕ) → 2 ≤ k → k ≤ length values
      → some (last_first (set values (k - 2) (𝓡.combine plain p (get_or values (k - 1) 0) (get_or values (k - 2) 0))) (k - 1)) ≡ join_of 𝓡 plain p
      (last_first values k)
  join_is zero h g = absurd (omega arith)
  join_is (suc zero) h g = absurd (omega arith)
  join_is (suc (suc k)) h g =
      let two : suc (suc k) - 2 ≡ k = omega arith in
      let one : suc (suc k) - 1 ≡ suc k = omega arith in
      rw (two, one) (joined k (omega arith))

  pub join_few : (k : ℕ) → k < 2 → none ≡ join_of 𝓡 plain p (last_first values k)
  unfolding join_of last_first
  join_few zero h = refl
  join_few (suc zero) h = refl
  join_few (suc (suc k)) h = absurd (omega arith)

-- the value that is left
pub left_one : (values : List ℕ) (k : ℕ) → k ≡ 1 → one_left (last_first values k) ≡ some (get_or values 0 0)
unfolding one_left last_first
left_one values k e = rw e

pub left_other : (values : List ℕ) (k : ℕ) → (k ≡ 1 → ⊥) → one_left (last_first values k) ≡ none
unfolding one_left last_first
left_other values zero e = refl
left_other values (suc zero) e = absurd (e refl)
left_other values (suc (suc k)) e = refl
