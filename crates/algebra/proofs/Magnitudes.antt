-- Magnitudes of sums, differences and products of whole numbers, and their sums over lists. By the signs, and by recursion on the list.
use mathlib.Core.Path.{◌≡◌, refl, sym, ◌∙◌, ap}
use mathlib.Core.Bool.{Bool, true, false, cond}
use mathlib.Core.List.{List, [], ◌∷◌, ◌++◌, map, reverse, reverse-cons}
use Prim.Native.Nat.{ℕ, zero, suc, ◌+◌, ◌*◌, ◌-◌, ◌≤◌, ◌<◌}
use native.Mathlib.Omega.{arith}
use lib.Dec.{T, ltb, ltb→lt}
use lib.IntN.{ℤ, pos, negsuc, neg_ℤ, nat_abs, sub_ℕ, ◌+ℤ◌, ◌-ℤ◌, ◌*ℤ◌}
use lib.ListN.{length, get_or, take, drop, take-append-drop}
use Rattle.algebra.specs.Magnitude.{sum_abs}
use Rattle.algebra.specs.Operations.{double, whole_ops}

-- ---- of one number

-- the opposite has the same
pub abs_neg : (a : ℤ) → nat_abs (neg_ℤ a) ≡ nat_abs a
abs_neg (pos zero) = refl
abs_neg (pos (suc n)) = refl
abs_neg (negsuc n) = refl

abs-subℕ : (a b : ℕ) → nat_abs (sub_ℕ a b) ≤ a + b
abs-subℕ a b = by_order (ltb a b) (λ t. ltb→lt a b t)
  where
    by_order : (t : Bool) → (T t → a < b) → nat_abs (cond t (negsuc (b - suc a)) (pos (a - b))) ≤ a + b
    by_order true h = let k : a < b = h tt in omega arith
    by_order false h = omega arith

-- of a sum
pub abs_add : (a b : ℤ) → nat_abs (a +ℤ b) ≤ nat_abs a + nat_abs b
abs_add (pos a) (pos b) = omega arith
abs_add (pos a) (negsuc b) = abs-subℕ a (suc b)
abs_add (negsuc a) (pos b) = omega (arith, abs-subℕ b (suc a))
abs_add (negsuc a) (negsuc b) = omega arith

-- of a difference
pub abs_sub : (a b : ℤ) → nat_abs (a -ℤ b) ≤ nat_abs a + nat_abs b
abs_sub a b = omega (arith, abs_add a (neg_ℤ b), abs_neg b)

-- of a product
pub abs_mul : (a b : ℤ) → nat_abs (a *ℤ b) ≡ nat_abs a * nat_abs b
abs_mul (pos a) (pos b) = refl
abs_mul (pos a) (negsuc b) = abs_neg (pos (a * suc b))
abs_mul (negsuc a) (pos b) = abs_neg (pos (suc a * b))
abs_mul (negsuc a) (negsuc b) = refl

-- of the double
pub abs_double : (a : ℤ) → nat_abs (double whole_ops a) ≡ 2 * nat_abs a
abs_double a = abs_mul (pos 2) a

-- ---- of a list

-- of two lists joined
pub sum_abs_append : (xs ys : List ℤ) → sum_abs (xs ++ ys) ≡ sum_abs xs + sum_abs ys
unfolding sum_abs
sum_abs_append [] ys = omega arith
sum_abs_append (x ∷ xs) ys = omega (arith, sum_abs_append xs ys)

-- the order does not matter
pub sum_abs_reverse : (xs : List ℤ) → sum_abs (reverse xs) ≡ sum_abs xs
unfolding sum_abs
sum_abs_reverse [] = refl
sum_abs_reverse (x ∷ xs) = rw (reverse-cons, sum_abs_append) (omega (arith, sum_abs_reverse xs))

-- all doubled
pub sum_abs_double : (xs : List ℤ) → sum_abs (map (double whole_ops) xs) ≡ 2 * sum_abs xs
unfolding sum_abs
sum_abs_double [] = refl
sum_abs_double (x ∷ xs) = omega (arith, sum_abs_double xs, abs_double x)

-- the first p and the others
pub sum_abs_parts : (p : ℕ) (c : List ℤ) → sum_abs (take p c) + sum_abs (drop p c) ≡ sum_abs c
sum_abs_parts p c = sym (sum_abs_append (take p c) (drop p c)) ∙ ap sum_abs (take-append-drop p c)

-- a first part has no more than the whole
pub sum_abs_take : (p : ℕ) (c : List ℤ) → sum_abs (take p c) ≤ sum_abs c
sum_abs_take p c = omega (arith, sum_abs_parts p c)

-- nor has a last part
pub sum_abs_drop : (p : ℕ) (c : List ℤ) → sum_abs (drop p c) ≤ sum_abs c
sum_abs_drop p c = omega (arith, sum_abs_parts p c)

-- one more coefficient
pub sum_abs_take_suc : (c : List ℤ) (i : ℕ) → i < length c → sum_abs (take (suc i) c) ≡ sum_abs (take i c) + nat_abs (get_or c i (pos 0))
unfolding sum_abs
sum_abs_take_suc [] i h = absurd (omega arith)
sum_abs_take_suc (x ∷ c) zero h = omega arith
sum_abs_take_suc (x ∷ c) (suc i) h = omega (arith, sum_abs_take_suc c i (omega arith))

-- each element is no more than the sum
pub abs_get_d : (c : List ℤ) (i : ℕ) → nat_abs (get_or c i (pos 0)) ≤ sum_abs c
unfolding sum_abs
abs_get_d [] i = omega arith
abs_get_d (x ∷ xs) zero = omega arith
abs_get_d (x ∷ xs) (suc i) = omega (arith, abs_get_d xs i)
