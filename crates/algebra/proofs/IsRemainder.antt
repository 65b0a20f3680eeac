-- `rem` gives the remainder. For n from 0 up, n = (n / m)·m + n % m; and for -(n + 1), with d = n / m and e = n % m, it is -(d + 1)·m + (m - (e + 1)).
-- A multiple of m has the remainder 0, so a number q·m + r with r below m has the remainder r, and no other.
use mathlib.Core.Path.{◌≡◌, refl, sym, ◌∙◌, ap}
use mathlib.Core.List.{[], ◌∷◌}
use Prim.Native.Nat.{ℕ, suc, ◌+◌, ◌*◌, ◌-◌, ◌%◌, ◌/◌, ◌<◌}
use native.Mathlib.Nat as N
use native.Mathlib.Nat.{mod-lt, mod-eq_of_lt, mod_self, zero-mod, mod-add-div'}
use native.Mathlib.Omega.{arith}
use lib.IntN.{ℤ, pos, negsuc, neg_ℤ, ◌+ℤ◌, ◌*ℤ◌, pos-+ℤ-pos, pos-*ℤ-pos, negsuc-*ℤ-pos}
use Rattle.algebra.specs.IsRemainder.{IsRemainder, RemaindersTold}
use Rattle.algebra.specs.Remainder.{rem}
use Rattle.algebra.proofs.Integers.{integers}
use Rattle.algebra.proofs.Remainders.{rem_lt, rem_add, rem_mul}
use Rattle.algebra.proofs.Solve.{from, ◌:+◌, :-◌, ◌:=◌, num}

-- where a + b = s, -a is -s + b
less : (a b s : ℕ) → a + b ≡ s → neg_ℤ (pos a) ≡ neg_ℤ (pos s) +ℤ pos b
less a b s is =
    from integers (pos a ∷ pos b ∷ pos s ∷ []) (λ a b s. :- a := :- s :+ b) (λ a b s. (num 1, s := a :+ b) ∷ [])
    refl (ap pos (sym is) ∙ sym (pos-+ℤ-pos a b), tt)

is_remainder : (m : ℕ) → 0 < m → (z : ℤ) → IsRemainder m z (rem m z)
unfolding rem
is_remainder m positive (pos n) = record {
  below = rem_lt m positive (pos n);
  quotient = pos (n / m);
  whole = sym (ap (◌+ℤ pos (n % m)) (pos-*ℤ-pos (n / m) m) ∙ pos-+ℤ-pos (n / m * m) (n % m) ∙ ap pos (N.add_comm (n / m * m) (n % m) ∙ mod-add-div' n m));
}
is_remainder m positive (negsuc n) = record {
  below = rem_lt m positive (negsuc n);
  quotient = negsuc (n / m);
  whole = less (suc n) (m - suc (n % m)) (suc (n / m) * m) sum ∙ ap (◌+ℤ pos (m - suc (n % m))) (sym (negsuc-*ℤ-pos (n / m) m));
}
  where
    sum : suc n + (m - suc (n % m)) ≡ suc (n / m) * m
    sum = omega (arith, mod-lt n positive, mod-add-div' n m)

-- a multiple of m has the remainder 0
rem_multiple : (m : ℕ) → 0 < m → (q : ℤ) → rem m (q *ℤ pos m) ≡ 0
unfolding rem
rem_multiple m positive q =
    rem_mul m positive q (pos m) ∙ ap (λ r. (rem m q * r) % m) (mod_self m) ∙ ap (◌% m) (N.mul-zero (rem m q)) ∙ zero-mod m

only_remainder : (m : ℕ) → 0 < m → (z : ℤ) (r : ℕ) → IsRemainder m z r → r ≡ rem m z
unfolding rem
only_remainder m positive z r is =
    sym (ap (rem m) is.whole
    ∙ rem_add m positive (is.quotient *ℤ pos m) (pos r)
    ∙ ap (λ k. (k + r % m) % m) (rem_multiple m positive is.quotient)
    ∙ ap (λ k. (0 + k) % m) (mod-eq_of_lt is.below)
    ∙ ap (◌% m) (N.zero-add r)
    ∙ mod-eq_of_lt is.below)

pub remainders_told : RemaindersTold
remainders_told m positive z = record { is = is_remainder m positive z; only = only_remainder m positive z }
