-- Remainders by a modulus: of a whole number, and twice a number.
use mathlib.Core.Path.{◌≡◌, refl, sym}
use Prim.Native.Nat.{ℕ, suc, ◌-◌, ◌*◌, ◌%◌}
use native.Mathlib.Nat.{mod-eq_of_lt}
use native.Mathlib.Omega.{arith}
use lib.IntN.{ℤ, pos, negsuc}
use Rattle.std.specs.Prelude.{unsigned_abs}
use Rattle.std.specs.Int.{int_rem_euclid}
use Rattle.algebra.specs.Operations.{double}
use Rattle.algebra.specs.Remainder.{rem, remainders}
use Rattle.algebra.proofs.Remainders.{mod_mul_mod}
use Rattle.walk.specs.inside.Modulus.{IsModulus}

-- the least remainder that is not below 0
pub euclid_is : (m : ℕ) (x : ℤ) → unsigned_abs (int_rem_euclid x (pos m)) ≡ rem m x
unfolding rem
euclid_is m (pos n) = refl
euclid_is m (negsuc n) = let less : m - 1 - n % m ≡ m - suc (n % m) = omega arith in less

pub twice : (a : ℕ) {m : ℕ} → IsModulus m → (2 * a) % m ≡ double (remainders m) a
twice a {m} h =
    let e : 1 % m ≡ 1 = mod-eq_of_lt (omega arith) in
    rw e (sym (mod_mul_mod 2 a m))
