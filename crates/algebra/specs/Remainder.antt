-- Remainders of whole numbers by m, and their operations.
use Rattle.std.specs.Prelude.{ℕ, suc, ◌+◌, ◌-◌, ◌*◌, ◌%◌, ℤ, pos, negsuc}
use Rattle.algebra.specs.Operations.{Operations}

-- the remainder by m, from 0 to m - 1
unfoldable pub rem : (m : ℕ) → ℤ → ℕ
rem m (pos n) = n % m
rem m (negsuc n) = m - suc (n % m)

-- the operations modulo m, on plain numbers; a ring only on those below m
abbrev pub remainders : (m : ℕ) → Operations ℕ
remainders m = record {
  zero = 0;
  one = 1 % m;
  add = λ a b. (a + b) % m;
  sub = λ a b. (a + (m - b)) % m;
  mul = λ a b. (a * b) % m;
  neg = λ a. (m - a) % m;
}
