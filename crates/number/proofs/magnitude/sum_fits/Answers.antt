-- `number::magnitude::sum_fits` meets its contract. The fold gives 2^30 + 1 less all magnitudes, or 0 where they are more, so something is left exactly
-- if they sum to at most 2^30.
use mathlib.Core.Path.{◌≡◌, refl, sym, ◌∙◌}
use mathlib.Core.Bool.{Bool, true, false}
use mathlib.Core.List.{List, [], ◌∷◌}
use Prim.Native.Nat.{ℕ, ◌+◌, ◌-◌}
use native.Mathlib.Omega.{arith}
use borrow.Author.Tests.{ltb-true, ltb-false, le-leb, lt-leb}
use lib.Dec.{leb, ltb}
use lib.IntN.{ℤ, nat_abs}
use Rattle.std.proofs.Common.{rules}
use Rattle.std.specs.List.{fold}
use Rattle.algebra.specs.Magnitude.{sum_abs}
use Rattle.number.specs.Limits.{sum_limit}
use Rattle.number.proofs.magnitude.sum_fits.Goals as goal

abbrev taken : ℕ → ℤ → ℕ
taken left x = left - nat_abs x

-- the magnitudes taken off, one after the other
all_taken : (left : ℕ) (c : List ℤ) → fold taken left c ≡ left - sum_abs c
unfolding sum_abs
all_taken left [] = omega arith
all_taken left (x ∷ c) = omega (arith, all_taken (left - nat_abs x) c)

-- something is left of limit + 1 exactly if the sum is at most the limit
some_left : (limit sum left : ℕ) → left ≡ limit + 1 - sum → ltb 0 left ≡ leb sum limit
some_left limit sum left e = by_test (ltb 0 left) refl
  where
    by_test : (b : Bool) → ltb 0 left ≡ b → b ≡ leb sum limit
    by_test true h = sym (le-leb sum limit (omega (arith, ltb-true 0 left h, e)))
    by_test false h = sym (lt-leb sum limit (omega (arith, ltb-false 0 left h, e)))

pub returns : goal.returns
returns c =
    let coefficients = c.args.c.now in
    let folded : c.fold-left.result ≡ fold taken (sum_limit + 1) coefficients = search rules in
    some_left sum_limit (sum_abs coefficients) c.fold-left.result (folded ∙ all_taken (sum_limit + 1) coefficients)
