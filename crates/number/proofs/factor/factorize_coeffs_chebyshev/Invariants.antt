use mathlib.Core.Path.{◌≡◌}
use Prim.Native.Nat.{◌≤◌, ◌-◌, ◌+◌, ◌%◌}
use lib.ListN.{length}
use Rattle.number.proofs.Cutting.{cut_to}
use Rattle.number.proofs.factor.factorize_coeffs_chebyshev.Given as goal

abbrev pub invariant-loop-j : goal.invariant-loop-j
invariant-loop-j g l = let o = g.C.Coefficient.numbers.ops in record {
  odd : l.j % 2 ≡ 1;
  within : l.j + l.p ≤ length l.initial.c;
  before : l.c ≡ cut_to o l.p l.initial.c o.zero (l.j - 1);
}
