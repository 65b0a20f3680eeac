use Rattle.conversion.specs.inside.Converting.{Summing}
use Rattle.conversion.proofs.Summing.{of_parity}
use Rattle.conversion.proofs.sums.new_coeffs.Given as goal

abbrev pub invariant-loop-n : goal.invariant-loop-n
invariant-loop-n l = Summing l.to l.c l.n (of_parity l.n l.even l.odd) (of_parity l.n l.odd l.even) l.sums
