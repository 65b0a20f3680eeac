use Rattle.std.proofs.Common.{◌≡◌, drop}
use Rattle.walk.specs.Load.{sum_from}
use Rattle.walk.specs.inside.Powers.{powers_of}
use Rattle.walk.proofs.sums.sum_list.Given as goal

abbrev pub invariant-loop-j : goal.invariant-loop-j
invariant-loop-j g l =
    let 𝓡 = g.A.Arithmetic.rules l.arithmetic in
    sum_from 𝓡 l.parity (powers_of l.powers) l.j l.sum (drop l.j l.list) ≡ sum_from 𝓡 l.parity (powers_of l.powers) 0 𝓡.nothing l.list
