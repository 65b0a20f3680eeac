-- The loop's invariant: the sum so far with the places from here on is the whole. A place that is refused refuses the whole.
use Rattle.std.proofs.Common.{◌≡◌, ℕ, pos, get_or, w64, to_z, of_z, rules, sym, ◌∙◌, ap}
use Rattle.std.proofs.Math.Facts.{to_z-of_z}
use Rattle.walk.specs.Load.{sum_from}
use Rattle.walk.specs.inside.Powers.{powers_of}
use Rattle.walk.proofs.SumLaws.{sum_missing, sum_next, sum_done}
use Rattle.walk.proofs.sums.sum_list.Goals as goal

pub loop-j-init : goal.loop-j-init
loop-j-init g c =
    let a = c.args in
    ap (λ (n : ℕ). sum_from (g.A.Arithmetic.rules a.arithmetic) a.parity (powers_of a.powers.now) 0 n a.list.now)
    (g.met.A.Arithmetic.laws a.arithmetic).nothing

pub returns-in_err-sum : goal.returns-in_err-sum
returns-in_err-sum g c =
    let a = c.args in
    let 𝓡 = g.A.Arithmetic.rules a.arithmetic in
    let powers = powers_of a.powers.now in
    let l = c.loop-j in
    let z = get_or a.list.now l.j (pos 0) in
    let same : to_z w64 (of_z w64 z) ≡ z = to_z-of_z {w = w64} {z = z} (search rules) in
    rw c.from_residual.ensures
    (sym (sum_missing 𝓡 a.parity powers a.list.now l.j l.sum c.loop-j-test.true (sym (rw same at c.in_err-sum.ensures))) ∙ l.invariant)

pub loop-j-preserved : goal.loop-j-preserved
loop-j-preserved g c =
    let a = c.args in
    let 𝓡 = g.A.Arithmetic.rules a.arithmetic in
    let powers = powers_of a.powers.now in
    let l = c.loop-j in
    let z = get_or a.list.now l.j (pos 0) in
    let same : to_z w64 (of_z w64 z) ≡ z = to_z-of_z {w = w64} {z = z} (search rules) in
    sym (sum_next 𝓡 a.parity powers a.list.now l.j l.sum c.in_ok-sum.sum c.loop-j-test.true (sym (rw same at c.in_ok-sum.ensures))) ∙ l.invariant

pub returns : goal.returns
returns g c =
    let a = c.args in
    let l = c.loop-j in
    sym (sum_done (g.A.Arithmetic.rules a.arithmetic) a.parity (powers_of a.powers.now) a.list.now l.j l.sum c.loop-j-test.false) ∙ l.invariant
