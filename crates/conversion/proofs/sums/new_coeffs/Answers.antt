-- `conversion::sums::new_coeffs` meets its contract. Rows 0 and 1 have a single 1. At each turn row n, the even or the odd one by n's parity, has been added
-- times its coefficient's quotient to the sums of the first n, and row n + 2 takes its place, if there is a coefficient for it.
use mathlib.Core.Path.{◌≡◌, ◌∙◌, ap}
use Prim.Native.Nat.{◌+◌, ◌%◌}
use native.Mathlib.Omega.{arith}
use borrow.Author.Tests.{ltb-true}
use mathlib.Core.List.{List}
use lib.IntN.{ℤ}
use mir.Syntax.{w64}
use mir.Val.{to_z, of_z}
use borrow.Author.Rules.{rules}
use Rattle.number.proofs.Signed.{back}
use Rattle.bases.specs.Convert.{quotient_of}
use Rattle.conversion.specs.inside.Converting.{places_of, with_row, Summing}
use Rattle.conversion.proofs.Summing.{none_summed, all_summed, row_fits, next_fits, row_replaced, of_even, of_odd}
use Rattle.conversion.proofs.sums.new_coeffs.Goals as goal
use Rattle.conversion.proofs.sums.new_coeffs.Goals.{After-quotient-q, then-n-eq0, else-n-eq0}

-- coefficient n's quotient, as the machine has it
quotient_is : (c : After-quotient-q) → to_z w64 (of_z w64 c.quotient-q.result) ≡ quotient_of c.args.to c.loop-n.n (places_of c.args.c.now c.loop-n.n)
quotient_is c =
    let x = places_of c.args.c.now c.loop-n.n in
    let read : to_z w64 (of_z w64 x) ≡ x = search rules in
    back c.quotient-q.type_inv (c.quotient-q.ensures ∙ ap (quotient_of c.args.to c.loop-n.n) read)

-- at an even n the even row is row n, and at an odd one the odd row
even_now : (c : After-quotient-q) → c.loop-n.n % 2 ≡ 0 → Summing c.args.to c.args.c.now c.loop-n.n c.loop-n.even c.loop-n.odd c.loop-n.sums
even_now c even =
    rw (of_even c.loop-n.n c.loop-n.even c.loop-n.odd even, of_even c.loop-n.n c.loop-n.odd c.loop-n.even even) at c.loop-n.invariant

odd_now : (c : After-quotient-q) → c.loop-n.n % 2 ≡ 1 → Summing c.args.to c.args.c.now c.loop-n.n c.loop-n.odd c.loop-n.even c.loop-n.sums
odd_now c odd =
    rw (of_odd c.loop-n.n c.loop-n.even c.loop-n.odd odd, of_odd c.loop-n.n c.loop-n.odd c.loop-n.even odd) at c.loop-n.invariant

pub loop-n-init : goal.loop-n-init
loop-n-init c = rw c.requires.1 (none_summed c.args.to c.args.c.now c.requires.0)

pub add_and_advance-requires : goal.add_and_advance-requires
add_and_advance-requires c =
    let here = (goal.at.add_and_advance-requires c).After-quotient-q in
    let now = even_now here (omega (arith, c.if-n-eq0.true)) in
    (rw (quotient_is here) (row_fits now c.loop-n-test.true), λ needed. next_fits now (omega (arith, ltb-true _ _ needed)))

pub add_and_advance-requires-else-n-eq0 : goal.add_and_advance-requires-else-n-eq0
add_and_advance-requires-else-n-eq0 c =
    let here = (goal.at.add_and_advance-requires-else-n-eq0 c).After-quotient-q in
    let now = odd_now here (omega (arith, c.if-n-eq0.false)) in
    (rw (quotient_is here) (row_fits now c.loop-n-test.true), λ needed. next_fits now (omega (arith, ltb-true _ _ needed)))

pub loop-n-preserved : goal.loop-n-preserved
loop-n-preserved c =
    let here = (goal.at.loop-n-preserved c).After-quotient-q in
    let n = c.loop-n.n in
    let even = c.if-n-eq0.even in
    let odd = c.if-n-eq0.odd in
    let added = λ (row : List ℤ). ap (λ (q : ℤ). with_row q row c.loop-n.sums) (quotient_is here) in
    elim c.if-n-eq0.branch [
      | then-n-eq0 w ↦
          let now = even_now here (omega (arith, w.if-n-eq0.true)) in
          let next_odd : (n + 1) % 2 ≡ 1 = omega (arith, w.if-n-eq0.true) in
          let later = row_replaced now c.loop-n-test.true (w.sums-is ∙ w.add_and_advance.ensures.0 ∙ added c.loop-n.even)
          (w.even-is ∙ w.add_and_advance.ensures.1) in
          rw (of_odd (n + 1) even odd next_odd, of_odd (n + 1) odd even next_odd, w.odd-is) later
      | else-n-eq0 w ↦
          let now = odd_now here (omega (arith, w.if-n-eq0.false)) in
          let next_even : (n + 1) % 2 ≡ 0 = omega (arith, w.if-n-eq0.false) in
          let later = row_replaced now c.loop-n-test.true (w.sums-is ∙ w.add_and_advance-else-n-eq0.ensures.0 ∙ added c.loop-n.odd)
          (w.odd-is ∙ w.add_and_advance-else-n-eq0.ensures.1) in
          rw (of_even (n + 1) even odd next_even, of_even (n + 1) odd even next_even, w.even-is) later
    ]

pub returns : goal.returns
returns c = all_summed c.loop-n.invariant c.loop-n-test.false
