-- `number::factor::factorize_coeffs_chebyshev` meets its contract. After the turns below j the list is `cut_to` of j - 1 coefficients: the
-- pairs of the turns from j on are still as they came, so two turns write the next ones. With p < length ≤ 2p the turns reach every
-- coefficient above p, the last of an odd number by itself, and every partner p - j exists.
use mathlib.Core.Path.{refl, sym, ◌∙◌}
use Prim.Native.Nat.{◌-◌, ◌+◌}
use native.Mathlib.Omega.{arith}
use Rattle.number.proofs.Cutting.{Turned, turned_at_test, turned_by_two, turned_pair, turned_last, turned_all, cut_none, turn_two, pair_each}
use Rattle.number.proofs.factor.factorize_coeffs_chebyshev.Goals as goal
use Rattle.number.proofs.factor.factorize_coeffs_chebyshev.Goals.{else-loop-j-test, then-loop-j-test+else-j-end-j-gt2}

pub loop-j-init : goal.loop-j-init
loop-j-init g c =
    let o = g.C.Coefficient.numbers.ops in
    record { odd = refl; within = omega arith; before = sym (cut_none o c.args.p c.args.c.now o.zero c.requires.0) }

pub cut_two-requires : goal.cut_two-requires
cut_two-requires g c =
    let o = g.C.Coefficient.numbers.ops in
    let inv = c.loop-j.invariant in
    let each = pair_each o g.C.Coefficient.CanCut o.zero c.args.p c.loop-j.j c.args.c.now c.loop-j.c
    c.requires.0 c.requires.1.0 (omega arith) inv.before c.requires.1.1 in
    let p = c.args.p in
    let j = c.loop-j.j in
    let first = each j (p - j) (p + j) (omega arith) (omega arith) (omega arith) (omega arith) in
    let second = each (j + 1) (p - j - 1) (p + j + 1) (omega arith) (omega arith) (omega arith) (omega arith) in
    (omega arith, (omega arith, (omega arith, (first, second))))

pub loop-j-preserved : goal.loop-j-preserved
loop-j-preserved g c =
    let o = g.C.Coefficient.numbers.ops in
    let inv = c.loop-j.invariant in
    record {
      odd = omega arith;
      within = omega arith;
      before = c.cut_two.ensures ∙ turn_two o o.zero _ _ _ _ c.requires.0 c.requires.1.0 (omega arith) inv.before (omega arith);
    }

pub cut_one-requires : goal.cut_one-requires
cut_one-requires g c =
    let o = g.C.Coefficient.numbers.ops in
    let inv = c.loop-j.invariant in
    let end : Turned o o.zero c.args.p c.args.c.now c.loop-j-test.c = elim c.loop-j-test.branch [
      | else-loop-j-test w ↦ turned_at_test o o.zero _ c.loop-j.j _ _ c.requires.0 c.requires.1.0 inv.odd inv.before (omega arith) inv.within w.c-is
      | then-loop-j-test+else-j-end-j-gt2 w ↦
          turned_by_two o o.zero _ c.loop-j.j _ _ c.requires.0 c.requires.1.0 inv.odd inv.before (omega arith) (omega arith) (w.c-is ∙ w.cut_two.ensures)
    ] in
    (omega arith, (omega arith, turned_pair o o.zero _ _ _ c.requires.0 c.requires.1.0 end c.if-n-eq0.true g.C.Coefficient.CanCut c.requires.1.1))

pub returns-then-n-eq0 : goal.returns-then-n-eq0
returns-then-n-eq0 g c =
    let o = g.C.Coefficient.numbers.ops in
    let inv = c.loop-j.invariant in
    let end : Turned o o.zero c.args.p c.args.c.now c.loop-j-test.c = elim c.loop-j-test.branch [
      | else-loop-j-test w ↦ turned_at_test o o.zero _ c.loop-j.j _ _ c.requires.0 c.requires.1.0 inv.odd inv.before (omega arith) inv.within w.c-is
      | then-loop-j-test+else-j-end-j-gt2 w ↦
          turned_by_two o o.zero _ c.loop-j.j _ _ c.requires.0 c.requires.1.0 inv.odd inv.before (omega arith) (omega arith) (w.c-is ∙ w.cut_two.ensures)
    ] in
    c.cut_one.ensures ∙ turned_last o o.zero _ _ _ c.requires.0 c.requires.1.0 end c.if-n-eq0.true

pub returns-else-n-eq0 : goal.returns-else-n-eq0
returns-else-n-eq0 g c =
    let o = g.C.Coefficient.numbers.ops in
    let inv = c.loop-j.invariant in
    let end : Turned o o.zero c.args.p c.args.c.now c.loop-j-test.c = elim c.loop-j-test.branch [
      | else-loop-j-test w ↦ turned_at_test o o.zero _ c.loop-j.j _ _ c.requires.0 c.requires.1.0 inv.odd inv.before (omega arith) inv.within w.c-is
      | then-loop-j-test+else-j-end-j-gt2 w ↦
          turned_by_two o o.zero _ c.loop-j.j _ _ c.requires.0 c.requires.1.0 inv.odd inv.before (omega arith) (omega arith) (w.c-is ∙ w.cut_two.ensures)
    ] in
    turned_all o o.zero _ _ _ c.requires.0 c.requires.1.0 end c.if-n-eq0.false
