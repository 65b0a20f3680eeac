-- `rebuild::undo::undo_chebyshev` meets its contract. The turns so far are a cut over other operations: low gains half of what high has, and high is
-- halved. Halves and numbers that stay fit as they came, so that the tests of the turns that are left decide whether the cut can be undone.
use mathlib.Core.Path.{sym, ◌∙◌}
use Prim.Native.Nat.{◌<◌, ◌-◌}
use native.Mathlib.Omega.{arith}
use borrow.Author.Tests.{eq-eqb, ne_eqb}
use lib.IntN.{pos}
use Rattle.number.proofs.Cutting.{cut_none, cut_all}
use Rattle.rebuild.proofs.Machine.{even_bits}
use Rattle.rebuild.proofs.Undoing.{undoing, Turn, rest_all, high, near_half, read_high, turn_written, way_end, way_odd, way_beyond, way_on}
use Rattle.rebuild.proofs.undo.undo_chebyshev.Goals as goal
use Rattle.rebuild.proofs.undo.undo_chebyshev.Goals.{In-loop-j}

turn : (c : In-loop-j) → Turn c.args.p c.loop-j.j c.args.c.now c.loop-j.c
turn c = record {
  inside = c.requires.0;
  half_way = c.requires.1.0;
  fits = c.requires.1.1;
  started = omega arith;
  test = c.loop-j-test.true;
  before = c.loop-j.invariant.before;
  passed = c.loop-j.invariant.passed;
}

pub loop-j-init : goal.loop-j-init
loop-j-init c = record {
  before = sym (cut_none undoing c.args.p c.args.c.now (pos 0) c.requires.0);
  passed = rest_all c.args.p c.args.c.now c.requires.1.1;
}

pub returns-then-doubled-ne0 : goal.returns-then-doubled-ne0
returns-then-doubled-ne0 c =
    let t = turn (goal.at.returns-then-doubled-ne0 c).In-loop-j in
    way_odd t (sym (even_bits (high t)) ∙ ne_eqb _ 0 (rw (read_high t) at c.if-doubled-ne0.true))

pub plus_half-requires : goal.plus_half-requires
plus_half-requires c = near_half (turn (goal.at.plus_half-requires c).In-loop-j)

pub returns-in_default : goal.returns-in_default
returns-in_default c =
    let t = turn (goal.at.returns-in_default c).In-loop-j in
    way_beyond t (sym (even_bits (high t)) ∙ eq-eqb _ 0 (rw (read_high t) at c.if-doubled-ne0.false)) c.in_default.ensures

pub loop-j-preserved : goal.loop-j-preserved
loop-j-preserved c =
    let t = turn (goal.at.loop-j-preserved c).In-loop-j in
    let held = c.in-Some.ensures in
    record {
      before = turn_written t held.0 held.1;
      passed = way_on t (sym (even_bits (high t)) ∙ eq-eqb _ 0 (rw (read_high t) at c.if-doubled-ne0.false)) held.0;
    }

pub returns : goal.returns
returns c =
    let p = c.args.p in
    let j = c.loop-j.j in
    let started : 0 < j = omega arith in
    let loop = c.loop-j.invariant in
    way_end p j c.args.c.now loop.passed started (omega arith)
    (loop.before ∙ cut_all undoing p c.args.c.now (pos 0) c.requires.0 (j - 1) (omega arith))
