-- `texts::plan::put_lines` meets its contract. The loop's invariant: the lines before line k are put, and end at `at`, which is not behind the end of
-- the whole text. Each turn puts the next, and the count is that of the lines.
use native.Mathlib.Omega.{arith}
use Rattle.texts.proofs.LineLaws.{lines_length}
use Rattle.texts.proofs.LinesPut.{lines_start, line_begins, lines_more, lines_end}
use Rattle.texts.proofs.plan.put_lines.Goals as goal

pub loop-k-init : goal.loop-k-init
loop-k-init c = lines_start _ _

pub put_line-at-requires : goal.put_line-at-requires
put_line-at-requires c =
    line_begins _ _ c.loop-k.k c.loop-k.invariant c.requires

pub loop-k-preserved : goal.loop-k-preserved
loop-k-preserved c =
    lines_more _ _ c.loop-k.k c.loop-k.invariant c.put_line-at.ensures

pub returns : goal.returns
returns c =
    let a = c.args in
    let all = lines_length a.head a.c.now a.bounds.now a.steps.now in
    lines_end _ _ c.loop-k.k c.loop-k.invariant (omega (arith, c.line_count-count.ensures, c.loop-k-test.false))
