-- `texts::line::put_line` meets its contract. Line 0 is the head's, the lines up to the number of boundaries are the lists', and the steps' follow
-- them. Behind the last there is no line, and nothing is put.
use mathlib.Core.Path.{sym}
use Prim.Native.Nat.{◌-◌}
use native.Mathlib.Omega.{arith}
use lib.ListN.{length}
use Rattle.texts.proofs.LineLaws.{behind_lists, first_line, list_line_at, step_line_at, no_line_at}
use Rattle.texts.proofs.PutLaws.{put_same, put_none}
use Rattle.texts.proofs.line.put_line.Goals as goal

pub returns-then-k-eq0 : goal.returns-then-k-eq0
returns-then-k-eq0 c =
    let a = c.args in
    put_same c.put_head.ensures (first_line a.head a.c.now a.bounds.now a.steps.now a.k c.if-k-eq0.true)

pub returns-then-i-bounds : goal.returns-then-i-bounds
returns-then-i-bounds c =
    let a = c.args in
    put_same c.put_list.ensures
    (list_line_at a.head a.c.now a.bounds.now a.steps.now a.k (a.k - 1) (omega arith) c.if-i-bounds.true)

pub returns-then-j-shown : goal.returns-then-j-shown
returns-then-j-shown c =
    let a = c.args in
    let next = behind_lists a.k (length a.bounds.now) c.if-k-eq0.false c.if-i-bounds.false in
    put_same c.put_step_at.ensures
    (step_line_at a.head a.c.now a.bounds.now a.steps.now a.k (a.k - 1 - length a.bounds.now) c.min-shown.result next
    c.min-shown.ensures c.if-j-shown.true)

pub returns : goal.returns
returns c =
    let a = c.args in
    let next = behind_lists a.k (length a.bounds.now) c.if-k-eq0.false c.if-i-bounds.false in
    put_same (put_none a.out.now a.at)
    (sym (no_line_at a.head a.c.now a.bounds.now a.steps.now a.k (a.k - 1 - length a.bounds.now) c.min-shown.result next
    c.min-shown.ensures c.if-j-shown.false))
