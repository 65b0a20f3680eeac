-- `lines::read::count_whole` meets its contract: while only whole numbers have been passed, the fields that are left are whole numbers exactly if all
-- are. So the first field that is none decides, and so does the line's end.
use Rattle.std.proofs.Common.{ap, sym, ◌∙◌, length, List, ℕ, arith}
use Rattle.lines.specs.Line.{are_whole}
use Rattle.lines.specs.inside.FieldsLeft.{fields_left}
use Rattle.lines.proofs.LineLaws.{first_whole, counted_none, counted_all}
use Rattle.lines.proofs.read.count_whole.Goals as goal

pub returns-then-not-is_whole : goal.returns-then-not-is_whole
returns-then-not-is_whole c =
    let loop = c.loop-field in
    let bad = sym c.is_whole.ensures ∙ c.if-not-is_whole.true in
    counted_none (fields_left c.args.fields) (sym loop.invariant.3 ∙ ap are_whole c.in-Some.ensures.steps ∙ first_whole _ _ bad)

pub loop-field-preserved : goal.loop-field-preserved
loop-field-preserved c =
    let loop = c.loop-field in
    let good = sym c.is_whole.ensures ∙ c.if-not-is_whole.false in
    let shorter = ap (λ (fs : List (List ℕ)). length fs) c.in-Some.ensures.steps in
    (tt, tt, omega (arith, shorter, loop.invariant.2), sym (first_whole _ _ good) ∙ sym (ap are_whole c.in-Some.ensures.steps) ∙ loop.invariant.3)

pub returns : goal.returns
unfolding are_whole
returns c =
    let loop = c.loop-field in
    let none = c.in-None.ensures.steps.0 in
    counted_all (fields_left c.args.fields) c.loop-field.count (sym loop.invariant.3 ∙ ap are_whole none)
    (omega (arith, loop.invariant.2, ap (λ (fs : List (List ℕ)). length fs) none))
