-- `lines::read::read_form` meets its contract: it makes the tests of the form one after another, and the first that fails leaves the buffer as it was.
-- With all of them passed the letters say the settings, and the fields behind them are filled in.
use Rattle.std.proofs.Common.{ap, sym, ◌∙◌, drop, map, List, ℕ}
use lib.Seq.{sets}
use Rattle.lines.specs.Whole.{value_of}
use Rattle.lines.specs.inside.Reading.{opening_of, counted}
use Rattle.lines.proofs.LineLaws.{too_long, no_opening, numbers_few, not_counted, read}
use Rattle.lines.proofs.read.read_form.Goals as goal

pub returns-then-line-gt-LINE_LIMIT : goal.returns-then-line-gt-LINE_LIMIT
returns-then-line-gt-LINE_LIMIT c = too_long c.args.line.now c.args.coefficients.now c.if-line-gt-LINE_LIMIT.true

pub returns-in_err-opening : goal.returns-in_err-opening
returns-in_err-opening c =
    let opened = ap opening_of (sym c.of-fields.ensures) ∙ sym c.take_opening.ensures.opening in
    rw c.from_residual.ensures (no_opening c.args.line.now c.args.coefficients.now c.if-line-gt-LINE_LIMIT.false (opened ∙ c.in_err-opening.was))

pub count_whole-requires : goal.count_whole-requires
count_whole-requires c =
    rw (c.in_ok-opening.ensures.rest, c.of-fields.ensures) (numbers_few c.args.line.now c.if-line-gt-LINE_LIMIT.false)

pub fill_values-requires-clause-few : goal.fill_values-requires-clause-few
fill_values-requires-clause-few c =
    rw (c.in_ok-opening.ensures.rest, c.of-fields.ensures) (numbers_few c.args.line.now c.if-line-gt-LINE_LIMIT.false)

pub returns-in_err-count : goal.returns-in_err-count
returns-in_err-count c =
    let opened = ap opening_of (sym c.of-fields.ensures) ∙ sym c.take_opening.ensures.opening ∙ c.in_ok-opening.was in
    let rest = c.in_ok-opening.ensures.rest ∙ ap (drop 4) c.of-fields.ensures in
    rw c.from_residual-in_err-count.ensures
    (not_counted c.args.line.now c.args.coefficients.now c.if-line-gt-LINE_LIMIT.false opened
    (ap counted (sym rest) ∙ sym c.count_whole.ensures ∙ c.in_err-count.was))

pub returns : goal.returns
returns c =
    let opened = ap opening_of (sym c.of-fields.ensures) ∙ sym c.take_opening.ensures.opening ∙ c.in_ok-opening.was in
    let rest = c.in_ok-opening.ensures.rest ∙ ap (drop 4) c.of-fields.ensures in
    read c.args.line.now c.args.coefficients.now c.if-line-gt-LINE_LIMIT.false opened
    (ap counted (sym rest) ∙ sym c.count_whole.ensures ∙ c.in_ok-count.was)
    (c.fill_values.ensures ∙ ap (λ (fs : List (List ℕ)). sets c.args.coefficients.now 0 (map value_of fs)) rest)
