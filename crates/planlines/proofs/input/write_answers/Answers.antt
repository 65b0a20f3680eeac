-- The text for the last read is written behind the answers to the lines before it.
use lib.ListN.{take}
use Rattle.planlines.proofs.ToldLaws.{output_told}
use Rattle.planlines.proofs.input.write_answers.Goals as goal

pub returns : goal.returns
returns g c = λ written some.
    let finished = c.answer_input-finished in
    output_told (g.R.Read.remaining c.args.input.now) (g.R.Read.remaining finished.new.input) (g.W.Write.contents c.args.output.now)
    (g.W.Write.contents finished.new.output) (g.W.Write.contents c.write_text.new.output) (take finished.result.held finished.new.line) c.args.block.now
    (take finished.result.text finished.new.out) finished.result.last c.in-Ended.is finished.ensures.answered some finished.ensures.last.text
    (c.write_text.ensures written)
