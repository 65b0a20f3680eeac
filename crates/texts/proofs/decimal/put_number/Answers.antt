-- `texts::decimal::put_number` meets its contract. 0 has a digit of its own, and the text of any other number is its digits.
use mathlib.Core.Path.{sym}
use Rattle.texts.proofs.DecimalLaws.{zero_text, digits_text}
use Rattle.texts.proofs.PutLaws.{put_same, ends_same}
use Rattle.texts.proofs.decimal.put_number.Goals as goal

pub put-requires : goal.put-requires
put-requires c =
    ends_same c.args.at (zero_text c.args.n c.if-n-eq0.true) c.requires

pub returns-then-n-eq0 : goal.returns-then-n-eq0
returns-then-n-eq0 c =
    put_same c.put.ensures (sym (zero_text c.args.n c.if-n-eq0.true))

pub put_digits-requires : goal.put_digits-requires
put_digits-requires c =
    ends_same c.args.at (digits_text c.args.n c.if-n-eq0.false) c.requires

pub returns : goal.returns
returns c =
    put_same c.put_digits.ensures (sym (digits_text c.args.n c.if-n-eq0.false))
