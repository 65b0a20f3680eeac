-- `texts::decimal::put_digits` meets its contract. The call for a tenth of the number puts all digits but the last, and the last is put behind them.
-- The number falls at each call.
use mathlib.Core.Path.{sym}
use native.Mathlib.Omega.{arith}
use Rattle.texts.proofs.PutLaws.{put_none, put_same}
use Rattle.texts.proofs.DecimalLaws.{no_digits, tenth_less, digits_length, digits_then}
use Rattle.texts.proofs.decimal.+put_digits.Goals as goal

pub returns-then-n-eq0 : goal.returns-then-n-eq0
returns-then-n-eq0 t c = put_same (put_none _ _) (sym (no_digits c.args.n c.if-n-eq0.true))

pub put_digits-next-requires : goal.put_digits-next-requires
put_digits-next-requires t c =
    let n = c.args.n in
    let less = tenth_less n c.if-n-eq0.false in
    let long = digits_length n c.if-n-eq0.false in
    (omega arith, omega arith)

pub put-requires : goal.put-requires
put-requires t c =
    let long = digits_length c.args.n c.if-n-eq0.false in
    omega (arith, c.put_digits-next.ensures.next)

pub returns : goal.returns
returns t c = digits_then c.args.n c.digit.result c.if-n-eq0.false c.put_digits-next.ensures c.digit.ensures c.put.ensures
