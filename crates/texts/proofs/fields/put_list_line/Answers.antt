-- `texts::fields::put_list_line` meets its contract. The letter, the fields and the line feed are put one behind another, and the fields take at most
-- 22 bytes a number, so the line ends within 64 bits.
use mathlib.Core.List.{map}
use Rattle.lines.specs.Bytes.{letter_l}
use Rattle.texts.specs.Decimal.{signed_decimal}
use Rattle.texts.proofs.PutLaws.{put_then, put_same}
use Rattle.texts.proofs.TextLaws.{line_parts}
use Rattle.texts.proofs.fields.put_list_line.Goals as goal

pub returns : goal.returns
returns c =
    let a = c.args in
    put_same (put_then c.put-start.ensures (put_then c.put_signed_fields-behind.ensures.0 c.put.ensures))
    (line_parts letter_l (map signed_decimal a.c.now))
