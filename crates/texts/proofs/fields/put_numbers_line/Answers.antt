-- `texts::fields::put_numbers_line` meets its contract. The letter, the fields and the line feed are put one behind another. A number of 64 bits has
-- at most 20 digits, so the line ends within 64 bits.
use mathlib.Core.List.{map}
use native.Mathlib.Omega.{arith}
use lib.ListN.{get_or}
use Rattle.texts.specs.Decimal.{decimal}
use Rattle.texts.proofs.DecimalLaws.{decimal_few}
use Rattle.texts.proofs.PutLaws.{put_then, put_same}
use Rattle.texts.proofs.TextLaws.{fields_few, line_parts}
use Rattle.texts.proofs.fields.put_numbers_line.Goals as goal

pub put_number_fields-end-requires : goal.put_number_fields-end-requires
put_number_fields-end-requires c =
    let ns = c.args.ns.now in
    let few = fields_few decimal 20 0 ns (λ i h. decimal_few 19 (get_or ns i 0) (omega (arith, c.type_inv.ns i))) in
    omega (arith, c.put-start.ensures.next)

pub put-requires : goal.put-requires
put-requires c =
    let ns = c.args.ns.now in
    let few = fields_few decimal 20 0 ns (λ i h. decimal_few 19 (get_or ns i 0) (omega (arith, c.type_inv.ns i))) in
    omega (arith, c.put-start.ensures.next, c.put_number_fields-end.ensures.next)

pub returns : goal.returns
returns c =
    let a = c.args in
    put_same (put_then c.put-start.ensures (put_then c.put_number_fields-end.ensures c.put.ensures))
    (line_parts a.letter (map decimal a.ns.now))
