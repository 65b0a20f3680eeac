-- `texts::fields::put_number_fields` meets its contract. The loop's invariant: the first i numbers are put, and what the others put behind them makes
-- up the whole, so no field ends behind it.
use Rattle.texts.specs.Decimal.{decimal}
use Rattle.texts.proofs.TextLaws.{field_ends, fields_more, fields_end}
use Rattle.texts.proofs.fields.put_number_fields.Goals as goal

pub put_number_field-at-requires : goal.put_number_field-at-requires
put_number_field-at-requires c =
    field_ends decimal _ _ c.loop-n.invariant 0 c.loop-n-test.true c.requires

pub loop-n-preserved : goal.loop-n-preserved
loop-n-preserved c =
    fields_more decimal _ _ c.loop-n.invariant 0 c.loop-n-test.true c.put_number_field-at.ensures

pub returns : goal.returns
returns c = fields_end decimal _ _ c.loop-n.invariant c.loop-n-test.false
