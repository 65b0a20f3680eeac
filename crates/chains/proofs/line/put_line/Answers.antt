-- `chains::line::put_line` meets its contract. The setting, the two numbers, of at most 20 digits each, and the line feed are put one behind another.
use native.Mathlib.Omega.{arith}
use Rattle.texts.proofs.DecimalLaws.{decimal_few}
use Rattle.texts.proofs.PutLaws.{put_then}
use Rattle.chains.proofs.line.put_line.Goals as goal

pub put_number_field-weight-requires : goal.put_number_field-weight-requires
put_number_field-weight-requires c =
    let a = c.args in
    let few = decimal_few 19 a.chain (omega arith) in
    let few_bits = decimal_few 19 a.bits (omega arith) in
    omega (arith, c.put_setting-setting.ensures.1)

pub put_number_field-closed-requires : goal.put_number_field-closed-requires
put_number_field-closed-requires c =
    let a = c.args in
    let few = decimal_few 19 a.chain (omega arith) in
    let few_bits = decimal_few 19 a.bits (omega arith) in
    omega (arith, c.put_setting-setting.ensures.1, c.put_number_field-weight.ensures.next)

pub put-requires : goal.put-requires
put-requires c =
    let a = c.args in
    let few = decimal_few 19 a.chain (omega arith) in
    let few_bits = decimal_few 19 a.bits (omega arith) in
    omega (arith, c.put_setting-setting.ensures.1, c.put_number_field-weight.ensures.next, c.put_number_field-closed.ensures.next)

pub returns : goal.returns
returns c =
    let a = c.args in
    let few = decimal_few 19 a.chain (omega arith) in
    let few_bits = decimal_few 19 a.bits (omega arith) in (
      put_then c.put_setting-setting.ensures.0
          (put_then c.put_number_field-weight.ensures (put_then c.put_number_field-closed.ensures c.put.ensures)),
      omega (
        arith,
        c.put_setting-setting.ensures.1,
        c.put_number_field-weight.ensures.next,
        c.put_number_field-closed.ensures.next,
        c.put.ensures.next,
      ),
    )
