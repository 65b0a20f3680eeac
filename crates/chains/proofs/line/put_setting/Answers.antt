-- `chains::line::put_setting` meets its contract. The degree, which has at most 20 digits, and the three letters are put one behind another.
use Prim.Native.Nat.{◌+◌, ◌≤◌}
use native.Mathlib.Omega.{arith}
use Rattle.texts.proofs.DecimalLaws.{decimal_few}
use Rattle.texts.proofs.PutLaws.{put_then}
use Rattle.chains.proofs.line.put_setting.Goals as goal
use Rattle.chains.proofs.line.put_setting.Goals.{After-put_number-behind}

-- the place behind the degree
digits : (c : After-put_number-behind) → c.put_number-behind.result ≤ c.args.at + 20
digits c =
    let few = decimal_few 19 c.args.degree (omega arith) in
    omega (arith, c.put_number-behind.ensures.next)

pub put_number-behind-requires : goal.put_number-behind-requires
put_number-behind-requires c =
    let few = decimal_few 19 c.args.degree (omega arith) in
    omega arith

pub put_letter_field-basis-requires : goal.put_letter_field-basis-requires
put_letter_field-basis-requires c = omega (arith, digits (goal.at.put_letter_field-basis-requires c).After-put_number-behind)

pub put_letter_field-parity-requires : goal.put_letter_field-parity-requires
put_letter_field-parity-requires c =
    omega (arith, digits (goal.at.put_letter_field-parity-requires c).After-put_number-behind, c.put_letter_field-basis.ensures.next)

pub put_letter_field-requires : goal.put_letter_field-requires
put_letter_field-requires c =
    let here = goal.at.put_letter_field-requires c in
    omega (arith, digits here.After-put_number-behind, c.put_letter_field-basis.ensures.next, c.put_letter_field-parity.ensures.next)

pub returns : goal.returns
returns c = (
  put_then c.put_number-behind.ensures
      (put_then c.put_letter_field-basis.ensures (put_then c.put_letter_field-parity.ensures c.put_letter_field.ensures)),
  omega (
    arith,
    digits (goal.at.returns c).After-put_number-behind,
    c.put_letter_field-basis.ensures.next,
    c.put_letter_field-parity.ensures.next,
    c.put_letter_field.ensures.next,
  ),
)
