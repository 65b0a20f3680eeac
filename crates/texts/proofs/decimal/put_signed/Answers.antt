-- `texts::decimal::put_signed` meets its contract. Below zero a minus is put and the magnitude behind it; any other number is its own magnitude,
-- which fits 64 bits.
use mathlib.Core.Path.{refl, sym}
use mathlib.Core.List.{[], ◌∷◌}
use native.Mathlib.Omega.{arith}
use lib.IntN.{nat_abs}
use Rattle.lines.specs.Bytes.{minus}
use Rattle.texts.specs.Decimal.{decimal}
use Rattle.texts.proofs.DecimalLaws.{read, below_text, above_text}
use Rattle.texts.proofs.PutLaws.{put_same, put_then, ends_same, ends_first}
use Rattle.texts.proofs.decimal.put_signed.Goals as goal

pub put-next-requires : goal.put-next-requires
put-next-requires c =
    let a = c.args in
    let n = nat_abs (read a.z) in
    ends_first a.at (minus ∷ []) (decimal n)
    (ends_same a.at (sym (below_text a.z c.ranges.z n c.if-z-lt0.true refl)) c.requires)

pub put_number-requires : goal.put_number-requires
put_number-requires c =
    let a = c.args in
    let text = below_text a.z c.ranges.z c.unsigned_abs.result c.if-z-lt0.true c.unsigned_abs.ensures.value in
    omega (arith, ends_same a.at (sym text) c.requires, c.put-next.ensures.next)

pub returns-then-z-lt0 : goal.returns-then-z-lt0
returns-then-z-lt0 c =
    put_same (put_then c.put-next.ensures c.put_number.ensures)
    (below_text c.args.z c.ranges.z c.unsigned_abs.result c.if-z-lt0.true c.unsigned_abs.ensures.value)

pub put_number-requires-2 : goal.put_number-requires-2
put_number-requires-2 c =
    let z = c.args.z in
    ends_same c.args.at (sym (above_text z c.ranges.z (nat_abs (read z)) c.if-z-lt0.false refl)) c.requires

pub returns : goal.returns
returns c =
    let z = c.args.z in
    put_same c.put_number-2.ensures (above_text z c.ranges.z (nat_abs (read z)) c.if-z-lt0.false refl)
