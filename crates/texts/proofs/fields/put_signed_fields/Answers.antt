-- `texts::fields::put_signed_fields` meets its contract. The loop's invariant: the first i numbers are put, what the others put behind them makes up
-- the whole, and no number has taken more than 22 bytes.
use mathlib.Core.Path.{refl, ap}
use mathlib.Core.List.{List, ◌∷◌}
use Prim.Native.Nat.{ℕ, ◌<◌, ◌≤◌, ◌^◌}
use native.Mathlib.Omega.{arith}
use lib.IntN.{ℤ, pos}
use lib.ListN.{length, get_or}
use lib.Signed.{mag}
use Rattle.number.proofs.Signed.{back}
use Rattle.lines.specs.Bytes.{tab}
use Rattle.texts.specs.Decimal.{signed_decimal}
use Rattle.texts.proofs.DecimalLaws.{read, read_few}
use Rattle.texts.proofs.PutLaws.{put_same}
use Rattle.texts.proofs.TextLaws.{fields_more, fields_end}
use Rattle.texts.proofs.fields.put_signed_fields.Goals as goal

-- the next number, which as the machine reads it has at most 21 bytes
next_few : (zs : List ℤ) (i : ℕ) → mag (get_or zs i (pos 0)) < 2 ^ 63 → length (signed_decimal (read (get_or zs i (pos 0)))) ≤ 21
next_few zs i h = read_few (get_or zs i (pos 0)) (record { sfits = h })

pub put_signed_field-at-requires : goal.put_signed_field-at-requires
put_signed_field-at-requires c =
    omega (arith, next_few c.args.c.now c.loop-z.z-index (omega arith), c.loop-z.invariant.1, c.requires)

pub loop-z-preserved : goal.loop-z-preserved
loop-z-preserved c =
    let zs = c.args.c.now in
    let small : mag (get_or zs c.loop-z.z-index (pos 0)) < 2 ^ 63 = omega arith in
    let same = ap (λ (z : ℤ). tab ∷ signed_decimal z) (back small refl) in (
      fields_more signed_decimal _ _ c.loop-z.invariant.0 (pos 0) c.loop-z-test.true (put_same c.put_signed_field-at.ensures same),
      omega (arith, next_few zs c.loop-z.z-index small, c.loop-z.invariant.1, c.put_signed_field-at.ensures.next),
    )

pub returns : goal.returns
returns c =
    let inv = c.loop-z.invariant in
    (fields_end signed_decimal _ _ inv.0 c.loop-z-test.false, omega (arith, inv.1, inv.0.within))
