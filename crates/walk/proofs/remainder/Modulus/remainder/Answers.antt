-- The least remainder that is not below 0, of x from 0 up and of x below 0, is the definition's.
use Rattle.std.proofs.Common.{◌≡◌, pos, nat_abs, w64, to_z, ap, ap₂, ◌∙◌, arith}
use Rattle.std.proofs.Math.Facts.{to_z-of_z}
use mir.Val.{SFits}
use Rattle.std.proofs.lemmas.Int.{to_z_pos}
use Rattle.std.specs.Int.{int_rem_euclid}
use Rattle.walk.proofs.Modular.{euclid_is}
use Rattle.walk.proofs.remainder.Modulus.remainder.Goals as goal

pub returns : goal.returns
returns c =
    let a = c.args in
    let modulus : to_z w64 a.self.m ≡ pos a.self.m = to_z_pos w64 a.self.m (omega arith) in
    let result : SFits w64 c.rem_euclid.result = record { sfits = c.rem_euclid.type_inv } in
    ap nat_abs (to_z-of_z result ∙ c.rem_euclid.ensures.value ∙ ap₂ int_rem_euclid (to_z-of_z c.ranges.x) modulus) ∙ euclid_is a.self.m a.x
