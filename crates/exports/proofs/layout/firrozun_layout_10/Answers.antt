-- `exports::layout::firrozun_layout_10` meets its contract. It answers the number that its name has.
use mathlib.Core.Path.{refl}
use Rattle.exports.proofs.layout.firrozun_layout_10.Goals as goal

pub returns : goal.returns
returns c = refl
