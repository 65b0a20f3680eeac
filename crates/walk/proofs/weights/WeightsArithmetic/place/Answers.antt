-- At place 0 the sum stays; at every other the power's weight, a scale more, is beside it.
use Rattle.walk.proofs.PlaceLaws.{place_constant, place_power}
use Rattle.walk.proofs.weights.WeightsArithmetic.place.Goals as goal

pub returns-then-j-eq0 : goal.returns-then-j-eq0
returns-then-j-eq0 c = let a = c.args in place_constant a.self.coeff a.sum a.j a.power c.if-j-eq0.true

pub returns : goal.returns
returns c = let a = c.args in rw (c.max.ensures, c.product_weight.ensures) (place_power a.self.coeff a.sum a.j a.power c.if-j-eq0.false)
