-- The loop puts one head after another into its place, shown in numbers, so that all are when it ends, and the other fields stay.
use mathlib.Core.Path.{◌≡◌, ap}
use mathlib.Core.List.{List}
use Prim.Native.Nat.{◌<◌}
use native.Mathlib.Omega.{arith}
use lib.ListN.{length}
use Rattle.sets.specs.SetPlan.{member_limit}
use Rattle.flat.specs.Heads.{flat_head}
use Rattle.flat.specs.Sets.{flat_set}
use Rattle.flat.specs.declared.head.CHead.{CHead}
use Rattle.flat.proofs.PlaceByPlace.{filled_none, filled_more, filled_all}
use borrow.Author.Rules.{rules}
use Rattle.flat.proofs.planned_set.CCurveSetFromCurveSet.from.Goals as goal

pub loop-i-init : goal.loop-i-init
loop-i-init c =
    let places : length c.args.set.heads ≡ member_limit = search rules in
    record { places = places; upto = filled_none flat_head c.args.set.heads 16 _ places }

pub loop-i-preserved : goal.loop-i-preserved
loop-i-preserved c =
    let inv = c.loop-i.invariant in
    let below : c.loop-i.i < length c.args.set.heads = omega (arith, inv.places, c.loop-i-test.true) in
    record { places = inv.places; upto = filled_more flat_head c.args.set.heads _ inv.upto below c.from.ensures }

pub returns : goal.returns
unfolding flat_set
returns c =
    let set = c.args.set in
    let inv = c.loop-i.invariant in
    let all = filled_all flat_head set.heads inv.upto (omega (arith, inv.places, c.loop-i-test.false)) in
    ap (λ (l : List CHead). record { ct = set.ct; pt = set.pt; powers = set.powers; heads = l }) all
