-- The loop puts into one place after another what the member there means, so that all places do when it ends, and the count stays.
use mathlib.Core.Path.{◌≡◌, ap}
use mathlib.Core.List.{List}
use Prim.Native.Nat.{◌<◌}
use native.Mathlib.Omega.{arith}
use lib.ListN.{length}
use Rattle.sets.specs.SetPlan.{member_limit}
use Rattle.sets.specs.declared.member.Member.{Member}
use Rattle.flat.specs.Sets.{member_meant, members_meant}
use Rattle.flat.proofs.PlaceByPlace.{filled_none, filled_more, filled_all}
use borrow.Author.Rules.{rules}
use Rattle.flat.proofs.members.members_of.Goals as goal

pub loop-i-init : goal.loop-i-init
loop-i-init c =
    let members = c.args.handed.members in
    let places : length members ≡ member_limit = search rules in
    let none = filled_none member_meant members 16 _ places in
    record { places = places; upto = filled_more member_meant members _ none (omega (arith, places)) c.member_of-members.ensures }

pub loop-i-preserved : goal.loop-i-preserved
loop-i-preserved c =
    let inv = c.loop-i.invariant in
    let below : c.loop-i.i < length c.args.handed.members = omega (arith, inv.places, c.loop-i-test.true) in
    record { places = inv.places; upto = filled_more member_meant c.args.handed.members _ inv.upto below c.member_of.ensures }

pub returns : goal.returns
unfolding members_meant
returns c =
    let inv = c.loop-i.invariant in
    let all = filled_all member_meant c.args.handed.members inv.upto (omega (arith, inv.places, c.loop-i-test.false)) in
    ap (λ (l : List Member). record { count = c.args.handed.count; members = l }) all
