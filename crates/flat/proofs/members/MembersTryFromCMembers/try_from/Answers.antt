-- The members are read one after another. One with an unknown kind makes the whole refused; one with known kinds leaves the question to those that are
-- not read yet. At the count or at the end of the array none is left, and the members are those that the numbers mean.
use mathlib.Core.Path.{◌≡◌, refl, ◌∙◌}
use Prim.Native.Nat.{◌<◌, ◌≤◌}
use native.Mathlib.Omega.{arith}
use lib.ListN.{length, length-take, take}
use Rattle.sets.specs.SetPlan.{member_limit}
use Rattle.flat.specs.Sets.{knows_members}
use Rattle.flat.proofs.PlaceByPlace.{known_no, known_yes, known_end}
use Rattle.flat.proofs.Reading.{not_read}
use borrow.Author.Rules.{rules}
use Rattle.flat.proofs.members.MembersTryFromCMembers.try_from.Goals as goal

pub loop-i-init : goal.loop-i-init
unfolding knows_members
loop-i-init c = record { places = search rules; rest = refl }

pub returns-in_err-try_from : goal.returns-in_err-try_from
returns-in_err-try_from c =
    let handed = c.args.handed in
    let inv = c.loop-i.invariant in
    let here : c.loop-i.i < handed.count = omega (arith, c.min-i-end.ensures, c.loop-i-test.true) in
    let below : c.loop-i.i < length handed.members = omega (arith, inv.places, c.min-i-end.ensures, c.loop-i-test.true) in
    let refused = c.in_err-try_from.ensures in
    not_read _ _ c.from_residual.ensures.1 refused.1 (inv.rest ∙ known_no handed.count c.loop-i.i handed.members _ here below refused.0)

pub loop-i-preserved : goal.loop-i-preserved
loop-i-preserved c =
    let handed = c.args.handed in
    let inv = c.loop-i.invariant in
    let here : c.loop-i.i < handed.count = omega (arith, c.min-i-end.ensures, c.loop-i-test.true) in
    let below : c.loop-i.i < length handed.members = omega (arith, inv.places, c.min-i-end.ensures, c.loop-i-test.true) in
    record {
      places = inv.places;
      rest = inv.rest ∙ known_yes handed.count c.loop-i.i handed.members _ here below c.in_ok-try_from.ensures.0;
    }

pub returns : goal.returns
returns c =
    let handed = c.args.handed in
    let inv = c.loop-i.invariant in
    let past : length (take handed.count handed.members) ≤ c.loop-i.i =
    omega (arith, length-take handed.count handed.members, inv.places, c.min-i-end.ensures, c.loop-i-test.false) in
    (inv.rest ∙ known_end handed.count c.loop-i.i handed.members past, c.members_of.ensures)
