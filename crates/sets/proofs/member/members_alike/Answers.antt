-- `sets::member::members_alike` meets its contract. The invariant: all are alike to the first exactly if those from a place on are.
use mathlib.Core.Path.{◌≡◌, sym, ◌∙◌, ap}
use mathlib.Core.Bool.{◌&&◌}
use Prim.Native.Nat.{◌+◌}
use lib.ListN.{drop}
use Rattle.std.proofs.lemmas.List.{nil_from_length}
use Rattle.sets.specs.Members.{alike_to, all_alike}
use Rattle.sets.proofs.MemberLaws.{alike_next, alike_end}
use Rattle.sets.proofs.member.members_alike.Goals as goal
use Rattle.sets.proofs.member.members_alike.Goals.{In-Some}

-- all members are alike exactly if the others are alike to the first
from_first : (c : In-Some) → all_alike c.args.members.now ≡ alike_to c.in-Some.first.now c.in-Some.others.now
unfolding all_alike
from_first c = ap all_alike c.in-Some.ensures.cases.0

pub returns-in_default : goal.returns-in_default
unfolding all_alike
returns-in_default c = sym (ap all_alike (nil_from_length c.args.members.now c.in_default.ensures.cases))

pub returns-then-not-member_alike : goal.returns-then-not-member_alike
returns-then-not-member_alike c =
    let loop = c.loop-member in
    let first = c.in-Some.first.now in
    let others = c.in-Some.others.now in
    sym (from_first (goal.at.returns-then-not-member_alike c).In-Some ∙ loop.invariant
    ∙ alike_next others loop.member-index c.loop-member-test.true first
    ∙ ap (◌&& alike_to first (drop (loop.member-index + 1) others)) (sym c.member_alike.ensures ∙ c.if-not-member_alike.true))

pub loop-member-preserved : goal.loop-member-preserved
loop-member-preserved c =
    let loop = c.loop-member in
    let first = c.in-Some.first.now in
    let others = c.in-Some.others.now in
    loop.invariant ∙ alike_next others loop.member-index c.loop-member-test.true first
    ∙ ap (◌&& alike_to first (drop (loop.member-index + 1) others)) (sym c.member_alike.ensures ∙ c.if-not-member_alike.false)

pub returns : goal.returns
returns c =
    let loop = c.loop-member in
    let first = c.in-Some.first.now in
    let others = c.in-Some.others.now in
    sym (from_first (goal.at.returns c).In-Some ∙ loop.invariant ∙ alike_end first others loop.member-index c.loop-member-test.false)
