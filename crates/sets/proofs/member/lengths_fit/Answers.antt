-- `sets::member::lengths_fit` meets its contract. The invariant: the slice is too short for all members exactly if what is left of it is too short for
-- the members from a place on. Each member's length is taken off both sides, so no sum is formed.
use mathlib.Core.Path.{sym, ◌∙◌, ap}
use mathlib.Core.Bool.{not}
use native.Mathlib.Omega.{arith}
use borrow.Author.Tests.{lt-ltb, le-ltb}
use lib.Dec.{ltb}
use lib.ListN.{drop}
use Rattle.sets.specs.Members.{handed_count}
use Rattle.sets.proofs.MemberLaws.{count_next, count_end, less_both}
use Rattle.sets.proofs.member.lengths_fit.Goals as goal

pub returns-then-left-member : goal.returns-then-left-member
returns-then-left-member c =
    let loop = c.loop-member in
    let next = count_next c.args.members.now loop.member-index c.loop-member-test.true in
    let short = c.if-left-member.true in
    sym (ap not (loop.invariant ∙ lt-ltb loop.left (handed_count (drop loop.member-index c.args.members.now)) (omega arith)))

pub loop-member-preserved : goal.loop-member-preserved
loop-member-preserved c =
    let loop = c.loop-member in
    let next = count_next c.args.members.now loop.member-index c.loop-member-test.true in
    loop.invariant ∙ ap (ltb loop.left) next ∙ less_both loop.left _ _ c.if-left-member.false

pub returns : goal.returns
returns c =
    let loop = c.loop-member in
    let none = count_end c.args.members.now loop.member-index c.loop-member-test.false in
    sym (ap not (loop.invariant ∙ le-ltb loop.left (handed_count (drop loop.member-index c.args.members.now)) (omega (arith, none))))
