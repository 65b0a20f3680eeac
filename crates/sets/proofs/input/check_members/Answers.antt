-- `sets::input::check_members` meets its contract. The invariant: the refusal of all members is that of the members from a place on, whose coefficients
-- come first in the rest of the slice.
use mathlib.Core.Path.{sym, ◌∙◌}
use native.Mathlib.Omega.{arith}
use Rattle.std.proofs.lemmas.Result.{err_from_is_err_and}
use Rattle.number.proofs.Refused.{refused}
use Rattle.sets.proofs.InputLaws.{refused_here, passed_here, refusal_end}
use Rattle.sets.proofs.MemberLaws.{count_next}
use Rattle.sets.proofs.input.check_members.Goals as goal

pub split_at-requires : goal.split_at-requires
split_at-requires c =
    let loop = c.loop-member in
    omega (arith, count_next c.args.members.now loop.member-index c.loop-member-test.true, loop.invariant.room)

pub returns-in_err-check_member : goal.returns-in_err-check_member
returns-in_err-check_member c =
    let loop = c.loop-member in
    let p = err_from_is_err_and c.from_residual.result c.from_residual.ensures.1 in
    rw (p.1, p.2) (refused_here c.args.members.now loop.rest.now loop.member-index c.loop-member-test.true
    c.split_at.ensures.front c.in_err-check_member.ensures (refused c.in_err-check_member.field-0.0) ∙ sym loop.invariant.rest)

pub loop-member-preserved : goal.loop-member-preserved
loop-member-preserved c =
    let loop = c.loop-member in
    record {
      room = omega (
        arith,
        count_next c.args.members.now loop.member-index c.loop-member-test.true,
        loop.invariant.room,
        c.split_at.ensures.back_len,
      );
      rest = loop.invariant.rest
          ∙ passed_here c.args.members.now loop.rest.now loop.member-index c.loop-member-test.true
          c.split_at.ensures.front c.in_ok-check_member.ensures c.split_at.ensures.back (omega arith);
    }

pub returns : goal.returns
returns c =
    let loop = c.loop-member in
    sym (loop.invariant.rest ∙ refusal_end c.args.members.now loop.rest.now loop.member-index c.loop-member-test.false)
