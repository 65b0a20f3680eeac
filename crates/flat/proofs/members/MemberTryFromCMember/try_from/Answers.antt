-- The fold is read first, and then the settings. With both known each number becomes the kind that it stands for, and the other fields stay.
use Rattle.flat.specs.Kinds.{knows_settings}
use Rattle.flat.specs.Sets.{member_meant}
use Rattle.flat.proofs.Reading.{not_read}
use Rattle.flat.proofs.members.MemberTryFromCMember.try_from.Goals as goal

pub returns-in_err-fold : goal.returns-in_err-fold
unfolding knows_settings
returns-in_err-fold c =
    let refused = c.in_err-fold.ensures in
    not_read _ _ c.from_residual.ensures.1 refused.1 (rw refused.0)

pub returns-in_err-settings : goal.returns-in_err-settings
unfolding knows_settings
returns-in_err-settings c =
    let fold = c.in_ok-fold.ensures in
    let refused = c.in_err-settings.ensures in
    not_read _ _ c.from_residual-in_err-settings.ensures.1 refused.1 (rw (fold.0, refused.0))

pub returns : goal.returns
unfolding knows_settings member_meant
returns c =
    let fold = c.in_ok-fold.ensures in
    let settings = c.in_ok-settings.ensures in
    (rw (fold.0, settings.0), rw (fold.1, settings.1))
