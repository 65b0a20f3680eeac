-- The transform is read first, and then the settings. With both known each number becomes the kind that it stands for, the interval is read back, and
-- the other fields stay.
use mathlib.Core.Path.{refl}
use Rattle.flat.specs.Heads.{knows_head, head_meant}
use Rattle.flat.proofs.Reading.{transform_read, no_transform, not_read}
use Rattle.flat.proofs.head.HeadTryFromCHead.try_from.Goals as goal

pub returns-in_err-transform : goal.returns-in_err-transform
unfolding knows_head
returns-in_err-transform c = not_read _ _ c.from_residual.ensures.1 refl (rw (no_transform c.in_err-transform.ensures.1))

pub returns-in_err-settings : goal.returns-in_err-settings
unfolding knows_head
returns-in_err-settings c =
    let transform = transform_read _ c.in_ok-transform.ensures in
    let refused = c.in_err-settings.ensures in
    not_read _ _ c.from_residual-in_err-settings.ensures.1 refused.1 (rw (transform.0, refused.0))

pub returns : goal.returns
unfolding knows_head head_meant
returns c =
    let transform = transform_read _ c.in_ok-transform.ensures in
    let settings = c.in_ok-settings.ensures in
    (rw (transform.0, settings.0), rw (transform.1, settings.1, c.from.ensures))
