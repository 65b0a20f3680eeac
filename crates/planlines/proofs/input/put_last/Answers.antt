-- `planlines::input::put_last` meets its contract: after the end of the input `put_end` puts the answer to the line that is held; after anything else nothing
-- is put, and nothing is the text.
use Rattle.texts.proofs.PutLaws.{put_none, put_same}
use Rattle.planlines.proofs.LastLaws.{last_ended, last_other}
use Rattle.planlines.proofs.input.put_last.Goals as goal

pub returns-in_default : goal.returns-in_default
returns-in_default c = put_same (put_none _ 0) (last_other _ _ c.in_default.not-Ended)

pub returns : goal.returns
returns c =
    put_same c.put_end.ensures (last_ended _ c.in-Ended.is)
