-- `chains::line::put_letter_field` meets its contract. The letter is put behind the tab.
use Rattle.texts.proofs.PutLaws.{put_then}
use Rattle.chains.proofs.line.put_letter_field.Goals as goal

pub returns : goal.returns
returns c = put_then c.put-next.ensures c.put.ensures
