-- `chains::table::put_line_at` meets its contract: the letters are those of the setting, both numbers are made of these letters and the degree, and
-- `put_line` puts just these.
use Rattle.texts.proofs.PutLaws.{put_same}
use Rattle.chains.proofs.TableLaws.{line_is}
use Rattle.chains.proofs.table.put_line_at.Goals as goal

pub returns : goal.returns
returns c =
    let args = c.args in
    let same = line_is args.degree args.k c.letters_at-letters.ensures c.weigh_zeros-chain.ensures c.closed_bits-bits.ensures in
    (put_same c.put_line.ensures.0 same, c.put_line.ensures.1)
