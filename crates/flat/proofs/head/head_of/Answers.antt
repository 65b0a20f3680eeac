-- Each number becomes the kind that it stands for, the interval is read back, and the other fields stay.
use Rattle.flat.specs.Heads.{head_meant}
use Rattle.flat.proofs.head.head_of.Goals as goal

pub returns : goal.returns
unfolding head_meant
returns c =
    rw (c.from.ensures, c.transform_of.ensures, c.strategy_of.ensures, c.parity_of.ensures, c.basis_of.ensures)
