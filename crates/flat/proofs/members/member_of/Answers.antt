-- Each number becomes the kind that it stands for, and the other fields stay.
use Rattle.flat.specs.Sets.{member_meant}
use Rattle.flat.proofs.members.member_of.Goals as goal

pub returns : goal.returns
unfolding member_meant
returns c =
    rw (c.fold_of.ensures, c.basis_of.ensures, c.parity_of.ensures, c.strategy_of.ensures)
