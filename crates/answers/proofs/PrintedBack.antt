-- The coefficients of a plan's lists are at most 2^53, so that 18 digits are enough for each.
use Prim.Native.Nat.{◌^◌}
use native.Mathlib.Omega.{arith}
use Rattle.number.proofs.Within.{within_at}
use Rattle.lists.specs.Lists.{joined}
use Rattle.texts.proofs.ReadBack.{numbers_read_back}
use Rattle.demands.specs.Right.{lists_for}
use Rattle.answers.specs.PrintedBack.{PrintedBack}
use Rattle.answers.proofs.TextFits.{lists_small}

pub printed_back : PrintedBack
printed_back strategy parity basis folded c k accepted =
    let most = within_at (2 ^ 53) (joined (lists_for strategy parity basis folded c)) (lists_small strategy parity basis folded c accepted) k in
    numbers_read_back _ (omega arith)
