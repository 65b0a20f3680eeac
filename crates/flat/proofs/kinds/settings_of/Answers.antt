-- Each of the three kinds is read in turn. The first that is unknown is the refusal, and with all known the settings are those that the numbers mean.
use mathlib.Core.Path.{refl}
use Rattle.flat.proofs.Reading.{basis_read, parity_read, strategy_read, no_basis, no_parity, no_strategy, not_read}
use Rattle.flat.proofs.Reading.{pair_read, pair_without_parity, pair_without_basis, all_read, all_without_strategy, all_without_pair}
use Rattle.flat.proofs.kinds.settings_of.Goals as goal

pub returns-in_err-try_from : goal.returns-in_err-try_from
returns-in_err-try_from c =
    not_read _ _ c.from_residual.ensures.1 refl (all_without_strategy _ _ _ (no_strategy c.in_err-try_from.ensures.1))

pub returns-in_err-try_from-2 : goal.returns-in_err-try_from-2
returns-in_err-try_from-2 c =
    let strategy = strategy_read _ c.in_ok-try_from.ensures in
    let pair = pair_without_parity _ _ (no_parity c.in_err-try_from-2.ensures.1) in
    not_read _ _ c.from_residual-in_err-try_from-2.ensures.1 refl (all_without_pair _ _ _ strategy.0 pair)

pub returns-in_err-try_from-3 : goal.returns-in_err-try_from-3
returns-in_err-try_from-3 c =
    let strategy = strategy_read _ c.in_ok-try_from.ensures in
    let parity = parity_read _ c.in_ok-try_from-2.ensures in
    let pair = pair_without_basis _ _ parity.0 (no_basis c.in_err-try_from-3.ensures.1) in
    not_read _ _ c.from_residual-in_err-try_from-3.ensures.1 refl (all_without_pair _ _ _ strategy.0 pair)

pub returns : goal.returns
returns c =
    let strategy = strategy_read _ c.in_ok-try_from.ensures in
    let parity = parity_read _ c.in_ok-try_from-2.ensures in
    let basis = basis_read _ c.in_ok-try_from-3.ensures in
    (all_read _ _ _ strategy.0 (pair_read _ _ parity.0 basis.0), rw (strategy.1, parity.1, basis.1))
