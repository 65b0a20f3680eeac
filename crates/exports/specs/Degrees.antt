-- The calls on bare numbers, for C: each is its call's own answer, flat; or refusal 43 with zeros.
use Rattle.std.specs.Prelude.{ℕ}
use Rattle.counts.specs.Calls.{min_mult_call, no_split, counts_call, no_counts, depth_call, no_depth, bits_call, no_bits, largest_call, no_largest}
use Rattle.plan.specs.PlanSizes.{no_sizes, sizes_call}
use Rattle.flat.specs.Kinds.{is_strategy, fold_numbered, strategy_numbered, parity_numbered, basis_numbered, knows_pair, knows_all, knows_settings}
use Rattle.flat.specs.Unknown.{unknown_kind, when_known}
use Rattle.flat.specs.Flat.{flat_split, flat_counts, flat_depth, flat_bits, flat_degree, flat_sizes}
use Rattle.flat.specs.declared.flat.CSplit.{CSplit}
use Rattle.flat.specs.declared.flat.CCounts.{CCounts}
use Rattle.flat.specs.declared.flat.CDepth.{CDepth}
use Rattle.flat.specs.declared.flat.CBits.{CBits}
use Rattle.flat.specs.declared.flat.CDegree.{CDegree}
use Rattle.flat.specs.declared.flat.CSizes.{CSizes}

abbrev pub min_mult_flat : (parity basis degree : ℕ) → CSplit
min_mult_flat parity basis degree =
    when_known (knows_pair parity basis) (flat_split (min_mult_call (parity_numbered parity) (basis_numbered basis) degree))
    (flat_split (no_split unknown_kind))

abbrev pub counts_flat : (strategy parity basis degree : ℕ) → CCounts
counts_flat strategy parity basis degree =
    when_known (knows_all strategy parity basis)
    (flat_counts (counts_call (strategy_numbered strategy) (parity_numbered parity) (basis_numbered basis) degree))
    (flat_counts (no_counts unknown_kind))

abbrev pub depth_flat : (strategy degree : ℕ) → CDepth
depth_flat strategy degree = when_known (is_strategy strategy) (flat_depth (depth_call (strategy_numbered strategy) degree))
    (flat_depth (no_depth unknown_kind))

abbrev pub bits_flat : (strategy degree input coeff : ℕ) → CBits
bits_flat strategy degree input coeff =
    when_known (is_strategy strategy) (flat_bits (bits_call (strategy_numbered strategy) degree input coeff)) (flat_bits (no_bits unknown_kind))

abbrev pub largest_flat : (strategy budget input coeff : ℕ) → CDegree
largest_flat strategy budget input coeff =
    when_known (is_strategy strategy) (flat_degree (largest_call (strategy_numbered strategy) budget input coeff)) (flat_degree (no_largest unknown_kind))

abbrev pub sizes_flat : (strategy parity basis fold degree : ℕ) → CSizes
sizes_flat strategy parity basis fold degree =
    when_known (knows_settings strategy parity basis fold)
    (flat_sizes (sizes_call (strategy_numbered strategy) (parity_numbered parity) (basis_numbered basis) (fold_numbered fold) degree))
    (flat_sizes (no_sizes unknown_kind))
