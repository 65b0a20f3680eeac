-- The zero curves are all planned: the chain of a line is that of the plan's own lists and steps, and no refusal.
use Rattle.std.specs.Prelude.{◌≡◌, false, ℕ, ◌≤◌, ◌<◌}
use Rattle.answers.specs.Limits.{list_room}
use Rattle.demands.specs.Weighed.{plan_chain}
use Rattle.chains.specs.ZeroChain.{basis_of, parity_of, strategy_of, zero_curve, zero_chain}
use Rattle.chains.specs.declared.letters.Letters.{Letters}

abbrev pub ZerosWeighed : Type 0
ZerosWeighed = (letters : Letters) (degree : ℕ) → 1 ≤ degree → degree < list_room
    → zero_chain letters degree ≡ plan_chain (strategy_of letters) (parity_of letters) (basis_of letters) false (zero_curve degree) 30 20
