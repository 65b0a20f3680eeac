-- Demand 1, of refusal 24. Document 01: "It refuses with 24 exactly if a count in the head passes its buffer, a kind is unknown, an unused field isn't 0,
-- a power made is above 4,095 or was made before (0 and 1 count as made), a split is wrong, a power or list that the step uses isn't there (allowed
-- powers of zero coefficients count as used), boundaries don't rise strictly from 0 or pass the head's number of coefficients, more than 16 values
-- wait, fewer than two wait at a combine, or the end hasn't exactly one." `unrunnable` (walk: Unrunnable) has these reasons in lists, and holds where
-- one of them does.
use Rattle.std.specs.Prelude.{◌≡◌, true, List, ◌↔◌, ℕ, ◌≤◌, ℤ}
use Rattle.number.specs.Limits.{scale_limit}
use Rattle.walk.specs.Limits.{modulus_limit}
use Rattle.walk.specs.Rules.{exact_rules}
use Rattle.walk.specs.Trial.{trial_of}
use Rattle.walk.specs.Chain.{chain_of}
use Rattle.walk.specs.Unrunnable.{unrunnable}
use Rattle.walk.specs.declared.plan.Head.{Head}

-- the trial walk, of any head and buffers at any point and modulus: 24 exactly if the modulus is not refused with 11 and one of the reasons holds
abbrev pub TrialsRefused : Type 0
TrialsRefused = (head : Head) (coefficients : List ℤ) (bounds steps : List ℕ) (point : ℤ) (modulus : ℕ)
    → ((trial_of head coefficients bounds steps point modulus).refusal ≡ 24)
    ↔ ((2 ≤ modulus) × (modulus ≤ modulus_limit) × (unrunnable exact_rules head coefficients bounds steps point ≡ true))

-- the heaviest chain, at any scales: 24 exactly if neither scale is refused with 10 and one of the reasons holds, whatever the point
abbrev pub ChainsRefused : Type 0
ChainsRefused = (head : Head) (coefficients : List ℤ) (bounds steps : List ℕ) (input coeff : ℕ) (point : ℤ)
    → ((chain_of head coefficients bounds steps input coeff).refusal ≡ 24)
    ↔ ((input ≤ scale_limit) × (coeff ≤ scale_limit) × (unrunnable exact_rules head coefficients bounds steps point ≡ true))
