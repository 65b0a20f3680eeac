-- A modulus that refusal 11 lets through.
use Rattle.std.specs.Prelude.{ℕ, ◌≤◌}
use Rattle.walk.specs.Limits.{modulus_limit}

pub record IsModulus (m : ℕ) : Type 0 where
  pub low : 2 ≤ m
  pub high : m ≤ modulus_limit
