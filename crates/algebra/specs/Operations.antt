-- The operations that polynomials are worked out with. They carry no laws, so whole numbers, remainders and floats all have them.
use Rattle.std.specs.Prelude.{ℤ, pos, neg_ℤ, ◌+ℤ◌, ◌-ℤ◌, ◌*ℤ◌}

pub record Operations (A : Type 0) : Type 0 where
  pub zero : A
  pub one : A
  pub add : A → A → A
  pub sub : A → A → A
  pub mul : A → A → A
  pub neg : A → A

-- the whole numbers
abbrev pub whole_ops : Operations ℤ
whole_ops = record { zero = pos 0; one = pos 1; add = ◌+ℤ◌; sub = ◌-ℤ◌; mul = ◌*ℤ◌; neg = neg_ℤ }

module _ {A : Type 0} (𝓞 : Operations A) where
  -- 1 + 1
  abbrev pub two : A
  two = 𝓞.add 𝓞.one 𝓞.one

  -- 2·a
  abbrev pub double : A → A
  double a = 𝓞.mul two a
