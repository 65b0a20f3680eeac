-- Request Q-7: "The walk doesn't read these four numbers, so its value is the same for any interval." Of every lent plan, sound or not.
use Rattle.std.specs.Prelude.{◌≡◌, List, ℕ, ℤ}
use Rattle.number.specs.declared.interval.Interval.{Interval}
use Rattle.walk.specs.Rules.{Rules}
use Rattle.walk.specs.Lent.{lent_walk}
use Rattle.walk.specs.Trial.{trial_of}
use Rattle.walk.specs.Chain.{chain_of}
use Rattle.walk.specs.declared.plan.Head.{Head}

-- a head with another interval
abbrev pub with_interval : Interval → Head → Head
with_interval interval head = record {
  basis = head.basis;
  parity = head.parity;
  strategy = head.strategy;
  transform = head.transform;
  degree = head.degree;
  base = head.base;
  ct = head.ct;
  pt = head.pt;
  depth = head.depth;
  coefficients = head.coefficients;
  lists = head.lists;
  steps = head.steps;
  interval = interval;
}

-- two heads that differ in these four numbers only
abbrev pub SameButInterval : (head other : Head) → Type 0
SameButInterval head other = with_interval other.interval head ≡ other

-- beside three buffers they are walked alike
pub record WalkedAlike (head other : Head) (coefficients : List ℤ) (bounds steps : List ℕ) : Type 1 where
  -- by the rules of the exact walk and by any others
  pub walk : {A : Type 0} (𝓡 : Rules A) (point : ℤ)
      → lent_walk 𝓡 head coefficients bounds steps point ≡ lent_walk 𝓡 other coefficients bounds steps point
  pub trial : (point : ℤ) (modulus : ℕ) → trial_of head coefficients bounds steps point modulus ≡ trial_of other coefficients bounds steps point modulus
  pub chain : (input coeff : ℕ) → chain_of head coefficients bounds steps input coeff ≡ chain_of other coefficients bounds steps input coeff

abbrev pub IntervalUnread : Type 1
IntervalUnread = (head other : Head) (coefficients : List ℤ) (bounds steps : List ℕ) → SameButInterval head other
    → WalkedAlike head other coefficients bounds steps
