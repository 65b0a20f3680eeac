-- Of a head the walk reads basis, parity, transform and the three counts, and these are the same with another interval.
use mathlib.Core.Path.{◌≡◌, refl, ap, ◌∙◌}
use mathlib.Core.List.{List}
use Prim.Native.Nat.{ℕ}
use lib.IntN.{ℤ}
use Rattle.number.specs.declared.interval.Interval.{Interval}
use Rattle.walk.specs.Rules.{Rules}
use Rattle.walk.specs.Lent.{lent_walk}
use Rattle.walk.specs.Trial.{trial_refusal, trial_of}
use Rattle.walk.specs.Chain.{chain_refusal, chain_of}
use Rattle.walk.specs.IntervalUnread.{with_interval, IntervalUnread}
use Rattle.walk.specs.declared.plan.Head.{Head}

module _ (interval : Interval) (head : Head) (coefficients : List ℤ) (bounds steps : List ℕ) where
  walked : {A : Type 0} (𝓡 : Rules A) (point : ℤ)
      → lent_walk 𝓡 head coefficients bounds steps point ≡ lent_walk 𝓡 (with_interval interval head) coefficients bounds steps point
  unfolding lent_walk
  walked 𝓡 point = refl

  tried : (point : ℤ) (modulus : ℕ) → trial_of head coefficients bounds steps point modulus
      ≡ trial_of (with_interval interval head) coefficients bounds steps point modulus
  unfolding lent_walk trial_refusal trial_of
  tried point modulus = refl

  weighed : (input coeff : ℕ) → chain_of head coefficients bounds steps input coeff
      ≡ chain_of (with_interval interval head) coefficients bounds steps input coeff
  unfolding lent_walk chain_refusal chain_of
  weighed input coeff = refl

pub interval_unread : IntervalUnread
interval_unread head other coefficients bounds steps same = record {
  walk = λ 𝓡 point.
      walked other.interval head coefficients bounds steps 𝓡 point ∙ ap (λ (h : Head). lent_walk 𝓡 h coefficients bounds steps point) same;
  trial = λ point modulus.
      tried other.interval head coefficients bounds steps point modulus
      ∙ ap (λ (h : Head). trial_of h coefficients bounds steps point modulus) same;
  chain = λ input coeff.
      weighed other.interval head coefficients bounds steps input coeff ∙ ap (λ (h : Head). chain_of h coefficients bounds steps input coeff) same;
}
