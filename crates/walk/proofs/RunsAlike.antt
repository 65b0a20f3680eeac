-- Whether a walk has a value: every walk's rules are taken to those over a type of one value, by the only map there is, and the carry law takes the
-- walk along. There the point makes no difference.
use mathlib.Core.Path.{◌≡◌, refl, sym, ◌∙◌, ap}
use mathlib.Core.List.{List}
use Prim.Native.Nat.{ℕ}
use lib.IntN.{ℤ}
use Rattle.number.specs.Options.{missing}
use Rattle.number.proofs.Options.{missing_image}
use Rattle.walk.specs.Rules.{Rules}
use Rattle.walk.specs.Lent.{lent_walk}
use Rattle.walk.specs.CarryLaw.{TakesRules}
use Rattle.walk.specs.RunsAlike.{RunsAlike}
use Rattle.walk.specs.declared.plan.Head.{Head}
use Rattle.walk.proofs.CarryLaw.{carry_law}

-- the rules over the one value
abbrev one_rules : Rules (Unit {0})
one_rules = record {
  point = λ z. tt;
  one = tt;
  product = λ u v. tt;
  product_less = λ u v w. tt;
  nothing = tt;
  place = λ sum c j power. tt;
  combine = λ plain power high low. tt;
  input = λ transform x. tt;
  output = λ transform x v. tt;
}

taken : {A : Type 0} (𝓡 : Rules A) → TakesRules 𝓡 one_rules (λ (v : A). tt)
taken 𝓡 = record {
  point = λ z. refl;
  one = refl;
  product = λ u v. refl;
  product_less = λ u v w. refl;
  nothing = refl;
  place = λ sum c j power. refl;
  combine = λ plain power high low. refl;
  input = λ transform x. refl;
  output = λ transform x v. refl;
}

module _ (head : Head) (coefficients : List ℤ) (bounds steps : List ℕ) where
  any_point : (point other : ℤ) → lent_walk one_rules head coefficients bounds steps point ≡ lent_walk one_rules head coefficients bounds steps other
  unfolding lent_walk
  any_point point other = refl

  -- a walk, and that over the one value
  runs_as_one : {A : Type 0} (𝓡 : Rules A) (point : ℤ)
      → missing (lent_walk one_rules head coefficients bounds steps point) ≡ missing (lent_walk 𝓡 head coefficients bounds steps point)
  runs_as_one {A} 𝓡 point =
      ap missing ((carry_law A (Unit {0}) 𝓡 one_rules (λ (v : A). tt) (taken 𝓡)).walks head coefficients bounds steps point)
      ∙ missing_image (λ (v : A). tt) (lent_walk 𝓡 head coefficients bounds steps point)

pub runs_alike : (A B : Type 0) → RunsAlike A B
runs_alike A B 𝓡 𝓢 head coefficients bounds steps point other =
    sym (runs_as_one head coefficients bounds steps 𝓡 point)
    ∙ ap missing (any_point head coefficients bounds steps point other)
    ∙ runs_as_one head coefficients bounds steps 𝓢 other
