-- Two calls that close equations in a ring 𝓡. ρ lists the terms that stand in for variables, and the functions name them in that order.
-- `ring` closes an identity of rings. Here (a + b)·(a - b) = a·a - b·b:
--   ring 𝓡 (a ∷ b ∷ []) (λ x y. (x :+ y) :* (x :- y) := x :* x :- y :* y) refl
-- `from` closes an equation that others give: left side less right side is the sum of each given one's left side less right side, times its factor.
-- Here a·c = b·d from h : a = b and k : c = d, since a·c - b·d = c·(a - b) + b·(c - d):
--   from 𝓡 (a ∷ b ∷ c ∷ d ∷ []) (λ a b c d. a :* c := b :* d) (λ a b c d. (c, a := b) ∷ (b, c := d) ∷ []) refl (h, (k, tt))
-- The `refl` says that both sides have one normal form (Normal.antt). Where the identity is false, or a factor wrong, the error is at that `refl`:
-- "computed as far as they go, the two types first differ where one has `pos` (expected) and the other has `negsuc` (found)", at a coefficient that differs.
-- Where the functions do not spell out the goal, the error is at the call: "the two types are `Path A ..`", with the goal and what was spelt out.
use mathlib.Core.Path.{◌≡◌, refl, ◌∙◌}
use mathlib.Core.List.{List, [], ◌∷◌}
use Prim.Native.Nat.{ℕ, zero, suc}
use lib.ListN.{length}
use Rattle.algebra.specs.Ring.{Ring}
use Rattle.algebra.proofs.RingLaws as R
use Rattle.algebra.proofs.Normal.{normal, value_exp, equal_of_normal, var}
pub use Rattle.algebra.proofs.Normal.{Exp, num, ◌:+◌, ◌:-◌, ◌:*◌, :-◌}

-- an equation between two expressions
infix 4 ◌:=◌
pub data Equation : Type 0 where
  ◌:=◌ : Exp → Exp → Equation

-- an X that names n expressions
abbrev pub Naming : ℕ → Type 0 → Type 0
Naming zero X = X
Naming (suc n) X = Exp → Naming n X

-- what it is at the variables i, i + 1, ..
abbrev pub named : {X : Type 0} (n i : ℕ) → Naming n X → X
named zero i f = f
named (suc n) i f = named n (suc i) (f (var i))

-- as many names as ρ has terms
abbrev pub at : {X : Type 0} {A : Type 0} (ρ : List A) → Naming (length ρ) X → X
at ρ f = named (length ρ) 0 f

-- both sides have one normal form
abbrev pub Identity : Equation → Type 0
Identity (l := r) = normal l ≡ normal r

-- the sum of each equation's left side less its right side, times its factor
abbrev pub combined : List (Exp × Equation) → Exp
combined [] = num 0
combined (t ∷ ts) = elim t.1 [ l := r ↦ t.0 :* (l :- r) :+ combined ts ]

-- left side less right side is that sum
abbrev pub Follows : Equation → List (Exp × Equation) → Type 0
Follows (l := r) ts = normal (l :- r) ≡ normal (combined ts)

module _ {A : Type 0} (𝓡 : Ring A) where
  open 𝓡 use {ops}
  open ops use {zero as 𝟘, add as ◌⊕◌, sub as ◌⊖◌, mul as ◌⊗◌}

  infixl 6 ◌⊕◌
  infixl 6 ◌⊖◌
  infixl 7 ◌⊗◌
  -- what an equation says of the terms in ρ
  abbrev pub Holds : List A → Equation → Type 0
  Holds ρ (l := r) = value_exp 𝓡 ρ l ≡ value_exp 𝓡 ρ r

  -- what a list of equations says
  abbrev pub AllHold : List A → List (Exp × Equation) → Type 0
  AllHold ρ [] = Unit {0}
  AllHold ρ (t ∷ ts) = Holds ρ t.1 × AllHold ρ ts

  holds : (ρ : List A) (e : Equation) → Identity e → Holds ρ e
  holds ρ (l := r) h = equal_of_normal 𝓡 ρ l r h

  -- an identity of rings
  pub ring : (ρ : List A) (f : Naming (length ρ) Equation) → Identity (at ρ f) → Holds ρ (at ρ f)
  ring ρ f h = holds ρ (at ρ f) h

  factor_zero : (c l r s : A) → l ≡ r → s ≡ 𝟘 → c ⊗ (l ⊖ r) ⊕ s ≡ 𝟘
  factor_zero c l r s p q = simp (p, q, R.sub_self 𝓡, R.mul_zero 𝓡, R.zero-add 𝓡)

  combined_zero : (ρ : List A) (ts : List (Exp × Equation)) → AllHold ρ ts → value_exp 𝓡 ρ (combined ts) ≡ 𝟘
  combined_zero ρ [] h = refl
  combined_zero ρ (t ∷ ts) h = with_first t.1 h.0 (combined_zero ρ ts h.1)
    where
      with_first : (e : Equation) → Holds ρ e → value_exp 𝓡 ρ (combined ts) ≡ 𝟘
          → value_exp 𝓡 ρ (elim e as (λ x. Exp) [ l := r ↦ t.0 :* (l :- r) :+ combined ts ]) ≡ 𝟘
      with_first (l := r) p q = factor_zero (value_exp 𝓡 ρ t.0) (value_exp 𝓡 ρ l) (value_exp 𝓡 ρ r) (value_exp 𝓡 ρ (combined ts)) p q

  follows : (ρ : List A) (e : Equation) (ts : List (Exp × Equation)) → Follows e ts → AllHold ρ ts → Holds ρ e
  follows ρ (l := r) ts s h = R.equal_of_sub 𝓡 (value_exp 𝓡 ρ l) (value_exp 𝓡 ρ r) (equal_of_normal 𝓡 ρ (l :- r) (combined ts) s ∙ combined_zero ρ ts h)

  -- an equation from others
  pub from : (ρ : List A) (f : Naming (length ρ) Equation) (g : Naming (length ρ) (List (Exp × Equation)))
      → Follows (at ρ f) (at ρ g) → AllHold ρ (at ρ g) → Holds ρ (at ρ f)
  from ρ f g s h = follows ρ (at ρ f) (at ρ g) s h
