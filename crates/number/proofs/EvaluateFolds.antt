-- Horner's and Clenshaw's rules as folds: a rule that takes the first coefficient last is a fold over the coefficients from the last to the first.
use mathlib.Core.Path.{◌≡◌, refl, ap, ◌∙◌}
use mathlib.Core.List.{List, [], ◌∷◌, reverse, reverse-cons}
use Prim.Native.Nat.{◌<◌, ◌≤◌}
use native.Mathlib.Omega.{arith}
use lib.ListN.{length, get_or, drop}
use Rattle.std.proofs.lemmas.List.Sums.{fold-append}
use Rattle.std.specs.List.{fold}
use Rattle.algebra.specs.Operations.{Operations, double}
use Rattle.number.specs.Evaluate.{horner, clenshaw_pair, last_term, clenshaw}

-- the values of a rule g on a list, where g takes the first item last, by f
fold_reversed : {A B : Type 0} (f : B → A → B) (g : List A → B) → ((x : A) (xs : List A) → g (x ∷ xs) ≡ f (g xs) x)
    → (xs : List A) → fold f (g []) (reverse xs) ≡ g xs
fold_reversed f g step [] = refl
fold_reversed f g step (x ∷ xs) =
    rw (reverse-cons x, fold-append) (ap (λ y. f y x) (fold_reversed f g step xs) ∙ rw (step x xs))

module _ {A : Type 0} (𝓞 : Operations A) (x : A) where
  pub horner_folds : (c : List A) → fold (λ (y k : A). 𝓞.add (𝓞.mul y x) k) 𝓞.zero (reverse c) ≡ horner 𝓞 x c
  unfolding horner
  horner_folds c = fold_reversed (λ y k. 𝓞.add (𝓞.mul y x) k) (horner 𝓞 x) (λ k ks. refl) c

  -- Clenshaw's pair as the code has it
  abbrev pub pair_of : List A → A × A
  pair_of c = (let p = clenshaw_pair 𝓞 x c in (p.b1, p.b2))

  abbrev pub next_pair : (twice_x : A) → A × A → A → A × A
  next_pair twice_x p k = (𝓞.add (𝓞.sub (𝓞.mul twice_x p.0) p.1) k, p.0)

  pub pair_folds : (c : List A) → fold (next_pair (double 𝓞 x)) (𝓞.zero, 𝓞.zero) (reverse c) ≡ pair_of c
  unfolding clenshaw_pair
  pair_folds c = fold_reversed (next_pair (double 𝓞 x)) pair_of (λ k ks. refl) c

  -- the cases of Clenshaw's rule: no coefficient, one, and more
  pub clenshaw_none : (c : List A) → length c < 1 → clenshaw 𝓞 x c ≡ 𝓞.zero
  unfolding clenshaw
  clenshaw_none [] none = refl
  clenshaw_none (a ∷ c) none = absurd (omega arith)

  pub clenshaw_one : (d : A) (c : List A) → 1 ≤ length c → length c < 2 → clenshaw 𝓞 x c ≡ get_or c 0 d
  unfolding clenshaw
  clenshaw_one d [] some one = absurd (omega arith)
  clenshaw_one d (a ∷ []) some one = refl
  clenshaw_one d (a ∷ b ∷ c) some one = absurd (omega arith)

  pub clenshaw_more : (d : A) (c : List A) → 1 < length c → clenshaw 𝓞 x c ≡ last_term 𝓞 x (get_or c 0 d) (clenshaw_pair 𝓞 x (drop 1 c))
  unfolding clenshaw
  clenshaw_more d [] more = absurd (omega arith)
  clenshaw_more d (a ∷ []) more = absurd (omega arith)
  clenshaw_more d (a ∷ b ∷ c) more = refl
