-- A map may be made before or after: taking a first part, a last part or every second element, reversing a list, and writing to it.
use mathlib.Core.Path.{◌≡◌, refl, sym, ap, ◌∙◌}
use mathlib.Core.List.{List, [], ◌∷◌, ◌++◌, map, map-append, reverse, reverse-cons}
use Prim.Native.Nat.{ℕ, zero, suc}
use lib.ListN.{take, drop, set}
use lib.Seq.{sets}
use Rattle.algebra.specs.Fold.{every_second}

module _ {A B : Type 0} (f : A → B) where
  pub map_take : (n : ℕ) (c : List A) → take n (map f c) ≡ map f (take n c)
  map_take zero c = refl
  map_take (suc n) [] = refl
  map_take (suc n) (a ∷ c) = ap (f a ∷◌) (map_take n c)

  pub map_drop : (n : ℕ) (c : List A) → drop n (map f c) ≡ map f (drop n c)
  map_drop zero c = refl
  map_drop (suc n) [] = refl
  map_drop (suc n) (a ∷ c) = map_drop n c

  pub map_reverse : (c : List A) → reverse (map f c) ≡ map f (reverse c)
  map_reverse [] = refl
  map_reverse (a ∷ c) =
      rw (reverse-cons (f a), reverse-cons a) (ap (◌++ (f a ∷ [])) (map_reverse c) ∙ sym (map-append f (reverse c) (a ∷ [])))

  pub map_every_second : (c : List A) → every_second (map f c) ≡ map f (every_second c)
  unfolding every_second
  map_every_second [] = refl
  map_every_second (a ∷ []) = refl
  map_every_second (a ∷ b ∷ c) = ap (f a ∷◌) (map_every_second c)

  pub map_set : (c : List A) (i : ℕ) (v : A) → set (map f c) i (f v) ≡ map f (set c i v)
  map_set [] i v = refl
  map_set (a ∷ c) zero v = refl
  map_set (a ∷ c) (suc i) v = ap (f a ∷◌) (map_set c i v)

  pub map_sets : (vs c : List A) (i : ℕ) → sets (map f c) i (map f vs) ≡ map f (sets c i vs)
  map_sets [] c i = refl
  map_sets (v ∷ vs) c i = ap (λ (l : List B). sets l (suc i) (map f vs)) (map_set c i v) ∙ map_sets vs (set c i v) (suc i)
